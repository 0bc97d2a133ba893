-- The cells of new rows that are known before a key is drawn.
use Rattle.std.specs.Prelude.{◌≡◌, ℕ, ◌<◌, true, false, List, [], ◌∷◌, length, eqb}
use Rattle.std.specs.List.{IsDistinct, list_any}
use Rattle.base_core.specs.declared.value.Value.{Value}
use Rattle.schema_core.specs.declared.changes.RowCell.{RowCell}
use Rattle.schema_core.specs.declared.changes.RowCell.TheVariants.{Given, KeyOf}
use Rattle.schema_core.specs.declared.changes.RowChanges.{RowChanges}
use Rattle.schema_core.specs.Catalog.{Catalog}
use Rattle.schema_core.specs.Tables.{is_null}
use Rattle.flush_order.specs.Cells.{known_value, part_at}

-- A cell is known as a value where it is that value, or comes through the keys of new rows, at these places one after another, from a cell
-- that is.
abbrev pub IsKnownThrough : Catalog → RowChanges → List ℕ → RowCell → Value → Type 0
IsKnownThrough schema changes [] cell value = cell ≡ Given value
IsKnownThrough schema changes (place ∷ places) cell value = (part : ℕ) × (cell ≡ KeyOf place part) × IsKnownThrough schema changes places (part_at schema changes place part) value

-- what is found of a cell, going back over as many rows as are new
abbrev pub found_value : Catalog → RowChanges → RowCell → Value
found_value schema changes cell = known_value schema changes (length changes.fresh) cell

-- A value that is found is known.
abbrev pub FoundValuesAreKnown : Type 0
FoundValuesAreKnown =
    (schema : Catalog) (changes : RowChanges) (cell : RowCell) (value : Value) → is_null value ≡ false → found_value schema changes cell ≡ value
    → (places : List ℕ) × IsKnownThrough schema changes places cell value

-- One that is known is found, where it comes through new rows and through none of them twice.
abbrev pub KnownValuesAreFound : Type 0
KnownValuesAreFound =
    (schema : Catalog) (changes : RowChanges) (places : List ℕ) (cell : RowCell) (value : Value) → IsDistinct eqb places → ((place : ℕ) → list_any (eqb place) places ≡ true → place < length changes.fresh)
    → IsKnownThrough schema changes places cell value → found_value schema changes cell ≡ value
