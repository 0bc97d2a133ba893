-- What is found of a cell is what is known of it.
use Rattle.std.proofs.Common.{◌≡◌, ℕ, zero, suc, ◌≤◌, true, false, List, [], ◌∷◌, length, refl, sym, ap, ◌∙◌, arith}
use Rattle.std.proofs.lemmas.Map.Steps.{length-le_from_distinct_below}
use Rattle.base_core.specs.declared.value.Value.{Value}
use Rattle.schema_core.specs.declared.changes.RowCell.{RowCell}
use Rattle.schema_core.specs.declared.changes.RowCell.TheVariants.{Given, KeyOf}
use Rattle.schema_core.specs.declared.changes.RowChanges.{RowChanges}
use Rattle.schema_core.specs.Catalog.{Catalog}
use Rattle.schema_core.specs.Tables.{is_null}
use Rattle.flush_order.specs.Cells.{known_value, part_at}
use Rattle.session_laws.specs.KnownCells.{FoundValuesAreKnown, IsKnownThrough, KnownValuesAreFound}

module _ (schema : Catalog) (changes : RowChanges) (value : Value) where
  known_of : (n : ℕ) (cell : RowCell) → is_null value ≡ false → known_value schema changes n cell ≡ value → (places : List ℕ) × IsKnownThrough schema changes places cell value
  known_of n (Given v) some is = ([], ap Given is)
  known_of zero (KeyOf place part) some is = absurd (let never : true ≡ false = ap is_null is ∙ some in cc)
  known_of (suc n) (KeyOf place part) some is = let rest = known_of n (part_at schema changes place part) some is in (place ∷ rest.0, (part, refl, rest.1))

  found_in : (n : ℕ) (places : List ℕ) (cell : RowCell) → length places ≤ n → IsKnownThrough schema changes places cell value → known_value schema changes n cell ≡ value
  found_in n [] cell few known = ap (known_value schema changes n) known
  found_in zero (place ∷ places) cell few known = absurd (omega (arith, few))
  found_in (suc n) (place ∷ places) cell few known = ap (known_value schema changes (suc n)) known.1 ∙ found_in n places (part_at schema changes place known.0) (omega (arith, few)) known.2

pub found_known : FoundValuesAreKnown
found_known schema changes cell value some is = known_of schema changes value (length changes.fresh) cell some is

pub known_found : KnownValuesAreFound
known_found schema changes places cell value once new known = found_in schema changes value (length changes.fresh) places cell (length-le_from_distinct_below places (length changes.fresh) once new) known
