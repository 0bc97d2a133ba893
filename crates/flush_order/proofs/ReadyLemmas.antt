-- New rows that are made ready.
use Rattle.std.proofs.Common.{◌≡◌, ℕ, suc, ◌+◌, ◌-◌, ◌<◌, ◌≤◌, Bool, List, [], ◌∷◌, length, get_or, Some, refl, sym, ap, ◌∙◌, arith}
use Rattle.std.proofs.lemmas.Option.{get_or_from_slice_get}
use Rattle.std.specs.Prelude.{slice_index_or}
use Rattle.std.specs.List.{slice_get}
use Rattle.base_core.proofs.Lists.{get_beyond}
use Rattle.base_core.specs.declared.value.Value.TheVariants.{Null}
use Rattle.schema_core.specs.declared.changes.NewRow.{NewRow}
use Rattle.schema_core.specs.declared.changes.RowCell.{RowCell}
use Rattle.schema_core.specs.declared.changes.RowCell.TheVariants.{Given, KeyOf}
use Rattle.schema_core.specs.declared.changes.RowChanges.{RowChanges}
use Rattle.schema_core.specs.declared.table.ColumnSpec.{ColumnSpec}
use Rattle.schema_core.specs.Catalog.{Catalog, spec_of}
use Rattle.flush_order.specs.declared.refers.ReadyRow.{ReadyRow}
use Rattle.flush_order.specs.Cells.{cells_cleared, first_cells, is_late, key_parts, known_value, no_row, part_at}
use Rattle.flush_order.specs.Ready.{AreFirst, AreReady, ready_row}

pub ready_at : (schema : Catalog) (changes : RowChanges) (rows : List ReadyRow) (place : ℕ) (d : ReadyRow) → AreReady schema changes rows → place < length rows → get_or rows place d ≡ ready_row schema changes place
ready_at schema changes rows place d ready h = get_or_from_slice_get rows place (ready_row schema changes place) d (ready.each place h)

pub new_is : (changes : RowChanges) (place : ℕ) (row : NewRow) → slice_get changes.fresh place ≡ Some row → get_or changes.fresh place no_row ≡ row
new_is changes place row e = get_or_from_slice_get changes.fresh place row no_row e

pub known_none : (schema : Catalog) (changes : RowChanges) (n i place part : ℕ) → i < n → part_at schema changes place part ≡ Given Null → known_value schema changes (n - i) (KeyOf place part) ≡ Null
known_none schema changes n i place part h none =
    let e : n - i ≡ suc (n - (i + 1)) = omega arith in
    ap (λ k. known_value schema changes k (KeyOf place part)) e ∙ ap (known_value schema changes (n - (i + 1))) none

pub known_step : (schema : Catalog) (changes : RowChanges) (n i place part : ℕ) → i < n → known_value schema changes (n - (i + 1)) (part_at schema changes place part) ≡ known_value schema changes (n - i) (KeyOf place part)
known_step schema changes n i place part h =
    let e : suc (n - (i + 1)) ≡ n - i = omega arith in
    ap (λ k. known_value schema changes k (KeyOf place part)) e

pub known_end : (schema : Catalog) (changes : RowChanges) (n i place part : ℕ) → n ≤ i → known_value schema changes (n - i) (KeyOf place part) ≡ Null
known_end schema changes n i place part h =
    let e : n - i ≡ 0 = omega arith in
    ap (λ k. known_value schema changes k (KeyOf place part)) e

pub ruleset known_steps = (known_none, known_step, known_end)

pub cleared_none : {A : Type 0} (test : ColumnSpec → Bool) (none : A) (cs : List ColumnSpec) → cells_cleared test none cs [] ≡ []
cleared_none test none [] = refl
cleared_none test none (c ∷ cs) = refl

pub parts_none : (cs : List ColumnSpec) → key_parts {A = RowCell} cs [] ≡ []
parts_none [] = refl
parts_none (c ∷ cs) = refl

pub part_past : (schema : Catalog) (changes : RowChanges) (place part : ℕ) → length changes.fresh ≤ place → Given Null ≡ part_at schema changes place part
part_past schema changes place part h =
    let table = no_row.name.table in
    sym (ap (λ (r : NewRow). slice_index_or (key_parts (spec_of schema r.name.table).columns (cells_cleared (is_late schema changes r.name.table) (Given Null) (spec_of schema r.name.table).columns r.cells)) part (Given Null)) (get_beyond changes.fresh place no_row h)
    ∙ ap (λ cells. slice_index_or (key_parts (spec_of schema table).columns cells) part (Given Null)) (cleared_none (is_late schema changes table) (Given Null) (spec_of schema table).columns)
    ∙ ap (λ cells. slice_index_or cells part (Given Null)) (parts_none (spec_of schema table).columns))

pub part_here : (schema : Catalog) (changes : RowChanges) (firsts : List (List RowCell)) (place part : ℕ) (row : NewRow) (d : List RowCell) → AreFirst schema changes firsts → place < length firsts → slice_get changes.fresh place ≡ Some row → slice_index_or (key_parts (spec_of schema row.name.table).columns (get_or firsts place d)) part (Given Null) ≡ part_at schema changes place part
part_here schema changes firsts place part row d first h e =
    (λ i. slice_index_or (key_parts (spec_of schema (sym (new_is changes place row e) i).name.table).columns (get_or_from_slice_get firsts place (first_cells schema changes place) d (first.each place h) i)) part (Given Null))

pub ruleset part_steps = (part_past, part_here)

pub first_at : (schema : Catalog) (changes : RowChanges) (firsts : List (List RowCell)) (place : ℕ) (d : List RowCell) → AreFirst schema changes firsts → place < length changes.fresh → get_or firsts place d ≡ first_cells schema changes place
first_at schema changes firsts place d first h = get_or_from_slice_get firsts place (first_cells schema changes place) d (first.each place (omega (arith, first.size)))
