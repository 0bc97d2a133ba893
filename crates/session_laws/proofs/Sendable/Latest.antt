-- What is written once all rows stand fits, of new rows and of old ones.
use Rattle.std.proofs.Common.{◌≡◌, ℕ, suc, ◌+◌, ◌<◌, Bool, true, false, cond, not, ◌&&◌, List, [], ◌∷◌, ◌++◌, length, map, get_or, refl, sym, ap, ◌∙◌, subst, zero-add, arith}
use Rattle.std.specs.Prelude.{nat_eq}
use Rattle.std.specs.Cmp.Lexicographic.{as_long, pointwise}
use Rattle.std.specs.List.{AllByRecursion, filter, range_with_len}
use Rattle.std.proofs.lemmas.Bool.{and_parts}
use Rattle.std.proofs.lemmas.Bool.Decides.{nat_tests}
use Rattle.base_core.specs.declared.ids.ColumnNo.{ColumnNo}
use Rattle.base_core.specs.declared.ids.TableId.{TableId}
use Rattle.base_core.specs.declared.value.Value.{Value}
use Rattle.base_core.specs.declared.value.Value.TheVariants.{Null}
use Rattle.schema_core.specs.declared.changes.GoneRow.{GoneRow}
use Rattle.schema_core.specs.declared.changes.Planned.TheVariants.{Update}
use Rattle.schema_core.specs.declared.changes.RowCell.{RowCell}
use Rattle.schema_core.specs.declared.changes.RowCell.TheVariants.{Given, KeyOf}
use Rattle.schema_core.specs.declared.changes.RowChanges.{RowChanges}
use Rattle.schema_core.specs.declared.table.ColumnSpec.{ColumnSpec}
use Rattle.schema_core.specs.declared.table.TableSpec.{TableSpec}
use Rattle.schema_core.specs.Catalog.{Catalog, key_columns, spec_of}
use Rattle.schema_core.specs.Tables.{fits}
use Rattle.schema_core.specs.WellFormed.{is_key}
use Rattle.flush_order.specs.Cells.{first_cells, is_late, key_parts, new_at, no_row, table_at}
use Rattle.flush_order.specs.Sorted.{sorted_numbers}
use Rattle.flush_plan.specs.Flushing.{Keys, key_of_new, value_of_cell}
use Rattle.flush_plan.specs.Planning.{is_of, key_at, late_in, late_new, late_old, late_updates, late_updates_of, late_writings, no_writing}
use Rattle.flush_writes.specs.Writes.{Writing, cells_from_number, cells_when, late_gone, update_of, writes_some, writing_some}
use Rattle.flush_writes.specs.Runs.{is_nothing}
use Rattle.session_laws.proofs.Plans.Items.{all_at, all_filter, all_flat, all_map_of, all_members, length_mapped}
use Rattle.session_laws.proofs.Plans.Numbers.{numbers_within}
use Rattle.session_laws.proofs.Graphs.LinkKinds.{parts_long}
use Rattle.session_laws.specs.Sendable.{HasFitRows, IsFitChanged, IsFitGone, IsFitNew, are_fit, cell_fits}
use Rattle.session_laws.proofs.Sendable.Parts.{IsKnown}
use Rattle.session_laws.proofs.Sendable.Writing.{IsFitWriting, IsLate, each, from_next, half_fits, no_place, update_late, with_first, writing_sends}

module _ (schema : Catalog) (changes : RowChanges) where
  -- ---- the cells in late columns

  at_itself : (place : ℕ) → nat_eq place place ≡ true
  at_itself place = grind (arith, nat_tests)

  not_key : (b : Bool) → b ≡ false → not b ≡ true
  not_key b is = ap not is

  abbrev AreFree : (ColumnSpec → Bool) → List ColumnSpec → Type 0
  AreFree test columns = AllByRecursion (λ (column : ColumnSpec). test column ≡ true → column.key ≡ false) columns

  one_fits : (b : Bool) (place : ℕ) (column : ColumnSpec) (columns : List ColumnSpec) (cell : RowCell) (cells : List (ColumnNo × RowCell)) → (b ≡ true → column.key ≡ false) → cell_fits schema changes column cell ≡ true → are_fit schema changes (suc place) columns cells ≡ true
      → are_fit schema changes place (column ∷ columns) (cond b ((record { 0 = place }, cell) ∷ cells) cells) ≡ true
  one_fits true place column columns cell cells free fits rest =
      with_first schema changes place column columns (record { 0 = place }, cell) cells cells (record { at = at_itself place; free = not_key column.key (free refl); fits = fits; rest = rest }) rest
  one_fits false place column columns cell cells free fits rest = from_next schema changes place column columns cells rest

  both_hold : (a b : Bool) → (a && b) ≡ true → a ≡ true
  both_hold true b h = refl
  both_hold false b h = cc

  numbered_fit : (test : ColumnSpec → Bool) (place : ℕ) (columns : List ColumnSpec) (cells : List RowCell) → AreFree test columns → pointwise (cell_fits schema changes) columns cells ≡ true → are_fit schema changes place columns (cells_from_number test place columns cells) ≡ true
  numbered_fit test place [] [] free fits = refl
  numbered_fit test place [] (cell ∷ cells) free fits = absurd cc
  numbered_fit test place (column ∷ columns) [] free fits = absurd cc
  numbered_fit test place (column ∷ columns) (cell ∷ cells) free fits =
      let both = and_parts (cell_fits schema changes column cell) (pointwise (cell_fits schema changes) columns cells) fits in
      one_fits (test column && not (is_nothing cell)) place column columns cell (cells_from_number test (suc place) columns cells) (λ h. free.0 (both_hold (test column) (not (is_nothing cell)) h)) both.0 (numbered_fit test (suc place) columns cells free.1 both.1)

  abbrev cleared : List (ColumnNo × RowCell) → List (ColumnNo × RowCell)
  cleared cells = map (λ cell. (cell.0, Given Null)) cells

  one_cleared : (b : Bool) (place : ℕ) (column : ColumnSpec) (columns : List ColumnSpec) (cell : RowCell) (cells : List (ColumnNo × RowCell)) → (b ≡ true → column.key ≡ false) → are_fit schema changes (suc place) columns (cleared cells) ≡ true
      → are_fit schema changes place (column ∷ columns) (cleared (cond b ((record { 0 = place }, cell) ∷ cells) cells)) ≡ true
  one_cleared true place column columns cell cells free rest =
      with_first schema changes place column columns (record { 0 = place }, Given Null) (cleared cells) (cleared cells) (record { at = at_itself place; free = not_key column.key (free refl); fits = refl; rest = rest }) rest
  one_cleared false place column columns cell cells free rest = from_next schema changes place column columns (cleared cells) rest

  cleared_fit : (test : ColumnSpec → Bool) (place : ℕ) (columns : List ColumnSpec) (cells : List RowCell) → AreFree test columns → are_fit schema changes place columns (cleared (cells_from_number test place columns cells)) ≡ true
  cleared_fit test place [] cells free = refl
  cleared_fit test place (column ∷ columns) [] free = refl
  cleared_fit test place (column ∷ columns) (cell ∷ cells) free =
      one_cleared (test column && not (is_nothing cell)) place column columns cell (cells_from_number test (suc place) columns cells) (λ h. free.0 (both_hold (test column) (not (is_nothing cell)) h)) (cleared_fit test (suc place) columns cells free.1)

  -- ---- the key of a new row

  one_after : (n i : ℕ) → n + 1 + i ≡ n + suc i
  one_after n i = omega arith

  parts_read : (keys : Keys) (place n : ℕ) (key : List Value) → ((i : ℕ) → i < length key → value_of_cell keys (KeyOf place (n + i)) ≡ get_or key i Null) → map (value_of_cell keys) (map (KeyOf place) (range_with_len n (length key))) ≡ key
  parts_read keys place n [] each = refl
  parts_read keys place n (value ∷ key) each =
      λ i. (ap (λ (k : ℕ). value_of_cell keys (KeyOf place k)) (let e : n ≡ n + 0 = omega arith in e) ∙ each 0 (omega arith)) i
      ∷ parts_read keys place (n + 1) key (λ k less. ap (λ (j : ℕ). value_of_cell keys (KeyOf place j)) (one_after n k) ∙ each (suc k) (omega (arith, less))) i

module _ (schema : Catalog) (changes : RowChanges) (fit : HasFitRows schema changes) where
  -- the key of a new row, once it is known
  key_read : (keys : Keys) (place : ℕ) → place < length changes.fresh → IsKnown schema changes keys place → map (value_of_cell keys) (key_at schema changes place) ≡ key_of_new keys place
  key_read keys place less known =
      let spec : TableSpec = spec_of schema (table_at changes place) in
      let whole : length (new_at changes place).cells ≡ length spec.columns = sym (as_long (cell_fits schema changes) spec.columns (new_at changes place).cells (all_at (IsFitNew schema changes) changes.fresh place no_row fit.fresh less).1) in
      let parts : length (key_parts spec.columns (first_cells schema changes place)) ≡ length (key_columns spec) = parts_long (is_late schema changes (table_at changes place)) spec.columns (new_at changes place).cells whole in
      let long : length (key_columns spec) ≡ length (key_of_new keys place) = as_long fits (key_columns spec) (key_of_new keys place) known in
      ap (λ (n : ℕ). map (value_of_cell keys) (map (KeyOf place) (range_with_len 0 n))) (parts ∙ long)
      ∙ parts_read schema changes keys place 0 (key_of_new keys place) (λ i less. ap (λ (k : ℕ). get_or (key_of_new keys place) k Null) (zero-add i))

  -- ---- new rows

  same_table : (one other : TableId) → nat_eq other.0 one.0 ≡ true → other ≡ one
  same_table one other h = let same : other.0 ≡ one.0 = grind (arith, nat_tests) in ap (λ (n : ℕ). let table : TableId = record { 0 = n } in table) same

  new_late : (table : TableId) (place : ℕ) → place < length changes.fresh → (is_of table (table_at changes place) && writes_some (late_new schema changes place)) ≡ true → IsLate schema changes fit (Update table (key_at schema changes place) (late_new schema changes place))
  new_late table place less passes =
      let both = and_parts (is_of table (table_at changes place)) (writes_some (late_new schema changes place)) passes in
      let row = all_at (IsFitNew schema changes) changes.fresh place no_row fit.fresh less in
      subst (λ (t : TableId). IsLate schema changes fit (Update t (key_at schema changes place) (late_new schema changes place))) (same_table table (table_at changes place) both.0)
      (record {
        sends = λ keys all.
            writing_sends schema changes fit keys (table_at changes place) (key_at schema changes place) (late_new schema changes place) all row.0
            (ap (is_key (spec_of schema (table_at changes place))) (key_read keys place less (all place less)) ∙ all place less)
            (numbered_fit schema changes (is_late schema changes (table_at changes place)) 0 (spec_of schema (table_at changes place)).columns (new_at changes place).cells (fit.late (table_at changes place)) row.1) both.1;
        tells = λ keys answered. refl;
      })

  -- ---- old rows

  gone_late : (row : GoneRow) → IsFitGone schema row → IsFitWriting schema changes fit (late_gone schema changes row)
  gone_late row is = (is.0, is.1, cleared_fit schema changes (is_late schema changes row.name.table) 0 (spec_of schema row.name.table).columns (map Given row.base) (fit.late row.name.table))

  pub joined : {A : Type 0} (P : A → Type 0) (xs ys : List A) → AllByRecursion P xs → AllByRecursion P ys → AllByRecursion P (xs ++ ys)
  joined P [] ys all more = more
  joined P (x ∷ xs) ys all more = (all.0, joined P xs ys all.1 more)

  abbrev IsFine : Writing → Type 0
  IsFine row = IsFitWriting schema changes fit row × (writing_some row ≡ true)

  both_given : (P : Writing → Type 0) (rows : List Writing) → AllByRecursion P rows → AllByRecursion (λ (row : Writing). writing_some row ≡ true → P row × (writing_some row ≡ true)) rows
  both_given P [] all = tt
  both_given P (row ∷ rows) all = ((λ some. (all.0, some)), both_given P rows all.1)

  writings_fine : AllByRecursion IsFine (late_writings schema changes)
  writings_fine =
      all_filter IsFine writing_some (map (cells_when schema changes true) changes.changed ++ map (late_gone schema changes) changes.gone)
      (both_given (IsFitWriting schema changes fit) (map (cells_when schema changes true) changes.changed ++ map (late_gone schema changes) changes.gone)
      (joined (IsFitWriting schema changes fit) (map (cells_when schema changes true) changes.changed) (map (late_gone schema changes) changes.gone)
      (all_map_of (IsFitWriting schema changes fit) (cells_when schema changes true) changes.changed
      (each schema changes fit (IsFitChanged schema changes) (λ row. IsFitWriting schema changes fit (cells_when schema changes true row)) changes.changed (half_fits schema changes fit true) fit.changed))
      (all_map_of (IsFitWriting schema changes fit) (late_gone schema changes) changes.gone
      (each schema changes fit (IsFitGone schema) (λ row. IsFitWriting schema changes fit (late_gone schema changes row)) changes.gone gone_late fit.gone))))

  old_fine : AllByRecursion IsFine (late_old schema changes)
  old_fine =
      let writings : List Writing = late_writings schema changes in
      let numbers : List ℕ = sorted_numbers (map (λ (row : Writing). row.0) writings) in
      all_map_of IsFine (λ number. get_or writings number no_writing) numbers
      (all_members (λ number. IsFine (get_or writings number no_writing)) numbers
      (λ number among. all_at IsFine writings number no_writing writings_fine
      (subst (λ (n : ℕ). number < n) (length_mapped (λ (row : Writing). row.0) writings) (numbers_within (map (λ (row : Writing). row.0) writings) (no_place schema changes fit) number among))))

  -- ---- all of them

  pub all_late : (order : List ℕ) → AllByRecursion (λ place. place < length changes.fresh) order → AllByRecursion (IsLate schema changes fit) (late_updates schema changes order)
  all_late order within =
      all_flat (IsLate schema changes fit) (late_in schema changes order) _ (λ table.
      joined (IsLate schema changes fit) (late_updates_of schema changes table order) (map update_of (filter (λ row. is_of table row.0.0) (late_old schema changes)))
      (all_map_of (IsLate schema changes fit) (λ place. Update table (key_at schema changes place) (late_new schema changes place)) (filter (λ place. is_of table (table_at changes place) && writes_some (late_new schema changes place)) order)
      (all_filter (λ place. IsLate schema changes fit (Update table (key_at schema changes place) (late_new schema changes place))) (λ place. is_of table (table_at changes place) && writes_some (late_new schema changes place)) order
      (each schema changes fit (λ place. place < length changes.fresh) (λ place. (is_of table (table_at changes place) && writes_some (late_new schema changes place)) ≡ true → IsLate schema changes fit (Update table (key_at schema changes place) (late_new schema changes place))) order
      (λ place less passes. new_late table place less passes) within)))
      (all_map_of (IsLate schema changes fit) update_of (filter (λ row. is_of table row.0.0) (late_old schema changes))
      (all_filter (λ (row : Writing). IsLate schema changes fit (update_of row)) (λ row. is_of table row.0.0) (late_old schema changes)
      (each schema changes fit IsFine (λ (row : Writing). is_of table row.0.0 ≡ true → IsLate schema changes fit (update_of row)) (late_old schema changes) (λ row fine passes. update_late schema changes fit row fine.0 fine.1) old_fine))))
