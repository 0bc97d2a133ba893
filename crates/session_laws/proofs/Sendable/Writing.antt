-- Each row that is changed or deleted is an UPDATE or a DELETE that can be sent.
use Rattle.std.proofs.Common.{◌≡◌, ◌⊎◌, inl, inr, ℕ, ◌<◌, ◌≤◌, suc, Bool, true, false, cond, not, ◌&&◌, List, [], ◌∷◌, length, map, get_or, ⊎_elim, refl, ap, ◌∙◌, subst, arith}
use Rattle.std.specs.Prelude.{nat_eq, nat_lt}
use Rattle.std.specs.List.{AllByRecursion, filter}
use Rattle.std.proofs.lemmas.Bool.{and_from, and_parts, or_left, or_right}
use Rattle.std.proofs.lemmas.Bool.Decides.{nat_tests}
use Rattle.base_core.specs.declared.ids.ColumnNo.{ColumnNo}
use Rattle.base_core.specs.declared.ids.TableId.{TableId}
use Rattle.base_core.specs.declared.value.Value.{Value}
use Rattle.schema_core.specs.declared.changes.ChangedRow.{ChangedRow}
use Rattle.schema_core.specs.declared.changes.GoneRow.{GoneRow}
use Rattle.schema_core.specs.declared.changes.Planned.{Planned}
use Rattle.schema_core.specs.declared.changes.RowCell.{RowCell}
use Rattle.schema_core.specs.declared.changes.RowCell.TheVariants.{Given}
use Rattle.schema_core.specs.declared.changes.RowChanges.{RowChanges}
use Rattle.schema_core.specs.declared.table.ColumnSpec.{ColumnSpec}
use Rattle.schema_core.specs.declared.table.TableSpec.{TableSpec}
use Rattle.schema_core.specs.Catalog.{Catalog, IsTable, spec_of}
use Rattle.schema_core.specs.WellFormed.{are_cells, is_key, may_hold}
use Rattle.schema_core.specs.WellFormedTest.{is_update_of}
use Rattle.flush_order.specs.Orders.{gone_at, gone_rows, no_gone, place_of_gone}
use Rattle.flush_order.specs.Refers.{gone_key}
use Rattle.flush_order.specs.Sorted.{Place, sorted_numbers}
use Rattle.schema_core.specs.declared.changes.Planned.TheVariants.{Update}
use Rattle.flush_plan.specs.Flushing.{Keys, keys_then, value_of_cell}
use Rattle.flush_writes.specs.Writes.{Writing, cells_when, changed_rows, is_written_when, no_changed, place_of_changed, remove_of, removes, update_of, updates, writes_some, writing_some}
use Rattle.plan_statements.specs.Known.{is_sendable}
use Rattle.session_laws.proofs.Plans.Facts.{or_cases}
use Rattle.session_laws.proofs.Plans.Items.{all_at, all_filter, all_map_of, all_members, length_mapped}
use Rattle.session_laws.proofs.Plans.Numbers.{numbers_within}
use Rattle.session_laws.specs.Sendable.{HasFitRows, IsFitChanged, IsFitGone, are_fit, cell_fits}
use Rattle.session_laws.proofs.Sendable.Parts.{AreKnown, cell_put, ready_all}

abbrev sent_of : Keys → List (ColumnNo × RowCell) → List (ColumnNo × Value)
sent_of keys cells = map (λ cell. (cell.0, value_of_cell keys cell.1)) cells

-- ---- cells

module _ (schema : Catalog) (changes : RowChanges) where
  module _ (place : ℕ) (column : ColumnSpec) (columns : List ColumnSpec) (cell : ColumnNo × RowCell) (cells : List (ColumnNo × RowCell)) where
    -- the first cell is of a later column, or of this one
    abbrev pub IsLater : Type 0
    IsLater = (place < cell.0.0) × (are_fit schema changes (suc place) columns (cell ∷ cells) ≡ true)

    pub record IsHere : Type 0 where
      pub at : nat_eq place cell.0.0 ≡ true
      pub free : not column.key ≡ true
      pub fits : cell_fits schema changes column cell.1 ≡ true
      pub rest : are_fit schema changes (suc place) columns cells ≡ true

    below : nat_lt place cell.0.0 ≡ true → place < cell.0.0
    below h = grind (arith, nat_tests)

    pub first_cell : are_fit schema changes place (column ∷ columns) (cell ∷ cells) ≡ true → IsLater ⊎ IsHere
    first_cell fit =
        let later : Bool = nat_lt place cell.0.0 && are_fit schema changes (suc place) columns (cell ∷ cells) in
        let at : Bool = nat_eq place cell.0.0 in
        let here : Bool = at && not column.key && cell_fits schema changes column cell.1 && are_fit schema changes (suc place) columns cells in
        ⊎_elim
        (λ (is : later ≡ true). let parts = and_parts (nat_lt place cell.0.0) (are_fit schema changes (suc place) columns (cell ∷ cells)) is in inl (below parts.0, parts.1))
        (λ (is : here ≡ true).
        let last = and_parts (at && not column.key && cell_fits schema changes column cell.1) (are_fit schema changes (suc place) columns cells) is in
        let third = and_parts (at && not column.key) (cell_fits schema changes column cell.1) last.0 in
        let first = and_parts at (not column.key) third.0 in
        inr (record { at = first.0; free = first.1; fits = third.1; rest = last.1 }))
        (or_cases later here fit)

  -- the first cell is of a column from the place on
  at_least : (place : ℕ) (columns : List ColumnSpec) (cell : ColumnNo × RowCell) (cells : List (ColumnNo × RowCell)) → are_fit schema changes place columns (cell ∷ cells) ≡ true → place ≤ cell.0.0
  at_least place [] cell cells fit = absurd cc
  at_least place (column ∷ columns) cell cells fit =
      ⊎_elim (λ (is : IsLater place column columns cell cells). omega (arith, is.0)) (λ (is : IsHere place column columns cell cells). here is) (first_cell place column columns cell cells fit)
    where
      here : IsHere place column columns cell cells → place ≤ cell.0.0
      here is = let at : nat_eq place cell.0.0 ≡ true = is.at in grind (arith, nat_tests)

  -- cells from the next column on
  pub from_next : (place : ℕ) (column : ColumnSpec) (columns : List ColumnSpec) (cells : List (ColumnNo × RowCell)) → are_fit schema changes (suc place) columns cells ≡ true → are_fit schema changes place (column ∷ columns) cells ≡ true
  from_next place column columns [] fit = refl
  from_next place column columns (cell ∷ cells) fit =
      let more : suc place ≤ cell.0.0 = at_least (suc place) columns cell cells fit in
      let less : nat_lt place cell.0.0 ≡ true = grind (arith, nat_tests) in
      or_left (nat_lt place cell.0.0 && are_fit schema changes (suc place) columns (cell ∷ cells)) (nat_eq place cell.0.0 && not column.key && cell_fits schema changes column cell.1 && are_fit schema changes (suc place) columns cells)
      (and_from (nat_lt place cell.0.0) (are_fit schema changes (suc place) columns (cell ∷ cells)) less fit)

  pub with_first : (place : ℕ) (column : ColumnSpec) (columns : List ColumnSpec) (cell : ColumnNo × RowCell) (cells others : List (ColumnNo × RowCell)) → IsHere place column columns cell cells → are_fit schema changes (suc place) columns others ≡ true
      → are_fit schema changes place (column ∷ columns) (cell ∷ others) ≡ true
  with_first place column columns cell cells others is rest =
      or_right (nat_lt place cell.0.0 && are_fit schema changes (suc place) columns (cell ∷ others)) (nat_eq place cell.0.0 && not column.key && cell_fits schema changes column cell.1 && are_fit schema changes (suc place) columns others)
      (and_from (nat_eq place cell.0.0 && not column.key && cell_fits schema changes column cell.1) (are_fit schema changes (suc place) columns others)
      (and_from (nat_eq place cell.0.0 && not column.key) (cell_fits schema changes column cell.1) (and_from (nat_eq place cell.0.0) (not column.key) is.at is.free) is.fits) rest)

  -- some of the cells
  pub part_fit : (test : ColumnNo × RowCell → Bool) (place : ℕ) (columns : List ColumnSpec) (cells : List (ColumnNo × RowCell)) → are_fit schema changes place columns cells ≡ true → are_fit schema changes place columns (filter test cells) ≡ true
  part_fit test place columns [] fit = refl
  part_fit test place [] (cell ∷ cells) fit = absurd cc
  part_fit test place (column ∷ columns) (cell ∷ cells) fit =
      ⊎_elim (λ (is : IsLater place column columns cell cells). from_next place column columns (filter test (cell ∷ cells)) (part_fit test (suc place) columns (cell ∷ cells) is.1))
      (λ (is : IsHere place column columns cell cells). first_of (test cell) (filter test cells) is (part_fit test (suc place) columns cells (rest_of is))) (first_cell place column columns cell cells fit)
    where
      rest_of : IsHere place column columns cell cells → are_fit schema changes (suc place) columns cells ≡ true
      rest_of is = is.rest

      first_of : (b : Bool) (others : List (ColumnNo × RowCell)) → IsHere place column columns cell cells → are_fit schema changes (suc place) columns others ≡ true → are_fit schema changes place (column ∷ columns) (cond b (cell ∷ others) others) ≡ true
      first_of true others is rest = with_first place column columns cell cells others is rest
      first_of false others is rest = from_next place column columns others rest

  pub cells_sent : (keys : Keys) → AreKnown schema changes keys → (place : ℕ) (columns : List ColumnSpec) (cells : List (ColumnNo × RowCell)) → are_fit schema changes place columns cells ≡ true → are_cells place columns (map (λ cell. (cell.0, value_of_cell keys cell.1)) cells) ≡ true
  cells_sent keys all place columns [] fit = refl
  cells_sent keys all place [] (cell ∷ cells) fit = absurd cc
  cells_sent keys all place (column ∷ columns) (cell ∷ cells) fit =
      ⊎_elim (λ (is : IsLater place column columns cell cells). later is (cells_sent keys all (suc place) columns (cell ∷ cells) is.1))
      (λ (is : IsHere place column columns cell cells). here is (cells_sent keys all (suc place) columns cells (rest_of is))) (first_cell place column columns cell cells fit)
    where
      rest_of : IsHere place column columns cell cells → are_fit schema changes (suc place) columns cells ≡ true
      rest_of is = is.rest

      later : IsLater place column columns cell cells → are_cells (suc place) columns (sent_of keys (cell ∷ cells)) ≡ true → are_cells place (column ∷ columns) (sent_of keys (cell ∷ cells)) ≡ true
      later is rest =
          let more : place < cell.0.0 = is.0 in
          let less : nat_lt place cell.0.0 ≡ true = grind (arith, nat_tests) in
          or_left (nat_lt place cell.0.0 && are_cells (suc place) columns (sent_of keys (cell ∷ cells))) (nat_eq place cell.0.0 && not column.key && may_hold column (value_of_cell keys cell.1) && are_cells (suc place) columns (sent_of keys cells))
          (and_from (nat_lt place cell.0.0) (are_cells (suc place) columns (sent_of keys (cell ∷ cells))) less rest)

      here : IsHere place column columns cell cells → are_cells (suc place) columns (sent_of keys cells) ≡ true → are_cells place (column ∷ columns) (sent_of keys (cell ∷ cells)) ≡ true
      here is rest =
          or_right (nat_lt place cell.0.0 && are_cells (suc place) columns (sent_of keys (cell ∷ cells))) (nat_eq place cell.0.0 && not column.key && may_hold column (value_of_cell keys cell.1) && are_cells (suc place) columns (sent_of keys cells))
          (and_from (nat_eq place cell.0.0 && not column.key && may_hold column (value_of_cell keys cell.1)) (are_cells (suc place) columns (sent_of keys cells))
          (and_from (nat_eq place cell.0.0 && not column.key) (may_hold column (value_of_cell keys cell.1)) (and_from (nat_eq place cell.0.0) (not column.key) is.at is.free) ((cell_put schema changes keys column cell.1 is.fits (ready_all schema changes keys column cell.1 all is.fits)).0)) rest)

key_sent : (keys : Keys) (key : List Value) → map (value_of_cell keys) (map Given key) ≡ key
key_sent keys [] = refl
key_sent keys (value ∷ key) = ap (λ (rest : List Value). value ∷ rest) (key_sent keys key)

some_sent : (keys : Keys) (cells : List (ColumnNo × RowCell)) → writes_some cells ≡ true → nat_lt 0 (length (sent_of keys cells)) ≡ true
some_sent keys [] some = absurd cc
some_sent keys (cell ∷ cells) some = let long : 0 < length (sent_of keys (cell ∷ cells)) = omega arith in grind (arith, nat_tests)

module _ (schema : Catalog) (changes : RowChanges) (fit : HasFitRows schema changes) where
  there : (table : ℕ) → table < length schema.tables → nat_lt table (length schema.tables) ≡ true
  there table less = grind (arith, nat_tests)

  abbrev pub IsFitWriting : Writing → Type 0
  IsFitWriting row = IsTable schema row.0.0 × (is_key (spec_of schema row.0.0) row.0.1 ≡ true) × (are_fit schema changes 0 (spec_of schema row.0.0).columns row.1 ≡ true)

  -- the statement can be sent once all keys of new rows are known, and tells no key
  pub record IsLate (planned : Planned) : Type 0 where
    pub sends : (keys : Keys) → AreKnown schema changes keys → is_sendable schema changes keys planned ≡ true
    pub tells : (keys : Keys) (answered : List (List Value)) → keys_then keys planned answered ≡ keys

  -- a row that is written under a key that fits, once all keys of new rows are known
  pub writing_sends : (keys : Keys) (table : TableId) (key : List RowCell) (cells : List (ColumnNo × RowCell)) → AreKnown schema changes keys → IsTable schema table → is_key (spec_of schema table) (map (value_of_cell keys) key) ≡ true
      → are_fit schema changes 0 (spec_of schema table).columns cells ≡ true → writes_some cells ≡ true → is_sendable schema changes keys (Update table key cells) ≡ true
  writing_sends keys table key cells all inside keyed fits some =
      let spec : TableSpec = spec_of schema table in
      and_from (nat_lt table.0 (length schema.tables)) (is_update_of spec (map (value_of_cell keys) key) (sent_of keys cells)) (there table.0 inside)
      (and_from (is_key spec (map (value_of_cell keys) key)) (nat_lt 0 (length (sent_of keys cells)) && are_cells 0 spec.columns (sent_of keys cells)) keyed
      (and_from (nat_lt 0 (length (sent_of keys cells))) (are_cells 0 spec.columns (sent_of keys cells)) (some_sent keys cells some) (cells_sent schema changes keys all 0 spec.columns cells fits)))

  pub update_late : (row : Writing) → IsFitWriting row → writing_some row ≡ true → IsLate (update_of row)
  update_late row is some = record {
    sends = λ keys all. writing_sends keys row.0.0 (map Given row.0.1) row.1 all is.0 (ap (is_key (spec_of schema row.0.0)) (key_sent keys row.0.1) ∙ is.1) is.2 some;
    tells = λ keys answered. refl;
  }

  -- what is written of a changed row, before or after all rows stand
  pub half_fits : (late : Bool) (row : ChangedRow) → IsFitChanged schema changes row → IsFitWriting (cells_when schema changes late row)
  half_fits late row is = (is.0, is.1, part_fit schema changes (λ cell. is_written_when schema changes late row.name.table cell.0) 0 (spec_of schema row.name.table).columns row.cells is.2)

  changed_at : (number : ℕ) → number < length changes.changed → IsFitWriting (cells_when schema changes false (get_or changes.changed number no_changed))
  changed_at number less = half_fits false (get_or changes.changed number no_changed) (all_at (IsFitChanged schema changes) changes.changed number no_changed fit.changed less)

  pub no_place : Place
  no_place = (record { 0 = 0 }, [])

  changed_numbers : AllByRecursion (λ number. number < length changes.changed) (sorted_numbers (map place_of_changed changes.changed))
  changed_numbers =
      all_members (λ number. number < length changes.changed) (sorted_numbers (map place_of_changed changes.changed)) (λ number among.
      subst (λ (n : ℕ). number < n) (length_mapped place_of_changed changes.changed) (numbers_within (map place_of_changed changes.changed) no_place number among))

  pub each : {A : Type 0} (P Q : A → Type 0) (xs : List A) → ((x : A) → P x → Q x) → AllByRecursion P xs → AllByRecursion Q xs
  each P Q [] step all = tt
  each P Q (x ∷ xs) step all = (step x all.0, each P Q xs step all.1)

  pub updates_late : AllByRecursion IsLate (updates schema changes)
  updates_late =
      let IsGood : Writing → Type 0 = λ row. writing_some row ≡ true → IsLate (update_of row) in
      let numbers : List ℕ = sorted_numbers (map place_of_changed changes.changed) in
      all_map_of IsLate update_of (filter writing_some (map (cells_when schema changes false) (changed_rows changes)))
      (all_filter (λ (row : Writing). IsLate (update_of row)) writing_some (map (cells_when schema changes false) (changed_rows changes))
      (all_map_of IsGood (cells_when schema changes false) (changed_rows changes)
      (all_map_of (λ (row : ChangedRow). IsGood (cells_when schema changes false row)) (λ number. get_or changes.changed number no_changed) numbers
      (each (λ number. number < length changes.changed) (λ number. IsGood (cells_when schema changes false (get_or changes.changed number no_changed))) numbers
      (λ number less some. update_late (cells_when schema changes false (get_or changes.changed number no_changed)) (changed_at number less) some) changed_numbers))))

  -- ---- deleted rows

  gone_numbers : AllByRecursion (λ number. number < length changes.gone) (sorted_numbers (map (place_of_gone schema) changes.gone))
  gone_numbers =
      all_members (λ number. number < length changes.gone) (sorted_numbers (map (place_of_gone schema) changes.gone)) (λ number among.
      subst (λ (n : ℕ). number < n) (length_mapped (place_of_gone schema) changes.gone) (numbers_within (map (place_of_gone schema) changes.gone) no_place number among))

  gone_fit : AllByRecursion (IsFitGone schema) (gone_rows schema changes)
  gone_fit =
      all_map_of (IsFitGone schema) (gone_at changes.gone) (sorted_numbers (map (place_of_gone schema) changes.gone))
      (each (λ number. number < length changes.gone) (λ number. IsFitGone schema (gone_at changes.gone number)) (sorted_numbers (map (place_of_gone schema) changes.gone))
      (λ number less. all_at (IsFitGone schema) changes.gone number no_gone fit.gone less) gone_numbers)

  remove_late : (row : GoneRow) → IsFitGone schema row → IsLate (remove_of schema row)
  remove_late row is = record {
    sends = λ keys all. and_from (nat_lt row.name.table.0 (length schema.tables)) (is_key (spec_of schema row.name.table) (gone_key schema row)) (there row.name.table.0 is.0) is.1;
    tells = λ keys answered. refl;
  }

  pub removes_late : (order : List ℕ) → AllByRecursion (λ place. place < length (gone_rows schema changes)) order → AllByRecursion IsLate (removes schema changes order)
  removes_late order within =
      all_map_of IsLate (λ place. remove_of schema (gone_at (gone_rows schema changes) place)) order
      (each (λ place. place < length (gone_rows schema changes)) (λ place. IsLate (remove_of schema (gone_at (gone_rows schema changes) place))) order
      (λ place less. remove_late (gone_at (gone_rows schema changes) place) (all_at (IsFitGone schema) (gone_rows schema changes) place no_gone gone_fit less)) within)
