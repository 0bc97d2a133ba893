-- The UPDATEs of changed rows, early and late ones.
use Rattle.std.proofs.Common.{◌≡◌, ◌⊎◌, inl, inr, ℕ, suc, ◌<◌, Bool, true, false, not, cond, ◌&&◌, eqb, ltb, List, [], ◌∷◌, ◌++◌, map, length, get_or, None, Some, refl, sym, ap, ◌∙◌, subst, arith}
use Rattle.std.proofs.lemmas.Bool.{eqb-true}
use Rattle.std.specs.List.{filter}
use Rattle.std.specs.Option.{is_some, unwrap_or}
use Rattle.base_core.specs.declared.ids.ColumnNo.{ColumnNo}
use Rattle.base_core.specs.declared.value.Value.{Value}
use Rattle.schema_core.specs.declared.changes.ChangedRow.{ChangedRow}
use Rattle.schema_core.specs.declared.changes.RowCell.{RowCell}
use Rattle.schema_core.specs.declared.changes.RowCell.TheVariants.{Given}
use Rattle.schema_core.specs.declared.changes.RowChanges.{RowChanges}
use Rattle.schema_core.specs.declared.table.ColumnSpec.{ColumnSpec}
use Rattle.schema_core.specs.Apply.{with_cells}
use Rattle.schema_core.specs.Catalog.{Catalog, spec_of}
use Rattle.schema_core.specs.Tables.{Tables}
use Rattle.table_laws.proofs.RowFits.{and_true}
use Rattle.flush_order.specs.Cells.{late_name}
use Rattle.flush_order.specs.Sorted.{Place}
use Rattle.flush_plan.specs.Flushing.{Keys, Sofar, value_of_cell}
use Rattle.flush_writes.specs.Writes.{Writing, cells_when, is_written_when, no_changed, no_column, place_of_changed, writes_some}
use Rattle.flush_plan.specs.Stating.{edit_changed, edit_gone, edit_new, edits, is_present, old_row, put_cells, row_at, written_rows}
use Rattle.session_laws.specs.Plans.Laws.{are_at}
use Rattle.session_laws.proofs.Plans.Between.{Comes}
use Rattle.session_laws.proofs.Plans.Blend.{Long, blend_self}
use Rattle.session_laws.proofs.Plans.Complete.{IsStated, stated_edit, told_long, written_there}
use Rattle.session_laws.proofs.Plans.Editing.{IsEdit}
use Rattle.session_laws.proofs.Plans.Items.{all_at, filter_same, member_all, member_filter, member_left, member_map, member_right, number_member}
use Rattle.session_laws.proofs.Plans.LateCells.{early_changed, late_changed, put_filter}
use Rattle.session_laws.proofs.Plans.Updating.{After, Blend, IsFirst, IsLast, IsStep, OnWay, Step, ToCome, step_place}
use Rattle.session_laws.proofs.Plans.Writing.{IsOnce, cell_at, with_written, written, written_twice}
use Rattle.session_laws.proofs.Plans.Facts.{none_some, or_cases, same_some, true_false, apart_false}

-- the UPDATE of what is written of an old row
abbrev pub step_of : Bool → Writing → Step
step_of late row = (late, (row.0.0, map Given row.0.1, row.1))

put_given : (keys : Keys) (key : List Value) → map (value_of_cell keys) (map Given key) ≡ key
put_given keys [] = refl
put_given keys (v ∷ key) = ap (λ k. v ∷ k) (put_given keys key)

pub step_is : (keys : Keys) (late : Bool) (row : Writing) → step_place keys (step_of late row) ≡ row.0
step_is keys late row = λ i. (row.0.0, put_given keys row.0.1 i)

pub none_written : (cells : List (ColumnNo × RowCell)) → writes_some cells ≡ false → cells ≡ []
none_written [] e = refl
none_written (cell ∷ cells) e = absurd (true_false e)

pub some_filter : (t : ColumnNo × RowCell → Bool) (cells : List (ColumnNo × RowCell)) → writes_some (filter t cells) ≡ true → writes_some cells ≡ true
some_filter t [] e = e
some_filter t (cell ∷ cells) e = refl

-- ---- columns stand once

record Once (place : ℕ) (cells : List (ColumnNo × Value)) : Type 0 where
  pub once : IsOnce cells
  pub below : (n : ℕ) → n < place → cell_at cells n ≡ None

once_cells : (value : RowCell → Value) (place : ℕ) (cs : List ColumnSpec) (cells : List (ColumnNo × RowCell)) → are_at place cs cells ≡ true → Once place (put_cells value cells)
once_cells value place cs [] e = record { once = tt; below = λ n h. refl }
once_cells value place [] (cell ∷ cells) e = absurd (true_false (sym e))
once_cells value place (c ∷ cs) (cell ∷ cells) e =
    elim (or_cases (ltb place cell.0.0 && are_at (suc place) cs (cell ∷ cells)) (eqb place cell.0.0 && not c.key && are_at (suc place) cs cells) e) [
      | inl later ↦
          let more = once_cells value (suc place) cs (cell ∷ cells) (and_true (ltb place cell.0.0) (are_at (suc place) cs (cell ∷ cells)) later).1 in
          record { once = more.once; below = λ n h. more.below n (omega arith) }
      | inr here ↦
          let a = and_true (eqb place cell.0.0 && not c.key) (are_at (suc place) cs cells) here in
          let same : place ≡ cell.0.0 = eqb-true place cell.0.0 (and_true (eqb place cell.0.0) (not c.key) a.0).0 in
          let more = once_cells value (suc place) cs cells a.1 in
          record {
            once = (more.below cell.0.0 (omega (arith, same)), more.once);
            below = λ n h. ap (λ b. cond b (Some (value cell.1)) (cell_at (put_cells value cells) n)) (apart_false cell.0.0 n (eqb cell.0.0 n) refl (λ is. omega (arith, same, is, h))) ∙ more.below n (omega arith);
          }
    ]

early_test : (b : Bool) → cond b false (not false) ≡ not b
early_test true = refl
early_test false = refl

late_test : (b : Bool) → cond b true (not true) ≡ b
late_test true = refl
late_test false = refl

write_twice : (row : List Value) (cells : List (ColumnNo × Value)) → IsOnce cells → with_cells (with_cells row cells) cells ≡ with_cells row cells
write_twice row cells once = ap (λ r. with_cells r cells) (with_written row cells once) ∙ with_written (written 0 row cells) cells once ∙ written_twice 0 row cells ∙ sym (with_written row cells once)

module _ (schema : Catalog) (old : Tables) (changes : RowChanges) (order : List ℕ) (placed : Sofar) (after : Tables) (told : IsStated schema old changes order placed after) where
  abbrev changed_at : ℕ → ChangedRow
  changed_at n = get_or changes.changed n no_changed

  -- the cells of a changed row that are written early, or late
  abbrev pub writing_at : Bool → ℕ → Writing
  writing_at late n = cells_when schema changes late (changed_at n)

  abbrev at : ℕ → Place
  at n = place_of_changed (changed_at n)

  abbrev its_late : ℕ → List ℕ → Bool
  its_late n = late_name schema changes (changed_at n).name.table

  abbrev cs_at : ℕ → List ColumnSpec
  cs_at n = (spec_of schema (changed_at n).name.table).columns

  abbrev its_cells : ℕ → List (ColumnNo × Value)
  its_cells n = put_cells (value_of_cell placed.keys) (changed_at n).cells

  abbrev its_row : ℕ → List Value
  its_row n = with_cells (old_row old (changed_at n)) (its_cells n)

  -- a changed row with a cell
  abbrev pub IsWritten : ℕ → Type 0
  IsWritten n = (n < length changes.changed) × (writes_some (changed_at n).cells ≡ true)

  pub is_written : (late : Bool) (n : ℕ) → n < length changes.changed → writes_some (writing_at late n).1 ≡ true → IsWritten n
  is_written late n h some = (h, some_filter (λ cell. is_written_when schema changes late (changed_at n).name.table cell.0) (changed_at n).cells some)

  there : (n : ℕ) → IsWritten n → is_present old (at n) ≡ true
  there n is =
      member_all (λ row. is_present old (place_of_changed row) ≡ true) (written_rows changes) (changed_at n) (written_there schema old changes order placed after told)
      (member_filter (λ row. writes_some row.cells) (changed_at n) changes.changed is.1 (number_member changes.changed n no_changed is.0))

  is_edit : (n : ℕ) → IsWritten n → IsEdit (edit_changed old placed.keys (changed_at n)) (edits schema old changes order placed)
  is_edit n is =
      member_left (edit_changed old placed.keys (changed_at n)) (map (edit_gone schema) changes.gone ++ map (edit_changed old placed.keys) (written_rows changes)) (map (edit_new schema changes placed) order)
      (member_right (edit_changed old placed.keys (changed_at n)) (map (edit_gone schema) changes.gone) (map (edit_changed old placed.keys) (written_rows changes))
      (member_map (edit_changed old placed.keys) (changed_at n) (written_rows changes)
      (member_filter (λ row. writes_some row.cells) (changed_at n) changes.changed is.1 (number_member changes.changed n no_changed is.0))))

  stands : (n : ℕ) → IsWritten n → row_at after (at n) ≡ Some (its_row n)
  stands n is = stated_edit schema old changes order placed after told (edit_changed old placed.keys (changed_at n)) (is_edit n is)

  once : (n : ℕ) → IsWritten n → IsOnce (its_cells n)
  once n is = (once_cells (value_of_cell placed.keys) 0 (cs_at n) (changed_at n).cells (all_at (λ (row : ChangedRow). are_at 0 (spec_of schema row.name.table).columns row.cells ≡ true) changes.changed n no_changed told.projected.changed_cells is.0)).once

  its_long : (n : ℕ) → IsWritten n → Long (cs_at n) (its_row n)
  its_long n is = told_long schema old changes order placed after told (at n) (its_row n) (inr (stands n is))

  -- with its cells the old row is the stated one, and the stated one itself
  writes_row : (n : ℕ) (row : List Value) → IsWritten n → Comes old after (at n) row → with_cells row (its_cells n) ≡ its_row n
  writes_row n row is (inl was) = ap (λ o. with_cells (unwrap_or o []) (its_cells n)) (sym was)
  writes_row n row is (inr then) =
      ap (λ r. with_cells r (its_cells n)) (same_some row (its_row n) (sym then ∙ stands n is)) ∙ write_twice (old_row old (changed_at n)) (its_cells n) (once n is)

  not_missing : (n : ℕ) → IsWritten n → (row_at old (at n) ≡ None) ⊎ (row_at after (at n) ≡ None) → ⊥
  not_missing n is (inl none) = true_false (sym (there n is) ∙ ap is_some none)
  not_missing n is (inr none) = none_some (its_row n) (sym none ∙ stands n is)

  after_comes : (n : ℕ) (late : List Value) → IsWritten n → After schema changes old after placed.keys (at n) late → Comes old after (at n) late
  after_comes n late is (inl comes) = comes
  after_comes n late is (inr none) = absurd (not_missing n is none.1)

  early_cells : (n : ℕ) → put_cells (value_of_cell placed.keys) (writing_at false n).1 ≡ filter (λ c. not (its_late n (get_or (cs_at n) c.0.0 no_column).name)) (its_cells n)
  early_cells n =
      ap (put_cells (value_of_cell placed.keys)) (filter_same (λ (cell : ColumnNo × RowCell). is_written_when schema changes false (changed_at n).name.table cell.0) (λ (cell : ColumnNo × RowCell). not (its_late n (get_or (cs_at n) cell.0.0 no_column).name)) (changed_at n).cells
      (λ cell. early_test (its_late n (get_or (cs_at n) cell.0.0 no_column).name)))
      ∙ put_filter (value_of_cell placed.keys) (λ k. not (its_late n (get_or (cs_at n) k no_column).name)) (changed_at n).cells

  late_cells : (n : ℕ) → put_cells (value_of_cell placed.keys) (writing_at true n).1 ≡ filter (λ c. its_late n (get_or (cs_at n) c.0.0 no_column).name) (its_cells n)
  late_cells n =
      ap (put_cells (value_of_cell placed.keys)) (filter_same (λ (cell : ColumnNo × RowCell). is_written_when schema changes true (changed_at n).name.table cell.0) (λ (cell : ColumnNo × RowCell). its_late n (get_or (cs_at n) cell.0.0 no_column).name) (changed_at n).cells
      (λ cell. late_test (its_late n (get_or (cs_at n) cell.0.0 no_column).name)))
      ∙ put_filter (value_of_cell placed.keys) (λ k. its_late n (get_or (cs_at n) k no_column).name) (changed_at n).cells

  writes_early : (n : ℕ) (early late : List Value) → IsWritten n → Comes old after (at n) early → Long (cs_at n) late → with_cells (Blend schema changes old after placed.keys (at n) early late) (put_cells (value_of_cell placed.keys) (writing_at false n).1) ≡ Blend schema changes old after placed.keys (at n) (its_row n) late
  writes_early n early late is comes long =
      ap (with_cells (Blend schema changes old after placed.keys (at n) early late)) (early_cells n)
      ∙ early_changed (its_late n) (cs_at n) no_column early late (its_cells n) (once n is) (told_long schema old changes order placed after told (at n) early comes) long
      ∙ ap (λ r. Blend schema changes old after placed.keys (at n) r late) (writes_row n early is comes)

  writes_late : (n : ℕ) (early late : List Value) → IsWritten n → Long (cs_at n) early → Comes old after (at n) late → with_cells (Blend schema changes old after placed.keys (at n) early late) (put_cells (value_of_cell placed.keys) (writing_at true n).1) ≡ Blend schema changes old after placed.keys (at n) early (its_row n)
  writes_late n early late is long comes =
      ap (with_cells (Blend schema changes old after placed.keys (at n) early late)) (late_cells n)
      ∙ late_changed (its_late n) (cs_at n) no_column early late (its_cells n) (once n is) long (told_long schema old changes order placed after told (at n) late comes)
      ∙ ap (Blend schema changes old after placed.keys (at n) early) (writes_row n late is comes)

  comes_at : (one other : Place) (row : List Value) → one ≡ other → Comes old after one row → Comes old after other row
  comes_at one other row same comes = subst (λ q. Comes old after q row) same comes

  pub early_ok : (n : ℕ) → IsWritten n → IsStep schema changes old after placed.keys (step_of false (writing_at false n))
  early_ok n is =
      let sp : Place = step_place placed.keys (step_of false (writing_at false n)) in
      let same : sp ≡ at n = step_is placed.keys false (writing_at false n) in (
        inl (ap (is_present old) same ∙ there n is),
        (
          its_row n,
          ap (row_at after) same ∙ stands n is,
          λ early late comes then.
              writes_early n early late is (comes_at sp (at n) early same comes)
              (told_long schema old changes order placed after told (at n) late (after_comes n late is (subst (λ q. After schema changes old after placed.keys q late) same then))),
        ),
      )

  pub late_ok : (n : ℕ) → IsWritten n → IsStep schema changes old after placed.keys (step_of true (writing_at true n))
  late_ok n is =
      let sp : Place = step_place placed.keys (step_of true (writing_at true n)) in
      let same : sp ≡ at n = step_is placed.keys true (writing_at true n) in
      let stated : row_at after sp ≡ Some (its_row n) = ap (row_at after) same ∙ stands n is in (
        inl (ap (is_present old) same ∙ there n is),
        (
          its_row n,
          inl stated,
          inl (inr stated),
          λ early late comes then.
              writes_late n early late is (told_long schema old changes order placed after told sp early comes)
              (after_comes n late is (subst (λ q. After schema changes old after placed.keys q late) same then)),
        ),
      )

  -- a changed row on its way, where what is written of it is to come
  pub changed_way : (steps : List Step) (n : ℕ) (row : List Value) → IsWritten n → row_at old (at n) ≡ Some row → ((late : Bool) → writes_some (writing_at late n).1 ≡ true → ToCome placed.keys late (at n) steps) → OnWay schema changes old after placed.keys steps (at n) row
  changed_way steps n row is was come =
      by (writes_some (writing_at false n).1) (writes_some (writing_at true n).1) refl refl
    where
      long : Long (cs_at n) row
      long = told_long schema old changes order placed after told (at n) row (inl was)

      self : row ≡ Blend schema changes old after placed.keys (at n) row row
      self = sym (blend_self (its_late n) (cs_at n) row long)

      no_cells : (late : Bool) (r : List Value) → writes_some (writing_at late n).1 ≡ false → r ≡ with_cells r (put_cells (value_of_cell placed.keys) (writing_at late n).1)
      no_cells late r none = sym (ap (λ cells. with_cells r (put_cells (value_of_cell placed.keys) cells)) (none_written (writing_at late n).1 none))

      early_done : writes_some (writing_at false n).1 ≡ false → row ≡ Blend schema changes old after placed.keys (at n) (its_row n) row
      early_done none =
          self ∙ no_cells false (Blend schema changes old after placed.keys (at n) row row) none ∙ writes_early n row row is (inl was) long

      late_done : (early : List Value) → Long (cs_at n) early → writes_some (writing_at true n).1 ≡ false → Blend schema changes old after placed.keys (at n) early row ≡ Blend schema changes old after placed.keys (at n) early (its_row n)
      late_done early l none =
          no_cells true (Blend schema changes old after placed.keys (at n) early row) none ∙ writes_late n early row is l (inl was)

      way : (early late : List Value) → row ≡ Blend schema changes old after placed.keys (at n) early late → Comes old after (at n) early → Comes old after (at n) late → IsFirst schema changes old after placed.keys (at n) early ⊎ ToCome placed.keys false (at n) steps → IsLast schema changes old after placed.keys (at n) late ⊎ ToCome placed.keys true (at n) steps → OnWay schema changes old after placed.keys steps (at n) row
      way early late e from then one two = record { early = early; late = late; is = e; from = from; after = inl then; early_done = one; late_done = two }

      by : (a b : Bool) → writes_some (writing_at false n).1 ≡ a → writes_some (writing_at true n).1 ≡ b → OnWay schema changes old after placed.keys steps (at n) row
      by true true e f = way row row self (inl was) (inl was) (inr (come false e)) (inr (come true f))
      by true false e f = way row (its_row n) (self ∙ late_done row long f) (inl was) (inr (stands n is)) (inr (come false e)) (inl (inl (stands n is)))
      by false true e f = way (its_row n) row (early_done e) (inr (stands n is)) (inl was) (inl (inl (stands n is))) (inr (come true f))
      by false false e f =
          way (its_row n) (its_row n) (early_done e ∙ late_done (its_row n) (its_long n is) f) (inr (stands n is)) (inr (stands n is)) (inl (inl (stands n is))) (inl (inl (stands n is)))
