-- The UPDATEs that clear what is written late in deleted rows.
use Rattle.std.proofs.Common.{◌≡◌, inl, inr, ℕ, ◌<◌, Bool, true, false, not, cond, ◌||◌, List, [], ◌∷◌, ◌++◌, map, length, get_or, None, Some, refl, sym, ap, ◌∙◌, subst}
use Rattle.base_core.specs.declared.ids.ColumnNo.{ColumnNo}
use Rattle.base_core.specs.declared.value.Value.{Value}
use Rattle.base_core.specs.declared.value.Value.TheVariants.{Null}
use Rattle.schema_core.specs.declared.changes.GoneRow.{GoneRow}
use Rattle.schema_core.specs.declared.changes.RowCell.{RowCell}
use Rattle.schema_core.specs.declared.changes.RowCell.TheVariants.{Given}
use Rattle.schema_core.specs.declared.changes.RowChanges.{RowChanges}
use Rattle.schema_core.specs.declared.table.ColumnSpec.{ColumnSpec}
use Rattle.schema_core.specs.Apply.{with_cells}
use Rattle.schema_core.specs.Catalog.{Catalog, spec_of}
use Rattle.schema_core.specs.Tables.{Tables, is_null}
use Rattle.flush_order.specs.Cells.{is_late, late_name}
use Rattle.flush_order.specs.Orders.{no_gone, place_of_gone}
use Rattle.flush_order.specs.Sorted.{Place}
use Rattle.flush_plan.specs.Flushing.{Keys, Sofar, value_of_cell}
use Rattle.flush_writes.specs.Writes.{Writing, late_cells, late_gone, writes_some}
use Rattle.flush_plan.specs.Stating.{blend, edit_changed, edit_gone, edit_new, is_present, put_cells, row_at, written_rows}
use Rattle.session_laws.specs.Plans.Laws.{AreAsRead}
use Rattle.session_laws.proofs.Plans.Blend.{Long, blend_self, nulls, nulls_are_long, test}
use Rattle.session_laws.proofs.Plans.Changing.{none_written, step_is, step_of}
use Rattle.session_laws.proofs.Plans.Complete.{IsStated, cleared_there, stated_edit, told_long, whole_is_long}
use Rattle.session_laws.proofs.Plans.Items.{all_at, map_map, member_left, member_map, number_member}
use Rattle.session_laws.proofs.Plans.LateCells.{Stands, late_numbered}
use Rattle.session_laws.proofs.Plans.Referring.{null_is}
use Rattle.session_laws.proofs.Plans.Updating.{After, Blend, IsStep, OnWay, Step, ToCome, step_place}
use Rattle.session_laws.proofs.Plans.Facts.{bool_cases, none_some, true_false}

abbrev null_cell : RowCell → Value
null_cell cell = Null

long_base : (cs : List ColumnSpec) (base : List Value) → Long cs base → Long cs (map null_cell (map Given base))
long_base [] [] l = tt
long_base [] (v ∷ base) l = absurd l
long_base (c ∷ cs) [] l = absurd l
long_base (c ∷ cs) (v ∷ base) l = long_base cs base l

abbrev put_nulls : Keys → List (ColumnNo × RowCell) → List (ColumnNo × Value)
put_nulls keys cells = put_cells (value_of_cell keys) (map (λ cell. (cell.0, Given Null)) cells)

nulls_put : (keys : Keys) (cells : List (ColumnNo × RowCell)) → put_nulls keys cells ≡ put_cells null_cell cells
nulls_put keys cells = map_map (λ (cell : ColumnNo × RowCell). (cell.0, value_of_cell keys cell.1)) (λ (cell : ColumnNo × RowCell). (cell.0, Given Null)) cells

cell_step : (t : Bool) (b v : Value) → cond t b v ≡ v → t ≡ true → is_null b ≡ true → v ≡ Null
cell_step true b v same e n = sym same ∙ null_is b n
cell_step false b v same e n = absurd (true_false (sym e))

head_same : (x y : Value) (xs ys : List Value) → x ∷ xs ≡ y ∷ ys → x ≡ y
head_same x y xs ys e = cc

tail_same : (x y : Value) (xs ys : List Value) → x ∷ xs ≡ y ∷ ys → xs ≡ ys
tail_same x y xs ys e = cc

-- the late cells of the row are those of its base
stands_base : (late : List ℕ → Bool) (cs : List ColumnSpec) (base row : List Value) → Long cs base → Long cs row → blend (test late) cs row base ≡ row → Stands null_cell late cs (map Given base) row (nulls cs)
stands_base late [] base row b r e = tt
stands_base late (c ∷ cs) [] row b r e = absurd b
stands_base late (c ∷ cs) (w ∷ base) [] b r e = absurd r
stands_base late (c ∷ cs) (w ∷ base) (v ∷ row) b r e = (
  λ t n. cell_step (late c.name) w v (head_same (cond (late c.name) w v) v (blend (test late) cs row base) row e) t n,
  λ t n. refl,
  stands_base late cs base row b r (tail_same (cond (late c.name) w v) v (blend (test late) cs row base) row e),
)

stands_nulls : (late : List ℕ → Bool) (cs : List ColumnSpec) (base : List Value) → Stands null_cell late cs (map Given base) (nulls cs) (nulls cs)
stands_nulls late [] base = tt
stands_nulls late (c ∷ cs) [] = tt
stands_nulls late (c ∷ cs) (w ∷ base) = ((λ t n. refl), (λ t n. refl), stands_nulls late cs base)

or_there : (a b : Bool) → (not a || b) ≡ true → a ≡ true → b ≡ true
or_there true b e some = e
or_there false b e some = absurd (true_false (sym some))

module _ (schema : Catalog) (old : Tables) (changes : RowChanges) (order : List ℕ) (placed : Sofar) (after : Tables) (told : IsStated schema old changes order placed after) where
  abbrev gone_at : ℕ → GoneRow
  gone_at n = get_or changes.gone n no_gone

  abbrev pub clearing_at : ℕ → Writing
  clearing_at n = late_gone schema changes (gone_at n)

  abbrev at : ℕ → Place
  at n = place_of_gone schema (gone_at n)

  abbrev its_late : ℕ → List ℕ → Bool
  its_late n = late_name schema changes (gone_at n).name.table

  abbrev cs_at : ℕ → List ColumnSpec
  cs_at n = (spec_of schema (gone_at n).name.table).columns

  pub none_then : (n : ℕ) → n < length changes.gone → row_at after (at n) ≡ None
  none_then n h =
      stated_edit schema old changes order placed after told (edit_gone schema (gone_at n))
      (member_left (edit_gone schema (gone_at n)) (map (edit_gone schema) changes.gone ++ map (edit_changed old placed.keys) (written_rows changes)) (map (edit_new schema changes placed) order)
      (member_left (edit_gone schema (gone_at n)) (map (edit_gone schema) changes.gone) (map (edit_changed old placed.keys) (written_rows changes))
      (member_map (edit_gone schema) (gone_at n) changes.gone (number_member changes.gone n no_gone h))))

  there : (n : ℕ) → n < length changes.gone → writes_some (clearing_at n).1 ≡ true → is_present old (at n) ≡ true
  there n h some =
      or_there (writes_some (clearing_at n).1) (is_present old (at n))
      (all_at (λ row. (not (writes_some (late_gone schema changes row).1) || is_present old (place_of_gone schema row)) ≡ true) changes.gone n no_gone (cleared_there schema old changes order placed after told) h)
      some

  base_long : (n : ℕ) → n < length changes.gone → Long (cs_at n) (gone_at n).base
  base_long n h = whole_is_long (cs_at n) (gone_at n).base (all_at (λ (row : GoneRow). length row.base ≡ length (spec_of schema row.name.table).columns) changes.gone n no_gone told.projected.gone_cells h)

  module _ (read : AreAsRead schema old changes) where
    after_stands : (n : ℕ) (late : List Value) → n < length changes.gone → After schema changes old after placed.keys (at n) late → Stands null_cell (its_late n) (cs_at n) (map Given (gone_at n).base) late (nulls (cs_at n)) × Long (cs_at n) late
    after_stands n late h (inl (inl was)) =
        let long : Long (cs_at n) late = told_long schema old changes order placed after told (at n) late (inl was) in (
          stands_base (its_late n) (cs_at n) (gone_at n).base late (base_long n h) long
              (all_at (λ (row : GoneRow). (stands : List Value) → row_at old (place_of_gone schema row) ≡ Some stands → blend (is_late schema changes row.name.table) (spec_of schema row.name.table).columns stands row.base ≡ stands) changes.gone n no_gone read.late h late was),
          long,
        )
    after_stands n late h (inl (inr then)) = absurd (none_some late (sym (none_then n h) ∙ then))
    after_stands n late h (inr none) = (
      subst (λ l. Stands null_cell (its_late n) (cs_at n) (map Given (gone_at n).base) l (nulls (cs_at n))) (sym none.0) (stands_nulls (its_late n) (cs_at n) (gone_at n).base),
      subst (Long (cs_at n)) (sym none.0) (nulls_are_long (cs_at n)),
    )

    writes : (n : ℕ) (early late : List Value) → n < length changes.gone → Long (cs_at n) early → After schema changes old after placed.keys (at n) late → with_cells (Blend schema changes old after placed.keys (at n) early late) (put_cells (value_of_cell placed.keys) (clearing_at n).1) ≡ Blend schema changes old after placed.keys (at n) early (nulls (cs_at n))
    writes n early late h long then =
        let s = after_stands n late h then in
        ap (with_cells (Blend schema changes old after placed.keys (at n) early late)) (nulls_put placed.keys (late_cells schema changes (gone_at n).name.table (map Given (gone_at n).base)))
        ∙ late_numbered null_cell (its_late n) (cs_at n) (map Given (gone_at n).base) early late (nulls (cs_at n)) long s.1 (nulls_are_long (cs_at n)) (long_base (cs_at n) (gone_at n).base (base_long n h)) s.0

    pub clear_ok : (n : ℕ) → n < length changes.gone → writes_some (clearing_at n).1 ≡ true → IsStep schema changes old after placed.keys (step_of true (clearing_at n))
    clear_ok n h some =
        let sp : Place = step_place placed.keys (step_of true (clearing_at n)) in
        let same : sp ≡ at n = step_is placed.keys true (clearing_at n) in
        let none : row_at after sp ≡ None = ap (row_at after) same ∙ none_then n h in (
          inl (ap (is_present old) same ∙ there n h some),
          (
            nulls (cs_at n),
            inr (none, refl),
            inr (refl, inr none),
            λ early late comes then.
                writes n early late h (told_long schema old changes order placed after told sp early comes)
                (subst (λ q. After schema changes old after placed.keys q late) same then),
          ),
        )

    -- a deleted row on its way, where what is cleared of it is to come
    pub gone_way : (steps : List Step) (n : ℕ) (row : List Value) → n < length changes.gone → row_at old (at n) ≡ Some row → (writes_some (clearing_at n).1 ≡ true → ToCome placed.keys true (at n) steps) → OnWay schema changes old after placed.keys steps (at n) row
    gone_way steps n row h was come =
        let long : Long (cs_at n) row = told_long schema old changes order placed after told (at n) row (inl was) in
        let self : row ≡ Blend schema changes old after placed.keys (at n) row row = sym (blend_self (its_late n) (cs_at n) row long) in
        let none : row_at after (at n) ≡ None = none_then n h in
        elim (bool_cases (writes_some (clearing_at n).1)) [
          | inl some ↦ record {
            early = row;
            late = row;
            is = self;
            from = inl was;
            after = inl (inl was);
            early_done = inl (inr none);
            late_done = inr (come some);
          }
          | inr nothing ↦ record {
            early = row;
            late = nulls (cs_at n);
            is = self
                ∙ sym (ap (λ cells. with_cells (Blend schema changes old after placed.keys (at n) row row) (put_cells (value_of_cell placed.keys) cells)) (none_written (clearing_at n).1 nothing))
                ∙ writes n row row h long (inl (inl was));
            from = inl was;
            after = inr (refl, inr none);
            early_done = inl (inr none);
            late_done = inl (inr (none, refl));
          }
        ]
