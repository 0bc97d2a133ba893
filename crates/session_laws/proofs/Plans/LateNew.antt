-- The late UPDATEs of new rows.
use Rattle.std.proofs.Common.{◌≡◌, inl, inr, ℕ, Bool, true, false, cond, List, [], ◌∷◌, map, None, Some, refl, sym, ap, ◌∙◌, subst}
use Rattle.std.specs.Option.{is_some, unwrap_or}
use Rattle.base_core.specs.declared.ids.TableId.{TableId}
use Rattle.base_core.specs.declared.value.Value.{Value}
use Rattle.base_core.specs.declared.value.Value.TheVariants.{Null}
use Rattle.schema_core.specs.declared.changes.RowCell.{RowCell}
use Rattle.schema_core.specs.declared.changes.RowCell.TheVariants.{Given, KeyOf}
use Rattle.schema_core.specs.declared.changes.RowChanges.{RowChanges}
use Rattle.schema_core.specs.declared.table.ColumnSpec.{ColumnSpec}
use Rattle.schema_core.specs.Apply.{with_cells}
use Rattle.schema_core.specs.Catalog.{Catalog, spec_of}
use Rattle.schema_core.specs.Tables.{Tables}
use Rattle.flush_order.specs.Cells.{is_late, late_name, new_at, table_at}
use Rattle.row_order.specs.Places.{is_among}
use Rattle.flush_order.specs.Sorted.{Place}
use Rattle.flush_plan.specs.Flushing.{Keys, Sofar, value_of_cell}
use Rattle.flush_writes.specs.Runs.{is_nothing}
use Rattle.flush_plan.specs.Planning.{key_at, late_new}
use Rattle.flush_writes.specs.Writes.{writes_some}
use Rattle.flush_plan.specs.Stating.{blend, place_of_new, put_cells, row_at}
use Rattle.session_laws.proofs.Plans.Between.{early_part}
use Rattle.session_laws.proofs.Plans.Blend.{Long, nulls, nulls_are_long, test}
use Rattle.session_laws.proofs.Plans.Changing.{none_written}
use Rattle.session_laws.proofs.Plans.Complete.{IsStated, apart, known_facts, long_put, new_created, new_long, news, told_long}
use Rattle.session_laws.proofs.Plans.InsertOrder.{all_drawn}
use Rattle.session_laws.proofs.Plans.LateCells.{Stands, late_numbered}
use Rattle.session_laws.proofs.Plans.Referring.{null_is, put_key}
use Rattle.session_laws.proofs.Plans.Stated.{stated_new}
use Rattle.session_laws.proofs.Plans.Updating.{After, IsStep, OnWay, Step, ToCome, step_place}
use Rattle.session_laws.proofs.Plans.Facts.{bool_cases, none_some, same_some, true_false}

-- ---- late cells

nothing_put : (keys : Keys) (cell : RowCell) → is_nothing cell ≡ true → value_of_cell keys cell ≡ Null
nothing_put keys (Given value) e = null_is value e
nothing_put keys (KeyOf place part) e = absurd (true_false (sym e))

late_cell : (t : Bool) (v w : Value) → t ≡ true → cond t w v ≡ w
late_cell true v w e = refl
late_cell false v w e = absurd (true_false (sym e))

stands_same : (keys : Keys) (late : List ℕ → Bool) (cs : List ColumnSpec) (cells : List RowCell) (row : List Value) → Stands (value_of_cell keys) late cs cells (blend (test late) cs row (map (value_of_cell keys) cells)) (blend (test late) cs row (map (value_of_cell keys) cells))
stands_same keys late [] cells row = tt
stands_same keys late (c ∷ cs) [] row = tt
stands_same keys late (c ∷ cs) (cell ∷ cells) [] = tt
stands_same keys late (c ∷ cs) (cell ∷ cells) (v ∷ row) = ((λ t n. refl), (λ t n. sym (late_cell (late c.name) v (value_of_cell keys cell) t)), stands_same keys late cs cells row)

stands_null : (keys : Keys) (late : List ℕ → Bool) (cs : List ColumnSpec) (cells : List RowCell) (row : List Value) → Stands (value_of_cell keys) late cs cells (nulls cs) (blend (test late) cs row (map (value_of_cell keys) cells))
stands_null keys late [] cells row = tt
stands_null keys late (c ∷ cs) [] row = tt
stands_null keys late (c ∷ cs) (cell ∷ cells) [] = tt
stands_null keys late (c ∷ cs) (cell ∷ cells) (v ∷ row) =
    ((λ t n. sym (late_cell (late c.name) v (value_of_cell keys cell) t ∙ nothing_put keys cell n)), (λ t n. sym (late_cell (late c.name) v (value_of_cell keys cell) t)), stands_null keys late cs cells row)

abbrev pub new_step : Catalog → RowChanges → TableId → ℕ → Step
new_step schema changes table place = (true, (table, key_at schema changes place, late_new schema changes place))

module _ (schema : Catalog) (old : Tables) (changes : RowChanges) (order : List ℕ) (placed : Sofar) (after : Tables) (told : IsStated schema old changes order placed after) where
  abbrev at : ℕ → Place
  at place = place_of_new changes placed.keys place

  abbrev cs_at : ℕ → List ColumnSpec
  cs_at place = (spec_of schema (table_at changes place)).columns

  abbrev last_row : ℕ → List Value
  last_row place = blend (is_late schema changes (table_at changes place)) (cs_at place) (unwrap_or (row_at placed.tables (at place)) []) (map (value_of_cell placed.keys) (new_at changes place).cells)

  last_is : (place : ℕ) → is_among order place ≡ true → row_at after (at place) ≡ Some (last_row place)
  last_is place among = stated_new schema old changes order placed after told.sorted (known_facts schema old changes order placed after told) (apart schema old changes order placed after told) place among (new_created schema old changes order placed after told place among)

  free : (place : ℕ) → is_among order place ≡ true → row_at old (at place) ≡ None
  free place among = (news schema old changes order placed after told).free place among

  pub step_at : (place : ℕ) → step_place placed.keys (new_step schema changes (table_at changes place) place) ≡ at place
  step_at place = λ i. (table_at changes place, put_key schema changes placed.keys (all_drawn schema old changes order placed after told) place i)

  raw_long : (place : ℕ) → is_among order place ≡ true → Long (cs_at place) (map (value_of_cell placed.keys) (new_at changes place).cells)
  raw_long place among = long_put placed.keys (cs_at place) (new_at changes place).cells (new_long schema old changes order placed after told place among)

  last_long : (place : ℕ) → is_among order place ≡ true → Long (cs_at place) (last_row place)
  last_long place among = told_long schema old changes order placed after told (at place) (last_row place) (inr (last_is place among))

  stands_any : (place : ℕ) (late : List Value) → is_among order place ≡ true → After schema changes old after placed.keys (at place) late → Stands (value_of_cell placed.keys) (late_name schema changes (table_at changes place)) (cs_at place) (new_at changes place).cells late (last_row place) × Long (cs_at place) late
  stands_any place late among (inl (inl is)) = absurd (none_some late (sym (free place among) ∙ is))
  stands_any place late among (inl (inr is)) =
      let same : last_row place ≡ late = same_some (last_row place) late (sym (last_is place among) ∙ is) in (
        subst (λ l. Stands (value_of_cell placed.keys) (late_name schema changes (table_at changes place)) (cs_at place) (new_at changes place).cells l (last_row place)) same
            (stands_same placed.keys (late_name schema changes (table_at changes place)) (cs_at place) (new_at changes place).cells (unwrap_or (row_at placed.tables (at place)) [])),
        subst (Long (cs_at place)) same (last_long place among),
      )
  stands_any place late among (inr none) = (
    subst (λ l. Stands (value_of_cell placed.keys) (late_name schema changes (table_at changes place)) (cs_at place) (new_at changes place).cells l (last_row place)) (sym none.0)
        (stands_null placed.keys (late_name schema changes (table_at changes place)) (cs_at place) (new_at changes place).cells (unwrap_or (row_at placed.tables (at place)) [])),
    subst (Long (cs_at place)) (sym none.0) (nulls_are_long (cs_at place)),
  )

  pub writes : (place : ℕ) (early late : List Value) → is_among order place ≡ true → Long (cs_at place) early → After schema changes old after placed.keys (at place) late → with_cells (blend (is_late schema changes (table_at changes place)) (cs_at place) early late) (put_cells (value_of_cell placed.keys) (late_new schema changes place)) ≡ blend (is_late schema changes (table_at changes place)) (cs_at place) early (last_row place)
  writes place early late among long then =
      let s = stands_any place late among then in
      late_numbered (value_of_cell placed.keys) (late_name schema changes (table_at changes place)) (cs_at place) (new_at changes place).cells early late (last_row place) long s.1 (last_long place among) (raw_long place among) s.0

  pub step_ok : (place : ℕ) → is_among order place ≡ true → IsStep schema changes old after placed.keys (new_step schema changes (table_at changes place) place)
  step_ok place among =
      let sp : Place = step_place placed.keys (new_step schema changes (table_at changes place) place) in
      let stated : row_at after sp ≡ Some (last_row place) = ap (row_at after) (step_at place) ∙ last_is place among in (
        inr (ap is_some stated),
        (
          last_row place,
          inl stated,
          inl (inr stated),
          λ early late comes then.
              writes place early late among (told_long schema old changes order placed after told sp early comes)
              (subst (λ q. After schema changes old after placed.keys q late) (step_at place) then),
        ),
      )

  -- a new row on its way, where what is written late of it is to come
  pub new_way : (steps : List Step) (place : ℕ) (written : List Value) → is_among order place ≡ true → (writes_some (late_new schema changes place) ≡ true → ToCome placed.keys true (at place) steps) → row_at after (at place) ≡ Some written → OnWay schema changes old after placed.keys steps (at place) (early_part schema changes (at place) written)
  new_way steps place written among come stated =
      let long : Long (cs_at place) written = told_long schema old changes order placed after told (at place) written (inr stated) in
      elim (bool_cases (writes_some (late_new schema changes place))) [
        | inl some ↦ record {
          early = written;
          late = nulls (cs_at place);
          is = refl;
          from = inr stated;
          after = inr (refl, inl (free place among));
          early_done = inl (inl stated);
          late_done = inr (come some);
        }
        | inr none ↦ record {
          early = written;
          late = written;
          is = sym (ap (λ cells. with_cells (early_part schema changes (at place) written) (put_cells (value_of_cell placed.keys) cells)) (none_written (late_new schema changes place) none))
              ∙ writes place written (nulls (cs_at place)) among long (inr (refl, inl (free place among)))
              ∙ ap (blend (is_late schema changes (table_at changes place)) (cs_at place) written) (same_some (last_row place) written (sym (last_is place among) ∙ stated));
          from = inr stated;
          after = inl (inr stated);
          early_done = inl (inl stated);
          late_done = inl (inl stated);
        }
      ]
