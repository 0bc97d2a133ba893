-- What is known of the new rows, under completeness's premises.
use Rattle.std.proofs.Common.{◌≡◌, inl, inr, ℕ, ℤ, zero, suc, ◌<◌, Bool, true, false, not, cond, ◌&&◌, ◌||◌, eqb, List, [], ◌∷◌, ◌++◌, map, length, set, Option, None, Some, Ok, refl, sym, ap, ◌∙◌, subst, arith}
use Rattle.std.proofs.lemmas.List.{length-map}
use Rattle.std.specs.List.{AllByRecursion, IsDistinct, list_all}
use Rattle.std.specs.Option.{is_some, unwrap_or}
use Rattle.base_core.specs.declared.ids.ColumnNo.{ColumnNo}
use Rattle.base_core.specs.declared.value.Value.{Value}
use Rattle.base_core.specs.declared.value.Value.TheVariants.{Null, Int}
use Rattle.schema_core.specs.declared.changes.NewRow.{NewRow}
use Rattle.schema_core.specs.declared.changes.RowCell.{RowCell}
use Rattle.schema_core.specs.declared.changes.RowCell.TheVariants.{Given}
use Rattle.schema_core.specs.declared.changes.RowChanges.{RowChanges}
use Rattle.schema_core.specs.declared.table.ColumnSpec.{ColumnSpec}
use Rattle.schema_core.specs.declared.table.TableSpec.{TableSpec}
use Rattle.schema_core.specs.Apply.{next_key, wants_key, with_cells, with_key}
use Rattle.schema_core.specs.Catalog.{Catalog, spec_of}
use Rattle.schema_core.specs.Tables.{Legal, Rows, Tables, is_created, given_value}
use Rattle.base_core.proofs.Lists.{every_append}
use Rattle.table_laws.proofs.RowFits.{and_true}
use Rattle.flush_order.specs.Cells.{cells_cleared, first_cells, is_late, late_name, new_at, no_row, table_at}
use Rattle.flush_order.specs.Orders.{insert_order, place_of_gone}
use Rattle.row_order.specs.Places.{is_among}
use Rattle.flush_order.specs.Refers.{new_refers}
use Rattle.flush_order.specs.Sorted.{Place}
use Rattle.flush_plan.specs.Flushing.{Keys, Sofar, value_of_cell}
use Rattle.flush_writes.specs.Writes.{late_gone, place_of_changed, writes_some}
use Rattle.flush_plan.specs.Stating.{Edit, all_placed, blend, edit_changed, edit_gone, edit_new, edits, is_present, old_row, place_of_new, put_cells, row_at, stated_tables, written_rows}
use Rattle.session_laws.proofs.Plans.Drawn.{drawn_under}
use Rattle.session_laws.specs.Plans.Laws.{IsComplete, IsProjected, before, changes_to_write}
use Rattle.session_laws.specs.Plans.Premises.{Ends, IsSorted}
use Rattle.session_laws.proofs.Plans.Between.{Comes, columns, early_part, legal_cells}
use Rattle.session_laws.proofs.Plans.Blend.{Long, blend_again, blend_long, legal_is_long, nulls, nulls_are_long}
use Rattle.session_laws.proofs.Plans.Editing.{AreApart, IsEdit, at_edits, edit_cases}
use Rattle.session_laws.proofs.Plans.Inserting.{News}
use Rattle.session_laws.proofs.Plans.Items.{all_at, all_map_of, all_members, mapped_member, member_all, member_split}
use Rattle.session_laws.proofs.Plans.Newness.{Facts, facts, new_apart, new_free, new_fresh}
use Rattle.session_laws.proofs.Plans.Orders.{order_distinct, order_within}
use Rattle.session_laws.proofs.Plans.Placing.{Leads, Placed, placed_step}
use Rattle.session_laws.proofs.Plans.Rowing.{NullLate, drawn_null, drawn_whole, null_blend, null_first}
use Rattle.session_laws.proofs.Plans.Stated.{all_from, edits_apart, new_case, stated_cover, stated_new, stated_other, stated_sorted}
use Rattle.session_laws.proofs.Plans.Facts.{none_some, same_some, true_false}

-- ---- lengths

pub whole_is_long : (cs : List ColumnSpec) (row : List Value) → length row ≡ length cs → Long cs row
whole_is_long [] [] e = tt
whole_is_long [] (v ∷ row) e = absurd (omega (arith, e))
whole_is_long (c ∷ cs) [] e = absurd (omega (arith, e))
whole_is_long (c ∷ cs) (v ∷ row) e = whole_is_long cs row (omega (arith, e))

pub long_put : (keys : Keys) (cs : List ColumnSpec) (cells : List RowCell) → Long cs (map given_value cells) → Long cs (map (value_of_cell keys) cells)
long_put keys [] [] l = tt
long_put keys [] (cell ∷ cells) l = absurd l
long_put keys (c ∷ cs) [] l = absurd l
long_put keys (c ∷ cs) (cell ∷ cells) l = long_put keys cs cells l

long_first : (t : ColumnSpec → Bool) (keys : Keys) (cs : List ColumnSpec) (cells : List RowCell) → Long cs (map given_value cells) → Long cs (map (value_of_cell keys) (cells_cleared t (Given Null) cs cells))
long_first t keys [] [] l = tt
long_first t keys [] (cell ∷ cells) l = absurd l
long_first t keys (c ∷ cs) [] l = absurd l
long_first t keys (c ∷ cs) (cell ∷ cells) l = long_first t keys cs cells l

long_keyed : (cs : List ColumnSpec) (key : Value) (row : List Value) → Long cs row → Long cs (with_key cs key row)
long_keyed [] key [] l = tt
long_keyed [] key (v ∷ row) l = absurd l
long_keyed (c ∷ cs) key [] l = absurd l
long_keyed (c ∷ cs) key (v ∷ row) l = long_keyed cs key row l

long_under : (spec : TableSpec) (row placed : List Value) (key : Option ℤ) → Long spec.columns row → drawn_under spec row key ≡ Some placed → Long spec.columns placed
long_under spec row placed None l e = absurd (none_some placed e)
long_under spec row placed (Some n) l e = subst (Long spec.columns) (same_some (with_key spec.columns (Int n) row) placed e) (long_keyed spec.columns (Int n) row l)

long_by : (spec : TableSpec) (rows : Rows) (row placed : List Value) (b : Bool) → Long spec.columns row → cond b (drawn_under spec row (next_key rows)) (Some row) ≡ Some placed → Long spec.columns placed
long_by spec rows row placed true l e = long_under spec row placed (next_key rows) l e
long_by spec rows row placed false l e = subst (Long spec.columns) (same_some row placed e) l

long_set : (cs : List ColumnSpec) (row : List Value) (k : ℕ) (v : Value) → Long cs row → Long cs (set row k v)
long_set cs [] zero v l = l
long_set cs [] (suc k) v l = l
long_set [] (x ∷ row) k v l = absurd l
long_set (c ∷ cs) (x ∷ row) zero v l = l
long_set (c ∷ cs) (x ∷ row) (suc k) v l = long_set cs row k v l

long_cells : (cs : List ColumnSpec) (row : List Value) (cells : List (ColumnNo × Value)) → Long cs row → Long cs (with_cells row cells)
long_cells cs row [] l = l
long_cells cs row (cell ∷ cells) l = long_cells cs (set row cell.0.0 cell.1) cells (long_set cs row cell.0.0 cell.1 l)

edit_row : (schema : Catalog) (edit other : Edit) (row x : List Value) → other ≡ edit → edit.1 ≡ Some row → other.1 ≡ Some x → Long (columns schema other.0) x → Long (columns schema edit.0) row
edit_row schema edit other row x same e is long =
    subst (λ q. Long (columns schema q) row) (ap (λ d. d.0) same) (subst (Long (columns schema other.0)) (same_some x row (sym is ∙ ap (λ d. d.1) same ∙ e)) long)

-- the tables that changes of legal tables state, with the order and the keys of the new rows
pub record IsStated (schema : Catalog) (old : Tables) (changes : RowChanges) (order : List ℕ) (placed : Sofar) (after : Tables) : Type 0 where
  pub projected : IsProjected schema changes
  pub sorted : IsSorted old
  pub legal : Legal schema old
  pub ordered : insert_order schema changes ≡ Ok order
  pub keys : all_placed schema changes old order ≡ Some placed
  pub states : stated_tables schema old (changes_to_write changes) order ≡ Some after

pub told_of : (schema : Catalog) (old : Tables) (changes : RowChanges) (order : List ℕ) (placed : Sofar) (after : Tables) → IsComplete schema old changes order placed after → IsStated schema old changes order placed after
told_of schema old changes order placed after complete = record {
  projected = complete.projected;
  sorted = complete.sorted;
  legal = complete.legal;
  ordered = complete.ordered;
  keys = complete.keys;
  states = complete.states;
}

module _ (schema : Catalog) (old : Tables) (changes : RowChanges) (order : List ℕ) (placed : Sofar) (after : Tables) (told : IsStated schema old changes order placed after) where
  abbrev pub known_facts : Facts schema old changes order placed after
  known_facts = facts schema old changes order placed after told.keys told.states

  pub leads : Leads schema changes (before old) order placed
  unfolding all_placed
  leads = told.keys

  pub once : IsDistinct eqb order
  once = order_distinct (new_refers schema changes) (length changes.fresh) order told.ordered

  pub within : (place : ℕ) → is_among order place ≡ true → place < length changes.fresh
  within place among = order_within (new_refers schema changes) (length changes.fresh) order place told.ordered among

  pub found_placed : (place : ℕ) → is_among order place ≡ true → Placed schema changes order placed place
  found_placed place among = placed_step schema changes order (before old) placed place once told.sorted leads (new_apart schema old changes order placed after known_facts) among

  pub new_long : (place : ℕ) → is_among order place ≡ true → Long (spec_of schema (table_at changes place)).columns (map given_value (new_at changes place).cells)
  new_long place among =
      whole_is_long (spec_of schema (table_at changes place)).columns (map given_value (new_at changes place).cells)
      (length-map (new_at changes place).cells given_value
      ∙ all_at (λ (row : NewRow). length row.cells ≡ length (spec_of schema row.name.table).columns) changes.fresh place no_row told.projected.new_cells (within place among))

  pub created_parts : (list_all (λ row. is_created old row.name.table) changes.fresh ≡ true) × (list_all (λ row. is_created old row.name.table) (written_rows changes) ≡ true) × (list_all (λ row. is_created old row.name.table) changes.gone ≡ true)
  created_parts =
      let a = and_true (list_all (λ row. is_created old row.name.table) changes.fresh && list_all (λ row. is_created old row.name.table) (written_rows changes)) (list_all (λ row. is_created old row.name.table) changes.gone) known_facts.tables in
      let b = and_true (list_all (λ row. is_created old row.name.table) changes.fresh) (list_all (λ row. is_created old row.name.table) (written_rows changes)) a.0 in
      (b.0, b.1, a.1)

  pub new_created : (place : ℕ) → is_among order place ≡ true → is_created old (table_at changes place) ≡ true
  new_created place among =
      all_at (λ (row : NewRow). is_created old row.name.table ≡ true) changes.fresh place no_row (all_from (λ row. is_created old row.name.table) changes.fresh created_parts.0) (within place among)

  pub all_created : (edit : Edit) → IsEdit edit (edits schema old changes order placed) → is_created old edit.0.0 ≡ true
  all_created edit is =
      member_all (λ e. is_created old e.0.0 ≡ true) (edits schema old changes order placed) edit
      (every_append (λ e. is_created old e.0.0 ≡ true) (map (edit_gone schema) changes.gone ++ map (edit_changed old placed.keys) (written_rows changes)) (map (edit_new schema changes placed) order)
      (every_append (λ e. is_created old e.0.0 ≡ true) (map (edit_gone schema) changes.gone) (map (edit_changed old placed.keys) (written_rows changes))
      (all_map_of (λ e. is_created old e.0.0 ≡ true) (edit_gone schema) changes.gone (all_from (λ row. is_created old row.name.table) changes.gone created_parts.2))
      (all_map_of (λ e. is_created old e.0.0 ≡ true) (edit_changed old placed.keys) (written_rows changes) (all_from (λ row. is_created old row.name.table) (written_rows changes) created_parts.1)))
      (all_map_of (λ e. is_created old e.0.0 ≡ true) (edit_new schema changes placed) order (all_members (λ p. is_created old (table_at changes p) ≡ true) order new_created)))
      is

  pub apart : AreApart (edits schema old changes order placed)
  apart = edits_apart schema old changes order placed after told.sorted known_facts told.projected.gone_once told.projected.changed_once told.projected.gone_apart

  -- the row that an INSERT writes is the stated one before what is written late
  pub stands : (place : ℕ) (row : List Value) → is_among order place ≡ true → row_at placed.tables (place_of_new changes placed.keys place) ≡ Some row → (written : List Value) × (row_at after (place_of_new changes placed.keys place) ≡ Some written) × (row ≡ early_part schema changes (place_of_new changes placed.keys place) written)
  stands place row among at =
      let cs : List ColumnSpec = (spec_of schema (table_at changes place)).columns in
      let found = found_placed place among in
      let same : found.step.row ≡ row = same_some found.step.row row (sym found.stands ∙ at) in
      let first : List Value = map (value_of_cell found.sofar.keys) (first_cells schema changes place) in
      let long_row : Long cs row = subst (Long cs) same (long_by (spec_of schema (table_at changes place)) found.step.rows first found.step.row (wants_key (spec_of schema (table_at changes place)) first) (long_first (is_late schema changes (table_at changes place)) found.sofar.keys cs (new_at changes place).cells (new_long place among)) found.step.draws) in
      let null_row : NullLate (late_name schema changes (table_at changes place)) cs row = subst (NullLate (late_name schema changes (table_at changes place)) cs) same
      (drawn_null (late_name schema changes (table_at changes place)) (spec_of schema (table_at changes place)) found.step.rows first found.step.row (told.projected.fit.no_key (table_at changes place)) (null_first (late_name schema changes (table_at changes place)) found.sofar.keys cs (new_at changes place).cells) found.step.draws) in
      let others : List Value = map (value_of_cell placed.keys) (new_at changes place).cells in
      let written : List Value = blend (is_late schema changes (table_at changes place)) cs row others in (
        written,
        stated_new schema old changes order placed after told.sorted known_facts apart place among (new_created place among)
            ∙ ap (λ o. Some (blend (is_late schema changes (table_at changes place)) cs (unwrap_or o []) others)) at,
        null_blend (late_name schema changes (table_at changes place)) cs row long_row null_row
            ∙ sym (blend_again (late_name schema changes (table_at changes place)) cs row others (nulls cs) long_row (long_put placed.keys cs (new_at changes place).cells (new_long place among)) (nulls_are_long cs)),
      )

  pub news : News schema changes old after placed order
  news = record {
    once = once;
    free = new_free schema old changes order placed after known_facts;
    apart = new_apart schema old changes order placed after known_facts;
    fresh = new_fresh schema old changes order placed after known_facts;
    stands = stands;
    whole = λ place sofar next step legal. drawn_whole (spec_of schema (table_at changes place)) step.rows (map (value_of_cell sofar.keys) (first_cells schema changes place)) step.row legal step.draws;
    cover = stated_cover schema old changes order placed after told.sorted known_facts apart all_created;
  }

  pub stated_edit : (edit : Edit) → IsEdit edit (edits schema old changes order placed) → row_at after edit.0 ≡ edit.1
  stated_edit edit is =
      ap (λ t. row_at t edit.0) known_facts.is
      ∙ at_edits old (edits schema old changes order placed) edit told.sorted (all_created edit is) apart is

  -- a new row as it was placed has a cell for each column
  placed_long : (place : ℕ) → is_among order place ≡ true → Long (spec_of schema (table_at changes place)).columns (unwrap_or (row_at placed.tables (place_of_new changes placed.keys place)) [])
  placed_long place among =
      let spec : TableSpec = spec_of schema (table_at changes place) in
      let found = found_placed place among in
      let first : List Value = map (value_of_cell found.sofar.keys) (first_cells schema changes place) in
      subst (λ o. Long spec.columns (unwrap_or o [])) (sym found.stands)
      (long_by spec found.step.rows first found.step.row (wants_key spec first) (long_first (is_late schema changes (table_at changes place)) found.sofar.keys spec.columns (new_at changes place).cells (new_long place among)) found.step.draws)

  pub written_there : AllByRecursion (λ row. is_present old (place_of_changed row) ≡ true) (written_rows changes)
  written_there =
      all_from (λ row. is_present old (row.name.table, row.key)) (written_rows changes)
      (and_true (list_all (λ row. is_present old (row.name.table, row.key)) (written_rows changes)) (list_all (λ row. not (writes_some (late_gone schema changes row).1) || is_present old (place_of_gone schema row)) changes.gone) known_facts.rows).0

  pub cleared_there : AllByRecursion (λ row. (not (writes_some (late_gone schema changes row).1) || is_present old (place_of_gone schema row)) ≡ true) changes.gone
  cleared_there =
      all_from (λ row. not (writes_some (late_gone schema changes row).1) || is_present old (place_of_gone schema row)) changes.gone
      (and_true (list_all (λ row. is_present old (row.name.table, row.key)) (written_rows changes)) (list_all (λ row. not (writes_some (late_gone schema changes row).1) || is_present old (place_of_gone schema row)) changes.gone) known_facts.rows).1

  old_long : (q : Place) (o : Option (List Value)) → row_at old q ≡ o → is_some o ≡ true → Long (columns schema q) (unwrap_or o [])
  old_long q None e there = absurd (true_false (sym there))
  old_long q (Some row) e there = legal_is_long (columns schema q) row (legal_cells schema old told.legal q row e)

  edit_long : (edit : Edit) (row : List Value) → IsEdit edit (edits schema old changes order placed) → edit.1 ≡ Some row → Long (columns schema edit.0) row
  edit_long edit row is e =
      elim (member_split edit (map (edit_gone schema) changes.gone ++ map (edit_changed old placed.keys) (written_rows changes)) (map (edit_new schema changes placed) order) is) [
        | inr new ↦
            let p = new_case schema old changes order placed after told.sorted known_facts order edit new in
            let cs : List ColumnSpec = (spec_of schema (table_at changes p.0)).columns in
            let long = blend_long (late_name schema changes (table_at changes p.0)) cs (unwrap_or (row_at placed.tables (place_of_new changes placed.keys p.0)) []) (map (value_of_cell placed.keys) (new_at changes p.0).cells) (placed_long p.0 p.1) (long_put placed.keys cs (new_at changes p.0).cells (new_long p.0 p.1)) in
            edit_row schema edit (edit_new schema changes placed p.0) row _ p.2 e refl long
        | inl before ↦ elim (member_split edit (map (edit_gone schema) changes.gone) (map (edit_changed old placed.keys) (written_rows changes)) before) [
          | inl gone ↦ let g = mapped_member (edit_gone schema) edit changes.gone gone in absurd (none_some row (ap (λ d. d.1) g.2 ∙ e))
          | inr changed ↦
              let r = mapped_member (edit_changed old placed.keys) edit (written_rows changes) changed in
              let there : is_present old (place_of_changed r.0) ≡ true = member_all (λ row. is_present old (place_of_changed row) ≡ true) (written_rows changes) r.0 written_there r.1 in
              edit_row schema edit (edit_changed old placed.keys r.0) row _ r.2 e refl (long_cells (columns schema (place_of_changed r.0)) (old_row old r.0) (put_cells (value_of_cell placed.keys) r.0.cells) (old_long (place_of_changed r.0) (row_at old (place_of_changed r.0)) refl there))
        ]
      ]

  -- an old or stated row has a cell for each column
  pub told_long : (q : Place) (row : List Value) → Comes old after q row → Long (columns schema q) row
  told_long q row (inl at) = legal_is_long (columns schema q) row (legal_cells schema old told.legal q row at)
  told_long q row (inr at) =
      elim (edit_cases (edits schema old changes order placed) q) [
        | inr still ↦ legal_is_long (columns schema q) row (legal_cells schema old told.legal q row (sym (stated_other schema old changes order placed after told.sorted known_facts q still) ∙ at))
        | inl found ↦ subst (λ p. Long (columns schema p) row) found.2 (edit_long found.0 row found.1 (sym (stated_edit found.0 found.1) ∙ ap (row_at after) found.2 ∙ at))
      ]

pub ends : (schema : Catalog) (old : Tables) (changes : RowChanges) (order : List ℕ) (placed : Sofar) (after : Tables) → IsComplete schema old changes order placed after → Ends schema changes old after
ends schema old changes order placed after complete = record {
  fit = complete.projected.fit;
  sorted_old = complete.sorted;
  sorted_stated = stated_sorted schema old changes order placed after complete.sorted (known_facts schema old changes order placed after (told_of schema old changes order placed after complete));
  legal_old = complete.legal;
  legal_stated = complete.legal_after;
  clear = complete.clear;
}
