-- Tables between the old ones and the stated ones: each row has the columns that are written early of an old or a stated row, and those that are written late too, or NULL. They are legal where their foreign keys name rows.
use Rattle.std.proofs.Common.{◌≡◌, ◌⊎◌, inl, inr, ℕ, Bool, true, false, not, ◌&&◌, List, [], ◌∷◌, Option, None, Some, refl, sym, ap, ◌∙◌, subst}
use Rattle.std.specs.List.{AllByRecursion, list_all, list_any}
use Rattle.std.specs.Option.{is_some, option_and_then}
use Rattle.base_core.specs.declared.ids.TableId.{TableId}
use Rattle.base_core.specs.declared.value.Value.{Value}
use Rattle.base_core.specs.Order.{values_cmp}
use Rattle.schema_core.specs.declared.changes.RowChanges.{RowChanges}
use Rattle.schema_core.specs.declared.table.ColumnSpec.{ColumnSpec}
use Rattle.schema_core.specs.declared.table.ForeignSpec.{ForeignSpec}
use Rattle.schema_core.specs.declared.table.TableSpec.{TableSpec}
use Rattle.schema_core.specs.Catalog.{Catalog, IsTable, spec_of, target_of}
use Rattle.schema_core.specs.Tables.{Legal, Rows, Tables, cells_of, collide, dangles, has_null, has_row, is_created, is_legal_row, key_of, repeats_unique, row_under, rows_in, same_values, some_dangles, table_cmp}
use Rattle.table_laws.proofs.Entries.{all_both, all_lookup, all_map, any_none, none_any}
use Rattle.table_laws.proofs.SameValues.{same_key, same_table, same_turned, values_turned}
use Rattle.flush_order.specs.Cells.{is_late, late_name}
use Rattle.flush_order.specs.Sorted.{Place}
use Rattle.flush_plan.specs.Stating.{blend, is_present, row_at}
use Rattle.session_laws.specs.Plans.Premises.{Ends, IsSorted}
use Rattle.session_laws.proofs.Plans.At.{each_row, row_found, rows_sorted}
use Rattle.session_laws.proofs.Plans.Blend.{FitsLate, Long, blend_early, blend_fits, blend_key, blend_late, legal_fits_late, legal_is_long, nulls, nulls_are_long, nulls_fit_late, nulls_null}
use Rattle.session_laws.proofs.Plans.Lookups.{all_found}
use Rattle.session_laws.proofs.Plans.Facts.{none_some, some_of}
use Rattle.base_core.proofs.Exact.{values_total}
use Rattle.schema_core.proofs.TableOrder.{tables_total}

-- ---- a row that is found

pub record Found (tables : Tables) (place : Place) (row : List Value) : Type 0 where
  pub rows : Rows
  pub table : rows_in tables place.0 ≡ Some rows
  pub under : row_under rows place.1 ≡ Some row

found_in : (tables : Tables) (place : Place) (row : List Value) (o : Option Rows) → rows_in tables place.0 ≡ o → option_and_then (λ rows. row_under rows place.1) o ≡ Some row → Found tables place row
found_in tables place row None e at = absurd (none_some row at)
found_in tables place row (Some rows) e at = record { rows = rows; table = e; under = at }

pub found : (tables : Tables) (place : Place) (row : List Value) → row_at tables place ≡ Some row → Found tables place row
found tables place row at = found_in tables place row (rows_in tables place.0) refl at

pub at_found : (tables : Tables) (table : TableId) (key row : List Value) (rows : Rows) → rows_in tables table ≡ Some rows → row_under rows key ≡ Some row → row_at tables (table, key) ≡ Some row
at_found tables table key row rows e under = ap (option_and_then (λ r. row_under r key)) e ∙ under

-- ---- what legal tables say of a row that is found

module _ (schema : Catalog) (tables : Tables) (legal : Legal schema tables) where
  pub legal_key : (place : Place) (row : List Value) → row_at tables place ≡ Some row → key_of (spec_of schema place.0) row ≡ place.1
  legal_key place row at =
      let f = found tables place row at in
      row_found (λ table rows row. key_of (spec_of schema table) row.1 ≡ row.0) tables place.0 f.rows place.1 row legal.keys f.table f.under

  pub legal_cells : (place : Place) (row : List Value) → row_at tables place ≡ Some row → is_legal_row (spec_of schema place.0) row ≡ true
  legal_cells place row at =
      let f = found tables place row at in
      row_found (λ table rows row. is_legal_row (spec_of schema table) row.1 ≡ true) tables place.0 f.rows place.1 row legal.cells f.table f.under

  pub legal_bound : (place : Place) (row : List Value) → row_at tables place ≡ Some row → AllByRecursion (λ foreign. dangles schema tables (spec_of schema place.0) row foreign ≡ false) (spec_of schema place.0).foreigns
  legal_bound place row at =
      let f = found tables place row at in
      let all : AllByRecursion (λ c. AllByRecursion (λ r. some_dangles schema tables (spec_of schema c.0) r.1 ≡ false) c.1) tables =
      all_map (λ c. list_any (λ r. some_dangles schema tables (spec_of schema c.0) r.1) c.1 ≡ false) (λ c. AllByRecursion (λ r. some_dangles schema tables (spec_of schema c.0) r.1 ≡ false) c.1)
      (λ c e. any_none (λ r. some_dangles schema tables (spec_of schema c.0) r.1) c.1 e)
      tables (any_none (λ c. list_any (λ r. some_dangles schema tables (spec_of schema c.0) r.1) c.1) tables legal.foreigns) in
      any_none (dangles schema tables (spec_of schema place.0) row) (spec_of schema place.0).foreigns
      (row_found (λ table rows r. some_dangles schema tables (spec_of schema table) r.1 ≡ false) tables place.0 f.rows place.1 row all f.table f.under)

  pub legal_apart : (table : TableId) (key other : List Value) (row second : List Value) → row_at tables (table, key) ≡ Some row → row_at tables (table, other) ≡ Some second → same_values key other ≡ false → AllByRecursion (λ unique. collide (spec_of schema table) unique row second ≡ false) (spec_of schema table).uniques
  legal_apart table key other row second at at_second differs =
      let f = found tables (table, key) row at in
      let g = found tables (table, other) second at_second in
      let alone : repeats_unique (spec_of schema table) f.rows key row ≡ false = row_found (λ t rows r. repeats_unique (spec_of schema t) rows r.0 r.1 ≡ false) tables table f.rows key row legal.uniques f.table f.under in
      let under : row_under f.rows other ≡ Some second = subst (λ rows. row_under rows other ≡ Some second) (some_same g.rows f.rows (sym g.table ∙ f.table)) g.under in
      all_map (λ unique. list_any (λ o. not (same_values key o.0) && collide (spec_of schema table) unique row o.1) f.rows ≡ false) (λ unique. collide (spec_of schema table) unique row second ≡ false)
      (λ unique e. sym (ap (λ b. not b && collide (spec_of schema table) unique row second) differs)
      ∙ all_lookup values_cmp same_key (λ o. (not (same_values key o.0) && collide (spec_of schema table) unique row o.1) ≡ false) f.rows other second (any_none (λ o. not (same_values key o.0) && collide (spec_of schema table) unique row o.1) f.rows e) under)
      (spec_of schema table).uniques (any_none (λ unique. list_any (λ o. not (same_values key o.0) && collide (spec_of schema table) unique row o.1) f.rows) (spec_of schema table).uniques alone)
    where
      some_same : (x y : Rows) → Some x ≡ Some y → x ≡ y
      some_same x y e = cc

-- a table that is created is declared
pub is_declared : (schema : Catalog) (tables : Tables) → Legal schema tables → (table : TableId) → is_created tables table ≡ true → IsTable schema table
is_declared schema tables legal table created =
    let rows = some_of (rows_in tables table) created in
    all_lookup table_cmp same_table (λ c. IsTable schema c.0) tables table rows.0 legal.created rows.1

-- ---- a foreign key that names a row

has_row_at : (key : List Value) (o : Option Rows) → has_row key o ≡ is_some (option_and_then (λ rows. row_under rows key) o)
has_row_at key None = refl
has_row_at key (Some rows) = refl

dangles_by : Catalog → Tables → List Value → Option TableId → Bool
dangles_by schema tables key target = not (has_null key) && not (has_row key (option_and_then (rows_in tables) target))

move_step : (schema : Catalog) (from to : Tables) (key : List Value) (target : Option TableId) (b : Bool) → has_null key ≡ b → (not b && not (has_row key (option_and_then (rows_in from) target))) ≡ false → ((t : TableId) → target ≡ Some t → has_null key ≡ false → is_present from (t, key) ≡ true → is_present to (t, key) ≡ true) → (not b && not (has_row key (option_and_then (rows_in to) target))) ≡ false
move_step schema from to key target true e d move = refl
move_step schema from to key None false e d move = d
move_step schema from to key (Some t) false e d move =
    let was : is_present from (t, key) ≡ true = sym (has_row_at key (rows_in from t)) ∙ not_false (has_row key (rows_in from t)) d in
    ap not (has_row_at key (rows_in to t) ∙ move t refl e was)
  where
    not_false : (b : Bool) → not b ≡ false → b ≡ true
    not_false true f = refl
    not_false false f = cc

-- a foreign key with the cells of a row whose own names a row in other tables
pub moved : (schema : Catalog) (from to : Tables) (spec : TableSpec) (row other : List Value) (foreign : ForeignSpec) → cells_of spec row foreign.columns ≡ cells_of spec other foreign.columns → dangles schema from spec other foreign ≡ false → ((t : TableId) → target_of schema foreign ≡ Some t → has_null (cells_of spec other foreign.columns) ≡ false → is_present from (t, cells_of spec other foreign.columns) ≡ true → is_present to (t, cells_of spec other foreign.columns) ≡ true) → dangles schema to spec row foreign ≡ false
moved schema from to spec row other foreign same named move =
    ap (λ key. not (has_null key) && not (has_row key (option_and_then (rows_in to) (target_of schema foreign)))) same
    ∙ move_step schema from to (cells_of spec other foreign.columns) (target_of schema foreign) (has_null (cells_of spec other foreign.columns)) refl named move

pub null_bound : (schema : Catalog) (tables : Tables) (spec : TableSpec) (row : List Value) (foreign : ForeignSpec) → has_null (cells_of spec row foreign.columns) ≡ true → dangles schema tables spec row foreign ≡ false
null_bound schema tables spec row foreign e = ap (λ b. not b && not (has_row (cells_of spec row foreign.columns) (option_and_then (rows_in tables) (target_of schema foreign)))) e

pub all_forall : {A B : Type 0} (R : A → B → Type 0) (ys : List B) → ((x : A) → AllByRecursion (R x) ys) → AllByRecursion (λ y. (x : A) → R x y) ys
all_forall R [] each = tt
all_forall R (y ∷ ys) each = (λ x. (each x).0, all_forall R ys (λ x. (each x).1))

-- ---- between

abbrev pub columns : Catalog → Place → List ColumnSpec
columns schema place = (spec_of schema place.0).columns

-- the row is that of the old tables, or of the stated ones
abbrev pub Comes : Tables → Tables → Place → List Value → Type 0
Comes old stated place row = (row_at old place ≡ Some row) ⊎ (row_at stated place ≡ Some row)

-- the row with NULL in what is written late
abbrev pub early_part : Catalog → RowChanges → Place → List Value → List Value
early_part schema changes place row = blend (is_late schema changes place.0) (columns schema place) row (nulls (columns schema place))

module _ (schema : Catalog) (changes : RowChanges) (old stated : Tables) (ends : Ends schema changes old stated) where
  pub record Good (place : Place) (row : List Value) : Type 0 where
    pub early : List Value
    pub late : List Value
    pub is : row ≡ blend (is_late schema changes place.0) (columns schema place) early late
    pub from : Comes old stated place early
    pub after : Comes old stated place late ⊎ ((late ≡ nulls (columns schema place)) × ((row_at old place ≡ None) ⊎ (row_at stated place ≡ None)))

  pub comes_key : (place : Place) (row : List Value) → Comes old stated place row → key_of (spec_of schema place.0) row ≡ place.1
  comes_key place row (inl at) = legal_key schema old ends.legal_old place row at
  comes_key place row (inr at) = legal_key schema stated ends.legal_stated place row at

  pub comes_legal : (place : Place) (row : List Value) → Comes old stated place row → is_legal_row (spec_of schema place.0) row ≡ true
  comes_legal place row (inl at) = legal_cells schema old ends.legal_old place row at
  comes_legal place row (inr at) = legal_cells schema stated ends.legal_stated place row at

  pub comes_long : (place : Place) (row : List Value) → Comes old stated place row → Long (columns schema place) row
  comes_long place row comes = legal_is_long (columns schema place) row (comes_legal place row comes)

  late_long : (place : Place) (row : List Value) → Comes old stated place row ⊎ ((row ≡ nulls (columns schema place)) × ((row_at old place ≡ None) ⊎ (row_at stated place ≡ None))) → Long (columns schema place) row
  late_long place row (inl comes) = comes_long place row comes
  late_long place row (inr none) = subst (Long (columns schema place)) (sym none.0) (nulls_are_long (columns schema place))

  late_fits : (place : Place) (row : List Value) → Comes old stated place row ⊎ ((row ≡ nulls (columns schema place)) × ((row_at old place ≡ None) ⊎ (row_at stated place ≡ None))) → FitsLate (late_name schema changes place.0) (columns schema place) row
  late_fits place row (inl comes) = legal_fits_late (late_name schema changes place.0) (columns schema place) row (comes_legal place row comes)
  late_fits place row (inr none) = subst (FitsLate (late_name schema changes place.0) (columns schema place)) (sym none.0) (nulls_fit_late (late_name schema changes place.0) (columns schema place) (ends.fit.nullable place.0))

  pub good_key : (place : Place) (row : List Value) → Good place row → key_of (spec_of schema place.0) row ≡ place.1
  good_key place row good =
      ap (key_of (spec_of schema place.0)) good.is
      ∙ blend_key (late_name schema changes place.0) (columns schema place) good.early good.late (comes_long place good.early good.from) (late_long place good.late good.after) (ends.fit.no_key place.0)
      ∙ comes_key place good.early good.from

  pub good_legal : (place : Place) (row : List Value) → Good place row → is_legal_row (spec_of schema place.0) row ≡ true
  good_legal place row good =
      ap (is_legal_row (spec_of schema place.0)) good.is
      ∙ blend_fits (late_name schema changes place.0) (columns schema place) good.early good.late (comes_legal place good.early good.from) (late_long place good.late good.after) (late_fits place good.late good.after)

  -- the cells of each unique constraint are those of the early row
  good_uniques : (place : Place) (row : List Value) (good : Good place row) → AllByRecursion (λ unique. cells_of (spec_of schema place.0) row unique ≡ cells_of (spec_of schema place.0) good.early unique) (spec_of schema place.0).uniques
  good_uniques place row good =
      all_map (λ unique. list_any (late_name schema changes place.0) unique ≡ false) (λ unique. cells_of (spec_of schema place.0) row unique ≡ cells_of (spec_of schema place.0) good.early unique)
      (λ unique e. ap (λ r. cells_of (spec_of schema place.0) r unique) good.is ∙ blend_early (late_name schema changes place.0) (columns schema place) good.early good.late unique (comes_long place good.early good.from) (late_long place good.late good.after) e)
      (spec_of schema place.0).uniques (ends.fit.uniques place.0)

  -- old and stated rows under two keys do not collide
  comes_apart : (table : TableId) (key other : List Value) (row second : List Value) → Comes old stated (table, key) row → Comes old stated (table, other) second → same_values key other ≡ false → AllByRecursion (λ unique. collide (spec_of schema table) unique row second ≡ false) (spec_of schema table).uniques
  comes_apart table key other row second (inl one) (inl two) differs = legal_apart schema old ends.legal_old table key other row second one two differs
  comes_apart table key other row second (inl one) (inr two) differs = ends.clear.apart table key other row second one two differs
  comes_apart table key other row second (inr one) (inl two) differs =
      all_map (λ unique. collide (spec_of schema table) unique second row ≡ false) (λ unique. collide (spec_of schema table) unique row second ≡ false)
      (λ unique e. values_turned (cells_of (spec_of schema table) row unique) (cells_of (spec_of schema table) second unique) ∙ e)
      (spec_of schema table).uniques (ends.clear.apart table other key second row two one (same_turned other key ∙ differs))
  comes_apart table key other row second (inr one) (inr two) differs = legal_apart schema stated ends.legal_stated table key other row second one two differs

  pub good_apart : (table : TableId) (key other : List Value) (row second : List Value) → Good (table, key) row → Good (table, other) second → same_values key other ≡ false → AllByRecursion (λ unique. collide (spec_of schema table) unique row second ≡ false) (spec_of schema table).uniques
  good_apart table key other row second one two differs =
      all_both (λ unique. cells_of (spec_of schema table) row unique ≡ cells_of (spec_of schema table) one.early unique)
      (λ unique. (cells_of (spec_of schema table) second unique ≡ cells_of (spec_of schema table) two.early unique) × (collide (spec_of schema table) unique one.early two.early ≡ false))
      (λ unique. collide (spec_of schema table) unique row second ≡ false)
      (λ unique p q. (λ i. not (has_null (p i)) && same_values (p i) (q.0 i)) ∙ q.1)
      (spec_of schema table).uniques (good_uniques (table, key) row one)
      (all_both (λ unique. cells_of (spec_of schema table) second unique ≡ cells_of (spec_of schema table) two.early unique) (λ unique. collide (spec_of schema table) unique one.early two.early ≡ false)
      (λ unique. (cells_of (spec_of schema table) second unique ≡ cells_of (spec_of schema table) two.early unique) × (collide (spec_of schema table) unique one.early two.early ≡ false))
      (λ unique p q. (p, q)) (spec_of schema table).uniques (good_uniques (table, other) second two) (comes_apart table key other one.early two.early one.from two.from differs))

  -- where the cells of a foreign key come from: a row that is bound in the old tables, or in the stated ones, or there is a NULL
  abbrev pub Source : Tables → Place → List Value → ForeignSpec → Type 0
  Source tables place row foreign = (other : List Value) × (row_at tables place ≡ Some other) × (cells_of (spec_of schema place.0) row foreign.columns ≡ cells_of (spec_of schema place.0) other foreign.columns) × (dangles schema tables (spec_of schema place.0) other foreign ≡ false)

  abbrev pub FromRow : Place → List Value → ForeignSpec → Type 0
  FromRow place row foreign = Source old place row foreign ⊎ (Source stated place row foreign ⊎ (has_null (cells_of (spec_of schema place.0) row foreign.columns) ≡ true))

  abbrev Bound : Place → List Value → ForeignSpec → Type 0
  Bound place other foreign = ((row_at old place ≡ Some other) × (dangles schema old (spec_of schema place.0) other foreign ≡ false)) ⊎ ((row_at stated place ≡ Some other) × (dangles schema stated (spec_of schema place.0) other foreign ≡ false))

  comes_bound : (place : Place) (row : List Value) → Comes old stated place row → AllByRecursion (Bound place row) (spec_of schema place.0).foreigns
  comes_bound place row (inl at) = all_map (λ foreign. dangles schema old (spec_of schema place.0) row foreign ≡ false) (Bound place row) (λ foreign e. inl (at, e)) (spec_of schema place.0).foreigns (legal_bound schema old ends.legal_old place row at)
  comes_bound place row (inr at) = all_map (λ foreign. dangles schema stated (spec_of schema place.0) row foreign ≡ false) (Bound place row) (λ foreign e. inr (at, e)) (spec_of schema place.0).foreigns (legal_bound schema stated ends.legal_stated place row at)

  source_from : (place : Place) (row other : List Value) (foreign : ForeignSpec) → cells_of (spec_of schema place.0) row foreign.columns ≡ cells_of (spec_of schema place.0) other foreign.columns → Bound place other foreign → FromRow place row foreign
  source_from place row other foreign same (inl both) = inl (other, both.0, same, both.1)
  source_from place row other foreign same (inr both) = inr (inl (other, both.0, same, both.1))

  abbrev LateBound : Place → List Value → ForeignSpec → Type 0
  LateBound place late foreign = Bound place late foreign ⊎ (late ≡ nulls (columns schema place))

  late_bound : (place : Place) (late : List Value) → Comes old stated place late ⊎ ((late ≡ nulls (columns schema place)) × ((row_at old place ≡ None) ⊎ (row_at stated place ≡ None))) → (all : (foreigns : List ForeignSpec) → AllByRecursion (λ f. Unit {0}) foreigns) → AllByRecursion (LateBound place late) (spec_of schema place.0).foreigns
  late_bound place late (inl comes) all = all_map (Bound place late) (LateBound place late) (λ foreign b. inl b) (spec_of schema place.0).foreigns (comes_bound place late comes)
  late_bound place late (inr none) all = all_map (λ f. Unit {0}) (LateBound place late) (λ foreign u. inr none.0) (spec_of schema place.0).foreigns (all (spec_of schema place.0).foreigns)

  units : (foreigns : List ForeignSpec) → AllByRecursion (λ f. Unit {0}) foreigns
  units [] = tt
  units (f ∷ fs) = (tt, units fs)

  late_source : (place : Place) (row early late : List Value) (foreign : ForeignSpec) → cells_of (spec_of schema place.0) row foreign.columns ≡ cells_of (spec_of schema place.0) late foreign.columns → Bound place early foreign → LateBound place late foreign → FromRow place row foreign
  late_source place row early late foreign same bound (inl b) = source_from place row late foreign same b
  late_source place row early late foreign same bound (inr none) =
      elim (nulls_null (columns schema place) foreign.columns) [
        | inl empty ↦ source_from place row early foreign (ap (cells_of (spec_of schema place.0) row) empty ∙ sym (ap (cells_of (spec_of schema place.0) early) empty)) bound
        | inr null ↦ inr (inr (ap has_null (same ∙ ap (λ r. cells_of (spec_of schema place.0) r foreign.columns) none) ∙ null))
      ]

  split_source : (place : Place) (row : List Value) (good : Good place row) (foreign : ForeignSpec) → (list_all (late_name schema changes place.0) foreign.columns ≡ true) ⊎ (list_any (late_name schema changes place.0) foreign.columns ≡ false) → Bound place good.early foreign → LateBound place good.late foreign → FromRow place row foreign
  split_source place row good foreign (inl whole) bound late =
      late_source place row good.early good.late foreign (ap (λ r. cells_of (spec_of schema place.0) r foreign.columns) good.is ∙ blend_late (late_name schema changes place.0) (columns schema place) good.early good.late foreign.columns (comes_long place good.early good.from) (late_long place good.late good.after) whole) bound late
  split_source place row good foreign (inr none) bound late =
      source_from place row good.early foreign (ap (λ r. cells_of (spec_of schema place.0) r foreign.columns) good.is ∙ blend_early (late_name schema changes place.0) (columns schema place) good.early good.late foreign.columns (comes_long place good.early good.from) (late_long place good.late good.after) none) bound

  pub good_foreigns : (place : Place) (row : List Value) → Good place row → AllByRecursion (FromRow place row) (spec_of schema place.0).foreigns
  good_foreigns place row good =
      all_both (Bound place good.early) (λ foreign. LateBound place good.late foreign × ((list_all (late_name schema changes place.0) foreign.columns ≡ true) ⊎ (list_any (late_name schema changes place.0) foreign.columns ≡ false))) (FromRow place row)
      (λ foreign b l. split_source place row good foreign l.1 b l.0)
      (spec_of schema place.0).foreigns (comes_bound place good.early good.from)
      (all_both (LateBound place good.late) (λ foreign. (list_all (late_name schema changes place.0) foreign.columns ≡ true) ⊎ (list_any (late_name schema changes place.0) foreign.columns ≡ false)) (λ foreign. LateBound place good.late foreign × ((list_all (late_name schema changes place.0) foreign.columns ≡ true) ⊎ (list_any (late_name schema changes place.0) foreign.columns ≡ false)))
      (λ foreign a b. (a, b)) (spec_of schema place.0).foreigns (late_bound place good.late good.after units) (ends.fit.foreigns place.0))

  -- ---- tables whose rows are good, and bound, are legal

  pub record Between (tables : Tables) : Type 0 where
    pub sorted : IsSorted tables
    pub created : (table : TableId) → is_created tables table ≡ is_created old table
    pub good : (place : Place) (row : List Value) → row_at tables place ≡ Some row → Good place row

  abbrev pub IsBound : Tables → Type 0
  IsBound tables = (place : Place) (row : List Value) → row_at tables place ≡ Some row → AllByRecursion (λ foreign. dangles schema tables (spec_of schema place.0) row foreign ≡ false) (spec_of schema place.0).foreigns

  alone_step : (table : TableId) (key other : List Value) (row second : List Value) (b : Bool) → same_values key other ≡ b → Good (table, key) row → Good (table, other) second → AllByRecursion (λ unique. (not b && collide (spec_of schema table) unique row second) ≡ false) (spec_of schema table).uniques
  alone_step table key other row second true e one two = all_refl (spec_of schema table).uniques
    where
      all_refl : (uniques : List (List (List ℕ))) → AllByRecursion (λ unique. false ≡ false) uniques
      all_refl [] = tt
      all_refl (u ∷ us) = (refl, all_refl us)
  alone_step table key other row second false e one two = good_apart table key other row second one two e

  pub between_legal : (tables : Tables) → Between tables → IsBound tables → Legal schema tables
  between_legal tables b bound = record {
    created = all_found table_cmp tables_total same_table (λ c. IsTable schema c.0) tables b.sorted.outer
        (λ table rows e. is_declared schema old ends.legal_old table (sym (b.created table) ∙ ap is_some e));
    keys = each_row (λ table rows row. key_of (spec_of schema table) row.1 ≡ row.0) tables b.sorted
        (λ table rows key row e under. good_key (table, key) row (b.good (table, key) row (at_found tables table key row rows e under)));
    cells = each_row (λ table rows row. is_legal_row (spec_of schema table) row.1 ≡ true) tables b.sorted
        (λ table rows key row e under. good_legal (table, key) row (b.good (table, key) row (at_found tables table key row rows e under)));
    uniques = each_row (λ table rows row. repeats_unique (spec_of schema table) rows row.0 row.1 ≡ false) tables b.sorted
        (λ table rows key row e under.
        none_any (λ unique. list_any (λ o. not (same_values key o.0) && collide (spec_of schema table) unique row o.1) rows) (spec_of schema table).uniques
        (all_map (λ unique. (o : (q : List Value) × ((r : List Value) × (row_under rows q ≡ Some r))) → (not (same_values key o.0) && collide (spec_of schema table) unique row o.1.0) ≡ false) (λ unique. list_any (λ o. not (same_values key o.0) && collide (spec_of schema table) unique row o.1) rows ≡ false)
        (λ unique each. none_any (λ o. not (same_values key o.0) && collide (spec_of schema table) unique row o.1) rows
        (all_found values_cmp values_total same_key (λ o. (not (same_values key o.0) && collide (spec_of schema table) unique row o.1) ≡ false) rows (rows_sorted tables table rows b.sorted e) (λ q r at. each (q, (r, at)))))
        (spec_of schema table).uniques
        (all_forall (λ (o : (q : List Value) × ((r : List Value) × (row_under rows q ≡ Some r))) unique. (not (same_values key o.0) && collide (spec_of schema table) unique row o.1.0) ≡ false) (spec_of schema table).uniques
        (λ o. alone_step table key o.0 row o.1.0 (same_values key o.0) refl (b.good (table, key) row (at_found tables table key row rows e under)) (b.good (table, o.0) o.1.0 (at_found tables table o.0 o.1.0 rows e o.1.1))))));
    foreigns = none_any (λ c. list_any (λ r. some_dangles schema tables (spec_of schema c.0) r.1) c.1) tables
        (all_map (λ c. AllByRecursion (λ r. some_dangles schema tables (spec_of schema c.0) r.1 ≡ false) c.1) (λ c. list_any (λ r. some_dangles schema tables (spec_of schema c.0) r.1) c.1 ≡ false)
        (λ c all. none_any (λ r. some_dangles schema tables (spec_of schema c.0) r.1) c.1 all) tables
        (each_row (λ table rows r. some_dangles schema tables (spec_of schema table) r.1 ≡ false) tables b.sorted
        (λ table rows key row e under. none_any (dangles schema tables (spec_of schema table) row) (spec_of schema table).foreigns (bound (table, key) row (at_found tables table key row rows e under)))));
  }

  -- where all old rows and all stated rows are there, every foreign key names one
  bound_by : (tables : Tables) (place : Place) (row : List Value) → ((q : Place) → is_present old q ≡ true → is_present tables q ≡ true) → ((q : Place) → is_present stated q ≡ true → is_present tables q ≡ true) → (foreign : ForeignSpec) → FromRow place row foreign → dangles schema tables (spec_of schema place.0) row foreign ≡ false
  bound_by tables place row olds stateds foreign (inl s) = moved schema old tables (spec_of schema place.0) row s.0 foreign s.2 s.3 (λ t target none at. olds (t, cells_of (spec_of schema place.0) s.0 foreign.columns) at)
  bound_by tables place row olds stateds foreign (inr (inl s)) = moved schema stated tables (spec_of schema place.0) row s.0 foreign s.2 s.3 (λ t target none at. stateds (t, cells_of (spec_of schema place.0) s.0 foreign.columns) at)
  bound_by tables place row olds stateds foreign (inr (inr null)) = null_bound schema tables (spec_of schema place.0) row foreign null

  pub all_bound : (tables : Tables) → Between tables → ((q : Place) → is_present old q ≡ true → is_present tables q ≡ true) → ((q : Place) → is_present stated q ≡ true → is_present tables q ≡ true) → IsBound tables
  all_bound tables b olds stateds place row at =
      all_map (FromRow place row) (λ foreign. dangles schema tables (spec_of schema place.0) row foreign ≡ false) (bound_by tables place row olds stateds) (spec_of schema place.0).foreigns (good_foreigns place row (b.good place row at))
