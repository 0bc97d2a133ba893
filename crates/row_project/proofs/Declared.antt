-- The tables of all rows are declared, and the columns of changed cells.
use Rattle.std.proofs.Common.{◌≡◌, ℕ, ◌<◌, Bool, true, false, cond, ◌&&◌, ◌==◌, List, [], ◌∷◌, length, fold, map, Option, None, Some, unwrap_or, is_some, refl, ap, arith}
use Rattle.std.proofs.lemmas.Bool.{and_parts}
use Rattle.std.proofs.lemmas.List.Elements.{All-from_recursion, All-nil, recursion_from_All}
use Rattle.std.proofs.lemmas.Map.Views.{All-insert_key}
use Rattle.std.proofs.lemmas.Option.{slice_get_within}
use Rattle.std.specs.Prelude.{slice_get}
use Rattle.std.specs.BTreeSet.{insert_key}
use Rattle.std.specs.List.{All, AllByRecursion, enumerate_from, filter, filter_map, flat_map}
use Rattle.std.specs.Option.{option_map}
use Rattle.base_core.specs.declared.ids.ClassId.{ClassId}
use Rattle.base_core.specs.declared.ids.ColumnNo.{ColumnNo}
use Rattle.base_core.specs.declared.ids.ObjId.{ObjId}
use Rattle.base_core.specs.declared.ids.TableId.{TableId}
use Rattle.base_core.specs.declared.refusal.RowName.{RowName}
use Rattle.schema_core.specs.declared.changes.GoneRow.{GoneRow}
use Rattle.schema_core.specs.declared.changes.NewRow.{NewRow}
use Rattle.schema_core.specs.declared.changes.RowCell.{RowCell}
use Rattle.schema_core.specs.declared.table.ColumnSpec.{ColumnSpec}
use Rattle.schema_core.specs.declared.table.TableSpec.{TableSpec}
use Rattle.schema_core.specs.Catalog.{IsTable}
use Rattle.class_types.specs.declared.declared.ClassSpec.{ClassSpec}
use Rattle.class_types.specs.declared.mapped.Relation.{Relation}
use Rattle.class_layouts.specs.Columns.{own_table, table_in}
use Rattle.class_layouts.specs.Faults.{foreigns_of}
use Rattle.class_sides.specs.Keys.{TableKey}
use Rattle.class_sides.specs.Sides.{is_all_keys}
use Rattle.class_layouts.specs.Columns.{columns_in}
use Rattle.class_layouts.specs.Faults.{foreigns_in}
use Rattle.class_mapping.specs.Mapped.{IsClass, Mapped, layout_of, line_of, relations_of, tables_of}
use Rattle.class_mapping.specs.Related.{AreRelated, IsRelated, has_keys}
use Rattle.class_mapping.specs.Valid.{refers_by, refers_to_class}
use Rattle.class_mapping.proofs.PlainClassLemmas.{found_table}
use Rattle.object_arena.specs.Fit.{IsFit}
use Rattle.object_arena.specs.Graph.{Graph, IsObject, object_at}
use Rattle.object_arena.proofs.FitLemmas.{fit_class}
use Rattle.flush_order.specs.Ready.{IsInTable}
use Rattle.object_rows.specs.declared.prepared.Prepared.{Prepared}
use Rattle.object_rows.specs.Rows as rows
use Rattle.object_rows.specs.Seen.{is_in_session, keeps_rows, link_of, new_objects, object_ids}
use Rattle.object_rows.proofs.ObjectSteps.{all_made}
use Rattle.pair_rows.specs.Pairs as pairs
use Rattle.pair_rows.proofs.FirstLemmas.{firsts_all}
use Rattle.row_project.specs.Changes.{object_changes}
use Rattle.row_project.specs.Ready.{AreDeclared}
use Rattle.row_switches.proofs.Each.{all_append, all_filter, all_filter_map, all_flat_map, all_given, all_if, all_map, each_to, flat_map_given, map_given, numbered, numbers_below}

-- ---- the tables of a class

own_declared : (tables : List TableSpec) (spec : Option ClassSpec) (table : TableId) → table_in tables spec ≡ Some table → table.0 < length tables
own_declared tables None table e = absurd (cc)
own_declared tables (Some spec) table e = found_table tables spec.table table e

pub tables_declared : (mapped : Mapped) (class : ClassId) → AllByRecursion (IsTable mapped.schema) (tables_of mapped class)
tables_declared mapped class =
    all_filter_map (λ (above : ClassId). Unit {0}) (IsTable mapped.schema) (λ above. own_table mapped.schema.tables mapped.classes above.0)
    (λ above u table e. own_declared mapped.schema.tables (slice_get mapped.classes.specs above.0) table e)
    (line_of mapped class) (all_given (λ (above : ClassId). Unit {0}) (λ above. tt) (line_of mapped class))

-- ---- the rows of objects

names_declared : (mapped : Mapped) (graph : Graph) (prepared : Prepared) → AllByRecursion (λ (row : RowName). IsTable mapped.schema row.table) (rows.new_names mapped graph prepared)
unfolding rows.new_names
names_declared mapped graph prepared =
    flat_map_given (λ (row : RowName). IsTable mapped.schema row.table) (rows.rows_of mapped graph)
    (λ object. all_map (IsTable mapped.schema) (λ (row : RowName). IsTable mapped.schema row.table) (rows.row_name object) (λ table h. h) (tables_of mapped (object_at graph object).class) (tables_declared mapped (object_at graph object).class))
    (new_objects graph prepared)

new_declared : (mapped : Mapped) (graph : Graph) (prepared : Prepared) → AllByRecursion (λ (row : NewRow). IsTable mapped.schema row.name.table) (rows.new_rows mapped graph prepared)
unfolding rows.new_rows
new_declared mapped graph prepared =
    let names = rows.new_names mapped graph prepared in
    all_map (λ (placed : ℕ × RowName). IsTable mapped.schema placed.1.table) (λ (row : NewRow). IsTable mapped.schema row.name.table) (rows.new_row mapped graph prepared names) (λ placed h. h)
    (enumerate_from 0 names) (numbered (λ (row : RowName). IsTable mapped.schema row.table) 0 names (names_declared mapped graph prepared))

gone_declared : (mapped : Mapped) (graph : Graph) (prepared : Prepared) → AllByRecursion (λ (row : GoneRow). IsTable mapped.schema row.name.table) (rows.gone_rows mapped graph prepared)
unfolding rows.gone_rows
gone_declared mapped graph prepared =
    flat_map_given (λ (row : GoneRow). IsTable mapped.schema row.name.table) (rows.rows_gone mapped graph)
    (λ object. all_map (IsTable mapped.schema) (λ (row : GoneRow). IsTable mapped.schema row.name.table) (rows.gone_row mapped graph object) (λ table h. h) (tables_of mapped (object_at graph object).class) (tables_declared mapped (object_at graph object).class))
    prepared.deleted

-- ---- cells of columns

-- what columns give is of one of them
pub columns_below : (f : ℕ × ColumnSpec → Option (ColumnNo × RowCell)) → ((placed : ℕ × ColumnSpec) (cell : ColumnNo × RowCell) → f placed ≡ Some cell → placed.0 ≡ cell.0.0) → (columns : List ColumnSpec) → All (λ (cell : ColumnNo × RowCell). cell.0.0 < length columns) (filter_map f (enumerate_from 0 columns))
columns_below f keeps columns =
    All-from_recursion (λ (cell : ColumnNo × RowCell). cell.0.0 < length columns) (filter_map f (enumerate_from 0 columns))
    (all_filter_map (λ (placed : ℕ × ColumnSpec). placed.0 < length columns) (λ (cell : ColumnNo × RowCell). cell.0.0 < length columns) f
    (λ placed less cell e. omega (arith, less, keeps placed cell e))
    (enumerate_from 0 columns) (numbers_below 0 (length columns) columns (omega arith)))

pub column_of : (key : Bool) (n : ℕ) (change : Option RowCell) (cell : ColumnNo × RowCell) → cond key None (rows.in_column n change) ≡ Some cell → (n ≡ cell.0.0) × (key ≡ false)
column_of true n change cell e = absurd (cc)
column_of false n None cell e = absurd (cc)
column_of false n (Some x) cell e = (ap (λ (o : Option (ColumnNo × RowCell)). (unwrap_or o cell).0.0) e, refl)

pub same_column : (column : ColumnNo) (change : Option RowCell) (cell : ColumnNo × RowCell) → option_map (λ (now : RowCell). (column, now)) change ≡ Some cell → column.0 ≡ cell.0.0
same_column column None cell e = absurd (cc)
same_column column (Some x) cell e = ap (λ (o : Option (ColumnNo × RowCell)). (unwrap_or o cell).0.0) e

changed_row_in : (mapped : Mapped) (graph : Graph) (prepared : Prepared) (names : List RowName) (object : ObjId) (table : TableId) → IsTable mapped.schema table → IsInTable mapped.schema (rows.changed_row mapped graph prepared names object table)
changed_row_in mapped graph prepared names object table declared = record {
  declared = declared;
  columns = columns_below (rows.changed_cell mapped graph prepared names object table)
      (λ placed cell e. (column_of placed.1.key placed.0 (rows.change_at mapped graph prepared names object table placed) cell e).0)
      (rows.columns_at mapped table);
}

changed_in : (mapped : Mapped) (graph : Graph) (prepared : Prepared) → AllByRecursion (IsInTable mapped.schema) (rows.changed_rows mapped graph prepared)
unfolding rows.changed_rows
changed_in mapped graph prepared =
    let names = rows.new_names mapped graph prepared in
    flat_map_given (IsInTable mapped.schema) (rows.rows_changed mapped graph prepared names)
    (λ object. all_filter (IsInTable mapped.schema) rows.has_cells (map (rows.changed_row mapped graph prepared names object) (tables_of mapped (object_at graph object).class))
    (all_map (IsTable mapped.schema) (IsInTable mapped.schema) (rows.changed_row mapped graph prepared names object)
    (λ table declared. changed_row_in mapped graph prepared names object table declared)
    (tables_of mapped (object_at graph object).class) (tables_declared mapped (object_at graph object).class)))
    (filter (keeps_rows graph prepared) (object_ids graph))

-- ---- the rows of pairs

by_found : (tables : List TableSpec) (found : List TableId) (n t : ℕ) (spec : Option TableSpec) → slice_get tables t ≡ spec → refers_by tables found (slice_get (foreigns_of spec) n) ≡ true → t < length tables
by_found tables found n t None e h = absurd (cc)
by_found tables found n t (Some spec) e h = slice_get_within tables t spec e

far_declared : (mapped : Mapped) (relation : Relation) (far : Option TableKey) → has_keys mapped relation far ≡ true → is_some far ≡ true → IsTable mapped.schema relation.foreign.0
far_declared mapped relation None keys some = absurd (cc)
far_declared mapped relation (Some far) keys some =
    let tables = mapped.schema.tables in
    let key : TableKey = relation.foreign in
    let both = is_all_keys (columns_in tables key.0) (foreigns_in tables key.0) in
    let near = refers_to_class tables (Some (layout_of mapped relation.class)) key in
    let target = refers_to_class tables (Some (layout_of mapped relation.target)) far in
    let parts = and_parts ((key.0.0 == far.0.0) && both) near (and_parts ((key.0.0 == far.0.0) && both && near) target keys).0 in
    by_found tables (tables_of mapped relation.class) key.1 key.0.0 (slice_get tables key.0.0) refl parts.1

-- a secondary table is declared
abbrev IsOver : Mapped → ℕ × Relation → Type 0
IsOver mapped placed = is_some placed.1.far ≡ true → IsTable mapped.schema placed.1.foreign.0

relations_over : (mapped : Mapped) (graph : Graph) (object : ObjId) → AreRelated mapped → IsClass mapped (object_at graph object).class → AllByRecursion (IsOver mapped) (pairs.relations_at mapped graph object)
relations_over mapped graph object related class =
    let list = relations_of mapped (object_at graph object).class in
    numbered (λ (relation : Relation). is_some relation.far ≡ true → IsTable mapped.schema relation.foreign.0) 0 list
    (each_to (IsRelated mapped) (λ (relation : Relation). is_some relation.far ≡ true → IsTable mapped.schema relation.foreign.0)
    (λ relation is far. far_declared mapped relation relation.far is.keys far)
    list (recursion_from_All (IsRelated mapped) list (related.each (object_at graph object).class class)))

-- the table of a pair is declared
abbrev IsPaired : Mapped → pairs.Pair → Type 0
IsPaired mapped pair = IsTable mapped.schema pair.0

pairs_over : (mapped : Mapped) (relation : Relation) (object : ObjId) (members : List ObjId) → IsTable mapped.schema relation.foreign.0 → AllByRecursion (IsPaired mapped) (map (pairs.pair_of relation object) members)
pairs_over mapped relation object members declared =
    map_given (IsPaired mapped) (pairs.pair_of relation object) (λ member. declared) members

set_over : (mapped : Mapped) (set list : List pairs.Pair) → All (IsPaired mapped) set → AllByRecursion (IsPaired mapped) list → All (IsPaired mapped) (fold (insert_key pairs.pair_cmp) set list)
set_over mapped set [] all each = all
set_over mapped set (pair ∷ list) all each =
    set_over mapped (insert_key pairs.pair_cmp set pair) list (All-insert_key pairs.pair_cmp pair (IsPaired mapped) set all each.0) each.1

as_set_over : (mapped : Mapped) (list : List pairs.Pair) → AllByRecursion (IsPaired mapped) list → AllByRecursion (IsPaired mapped) (pairs.as_set list)
as_set_over mapped list each = recursion_from_All (IsPaired mapped) (pairs.as_set list) (set_over mapped [] list (All-nil (IsPaired mapped)) each)

pub objects_made : (graph : Graph) → AllByRecursion (IsObject graph) (object_ids graph)
objects_made graph = recursion_from_All (IsObject graph) (object_ids graph) (all_made graph (object_ids graph) refl)

module _ (mapped : Mapped) (graph : Graph) (prepared : Prepared) (related : AreRelated mapped) (fit : IsFit mapped graph) where
  made_over : (object : ObjId) → IsObject graph object → AllByRecursion (IsPaired mapped) (pairs.made_of mapped graph prepared object)
  made_over object made =
      all_if (IsPaired mapped) (is_in_session graph prepared object) (flat_map (pairs.made_by graph prepared object) (pairs.relations_at mapped graph object))
      (λ inside. all_flat_map (IsOver mapped) (IsPaired mapped) (pairs.made_by graph prepared object)
      (λ placed over. all_if (IsPaired mapped) (is_some placed.1.far) (pairs.made_from graph prepared object placed.1 (link_of (object_at graph object) (record { 0 = placed.0 })))
      (λ far. pairs_over mapped placed.1 object (filter (pairs.is_made graph prepared object) (pairs.members_added (link_of (object_at graph object) (record { 0 = placed.0 })))) (over far)))
      (pairs.relations_at mapped graph object) (relations_over mapped graph object related (fit_class mapped graph object fit made)))

  lost_over : (object : ObjId) → IsObject graph object → AllByRecursion (IsPaired mapped) (pairs.lost_of mapped graph prepared object)
  lost_over object made =
      all_if (IsPaired mapped) (pairs.is_parted graph prepared object) (flat_map (pairs.lost_by graph prepared object) (pairs.relations_at mapped graph object))
      (λ inside. all_flat_map (IsOver mapped) (IsPaired mapped) (pairs.lost_by graph prepared object)
      (λ placed over. all_if (IsPaired mapped) (is_some placed.1.far) (pairs.lost_from graph prepared object placed.1 (link_of (object_at graph object) (record { 0 = placed.0 })))
      (λ far.
      let link = link_of (object_at graph object) (record { 0 = placed.0 }) in
      let before = filter (pairs.is_lost graph prepared object) (pairs.members_before link) in
      let removed = filter (pairs.is_parted graph prepared) (pairs.members_removed link) in
      all_append (IsPaired mapped) (map (pairs.pair_of placed.1 object) before) (map (pairs.pair_of placed.1 object) removed)
      (pairs_over mapped placed.1 object before (over far)) (pairs_over mapped placed.1 object removed (over far))))
      (pairs.relations_at mapped graph object) (relations_over mapped graph object related (fit_class mapped graph object fit made)))

  made_declared : AllByRecursion (λ (row : NewRow). IsTable mapped.schema row.name.table) (pairs.made_rows mapped graph prepared)
  unfolding pairs.made_rows pairs.made_pairs
  made_declared =
      let list = flat_map (pairs.made_of mapped graph prepared) (object_ids graph) in
      all_map (IsPaired mapped) (λ (row : NewRow). IsTable mapped.schema row.name.table) (pairs.made_row mapped graph (rows.new_names mapped graph prepared)) (λ pair h. h) (pairs.as_set list)
      (as_set_over mapped list (all_flat_map (IsObject graph) (IsPaired mapped) (pairs.made_of mapped graph prepared) made_over (object_ids graph) (objects_made graph)))

  lost_declared : AllByRecursion (λ (row : GoneRow). IsTable mapped.schema row.name.table) (pairs.lost_rows mapped graph prepared)
  unfolding pairs.lost_rows pairs.lost_pairs
  lost_declared =
      let list = flat_map (pairs.lost_of mapped graph prepared) (object_ids graph) in
      firsts_all (λ (row : GoneRow). IsTable mapped.schema row.name.table) mapped.schema (map (pairs.lost_row mapped graph) (pairs.as_set list))
      (all_map (IsPaired mapped) (λ (row : GoneRow). IsTable mapped.schema row.name.table) (pairs.lost_row mapped graph) (λ pair h. h) (pairs.as_set list)
      (as_set_over mapped list (all_flat_map (IsObject graph) (IsPaired mapped) (pairs.lost_of mapped graph prepared) lost_over (object_ids graph) (objects_made graph))))

  -- ---- without switches

  pub objects_declared : AreDeclared mapped.schema (object_changes mapped graph prepared)
  objects_declared = record {
    new = all_append (λ (row : NewRow). IsTable mapped.schema row.name.table) (rows.new_rows mapped graph prepared) (pairs.made_rows mapped graph prepared) (new_declared mapped graph prepared) made_declared;
    changed = changed_in mapped graph prepared;
    gone = all_append (λ (row : GoneRow). IsTable mapped.schema row.name.table) (rows.gone_rows mapped graph prepared) (pairs.lost_rows mapped graph prepared) (gone_declared mapped graph prepared) lost_declared;
  }
