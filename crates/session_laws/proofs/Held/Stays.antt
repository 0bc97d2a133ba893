-- An object that keeps its rows holds, once what changed was written, what its rows hold.
use Rattle.std.proofs.Common.{◌≡◌, ◌⊎◌, inl, inr, ℕ, ◌+◌, ◌<◌, Bool, true, false, not, ◌==◌, if◌then◌else◌, List, length, map, filter, get_or, Option, None, Some, is_some, option_map, refl, sym, subst, ap, ◌∙◌, arith}
use Rattle.std.specs.Prelude.{slice_get}
use Rattle.std.specs.Cmp.Lexicographic.{as_long}
use Rattle.std.specs.List.{AllByRecursion, enumerate_from, filter_map, flat_map, list_any}
use Rattle.std.specs.Option.{option_and_then}
use Rattle.std.proofs.lemmas.Bool.{and_from, and_parts, eq-eqb}
use Rattle.std.proofs.lemmas.List.{get_or-map, length-map}
use Rattle.std.proofs.lemmas.List.Elements.{recursion_from_All}
use Rattle.std.proofs.lemmas.List.FromFn.{get_or-enumerate_from, length-enumerate_from}
use Rattle.std.proofs.lemmas.Option.{get_or_from_slice_get, same_Some, slice_get-get_or, slice_get_within}
use Rattle.base_core.specs.declared.ids.ClassId.{ClassId}
use Rattle.base_core.specs.declared.ids.ColumnNo.{ColumnNo}
use Rattle.base_core.specs.declared.ids.ObjId.{ObjId}
use Rattle.base_core.specs.declared.ids.TableId.{TableId}
use Rattle.base_core.specs.declared.refusal.RowName.{RowName}
use Rattle.base_core.specs.declared.value.Value.{Value}
use Rattle.base_core.specs.declared.value.Value.TheVariants.{Null}
use Rattle.schema_core.specs.declared.changes.ChangedRow.{ChangedRow}
use Rattle.schema_core.specs.declared.changes.GoneRow.{GoneRow}
use Rattle.schema_core.specs.declared.changes.RowCell.{RowCell}
use Rattle.schema_core.specs.declared.changes.RowCell.TheVariants.{Given, KeyOf}
use Rattle.schema_core.specs.declared.changes.RowChanges.{RowChanges}
use Rattle.schema_core.specs.declared.table.ColumnSpec.{ColumnSpec}
use Rattle.schema_core.specs.Apply.{with_cells}
use Rattle.schema_core.specs.Catalog.{spec_of}
use Rattle.schema_core.specs.DependencyOrder as declares
use Rattle.schema_core.specs.Tables.{Tables, fits}
use Rattle.class_types.specs.declared.mapped.Attribute.{Attribute}
use Rattle.class_mapping.specs.Mapped.{Mapped, attribute_of, attributes_of, is_key_attribute, no_attribute, tables_of}
use Rattle.class_mapping.proofs.Having.{Has, all_from, any_has, from_filter, from_flat, from_map, has_at, has_either, has_filter, has_flat, has_left, has_map, has_numbered, none_of, some_of, true_false}
use Rattle.object_arena.specs.declared.object.Cell.{Cell}
use Rattle.object_arena.specs.declared.object.Object.{Object}
use Rattle.object_arena.specs.Graph as graphs
use Rattle.object_arena.specs.Graph.{Graph, IsObject, expired_cell, is_persistent, object_at, place_of}
use Rattle.object_arena.proofs.FitLemmas.{fit_cells}
use Rattle.flush_order.specs.Orders.{gone_at, no_gone, place_of_gone}
use Rattle.flush_order.specs.Sorted.{Place, same_place}
use Rattle.flush_plan.specs.Flushing.{Sofar, value_of_cell}
use Rattle.flush_writes.specs.Writes.{no_column, place_of_changed, writes_some}
use Rattle.flush_plan.specs.Stating.{is_present, put_cells, row_at, written_rows}
use Rattle.graph_flushed.specs.Flushed.{Written, held_or, kept_cell, staying_cell, staying_object, value_come, value_put}
use Rattle.object_rows.specs.declared.prepared.Prepared.{Prepared}
use Rattle.object_rows.specs.Cells.{linked_cell}
use Rattle.object_rows.specs.Rows as rows
use Rattle.object_rows.specs.Rows.{cell_change, cell_for, change_in, change_to, changed_cell, changed_row, has_cells, in_column, is_base, linked_change, new_names, own_change}
use Rattle.object_rows.specs.Seen.{keeps_rows, object_ids}
use Rattle.object_rows.proofs.ObjectSteps.{all_made}
use Rattle.pair_rows.specs.Pairs.{lost_rows}
use Rattle.row_project.specs.Changes.{object_changes, project}
use Rattle.row_partners.specs.Partners.{partners}
use Rattle.row_switches.specs.Switch.{base_in, base_of, cell_after_switch, cell_kept, object_if, row_kept, rows_kept, rows_switched, switch_of}
use Rattle.row_project.proofs.Declared.{column_of, same_column}
use Rattle.row_switches.proofs.RowsAfter.{all_left}
use Rattle.session_laws.proofs.Plans.Between.{legal_cells}
use Rattle.session_laws.proofs.Plans.Complete.{written_there}
use Rattle.session_laws.proofs.Plans.Newness.{place_same, same_is}
use Rattle.session_laws.proofs.Projects.Apart.{switched_is}
use Rattle.session_laws.proofs.Projects.LateKeys.{each_has}
use Rattle.mapping_laws.proofs.Tables.{from_filter_map}
use Rattle.session_laws.specs.Graphs.{HasRow, key_held}
use Rattle.session_laws.proofs.Graphs.ObjectsApart.{among_of, rows_apart}
use Rattle.session_laws.proofs.Held.After.{changed_at, still_at}
use Rattle.session_laws.proofs.Held.Columns.{base_is, cell_then, put_all, some_cells, written_at, written_long}
use Rattle.session_laws.proofs.Held.Lists.{chosen_from, filter_twice, has_chosen}
use Rattle.session_laws.specs.Held.{HoldsItsRows, column_in}
use Rattle.session_laws.proofs.Held.Attributes.{HasColumn, has_column, key_is}
use Rattle.session_laws.proofs.Held.Done.{IsDone}
use Rattle.session_laws.proofs.Held.Given.{cell_is, written}
use Rattle.session_laws.proofs.Held.Linked.{of_linked}
use Rattle.session_laws.proofs.Held.New.{comes, object_listed}
use Rattle.session_laws.proofs.Held.Put.{held_at}
use Rattle.session_laws.proofs.Held.Rooted.{once}

module _ (mapped : Mapped) (graph : Graph) (prepared : Prepared) (old : Tables) (order : List ℕ) (placed : Sofar) (after : Tables) (done : IsDone mapped graph prepared old order placed after) where
  abbrev first : RowChanges
  first = object_changes mapped graph prepared

  abbrev changes : RowChanges
  changes = project mapped graph prepared

  abbrev names : List RowName
  names = new_names mapped graph prepared

  abbrev columns : TableId → List ColumnSpec
  columns table = (spec_of mapped.schema table).columns

  abbrev own_place : ObjId → TableId → Place
  own_place object table = (table, key_held graph object)

  abbrev value : RowCell → Value
  value cell = value_of_cell placed.keys cell

  -- what is written in a column of a row of an object that keeps it
  abbrev change_of : ObjId → TableId → ℕ × ColumnSpec → Option (ColumnNo × RowCell)
  change_of object table column =
      option_and_then (cell_kept mapped graph (object_changes mapped graph prepared) (partners mapped.schema (object_changes mapped graph prepared)) (changed_row mapped graph prepared (new_names mapped graph prepared) object table))
      (changed_cell mapped graph prepared (new_names mapped graph prepared) object table column)

  -- an object that keeps its row in a table
  record Keeps (object : ObjId) (table : TableId) : Type 0 where
    made : IsObject graph object
    persists : is_persistent (object_at graph object).state ≡ true
    stays : graphs.is_among prepared.deleted object ≡ false
    has : Has (tables_of mapped (object_at graph object).class) table

  -- ---- whose row it is

  has_row : (object : ObjId) (table : TableId) → IsObject graph object → is_persistent (object_at graph object).state ≡ true → Has (tables_of mapped (object_at graph object).class) table → HasRow mapped graph table object
  has_row object table made persists has = (made, persists, among_of (tables_of mapped (object_at graph object).class) table has)

  one_object : (object other : ObjId) (table of : TableId) → HasRow mapped graph table object → HasRow mapped graph of other → own_place other of ≡ own_place object table → other ≡ object
  one_object object other table of own its same =
      let tables : of ≡ table = ap (λ (q : Place). q.0) same in
      ap (λ (n : ℕ). let id : ObjId = record { 0 = n } in id)
      (done.own.keyed.alone table other object (subst (λ (t : TableId). HasRow mapped graph t other) tables its) own (ap (λ (q : Place). q.1) same))

  -- no deleted row is that of an object that stays
  not_gone : (object : ObjId) (table : TableId) → Keeps object table → (row : GoneRow) → Has (object_changes mapped graph prepared).gone row → place_of_gone mapped.schema row ≡ own_place object table → ⊥
  unfolding rows.gone_rows
  not_gone object table keeps row has same = by (has_either (rows.gone_rows mapped graph prepared) (lost_rows mapped graph prepared) row has)
    where
      by : Has (flat_map (rows.rows_gone mapped graph) prepared.deleted) row ⊎ Has (lost_rows mapped graph prepared) row → ⊥
      by (inr pair) =
          let its : row.name.table ≡ table = ap (λ (p : Place). p.0) same in
          true_false (declares.is_among (tables_of mapped (object_at graph object).class) row.name.table) (among_of (tables_of mapped (object_at graph object).class) row.name.table (subst (Has (tables_of mapped (object_at graph object).class)) (sym its) keeps.has))
          (each_has (λ (r : GoneRow). declares.is_among (tables_of mapped (object_at graph object).class) r.name.table ≡ false) (lost_rows mapped graph prepared) row (done.own.keyed.secondary (object_at graph object).class) pair)
      by (inl inside) =
          let from = from_flat (rows.rows_gone mapped graph) prepared.deleted row inside in
          let left : ObjId = from.0 in
          let of = from_map (rows.gone_row mapped graph left) (tables_of mapped (object_at graph left).class) row from.2 in
          let among : graphs.is_among prepared.deleted left ≡ true = any_has (λ (other : ObjId). other.0 == left.0) prepared.deleted left from.1 (eq-eqb left.0 left.0 refl) in
          let under : own_place left of.0 ≡ own_place object table =
          ap (λ (key : List Value). let place : Place = (of.0, key) in place) (sym (done.own.keyed.read left of.0 among (among_of (tables_of mapped (object_at graph left).class) of.0 of.1))) ∙ ap (place_of_gone mapped.schema) of.2 ∙ same in
          let its : HasRow mapped graph of.0 left =
          has_row left of.0 (each_has (IsObject graph) prepared.deleted left done.own.keyed.made from.1) (each_has (λ (o : ObjId). is_persistent (object_at graph o).state ≡ true) prepared.deleted left done.own.keyed.standing from.1) of.1 in
          let one : left ≡ object = one_object object left table of.0 (has_row object table keeps.made keeps.persists keeps.has) its under in
          true_false (graphs.is_among prepared.deleted object) (subst (λ (o : ObjId). graphs.is_among prepared.deleted o ≡ true) one among) keeps.stays

  -- ---- a cell that changes gives a changed row

  record IsChanged (object : ObjId) (table : TableId) : Type 0 where
    row : ChangedRow
    has : Has changes.changed row
    place : place_of_changed row ≡ own_place object table
    writes : writes_some row.cells ≡ true

  keeps_all : (object : ObjId) (table : TableId) → Keeps object table → keeps_rows graph prepared object ≡ true
  keeps_all object table keeps = and_from (is_persistent (object_at graph object).state) (not (graphs.is_among prepared.deleted object)) keeps.persists (ap not keeps.stays)

  exists : (object : ObjId) (table : TableId) (c : ℕ) (cell : ColumnNo × RowCell) → Keeps object table → c < length (columns table) → change_of object table (c, get_or (columns table) c no_column) ≡ Some cell → IsChanged object table
  unfolding rows.changed_rows
  exists object table c cell keeps less e =
      let column : ColumnSpec = get_or (columns table) c no_column in
      let list = tables_of mapped (object_at graph object).class in
      let own : ChangedRow = changed_row mapped graph prepared names object table in
      let again = cell_kept mapped graph first (partners mapped.schema first) own in
      let from = chosen_from again (changed_cell mapped graph prepared names object table (c, column)) cell e in
      let place : 0 + c ≡ c = omega arith in
      let numbered : Has (enumerate_from 0 (columns table)) (c, column) =
      subst (λ (n : ℕ). Has (enumerate_from 0 (columns table)) (n, column)) place (has_numbered 0 (columns table) c column (slice_get-get_or (columns table) c no_column less)) in
      let in_first : Has own.cells from.0 = has_chosen (changed_cell mapped graph prepared names object table) (enumerate_from 0 (columns table)) (c, column) from.0 numbered from.1 in
      let kept : ChangedRow = row_kept mapped graph first (partners mapped.schema first) own in
      let in_row : Has kept.cells cell = has_chosen again own.cells from.0 cell in_first from.2 in
      let kept_ids = filter (keeps_rows graph prepared) (object_ids graph) in
      let of_all : Has (flat_map (rows.rows_changed mapped graph prepared names) kept_ids) own =
      has_flat (rows.rows_changed mapped graph prepared names) kept_ids object own (has_filter (keeps_rows graph prepared) (object_ids graph) object (object_listed graph object keeps.made) (keeps_all object table keeps))
      (has_filter has_cells (map (changed_row mapped graph prepared names object) list) own (has_map (changed_row mapped graph prepared names object) list table keeps.has) (some_cells own.cells from.0 in_first).0) in
      let some = some_cells kept.cells cell in_row in
      record {
        row = kept;
        has = has_left (rows_kept mapped graph first (partners mapped.schema first)) (rows_switched mapped graph first (partners mapped.schema first)) kept
            (has_filter has_cells (map (row_kept mapped graph first (partners mapped.schema first)) first.changed) kept (has_map (row_kept mapped graph first (partners mapped.schema first)) first.changed own of_all) some.0);
        place = refl;
        writes = some.1;
      }

  -- ---- the row afterwards

  places : (object : ObjId) (table : TableId) (column : ℕ × ColumnSpec) (cell : ColumnNo × RowCell) → change_of object table column ≡ Some cell → column.0 ≡ cell.0.0
  places object table column cell e =
      let again = cell_kept mapped graph first (partners mapped.schema first) (changed_row mapped graph prepared names object table) in
      let from = chosen_from again (changed_cell mapped graph prepared names object table column) cell e in
      (column_of column.1.key column.0 (rows.change_at mapped graph prepared names object table column) from.0 from.1).0
      ∙ same_column from.0.0 (linked_change (base_in mapped table from.0.0.0 (object_if graph object)) (cell_after_switch mapped.schema first (partners mapped.schema first) from.0.1)) cell from.2

  AtColumn : ObjId → TableId → List Value → ℕ → Type 0
  AtColumn object table stood c = column_in (row_at after (own_place object table)) c ≡ Some (cell_then value (change_of object table (c, get_or (columns table) c no_column)) (get_or stood c Null))

  long_row : (table : TableId) (key stood : List Value) → row_at old (table, key) ≡ Some stood → length stood ≡ length (columns table)
  long_row table key stood at = sym (as_long fits (columns table) stood (legal_cells mapped.schema old done.legal (table, key) stood at))

  -- a changed row at the place is the object's
  its_cells : (object : ObjId) (table : TableId) → Keeps object table → (row : ChangedRow) → Has changes.changed row → place_of_changed row ≡ own_place object table → row.cells ≡ filter_map (change_of object table) (enumerate_from 0 (columns table))
  unfolding rows.changed_rows
  its_cells object table keeps row has same = by (has_either (rows_kept mapped graph first (partners mapped.schema first)) (rows_switched mapped graph first (partners mapped.schema first)) row has)
    where
      by : Has (rows_kept mapped graph (object_changes mapped graph prepared) (partners mapped.schema (object_changes mapped graph prepared))) row
          ⊎ Has (rows_switched mapped graph (object_changes mapped graph prepared) (partners mapped.schema (object_changes mapped graph prepared))) row → row.cells ≡ filter_map (change_of object table) (enumerate_from 0 (columns table))
      by (inl inside) =
          let kept = from_filter has_cells (map (row_kept mapped graph first (partners mapped.schema first)) first.changed) row inside in
          let before = from_map (row_kept mapped graph first (partners mapped.schema first)) first.changed row kept.0 in
          let ids = filter (keeps_rows graph prepared) (object_ids graph) in
          let from = from_flat (rows.rows_changed mapped graph prepared names) ids before.0 before.1 in
          let other : ObjId = from.0 in
          let there = from_filter has_cells (map (changed_row mapped graph prepared names other) (tables_of mapped (object_at graph other).class)) before.0 from.2 in
          let of = from_map (changed_row mapped graph prepared names other) (tables_of mapped (object_at graph other).class) before.0 there.0 in
          let listed = from_filter (keeps_rows graph prepared) (object_ids graph) other from.1 in
          let made : IsObject graph other = each_has (IsObject graph) (object_ids graph) other (recursion_from_All (IsObject graph) (object_ids graph) (all_made graph (object_ids graph) refl)) listed.0 in
          let lasts : is_persistent (object_at graph other).state ≡ true = (and_parts (is_persistent (object_at graph other).state) (not (graphs.is_among prepared.deleted other)) listed.1).0 in
          let is : row_kept mapped graph first (partners mapped.schema first) (changed_row mapped graph prepared names other of.0) ≡ row = ap (row_kept mapped graph first (partners mapped.schema first)) of.2 ∙ before.2 in
          let under : own_place other of.0 ≡ own_place object table = ap place_of_changed is ∙ same in
          let one : other ≡ object = one_object object other table of.0 (has_row object table keeps.made keeps.persists keeps.has) (has_row other of.0 made lasts of.1) under in
          let tables : of.0 ≡ table = ap (λ (q : Place). q.0) under in
          ap (λ (r : ChangedRow). r.cells) (sym is)
          ∙ (λ i. (row_kept mapped graph first (partners mapped.schema first) (changed_row mapped graph prepared names (one i) (tables i))).cells)
          ∙ filter_twice (changed_cell mapped graph prepared names object table) (cell_kept mapped graph first (partners mapped.schema first) (changed_row mapped graph prepared names object table)) (enumerate_from 0 (columns table))
      by (inr inside) =
          let from = from_filter_map (switch_of mapped graph first (partners mapped.schema first)) (enumerate_from 0 first.fresh) row inside in
          let apart = rows_apart mapped graph prepared (once mapped graph prepared old order placed after done) done.own.keyed in
          let at = switched_is mapped graph first apart from.0 (place_of_changed row) from.1 (ap (option_map place_of_changed) from.2) in
          absurd (not_gone object table keeps (gone_at first.gone at.0) (has_at first.gone at.0 (gone_at first.gone at.0) (slice_get-get_or first.gone at.0 no_gone at.3)) (at.2 ∙ same))

  row_after : (object : ObjId) (table : TableId) (stood : List Value) (c : ℕ) → Keeps object table → row_at old (own_place object table) ≡ Some stood → c < length (columns table) → AtColumn object table stood c
  unfolding AtColumn
  row_after object table stood c keeps at less = by (list_any (λ (row : ChangedRow). same_place (place_of_changed row) (own_place object table)) changes.changed) refl
    where
      lacking : (found : Option (ColumnNo × RowCell)) → change_of object table (c, get_or (columns table) c no_column) ≡ found → ((row : ChangedRow) → Has (project mapped graph prepared).changed row → place_of_changed row ≡ own_place object table → ⊥)
          → Some (get_or stood c Null) ≡ Some (cell_then value (change_of object table (c, get_or (columns table) c no_column)) (get_or stood c Null))
      lacking None e out = ap (λ (found : Option (ColumnNo × RowCell)). Some (cell_then value found (get_or stood c Null))) (sym e)
      lacking (Some cell) e out = absurd (let changed = exists object table c cell keeps less e in out changed.row changed.has changed.place)

      by : (b : Bool) → list_any (λ (row : ChangedRow). same_place (place_of_changed row) (own_place object table)) (project mapped graph prepared).changed ≡ b
          → column_in (row_at after (own_place object table)) c ≡ Some (cell_then value (change_of object table (c, get_or (columns table) c no_column)) (get_or stood c Null))
      by true e =
          let some = some_of (λ (r : ChangedRow). same_place (place_of_changed r) (own_place object table)) changes.changed e in
          let row : ChangedRow = some.0 in
          let same : place_of_changed row ≡ own_place object table = same_is (place_of_changed row) (own_place object table) some.2 in
          let cells = its_cells object table keeps row some.1 same in
          let long = long_row table (key_held graph object) stood at in
          let now : List Value = with_cells stood (put_all value (filter_map (change_of object table) (enumerate_from 0 (columns table)))) in
          ap (λ (o : Option (List Value)). column_in o c)
          (ap (row_at after) (sym same) ∙ changed_at mapped.schema old changes order placed after done.stated row stood some.1 (ap (row_at old) same ∙ at) ∙ ap (λ (list : List (ColumnNo × RowCell)). Some (with_cells stood (put_cells value list))) cells)
          ∙ slice_get-get_or now c Null (omega (arith, less, long, written_long value (change_of object table) (places object table) stood 0 (columns table)))
          ∙ ap (λ (v : Value). Some v) (written_at value (change_of object table) (places object table) stood (columns table) c no_column long less)
      by false e =
          let out : (row : ChangedRow) → Has changes.changed row → place_of_changed row ≡ own_place object table → ⊥ =
          λ row has same. true_false (same_place (place_of_changed row) (own_place object table)) (place_same (place_of_changed row) (own_place object table) same) (none_of (λ (r : ChangedRow). same_place (place_of_changed r) (own_place object table)) changes.changed row e has) in
          let gone_out : AllByRecursion (λ (row : GoneRow). place_of_gone mapped.schema row ≡ own_place object table → ⊥) changes.gone =
          all_left (λ (row : GoneRow). place_of_gone mapped.schema row ≡ own_place object table → ⊥) first (partners mapped.schema first) (all_from (λ (row : GoneRow). place_of_gone mapped.schema row ≡ own_place object table → ⊥) first.gone (λ row has same. not_gone object table keeps row has same)) in
          let still : row_at after (own_place object table) ≡ row_at old (own_place object table) =
          still_at mapped.schema old changes order placed after done.stated (own_place object table) (ap is_some at)
          (λ row has same. each_has (λ (row : GoneRow). place_of_gone mapped.schema row ≡ own_place object table → ⊥) changes.gone row gone_out has same) (λ row has some same. out row has same) in
          ap (λ (o : Option (List Value)). column_in o c) (still ∙ at)
          ∙ slice_get-get_or stood c Null (omega (arith, less, long_row table (key_held graph object) stood at))
          ∙ lacking (change_of object table (c, get_or (columns table) c no_column)) refl out

  -- ---- the object

  -- what a change of a cell writes, and what it leaves
  record IsTrue (change : Option (ColumnNo × RowCell)) (cell : Cell) (base : Value) : Type 0 where
    none : change ≡ None → cell.base ≡ Some base
    some : (written : ColumnNo × RowCell) → change ≡ Some written → value written.1 ≡ base

  abbrev after_cell : RowCell → RowCell
  after_cell cell = cell_after_switch mapped.schema (object_changes mapped graph prepared) (partners mapped.schema (object_changes mapped graph prepared)) cell

  -- a value that is written unless the row has it
  abbrev numbered_change : ℕ → Option RowCell → Option (ColumnNo × RowCell)
  numbered_change c change = option_map (λ (now : RowCell). (let number : ColumnNo = record { 0 = c } in number, now)) change

  given_true : (c : ℕ) (cell : Cell) (v base : Value) → v ≡ base → IsTrue (numbered_change c (change_to cell.base v)) cell base
  given_true c cell v base same = by (is_base cell.base v) refl
    where
      by : (b : Bool) → is_base cell.base v ≡ b → IsTrue (numbered_change c (let none : Option RowCell = None in if b then none else Some (Given v))) cell base
      by true e = record { none = λ is. base_is cell.base v e ∙ ap (λ (w : Value). Some w) same; some = λ written is. absurd (let wrong : None ≡ Some written = is in cc) }
      by false e = record {
        none = λ is. absurd cc;
        some = λ written is. ap (λ (made : ColumnNo × RowCell). value made.1) (sym (same_Some (let number : ColumnNo = record { 0 = c } in number, Given v) written is)) ∙ same;
      }

  -- what comes through links
  after_true : (c : ℕ) (cell : Cell) (own : RowCell) (base : Value) → value own ≡ base → IsTrue (numbered_change c (linked_change cell.base own)) cell base
  after_true c cell (Given v) base same = given_true c cell v base same
  after_true c cell (KeyOf place part) base same = record {
    none = λ is. absurd cc;
    some = λ written is. ap (λ (made : ColumnNo × RowCell). value made.1) (sym (same_Some (let number : ColumnNo = record { 0 = c } in number, KeyOf place part) written is)) ∙ same;
  }

  linked_true : (c : ℕ) (cell : Cell) (own : RowCell) (base : Value) → value (after_cell own) ≡ base
      → IsTrue (option_and_then (λ (it : ColumnNo × RowCell). option_map (λ now. (it.0, now)) (linked_change cell.base (after_cell it.1))) (in_column c (linked_change cell.base own))) cell base
  linked_true c cell (KeyOf place part) base same = after_true c cell (after_cell (KeyOf place part)) base same
  linked_true c cell (Given v) base same = by (is_base cell.base v) refl
    where
      by : (b : Bool) → is_base cell.base v ≡ b
          → IsTrue (option_and_then (λ (it : ColumnNo × RowCell). option_map (λ now. (it.0, now)) (linked_change cell.base (after_cell it.1))) (in_column c (let none : Option RowCell = None in if b then none else Some (Given v)))) cell base
      by true e = record { none = λ is. base_is cell.base v e ∙ ap (λ (w : Value). Some w) same; some = λ written is. absurd (let wrong : None ≡ Some written = is in cc) }
      by false e = given_true c cell v base same

  -- what the object holds itself
  own_true : (c : ℕ) (cell : Cell) (held base : Option Value) (after : Value) → cell.value ≡ held → (held_or held cell).base ≡ Some after
      → IsTrue (option_and_then (λ (it : ColumnNo × RowCell). option_map (λ now. (it.0, now)) (linked_change cell.base (after_cell it.1))) (in_column c (own_change cell.base held))) cell after
  own_true c cell None base after is held = record { none = λ e. held; some = λ written e. absurd (let wrong : None ≡ Some written = e in cc) }
  own_true c cell (Some v) base after is held = linked_true c cell (Given v) after (same_Some v after held)

  key_true : (cell : Cell) (after : Value) → cell.value ≡ cell.base → (kept_cell cell).base ≡ Some after → IsTrue None cell after
  key_true cell after same held = record { none = λ e. by cell.value refl held; some = λ written e. absurd (let wrong : None ≡ Some written = e in cc) }
    where
      by : (own : Option Value) → cell.value ≡ own → (held_or own cell).base ≡ Some after → cell.base ≡ Some after
      by None is held = held
      by (Some v) is held = sym same ∙ is ∙ held

  abbrev now : Written
  now = written mapped graph prepared old order placed after done

  -- each cell of an object that stays holds what its row holds
  change_true : (object : ObjId) (i : ℕ) (attribute : Attribute) (cell : Cell) (base : Value) → Keeps object attribute.table → HasColumn mapped (object_at graph object).class attribute
      → slice_get (attributes_of mapped (object_at graph object).class) i ≡ Some attribute → cell_for mapped (object_at graph object) attribute.table attribute.column.0 ≡ Some cell → (is_key_attribute mapped (object_at graph object).class (record { 0 = i }) ≡ true → cell.value ≡ cell.base)
      → (if is_key_attribute mapped (object_at graph object).class (record { 0 = i }) then kept_cell cell else held_or (value_come now object attribute) (kept_cell cell)).base ≡ Some base
      → IsTrue (change_of object attribute.table (attribute.column.0, get_or (columns attribute.table) attribute.column.0 no_column)) cell base
  change_true object i attribute cell base keeps stands at found keyed held =
      by stands.column.key refl (linked_cell mapped graph prepared names object attribute.table stands.column.name) refl
    where
      table : TableId
      table = attribute.table

      c : ℕ
      c = attribute.column.0

      again : ColumnNo × RowCell → Option (ColumnNo × RowCell)
      again it = option_map (λ now. (it.0, now)) (linked_change cell.base (after_cell it.1))

      column : get_or (columns attribute.table) attribute.column.0 no_column ≡ stands.column
      column = get_or_from_slice_get (columns attribute.table) attribute.column.0 stands.column no_column stands.at

      is_key : is_key_attribute mapped (object_at graph object).class (record { 0 = i }) ≡ stands.column.key
      is_key = sym (λ j. sym (key_is mapped (object_at graph object).class i attribute at ∙ stands.key) j)

      base_own : base_in mapped attribute.table attribute.column.0 (object_if graph object) ≡ cell.base
      base_own =
          let within : place_of object < length graph.objects = omega (arith, keeps.made.0, keeps.made.1) in
          ap (base_in mapped attribute.table attribute.column.0) (slice_get-get_or graph.objects (place_of object) graphs.no_object within) ∙ ap base_of found

      links : linked_cell mapped graph prepared (new_names mapped graph prepared) object attribute.table attribute.name ≡ linked_cell mapped graph prepared (new_names mapped graph prepared) object attribute.table stands.column.name
      links = ap (linked_cell mapped graph prepared (new_names mapped graph prepared) object attribute.table) stands.name

      -- the change of the column, by whether it is of the key, and by what comes through links
      first_is : changed_cell mapped graph prepared (new_names mapped graph prepared) object attribute.table (attribute.column.0, get_or (columns attribute.table) attribute.column.0 no_column)
          ≡ (if stands.column.key then None else in_column attribute.column.0 (cell_change (linked_cell mapped graph prepared (new_names mapped graph prepared) object attribute.table stands.column.name) cell))
      first_is =
          (λ j. changed_cell mapped graph prepared (new_names mapped graph prepared) object attribute.table (attribute.column.0, column j))
          ∙ ap (λ (own : Option Cell). if stands.column.key then None else in_column attribute.column.0 (change_in mapped graph prepared (new_names mapped graph prepared) object attribute.table stands.column.name own)) found

      kept_again : (change : Option RowCell) → option_and_then (cell_kept mapped graph (object_changes mapped graph prepared) (partners mapped.schema (object_changes mapped graph prepared)) (changed_row mapped graph prepared (new_names mapped graph prepared) object attribute.table)) (in_column attribute.column.0 change)
          ≡ option_and_then again (in_column attribute.column.0 change)
      kept_again None = refl
      kept_again (Some own) = ap (λ (b : Option Value). option_map (λ (now : RowCell). (let number : ColumnNo = record { 0 = attribute.column.0 } in number, now)) (linked_change b (after_cell own))) base_own

      by : (key : Bool) → stands.column.key ≡ key → (linked : Option RowCell) → linked_cell mapped graph prepared (new_names mapped graph prepared) object attribute.table stands.column.name ≡ linked
          → IsTrue (change_of object attribute.table (attribute.column.0, get_or (columns attribute.table) attribute.column.0 no_column)) cell base
      by true k linked is =
          subst (λ (change : Option (ColumnNo × RowCell)). IsTrue change cell base)
          (sym (ap (option_and_then (cell_kept mapped graph first (partners mapped.schema first) (changed_row mapped graph prepared names object attribute.table))) (first_is ∙ ap (λ (b : Bool). if b then None else in_column attribute.column.0 (cell_change (linked_cell mapped graph prepared names object attribute.table stands.column.name) cell)) k)))
          (key_true cell base (keyed (is_key ∙ k)) (ap (λ (b : Bool). (if b then kept_cell cell else held_or (value_come now object attribute) (kept_cell cell)).base) (sym (is_key ∙ k)) ∙ held))
      by false k linked is =
          let come : (held_or (value_come now object attribute) (kept_cell cell)).base ≡ Some base = ap (λ (b : Bool). (if b then kept_cell cell else held_or (value_come now object attribute) (kept_cell cell)).base) (sym (is_key ∙ k)) ∙ held in
          let all : change_of object attribute.table (attribute.column.0, get_or (columns attribute.table) attribute.column.0 no_column) ≡ option_and_then again (in_column attribute.column.0 (cell_change linked cell)) =
          ap (option_and_then (cell_kept mapped graph first (partners mapped.schema first) (changed_row mapped graph prepared names object attribute.table))) (first_is ∙ ap (λ (b : Bool). if b then None else in_column attribute.column.0 (cell_change (linked_cell mapped graph prepared names object attribute.table stands.column.name) cell)) k)
          ∙ kept_again (cell_change (linked_cell mapped graph prepared names object attribute.table stands.column.name) cell)
          ∙ ap (λ (l : Option RowCell). option_and_then again (in_column attribute.column.0 (cell_change l cell))) is in
          subst (λ (change : Option (ColumnNo × RowCell)). IsTrue change cell base) (sym all)
          (through linked is (ap (λ (l : Option RowCell). (held_or (option_map (value_put now) l) (kept_cell cell)).base) (sym (links ∙ is)) ∙ come))
        where
          through : (linked : Option RowCell) → linked_cell mapped graph prepared (new_names mapped graph prepared) object attribute.table stands.column.name ≡ linked → (held_or (option_map (value_put now) linked) (kept_cell cell)).base ≡ Some base
              → IsTrue (option_and_then again (in_column attribute.column.0 (cell_change linked cell))) cell base
          through None is held = own_true attribute.column.0 cell cell.value cell.base base refl held
          through (Some own) is held =
              linked_true attribute.column.0 cell own base
              (comes mapped graph prepared old order placed after done own (of_linked graph (new_names mapped graph prepared) mapped prepared object attribute.table stands.column.name own is) ∙ same_Some (value_put now own) base held)

  pub staying_holds : (object : ObjId) → IsObject graph object → is_persistent (object_at graph object).state ≡ true → graphs.is_among prepared.deleted object ≡ false → HoldsItsRows mapped after (staying_object now object (object_at graph object))
  unfolding AtColumn
  staying_holds object made persists stays attr base less e =
      let it : Object = object_at graph object in
      let class : ClassId = it.class in
      let i : ℕ = attr.0 in
      let cells : List (ℕ × Cell) = enumerate_from 0 it.cells in
      let within : i < length it.cells = omega (arith, less, length-map cells (staying_cell now object class), length-enumerate_from 0 it.cells) in
      let inside : i < length (attributes_of mapped class) = omega (arith, within, fit_cells mapped graph object done.own.fit made) in
      let attribute : Attribute = attribute_of mapped class attr in
      let at : slice_get (attributes_of mapped class) i ≡ Some attribute = slice_get-get_or (attributes_of mapped class) i no_attribute inside in
      let stands : HasColumn mapped class attribute = has_column mapped class attribute (has_at (attributes_of mapped class) i attribute at) in
      let cell : Cell = get_or it.cells i expired_cell in
      let place : 0 + i ≡ i = omega arith in
      let flushed_cell : get_or (map (staying_cell now object class) cells) i expired_cell ≡ staying_cell now object class (i, cell) =
      get_or-map (staying_cell now object class) cells i (0, expired_cell) expired_cell (omega (arith, within, length-enumerate_from 0 it.cells))
      ∙ ap (staying_cell now object class) (get_or-enumerate_from 0 it.cells i (0, expired_cell) within)
      ∙ ap (λ (n : ℕ). staying_cell now object class (n, cell)) place in
      let keeps : Keeps object attribute.table = record { made = made; persists = persists; stays = stays; has = has_at (tables_of mapped class) stands.rank attribute.table stands.among } in
      let found : cell_for mapped it attribute.table attribute.column.0 ≡ Some cell = cell_is mapped graph prepared old order placed after done object i attribute made at in
      let true_change = change_true object i attribute cell base keeps stands at found (λ key. done.keyed object made persists attr key) (ap (λ (own : Cell). own.base) (sym flushed_cell) ∙ e) in
      by attribute cell keeps found (slice_get_within (columns attribute.table) attribute.column.0 stands.column stands.at) true_change (change_of object attribute.table (attribute.column.0, get_or (columns attribute.table) attribute.column.0 no_column)) refl
    where
      by : (attribute : Attribute) (cell : Cell) → Keeps object attribute.table → cell_for mapped (object_at graph object) attribute.table attribute.column.0 ≡ Some cell → attribute.column.0 < length (columns attribute.table)
          → IsTrue (change_of object attribute.table (attribute.column.0, get_or (columns attribute.table) attribute.column.0 no_column)) cell base
          → (found : Option (ColumnNo × RowCell)) → change_of object attribute.table (attribute.column.0, get_or (columns attribute.table) attribute.column.0 no_column) ≡ found
          → column_in (row_at after (attribute.table, key_held graph object)) attribute.column.0 ≡ Some base
      by attribute cell keeps found inside is None e =
          let held = held_at mapped graph prepared old order placed after done object attribute.table attribute.column.0 cell base made persists found (is.none e) in
          row_after object attribute.table held.row attribute.column.0 keeps held.at inside
          ∙ ap (λ (change : Option (ColumnNo × RowCell)). Some (cell_then value change (get_or held.row attribute.column.0 Null))) e
          ∙ ap (λ (v : Value). Some v) held.cell
      by attribute cell keeps found inside is (Some own) e =
          let changed = exists object attribute.table attribute.column.0 own keeps inside e in
          let there : is_present old (place_of_changed changed.row) ≡ true =
          each_has (λ (row : ChangedRow). is_present old (place_of_changed row) ≡ true) (written_rows changes) changed.row (written_there mapped.schema old changes order placed after done.stated)
          (has_filter (λ (row : ChangedRow). writes_some row.cells) changes.changed changed.row changed.has changed.writes) in
          let stood = some_row (row_at old (own_place object attribute.table)) (ap (is_present old) (sym changed.place) ∙ there) in
          row_after object attribute.table stood.0 attribute.column.0 keeps stood.1 inside
          ∙ ap (λ (change : Option (ColumnNo × RowCell)). Some (cell_then value change (get_or stood.0 attribute.column.0 Null))) e
          ∙ ap (λ (v : Value). Some v) (is.some own e)
        where
          some_row : (o : Option (List Value)) → is_some o ≡ true → (row : List Value) × (o ≡ Some row)
          some_row None there = true_false false there refl
          some_row (Some row) there = (row, refl)
