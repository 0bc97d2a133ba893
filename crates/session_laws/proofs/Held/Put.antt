-- What stands in the row of a new object, inserted or put in place of a deleted row.
use Rattle.std.proofs.Common.{◌≡◌, ◌⊎◌, inl, inr, ℕ, zero, suc, ◌+◌, ◌<◌, Bool, true, false, cond, ◌&&◌, ◌==◌, if◌then◌else◌, List, [], ◌∷◌, length, map, get_or, Option, None, Some, is_some, is_none, option_map, unwrap_or, refl, sym, subst, ap, ◌∙◌, arith}
use Rattle.std.specs.Prelude.{slice_get}
use Rattle.std.specs.List.{enumerate_from, filter_map, flat_map, position}
use Rattle.std.specs.Option.{option_and_then}
use Rattle.std.proofs.lemmas.Bool.{and_parts, eq-eqb, eqb-true}
use Rattle.std.proofs.lemmas.List.{get_or-map, length-map}
use Rattle.std.proofs.lemmas.List.FromFn.{get_or-enumerate_from, length-enumerate_from}
use Rattle.std.proofs.lemmas.List.Quantifiers.{position-Some}
use Rattle.std.proofs.lemmas.Option.{get_or_from_slice_get, same_Some, slice_get-get_or, slice_get_within}
use Rattle.base_core.specs.declared.ids.ClassId.{ClassId}
use Rattle.base_core.specs.declared.ids.ColumnNo.{ColumnNo}
use Rattle.base_core.specs.declared.ids.ObjId.{ObjId}
use Rattle.base_core.specs.declared.ids.TableId.{TableId}
use Rattle.base_core.specs.declared.value.Value.{Value}
use Rattle.base_core.specs.declared.value.Value.TheVariants.{Null}
use Rattle.schema_core.specs.declared.changes.ChangedRow.{ChangedRow}
use Rattle.schema_core.specs.declared.changes.GoneRow.{GoneRow}
use Rattle.schema_core.specs.declared.changes.NewRow.{NewRow}
use Rattle.schema_core.specs.declared.changes.RowCell.{RowCell}
use Rattle.schema_core.specs.declared.changes.RowCell.TheVariants.{Given, KeyOf}
use Rattle.schema_core.specs.declared.changes.RowChanges.{RowChanges}
use Rattle.schema_core.specs.declared.table.ColumnSpec.{ColumnSpec}
use Rattle.schema_core.specs.Apply.{with_cells, with_own_key}
use Rattle.schema_core.specs.Catalog.{spec_of}
use Rattle.schema_core.specs.DependencyOrder as declares
use Rattle.schema_core.specs.Tables.{Tables, fits, value_or_null}
use Rattle.std.specs.Cmp.Lexicographic.{as_long}
use Rattle.class_types.specs.declared.mapped.Attribute.{Attribute}
use Rattle.class_mapping.specs.Mapped.{Mapped, attributes_of, no_attribute, tables_of}
use Rattle.class_mapping.proofs.Having.{Has, any_has, from_flat, from_map, has_at, has_either, has_filter, has_numbered, has_right}
use Rattle.object_arena.specs.Graph as graphs
use Rattle.object_arena.specs.Graph.{Graph, IsObject, cell_in, expired_cell, is_persistent, object_at, place_of}
use Rattle.object_arena.specs.declared.object.Cell.{Cell}
use Rattle.object_arena.specs.declared.object.Object.{Object}
use Rattle.flush_order.specs.Cells.{cells_cleared, is_late, new_at, no_row, table_at}
use Rattle.flush_order.specs.Orders.{gone_at, no_gone, place_of_gone}
use Rattle.row_order.specs.Places.{is_among}
use Rattle.flush_order.specs.Refers.{gone_key}
use Rattle.flush_order.specs.Sorted.{Place}
use Rattle.flush_plan.specs.Flushing.{Keys, Sofar, key_of_new, value_of_cell}
use Rattle.flush_writes.specs.Writes.{no_column, place_of_changed, writes_some}
use Rattle.flush_plan.specs.Stating.{blend, is_present, row_at, written_rows}
use Rattle.object_rows.specs.declared.prepared.Prepared.{Prepared}
use Rattle.object_rows.specs.Cells.{key_value}
use Rattle.object_rows.specs.Rows as rows
use Rattle.object_rows.specs.Rows.{cell_for, columns_at, gone_cell, gone_row, in_column, is_at, is_base, is_joined, key_part, linked_change, value_before}
use Rattle.pair_rows.specs.Pairs.{lost_rows}
use Rattle.row_project.specs.Changes.{object_changes, project}
use Rattle.row_partners.specs.Partners.{known_key, partners}
use Rattle.row_switches.specs.Switch.{cell_after_switch, cell_switched, is_unread, row_switched, rows_kept, rows_switched, switch_of, value_gone}
use Rattle.row_project.proofs.Declared.{column_of}
use Rattle.session_laws.proofs.Plans.Between.{legal_cells}
use Rattle.session_laws.proofs.Plans.Complete.{apart, found_placed, known_facts, new_created, written_there}
use Rattle.session_laws.proofs.Plans.Facts.{some_of, true_false}
use Rattle.session_laws.proofs.Plans.InsertOrder.{is_order, last_draws}
use Rattle.session_laws.proofs.Plans.Stated.{stated_new}
use Rattle.session_laws.specs.Projects.{AreRowsApart, IsWhole}
use Rattle.session_laws.proofs.Projects.Apart.{gone_is}
use Rattle.session_laws.proofs.Projects.LateKeys.{each_has}
use Rattle.session_laws.specs.Graphs.{key_held}
use Rattle.session_laws.proofs.Graphs.ObjectsApart.{among_of, rows_apart}
use Rattle.session_laws.proofs.Held.After.{changed_at}
use Rattle.session_laws.proofs.Held.Columns.{IsDrawn, base_is, cell_then, drawn_is, put_all, put_unless, some_cells, written_at}
use Rattle.session_laws.proofs.Held.Lists.{has_chosen}
use Rattle.session_laws.specs.Held.{column_in, held_in}
use Rattle.session_laws.proofs.Held.Done.{IsDone}
use Rattle.session_laws.proofs.Held.Keys.{key_by, number, stays_at, value_in}
use Rattle.session_laws.proofs.Held.Rooted.{drawn, once, own_key, whole}

-- ---- cells by columns

blend_at : (t : ColumnSpec → Bool) (cs : List ColumnSpec) (row other : List Value) (c : ℕ) (d : ColumnSpec) → length row ≡ length cs → length other ≡ length cs → c < length cs
    → get_or (blend t cs row other) c Null ≡ cond (t (get_or cs c d)) (get_or other c Null) (get_or row c Null)
blend_at t [] row other c d long same less = absurd (omega (arith, less))
blend_at t (column ∷ cs) [] other c d long same less = absurd (omega (arith, long))
blend_at t (column ∷ cs) (cell ∷ row) [] c d long same less = absurd (omega (arith, same))
blend_at t (column ∷ cs) (cell ∷ row) (one ∷ other) zero d long same less = refl
blend_at t (column ∷ cs) (cell ∷ row) (one ∷ other) (suc c) d long same less = blend_at t cs row other c d (omega (arith, long)) (omega (arith, same)) (omega (arith, less))

cleared_at : (t : ColumnSpec → Bool) (cs : List ColumnSpec) (cells : List RowCell) (c : ℕ) (d : ColumnSpec) → length cells ≡ length cs → c < length cs
    → get_or (cells_cleared t (Given Null) cs cells) c (Given Null) ≡ cond (t (get_or cs c d)) (Given Null) (get_or cells c (Given Null))
cleared_at t [] cells c d long less = absurd (omega (arith, less))
cleared_at t (column ∷ cs) [] c d long less = absurd (omega (arith, long))
cleared_at t (column ∷ cs) (cell ∷ cells) zero d long less = refl
cleared_at t (column ∷ cs) (cell ∷ cells) (suc c) d long less = cleared_at t cs cells c d (omega (arith, long)) (omega (arith, less))

cleared_long : (t : ColumnSpec → Bool) (cs : List ColumnSpec) (cells : List RowCell) → length cells ≡ length cs → length (cells_cleared t (Given Null) cs cells) ≡ length cs
cleared_long t [] [] long = refl
cleared_long t [] (cell ∷ cells) long = absurd (omega (arith, long))
cleared_long t (column ∷ cs) [] long = absurd (omega (arith, long))
cleared_long t (column ∷ cs) (cell ∷ cells) long = ap suc (cleared_long t cs cells (omega (arith, long)))

-- a value that stands where it is not written
pub stands_unless : (keys : Keys) (c : ℕ) (base : Option Value) (cell : RowCell) (before : Value) → ((v : Value) → base ≡ Some v → cell ≡ Given v → before ≡ v) → cell_then (value_of_cell keys) (in_column c (linked_change base cell)) before ≡ value_of_cell keys cell
stands_unless keys c base (KeyOf place part) before same = refl
stands_unless keys c base (Given v) before same = put_unless keys c base v before (λ known. same v known refl)

module _ (mapped : Mapped) (graph : Graph) (prepared : Prepared) (old : Tables) (order : List ℕ) (placed : Sofar) (after : Tables) (done : IsDone mapped graph prepared old order placed after) where
  abbrev first : RowChanges
  first = object_changes mapped graph prepared

  abbrev changes : RowChanges
  changes = project mapped graph prepared

  abbrev columns : ℕ → List ColumnSpec
  columns q = (spec_of mapped.schema (table_at (object_changes mapped graph prepared) q)).columns

  abbrev cell_at : ℕ → ℕ → RowCell
  cell_at q c = get_or (new_at (object_changes mapped graph prepared) q).cells c (Given Null)

  -- what a cell comes to
  abbrev pub value_then : RowCell → Value
  value_then cell = value_in mapped graph (object_changes mapped graph prepared) (whole mapped graph prepared old order placed after done) placed.keys (drawn mapped graph prepared old order placed after done) cell

  abbrev key_then : ℕ → List Value
  key_then q = own_key mapped graph prepared old order placed after done q

  -- a new row stands under its key, and outside the key it has what its cells come to
  pub record IsPut (q : ℕ) : Type 0 where
    pub row : List Value
    pub at : row_at after (table_at (object_changes mapped graph prepared) q, key_then q) ≡ Some row
    pub cells : (c : ℕ) → c < length (columns q) → (get_or (columns q) c no_column).key ≡ false → get_or row c Null ≡ value_then (cell_at q c)

  long_cells : (q : ℕ) → q < length first.fresh → length (new_at first q).cells ≡ length (columns q)
  long_cells q less = each_has (IsWhole mapped.schema) first.fresh (new_at first q) (whole mapped graph prepared old order placed after done) (has_at first.fresh q (new_at first q) (slice_get-get_or first.fresh q no_row less))

  pub inserted : (q : ℕ) → q < length first.fresh → get_or (partners mapped.schema (object_changes mapped graph prepared)) q None ≡ None → IsPut q
  inserted q less none =
      let k : ℕ = number mapped graph first (whole mapped graph prepared old order placed after done) placed.keys (drawn mapped graph prepared old order placed after done) q in
      let after_cell : RowCell → RowCell = cell_after_switch mapped.schema first (partners mapped.schema first) in
      let own : NewRow = record { name = (new_at first q).name; cells = map after_cell (new_at first q).cells } in
      let there : slice_get changes.fresh k ≡ Some own = stays_at mapped graph first (whole mapped graph prepared old order placed after done) placed.keys (drawn mapped graph prepared old order placed after done) q less none in
      let row : new_at changes k ≡ own = get_or_from_slice_get changes.fresh k own no_row there in
      let inside : k < length changes.fresh = slice_get_within changes.fresh k own there in
      let among : is_among order k ≡ true = (is_order mapped.schema old changes order placed after done.stated).each k inside in
      let found = found_placed mapped.schema old changes order placed after done.stated k among in
      let spec = spec_of mapped.schema (table_at first q) in
      let late : ColumnSpec → Bool = is_late mapped.schema first (table_at first q) in
      let cells : List RowCell = map after_cell (new_at first q).cells in
      let long : length cells ≡ length spec.columns = length-map (new_at first q).cells after_cell ∙ long_cells q less in
      let start : List Value = map (value_of_cell placed.keys) (cells_cleared late (Given Null) spec.columns cells) in
      let draws : with_own_key spec found.step.rows start ≡ Some found.step.row =
      subst (λ (r : NewRow). with_own_key (spec_of mapped.schema r.name.table) found.step.rows (map (value_of_cell placed.keys) (cells_cleared (is_late mapped.schema first r.name.table) (Given Null) (spec_of mapped.schema r.name.table).columns r.cells)) ≡ Some found.step.row) row
      (last_draws mapped.schema old changes order placed after done.stated k found) in
      let start_long : length start ≡ length spec.columns = length-map (cells_cleared late (Given Null) spec.columns cells) (value_of_cell placed.keys) ∙ cleared_long late spec.columns cells long in
      let drawn_row : IsDrawn spec.columns start found.step.row = drawn_is spec found.step.rows start found.step.row start_long draws in
      let others : List Value = map (value_of_cell placed.keys) cells in
      let others_long : length others ≡ length spec.columns = length-map cells (value_of_cell placed.keys) ∙ long in
      let key : key_of_new placed.keys k ≡ key_then q = none_key q none in
      record {
        row = blend late spec.columns found.step.row others;
        at = (λ i. row_at after ((sym row i).name.table, sym key i))
            ∙ stated_new mapped.schema old changes order placed after done.stated.sorted (known_facts mapped.schema old changes order placed after done.stated) (apart mapped.schema old changes order placed after done.stated) k among (new_created mapped.schema old changes order placed after done.stated k among)
            ∙ (λ i. Some (blend (is_late mapped.schema first (row i).name.table) (spec_of mapped.schema (row i).name.table).columns (unwrap_or (found.stands i) []) (map (value_of_cell placed.keys) (row i).cells)));
        cells = λ c within free.
            let cell : get_or others c Null ≡ value_then (cell_at q c) =
            get_or-map (value_of_cell placed.keys) cells c (Given Null) Null (omega (arith, within, long)) ∙ ap (value_of_cell placed.keys) (get_or-map after_cell (new_at first q).cells c (Given Null) (Given Null) (omega (arith, within, long_cells q less))) in
            let early : late (get_or spec.columns c no_column) ≡ false → get_or found.step.row c Null ≡ value_then (cell_at q c) =
            λ never.
            drawn_row.cells c no_column within free
            ∙ get_or-map (value_of_cell placed.keys) (cells_cleared late (Given Null) spec.columns cells) c (Given Null) Null (omega (arith, within, cleared_long late spec.columns cells long))
            ∙ ap (value_of_cell placed.keys) (cleared_at late spec.columns cells c no_column long within ∙ ap (λ (b : Bool). cond b (Given Null) (get_or cells c (Given Null))) never)
            ∙ sym (get_or-map (value_of_cell placed.keys) cells c (Given Null) Null (omega (arith, within, long))) ∙ cell in
            blend_at late spec.columns found.step.row others c no_column drawn_row.long others_long within ∙ either (late (get_or spec.columns c no_column)) (get_or others c Null) (get_or found.step.row c Null) (value_then (cell_at q c)) cell early refl;
      }
    where
      none_key : (q : ℕ) → get_or (partners mapped.schema (object_changes mapped graph prepared)) q None ≡ None
          → key_of_new placed.keys (number mapped graph (object_changes mapped graph prepared) (whole mapped graph prepared old order placed after done) placed.keys (drawn mapped graph prepared old order placed after done) q) ≡ own_key mapped graph prepared old order placed after done q
      none_key q e = sym (ap (λ (o : Option ℕ). key_by mapped graph (object_changes mapped graph prepared) (whole mapped graph prepared old order placed after done) placed.keys (drawn mapped graph prepared old order placed after done) o q) e)

      either : (b : Bool) (u v w : Value) → u ≡ w → (b ≡ false → v ≡ w) → b ≡ b → cond b u v ≡ w
      either true u v w one other same = one
      either false u v w one other same = other refl

  -- ---- a row in place of a deleted one

  kept_apart : AreRowsApart mapped.schema (object_changes mapped graph prepared)
  kept_apart = rows_apart mapped graph prepared (once mapped graph prepared old order placed after done) done.own.keyed

  -- the object whose row it was, in one of its tables
  pub record WasRow (q gone : ℕ) : Type 0 where
    pub object : ObjId
    pub made : IsObject graph object
    pub persists : is_persistent (object_at graph object).state ≡ true
    pub deleted : graphs.is_among prepared.deleted object ≡ true
    pub has : Has (tables_of mapped (object_at graph object).class) (table_at (object_changes mapped graph prepared) q)
    pub is : gone_at (object_changes mapped graph prepared).gone gone ≡ gone_row mapped graph object (table_at (object_changes mapped graph prepared) q)
    pub key : key_held graph object ≡ known_key mapped.schema (object_changes mapped graph prepared) q

  among_has : (objects : List ObjId) (object : ObjId) → Has objects object → graphs.is_among objects object ≡ true
  among_has objects object has = any_has (λ (other : ObjId). other.0 == object.0) objects object has (eq-eqb object.0 object.0 refl)

  pub was_row : (q gone : ℕ) (class : ClassId) → Has (tables_of mapped class) (table_at (object_changes mapped graph prepared) q) → get_or (partners mapped.schema (object_changes mapped graph prepared)) q None ≡ Some gone → WasRow q gone
  unfolding rows.gone_rows
  was_row q gone class own e =
      let under = gone_is mapped graph first kept_apart q gone e in
      let row : GoneRow = gone_at first.gone gone in
      by row refl under.1 (has_either (rows.gone_rows mapped graph prepared) (lost_rows mapped graph prepared) row (has_at first.gone gone row (slice_get-get_or first.gone gone no_gone under.0)))
    where
      by : (row : GoneRow) → gone_at (object_changes mapped graph prepared).gone gone ≡ row → place_of_gone mapped.schema row ≡ (table_at (object_changes mapped graph prepared) q, known_key mapped.schema (object_changes mapped graph prepared) q)
          → Has (flat_map (rows.rows_gone mapped graph) prepared.deleted) row ⊎ Has (lost_rows mapped graph prepared) row → WasRow q gone
      by row is place (inr pair) =
          let table : row.name.table ≡ table_at first q = ap (λ (p : Place). p.0) place in
          absurd (true_false (sym (among_of (tables_of mapped class) row.name.table (subst (Has (tables_of mapped class)) (sym table) own)) ∙ each_has (λ (r : GoneRow). declares.is_among (tables_of mapped class) r.name.table ≡ false) (lost_rows mapped graph prepared) row (done.own.keyed.secondary class) pair))
      by row is place (inl inside) =
          let from = from_flat (rows.rows_gone mapped graph) prepared.deleted row inside in
          let object : ObjId = from.0 in
          let of = from_map (gone_row mapped graph object) (tables_of mapped (object_at graph object).class) row from.2 in
          let table : of.0 ≡ table_at first q = ap (λ (r : GoneRow). r.name.table) of.2 ∙ ap (λ (p : Place). p.0) place in
          let among : graphs.is_among prepared.deleted object ≡ true = among_has prepared.deleted object from.1 in
          let its : gone_row mapped graph object (table_at first q) ≡ row = ap (gone_row mapped graph object) (sym table) ∙ of.2 in
          record {
            object = object;
            made = each_has (IsObject graph) prepared.deleted object done.own.keyed.made from.1;
            persists = each_has (λ (o : ObjId). is_persistent (object_at graph o).state ≡ true) prepared.deleted object done.own.keyed.standing from.1;
            deleted = among;
            has = subst (Has (tables_of mapped (object_at graph object).class)) table of.1;
            is = is ∙ sym its;
            key = sym (done.own.keyed.read object (table_at first q) among (among_of (tables_of mapped (object_at graph object).class) (table_at first q) (subst (Has (tables_of mapped (object_at graph object).class)) table of.1))) ∙ ap (gone_key mapped.schema) its ∙ ap (λ (p : Place). p.1) place;
          }

  -- what is known of an object stands in its row
  pub record IsHeldAt (object : ObjId) (table : TableId) (c : ℕ) (base : Value) : Type 0 where
    pub row : List Value
    pub at : row_at old (table, key_held graph object) ≡ Some row
    pub cell : get_or row c Null ≡ base

  cell_place : (object : ObjId) (table : TableId) (c : ℕ) (cell : Cell) → cell_for mapped (object_at graph object) table c ≡ Some cell → (i : ℕ) × (slice_get (object_at graph object).cells i ≡ Some cell)
  cell_place object table c cell found = by (position (is_at table c) (attributes_of mapped (object_at graph object).class)) found
    where
      by : (place : Option ℕ) → option_and_then (slice_get (object_at graph object).cells) place ≡ Some cell → (i : ℕ) × (slice_get (object_at graph object).cells i ≡ Some cell)
      by None at = absurd cc
      by (Some i) at = (i, at)

  column_at : (found : Option (List Value)) (c : ℕ) (base : Value) → column_in found c ≡ Some base → (row : List Value) × (found ≡ Some row) × (get_or row c Null ≡ base)
  column_at None c base e = absurd cc
  column_at (Some row) c base e = (row, refl, get_or_from_slice_get row c base Null e)

  pub held_at : (object : ObjId) (table : TableId) (c : ℕ) (cell : Cell) (base : Value) → IsObject graph object → is_persistent (object_at graph object).state ≡ true → cell_for mapped (object_at graph object) table c ≡ Some cell → cell.base ≡ Some base → IsHeldAt object table c base
  held_at object table c cell base made persists found known =
      by (position (is_at table c) (attributes_of mapped (object_at graph object).class)) refl found
    where
      by : (place : Option ℕ) → position (is_at table c) (attributes_of mapped (object_at graph object).class) ≡ place → option_and_then (slice_get (object_at graph object).cells) place ≡ Some cell → IsHeldAt object table c base
      by None e at = absurd cc
      by (Some i) e at =
          let it : Object = object_at graph object in
          let attribute : Attribute = get_or (attributes_of mapped it.class) i no_attribute in
          let passes = and_parts (attribute.table.0 == table.0) (attribute.column.0 == c) (position-Some (is_at table c) (attributes_of mapped it.class) i no_attribute e).1 in
          let its : attribute.table ≡ table = ap (λ (n : ℕ). let id : TableId = record { 0 = n } in id) (eqb-true attribute.table.0 table.0 passes.0) in
          let number : attribute.column.0 ≡ c = eqb-true attribute.column.0 c passes.1 in
          let base_is : (cell_in it (record { 0 = i })).base ≡ Some base = ap (λ (own : Cell). own.base) (get_or_from_slice_get it.cells i cell expired_cell at) ∙ known in
          let held : held_in old attribute it.identity ≡ Some base = done.holds object made persists (record { 0 = i }) base (slice_get_within it.cells i cell at) base_is in
          let row = column_at (row_at old (attribute.table, key_held graph object)) attribute.column.0 base held in
          record { row = row.0; at = ap (λ (t : TableId). row_at old (t, key_held graph object)) (sym its) ∙ row.1; cell = ap (λ (n : ℕ). get_or row.0 n Null) (sym number) ∙ row.2 }

  module _ (q gone : ℕ) (less : q < length (object_changes mapped graph prepared).fresh) (e : get_or (partners mapped.schema (object_changes mapped graph prepared)) q None ≡ Some gone) (was : WasRow q gone) where
    abbrev f : ℕ × ColumnSpec → Option (ColumnNo × RowCell)
    f = cell_switched mapped graph first (partners mapped.schema first) (new_at first q) (gone_at first.gone gone)

    abbrev switched_row : ChangedRow
    switched_row = row_switched mapped graph first (partners mapped.schema first) (q, new_at first q) (gone_at first.gone gone)

    pub among_changed : Has changes.changed switched_row
    among_changed =
        let place : 0 + q ≡ q = omega arith in
        let there : Has (enumerate_from 0 first.fresh) (q, new_at first q) =
        subst (λ (n : ℕ). Has (enumerate_from 0 first.fresh) (n, new_at first q)) place (has_numbered 0 first.fresh q (new_at first q) (slice_get-get_or first.fresh q no_row less)) in
        has_right (rows_kept mapped graph first (partners mapped.schema first)) (rows_switched mapped graph first (partners mapped.schema first)) switched_row
        (has_chosen (switch_of mapped graph first (partners mapped.schema first)) (enumerate_from 0 first.fresh) (q, new_at first q) switched_row there
        (ap (option_map (λ (n : ℕ). row_switched mapped graph first (partners mapped.schema first) (q, new_at first q) (gone_at first.gone n))) e))

    some_key : known_key mapped.schema first q ≡ key_then q
    some_key = sym (ap (λ (o : Option ℕ). key_by mapped graph first (whole mapped graph prepared old order placed after done) placed.keys (drawn mapped graph prepared old order placed after done) o q) e)

    places : (column : ℕ × ColumnSpec) (cell : ColumnNo × RowCell) → f column ≡ Some cell → column.0 ≡ cell.0.0
    places column cell is = (column_of column.1.key column.0 (linked_change (value_gone mapped graph (gone_at first.gone gone) column.0) (cell_after_switch mapped.schema first (partners mapped.schema first) (get_or (new_at first q).cells column.0 (Given Null)))) cell is).0

    -- what the deleted row is known to hold
    known_gone : (c : ℕ) (v : Value) → c < length (columns q) → (get_or (columns q) c no_column).key ≡ false → value_gone mapped graph (gone_at first.gone gone) c ≡ Some v → IsHeldAt was.object (table_at first q) c v
    known_gone c v inside free known =
        let it : Object = object_at graph was.object in
        let table : TableId = table_at first q in
        let row : GoneRow = gone_row mapped graph was.object table in
        let within : place_of was.object < length graph.objects = omega (arith, was.made.0, was.made.1) in
        let read : (if is_unread mapped table c (Some it) then None else Some (get_or row.base c Null)) ≡ Some v =
        ap (λ (o : Option Object). if is_unread mapped table c o then None else Some (get_or row.base c Null)) (sym (slice_get-get_or graph.objects (place_of was.object) graphs.no_object within)) ∙ ap (λ (r : GoneRow). value_gone mapped graph r c) (sym was.is) ∙ known in
        let base : get_or row.base c Null ≡ value_before (cell_for mapped it table c) =
        get_or-map (gone_cell mapped it table) (enumerate_from 0 (columns q)) c (0, no_column) Null (omega (arith, inside, length-enumerate_from 0 (columns q)))
        ∙ ap (gone_cell mapped it table) (get_or-enumerate_from 0 (columns q) c (0, no_column) inside)
        ∙ unkeyed (is_joined mapped it.class table) (get_or (columns q) c no_column).key free (key_value it.identity (key_part (columns_at mapped table) (0 + c))) (value_before (cell_for mapped it table (0 + c)))
        ∙ (let same : 0 + c ≡ c = omega arith in ap (λ (n : ℕ). value_before (cell_for mapped it table n)) same) in
        by (cell_for mapped it table c) refl (ap (λ (b : Bool). if b && is_none (cell_for mapped it table c) then None else Some (get_or row.base c Null)) (sym (among_of (tables_of mapped it.class) table was.has)) ∙ read) base
      where
        unkeyed : (joined key : Bool) → key ≡ false → (u v : Value) → (if joined && key then u else v) ≡ v
        unkeyed true true k u v = absurd (true_false k)
        unkeyed true false k u v = refl
        unkeyed false key k u v = refl

        by : (found : Option Cell) → cell_for mapped (object_at graph was.object) (table_at first q) c ≡ found → (if is_none found then None else Some (get_or (gone_row mapped graph was.object (table_at first q)).base c Null)) ≡ Some v
            → get_or (gone_row mapped graph was.object (table_at first q)).base c Null ≡ value_before found → IsHeldAt was.object (table_at first q) c v
        by None is read base = absurd (let wrong : None ≡ Some v = read in cc)
        by (Some cell) is read base =
            let at = cell_place was.object (table_at first q) c cell is in
            let known = done.known was.object was.made was.deleted (record { 0 = at.0 }) (slice_get_within (object_at graph was.object).cells at.0 cell at.1) in
            let some = some_of cell.base (ap (λ (own : Cell). is_some own.base) (sym (get_or_from_slice_get (object_at graph was.object).cells at.0 cell expired_cell at.1)) ∙ known) in
            let value : some.0 ≡ v = sym (ap (λ (o : Option Value). value_or_null o) some.1) ∙ sym base ∙ same_Some (get_or (gone_row mapped graph was.object (table_at first q)).base c Null) v read in
            subst (IsHeldAt was.object (table_at first q) c) value (held_at was.object (table_at first q) c cell some.0 was.made was.persists is some.1)

    unwritten : (c : ℕ) (base : Option Value) (cell : RowCell) → in_column c (linked_change base cell) ≡ None → (v : Value) × (base ≡ Some v)
    unwritten c base (KeyOf place part) e = absurd cc
    unwritten c base (Given v) e = by (is_base base v) refl e
      where
        by : (b : Bool) → is_base base v ≡ b → in_column c (let none : Option RowCell = None in if b then none else Some (Given v)) ≡ None → (w : Value) × (base ≡ Some w)
        by true is e = (v, base_is base v is)
        by false is e = absurd cc

    -- it stands where it has a column outside the key
    pub switched_stands : (c : ℕ) → c < length (columns q) → (get_or (columns q) c no_column).key ≡ false → (stood : List Value) × (row_at old (table_at first q, key_then q) ≡ Some stood)
    switched_stands c inside free = by (f (c, get_or (columns q) c no_column)) refl
      where
        change : Option (ColumnNo × RowCell)
        change = in_column c (linked_change (value_gone mapped graph (gone_at first.gone gone) c) (cell_after_switch mapped.schema first (partners mapped.schema first) (get_or (new_at first q).cells c (Given Null))))

        by : (found : Option (ColumnNo × RowCell)) → f (c, get_or (columns q) c no_column) ≡ found → (stood : List Value) × (row_at old (table_at first q, key_then q) ≡ Some stood)
        by None is =
            let none : change ≡ None = sym (ap (λ (b : Bool). if b then None else change) free) ∙ is in
            let known = unwritten c (value_gone mapped graph (gone_at first.gone gone) c) (cell_after_switch mapped.schema first (partners mapped.schema first) (get_or (new_at first q).cells c (Given Null))) none in
            let held = known_gone c known.0 inside free known.1 in
            (held.row, ap (λ (key : List Value). row_at old (table_at first q, key)) (sym some_key ∙ sym was.key) ∙ held.at)
        by (Some cell) is =
            let place : 0 + c ≡ c = omega arith in
            let numbered : Has (enumerate_from 0 (columns q)) (c, get_or (columns q) c no_column) =
            subst (λ (n : ℕ). Has (enumerate_from 0 (columns q)) (n, get_or (columns q) c no_column)) place (has_numbered 0 (columns q) c (get_or (columns q) c no_column) (slice_get-get_or (columns q) c no_column inside)) in
            let writes : writes_some switched_row.cells ≡ true = (some_cells switched_row.cells cell (has_chosen f (enumerate_from 0 (columns q)) (c, get_or (columns q) c no_column) cell numbered is)).1 in
            let there : is_present old (place_of_changed switched_row) ≡ true =
            each_has (λ (row : ChangedRow). is_present old (place_of_changed row) ≡ true) (written_rows changes) switched_row (written_there mapped.schema old changes order placed after done.stated)
            (has_filter (λ (row : ChangedRow). writes_some row.cells) changes.changed switched_row among_changed writes) in
            some_of (row_at old (table_at first q, key_then q)) (ap (λ (key : List Value). is_present old (table_at first q, key)) (sym some_key) ∙ there)

    pub switched : (stood : List Value) → row_at old (table_at first q, key_then q) ≡ Some stood → IsPut q
    switched stood at =
        let value = value_of_cell placed.keys in
        let long : length stood ≡ length (columns q) = sym (as_long fits (columns q) stood (legal_cells mapped.schema old done.legal (table_at first q, key_then q) stood at)) in
        record {
          row = with_cells stood (put_all value (filter_map f (enumerate_from 0 (columns q))));
          at = ap (λ (key : List Value). row_at after (table_at first q, key)) (sym some_key) ∙ changed_at mapped.schema old changes order placed after done.stated switched_row stood among_changed (ap (λ (key : List Value). row_at old (table_at first q, key)) some_key ∙ at);
          cells = λ c inside free.
              let cell : RowCell = cell_after_switch mapped.schema first (partners mapped.schema first) (get_or (new_at first q).cells c (Given Null)) in
              let gone_value = value_gone mapped graph (gone_at first.gone gone) c in
              written_at value f places stood (columns q) c no_column long inside
              ∙ ap (λ (b : Bool). cell_then value (if b then None else in_column c (linked_change gone_value cell)) (get_or stood c Null)) free
              ∙ stands_unless placed.keys c gone_value cell (get_or stood c Null)
              (λ v known given.
              let held = known_gone c v inside free known in
              let same : held.row ≡ stood = same_Some held.row stood (sym held.at ∙ ap (λ (key : List Value). row_at old (table_at first q, key)) (was.key ∙ some_key) ∙ at) in
              ap (λ (row : List Value). get_or row c Null) (sym same) ∙ held.cell);
        }
