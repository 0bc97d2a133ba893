-- A new object holds, once its rows were written, what its rows hold.
use Rattle.std.proofs.Common.{◌≡◌, ◌⊎◌, inl, inr, ℕ, ◌+◌, ◌-◌, ◌<◌, Bool, true, false, cond, ◌&&◌, ◌==◌, if◌then◌else◌, List, [], ◌∷◌, length, map, fold, get_or, is_eq, Option, None, Some, option_map, unwrap_or, refl, sym, subst, ap, ◌∙◌, arith}
use Rattle.std.specs.Prelude.{is_some, slice_get}
use Rattle.std.specs.BTreeMap.{insert_entry}
use Rattle.std.specs.Cmp.Lexicographic.{as_long}
use Rattle.std.specs.List.{AllByRecursion, enumerate_from, flat_map, position, range_with_len}
use Rattle.std.specs.Map.{values_of}
use Rattle.std.specs.Ordering.{match_ordering, nat_cmp, ordering_then}
use Rattle.std.specs.declared.cmp.Ordering.{Ordering}
use Rattle.std.specs.declared.cmp.Ordering.TheVariants.{Less, Equal, Greater}
use Rattle.std.proofs.lemmas.Bool.{eqb-true}
use Rattle.std.proofs.lemmas.List.{get_or-map, length-map}
use Rattle.std.proofs.lemmas.List.FromFn.{get_or-enumerate_from, length-enumerate_from}
use Rattle.std.proofs.lemmas.Option.{get_or_from_slice_get, same_Some, slice_get-get_or, slice_get_within}
use Rattle.base_core.specs.declared.ids.AttrNo.{AttrNo}
use Rattle.base_core.specs.declared.ids.ClassId.{ClassId}
use Rattle.base_core.specs.declared.ids.ObjId.{ObjId}
use Rattle.base_core.specs.declared.ids.TableId.{TableId}
use Rattle.base_core.specs.declared.refusal.RowName.{RowName}
use Rattle.base_core.specs.declared.value.Value.{Value}
use Rattle.base_core.specs.declared.value.Value.TheVariants.{Null}
use Rattle.schema_core.specs.declared.changes.NewRow.{NewRow}
use Rattle.schema_core.specs.declared.changes.RowCell.{RowCell}
use Rattle.schema_core.specs.declared.changes.RowCell.TheVariants.{Given, KeyOf}
use Rattle.schema_core.specs.declared.changes.RowChanges.{RowChanges}
use Rattle.schema_core.specs.declared.table.ColumnSpec.{ColumnSpec}
use Rattle.schema_core.specs.Catalog.{spec_of}
use Rattle.schema_core.specs.Tables.{Tables, fits, value_or_null}
use Rattle.class_types.specs.declared.mapped.Attribute.{Attribute}
use Rattle.class_mapping.specs.Mapped.{Mapped, attribute_of, attributes_of, class_spec, key_attributes, no_attribute, root_table, tables_of}
use Rattle.class_mapping.proofs.Having.{Has, has_at, has_flat, has_map, true_false}
use Rattle.mapping_laws.specs.Hierarchies.{HasTables}
use Rattle.object_arena.specs.declared.object.Cell.{Cell}
use Rattle.object_arena.specs.declared.object.Object.{Object}
use Rattle.object_arena.specs.Graph.{Graph, IsObject, expired_cell, object_at, place_of, rank_cmp}
use Rattle.object_arena.specs.Identity.{id_of_place}
use Rattle.object_arena.proofs.FitLemmas.{fit_cells, fit_class}
use Rattle.flush_order.specs.Cells.{new_at, table_at}
use Rattle.flush_plan.specs.Flushing.{Sofar}
use Rattle.flush_writes.specs.Writes.{no_column}
use Rattle.flush_plan.specs.Stating.{row_at}
use Rattle.graph_flushed.specs.Flushed as flushed
use Rattle.graph_flushed.specs.Flushed.{Written, held_cell, key_of, new_cell, new_object, new_value, own_value, part_or, value_come, value_put}
use Rattle.object_rows.specs.declared.prepared.Prepared.{Prepared}
use Rattle.object_rows.specs.Cells.{key_value, linked_cell}
use Rattle.object_rows.specs.Rows as rows
use Rattle.object_rows.specs.Rows.{cell_for, cell_or, is_discriminator, is_joined, new_names, own_cell, row_name, value_now}
use Rattle.object_rows.specs.Seen.{is_new, new_objects, object_ids, with_queued}
use Rattle.object_rows.proofs.PlaceSteps.{number_same}
use Rattle.row_project.specs.Changes.{object_changes}
use Rattle.row_partners.specs.Partners.{partners}
use Rattle.session_laws.proofs.Plans.Between.{legal_cells, legal_key}
use Rattle.session_laws.proofs.Projects.Loose.{has_place}
use Rattle.session_laws.proofs.Held.Lists.{has_range}
use Rattle.session_laws.specs.Held.{HoldsItsRows, column_in}
use Rattle.session_laws.proofs.Held.Attributes.{HasColumn, has_column, part_held}
use Rattle.session_laws.proofs.Held.Done.{IsDone}
use Rattle.session_laws.proofs.Held.Given.{cell_is, has_key_of, root_put, written}
use Rattle.session_laws.proofs.Held.Keys.{key_part_is}
use Rattle.session_laws.proofs.Held.Linked.{IsOfNames, of_linked}
use Rattle.session_laws.proofs.Held.Names.{first_row, names_within}
use Rattle.session_laws.proofs.Held.Put.{IsPut, inserted, switched, switched_stands, value_then, was_row}
use Rattle.session_laws.proofs.Held.Rooted.{drawn, known_tables, name_own, own_key, root_of_row, whole}

-- ---- an object that is to be made has its rows named

HasNumbers : List ((ℕ × ℕ) × ObjId) → Type 0
HasNumbers es = AllByRecursion (λ (e : (ℕ × ℕ) × ObjId). e.0.1 ≡ e.1.0) es

entered_numbers : (es : List ((ℕ × ℕ) × ObjId)) (k : ℕ × ℕ) (v : ObjId) → k.1 ≡ v.0 → AllByRecursion (λ (e : (ℕ × ℕ) × ObjId). e.0.1 ≡ e.1.0) es → AllByRecursion (λ (e : (ℕ × ℕ) × ObjId). e.0.1 ≡ e.1.0) (insert_entry rank_cmp es k v)
entered_numbers [] k v own all = (own, tt)
entered_numbers (e ∷ es) k v own all = by (rank_cmp k e.0) refl (entered_numbers es k v own all.1)
  where
    second : (one two : Ordering) → ordering_then one two ≡ Equal → is_eq two ≡ true
    second Less two e = absurd cc
    second Equal two e = ap is_eq e
    second Greater two e = absurd cc

    by : (o : Ordering) → rank_cmp k e.0 ≡ o → AllByRecursion (λ (e : (ℕ × ℕ) × ObjId). e.0.1 ≡ e.1.0) (insert_entry rank_cmp es k v)
        → AllByRecursion (λ (e : (ℕ × ℕ) × ObjId). e.0.1 ≡ e.1.0) (match_ordering o ((k, v) ∷ e ∷ es) ((e.0, v) ∷ es) (e ∷ insert_entry rank_cmp es k v))
    by Less is more = (own, all)
    by Equal is more =
        let same : k.1 ≡ e.0.1 = eqb-true k.1 e.0.1 (sym (number_same k.1 e.0.1) ∙ second (nat_cmp k.0 e.0.0) (nat_cmp k.1 e.0.1) is) in
        (sym same ∙ own, all.1)
    by Greater is more = (all.0, more)

entered_has : (es : List ((ℕ × ℕ) × ObjId)) (k : ℕ × ℕ) (v w : ObjId) → k.1 ≡ v.0 → AllByRecursion (λ (e : (ℕ × ℕ) × ObjId). e.0.1 ≡ e.1.0) es → (v ≡ w) ⊎ Has (values_of es) w → Has (values_of (insert_entry rank_cmp es k v)) w
entered_has [] k v w own all (inl same) = inl same
entered_has [] k v w own all (inr has) = absurd has
entered_has (e ∷ es) k v w own all has = by (rank_cmp k e.0) refl has (λ more. entered_has es k v w own all.1 more)
  where
    second : (one two : Ordering) → ordering_then one two ≡ Equal → is_eq two ≡ true
    second Less two e = absurd cc
    second Equal two e = ap is_eq e
    second Greater two e = absurd cc

    by : (o : Ordering) → rank_cmp k e.0 ≡ o → (v ≡ w) ⊎ Has (values_of (e ∷ es)) w → ((v ≡ w) ⊎ Has (values_of es) w → Has (values_of (insert_entry rank_cmp es k v)) w)
        → Has (values_of (match_ordering o ((k, v) ∷ e ∷ es) ((e.0, v) ∷ es) (e ∷ insert_entry rank_cmp es k v))) w
    by Less is (inl same) more = inl same
    by Less is (inr has) more = inr has
    by Equal is (inl same) more = inl same
    by Equal is (inr (inr has)) more = inr has
    by Equal is (inr (inl same)) more =
        let number : k.1 ≡ e.0.1 = eqb-true k.1 e.0.1 (sym (number_same k.1 e.0.1) ∙ second (nat_cmp k.0 e.0.0) (nat_cmp k.1 e.0.1) is) in
        inl (ap (λ (n : ℕ). let id : ObjId = record { 0 = n } in id) (sym own ∙ number ∙ all.0) ∙ same)
    by Greater is (inl same) more = inr (more (inl same))
    by Greater is (inr (inl same)) more = inl same
    by Greater is (inr (inr has)) more = inr (more (inr has))

queued_has : (graph : Graph) (prepared : Prepared) (object : ObjId) → is_new graph prepared object ≡ true → (queue : List ((ℕ × ℕ) × ObjId)) (ids : List ObjId) → AllByRecursion (λ (e : (ℕ × ℕ) × ObjId). e.0.1 ≡ e.1.0) queue
    → Has (values_of queue) object ⊎ Has ids object → Has (values_of (fold (with_queued graph prepared) queue ids)) object
queued_has graph prepared object new queue [] all (inl has) = has
queued_has graph prepared object new queue [] all (inr has) = absurd has
queued_has graph prepared object new queue (id ∷ ids) all has =
    queued_has graph prepared object new (with_queued graph prepared queue id) ids (numbers (is_new graph prepared id)) (by (is_new graph prepared id) refl has)
  where
    next : Bool → List ((ℕ × ℕ) × ObjId)
    next b = if b then insert_entry rank_cmp queue ((object_at graph id).added, id.0) id else queue

    numbers : (b : Bool) → AllByRecursion (λ (e : (ℕ × ℕ) × ObjId). e.0.1 ≡ e.1.0) (if b then insert_entry rank_cmp queue ((object_at graph id).added, id.0) id else queue)
    numbers true = entered_numbers queue ((object_at graph id).added, id.0) id refl all
    numbers false = all

    by : (b : Bool) → is_new graph prepared id ≡ b → Has (values_of queue) object ⊎ Has (id ∷ ids) object → Has (values_of (if b then insert_entry rank_cmp queue ((object_at graph id).added, id.0) id else queue)) object ⊎ Has ids object
    by true is (inl has) = inl (entered_has queue ((object_at graph id).added, id.0) id object refl all (inr has))
    by true is (inr (inl same)) = inl (entered_has queue ((object_at graph id).added, id.0) id object refl all (inl same))
    by true is (inr (inr has)) = inr has
    by false is (inl has) = inl has
    by false is (inr (inr has)) = inr has
    by false is (inr (inl same)) = true_false (is_new graph prepared id) (ap (is_new graph prepared) same ∙ new) is

pub object_listed : (graph : Graph) (object : ObjId) → IsObject graph object → Has (object_ids graph) object
unfolding object_ids
object_listed graph object made =
    let same : id_of_place (place_of object) ≡ object = ap (λ (n : ℕ). let id : ObjId = record { 0 = n } in id) (let at : place_of object + 1 ≡ object.0 = omega (arith, made.0) in at) in
    subst (Has (map id_of_place (range_with_len 0 (length graph.objects)))) same
    (has_map id_of_place (range_with_len 0 (length graph.objects)) (place_of object) (has_range 0 (length graph.objects) (place_of object) (omega arith) (omega (arith, made.0, made.1))))

module _ (mapped : Mapped) (graph : Graph) (prepared : Prepared) (old : Tables) (order : List ℕ) (placed : Sofar) (after : Tables) (done : IsDone mapped graph prepared old order placed after) where
  abbrev first : RowChanges
  first = object_changes mapped graph prepared

  abbrev names : List RowName
  names = new_names mapped graph prepared

  abbrev key_then : ℕ → List Value
  key_then q = own_key mapped graph prepared old order placed after done q

  abbrev comes_to : RowCell → Value
  comes_to cell = value_then mapped graph prepared old order placed after done cell

  abbrev now : Written
  now = written mapped graph prepared old order placed after done

  -- a cell of links comes to what is told to the objects
  pub comes : (cell : RowCell) → IsOfNames (new_names mapped graph prepared) cell → comes_to cell ≡ value_put now cell
  comes (Given value) of = refl
  comes (KeyOf place part) of =
      let row : RowName = get_or names place flushed.no_row in
      let at : slice_get names place ≡ Some row = slice_get-get_or names place flushed.no_row of in
      key_part_is mapped graph first (whole mapped graph prepared old order placed after done) placed.keys (drawn mapped graph prepared old order placed after done) place part
      ∙ ap (λ (key : Option (List Value)). key_value key part) (sym (has_key_of mapped graph prepared old order placed after done place row at))

  -- where an object's row in a table stands among the names
  pub named : (object : ObjId) (table : TableId) → IsObject graph object → is_new graph prepared object ≡ true → Has (tables_of mapped (object_at graph object).class) table → (q : ℕ) × (slice_get (new_names mapped graph prepared) q ≡ Some (row_name object table))
  unfolding new_names new_objects
  named object table made new has =
      has_place (flat_map (rows.rows_of mapped graph) (values_of (fold (with_queued graph prepared) [] (object_ids graph)))) (row_name object table)
      (has_flat (rows.rows_of mapped graph) (values_of (fold (with_queued graph prepared) [] (object_ids graph))) object (row_name object table)
      (queued_has graph prepared object new [] (object_ids graph) tt (inr (object_listed graph object made))) (has_map (row_name object) (tables_of mapped (object_at graph object).class) table has))

  -- a new object has the key of its row
  pub new_keyed : (object : ObjId) → IsObject graph object → is_new graph prepared object ≡ true → is_some (key_of now object) ≡ true
  new_keyed object made new =
      let class : ClassId = (object_at graph object).class in
      let root : TableId = root_table mapped class in
      let known : HasTables mapped class = known_tables mapped graph prepared old order placed after done object (fit_class mapped graph object done.own.fit made) in
      let own = named object root made new (subst (λ (tables : List TableId). Has tables root) (sym known.first) (inl refl)) in
      ap (λ (key : Option (List Value)). is_some key) (has_key_of mapped graph prepared old order placed after done own.0 (row_name object root) own.1)

  -- a new row, where it has an attribute: a column of the root's table, or one outside the key
  put_of : (object : ObjId) (q : ℕ) (table : TableId) (c : ℕ) → slice_get (new_names mapped graph prepared) q ≡ Some (row_name object table) → c < length (spec_of mapped.schema table).columns
      → (table ≡ root_table mapped (object_at graph object).class) ⊎ ((get_or (spec_of mapped.schema table).columns c no_column).key ≡ false) → IsPut mapped graph prepared old order placed after done q
  put_of object q table c at inside (inl same) = root_put mapped graph prepared old order placed after done object q (at ∙ ap (λ (t : TableId). Some (row_name object t)) same)
  put_of object q table c at inside (inr free) = by (get_or (partners mapped.schema first) q None) refl
    where
      less : q < length (object_changes mapped graph prepared).fresh
      less = names_within mapped graph prepared q (slice_get_within (new_names mapped graph prepared) q (row_name object table) at)

      its : table_at (object_changes mapped graph prepared) q ≡ table
      its = ap (λ (r : NewRow). r.name.table) (first_row mapped graph prepared q (row_name object table) at)

      by : (o : Option ℕ) → get_or (partners mapped.schema (object_changes mapped graph prepared)) q None ≡ o → IsPut mapped graph prepared old order placed after done q
      by None e = inserted mapped graph prepared old order placed after done q less e
      by (Some gone) e =
          let own = name_own mapped graph prepared old order placed after done q (row_name object table) at in
          let class : ClassId = (object_at graph object).class in
          let was = was_row mapped graph prepared old order placed after done q gone class (subst (Has (tables_of mapped class)) (sym its) own.1) e in
          let stands = switched_stands mapped graph prepared old order placed after done q gone less e was c (subst (λ (t : TableId). c < length (spec_of mapped.schema t).columns) (sym its) inside) (subst (λ (t : TableId). (get_or (spec_of mapped.schema t).columns c no_column).key ≡ false) (sym its) free) in
          switched mapped graph prepared old order placed after done q gone less e was stands.0 stands.1

  is_root : (class : ClassId) (known : HasTables mapped class) (rank : ℕ) (table : TableId) → slice_get (tables_of mapped class) rank ≡ Some table → (rank == 0) ≡ true → table ≡ root_table mapped class
  is_root class known rank table at zeroth =
      let none : rank ≡ 0 = eqb-true rank 0 zeroth in
      same_Some table (root_table mapped class) (sym at ∙ ap (slice_get (tables_of mapped class)) none ∙ ap (λ (own : List TableId). slice_get own 0) known.first)

  -- what a column outside the key comes to is what the object is told
  own_told : (object : ObjId) (attribute : Attribute) (column : ColumnSpec) (cell : Cell) → attribute.name ≡ column.name → cell_for mapped (object_at graph object) attribute.table attribute.column.0 ≡ Some cell
      → comes_to (own_cell mapped graph prepared (new_names mapped graph prepared) (row_name object attribute.table) (attribute.column.0, column)) ≡ own_value now object (object_at graph object).class attribute cell
  own_told object attribute column cell name found =
      by (is_discriminator mapped class attribute.table column.name) (ap (is_discriminator mapped class attribute.table) name) (linked_cell mapped graph prepared names object attribute.table column.name) refl
    where
      class : ClassId
      class = (object_at graph object).class

      identity : Value
      identity = value_or_null (class_spec mapped (object_at graph object).class).identity

      come : Option Value
      come = value_come now object attribute

      links : linked_cell mapped graph prepared (new_names mapped graph prepared) object attribute.table attribute.name ≡ linked_cell mapped graph prepared (new_names mapped graph prepared) object attribute.table column.name
      links = ap (linked_cell mapped graph prepared (new_names mapped graph prepared) object attribute.table) name

      linked : (linked : Option RowCell) → linked_cell mapped graph prepared (new_names mapped graph prepared) object attribute.table column.name ≡ linked
          → comes_to (cell_or linked (cell_for mapped (object_at graph object) attribute.table attribute.column.0)) ≡ unwrap_or (option_map (value_put now) linked) (value_or_null cell.value)
      linked None is = ap value_now found
      linked (Some own) is = comes own (of_linked graph (new_names mapped graph prepared) mapped prepared object attribute.table column.name own is)

      by : (b : Bool) → is_discriminator mapped class attribute.table attribute.name ≡ b → (found : Option RowCell) → linked_cell mapped graph prepared (new_names mapped graph prepared) object attribute.table column.name ≡ found
          → comes_to (if b then Given identity else cell_or (linked_cell mapped graph prepared (new_names mapped graph prepared) object attribute.table column.name) (cell_for mapped (object_at graph object) attribute.table attribute.column.0))
          ≡ (if is_discriminator mapped class attribute.table attribute.name then identity else unwrap_or (option_map (value_put now) (linked_cell mapped graph prepared (new_names mapped graph prepared) object attribute.table attribute.name)) (value_or_null cell.value))
      by true e o is = ap (λ (b : Bool). if b then identity else unwrap_or (option_map (value_put now) (linked_cell mapped graph prepared (new_names mapped graph prepared) object attribute.table attribute.name)) (value_or_null cell.value)) (sym e)
      by false e o is =
          linked (linked_cell mapped graph prepared (new_names mapped graph prepared) object attribute.table column.name) refl
          ∙ ap (λ (l : Option RowCell). unwrap_or (option_map (value_put now) l) (value_or_null cell.value)) (sym links)
          ∙ ap (λ (b : Bool). if b then identity else unwrap_or (option_map (value_put now) (linked_cell mapped graph prepared (new_names mapped graph prepared) object attribute.table attribute.name)) (value_or_null cell.value)) (sym e)

  -- each cell of a new object holds what its row holds
  pub new_holds : (object : ObjId) (key : List Value) → IsObject graph object → is_new graph prepared object ≡ true → key_of now object ≡ Some key → HoldsItsRows mapped after (new_object now object (Some key) (object_at graph object))
  new_holds object key made new given_key attr base less e =
      let it : Object = object_at graph object in
      let class : ClassId = it.class in
      let i : ℕ = attr.0 in
      let cells : List (ℕ × Cell) = enumerate_from 0 it.cells in
      let within : i < length it.cells = omega (arith, less, length-map cells (new_cell now object class key), length-enumerate_from 0 it.cells) in
      let inside : i < length (attributes_of mapped class) = omega (arith, within, fit_cells mapped graph object done.own.fit made) in
      let attribute : Attribute = attribute_of mapped class attr in
      let at : slice_get (attributes_of mapped class) i ≡ Some attribute = slice_get-get_or (attributes_of mapped class) i no_attribute inside in
      let stands : HasColumn mapped class attribute = has_column mapped class attribute (has_at (attributes_of mapped class) i attribute at) in
      let known : HasTables mapped class = known_tables mapped graph prepared old order placed after done object (fit_class mapped graph object done.own.fit made) in
      let cell : Cell = get_or it.cells i expired_cell in
      let place : 0 + i ≡ i = omega arith in
      let flushed_cell : get_or (map (new_cell now object class key) cells) i expired_cell ≡ held_cell (new_value now object class key (i, cell)) =
      get_or-map (new_cell now object class key) cells i (0, expired_cell) expired_cell (omega (arith, within, length-enumerate_from 0 it.cells))
      ∙ ap (new_cell now object class key) (get_or-enumerate_from 0 it.cells i (0, expired_cell) within)
      ∙ ap (λ (n : ℕ). new_cell now object class key (n, cell)) place in
      let value : new_value now object class key (i, cell) ≡ base = same_Some (new_value now object class key (i, cell)) base (sym (ap (λ (own : Cell). own.base) flushed_cell) ∙ e) in
      held object key made new given_key i attribute cell known stands at (cell_is mapped graph prepared old order placed after done object i attribute made at) ∙ ap (λ (v : Value). Some v) value
    where
      held : (object : ObjId) (key : List Value) → IsObject graph object → is_new graph prepared object ≡ true → key_of now object ≡ Some key → (i : ℕ) (attribute : Attribute) (cell : Cell) → HasTables mapped (object_at graph object).class
          → HasColumn mapped (object_at graph object).class attribute → slice_get (attributes_of mapped (object_at graph object).class) i ≡ Some attribute → cell_for mapped (object_at graph object) attribute.table attribute.column.0 ≡ Some cell
          → column_in (row_at after (attribute.table, key)) attribute.column.0
          ≡ Some (part_or key (position (λ (a : AttrNo). a.0 == i) (key_attributes mapped (object_at graph object).class)) (own_value now object (object_at graph object).class attribute cell))
      held object key made new given_key i attribute cell known stands at found =
          let class : ClassId = (object_at graph object).class in
          let table : TableId = attribute.table in
          let c : ℕ = attribute.column.0 in
          let columns : List ColumnSpec = (spec_of mapped.schema table).columns in
          let inside : c < length columns = slice_get_within columns c stands.column stands.at in
          let column : get_or columns c no_column ≡ stands.column = get_or_from_slice_get columns c stands.column no_column stands.at in
          let own = named object table made new (has_at (tables_of mapped class) stands.rank table stands.among) in
          let root = root_of_row mapped graph prepared old order placed after done own.0 (row_name object table) own.1 in
          let key_is : key_then own.0 ≡ key = same_Some (key_then own.0) key (sym (has_key_of mapped graph prepared old order placed after done own.0 (row_name object table) own.1) ∙ given_key) in
          let root_row = root_put mapped graph prepared old order placed after done object root.place root.at in
          let root_at : row_at after (root_table mapped class, key) ≡ Some root_row.row =
          (λ j. row_at after (sym (ap (λ (r : NewRow). r.name.table) (first_row mapped graph prepared root.place (row_name object (root_table mapped class)) root.at)) j, sym (root.is ∙ key_is) j)) ∙ root_row.at in
          let long : length root_row.row ≡ length (spec_of mapped.schema (root_table mapped class)).columns = sym (as_long fits (spec_of mapped.schema (root_table mapped class)).columns root_row.row (legal_cells mapped.schema after done.last (root_table mapped class, key) root_row.row root_at)) in
          let part = part_held mapped class done.classes known i attribute root_row.row (own_value now object class attribute cell) at long in
          let parts : part_or key (position (λ (a : AttrNo). a.0 == i) (key_attributes mapped class)) (own_value now object class attribute cell) ≡ cond stands.column.key (get_or root_row.row c Null) (own_value now object class attribute cell) =
          ap (λ (k : List Value). part_or k (position (λ (a : AttrNo). a.0 == i) (key_attributes mapped class)) (own_value now object class attribute cell)) (sym (legal_key mapped.schema after done.last (root_table mapped class, key) root_row.row root_at))
          ∙ part ∙ ap (λ (b : Bool). cond b (get_or root_row.row c Null) (own_value now object class attribute cell)) stands.key in
          by stands.column.key refl (stands.rank == 0) refl own root_row.row root_at long key_is inside column ∙ ap (λ (v : Value). Some v) (sym parts)
        where
          by : (b : Bool) → stands.column.key ≡ b → (zeroth : Bool) → (stands.rank == 0) ≡ zeroth
              → (own : (q : ℕ) × (slice_get (new_names mapped graph prepared) q ≡ Some (row_name object attribute.table))) → (root_row : List Value) → row_at after (root_table mapped (object_at graph object).class, key) ≡ Some root_row
              → length root_row ≡ length (spec_of mapped.schema (root_table mapped (object_at graph object).class)).columns → key_then own.0 ≡ key → attribute.column.0 < length (spec_of mapped.schema attribute.table).columns
              → get_or (spec_of mapped.schema attribute.table).columns attribute.column.0 no_column ≡ stands.column
              → column_in (row_at after (attribute.table, key)) attribute.column.0 ≡ Some (cond stands.column.key (get_or root_row attribute.column.0 Null) (own_value now object (object_at graph object).class attribute cell))
          by true k false z own root_row root_at long key_is inside column = true_false stands.column.key k (stands.later z)
          by true k true z own root_row root_at long key_is inside column =
              let root : attribute.table ≡ root_table mapped (object_at graph object).class = is_root (object_at graph object).class known stands.rank attribute.table stands.among z in
              ap (λ (t : TableId). column_in (row_at after (t, key)) attribute.column.0) root ∙ ap (λ (o : Option (List Value)). column_in o attribute.column.0) root_at
              ∙ slice_get-get_or root_row attribute.column.0 Null (omega (arith, long, inside, ap (λ (t : TableId). length (spec_of mapped.schema t).columns) root))
              ∙ ap (λ (b : Bool). Some (cond b (get_or root_row attribute.column.0 Null) (own_value now object (object_at graph object).class attribute cell))) (sym k)
          by false k zeroth z own root_row root_at long key_is inside column =
              let q : ℕ = own.0 in
              let c : ℕ = attribute.column.0 in
              let columns : List ColumnSpec = (spec_of mapped.schema attribute.table).columns in
              let free : (get_or columns c no_column).key ≡ false = ap (λ (s : ColumnSpec). s.key) column ∙ k in
              let put = put_of object q attribute.table c own.1 inside (inr free) in
              let made_row = first_row mapped graph prepared q (row_name object attribute.table) own.1 in
              let its : table_at first q ≡ attribute.table = ap (λ (r : NewRow). r.name.table) made_row in
              let row_is : row_at after (attribute.table, key) ≡ Some put.row = (λ j. row_at after (sym its j, sym key_is j)) ∙ put.at in
              let wide : length put.row ≡ length columns = sym (as_long fits columns put.row (legal_cells mapped.schema after done.last (attribute.table, key) put.row row_is)) in
              let place : 0 + c ≡ c = omega arith in
              let own_is : get_or (new_at first q).cells c (Given Null) ≡ own_cell mapped graph prepared names (row_name object attribute.table) (c, stands.column) =
              ap (λ (r : NewRow). get_or r.cells c (Given Null)) made_row
              ∙ get_or-map (rows.new_cell mapped graph prepared names (q, row_name object attribute.table)) (enumerate_from 0 columns) c (0, no_column) (Given Null) (omega (arith, inside, length-enumerate_from 0 columns))
              ∙ ap (rows.new_cell mapped graph prepared names (q, row_name object attribute.table)) (get_or-enumerate_from 0 columns c (0, no_column) inside)
              ∙ (λ j. rows.new_cell mapped graph prepared names (q, row_name object attribute.table) (place j, column j))
              ∙ unkeyed (is_joined mapped (object_at graph object).class attribute.table) stands.column.key k (KeyOf (q - 1) (rows.key_part (rows.columns_at mapped attribute.table) c)) (own_cell mapped graph prepared names (row_name object attribute.table) (c, stands.column)) in
              ap (λ (o : Option (List Value)). column_in o c) row_is
              ∙ slice_get-get_or put.row c Null (omega (arith, inside, wide))
              ∙ ap (λ (v : Value). Some v) (put.cells c (subst (λ (t : TableId). c < length (spec_of mapped.schema t).columns) (sym its) inside) (subst (λ (t : TableId). (get_or (spec_of mapped.schema t).columns c no_column).key ≡ false) (sym its) free)
              ∙ ap comes_to own_is ∙ own_told object attribute stands.column cell stands.name found)
              ∙ ap (λ (b : Bool). Some (cond b (get_or root_row c Null) (own_value now object (object_at graph object).class attribute cell))) (sym k)
            where
              unkeyed : (joined key : Bool) → key ≡ false → (u v : RowCell) → (if joined && key then u else v) ≡ v
              unkeyed true true k u v = true_false true refl k
              unkeyed true false k u v = refl
              unkeyed false key k u v = refl
