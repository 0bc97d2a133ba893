-- The key that a new object has once its rows were written.
use Rattle.std.proofs.Common.{◌≡◌, ◌⊎◌, inl, inr, ℕ, zero, suc, ◌+◌, ◌<◌, ◌≤◌, Bool, true, false, cond, not, ◌||◌, ◌==◌, if◌then◌else◌, List, [], ◌∷◌, ◌++◌, length, map, filter, fold, get_or, Option, None, Some, is_some, is_none, refl, sym, subst, ap, ◌∙◌, arith}
use Rattle.std.specs.Prelude.{slice_get}
use Rattle.std.specs.BTreeMap.{insert_entry}
use Rattle.std.specs.BTreeSet.{insert_key}
use Rattle.std.specs.Map.{values_of}
use Rattle.std.specs.Cmp.Lexicographic.{pointwise}
use Rattle.std.specs.List.{All, enumerate_from, flat_map, position, range_with_len}
use Rattle.std.specs.Option.{option_and_then}
use Rattle.std.proofs.lemmas.Bool.{and_from, and_parts, cases_lt, eq-eqb, eqb-true}
use Rattle.std.proofs.lemmas.List.{get_or-map, length-map}
use Rattle.std.proofs.lemmas.List.Elements.{All-nil, recursion_from_All}
use Rattle.std.proofs.lemmas.List.FromFn.{get_or-map-range_with_len, length-enumerate_from, length-range_with_len}
use Rattle.std.proofs.lemmas.List.Quantifiers.{position-Some}
use Rattle.std.proofs.lemmas.Map.Views.{All-insert_key, All-values-insert_entry}
use Rattle.std.proofs.lemmas.Option.{get_or_from_slice_get, same_Some, slice_get-get_or, slice_get_within}
use Rattle.schema_core.proofs.Names.{name_itself}
use Rattle.base_core.specs.declared.ids.ClassId.{ClassId}
use Rattle.base_core.specs.declared.ids.ObjId.{ObjId}
use Rattle.base_core.specs.declared.ids.TableId.{TableId}
use Rattle.base_core.specs.declared.refusal.RowName.{RowName}
use Rattle.base_core.specs.declared.value.Value.{Value}
use Rattle.schema_core.specs.declared.changes.ChangedRow.{ChangedRow}
use Rattle.schema_core.specs.declared.changes.NewRow.{NewRow}
use Rattle.schema_core.specs.declared.changes.RowChanges.{RowChanges}
use Rattle.schema_core.specs.declared.table.ColumnSpec.{ColumnSpec}
use Rattle.schema_core.specs.Catalog.{key_columns, spec_of}
use Rattle.schema_core.specs.Tables.{Tables, fits, key_cells}
use Rattle.class_types.specs.declared.declared.ClassSpec.{ClassSpec}
use Rattle.class_types.specs.declared.mapped.Attribute.{Attribute}
use Rattle.class_types.specs.declared.mapped.Relation.{Relation}
use Rattle.class_layouts.specs.Columns.{attribute_at, is_key, own_table}
use Rattle.class_layouts.specs.Faults.{is_named, maps_name}
use Rattle.class_layouts.specs.Hierarchy.{has_class, root_in}
use Rattle.class_layouts.specs.Hierarchy as hierarchy
use Rattle.class_mapping.specs.Lines.{BeginsWith, is_root_over, spec_at}
use Rattle.class_mapping.specs.Mapped.{IsClass, Mapped, attributes_of, class_or, relations_of, root_table, table_or_none, tables_of}
use Rattle.class_mapping.specs.Related.{IsRelated}
use Rattle.class_mapping.proofs.Having.{Has, any_has, from_filter, from_flat, from_map, from_numbered, has_at, has_either, has_filter, has_map, has_numbered, some_of, true_false}
use Rattle.mapping_laws.proofs.Tables.{found_root, from_filter_map, line_rooted, own_is}
use Rattle.mapping_laws.proofs.Ties.{table_faultless}
use Rattle.mapping_laws.proofs.KeyKinds.{keys_alike, root_declared}
use Rattle.object_arena.specs.Fit.{key_fits}
use Rattle.object_arena.specs.Graph as graphs
use Rattle.object_arena.specs.declared.object.State.{State}
use Rattle.object_arena.specs.declared.object.State.TheVariants.{Transient, Pending, Persistent, Deleted, Detached}
use Rattle.object_arena.specs.Graph.{Graph, IsObject, expired_cell, is_pending, object_at}
use Rattle.object_arena.specs.Identity.{id_of_place}
use Rattle.object_arena.proofs.FitLemmas.{fit_cells, fit_class}
use Rattle.flush_order.specs.Cells.{new_at, no_row, table_at}
use Rattle.flush_order.specs.Orders.{gone_at}
use Rattle.flush_plan.specs.Flushing.{Sofar, key_of_new}
use Rattle.flush_writes.specs.Writes.{no_changed}
use Rattle.flush_plan.specs.Stating.{row_at}
use Rattle.graph_flushed.specs.Flushed.{Written, key_of, written_with}
use Rattle.graph_flushed.specs.Keys.{key_at, key_if_fit, key_if_new, new_key, new_keys}
use Rattle.object_rows.specs.declared.prepared.Prepared.{Prepared}
use Rattle.object_rows.specs.Places.{is_row_of}
use Rattle.object_rows.specs.Rows as rows
use Rattle.object_rows.specs.Rows.{cell_for, new_names, row_name}
use Rattle.object_rows.specs.Seen as seen
use Rattle.object_rows.specs.Seen.{is_new, keeps_rows, new_objects, object_ids, with_queued}
use Rattle.object_rows.proofs.ObjectSteps.{all_made, names_made}
use Rattle.pair_rows.specs.Pairs as pairs
use Rattle.row_project.specs.Changes.{object_changes, project}
use Rattle.row_partners.specs.Partners.{known_key, partners}
use Rattle.row_switches.specs.Switch.{row_kept, row_switched, rows_kept, rows_switched, switch_of}
use Rattle.session_laws.proofs.Plans.Between.{legal_cells, legal_key}
use Rattle.session_laws.proofs.Projects.Apart.{none_given}
use Rattle.session_laws.proofs.Projects.LateKeys.{each_has}
use Rattle.session_laws.proofs.Projects.Loose.{has_place}
use Rattle.session_laws.proofs.Projects.Passing.{some_found}
use Rattle.session_laws.proofs.Graphs.MappingFacts.{one_class}
use Rattle.session_laws.proofs.Held.Attributes.{column_place, passed_are}
use Rattle.session_laws.proofs.Held.Done.{IsDone}
use Rattle.session_laws.proofs.Held.Keys.{key_by, number, stays_at, stays_from}
use Rattle.session_laws.proofs.Held.Names.{first_row, name_place, names_within}
use Rattle.session_laws.proofs.Held.Put.{IsPut, WasRow, among_changed, held_at, inserted, switched, was_row}
use Rattle.session_laws.proofs.Held.Rooted.{HasRoot, drawn, known_tables, name_own, once, own_key, root_of_row, whole}

-- a legal row's key is a key
legal_keyed : (cs : List ColumnSpec) (row : List Value) → pointwise fits cs row ≡ true → pointwise fits (filter (λ (c : ColumnSpec). c.key) cs) (key_cells cs row) ≡ true
legal_keyed [] row h = refl
legal_keyed (c ∷ cs) [] h = absurd cc
legal_keyed (c ∷ cs) (v ∷ row) h = let both = and_parts (fits c v) (pointwise fits cs row) h in by c.key both.0 (legal_keyed cs row both.1)
  where
    by : (b : Bool) → fits c v ≡ true → pointwise fits (filter (λ (c : ColumnSpec). c.key) cs) (key_cells cs row) ≡ true
        → pointwise fits (cond b (c ∷ filter (λ (c : ColumnSpec). c.key) cs) (filter (λ (c : ColumnSpec). c.key) cs)) (cond b (v ∷ key_cells cs row) (key_cells cs row)) ≡ true
    by true here more = and_from (fits c v) _ here more
    by false here more = more

-- ---- classes that share a root's table

same_begin : (line first : List ClassId) → BeginsWith line first → (class : ℕ) → has_class first class ≡ true → root_in line ≡ root_in first
same_begin line [] begins class has = absurd (true_false false has refl)
same_begin line (x ∷ first) begins class has = ap (λ (own : List ClassId). root_in own) begins.1

module _ (mapped : Mapped) (graph : Graph) (prepared : Prepared) (old : Tables) (order : List ℕ) (placed : Sofar) (after : Tables) (done : IsDone mapped graph prepared old order placed after) where
  lines_of : ClassId → List ClassId
  lines_of class = hierarchy.line_of mapped.classes class.0

  record IsRooted (class : ClassId) : Type 0 where
    root : ClassId
    begins : root_in (hierarchy.line_of mapped.classes class.0) ≡ Some root
    own : own_table mapped.schema.tables mapped.classes root.0 ≡ Some (root_table mapped class)
    inside : root.0 < length mapped.classes.lines

  rooted : (class : ClassId) → IsClass mapped class → IsRooted class
  rooted class inside = by (root_in (hierarchy.line_of mapped.classes class.0)) refl (line_rooted mapped class done.classes inside)
    where
      by : (found : Option ClassId) → root_in (hierarchy.line_of mapped.classes class.0) ≡ found → is_root_over mapped.schema.tables (spec_at mapped.classes.specs found) ≡ true → IsRooted class
      by None e over = absurd (true_false false over refl)
      by (Some root) e over =
          let table = found_root mapped.schema.tables (slice_get mapped.classes.specs root.0) over in
          let own = own_is mapped.schema.tables mapped.classes root.0 table.0 table.1 in
          record {
            root = root;
            begins = e;
            own = table.1 ∙ sym (ap (λ (o : Option ClassId). let own : TableId = table_or_none (own_table mapped.schema.tables mapped.classes (class_or o class).0) in Some own) e ∙ ap (λ (o : Option TableId). let own : TableId = table_or_none o in Some own) table.1);
            inside = omega (arith, slice_get_within mapped.classes.specs root.0 own.spec own.declared, done.well.lined);
          }

  has_in : (line : List ClassId) (class : ClassId) → Has line class → has_class line class.0 ≡ true
  has_in line class has = any_has (λ (other : ClassId). other.0 == class.0) line class has (eq-eqb class.0 class.0 refl)

  head_in : (line : List ClassId) (root : ClassId) → root_in line ≡ Some root → Has line root
  head_in line root e = has_at line 0 root e

  shares_root : (class other : ClassId) → IsClass mapped class → IsClass mapped other → Has (tables_of mapped other) (root_table mapped class) → root_table mapped other ≡ root_table mapped class
  shares_root class other inside within has =
      let one = rooted class inside in
      let two = rooted other within in
      let from = from_filter_map (λ (c : ClassId). own_table mapped.schema.tables mapped.classes c.0) (hierarchy.line_of mapped.classes other.0) (root_table mapped class) has in
      let same : from.0.0 ≡ one.root.0 = one_class mapped done.well.lined done.well.lines from.0.0 one.root.0 (root_table mapped class) from.2 one.own in
      let among : has_class (hierarchy.line_of mapped.classes other.0) one.root.0 ≡ true = ap (has_class (hierarchy.line_of mapped.classes other.0)) (sym same) ∙ has_in (hierarchy.line_of mapped.classes other.0) from.0 from.1 in
      let its = done.well.lines.own one.root.0 one.inside in
      let first : root_in (hierarchy.line_of mapped.classes class.0) ≡ root_in (hierarchy.line_of mapped.classes one.root.0) =
      same_begin (hierarchy.line_of mapped.classes class.0) (hierarchy.line_of mapped.classes one.root.0) (done.well.lines.nested class.0 one.root (has_in (hierarchy.line_of mapped.classes class.0) one.root (head_in (hierarchy.line_of mapped.classes class.0) one.root one.begins))) one.root.0 its in
      let second : root_in (hierarchy.line_of mapped.classes other.0) ≡ root_in (hierarchy.line_of mapped.classes one.root.0) =
      same_begin (hierarchy.line_of mapped.classes other.0) (hierarchy.line_of mapped.classes one.root.0) (done.well.lines.nested other.0 one.root among) one.root.0 its in
      let roots : two.root ≡ one.root = same_Some two.root one.root (sym two.begins ∙ second ∙ sym first ∙ one.begins) in
      same_Some (root_table mapped other) (root_table mapped class) (sym two.own ∙ ap (λ (c : ClassId). own_table mapped.schema.tables mapped.classes c.0) roots ∙ one.own)

  -- ---- the cells of an object, by columns

  pub cell_is : (object : ObjId) (i : ℕ) (attribute : Attribute) → IsObject graph object → slice_get (attributes_of mapped (object_at graph object).class) i ≡ Some attribute
      → cell_for mapped (object_at graph object) attribute.table attribute.column.0 ≡ Some (get_or (object_at graph object).cells i expired_cell)
  cell_is object i attribute made at =
      ap (option_and_then (slice_get (object_at graph object).cells)) (column_place mapped (object_at graph object).class (once mapped graph prepared old order placed after done) i attribute at)
      ∙ slice_get-get_or (object_at graph object).cells i expired_cell (omega (arith, slice_get_within (attributes_of mapped (object_at graph object).class) i attribute at, fit_cells mapped graph object done.own.fit made))

  -- the row of a deleted object in its root's table stands
  root_stands : (object : ObjId) → IsObject graph object → graphs.is_persistent (object_at graph object).state ≡ true → graphs.is_among prepared.deleted object ≡ true
      → (row : List Value) × (row_at old (root_table mapped (object_at graph object).class, rows.key_or_none (object_at graph object).identity) ≡ Some row)
  root_stands object made persists deleted =
      let class : ClassId = (object_at graph object).class in
      let table : TableId = root_table mapped class in
      let known = known_tables mapped graph prepared old order placed after done object (fit_class mapped graph object done.own.fit made) in
      let columns : List ColumnSpec = (spec_of mapped.schema table).columns in
      let key = some_of (λ (c : ColumnSpec). c.key) columns (table_faultless mapped table done.classes (root_declared mapped class known)).keyed in
      let place = has_place columns key.0 key.1 in
      let number : 0 + place.0 ≡ place.0 = omega arith in
      let listed : Has (enumerate_from 0 columns) (0 + place.0, key.0) = has_numbered 0 columns place.0 key.0 place.1 in
      let attribute : Attribute = attribute_at table (0 + place.0, key.0) in
      let keyed : Has (filter (is_key mapped.schema.tables) (attributes_of mapped class)) attribute =
      subst (λ (list : List Attribute). Has list attribute) (sym (passed_are mapped class done.classes known))
      (has_map (attribute_at table) (filter (λ placed. placed.1.key) (enumerate_from 0 columns)) (0 + place.0, key.0) (has_filter (λ (p : ℕ × ColumnSpec). p.1.key) (enumerate_from 0 columns) (0 + place.0, key.0) listed key.2)) in
      let at = has_place (attributes_of mapped class) attribute (from_filter (is_key mapped.schema.tables) (attributes_of mapped class) attribute keyed).0 in
      let less : at.0 < length (object_at graph object).cells = omega (arith, slice_get_within (attributes_of mapped class) at.0 attribute at.1, fit_cells mapped graph object done.own.fit made) in
      let base = some_option (get_or (object_at graph object).cells at.0 expired_cell).base (done.known object made deleted (record { 0 = at.0 }) less) in
      let held = held_at mapped graph prepared old order placed after done object table (0 + place.0) (get_or (object_at graph object).cells at.0 expired_cell) base.0 made persists (cell_is object at.0 attribute made at.1) base.1 in
      (held.row, held.at)
    where
      some_option : (o : Option Value) → is_some o ≡ true → (v : Value) × (o ≡ Some v)
      some_option None there = absurd (true_false false there refl)
      some_option (Some v) there = (v, refl)

  -- ---- the key

  abbrev first : RowChanges
  first = object_changes mapped graph prepared

  abbrev changes : RowChanges
  changes = project mapped graph prepared

  abbrev key_then : ℕ → List Value
  key_then q = own_key mapped graph prepared old order placed after done q

  abbrev IsRow : ℕ → Type 0
  IsRow q = IsPut mapped graph prepared old order placed after done q

  pub root_put : (object : ObjId) (q : ℕ) → slice_get (new_names mapped graph prepared) q ≡ Some (row_name object (root_table mapped (object_at graph object).class)) → IsRow q
  root_put object q at = by (get_or (partners mapped.schema first) q None) refl
    where
      less : q < length (object_changes mapped graph prepared).fresh
      less = names_within mapped graph prepared q (slice_get_within (new_names mapped graph prepared) q (row_name object (root_table mapped (object_at graph object).class)) at)

      its : table_at (object_changes mapped graph prepared) q ≡ root_table mapped (object_at graph object).class
      its = ap (λ (r : NewRow). r.name.table) (first_row mapped graph prepared q (row_name object (root_table mapped (object_at graph object).class)) at)

      by : (o : Option ℕ) → get_or (partners mapped.schema (object_changes mapped graph prepared)) q None ≡ o → IsRow q
      by None e = inserted mapped graph prepared old order placed after done q less e
      by (Some gone) e =
          let own = name_own mapped graph prepared old order placed after done q (row_name object (root_table mapped (object_at graph object).class)) at in
          let class : ClassId = (object_at graph object).class in
          let was : WasRow mapped graph prepared old order placed after done q gone = was_row mapped graph prepared old order placed after done q gone class (subst (Has (tables_of mapped class)) (sym its) own.1) e in
          let other : ClassId = (object_at graph was.object).class in
          let within : IsClass mapped other = fit_class mapped graph was.object done.own.fit was.made in
          let table : root_table mapped other ≡ root_table mapped class = shares_root class other own.0 within (subst (Has (tables_of mapped other)) its was.has) in
          let stands = root_stands was.object was.made was.persists was.deleted in
          let key : rows.key_or_none (object_at graph was.object).identity ≡ key_then q = was.key ∙ sym (ap (λ (o : Option ℕ). key_by mapped graph first (whole mapped graph prepared old order placed after done) placed.keys (drawn mapped graph prepared old order placed after done) o q) e) in
          switched mapped graph prepared old order placed after done q gone less e was stands.0
          ((λ i. row_at old ((its ∙ sym table) i, sym key i)) ∙ stands.1)

  -- the key of an object's rows fits its class
  pub root_fits : (object : ObjId) (q : ℕ) → slice_get (new_names mapped graph prepared) q ≡ Some (row_name object (root_table mapped (object_at graph object).class)) → key_fits mapped (object_at graph object).class (key_then q) ≡ true
  root_fits object q at =
      let class : ClassId = (object_at graph object).class in
      let table : TableId = root_table mapped class in
      let spec = spec_of mapped.schema table in
      let put = root_put object q at in
      let own = name_own mapped graph prepared old order placed after done q (row_name object table) at in
      let its : table_at first q ≡ table = ap (λ (r : NewRow). r.name.table) (first_row mapped graph prepared q (row_name object table) at) in
      let stands : row_at after (table, key_then q) ≡ Some put.row = ap (λ (t : TableId). row_at after (t, key_then q)) (sym its) ∙ put.at in
      keys_alike mapped class (key_then q) done.classes (known_tables mapped graph prepared old order placed after done object own.0)
      ∙ ap (pointwise fits (key_columns spec)) (sym (legal_key mapped.schema after done.last (table, key_then q) put.row stands))
      ∙ legal_keyed spec.columns put.row (legal_cells mapped.schema after done.last (table, key_then q) put.row stands)

  -- ---- rows of pairs are of no class's table

  pair_table : (class : ClassId) (object : ObjId) (placed : ℕ × Relation) → IsClass mapped (object_at graph object).class → Has (pairs.relations_at mapped graph object) placed → is_some placed.1.far ≡ true
      → Has (tables_of mapped class) placed.1.foreign.0 → ⊥
  pair_table class object placed inside has far own =
      let relations : List Relation = relations_of mapped (object_at graph object).class in
      let at = from_numbered 0 relations placed has in
      let related : IsRelated mapped placed.1 = each_has (IsRelated mapped) relations placed.1 (recursion_from_All (IsRelated mapped) relations (done.well.related.each (object_at graph object).class inside)) (has_at relations at.0 placed.1 at.2) in
      let table : TableId = placed.1.foreign.0 in
      let from = from_filter_map (λ (c : ClassId). own_table mapped.schema.tables mapped.classes c.0) (hierarchy.line_of mapped.classes class.0) table own in
      let it = own_is mapped.schema.tables mapped.classes from.0.0 table from.2 in
      let name : List ℕ = (spec_of mapped.schema table).name in
      let names : is_named it.spec.table name ≡ true = ap (λ (o : Option (List ℕ)). is_named o name) it.named ∙ name_itself name in
      let mapped_by : maps_name mapped.classes.specs (Some name) ≡ true = any_has (λ (spec : ClassSpec). is_named spec.table name) mapped.classes.specs it.spec (has_at mapped.classes.specs from.0.0 it.spec it.declared) names in
      by (is_none placed.1.far) (maps_name mapped.classes.specs (Some name)) (no_none placed.1.far far) mapped_by related.unmapped
    where
      no_none : {A : Type 0} (o : Option A) → is_some o ≡ true → is_none o ≡ false
      no_none None some = absurd (true_false false some refl)
      no_none (Some a) some = refl

      by : (none maps : Bool) → none ≡ false → maps ≡ true → (none || not maps) ≡ true → ⊥
      by true maps n m h = true_false true refl n
      by false true n m h = true_false false h refl
      by false false n m h = true_false false m refl

  set_from : (list set rest : List pairs.Pair) → All (Has list) set → ((pair : pairs.Pair) → Has rest pair → Has list pair) → All (Has list) (fold (insert_key pairs.pair_cmp) set rest)
  set_from list set [] all more = all
  set_from list set (pair ∷ rest) all more = set_from list (insert_key pairs.pair_cmp set pair) rest (All-insert_key pairs.pair_cmp pair (Has list) set all (more pair (inl refl))) (λ other has. more other (inr has))

  if_has : {A : Type 0} (b : Bool) (xs : List A) (x : A) → Has (if b then xs else []) x → (b ≡ true) × Has xs x
  if_has true xs x has = (refl, has)
  if_has false xs x has = absurd has

  pair_apart : (class : ClassId) (row : NewRow) → Has (pairs.made_rows mapped graph prepared) row → Has (tables_of mapped class) row.name.table → ⊥
  unfolding pairs.made_rows pairs.made_pairs
  pair_apart class row has own =
      let list : List pairs.Pair = flat_map (pairs.made_of mapped graph prepared) (object_ids graph) in
      let pair = from_map (pairs.made_row mapped graph (new_names mapped graph prepared)) (pairs.as_set list) row has in
      let among : Has list pair.0 = each_has (Has list) (pairs.as_set list) pair.0 (recursion_from_All (Has list) (pairs.as_set list) (set_from list [] list (All-nil (Has list)) (λ other inside. inside))) pair.1 in
      let from = from_flat (pairs.made_of mapped graph prepared) (object_ids graph) pair.0 among in
      let object : ObjId = from.0 in
      let made : IsObject graph object = each_has (IsObject graph) (object_ids graph) object (recursion_from_All (IsObject graph) (object_ids graph) (all_made graph (object_ids graph) refl)) from.1 in
      let inside = if_has (seen.is_in_session graph prepared object) (flat_map (pairs.made_by graph prepared object) (pairs.relations_at mapped graph object)) pair.0 from.2 in
      let by = from_flat (pairs.made_by graph prepared object) (pairs.relations_at mapped graph object) pair.0 inside.1 in
      let link = seen.link_of (object_at graph object) (record { 0 = by.0.0 }) in
      let far = if_has (is_some by.0.1.far) (pairs.made_from graph prepared object by.0.1 link) pair.0 by.2 in
      let member = from_map (pairs.pair_of by.0.1 object) (filter (pairs.is_made graph prepared object) (pairs.members_added link)) pair.0 far.1 in
      let table : by.0.1.foreign.0 ≡ row.name.table = ap (λ (p : pairs.Pair). p.0) member.2 ∙ ap (λ (r : NewRow). r.name.table) pair.2 in
      pair_table class object by.0 (fit_class mapped graph object done.own.fit made) by.1 far.0 (subst (Has (tables_of mapped class)) (sym table) own)

  -- a new row of a table of a class is an object's
  row_within : (q : ℕ) (class : ClassId) → q < length (object_changes mapped graph prepared).fresh → Has (tables_of mapped class) (table_at (object_changes mapped graph prepared) q) → slice_get (new_names mapped graph prepared) q ≡ Some (new_at (object_changes mapped graph prepared) q).name
  unfolding rows.new_rows
  row_within q class less own = elim (cases_lt q (length (new_names mapped graph prepared))) [
    | inl inside ↦
        let row : RowName = get_or (new_names mapped graph prepared) q (new_at first q).name in
        let at : slice_get (new_names mapped graph prepared) q ≡ Some row = slice_get-get_or (new_names mapped graph prepared) q (new_at first q).name inside in
        at ∙ ap (λ (r : NewRow). Some r.name) (sym (first_row mapped graph prepared q row at))
    | inr past ↦
        let own_rows = map (rows.new_row mapped graph prepared (new_names mapped graph prepared)) (enumerate_from 0 (new_names mapped graph prepared)) in
        let made = pairs.made_rows mapped graph prepared in
        let long : length own_rows ≡ length (new_names mapped graph prepared) = length-map (enumerate_from 0 (new_names mapped graph prepared)) (rows.new_row mapped graph prepared (new_names mapped graph prepared)) ∙ length-enumerate_from 0 (new_names mapped graph prepared) in
        let split = beyond own_rows made q (omega (arith, past, long)) less in
        absurd (pair_apart class (new_at first q) split own)
  ]
    where
      beyond : (xs ys : List NewRow) (n : ℕ) → length xs ≤ n → n < length (xs ++ ys) → Has ys (get_or (xs ++ ys) n no_row)
      beyond [] ys n past less = has_at ys n (get_or ys n no_row) (slice_get-get_or ys n no_row less)
      beyond (x ∷ xs) ys zero past less = absurd (omega (arith, past))
      beyond (x ∷ xs) ys (suc n) past less = beyond xs ys n (omega (arith, past)) (omega (arith, less))

  abbrev pub given : List (List Value)
  given = map (key_of_new placed.keys) (range_with_len 0 (length (project mapped graph prepared).fresh))

  -- a row of an object in its root's table, among those that stay new
  staying_row : (object : ObjId) (q k : ℕ) (row : NewRow) → slice_get (new_names mapped graph prepared) q ≡ Some (row_name object (root_table mapped (object_at graph object).class)) → slice_get changes.fresh k ≡ Some row
      → is_row_of (root_table mapped (object_at graph object).class) object row.name ≡ true
      → (get_or (partners mapped.schema first) q None ≡ None) × (number mapped graph first (whole mapped graph prepared old order placed after done) placed.keys (drawn mapped graph prepared old order placed after done) q ≡ k)
  staying_row object q k row at there is =
      let class : ClassId = (object_at graph object).class in
      let own = name_own mapped graph prepared old order placed after done q (row_name object (root_table mapped class)) at in
      let from = stays_from mapped graph first (whole mapped graph prepared old order placed after done) placed.keys (drawn mapped graph prepared old order placed after done) k row there in
      let p : ℕ = from.0 in
      let parts = and_parts (row.name.table.0 == (root_table mapped class).0) (row.name.object.0 == object.0) is in
      let table : row.name.table ≡ root_table mapped class = ap (λ (n : ℕ). let id : TableId = record { 0 = n } in id) (eqb-true row.name.table.0 (root_table mapped class).0 parts.0) in
      let name : slice_get (new_names mapped graph prepared) p ≡ Some row.name =
      row_within p class from.1 (subst (Has (tables_of mapped class)) (sym (ap (λ (r : RowName). r.table) (sym from.4) ∙ table)) own.1) ∙ ap (λ (r : RowName). Some r) (sym from.4) in
      let object_is : row.name.object ≡ object = ap (λ (n : ℕ). let id : ObjId = record { 0 = n } in id) (eqb-true row.name.object.0 object.0 parts.1) in
      let places : Some p ≡ Some q =
      sym (name_place mapped graph prepared (once mapped graph prepared old order placed after done) p row.name name)
      ∙ (λ i. position (is_row_of (table i) (object_is i)) (new_names mapped graph prepared))
      ∙ name_place mapped graph prepared (once mapped graph prepared old order placed after done) q (row_name object (root_table mapped class)) at in
      let same : p ≡ q = same_Some p q places in
      (ap (λ (n : ℕ). get_or (partners mapped.schema first) n None) (sym same) ∙ from.2, ap (number mapped graph first (whole mapped graph prepared old order placed after done) placed.keys (drawn mapped graph prepared old order placed after done)) (sym same) ∙ from.3)

  name_at : (object : ObjId) (q : ℕ) → slice_get (new_names mapped graph prepared) q ≡ Some (row_name object (root_table mapped (object_at graph object).class)) → is_row_of (root_table mapped (object_at graph object).class) object (new_at (object_changes mapped graph prepared) q).name ≡ true
  name_at object q at =
      ap (λ (r : NewRow). is_row_of (root_table mapped (object_at graph object).class) object r.name) (first_row mapped graph prepared q (row_name object (root_table mapped (object_at graph object).class)) at)
      ∙ and_from ((root_table mapped (object_at graph object).class).0 == (root_table mapped (object_at graph object).class).0) (object.0 == object.0) (eq-eqb (root_table mapped (object_at graph object).class).0 (root_table mapped (object_at graph object).class).0 refl) (eq-eqb object.0 object.0 refl)

  found_at : {A : Type 0} (name : A → RowName) (xs : List A) (test : RowName → Bool) (j : ℕ) (d : A) → position test (map name xs) ≡ Some j → (j < length xs) × (test (name (get_or xs j d)) ≡ true)
  found_at name xs test j d e =
      let found = position-Some test (map name xs) j (name d) e in
      let less : j < length xs = omega (arith, found.0, length-map xs name) in
      (less, ap test (sym (get_or-map name xs j d (name d) less)) ∙ found.1)

  not_missing : {A : Type 0} (name : A → RowName) (xs : List A) (test : RowName → Bool) (j : ℕ) (x : A) → slice_get xs j ≡ Some x → test (name x) ≡ true → position test (map name xs) ≡ None → ⊥
  not_missing name xs test j x at passes none =
      some_found test (map name xs) j (name x) (omega (arith, slice_get_within xs j x at, length-map xs name))
      (ap test (get_or-map name xs j x (name x) (slice_get_within xs j x at) ∙ ap name (get_or_from_slice_get xs j x x at)) ∙ passes) none

  -- a changed row of an object that is new stands for its switched one
  changed_row_key : (object : ObjId) (q : ℕ) (row : ChangedRow) → is_pending (object_at graph object).state ≡ true → slice_get (new_names mapped graph prepared) q ≡ Some (row_name object (root_table mapped (object_at graph object).class))
      → is_row_of (root_table mapped (object_at graph object).class) object row.name ≡ true → Has changes.changed row → row.key ≡ known_key mapped.schema first q
  unfolding rows.changed_rows
  changed_row_key object q row pending at is has =
      by (has_either (rows_kept mapped graph first (partners mapped.schema first)) (rows_switched mapped graph first (partners mapped.schema first)) row has)
    where
      same_object : row.name.object ≡ object
      same_object = ap (λ (n : ℕ). let id : ObjId = record { 0 = n } in id) (eqb-true row.name.object.0 object.0 (and_parts (row.name.table.0 == (root_table mapped (object_at graph object).class).0) (row.name.object.0 == object.0) is).1)

      same_table : row.name.table ≡ root_table mapped (object_at graph object).class
      same_table = ap (λ (n : ℕ). let id : TableId = record { 0 = n } in id) (eqb-true row.name.table.0 (root_table mapped (object_at graph object).class).0 (and_parts (row.name.table.0 == (root_table mapped (object_at graph object).class).0) (row.name.object.0 == object.0) is).0)

      not_both : (state : State) → is_pending state ≡ true → graphs.is_persistent state ≡ true → ⊥
      not_both Transient a b = absurd cc
      not_both Pending a b = absurd cc
      not_both Persistent a b = absurd cc
      not_both Deleted a b = absurd cc
      not_both Detached a b = absurd cc

      by : Has (rows_kept mapped graph (object_changes mapped graph prepared) (partners mapped.schema (object_changes mapped graph prepared))) row
          ⊎ Has (rows_switched mapped graph (object_changes mapped graph prepared) (partners mapped.schema (object_changes mapped graph prepared))) row → row.key ≡ known_key mapped.schema (object_changes mapped graph prepared) q
      by (inl inside) =
          let kept = from_filter rows.has_cells (map (row_kept mapped graph first (partners mapped.schema first)) first.changed) row inside in
          let old_row = from_map (row_kept mapped graph first (partners mapped.schema first)) first.changed row kept.0 in
          let names = new_names mapped graph prepared in
          let from = from_flat (rows.rows_changed mapped graph prepared names) (filter (keeps_rows graph prepared) (object_ids graph)) old_row.0 old_row.1 in
          let there = from_filter rows.has_cells (map (rows.changed_row mapped graph prepared names from.0) (tables_of mapped (object_at graph from.0).class)) old_row.0 from.2 in
          let table = from_map (rows.changed_row mapped graph prepared names from.0) (tables_of mapped (object_at graph from.0).class) old_row.0 there.0 in
          let its : from.0 ≡ object = ap (λ (r : ChangedRow). r.name.object) table.2 ∙ ap (λ (r : ChangedRow). r.name.object) old_row.2 ∙ same_object in
          let keeps : keeps_rows graph prepared object ≡ true = subst (λ (o : ObjId). keeps_rows graph prepared o ≡ true) its (from_filter (keeps_rows graph prepared) (object_ids graph) from.0 from.1).1 in
          absurd (not_both (object_at graph object).state pending (and_parts (graphs.is_persistent (object_at graph object).state) (not (graphs.is_among prepared.deleted object)) keeps).0)
      by (inr inside) =
          let class : ClassId = (object_at graph object).class in
          let from = from_filter_map (switch_of mapped graph first (partners mapped.schema first)) (enumerate_from 0 first.fresh) row inside in
          let ranked : ℕ × NewRow = from.0 in
          let gone = none_given (λ (n : ℕ). row_switched mapped graph first (partners mapped.schema first) ranked (gone_at first.gone n)) (get_or (partners mapped.schema first) ranked.0 None) row from.2 in
          let numbered = from_numbered 0 first.fresh ranked from.1 in
          let here : slice_get first.fresh ranked.0 ≡ Some ranked.1 = ap (slice_get first.fresh) (omega (arith, numbered.1)) ∙ numbered.2 in
          let stands : new_at first ranked.0 ≡ ranked.1 = get_or_from_slice_get first.fresh ranked.0 ranked.1 no_row here in
          let own = name_own mapped graph prepared old order placed after done q (row_name object (root_table mapped class)) at in
          let name_is : (new_at first ranked.0).name ≡ row.name = ap (λ (r : NewRow). r.name) stands ∙ ap (λ (r : ChangedRow). r.name) gone.2 in
          let name : slice_get (new_names mapped graph prepared) ranked.0 ≡ Some row.name =
          row_within ranked.0 class (slice_get_within first.fresh ranked.0 ranked.1 here) (subst (Has (tables_of mapped class)) (sym (ap (λ (r : RowName). r.table) name_is ∙ same_table)) own.1) ∙ ap (λ (r : RowName). Some r) name_is in
          let places : Some ranked.0 ≡ Some q =
          sym (name_place mapped graph prepared (once mapped graph prepared old order placed after done) ranked.0 row.name name)
          ∙ (λ i. position (is_row_of (same_table i) (same_object i)) (new_names mapped graph prepared))
          ∙ name_place mapped graph prepared (once mapped graph prepared old order placed after done) q (row_name object (root_table mapped class)) at in
          ap (λ (r : ChangedRow). r.key) (sym gone.2) ∙ ap (known_key mapped.schema first) (same_Some ranked.0 q places)

  pub new_key_is : (object : ObjId) (q : ℕ) → is_pending (object_at graph object).state ≡ true → slice_get (new_names mapped graph prepared) q ≡ Some (row_name object (root_table mapped (object_at graph object).class))
      → new_key mapped graph (project mapped graph prepared) given object ≡ key_then q
  new_key_is object q pending at =
      by (get_or (partners mapped.schema first) q None) refl (position test (map (λ row. row.name) changes.fresh)) refl (position test (map (λ row. row.name) changes.changed)) refl
    where
      test : RowName → Bool
      test = is_row_of (root_table mapped (object_at graph object).class) object

      less : q < length (object_changes mapped graph prepared).fresh
      less = names_within mapped graph prepared q (slice_get_within (new_names mapped graph prepared) q (row_name object (root_table mapped (object_at graph object).class)) at)

      key_is : (o : Option ℕ) → get_or (partners mapped.schema (object_changes mapped graph prepared)) q None ≡ o → key_by mapped graph (object_changes mapped graph prepared) (whole mapped graph prepared old order placed after done) placed.keys (drawn mapped graph prepared old order placed after done) o q ≡ key_then q
      key_is o e = sym (ap (λ (o : Option ℕ). key_by mapped graph (object_changes mapped graph prepared) (whole mapped graph prepared old order placed after done) placed.keys (drawn mapped graph prepared old order placed after done) o q) e)

      stays : (j : ℕ) → position test (map (λ row. row.name) (project mapped graph prepared).fresh) ≡ Some j
          → (get_or (partners mapped.schema (object_changes mapped graph prepared)) q None ≡ None) × (number mapped graph (object_changes mapped graph prepared) (whole mapped graph prepared old order placed after done) placed.keys (drawn mapped graph prepared old order placed after done) q ≡ j) × (j < length (project mapped graph prepared).fresh)
      stays j e =
          let found = found_at (λ (row : NewRow). row.name) changes.fresh test j no_row e in
          let it = staying_row object q j (get_or changes.fresh j no_row) at (slice_get-get_or changes.fresh j no_row found.0) found.1 in
          (it.0, it.1, found.0)

      by : (o : Option ℕ) → get_or (partners mapped.schema (object_changes mapped graph prepared)) q None ≡ o → (one : Option ℕ) → position test (map (λ row. row.name) (project mapped graph prepared).fresh) ≡ one
          → (two : Option ℕ) → position test (map (λ row. row.name) (project mapped graph prepared).changed) ≡ two → key_at given (position test (map (λ row. row.name) (project mapped graph prepared).fresh)) (map (λ row. row.key) (project mapped graph prepared).changed) (position test (map (λ row. row.name) (project mapped graph prepared).changed)) ≡ key_then q
      by o e (Some j) f two g =
          let it = stays j f in
          let place : 0 + j ≡ j = omega arith in
          ap (λ (p : Option ℕ). key_at given p (map (λ (row : ChangedRow). row.key) changes.changed) (position test (map (λ row. row.name) changes.changed))) f
          ∙ get_or-map-range_with_len (key_of_new placed.keys) 0 (length changes.fresh) j j [] it.2 place
          ∙ ap (key_of_new placed.keys) (sym it.1)
          ∙ key_is None it.0
      by None e None f two g =
          absurd (not_missing (λ (row : NewRow). row.name) changes.fresh test (number mapped graph first (whole mapped graph prepared old order placed after done) placed.keys (drawn mapped graph prepared old order placed after done) q) _
          (stays_at mapped graph first (whole mapped graph prepared old order placed after done) placed.keys (drawn mapped graph prepared old order placed after done) q less e) (name_at object q at) f)
      by (Some gone) e None f None g =
          let own = name_own mapped graph prepared old order placed after done q (row_name object (root_table mapped (object_at graph object).class)) at in
          let its : table_at first q ≡ root_table mapped (object_at graph object).class = ap (λ (r : NewRow). r.name.table) (first_row mapped graph prepared q (row_name object (root_table mapped (object_at graph object).class)) at) in
          let was = was_row mapped graph prepared old order placed after done q gone (object_at graph object).class (subst (Has (tables_of mapped (object_at graph object).class)) (sym its) own.1) e in
          let there = has_place changes.changed _ (among_changed mapped graph prepared old order placed after done q gone less e was) in
          absurd (not_missing (λ (row : ChangedRow). row.name) changes.changed test there.0 _ there.1 (name_at object q at) g)
      by (Some gone) e None f (Some j) g =
          let found = found_at (λ (row : ChangedRow). row.name) changes.changed test j no_changed g in
          let row : ChangedRow = get_or changes.changed j no_changed in
          (λ i. key_at given (f i) (map (λ (row : ChangedRow). row.key) changes.changed) (g i))
          ∙ get_or-map (λ (r : ChangedRow). r.key) changes.changed j no_changed [] found.0
          ∙ changed_row_key object q row pending at found.1 (has_at changes.changed j row (slice_get-get_or changes.changed j no_changed found.0))
          ∙ key_is (Some gone) e

  -- ---- as it is told to the objects

  abbrev pub written : Written
  written = written_with mapped prepared (project mapped graph prepared) (map (key_of_new placed.keys) (range_with_len 0 (length (project mapped graph prepared).fresh))) graph

  pub key_given : (object : ObjId) → IsObject graph object → key_of written object ≡ key_if_new mapped graph prepared changes given object
  unfolding new_keys object_ids
  key_given object made =
      let place : 0 + graphs.place_of object ≡ graphs.place_of object = omega arith in
      let within : graphs.place_of object < length graph.objects = omega (arith, made.0, made.1) in
      let ids : List ObjId = map id_of_place (range_with_len 0 (length graph.objects)) in
      let listed : graphs.place_of object < length ids = omega (arith, within, length-map (range_with_len 0 (length graph.objects)) id_of_place, length-range_with_len 0 (length graph.objects)) in
      let same : id_of_place (graphs.place_of object) ≡ object = ap (λ (n : ℕ). let id : ObjId = record { 0 = n } in id) (let at : graphs.place_of object + 1 ≡ object.0 = omega (arith, made.0) in at) in
      get_or-map (key_if_new mapped graph prepared changes given) ids (graphs.place_of object) object None listed
      ∙ ap (key_if_new mapped graph prepared changes given) (get_or-map-range_with_len id_of_place 0 (length graph.objects) (graphs.place_of object) (graphs.place_of object) object within place ∙ same)

  queued_new : (queue : List ((ℕ × ℕ) × ObjId)) (ids : List ObjId) → All (λ (o : ObjId). is_new graph prepared o ≡ true) (values_of queue) → All (λ (o : ObjId). is_new graph prepared o ≡ true) (values_of (fold (with_queued graph prepared) queue ids))
  queued_new queue [] all = all
  queued_new queue (id ∷ ids) all = queued_new (with_queued graph prepared queue id) ids (by (is_new graph prepared id) refl)
    where
      by : (b : Bool) → is_new graph prepared id ≡ b → All (λ (o : ObjId). is_new graph prepared o ≡ true) (values_of (if b then insert_entry graphs.rank_cmp queue ((object_at graph id).added, id.0) id else queue))
      by true e = All-values-insert_entry graphs.rank_cmp ((object_at graph id).added, id.0) id (λ (o : ObjId). is_new graph prepared o ≡ true) queue all e
      by false e = all

  named_new : (q : ℕ) (row : RowName) → slice_get (new_names mapped graph prepared) q ≡ Some row → is_new graph prepared row.object ≡ true
  unfolding new_names new_objects
  named_new q row at =
      let objects : List ObjId = values_of (fold (with_queued graph prepared) [] (object_ids graph)) in
      let from = from_flat (rows.rows_of mapped graph) objects row (has_at (flat_map (rows.rows_of mapped graph) objects) q row at) in
      let table = from_map (row_name from.0) (tables_of mapped (object_at graph from.0).class) row from.2 in
      subst (λ (r : RowName). is_new graph prepared r.object ≡ true) table.2
      (each_has (λ (o : ObjId). is_new graph prepared o ≡ true) objects from.0 (recursion_from_All (λ (o : ObjId). is_new graph prepared o ≡ true) objects (queued_new [] (object_ids graph) (All-nil (λ (o : ObjId). is_new graph prepared o ≡ true)))) from.1)

  -- the object of a new row has its key
  pub has_key_of : (q : ℕ) (row : RowName) → slice_get (new_names mapped graph prepared) q ≡ Some row → key_of written row.object ≡ Some (key_then q)
  has_key_of q row at =
      let object : ObjId = row.object in
      let root : HasRoot mapped graph prepared old order placed after done object (key_then q) = root_of_row mapped graph prepared old order placed after done q row at in
      let new : is_new graph prepared object ≡ true = named_new q row at in
      let made : IsObject graph object = named_made q row at in
      let key : new_key mapped graph changes given object ≡ key_then root.place = new_key_is object root.place (and_parts (is_pending (object_at graph object).state) (not (graphs.is_among prepared.transient object)) new).0 root.at in
      key_given object made
      ∙ ap (λ (b : Bool). if b then key_if_fit (key_fits mapped (object_at graph object).class (new_key mapped graph changes given object)) (new_key mapped graph changes given object) else None) new
      ∙ ap (λ (k : List Value). key_if_fit (key_fits mapped (object_at graph object).class k) k) key
      ∙ ap (λ (b : Bool). key_if_fit b (key_then root.place)) (root_fits object root.place root.at)
      ∙ ap (λ (k : List Value). Some k) root.is
    where
      named_made : (q : ℕ) (row : RowName) → slice_get (new_names mapped graph prepared) q ≡ Some row → IsObject graph row.object
      named_made q row at =
          each_has (λ (r : RowName). IsObject graph r.object) (new_names mapped graph prepared) row
          (recursion_from_All (λ (r : RowName). IsObject graph r.object) (new_names mapped graph prepared) (names_made mapped graph prepared (new_names mapped graph prepared) refl)) (has_at (new_names mapped graph prepared) q row at)
