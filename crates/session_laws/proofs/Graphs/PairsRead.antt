-- The row of a pair is all key, so what stands under its key is the row that was read.
use Rattle.std.proofs.Common.{◌≡◌, ℕ, Bool, true, false, cond, ◌&&◌, ◌==◌, List, [], ◌∷◌, ◌++◌, length, fold, map, Option, None, Some, is_some, refl, sym, subst, ap, ◌∙◌}
use Rattle.std.proofs.lemmas.List.{length-map, map-append}
use Rattle.std.proofs.lemmas.List.Elements.{All-nil, recursion_from_All}
use Rattle.std.proofs.lemmas.Map.Views.{All-insert_key}
use Rattle.std.specs.BTreeSet.{insert_key}
use Rattle.std.specs.List.{All, AllByRecursion, filter, flat_map, list_all, list_any}
use Rattle.base_core.specs.declared.ids.ObjId.{ObjId}
use Rattle.base_core.specs.declared.value.Value.{Value}
use Rattle.schema_core.specs.declared.changes.GoneRow.{GoneRow}
use Rattle.schema_core.specs.declared.table.ColumnSpec.{ColumnSpec}
use Rattle.schema_core.specs.declared.table.ForeignSpec.{ForeignSpec}
use Rattle.schema_core.specs.Catalog.{Catalog, has_name, spec_of}
use Rattle.schema_core.specs.Tables.{Legal, Tables, cells_of, given_value, key_cells}
use Rattle.class_types.specs.declared.mapped.Relation.{Relation}
use Rattle.class_layouts.specs.Columns.{columns_in}
use Rattle.class_layouts.specs.Faults.{foreigns_in}
use Rattle.class_sides.specs.Keys.{TableKey}
use Rattle.class_sides.specs.Sides.{is_all_keys}
use Rattle.class_mapping.specs.Mapped.{Mapped, layout_of, relations_of}
use Rattle.class_mapping.specs.Related.{AreRelated, IsRelated, has_keys}
use Rattle.class_mapping.specs.Valid.{refers_to_class}
use Rattle.class_mapping.proofs.Having.{Has, all_from, from_flat, from_map, from_numbered, has_at}
use Rattle.class_mapping.proofs.Lists.{and_both, and_left, and_right}
use Rattle.object_arena.specs.Fit.{IsFit}
use Rattle.object_arena.specs.Graph.{Graph, IsObject, object_at}
use Rattle.object_arena.proofs.FitLemmas.{fit_class}
use Rattle.flush_order.specs.Orders.{place_of_gone}
use Rattle.object_rows.specs.declared.prepared.Prepared.{Prepared}
use Rattle.object_rows.specs.Seen.{link_of, object_ids}
use Rattle.object_rows.proofs.ObjectSteps.{all_made}
use Rattle.pair_rows.specs.Pairs as pairs
use Rattle.pair_rows.proofs.FirstLemmas.{firsts_all}
use Rattle.row_switches.proofs.Each.{all_given, all_map}
use Rattle.session_laws.proofs.Plans.Between.{legal_cells, legal_key}
use Rattle.session_laws.proofs.Plans.Blend.{Long, legal_is_long}
use Rattle.session_laws.proofs.Plans.Complete.{whole_is_long}
use Rattle.session_laws.proofs.Projects.LateKeys.{each_has}
use Rattle.session_laws.specs.Graphs.{IsAsRead}

abbrev pub is_all_key : List ColumnSpec → Bool
is_all_key columns = list_all (λ (column : ColumnSpec). column.key) columns

-- ---- rows that are all key

key_step : (key : Bool) (v : Value) (parts row : List Value) → key ≡ true → parts ≡ row → cond key (v ∷ parts) parts ≡ v ∷ row
key_step true v parts row e same = ap (λ (vs : List Value). v ∷ vs) same
key_step false v parts row e same = absurd (cc)

pub key_is_row : (columns : List ColumnSpec) (row : List Value) → is_all_key columns ≡ true → Long columns row → key_cells columns row ≡ row
key_is_row [] [] all long = refl
key_is_row [] (v ∷ row) all long = absurd long
key_is_row (column ∷ columns) [] all long = absurd long
key_is_row (column ∷ columns) (v ∷ row) all long =
    key_step column.key v (key_cells columns row) row (and_left column.key (is_all_key columns) all) (key_is_row columns row (and_right column.key (is_all_key columns) all) long)

key_as_read : (schema : Catalog) (old : Tables) (row : GoneRow) → Legal schema old → is_all_key (spec_of schema row.name.table).columns ≡ true → length row.base ≡ length (spec_of schema row.name.table).columns → IsAsRead schema old row
key_as_read schema old row legal all whole stands at =
    let columns = (spec_of schema row.name.table).columns in
    let there : key_cells columns stands ≡ stands = key_is_row columns stands all (legal_is_long columns stands (legal_cells schema old legal (place_of_gone schema row) stands at)) in
    let read : key_cells columns row.base ≡ row.base = key_is_row columns row.base all (whole_is_long columns row.base whole) in
    let same : stands ≡ row.base = sym there ∙ legal_key schema old legal (place_of_gone schema row) stands at ∙ read in
    all_given (λ (foreign : ForeignSpec). cells_of (spec_of schema row.name.table) stands foreign.columns ≡ cells_of (spec_of schema row.name.table) row.base foreign.columns)
    (λ foreign. ap (λ (values : List Value). cells_of (spec_of schema row.name.table) values foreign.columns) same) (spec_of schema row.name.table).foreigns

-- ---- the rows of pairs are

keys_alone : (columns : List ColumnSpec) (foreigns : List ForeignSpec) → is_all_keys columns foreigns ≡ true → is_all_key columns ≡ true
keys_alone [] foreigns h = refl
keys_alone (column ∷ columns) foreigns h =
    let named = λ (c : ColumnSpec). list_any (λ (foreign : ForeignSpec). has_name foreign.columns c.name) foreigns in
    and_both column.key (is_all_key columns) (and_left column.key (named column) (and_left (column.key && named column) (list_all (λ (c : ColumnSpec). c.key && named c) columns) h))
    (keys_alone columns foreigns (and_right (column.key && named column) (list_all (λ (c : ColumnSpec). c.key && named c) columns) h))

far_keyed : (mapped : Mapped) (relation : Relation) (far : Option TableKey) → has_keys mapped relation far ≡ true → is_some far ≡ true → is_all_key (columns_in mapped.schema.tables relation.foreign.0) ≡ true
far_keyed mapped relation None keys some = absurd (cc)
far_keyed mapped relation (Some far) keys some =
    let tables = mapped.schema.tables in
    let key : TableKey = relation.foreign in
    let same : Bool = key.0.0 == far.0.0 in
    let all = is_all_keys (columns_in tables key.0) (foreigns_in tables key.0) in
    let near = refers_to_class tables (Some (layout_of mapped relation.class)) key in
    keys_alone (columns_in tables key.0) (foreigns_in tables key.0)
    (and_right same all (and_left (same && all) near (and_left (same && all && near) (refers_to_class tables (Some (layout_of mapped relation.target)) far) keys)))

has_if : {A : Type 0} (b : Bool) (xs : List A) (x : A) → Has (cond b xs []) x → (b ≡ true) × Has xs x
has_if true xs x h = (refl, h)
has_if false xs x h = absurd h

all_in_set : (P : pairs.Pair → Type 0) (set list : List pairs.Pair) → All P set → AllByRecursion P list → All P (fold (insert_key pairs.pair_cmp) set list)
all_in_set P set [] all each = all
all_in_set P set (pair ∷ list) all each = all_in_set P (insert_key pairs.pair_cmp set pair) list (All-insert_key pairs.pair_cmp pair P set all each.0) each.1

-- ---- where pairs that are taken away come from

module _ (mapped : Mapped) (graph : Graph) (prepared : Prepared) where
  abbrev held_by : ObjId → ℕ × Relation → List ObjId
  held_by object placed =
      let link = link_of (object_at graph object) (record { 0 = placed.0 }) in
      filter (pairs.is_lost graph prepared object) (pairs.members_before link) ++ filter (pairs.is_parted graph prepared) (pairs.members_removed link)

  -- an object with rows, and a member that its collection had or lost
  pub record IsParted (pair : pairs.Pair) : Type 0 where
    pub object : ObjId
    pub there : Has (object_ids graph) object
    pub in_session : pairs.is_parted graph prepared object ≡ true
    pub placed : ℕ × Relation
    pub of : Has (pairs.relations_at mapped graph object) placed
    pub far : is_some placed.1.far ≡ true
    pub member : ObjId
    pub held : Has (held_by object placed) member
    pub is : pairs.pair_of placed.1 object member ≡ pair

  parted_of : (object : ObjId) → Has (object_ids graph) object → (pair : pairs.Pair) → Has (pairs.lost_of mapped graph prepared object) pair → IsParted pair
  parted_of object there pair inside =
      let all = has_if (pairs.is_parted graph prepared object) (flat_map (pairs.lost_by graph prepared object) (pairs.relations_at mapped graph object)) pair inside in
      let from = from_flat (pairs.lost_by graph prepared object) (pairs.relations_at mapped graph object) pair all.1 in
      let link = link_of (object_at graph object) (record { 0 = from.0.0 }) in
      let far = has_if (is_some from.0.1.far) (pairs.lost_from graph prepared object from.0.1 link) pair from.2 in
      let before : List ObjId = filter (pairs.is_lost graph prepared object) (pairs.members_before link) in
      let removed : List ObjId = filter (pairs.is_parted graph prepared) (pairs.members_removed link) in
      let made = from_map (pairs.pair_of from.0.1 object) (before ++ removed) pair (subst (λ (list : List pairs.Pair). Has list pair) (sym (map-append (pairs.pair_of from.0.1 object) before removed)) far.1) in
      record { object = object; there = there; in_session = all.0; placed = from.0; of = from.1; far = far.0; member = made.0; held = made.1; is = made.2 }

  pub lost_parted : AllByRecursion IsParted (pairs.lost_pairs mapped graph prepared)
  unfolding pairs.lost_pairs
  lost_parted =
      let list = flat_map (pairs.lost_of mapped graph prepared) (object_ids graph) in
      recursion_from_All IsParted (pairs.as_set list)
      (all_in_set IsParted [] list (All-nil IsParted)
      (all_from IsParted list (λ pair has. let from = from_flat (pairs.lost_of mapped graph prepared) (object_ids graph) pair has in parted_of from.0 from.1 pair from.2)))

module _ (mapped : Mapped) (graph : Graph) (prepared : Prepared) (related : AreRelated mapped) (fit : IsFit mapped graph) where
  abbrev IsKeyed : pairs.Pair → Type 0
  IsKeyed pair = is_all_key (columns_in mapped.schema.tables pair.0) ≡ true

  pub parted_related : (pair : pairs.Pair) (it : IsParted mapped graph prepared pair) → IsRelated mapped it.placed.1
  parted_related pair it =
      let list = relations_of mapped (object_at graph it.object).class in
      let made = each_has (IsObject graph) (object_ids graph) it.object (recursion_from_All (IsObject graph) (object_ids graph) (all_made graph (object_ids graph) refl)) it.there in
      let at = from_numbered 0 list it.placed it.of in
      each_has (IsRelated mapped) list it.placed.1 (recursion_from_All (IsRelated mapped) list (related.each (object_at graph it.object).class (fit_class mapped graph it.object fit made))) (has_at list at.0 it.placed.1 at.2)

  -- all columns of the table of a pair are of its key
  pub lost_keyed : (pair : pairs.Pair) → IsParted mapped graph prepared pair → IsKeyed pair
  lost_keyed pair it = subst IsKeyed it.is (far_keyed mapped it.placed.1 it.placed.1.far (parted_related pair it).keys it.far)

  -- what stands under the key of a pair is the pair's row
  pub pairs_read : (old : Tables) → Legal mapped.schema old → AllByRecursion (IsAsRead mapped.schema old) (pairs.lost_rows mapped graph prepared)
  unfolding pairs.lost_rows
  pairs_read old legal =
      firsts_all (IsAsRead mapped.schema old) mapped.schema (map (pairs.lost_row mapped graph) (pairs.lost_pairs mapped graph prepared))
      (all_map (IsParted mapped graph prepared) (IsAsRead mapped.schema old) (pairs.lost_row mapped graph)
      (λ pair it. key_as_read mapped.schema old (pairs.lost_row mapped graph pair) legal (lost_keyed pair it) (length-map (columns_in mapped.schema.tables pair.0) (λ column. given_value (pairs.pair_cell mapped graph [] pair column))))
      (pairs.lost_pairs mapped graph prepared) (lost_parted mapped graph prepared))
