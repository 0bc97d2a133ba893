-- The rows of secondary tables that are made fit: each of their two foreign keys is given the key of the object at its end.
use Rattle.std.proofs.Common.{◌≡◌, inl, inr, ℕ, ◌<◌, Bool, true, false, not, ◌&&◌, ◌||◌, ◌==◌, length, arith, List, [], ◌∷◌, map, Option, None, Some, unwrap_or, refl, sym, ap, ◌∙◌, subst}
use Rattle.std.specs.Prelude.{fold, if◌then◌else◌, is_some, slice_get}
use Rattle.std.specs.BTreeSet.{insert_key}
use Rattle.std.specs.Cmp.Lexicographic.{pointwise}
use Rattle.std.specs.List.{All, AllByRecursion, filter, flat_map, list_all}
use Rattle.std.proofs.lemmas.Bool.{and_from, and_parts, eq-eqb}
use Rattle.std.proofs.lemmas.List.Elements.{All-nil, recursion_from_All}
use Rattle.std.proofs.lemmas.Map.Views.{All-insert_key}
use Rattle.std.proofs.lemmas.Option.{get_or_from_slice_get}
use Rattle.base_core.specs.declared.ids.ClassId.{ClassId}
use Rattle.base_core.specs.declared.ids.ObjId.{ObjId}
use Rattle.base_core.specs.declared.ids.TableId.{TableId}
use Rattle.base_core.specs.declared.refusal.RowName.{RowName}
use Rattle.base_core.specs.declared.value.Value.TheVariants.{Null}
use Rattle.schema_core.specs.declared.changes.RowCell.{RowCell}
use Rattle.schema_core.specs.declared.changes.RowCell.TheVariants.{Given}
use Rattle.schema_core.specs.declared.changes.RowChanges.{RowChanges}
use Rattle.schema_core.specs.declared.table.ColumnSpec.{ColumnSpec}
use Rattle.schema_core.specs.declared.table.ForeignSpec.{ForeignSpec}
use Rattle.schema_core.specs.declared.table.TableSpec.{TableSpec}
use Rattle.schema_core.specs.Catalog.{Catalog, IsTable, spec_of}
use Rattle.class_types.specs.declared.mapped.Relation.{Relation}
use Rattle.class_layouts.specs.Columns.{columns_in}
use Rattle.class_layouts.specs.Faults.{foreigns_in}
use Rattle.class_sides.specs.Keys.{TableKey, foreign_at, refers_into}
use Rattle.class_sides.specs.Sides.{is_all_keys}
use Rattle.class_mapping.specs.Mapped.{IsClass, Mapped, layout_of, relations_of, root_of, tables_of}
use Rattle.class_mapping.specs.Related.{AreRelated, IsRelated, has_keys}
use Rattle.class_mapping.specs.Valid.{refers_by, refers_to_class}
use Rattle.class_mapping.proofs.Having.{Has, all_from, all_of, from_filter, from_flat, from_map, from_numbered, has_at}
use Rattle.class_mapping.proofs.RelatedKeys.{same_table}
use Rattle.mapping_laws.specs.Hierarchies.{HasHierarchies}
use Rattle.object_arena.specs.declared.object.Link.{Link}
use Rattle.object_arena.specs.declared.object.Link.TheVariants.{Many, One, Unloaded, Unset}
use Rattle.object_arena.specs.Fit.{IsFit, held_fit, is_empty, is_of_root, link_fits}
use Rattle.object_arena.specs.Graph.{Graph, IsObject, is_among, object_at}
use Rattle.object_arena.proofs.FitLemmas.{fit_class, fit_links}
use Rattle.flush_order.specs.Cells.{table_at}
use Rattle.object_rows.specs.declared.prepared.Prepared.{Prepared}
use Rattle.object_rows.specs.Cells.{foreign_cell, or_first}
use Rattle.object_rows.specs.Rows.{new_names}
use Rattle.object_rows.specs.Seen.{is_in_session, link_of, object_ids}
use Rattle.object_rows.proofs.ObjectSteps.{all_made}
use Rattle.pair_rows.specs.Pairs as pairs
use Rattle.session_laws.proofs.Graphs.Named.{opposite}
use Rattle.session_laws.proofs.Graphs.OwnKinds.{is_table_of}
use Rattle.session_laws.proofs.Projects.LateKeys.{each_has}
use Rattle.session_laws.specs.Sendable.{IsFitNew, cell_fits}
use Rattle.session_laws.proofs.Sendable.Links.{IsUnder, foreign_gives, given_fits, under_root}
use Rattle.session_laws.proofs.Sendable.PairEnds.{AreBoth, relation_of_class}

-- ---- members that were added

-- they are of the hierarchy of the relationship's target
added_under : (link : Link) (roots : List ClassId) (root : ClassId) (many : Bool) (member : ObjId) → held_fit roots root many link ≡ true → Has (pairs.members_added link) member → is_of_root roots root member ≡ true
added_under Unset roots root many member fits there = absurd there
added_under (One end changed) roots root many member fits there = absurd there
added_under (Unloaded added removed) roots root many member fits there =
    let both = and_parts ((is_empty added && is_empty removed) || many) (list_all (is_of_root roots root) added && list_all (is_of_root roots root) removed) fits in
    all_of (is_of_root roots root) added member (and_parts (list_all (is_of_root roots root) added) (list_all (is_of_root roots root) removed) both.1).0 there
added_under (Many members base) roots root many member fits there =
    let both = and_parts many (list_all (is_of_root roots root) members && list_all (is_of_root roots root) base) fits in
    all_of (is_of_root roots root) members member (and_parts (list_all (is_of_root roots root) members) (list_all (is_of_root roots root) base) both.1).0 (from_filter (λ (object : ObjId). not (is_among base object)) members member there).0

-- what holds of each pair of a list holds of each of the set
set_of : (P : pairs.Pair → Type 0) (list set : List pairs.Pair) → AllByRecursion P list → All P set → All P (fold (insert_key pairs.pair_cmp) set list)
set_of P [] set each all = all
set_of P (pair ∷ list) set each all = set_of P list (insert_key pairs.pair_cmp set pair) each.1 (All-insert_key pairs.pair_cmp pair P set all each.0)

-- a cell for each column
of_columns : (schema : Catalog) (changes : RowChanges) (value : ColumnSpec → RowCell) (columns : List ColumnSpec) → ((column : ColumnSpec) → Has columns column → cell_fits schema changes column (value column) ≡ true) → pointwise (cell_fits schema changes) columns (map value columns) ≡ true
of_columns schema changes value [] each = refl
of_columns schema changes value (column ∷ columns) each =
    and_from (cell_fits schema changes column (value column)) (pointwise (cell_fits schema changes) columns (map value columns)) (each column (inl refl)) (of_columns schema changes value columns (λ other there. each other (inr there)))

module _ (mapped : Mapped) (has : HasHierarchies mapped) (related : AreRelated mapped) (graph : Graph) (prepared : Prepared) (fit : IsFit mapped graph) where
  -- the object is of a class to which the foreign key of this number refers
  abbrev pub IsAtEnd : TableId → ℕ → ObjId → Type 0
  IsAtEnd table number object =
      (foreign : ForeignSpec) → slice_get (foreigns_in mapped.schema.tables table) number ≡ Some foreign
      → (class : ClassId) × IsClass mapped class × (refers_into mapped.schema.tables foreign (tables_of mapped class) ≡ true) × IsUnder mapped graph (root_of mapped class) object

  pub record IsPair (pair : pairs.Pair) : Type 0 where
    pub inside : IsTable mapped.schema pair.0
    pub first : IsAtEnd pair.0 0 pair.1.0
    pub second : IsAtEnd pair.0 1 pair.1.1

  there_is : (tables : List TableSpec) (found : List TableId) (key : TableKey) → refers_by tables found (foreign_at tables key) ≡ true → (foreign : ForeignSpec) × (foreign_at tables key ≡ Some foreign)
  there_is tables found key refers = by (foreign_at tables key) refl refers
    where
      by : (o : Option ForeignSpec) → foreign_at tables key ≡ o → refers_by tables found o ≡ true → (foreign : ForeignSpec) × (foreign_at tables key ≡ Some foreign)
      by None e h = absurd cc
      by (Some foreign) e h = (foreign, e)

  -- an object and a member of one of its collections over a secondary table
  pub pair_is : (object : ObjId) (relation : Relation) (far : TableKey) (member : ObjId) → IsObject graph object → Has (relations_of mapped (object_at graph object).class) relation → relation.far ≡ Some far → IsUnder mapped graph (root_of mapped relation.target) member
      → IsPair (pairs.pair_of relation object member)
  pair_is object relation far member made there is under =
      let class : ClassId = (object_at graph object).class in
      let own : IsRelated mapped relation = each_has (IsRelated mapped) (relations_of mapped class) relation (recursion_from_All (IsRelated mapped) (relations_of mapped class) (related.each class (fit_class mapped graph object fit made))) there in
      let of = relation_of_class mapped has class relation there in
      let tables : List TableSpec = mapped.schema.tables in
      let one : Bool = relation.foreign.0.0 == far.0.0 in
      let all : Bool = is_all_keys (columns_in tables relation.foreign.0) (foreigns_in tables relation.foreign.0) in
      let near : Bool = refers_to_class tables (Some (layout_of mapped relation.class)) relation.foreign in
      let away : Bool = refers_to_class tables (Some (layout_of mapped relation.target)) far in
      let last = and_parts (one && all && near) away (ap (has_keys mapped relation) (sym is) ∙ own.keys) in
      let third = and_parts (one && all) near last.0 in
      let table : relation.foreign.0 ≡ far.0 = same_table relation.foreign.0 far.0 (and_parts one all third.0).0 in
      let foreign = there_is tables (tables_of mapped relation.class) relation.foreign third.1 in
      by own of.root table third.1 last.1 (is_table_of mapped relation.foreign.0 foreign.0 relation.foreign.1 foreign.1) (of.ends far is).both
    where
      object_end : IsRelated mapped relation → root_of mapped relation.class ≡ root_of mapped (object_at graph object).class → refers_by mapped.schema.tables (tables_of mapped relation.class) (foreign_at mapped.schema.tables relation.foreign) ≡ true → (n : ℕ) → relation.foreign.1 ≡ n → IsAtEnd relation.foreign.0 n object
      object_end own root refers n number foreign at =
          let here : foreign_at mapped.schema.tables relation.foreign ≡ Some foreign = ap (slice_get (foreigns_in mapped.schema.tables relation.foreign.0)) number ∙ at in
          (relation.class, own.class, ap (refers_by mapped.schema.tables (tables_of mapped relation.class)) (sym here) ∙ refers, record { made = made; under = sym root })

      member_end : IsRelated mapped relation → relation.foreign.0 ≡ far.0 → refers_by mapped.schema.tables (tables_of mapped relation.target) (foreign_at mapped.schema.tables far) ≡ true → (n : ℕ) → far.1 ≡ n → IsAtEnd relation.foreign.0 n member
      member_end own table refers n number foreign at =
          let here : foreign_at mapped.schema.tables far ≡ Some foreign = ap (λ (t : TableId). slice_get (foreigns_in mapped.schema.tables t) far.1) (sym table) ∙ ap (slice_get (foreigns_in mapped.schema.tables relation.foreign.0)) number ∙ at in
          (relation.target, own.target, ap (refers_by mapped.schema.tables (tables_of mapped relation.target)) (sym here) ∙ refers, under)

      by : IsRelated mapped relation → (of : root_of mapped relation.class ≡ root_of mapped (object_at graph object).class) → relation.foreign.0 ≡ far.0
          → refers_by mapped.schema.tables (tables_of mapped relation.class) (foreign_at mapped.schema.tables relation.foreign) ≡ true → refers_by mapped.schema.tables (tables_of mapped relation.target) (foreign_at mapped.schema.tables far) ≡ true
          → IsTable mapped.schema relation.foreign.0 → AreBoth relation.foreign.1 far.1 → IsPair (pairs.pair_of relation object member)
      by own of table near away inside (inl both) =
          let first : IsPair (relation.foreign.0, (object, member)) = record { inside = inside; first = object_end own of near 0 both.0; second = member_end own table away 1 both.1 } in
          subst (λ (b : Bool). IsPair (relation.foreign.0, pairs.ordered_pair b object member)) (sym (eq-eqb relation.foreign.1 0 both.0)) first
      by own of table near away inside (inr both) =
          let turned : IsPair (relation.foreign.0, (member, object)) = record { inside = inside; first = member_end own table away 0 both.1; second = object_end own of near 1 both.0 } in
          let apart : (relation.foreign.1 == 0) ≡ false = ap (λ (n : ℕ). n == 0) both.0 in
          subst (λ (b : Bool). IsPair (relation.foreign.0, pairs.ordered_pair b object member)) (sym apart) turned

  -- ---- the pairs that are made

  made_from_is : (object : ObjId) → IsObject graph object → (placed : ℕ × Relation) → Has (pairs.relations_at mapped graph object) placed → (pair : pairs.Pair) → Has (pairs.made_by graph prepared object placed) pair → IsPair pair
  made_from_is object made placed there pair inside =
      let relations : List Relation = relations_of mapped (object_at graph object).class in
      let number = from_numbered 0 relations placed there in
      let relation : Relation = placed.1 in
      let at : slice_get relations placed.0 ≡ Some relation = ap (slice_get relations) (let e : placed.0 ≡ number.0 = omega (arith, number.1) in e) ∙ number.2 in
      by relation.far refl at inside
    where
      by : (far : Option TableKey) → placed.1.far ≡ far → slice_get (relations_of mapped (object_at graph object).class) placed.0 ≡ Some placed.1
          → Has (if is_some placed.1.far then pairs.made_from graph prepared object placed.1 (link_of (object_at graph object) (record { 0 = placed.0 })) else []) pair → IsPair pair
      by None e at h = absurd (subst (λ (far : Option TableKey). Has (if is_some far then pairs.made_from graph prepared object placed.1 (link_of (object_at graph object) (record { 0 = placed.0 })) else []) pair) e h)
      by (Some far) e at h =
          let link : Link = link_of (object_at graph object) (record { 0 = placed.0 }) in
          let there : Has (pairs.made_from graph prepared object placed.1 link) pair = subst (λ (o : Option TableKey). Has (if is_some o then pairs.made_from graph prepared object placed.1 (link_of (object_at graph object) (record { 0 = placed.0 })) else []) pair) e h in
          let one = from_map (pairs.pair_of placed.1 object) (filter (pairs.is_made graph prepared object) (pairs.members_added link)) pair there in
          let member = from_filter (pairs.is_made graph prepared object) (pairs.members_added link) one.0 one.1 in
          let relations : List Relation = relations_of mapped (object_at graph object).class in
          let own = opposite (link_fits mapped graph.roots) relations (object_at graph object).links placed.0 placed.1 (fit_links mapped graph object fit made) at in
          let is_own : link ≡ own.0 = get_or_from_slice_get (object_at graph object).links placed.0 own.0 Unset own.1 in
          let root : ClassId = root_of mapped placed.1.target in
          let of : is_of_root graph.roots root one.0 ≡ true = added_under own.0 graph.roots root placed.1.many one.0 own.2 (subst (λ (l : Link). Has (pairs.members_added l) one.0) is_own member.0) in
          subst IsPair one.2 (pair_is object placed.1 far one.0 made (has_at relations placed.0 placed.1 at) e (under_root mapped graph root one.0 fit of))

  all_pairs : All IsPair (pairs.made_pairs mapped graph prepared)
  unfolding pairs.made_pairs
  all_pairs =
      let list : List pairs.Pair = flat_map (pairs.made_of mapped graph prepared) (object_ids graph) in
      set_of IsPair list []
      (all_from IsPair list (λ pair inside.
      let from = from_flat (pairs.made_of mapped graph prepared) (object_ids graph) pair inside in
      let made : IsObject graph from.0 = each_has (IsObject graph) (object_ids graph) from.0 (recursion_from_All (IsObject graph) (object_ids graph) (all_made graph (object_ids graph) refl)) from.1 in
      let here = in_either (is_in_session graph prepared from.0) (flat_map (pairs.made_by graph prepared from.0) (pairs.relations_at mapped graph from.0)) pair from.2 in
      let placed = from_flat (pairs.made_by graph prepared from.0) (pairs.relations_at mapped graph from.0) pair here in
      made_from_is from.0 made placed.0 placed.1 pair placed.2))
      (All-nil IsPair)
    where
      in_either : (b : Bool) (found : List pairs.Pair) (pair : pairs.Pair) → Has (if b then found else []) pair → Has found pair
      in_either true found pair h = h
      in_either false found pair h = absurd h

  -- ---- their rows

  module _ (changes : RowChanges) (stands : (q : ℕ) (row : RowName) → slice_get (new_names mapped graph prepared) q ≡ Some row → (q < length changes.fresh) × (table_at changes q ≡ row.table)) where
    abbrev names : List RowName
    names = new_names mapped graph prepared

    pair_cell_fits : (pair : pairs.Pair) → IsPair pair → (column : ColumnSpec) → Has (spec_of mapped.schema pair.0).columns column → cell_fits mapped.schema changes column (pairs.pair_cell mapped graph names pair column) ≡ true
    pair_cell_fits pair is column of = first (foreign_cell mapped.schema graph names column.name (Some pair.1.0) (slice_get (foreigns_in mapped.schema.tables pair.0) 0)) refl
      where
        one_object : (root : ClassId) (own other : ObjId) → IsUnder mapped graph root own → Some own ≡ Some other → IsUnder mapped graph root other
        one_object root own other under same = let e : own ≡ other = cc in subst (IsUnder mapped graph root) e under

        by_key : (number : ℕ) (object : ObjId) → IsAtEnd pair.0 number object → (cell : RowCell) → foreign_cell mapped.schema graph names column.name (Some object) (slice_get (foreigns_in mapped.schema.tables pair.0) number) ≡ Some cell → cell_fits mapped.schema changes column cell ≡ true
        by_key number object end cell e =
            let given = foreign_gives mapped.schema graph names column.name (Some object) (slice_get (foreigns_in mapped.schema.tables pair.0) number) cell e in
            let at = end given.foreign given.is in
            given_fits mapped has related graph prepared fit changes names stands pair.0 is.inside at.0 column (Some object) number cell at.1 of given at.2 (λ other same. one_object (root_of mapped at.0) object other at.3 same)

        second : (found : Option RowCell) → foreign_cell mapped.schema graph names column.name (Some pair.1.1) (slice_get (foreigns_in mapped.schema.tables pair.0) 1) ≡ found → cell_fits mapped.schema changes column (unwrap_or found (Given Null)) ≡ true
        second None e = refl
        second (Some cell) e = by_key 1 pair.1.1 is.second cell e

        first : (found : Option RowCell) → foreign_cell mapped.schema graph names column.name (Some pair.1.0) (slice_get (foreigns_in mapped.schema.tables pair.0) 0) ≡ found
            → cell_fits mapped.schema changes column (unwrap_or (or_first found (foreign_cell mapped.schema graph names column.name (Some pair.1.1) (slice_get (foreigns_in mapped.schema.tables pair.0) 1))) (Given Null)) ≡ true
        first None e = second (foreign_cell mapped.schema graph names column.name (Some pair.1.1) (slice_get (foreigns_in mapped.schema.tables pair.0) 1)) refl
        first (Some cell) e = by_key 0 pair.1.0 is.first cell e

    pub made_rows_fit : AllByRecursion (IsFitNew mapped.schema changes) (pairs.made_rows mapped graph prepared)
    unfolding pairs.made_rows
    made_rows_fit =
        fit_all (pairs.made_pairs mapped graph prepared) (recursion_from_All IsPair (pairs.made_pairs mapped graph prepared) all_pairs)
      where
        fit_all : (list : List pairs.Pair) → AllByRecursion IsPair list → AllByRecursion (IsFitNew mapped.schema changes) (map (pairs.made_row mapped graph (new_names mapped graph prepared)) list)
        fit_all [] all = tt
        fit_all (pair ∷ list) all = (
          (all.0.inside, of_columns mapped.schema changes (pairs.pair_cell mapped graph (new_names mapped graph prepared) pair) (spec_of mapped.schema pair.0).columns (pair_cell_fits pair all.0)),
          fit_all list all.1,
        )
