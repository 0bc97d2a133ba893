-- The rows of pairs that are taken away fit: each column of their key is given a part of the key of the object at one of both ends.
use Rattle.std.proofs.Common.{◌≡◌, ◌⊎◌, inl, inr, ℕ, zero, suc, ◌<◌, Bool, true, false, cond, not, ◌&&◌, ◌||◌, ◌==◌, length, arith, List, [], ◌∷◌, map, filter, Option, None, Some, unwrap_or, is_some, refl, sym, ap, ◌∙◌, subst}
use Rattle.std.specs.Prelude.{slice_get}
use Rattle.std.specs.Cmp.Lexicographic.{pointwise}
use Rattle.std.specs.List.{AllByRecursion, list_all, list_any, position}
use Rattle.std.proofs.lemmas.Bool.{and_from, and_parts}
use Rattle.std.proofs.lemmas.List.{map-id}
use Rattle.std.proofs.lemmas.List.Elements.{recursion_from_All}
use Rattle.std.proofs.lemmas.Option.{slice_get_within, get_or_from_slice_get}
use Rattle.base_core.specs.declared.ids.ClassId.{ClassId}
use Rattle.base_core.specs.declared.ids.ObjId.{ObjId}
use Rattle.base_core.specs.declared.value.Value.{Value}
use Rattle.base_core.specs.declared.value.Value.TheVariants.{Null}
use Rattle.schema_core.specs.declared.changes.RowCell.{RowCell}
use Rattle.schema_core.specs.declared.changes.RowCell.TheVariants.{Given}
use Rattle.schema_core.specs.declared.table.ColumnSpec.{ColumnSpec}
use Rattle.schema_core.specs.declared.table.ForeignSpec.{ForeignSpec}
use Rattle.schema_core.specs.Catalog.{Catalog, has_name, same_name, spec_of, target_of}
use Rattle.schema_core.specs.Tables.{fits, given_value, is_null, key_cells}
use Rattle.schema_core.proofs.Names.{same_names}
use Rattle.class_types.specs.declared.mapped.Relation.{Relation}
use Rattle.class_layouts.specs.Columns.{columns_in}
use Rattle.class_layouts.specs.Faults.{foreigns_in}
use Rattle.class_sides.specs.Keys.{TableKey}
use Rattle.class_sides.specs.Sides.{is_all_keys}
use Rattle.class_mapping.specs.Mapped.{Mapped, layout_of, relations_of, root_of}
use Rattle.class_mapping.specs.Related.{AreRelated, IsRelated, has_keys}
use Rattle.class_mapping.specs.Valid.{refers_to_class}
use Rattle.class_mapping.proofs.Having.{Has, all_of, found_at_name, from_filter, from_numbered, has_at, has_either, some_of}
use Rattle.mapping_laws.specs.Hierarchies.{HasHierarchies}
use Rattle.object_arena.specs.declared.object.Link.{Link}
use Rattle.object_arena.specs.declared.object.Link.TheVariants.{Many, One, Unloaded, Unset}
use Rattle.object_arena.specs.Fit.{IsFit, held_fit, is_empty, is_of_root, link_fits}
use Rattle.object_arena.specs.Graph.{Graph, IsObject, is_among, object_at}
use Rattle.object_arena.proofs.FitLemmas.{fit_links}
use Rattle.object_rows.specs.declared.prepared.Prepared.{Prepared}
use Rattle.object_rows.specs.Cells.{end_cell, foreign_cell, or_first, part_cell}
use Rattle.object_rows.specs.Seen.{is_in_session, link_of, object_ids}
use Rattle.object_rows.proofs.ObjectSteps.{all_made}
use Rattle.pair_rows.specs.Pairs as pairs
use Rattle.pair_rows.proofs.FirstLemmas.{firsts_all}
use Rattle.session_laws.proofs.Graphs.Named.{opposite}
use Rattle.session_laws.proofs.Graphs.PairsRead.{IsParted, lost_parted, parted_related}
use Rattle.session_laws.proofs.Projects.LateKeys.{each_has}
use Rattle.session_laws.proofs.Projects.Loose.{foreigns_same, has_place}
use Rattle.row_switches.proofs.Each.{all_map}
use Rattle.session_laws.specs.Sendable.{IsFitGone}
use Rattle.session_laws.proofs.Sendable.EndKeys.{end_taken}
use Rattle.session_laws.proofs.Sendable.Links.{foreign_gives, into_class, under_root}
use Rattle.session_laws.proofs.Sendable.PairEnds.{relation_of_class}
use Rattle.session_laws.proofs.Sendable.PairRows.{IsAtEnd, IsPair, pair_is}
use Rattle.session_laws.proofs.Sendable.Parts.{IsTaken}

-- ---- members that a collection had or lost

-- they are of the hierarchy of the relationship's target
held_under : (link : Link) (roots : List ClassId) (root : ClassId) (many : Bool) (member : ObjId) → held_fit roots root many link ≡ true → Has (pairs.members_before link) member ⊎ Has (pairs.members_removed link) member → is_of_root roots root member ≡ true
held_under Unset roots root many member fit (inl there) = absurd there
held_under Unset roots root many member fit (inr there) = absurd there
held_under (One end changed) roots root many member fit (inl there) = absurd there
held_under (One end changed) roots root many member fit (inr there) = absurd there
held_under (Unloaded added removed) roots root many member fit (inl there) = absurd there
held_under (Unloaded added removed) roots root many member fit (inr there) =
    let both = and_parts ((is_empty added && is_empty removed) || many) (list_all (is_of_root roots root) added && list_all (is_of_root roots root) removed) fit in
    all_of (is_of_root roots root) removed member (and_parts (list_all (is_of_root roots root) added) (list_all (is_of_root roots root) removed) both.1).1 there
held_under (Many members base) roots root many member fit (inl there) =
    let both = and_parts many (list_all (is_of_root roots root) members && list_all (is_of_root roots root) base) fit in
    all_of (is_of_root roots root) base member (and_parts (list_all (is_of_root roots root) members) (list_all (is_of_root roots root) base) both.1).1 there
held_under (Many members base) roots root many member fit (inr there) =
    let both = and_parts many (list_all (is_of_root roots root) members && list_all (is_of_root roots root) base) fit in
    all_of (is_of_root roots root) base member (and_parts (list_all (is_of_root roots root) members) (list_all (is_of_root roots root) base) both.1).1 (from_filter (λ (object : ObjId). not (is_among members object)) base member there).0

-- ---- keys of rows

-- cells that the columns of the key take are the key
taken_fits : (column : ColumnSpec) (value : Value) → IsTaken column value → fits column value ≡ true
taken_fits column value taken = by (is_null value) taken.0 taken.1
  where
    by : (null : Bool) → (null || fits column value) ≡ true → null ≡ false → fits column value ≡ true
    by true held some = absurd cc
    by false held some = held

key_taken : (value : ColumnSpec → Value) (columns : List ColumnSpec) → ((column : ColumnSpec) → Has columns column → IsTaken column (value column))
    → pointwise fits (filter (λ (column : ColumnSpec). column.key) columns) (key_cells columns (map value columns)) ≡ true
key_taken value [] each = refl
key_taken value (column ∷ columns) each = by column.key (key_taken value columns (λ other there. each other (inr there)))
  where
    by : (b : Bool) → pointwise fits (filter (λ (column : ColumnSpec). column.key) columns) (key_cells columns (map value columns)) ≡ true
        → pointwise fits (cond b (column ∷ filter (λ (column : ColumnSpec). column.key) columns) (filter (λ (column : ColumnSpec). column.key) columns)) (cond b (value column ∷ key_cells columns (map value columns)) (key_cells columns (map value columns))) ≡ true
    by true more = and_from (fits column (value column)) (pointwise fits (filter (λ (column : ColumnSpec). column.key) columns) (key_cells columns (map value columns))) (taken_fits column (value column) (each column (inl refl))) more
    by false more = more

-- the columns of a foreign key are given something
given_some : (schema : Catalog) (graph : Graph) (name : List ℕ) (object : ObjId) (found : Option ForeignSpec) (foreign : ForeignSpec) → found ≡ Some foreign → has_name foreign.columns name ≡ true → foreign_cell schema graph [] name (Some object) found ≡ None → ⊥
given_some schema graph name object found foreign is named none =
    let own = some_of (λ (other : List ℕ). same_name other name) foreign.columns named in
    let placed = found_at_name (λ (other : List ℕ). other) foreign.columns own.0 name own.1 (same_names own.0 name own.2) in
    let at : position (λ (other : List ℕ). same_name other name) foreign.columns ≡ Some placed.0 = ap (position (λ (other : List ℕ). same_name other name)) (sym (map-id foreign.columns)) ∙ placed.1 in
    let given : Some (end_cell graph [] (target_of schema foreign) placed.0 (Some object)) ≡ None = ap (part_cell schema graph [] foreign (Some object)) (sym at) ∙ sym (ap (foreign_cell schema graph [] name (Some object)) is) ∙ none in
    absurd (no_cell given)
  where
    no_cell : {A : Type 0} {x : A} → Some x ≡ None → ⊥
    no_cell e = cc

-- the first or the second of two
one_of_two : (n : ℕ) → n < 2 → (n ≡ 0) ⊎ (n ≡ 1)
one_of_two zero less = inl refl
one_of_two (suc zero) less = inr refl
one_of_two (suc (suc n)) less = absurd (omega (arith, less))

some_far : (far : Option TableKey) → is_some far ≡ true → (key : TableKey) × (far ≡ Some key)
some_far None some = absurd cc
some_far (Some key) some = (key, refl)

module _ (mapped : Mapped) (has : HasHierarchies mapped) (related : AreRelated mapped) (graph : Graph) (prepared : Prepared) (fit : IsFit mapped graph) where
  -- ---- the pairs that are taken away

  abbrev IsAPair : pairs.Pair → Type 0
  IsAPair = IsPair mapped has related graph prepared fit

  -- Both objects of a pair have keys, and all columns of its table are of the key and of one of two foreign keys.
  pub record IsKeyedPair (pair : pairs.Pair) : Type 0 where
    pub is : IsAPair pair
    pub first_made : IsObject graph pair.1.0
    pub second_made : IsObject graph pair.1.1
    pub first : pairs.has_key graph pair.1.0 ≡ true
    pub second : pairs.has_key graph pair.1.1 ≡ true
    pub two : length (foreigns_in mapped.schema.tables pair.0) ≡ 2
    pub all : is_all_keys (columns_in mapped.schema.tables pair.0) (foreigns_in mapped.schema.tables pair.0) ≡ true

  all_keys : (relation : Relation) (far : TableKey) → has_keys mapped relation (Some far) ≡ true → is_all_keys (columns_in mapped.schema.tables relation.foreign.0) (foreigns_in mapped.schema.tables relation.foreign.0) ≡ true
  all_keys relation far keys =
      let one : Bool = relation.foreign.0.0 == far.0.0 in
      let all : Bool = is_all_keys (columns_in mapped.schema.tables relation.foreign.0) (foreigns_in mapped.schema.tables relation.foreign.0) in
      let near : Bool = refers_to_class mapped.schema.tables (Some (layout_of mapped relation.class)) relation.foreign in
      let away : Bool = refers_to_class mapped.schema.tables (Some (layout_of mapped relation.target)) far in
      (and_parts one all (and_parts (one && all) near (and_parts (one && all && near) away keys).0).0).1

  -- what holds of an object and a member holds of both objects of their pair
  pub of_both : (P : ObjId → Type 0) (b : Bool) (one other : ObjId) → P one → P other → P (pairs.ordered_pair b one other).0 × P (pairs.ordered_pair b one other).1
  of_both P true one other here there = (here, there)
  of_both P false one other here there = (there, here)

  pub parted_keyed : (pair : pairs.Pair) → IsParted mapped graph prepared pair → IsKeyedPair pair
  parted_keyed pair it =
      let relation : Relation = it.placed.1 in
      let class : ClassId = (object_at graph it.object).class in
      let list : List Relation = relations_of mapped class in
      let own : IsRelated mapped relation = parted_related mapped graph prepared related fit pair it in
      let made : IsObject graph it.object = each_has (IsObject graph) (object_ids graph) it.object (recursion_from_All (IsObject graph) (object_ids graph) (all_made graph (object_ids graph) refl)) it.there in
      let number = from_numbered 0 list it.placed it.of in
      let at : slice_get list it.placed.0 ≡ Some relation = ap (slice_get list) (let e : it.placed.0 ≡ number.0 = omega (arith, number.1) in e) ∙ number.2 in
      let there : Has list relation = has_at list it.placed.0 relation at in
      let far = some_far relation.far it.far in
      let link : Link = link_of (object_at graph it.object) (record { 0 = it.placed.0 }) in
      let before : List ObjId = filter (pairs.is_lost graph prepared it.object) (pairs.members_before link) in
      let removed : List ObjId = filter (pairs.is_parted graph prepared) (pairs.members_removed link) in
      let member = by it.object it.member link (has_either before removed it.member it.held) in
      let held = opposite (link_fits mapped graph.roots) list (object_at graph it.object).links it.placed.0 relation (fit_links mapped graph it.object fit made) at in
      let is_own : link ≡ held.0 = get_or_from_slice_get (object_at graph it.object).links it.placed.0 held.0 Unset held.1 in
      let root : ClassId = root_of mapped relation.target in
      let of : is_of_root graph.roots root it.member ≡ true = held_under held.0 graph.roots root relation.many it.member held.2 (subst (λ (l : Link). Has (pairs.members_before l) it.member ⊎ Has (pairs.members_removed l) it.member) is_own member.1) in
      let keyed = of_both (λ (object : ObjId). pairs.has_key graph object ≡ true) (relation.foreign.1 == 0) it.object it.member (and_parts (is_in_session graph prepared it.object) (pairs.has_key graph it.object) it.in_session).1 member.0 in
      let under = under_root mapped graph root it.member fit of in
      let both_made = of_both (IsObject graph) (relation.foreign.1 == 0) it.object it.member made under.made in
      let ends = (relation_of_class mapped has class relation there).ends far.0 far.1 in
      subst IsKeyedPair it.is (record {
        is = pair_is mapped has related graph prepared fit it.object relation far.0 it.member made there far.1 under;
        first_made = both_made.0;
        second_made = both_made.1;
        first = keyed.0;
        second = keyed.1;
        two = ends.here;
        all = all_keys relation far.0 (ap (has_keys mapped relation) (sym far.1) ∙ own.keys);
      })
    where
      by : (object member : ObjId) (link : Link) → Has (filter (pairs.is_lost graph prepared object) (pairs.members_before link)) member ⊎ Has (filter (pairs.is_parted graph prepared) (pairs.members_removed link)) member
          → (pairs.has_key graph member ≡ true) × (Has (pairs.members_before link) member ⊎ Has (pairs.members_removed link) member)
      by object member link (inl h) =
          let from = from_filter (pairs.is_lost graph prepared object) (pairs.members_before link) member h in
          ((and_parts (pairs.is_leaving prepared object || pairs.is_leaving prepared member) (pairs.has_key graph member) from.1).1, inl from.0)
      by object member link (inr h) =
          let from = from_filter (pairs.is_parted graph prepared) (pairs.members_removed link) member h in
          ((and_parts (is_in_session graph prepared member) (pairs.has_key graph member) from.1).1, inr from.0)

  -- ---- their rows

  module _ (pair : pairs.Pair) (it : IsKeyedPair pair) where
    abbrev foreigns : List ForeignSpec
    foreigns = foreigns_in mapped.schema.tables pair.0

    abbrev columns : List ColumnSpec
    columns = (spec_of mapped.schema pair.0).columns

    by_key : (column : ColumnSpec) → Has columns column → (number : ℕ) (object : ObjId) → IsAtEnd mapped has related graph prepared fit pair.0 number object → pairs.has_key graph object ≡ true
        → (cell : RowCell) → foreign_cell mapped.schema graph [] column.name (Some object) (slice_get foreigns number) ≡ Some cell → IsTaken column (given_value cell)
    by_key column of number object end keyed cell e =
        let given = foreign_gives mapped.schema graph [] column.name (Some object) (slice_get foreigns number) cell e in
        let at = end given.foreign given.is in
        let target = into_class mapped at.0 given.foreign at.2 in
        let there : Has (spec_of mapped.schema pair.0).foreigns given.foreign = subst (λ (all : List ForeignSpec). Has all given.foreign) (foreigns_same mapped.schema.tables pair.0.0) (has_at foreigns number given.foreign given.is) in
        subst (λ (c : RowCell). IsTaken column (given_value c)) given.gives
        (end_taken mapped has pair.0 it.is.inside graph fit given.foreign there target.0 target.2 object (record { class = at.0; is = at.1; there = target.1; made = at.3.made; root = at.3.under }) keyed column of given.part given.at)

    -- a column is of the first foreign key or of the second
    record IsNamed (column : ColumnSpec) : Type 0 where
      foreign : ForeignSpec
      named : has_name foreign.columns column.name ≡ true
      place : (slice_get foreigns 0 ≡ Some foreign) ⊎ (slice_get foreigns 1 ≡ Some foreign)

    is_named : (column : ColumnSpec) → Has columns column → IsNamed column
    is_named column of =
        let named : ColumnSpec → Bool = λ c. list_any (λ (foreign : ForeignSpec). has_name foreign.columns c.name) foreigns in
        let found = some_of (λ (foreign : ForeignSpec). has_name foreign.columns column.name) foreigns (and_parts column.key (named column) (all_of (λ (c : ColumnSpec). c.key && named c) columns column it.all of)).1 in
        let at = has_place foreigns found.0 found.1 in
        record { foreign = found.0; named = found.2; place = by found.0 at.0 at.1 (one_of_two at.0 (omega (arith, slice_get_within foreigns at.0 found.0 at.1, it.two))) }
      where
        by : (foreign : ForeignSpec) (n : ℕ) → slice_get foreigns n ≡ Some foreign → (n ≡ 0) ⊎ (n ≡ 1) → (slice_get foreigns 0 ≡ Some foreign) ⊎ (slice_get foreigns 1 ≡ Some foreign)
        by foreign n at (inl is) = inl (ap (slice_get foreigns) (sym is) ∙ at)
        by foreign n at (inr is) = inr (ap (slice_get foreigns) (sym is) ∙ at)

    cell_taken : (column : ColumnSpec) → Has columns column → IsTaken column (given_value (pairs.pair_cell mapped graph [] pair column))
    cell_taken column of = first (foreign_cell mapped.schema graph [] column.name (Some pair.1.0) (slice_get foreigns 0)) refl
      where
        neither : foreign_cell mapped.schema graph [] column.name (Some pair.1.0) (slice_get foreigns 0) ≡ None → foreign_cell mapped.schema graph [] column.name (Some pair.1.1) (slice_get foreigns 1) ≡ None → IsNamed column → ⊥
        neither one_none none is = by is.place
          where
            by : (slice_get foreigns 0 ≡ Some is.foreign) ⊎ (slice_get foreigns 1 ≡ Some is.foreign) → ⊥
            by (inl at) = given_some mapped.schema graph column.name pair.1.0 (slice_get foreigns 0) is.foreign at is.named one_none
            by (inr at) = given_some mapped.schema graph column.name pair.1.1 (slice_get foreigns 1) is.foreign at is.named none

        second : foreign_cell mapped.schema graph [] column.name (Some pair.1.0) (slice_get foreigns 0) ≡ None → (found : Option RowCell) → foreign_cell mapped.schema graph [] column.name (Some pair.1.1) (slice_get foreigns 1) ≡ found
            → IsTaken column (given_value (unwrap_or found (Given Null)))
        second one_none None e = absurd (neither one_none e (is_named column of))
        second one_none (Some cell) e = by_key column of 1 pair.1.1 it.is.second it.second cell e

        first : (found : Option RowCell) → foreign_cell mapped.schema graph [] column.name (Some pair.1.0) (slice_get foreigns 0) ≡ found
            → IsTaken column (given_value (unwrap_or (or_first found (foreign_cell mapped.schema graph [] column.name (Some pair.1.1) (slice_get foreigns 1))) (Given Null)))
        first None e = second e (foreign_cell mapped.schema graph [] column.name (Some pair.1.1) (slice_get foreigns 1)) refl
        first (Some cell) e = by_key column of 0 pair.1.0 it.is.first it.first cell e

    row_fits : IsFitGone mapped.schema (pairs.lost_row mapped graph pair)
    row_fits = (it.is.inside, key_taken (λ (column : ColumnSpec). given_value (pairs.pair_cell mapped graph [] pair column)) columns cell_taken)

  pub lost_rows_fit : AllByRecursion (IsFitGone mapped.schema) (pairs.lost_rows mapped graph prepared)
  unfolding pairs.lost_rows
  lost_rows_fit =
      firsts_all (IsFitGone mapped.schema) mapped.schema (map (pairs.lost_row mapped graph) (pairs.lost_pairs mapped graph prepared))
      (all_map (IsParted mapped graph prepared) (IsFitGone mapped.schema) (pairs.lost_row mapped graph) (λ pair parted. row_fits pair (parted_keyed pair parted))
      (pairs.lost_pairs mapped graph prepared) (lost_parted mapped graph prepared))
