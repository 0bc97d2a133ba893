-- The two keys of a secondary table: one is its first foreign key, the other its second.
use Rattle.std.proofs.Common.{◌≡◌, ◌⊎◌, inl, inr, ℕ, Bool, true, false, not, ◌&&◌, List, [], ◌∷◌, length, map, Option, None, Some, refl, sym, ap, ◌∙◌, subst}
use Rattle.std.specs.Prelude.{IfSome, find, if◌then◌else◌, slice_get}
use Rattle.std.specs.List.{enumerate_from, filter}
use Rattle.std.specs.Option.{option_map}
use Rattle.std.proofs.lemmas.Bool.{and_parts}
use Rattle.std.proofs.lemmas.Option.{same_Some, slice_get-map}
use Rattle.base_core.specs.declared.ids.ClassId.{ClassId}
use Rattle.base_core.specs.declared.ids.TableId.{TableId}
use Rattle.schema_core.specs.declared.table.ForeignSpec.{ForeignSpec}
use Rattle.schema_core.specs.declared.table.TableSpec.{TableSpec}
use Rattle.schema_core.specs.Catalog.{same_name}
use Rattle.class_types.specs.declared.declared.ClassSpec.{ClassSpec}
use Rattle.class_types.specs.declared.mapped.Relation.{Relation}
use Rattle.class_layouts.specs.declared.layout.Layout.{Layout}
use Rattle.class_layouts.specs.Columns.{columns_in, layouts_of, named_table}
use Rattle.class_layouts.specs.Faults.{foreigns_in, maps_name}
use Rattle.class_layouts.specs.Hierarchy.{has_class, line_of, line_or_none}
use Rattle.class_blocks.specs.declared.side.Side.{Side}
use Rattle.class_sides.specs.Keys.{TableKey, refers_into}
use Rattle.class_sides.specs.Linking as linking
use Rattle.class_sides.specs.Linking.{back_relation, ends_from, ends_on, far_key, far_or, is_own, is_same_pair, key_or_none, makes_back, near_key, near_or, own_relation, swapped_ends}
use Rattle.class_sides.specs.Pairs.{is_class, join_of, same_side}
use Rattle.class_sides.specs.Sides.{Ends, ends_among, ends_by, ends_in, ends_of, is_all_keys, layout_at, side_of, sides_at, sides_of, target_of}
use Rattle.class_mapping.specs.Mapped.{Mapped, list_or_none, relations_of, root_of}
use Rattle.class_mapping.proofs.Having.{Has, from_filter, from_flat, from_map, has_either}
use Rattle.class_mapping.proofs.RelatedKeys.{find_has}
use Rattle.class_mapping.proofs.RelatedLemmas.{class_is, has_class_from}
use Rattle.mapping_laws.specs.Hierarchies.{HasHierarchies}
use Rattle.session_laws.proofs.Sendable.Links.{same_class}

-- one is the first, the other the second
abbrev pub AreBoth : ℕ → ℕ → Type 0
AreBoth one other = ((one ≡ 0) × (other ≡ 1)) ⊎ ((one ≡ 1) × (other ≡ 0))

-- so are these two foreign keys of one table, and it has no third
pub record AreTwo (tables : List TableSpec) (one other : TableKey) : Type 0 where
  pub both : AreBoth one.1 other.1
  pub here : length (foreigns_in tables one.0) ≡ 2
  pub there : length (foreigns_in tables other.0) ≡ 2

turned : (tables : List TableSpec) (one other : TableKey) → AreTwo tables one other → AreTwo tables other one
turned tables one other are = record { both = by are.both; here = are.there; there = are.here }
  where
    by : AreBoth one.1 other.1 → AreBoth other.1 one.1
    by (inl is) = inr (is.1, is.0)
    by (inr is) = inl (is.1, is.0)

abbrev AreEnds : List TableSpec → Option Ends → Type 0
AreEnds tables ends = IfSome ends (λ keys. AreTwo tables keys.0 keys.1)

-- ---- those of a declaration

ends_either : (tables : List TableSpec) (table : TableId) (first second : ForeignSpec) (near far : List TableId) → length (foreigns_in tables table) ≡ 2 → AreEnds tables (ends_by tables table first second near far)
ends_either tables table first second near far two = by (refers_into tables first near && refers_into tables second far) (refers_into tables second near && refers_into tables first far)
  where
    by : (a b : Bool) → AreEnds tables (if a then Some ((table, 0), (table, 1)) else if b then Some ((table, 1), (table, 0)) else None)
    by true b = record { both = inl (refl, refl); here = two; there = two }
    by false true = record { both = inr (refl, refl); here = two; there = two }
    by false false = tt

ends_two : (tables : List TableSpec) (table : TableId) (foreigns : List ForeignSpec) (near far : List TableId) → foreigns_in tables table ≡ foreigns → AreEnds tables (ends_among tables table foreigns near far)
ends_two tables table [] near far is = tt
ends_two tables table (first ∷ []) near far is = tt
ends_two tables table (first ∷ second ∷ third ∷ more) near far is = tt
ends_two tables table (first ∷ second ∷ []) near far is = by (is_all_keys (columns_in tables table) (first ∷ second ∷ []) && not (same_name first.target second.target)) (ends_either tables table first second near far (ap length is))
  where
    by : (b : Bool) → AreEnds tables (ends_by tables table first second near far) → AreEnds tables (if b then ends_by tables table first second near far else None)
    by true are = are
    by false are = tt

ends_there : (tables : List TableSpec) (table : Option TableId) (near far : Option Layout) → AreEnds tables (ends_in tables table near far)
ends_there tables None near far = tt
ends_there tables (Some table) None far = tt
ends_there tables (Some table) (Some near) None = tt
ends_there tables (Some table) (Some near) (Some far) = ends_two tables table (foreigns_in tables table) near.tables far.tables refl

ends_declared : (tables : List TableSpec) (specs : List ClassSpec) (secondary : Option (List ℕ)) (near far : Option Layout) → AreEnds tables (ends_of tables specs secondary near far)
ends_declared tables specs secondary near far = by (maps_name specs secondary) (ends_there tables (named_table tables secondary) near far)
  where
    by : (b : Bool) → AreEnds tables (ends_in tables (named_table tables secondary) near far) → AreEnds tables (if b then None else ends_in tables (named_table tables secondary) near far)
    by true are = tt
    by false are = are

swapped : (tables : List TableSpec) (ends : Option Ends) → AreEnds tables ends → AreEnds tables (swapped_ends ends)
swapped tables None are = tt
swapped tables (Some keys) are = turned tables keys.0 keys.1 are

module _ (mapped : Mapped) (has : HasHierarchies mapped) where
  abbrev sides : List Side
  sides = sides_of mapped.schema.tables mapped.classes (layouts_of mapped.schema.tables mapped.classes)

  abbrev names : List (List (List ℕ))
  names = linking.all_names mapped.classes sides

  side_ends : (side : Side) → Has sides side → AreEnds mapped.schema.tables side.ends
  side_ends side there =
      let layouts = layouts_of mapped.schema.tables mapped.classes in
      let from = from_flat (sides_at mapped.schema.tables mapped.classes layouts) (enumerate_from 0 mapped.classes.specs) side there in
      let one = from_map (side_of mapped.schema.tables mapped.classes layouts from.0.0) from.0.1.relations side from.2 in
      subst (λ (s : Side). AreEnds mapped.schema.tables s.ends) one.2
      (ends_declared mapped.schema.tables mapped.classes.specs one.0.secondary (layout_at layouts (Some (record { 0 = from.0.0 }))) (layout_at layouts (target_of mapped.classes.specs one.0)))

  found_ends : (side : Side) → Has sides side → AreEnds mapped.schema.tables (ends_on sides side)
  found_ends side there = by (find (is_same_pair side) sides) refl
    where
      either : (b : Bool) (first : Side) → AreEnds mapped.schema.tables first.ends → AreEnds mapped.schema.tables (if b then first.ends else swapped_ends first.ends)
      either true first are = are
      either false first are = swapped mapped.schema.tables first.ends are

      by : (found : Option Side) → find (is_same_pair side) sides ≡ found → AreEnds mapped.schema.tables (ends_from side found)
      by None e = side_ends side there
      by (Some first) e = either (same_side side first) first (side_ends first (find_has (is_same_pair side) sides first e).0)

  -- ---- those of a relationship

  -- it stands in a class of the hierarchy of its own class, and its two keys are the two of the secondary table, if it has one
  pub record IsOf (class : ClassId) (relation : Relation) : Type 0 where
    pub root : root_of mapped relation.class ≡ root_of mapped class
    pub ends : (far : TableKey) → relation.far ≡ Some far → AreTwo mapped.schema.tables relation.foreign far

  near_first : (ends : Option Ends) (key far : TableKey) → AreEnds mapped.schema.tables ends → far_key ends ≡ Some far → AreTwo mapped.schema.tables (near_or ends key) far
  near_first None key far are is = absurd cc
  near_first (Some keys) key far are is = subst (AreTwo mapped.schema.tables keys.0) (same_Some keys.1 far is) are

  far_first : (ends : Option Ends) (key far : TableKey) → AreEnds mapped.schema.tables ends → near_key ends ≡ Some far → AreTwo mapped.schema.tables (far_or ends key) far
  far_first None key far are is = absurd cc
  far_first (Some keys) key far are is = subst (AreTwo mapped.schema.tables keys.1) (same_Some keys.0 far is) (turned mapped.schema.tables keys.0 keys.1 are)

  -- the class that declares it stands in the line of the class
  root_above : (class above : ClassId) → Has (line_of mapped.classes class.0) above → root_of mapped above ≡ root_of mapped class
  root_above class above there =
      let under : has_class (line_of mapped.classes class.0) above.0 ≡ true = has_class_from (line_of mapped.classes class.0) above above.0 there refl in
      ap (λ (n : ℕ). let root : ClassId = record { 0 = n } in root) (sym (has.paired.rooted class above under))

  pub relation_of_class : (class : ClassId) (relation : Relation) → Has (relations_of mapped class) relation → IsOf class relation
  relation_of_class class relation there = by (slice_get mapped.classes.lines class.0) refl
    where
      key : Side → TableKey
      key side = key_or_none (join_of mapped.schema.tables mapped.classes sides side)

      of_line : (line : List ClassId) → line ≡ line_of mapped.classes class.0 → Has (linking.relations_on mapped.schema.tables mapped.classes sides names line) relation → IsOf class relation
      of_line line is inside =
          let from = from_flat (linking.relations_at mapped.schema.tables mapped.classes sides names) line relation inside in
          let root : root_of mapped from.0 ≡ root_of mapped class = root_above class from.0 (subst (λ (l : List ClassId). Has l from.0) is from.1) in
          either from.0 root (has_either (map (own_relation mapped.schema.tables mapped.classes sides names) (filter (is_own from.0) sides)) (map (back_relation mapped.schema.tables mapped.classes sides names) (filter (makes_back from.0) sides)) relation from.2)
        where
          own : (at : ClassId) → root_of mapped at ≡ root_of mapped class → (side : Side) → Has sides side → is_own at side ≡ true → own_relation mapped.schema.tables mapped.classes sides names side ≡ relation → IsOf class relation
          own at root side stands named same = subst (IsOf class) same (record {
            root = ap (root_of mapped) (same_class side.class at named) ∙ root;
            ends = λ far is. near_first (ends_on sides side) (key_or_none (join_of mapped.schema.tables mapped.classes sides side)) far (found_ends side stands) is;
          })

          back : (at : ClassId) → root_of mapped at ≡ root_of mapped class → (side : Side) → Has sides side → makes_back at side ≡ true → back_relation mapped.schema.tables mapped.classes sides names side ≡ relation → IsOf class relation
          back at root side stands named same = subst (IsOf class) same (record {
            root = ap (λ (target : Option ClassId). root_of mapped (linking.class_or target side.class)) (class_is side.target at (and_parts side.spec.backref (is_class side.target at) named).1) ∙ root;
            ends = λ far is. far_first (ends_on sides side) (key_or_none (join_of mapped.schema.tables mapped.classes sides side)) far (found_ends side stands) is;
          })

          either : (at : ClassId) → root_of mapped at ≡ root_of mapped class
              → Has (map (own_relation mapped.schema.tables mapped.classes sides names) (filter (is_own at) sides)) relation ⊎ Has (map (back_relation mapped.schema.tables mapped.classes sides names) (filter (makes_back at) sides)) relation → IsOf class relation
          either at root (inl h) =
              let one = from_map (own_relation mapped.schema.tables mapped.classes sides names) (filter (is_own at) sides) relation h in
              let side = from_filter (is_own at) sides one.0 one.1 in
              own at root one.0 side.0 side.1 one.2
          either at root (inr h) =
              let one = from_map (back_relation mapped.schema.tables mapped.classes sides names) (filter (makes_back at) sides) relation h in
              let side = from_filter (makes_back at) sides one.0 one.1 in
              back at root one.0 side.0 side.1 one.2

      by : (found : Option (List ClassId)) → slice_get mapped.classes.lines class.0 ≡ found → IsOf class relation
      by found e =
          let on : List ClassId → List Relation = linking.relations_on mapped.schema.tables mapped.classes sides names in
          of_found found (ap line_or_none (sym e)) (subst (λ (list : List Relation). Has list relation) (ap list_or_none (slice_get-map on mapped.classes.lines class.0 ∙ ap (option_map on) e)) there)
        where
          of_found : (found : Option (List ClassId)) → line_or_none found ≡ line_of mapped.classes class.0 → Has (list_or_none (option_map (linking.relations_on mapped.schema.tables mapped.classes sides names) found)) relation → IsOf class relation
          of_found None is inside = absurd inside
          of_found (Some line) is inside = of_line line is inside
