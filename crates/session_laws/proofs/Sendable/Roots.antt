-- Classes with a table in common are of one hierarchy, and two persistent objects have no row in common.
use Rattle.std.proofs.Common.{◌≡◌, ℕ, ◌<◌, Bool, not, true, ◌==◌, List, [], ◌∷◌, ◌++◌, length, get_or, Option, None, Some, is_some, refl, sym, ap, ◌∙◌, subst, arith}
use Rattle.std.specs.Prelude.{if◌then◌else◌}
use Rattle.std.proofs.lemmas.Bool.{and_from, eq-eqb}
use Rattle.std.proofs.lemmas.Option.{slice_get_within}
use Rattle.base_core.specs.declared.ids.ClassId.{ClassId}
use Rattle.base_core.specs.declared.ids.ObjId.{ObjId}
use Rattle.base_core.specs.declared.ids.TableId.{TableId}
use Rattle.base_core.specs.declared.value.Value.{Value}
use Rattle.schema_core.specs.DependencyOrder.{is_among}
use Rattle.class_layouts.specs.Columns.{own_table}
use Rattle.class_layouts.specs.Hierarchy.{line_of, root_in}
use Rattle.class_mapping.specs.Mapped.{Mapped, class_or, root_of, tables_of}
use Rattle.class_mapping.proofs.Having.{Has, some_of}
use Rattle.class_mapping.proofs.RelatedKeys.{same_table}
use Rattle.class_mapping.proofs.RelatedLemmas.{class_has, has_class_from}
use Rattle.mapping_laws.specs.Hierarchies.{HasHierarchies}
use Rattle.mapping_laws.proofs.Tables.{from_filter_map, own_is}
use Rattle.object_arena.specs.declared.object.Object.{Object}
use Rattle.object_arena.specs.declared.object.State.{State}
use Rattle.object_arena.specs.declared.object.State.TheVariants.{Deleted, Detached, Pending, Persistent, Transient}
use Rattle.object_arena.specs.Fit.{IsFit}
use Rattle.object_arena.specs.Graph as graphs
use Rattle.object_arena.specs.Graph.{Graph, has_identity, is_persistent, object_at, place_of}
use Rattle.object_arena.specs.Identity.{IsGraph, has_key, holds_at, is_identified}
use Rattle.object_arena.proofs.FitLemmas.{fit_root}
use Rattle.object_arena.proofs.GraphLemmas.{same_equiv}
use Rattle.object_rows.specs.Rows.{key_or_none}
use Rattle.session_laws.specs.Graphs.{HasRow, key_held}
use Rattle.session_laws.proofs.Graphs.MappingFacts.{one_class}

-- a line begins with its root
pub begun : (line first rest : List ClassId) (class : ClassId) → line ≡ first ++ rest → Has first class → (root : ClassId) × (root_in line ≡ Some root) × (root_in first ≡ Some root)
begun line [] rest class is there = absurd there
begun line (root ∷ first) rest class is there = (root, ap root_in is, refl)

has_table : (tables : List TableId) (table : TableId) → is_among tables table ≡ true → Has tables table
has_table tables table among = let found = some_of (λ (other : TableId). other.0 == table.0) tables among in subst (Has tables) (same_table found.0 table found.2) found.1

whole : (identity : Option (List Value)) → is_some identity ≡ true → has_key (key_or_none identity) identity ≡ true
whole None some = absurd cc
whole (Some key) some = same_equiv.refl key

in_session : (state : State) → is_persistent state ≡ true → has_identity state ≡ true
in_session Persistent persists = refl
in_session Transient persists = absurd cc
in_session Pending persists = absurd cc
in_session Deleted persists = absurd cc
in_session Detached persists = absurd cc

-- a persistent object has an identity
pub persistent_keyed : (object : Object) → is_persistent object.state ≡ true → is_identified object ≡ true → is_some object.identity ≡ true
persistent_keyed object persists identified = sym (ap (λ (b : Bool). if b then is_some object.identity else not (is_some object.identity)) (in_session object.state persists)) ∙ identified

module _ (mapped : Mapped) (has : HasHierarchies mapped) where
  abbrev owned : ClassId → Option TableId
  owned class = own_table mapped.schema.tables mapped.classes class.0

  -- the root of a class is that of the class of each of its tables
  record IsUnder (class : ClassId) (table : TableId) : Type 0 where
    owner : ClassId
    owns : owned owner ≡ Some table
    root : ClassId
    own_root : root_in (line_of mapped.classes owner.0) ≡ Some root
    is : root_of mapped class ≡ root

  is_under : (class : ClassId) (table : TableId) → Has (tables_of mapped class) table → IsUnder class table
  is_under class table there =
      let line : List ClassId = line_of mapped.classes class.0 in
      let from = from_filter_map owned line table there in
      let owner : ClassId = from.0 in
      let above = has.lines.nested class.0 owner (has_class_from line owner owner.0 from.1 refl) in
      let declared : owner.0 < length mapped.classes.specs = slice_get_within mapped.classes.specs owner.0 _ (own_is mapped.schema.tables mapped.classes owner.0 table from.2).declared in
      let stands : Has (line_of mapped.classes owner.0) owner = class_has (line_of mapped.classes owner.0) owner (has.lines.own owner.0 (omega (arith, declared, has.lined))) in
      let top = begun line (line_of mapped.classes owner.0) above.0 owner above.1 stands in
      record { owner = owner; owns = from.2; root = top.0; own_root = top.2; is = ap (λ (found : Option ClassId). class_or found class) top.1 }

  same_top : (one other : ClassId) → Some one ≡ Some other → one ≡ other
  same_top one other is = cc

  pub one_root : (class other : ClassId) (table : TableId) → Has (tables_of mapped class) table → Has (tables_of mapped other) table → root_of mapped class ≡ root_of mapped other
  one_root class other table here there =
      let one = is_under class table here in
      let two = is_under other table there in
      let same : one.owner.0 ≡ two.owner.0 = one_class mapped has.lined has.lines one.owner.0 two.owner.0 table one.owns two.owns in
      one.is ∙ same_top one.root two.root (sym one.own_root ∙ ap (λ (n : ℕ). root_in (line_of mapped.classes n)) same ∙ two.own_root) ∙ sym two.is

  module _ (graph : Graph) (fit : IsFit mapped graph) (is : IsGraph graph.objects graph.roots) where
    holds : (table : TableId) (object : ObjId) (root : ClassId) → HasRow mapped graph table object → (root_of mapped (object_at graph object).class).0 ≡ root.0 → holds_at graph.objects graph.roots root (key_held graph object) (place_of object) ≡ true
    holds table object root row same =
        let it : Object = object_at graph object in
        let within : place_of object < length graph.objects = omega (arith, row.0.0, row.0.1) in
        let own : (get_or graph.roots (place_of object) graphs.no_class_id).0 ≡ root.0 = ap (λ (c : ClassId). c.0) (fit_root mapped graph object fit row.0) ∙ same in
        and_from (is_persistent it.state) _ row.1
        (and_from _ (has_key (key_or_none it.identity) it.identity) (eq-eqb (get_or graph.roots (place_of object) graphs.no_class_id).0 root.0 own)
        (whole it.identity (persistent_keyed it row.1 (is.identified (place_of object) graphs.no_object within))))

    -- two persistent objects have no row in common
    pub alone : (table : TableId) (one other : ObjId) → HasRow mapped graph table one → HasRow mapped graph table other → key_held graph one ≡ key_held graph other → one.0 ≡ other.0
    alone table one other a b keys =
        let root : ClassId = root_of mapped (object_at graph one).class in
        let alike : root_of mapped (object_at graph other).class ≡ root =
        one_root (object_at graph other).class (object_at graph one).class table (has_table (tables_of mapped (object_at graph other).class) table b.2) (has_table (tables_of mapped (object_at graph one).class) table a.2) in
        let same : place_of one ≡ place_of other =
        is.one root (key_held graph one) (place_of one) (place_of other) (holds table one root a refl)
        (subst (λ (key : List Value). holds_at graph.objects graph.roots root key (place_of other) ≡ true) (sym keys) (holds table other root b (ap (λ (c : ClassId). c.0) alike))) in
        omega (arith, same, a.0.0, b.0.0)
