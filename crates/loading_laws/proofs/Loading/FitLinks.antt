-- The taking of rows and the filling of links leave objects that fit the mapping.
use Rattle.std.proofs.Common.{◌≡◌, ◌<◌, ◌==◌, ◌&&◌, Bool, true, false, List, [], ◌∷◌, ◌++◌, length, Option, None, Some, if◌then◌else◌, refl, sym, ap, subst, ◌∙◌, arith}
use Rattle.std.specs.List.{All, AllByRecursion}
use Rattle.std.specs.Option.{option_and_then}
use Rattle.std.proofs.lemmas.Bool.{and_parts, eqb-true}
use Rattle.base_core.proofs.Lists.{every_append}
use Rattle.base_core.specs.declared.ids.ClassId.{ClassId}
use Rattle.base_core.specs.declared.ids.ObjId.{ObjId}
use Rattle.base_core.specs.declared.ids.RelNo.{RelNo}
use Rattle.base_core.specs.declared.value.Value.{Value}
use Rattle.schema_core.specs.Tables.{has_null}
use Rattle.class_types.specs.declared.mapped.Relation.{Relation}
use Rattle.class_mapping.specs.Mapped.{IsClass, Mapped, relations_of, root_of}
use Rattle.mapping_laws.specs.Hierarchies.{HasHierarchies}
use Rattle.keeper_core.specs.Programs.{Run, ◌>>=◌, each, give}
use Rattle.object_arena.specs.declared.object.Link.{Link}
use Rattle.object_arena.specs.Fit.{IsFit, end_fits, is_of_root, link_fits, relation_of}
use Rattle.object_arena.specs.Graph.{Graph, is_persistent, object_at, root_at, with_link}
use Rattle.object_arena.specs.Identity.{IsGraph, find_identity, has_key}
use Rattle.object_arena.proofs.FitLemmas.{fit_at, fit_link, fit_links}
use Rattle.load_rows.specs.Loading.{Loading, take_row}
use Rattle.load_rows.specs.Reading.{IsRowOf}
use Rattle.load_rows.specs.Links.{collection_filled, collection_of, end_filled, end_of, in_key_order, link_at, with_loaded}
use Rattle.load_rows.proofs.LinkLemmas.{collection_fits, end_link_fits, own_link_fits}
use Rattle.load_calls.proofs.RowsLemmas.{object_of}
use Rattle.load_targets.specs.Targets.{if_of}
use Rattle.load_targets.proofs.EndLemmas.{known_of}
use Rattle.load_ends.specs.Ends.{IsChild, known_end}
use Rattle.loading_laws.specs.Strategies.Filled.{Goes}
use Rattle.loading_laws.specs.Strategies.Standing.{Stands}
use Rattle.loading_laws.proofs.Strategies.Goes.{given, parted, row_taken}
use Rattle.loading_laws.proofs.Strategies.Standing.{found_stands, made_later}
use Rattle.loading_laws.specs.Loaders.Options.{Leaves}
use Rattle.loading_laws.proofs.Loaders.Frames.{framed_row, leaves_same, leaves_then}
use Rattle.loading_laws.proofs.Loading.Fits.{row_fit}

-- ---- objects of a hierarchy

-- the object stands for a key of the hierarchy
pub record StandsForOne (root : ClassId) (graph : Graph) (object : ObjId) : Type 0 where
  pub key : List Value
  pub stands : Stands root graph key object

pub stands_of_root : (mapped : Mapped) (root : ClassId) (graph : Graph) (object : ObjId) → IsFit mapped graph → StandsForOne root graph object → is_of_root graph.roots root object ≡ true
stands_of_root mapped root graph object fit is =
    let own = object_at graph object in
    let holding = and_parts (is_persistent own.state) ((root_at graph object).0 == root.0 && has_key is.key own.identity) is.stands.1 in
    object_of mapped graph root object fit is.stands.0 (eqb-true (root_at graph object).0 root.0 (and_parts ((root_at graph object).0 == root.0) (has_key is.key own.identity) holding.1).0)

pub all_of_root : (mapped : Mapped) (root : ClassId) (graph : Graph) (objects : List ObjId) → IsFit mapped graph → AllByRecursion (StandsForOne root graph) objects → AllByRecursion (λ object. is_of_root graph.roots root object ≡ true) objects
all_of_root mapped root graph [] fit all = tt
all_of_root mapped root graph (object ∷ objects) fit all = (stands_of_root mapped root graph object fit all.0, all_of_root mapped root graph objects fit all.1)

module _ (place : RelNo) where
  -- objects that fit are left so, those of an arena
  pub record LeavesFit (mapped : Mapped) (old new : Graph) : Type 0 where
    pub leaves : Leaves place old new
    pub fit : IsFit mapped new

  pub left_same : (mapped : Mapped) (graph : Graph) → IsGraph graph.objects graph.roots → IsFit mapped graph → LeavesFit mapped graph graph
  left_same mapped graph is fit = record { leaves = leaves_same place graph is; fit = fit }

  pub left_then : (mapped : Mapped) (a b c : Graph) → LeavesFit mapped a b → LeavesFit mapped b c → LeavesFit mapped a c
  left_then mapped a b c p q = record { leaves = leaves_then place a b c p.leaves q.leaves; fit = q.fit }

  pub child_later : (mapped : Mapped) (relation : Relation) (old new : Graph) (owner : ObjId) → Leaves place old new → IsChild mapped old relation place owner → IsChild mapped new relation place owner
  child_later mapped relation old new owner leaves child =
      let same = leaves.classes owner child.made in
      record {
        made = made_later old new owner leaves.stays child.made;
        within = subst (λ (class : ClassId). place.0 < length (relations_of mapped class)) (sym same) child.within;
        is = ap (λ (class : ClassId). relation_of mapped class place) same ∙ child.is;
      }

  one_later : (root : ClassId) (old new : Graph) (object : ObjId) → Leaves place old new → StandsForOne root old object → StandsForOne root new object
  one_later root old new object leaves is = record { key = is.key; stands = leaves.stays.stand root is.key object is.stands }

  pub ones_later : (root : ClassId) (old new : Graph) (objects : List ObjId) → Leaves place old new → AllByRecursion (StandsForOne root old) objects → AllByRecursion (StandsForOne root new) objects
  ones_later root old new [] leaves all = tt
  ones_later root old new (object ∷ objects) leaves all = (one_later root old new object leaves all.0, ones_later root old new objects leaves all.1)

  -- ---- rows

  -- rows are taken one by one, and of the object of each something is made that has it
  module _ {M : Type 0} (mapped : Mapped) (class : ClassId) (has : HasHierarchies mapped) (declared : IsClass mapped class) (values : List Value → List Value) (made : List Value → ObjId → M) (object_in : M → ObjId)
      (back : (row : List Value) (object : ObjId) → object_in (made row object) ≡ object) where
    abbrev step : List Value → List M → Loading → Run Loading (List M)
    step row before = take_row mapped class (values row) >>= λ object. give (before ++ made row object ∷ [])

    abbrev AreOne : Graph → List M → Type 0
    AreOne graph items = AllByRecursion (λ item. StandsForOne (root_of mapped class) graph (object_in item)) items

    pub record AreRowsFit (own : Loading) (items : List M) (now : Loading) : Type 0 where
      pub left : LeavesFit mapped own.graph now.graph
      pub ones : AreOne now.graph items

    items_later : (old new : Graph) (items : List M) → Leaves place old new → AreOne old items → AreOne new items
    items_later old new [] leaves all = tt
    items_later old new (item ∷ items) leaves all = (one_later (root_of mapped class) old new (object_in item) leaves all.0, items_later old new items leaves all.1)

    pub rows_fit : (rows : List (List Value)) (before : List M) (own : Loading) (items : List M) (now : Loading) → AllByRecursion (λ row. IsRowOf mapped class (values row)) rows → IsGraph own.graph.objects own.graph.roots → IsFit mapped own.graph
        → AreOne own.graph before → Goes (each step before rows) own items now → AreRowsFit own items now
    unfolding each
    rows_fit [] before own items now of is fit ones g =
        let end = given before items own now g in
        subst (λ (u : Loading). AreRowsFit own items u) end.1 (subst (λ (found : List M). AreRowsFit own found own) end.0 (record { left = left_same mapped own.graph is fit; ones = ones }))
    rows_fit (row ∷ rows) before own items now of is fit ones g =
        let one = parted (step row before) (λ (t : List M). each step t rows) own items now g in
        let two = parted (take_row mapped class (values row)) (λ (o : ObjId). give (before ++ made row o ∷ [])) own one.value one.between one.first in
        let put = given (before ++ made row two.value ∷ []) one.value two.between one.between two.second in
        let leaves = framed_row place mapped class has declared (values row) own two.between two.value is two.first in
        let stands = (row_taken mapped class has.paired (values row) own two.between two.value is.rooted two.first).stands in
        let new : StandsForOne (root_of mapped class) two.between.graph (object_in (made row two.value)) = record { key = _; stands = subst (Stands (root_of mapped class) two.between.graph _) (sym (back row two.value)) stands } in
        let there : AreRowsFit own (before ++ made row two.value ∷ []) two.between = record {
          left = record { leaves = leaves; fit = row_fit mapped class has declared (values row) own two.between two.value of.0 fit is.rooted two.first };
          ones =
              every_append (λ item. StandsForOne (root_of mapped class) two.between.graph (object_in item)) before (made row two.value ∷ []) (items_later own.graph two.between.graph before leaves ones) (new, tt);
        } in
        let here : AreRowsFit own one.value one.between = subst (λ (u : Loading). AreRowsFit own one.value u) put.1 (subst (λ (found : List M). AreRowsFit own found two.between) put.0 there) in
        let rest = rows_fit rows one.value one.between items now of.1 here.left.leaves.graph here.left.fit here.ones one.second in
        record { left = left_then mapped own.graph one.between.graph now.graph here.left rest.left; ones = rest.ones }

  -- ---- links

  module _ (mapped : Mapped) (relation : Relation) (own : Loading) (owner : ObjId) (fit : IsFit mapped own.graph) (child : IsChild mapped own.graph relation place owner) where
    abbrev old : Link
    old = link_at own.graph owner place

    old_fits : link_fits mapped own.graph.roots relation old ≡ true
    old_fits =
        subst (λ (one : Relation). link_fits mapped own.graph.roots one old ≡ true) child.is
        (own_link_fits mapped own.graph owner (object_at own.graph owner) place refl child.within (fit_links mapped own.graph owner fit child.made))

    put_fits : (new : Link) → link_fits mapped own.graph.roots relation new ≡ true → IsFit mapped (with_link own.graph owner place new)
    put_fits new fits =
        let long = (fit_at mapped own.graph owner fit child.made).links in
        let within = child.within in
        fit_link mapped own.graph (with_link own.graph owner place new) owner place new child.made (omega (arith, long, within)) refl fit (subst (λ (one : Relation). link_fits mapped own.graph.roots one new ≡ true) (sym child.is) fits)

    loaded_fits : (found : Option Link) → ((new : Link) → found ≡ Some new → link_fits mapped own.graph.roots relation new ≡ true) → IsFit mapped (with_loaded owner place found own).graph
    loaded_fits None fits = fit
    loaded_fits (Some new) fits = put_fits new (fits new refl)

    -- a collection that holds objects of the target's hierarchy
    pub collection_fit : (read : List ObjId) → relation.many ≡ true → All (λ object. is_of_root own.graph.roots (root_of mapped relation.target) object ≡ true) read → IsFit mapped (collection_filled owner place read own).graph
    unfolding collection_filled
    collection_fit read many of =
        loaded_fits (collection_of (in_key_order own.graph read) old) (λ new e. collection_fits mapped own.graph relation read (in_key_order own.graph read) old new many old_fits of refl (sym e))

    -- a link that leads to one of it, or to none
    pub end_fit : (end : Option ObjId) → relation.many ≡ false → end_fits own.graph.roots (root_of mapped relation.target) end ≡ true → IsFit mapped (end_filled owner place end own).graph
    unfolding end_filled
    end_fit end single of = loaded_fits (end_of end old) (λ new e. end_link_fits mapped own.graph relation end old new single of e)

-- what the identity map has under a key is of the hierarchy
pub known_fits : (mapped : Mapped) (class : ClassId) (graph : Graph) (key : List Value) → IsFit mapped graph → length graph.roots ≡ length graph.objects → end_fits graph.roots (root_of mapped class) (known_end mapped class graph key) ≡ true
known_fits mapped class graph key fit rooted = by (has_null key) (find_identity graph (root_of mapped class) key) refl
  where
    by : (null : Bool) (found : Option ObjId) → find_identity graph (root_of mapped class) key ≡ found → end_fits graph.roots (root_of mapped class) (if null then None else option_and_then (if_of graph mapped class) found) ≡ true
    by true found is = refl
    by false None is = refl
    by false (Some object) is = let stands = found_stands graph (root_of mapped class) key object rooted is in known_of mapped graph class key object fit stands.0 stands.1
