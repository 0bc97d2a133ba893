-- What loads leave of the objects that there were.
use Rattle.std.proofs.Common.{◌≡◌, ◌⊎◌, ℕ, ◌+◌, ◌<◌, ◌≤◌, ◌==◌, nat_lt, Bool, true, false, not, ◌&&◌, List, [], ◌∷◌, ◌++◌, length, Option, None, Some, Result, Ok, Err, if◌then◌else◌, is_none, refl, sym, ap, subst, ◌∙◌, arith, ⊎_elim}
use Rattle.std.specs.Prelude.{slice_index_or, slice_set}
use Rattle.std.proofs.lemmas.Bool.{cases_lt, eqb-false, eqb-true, ltb-true}
use Rattle.std.proofs.lemmas.List.{get_or-set_other, get_or_default, length-append, set_past}
use Rattle.base_core.specs.declared.ids.ClassId.{ClassId}
use Rattle.base_core.specs.declared.ids.ObjId.{ObjId}
use Rattle.base_core.specs.declared.ids.RelNo.{RelNo}
use Rattle.base_core.specs.declared.refusal.LimitKind.TheVariants.{Objects}
use Rattle.base_core.specs.declared.refusal.Refusal.{Refusal}
use Rattle.base_core.specs.declared.refusal.Refusal.TheVariants.{LimitReached}
use Rattle.base_core.specs.declared.value.Value.{Value}
use Rattle.class_types.specs.declared.mapped.Relation.{Relation}
use Rattle.class_mapping.specs.Mapped.{IsClass, Mapped, root_of}
use Rattle.mapping_laws.specs.Hierarchies.{HasHierarchies}
use Rattle.keeper_core.specs.Programs.{Run, ◌>>=◌, change, each, give}
use Rattle.object_arena.specs.declared.object.Link.{Link}
use Rattle.object_arena.specs.declared.object.Link.TheVariants.{Unset, Unloaded, One, Many}
use Rattle.object_arena.specs.declared.object.Object.{Object}
use Rattle.object_arena.specs.declared.object.State.TheVariants.{Persistent}
use Rattle.object_arena.specs.Graph.{Graph, expired_object, fresh_object, no_object, object_at, object_limit, place_of, with_fresh, with_link, with_object}
use Rattle.object_arena.specs.Identity.{IsGraph, find_identity, with_identity}
use Rattle.object_arena.proofs.GraphLemmas.{graph_kept, graph_pushed, graph_registered}
use Rattle.load_filling.specs.Filled.{Found, filled_object, with_filled}
use Rattle.load_filling.specs.Loaded.{load, with_loaded as with_object_loaded}
use Rattle.load_filling.specs.Rows.{class_named, found_or_loaded, loaded_as, row_key, row_object}
use Rattle.load_filling.proofs.LoadedLemmas.{fresh_free, loaded_is, next_object}
use Rattle.load_rows.specs.Loading.{Loading, filled, found_in_row, take_row, taken_as}
use Rattle.load_rows.specs.Links.{collection_filled, collection_of, end_filled, end_of, in_key_order, link_at, with_loaded}
use Rattle.load_calls.specs.Collections.{take_next, take_rows}
use Rattle.load_batches.specs.Batches.{fill_batch, fill_owner, fill_owners, is_unloaded, member_of, members_under, owner_key_in, take_member, take_members, target_values}
use Rattle.load_batches.specs.declared.members.Member.{Member}
use Rattle.load_batches.specs.declared.owners.Owner.{Owner}
use Rattle.load_ends.specs.Ends as ends
use Rattle.loading_laws.specs.Strategies.Filled.{Goes}
use Rattle.loading_laws.proofs.Strategies.Finding.{row_gains, same_link}
use Rattle.loading_laws.proofs.Strategies.Goes.{change_to, given, parted, row_taken}
use Rattle.loading_laws.proofs.Strategies.Standing.{made_later, named_root, set_related, stays_link, stays_same, stays_then}
use Rattle.loading_laws.specs.Loaders.Options.{Leaves}

-- ---- the graph of an arena

pub graph_put : (graph : Graph) (object : ObjId) (new : Object) → IsGraph graph.objects graph.roots → new.state ≡ (object_at graph object).state → new.identity ≡ (object_at graph object).identity → IsGraph (with_object graph object new).objects (with_object graph object new).roots
graph_put graph object new is state identity =
    let p : ℕ = place_of object in
    ⊎_elim
    (λ (less : p < length graph.objects).
    graph_kept graph.objects graph.roots p (object_at graph object) new is less (sym (get_or_default graph.objects p (object_at graph object) no_object less)) state identity)
    (λ (past : length graph.objects ≤ p). subst (λ (objects : List Object). IsGraph objects graph.roots) (sym (set_past graph.objects p new past)) is)
    (cases_lt p (length graph.objects))

-- an object that a load makes
graph_loaded : (mapped : Mapped) (class : ClassId) (key : List Value) (graph : Graph) → IsGraph graph.objects graph.roots → length graph.objects < object_limit → find_identity graph (root_of mapped class) key ≡ None
    → IsGraph (with_object_loaded mapped class key graph).objects (with_object_loaded mapped class key graph).roots
graph_loaded mapped class key graph is less free =
    let fresh : Graph = with_fresh graph mapped class in
    let next : ObjId = next_object graph in
    let pushed : IsGraph fresh.objects fresh.roots = graph_pushed graph.objects graph.roots (fresh_object mapped class) (root_of mapped class) is less refl refl in
    let long : length fresh.objects ≡ length graph.objects + 1 = length-append graph.objects (fresh_object mapped class ∷ []) in
    let middle : Graph = with_identity fresh next key in
    let registered : IsGraph middle.objects middle.roots =
    graph_registered fresh.objects fresh.roots next key (record (object_at fresh next) { state = Persistent; identity = Some key }) pushed (omega arith) (omega (arith, long)) (fresh_free mapped class key graph is.rooted free) refl refl in
    subst (λ (g : Graph). IsGraph g.objects g.roots) (loaded_is mapped class key graph middle refl) (graph_put middle next (expired_object (object_at middle next)) registered refl refl)

same_pair : {A B : Type 0} (x y : A × B) → ◌≡◌ {A = Result (A × B) Refusal} (Ok x) (Ok y) → x ≡ y
same_pair x y e = cc

module _ (mapped : Mapped) (class : ClassId) (row : List Value) (old : Graph) (is : IsGraph old.objects old.roots) where
  made_graph : (named : ClassId) (found : ObjId × Graph) (b : Bool) → nat_lt (length old.objects) object_limit ≡ b → find_identity old (root_of mapped named) (row_key mapped class row) ≡ None
      → (if b then Ok (next_object old, with_object_loaded mapped named (row_key mapped class row) old) else Err (LimitReached Objects)) ≡ Ok found → IsGraph found.1.objects found.1.roots
  made_graph named found false few none e = absurd cc
  made_graph named found true few none e =
      subst (λ (one : ObjId × Graph). IsGraph one.1.objects one.1.roots) (same_pair (next_object old, with_object_loaded mapped named (row_key mapped class row) old) found e)
      (graph_loaded mapped named (row_key mapped class row) old is (ltb-true (length old.objects) object_limit few) none)

  named_graph : (named : Option ClassId) (found : ObjId × Graph) → class_named mapped class row ≡ named → HasHierarchies mapped → find_identity old (root_of mapped class) (row_key mapped class row) ≡ None → loaded_as mapped (row_key mapped class row) old named ≡ Ok found
      → IsGraph found.1.objects found.1.roots
  unfolding load
  named_graph None found names has none e = absurd cc
  named_graph (Some named) found names has none e =
      made_graph named found (nat_lt (length old.objects) object_limit) refl (ap (λ (root : ClassId). find_identity old root (row_key mapped class row)) (named_root mapped class named row has.paired names) ∙ none) e

  found_graph : (holder : Option ObjId) (found : ObjId × Graph) → HasHierarchies mapped → find_identity old (root_of mapped class) (row_key mapped class row) ≡ holder → found_or_loaded mapped class row old holder ≡ Ok found → IsGraph found.1.objects found.1.roots
  found_graph None found has here e = named_graph (class_named mapped class row) found refl has here e
  found_graph (Some object) found has here e = subst (λ (one : ObjId × Graph). IsGraph one.1.objects one.1.roots) (same_pair (object, old) found e) is

module _ (mapped : Mapped) (class : ClassId) (has : HasHierarchies mapped) (declared : IsClass mapped class) (place : RelNo) where
  taken_graph : (row : List Value) (own now : Loading) (object : ObjId) (r : Result (ObjId × Graph) Refusal) → IsGraph own.graph.objects own.graph.roots → row_object mapped class row own.graph ≡ r
      → Goes (λ (start : Loading). taken_as mapped class row start r) own object now → IsGraph now.graph.objects now.graph.roots
  unfolding filled with_filled row_object
  taken_graph row own now object (Err e) is made g = absurd (let no = g.answer in cc)
  taken_graph row own now object (Ok found) is made g =
      let values : Found = found_in_row mapped class row (object_at found.1 found.0).class in
      let after : IsGraph found.1.objects found.1.roots = found_graph mapped class row own.graph is (find_identity own.graph (root_of mapped class) (row_key mapped class row)) found has refl made in
      subst (λ (graph : Graph). IsGraph graph.objects graph.roots) (ap (λ (one : Loading). one.graph) g.leaves) (graph_put found.1 found.0 (filled_object values (object_at found.1 found.0)) after refl refl)

  row_graph : (row : List Value) (own now : Loading) (object : ObjId) → IsGraph own.graph.objects own.graph.roots → Goes (take_row mapped class row) own object now → IsGraph now.graph.objects now.graph.roots
  unfolding take_row
  row_graph row own now object is g = taken_graph row own now object (row_object mapped class row own.graph) is refl (record { answer = g.answer; leaves = g.leaves })

-- ---- what stays

pub leaves_same : (place : RelNo) (graph : Graph) → IsGraph graph.objects graph.roots → Leaves place graph graph
leaves_same place graph is = record { stays = stays_same graph; graph = is; classes = λ object made. refl; cells = λ object made attr held. refl; links = λ object made other left. refl }

pub leaves_then : (place : RelNo) (a b c : Graph) → Leaves place a b → Leaves place b c → Leaves place a c
leaves_then place a b c p q = record {
  stays = stays_then a b c p.stays q.stays;
  graph = q.graph;
  classes = λ object made. q.classes object (made_later a b object p.stays made) ∙ p.classes object made;
  cells = λ object made attr held. let one = p.cells object made attr held in q.cells object (made_later a b object p.stays made) attr (ap is_none one ∙ held) ∙ one;
  links = λ object made other left.
      let one = p.links object made other left in
      q.links object (made_later a b object p.stays made) other (ap (λ (link : Link). not (other.0 == place.0 && is_unloaded link)) one ∙ left) ∙ one;
}

-- ---- a link that is filled

module _ (place : RelNo) (graph : Graph) (owner : ObjId) (link : Link) (is : IsGraph graph.objects graph.roots) (unloaded : is_unloaded (link_at graph owner place) ≡ true) where
  abbrev after : Graph
  after = with_link graph owner place link

  abbrev new : Object
  new = record (object_at graph owner) { links = slice_set (object_at graph owner).links place.0 link }

  -- a link of the owner that is left
  own_left : (other : RelNo) → not (other.0 == place.0 && is_unloaded (slice_index_or (object_at graph owner).links other.0 Unset)) ≡ true
      → slice_index_or new.links other.0 Unset ≡ slice_index_or (object_at graph owner).links other.0 Unset
  own_left other left = by (other.0 == place.0) refl
    where
      by : (b : Bool) → (other.0 == place.0) ≡ b → slice_index_or new.links other.0 Unset ≡ slice_index_or (object_at graph owner).links other.0 Unset
      by true same =
          let here : is_unloaded (slice_index_or (object_at graph owner).links other.0 Unset) ≡ true = ap (λ (n : ℕ). is_unloaded (slice_index_or (object_at graph owner).links n Unset)) (eqb-true other.0 place.0 same) ∙ unloaded in
          absurd (let never = sym (ap (λ (b : Bool). not (b && is_unloaded (slice_index_or (object_at graph owner).links other.0 Unset))) same ∙ ap (λ (b : Bool). not b) here) ∙ left in cc)
      by false apart = get_or-set_other (object_at graph owner).links place.0 other.0 link Unset (λ e. eqb-false other.0 place.0 apart (omega (arith, e)))

  abbrev Left : Object → Object → Type 0
  Left one two = (other : RelNo) → not (other.0 == place.0 && is_unloaded (slice_index_or one.links other.0 Unset)) ≡ true → slice_index_or two.links other.0 Unset ≡ slice_index_or one.links other.0 Unset

  leaves_put : Leaves place graph after
  leaves_put =
      let same = same_link graph owner place link in
      record {
        stays = stays_link graph owner place link;
        graph = graph_put graph owner new is refl refl;
        classes = λ object made. same.classes object;
        cells = λ object made attr held. same.cells object attr held;
        links = λ object made other left. set_related Left graph.objects (place_of owner) (place_of object) new no_object (λ x q h. refl) own_left other left;
      }

filled_by : (place : RelNo) (owner : ObjId) (link : Option Link) (own : Loading) → IsGraph own.graph.objects own.graph.roots → ((one : Link) → link ≡ Some one → is_unloaded (link_at own.graph owner place) ≡ true) → Leaves place own.graph (with_loaded owner place link own).graph
filled_by place owner None own is waits = leaves_same place own.graph is
filled_by place owner (Some link) own is waits = leaves_put place own.graph owner link is (waits link refl)

-- a link that a load fills was unloaded
pub collection_waits : (read : List ObjId) (link now : Link) → collection_of read link ≡ Some now → is_unloaded link ≡ true
collection_waits read Unset now e = absurd cc
collection_waits read (Unloaded added removed) now e = refl
collection_waits read (One end changed) now e = absurd cc
collection_waits read (Many members base) now e = absurd cc

pub end_waits : (end : Option ObjId) (link now : Link) → end_of end link ≡ Some now → is_unloaded link ≡ true
end_waits end Unset now e = absurd cc
end_waits end (Unloaded added removed) now e = refl
end_waits end (One other changed) now e = absurd cc
end_waits end (Many members base) now e = absurd cc

pub collection_leaves : (place : RelNo) (owner : ObjId) (read : List ObjId) (own : Loading) → IsGraph own.graph.objects own.graph.roots → Leaves place own.graph (collection_filled owner place read own).graph
unfolding collection_filled
collection_leaves place owner read own is =
    let base : List ObjId = in_key_order own.graph read in
    let old : Link = link_at own.graph owner place in
    filled_by place owner (collection_of base old) own is (λ one e. collection_waits base old one e)

pub end_leaves : (place : RelNo) (owner : ObjId) (end : Option ObjId) (own : Loading) → IsGraph own.graph.objects own.graph.roots → Leaves place own.graph (end_filled owner place end own).graph
unfolding end_filled
end_leaves place owner end own is =
    let old : Link = link_at own.graph owner place in
    filled_by place owner (end_of end old) own is (λ one e. end_waits end old one e)

-- ---- programs beside the store

module _ (place : RelNo) where
  -- a program leaves what there was
  abbrev pub IsFramed : {A : Type 0} → (Loading → Run Loading A) → Type 0
  IsFramed {A = A} m = (own now : Loading) (a : A) → IsGraph own.graph.objects own.graph.roots → Goes m own a now → Leaves place own.graph now.graph

  framed_give : {A : Type 0} (a : A) → IsFramed (give a)
  framed_give a = λ own now b is g. subst (λ (u : Loading). Leaves place own.graph u.graph) (given a b own now g).1 (leaves_same place own.graph is)

  framed_then : {A B : Type 0} (m : Loading → Run Loading A) (next : A → Loading → Run Loading B) → IsFramed m → ((a : A) → IsFramed (next a)) → IsFramed (m >>= next)
  framed_then m next first rest = λ own now b is g.
      let two = parted m next own b now g in
      let one = first own two.between two.value is two.first in
      leaves_then place own.graph two.between.graph now.graph one (rest two.value two.between now b one.graph two.second)

  framed_each : {A S : Type 0} (step : A → S → Loading → Run Loading S) (xs : List A) (s : S) → ((x : A) (t : S) → IsFramed (step x t)) → IsFramed (each step s xs)
  unfolding each
  framed_each step [] s all = framed_give s
  framed_each step (x ∷ xs) s all = framed_then (step x s) (λ t. each step t xs) (all x s) (λ t. framed_each step xs t all)

  framed_change : (f : Loading → Loading) → ((own : Loading) → IsGraph own.graph.objects own.graph.roots → Leaves place own.graph (f own).graph) → IsFramed (change f)
  framed_change f leaves = λ own now u is g. subst (λ (v : Loading). Leaves place own.graph v.graph) (change_to f own u now g) (leaves own is)

  module _ (mapped : Mapped) (class : ClassId) (has : HasHierarchies mapped) (declared : IsClass mapped class) where
    pub framed_row : (row : List Value) → IsFramed (take_row mapped class row)
    framed_row row = λ own now object is g.
        let taken = row_taken mapped class has.paired row own now object is.rooted g in
        let gains = row_gains mapped class has declared row own now object is.rooted g in
        record {
          stays = taken.keeps.all;
          graph = row_graph mapped class has declared place row own now object is g;
          classes = gains.classes;
          cells = gains.cells;
          links = λ one made other left. ap (λ (links : List Link). slice_index_or links other.0 Unset) (taken.keeps.links one made);
        }

    pub framed_rows : (rows : List (List Value)) → IsFramed (take_rows mapped class rows)
    unfolding take_rows
    framed_rows rows = λ own now objects is g.
        framed_each (take_next mapped class) rows [] (λ row before. framed_then (take_row mapped class row) (λ o. give (before ++ o ∷ [])) (framed_row row) (λ o. framed_give (before ++ o ∷ []))) own now objects is
        (record { answer = g.answer; leaves = g.leaves })

    pub framed_targets : (rows : List (List Value)) → IsFramed (ends.take_targets mapped class rows)
    framed_targets rows = framed_then (take_rows mapped class rows) (λ objects. give tt) (framed_rows rows) (λ objects. framed_give tt)

  module _ (mapped : Mapped) (relation : Relation) (has : HasHierarchies mapped) (declared : IsClass mapped relation.target) where
    framed_members : (rows : List (List Value)) → IsFramed (take_members mapped relation rows)
    unfolding take_members
    framed_members rows = λ own now members is g.
        framed_each (take_member mapped relation) rows []
        (λ row before. framed_then (take_row mapped relation.target (target_values mapped relation row)) (λ o. give (before ++ member_of (owner_key_in mapped relation row) o ∷ []))
        (framed_row mapped relation.target has declared (target_values mapped relation row)) (λ o. framed_give (before ++ member_of (owner_key_in mapped relation row) o ∷ [])))
        own now members is (record { answer = g.answer; leaves = g.leaves })

    framed_owners : (owners : List Owner) (members : List Member) → IsFramed (fill_owners place owners members)
    unfolding fill_owners
    framed_owners owners members = λ own now u is g.
        framed_each (fill_owner place members) owners tt (λ owner v. framed_change (collection_filled owner.object place (members_under members owner.key)) (collection_leaves place owner.object (members_under members owner.key))) own now u is
        (record { answer = g.answer; leaves = g.leaves })

    pub framed_batch : (owners : List Owner) (rows : List (List Value)) → IsFramed (fill_batch mapped relation place owners rows)
    framed_batch owners rows = framed_then (take_members mapped relation rows) (fill_owners place owners) (framed_members rows) (λ members. framed_owners owners members)

    pub framed_ends : (owners : List ObjId) → IsFramed (ends.fill_owners mapped relation place owners)
    unfolding ends.fill_owners
    framed_ends owners = λ own now u is g.
        framed_each (ends.fill_owner mapped relation place) owners tt
        (λ owner v. framed_change (ends.end_known mapped relation place owner) (λ one is_one. end_leaves place owner (ends.known_end mapped relation.target one.graph (ends.key_of mapped relation one.graph owner)) one is_one)) own now u is
        (record { answer = g.answer; leaves = g.leaves })
