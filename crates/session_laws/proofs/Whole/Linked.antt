-- The change of a link leaves the objects of a session there, and fitting.
use Rattle.std.proofs.Common.{◌≡◌, ℕ, ◌<◌, Bool, List, [], ◌∷◌, Option, None, Some, Result, Ok, Err, refl, ◌∙◌, subst, arith}
use Rattle.std.specs.Prelude.{slice_set}
use Rattle.std.proofs.lemmas.List.{length-set}
use Rattle.base_core.specs.Counts.{one_more}
use Rattle.base_core.specs.declared.ids.ObjId.{ObjId}
use Rattle.base_core.specs.declared.ids.RelNo.{RelNo}
use Rattle.base_core.specs.declared.refusal.Refusal.{Refusal}
use Rattle.class_mapping.specs.Mapped.{relations_of}
use Rattle.object_arena.specs.declared.object.Object.{Object}
use Rattle.object_arena.specs.Every.{classes_of}
use Rattle.object_arena.specs.Fit.{link_fits, no_relation}
use Rattle.object_arena.specs.Graph.{Graph, IsObject, object_at, with_object}
use Rattle.object_arena.proofs.ClassLemmas.{classes_set}
use Rattle.object_arena.proofs.PartLemmas.{pointwise_set}
use Rattle.relations.specs.declared.calls.LinkCall.{LinkCall}
use Rattle.relations.specs.declared.change.Change.{Change}
use Rattle.relations.specs.declared.change.LinkPut.{LinkPut}
use Rattle.relations.specs.Calls.{child_of, link_change}
use Rattle.relations.specs.Fits.{ChangeFits, PutFits}
use Rattle.relations.specs.Places.{IsPlaced, IsPutIn}
use Rattle.session_scopes.specs.SessionState.{SameObjects, SessionState, with_graph}
use Rattle.session_calls.proofs.Joining.{same_itself, same_more}
use Rattle.session_objects.specs.Taking.{session_joined, session_taken, taken_under}
use Rattle.session_links.specs.Linking.{coming_along, session_by, session_changed, session_linked, session_orphaned, session_put}
use Rattle.session_links.specs.Relinked.{IsRelinked}
use Rattle.session_links.proofs.Acting.{child_made}
use Rattle.session_links.proofs.PutLemmas.{fits_there, placed_later, relinked_more, relinked_orphan, relinked_put, relinked_same}
use Rattle.session_laws.specs.LinkCalls.{IsLinkCall}
use Rattle.session_laws.proofs.LinkCalls.Fitting.{change_fits}
use Rattle.session_laws.proofs.LinkCalls.Placing.{change_placed}
use Rattle.session_laws.proofs.OwnRows.Standing.{hierarchies}
use Rattle.session_laws.specs.Whole.{IsKeyed}
use Rattle.session_laws.proofs.Whole.Keyed.{all_joined, its_fit, object_keyed, taken_class}
use Rattle.session_laws.proofs.Whole.Refit.{FitsIn}

-- ---- the objects are there still

pub regraphed : (own : SessionState) (graph : Graph) → classes_of graph ≡ classes_of own.graph → SameObjects own (with_graph graph own)
regraphed own graph same = record { mapping = refl; classes = same; drawn = omega arith }

pub with_one : (own : SessionState) (object : ObjId) (new : Object) → new.class ≡ (object_at own.graph object).class → SameObjects own (with_graph (with_object own.graph object new) own)
with_one own object new class = regraphed own (with_object own.graph object new) (classes_set own.graph (with_object own.graph object new) object new class refl)

taken_same : (object : ObjId) (own : SessionState) → SameObjects own (session_taken object own)
taken_same object own =
    let o : Object = object_at own.graph object in
    let new : Object = taken_under (one_more own.added) o in
    record { mapping = refl; classes = classes_set own.graph (with_object own.graph object new) object new (taken_class o.state (one_more own.added) o) refl; drawn = omega arith }

pub joined_same : (objects : List ObjId) (own : SessionState) → SameObjects own (session_joined objects own)
joined_same [] own = same_itself own
joined_same (object ∷ objects) own = same_more (taken_same object own) (joined_same objects (session_taken object own))

-- ---- links are put in one by one

-- each object has as many links as before, and is there still, and all fit
record IsLinked (own now : SessionState) : Type 0 where
  relinked : IsRelinked own.graph now.graph
  same : SameObjects own now
  keyed : IsKeyed now

orphan_linked : (child : ObjId) (orphan : Option Bool) (own : SessionState) → IsObject own.graph child → IsKeyed own → IsLinked own (session_orphaned child orphan own)
orphan_linked child None own made keyed = record { relinked = relinked_same own.graph; same = same_itself own; keyed = keyed }
orphan_linked child (Some orphan) own made keyed =
    let new : Object = record (object_at own.graph child) { orphan = orphan } in
    record {
      relinked = relinked_orphan own.graph child orphan made;
      same = with_one own child new refl;
      keyed = object_keyed child new own refl
          (λ less. let fits = its_fit child own keyed less in record { own = record { class = fits.own.class; cells = fits.own.cells; identity = fits.own.identity; links = fits.own.links }; links = fits.links }) keyed;
    }

put_linked : (put : Option LinkPut) (own now : SessionState) → IsPutIn own.graph put → PutFits own.mapping own.graph put → IsLinked own now → IsLinked own (session_put put now)
put_linked None own now placed fit linked = linked
put_linked (Some put) own now placed fit linked =
    let there : IsPutIn now.graph (Some put) = placed_later own.graph now.graph (Some put) linked.relinked placed in
    let good : PutFits now.mapping now.graph (Some put) = fits_there own now (Some put) linked.same placed fit in
    let o : Object = object_at now.graph put.object in
    let new : Object = record o { links = slice_set o.links put.relation.0 put.link } in
    record {
      relinked = relinked_more linked.relinked (relinked_put now.graph put there.0);
      same = same_more linked.same (with_one now put.object new refl);
      keyed = object_keyed put.object new now refl
          (λ less.
          let fits : FitsIn now.mapping now.graph.roots o = its_fit put.object now linked.keyed less in
          record {
            own = record { class = fits.own.class; cells = fits.own.cells; identity = fits.own.identity; links = length-set o.links put.relation.0 put.link ∙ fits.own.links };
            links = pointwise_set (link_fits now.mapping now.graph.roots) (relations_of now.mapping o.class) o.links put.relation.0 put.link no_relation fits.links good
                (subst (λ (n : ℕ). put.relation.0 < n) fits.own.links there.1);
          }) linked.keyed;
    }

all_linked : (child : ObjId) (change : Change) (own : SessionState) → IsObject own.graph child → IsPlaced own.graph change → ChangeFits own.mapping own.graph change → IsKeyed own → IsLinked own (session_linked child change own)
all_linked child change own made placed fit keyed =
    let marked : SessionState = session_orphaned child change.orphan own in
    let left : SessionState = session_put change.left marked in
    let joined : SessionState = session_put change.joined left in
    put_linked change.own own joined placed.own fit.own
    (put_linked change.joined own left placed.joined fit.joined (put_linked change.left own marked placed.left fit.left (orphan_linked child change.orphan own made keyed)))

-- ---- the call

-- the objects go on to fit, and are there still
record IsFitStill (own now : SessionState) : Type 0 where
  keyed : IsKeyed now
  same : SameObjects own now

fit_by : (owner : ObjId) (place : RelNo) (call : LinkCall) (own : SessionState) (found : Result Change Refusal) → link_change own.graph own.mapping owner place call ≡ found → IsLinkCall own.mapping own.graph owner place call → IsKeyed own
    → IsFitStill own (session_by owner place call own found)
fit_by owner place call own (Err fault) is on keyed = record { keyed = keyed; same = same_itself own }
fit_by owner place call own (Ok change) is on keyed =
    let objects : List ObjId = coming_along own owner place call change in
    let now : SessionState = session_linked (child_of owner call) change own in
    let placed : IsPlaced own.graph change = change_placed own.graph own.mapping owner place call change keyed.fit on.made on.end is in
    let fit : ChangeFits own.mapping own.graph change = change_fits own.graph own.mapping (hierarchies own.mapping keyed.well).paired keyed.fit owner place call change on is in
    let linked = all_linked (child_of owner call) change own (child_made own.graph owner call on.made on.end) placed fit keyed in
    record { keyed = all_joined objects now linked.keyed; same = same_more linked.same (joined_same objects now) }

pub changed_keyed : (owner : ObjId) (place : RelNo) (call : LinkCall) (own : SessionState) → IsLinkCall own.mapping own.graph owner place call → IsKeyed own → IsKeyed (session_changed owner place call own)
unfolding session_changed
changed_keyed owner place call own on keyed = (fit_by owner place call own (link_change own.graph own.mapping owner place call) refl on keyed).keyed

pub changed_same : (owner : ObjId) (place : RelNo) (call : LinkCall) (own : SessionState) → IsLinkCall own.mapping own.graph owner place call → IsKeyed own → SameObjects own (session_changed owner place call own)
unfolding session_changed
changed_same owner place call own on keyed = (fit_by owner place call own (link_change own.graph own.mapping owner place call) refl on keyed).same
