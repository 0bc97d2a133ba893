-- What becomes of a session leaves it orderly.
use Rattle.std.proofs.Common.{◌≡◌, ℕ, ◌+◌, ◌-◌, ◌<◌, Bool, true, false, List, [], ◌∷◌, length, Option, None, Some, Ok, Err, refl, sym, ap, ◌∙◌, subst}
use Rattle.std.specs.Prelude.{if◌then◌else◌, nat_lt, slice_set, Result}
use Rattle.base_core.specs.Counts.{one_more}
use Rattle.base_core.specs.declared.ids.AttrNo.{AttrNo}
use Rattle.base_core.specs.declared.ids.ClassId.{ClassId}
use Rattle.base_core.specs.declared.ids.ObjId.{ObjId}
use Rattle.base_core.specs.declared.ids.RelNo.{RelNo}
use Rattle.base_core.specs.declared.ids.TableId.{TableId}
use Rattle.base_core.specs.declared.refusal.LimitKind.TheVariants.{Objects}
use Rattle.base_core.specs.declared.refusal.Refusal.{Refusal}
use Rattle.base_core.specs.declared.refusal.Refusal.TheVariants.{LimitReached}
use Rattle.base_core.specs.declared.value.Value.{Value}
use Rattle.schema_core.specs.declared.changes.RowChanges.{RowChanges}
use Rattle.class_mapping.specs.Mapped.{Mapped}
use Rattle.object_arena.specs.declared.object.Object.{Object}
use Rattle.object_arena.specs.Graph.{Graph, cell_in, cell_put, fresh_object, key_fault, make, no_object, object_at, object_limit, place_of, with_fresh, with_object, with_value}
use Rattle.object_rows.specs.declared.prepared.Prepared.{Prepared}
use Rattle.graph_flushed.specs.Flushed.{Written, graph_flushed, written_with}
use Rattle.savepoints.specs.Scopes.{scope_released}
use Rattle.relations.specs.declared.calls.LinkCall.{LinkCall}
use Rattle.relations.specs.declared.change.Change.{Change}
use Rattle.relations.specs.declared.change.LinkPut.{LinkPut}
use Rattle.relations.specs.Calls.{child_of, link_change}
use Rattle.session_parts.specs.Ends.{object_committed, object_left, object_unmarked}
use Rattle.session_scopes.specs.Changes.{changed_unless, delete_fault, deletion_marked, value_put}
use Rattle.session_scopes.specs.Making.{first_given_fault, made_unless, object_made, object_with}
use Rattle.session_scopes.specs.Scoping.{session_begun, session_closed, session_committed, session_nested, session_released, session_rolled_back}
use Rattle.session_scopes.specs.SessionState.{SessionState, with_graph}
use Rattle.session_objects.specs.Taking.{added_then, coming_objects, session_added, session_joined, session_taken, session_unmarked, taken_under}
use Rattle.session_objects.proofs.TakingLemmas.{state_left}
use Rattle.session_links.specs.Linking.{coming_along, session_by, session_changed, session_linked, session_orphaned, session_put}
use Rattle.session_statements.specs.Rewriting.{expired_if, graph_reread, is_reread, reread_of, session_reread}
use Rattle.session_acts.specs.Flush.{session_flushed}
use Rattle.session_laws.specs.Sound.{EachObject, IsSettled}
use Rattle.session_laws.proofs.Sound.Everyone.{changed_at, each_changed}
use Rattle.session_laws.proofs.Sound.Touches.{between_scopes}
use Rattle.session_laws.proofs.Calls.Making.{each_made, made, made_before}
use Rattle.session_laws.specs.Health.Health.{AreNamedSince, HoldsItsKey, IsOrderlySession, is_named, is_named_in}
use Rattle.session_laws.proofs.Health.Flushed.{flushed_keyed, flushed_named}
use Rattle.session_laws.proofs.Health.Named.{begun_named, each_with, named_each, named_inside, named_left, named_more, named_with}
use Rattle.session_laws.proofs.Health.Objects.{committed_keyed, expired_keyed, left_keyed, made_keyed, set_keyed, taken_keyed, taken_named}

-- ---- other objects, touched where they come to differ

pub changed_orderly : (graph : Graph) (own : SessionState) → EachObject (HoldsItsKey own.mapping) graph → ((place : ℕ) → is_named_in own.graph place ≡ true → is_named_in graph place ≡ true) → IsOrderlySession own → IsOrderlySession (with_graph graph own)
changed_orderly graph own objects stays orderly = record {
  well = orderly.well;
  objects = objects;
  named = subst (AreNamedSince (is_named_in graph)) (sym (between_scopes own.graph graph own.frames)) (named_more (is_named_in own.graph) (is_named_in graph) own.frames.scopes stays orderly.named);
}

pub put_orderly : (object : ObjId) (new : Object) (own : SessionState) → (place_of object < length own.graph.objects → HoldsItsKey own.mapping new)
    → (is_named (object_at own.graph object).state (object_at own.graph object).identity ≡ true → is_named new.state new.identity ≡ true) → IsOrderlySession own → IsOrderlySession (with_graph (with_object own.graph object new) own)
put_orderly object new own one stays orderly =
    changed_orderly (with_object own.graph object new) own (each_with (HoldsItsKey own.mapping) own.graph object new orderly.objects one) (named_with own.graph object new stays) orderly

-- ---- one object

unless_orderly : (fault : Option Refusal) (graph : Graph) (own : SessionState) → IsOrderlySession own → (fault ≡ None → IsOrderlySession (with_graph graph own)) → IsOrderlySession (changed_unless fault graph own).after
unless_orderly None graph own orderly later = later refl
unless_orderly (Some fault) graph own orderly later = orderly

pub value_orderly : (object : ObjId) (attr : AttrNo) (value : Value) (own : SessionState) → IsOrderlySession own → IsOrderlySession (value_put object attr value own).after
unfolding value_put
value_orderly object attr value own orderly =
    let o : Object = object_at own.graph object in
    unless_orderly (key_fault own.mapping o attr) (with_value own.graph object attr value) own orderly
    (λ none. put_orderly object (cell_put o attr (record (cell_in o attr) { value = Some value })) own (λ less. set_keyed own.mapping o attr value none (orderly.objects (place_of object) less)) (λ named. named) orderly)

-- a delete mark tells nothing of its row
pub marked_orderly : (object : ObjId) (own : SessionState) → IsOrderlySession own → IsOrderlySession (deletion_marked object own).after
unfolding deletion_marked
marked_orderly object own orderly =
    let o : Object = object_at own.graph object in
    unless_orderly (delete_fault o) (with_object own.graph object (record o { marked = true })) own orderly
    (λ none. put_orderly object (record o { marked = true }) own (orderly.objects (place_of object)) (λ named. named) orderly)

-- ---- an object is made

new_orderly : (class : ClassId) (given : List (AttrNo × Value)) (own : SessionState) → IsOrderlySession own → IsOrderlySession (record own { graph = made own.mapping class given own.graph })
new_orderly class given own orderly =
    let now : Graph = made own.mapping class given own.graph in
    let fresh : Object = fresh_object own.mapping class in
    record {
      well = orderly.well;
      objects = each_made own.mapping class given own.graph (HoldsItsKey own.mapping) orderly.objects (made_keyed own.mapping (object_with fresh given) (state_left fresh given));
      named = named_more (is_named_in own.graph) (is_named_in now) own.frames.scopes
          (λ place is. ap (λ (o : Object). is_named o.state o.identity) (made_before own.mapping class given own.graph place (named_inside own.graph place is)) ∙ is) orderly.named;
    }

room_orderly : (room : Bool) (fault : Option Refusal) (class : ClassId) (given : List (AttrNo × Value)) (own : SessionState) → IsOrderlySession own
    → IsOrderlySession (made_unless fault given own (if room then Ok (record { 0 = length own.graph.objects + 1 }, with_fresh own.graph own.mapping class) else Err (LimitReached Objects))).after
room_orderly room (Some fault) class given own orderly = orderly
room_orderly false None class given own orderly = orderly
room_orderly true None class given own orderly = new_orderly class given own orderly

pub object_orderly : (class : ClassId) (given : List (AttrNo × Value)) (own : SessionState) → IsOrderlySession own → IsOrderlySession (object_made class given own).after
unfolding object_made make
object_orderly class given own orderly = room_orderly (nat_lt (length own.graph.objects) object_limit) (first_given_fault own.mapping class given) class given own orderly

-- ---- objects come in

one_taken : (object : ObjId) (own : SessionState) → IsOrderlySession own → IsOrderlySession (session_taken object own)
one_taken object own orderly =
    let o : Object = object_at own.graph object in
    let number : ℕ = one_more own.added in
    put_orderly object (taken_under number o) (record own { added = added_then o.state own.added }) (λ less. taken_keyed own.mapping o.state number o refl (orderly.objects (place_of object) less)) (taken_named o.state number o refl)
    (record { well = orderly.well; objects = orderly.objects; named = orderly.named })

all_joined : (objects : List ObjId) (own : SessionState) → IsOrderlySession own → IsOrderlySession (session_joined objects own)
all_joined [] own orderly = orderly
all_joined (object ∷ objects) own orderly = all_joined objects (session_taken object own) (one_taken object own orderly)

without_mark : (object : ObjId) (own : SessionState) → IsOrderlySession own → IsOrderlySession (session_unmarked object own)
without_mark object own orderly =
    let o : Object = object_at own.graph object in
    put_orderly object (object_unmarked o) own (orderly.objects (place_of object)) (λ named. named) orderly

pub added_orderly : (object : ObjId) (own : SessionState) → IsOrderlySession own → IsOrderlySession (session_added object own)
added_orderly object own orderly =
    let objects : List ObjId = coming_objects own.mapping own.graph object in
    without_mark object (session_joined objects own) (all_joined objects own orderly)

-- ---- links change

-- the links of an object and its orphan mark tell nothing of its row
put_linked : (put : Option LinkPut) (own : SessionState) → IsOrderlySession own → IsOrderlySession (session_put put own)
put_linked None own orderly = orderly
put_linked (Some put) own orderly =
    let o : Object = object_at own.graph put.object in
    put_orderly put.object (record o { links = slice_set o.links put.relation.0 put.link }) own (orderly.objects (place_of put.object)) (λ named. named) orderly

orphan_marked : (object : ObjId) (orphan : Option Bool) (own : SessionState) → IsOrderlySession own → IsOrderlySession (session_orphaned object orphan own)
orphan_marked object None own orderly = orderly
orphan_marked object (Some orphan) own orderly =
    let o : Object = object_at own.graph object in
    put_orderly object (record o { orphan = orphan }) own (orderly.objects (place_of object)) (λ named. named) orderly

by_change : (owner : ObjId) (place : RelNo) (call : LinkCall) (own : SessionState) (found : Result Change Refusal) → IsOrderlySession own → IsOrderlySession (session_by owner place call own found)
by_change owner place call own (Err fault) orderly = orderly
by_change owner place call own (Ok change) orderly =
    let marked : SessionState = session_orphaned (child_of owner call) change.orphan own in
    let left : SessionState = session_put change.left marked in
    let joined : SessionState = session_put change.joined left in
    all_joined (coming_along own owner place call change) (session_linked (child_of owner call) change own)
    (put_linked change.own joined (put_linked change.joined left (put_linked change.left marked (orphan_marked (child_of owner call) change.orphan own orderly))))

pub linked_orderly : (owner : ObjId) (place : RelNo) (call : LinkCall) (own : SessionState) → IsOrderlySession own → IsOrderlySession (session_changed owner place call own)
unfolding session_changed
linked_orderly owner place call own orderly = by_change owner place call own (link_change own.graph own.mapping owner place call) orderly

-- ---- the objects were written, or are to be read again

pub flushed_session : (prepared : Prepared) (rows : RowChanges) (keys : List (List Value)) (own : SessionState) → IsOrderlySession own → IsOrderlySession (session_flushed prepared rows keys own)
flushed_session prepared rows keys own orderly =
    let written : Written = written_with own.mapping prepared rows keys own.graph in
    changed_orderly (graph_flushed own.mapping prepared rows keys own.graph) own (flushed_keyed written orderly.objects) (flushed_named written) orderly

pub if_keyed : (mapped : Mapped) (is_read : Bool) (o : Object) → HoldsItsKey mapped o → HoldsItsKey mapped (expired_if is_read o)
if_keyed mapped true o keyed = expired_keyed mapped o
if_keyed mapped false o keyed = keyed

pub if_named : (is_read : Bool) (o : Object) → is_named o.state o.identity ≡ true → is_named (expired_if is_read o).state (expired_if is_read o).identity ≡ true
if_named true o named = named
if_named false o named = named

pub if_settled : (is_read : Bool) (o : Object) → IsSettled o → IsSettled (expired_if is_read o)
if_settled true o settled = record { settled = settled.settled; unmarked = settled.unmarked }
if_settled false o settled = settled

pub reread_settled : (table : TableId) (own : SessionState) → EachObject IsSettled own.graph → EachObject IsSettled (session_reread table own).graph
reread_settled table own settled = each_changed IsSettled IsSettled (reread_of own.mapping table) own.graph settled (λ o one. if_settled (is_reread own.mapping table o) o one)

pub reread_orderly : (table : TableId) (own : SessionState) → IsOrderlySession own → IsOrderlySession (session_reread table own)
reread_orderly table own orderly =
    let change : Object → Object = reread_of own.mapping table in
    changed_orderly (graph_reread own.mapping table own.graph) own
    (each_changed (HoldsItsKey own.mapping) (HoldsItsKey own.mapping) change own.graph orderly.objects (λ o one. if_keyed own.mapping (is_reread own.mapping table o) o one))
    (named_each own.graph (graph_reread own.mapping table own.graph) (λ place o. change o) (λ place less. changed_at change own.graph place no_object less) (λ place o at named. if_named (is_reread own.mapping table o) o named))
    orderly

-- ---- scopes begin and end

pub begun_orderly : (own : SessionState) → IsOrderlySession own → IsOrderlySession (session_begun own)
begun_orderly own orderly = record { well = orderly.well; objects = orderly.objects; named = begun_named own.graph own.frames.scopes orderly.named }

pub nested_orderly : (own : SessionState) → IsOrderlySession own → IsOrderlySession (session_nested own)
nested_orderly own orderly = record { well = orderly.well; objects = orderly.objects; named = begun_named own.graph own.frames.scopes orderly.named }

pub released_orderly : (own : SessionState) → IsOrderlySession own → IsOrderlySession (session_released own)
unfolding scope_released
released_orderly own orderly = record {
  well = orderly.well;
  objects = orderly.objects;
  named = named_left (is_named_in own.graph) own.frames.scopes (length own.frames.scopes - (length own.frames.scopes - 1)) orderly.named;
}

pub rolled_orderly : (count : ℕ) (own : SessionState) → IsOrderlySession own → IsOrderlySession (session_rolled_back count own)
rolled_orderly count own orderly = record { well = orderly.well; objects = orderly.objects; named = orderly.named }

pub closed_orderly : (own : SessionState) → IsOrderlySession own → IsOrderlySession (session_closed own)
closed_orderly own orderly = record {
  well = orderly.well;
  objects = each_changed (HoldsItsKey own.mapping) (HoldsItsKey own.mapping) object_left own.graph orderly.objects (λ o one. left_keyed own.mapping o one);
  named = tt;
}

pub committed_orderly : (own : SessionState) → IsOrderlySession own → IsOrderlySession (session_committed own)
committed_orderly own orderly = record {
  well = orderly.well;
  objects = each_changed (HoldsItsKey own.mapping) (HoldsItsKey own.mapping) object_committed own.graph orderly.objects (λ o one. committed_keyed own.mapping o.state o refl one);
  named = tt;
}
