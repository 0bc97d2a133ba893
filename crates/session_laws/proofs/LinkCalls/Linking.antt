-- The change of a link keeps a session sound.
use Rattle.std.proofs.Common.{◌≡◌, ℕ, ◌+◌, ◌<◌, ◌≤◌, Bool, true, false, cond, List, [], ◌∷◌, length, zero, suc, Option, None, Some, Result, Ok, Err, is_some, refl, sym, ap, ◌∙◌, subst, arith}
use Rattle.std.specs.Prelude.{slice_set, map, not, ◌==◌, ◌&&◌, ◌||◌, if◌then◌else◌}
use Rattle.std.specs.List.{filter, list_all, range_with_len}
use Rattle.std.proofs.lemmas.Bool.{eq-eqb, eqb-true}
use Rattle.base_core.specs.declared.ids.ClassId.{ClassId}
use Rattle.base_core.specs.declared.ids.ObjId.{ObjId}
use Rattle.base_core.specs.declared.ids.RelNo.{RelNo}
use Rattle.base_core.specs.declared.refusal.Refusal.{Refusal}
use Rattle.base_core.specs.declared.refusal.Refusal.TheVariants.{InvalidRequestError}
use Rattle.base_core.specs.declared.refusal.RequestKind.TheVariants as requests
use Rattle.cascades.specs.declared.closures.Flag.TheVariants.{SaveUpdate}
use Rattle.cascades.specs.Closures.{closure_of, has_beside, is_among, sublists}
use Rattle.class_mapping.specs.Mapped.{Mapped}
use Rattle.object_arena.specs.declared.object.Object.{Object}
use Rattle.object_arena.specs.Fit.{IsFit}
use Rattle.object_arena.specs.Graph.{Graph, IsObject, object_at, with_link}
use Rattle.object_arena.specs.Identity.{id_of_place}
use Rattle.keeper_core.specs.Store.{Store}
use Rattle.keeper_core.specs.Beside.{changes}
use Rattle.relations.specs.declared.calls.LinkCall.{LinkCall}
use Rattle.relations.specs.declared.change.Change.{Change}
use Rattle.relations.specs.declared.change.LinkPut.{LinkPut}
use Rattle.relations.specs.Calls.{child_of, end_of, link_change}
use Rattle.relations.specs.Keys.{IsEnd}
use Rattle.relations.specs.Mirror.{with_orphan}
use Rattle.relations.specs.Places.{IsPlaced, IsPutIn}
use Rattle.object_parts.specs.Sides.{without}
use Rattle.session_parts.specs.Depths.{has_scope}
use Rattle.session_scopes.specs.SessionState.{SessionState}
use Rattle.session_calls.specs.Parts.{World, fault_if}
use Rattle.session_calls.specs.Steps.{enter}
use Rattle.session_objects.specs.Conflicts.{has_conflict}
use Rattle.session_objects.specs.Taking.{AreOnce, coming_objects}
use Rattle.session_objects.proofs.JoiningLemmas.{come_still, may_come, may_join}
use Rattle.session_objects.proofs.OutsiderLemmas.{outsiders_once}
use Rattle.session_links.specs.Linking.{all_with, brings_in, change_fault, coming_along, fault_by, session_by, session_changed, session_linked, session_orphaned, session_put}
use Rattle.session_links.specs.Relinked.{IsRelinked}
use Rattle.session_links.specs.Steps.{change_inside, change_link}
use Rattle.session_links.proofs.Acting.{child_made}
use Rattle.session_links.proofs.PutLemmas.{placed_later, relinked_more, relinked_orphan, relinked_put, relinked_same, stand_alike}
use Rattle.session_laws.specs.Sound.{IsFresh, IsMarkedRight, IsSound}
use Rattle.session_laws.proofs.Sound.Beginning.{enter_sound, entered_graph, entered_mapping, entered_open}
use Rattle.session_laws.proofs.Sound.Changes.{object_of, one_changed}
use Rattle.session_laws.proofs.Sound.Objects.{stands_kept}
use Rattle.session_laws.proofs.Sound.Programs.{checked_then, then_sound}
use Rattle.session_laws.proofs.Calls.Adding.{all_joined, still_open}
use Rattle.session_laws.specs.LinkCalls.{ChangingLinksKeepsSound}
use Rattle.session_laws.proofs.LinkCalls.Placing.{change_placed}

-- ---- those that come in are told once

ids : ℕ → ℕ → List ObjId
ids k n = map id_of_place (range_with_len k n)

later_number : (n m : ℕ) → n < m → (n == m) ≡ false
later_number n m less = by (n == m) refl
  where
    by : (b : Bool) → (n == m) ≡ b → b ≡ false
    by true same = let is : n ≡ m = eqb-true n m same in absurd (omega (arith, is, less))
    by false same = refl

-- an object is none of those behind it
none_behind : (p : ObjId → Bool) (object : ObjId) (k n : ℕ) → object.0 < k + 1 → is_among (filter p (ids k n)) object ≡ false
unfolding ids
none_behind p object k zero less = refl
none_behind p object k (suc n) less = by (p (id_of_place k)) (none_behind p object (k + 1) n (omega (arith, less)))
  where
    rest : List ObjId
    rest = filter p (map id_of_place (range_with_len (k + 1) n))

    by : (b : Bool) → is_among rest object ≡ false → is_among (cond b (id_of_place k ∷ rest) rest) object ≡ false
    by true none = ap (λ (b : Bool). b || is_among rest object) (later_number object.0 (k + 1) less) ∙ none
    by false none = none

once_ids : (graph : Graph) (p : ObjId → Bool) (k n : ℕ) → k + n ≤ length graph.objects → AreOnce graph (filter p (ids k n))
unfolding ids
once_ids graph p k zero few = tt
once_ids graph p k (suc n) few = by (p (id_of_place k)) (once_ids graph p (k + 1) n (omega (arith, few)))
  where
    rest : List ObjId
    rest = filter p (map id_of_place (range_with_len (k + 1) n))

    by : (b : Bool) → AreOnce graph rest → AreOnce graph (cond b (id_of_place k ∷ rest) rest)
    by true once = ((omega arith, omega (arith, few)), none_behind p (id_of_place k) (k + 1) n (omega arith), once)
    by false once = once

-- an object is none of the others
none_of_others : (object : ObjId) (objects : List ObjId) → is_among (without objects object) object ≡ false
none_of_others object [] = refl
none_of_others object (other ∷ objects) = by (other.0 == object.0) refl (none_of_others object objects)
  where
    rest : List ObjId
    rest = without objects object

    turned : (b : Bool) → (object.0 == other.0) ≡ b → (other.0 == object.0) ≡ false → b ≡ false
    turned true same differs = absurd (let e : true ≡ false = sym (eq-eqb other.0 object.0 (sym (eqb-true object.0 other.0 same))) ∙ differs in cc)
    turned false same differs = refl

    by : (b : Bool) → (other.0 == object.0) ≡ b → is_among rest object ≡ false → is_among (cond (not b) (other ∷ rest) rest) object ≡ false
    by true is none = none
    by false is none = ap (λ (b : Bool). b || is_among rest object) (turned (object.0 == other.0) refl is) ∙ none

pub always_once : (mapped : Mapped) (graph : Graph) (object : ObjId) → IsObject graph object → AreOnce graph (coming_objects mapped graph object)
unfolding closure_of ids
always_once mapped graph object made =
    let inside : ObjId → Bool = λ other. list_all (has_beside SaveUpdate mapped graph object other) (sublists (map id_of_place (range_with_len 0 (length graph.objects)))) in (
      made,
      none_of_others object (filter inside (map id_of_place (range_with_len 0 (length graph.objects)))),
      outsiders_once graph (λ (other : ObjId). not (other.0 == object.0)) (filter inside (map id_of_place (range_with_len 0 (length graph.objects)))) (once_ids graph inside 0 (length graph.objects) (omega arith)),
    )

ends_once : (own : SessionState) (end : Option ObjId) → IsEnd own.graph end → AreOnce own.graph (all_with own end)
ends_once own None made = tt
ends_once own (Some end) made = always_once own.mapping own.graph end made

along_once : (own : SessionState) (owner : ObjId) (place : RelNo) (call : LinkCall) (change : Change) → IsEnd own.graph (end_of call) → AreOnce own.graph (coming_along own owner place call change)
along_once own owner place call change made = by (is_some change.joined && brings_in own owner place)
  where
    by : (b : Bool) → AreOnce own.graph (if b then all_with own (end_of call) else [])
    by true = ends_once own (end_of call) made
    by false = tt

-- ---- one link

-- what is kept while links are put in one by one
record IsLinked (own now : SessionState) (store : Store) : Type 0 where
  relinked : IsRelinked own.graph now.graph
  opened : has_scope now.frames.scopes ≡ true
  sound : IsSound (record { own = now; store = store })

orphan_linked : (child : ObjId) (orphan : Option Bool) (own : SessionState) (store : Store) → IsObject own.graph child → has_scope own.frames.scopes ≡ true → IsSound (record { own = own; store = store }) → IsLinked own (session_orphaned child orphan own) store
orphan_linked child None own store made opened sound = record { relinked = relinked_same own.graph; opened = opened; sound = sound }
orphan_linked child (Some orphan) own store made opened sound =
    let o : Object = object_at own.graph child in
    let new : Object = record o { orphan = orphan } in
    record {
      relinked = relinked_orphan own.graph child orphan made;
      opened = still_open (with_orphan own.graph child (Some orphan)) own opened;
      sound = one_changed own store child new opened made (stands_kept own.graph child new made sound.graph refl refl) (object_of (IsFresh own.mapping store.tables) own.graph child made sound.fresh)
          (object_of IsMarkedRight own.graph child made sound.marked) sound;
    }

put_linked : (put : Option LinkPut) (own now : SessionState) (store : Store) → IsPutIn own.graph put → IsLinked own now store → IsLinked own (session_put put now) store
put_linked None own now store placed linked = linked
put_linked (Some put) own now store placed linked =
    let there = placed_later own.graph now.graph (Some put) linked.relinked placed in
    let o : Object = object_at now.graph put.object in
    let new : Object = record o { links = slice_set o.links put.relation.0 put.link } in
    record {
      relinked = relinked_more linked.relinked (relinked_put now.graph put there.0);
      opened = still_open (with_link now.graph put.object put.relation put.link) now linked.opened;
      sound = one_changed now store put.object new linked.opened there.0 (stands_kept now.graph put.object new there.0 linked.sound.graph refl refl) (object_of (IsFresh now.mapping store.tables) now.graph put.object there.0 linked.sound.fresh)
          (object_of IsMarkedRight now.graph put.object there.0 linked.sound.marked) linked.sound;
    }

all_linked : (child : ObjId) (change : Change) (own : SessionState) (store : Store) → IsObject own.graph child → IsPlaced own.graph change → has_scope own.frames.scopes ≡ true → IsSound (record { own = own; store = store }) → IsLinked own (session_linked child change own) store
all_linked child change own store made placed opened sound =
    let orphaned = orphan_linked child change.orphan own store made opened sound in
    let left = put_linked change.left own (session_orphaned child change.orphan own) store placed.left orphaned in
    let joined = put_linked change.joined own (session_put change.left (session_orphaned child change.orphan own)) store placed.joined left in
    put_linked change.own own (session_put change.joined (session_put change.left (session_orphaned child change.orphan own))) store placed.own joined

-- ---- the call

no_conflict : (b : Bool) (fault : Refusal) → fault_if b fault ≡ None → b ≡ false
no_conflict true fault is = absurd cc
no_conflict false fault is = refl

changed_by_sound : (owner : ObjId) (place : RelNo) (call : LinkCall) (own : SessionState) (store : Store) (found : Result Change Refusal) → link_change own.graph own.mapping owner place call ≡ found → IsFit own.mapping own.graph → IsObject own.graph owner
    → IsEnd own.graph (end_of call) → fault_by own owner place call found ≡ None → has_scope own.frames.scopes ≡ true → IsSound (record { own = own; store = store }) → IsSound (record { own = session_by owner place call own found; store = store })
changed_by_sound owner place call own store (Err fault) is fit made end none opened sound = sound
changed_by_sound owner place call own store (Ok change) is fit made end none opened sound =
    let objects : List ObjId = coming_along own owner place call change in
    let child : ObjId = child_of owner call in
    let placed : IsPlaced own.graph change = change_placed own.graph own.mapping owner place call change fit made end is in
    let linked = all_linked child change own store (child_made own.graph owner call made end) placed opened sound in
    let free : has_conflict own.graph objects ≡ false = no_conflict (has_conflict own.graph objects) (InvalidRequestError requests.IdentityConflict) none in
    let now : SessionState = session_linked child change own in
    (all_joined objects now store
    (may_join objects now
    (ap (λ (roots : List ClassId). length roots) linked.relinked.roots ∙ sound.graph.rooted ∙ sym linked.relinked.places.objects)
    (come_still own.graph now.graph objects (stand_alike own.graph now.graph linked.relinked) (may_come own.graph objects sound.graph free (along_once own owner place call change end))))
    linked.opened linked.sound).sound

inside_sound : (owner : ObjId) (place : RelNo) (call : LinkCall) (v : World) → IsFit v.own.mapping v.own.graph → IsObject v.own.graph owner → IsEnd v.own.graph (end_of call) → has_scope v.own.frames.scopes ≡ true → IsSound v → IsSound (change_inside owner place call v).after
unfolding changes change_fault session_changed
inside_sound owner place call v fit made end opened sound =
    checked_then (change_fault owner place call) (λ u. changes (session_changed owner place call)) v sound
    (λ u none. changed_by_sound owner place call v.own v.store (link_change v.own.graph v.own.mapping owner place call) refl fit made end none opened sound)

pub change_sound : ChangingLinksKeepsSound
unfolding change_link
change_sound owner place call w fit made end sound =
    then_sound enter (λ u. change_inside owner place call) w (enter_sound w sound)
    (λ u is. inside_sound owner place call (enter w).after
    (subst (λ (m : Mapped). IsFit m (enter w).after.own.graph) (sym (entered_mapping w)) (subst (λ (g : Graph). IsFit w.own.mapping g) (sym (entered_graph w)) fit))
    (subst (λ (g : Graph). IsObject g owner) (sym (entered_graph w)) made)
    (subst (λ (g : Graph). IsEnd g (end_of call)) (sym (entered_graph w)) end)
    (entered_open w u is) (enter_sound w sound))
