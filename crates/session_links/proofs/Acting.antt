-- The calls on links, put together of their parts.
use Rattle.std.proofs.Common.{◌≡◌, ◌<◌, Bool, true, false, List, length, Option, None, Some, is_some, Result, Ok, Err, IfErr, IsErrAnd, ◌⊎◌, inl, inr, ⊎_elim, refl, sym, ap, ◌∙◌, subst, if◌then◌else◌}
use Rattle.base_core.specs.Answers.{Refuses}
use Rattle.base_core.specs.declared.ids.ClassId.{ClassId}
use Rattle.base_core.specs.declared.ids.ObjId.{ObjId}
use Rattle.base_core.specs.declared.ids.RelNo.{RelNo}
use Rattle.base_core.specs.declared.refusal.Refusal.{Refusal}
use Rattle.base_core.specs.declared.refusal.Refusal.TheVariants as refusal
use Rattle.base_core.specs.declared.refusal.Refusal.TheVariants.{Memory}
use Rattle.base_core.specs.declared.refusal.RequestKind.TheVariants as request
use Rattle.class_types.specs.declared.mapped.Relation.{Relation}
use Rattle.class_mapping.specs.Mapped.{Mapped, partner_of, relations_of}
use Rattle.object_arena.specs.Fit.{relation_of}
use Rattle.object_arena.specs.Graph.{Graph, IsObject, object_at}
use Rattle.object_arena.specs.Identity.{IsGraph}
use Rattle.keeper_core.specs.Alone.{IsOwn}
use Rattle.keeper_core.specs.Store.{Store}
use Rattle.keeper_core.specs.Moment.{Moment}
use Rattle.relations.specs.declared.calls.LinkCall.{LinkCall}
use Rattle.relations.specs.declared.calls.LinkCall.TheVariants.{Set, Append, Remove}
use Rattle.relations.specs.declared.change.Change.{Change}
use Rattle.relations.specs.Calls.{child_of, end_of, lacks_member, link_change, links_appended, links_by, links_set, links_set_by, no_change, unless_fault}
use Rattle.relations.specs.Keys.{IsEnd, changes_key}
use Rattle.relations.specs.Mirror.{has_member, is_bad_end, is_gone, join_change, remove_change, set_change}
use Rattle.relations.specs.Parents.{old_parent}
use Rattle.session_scopes.specs.SessionState.{GoesOn, SessionState}
use Rattle.session_calls.specs.Calling.{IsSessionCall}
use Rattle.session_calls.specs.Steps.{enter}
use Rattle.session_calls.proofs.Joining.{err_call, then_call}
use Rattle.session_objects.proofs.OutsiderLemmas.{StayInside, outsiders_conflict, outsiders_join}
use Rattle.session_objects.specs.Conflicts.{conflict_fault}
use Rattle.session_objects.specs.Steps.{IsDoneInside}
use Rattle.session_objects.specs.Taking.{outsiders, session_joined}
use Rattle.session_links.specs.Linking.{change_fault, coming_if, fault_by, session_by, session_changed, session_linked}
use Rattle.session_links.specs.Steps.{change_inside, change_link}

-- ---- in the transaction

pub place_still : (old new : SessionState) (object : ObjId) (place : RelNo) → GoesOn old new → IsObject old.graph object → place.0 < length (relations_of old.mapping (object_at old.graph object).class) → place.0 < length (relations_of new.mapping (object_at new.graph object).class)
place_still old new object place on made less =
    subst (λ (k : ClassId). place.0 < length (relations_of new.mapping k)) (sym (on.there object made).1)
    (subst (λ (m : Mapped). place.0 < length (relations_of m (object_at old.graph object).class)) (sym on.mapping) less)

pub form_still : (old new : SessionState) (object : ObjId) (place : RelNo) (many : Bool) → GoesOn old new → IsObject old.graph object → (relation_of old.mapping (object_at old.graph object).class place).many ≡ many → (relation_of new.mapping (object_at new.graph object).class place).many ≡ many
form_still old new object place many on made is =
    ap (λ (k : ClassId). (relation_of new.mapping k place).many) (on.there object made).1
    ∙ ap (λ (m : Mapped). (relation_of m (object_at old.graph object).class place).many) on.mapping ∙ is

pub end_still : (old new : SessionState) (end : Option ObjId) → GoesOn old new → IsEnd old.graph end → IsEnd new.graph end
end_still old new None on made = tt
end_still old new (Some end) on made = (on.there end made).0

-- the object that may be an orphan
pub child_made : (graph : Graph) (owner : ObjId) (call : LinkCall) → IsObject graph owner → IsEnd graph (end_of call) → IsObject graph (child_of owner call)
child_made graph owner (Set parent) made end = made
child_made graph owner (Append member) made end = end
child_made graph owner (Remove member) made end = end

-- ---- the change of a link

pub changes_link : {K : Type 0} (moment : K → Moment Store) (owner : ObjId) (place : RelNo) (call : LinkCall) {own mid now : SessionState} {old between new : K} {r : Result (Unit {0}) Refusal} → IsSessionCall moment (λ (u : Unit {0}). u) enter (own, old) (Ok tt) (mid, between)
    → IsSessionCall moment (λ u. u) (change_inside owner place call) (mid, between) r (now, new) → IsSessionCall moment (λ u. u) (change_link owner place call) (own, old) r (now, new)
unfolding change_link
changes_link moment owner place call p q = then_call (λ u. change_inside owner place call) p q

pub changes_not : {Y K : Type 0} (moment : K → Moment Store) (owner : ObjId) (place : RelNo) (call : LinkCall) {v : Y → Unit {0}} {own now : SessionState} {old new : K} {e : Refusal} → IsSessionCall moment (λ (u : Unit {0}). u) enter (own, old) (Err e) (now, new)
    → IsSessionCall moment v (change_link owner place call) (own, old) (Err e) (now, new)
unfolding change_link
changes_not moment owner place call p = err_call (λ u. change_inside owner place call) p

-- a refusal of the change is its own
if_own : (b : Bool) (e : Refusal) (found : Result Change Refusal) → IsOwn e → IfErr found IsOwn → IfErr (let answer : Result Change Refusal = if b then Err e else found in answer) IsOwn
if_own true e found is others = is
if_own false e found is others = others

ends_own : (gone bad : Bool) (found : Result Change Refusal) → IfErr found IsOwn
    → IfErr (unless_fault (if gone then Some (refusal.InvalidRequestError request.BadOwner) else if bad then Some (refusal.InvalidRequestError request.BadMember) else None) found) IsOwn
ends_own true bad found others = (refl, refl)
ends_own false true found others = (refl, refl)
ends_own false false found others = others

set_own : (graph : Graph) (mapped : Mapped) (child : ObjId) (place : RelNo) (relation : Relation) (parent : Option ObjId) → IfErr (links_set graph mapped child place relation parent) IsOwn
unfolding links_set
set_own graph mapped child place relation parent =
    if_own (changes_key graph mapped child relation (old_parent graph mapped child place relation) parent) (refusal.InvalidRequestError request.KeyChange)
    (Ok (set_change graph mapped child place relation (old_parent graph mapped child place relation) parent)) (refl, refl) tt

appended_own : (graph : Graph) (mapped : Mapped) (owner : ObjId) (place : RelNo) (relation : Relation) (member : ObjId) → IfErr (links_appended graph mapped owner place relation member) IsOwn
appended_own graph mapped owner place relation member = by (has_member graph owner place member) (is_some relation.far) (partner_of mapped relation)
  where
    by : (there far : Bool) (link : Option Relation)
        → IfErr (let answer : Result Change Refusal = if there then Ok no_change else if far then Ok (join_change graph owner place relation member) else links_set_by graph mapped owner relation.partner member link in answer) IsOwn
    by true far link = tt
    by false true link = tt
    by false false None = tt
    by false false (Some link) = set_own graph mapped member relation.partner link (Some owner)

links_own : (graph : Graph) (mapped : Mapped) (owner : ObjId) (place : RelNo) (relation : Relation) (call : LinkCall) → IfErr (links_by graph mapped owner place relation call) IsOwn
links_own graph mapped owner place relation (Set parent) = set_own graph mapped owner place relation parent
links_own graph mapped owner place relation (Append member) = appended_own graph mapped owner place relation member
links_own graph mapped owner place relation (Remove member) =
    if_own (lacks_member graph owner place member) (refusal.InvalidRequestError request.NotAMember) (Ok (remove_change graph owner place relation member)) (refl, refl) tt

pub change_own : (graph : Graph) (mapped : Mapped) (owner : ObjId) (place : RelNo) (call : LinkCall) → IfErr (link_change graph mapped owner place call) IsOwn
unfolding link_change
change_own graph mapped owner place call =
    let relation : Relation = relation_of mapped (object_at graph owner).class place in
    ends_own (is_gone (object_at graph owner).state) (is_bad_end graph mapped relation.target (end_of call)) (links_by graph mapped owner place relation call) (links_own graph mapped owner place relation call)

-- memory ran out, or it is told
pub told_or : {A : Type 0} (e : Refusal) (told : Result A Refusal) → Refuses e told → (e ≡ Memory) ⊎ (told ≡ Err e)
told_or refusal.Memory told is = inl refl
told_or (refusal.InvalidRequestError kind) told is = inr is
told_or (refusal.ArgumentError kind) told is = inr is
told_or (refusal.TypeMismatch wanted found) told is = inr is
told_or (refusal.DataError op a b) told is = inr is
told_or (refusal.KeysSpent table) told is = inr is
told_or (refusal.CompileError table column) told is = inr is
told_or (refusal.ValidationError class attr name) told is = inr is
told_or (refusal.LimitReached kind) told is = inr is
told_or (refusal.ObjectDeletedError object) told is = inr is
told_or (refusal.DetachedInstanceError object) told is = inr is
told_or (refusal.CircularDependencyError rows) told is = inr is
told_or refusal.ResourceClosedError told is = inr is
told_or (refusal.IntegrityError kind table) told is = inr is
told_or (refusal.StaleDataError table) told is = inr is
told_or refusal.PendingRollbackError told is = inr is
told_or (refusal.ScriptError line column) told is = inr is
told_or (refusal.OperationalError table) told is = inr is
told_or refusal.KeeperFault told is = inr is
told_or refusal.NotBuilt told is = inr is

-- the links can not change
pub no_change_done : (own : SessionState) (owner : ObjId) (place : RelNo) (call : LinkCall) (after : SessionState) (e : Refusal) (r : Result (Unit {0}) Refusal) → Refuses e (link_change own.graph own.mapping owner place call) → IsErrAnd r (λ d. d ≡ e)
    → IsDoneInside (change_fault owner place call own) after own r own
unfolding change_fault
no_change_done own owner place call after e (Ok u) refuses passed = absurd passed
no_change_done own owner place call after e (Err d) refuses passed =
    ⊎_elim
    (λ (memory : e ≡ Memory). inl (passed ∙ memory))
    (λ (told : link_change own.graph own.mapping owner place call ≡ Err e).
    inr (
      ap (fault_by own owner place call) told ∙ ap Some (sym passed),
      refl,
      subst IsOwn (sym passed) (subst (λ (found : Result Change Refusal). IfErr found IsOwn) told (change_own own.graph own.mapping owner place call)),
    ))
    (told_or e (link_change own.graph own.mapping owner place call) refuses)

-- the objects that come in where a collection is joined or is not, but for those that are in the session
abbrev AreComing : Bool → SessionState → ObjId → RelNo → LinkCall → List ObjId → Type 0
AreComing joins own owner place call objects = objects ≡ outsiders own.graph (coming_if joins own owner place call)

pub fault_told : (own : SessionState) (owner : ObjId) (place : RelNo) (call : LinkCall) (change : Change) (objects : List ObjId) (fault : Option Refusal) → link_change own.graph own.mapping owner place call ≡ Ok change → IsGraph own.graph.objects own.graph.roots
    → AreComing (is_some change.joined) own owner place call objects → fault ≡ conflict_fault own.graph objects → change_fault owner place call own ≡ fault
unfolding change_fault
fault_told own owner place call change objects fault told graph is found =
    ap (fault_by own owner place call) told
    ∙ sym (found ∙ ap (conflict_fault own.graph) is ∙ outsiders_conflict own.graph (coming_if (is_some change.joined) own owner place call) graph)

-- nothing is against it
pub changed_as : (owner : ObjId) (place : RelNo) (call : LinkCall) (change : Change) (objects : List ObjId) (child : ObjId) (own now : SessionState) → link_change own.graph own.mapping owner place call ≡ Ok change
    → StayInside own.graph (session_linked child change own).graph → AreComing (is_some change.joined) own owner place call objects → child ≡ child_of owner call → now ≡ session_joined objects (session_linked child change own)
    → now ≡ session_changed owner place call own
unfolding session_changed
changed_as owner place call change objects child own now told stay is whose put =
    let coming : List ObjId = coming_if (is_some change.joined) own owner place call in
    put ∙ ap (λ (os : List ObjId). session_joined os (session_linked child change own)) is
    ∙ outsiders_join own.graph coming (session_linked child change own) stay
    ∙ ap (λ (c : ObjId). session_joined coming (session_linked c change own)) whose
    ∙ sym (ap (session_by owner place call own) told)
