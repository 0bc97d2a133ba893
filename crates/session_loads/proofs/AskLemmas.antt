-- What is asked of a session before rows are read.
use Rattle.std.proofs.Common.{◌≡◌, Bool, true, false, ◌&&◌, not, List, Option, None, Some, is_some, Result, Ok, Err, IfErr, IsErrAnd, inl, inr, ⊎_elim, refl, sym, ap, ◌∙◌, subst}
use Rattle.base_core.specs.Answers.{Refuses}
use Rattle.base_core.specs.declared.ids.ObjId.{ObjId}
use Rattle.base_core.specs.declared.ids.RelNo.{RelNo}
use Rattle.base_core.specs.declared.refusal.Refusal.{Refusal}
use Rattle.base_core.specs.declared.refusal.Refusal.TheVariants.{Memory}
use Rattle.object_arena.specs.Identity.{IsGraph}
use Rattle.object_arena.specs.Graph.{either_fault}
use Rattle.keeper_core.specs.Alone.{IsOwn}
use Rattle.relations.specs.declared.calls.LinkCall.{LinkCall}
use Rattle.relations.specs.declared.change.Change.{Change}
use Rattle.relations.specs.Calls.{link_change}
use Rattle.session_scopes.specs.SessionState.{SessionState}
use Rattle.session_calls.specs.Parts.{fault_if}
use Rattle.session_objects.proofs.OutsiderLemmas.{outsiders_conflict}
use Rattle.session_objects.specs.Conflicts.{conflict_fault}
use Rattle.session_objects.specs.Steps.{IsDoneInside}
use Rattle.session_objects.specs.Taking.{outsiders}
use Rattle.session_links.specs.Linking.{coming_if}
use Rattle.session_links.proofs.Acting.{change_own, told_or}
use Rattle.session_loads.specs.Asking.{asked_fault, fault_along}

-- nothing is to be read, or the object is persistent
pub none_detached : (asked persistent : Bool) (fault : Refusal) → fault_if (asked && not persistent) fault ≡ None → asked ≡ true → persistent ≡ true
none_detached true true fault none is = refl
none_detached true false fault none is = absurd cc
none_detached false persistent fault none is = absurd cc

-- ---- the change of a link

-- the links can not change
pub not_linked : (own : SessionState) (owner : ObjId) (place : RelNo) (call : LinkCall) (e : Refusal) (r : Result (Unit {0}) Refusal) → Refuses e (link_change own.graph own.mapping owner place call) → IsErrAnd r (λ d. d ≡ e) → IsDoneInside (asked_fault owner place call own) own own r own
unfolding asked_fault
not_linked own owner place call e (Ok u) refuses passed = absurd passed
not_linked own owner place call e (Err d) refuses passed =
    ⊎_elim
    (λ (memory : e ≡ Memory). inl (passed ∙ memory))
    (λ (told : link_change own.graph own.mapping owner place call ≡ Err e).
    inr (
      ap (fault_along own owner place call) told ∙ ap Some (sym passed),
      refl,
      subst IsOwn (sym passed) (subst (λ (found : Result Change Refusal). IfErr found IsOwn) told (change_own own.graph own.mapping owner place call)),
    ))
    (told_or e (link_change own.graph own.mapping owner place call) refuses)

-- they can, and something or nothing is against what comes in with them
pub asked_told : (own : SessionState) (owner : ObjId) (place : RelNo) (call : LinkCall) (change : Change) (objects : List ObjId) (fault : Option Refusal) → link_change own.graph own.mapping owner place call ≡ Ok change → IsGraph own.graph.objects own.graph.roots
    → objects ≡ outsiders own.graph (coming_if (is_some change.joined) own owner place call) → fault ≡ conflict_fault own.graph objects → asked_fault owner place call own ≡ fault
unfolding asked_fault
asked_told own owner place call change objects fault told graph is found =
    ap (fault_along own owner place call) told
    ∙ sym (found ∙ ap (conflict_fault own.graph) is ∙ outsiders_conflict own.graph (coming_if (is_some change.joined) own owner place call) graph)

-- the first of two faults, or the second
pub either_first : (first second : Option Refusal) (e : Refusal) → first ≡ Some e → either_fault first second ≡ Some e
either_first first second e is = ap (λ (f : Option Refusal). either_fault f second) is

pub either_second : (first second : Option Refusal) (e : Refusal) → first ≡ None → second ≡ Some e → either_fault first second ≡ Some e
either_second first second e none is = ap (λ (f : Option Refusal). either_fault f second) none ∙ is
