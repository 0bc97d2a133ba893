-- The calls that are put together of what is judged of values.
use Rattle.std.proofs.Common.{◌≡◌, List, length, Option, None, Some, Result, Err, refl, sym, ap, subst}
use Rattle.base_core.specs.declared.ids.AttrNo.{AttrNo}
use Rattle.base_core.specs.declared.ids.ClassId.{ClassId}
use Rattle.base_core.specs.declared.ids.ObjId.{ObjId}
use Rattle.base_core.specs.declared.refusal.Refusal.{Refusal}
use Rattle.base_core.specs.declared.refusal.Refusal.TheVariants.{Memory}
use Rattle.base_core.specs.declared.value.Value.{Value}
use Rattle.class_types.specs.Rules.{Rules}
use Rattle.object_arena.specs.Graph.{either_fault, object_at, value_fault}
use Rattle.keeper_core.specs.Alone.{IsOwn, IsQuiet}
use Rattle.keeper_core.specs.Store.{Store}
use Rattle.keeper_core.specs.Programs.{Run, quiet}
use Rattle.keeper_core.specs.Moment.{Moment}
use Rattle.keeper_core.proofs.Sequence.{no_memory}
use Rattle.session_scopes.specs.Making.{object_made}
use Rattle.session_scopes.specs.SessionState.{IsInStep, SessionState}
use Rattle.session_calls.specs.Calling.{IsSessionCall}
use Rattle.session_calls.specs.Parts.{World}
use Rattle.session_calls.specs.Steps as calls
use Rattle.session_calls.proofs.Joining.{err_call, fails, passes, goes_itself, stays_there, then_call}
use Rattle.session_objects.specs.ValueSteps.{cell_kept, given_fault, made_unless, set_inside, set_judged, set_valid, valid_made, value_invalid, value_untaken}

-- ---- objects are made

quiet_refusal : {S A X : Type 0} (view : X → A) (run : Run S A) (now : S) (e : Refusal) → run ≡ quiet (Err e) now → IsOwn e → IsQuiet view run (Err e) now
quiet_refusal view run now Memory is own = tt
quiet_refusal view run now e is own = (is, own)

pub not_made : (rules : Rules) (class : ClassId) (given : List (AttrNo × Value)) (session : SessionState) (e : Refusal) → Some e ≡ given_fault rules session.mapping class given → IsOwn e
    → IsQuiet (λ (o : ObjId). o) (valid_made rules class given session) (Err e) session
unfolding valid_made
not_made rules class given session e fault own = quiet_refusal (λ (o : ObjId). o) (valid_made rules class given session) session e (ap (λ f. made_unless f class given session) (sym fault)) own

pub is_made : (rules : Rules) (class : ClassId) (given : List (AttrNo × Value)) (session now : SessionState) (r : Result ObjId Refusal) → None ≡ given_fault rules session.mapping class given
    → IsQuiet (λ (o : ObjId). o) (object_made class given session) r now → IsQuiet (λ (o : ObjId). o) (valid_made rules class given session) r now
unfolding valid_made
is_made rules class given session now r none quiet = subst (λ f. IsQuiet (λ (o : ObjId). o) (made_unless f class given session) r now) none quiet

-- ---- cells are set

no_first : (a b : Option Refusal) → None ≡ either_fault a b → a ≡ None
no_first None b none = refl
no_first (Some fault) b none = absurd cc

-- a value that nothing is against is of its attribute's kind
pub of_kind : (rules : Rules) (object : ObjId) (attr : AttrNo) (value : Value) (session : SessionState) → None ≡ value_invalid rules object attr value session → value_fault session.mapping (object_at session.graph object) attr value ≡ None
of_kind rules object attr value session none = no_first (value_fault session.mapping (object_at session.graph object) attr value) (value_untaken rules object attr value session) none

-- there was no memory
pub full_call : {A X K : Type 0} (moment : K → Moment Store) {v : X → A} {m : World → Run World A} {own : SessionState} {keeper : K} → IsInStep own (moment keeper) → IsSessionCall moment v m (own, keeper) (Err Memory) (own, keeper)
full_call {X = X} moment {own = own} {keeper = keeper} in_step = record {
  step = no_memory;
  kept = record { same = goes_itself own; in_step = stays_there {X = X} (Err Memory) (length own.frames.scopes) (moment keeper) in_step };
}

module _ {K : Type 0} (moment : K → Moment Store) (object : ObjId) (attr : AttrNo) (value : Value) where
  pub sets_not : (rules : Rules) {own : SessionState} {keeper : K} {e : Refusal} → Some e ≡ value_invalid rules object attr value own → IsOwn e → IsInStep own (moment keeper)
      → IsSessionCall moment (λ (u : Unit {0}). u) (set_valid rules object attr value) (own, keeper) (Err e) (own, keeper)
  unfolding set_valid
  sets_not rules fault own in_step = err_call (λ u. set_judged object attr value) (fails moment (value_invalid rules object attr value) {v = λ (u : Unit {0}). u} (sym fault) own in_step)

  pub sets : (rules : Rules) {own now : SessionState} {old new : K} {r : Result (Unit {0}) Refusal} → None ≡ value_invalid rules object attr value own → IsInStep own (moment old)
      → IsSessionCall moment (λ u. u) (set_judged object attr value) (own, old) r (now, new) → IsSessionCall moment (λ u. u) (set_valid rules object attr value) (own, old) r (now, new)
  unfolding set_valid
  sets rules none in_step p = then_call (λ u. set_judged object attr value) (passes moment (value_invalid rules object attr value) (sym none) in_step) p

  pub kept : {own : SessionState} {keeper : K} {e : Refusal} → Some e ≡ cell_kept object attr own → IsOwn e → IsInStep own (moment keeper)
      → IsSessionCall moment (λ (u : Unit {0}). u) (set_inside object attr value) (own, keeper) (Err e) (own, keeper)
  kept fault own in_step = err_call (λ u. calls.set_cell object attr value) (fails moment (cell_kept object attr) {v = λ (u : Unit {0}). u} (sym fault) own in_step)

  pub given : {own now : SessionState} {old new : K} {r : Result (Unit {0}) Refusal} → None ≡ cell_kept object attr own → IsInStep own (moment old)
      → IsSessionCall moment (λ u. u) (calls.set_cell object attr value) (own, old) r (now, new) → IsSessionCall moment (λ u. u) (set_inside object attr value) (own, old) r (now, new)
  given none in_step p = then_call (λ u. calls.set_cell object attr value) (passes moment (cell_kept object attr) (sym none) in_step) p
