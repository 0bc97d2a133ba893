-- Why a cell is not set, from what is done in the transaction to the call.
use Rattle.std.proofs.Common.{◌≡◌, ◌<◌, Bool, true, false, length, Option, None, Some, Result, Ok, Err, IfErr, sym, ap, ◌∙◌, if◌then◌else◌}
use Rattle.base_core.specs.declared.ids.AttrNo.{AttrNo}
use Rattle.base_core.specs.declared.ids.ObjId.{ObjId}
use Rattle.base_core.specs.declared.value.Value.{Value}
use Rattle.base_core.specs.declared.refusal.Refusal.{Refusal}
use Rattle.base_core.specs.declared.refusal.Refusal.TheVariants.{PendingRollbackError}
use Rattle.object_arena.specs.Graph.{either_fault, object_at, value_fault}
use Rattle.session_parts.proofs.ScopeLemmas.{inside}
use Rattle.session_scopes.specs.Scoping.{session_begun}
use Rattle.session_scopes.specs.SessionState.{AreAlikeButNotes, SessionState, in_transaction}
use Rattle.session_calls.specs.Parts.{fault_if}
use Rattle.session_calls.specs.Refusals.{Before, Early, Inside, IsRefused, entered, kept_fault, set_fault}
use Rattle.session_calls.specs.Steps.{pending_fault}
use Rattle.session_calls.proofs.Refusing.{none_awaited, refused_inside}
use Rattle.session_objects.specs.ValueSteps.{cell_kept, judged_fault}

-- where the last two of three faults are none, the first is that of any two of which it is the first
first_two : (a b c d : Option Refusal) (e : Refusal) → b ≡ None → c ≡ None → either_fault a (either_fault b c) ≡ Some e → either_fault a d ≡ Some e
first_two (Some fault) b c d e no_second no_third is = is
first_two None b c d e no_second no_third is = absurd (let n : None ≡ Some e = sym (ap (λ (f : Option Refusal). either_fault f c) no_second ∙ no_third) ∙ is in cc)

-- where none of them is, it is the other of the two
last_of : (a b c d : Option Refusal) (e : Refusal) → either_fault a (either_fault b c) ≡ None → d ≡ Some e → either_fault a d ≡ Some e
last_of (Some fault) b c d e none is = absurd cc
last_of None b c d e none is = is

-- the session was in the transaction when the fault inside was found
inside_still : (own mid now : SessionState) → in_transaction mid ≡ true → AreAlikeButNotes (entered own) mid → AreAlikeButNotes (entered mid) now → AreAlikeButNotes (entered own) now
inside_still own mid now begun alike then_ =
    then_ ∙ ap (λ (b : Bool). record mid { frames = if b then mid.frames else (session_begun mid).frames; notes = now.notes }) begun
    ∙ ap (λ (s : SessionState). record s { notes = now.notes }) alike

pub judged_refused : (object : ObjId) (attr : AttrNo) (value : Value) (own mid now : SessionState) (r : Result (Unit {0}) Refusal) → value_fault own.mapping (object_at own.graph object) attr value ≡ None → AreAlikeButNotes (entered own) mid → mid.failed ≡ false → 0 < length mid.frames.scopes
    → IfErr r (λ e. IsRefused (either_fault (cell_kept object attr mid) (set_fault object attr value mid)) (kept_fault object attr mid) mid e now)
    → IfErr r (λ e. IsRefused (pending_fault own) (judged_fault object attr own) own e now)
judged_refused object attr value own mid now (Ok u) fits alike well begun refused = tt
judged_refused object attr value own mid now (Err e) fits alike well begun refused = by refused
  where
    kept : Option Refusal
    kept = cell_kept object attr mid

    kind : Option Refusal
    kind = value_fault mid.mapping (object_at mid.graph object) attr value

    of_kind : kind ≡ None
    of_kind = ap (λ (s : SessionState). value_fault s.mapping (object_at s.graph object) attr value) alike ∙ fits

    told : judged_fault object attr mid ≡ judged_fault object attr own
    told = ap (judged_fault object attr) alike

    by : IsRefused (either_fault (cell_kept object attr mid) (set_fault object attr value mid)) (kept_fault object attr mid) mid e now → IsRefused (pending_fault own) (judged_fault object attr own) own e now
    by (Early early) = Early early
    by (Before is same) =
        refused_inside (judged_fault object attr) own mid now alike well
        (first_two kept kind (pending_fault mid) (kept_fault object attr mid) e of_kind (ap (λ (b : Bool). fault_if b PendingRollbackError) well) is) same
    by (Inside none is after) =
        Inside (none_awaited own mid alike well) (sym told ∙ last_of kept kind (pending_fault mid) (kept_fault object attr mid) e none is)
        (inside_still own mid now (inside mid.frames.scopes begun) alike after)
