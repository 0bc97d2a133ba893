-- What is asked before a flush keeps a session sound, and so do the ends of savepoints by a handle and the whole commit behind it.
use Rattle.std.proofs.Common.{◌≡◌, ℕ, ◌+◌, ◌-◌, ◌<◌, length, zero, suc, Option, None, Some, refl, sym, ap, ◌∙◌, subst, arith}
use Rattle.std.specs.Prelude.{◌==◌}
use Rattle.std.proofs.lemmas.List.Quantifiers.{position-Some}
use Rattle.base_core.specs.declared.refusal.Refusal.{Refusal}
use Rattle.expr_types.specs.declared.select.Bulk.{Bulk}
use Rattle.keeper_core.specs.Calls as call
use Rattle.keeper_core.specs.Programs.{◌>>=◌, give}
use Rattle.keeper_core.specs.Beside.{by_own, changes, on_store}
use Rattle.session_scopes.specs.Handles.{place_of_handle}
use Rattle.session_scopes.specs.SessionState.{SessionState, depth_in}
use Rattle.session_calls.specs.Parts.{World, checked}
use Rattle.session_calls.specs.Steps.{enter, pending_fault}
use Rattle.session_acts.specs.Savepoints.{check_handle, commit_transaction, commit_whole, enter_nested, handle_fault, limit_fault, release_handle, release_many, release_one, release_place}
use Rattle.session_statements.specs.Steps.{enter_bulk, update_fault}
use Rattle.session_laws.specs.Sound.{EachObject, IsCommittable, IsSettled, IsSound, IsWell, KeepsSound}
use Rattle.session_laws.proofs.Calls.Nesting.{commit_sound, releases_sound}
use Rattle.session_laws.proofs.Sound.Programs.{checked_same, checked_then, entered_then, then_sound}

-- ---- what is asked

asked_sound : (fault : SessionState → Option Refusal) (w : World) → IsSound w → IsSound (checked fault w).after
asked_sound fault w sound = subst IsSound (sym (checked_same fault w)) sound

enter_asking : (fault : SessionState → Option Refusal) → KeepsSound (enter >>= λ u. checked fault)
enter_asking fault w sound = entered_then (λ u. checked fault) w sound (λ u v graph opened entered. asked_sound fault v entered)

pub nested_asked : KeepsSound enter_nested
unfolding enter_nested
nested_asked = enter_asking limit_fault

pub bulk_asked : (statement : Bulk) → KeepsSound (enter_bulk statement)
unfolding enter_bulk
bulk_asked statement = enter_asking (update_fault statement)

pub handle_asked : (handle : ℕ) → KeepsSound (check_handle handle)
unfolding check_handle
handle_asked handle w sound = checked_then pending_fault (λ u. checked (handle_fault handle)) w sound (λ u none. asked_sound (handle_fault handle) w sound)

-- ---- the ends of savepoints

-- as many savepoints as scopes inside the transaction
handles_long : (w : World) → IsWell w → length w.own.drawn.handles ≡ length w.own.frames.scopes - 1
handles_long w well = well.handled ∙ ap (λ failed. depth_in failed w.own.frames.scopes - 1) well.well

placed_release : (handle : ℕ) (place : Option ℕ) (w : World) → place_of_handle w.own.drawn handle ≡ place → IsWell w → IsSound w → IsSound (release_place place w).after
unfolding give
placed_release handle None w at well sound = sound
placed_release handle (Some place) w at well sound =
    let inside : place < length w.own.drawn.handles = (position-Some (λ other. other == handle) w.own.drawn.handles place 0 at).0 in
    releases_sound (place + 1) w (omega (arith, inside, handles_long w well)) sound

pub handle_released : (handle : ℕ) (w : World) → IsWell w → IsSound w → IsSound (release_handle handle w).after
unfolding release_handle by_own
handle_released handle w well sound = placed_release handle (place_of_handle w.own.drawn handle) w refl well sound

-- ---- the whole commit

one_graph : (w : World) → (release_one w).after.own.graph ≡ w.own.graph
unfolding release_one ◌>>=◌ on_store changes call.release
one_graph w = refl

continued_graph : (count : ℕ) (w : World) → ((v : World) → (release_many count v).after.own.graph ≡ v.own.graph) → ((release_one >>= λ u. release_many count) w).after.own.graph ≡ w.own.graph
unfolding release_one ◌>>=◌ on_store changes call.release
continued_graph count w later = later _

released_graph : (count : ℕ) (w : World) → (release_many count w).after.own.graph ≡ w.own.graph
unfolding release_many give
released_graph zero w = refl
released_graph (suc count) w = continued_graph count w (released_graph count)

pub whole_sound : (w : World) → IsCommittable w → IsSound w → IsSound (commit_whole w).after
unfolding commit_whole by_own
whole_sound w ready sound =
    let count : ℕ = length w.own.drawn.handles in
    let released : IsSound (release_many count w).after = releases_sound count w (omega (arith, handles_long w ready.well, ready.inside)) sound in
    then_sound (release_many count) (λ u. commit_transaction) w released
    (λ u is. commit_sound (release_many count w).after (subst (EachObject IsSettled) (sym (released_graph count w)) ready.written) released)
