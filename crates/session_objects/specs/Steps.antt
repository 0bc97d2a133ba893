-- The calls that bring objects into a session or take them out of it, as programs of the store and of the session beside it.
use Rattle.std.specs.Prelude.{◌≡◌, ◌⊎◌, Option, None, Some, Result, Ok, Err}
use Rattle.base_core.specs.declared.ids.ObjId.{ObjId}
use Rattle.base_core.specs.declared.refusal.Refusal.{Refusal}
use Rattle.base_core.specs.declared.refusal.Refusal.TheVariants.{Memory}
use Rattle.keeper_core.specs.Alone.{IsOwn}
use Rattle.keeper_core.specs.Programs.{Run, ◌>>=◌}
use Rattle.keeper_core.specs.Beside.{changes}
use Rattle.session_scopes.specs.SessionState.{SessionState}
use Rattle.session_calls.specs.Parts.{World, checked}
use Rattle.session_calls.specs.Steps.{enter}
use Rattle.session_objects.specs.Conflicts.{add_fault}
use Rattle.session_objects.specs.Leaving.{expunge_fault, session_expunged}
use Rattle.session_objects.specs.Taking.{session_added}

-- what is done in the transaction
abbrev pub add_inside : ObjId → World → Run World (Unit {0})
add_inside object = checked (add_fault object) >>= λ u. changes (session_added object)

-- an object and those that come in with it come into the session
unfoldable pub add : ObjId → World → Run World (Unit {0})
add object = enter >>= λ u. add_inside object

-- what is done in the transaction
abbrev pub expunge_inside : ObjId → World → Run World (Unit {0})
expunge_inside object = checked (expunge_fault object) >>= λ u. changes (session_expunged object)

-- an object leaves the session, with those that go along
unfoldable pub expunge : ObjId → World → Run World (Unit {0})
expunge object = enter >>= λ u. expunge_inside object

-- What the session alone did in the transaction: nothing was against it, and it is as it is to be; or memory ran out; or it had the
-- fault, which is its own, and stays as it was.
abbrev pub IsDoneInside : Option Refusal → SessionState → SessionState → Result (Unit {0}) Refusal → SessionState → Type 0
IsDoneInside fault after old (Ok u) new = (fault ≡ None) × (new ≡ after)
IsDoneInside fault after old (Err e) new = (e ≡ Memory) ⊎ ((fault ≡ Some e) × (new ≡ old) × IsOwn e)
