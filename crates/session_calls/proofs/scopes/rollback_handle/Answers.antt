use Rattle.std.proofs.Common.{ℕ, Option, None, Some, refl, sym, ap}
use Rattle.std.specs.Prelude.{is_none}
use Rattle.base_core.specs.declared.refusal.Refusal.TheVariants.{ResourceClosedError}
use Rattle.session_scopes.specs.Handles.{place_of_handle}
use Rattle.session_calls.specs.Parts.{fault_if}
use Rattle.session_calls.specs.Refusals.{Before}
use Rattle.session_calls.proofs.Acting.{has_ended, rolls_back_to}
use Rattle.session_calls.proofs.Refusing.{early_refused}
use Rattle.session_calls.proofs.scopes.rollback_handle.Goals as goal

pub returns-in-None-clause-call : goal.returns-in-None-clause-call
returns-in-None-clause-call g c = has_ended g.K.Keeper.moment c.args.handle c.in-None.ensures.place c.requires.in_step

pub returns-in-None-clause-refused : goal.returns-in-None-clause-refused
returns-in-None-clause-refused g c = Before (ap (λ (found : Option ℕ). fault_if (is_none found) ResourceClosedError) (sym c.in-None.ensures.place)) refl

pub returns-in-Some-clause-call : goal.returns-in-Some-clause-call
returns-in-Some-clause-call g c = rolls_back_to g.K.Keeper.moment c.args.handle (Some c.in-Some.place) c.in-Some.ensures.place c.roll_back_place.ensures.call

pub returns-in-Some-clause-refused : goal.returns-in-Some-clause-refused
returns-in-Some-clause-refused g c =
    early_refused (fault_if (is_none (place_of_handle c.args.session.now.drawn c.args.handle)) ResourceClosedError) None c.args.session.now c.roll_back_place.new.session c.roll_back_place.result c.roll_back_place.ensures.stops
