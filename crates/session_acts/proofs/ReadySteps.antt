-- A keeper that stays ready stays at its depth.
use Rattle.std.proofs.Common.{Result, Ok, Err}
use Rattle.base_core.specs.declared.refusal.Refusal.{Refusal}
use Rattle.keeper_core.specs.Store.{Store}
use Rattle.keeper_core.specs.Moment.{Moment}
use Rattle.load_calls.specs.Reading.{IsReadyStill, StaysReady}
use Rattle.session_parts.specs.Depths.{StaysAt}

pub stays_at : {A : Type 0} (before moment : Moment Store) (r : Result A Refusal) → StaysReady before r moment → StaysAt r before.depth moment
stays_at before moment (Ok x) still = (still.0.attached, still.1)
stays_at before moment (Err e) still = λ own. let there : IsReadyStill before moment = still own in (there.0.attached, there.1)
