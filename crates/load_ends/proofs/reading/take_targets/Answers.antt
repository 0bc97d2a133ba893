use Rattle.keeper_core.proofs.Sequence.{passed_on}
use Rattle.load_rows.specs.Loading.{loading}
use Rattle.load_ends.proofs.ReadSteps.{targets_refused, targets_taken}
use Rattle.load_calls.specs.Refusals.{CanRefuseRow}
use Rattle.load_calls.proofs.ReadLemmas.{passed_refusal}
use Rattle.load_ends.proofs.reading.take_targets.Goals as goal

pub returns-in_err-_objects-clause-step : goal.returns-in_err-_objects-clause-step
returns-in_err-_objects-clause-step c =
    passed_on c.from_residual.ensures.1
    (targets_refused c.args.mapping.now c.args.class c.args.rows.now (loading c.args.arena.now c.args.notes.now) (loading c.take_rows.new.arena c.take_rows.new.notes) _ c.in_err-_objects.ensures.step)

pub returns-clause-step : goal.returns-clause-step
returns-clause-step c =
    targets_taken c.args.mapping.now c.args.class c.args.rows.now c.in_ok-_objects._objects (loading c.args.arena.now c.args.notes.now) (loading c.take_rows.new.arena c.take_rows.new.notes) c.in_ok-_objects.ensures.step

pub returns-in_err-_objects-clause-refuses : goal.returns-in_err-_objects-clause-refuses
returns-in_err-_objects-clause-refuses c = passed_refusal (CanRefuseRow c.args.mapping.now c.take_rows.new.arena) _ c.from_residual.result c.from_residual.ensures.1 c.in_err-_objects.ensures.refuses
