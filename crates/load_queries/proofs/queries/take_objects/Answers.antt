use Rattle.std.proofs.Common.{Err, Ok, refl, true, ◌≡◌}
use Rattle.class_mapping.specs.Mapped.{root_of}
use Rattle.object_arena.specs.Fit.{is_of_root}
use Rattle.keeper_core.proofs.Sequence.{passed_on}
use Rattle.load_rows.specs.Loading.{loading}
use Rattle.load_calls.specs.Refusals.{CanRefuseRow}
use Rattle.load_queries.proofs.FirstSteps.{firsts_told}
use Rattle.load_queries.proofs.QuerySteps.{objects_refused, objects_taken}
use Rattle.load_calls.proofs.ReadLemmas.{passed_memory, passed_refusal}
use Rattle.base_core.specs.declared.refusal.Refusal.TheVariants.{Memory}
use Rattle.load_queries.proofs.queries.take_objects.Goals as goal

pub returns-in_err-objects-clause-step : goal.returns-in_err-objects-clause-step
returns-in_err-objects-clause-step c =
    passed_on c.from_residual.ensures.1
    (objects_refused c.args.mapping.now c.args.class c.args.rows.now (loading c.args.arena.now c.args.notes.now) (loading c.take_rows.new.arena c.take_rows.new.notes) _ c.in_err-objects.ensures.step)

pub returns-clause-step : goal.returns-clause-step
returns-clause-step c =
    objects_taken c.args.mapping.now c.args.class c.args.rows.now c.in_ok-objects.objects c.as_slice.result.now (loading c.args.arena.now c.args.notes.now) (loading c.take_rows.new.arena c.take_rows.new.notes) _ c.as_slice.ensures
    c.in_ok-objects.ensures.step c.in_ok-firsts.ensures tt

pub returns-in_err-firsts-clause-step : goal.returns-in_err-firsts-clause-step
returns-in_err-firsts-clause-step c =
    passed_on c.from_residual-in_err-firsts.ensures.1
    (objects_taken c.args.mapping.now c.args.class c.args.rows.now c.in_ok-objects.objects c.as_slice.result.now (loading c.args.arena.now c.args.notes.now) (loading c.take_rows.new.arena c.take_rows.new.notes) (Err Memory) c.as_slice.ensures
    c.in_ok-objects.ensures.step tt refl)

pub returns-clause-of : goal.returns-clause-of
returns-clause-of c =
    firsts_told (λ object. is_of_root c.take_rows.new.arena.roots (root_of c.args.mapping.now c.args.class) object ≡ true) c.in_ok-objects.objects c.as_slice.result.now (Ok c.in_ok-firsts.field-0) c.as_slice.ensures c.in_ok-objects.ensures.of c.in_ok-firsts.ensures

pub returns-in_err-firsts-clause-refuses : goal.returns-in_err-firsts-clause-refuses
returns-in_err-firsts-clause-refuses c = passed_memory (CanRefuseRow c.args.mapping.now c.take_rows.new.arena) c.from_residual-in_err-firsts.result c.from_residual-in_err-firsts.ensures.1 tt

pub returns-in_err-objects-clause-refuses : goal.returns-in_err-objects-clause-refuses
returns-in_err-objects-clause-refuses c = passed_refusal (CanRefuseRow c.args.mapping.now c.take_rows.new.arena) _ c.from_residual.result c.from_residual.ensures.1 c.in_err-objects.ensures.refuses
