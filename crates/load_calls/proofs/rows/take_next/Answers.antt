use Rattle.class_mapping.specs.Mapped.{root_of}
use Rattle.keeper_core.proofs.Sequence.{passed_on}
use Rattle.load_rows.specs.Loading.{loading}
use Rattle.load_calls.proofs.ReadLemmas.{passed_memory, passed_refusal}
use Rattle.load_calls.specs.Refusals.{CanRefuseRow}
use Rattle.load_calls.proofs.RefusalLemmas.{row_refuses}
use Rattle.load_calls.proofs.RowsLemmas.{more_of, next_refused, next_taken}
use Rattle.base_core.specs.declared.refusal.Refusal.TheVariants.{Memory}
use Rattle.std.proofs.Common.{Err, Ok, refl}
use Rattle.load_calls.proofs.rows.take_next.Goals as goal

pub returns-in_err-object-clause-step : goal.returns-in_err-object-clause-step
returns-in_err-object-clause-step c =
    passed_on c.from_residual.ensures.1
    (next_refused (λ (u : Unit {0}). c.args.objects.now) c.args.mapping.now c.args.class c.args.values.now c.args.objects.now (loading c.args.arena.now c.args.notes.now) (loading c.take_row.new.arena c.take_row.new.notes) _ c.in_err-object.ensures.step)

pub returns-clause-step : goal.returns-clause-step
returns-clause-step c =
    next_taken c.args.mapping.now c.args.class c.args.values.now c.args.objects.now c.push.new.self (loading c.args.arena.now c.args.notes.now) (loading c.take_row.new.arena c.take_row.new.notes) c.in_ok-object.object _
    c.in_ok-object.ensures.step c.in_ok-push.ensures.ok tt

pub returns-in_err-push-clause-step : goal.returns-in_err-push-clause-step
returns-in_err-push-clause-step c =
    passed_on c.from_residual-in_err-push.ensures.1
    (next_taken c.args.mapping.now c.args.class c.args.values.now c.args.objects.now c.push.new.self (loading c.args.arena.now c.args.notes.now) (loading c.take_row.new.arena c.take_row.new.notes) c.in_ok-object.object (Err Memory)
    c.in_ok-object.ensures.step tt refl)

pub returns-clause-of : goal.returns-clause-of
returns-clause-of c = λ all.
    more_of c.args.mapping.now c.args.arena.now c.take_row.new.arena (root_of c.args.mapping.now c.args.class) c.args.objects.now c.push.new.self c.in_ok-object.object (Ok tt) c.in_ok-object.ensures.grows c.in_ok-object.ensures.fits
    c.in_ok-object.ensures.exists c.in_ok-object.ensures.rooted c.in_ok-push.ensures.ok all

pub returns-in_err-object-clause-refuses : goal.returns-in_err-object-clause-refuses
returns-in_err-object-clause-refuses c =
    passed_refusal (CanRefuseRow c.args.mapping.now c.take_row.new.arena) _ c.from_residual.result c.from_residual.ensures.1
    (row_refuses c.args.mapping.now c.args.class c.args.values.now (loading c.args.arena.now c.args.notes.now) (loading c.take_row.new.arena c.take_row.new.notes) _ c.requires.row c.in_err-object.ensures.step)

pub returns-in_err-push-clause-refuses : goal.returns-in_err-push-clause-refuses
returns-in_err-push-clause-refuses c = passed_memory (CanRefuseRow c.args.mapping.now c.take_row.new.arena) c.from_residual-in_err-push.result c.from_residual-in_err-push.ensures.1 tt
