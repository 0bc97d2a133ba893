use Rattle.std.proofs.Common.{refl, rules}
use Rattle.keeper_core.proofs.Sequence.{each_end, each_err, each_turn, passed_on}
use Rattle.load_filling.proofs.LoadedLemmas.{grows_same}
use Rattle.load_rows.specs.Loading.{loading}
use Rattle.load_calls.proofs.ReadLemmas.{passed_refusal}
use Rattle.load_calls.specs.Refusals.{CanRefuseRow}
use Rattle.load_calls.proofs.RowsLemmas.{grows_then}
use Rattle.joined_rows.specs.Taking.{take_one}
use Rattle.joined_rows.proofs.TakenSteps.{none_taken_yet, taken_start}
use Rattle.joined_rows.proofs.taking.take_joined.Goals as goal

pub loop-row-init : goal.loop-row-init
loop-row-init c = record {
  step = taken_start c.args.mapping.now c.args.class c.args.parts.now c.args.rows.now (loading c.args.arena.now c.args.notes.now) c.new-taken.result c.new-taken.ensures;
  of = none_taken_yet c.args.mapping.now c.args.arena.now.roots c.args.class c.args.parts.now c.new-taken.result c.new-taken.ensures;
  grows = grows_same c.args.arena.now c.args.arena.now refl;
  fits = c.requires.fit;
}

pub returns-in_err-take_one-clause-step : goal.returns-in_err-take_one-clause-step
returns-in_err-take_one-clause-step c =
    passed_on c.from_residual.ensures.1
    (each_err (take_one c.args.mapping.now c.args.class c.args.parts.now) c.args.rows.now c.loop-row.row-index c.loop-row.invariant.step c.loop-row-test.true (search rules) c.in_err-take_one.ensures.step)

pub returns-in_err-take_one-clause-grows : goal.returns-in_err-take_one-clause-grows
returns-in_err-take_one-clause-grows c = grows_then c.args.arena.now c.loop-row.arena c.take_one.new.arena c.loop-row.invariant.grows c.in_err-take_one.ensures.grows

pub loop-row-preserved : goal.loop-row-preserved
loop-row-preserved c = record {
  step = each_turn (take_one c.args.mapping.now c.args.class c.args.parts.now) c.args.rows.now c.loop-row.row-index c.loop-row.invariant.step c.loop-row-test.true (search rules) c.in_ok-take_one.ensures.step refl;
  of = c.in_ok-take_one.ensures.of c.loop-row.invariant.of;
  grows = grows_then c.args.arena.now c.loop-row.arena c.take_one.new.arena c.loop-row.invariant.grows c.in_ok-take_one.ensures.grows;
  fits = c.in_ok-take_one.ensures.fits;
}

pub returns-clause-step : goal.returns-clause-step
returns-clause-step c = each_end (take_one c.args.mapping.now c.args.class c.args.parts.now) c.args.rows.now c.loop-row.row-index c.loop-row.invariant.step c.loop-row-test.false refl

pub returns-in_err-take_one-clause-refuses : goal.returns-in_err-take_one-clause-refuses
returns-in_err-take_one-clause-refuses c = passed_refusal (CanRefuseRow c.args.mapping.now c.take_one.new.arena) _ c.from_residual.result c.from_residual.ensures.1 c.in_err-take_one.ensures.refuses
