use Rattle.std.proofs.Common.{refl, rules}
use Rattle.keeper_core.proofs.Sequence.{each_end, each_err, each_turn, passed_on}
use Rattle.class_mapping.specs.Mapped.{root_of}
use Rattle.load_filling.proofs.LoadedLemmas.{grows_same}
use Rattle.load_rows.specs.Loading.{loading}
use Rattle.load_calls.specs.Collections.{take_next}
use Rattle.load_calls.proofs.RowsLemmas.{grows_then, none_of, rows_start}
use Rattle.load_calls.specs.Refusals.{CanRefuseRow}
use Rattle.load_calls.proofs.ReadLemmas.{passed_refusal}
use Rattle.load_calls.proofs.rows.take_rows.Goals as goal

pub loop-row-init : goal.loop-row-init
loop-row-init c = record {
  step = rows_start c.args.mapping.now c.args.class c.args.rows.now (loading c.args.arena.now c.args.notes.now) c.new-objects.result c.new-objects.ensures;
  of = none_of c.args.arena.now.roots (root_of c.args.mapping.now c.args.class) c.new-objects.result c.new-objects.ensures;
  grows = grows_same c.args.arena.now c.args.arena.now refl;
  fits = c.requires.fit;
}

pub returns-in_err-take_next-clause-step : goal.returns-in_err-take_next-clause-step
returns-in_err-take_next-clause-step c =
    passed_on c.from_residual.ensures.1
    (each_err (take_next c.args.mapping.now c.args.class) c.args.rows.now c.loop-row.row-index c.loop-row.invariant.step c.loop-row-test.true (search rules) c.in_err-take_next.ensures.step)

pub returns-in_err-take_next-clause-grows : goal.returns-in_err-take_next-clause-grows
returns-in_err-take_next-clause-grows c = grows_then c.args.arena.now c.loop-row.arena c.take_next.new.arena c.loop-row.invariant.grows c.in_err-take_next.ensures.grows

pub loop-row-preserved : goal.loop-row-preserved
loop-row-preserved c = record {
  step = each_turn (take_next c.args.mapping.now c.args.class) c.args.rows.now c.loop-row.row-index c.loop-row.invariant.step c.loop-row-test.true (search rules) c.in_ok-take_next.ensures.step refl;
  of = c.in_ok-take_next.ensures.of c.loop-row.invariant.of;
  grows = grows_then c.args.arena.now c.loop-row.arena c.take_next.new.arena c.loop-row.invariant.grows c.in_ok-take_next.ensures.grows;
  fits = c.in_ok-take_next.ensures.fits;
}

pub returns-clause-step : goal.returns-clause-step
returns-clause-step c = each_end (take_next c.args.mapping.now c.args.class) c.args.rows.now c.loop-row.row-index c.loop-row.invariant.step c.loop-row-test.false refl

pub returns-in_err-take_next-clause-refuses : goal.returns-in_err-take_next-clause-refuses
returns-in_err-take_next-clause-refuses c = passed_refusal (CanRefuseRow c.args.mapping.now c.take_next.new.arena) _ c.from_residual.result c.from_residual.ensures.1 c.in_err-take_next.ensures.refuses
