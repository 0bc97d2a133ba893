use Rattle.std.proofs.Common.{ap, refl, rules}
use Rattle.keeper_core.proofs.Sequence.{each_end, each_err, each_turn, no_memory, passed_on}
use Rattle.class_mapping.specs.Mapped.{root_of}
use Rattle.load_filling.proofs.LoadedLemmas.{grows_same}
use Rattle.load_rows.specs.Loading.{loading}
use Rattle.load_calls.proofs.ReadLemmas.{passed_memory, passed_refusal}
use Rattle.load_calls.specs.Refusals.{CanRefuseRow}
use Rattle.load_calls.proofs.RowsLemmas.{grows_then, none_of}
use Rattle.load_batches.specs.Batches.{objects_in, take_member}
use Rattle.load_batches.proofs.MemberSteps.{members_start}
use Rattle.load_batches.proofs.members.take_members.Goals as goal

pub returns-in_err-width-clause-step : goal.returns-in_err-width-clause-step
returns-in_err-width-clause-step c = passed_on c.from_residual.ensures.1 no_memory

pub returns-in_err-width-clause-grows : goal.returns-in_err-width-clause-grows
returns-in_err-width-clause-grows c = grows_same c.args.arena.now c.args.arena.now refl

pub returns-in_err-places-clause-step : goal.returns-in_err-places-clause-step
returns-in_err-places-clause-step c = passed_on c.from_residual-in_err-places.ensures.1 no_memory

pub returns-in_err-places-clause-grows : goal.returns-in_err-places-clause-grows
returns-in_err-places-clause-grows c = grows_same c.args.arena.now c.args.arena.now refl

pub loop-row-init : goal.loop-row-init
loop-row-init c = record {
  step = members_start c.args.mapping.now c.args.relation.now c.args.rows.now (loading c.args.arena.now c.args.notes.now) c.new-members.result c.new-members.ensures;
  of = none_of c.args.arena.now.roots (root_of c.args.mapping.now c.args.relation.now.target) (objects_in c.new-members.result) (ap objects_in c.new-members.ensures);
  grows = grows_same c.args.arena.now c.args.arena.now refl;
  fits = c.requires.fit;
}

pub returns-in_err-take_member-clause-step : goal.returns-in_err-take_member-clause-step
returns-in_err-take_member-clause-step c =
    passed_on c.from_residual-in_err-take_member.ensures.1
    (each_err (take_member c.args.mapping.now c.args.relation.now) c.args.rows.now c.loop-row.row-index c.loop-row.invariant.step c.loop-row-test.true (search rules) c.in_err-take_member.ensures.step)

pub returns-in_err-take_member-clause-grows : goal.returns-in_err-take_member-clause-grows
returns-in_err-take_member-clause-grows c = grows_then c.args.arena.now c.loop-row.arena c.take_member.new.arena c.loop-row.invariant.grows c.in_err-take_member.ensures.grows

pub loop-row-preserved : goal.loop-row-preserved
loop-row-preserved c = record {
  step = each_turn (take_member c.args.mapping.now c.args.relation.now) c.args.rows.now c.loop-row.row-index c.loop-row.invariant.step c.loop-row-test.true (search rules) c.in_ok-take_member.ensures.step refl;
  of = c.in_ok-take_member.ensures.of c.loop-row.invariant.of;
  grows = grows_then c.args.arena.now c.loop-row.arena c.take_member.new.arena c.loop-row.invariant.grows c.in_ok-take_member.ensures.grows;
  fits = c.in_ok-take_member.ensures.fits;
}

pub returns-clause-step : goal.returns-clause-step
returns-clause-step c = each_end (take_member c.args.mapping.now c.args.relation.now) c.args.rows.now c.loop-row.row-index c.loop-row.invariant.step c.loop-row-test.false refl

pub returns-in_err-width-clause-refuses : goal.returns-in_err-width-clause-refuses
returns-in_err-width-clause-refuses c = passed_memory (CanRefuseRow c.args.mapping.now c.args.arena.now) c.from_residual.result c.from_residual.ensures.1 tt

pub returns-in_err-places-clause-refuses : goal.returns-in_err-places-clause-refuses
returns-in_err-places-clause-refuses c = passed_memory (CanRefuseRow c.args.mapping.now c.args.arena.now) c.from_residual-in_err-places.result c.from_residual-in_err-places.ensures.1 tt

pub returns-in_err-take_member-clause-refuses : goal.returns-in_err-take_member-clause-refuses
returns-in_err-take_member-clause-refuses c = passed_refusal (CanRefuseRow c.args.mapping.now c.take_member.new.arena) _ c.from_residual-in_err-take_member.result c.from_residual-in_err-take_member.ensures.1 c.in_err-take_member.ensures.refuses
