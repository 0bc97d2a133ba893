use Rattle.std.proofs.Common.{◌≡◌, ap, length, List, Option, refl, rules}
use Rattle.base_core.specs.declared.ids.ObjId.{ObjId}
use Rattle.keeper_core.proofs.Sequence.{each_end, each_err, each_turn, passed_on}
use Rattle.load_filling.proofs.LoadedLemmas.{grows_same}
use Rattle.load_rows.specs.Loading.{loading}
use Rattle.load_calls.proofs.ReadLemmas.{passed_refusal}
use Rattle.load_calls.specs.Refusals.{CanRefuseRow}
use Rattle.load_calls.proofs.RowsLemmas.{grows_then}
use Rattle.joined_rows.specs.Taking.{take_next}
use Rattle.joined_rows.proofs.MemberLemmas.{members_start, more_members, none_yet, one_longer}
use Rattle.joined_rows.proofs.members.take_members.Goals as goal

pub loop-part-init : goal.loop-part-init
loop-part-init c = record {
  step = members_start c.args.mapping.now c.args.parts.now c.args.row.now (loading c.args.arena.now c.args.notes.now) c.new-members.result c.new-members.ensures;
  of = none_yet c.args.mapping.now c.args.arena.now.roots c.args.parts.now c.new-members.result c.new-members.ensures;
  long = ap (λ (xs : List (Option ObjId)). length xs) c.new-members.ensures;
  grows = grows_same c.args.arena.now c.args.arena.now refl;
  fits = c.requires.fit;
}

pub returns-in_err-take_next-clause-step : goal.returns-in_err-take_next-clause-step
returns-in_err-take_next-clause-step c =
    passed_on c.from_residual.ensures.1
    (each_err (take_next c.args.mapping.now c.args.row.now) c.args.parts.now c.loop-part.part-index c.loop-part.invariant.step c.loop-part-test.true (search rules) c.in_err-take_next.ensures.step)

pub returns-in_err-take_next-clause-grows : goal.returns-in_err-take_next-clause-grows
returns-in_err-take_next-clause-grows c = grows_then c.args.arena.now c.loop-part.arena c.take_next.new.arena c.loop-part.invariant.grows c.in_err-take_next.ensures.grows

pub loop-part-preserved : goal.loop-part-preserved
loop-part-preserved c = record {
  step = each_turn (take_next c.args.mapping.now c.args.row.now) c.args.parts.now c.loop-part.part-index c.loop-part.invariant.step c.loop-part-test.true (search rules) c.in_ok-take_next.ensures.step refl;
  of =
      more_members c.args.mapping.now c.loop-part.arena c.take_next.new.arena c.args.parts.now c.loop-part.part-index _ c.loop-part.members c.take_next.new.members c.in_ok-take_next.ensures.grows c.loop-part.invariant.long
      c.loop-part-test.true (search rules) c.loop-part.invariant.of c.in_ok-take_next.ensures.of;
  long = one_longer c.args.mapping.now c.take_next.new.arena.roots _ c.loop-part.members c.take_next.new.members c.loop-part.part-index c.loop-part.invariant.long c.in_ok-take_next.ensures.of;
  grows = grows_then c.args.arena.now c.loop-part.arena c.take_next.new.arena c.loop-part.invariant.grows c.in_ok-take_next.ensures.grows;
  fits = c.in_ok-take_next.ensures.fits;
}

pub returns-clause-step : goal.returns-clause-step
returns-clause-step c = each_end (take_next c.args.mapping.now c.args.row.now) c.args.parts.now c.loop-part.part-index c.loop-part.invariant.step c.loop-part-test.false refl

pub returns-in_err-take_next-clause-refuses : goal.returns-in_err-take_next-clause-refuses
returns-in_err-take_next-clause-refuses c = passed_refusal (CanRefuseRow c.args.mapping.now c.take_next.new.arena) _ c.from_residual.result c.from_residual.ensures.1 c.in_err-take_next.ensures.refuses
