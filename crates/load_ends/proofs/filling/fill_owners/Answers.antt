use Rattle.std.proofs.Common.{◌∙◌, refl, rules}
use Rattle.keeper_core.proofs.Sequence.{each_end, each_turn}
use Rattle.load_rows.specs.Loading.{loading}
use Rattle.load_targets.proofs.TargetLemmas.{same_grow}
use Rattle.load_ends.specs.Ends.{fill_owner}
use Rattle.load_ends.proofs.EndSteps.{children_still, owners_start}
use Rattle.load_ends.proofs.filling.fill_owners.Goals as goal

pub loop-owner-init : goal.loop-owner-init
loop-owner-init c = record {
  step = owners_start c.args.mapping.now c.args.relation.now c.args.place c.args.owners.now (loading c.args.arena.now c.args.notes.now);
  fits = c.requires.fit;
  classes = refl;
}

pub fill_owner-requires-clause-owner : goal.fill_owner-requires-clause-owner
fill_owner-requires-clause-owner c =
    children_still c.args.mapping.now c.args.arena.now c.loop-owner.arena c.args.relation.now c.args.place c.args.owners.now (same_grow c.args.arena.now c.loop-owner.arena c.loop-owner.invariant.classes) c.requires.owners c.loop-owner.owner-index _
    c.loop-owner-test.true

pub returns-in_err-fill_owner-clause-classes : goal.returns-in_err-fill_owner-clause-classes
returns-in_err-fill_owner-clause-classes c = c.in_err-fill_owner.ensures.classes ∙ c.loop-owner.invariant.classes

pub loop-owner-preserved : goal.loop-owner-preserved
loop-owner-preserved c = record {
  step = each_turn (fill_owner c.args.mapping.now c.args.relation.now c.args.place) c.args.owners.now c.loop-owner.owner-index c.loop-owner.invariant.step c.loop-owner-test.true (search rules) c.in_ok-fill_owner.ensures.step refl;
  fits = c.in_ok-fill_owner.ensures.fits;
  classes = c.in_ok-fill_owner.ensures.classes ∙ c.loop-owner.invariant.classes;
}

pub returns-clause-step : goal.returns-clause-step
returns-clause-step c = each_end (fill_owner c.args.mapping.now c.args.relation.now c.args.place) c.args.owners.now c.loop-owner.owner-index c.loop-owner.invariant.step c.loop-owner-test.false refl
