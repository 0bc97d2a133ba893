use Rattle.std.proofs.Common.{◌∙◌, refl, rules}
use Rattle.class_mapping.specs.Mapped.{root_of}
use Rattle.keeper_core.proofs.Sequence.{each_end, each_turn}
use Rattle.load_rows.specs.Loading.{loading}
use Rattle.load_filling.proofs.LoadedLemmas.{grows_same}
use Rattle.load_rows.proofs.TakenLemmas.{grows_filled}
use Rattle.load_batches.specs.Batches.{fill_owner, objects_in}
use Rattle.load_batches.proofs.MemberSteps.{of_same, owners_start}
use Rattle.load_batches.proofs.OwnerSteps.{owned_at}
use Rattle.load_batches.proofs.filling.fill_owners.Goals as goal

pub loop-owner-init : goal.loop-owner-init
loop-owner-init c = record {
  step = owners_start c.args.place c.args.owners.now c.args.members.now (loading c.args.arena.now c.args.notes.now);
  fits = c.requires.fit;
  classes = refl;
}

pub fill_owner-requires-clause-owned : goal.fill_owner-requires-clause-owned
fill_owner-requires-clause-owned c =
    owned_at c.args.mapping.now c.args.arena.now c.loop-owner.arena c.args.relation.now c.args.place c.args.owners.now c.loop-owner.owner-index _ (grows_filled c.args.arena.now c.args.arena.now c.loop-owner.arena (grows_same c.args.arena.now c.args.arena.now refl) c.loop-owner.invariant.classes)
    c.requires.owned c.loop-owner-test.true (search rules)

pub fill_owner-requires-clause-of : goal.fill_owner-requires-clause-of
fill_owner-requires-clause-of c =
    of_same c.args.arena.now c.loop-owner.arena (root_of c.args.mapping.now c.args.relation.now.target) (objects_in c.args.members.now) c.loop-owner.invariant.classes c.requires.of

pub returns-in_err-fill_owner-clause-classes : goal.returns-in_err-fill_owner-clause-classes
returns-in_err-fill_owner-clause-classes c = c.in_err-fill_owner.ensures.classes ∙ c.loop-owner.invariant.classes

pub loop-owner-preserved : goal.loop-owner-preserved
loop-owner-preserved c = record {
  step = each_turn (fill_owner c.args.place c.args.members.now) c.args.owners.now c.loop-owner.owner-index c.loop-owner.invariant.step c.loop-owner-test.true (search rules) c.in_ok-fill_owner.ensures.step refl;
  fits = c.in_ok-fill_owner.ensures.fits;
  classes = c.in_ok-fill_owner.ensures.classes ∙ c.loop-owner.invariant.classes;
}

pub returns-clause-step : goal.returns-clause-step
returns-clause-step c = each_end (fill_owner c.args.place c.args.members.now) c.args.owners.now c.loop-owner.owner-index c.loop-owner.invariant.step c.loop-owner-test.false refl
