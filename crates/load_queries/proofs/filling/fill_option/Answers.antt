use Rattle.std.proofs.Common.{◌∙◌, List, refl, rules}
use Rattle.base_core.specs.declared.ids.ClassId.{ClassId}
use Rattle.keeper_core.proofs.Sequence.{each_end, each_turn}
use Rattle.load_rows.specs.Loading.{loading}
use Rattle.load_queries.specs.Joined.{GiveMembers, fill_owner}
use Rattle.load_queries.proofs.FillSteps.{link_fits, owner_at, owner_filled, owners_start, still_said}
use Rattle.load_queries.proofs.filling.fill_option.Goals as goal

pub loop-owner-init : goal.loop-owner-init
loop-owner-init c = record {
  step = owners_start c.args.mapping.now c.args.class c.args.taken.now c.args.owners.now (c.args.number, c.args.part) (loading c.args.arena.now c.args.notes.now);
  fits = c.requires.fit;
  classes = refl;
}

pub fill_link-requires-clause-owner : goal.fill_link-requires-clause-owner
fill_link-requires-clause-owner c =
    owner_at c.args.mapping.now c.args.arena.now c.loop-owner.arena c.args.class c.args.owners.now c.loop-owner.owner-index _ c.loop-owner.invariant.classes c.requires.owners c.loop-owner-test.true (search rules)

pub fill_link-requires-clause-of : goal.fill_link-requires-clause-of
fill_link-requires-clause-of c =
    link_fits c.args.mapping.now c.loop-owner.arena.roots c.args.class c.args.number c.args.part c.args.taken.now c.in_ok-given.given _ c.objects_at-objects.result.now c.in_ok-given.ensures c.requires.part
    (still_said (λ (roots : List ClassId). GiveMembers c.args.mapping.now roots (c.args.number, c.args.part) c.args.taken.now) c.args.arena.now c.loop-owner.arena c.loop-owner.invariant.classes c.requires.of) c.objects_at-objects.ensures

pub returns-in_err-fill_link-clause-classes : goal.returns-in_err-fill_link-clause-classes
returns-in_err-fill_link-clause-classes c = c.in_err-fill_link.ensures.classes ∙ c.loop-owner.invariant.classes

pub loop-owner-preserved : goal.loop-owner-preserved
loop-owner-preserved c = record {
  step = each_turn (fill_owner c.args.mapping.now c.args.class c.args.taken.now (c.args.number, c.args.part)) c.args.owners.now c.loop-owner.owner-index c.loop-owner.invariant.step c.loop-owner-test.true (search rules)
      (owner_filled c.args.mapping.now c.args.class c.args.taken.now c.args.number c.args.part _ c.objects_at-objects.result.now (loading c.loop-owner.arena c.loop-owner.notes) (loading c.fill_link.new.arena c.fill_link.new.notes)
      (c.objects_at-objects.ensures ∙ c.in_ok-given.ensures.same _) c.in_ok-fill_link.ensures.filled) refl;
  fits = c.in_ok-fill_link.ensures.fits;
  classes = c.in_ok-fill_link.ensures.classes ∙ c.loop-owner.invariant.classes;
}

pub returns-clause-step : goal.returns-clause-step
returns-clause-step c = each_end (fill_owner c.args.mapping.now c.args.class c.args.taken.now (c.args.number, c.args.part)) c.args.owners.now c.loop-owner.owner-index c.loop-owner.invariant.step c.loop-owner-test.false refl
