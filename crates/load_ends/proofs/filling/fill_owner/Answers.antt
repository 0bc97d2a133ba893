use Rattle.std.proofs.Common.{◌≡◌, ◌∙◌, true, ap, sym, subst}
use Rattle.class_types.specs.declared.mapped.Relation.{Relation}
use Rattle.class_mapping.specs.Mapped.{root_of}
use Rattle.object_arena.specs.Fit.{end_fits}
use Rattle.load_rows.specs.Loading.{loading}
use Rattle.load_ends.proofs.EndSteps.{owner_filled}
use Rattle.load_ends.proofs.filling.fill_owner.Goals as goal

pub target_key-requires-clause-child : goal.target_key-requires-clause-child
target_key-requires-clause-child c = c.requires.owner.made

pub target_key-requires-clause-place : goal.target_key-requires-clause-place
target_key-requires-clause-place c = c.requires.owner.within

pub target_key-requires-clause-relation : goal.target_key-requires-clause-relation
target_key-requires-clause-relation c = sym c.requires.owner.is

pub fill_end-requires-clause-owner : goal.fill_end-requires-clause-owner
fill_end-requires-clause-owner c = c.requires.owner.made

pub fill_end-requires-clause-place : goal.fill_end-requires-clause-place
fill_end-requires-clause-place c = c.requires.owner.within

pub fill_end-requires-clause-one : goal.fill_end-requires-clause-one
fill_end-requires-clause-one c = ap (λ (r : Relation). r.many) c.requires.owner.is ∙ c.requires.one

pub fill_end-requires-clause-end : goal.fill_end-requires-clause-end
fill_end-requires-clause-end c =
    subst (λ (r : Relation). end_fits c.args.arena.now.roots (root_of c.args.mapping.now r.target) c.known_end-end.result ≡ true) (sym c.requires.owner.is) c.known_end-end.ensures.of

pub returns-clause-step : goal.returns-clause-step
returns-clause-step c =
    owner_filled c.args.mapping.now c.args.relation.now c.args.place c.args.owner c.in_ok-key.key c.known_end-end.result (loading c.args.arena.now c.args.notes.now) (loading c.fill_end.new.arena c.fill_end.new.notes) c.fill_end.result
    c.in_ok-key.ensures.key c.known_end-end.ensures.end c.fill_end.ensures.filled
