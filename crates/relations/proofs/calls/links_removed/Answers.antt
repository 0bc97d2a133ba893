use Rattle.relations.specs.Mirror.{remove_change}
use Rattle.relations.proofs.CallLemmas.{fits_by}
use Rattle.relations.proofs.ChangeLemmas.{remove_fits}
use Rattle.relations.proofs.calls.links_removed.Goals as goal

pub returns-clause-fits : goal.returns-clause-fits
returns-clause-fits c = λ mapped pairs fit is of.
    fits_by mapped c.args.arena.now c.in_ok-remove_change.field-0 (remove_change c.args.arena.now c.args.owner c.args.place c.args.relation.now c.args.member) c.in_ok-remove_change.ensures.change
    (remove_fits mapped c.args.arena.now c.args.owner c.args.place c.args.relation.now c.args.member pairs fit c.requires.owner c.requires.member is of)
