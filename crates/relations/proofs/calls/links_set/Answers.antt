use Rattle.relations.specs.Mirror.{set_change}
use Rattle.relations.proofs.CallLemmas.{fits_by}
use Rattle.relations.proofs.ChangeLemmas.{set_fits}
use Rattle.relations.proofs.calls.links_set.Goals as goal

pub returns-clause-fits : goal.returns-clause-fits
returns-clause-fits c = λ pairs one of.
    fits_by c.args.mapping.now c.args.arena.now c.in_ok-set_change.field-0 (set_change c.args.arena.now c.args.mapping.now c.args.child c.args.place c.args.relation.now c.in_ok-old.old c.args.parent) c.in_ok-set_change.ensures.change
    (set_fits c.args.mapping.now c.args.arena.now c.args.child c.args.place c.args.relation.now c.in_ok-old.old c.args.parent pairs c.requires.fit c.requires.child one c.in_ok-old.ensures.made c.requires.parent of)
