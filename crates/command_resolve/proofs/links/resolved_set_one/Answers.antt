use Rattle.command_resolve.proofs.links.resolved_set_one.Goals as goal

pub returns-clause-stands : goal.returns-clause-stands
returns-clause-stands c = λ graph drawn there. c.in_ok-owner.ensures.there graph drawn there
