use Rattle.command_resolve.proofs.resolving.resolved_same.Goals as goal

pub returns-clause-stands : goal.returns-clause-stands
returns-clause-stands c = λ mapped graph drawn there. (c.in_ok-first.ensures.made graph drawn there, c.in_ok-second.ensures.made graph drawn there)
