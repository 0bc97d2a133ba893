use Rattle.command_resolve.proofs.queries.resolved_objects.Goals as goal

pub returns-clause-stands : goal.returns-clause-stands
returns-clause-stands c = λ graph drawn. (c.in_ok-query.ensures.selectable, c.in_ok-query.ensures.readable)
