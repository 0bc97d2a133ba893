use Rattle.command_resolve.proofs.resolving.id_of_term.Goals as goal

pub returns-clause-made : goal.returns-clause-made
returns-clause-made c = λ graph drawn there. (c.in_ok-object.ensures.there graph drawn there).0
