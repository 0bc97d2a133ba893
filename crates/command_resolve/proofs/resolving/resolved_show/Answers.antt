use Rattle.command_resolve.proofs.resolving.resolved_show.Goals as goal

pub returns-clause-stands : goal.returns-clause-stands
returns-clause-stands c = λ graph drawn there.
    c.show_by.ensures.stands c.args.mapping.now graph drawn c.in_ok-object.class (c.in_ok-object.ensures.there graph drawn there) c.in_ok-member.ensures.exists
