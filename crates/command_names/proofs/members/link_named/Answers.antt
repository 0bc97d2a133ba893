use Rattle.command_names.proofs.members.link_named.Goals as goal

pub returns-clause-exists : goal.returns-clause-exists
returns-clause-exists c = c.as_link.ensures.exists c.args.mapping.now c.args.class c.in_ok-member.ensures.exists
