use Rattle.command_names.proofs.Named.{no_attribute}
use Rattle.command_names.proofs.members.member_named.Goals as goal

pub returns-in-None-clause-member : goal.returns-in-None-clause-member
returns-in-None-clause-member c =
    no_attribute c.args.mapping.now c.args.class c.args.name.now c.attributes.result.now c.relations.result.now c.link_or_unknown.result c.attributes.ensures c.relations.ensures.relations c.in-None.ensures.place
    c.link_or_unknown.ensures.member
