use Rattle.std.proofs.Common.{subst}
use Rattle.command_names.specs.Attributes.{IsMember}
use Rattle.command_names.proofs.members.attribute_named.Goals as goal

pub returns-in-Attribute-clause-exists : goal.returns-in-Attribute-clause-exists
returns-in-Attribute-clause-exists c = subst (IsMember c.args.mapping.now c.args.class) c.in-Attribute.is c.in_ok-attr.ensures.exists
