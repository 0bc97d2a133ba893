use Rattle.std.proofs.Common.{subst}
use Rattle.command_names.specs.declared.members.Member.TheVariants.{Attribute, One, Many}
use Rattle.command_names.specs.Attributes.{IsMember}
use Rattle.command_resolve.proofs.Named.{shows}
use Rattle.command_resolve.proofs.resolving.show_by.Goals as goal

pub returns-in-Attribute-clause-stands : goal.returns-in-Attribute-clause-stands
returns-in-Attribute-clause-stands c = λ mapped graph drawn class made is. shows mapped graph drawn c.args.object class (Attribute c.in-Attribute.attr) made (subst (IsMember mapped class) c.in-Attribute.is is)

pub returns-in-One-clause-stands : goal.returns-in-One-clause-stands
returns-in-One-clause-stands c = λ mapped graph drawn class made is. shows mapped graph drawn c.args.object class (One c.in-One.relation) made (subst (IsMember mapped class) c.in-One.is is)

pub returns-in-Many-clause-stands : goal.returns-in-Many-clause-stands
returns-in-Many-clause-stands c = λ mapped graph drawn class made is. shows mapped graph drawn c.args.object class (Many c.in-Many.relation) made (subst (IsMember mapped class) c.in-Many.is is)
