use Rattle.std.proofs.Common.{subst}
use Rattle.command_names.specs.Attributes.{IsMember}
use Rattle.command_resolve.proofs.resolving.resolved_set.Goals as goal

pub set_cell-requires-clause-attr : goal.set_cell-requires-clause-attr
set_cell-requires-clause-attr c = subst (IsMember c.args.mapping.now c.in_ok-object.class) c.in-Attribute.is c.in_ok-attr.ensures.exists

pub returns-in-Attribute-clause-stands : goal.returns-in-Attribute-clause-stands
returns-in-Attribute-clause-stands c = λ graph drawn there. c.set_cell.ensures.stands graph drawn (c.in_ok-object.ensures.there graph drawn there)

pub returns-in-One-clause-stands : goal.returns-in-One-clause-stands
returns-in-One-clause-stands c = λ graph drawn there.
    c.set_none.ensures.stands c.args.mapping.now graph drawn c.in_ok-object.class (c.in_ok-object.ensures.there graph drawn there)
    (subst (IsMember c.args.mapping.now c.in_ok-object.class) c.in-One.is c.in_ok-attr.ensures.exists)
