use Rattle.command_resolve.proofs.Named.{has_link}
use Rattle.command_resolve.proofs.links.ends_of.Goals as goal

pub returns-clause-there : goal.returns-clause-there
returns-clause-there c = λ graph drawn there. (
  has_link c.args.mapping.now graph _ c.in_ok-object.class _ c.args.many (c.in_ok-object.ensures.there graph drawn there) c.in_ok-relation.ensures.exists,
  c.in_ok-end.ensures.made graph drawn there,
)
