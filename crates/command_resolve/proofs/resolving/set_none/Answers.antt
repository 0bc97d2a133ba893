use Rattle.std.proofs.Common.{false}
use Rattle.command_resolve.proofs.Named.{has_link}
use Rattle.command_resolve.proofs.resolving.set_none.Goals as goal

pub returns-clause-stands : goal.returns-clause-stands
returns-clause-stands c = λ mapped graph drawn class made is. (has_link mapped graph c.args.object class c.args.relation false made is, tt)
