use Rattle.std.proofs.Common.{sym}
use Rattle.command_names.proofs.terms.handle_of.Goals as goal

pub returns-in-Some-clause-there : goal.returns-in-Some-clause-there
returns-in-Some-clause-there c = λ graph drawn there. c.handle_in.ensures.there graph drawn (there c.args.name.now c.in-Some.thing.now (sym c.in-Some.ensures))
