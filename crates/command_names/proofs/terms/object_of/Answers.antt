use Rattle.std.proofs.Common.{sym}
use Rattle.command_names.proofs.terms.object_of.Goals as goal

pub returns-in-Some-clause-there : goal.returns-in-Some-clause-there
returns-in-Some-clause-there c = λ graph drawn there. c.object_at.ensures.there graph drawn (there c.args.term.now.name c.in-Some.thing.now (sym c.in-Some.ensures))
