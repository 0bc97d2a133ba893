use Rattle.std.proofs.Common.{sym}
use Rattle.shell_lines.proofs.Saying.{at_outside}
use Rattle.shell_lines.proofs.desk.Desk.say_at.Goals as goal

pub returns-in-None-clause-said : goal.returns-in-None-clause-said
returns-in-None-clause-said c =
    at_outside c.args.command c.args.self.now c.take_block.new.self c.say_outside.new.self c.say_outside.result (sym c.in-None.ensures.block) c.in-None.ensures.rest
    c.say_outside.ensures.said
