use Rattle.std.proofs.Common.{ap}
use Rattle.shell_lines.specs.Desk.{DeskState}
use Rattle.shell_lines.proofs.Saying.{opens_not}
use Rattle.shell_lines.proofs.desk.Desk.open.Goals as goal

pub returns-in_err-block-clause-said : goal.returns-in_err-block-clause-said
returns-in_err-block-clause-said c =
    opens_not c.args.head c.self.inside.line c.args.self.now c.in_err-block.field-0.0 c.from_residual.result c.from_residual.ensures.1
    (ap (λ (desk : DeskState). desk.line) c.self.view_is) c.in_err-block.ensures
