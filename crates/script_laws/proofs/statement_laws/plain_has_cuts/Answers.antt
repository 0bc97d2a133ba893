use Rattle.script_laws.proofs.Texts.Statements.Statements.{plain_has_cuts}
use Rattle.script_laws.proofs.statement_laws.plain_has_cuts.Goals as goal

pub returns : goal.returns
returns c = λ schema plain. plain_has_cuts schema c.args.statement.now plain
