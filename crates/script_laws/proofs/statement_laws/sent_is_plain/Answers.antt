use Rattle.script_laws.proofs.Texts.Statements.Statements.{sent_is_plain}
use Rattle.script_laws.proofs.statement_laws.sent_is_plain.Goals as goal

pub returns : goal.returns
returns c = sent_is_plain
