use Rattle.script_laws.proofs.Texts.Statements.Rows.{one_row}
use Rattle.script_laws.proofs.statement_laws.one_row.Goals as goal

pub returns : goal.returns
returns c = one_row
