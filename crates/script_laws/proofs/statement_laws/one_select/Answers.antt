use Rattle.script_laws.proofs.Texts.Statements.Selects.{one_select}
use Rattle.script_laws.proofs.statement_laws.one_select.Goals as goal

pub returns : goal.returns
returns c = one_select
