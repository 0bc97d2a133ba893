use Rattle.script_laws.proofs.Texts.Statements.Bulks.{one_bulk}
use Rattle.script_laws.proofs.statement_laws.one_bulk.Goals as goal

pub returns : goal.returns
returns c = one_bulk
