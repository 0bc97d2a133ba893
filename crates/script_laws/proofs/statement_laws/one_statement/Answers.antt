use Rattle.script_laws.proofs.Texts.Statements.Statements.{one_statement}
use Rattle.script_laws.proofs.statement_laws.one_statement.Goals as goal

pub returns : goal.returns
returns c = one_statement c.args.schema.now c.declared_one_by_one.ensures
