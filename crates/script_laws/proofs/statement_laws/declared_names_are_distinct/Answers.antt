use Rattle.script_laws.proofs.Texts.Statements.Declared.{declared_names_are_distinct}
use Rattle.script_laws.proofs.statement_laws.declared_names_are_distinct.Goals as goal

pub returns : goal.returns
returns c = declared_names_are_distinct
