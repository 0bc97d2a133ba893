use Rattle.script_laws.proofs.Texts.Statements.Statements.{texts_tell_statements}
use Rattle.script_laws.proofs.statement_laws.texts_tell_statements.Goals as goal

pub returns : goal.returns
returns c = texts_tell_statements c.args.schema.now c.declared_one_by_one.ensures
