use Rattle.script_laws.proofs.Texts.Forms.Statements.{statements_are_read}
use Rattle.script_laws.proofs.text_form_laws.statements_are_read.Goals as goal

pub returns : goal.returns
returns c = statements_are_read
