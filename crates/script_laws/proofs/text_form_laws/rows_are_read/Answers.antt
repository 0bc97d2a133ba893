use Rattle.script_laws.proofs.Texts.Forms.Rows.{rows_are_read}
use Rattle.script_laws.proofs.text_form_laws.rows_are_read.Goals as goal

pub returns : goal.returns
returns c = rows_are_read
