use Rattle.script_laws.proofs.Texts.Forms.Selects.{selects_are_read}
use Rattle.script_laws.proofs.text_form_laws.selects_are_read.Goals as goal

pub returns : goal.returns
returns c = selects_are_read
