use Rattle.script_laws.proofs.Texts.Forms.Bulks.{bulks_are_read}
use Rattle.script_laws.proofs.text_form_laws.bulks_are_read.Goals as goal

pub returns : goal.returns
returns c = bulks_are_read
