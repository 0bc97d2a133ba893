use Rattle.script_laws.proofs.Texts.Readings.Rows.{one_row_form}
use Rattle.script_laws.proofs.text_reading_laws.one_row_form.Goals as goal

pub returns : goal.returns
returns c = one_row_form
