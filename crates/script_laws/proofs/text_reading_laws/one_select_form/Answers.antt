use Rattle.script_laws.proofs.Texts.Readings.Selects.{one_select_form}
use Rattle.script_laws.proofs.text_reading_laws.one_select_form.Goals as goal

pub returns : goal.returns
returns c = one_select_form
