use Rattle.script_laws.proofs.Texts.Readings.Rows.{row_texts_tell_forms}
use Rattle.script_laws.proofs.text_reading_laws.row_texts_tell_forms.Goals as goal

pub returns : goal.returns
returns c = row_texts_tell_forms
