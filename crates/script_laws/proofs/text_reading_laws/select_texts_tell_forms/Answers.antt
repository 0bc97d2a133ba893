use Rattle.script_laws.proofs.Texts.Readings.Selects.{select_texts_tell_forms}
use Rattle.script_laws.proofs.text_reading_laws.select_texts_tell_forms.Goals as goal

pub returns : goal.returns
returns c = select_texts_tell_forms
