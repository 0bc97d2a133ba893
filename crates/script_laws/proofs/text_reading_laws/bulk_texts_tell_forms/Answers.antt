use Rattle.script_laws.proofs.Texts.Readings.Bulks.{bulk_texts_tell_forms}
use Rattle.script_laws.proofs.text_reading_laws.bulk_texts_tell_forms.Goals as goal

pub returns : goal.returns
returns c = bulk_texts_tell_forms
