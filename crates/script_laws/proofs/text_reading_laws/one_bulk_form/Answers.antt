use Rattle.script_laws.proofs.Texts.Readings.Bulks.{one_bulk_form}
use Rattle.script_laws.proofs.text_reading_laws.one_bulk_form.Goals as goal

pub returns : goal.returns
returns c = one_bulk_form
