use Rattle.script_laws.proofs.Texts.Readings.Back.{texts_tell_expressions}
use Rattle.script_laws.proofs.text_reading_laws.texts_tell_expressions.Goals as goal

pub returns : goal.returns
returns c = texts_tell_expressions
