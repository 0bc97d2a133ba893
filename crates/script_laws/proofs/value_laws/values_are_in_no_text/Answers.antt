use Rattle.script_laws.proofs.Texts.Values.Rows.{values_are_in_no_text}
use Rattle.script_laws.proofs.value_laws.values_are_in_no_text.Goals as goal

pub returns : goal.returns
returns c = values_are_in_no_text
