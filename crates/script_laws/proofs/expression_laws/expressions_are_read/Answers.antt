use Rattle.script_laws.proofs.Texts.Expressions.Full.{expressions_are_read}
use Rattle.script_laws.proofs.expression_laws.expressions_are_read.Goals as goal

pub returns : goal.returns
returns c = expressions_are_read
