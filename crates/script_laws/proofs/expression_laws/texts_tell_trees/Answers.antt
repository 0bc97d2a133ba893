use Rattle.script_laws.proofs.Texts.Expressions.Full.{texts_tell_trees}
use Rattle.script_laws.proofs.expression_laws.texts_tell_trees.Goals as goal

pub returns : goal.returns
returns c = texts_tell_trees
