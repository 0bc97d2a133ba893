use Rattle.script_laws.proofs.Texts.Grammar.OneTree.{one_tree}
use Rattle.script_laws.proofs.grammar_laws.one_tree.Goals as goal

pub returns : goal.returns
returns c = one_tree
