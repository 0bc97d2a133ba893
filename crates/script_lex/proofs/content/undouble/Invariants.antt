use Rattle.std.proofs.Common.{◌≡◌, ◌++◌, length, false}
use Rattle.script_lex.specs.Content.{undouble}
use Rattle.script_lex.proofs.content.undouble.Given as goal

abbrev pub invariant-loop-text : goal.invariant-loop-text
invariant-loop-text l = l.plain.items ++ undouble l.quote l.is_second l.text ≡ undouble l.quote false l.initial.text

abbrev pub decreases-loop-text : goal.decreases-loop-text
decreases-loop-text l = length l.text
