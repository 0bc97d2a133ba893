use Rattle.std.proofs.Common.{◌≡◌, ◌+◌, ◌++◌, length}
use Rattle.script_lex.specs.Lex.{tokens_from}
use Rattle.script_lex.proofs.lex.tokens.Given as goal

abbrev pub invariant-loop-rest : goal.invariant-loop-rest
invariant-loop-rest l = record {
  tokens : l.found.items ++ tokens_from 0 l.at l.rest ≡ tokens_from 0 0 l.fn.line;
  place : l.at + length l.rest ≡ length l.fn.line;
}

abbrev pub decreases-loop-rest : goal.decreases-loop-rest
decreases-loop-rest l = length l.rest
