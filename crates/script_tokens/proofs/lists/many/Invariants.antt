use Rattle.std.proofs.Common.{◌≡◌, ◌-◌, []}
use Rattle.script_tokens.specs.Input.{turns}
use Rattle.script_tokens.specs.Many.{many_from}
use Rattle.script_tokens.proofs.lists.many.Given as goal

abbrev pub invariant-loop-turn : goal.invariant-loop-turn
invariant-loop-turn g l = many_from g.reader (turns l.initial.tokens) [] l.initial.tokens ≡ many_from g.reader (l._turn-end - l._turn) l.found.items l.tokens
