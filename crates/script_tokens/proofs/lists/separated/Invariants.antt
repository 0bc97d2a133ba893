use Rattle.std.proofs.Common.{◌≡◌, ◌-◌}
use Rattle.script_tokens.specs.Input.{turns, separated_from}
use Rattle.script_tokens.proofs.lists.separated.Given as goal

abbrev pub invariant-loop-turn : goal.invariant-loop-turn
invariant-loop-turn g l =
    separated_from l.mark g.reader (turns l.initial.tokens) l.initial.found.items l.initial.tokens
    ≡ separated_from l.mark g.reader (l._turn-end - l._turn) l.found.items l.tokens
