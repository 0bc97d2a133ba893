use Rattle.std.proofs.Common.{◌≡◌, ◌-◌}
use Rattle.script_blocks.specs.Classes.{cascade, cascade_from}
use Rattle.script_blocks.proofs.classes.cascade.Given as goal

abbrev pub invariant-loop-turn : goal.invariant-loop-turn
invariant-loop-turn l = cascade l.initial.tokens ≡ cascade_from (l._turn-end - l._turn) l.so_far l.tokens
