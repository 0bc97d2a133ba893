use Rattle.std.proofs.Common.{◌≡◌, ◌==◌, drop}
use Rattle.std.specs.List.{list_any}
use Rattle.flush_settling.proofs.cells.is_among.Given as goal

abbrev pub invariant-loop-key : goal.invariant-loop-key
invariant-loop-key l = list_any (λ key. key.0 == l.place) (drop l.key-index l.keys) ≡ list_any (λ key. key.0 == l.place) l.keys
