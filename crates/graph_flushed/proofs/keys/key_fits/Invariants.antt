use Rattle.std.proofs.Common.{◌≡◌, ◌≤◌, drop, length}
use Rattle.std.specs.Cmp.Lexicographic.{pointwise}
use Rattle.object_arena.specs.Fit.{key_value_fits}
use Rattle.graph_flushed.proofs.keys.key_fits.Given as goal

abbrev pub invariant-loop-part : goal.invariant-loop-part
invariant-loop-part l =
    (l.part ≤ length l.values) × (pointwise (key_value_fits l.mapping l.class) (drop l.part l.attributes) (drop l.part l.values) ≡ pointwise (key_value_fits l.mapping l.class) l.attributes l.values)
