use Rattle.std.proofs.Common.{◌≡◌, ◌∷◌, take}
use Rattle.std.specs.List.{filter}
use Rattle.load_selects.specs.Branches.{is_under}
use Rattle.load_selects.proofs.branches.branch.Given as goal

abbrev pub invariant-loop-other : goal.invariant-loop-other
invariant-loop-other l = l.classes ≡ l.class ∷ filter (is_under l.mapping l.class) (take l.other-index l.other-items)
