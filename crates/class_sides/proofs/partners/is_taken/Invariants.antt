use Rattle.std.proofs.Common.{◌≡◌, drop}
use Rattle.std.specs.List.{enumerate_from, list_any}
use Rattle.class_sides.specs.Pairs.{is_taken_in}
use Rattle.class_sides.proofs.partners.is_taken.Given as goal

abbrev pub invariant-loop-class : goal.invariant-loop-class
invariant-loop-class l =
    list_any (is_taken_in l.classes l.sides l.side) (enumerate_from l.class (drop l.class l.layouts))
    ≡ list_any (is_taken_in l.classes l.sides l.side) (enumerate_from 0 l.layouts)
