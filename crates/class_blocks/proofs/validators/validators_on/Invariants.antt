use Rattle.std.proofs.Common.{◌≡◌, ◌++◌, drop}
use Rattle.std.specs.List.{flat_map}
use Rattle.class_blocks.specs.Validators.{validators_at}
use Rattle.class_blocks.proofs.validators.validators_on.Given as goal

abbrev pub invariant-loop-class : goal.invariant-loop-class
invariant-loop-class l =
    l.all ++ flat_map (λ class. validators_at l.specs class.0) (drop l.class-index l.line)
    ≡ flat_map (λ class. validators_at l.specs class.0) l.line
