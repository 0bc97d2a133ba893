use Rattle.std.proofs.Common.{◌≡◌, map, take}
use Rattle.class_blocks.specs.Validators.{validators_on}
use Rattle.class_blocks.proofs.validators.all_validators.Given as goal

abbrev pub invariant-loop-line : goal.invariant-loop-line
invariant-loop-line l = l.all ≡ map (validators_on l.specs) (take l.line-index l.lines)
