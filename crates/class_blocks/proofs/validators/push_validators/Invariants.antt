use Rattle.std.proofs.Common.{◌≡◌, ◌++◌, take}
use Rattle.class_blocks.proofs.validators.push_validators.Given as goal

abbrev pub invariant-loop-validator : goal.invariant-loop-validator
invariant-loop-validator l = l.all ≡ l.initial.all ++ take l.validator-index l.found
