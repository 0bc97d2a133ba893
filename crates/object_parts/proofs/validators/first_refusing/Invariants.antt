use Rattle.std.proofs.Common.{◌≡◌, drop}
use Rattle.std.specs.List.{find}
use Rattle.class_types.specs.Shown.{rules_of}
use Rattle.object_parts.specs.Validators.{refuses}
use Rattle.object_parts.proofs.validators.first_refusing.Given as goal

abbrev pub invariant-loop-validator : goal.invariant-loop-validator
invariant-loop-validator g l = find (refuses (rules_of l.hooks) l.name l.value) (drop l.validator-index l.validators) ≡ find (refuses (rules_of l.hooks) l.name l.value) l.validators
