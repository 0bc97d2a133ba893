use Rattle.std.proofs.Common.{◌≡◌, drop}
use Rattle.std.specs.List.{list_any}
use Rattle.class_types.specs.Shown.{rules_of}
use Rattle.class_layouts.specs.Faults.{is_bad_hook}
use Rattle.class_layouts.proofs.faults.some_bad_hook.Given as goal

abbrev pub invariant-loop-validator : goal.invariant-loop-validator
invariant-loop-validator g l =
    list_any (is_bad_hook (rules_of l.hooks) l.attributes) (drop l.validator-index l.validators)
    ≡ list_any (is_bad_hook (rules_of l.hooks) l.attributes) l.validators
