use Rattle.std.proofs.Common.{◌≡◌, drop}
use Rattle.class_types.specs.Shown.{rules_of}
use Rattle.session_objects.specs.Judging.{first_invalid}
use Rattle.session_objects.proofs.judging.first_invalid.Given as goal

abbrev pub invariant-loop-one : goal.invariant-loop-one
invariant-loop-one g l = first_invalid (rules_of l.hooks) l.mapping l.class (drop l.one-index l.given) ≡ first_invalid (rules_of l.hooks) l.mapping l.class l.given
