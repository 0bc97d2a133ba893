use Rattle.std.proofs.Common.{ap, sym, ◌∙◌}
use Rattle.class_types.specs.Shown.{rules_of}
use Rattle.object_parts.specs.Validators.{takes_kind}
use Rattle.object_parts.proofs.Judged.{takes_value}
use Rattle.object_parts.proofs.validators.is_taken_as.Goals as goal

pub check_value-requires : goal.check_value-requires
check_value-requires g c =
    takes_value (rules_of c.args.hooks.now) c.args.hook.now c.args.value.now c.args.kind c.requires
    (ap (λ wanted. takes_kind wanted c.args.kind) (sym c.kind_of.ensures) ∙ (sym c.takes_kind-takes.ensures ∙ c.if-takes.true))
