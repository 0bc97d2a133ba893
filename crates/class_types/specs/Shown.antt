-- What is seen of validators.
use Rattle.std.specs.Prelude.{map}
use Rattle.class_types.specs.Rules.{Rules, validation_of}
use Rattle.class_types.specs.declared.hooks.Hooks.{Hooks}

-- the validators as they were given, without their closures
abbrev pub rules_of : {t : _} {f : _} {m : _} → Hooks t f m → Rules
rules_of hooks = record { names = hooks.names; asks = map (λ validator. validation_of validator.kind validator.rule) hooks.validators.items }
