-- The validators that the program ships: their names, and what each asks of which values.
use Rattle.std.specs.Prelude.{[], ◌∷◌, pos, codes}
use Rattle.base_core.specs.declared.value.Kind.TheVariants as kinds
use Rattle.class_types.specs.declared.rule.Rule.TheVariants.{AtLeast, MinLength, MaxLength, HasByte}
use Rattle.class_types.specs.Rules.{Asked, Rules, validation_of}

-- an integer that is at least 1
abbrev pub positive : Asked
positive = validation_of kinds.Integer (AtLeast (pos 1))

-- a text of at least one character
abbrev pub nonempty : Asked
nonempty = validation_of kinds.Text (MinLength 1)

-- a text of at most 40 characters
abbrev pub short : Asked
short = validation_of kinds.Text (MaxLength 40)

-- a text with an `@`
abbrev pub has_at : Asked
has_at = validation_of kinds.Text (HasByte 64)

abbrev pub shipped_rules : Rules
shipped_rules = record {
  names = codes "positive" ∷ codes "nonempty" ∷ codes "short" ∷ codes "has_at" ∷ [];
  asks = positive ∷ nonempty ∷ short ∷ has_at ∷ [];
}
