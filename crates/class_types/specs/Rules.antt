-- What validators ask of values, and which validator has a name.
use Rattle.std.specs.Prelude.{◌≡◌, ℕ, ℤ, Bool, true, false, List, [], ◌∷◌, ◌++◌, length, int_le, nat_le, nat_eq, ◌==◌, slice_get, slice_set, Option, None, Some}
use Rattle.std.specs.Option.{option_map, option_and_then}
use Rattle.std.specs.List.{list_any, position}
use Rattle.std.specs.Str.{chars}
use Rattle.base_core.specs.declared.value.Kind.{Kind}
use Rattle.base_core.specs.declared.value.Value.{Value}
use Rattle.base_core.specs.declared.value.Value.TheVariants.{Int, Text, Bytes}
use Rattle.schema_core.specs.Catalog.{same_name}
use Rattle.schema_core.specs.Tables.{kind_of_value}
use Rattle.class_types.specs.declared.rule.Rule.{Rule}
use Rattle.class_types.specs.declared.rule.Rule.TheVariants.{AtLeast, MinLength, MaxLength, HasByte}

abbrev pub has_byte : List ℕ → ℕ → Bool
has_byte bytes byte = list_any (λ other. other == byte) bytes

-- the value is as the rule asks; a text is counted by its characters
abbrev pub obeys : Rule → Value → Bool
obeys (AtLeast least) (Int number) = int_le least number
obeys (MinLength least) (Text text) = nat_le least (length (chars text))
obeys (MinLength least) (Bytes bytes) = nat_le least (length bytes)
obeys (MaxLength most) (Text text) = nat_le (length (chars text)) most
obeys (MaxLength most) (Bytes bytes) = nat_le (length bytes) most
obeys (HasByte byte) (Text text) = has_byte text byte
obeys (HasByte byte) (Bytes bytes) = has_byte bytes byte
obeys rule value = false

-- what a validator takes and asks: values of a kind, by a rule
pub record Asked : Type 0 where
  pub kind : Kind
  pub rule : Rule

abbrev pub validation_of : Kind → Rule → Asked
validation_of kind rule = record { kind = kind; rule = rule }

-- validators without their closures: their names, and in the same places what they ask
pub record Rules : Type 0 where
  pub names : List (List ℕ)
  pub asks : List Asked

-- where the validator of a name stands
abbrev pub place_of : List (List ℕ) → List ℕ → Option ℕ
place_of names name = position (λ other. same_name other name) names

-- what the validator of a name asks
abbrev pub asked_by : Rules → List ℕ → Option Asked
asked_by rules name = option_and_then (slice_get rules.asks) (place_of rules.names name)

abbrev pub kind_in : Option Asked → Option Kind
kind_in None = None
kind_in (Some asks) = Some asks.kind

-- the kind of the validator of a name
abbrev pub kind_of : Rules → List ℕ → Option Kind
kind_of rules name = kind_in (asked_by rules name)

abbrev pub put_at : Rules → List ℕ → Asked → Option ℕ → Rules
put_at rules name asks None = record { names = rules.names ++ name ∷ []; asks = rules.asks ++ asks ∷ [] }
put_at rules name asks (Some place) = record { names = rules.names; asks = slice_set rules.asks place asks }

-- the validators with one more under a name, which takes the place of the one of this name
abbrev pub with_rule : Rules → List ℕ → Asked → Rules
with_rule rules name asks = put_at rules name asks (place_of rules.names name)

abbrev pub passes_rule : Option Asked → Value → Bool
passes_rule None value = false
passes_rule (Some asks) value = obeys asks.rule value

abbrev pub passes_of : Option Kind → Option Asked → Value → Bool
passes_of None asks value = true
passes_of (Some kind) asks value = passes_rule asks value

-- the value passes the validator of a name; NULL, which has no kind, does without a call
abbrev pub passes : Rules → List ℕ → Value → Bool
passes rules name value = passes_of (kind_of_value value) (asked_by rules name) value

-- a value of this kind may be asked for: NULL always, another one where the validator of the name takes its kind
abbrev pub Takes : Rules → List ℕ → Option Kind → Type 0
Takes rules name None = Unit {0}
Takes rules name (Some kind) = kind_of rules name ≡ Some kind
