-- Which validators take a value.
use Rattle.std.specs.Prelude.{ℕ, Bool, true, false, not, ◌&&◌, List, Option, None, Some}
use Rattle.base_core.specs.declared.value.Kind.{Kind}
use Rattle.base_core.specs.declared.value.Value.{Value}
use Rattle.schema_core.specs.Catalog.{same_kind, same_name}
use Rattle.schema_core.specs.Tables.{kind_of_value}
use Rattle.class_types.specs.Rules.{Rules, kind_of, passes}

abbrev pub takes_kind : Option Kind → Kind → Bool
takes_kind None kind = false
takes_kind (Some wanted) kind = same_kind wanted kind

abbrev pub is_taken_as : Rules → List ℕ → Value → Option Kind → Bool
is_taken_as rules hook value None = true
is_taken_as rules hook value (Some kind) = takes_kind (kind_of rules hook) kind && passes rules hook value

-- the validator of a name takes the value: NULL always, another one where it is of the validator's kind and as its rule asks
abbrev pub is_taken : Rules → List ℕ → Value → Bool
is_taken rules hook value = is_taken_as rules hook value (kind_of_value value)

-- a validator, under its attribute, is one of the attribute of a name, and does not take the value
abbrev pub refuses : Rules → List ℕ → Value → List ℕ × List ℕ → Bool
refuses rules name value validator = same_name validator.0 name && not (is_taken rules validator.1 value)
