-- Truth with three values: true, false, and not known, which is `None`.
use Rattle.std.specs.Prelude.{Bool, true, false, not, List, [], ◌∷◌, Option, Some, None}
use Rattle.base_core.specs.declared.value.Value.{Value}
use Rattle.base_core.specs.declared.value.Value.TheVariants as value

-- the truth of a value; NULL, and what is no truth value, is not known
abbrev pub truth_of : Value → Option Bool
truth_of (value.Bool b) = Some b
truth_of v = None

abbrev pub value_of : Option Bool → Value
value_of (Some b) = value.Bool b
value_of None = value.Null

-- a condition passes where it is true
abbrev pub passes : Value → Bool
passes (value.Bool b) = b
passes v = false

abbrev pub not3 : Option Bool → Option Bool
not3 (Some b) = Some (not b)
not3 None = None

abbrev pub or3 : Option Bool → Option Bool → Option Bool
or3 (Some true) b = Some true
or3 (Some false) b = b
or3 None (Some true) = Some true
or3 None b = None

abbrev pub and3 : Option Bool → Option Bool → Option Bool
and3 (Some false) b = Some false
and3 (Some true) b = b
and3 None (Some false) = Some false
and3 None b = None

-- true where one of them is, false where all are false
abbrev pub any3 : List (Option Bool) → Option Bool
any3 [] = Some false
any3 (t ∷ ts) = or3 t (any3 ts)

-- false where one of them is, true where all are true
abbrev pub all3 : List (Option Bool) → Option Bool
all3 [] = Some true
all3 (t ∷ ts) = and3 t (all3 ts)

-- the truth, or its opposite in a negated form
abbrev pub truth_or_opposite : Bool → Option Bool → Option Bool
truth_or_opposite true t = not3 t
truth_or_opposite false t = t
