-- The order of values: null, false, true, integers, texts by their bytes, bytes. Keys and rows compare value by value.
use Rattle.std.specs.Prelude.{ℕ, Bool, List}
use Rattle.std.specs.declared.cmp.Ordering.{Ordering}
use Rattle.std.specs.Ordering.{nat_cmp, int_cmp, bool_cmp, is_eq}
use Rattle.std.specs.Cmp.Lexicographic.{slice_cmp}
use Rattle.base_core.specs.declared.value.Value.{Value}
use Rattle.base_core.specs.declared.value.Value.TheVariants.{Null, Int, Text, Bool as BoolValue, Bytes}

-- where the value's kind stands
abbrev pub rank : Value → ℕ
rank Null = 0
rank (BoolValue b) = 1
rank (Int n) = 2
rank (Text t) = 3
rank (Bytes b) = 4

abbrev pub value_cmp : Value → Value → Ordering
value_cmp (BoolValue a) (BoolValue b) = bool_cmp a b
value_cmp (Int a) (Int b) = int_cmp a b
value_cmp (Text a) (Text b) = slice_cmp nat_cmp a b
value_cmp (Bytes a) (Bytes b) = slice_cmp nat_cmp a b
value_cmp a b = nat_cmp (rank a) (rank b)

abbrev pub same_value : Value → Value → Bool
same_value a b = is_eq (value_cmp a b)

abbrev pub values_cmp : List Value → List Value → Ordering
values_cmp = slice_cmp value_cmp
