-- Values, and lists of values, that tie in the order are equal.
use Rattle.std.proofs.Common.{◌≡◌, Bool, true, false, List, refl, ap}
use Rattle.std.specs.declared.cmp.Ordering.TheVariants.{Equal}
use Rattle.std.specs.Ordering.{bool_cmp}
use Rattle.std.specs.Cmp.{IsTotalOrder}
use Rattle.std.specs.Cmp.Lexicographic.{lists_total}
use Rattle.std.specs.FinMap.{slice_cmp-IsAntisymmetric}
use Rattle.std.proofs.lemmas.Map.Lookups.{CmpEqualImpliesEq, exact_bytes, exact_signed}
use Rattle.base_core.specs.declared.value.Value.{Value}
use Rattle.base_core.specs.declared.value.Value.TheVariants.{Null, Int, Text, Bool as BoolValue, Bytes}
use Rattle.base_core.specs.Order.{value_cmp, values_cmp}
use Rattle.base_core.specs.OrderLaws.{value_cmp_total}

pub values_total : IsTotalOrder values_cmp
values_total = lists_total value_cmp_total

exact_bool : (a b : Bool) → bool_cmp a b ≡ Equal → a ≡ b
exact_bool true true e = refl
exact_bool true false e = cc
exact_bool false true e = cc
exact_bool false false e = refl

pub exact_value : (a b : Value) → value_cmp a b ≡ Equal → a ≡ b
exact_value Null Null e = refl
exact_value Null (BoolValue b) e = cc
exact_value Null (Int b) e = cc
exact_value Null (Text b) e = cc
exact_value Null (Bytes b) e = cc
exact_value (BoolValue a) Null e = cc
exact_value (BoolValue a) (BoolValue b) e = ap BoolValue (exact_bool a b e)
exact_value (BoolValue a) (Int b) e = cc
exact_value (BoolValue a) (Text b) e = cc
exact_value (BoolValue a) (Bytes b) e = cc
exact_value (Int a) Null e = cc
exact_value (Int a) (BoolValue b) e = cc
exact_value (Int a) (Int b) e = ap Int (exact_signed a b e)
exact_value (Int a) (Text b) e = cc
exact_value (Int a) (Bytes b) e = cc
exact_value (Text a) Null e = cc
exact_value (Text a) (BoolValue b) e = cc
exact_value (Text a) (Int b) e = cc
exact_value (Text a) (Text b) e = ap Text (exact_bytes a b e)
exact_value (Text a) (Bytes b) e = cc
exact_value (Bytes a) Null e = cc
exact_value (Bytes a) (BoolValue b) e = cc
exact_value (Bytes a) (Int b) e = cc
exact_value (Bytes a) (Text b) e = cc
exact_value (Bytes a) (Bytes b) e = ap Bytes (exact_bytes a b e)

pub exact_values : CmpEqualImpliesEq values_cmp
exact_values = slice_cmp-IsAntisymmetric exact_value
