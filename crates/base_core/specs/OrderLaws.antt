-- The order of values is total, and ties exactly equal values.
use Rattle.std.specs.Prelude.{◌≡◌, ℕ, ℤ, pos, Some, Bool, true, false, List, []}
use mathlib.Core.Path.{refl, subst}
use Rattle.std.specs.declared.cmp.Ordering.{Ordering}
use Rattle.std.specs.declared.cmp.Ordering.TheVariants.{Less, Equal, Greater}
use Rattle.std.specs.Ordering.{nat_cmp, int_cmp, bool_cmp, ordering_then, then_cmp, on, eq_by_cmp}
use Rattle.std.specs.Cmp.{IsPartialOrder, po, IsTotalOrder, on_total, then_total, nat_cmp_total, int_cmp_total, bool_cmp_total}
use Rattle.std.specs.Cmp.Lexicographic.{slice_cmp, nat_list_cmp_total, texts_ties}
use Rattle.base_core.specs.declared.value.Value.{Value}
use Rattle.base_core.specs.declared.value.Value.TheVariants.{Null, Int, Text, Bool as BoolValue, Bytes}
use Rattle.base_core.specs.Order.{rank, value_cmp}
use Rattle.base_core.specs.contracts.value.ValuePartialEq.TheImpl as equality

abbrev flag_of : Value → Bool
flag_of (BoolValue b) = b
flag_of v = false

abbrev number_of : Value → ℤ
number_of (Int n) = n
number_of v = pos 0

abbrev bytes_of : Value → List ℕ
bytes_of (Text t) = t
bytes_of (Bytes b) = b
bytes_of v = []

-- by rank, and then by what the value holds
abbrev rank_first_cmp : Value → Value → Ordering
rank_first_cmp = then_cmp (on rank nat_cmp) (then_cmp (on flag_of bool_cmp) (then_cmp (on number_of int_cmp) (on bytes_of (slice_cmp nat_cmp))))

rank_first_cmp_total : IsTotalOrder rank_first_cmp
rank_first_cmp_total = then_total (on_total rank nat_cmp_total) (then_total (on_total flag_of bool_cmp_total) (then_total (on_total number_of int_cmp_total) (on_total bytes_of nat_list_cmp_total)))

then_equal : (r : Ordering) → ordering_then r Equal ≡ r
then_equal Less = refl
then_equal Equal = refl
then_equal Greater = refl

is_rank_first : (a b : Value) → rank_first_cmp a b ≡ value_cmp a b
is_rank_first Null Null = refl
is_rank_first Null (BoolValue b) = refl
is_rank_first Null (Int b) = refl
is_rank_first Null (Text b) = refl
is_rank_first Null (Bytes b) = refl
is_rank_first (BoolValue a) Null = refl
is_rank_first (BoolValue a) (BoolValue b) = then_equal (bool_cmp a b)
is_rank_first (BoolValue a) (Int b) = refl
is_rank_first (BoolValue a) (Text b) = refl
is_rank_first (BoolValue a) (Bytes b) = refl
is_rank_first (Int a) Null = refl
is_rank_first (Int a) (BoolValue b) = refl
is_rank_first (Int a) (Int b) = then_equal (int_cmp a b)
is_rank_first (Int a) (Text b) = refl
is_rank_first (Int a) (Bytes b) = refl
is_rank_first (Text a) Null = refl
is_rank_first (Text a) (BoolValue b) = refl
is_rank_first (Text a) (Int b) = refl
is_rank_first (Text a) (Text b) = refl
is_rank_first (Text a) (Bytes b) = refl
is_rank_first (Bytes a) Null = refl
is_rank_first (Bytes a) (BoolValue b) = refl
is_rank_first (Bytes a) (Int b) = refl
is_rank_first (Bytes a) (Text b) = refl
is_rank_first (Bytes a) (Bytes b) = refl

pub value_cmp_total : IsTotalOrder value_cmp
value_cmp_total = subst IsTotalOrder (λ i a b. is_rank_first a b i) rank_first_cmp_total

-- values are told equal where the order does not tell them apart
pub value_cmp_ties : (a b : Value) → equality.eq-value.it a b ≡ eq_by_cmp value_cmp a b
value_cmp_ties Null Null = refl
value_cmp_ties Null (BoolValue b) = refl
value_cmp_ties Null (Int b) = refl
value_cmp_ties Null (Text b) = refl
value_cmp_ties Null (Bytes b) = refl
value_cmp_ties (BoolValue a) Null = refl
value_cmp_ties (BoolValue true) (BoolValue true) = refl
value_cmp_ties (BoolValue true) (BoolValue false) = refl
value_cmp_ties (BoolValue false) (BoolValue true) = refl
value_cmp_ties (BoolValue false) (BoolValue false) = refl
value_cmp_ties (BoolValue a) (Int b) = refl
value_cmp_ties (BoolValue a) (Text b) = refl
value_cmp_ties (BoolValue a) (Bytes b) = refl
value_cmp_ties (Int a) Null = refl
value_cmp_ties (Int a) (BoolValue b) = refl
value_cmp_ties (Int a) (Int b) = refl
value_cmp_ties (Int a) (Text b) = refl
value_cmp_ties (Int a) (Bytes b) = refl
value_cmp_ties (Text a) Null = refl
value_cmp_ties (Text a) (BoolValue b) = refl
value_cmp_ties (Text a) (Int b) = refl
value_cmp_ties (Text a) (Text b) = texts_ties a b
value_cmp_ties (Text a) (Bytes b) = refl
value_cmp_ties (Bytes a) Null = refl
value_cmp_ties (Bytes a) (BoolValue b) = refl
value_cmp_ties (Bytes a) (Int b) = refl
value_cmp_ties (Bytes a) (Text b) = refl
value_cmp_ties (Bytes a) (Bytes b) = texts_ties a b

pub value_cmp_po : IsPartialOrder equality.eq-value.it (λ a b. Some (value_cmp a b))
value_cmp_po = po value_cmp_total value_cmp_ties
