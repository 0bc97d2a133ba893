-- The order of a select's rows: by their keys, and rows with equal keys in the order in which they come.
use Rattle.std.specs.Prelude.{ℕ, suc, Bool, true, false, List, [], ◌∷◌, map}
use Rattle.std.specs.declared.cmp.Ordering.{Ordering}
use Rattle.std.specs.Ordering.{nat_cmp, ordering_then, is_eq, then_cmp, on, flip_args}
use Rattle.std.specs.Cmp.{IsTotalOrder, then_total, on_total, back_total}
use Rattle.std.specs.Cmp.Lexicographic.{slice_cmp}
use Rattle.std.specs.BTreeMap.{insert_entry}
use Rattle.base_core.specs.Order.{value_cmp, values_cmp}
use Rattle.base_core.specs.OrderLaws.{value_cmp_total}
use Rattle.base_core.specs.declared.value.Value.TheVariants as value
use Rattle.base_core.specs.declared.value.Value.{Value}
use Rattle.sql_semantics.specs.declared.sort_key.SortKey.{SortKey}

-- by the value ordered upwards, and then by the one ordered downwards
abbrev pub key_cmp : SortKey → SortKey → Ordering
key_cmp = then_cmp (on (λ k. k.ascending) value_cmp) (on (λ k. k.descending) (flip_args value_cmp))

pub key_cmp_total : IsTotalOrder key_cmp
key_cmp_total = then_total (on_total (λ k. k.ascending) value_cmp_total) (on_total (λ k. k.descending) (back_total value_cmp_total))

-- the key of a value, of which a descending one counts the other way round
abbrev pub key_of : Bool → Value → SortKey
key_of true v = record { ascending = value.Null; descending = v }
key_of false v = record { ascending = v; descending = value.Null }

-- a row's keys, and its place among the rows as they come
abbrev pub Rank : Type 0
Rank = List SortKey × ℕ

abbrev pub rank_cmp : Rank → Rank → Ordering
rank_cmp a b = ordering_then (slice_cmp key_cmp a.0 b.0) (nat_cmp a.1 b.1)

-- each row is put at its place among those before it
abbrev pub ranked_from : List (Rank × List Value) → ℕ → List (List SortKey × List Value) → List (Rank × List Value)
ranked_from done n [] = done
ranked_from done n (o ∷ os) = ranked_from (insert_entry rank_cmp done (o.0, n) o.1) (suc n) os

unfoldable pub in_order : List (List SortKey × List Value) → List (List Value)
in_order outs = map (λ e. e.1) (ranked_from [] 0 outs)

abbrev pub same_row : List Value → List Value → Bool
same_row a b = is_eq (values_cmp a b)
