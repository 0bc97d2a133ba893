-- What the orders of values and of tables do not tell apart is equal.
use Rattle.std.proofs.Common.{◌≡◌, Bool, true, false, not, ◌&&◌, List, [], ◌∷◌, Ordering, refl, sym, ap, ◌∙◌}
use Rattle.std.specs.declared.cmp.Ordering.TheVariants.{Less, Equal, Greater}
use Rattle.std.specs.Ordering.{is_eq, ordering_reverse, ordering_then}
use Rattle.std.specs.Cmp.{eq_by_cmp_equiv}
use Rattle.std.specs.Cmp.Lexicographic.{lists_total}
use Rattle.std.proofs.lemmas.Cmp.{ranked}
use Rattle.base_core.proofs.Exact.{exact_value}
use Rattle.base_core.proofs.Tests.{and_false}
use Rattle.schema_core.proofs.TableOrder.{tables_total}
use Rattle.base_core.specs.declared.ids.TableId.{TableId}
use Rattle.base_core.specs.declared.value.Value.{Value}
use Rattle.base_core.specs.Order.{value_cmp, values_cmp}
use Rattle.base_core.specs.OrderLaws.{value_cmp_total}
use Rattle.schema_core.specs.Tables.{has_null, same_values, table_cmp}

-- a number is equal to itself
pub table_equal : (table : TableId) → table_cmp table table ≡ Equal
table_equal table = by (table_cmp table table) (tables_total.antisymm table table)
  where
    by : (r : Ordering) → r ≡ ordering_reverse r → r ≡ Equal
    by Less e = cc
    by Equal e = refl
    by Greater e = cc

pub same_table : (a b : TableId) → table_cmp a b ≡ Equal → a ≡ b
same_table a b e = ap (λ n. record { 0 = n }) (ranked a.0 b.0 Equal (sym e))

pub both_equal : (o p : Ordering) → ordering_then o p ≡ Equal → (o ≡ Equal) × (p ≡ Equal)
both_equal Less p e = cc
both_equal Equal p e = (refl, e)
both_equal Greater p e = cc

pub same_key : (a b : List Value) → values_cmp a b ≡ Equal → a ≡ b
same_key [] [] e = refl
same_key [] (y ∷ ys) e = cc
same_key (x ∷ xs) [] e = cc
same_key (x ∷ xs) (y ∷ ys) e =
    let both = both_equal (value_cmp x y) (values_cmp xs ys) e in
    λ i. exact_value x y both.0 i ∷ same_key xs ys both.1 i

pub is_equal : (o : Ordering) → is_eq o ≡ true → o ≡ Equal
is_equal Less e = cc
is_equal Equal e = refl
is_equal Greater e = cc

pub same_turned : (a b : List Value) → same_values a b ≡ same_values b a
same_turned a b = (eq_by_cmp_equiv (lists_total value_cmp_total)).symm a b

turned_by : (a b : List Value) (s : Bool) → same_values a b ≡ s → (not (has_null a) && same_values a b) ≡ (not (has_null b) && same_values b a)
turned_by a b true e =
    let p : a ≡ b = same_key a b (is_equal (values_cmp a b) e) in
    λ i. not (has_null (p i)) && same_values (p i) (sym p i)
turned_by a b false e = ap (λ s. not (has_null a) && s) e ∙ and_false (not (has_null a)) ∙ sym (ap (λ s. not (has_null b) && s) (sym (same_turned a b) ∙ e) ∙ and_false (not (has_null b)))

pub values_turned : (a b : List Value) → (not (has_null a) && same_values a b) ≡ (not (has_null b) && same_values b a)
values_turned a b = turned_by a b (same_values a b) refl
