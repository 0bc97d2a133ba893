-- The places of rows by table and object, entered from the last row on.
use Rattle.std.proofs.Common.{◌≡◌, ℕ, ◌+◌, ◌-◌, ◌<◌, ◌≤◌, Bool, cond, ◌&&◌, List, length, get_or, drop, inl, inr, refl, sym, ap, ◌∙◌, arith}
use Rattle.std.specs.Prelude.{Option, None, Some, nat_eq}
use Rattle.std.specs.BTreeMap.{is_at}
use Rattle.std.specs.Cmp.{tied_itself}
use Rattle.std.specs.Ordering.{is_eq, nat_cmp}
use Rattle.std.specs.declared.cmp.Ordering.{Ordering}
use Rattle.std.specs.declared.cmp.Ordering.TheVariants.{Less, Equal, Greater}
use Rattle.std.proofs.lemmas.Bool.{eq-eqb}
use Rattle.std.proofs.lemmas.Bool.Decides.{eqb_tells}
use Rattle.std.proofs.lemmas.Cmp.{nat_cmp_total}
use Rattle.std.proofs.lemmas.Map.Lookups.{exact_unsigned}
use Rattle.std.specs.List.{position, position_from}
use Rattle.std.proofs.lemmas.List.{drop_all, drop_more}
use Rattle.std.proofs.lemmas.Iterator.Adapters.{position_from-zero}
use Rattle.base_core.proofs.Tests.{then_equal}
use Rattle.base_core.specs.declared.ids.ObjId.{ObjId}
use Rattle.base_core.specs.declared.ids.TableId.{TableId}
use Rattle.base_core.specs.declared.refusal.RowName.{RowName}
use Rattle.object_rows.specs.Places.{is_row_of, name_cmp}

-- what is found from a place on, where the row there is known
pub found_from : {A : Type 0} (test : A → Bool) (xs : List A) (n : ℕ) (d : A) → n < length xs → position_from test n (drop n xs) ≡ cond (test (get_or xs n d)) (Some n) (position_from test (n + 1) (drop (n + 1) xs))
found_from test xs n d h = ap (position_from test n) (drop_more xs n d h)

-- nothing is found behind the last
pub none_behind : {A : Type 0} (test : A → Bool) (xs : List A) (n : ℕ) → length xs ≤ n → position_from test n (drop n xs) ≡ None
none_behind test xs n h = ap (position_from test n) (drop_all n xs h)

-- from the first on
pub found_first : {A : Type 0} (test : A → Bool) (xs : List A) → position_from test 0 xs ≡ position test xs
found_first test xs = sym (position_from-zero test xs)

from_place : {A : Type 0} (test : A → Bool) (xs : List A) (m n : ℕ) → m ≡ n → position_from test m (drop m xs) ≡ position_from test n (drop n xs)
from_place test xs m n e = ap (λ k. position_from test k (drop k xs)) e

-- before any row is entered
pub none_entered : {A : Type 0} (test : A → Bool) (xs : List A) (found : Option ℕ) → found ≡ None → found ≡ position_from test (length xs - 0) (drop (length xs - 0) xs)
none_entered test xs found e = e ∙ sym (none_behind test xs (length xs - 0) (omega arith))

-- one more is entered, before those behind it
pub one_entered : {A : Type 0} (test : A → Bool) (xs : List A) (behind n : ℕ) (d : A) (was is : Option ℕ) → n + 1 + behind ≡ length xs
    → is ≡ cond (test (get_or xs n d)) (Some n) was
    → was ≡ position_from test (length xs - behind) (drop (length xs - behind) xs)
    → is ≡ position_from test (length xs - (behind + 1)) (drop (length xs - (behind + 1)) xs)
one_entered test xs behind n d was is h step before =
    step ∙ ap (cond (test (get_or xs n d)) (Some n)) (before ∙ from_place test xs (length xs - behind) (n + 1) (omega (arith, h)))
    ∙ sym (found_from test xs n d (omega (arith, h)))
    ∙ sym (from_place test xs (length xs - (behind + 1)) n (omega (arith, h)))

-- once all are entered
pub all_entered : {A : Type 0} (test : A → Bool) (xs : List A) (behind : ℕ) (was : Option ℕ) → length xs ≤ behind
    → was ≡ position_from test (length xs - behind) (drop (length xs - behind) xs)
    → was ≡ position test xs
all_entered test xs behind was h before = before ∙ from_place test xs (length xs - behind) 0 (omega (arith, h)) ∙ found_first test xs

less_apart : Less ≡ Equal → ⊥
less_apart e = cc

greater_apart : Greater ≡ Equal → ⊥
greater_apart e = cc

same_by : (m n : ℕ) (r : Ordering) → nat_cmp m n ≡ r → is_eq r ≡ nat_eq m n
same_by m n Equal e = sym (eq-eqb m n (exact_unsigned m n e))
same_by m n Less e = elim (eqb_tells m n) [
  | inl w ↦ absurd (less_apart (sym e ∙ ap (nat_cmp m) (sym w.1) ∙ tied_itself nat_cmp_total m))
  | inr w ↦ sym w.0
]
same_by m n Greater e = elim (eqb_tells m n) [
  | inl w ↦ absurd (greater_apart (sym e ∙ ap (nat_cmp m) (sym w.1) ∙ tied_itself nat_cmp_total m))
  | inr w ↦ sym w.0
]

-- numbers are ordered alike where they are one
pub number_same : (m n : ℕ) → is_eq (nat_cmp m n) ≡ nat_eq m n
number_same m n = same_by m n (nat_cmp m n) refl

-- rows are of one table and object where their names are ordered alike
pub name_same : (table : TableId) (object : ObjId) (row : RowName) → is_at (name_cmp (row.table, row.object)) (table, object) ≡ is_row_of table object row
name_same table object row =
    sym (then_equal (nat_cmp row.table.0 table.0) (nat_cmp row.object.0 object.0))
    ∙ ap (λ b. b && is_eq (nat_cmp row.object.0 object.0)) (number_same row.table.0 table.0)
    ∙ ap (λ b. nat_eq row.table.0 table.0 && b) (number_same row.object.0 object.0)

pub ruleset place_steps = (none_entered, all_entered)
