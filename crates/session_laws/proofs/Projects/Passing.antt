-- A key that passes from a deleted row to a new one passes to the first new row that has it.
use Rattle.std.proofs.Common.{◌≡◌, ℕ, zero, suc, ◌+◌, ◌<◌, Bool, true, false, cond, not, List, [], ◌∷◌, length, get_or, Option, None, Some, refl, sym, ap, ◌∙◌, arith}
use Rattle.std.proofs.lemmas.Bool.{and_from, and_parts, eq-eqb}
use Rattle.std.proofs.lemmas.List.Folds.{Any-from_list_any, list_any_at}
use Rattle.std.proofs.lemmas.List.FromFn.{get_or-range_with_len, length-range_with_len}
use Rattle.std.proofs.lemmas.Iterator.Adapters.{position_from-zero}
use Rattle.std.proofs.lemmas.List.Quantifiers.{position-Some}
use Rattle.std.specs.Prelude.{slice_index_or}
use Rattle.std.specs.List.{list_any, position, position_from, range_with_len}
use Rattle.schema_core.specs.declared.changes.RowChanges.{RowChanges}
use Rattle.schema_core.specs.Catalog.{Catalog}
use Rattle.schema_core.specs.Declaration.{some_two}
use Rattle.schema_core.specs.Tables.{has_null}
use Rattle.flush_order.specs.Orders.{gone_at, no_gone, place_of_gone}
use Rattle.flush_order.specs.Sorted.{Place, same_place}
use Rattle.session_laws.proofs.Plans.Newness.{place_same, same_is}
use Rattle.session_laws.proofs.Plans.Numbers.{two_at}
use Rattle.row_partners.proofs.PartnerSteps.{partner_at, partners_length}
use Rattle.row_partners.specs.Partners.{gone_under, gone_unless_taken, is_known_as, is_taken, known_key, partner_of, partners, place_of_new}
use Rattle.row_switches.specs.Switch.{is_number}
use Rattle.session_laws.specs.Projects.{PassedKeysAreSwitched}
use Rattle.session_laws.proofs.Projects.Columns.{no_key}

pub true_is_false : true ≡ false → ⊥
true_is_false e = absurd (cc)

-- what is given only where a test fails
pub false_none : (b : Bool) (x : Option ℕ) (g : ℕ) → cond b None x ≡ Some g → b ≡ false
false_none true x g e = absurd (cc)
false_none false x g e = refl

-- the first number that passes
first_of : (p : ℕ → Bool) (fuel j : ℕ) → j < fuel → p j ≡ true → (i : ℕ) × (i < fuel) × (p i ≡ true) × (list_any p (range_with_len 0 i) ≡ false)
first_of p zero j h e = absurd (omega (arith, h))
first_of p (suc fuel) j h e = by (λ k less found. first_of p fuel k less found) (list_any p (range_with_len 0 j)) refl
  where
    by : ((k : ℕ) → k < fuel → p k ≡ true → (i : ℕ) × (i < fuel) × (p i ≡ true) × (list_any p (range_with_len 0 i) ≡ false))
        → (b : Bool) → list_any p (range_with_len 0 j) ≡ b → (i : ℕ) × (i < suc fuel) × (p i ≡ true) × (list_any p (range_with_len 0 i) ≡ false)
    by before false f = (j, h, e, f)
    by before true f =
        let a = Any-from_list_any p (range_with_len 0 j) f in
        let less : a.0 < j = omega (arith, a.2, length-range_with_len 0 j) in
        let is : a.1 ≡ a.0 = sym a.3 ∙ get_or-range_with_len 0 j a.0 a.1 less ∙ omega arith in
        let rest = before a.0 (omega (arith, h, less)) (ap p (sym is) ∙ a.4) in
        (rest.0, omega (arith, rest.1), rest.2, rest.3)

not_first : (b : Bool) (r : Option ℕ) (n : ℕ) → cond b (Some n) r ≡ None → b ≡ false
not_first true r n e = absurd (cc)
not_first false r n e = refl

later_none : (b : Bool) (r : Option ℕ) (n : ℕ) → cond b (Some n) r ≡ None → r ≡ None
later_none true r n e = absurd (cc)
later_none false r n e = e

found_from : {A : Type 0} (p : A → Bool) (n : ℕ) (xs : List A) (i : ℕ) (d : A) → i < length xs → p (get_or xs i d) ≡ true → position_from p n xs ≡ None → ⊥
found_from p n [] i d h e none = omega (arith, h)
found_from p n (x ∷ xs) zero d h e none = true_is_false (sym e ∙ not_first (p x) (position_from p (n + 1) xs) n none)
found_from p n (x ∷ xs) (suc i) d h e none = found_from p (n + 1) xs i d (omega (arith, h)) e (later_none (p x) (position_from p (n + 1) xs) n none)

-- a number is found where one passes
pub some_found : {A : Type 0} (p : A → Bool) (xs : List A) (i : ℕ) (d : A) → i < length xs → p (get_or xs i d) ≡ true → position p xs ≡ None → ⊥
some_found p xs i d h e none = found_from p 0 xs i d h e (sym (position_from-zero p xs) ∙ none)

module _ (schema : Catalog) (changes : RowChanges) (apart : some_two (λ one other. same_place (place_of_gone schema one) (place_of_gone schema other)) changes.gone ≡ false) (number : ℕ) (inside : number < length changes.gone) where
  -- the deleted row of a number is found under its table and key, since no other has them
  under_is : (wanted : Place) → same_place (place_of_gone schema (gone_at changes.gone number)) wanted ≡ true → gone_under schema changes wanted ≡ Some number
  under_is wanted same = by (gone_under schema changes wanted) refl
    where
      by : (r : Option ℕ) → gone_under schema changes wanted ≡ r → r ≡ Some number
      by None e = absurd (some_found (λ row. same_place (place_of_gone schema row) wanted) changes.gone number no_gone inside same e)
      by (Some found) e =
          let f = position-Some (λ row. same_place (place_of_gone schema row) wanted) changes.gone found no_gone e in
          ap (λ n. Some n) (two_at (place_of_gone schema) changes.gone no_gone found number apart f.0 inside
          (same_is (place_of_gone schema (get_or changes.gone found no_gone)) wanted f.1 ∙ sym (same_is (place_of_gone schema (get_or changes.gone number no_gone)) wanted same)))

  -- the first new row that has the key is switched with it
  taken_by : (first : ℕ) (wanted : Place) → first < length changes.fresh → is_known_as schema changes wanted first ≡ true → is_taken schema changes wanted first ≡ false → gone_under schema changes wanted ≡ Some number → partner_of schema changes first ≡ Some number
  taken_by first wanted h known free found =
      let parts = and_parts (not (has_null (known_key schema changes first))) (same_place (place_of_new schema changes first) wanted) known in
      let place : place_of_new schema changes first ≡ wanted = same_is (place_of_new schema changes first) wanted parts.1 in
      ap (λ b. cond b None (gone_unless_taken schema changes (place_of_new schema changes first) first)) (no_key (has_null (known_key schema changes first)) parts.0)
      ∙ ap (λ (at : Place). gone_unless_taken schema changes at first) place
      ∙ ap (λ b. cond b None (gone_under schema changes wanted)) free
      ∙ found

  is_partner : (first : ℕ) → first < length changes.fresh → partner_of schema changes first ≡ Some number → list_any (is_number number) (partners schema changes) ≡ true
  is_partner first h e =
      list_any_at (is_number number) (partners schema changes) first None (omega (arith, h, partners_length schema changes))
      (ap (is_number number) (partner_at schema changes first None h ∙ e) ∙ eq-eqb number number refl)

  -- what has the key is switched, or stands behind what is
  passes : (place : ℕ) → place < length changes.fresh → has_null (known_key schema changes place) ≡ false → slice_index_or (partners schema changes) place None ≡ None → list_any (is_number number) (partners schema changes) ≡ false
      → same_place (place_of_gone schema (gone_at changes.gone number)) (place_of_new schema changes place) ≡ true → ⊥
  passes place h whole none left same =
      let wanted = place_of_new schema changes place in
      let found = under_is wanted same in
      let first = first_of (is_known_as schema changes wanted) (suc place) place (omega arith) (and_from (not (has_null (known_key schema changes place))) (same_place wanted wanted) (ap not whole) (place_same wanted wanted refl)) in
      let before : first.0 < length changes.fresh = omega (arith, h, first.1) in
      true_is_false (sym (is_partner first.0 before (taken_by first.0 wanted before first.2 first.3 found)) ∙ left)

pub keys_pass_once : PassedKeysAreSwitched
keys_pass_once schema changes apart place number h inside whole none left = by (same_place (place_of_gone schema (gone_at changes.gone number)) (place_of_new schema changes place)) refl
  where
    by : (b : Bool) → same_place (place_of_gone schema (gone_at changes.gone number)) (place_of_new schema changes place) ≡ b → b ≡ false
    by true e = absurd (passes schema changes apart number inside place h whole none left e)
    by false e = refl
