-- Steps of the loops over rows that are switched, kept or left.
use Rattle.std.proofs.Common.{◌≡◌, ℕ, zero, suc, ◌+◌, ◌<◌, Bool, true, false, cond, List, [], ◌∷◌, ◌++◌, length, take, get_or, refl, sym, ap, ◌∙◌, arith, ◌-◌}
use Rattle.std.proofs.lemmas.Option.{get_or_from_slice_get}
use Rattle.std.proofs.lemmas.List.Quantifiers.{position-Some}
use Rattle.std.specs.Prelude.{Option, None, Some, slice_get, slice_index_or}
use Rattle.std.specs.List.{cons_option, filter_map}
use Rattle.schema_core.specs.declared.changes.GoneRow.{GoneRow}
use Rattle.schema_core.specs.declared.changes.RowChanges.{RowChanges}
use Rattle.schema_core.specs.Catalog.{Catalog}
use Rattle.schema_core.specs.Tables.{has_null}
use Rattle.flush_order.specs.Orders.{gone_at, no_gone, place_of_gone}
use Rattle.flush_order.specs.Sorted.{same_place}
use Rattle.row_partners.specs.Partners.{gone_under, gone_unless_taken, is_taken, known_key, partner_of, partners, place_of_new}
use Rattle.row_partners.proofs.PartnerSteps.{partner_at, partners_length}

-- ---- switched rows have places

pub some_within : (xs : List (Option ℕ)) (n g : ℕ) → slice_index_or xs n None ≡ Some g → n < length xs
some_within [] n g e = absurd (cc)
some_within (x ∷ xs) zero g e = omega arith
some_within (x ∷ xs) (suc n) g e = omega (arith, some_within xs n g e)

pub switched_within : (schema : Catalog) (changes : RowChanges) (found : List (Option ℕ)) (n g : ℕ) → found ≡ partners schema changes → slice_index_or found n None ≡ Some g → n < length changes.fresh
switched_within schema changes found n g is e =
    omega (arith, some_within found n g e, ap (λ (xs : List (Option ℕ)). length xs) is, partners_length schema changes)

pub none_or : (b : Bool) (x : Option ℕ) (g : ℕ) → cond b None x ≡ Some g → x ≡ Some g
none_or true x g e = absurd (cc)
none_or false x g e = e

-- the row with which a new one is switched is one of the deleted
pub gone_within : (schema : Catalog) (changes : RowChanges) (found : List (Option ℕ)) (n g : ℕ) → found ≡ partners schema changes → slice_index_or found n None ≡ Some g → g < length changes.gone
gone_within schema changes found n g is e =
    let at : partner_of schema changes n ≡ Some g =
    sym (partner_at schema changes n None (switched_within schema changes found n g is e)) ∙ ap (λ (xs : List (Option ℕ)). slice_index_or xs n None) (sym is) ∙ e in
    let under : gone_under schema changes (place_of_new schema changes n) ≡ Some g =
    none_or (is_taken schema changes (place_of_new schema changes n) n) (gone_under schema changes (place_of_new schema changes n)) g
    (none_or (has_null (known_key schema changes n)) (gone_unless_taken schema changes (place_of_new schema changes n) n) g at) in
    (position-Some (λ row. same_place (place_of_gone schema row) (place_of_new schema changes n)) changes.gone g no_gone under).0

pub gone_is : (changes : RowChanges) (place : ℕ) (row : GoneRow) → slice_get changes.gone place ≡ Some row → gone_at changes.gone place ≡ row
gone_is changes place row e = get_or_from_slice_get changes.gone place row no_gone e

pub ruleset within_steps = (switched_within, gone_within, gone_is)

-- ---- rows that are kept

behind_first : {A : Type 0} (found : Option A) (xs ys : List A) → cons_option found xs ++ ys ≡ cons_option found (xs ++ ys)
behind_first None xs ys = refl
behind_first (Some x) xs ys = refl

one_kept : {A B : Type 0} (f : A → Option B) (xs : List A) (i : ℕ) (x : A) → i < length xs → x ≡ get_or xs i x → filter_map f (take i xs) ++ filter_map f (x ∷ []) ≡ filter_map f (take (suc i) xs)
one_kept f [] i x h e = absurd (omega (arith, h))
one_kept f (y ∷ xs) zero x h e = ap (λ z. cons_option (f z) []) e
one_kept {B = B} f (y ∷ xs) (suc i) x h e =
    behind_first (f y) (filter_map f (take i xs)) (filter_map f (x ∷ [])) ∙ ap (cons_option (f y)) (one_kept f xs i x (omega (arith, h)) e)

-- one more item is kept or left out
pub kept_more : {A B : Type 0} (f : A → Option B) (xs : List A) (i : ℕ) (x : A) (was is : List B) → i < length xs → x ≡ get_or xs i x → was ≡ filter_map f (take i xs) → is ≡ was ++ filter_map f (x ∷ []) → is ≡ filter_map f (take (i + 1) xs)
kept_more {A = A} {B = B} f xs i x was is h e before step =
    let next : suc i ≡ i + 1 = omega arith in
    step ∙ ap (λ (own : List B). own ++ filter_map f (x ∷ [])) before ∙ one_kept f xs i x h e ∙ ap (λ n. filter_map f (take n xs)) next
