-- Keys of new rows by place: what is known at the start, once a key is put in, and in a list of them.
use Rattle.std.proofs.Common.{◌≡◌, ◌≢◌, ℕ, suc, zero, ◌+◌, ◌<◌, ◌≤◌, false, cond, List, [], ◌∷◌, length, get_or, replicate, set, drop, Option, Some, None, inl, inr, refl, sym, ap, ◌∙◌, arith}
use Rattle.std.proofs.lemmas.Bool.{eq-eqb}
use Rattle.std.proofs.lemmas.Bool.Decides.{eqb_tells}
use Rattle.std.proofs.lemmas.List.{drop_all, drop_more, get_or-set_other, get_or-set_same}
use Rattle.std.proofs.lemmas.Option.{get_or_from_slice_get, unwrap_or-slice_get}
use Rattle.std.specs.Prelude.{nat_eq}
use Rattle.std.specs.List.{enumerate_from, slice_get}
use Rattle.std.specs.Map.{lookup}
use Rattle.std.specs.Option.{unwrap_or}
use Rattle.base_core.specs.declared.value.Value.{Value}
use Rattle.base_core.specs.declared.value.Value.TheVariants.{Null}
use Rattle.schema_core.specs.Tables.{value_or_null}
use Rattle.flush_order.proofs.CellLemmas.{get_none}
use Rattle.flush_plan.specs.Flushing.{Keys, key_of_new, with_keys}
use Rattle.plan_statements.specs.Known.{AreKeysAt, keys_at}

pub not_same : (a b : ℕ) → (a ≢ b) → nat_eq a b ≡ false
not_same a b apart = elim (eqb_tells a b) [ inl w ↦ absurd (apart w.1) | inr w ↦ w.0 ]

-- ---- a list of keys by place

numbered : (first place : ℕ) (known : List (List Value)) → unwrap_or (lookup (nat_eq (first + place)) (enumerate_from first known)) [] ≡ get_or known place []
numbered first place [] = refl
numbered first zero (key ∷ known) = ap (λ b. unwrap_or (cond b (Some key) (lookup (nat_eq (first + 0)) (enumerate_from (first + 1) known))) []) (eq-eqb (first + 0) first (omega arith))
numbered first (suc place) (key ∷ known) =
    ap (λ b. unwrap_or (cond b (Some key) (lookup (nat_eq (first + suc place)) (enumerate_from (first + 1) known))) []) (not_same (first + suc place) first (λ e. omega arith))
    ∙ (let moved : first + suc place ≡ (first + 1) + place = omega arith in ap (λ n. unwrap_or (lookup (nat_eq n) (enumerate_from (first + 1) known)) []) moved)
    ∙ numbered (first + 1) place known

pub key_in_list : (known : List (List Value)) (place : ℕ) → key_of_new (keys_at known) place ≡ get_or known place []
key_in_list known place = (let e : place ≡ 0 + place = omega arith in ap (λ n. key_of_new (keys_at known) n) e) ∙ numbered 0 place known

-- ---- no key is known

empty_at : (d : List Value) (count place : ℕ) → get_or (replicate count d) place d ≡ d
empty_at d zero place = refl
empty_at d (suc count) zero = refl
empty_at d (suc count) (suc place) = empty_at d count place

pub none_known : (count : ℕ) (known : List (List Value)) → known ≡ replicate count [] → AreKeysAt [] known
none_known count known is place = sym (ap (λ (ks : List (List Value)). get_or ks place []) is ∙ empty_at [] count place)

-- ---- a key is put in

pub known_put : (keys : Keys) (known : List (List Value)) (place : ℕ) (key : List Value) → place < length known → AreKeysAt keys known → AreKeysAt ((place, key) ∷ keys) (set known place key)
known_put keys known place key within are other = elim (eqb_tells other place) [
  | inl w ↦
      ap (λ b. unwrap_or (cond b (Some key) (lookup (nat_eq other) keys)) []) w.0
      ∙ sym (get_or-set_same known place key [] within)
      ∙ ap (λ n. get_or (set known place key) n []) (sym w.1)
  | inr w ↦
      ap (λ b. unwrap_or (cond b (Some key) (lookup (nat_eq other) keys)) []) w.0
      ∙ are other
      ∙ sym (get_or-set_other known place other key [] w.1)
]

-- ---- keys are put in one by one

-- the keys that are known once so many were put in, and those that are still to be put in
abbrev pub IsPutTo : Keys → List ℕ → List (List Value) → ℕ → List (List Value) → Type 0
IsPutTo keys places answered count known = (now : Keys) × AreKeysAt now known × (with_keys now (drop count places) (drop count answered) ≡ with_keys keys places answered)

pub put_start : (keys : Keys) (places : List ℕ) (answered known : List (List Value)) → AreKeysAt keys known → IsPutTo keys places answered 0 known
put_start keys places answered known are = (keys, are, refl)

pub put_more : (keys : Keys) (places : List ℕ) (answered known then : List (List Value)) (i place : ℕ) (key : List Value) → i < length places → place ≡ get_or places i place → slice_get answered i ≡ Some key
    → ((ks : Keys) → AreKeysAt ks known → AreKeysAt ((place, key) ∷ ks) then) → IsPutTo keys places answered i known → IsPutTo keys places answered (i + 1) then
put_more keys places answered known then i place key within is found put p =
    let here : key ≡ get_or answered i key = sym (get_or_from_slice_get answered i key key found) in
    let less : i < length answered = less_from_found answered i key found in
    let first : drop i places ≡ place ∷ drop (i + 1) places = drop_more places i place within ∙ ap (λ n. n ∷ drop (i + 1) places) (sym is) in
    let second : drop i answered ≡ key ∷ drop (i + 1) answered = drop_more answered i key less ∙ ap (λ (k : List Value). k ∷ drop (i + 1) answered) (sym here) in
    ((place, key) ∷ p.0, put p.0 p.1, sym (ap (λ (ns : List ℕ). with_keys p.0 ns (drop i answered)) first ∙ ap (with_keys p.0 (place ∷ drop (i + 1) places)) second) ∙ p.2)
  where
    less_from_found : (xs : List (List Value)) (i : ℕ) (x : List Value) → slice_get xs i ≡ Some x → i < length xs
    less_from_found [] i x e = absurd cc
    less_from_found (y ∷ ys) zero x e = omega arith
    less_from_found (y ∷ ys) (suc i) x e = omega (arith, less_from_found ys i x e)

put_ends : (keys now : Keys) (places : List ℕ) (answered known : List (List Value)) → AreKeysAt now known → now ≡ with_keys keys places answered → AreKeysAt (with_keys keys places answered) known
put_ends keys now places answered known are is place = ap (λ (ks : Keys). key_of_new ks place) (sym is) ∙ are place

pub put_all : (keys : Keys) (places : List ℕ) (answered known : List (List Value)) (i : ℕ) → length places ≤ i → IsPutTo keys places answered i known → AreKeysAt (with_keys keys places answered) known
put_all keys places answered known i ended p =
    put_ends keys p.0 places answered known p.1 (sym (ap (λ (ns : List ℕ). with_keys p.0 ns (drop i answered)) (drop_all i places ended)) ∙ p.2)

none_after : (xs : List (List Value)) (i : ℕ) → slice_get xs i ≡ None → drop i xs ≡ []
none_after [] zero e = refl
none_after [] (suc i) e = refl
none_after (x ∷ xs) zero e = absurd cc
none_after (x ∷ xs) (suc i) e = none_after xs i e

no_more : (keys : Keys) (places : List ℕ) → with_keys keys places [] ≡ keys
no_more keys [] = refl
no_more keys (place ∷ places) = refl

pub put_short : (keys : Keys) (places : List ℕ) (answered known : List (List Value)) (i : ℕ) → slice_get answered i ≡ None → IsPutTo keys places answered i known → AreKeysAt (with_keys keys places answered) known
put_short keys places answered known i ended p =
    put_ends keys p.0 places answered known p.1 (sym (ap (with_keys p.0 (drop i places)) (none_after answered i ended) ∙ no_more p.0 (drop i places)) ∙ p.2)

-- ---- a part of a key

or_null : (found : Option Value) → value_or_null found ≡ unwrap_or found Null
or_null None = refl
or_null (Some value) = refl

pub part_known : (known : List (List Value)) (place part : ℕ) (key : List Value) (found : Option Value) → slice_get known place ≡ Some key → found ≡ slice_get key part → value_or_null found ≡ get_or (key_of_new (keys_at known) place) part Null
part_known known place part key found here is =
    ap value_or_null is ∙ or_null (slice_get key part) ∙ unwrap_or-slice_get key part Null
    ∙ ap (λ (k : List Value). get_or k part Null) (sym (key_in_list known place ∙ get_or_from_slice_get known place key [] here))

pub part_unknown : (known : List (List Value)) (place part : ℕ) → slice_get known place ≡ None → Null ≡ get_or (key_of_new (keys_at known) place) part Null
part_unknown known place part gone = sym (ap (λ (k : List Value). get_or k part Null) (key_in_list known place ∙ get_none known place [] gone))
