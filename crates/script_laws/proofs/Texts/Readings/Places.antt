-- A name is found at its place among names of which no two are the same.
use Rattle.std.proofs.Common.{◌≡◌, ℕ, zero, suc, ◌++◌, Bool, true, false, not, cond, ◌||◌, if◌then◌else◌, List, [], ◌∷◌, map, length, Some, refl, sym, ap, subst, ◌∙◌}
use Rattle.std.specs.Prelude.{nat_lt, slice_get, slice_index_or}
use Rattle.std.specs.List.{list_all}
use Rattle.std.specs.Option.{option_map}
use Rattle.std.proofs.lemmas.Bool.{ltb-true, not-true, and_from, and_parts, not_from_false, or_parts}
use Rattle.std.proofs.lemmas.Option.{slice_get-map, slice_get-get_or}
use Rattle.schema_core.specs.Catalog.{same_name, has_name}
use Rattle.schema_core.proofs.Names.{same_names, name_itself}
use Rattle.sql_semantics.specs.Plain.{are_distinct}
use Rattle.script_laws.proofs.Texts.Readings.Agreeing.{no_some, some_is, true_false}

pub unlike : (n m : List ℕ) → same_name n m ≡ false → same_name m n ≡ false
unlike n m e = by (same_name m n) refl
  where
    by : (b : Bool) → same_name m n ≡ b → same_name m n ≡ false
    by false is = is
    by true is = true_false (sym (name_itself n) ∙ (sym (ap (λ (k : List ℕ). same_name n k) (same_names m n is)) ∙ e))

-- the first place of a name
abbrev pub place : List ℕ → List (List ℕ) → ℕ
place name [] = 0
place name (n ∷ ns) = if same_name n name then 0 else suc (place name ns)

other_name : (ns : List (List ℕ)) (n : List ℕ) (i : ℕ) (name : List ℕ) → has_name ns n ≡ false → slice_get ns i ≡ Some name → same_name name n ≡ false
other_name [] n i name h e = no_some (sym e)
other_name (m ∷ ns) n zero name h e = subst (λ (k : List ℕ). same_name k n ≡ false) (some_is e) (or_parts (same_name m n) (has_name ns n) h).0
other_name (m ∷ ns) n (suc i) name h e = other_name ns n i name (or_parts (same_name m n) (has_name ns n) h).1 e

pub place_is : (ns : List (List ℕ)) (i : ℕ) (name : List ℕ) → are_distinct ns ≡ true → slice_get ns i ≡ Some name → place name ns ≡ i
place_is [] i name d e = no_some (sym e)
place_is (n ∷ ns) zero name d e = ap (λ b. cond b 0 (suc (place name ns))) (subst (λ (m : List ℕ). same_name n m ≡ true) (some_is e) (name_itself n))
place_is (n ∷ ns) (suc i) name d e =
    let both = and_parts (not (has_name ns n)) (are_distinct ns) d in
    ap (λ b. cond b 0 (suc (place name ns))) (unlike name n (other_name ns n i name (not-true (has_name ns n) both.0) e)) ∙ ap suc (place_is ns i name both.1 e)

has_more : (ns : List (List ℕ)) (n m : List ℕ) → has_name ns m ≡ false → same_name n m ≡ false → has_name (ns ++ n ∷ []) m ≡ false
has_more [] n m h e = ap (λ b. b || false) e
has_more (k ∷ ns) n m h e =
    let both = or_parts (same_name k m) (has_name ns m) h in
    ap (λ b. b || has_name (ns ++ n ∷ []) m) both.0 ∙ has_more ns n m both.1 e

pub distinct_more : (ns : List (List ℕ)) (n : List ℕ) → are_distinct ns ≡ true → has_name ns n ≡ false → are_distinct (ns ++ n ∷ []) ≡ true
distinct_more [] n d h = refl
distinct_more (m ∷ ns) n d h =
    let both = and_parts (not (has_name ns m)) (are_distinct ns) d in
    let apart = or_parts (same_name m n) (has_name ns n) h in
    and_from (not (has_name (ns ++ n ∷ []) m)) (are_distinct (ns ++ n ∷ [])) (not_from_false (has_name (ns ++ n ∷ []) m) (has_more ns n m (not-true (has_name ns m) both.0) (unlike m n apart.0)))
    (distinct_more ns n both.1 apart.1)

-- ---- lists

pub map_more : {A B : Type 0} (f : A → B) (xs : List A) (x : A) → map f (xs ++ x ∷ []) ≡ map f xs ++ f x ∷ []
map_more f [] x = refl
map_more f (y ∷ xs) x = ap (λ ys. f y ∷ ys) (map_more f xs x)

pub all_at : {A : Type 0} (p : A → Bool) (xs : List A) (i : ℕ) (d : A) → list_all p xs ≡ true → p d ≡ true → p (slice_index_or xs i d) ≡ true
all_at p [] i d h e = e
all_at p (x ∷ xs) zero d h e = (and_parts (p x) (list_all p xs) h).0
all_at p (x ∷ xs) (suc i) d h e = all_at p xs i d (and_parts (p x) (list_all p xs) h).1 e

pub within : {A B : Type 0} (f : A → B) (xs : List A) (i : ℕ) (d : A) → nat_lt i (length xs) ≡ true → slice_get (map f xs) i ≡ Some (f (slice_index_or xs i d))
within f xs i d h = slice_get-map f xs i ∙ ap (option_map f) (slice_get-get_or xs i d (ltb-true i (length xs) h))
