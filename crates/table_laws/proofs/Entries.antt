-- What holds of each entry of an association list, before and after an insert or a removal.
use Rattle.std.proofs.Common.{◌≡◌, Bool, true, false, cond, ◌||◌, List, [], ◌∷◌, Option, None, Some, Ordering, refl, sym, ap, ◌∙◌, subst}
use Rattle.std.proofs.lemmas.Bool.{or_parts}
use Rattle.std.specs.declared.cmp.Ordering.TheVariants.{Less, Equal, Greater}
use Rattle.std.specs.Ordering.{is_eq, match_ordering}
use Rattle.std.specs.List.{AllByRecursion, list_any}
use Rattle.std.specs.Map.{lookup, remove_entry}
use Rattle.std.specs.BTreeMap.{insert_entry, is_at}

pub any_none : {A : Type 0} (p : A → Bool) (xs : List A) → list_any p xs ≡ false → AllByRecursion (λ x. p x ≡ false) xs
any_none p [] e = tt
any_none p (x ∷ xs) e = let both = or_parts (p x) (list_any p xs) e in (both.0, any_none p xs both.1)

pub none_any : {A : Type 0} (p : A → Bool) (xs : List A) → AllByRecursion (λ x. p x ≡ false) xs → list_any p xs ≡ false
none_any p [] all = refl
none_any p (x ∷ xs) all = ap (λ b. b || list_any p xs) all.0 ∙ none_any p xs all.1

pub all_both : {A : Type 0} (P Q R : A → Type 0) → ((x : A) → P x → Q x → R x) → (xs : List A) → AllByRecursion P xs → AllByRecursion Q xs → AllByRecursion R xs
all_both P Q R join [] p q = tt
all_both P Q R join (x ∷ xs) p q = (join x p.0 q.0, all_both P Q R join xs p.1 q.1)

pub all_map : {A : Type 0} (P Q : A → Type 0) → ((x : A) → P x → Q x) → (xs : List A) → AllByRecursion P xs → AllByRecursion Q xs
all_map P Q f [] p = tt
all_map P Q f (x ∷ xs) p = (f x p.0, all_map P Q f xs p.1)

pub all_of : {A : Type 0} (Q : A → Type 0) → ((x : A) → Q x) → (xs : List A) → AllByRecursion Q xs
all_of Q f [] = tt
all_of Q f (x ∷ xs) = (f x, all_of Q f xs)

-- each of the ones with each of the others
pub all_swap : {A B : Type 0} (R : A → B → Type 0) (xs : List A) (ys : List B) → AllByRecursion (λ x. AllByRecursion (R x) ys) xs → AllByRecursion (λ y. AllByRecursion (λ x. R x y) xs) ys
all_swap R [] ys all = all_of (λ y. AllByRecursion (λ x. R x y) []) (λ y. tt) ys
all_swap R (x ∷ xs) ys all = all_both (R x) (λ y. AllByRecursion (λ z. R z y) xs) (λ y. AllByRecursion (λ z. R z y) (x ∷ xs)) (λ y p q. (p, q)) ys all.0 (all_swap R xs ys all.1)

pub some_same : {A : Type 0} (x y : A) → Some x ≡ Some y → x ≡ y
some_same x y e = cc

none_some : {A : Type 0} (x : A) → None ≡ Some x → ⊥
none_some x e = cc

module _ {K X : Type 0} (cmp : K → K → Ordering) (same : (a b : K) → cmp a b ≡ Equal → a ≡ b) where
  insert_step : (P : K × X → Type 0) (e : K × X) (es rest : List (K × X)) (k : K) (v : X) (o : Ordering) → cmp k e.0 ≡ o → AllByRecursion P (e ∷ es) → P (k, v) → AllByRecursion P rest → AllByRecursion P (match_ordering o ((k, v) ∷ e ∷ es) ((e.0, v) ∷ es) (e ∷ rest))
  insert_step P e es rest k v Less q all here more = (here, all)
  insert_step P e es rest k v Equal q all here more = (subst (λ j. P (j, v)) (same k e.0 q) here, all.1)
  insert_step P e es rest k v Greater q all here more = (all.0, more)

  pub all_insert : (P : K × X → Type 0) (es : List (K × X)) (k : K) (v : X) → AllByRecursion P es → P (k, v) → AllByRecursion P (insert_entry cmp es k v)
  all_insert P [] k v all here = (here, tt)
  all_insert P (e ∷ es) k v all here = insert_step P e es (insert_entry cmp es k v) k v (cmp k e.0) refl all here (all_insert P es k v all.1 here)

  before_step : (Q : K × X → Type 0) (e : K × X) (es rest : List (K × X)) (k : K) (v : X) (o : Ordering) → cmp k e.0 ≡ o → ((d : K × X) → cmp k d.0 ≡ Equal → Q d) → (AllByRecursion Q rest → AllByRecursion Q es) → AllByRecursion Q (match_ordering o ((k, v) ∷ e ∷ es) ((e.0, v) ∷ es) (e ∷ rest)) → AllByRecursion Q (e ∷ es)
  before_step Q e es rest k v Less q at more all = all.1
  before_step Q e es rest k v Equal q at more all = (at e q, all.1)
  before_step Q e es rest k v Greater q at more all = (all.0, more all.1)

  -- what holds after an insert held before it, but for the entry that was replaced
  pub all_before : (Q : K × X → Type 0) (es : List (K × X)) (k : K) (v : X) → ((e : K × X) → cmp k e.0 ≡ Equal → Q e) → AllByRecursion Q (insert_entry cmp es k v) → AllByRecursion Q es
  all_before Q [] k v at all = tt
  all_before Q (e ∷ es) k v at all = before_step Q e es (insert_entry cmp es k v) k v (cmp k e.0) refl at (all_before Q es k v at) all

  lookup_step : (P : K × X → Type 0) (e : K × X) (rest : Option X) (k : K) (x : X) (o : Ordering) → cmp k e.0 ≡ o → P e → (rest ≡ Some x → P (k, x)) → cond (is_eq o) (Some e.1) rest ≡ Some x → P (k, x)
  lookup_step P e rest k x Less q here more found = more found
  lookup_step P e rest k x Equal q here more found = subst (λ j. P (j, x)) (sym (same k e.0 q)) (subst (λ z. P (e.0, z)) (some_same e.1 x found) here)
  lookup_step P e rest k x Greater q here more found = more found

  pub all_lookup : (P : K × X → Type 0) (es : List (K × X)) (k : K) (x : X) → AllByRecursion P es → lookup (is_at (cmp k)) es ≡ Some x → P (k, x)
  all_lookup P [] k x all found = absurd (none_some x found)
  all_lookup P (e ∷ es) k x all found = lookup_step P e (lookup (is_at (cmp k)) es) k x (cmp k e.0) refl all.0 (all_lookup P es k x all.1) found

remove_step : {K X : Type 0} (P : K × X → Type 0) (e : K × X) (es rest : List (K × X)) (b : Bool) → AllByRecursion P (e ∷ es) → AllByRecursion P rest → AllByRecursion P (cond b es (e ∷ rest))
remove_step P e es rest true all more = all.1
remove_step P e es rest false all more = (all.0, more)

pub all_remove : {K X : Type 0} (test : K → Bool) (P : K × X → Type 0) (es : List (K × X)) → AllByRecursion P es → AllByRecursion P (remove_entry test es)
all_remove test P [] all = tt
all_remove test P (e ∷ es) all = remove_step P e es (remove_entry test es) (test e.0) all (all_remove test P es all.1)
