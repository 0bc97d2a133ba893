-- Places of keys, of which some stand empty: those that are full are found, written and emptied as entries are.
use Rattle.std.proofs.Common.{◌≡◌, Bool, true, false, List, [], ◌∷◌, Option, None, Some, is_some, refl, sym, ap, ◌∙◌}
use Rattle.std.specs.declared.cmp.Ordering.{Ordering}
use Rattle.std.specs.declared.cmp.Ordering.TheVariants.{Less, Equal, Greater}
use Rattle.std.specs.Cmp.{IsTotalOrder}
use Rattle.std.specs.List.{AllByRecursion}
use Rattle.std.specs.Option.{option_flatten}
use Rattle.std.specs.BTreeMap.{insert_entry, is_at}
use Rattle.std.specs.Map.{keys_of, lookup, remove_entry, set_value}
use Rattle.std.specs.List.Sorted.{IsStrictlySortedBy}
use Rattle.std.proofs.lemmas.Map.Keys.{sorted_head, sorted_tail}
use Rattle.std.proofs.lemmas.Map.Lookups.{CmpEqualImpliesEq}
use Rattle.table_rows.specs.Rows.{rows_present}

above_full : {K X : Type 0} (R : K → K → Ordering) (k : K) (es : List (K × Option X)) → AllByRecursion (λ q. R k q ≡ Less) (keys_of es) → AllByRecursion (λ q. R k q ≡ Less) (keys_of (rows_present es))
above_full R k [] above = tt
above_full R k ((q, None) ∷ es) above = above_full R k es above.1
above_full R k ((q, Some x) ∷ es) above = (above.0, above_full R k es above.1)

pub none_above : {K X : Type 0} (R : K → K → Ordering) (k : K) (es : List (K × X)) → AllByRecursion (λ q. R k q ≡ Less) (keys_of es) → lookup (is_at (R k)) es ≡ None
none_above R k [] above = refl
none_above R k (e ∷ es) above = rw above.0 (none_above R k es above.1)

kept_above : {K X : Type 0} (R : K → K → Ordering) (k : K) (es : List (K × X)) → AllByRecursion (λ q. R k q ≡ Less) (keys_of es) → remove_entry (is_at (R k)) es ≡ es
kept_above R k [] above = refl
kept_above R k (e ∷ es) above = rw above.0 (ap (λ t. e ∷ t) (kept_above R k es above.1))

put_above : {K X : Type 0} (R : K → K → Ordering) (k : K) (v : X) (es : List (K × X)) → AllByRecursion (λ q. R k q ≡ Less) (keys_of es) → insert_entry R es k v ≡ (k, v) ∷ es
put_above R k v [] above = refl
put_above R k v (e ∷ es) above = rw above.0 refl

-- what is above an equal key, or above one that is above
pub as_above : {K : Type 0} {R : K → K → Ordering} (o : IsTotalOrder R) (k q : K) → R k q ≡ Equal → (ks : List K) → AllByRecursion (λ p. R q p ≡ Less) ks → AllByRecursion (λ p. R k p ≡ Less) ks
as_above o k q is [] above = tt
as_above o k q is (p ∷ ks) above = (o.congr k q p is ∙ above.0, as_above o k q is ks above.1)

far_above : {K : Type 0} {R : K → K → Ordering} (o : IsTotalOrder R) (k q : K) → R k q ≡ Less → (ks : List K) → AllByRecursion (λ p. R q p ≡ Less) ks → AllByRecursion (λ p. R k p ≡ Less) ks
far_above o k q is [] above = tt
far_above o k q is (p ∷ ks) above = (o.trans k q p is above.0, far_above o k q is ks above.1)

-- ---- what stands at a key

pub full_found : {K X : Type 0} {R : K → K → Ordering} (o : IsTotalOrder R) (k : K) (es : List (K × Option X)) → IsStrictlySortedBy R (keys_of es)
    → lookup (is_at (R k)) (rows_present es) ≡ option_flatten (lookup (is_at (R k)) es)
full_found o k [] sorted = refl
full_found {X = X} {R = R} o k ((q, x) ∷ es) sorted =
    at (R k q) refl x (full_found o k es (sorted_tail R q (keys_of es) sorted)) (λ is. none_above R k (rows_present es) (above_full R k es (as_above o k q is (keys_of es) (sorted_head R q (keys_of es) sorted))))
  where
    at : (r : Ordering) → R k q ≡ r → (x : Option X) → lookup (is_at (R k)) (rows_present es) ≡ option_flatten (lookup (is_at (R k)) es) → (R k q ≡ Equal → lookup (is_at (R k)) (rows_present es) ≡ None)
        → lookup (is_at (R k)) (rows_present ((q, x) ∷ es)) ≡ option_flatten (lookup (is_at (R k)) ((q, x) ∷ es))
    at Less is None rest none = rw is rest
    at Less is (Some v) rest none = rw is rest
    at Equal is None rest none = rw is (none is)
    at Equal is (Some v) rest none = rw is refl
    at Greater is None rest none = rw is rest
    at Greater is (Some v) rest none = rw is rest

-- ---- a row put in

pub full_put : {K X : Type 0} {R : K → K → Ordering} (o : IsTotalOrder R) (exact : CmpEqualImpliesEq R) (k : K) (v : X) (es : List (K × Option X)) → IsStrictlySortedBy R (keys_of es)
    → rows_present (insert_entry R es k (Some v)) ≡ insert_entry R (rows_present es) k v
full_put o exact k v [] sorted = refl
full_put {X = X} {R = R} o exact k v ((q, x) ∷ es) sorted =
    at (R k q) refl x (full_put o exact k v es (sorted_tail R q (keys_of es) sorted))
    (λ is. put_above R k v (rows_present es) (above_full R k es (far_above o k q is (keys_of es) (sorted_head R q (keys_of es) sorted))))
    (λ is. put_above R k v (rows_present es) (above_full R k es (as_above o k q is (keys_of es) (sorted_head R q (keys_of es) sorted))))
  where
    at : (r : Ordering) → R k q ≡ r → (x : Option X) → rows_present (insert_entry R es k (Some v)) ≡ insert_entry R (rows_present es) k v → (R k q ≡ Less → insert_entry R (rows_present es) k v ≡ (k, v) ∷ rows_present es)
        → (R k q ≡ Equal → insert_entry R (rows_present es) k v ≡ (k, v) ∷ rows_present es) → rows_present (insert_entry R ((q, x) ∷ es) k (Some v)) ≡ insert_entry R (rows_present ((q, x) ∷ es)) k v
    at Less is None rest below same = rw is (sym (below is))
    at Less is (Some w) rest below same = rw is refl
    at Equal is None rest below same = rw is (ap (λ p. (p, v) ∷ rows_present es) (sym (exact k q is)) ∙ sym (same is))
    at Equal is (Some w) rest below same = rw is refl
    at Greater is None rest below same = rw is rest
    at Greater is (Some w) rest below same = rw is (ap (λ t. (q, w) ∷ t) rest)

-- ---- a row taken out, whose place stays

pub full_taken : {K X : Type 0} {R : K → K → Ordering} (o : IsTotalOrder R) (k : K) (es : List (K × Option X)) → IsStrictlySortedBy R (keys_of es)
    → rows_present (set_value (is_at (R k)) es None) ≡ remove_entry (is_at (R k)) (rows_present es)
full_taken o k [] sorted = refl
full_taken {X = X} {R = R} o k ((q, x) ∷ es) sorted =
    at (R k q) refl x (full_taken o k es (sorted_tail R q (keys_of es) sorted)) (λ is. kept_above R k (rows_present es) (above_full R k es (as_above o k q is (keys_of es) (sorted_head R q (keys_of es) sorted))))
  where
    at : (r : Ordering) → R k q ≡ r → (x : Option X) → rows_present (set_value (is_at (R k)) es None) ≡ remove_entry (is_at (R k)) (rows_present es) → (R k q ≡ Equal → remove_entry (is_at (R k)) (rows_present es) ≡ rows_present es)
        → rows_present (set_value (is_at (R k)) ((q, x) ∷ es) None) ≡ remove_entry (is_at (R k)) (rows_present ((q, x) ∷ es))
    at Less is None rest kept = rw is rest
    at Less is (Some v) rest kept = rw is (ap (λ t. (q, v) ∷ t) rest)
    at Equal is None rest kept = rw is (sym (kept is))
    at Equal is (Some v) rest kept = rw is refl
    at Greater is None rest kept = rw is rest
    at Greater is (Some v) rest kept = rw is (ap (λ t. (q, v) ∷ t) rest)

-- ---- an empty place given up

pub full_swept : {K X : Type 0} (R : K → K → Ordering) (k : K) (es : List (K × Option X)) → lookup (is_at (R k)) es ≡ Some None → rows_present (remove_entry (is_at (R k)) es) ≡ rows_present es
full_swept R k [] found = cc
full_swept {X = X} R k ((q, x) ∷ es) found = at (is_at (R k) q) refl x found (λ f. full_swept R k es f)
  where
    at : (b : Bool) → is_at (R k) q ≡ b → (x : Option X) → lookup (is_at (R k)) ((q, x) ∷ es) ≡ Some None → (lookup (is_at (R k)) es ≡ Some None → rows_present (remove_entry (is_at (R k)) es) ≡ rows_present es)
        → rows_present (remove_entry (is_at (R k)) ((q, x) ∷ es)) ≡ rows_present ((q, x) ∷ es)
    at true is None found rest = rw is refl
    at true is (Some v) found rest = let here : Some (Some v) ≡ Some None = rw is at found in cc
    at false is None found rest = rw is (rest (rw is at found))
    at false is (Some v) found rest = rw is (ap (λ t. (q, v) ∷ t) (rest (rw is at found)))

-- ---- places are kept

pub keeps_put : {K X : Type 0} (R : K → K → Ordering) (test : K → Bool) (k : K) (v : X) (es : List (K × X)) → is_some (lookup test es) ≡ true → is_some (lookup test (insert_entry R es k v)) ≡ true
keeps_put R test k v [] there = cc
keeps_put {X = X} R test k v (e ∷ es) there = at (R k e.0) refl (test k) refl (test e.0) refl (λ h. keeps_put R test k v es h)
  where
    at : (r : Ordering) → R k e.0 ≡ r → (b : Bool) → test k ≡ b → (c : Bool) → test e.0 ≡ c → (is_some (lookup test es) ≡ true → is_some (lookup test (insert_entry R es k v)) ≡ true)
        → is_some (lookup test (insert_entry R (e ∷ es) k v)) ≡ true
    at Less is true new c old rest = rw (is, new) refl
    at Less is false new c old rest = rw (is, new) there
    at Equal is b new true old rest = rw (is, old) refl
    at Equal is b new false old rest = rw (is, old) (rw old at there)
    at Greater is b new true old rest = rw (is, old) refl
    at Greater is b new false old rest = rw (is, old) (rest (rw old at there))

pub keeps_set : {K X : Type 0} (at_key test : K → Bool) (w : X) (es : List (K × X)) → is_some (lookup test es) ≡ true → is_some (lookup test (set_value at_key es w)) ≡ true
keeps_set at_key test w [] there = cc
keeps_set at_key test w (e ∷ es) there = at (at_key e.0) refl (test e.0) refl (λ h. keeps_set at_key test w es h)
  where
    at : (b : Bool) → at_key e.0 ≡ b → (c : Bool) → test e.0 ≡ c → (is_some (lookup test es) ≡ true → is_some (lookup test (set_value at_key es w)) ≡ true) → is_some (lookup test (set_value at_key (e ∷ es) w)) ≡ true
    at true is true old rest = rw (is, old) refl
    at true is false old rest = rw (is, old) (rw old at there)
    at false is true old rest = rw (is, old) refl
    at false is false old rest = rw (is, old) (rest (rw old at there))

-- ---- order, and a key without a place

pub full_sorted : {K X : Type 0} (R : K → K → Ordering) (es : List (K × Option X)) → IsStrictlySortedBy R (keys_of es) → IsStrictlySortedBy R (keys_of (rows_present es))
unfolding IsStrictlySortedBy
full_sorted R [] sorted = sorted
full_sorted R ((q, None) ∷ es) sorted = full_sorted R es sorted.1
full_sorted R ((q, Some x) ∷ es) sorted = (above_full R q es sorted.0, full_sorted R es sorted.1)

pub none_taken : {K X : Type 0} (test : K → Bool) (es : List (K × Option X)) → lookup test es ≡ None → remove_entry test (rows_present es) ≡ rows_present es
none_taken test [] none = refl
none_taken {X = X} test ((q, x) ∷ es) none = at (test q) refl x none (λ f. none_taken test es f)
  where
    at : (b : Bool) → test q ≡ b → (x : Option X) → lookup test ((q, x) ∷ es) ≡ None → (lookup test es ≡ None → remove_entry test (rows_present es) ≡ rows_present es) → remove_entry test (rows_present ((q, x) ∷ es)) ≡ rows_present ((q, x) ∷ es)
    at true is x none rest = let here : Some x ≡ None = rw is at none in cc
    at false is None none rest = rest (rw is at none)
    at false is (Some v) none rest = rw is (ap (λ t. (q, v) ∷ t) (rest (rw is at none)))
