-- Entries in the order of their keys: a value written in place, and changes that are taken back.
use Rattle.std.proofs.Common.{◌≡◌, false, List, [], ◌∷◌, None, Some, refl, sym, ap, ◌∙◌}
use Rattle.std.specs.declared.cmp.Ordering.{Ordering}
use Rattle.std.specs.declared.cmp.Ordering.TheVariants.{Less, Equal, Greater}
use Rattle.std.specs.Ordering.{ordering_reverse}
use Rattle.std.specs.Cmp.{IsTotalOrder}
use Rattle.std.specs.BTreeMap.{insert_entry, is_at}
use Rattle.std.specs.Map.{keys_of, lookup, remove_entry, set_value}
use Rattle.std.specs.List.Sorted.{IsStrictlySortedBy}
use Rattle.std.proofs.lemmas.Map.{lookup-none}
use Rattle.std.proofs.lemmas.Map.Keys.{sorted_tail}
use Rattle.std.proofs.lemmas.Map.Entries.{none_below_head}
use Rattle.std.proofs.lemmas.Map.Lookups.{CmpEqualImpliesEq}

-- a key is equal to itself
pub same_key : {K : Type 0} {R : K → K → Ordering} → IsTotalOrder R → (q : K) → R q q ≡ Equal
same_key {R = R} o q = at (R q q) (o.antisymm q q)
  where
    at : (r : Ordering) → r ≡ ordering_reverse r → r ≡ Equal
    at Less e = cc
    at Equal e = refl
    at Greater e = cc

-- a value written in the place of a key is the entry put in
pub put_in_place : {K X : Type 0} {R : K → K → Ordering} (o : IsTotalOrder R) (k : K) (v w : X) (es : List (K × X)) → IsStrictlySortedBy R (keys_of es)
    → lookup (is_at (R k)) es ≡ Some v → set_value (is_at (R k)) es w ≡ insert_entry R es k w
put_in_place o k v w [] sorted found = cc
put_in_place {R = R} o k v w (e ∷ es) sorted found = at (R k e.0) refl (λ h. put_in_place o k v w es (sorted_tail R e.0 (keys_of es) sorted) h)
  where
    at : (r : Ordering) → R k e.0 ≡ r → (lookup (is_at (R k)) es ≡ Some v → set_value (is_at (R k)) es w ≡ insert_entry R es k w)
        → set_value (is_at (R k)) (e ∷ es) w ≡ insert_entry R (e ∷ es) k w
    at Less is rest = let none : lookup (is_at (R k)) (e ∷ es) ≡ None = lookup-none (is_at (R k)) (e ∷ es) (none_below_head o k e es sorted is) in cc
    at Equal is rest = rw is refl
    at Greater is rest = rw is (ap (λ t. e ∷ t) (rest (rw is at found)))

-- what is put in again takes the place of the first
pub put_again : {K X : Type 0} {R : K → K → Ordering} (o : IsTotalOrder R) (k : K) (v w : X) (es : List (K × X)) → insert_entry R (insert_entry R es k v) k w ≡ insert_entry R es k w
put_again o k v w [] = rw (same_key o k) refl
put_again {R = R} o k v w (e ∷ es) = at (R k e.0) refl (put_again o k v w es)
  where
    at : (r : Ordering) → R k e.0 ≡ r → insert_entry R (insert_entry R es k v) k w ≡ insert_entry R es k w
        → insert_entry R (insert_entry R (e ∷ es) k v) k w ≡ insert_entry R (e ∷ es) k w
    at Less is rest = rw (is, same_key o k) refl
    at Equal is rest = rw (is, is) refl
    at Greater is rest = rw (is, is) (ap (λ t. e ∷ t) rest)

-- the old value put in changes nothing
pub put_old : {K X : Type 0} {R : K → K → Ordering} (o : IsTotalOrder R) (k : K) (v : X) (es : List (K × X)) → IsStrictlySortedBy R (keys_of es)
    → lookup (is_at (R k)) es ≡ Some v → insert_entry R es k v ≡ es
put_old o k v [] sorted found = cc
put_old {R = R} o k v (e ∷ es) sorted found = at (R k e.0) refl (λ h. put_old o k v es (sorted_tail R e.0 (keys_of es) sorted) h)
  where
    at : (r : Ordering) → R k e.0 ≡ r → (lookup (is_at (R k)) es ≡ Some v → insert_entry R es k v ≡ es) → insert_entry R (e ∷ es) k v ≡ e ∷ es
    at Less is rest = let none : lookup (is_at (R k)) (e ∷ es) ≡ None = lookup-none (is_at (R k)) (e ∷ es) (none_below_head o k e es sorted is) in cc
    at Equal is rest = let here : Some e.1 ≡ Some v = rw is at found in let value : v ≡ e.1 = cc in rw is (ap (λ x. (e.0, x) ∷ es) value)
    at Greater is rest = rw is (ap (λ t. e ∷ t) (rest (rw is at found)))

-- a new entry taken out
pub take_new : {K X : Type 0} {R : K → K → Ordering} (o : IsTotalOrder R) (k : K) (v : X) (es : List (K × X))
    → lookup (is_at (R k)) es ≡ None → remove_entry (is_at (R k)) (insert_entry R es k v) ≡ es
take_new o k v [] absent = rw (same_key o k) refl
take_new {R = R} o k v (e ∷ es) absent = at (R k e.0) refl (λ h. take_new o k v es h)
  where
    at : (r : Ordering) → R k e.0 ≡ r → (lookup (is_at (R k)) es ≡ None → remove_entry (is_at (R k)) (insert_entry R es k v) ≡ es)
        → remove_entry (is_at (R k)) (insert_entry R (e ∷ es) k v) ≡ e ∷ es
    at Less is rest = rw (is, same_key o k) refl
    at Equal is rest = let here : Some e.1 ≡ None = rw is at absent in cc
    at Greater is rest = rw (is, is) (ap (λ t. e ∷ t) (rest (rw is at absent)))

-- a key below all others
put_first : {K X : Type 0} (R : K → K → Ordering) (k : K) (v : X) (es : List (K × X)) → IsStrictlySortedBy R (k ∷ keys_of es) → insert_entry R es k v ≡ (k, v) ∷ es
unfolding IsStrictlySortedBy
put_first R k v [] sorted = refl
put_first R k v (e ∷ es) sorted = rw sorted.0.0 refl

-- an entry that was taken out, put in
pub put_taken : {K X : Type 0} {R : K → K → Ordering} (o : IsTotalOrder R) (exact : CmpEqualImpliesEq R) (k : K) (v : X) (es : List (K × X)) → IsStrictlySortedBy R (keys_of es)
    → lookup (is_at (R k)) es ≡ Some v → insert_entry R (remove_entry (is_at (R k)) es) k v ≡ es
put_taken o exact k v [] sorted found = cc
put_taken {R = R} o exact k v (e ∷ es) sorted found = at (R k e.0) refl (λ h. put_taken o exact k v es (sorted_tail R e.0 (keys_of es) sorted) h)
  where
    at : (r : Ordering) → R k e.0 ≡ r → (lookup (is_at (R k)) es ≡ Some v → insert_entry R (remove_entry (is_at (R k)) es) k v ≡ es)
        → insert_entry R (remove_entry (is_at (R k)) (e ∷ es)) k v ≡ e ∷ es
    at Less is rest = let none : lookup (is_at (R k)) (e ∷ es) ≡ None = lookup-none (is_at (R k)) (e ∷ es) (none_below_head o k e es sorted is) in cc
    at Equal is rest =
        let here : Some e.1 ≡ Some v = rw is at found in
        let value : v ≡ e.1 = cc in
        rw is (ap (λ q. insert_entry R es q v) (exact k e.0 is) ∙ ap (λ w. insert_entry R es e.0 w) value ∙ put_first R e.0 e.1 es sorted)
    at Greater is rest = rw (is, is) (ap (λ t. e ∷ t) (rest (rw is at found)))

-- what was put in is found
pub found_put : {K X : Type 0} {R : K → K → Ordering} (o : IsTotalOrder R) (k : K) (v : X) (es : List (K × X)) → lookup (is_at (R k)) (insert_entry R es k v) ≡ Some v
found_put o k v [] = rw (same_key o k) refl
found_put {R = R} o k v (e ∷ es) = at (R k e.0) refl (found_put o k v es)
  where
    at : (r : Ordering) → R k e.0 ≡ r → lookup (is_at (R k)) (insert_entry R es k v) ≡ Some v → lookup (is_at (R k)) (insert_entry R (e ∷ es) k v) ≡ Some v
    at Less is rest = rw (is, same_key o k) refl
    at Equal is rest = rw (is, is) refl
    at Greater is rest = rw (is, is) rest

-- ---- other keys

-- what stands under another key is as it was after an insert
pub put_other : {K X : Type 0} {R : K → K → Ordering} (exact : CmpEqualImpliesEq R) (q k : K) (v : X) (es : List (K × X)) → is_at (R q) k ≡ false → lookup (is_at (R q)) (insert_entry R es k v) ≡ lookup (is_at (R q)) es
put_other exact q k v [] other = rw other refl
put_other {R = R} exact q k v (e ∷ es) other = at (R k e.0) refl (put_other exact q k v es other)
  where
    at : (r : Ordering) → R k e.0 ≡ r → lookup (is_at (R q)) (insert_entry R es k v) ≡ lookup (is_at (R q)) es → lookup (is_at (R q)) (insert_entry R (e ∷ es) k v) ≡ lookup (is_at (R q)) (e ∷ es)
    at Less is rest = rw (is, other) refl
    at Equal is rest = let apart : is_at (R q) e.0 ≡ false = ap (is_at (R q)) (sym (exact k e.0 is)) ∙ other in rw (is, apart) refl
    at Greater is rest = rw (is, rest) refl

-- and after a removal
pub removed_other : {K X : Type 0} {R : K → K → Ordering} (exact : CmpEqualImpliesEq R) (q k : K) (es : List (K × X)) → is_at (R q) k ≡ false → lookup (is_at (R q)) (remove_entry (is_at (R k)) es) ≡ lookup (is_at (R q)) es
removed_other exact q k [] other = refl
removed_other {R = R} exact q k (e ∷ es) other = at (R k e.0) refl (removed_other exact q k es other)
  where
    at : (r : Ordering) → R k e.0 ≡ r → lookup (is_at (R q)) (remove_entry (is_at (R k)) es) ≡ lookup (is_at (R q)) es → lookup (is_at (R q)) (remove_entry (is_at (R k)) (e ∷ es)) ≡ lookup (is_at (R q)) (e ∷ es)
    at Less is rest = rw (is, rest) refl
    at Equal is rest = let apart : is_at (R q) e.0 ≡ false = ap (is_at (R q)) (sym (exact k e.0 is)) ∙ other in rw (is, apart) refl
    at Greater is rest = rw (is, rest) refl
