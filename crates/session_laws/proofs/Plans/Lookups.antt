-- Look-ups in association lists that rise by key.
use Rattle.std.proofs.Common.{◌≡◌, Bool, true, false, cond, ◌&&◌, T, List, [], ◌∷◌, Option, None, Some, Ordering, refl, sym, ap, ◌∙◌, subst}
use Rattle.std.specs.declared.cmp.Ordering.TheVariants.{Less, Equal, Greater}
use Rattle.std.specs.Ordering.{is_eq, is_lt, match_ordering}
use Rattle.std.specs.Cmp.{IsTotalOrder, tied_itself}
use Rattle.std.specs.List.{AllByRecursion}
use Rattle.std.specs.Map.{lookup, remove_entry}
use Rattle.std.specs.BTreeMap.{insert_entry, is_at}
use Rattle.std.specs.FinMap.Entries.{below_all, by_order, find, find-put, is_sorted, is_sorted-put, put, same_entries}
use Rattle.session_laws.proofs.Plans.Facts.{none_some}
use Rattle.table_laws.proofs.SameValues.{is_equal}

both : (a b : Bool) → T a → T b → T (a && b)
both true b p q = q
both false b p q = p

pub first : (a b : Bool) → T (a && b) → T a
first true b p = tt
first false b p = p

pub second : (a b : Bool) → T (a && b) → T b
second true b p = p
second false b p = absurd p

pub less : (o : Ordering) → T (is_lt o) → o ≡ Less
less Less p = refl
less Equal p = absurd p
less Greater p = absurd p

is_true : (b : Bool) → b ≡ true → T b
is_true true e = tt
is_true false e = cc

nothing_left : {A : Type 0} (o : Option A) (b : Bool) → o ≡ None → o ≡ cond b None o
nothing_left o true e = e
nothing_left o false e = refl

by_step : {A : Type 0} (o : Ordering) (a b c : A) → match_ordering o a b c ≡ by_order o a b c
by_step Less a b c = refl
by_step Equal a b c = refl
by_step Greater a b c = refl

module _ {K X : Type 0} (cmp : K → K → Ordering) where
  pub as_put : (es : List (K × X)) (k : K) (v : X) → insert_entry cmp es k v ≡ put cmp k v es
  as_put [] k v = refl
  as_put (e ∷ es) k v = ap (λ more. match_ordering (cmp k e.0) ((k, v) ∷ e ∷ es) ((e.0, v) ∷ es) (e ∷ more)) (as_put es k v) ∙ by_step (cmp k e.0) ((k, v) ∷ e ∷ es) ((e.0, v) ∷ es) (e ∷ put cmp k v es)

  pub as_find : (es : List (K × X)) (q : K) → lookup (is_at (cmp q)) es ≡ find cmp q es
  as_find [] q = refl
  as_find (e ∷ es) q = ap (cond (is_eq (cmp q e.0)) (Some e.1)) (as_find es q)

  module _ (total : IsTotalOrder cmp) where
    pub lookup_insert : (es : List (K × X)) (k : K) (v : X) (q : K) → lookup (is_at (cmp q)) (insert_entry cmp es k v) ≡ cond (is_eq (cmp q k)) (Some v) (lookup (is_at (cmp q)) es)
    lookup_insert es k v q =
        ap (lookup (is_at (cmp q))) (as_put es k v) ∙ as_find (put cmp k v es) q ∙ find-put cmp total q k v es ∙ ap (cond (is_eq (cmp q k)) (Some v)) (sym (as_find es q))

    pub sorted_insert : (es : List (K × X)) (k : K) (v : X) → T (is_sorted cmp es) → T (is_sorted cmp (insert_entry cmp es k v))
    sorted_insert es k v sorted = subst (λ xs. T (is_sorted cmp xs)) (sym (as_put es k v)) (is_sorted-put cmp total k v es sorted)

    -- ---- an entry taken out

    below_cond : (k : K) (b : Bool) (e : K × X) (es rest : List (K × X)) → T (below_all cmp k (e ∷ es)) → T (below_all cmp k rest) → T (below_all cmp k (cond b es (e ∷ rest)))
    below_cond k true e es rest below more = second (is_lt (cmp k e.0)) (below_all cmp k es) below
    below_cond k false e es rest below more = both (is_lt (cmp k e.0)) (below_all cmp k rest) (first (is_lt (cmp k e.0)) (below_all cmp k es) below) more

    pub below_remove : (k : K) (test : K → Bool) (es : List (K × X)) → T (below_all cmp k es) → T (below_all cmp k (remove_entry test es))
    below_remove k test [] below = tt
    below_remove k test (e ∷ es) below = below_cond k (test e.0) e es (remove_entry test es) below (below_remove k test es (second (is_lt (cmp k e.0)) (below_all cmp k es) below))

    sorted_cond : (b : Bool) (e : K × X) (es rest : List (K × X)) → T (is_sorted cmp (e ∷ es)) → T (is_sorted cmp rest) → T (below_all cmp e.0 rest) → T (is_sorted cmp (cond b es (e ∷ rest)))
    sorted_cond true e es rest sorted more below = second (below_all cmp e.0 es) (is_sorted cmp es) sorted
    sorted_cond false e es rest sorted more below = both (below_all cmp e.0 rest) (is_sorted cmp rest) below more

    pub sorted_remove : (test : K → Bool) (es : List (K × X)) → T (is_sorted cmp es) → T (is_sorted cmp (remove_entry test es))
    sorted_remove test [] sorted = tt
    sorted_remove test (e ∷ es) sorted =
        sorted_cond (test e.0) e es (remove_entry test es) sorted (sorted_remove test es (second (below_all cmp e.0 es) (is_sorted cmp es) sorted)) (below_remove e.0 test es (first (below_all cmp e.0 es) (is_sorted cmp es) sorted))

    -- below all keys there is nothing
    pub lookup_below : (q : K) (es : List (K × X)) → T (below_all cmp q es) → lookup (is_at (cmp q)) es ≡ None
    lookup_below q [] below = refl
    lookup_below q (e ∷ es) below = ap (λ o. cond (is_eq o) (Some e.1) (lookup (is_at (cmp q)) es)) (less (cmp q e.0) (first (is_lt (cmp q e.0)) (below_all cmp q es) below)) ∙ lookup_below q es (second (is_lt (cmp q e.0)) (below_all cmp q es) below)

    module _ (same : (a b : K) → cmp a b ≡ Equal → a ≡ b) where
      -- the one key that was there
      removed_here : (q : K) (e : K × X) (es : List (K × X)) → T (below_all cmp e.0 es) → (b : Bool) → is_eq (cmp q e.0) ≡ b → lookup (is_at (cmp q)) es ≡ cond b None (lookup (is_at (cmp q)) (e ∷ es))
      removed_here q e es below true at = ap (λ k. lookup (is_at (cmp k)) es) (same q e.0 (is_equal (cmp q e.0) at)) ∙ lookup_below e.0 es below
      removed_here q e es below false at = sym (ap (λ b. cond b (Some e.1) (lookup (is_at (cmp q)) es)) at)

      removed_there : (k q : K) (e : K × X) (rest : Option X) (a b : Bool) → is_eq (cmp q e.0) ≡ a → is_eq (cmp q k) ≡ b → is_eq (cmp k e.0) ≡ false → cond a (Some e.1) (cond b None rest) ≡ cond b None (cond a (Some e.1) rest)
      removed_there k q e rest true true at here other = absurd (clash (sym at ∙ ap (λ z. is_eq (cmp z e.0)) (same q k (is_equal (cmp q k) here)) ∙ other))
        where
          clash : true ≡ false → ⊥
          clash f = cc
      removed_there k q e rest true false at here other = refl
      removed_there k q e rest false true at here other = refl
      removed_there k q e rest false false at here other = refl

      remove_cond : (k q : K) (e : K × X) (es rest : List (K × X)) (b : Bool) → is_eq (cmp k e.0) ≡ b → T (below_all cmp e.0 es) → lookup (is_at (cmp q)) rest ≡ cond (is_eq (cmp q k)) None (lookup (is_at (cmp q)) es) → lookup (is_at (cmp q)) (cond b es (e ∷ rest)) ≡ cond (is_eq (cmp q k)) None (lookup (is_at (cmp q)) (e ∷ es))
      remove_cond k q e es rest true at below more =
          let is : k ≡ e.0 = same k e.0 (is_equal (cmp k e.0) at) in
          removed_here q e es below (is_eq (cmp q e.0)) refl ∙ ap (λ z. cond (is_eq (cmp q z)) None (lookup (is_at (cmp q)) (e ∷ es))) (sym is)
      remove_cond k q e es rest false at below more =
          ap (cond (is_eq (cmp q e.0)) (Some e.1)) more ∙ removed_there k q e (lookup (is_at (cmp q)) es) (is_eq (cmp q e.0)) (is_eq (cmp q k)) refl refl at

      pub lookup_remove : (es : List (K × X)) (k q : K) → T (is_sorted cmp es) → lookup (is_at (cmp q)) (remove_entry (is_at (cmp k)) es) ≡ cond (is_eq (cmp q k)) None (lookup (is_at (cmp q)) es)
      lookup_remove [] k q sorted = nothing_left (lookup (is_at (cmp q)) []) (is_eq (cmp q k)) refl
      lookup_remove (e ∷ es) k q sorted =
          remove_cond k q e es (remove_entry (is_at (cmp k)) es) (is_eq (cmp k e.0)) refl (first (below_all cmp e.0 es) (is_sorted cmp es) sorted) (lookup_remove es k q (second (below_all cmp e.0 es) (is_sorted cmp es) sorted))

      -- ---- each entry is found

      found_first : (e : K × X) (es : List (K × X)) → lookup (is_at (cmp e.0)) (e ∷ es) ≡ Some e.1
      found_first e es = ap (λ o. cond (is_eq o) (Some e.1) (lookup (is_at (cmp e.0)) es)) (tied_itself total e.0)

      found_later : (e : K × X) (es : List (K × X)) (q : K) (x : X) → T (below_all cmp e.0 es) → lookup (is_at (cmp q)) es ≡ Some x → (b : Bool) → is_eq (cmp q e.0) ≡ b → cond b (Some e.1) (lookup (is_at (cmp q)) es) ≡ Some x
      found_later e es q x below found true at = absurd (none_some x (sym (ap (λ k. lookup (is_at (cmp k)) es) (same q e.0 (is_equal (cmp q e.0) at)) ∙ lookup_below e.0 es below) ∙ found))
      found_later e es q x below found false at = found

      pub all_found : (P : K × X → Type 0) (es : List (K × X)) → T (is_sorted cmp es) → ((q : K) (x : X) → lookup (is_at (cmp q)) es ≡ Some x → P (q, x)) → AllByRecursion P es
      all_found P [] sorted each = tt
      all_found P (e ∷ es) sorted each =
          (each e.0 e.1 (found_first e es), all_found P es (second (below_all cmp e.0 es) (is_sorted cmp es) sorted) (λ q x found. each q x (found_later e es q x (first (below_all cmp e.0 es) (is_sorted cmp es) sorted) found (is_eq (cmp q e.0)) refl)))

      pub same_lists : (es fs : List (K × X)) → T (is_sorted cmp es) → T (is_sorted cmp fs) → ((q : K) → lookup (is_at (cmp q)) es ≡ lookup (is_at (cmp q)) fs) → es ≡ fs
      same_lists es fs one other each = same_entries cmp total same es fs one other (λ q. sym (as_find es q) ∙ each q ∙ as_find fs q)
