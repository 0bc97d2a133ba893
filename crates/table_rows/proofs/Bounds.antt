-- The greatest key of rows, and keys that none is above.
use Rattle.std.proofs.Common.{◌≡◌, Bool, true, false, not, ◌&&◌, List, [], ◌∷◌, ◌++◌, Option, None, Some, is_some, IfSome, pos, refl, sym, ap, subst, ◌∙◌, append-nil}
use Rattle.std.specs.declared.cmp.Ordering.{Ordering}
use Rattle.std.specs.declared.cmp.Ordering.TheVariants.{Less, Equal, Greater}
use Rattle.std.specs.declared.ops.Bound.TheVariants.{Included, Unbounded}
use Rattle.std.specs.Ordering.{is_lt, ordering_reverse}
use Rattle.std.specs.BTreeMap.{insert_entry, is_at}
use Rattle.std.specs.BTreeMap.Range.{entries_between}
use Rattle.std.specs.List.{AllByRecursion}
use Rattle.std.specs.List.Sorted.{IsStrictlySortedBy}
use Rattle.std.specs.Map.{keys_of, lookup, remove_entry, set_value}
use Rattle.std.proofs.lemmas.Map.Keys.{sorted_head, sorted_tail}
use Rattle.base_core.proofs.Exact.{values_total}
use Rattle.base_core.specs.declared.value.Value.{Value}
use Rattle.base_core.specs.Order.{values_cmp}
use Rattle.schema_core.specs.Apply.{key_after, next_key}
use Rattle.schema_core.specs.Tables.{Rows, with_row}
use Rattle.table_rows.specs.Rows.{Places, is_bound, is_within, last_key, rows_present}
use Rattle.table_rows.proofs.Entries.{same_key}
use Rattle.table_rows.proofs.Standing.{row_back, row_put, row_taken, rows_sorted}

-- ---- the last place that is full

present_more : (first later : Places) → rows_present (first ++ later) ≡ rows_present first ++ rows_present later
present_more [] later = refl
present_more ((key, None) ∷ first) later = present_more first later
present_more ((key, Some row) ∷ first) later = ap (λ rows. (key, row) ∷ rows) (present_more first later)

last_more : (rows : Rows) (key row : List Value) → last_key (rows ++ (key, row) ∷ []) ≡ Some key
last_more [] key row = refl
last_more (e ∷ []) key row = refl
last_more (e ∷ f ∷ rows) key row = last_more (f ∷ rows) key row

-- an empty place is none
pub last_before : (old new : Places) (key : List Value) (place : Option (List Value)) → old ≡ new ++ (key, place) ∷ [] → is_some place ≡ false → last_key (rows_present new) ≡ last_key (rows_present old)
last_before old new key None is empty = sym (ap (λ (places : Places). last_key (rows_present places)) is ∙ ap last_key (present_more new ((key, None) ∷ []) ∙ append-nil (rows_present new)))
last_before old new key (Some row) is empty = cc

pub last_here : (old new : Places) (key : List Value) (place : Option (List Value)) → old ≡ new ++ (key, place) ∷ [] → is_some place ≡ true → Some key ≡ last_key (rows_present old)
last_here old new key None is full = cc
last_here old new key (Some row) is full = sym (ap (λ (places : Places). last_key (rows_present places)) is ∙ ap last_key (present_more new ((key, Some row) ∷ [])) ∙ last_more (rows_present new) key row)

pub ruleset lasting = (last_before, last_here)

-- no row stands above the bound
pub within_present : (bound : List Value) (places : Places) → is_bound (Some bound) (rows_present places) ≡ true → rows_present (entries_between values_cmp Unbounded (Included bound) places) ≡ rows_present places
within_present bound [] h = refl
within_present bound ((q, x) ∷ es) h = at (is_lt (values_cmp bound q)) refl x h (λ r. within_present bound es r)
  where
    at : (c : Bool) → is_lt (values_cmp bound q) ≡ c → (x : Option (List Value)) → is_bound (Some bound) (rows_present ((q, x) ∷ es)) ≡ true
        → (is_bound (Some bound) (rows_present es) ≡ true → rows_present (entries_between values_cmp Unbounded (Included bound) es) ≡ rows_present es)
        → rows_present (entries_between values_cmp Unbounded (Included bound) ((q, x) ∷ es)) ≡ rows_present ((q, x) ∷ es)
    at true is None h rest = rw is (rest h)
    at true is (Some v) h rest = let above : false ≡ true = rw is at h in cc
    at false is None h rest = rw is (rest h)
    at false is (Some v) h rest = rw is (ap (λ t. (q, v) ∷ t) (rest (rw is at h)))

pub all_between : (places : Places) → entries_between values_cmp Unbounded Unbounded places ≡ places
all_between [] = refl
all_between (e ∷ es) = ap (λ t. e ∷ t) (all_between es)

-- ---- bounds

no_bound : (rows : Rows) → is_bound None rows ≡ true
no_bound [] = refl
no_bound (e ∷ rows) = no_bound rows

above_too : (bound key q : List Value) → values_cmp bound key ≡ Less → is_within (Some bound) q ≡ true → is_within (Some key) q ≡ true
above_too bound key q less h = at (values_cmp key q) refl
  where
    at : (o : Ordering) → values_cmp key q ≡ o → is_within (Some key) q ≡ true
    at Less is = let far : values_cmp bound q ≡ Less = values_total.trans bound key q less is in let none : false ≡ true = rw far at h in cc
    at Equal is = rw is refl
    at Greater is = rw is refl

both : (a b : Bool) → (a && b) ≡ true → (a ≡ true) × (b ≡ true)
both true b h = (refl, h)
both false b h = cc

one_more : (a b : Bool) → a ≡ true → b ≡ true → (a && b) ≡ true
one_more true b is h = h
one_more false b is h = cc

-- a key above a bound is one
bound_raised : (bound key : List Value) (rows : Rows) → values_cmp bound key ≡ Less → is_bound (Some bound) rows ≡ true → is_bound (Some key) rows ≡ true
bound_raised bound key [] less h = refl
bound_raised bound key (e ∷ rows) less h =
    let parts = both (is_within (Some bound) e.0) (is_bound (Some bound) rows) h in
    one_more (is_within (Some key) e.0) (is_bound (Some key) rows) (above_too bound key e.0 less parts.0) (bound_raised bound key rows less parts.1)

own_bound : (key : List Value) → is_within (Some key) key ≡ true
own_bound key = rw (same_key values_total key) refl

pub raised_key : (copy : Option (List Value)) (key : List Value) → IfSome copy (λ k. k ≡ key) → is_within copy key ≡ true
raised_key None key is = refl
raised_key (Some k) key is = subst (λ (q : List Value). is_within (Some q) key ≡ true) (sym is) (own_bound key)

lesser : (o : Ordering) → not (is_lt o) ≡ false → o ≡ Less
lesser Less is = refl
lesser Equal is = cc
lesser Greater is = cc

pub raised_rows : (bound copy : Option (List Value)) (key : List Value) (rows : Rows) → is_within bound key ≡ false → IfSome copy (λ k. k ≡ key) → is_bound bound rows ≡ true → is_bound copy rows ≡ true
raised_rows None copy key rows far is h = cc
raised_rows (Some bound) None key rows far is h = no_bound rows
raised_rows (Some bound) (Some k) key rows far is h = subst (λ (q : List Value). is_bound (Some q) rows ≡ true) (sym is) (bound_raised bound key rows (lesser (values_cmp bound key) far) h)

pub ruleset raising = (raised_key, raised_rows)

-- a row more, whose key is not above the bound
pub bound_put : (bound : Option (List Value)) (key row : List Value) (rows : Rows) → is_within bound key ≡ true → is_bound bound rows ≡ true → is_bound bound (with_row rows key row) ≡ true
bound_put bound key row [] here h = one_more (is_within bound key) true here refl
bound_put bound key row (e ∷ rows) here h = at (values_cmp key e.0) refl (bound_put bound key row rows here (both (is_within bound e.0) (is_bound bound rows) h).1)
  where
    at : (o : Ordering) → values_cmp key e.0 ≡ o → is_bound bound (with_row rows key row) ≡ true → is_bound bound (with_row (e ∷ rows) key row) ≡ true
    at Less is rest = rw is (one_more (is_within bound key) (is_bound bound (e ∷ rows)) here h)
    at Equal is rest = rw is h
    at Greater is rest = rw is (one_more (is_within bound e.0) (is_bound bound (with_row rows key row)) (both (is_within bound e.0) (is_bound bound rows) h).0 rest)

-- a row less
pub bound_taken : (bound : Option (List Value)) (test : List Value → Bool) (rows : Rows) → is_bound bound rows ≡ true → is_bound bound (remove_entry test rows) ≡ true
bound_taken bound test [] h = refl
bound_taken bound test (e ∷ rows) h = at (test e.0) refl (bound_taken bound test rows (both (is_within bound e.0) (is_bound bound rows) h).1)
  where
    at : (b : Bool) → test e.0 ≡ b → is_bound bound (remove_entry test rows) ≡ true → is_bound bound (remove_entry test (e ∷ rows)) ≡ true
    at true is rest = rw is (both (is_within bound e.0) (is_bound bound rows) h).1
    at false is rest = rw is (one_more (is_within bound e.0) (is_bound bound (remove_entry test rows)) (both (is_within bound e.0) (is_bound bound rows) h).0 rest)

at_last : (P : List Value → Type 0) (rows : Rows) (key : List Value) → last_key rows ≡ Some key → AllByRecursion P (keys_of rows) → P key
at_last P [] key is all = cc
at_last P (e ∷ []) key is all = let same : e.0 ≡ key = cc in subst P same all.0
at_last P (e ∷ f ∷ rows) key is all = at_last P (f ∷ rows) key is all.1

-- the last key is a bound
pub last_bound : (rows : Rows) (key : List Value) → IsStrictlySortedBy values_cmp (keys_of rows) → last_key rows ≡ Some key → is_bound (Some key) rows ≡ true
last_bound [] key sorted is = refl
last_bound (e ∷ []) key sorted is =
    let same : e.0 ≡ key = cc in
    one_more (is_within (Some key) e.0) true (ap (is_within (Some key)) same ∙ own_bound key) refl
last_bound (e ∷ f ∷ rows) key sorted is =
    let above : values_cmp e.0 key ≡ Less = at_last (λ q. values_cmp e.0 q ≡ Less) (f ∷ rows) key is (sorted_head values_cmp e.0 (keys_of (f ∷ rows)) sorted) in
    let below : values_cmp key e.0 ≡ Greater = values_total.antisymm key e.0 ∙ ap ordering_reverse above in
    one_more (is_within (Some key) e.0) (is_bound (Some key) (f ∷ rows)) (rw below refl) (last_bound (f ∷ rows) key (sorted_tail values_cmp e.0 (keys_of (f ∷ rows)) sorted) is)

pub lowered : (places : Places) (copy : Option (List Value)) (last : List Value) → IsStrictlySortedBy values_cmp (keys_of places) → Some last ≡ last_key (rows_present places) → IfSome copy (λ k. k ≡ last) → is_bound copy (rows_present places) ≡ true
lowered places None last sorted is same = no_bound (rows_present places)
lowered places (Some k) last sorted is same =
    subst (λ (q : List Value). is_bound (Some q) (rows_present places) ≡ true) (sym same) (last_bound (rows_present places) last (rows_sorted places sorted) (sym is))

-- ---- rows that change

pub put_bound : (old new : Places) (bound : Option (List Value)) (key row : List Value) → IsStrictlySortedBy values_cmp (keys_of old) → new ≡ insert_entry values_cmp old key (Some row) → is_within bound key ≡ true
    → is_bound bound (rows_present old) ≡ true → is_bound bound (rows_present new) ≡ true
put_bound old new bound key row sorted is here h =
    ap (λ (places : Places). is_bound bound (rows_present places)) is ∙ ap (is_bound bound) (row_put old key row sorted) ∙ bound_put bound key row (rows_present old) here h

pub take_bound : (old new : Places) (bound : Option (List Value)) (key : List Value) → IsStrictlySortedBy values_cmp (keys_of old) → new ≡ set_value (is_at (values_cmp key)) old None
    → is_bound bound (rows_present old) ≡ true → is_bound bound (rows_present new) ≡ true
take_bound old new bound key sorted is h =
    ap (λ (places : Places). is_bound bound (rows_present places)) is ∙ ap (is_bound bound) (row_taken old key sorted) ∙ bound_taken bound (is_at (values_cmp key)) (rows_present old) h

pub back_bound : (old new : Places) (bound : Option (List Value)) (key : List Value) (place before : Option (List Value)) → IsStrictlySortedBy values_cmp (keys_of old) → lookup (is_at (values_cmp key)) old ≡ Some place
    → new ≡ set_value (is_at (values_cmp key)) old before → is_within bound key ≡ true → is_bound bound (rows_present old) ≡ true → is_bound bound (rows_present new) ≡ true
back_bound old new bound key place None sorted found is here h = take_bound old new bound key sorted is h
back_bound old new bound key place (Some row) sorted found is here h =
    ap (λ (places : Places). is_bound bound (rows_present places)) is ∙ ap (is_bound bound) (row_back old key place (Some row) sorted found) ∙ bound_put bound key row (rows_present old) here h

-- keys that stay as they were are in order
keys_set : (test : List Value → Bool) (places : Places) (place : Option (List Value)) → keys_of (set_value test places place) ≡ keys_of places
keys_set test [] place = refl
keys_set test (e ∷ es) place = at (test e.0) refl (keys_set test es place)
  where
    at : (b : Bool) → test e.0 ≡ b → keys_of (set_value test es place) ≡ keys_of es → keys_of (set_value test (e ∷ es) place) ≡ keys_of (e ∷ es)
    at true is rest = rw is refl
    at false is rest = rw is (ap (λ ks. e.0 ∷ ks) rest)

pub set_sorted : (old new : Places) (key : List Value) (place : Option (List Value)) → new ≡ set_value (is_at (values_cmp key)) old place → IsStrictlySortedBy values_cmp (keys_of old) → IsStrictlySortedBy values_cmp (keys_of new)
set_sorted old new key place is sorted = subst (λ (ks : List (List Value)). IsStrictlySortedBy values_cmp ks) (sym (ap (λ (places : Places). keys_of places) is ∙ keys_set (is_at (values_cmp key)) old place)) sorted

-- ---- the next key

pub next_above : (rows : Rows) (key : List Value) → Some key ≡ last_key rows → key_after key ≡ next_key rows
next_above [] key is = cc
next_above (e ∷ []) key is = let same : key ≡ e.0 = cc in ap key_after same
next_above (e ∷ f ∷ rows) key is = next_above (f ∷ rows) key is

pub next_first : (rows : Rows) → None ≡ last_key rows → Some (pos 1) ≡ next_key rows
next_first [] is = refl
next_first (e ∷ []) is = cc
next_first (e ∷ f ∷ rows) is = next_first (f ∷ rows) is
