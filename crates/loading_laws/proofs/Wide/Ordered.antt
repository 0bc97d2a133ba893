-- Rows that are put in order and then multiplied are the multiplied rows in order.
use Rattle.std.proofs.Common.{◌≡◌, ℕ, suc, ◌+◌, ◌<◌, arith, Bool, true, false, if◌then◌else◌, List, [], ◌∷◌, ◌++◌, length, map, refl, sym, ap, ◌∙◌}
use Rattle.std.specs.List.{AllByRecursion, flat_map}
use Rattle.std.specs.declared.cmp.Ordering.{Ordering}
use Rattle.std.specs.declared.cmp.Ordering.TheVariants.{Less, Equal, Greater}
use Rattle.std.specs.Ordering.{is_lt, match_ordering, nat_cmp, ordering_then}
use Rattle.std.specs.Cmp.{nat_cmp_is, tied_itself}
use Rattle.std.specs.Cmp.Lexicographic.{lists_total, slice_cmp}
use Rattle.std.specs.BTreeMap.{insert_entry}
use Rattle.sql_semantics.specs.Eval.{Row}
use Rattle.sql_semantics.specs.Order.{Rank, in_order, key_cmp, key_cmp_total, rank_cmp, ranked_from}
use Rattle.sql_semantics.specs.declared.sort_key.SortKey.{SortKey}

abbrev pub Keys : Type 0
Keys = List SortKey

abbrev is_below : Keys → Keys → Bool
is_below one other = is_lt (slice_cmp key_cmp one other)

itself : (ks : Keys) → is_below ks ks ≡ false
itself ks = ap is_lt (tied_itself (lists_total key_cmp_total) ks)

-- ---- items in order under their keys

module _ {A : Type 0} where
  -- before the first one with a greater key
  abbrev with_item : Keys × A → List (Keys × A) → List (Keys × A)
  with_item item [] = item ∷ []
  with_item item (other ∷ items) = if is_below item.0 other.0 then item ∷ other ∷ items else other ∷ with_item item items

  abbrev with_items : List (Keys × A) → List (Keys × A) → List (Keys × A)
  with_items done [] = done
  with_items done (item ∷ items) = with_items (with_item item done) items

  -- the items by their keys, those of equal keys as they come
  abbrev pub items_in_order : List (Keys × A) → List A
  items_in_order items = map (λ item. item.1) (with_items [] items)

  have_by : (P : A → Type 0) (b : Bool) (item other : Keys × A) (items more : List (Keys × A)) → P item.1 → P other.1 → AllByRecursion (λ (x : Keys × A). P x.1) items → AllByRecursion (λ (x : Keys × A). P x.1) more
      → AllByRecursion (λ (x : Keys × A). P x.1) (if b then item ∷ other ∷ items else other ∷ more)
  have_by P true item other items more p q h g = (p, (q, h))
  have_by P false item other items more p q h g = (q, g)

  with_item_have : (P : A → Type 0) (item : Keys × A) (items : List (Keys × A)) → P item.1 → AllByRecursion (λ (x : Keys × A). P x.1) items → AllByRecursion (λ (x : Keys × A). P x.1) (with_item item items)
  with_item_have P item [] p h = (p, tt)
  with_item_have P item (other ∷ items) p h = have_by P (is_below item.0 other.0) item other items (with_item item items) p h.0 h.1 (with_item_have P item items p h.1)

  with_items_have : (P : A → Type 0) (done items : List (Keys × A)) → AllByRecursion (λ (x : Keys × A). P x.1) done → AllByRecursion (λ (x : Keys × A). P x.1) items → AllByRecursion (λ (x : Keys × A). P x.1) (with_items done items)
  with_items_have P done [] h g = h
  with_items_have P done (item ∷ items) h g = with_items_have P (with_item item done) items (with_item_have P item done g.0 h) g.1

  without_keys : (P : A → Type 0) (items : List (Keys × A)) → AllByRecursion (λ (x : Keys × A). P x.1) items → AllByRecursion P (map (λ (x : Keys × A). x.1) items)
  without_keys P [] h = tt
  without_keys P (item ∷ items) h = (h.0, without_keys P items h.1)

  -- they have what they had before
  pub order_has : (P : A → Type 0) (items : List (Keys × A)) → AllByRecursion (λ (x : Keys × A). P x.1) items → AllByRecursion P (items_in_order items)
  order_has P items h = without_keys P (with_items [] items) (with_items_have P [] items tt h)

-- ---- the rows of a select are put in order so

module _ {A : Type 0} (show : A → Row) where
  abbrev Entry : Type 0
  Entry = Rank × Row

  abbrev unplaced : Entry → Keys × Row
  unplaced entry = (entry.0.0, entry.1)

  abbrev pub shown : Keys × A → Keys × Row
  shown item = (item.0, show item.1)

  abbrev IsBefore : ℕ → Entry → Type 0
  IsBefore n entry = entry.0.1 < n

  later : (n m : ℕ) → m < n → nat_cmp n m ≡ Greater
  later n m h = sym (nat_cmp_is n m Greater h)

  put_by : (r s : Ordering) → s ≡ Greater → (xs ys zs : List Entry) → map unplaced (match_ordering (ordering_then r s) xs ys zs) ≡ (if is_lt r then map unplaced xs else map unplaced zs)
  put_by Less s e xs ys zs = refl
  put_by Equal s e xs ys zs = ap (λ t. map unplaced (match_ordering t xs ys zs)) e
  put_by Greater s e xs ys zs = refl

  shown_by : (b : Bool) (xs ys : List (Keys × A)) → (if b then map shown xs else map shown ys) ≡ map shown (if b then xs else ys)
  shown_by true xs ys = refl
  shown_by false xs ys = refl

  -- a row under its place goes where its item goes
  put : (item : Keys × A) (n : ℕ) (entries : List Entry) (items : List (Keys × A)) → AllByRecursion (IsBefore n) entries → map unplaced entries ≡ map shown items
      → map unplaced (insert_entry rank_cmp entries (item.0, n) (show item.1)) ≡ map shown (with_item item items)
  put item n [] [] h same = refl
  put item n [] (other ∷ items) h same = absurd cc
  put item n (entry ∷ entries) [] h same = absurd cc
  put item n (entry ∷ entries) (other ∷ items) h same =
      let first : unplaced entry ≡ shown other = cc in
      let rest : map unplaced entries ≡ map shown items = cc in
      let keys : entry.0.0 ≡ other.0 = ap (λ (x : Keys × Row). x.0) first in
      put_by (slice_cmp key_cmp item.0 entry.0.0) (nat_cmp n entry.0.1) (later n entry.0.1 h.0) (((item.0, n), show item.1) ∷ entry ∷ entries) ((entry.0, show item.1) ∷ entries)
      (entry ∷ insert_entry rank_cmp entries (item.0, n) (show item.1))
      ∙ ap (λ (ks : Keys). if is_below item.0 ks then shown item ∷ unplaced entry ∷ map unplaced entries else unplaced entry ∷ map unplaced (insert_entry rank_cmp entries (item.0, n) (show item.1))) keys
      ∙ ap (λ (l : List (Keys × Row)). if is_below item.0 other.0 then shown item ∷ l else unplaced entry ∷ map unplaced (insert_entry rank_cmp entries (item.0, n) (show item.1))) same
      ∙ ap (λ (l : List (Keys × Row)). if is_below item.0 other.0 then shown item ∷ shown other ∷ map shown items else unplaced entry ∷ l) (put item n entries items h.1 rest)
      ∙ ap (λ (x : Keys × Row). if is_below item.0 other.0 then shown item ∷ shown other ∷ map shown items else x ∷ map shown (with_item item items)) first
      ∙ shown_by (is_below item.0 other.0) (item ∷ other ∷ items) (other ∷ with_item item items)

  all_later : (n : ℕ) (entries : List Entry) → AllByRecursion (IsBefore n) entries → AllByRecursion (IsBefore (suc n)) entries
  all_later n [] h = tt
  all_later n (entry ∷ entries) h = (omega (arith, h.0), all_later n entries h.1)

  before_by : (o : Ordering) (n : ℕ) (entry new same : Entry) (entries more : List Entry) → new.0.1 < n → IsBefore n entry → same.0.1 ≡ entry.0.1 → AllByRecursion (IsBefore n) entries → AllByRecursion (IsBefore n) more
      → AllByRecursion (IsBefore n) (match_ordering o (new ∷ entry ∷ entries) (same ∷ entries) (entry ∷ more))
  before_by Less n entry new same entries more k e is h m = (k, (e, h))
  before_by Equal n entry new same entries more k e is h m = (omega (arith, e, is), h)
  before_by Greater n entry new same entries more k e is h m = (e, m)

  all_before : (n : ℕ) (rank : Rank) (row : Row) (entries : List Entry) → rank.1 < n → AllByRecursion (IsBefore n) entries → AllByRecursion (IsBefore n) (insert_entry rank_cmp entries rank row)
  all_before n rank row [] k h = (k, tt)
  all_before n rank row (entry ∷ entries) k h =
      before_by (rank_cmp rank entry.0) n entry (rank, row) (entry.0, row) entries (insert_entry rank_cmp entries rank row) k h.0 refl h.1 (all_before n rank row entries k h.1)

  put_all : (n : ℕ) (entries : List Entry) (done items : List (Keys × A)) → AllByRecursion (IsBefore n) entries → map unplaced entries ≡ map shown done
      → map unplaced (ranked_from entries n (map shown items)) ≡ map shown (with_items done items)
  put_all n entries done [] h same = same
  put_all n entries done (item ∷ items) h same =
      put_all (suc n) (insert_entry rank_cmp entries (item.0, n) (show item.1)) (with_item item done) items
      (all_before (suc n) (item.0, n) (show item.1) entries (omega arith) (all_later n entries h)) (put item n entries done h same)

  rows_of : (entries : List Entry) → map (λ entry. entry.1) entries ≡ map (λ pair. pair.1) (map unplaced entries)
  rows_of [] = refl
  rows_of (entry ∷ entries) = ap (λ (l : List Row). entry.1 ∷ l) (rows_of entries)

  shown_rows : (items : List (Keys × A)) → map (λ (pair : Keys × Row). pair.1) (map shown items) ≡ map show (map (λ (item : Keys × A). item.1) items)
  shown_rows [] = refl
  shown_rows (item ∷ items) = ap (λ (l : List Row). show item.1 ∷ l) (shown_rows items)

  pub in_order_shows : (items : List (Keys × A)) → in_order (map shown items) ≡ map show (items_in_order items)
  unfolding in_order
  in_order_shows items =
      rows_of (ranked_from [] 0 (map shown items)) ∙ ap (map (λ (pair : Keys × Row). pair.1)) (put_all 0 [] [] items tt refl) ∙ shown_rows (with_items [] items)

-- ---- items that are multiplied

module _ {A B : Type 0} (partners : A → List B) (some : (a : A) → 0 < length (partners a)) where
  abbrev under : Keys → List B → List (Keys × B)
  under ks bs = map (λ b. (ks, b)) bs

  abbrev pub multiplied : List (Keys × A) → List (Keys × B)
  multiplied items = flat_map (λ item. under item.0 (partners item.1)) items

  put_front : (ks : Keys) (b : B) (other : Keys × B) (items : List (Keys × B)) → is_below ks other.0 ≡ true → with_item (ks, b) (other ∷ items) ≡ (ks, b) ∷ other ∷ items
  put_front ks b other items is = ap (λ (c : Bool). if c then (ks, b) ∷ other ∷ items else other ∷ with_item (ks, b) items) is

  put_behind : (ks : Keys) (b : B) (other : Keys × B) (items : List (Keys × B)) → is_below ks other.0 ≡ false → with_item (ks, b) (other ∷ items) ≡ other ∷ with_item (ks, b) items
  put_behind ks b other items is = ap (λ (c : Bool). if c then (ks, b) ∷ other ∷ items else other ∷ with_item (ks, b) items) is

  -- several of one key
  all_behind : (ks : Keys) (bs : List B) (other : Keys × B) (items : List (Keys × B)) → is_below ks other.0 ≡ false → with_items (other ∷ items) (under ks bs) ≡ other ∷ with_items items (under ks bs)
  all_behind ks [] other items is = refl
  all_behind ks (b ∷ bs) other items is = ap (λ (l : List (Keys × B)). with_items l (under ks bs)) (put_behind ks b other items is) ∙ all_behind ks bs other (with_item (ks, b) items) is

  behind_all : (ks : Keys) (bs : List B) (keys : Keys) (others : List B) (items : List (Keys × B)) → is_below ks keys ≡ false → with_items (under keys others ++ items) (under ks bs) ≡ under keys others ++ with_items items (under ks bs)
  behind_all ks bs keys [] items is = refl
  behind_all ks bs keys (other ∷ others) items is =
      all_behind ks bs (keys, other) (under keys others ++ items) is ∙ ap (λ (l : List (Keys × B)). (keys, other) ∷ l) (behind_all ks bs keys others items is)

  all_alone : (ks : Keys) (bs : List B) → with_items [] (under ks bs) ≡ under ks bs
  all_alone ks [] = refl
  all_alone ks (b ∷ bs) = all_behind ks bs (ks, b) [] (itself ks) ∙ ap (λ (l : List (Keys × B)). (ks, b) ∷ l) (all_alone ks bs)

  all_front : (ks : Keys) (bs : List B) (other : Keys × B) (items : List (Keys × B)) → is_below ks other.0 ≡ true → with_items (other ∷ items) (under ks bs) ≡ under ks bs ++ other ∷ items
  all_front ks [] other items is = refl
  all_front ks (b ∷ bs) other items is =
      ap (λ (l : List (Keys × B)). with_items l (under ks bs)) (put_front ks b other items is) ∙ all_behind ks bs (ks, b) (other ∷ items) (itself ks)
      ∙ ap (λ (l : List (Keys × B)). (ks, b) ∷ l) (all_front ks bs other items is)

  before_all : (ks : Keys) (bs : List B) (keys : Keys) (others : List B) (items : List (Keys × B)) → 0 < length others → is_below ks keys ≡ true → with_items (under keys others ++ items) (under ks bs) ≡ under ks bs ++ (under keys others ++ items)
  before_all ks bs keys [] items more is = absurd (omega (arith, more))
  before_all ks bs keys (other ∷ others) items more is = all_front ks bs (keys, other) (under keys others ++ items) is

  one_by : (item other : Keys × A) (items : List (Keys × A)) (b : Bool) → is_below item.0 other.0 ≡ b → with_items (multiplied items) (under item.0 (partners item.1)) ≡ multiplied (with_item item items)
      → with_items (multiplied (other ∷ items)) (under item.0 (partners item.1)) ≡ multiplied (if b then item ∷ other ∷ items else other ∷ with_item item items)
  one_by item other items true is rest = before_all item.0 (partners item.1) other.0 (partners other.1) (multiplied items) (some other.1) is
  one_by item other items false is rest =
      behind_all item.0 (partners item.1) other.0 (partners other.1) (multiplied items) is ∙ ap (λ (l : List (Keys × B)). under other.0 (partners other.1) ++ l) rest

  one_multiplied : (item : Keys × A) (items : List (Keys × A)) → with_items (multiplied items) (under item.0 (partners item.1)) ≡ multiplied (with_item item items)
  one_multiplied item [] = all_alone item.0 (partners item.1) ∙ sym (nothing_behind (under item.0 (partners item.1)))
    where
      nothing_behind : (l : List (Keys × B)) → l ++ [] ≡ l
      nothing_behind [] = refl
      nothing_behind (x ∷ l) = ap (λ (m : List (Keys × B)). x ∷ m) (nothing_behind l)
  one_multiplied item (other ∷ items) = one_by item other items (is_below item.0 other.0) refl (one_multiplied item items)

  in_parts : (done more items : List (Keys × B)) → with_items done (more ++ items) ≡ with_items (with_items done more) items
  in_parts done [] items = refl
  in_parts done (x ∷ more) items = in_parts (with_item x done) more items

  all_multiplied : (done items : List (Keys × A)) → with_items (multiplied done) (multiplied items) ≡ multiplied (with_items done items)
  all_multiplied done [] = refl
  all_multiplied done (item ∷ items) =
      in_parts (multiplied done) (under item.0 (partners item.1)) (multiplied items) ∙ ap (λ (l : List (Keys × B)). with_items l (multiplied items)) (one_multiplied item done)
      ∙ all_multiplied (with_item item done) items

  items_under : (ks : Keys) (bs : List B) (items : List (Keys × B)) → map (λ (item : Keys × B). item.1) (under ks bs ++ items) ≡ bs ++ map (λ (item : Keys × B). item.1) items
  items_under ks [] items = refl
  items_under ks (b ∷ bs) items = ap (λ (l : List B). b ∷ l) (items_under ks bs items)

  rows_multiplied : (items : List (Keys × A)) → map (λ (item : Keys × B). item.1) (multiplied items) ≡ flat_map partners (map (λ (item : Keys × A). item.1) items)
  rows_multiplied [] = refl
  rows_multiplied (item ∷ items) = items_under item.0 (partners item.1) (multiplied items) ∙ ap (λ (l : List B). partners item.1 ++ l) (rows_multiplied items)

  pub order_multiplied : (items : List (Keys × A)) → items_in_order (multiplied items) ≡ flat_map partners (items_in_order items)
  order_multiplied items = ap (map (λ (item : Keys × B). item.1)) (all_multiplied [] items) ∙ rows_multiplied (with_items [] items)
