-- Deleted rows, of those of one table and key the first.
use Rattle.std.proofs.Common.{◌≡◌, ℕ, ◌+◌, ◌<◌, ◌≤◌, Bool, true, false, cond, not, ◌||◌, List, [], ◌∷◌, ◌++◌, Result, Ok, Err, OnOk, if◌then◌else◌, length, get_or, drop, map, fold, refl, sym, ap, ◌∙◌, append-nil, append_assoc}
use Rattle.std.proofs.Math.Bool.{or-false}
use Rattle.std.proofs.lemmas.List.{drop_all, drop_more}
use Rattle.std.proofs.lemmas.List.Folds.{list_any-append}
use Rattle.std.specs.BTreeMap.{is_at}
use Rattle.std.specs.BTreeSet.{BTreeSet, contains}
use Rattle.std.specs.Cmp.{IsEquivalence, eq_by_cmp_equiv}
use Rattle.std.specs.List.{AllByRecursion, filter}
use Rattle.std.specs.Ordering.{eq_by_cmp}
use Rattle.schema_core.specs.declared.changes.GoneRow.{GoneRow}
use Rattle.schema_core.specs.Catalog.{Catalog}
use Rattle.flush_order.proofs.IndexSteps.{place_same, place_total}
use Rattle.flush_order.specs.Orders.{place_of_gone}
use Rattle.flush_order.specs.Sorted.{Place, place_cmp, same_place}
use Rattle.pair_rows.specs.Pairs.{HasPlaces, differ, first_rows, has_row, with_first}

-- ---- a set beside the rows

put_or : (b was : Bool) → cond b true was ≡ (b || was)
put_or true was = refl
put_or false was = refl

-- a table and key that goes into the set
pub put_place : (old new : BTreeSet Place) (place other : Place) → contains place_cmp new other ≡ cond (is_at (place_cmp place) other) true (contains place_cmp old other) → contains place_cmp new other ≡ (same_place place other || contains place_cmp old other)
put_place old new place other is = is ∙ put_or (is_at (place_cmp place) other) (contains place_cmp old other) ∙ ap (λ (b : Bool). b || contains place_cmp old other) (place_same place other)

asked : (schema : Catalog) (seen : BTreeSet Place) (rows : List GoneRow) (row : GoneRow) (place : Place) (b : Bool) → HasPlaces schema seen rows → place ≡ place_of_gone schema row → b ≡ contains place_cmp seen place
    → has_row schema rows (place_of_gone schema row) ≡ b
asked schema seen rows row place b has placed asks = ap (has_row schema rows) (sym placed) ∙ sym (has.same place) ∙ sym asks

-- a row whose table and key is there goes nowhere
pub seen_first : (schema : Catalog) (seen : BTreeSet Place) (rows : List GoneRow) (row : GoneRow) (place : Place) (b : Bool) → HasPlaces schema seen rows → place ≡ place_of_gone schema row → b ≡ contains place_cmp seen place → b ≡ true
    → rows ≡ with_first schema rows row
seen_first schema seen rows row place b has placed asks so = sym (ap (λ (c : Bool). if c then rows else (rows ++ row ∷ [])) (asked schema seen rows row place b has placed asks ∙ so))

-- another goes behind the others
pub new_first : {E : Type 0} (schema : Catalog) (seen : BTreeSet Place) (rows new : List GoneRow) (row : GoneRow) (place : Place) (b : Bool) (r : Result (Unit {0}) E) → HasPlaces schema seen rows → place ≡ place_of_gone schema row
    → b ≡ contains place_cmp seen place → b ≡ false → OnOk r (new ≡ rows ++ row ∷ []) → OnOk r (new ≡ with_first schema rows row)
new_first schema seen rows new row place b (Ok u) has placed asks so pushed =
    pushed ∙ sym (ap (λ (c : Bool). if c then rows else (rows ++ row ∷ [])) (asked schema seen rows row place b has placed asks ∙ so))
new_first schema seen rows new row place b (Err e) has placed asks so pushed = tt

turned : (a b : Bool) → (a || b) ≡ (b || a)
turned true true = refl
turned true false = refl
turned false true = refl
turned false false = refl

-- the set has one more then
pub seen_more : {E : Type 0} (schema : Catalog) (seen more : BTreeSet Place) (rows new : List GoneRow) (row : GoneRow) (place : Place) (r : Result (Unit {0}) E) → HasPlaces schema seen rows → place ≡ place_of_gone schema row
    → ((other : Place) → contains place_cmp more other ≡ (same_place place other || contains place_cmp seen other)) → OnOk r (new ≡ rows ++ row ∷ []) → OnOk r (HasPlaces schema more new)
seen_more schema seen more rows new row place (Ok u) has placed entered pushed = record {
  same = λ other.
      entered other ∙ ap (λ (b : Bool). same_place place other || b) (has.same other)
      ∙ ap (λ (p : Place). same_place p other || has_row schema rows other) placed
      ∙ turned (same_place (place_of_gone schema row) other) (has_row schema rows other)
      ∙ ap (λ (b : Bool). has_row schema rows other || b) (sym (or-false (same_place (place_of_gone schema row) other)))
      ∙ sym (list_any-append (λ (it : GoneRow). same_place (place_of_gone schema it) other) rows (row ∷ []))
      ∙ ap (λ (xs : List GoneRow). has_row schema xs other) (sym pushed);
}
seen_more schema seen more rows new row place (Err e) has placed entered pushed = tt

-- ---- rows that come one by one are the first ones

place_equiv : IsEquivalence (eq_by_cmp place_cmp)
place_equiv = eq_by_cmp_equiv place_total

same_turned : (one other : Place) → same_place one other ≡ same_place other one
same_turned one other = sym (place_same one other) ∙ place_equiv.symm one other ∙ place_same other one

same_beside : (one other place : Place) → same_place one other ≡ true → same_place one place ≡ same_place other place
same_beside one other place same = sym (place_same one place) ∙ place_equiv.congr one other place (place_same one other ∙ same) ∙ place_same other place

had : (schema : Catalog) (rows : List GoneRow) (one other : Place) → same_place one other ≡ true → has_row schema rows one ≡ has_row schema rows other
had schema [] one other same = refl
had schema (row ∷ rows) one other same =
    let place : Place = place_of_gone schema row in
    ap (λ (b : Bool). b || has_row schema rows one) (same_turned place one ∙ same_beside one other place same ∙ same_turned other place)
    ∙ ap (λ (b : Bool). same_place place other || b) (had schema rows one other same)

-- no row has its table and key
abbrev is_new : Catalog → List GoneRow → GoneRow → Bool
is_new schema rows row = not (has_row schema rows (place_of_gone schema row))

-- a row whose table and key is there is not new, and none of its table and key is
new_apart : (schema : Catalog) (rows : List GoneRow) (row : GoneRow) (more : List GoneRow) → has_row schema rows (place_of_gone schema row) ≡ true → filter (is_new schema rows) (filter (differ schema row) more) ≡ filter (is_new schema rows) more
new_apart schema rows row [] has = refl
new_apart schema rows row (one ∷ more) has = by (same_place (place_of_gone schema row) (place_of_gone schema one)) (new_apart schema rows row more has) refl
  where
    by : (b : Bool) → filter (is_new schema rows) (filter (differ schema row) more) ≡ filter (is_new schema rows) more → same_place (place_of_gone schema row) (place_of_gone schema one) ≡ b
        → filter (is_new schema rows) (cond (not b) (one ∷ filter (differ schema row) more) (filter (differ schema row) more)) ≡ filter (is_new schema rows) (one ∷ more)
    by true rest is =
        rest
        ∙ sym (ap (λ (c : Bool). cond (not c) (one ∷ filter (is_new schema rows) more) (filter (is_new schema rows) more)) (sym (had schema rows (place_of_gone schema row) (place_of_gone schema one) is) ∙ has))
    by false rest is = ap (λ (xs : List GoneRow). cond (is_new schema rows one) (one ∷ xs) xs) rest

-- those that are new behind one more row are of another table and key than that
new_behind : (schema : Catalog) (rows : List GoneRow) (row : GoneRow) (more : List GoneRow) → filter (is_new schema (rows ++ row ∷ [])) more ≡ filter (is_new schema rows) (filter (differ schema row) more)
new_behind schema rows row [] = refl
new_behind schema rows row (one ∷ more) = by (same_place (place_of_gone schema row) (place_of_gone schema one)) (new_behind schema rows row more) refl
  where
    place : Place
    place = place_of_gone schema one

    seen : (b : Bool) → same_place (place_of_gone schema row) place ≡ b → has_row schema (rows ++ row ∷ []) place ≡ (has_row schema rows place || b)
    seen b is =
        list_any-append (λ (it : GoneRow). same_place (place_of_gone schema it) place) rows (row ∷ [])
        ∙ ap (λ (c : Bool). has_row schema rows place || c) (or-false (same_place (place_of_gone schema row) place) ∙ is)

    by : (b : Bool) → filter (is_new schema (rows ++ row ∷ [])) more ≡ filter (is_new schema rows) (filter (differ schema row) more) → same_place (place_of_gone schema row) place ≡ b
        → filter (is_new schema (rows ++ row ∷ [])) (one ∷ more) ≡ filter (is_new schema rows) (cond (not b) (one ∷ filter (differ schema row) more) (filter (differ schema row) more))
    by true rest is =
        ap (λ (c : Bool). cond (not c) (one ∷ filter (is_new schema (rows ++ row ∷ [])) more) (filter (is_new schema (rows ++ row ∷ [])) more)) (seen true is ∙ turned (has_row schema rows place) true) ∙ rest
    by false rest is =
        ap (λ (c : Bool). cond (not c) (one ∷ filter (is_new schema (rows ++ row ∷ [])) more) (filter (is_new schema (rows ++ row ∷ [])) more)) (seen false is ∙ or-false (has_row schema rows place))
        ∙ ap (λ (xs : List GoneRow). cond (is_new schema rows one) (one ∷ xs) xs) rest

-- behind rows that are there come the first ones that are new
firsts_behind : (schema : Catalog) (sofar rows : List GoneRow) → fold (with_first schema) sofar rows ≡ sofar ++ filter (is_new schema sofar) (first_rows schema rows)
firsts_behind schema sofar [] = sym (append-nil sofar)
firsts_behind schema sofar (row ∷ rows) = by (has_row schema sofar (place_of_gone schema row)) (λ kept. firsts_behind schema kept rows) refl
  where
    others : List GoneRow
    others = filter (is_new schema sofar) (filter (differ schema row) (first_rows schema rows))

    by : (b : Bool) → ((kept : List GoneRow) → fold (with_first schema) kept rows ≡ kept ++ filter (is_new schema kept) (first_rows schema rows)) → has_row schema sofar (place_of_gone schema row) ≡ b
        → fold (with_first schema) (if b then sofar else (sofar ++ row ∷ [])) rows ≡ sofar ++ cond (not b) (row ∷ others) others
    by true behind is = behind sofar ∙ ap (λ (xs : List GoneRow). sofar ++ xs) (sym (new_apart schema sofar row (first_rows schema rows) is))
    by false behind is =
        behind (sofar ++ row ∷ [])
        ∙ ap (λ (xs : List GoneRow). (sofar ++ row ∷ []) ++ xs) (new_behind schema sofar row (first_rows schema rows))
        ∙ append_assoc sofar (row ∷ []) others

all_new : (schema : Catalog) (rows : List GoneRow) → filter (is_new schema []) rows ≡ rows
all_new schema [] = refl
all_new schema (row ∷ rows) = ap (λ (xs : List GoneRow). row ∷ xs) (all_new schema rows)

-- where each row goes behind the others unless one of them has its table and key, the first ones are there
firsts_kept : (schema : Catalog) (rows : List GoneRow) → fold (with_first schema) [] rows ≡ first_rows schema rows
firsts_kept schema rows = firsts_behind schema [] rows ∙ all_new schema (first_rows schema rows)

-- ---- one row more

pub firsts_more : {A : Type 0} (schema : Catalog) (row_of : A → GoneRow) (items : List A) (i : ℕ) (item : A) (row : GoneRow) (old new : List GoneRow) → i < length items → item ≡ get_or items i item → row ≡ row_of item
    → new ≡ with_first schema old row → fold (with_first schema) old (map row_of (drop i items)) ≡ fold (with_first schema) [] (map row_of items)
    → fold (with_first schema) new (map row_of (drop (i + 1) items)) ≡ fold (with_first schema) [] (map row_of items)
firsts_more schema row_of items i item row old new less is told put left =
    ap (λ (rows : List GoneRow). fold (with_first schema) rows (map row_of (drop (i + 1) items))) (put ∙ ap (with_first schema old) told)
    ∙ ap (λ rest. fold (with_first schema) old (map row_of rest)) (sym (drop_more items i item less ∙ ap (λ it. it ∷ drop (i + 1) items) (sym is))) ∙ left

-- all have come
pub firsts_end : {A : Type 0} (schema : Catalog) (row_of : A → GoneRow) (items : List A) (i : ℕ) (rows : List GoneRow) → length items ≤ i → fold (with_first schema) rows (map row_of (drop i items)) ≡ fold (with_first schema) [] (map row_of items)
    → rows ≡ first_rows schema (map row_of items)
firsts_end schema row_of items i rows ended left =
    sym (ap (λ rest. fold (with_first schema) rows (map row_of rest)) (drop_all i items ended)) ∙ left ∙ firsts_kept schema (map row_of items)

-- ---- what is said of all rows is said of the first ones

filter_all : (P : GoneRow → Type 0) (test : GoneRow → Bool) (rows : List GoneRow) → AllByRecursion P rows → AllByRecursion P (filter test rows)
filter_all P test [] all = tt
filter_all P test (row ∷ rows) all = by (test row) (filter_all P test rows all.1)
  where
    by : (b : Bool) → AllByRecursion P (filter test rows) → AllByRecursion P (cond b (row ∷ filter test rows) (filter test rows))
    by true rest = (all.0, rest)
    by false rest = rest

pub firsts_all : (P : GoneRow → Type 0) (schema : Catalog) (rows : List GoneRow) → AllByRecursion P rows → AllByRecursion P (first_rows schema rows)
firsts_all P schema [] all = tt
firsts_all P schema (row ∷ rows) all = (all.0, filter_all P (differ schema row) (first_rows schema rows) (firsts_all P schema rows all.1))
