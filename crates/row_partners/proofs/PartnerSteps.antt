-- The partner of each new row, and the steps of the loop that finds it: one more new row takes the deleted row of its table and key.
use Rattle.std.proofs.Common.{◌≡◌, ℕ, zero, suc, ◌+◌, ◌<◌, ◌≤◌, Bool, true, false, cond, not, ◌&&◌, ◌||◌, List, [], ◌∷◌, ◌++◌, length, take, get_or, refl, sym, ap, ◌∙◌, arith, ◌-◌, drop}
use Rattle.std.proofs.Math.Seq.{take-suc}
use Rattle.std.proofs.lemmas.List.{take_all}
use Rattle.std.proofs.lemmas.List.FromFn.{get_or-map-range_with_len, length-map-range_with_len}
use Rattle.std.proofs.lemmas.List.Folds.{list_any-append}
use Rattle.std.specs.Prelude.{Option, None, Some}
use Rattle.std.specs.BTreeMap.{is_at}
use Rattle.std.specs.List.{list_any, position_from, range_with_len}
use Rattle.base_core.proofs.Tests.{then_equal}
use Rattle.base_core.specs.Order.{values_cmp}
use Rattle.schema_core.specs.declared.changes.GoneRow.{GoneRow}
use Rattle.schema_core.specs.declared.changes.RowChanges.{RowChanges}
use Rattle.schema_core.specs.Catalog.{Catalog}
use Rattle.schema_core.specs.Tables.{has_null, same_values, table_cmp}
use Rattle.flush_order.specs.Orders.{place_of_gone}
use Rattle.flush_order.specs.Sorted.{Place, place_cmp, same_place}
use Rattle.object_rows.proofs.PlaceSteps.{number_same, one_entered}
use Rattle.row_partners.specs.Partners.{gone_under, gone_unless_taken, is_taken, known_key, partner_of, partners, place_of_new, is_known_as}
use Rattle.flush_order.specs.declared.refers.ReadyRow.{ReadyRow}
use Rattle.flush_order.specs.Ready.{ready_row}

-- the order of rows by table and key tells two places apart where they differ
pub is_same : (one other : Place) → is_at (place_cmp one) other ≡ same_place one other
is_same one other = sym (then_equal (table_cmp one.0 other.0) (values_cmp one.1 other.1)) ∙ ap (λ b. b && same_values one.1 other.1) (number_same one.0.0 other.0.0)

pub ruleset place_steps = (is_same)

-- ---- the partner of each new row

pub partners_length : (schema : Catalog) (changes : RowChanges) → length (partners schema changes) ≡ length changes.fresh
unfolding partners
partners_length schema changes = length-map-range_with_len (partner_of schema changes) 0 (length changes.fresh)

pub partner_at : (schema : Catalog) (changes : RowChanges) (n : ℕ) (d : Option ℕ) → n < length changes.fresh → get_or (partners schema changes) n d ≡ partner_of schema changes n
unfolding partners
partner_at schema changes n d h = get_or-map-range_with_len (partner_of schema changes) 0 (length changes.fresh) n n d h (omega arith)

-- one more
pub partners_more : (schema : Catalog) (changes : RowChanges) (n : ℕ) → n < length changes.fresh → take (n + 1) (partners schema changes) ≡ take n (partners schema changes) ++ partner_of schema changes n ∷ []
partners_more schema changes n h =
    let inside : n < length (partners schema changes) = rw (partners_length schema changes) h in
    let next : n + 1 ≡ suc n = omega arith in
    ap (λ m. take m (partners schema changes)) next ∙ take-suc (partners schema changes) n (partner_of schema changes n) inside
    ∙ ap (λ partner. take n (partners schema changes) ++ partner ∷ []) (partner_at schema changes n (partner_of schema changes n) h)

-- no more
pub partners_end : (schema : Catalog) (changes : RowChanges) (n : ℕ) → length changes.fresh ≤ n → take n (partners schema changes) ≡ partners schema changes
partners_end schema changes n h =
    let over : length (partners schema changes) ≤ n = rw (partners_length schema changes) h in
    take_all n (partners schema changes) over

pub ruleset partner_steps = (partners_more, partners_end)

-- ---- the loop over new rows

range_more : (a n : ℕ) → range_with_len a (suc n) ≡ range_with_len a n ++ (a + n) ∷ []
range_more a zero = let same : a ≡ a + 0 = omega arith in ap (λ k. k ∷ []) same
range_more a (suc n) =
    let same : a + 1 + n ≡ a + suc n = omega arith in
    ap (λ (ks : List ℕ). a ∷ ks) (range_more (a + 1) n ∙ ap (λ k. range_with_len (a + 1) n ++ k ∷ []) same)

or_false : (b : Bool) → (b || false) ≡ b
or_false true = refl
or_false false = refl

taken_more : (schema : Catalog) (changes : RowChanges) (wanted : Place) (n : ℕ) → is_taken schema changes wanted (n + 1) ≡ (is_taken schema changes wanted n || is_known_as schema changes wanted n)
taken_more schema changes wanted n =
    let test = is_known_as schema changes wanted in
    let next : n + 1 ≡ suc n = omega arith in
    let same : 0 + n ≡ n = omega arith in
    ap (is_taken schema changes wanted) next ∙ ap (list_any test) (range_more 0 n) ∙ list_any-append test (range_with_len 0 n) ((0 + n) ∷ [])
    ∙ ap (λ b. list_any test (range_with_len 0 n) || b) (or_false (test (0 + n)) ∙ ap test same)

none_twice : (a b : Bool) (x : Option ℕ) → cond (a || b) None x ≡ cond b None (cond a None x)
none_twice true true x = refl
none_twice true false x = refl
none_twice false b x = refl

-- what is left under a table and key behind one more row
pub left_more : (schema : Catalog) (changes : RowChanges) (wanted : Place) (n : ℕ) → gone_unless_taken schema changes wanted (n + 1)
    ≡ cond (not (has_null (known_key schema changes n)) && same_place (place_of_new schema changes n) wanted) None (gone_unless_taken schema changes wanted n)
left_more schema changes wanted n =
    ap (λ b. cond b None (gone_under schema changes wanted)) (taken_more schema changes wanted n)
    ∙ none_twice (is_taken schema changes wanted n) (is_known_as schema changes wanted n) (gone_under schema changes wanted)

-- ---- the loops

-- the deleted row of a number is entered before those behind it
pub gone_entered : (schema : Catalog) (rows : List GoneRow) (behind n : ℕ) (row : GoneRow) (place : Place) (was is : Option ℕ) (wanted : Place)
    → behind < length rows → row ≡ get_or rows (length rows - 1 - behind) row → place ≡ place_of_gone schema row → is ≡ cond (same_place place wanted) (Some (length rows - 1 - behind)) was
    → was ≡ position_from (λ row. same_place (place_of_gone schema row) wanted) (length rows - behind) (drop (length rows - behind) rows)
    → is ≡ position_from (λ row. same_place (place_of_gone schema row) wanted) (length rows - (behind + 1)) (drop (length rows - (behind + 1)) rows)
gone_entered schema rows behind n row place was is wanted less here named step before =
    let number = length rows - 1 - behind in
    let whole : number + 1 + behind ≡ length rows = omega (arith, less) in
    one_entered (λ own. same_place (place_of_gone schema own) wanted) rows behind number row was is whole
    (step ∙ ap (λ (at : Place). cond (same_place at wanted) (Some number) was) (named ∙ ap (place_of_gone schema) here)) before

-- what is taken out for a new row is its partner
pub partner_taken : (schema : Catalog) (changes : RowChanges) (n : ℕ) (row : ReadyRow) → row ≡ ready_row schema changes n → (was : Place → Option ℕ) (partner : Option ℕ)
    → ((wanted : Place) → was wanted ≡ gone_unless_taken schema changes wanted n) → partner ≡ cond (has_null row.key) None (was (row.table, row.key)) → partner ≡ partner_of schema changes n
partner_taken schema changes n row is was partner before taken =
    taken ∙ ap (λ (r : ReadyRow). cond (has_null r.key) None (was (r.table, r.key))) is
    ∙ ap (cond (has_null (known_key schema changes n)) None) (before (place_of_new schema changes n))

pub partner_pushed : (schema : Catalog) (changes : RowChanges) (n : ℕ) (items new : List (Option ℕ)) (partner : Option ℕ) → n < length changes.fresh → items ≡ take n (partners schema changes)
    → partner ≡ partner_of schema changes n → new ≡ items ++ partner ∷ [] → new ≡ take (n + 1) (partners schema changes)
partner_pushed schema changes n items new partner less before is pushed =
    pushed ∙ ap (λ (own : List (Option ℕ)). own ++ partner ∷ []) before ∙ ap (λ own. take n (partners schema changes) ++ own ∷ []) is ∙ sym (partners_more schema changes n less)

-- what is left then
pub left_behind : (schema : Catalog) (changes : RowChanges) (n : ℕ) (row : ReadyRow) → row ≡ ready_row schema changes n → (was : Place → Option ℕ) (is : Option ℕ) (wanted : Place)
    → ((other : Place) → was other ≡ gone_unless_taken schema changes other n) → is ≡ cond (not (has_null row.key) && same_place (row.table, row.key) wanted) None (was wanted) → is ≡ gone_unless_taken schema changes wanted (n + 1)
left_behind schema changes n row same was is wanted before taken =
    taken ∙ ap (λ (r : ReadyRow). cond (not (has_null r.key) && same_place (r.table, r.key) wanted) None (was wanted)) same
    ∙ ap (cond (not (has_null (known_key schema changes n)) && same_place (place_of_new schema changes n) wanted) None) (before wanted)
    ∙ sym (left_more schema changes wanted n)
