-- Rows by table and key: one more, and what is found under the keys that a row names.
use Rattle.std.proofs.Common.{◌≡◌, ℕ, zero, suc, ◌+◌, ◌<◌, ◌≤◌, Bool, true, false, cond, if◌then◌else◌, not, ◌&&◌, ◌||◌, List, [], ◌∷◌, ◌++◌, Option, None, Some, ◌⊎◌, inl, inr, refl, sym, ap, ◌∙◌, subst, append-nil, arith}
use Rattle.std.proofs.lemmas.Bool.{cases_lt, eq-eqb, ltb-false, ne_eqb}
use Rattle.std.proofs.lemmas.List.Elements.{All-append}
use Rattle.std.proofs.lemmas.List.Folds.{list_any-append}
use Rattle.std.specs.Prelude.{nat_eq, nat_lt}
use Rattle.std.specs.List.{All, list_any}
use Rattle.std.specs.Option.{unwrap_or}
use Rattle.std.specs.BTreeMap.{get, is_at}
use Rattle.std.specs.Map.{lookup}
use Rattle.std.specs.Ordering.{eq_by_cmp}
use Rattle.std.specs.Cmp.{IsEquivalence, IsTotalOrder, eq_by_cmp_equiv, nat_eq_equiv, on_total, then_total, unsigned_ties}
use Rattle.std.specs.HashMap.Eq.{lookup_congr}
use Rattle.base_core.proofs.Exact.{values_total}
use Rattle.base_core.proofs.Tests.{and_false, and_true, or_false, then_equal}
use Rattle.base_core.specs.declared.ids.TableId.{TableId}
use Rattle.base_core.specs.declared.value.Value.{Value}
use Rattle.base_core.specs.Order.{values_cmp}
use Rattle.schema_core.proofs.TableOrder.{tables_total}
use Rattle.schema_core.specs.declared.table.ForeignSpec.{ForeignSpec}
use Rattle.schema_core.specs.declared.changes.RowCell.{RowCell}
use Rattle.schema_core.specs.declared.changes.RowCell.TheVariants.{Given, KeyOf}
use Rattle.schema_core.specs.Catalog.{Catalog, spec_of, target_of}
use Rattle.schema_core.specs.Tables.{cells_of, has_null, same_values, table_cmp}
use Rattle.row_order.specs.Places.{is_among}
use Rattle.row_order.proofs.Told.{below_if, none_below}
use Rattle.flush_order.specs.Index.{Index, IsIndexOf, rows_named, rows_of_key, rows_referred, rows_taken, rows_under}
use Rattle.flush_order.specs.Refers.{comes_from, is_table, names}
use Rattle.flush_order.specs.Sorted.{Place, place_cmp, same_place}

pub place_total : IsTotalOrder place_cmp
place_total = then_total (on_total (λ (p : Place). p.0) tables_total) (on_total (λ (p : Place). p.1) values_total)

place_equiv : IsEquivalence (eq_by_cmp place_cmp)
place_equiv = eq_by_cmp_equiv place_total

-- the order of rows by table and key tells two places apart where they differ
pub place_same : (one other : Place) → is_at (place_cmp one) other ≡ same_place one other
place_same one other =
    sym (then_equal (table_cmp one.0 other.0) (values_cmp one.1 other.1)) ∙ ap (λ b. b && same_values one.1 other.1) (sym (unsigned_ties one.0.0 other.0.0))

-- ---- one more row under a table and key

entered_by : (index taken new : Index) (place q : Place) (row : ℕ) (rows : List ℕ) (b : Bool) → is_at (place_cmp place) q ≡ b → get place_cmp taken q ≡ cond b None (get place_cmp index q)
    → get place_cmp new q ≡ cond b (Some rows) (get place_cmp taken q) → rows ≡ rows_under index place ++ row ∷ [] → rows_under new q ≡ rows_under index q ++ (if b then row ∷ [] else [])
entered_by index taken new place q row rows true s t n e =
    ap (λ o. unwrap_or o []) n ∙ e ∙ ap (λ o. unwrap_or o [] ++ row ∷ []) (lookup_congr (eq_by_cmp place_cmp) place_equiv.congr index.entries place q s)
entered_by index taken new place q row rows false s t n e = ap (λ o. unwrap_or o []) (n ∙ t) ∙ sym (append-nil (rows_under index q))

pub entered : (index taken new : Index) (place : Place) (row : ℕ) (rows : List ℕ) → ((q : Place) → get place_cmp taken q ≡ cond (is_at (place_cmp place) q) None (get place_cmp index q))
    → ((q : Place) → get place_cmp new q ≡ cond (is_at (place_cmp place) q) (Some rows) (get place_cmp taken q)) → rows ≡ rows_under index place ++ row ∷ []
    → (q : Place) → rows_under new q ≡ rows_under index q ++ (if same_place place q then row ∷ [] else [])
entered index taken new place row rows t n e q =
    entered_by index taken new place q row rows (is_at (place_cmp place) q) refl (t q) (n q) e
    ∙ ap (λ b. rows_under index q ++ (if b then row ∷ [] else [])) (place_same place q)

-- ---- the rows that are entered one by one

pub none_beyond : (n row : ℕ) (rows : List ℕ) → All (λ r. r < n) rows → n ≤ row → is_among rows row ≡ false
none_beyond n row [] all h = refl
none_beyond n row (r ∷ rows) all h =
    ap (λ b. b || is_among rows row) (ne_eqb row r (λ e. absurd (omega (arith, e, h, all 0 0 (omega arith)))))
    ∙ none_beyond n row rows (λ k d l. all (suc k) d (omega (arith, l))) h

below_more : (n : ℕ) (rows : List ℕ) → All (λ r. r < n) rows → All (λ r. r < n + 1) rows
below_more n rows all k d h = omega (arith, all k d h)

last_below : (n : ℕ) (b : Bool) → All (λ r. r < n + 1) (if b then n ∷ [] else [])
last_below n true zero d h = omega arith
last_below n true (suc k) d h = absurd (omega (arith, h))
last_below n false k d h = absurd (omega (arith, h))

last_among : (n row : ℕ) (b : Bool) → is_among (if b then n ∷ [] else []) row ≡ (nat_eq row n && b)
last_among n row true = or_false (nat_eq row n) ∙ sym (and_true (nat_eq row n))
last_among n row false = sym (and_false (nat_eq row n))

pub index_first : (places : ℕ → Place) (index : Index) → index.entries ≡ [] → IsIndexOf places 0 index
index_first places index e = record {
  within = λ place. subst (All (λ row. row < 0)) (sym (none place)) (λ k d h. absurd (omega (arith, h)));
  each = λ place row h. absurd (omega (arith, h));
}
  where
    none : (place : Place) → rows_under index place ≡ []
    none place = ap (λ es. unwrap_or (lookup (is_at (place_cmp place)) es) []) e

pub index_more : (places : ℕ → Place) (n : ℕ) (index new : Index) (here : Place) → here ≡ places n → IsIndexOf places n index
    → ((place : Place) → rows_under new place ≡ rows_under index place ++ (if same_place here place then n ∷ [] else [])) → IsIndexOf places (n + 1) new
index_more places n index new here is before step = record {
  within = λ place. subst (All (λ row. row < n + 1)) (sym (step place)) (All-append (λ row. row < n + 1) (rows_under index place) (if same_place here place then n ∷ [] else []) (below_more n (rows_under index place) (before.within place)) (last_below n (same_place here place)));
  each = λ place row h. among place row ∙ by place row h (cases_lt row n);
}
  where
    among : (place : Place) (row : ℕ) → is_among (rows_under new place) row ≡ (is_among (rows_under index place) row || (nat_eq row n && same_place (places n) place))
    among place row =
        ap (λ rows. is_among rows row) (step place)
        ∙ list_any-append (nat_eq row) (rows_under index place) (if same_place here place then n ∷ [] else [])
        ∙ ap (λ b. is_among (rows_under index place) row || b) (last_among n row (same_place here place))
        ∙ ap (λ p. is_among (rows_under index place) row || (nat_eq row n && same_place p place)) is

    by : (place : Place) (row : ℕ) → row < n + 1 → (row < n) ⊎ (n ≤ row) → (is_among (rows_under index place) row || (nat_eq row n && same_place (places n) place)) ≡ same_place (places row) place
    by place row h (inl less) =
        ap (λ b. is_among (rows_under index place) row || (b && same_place (places n) place)) (ne_eqb row n (λ e. absurd (omega (arith, e, less))))
        ∙ or_false (is_among (rows_under index place) row)
        ∙ before.each place row less
    by place row h (inr far) =
        let same : row ≡ n = omega (arith, h, far) in
        ap (λ b. b || (nat_eq row n && same_place (places n) place)) (none_beyond n row (rows_under index place) (before.within place) far)
        ∙ ap (λ b. b && same_place (places n) place) (eq-eqb row n same)
        ∙ ap (λ r. same_place (places r) place) (sym same)

-- ---- the rows that a foreign key names

turned : (one other : Place) → same_place one other ≡ same_place other one
turned one other = sym (place_same one other) ∙ place_equiv.symm one other ∙ place_same other one

named_by : (places : ℕ → Place) (size : ℕ) (index : Index) (key : List Value) (target : Option TableId) (other : ℕ) (null : Bool) → IsIndexOf places size index → other < size → has_null key ≡ null
    → is_among (rows_of_key index key target) other ≡ (is_table (places other).0 target && not null && same_values key (places other).1)
named_by places size index key None other null is less e = refl
named_by places size index key (Some table) other true is less e =
    ap (λ b. is_among (cond b [] (rows_under index (table, key))) other) e ∙ ap (λ b. b && same_values key (places other).1) (sym (and_false (nat_eq table.0 (places other).0.0)))
named_by places size index key (Some table) other false is less e =
    ap (λ b. is_among (cond b [] (rows_under index (table, key))) other) e
    ∙ is.each (table, key) other less
    ∙ turned (places other) (table, key)
    ∙ ap (λ b. b && same_values key (places other).1) (sym (and_true (nat_eq table.0 (places other).0.0)))

named : (places : ℕ → Place) (size : ℕ) (schema : Catalog) (index : Index) (row : List Value) (table : TableId) (foreign : ForeignSpec) (other : ℕ) → IsIndexOf places size index → other < size
    → is_among (rows_named schema index row table foreign) other ≡ names schema row table (places other).0 (places other).1 foreign
named places size schema index row table foreign other is less =
    named_by places size index (cells_of (spec_of schema table) row foreign.columns) (target_of schema foreign) other (has_null (cells_of (spec_of schema table) row foreign.columns)) is less refl

pub referred : (places : ℕ → Place) (size : ℕ) (schema : Catalog) (index : Index) (row : List Value) (table : TableId) (foreigns : List ForeignSpec) (other : ℕ) → IsIndexOf places size index → other < size
    → is_among (rows_referred schema index row table foreigns) other ≡ list_any (names schema row table (places other).0 (places other).1) foreigns
referred places size schema index row table [] other is less = refl
referred places size schema index row table (foreign ∷ foreigns) other is less =
    list_any-append (nat_eq other) (rows_named schema index row table foreign) (rows_referred schema index row table foreigns)
    ∙ ap (λ b. b || is_among (rows_referred schema index row table foreigns) other) (named places size schema index row table foreign other is less)
    ∙ ap (λ b. names schema row table (places other).0 (places other).1 foreign || b) (referred places size schema index row table foreigns other is less)

under_below : (places : ℕ → Place) (size : ℕ) (index : Index) (key : List Value) (target : Option TableId) → IsIndexOf places size index → All (λ row. row < size) (rows_of_key index key target)
under_below places size index key None is = none_below size
under_below places size index key (Some table) is = by (has_null key)
  where
    by : (b : Bool) → All (λ row. row < size) (cond b [] (rows_under index (table, key)))
    by true = none_below size
    by false = is.within (table, key)

pub referred_below : (places : ℕ → Place) (size : ℕ) (schema : Catalog) (index : Index) (row : List Value) (table : TableId) (foreigns : List ForeignSpec) → IsIndexOf places size index
    → All (λ other. other < size) (rows_referred schema index row table foreigns)
referred_below places size schema index row table [] is = none_below size
referred_below places size schema index row table (foreign ∷ foreigns) is =
    All-append (λ other. other < size) (rows_named schema index row table foreign) (rows_referred schema index row table foreigns)
    (under_below places size index (cells_of (spec_of schema table) row foreign.columns) (target_of schema foreign) is)
    (referred_below places size schema index row table foreigns is)

-- ---- the rows whose keys cells take

taken_by : (size place other : ℕ) (rows : List ℕ) (b : Bool) → other < size → nat_lt place size ≡ b → is_among (cond b (place ∷ rows) rows) other ≡ (nat_eq place other || is_among rows other)
taken_by size place other rows true less e = ap (λ b. b || is_among rows other) (nat_eq_equiv.symm other place)
taken_by size place other rows false less e = ap (λ b. b || is_among rows other) (sym (ne_eqb place other (λ same. absurd (omega (arith, same, less, ltb-false place size e)))))

pub taken : (size other : ℕ) (cells : List RowCell) → other < size → is_among (rows_taken size cells) other ≡ list_any (comes_from other) cells
taken size other [] less = refl
taken size other (Given value ∷ cells) less = taken size other cells less
taken size other (KeyOf place part ∷ cells) less =
    taken_by size place other (rows_taken size cells) (nat_lt place size) less refl
    ∙ ap (λ b. nat_eq place other || b) (taken size other cells less)

pub taken_below : (size : ℕ) (cells : List RowCell) → All (λ other. other < size) (rows_taken size cells)
taken_below size [] = none_below size
taken_below size (Given value ∷ cells) = taken_below size cells
taken_below size (KeyOf place part ∷ cells) = below_if size place (rows_taken size cells) (nat_lt place size) refl (taken_below size cells)
