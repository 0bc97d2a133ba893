-- Keys that are entered in an index, and what is left of them after a change.
use Rattle.std.proofs.Common.{◌≡◌, ◌⊎◌, inl, inr, ℕ, ◌+◌, ◌<◌, Bool, true, false, ◌&&◌, cond, List, [], ◌∷◌, ◌++◌, None, Some, Option, length, take, slice_index_or, refl, sym, ap, subst, ◌∙◌, arith}
use Rattle.std.proofs.lemmas.Bool.{true≢false}
use Rattle.std.proofs.lemmas.List.Folds.{list_all_at, list_all_more}
use Rattle.std.specs.List.{AllByRecursion, list_all, list_any}
use Rattle.std.specs.HashMap.Eq.{lookup_congr}
use Rattle.std.specs.BTreeMap.{BTreeMap, get}
use Rattle.std.specs.BTreeSet.{BTreeSet}
use Rattle.std.specs.Cmp.{Equal-is, IsEquivalence, eq_by_cmp_equiv}
use Rattle.base_core.proofs.Exact.{exact_values, values_total}
use Rattle.base_core.proofs.Lists.{every_append}
use Rattle.base_core.proofs.Tests.{and_then}
use Rattle.base_core.specs.declared.value.Value.{Value}
use Rattle.base_core.specs.Order.{values_cmp}
use Rattle.schema_core.specs.Tables.{same_values}
use Rattle.table_index.specs.declared.index.ValueIndex.{ValueIndex}
use Rattle.table_index.specs.declared.indexes.Indexes.{Indexes}
use Rattle.table_index.specs.Indexed.{AreComplete, Found, IsChanged, IsComplete, cells_at, has_cells_of, has_entered, is_entered, keys_at, keys_in}

abbrev Holders : Type 0
Holders = BTreeMap (List Value) (BTreeSet (List Value))

abbrev Keys : Type 0
Keys = BTreeSet (List Value)

pub same_values_equiv : IsEquivalence same_values
same_values_equiv = eq_by_cmp_equiv values_total

-- equal lists of values are one
pub same_is : (one other : List Value) → same_values one other ≡ true → one ≡ other
same_is one other e = exact_values one other ((Equal-is (values_cmp one other)).0 e)

-- ---- keys at values

-- the key is among those at the value
abbrev Has : Holders → List Value → List Value → Type 0
Has index value key = list_any (same_values key) (keys_at index value) ≡ true

-- the keys at one value are others, or none
abbrev IsWithout : Holders → List Value → Holders → Type 0
IsWithout index value taken = (q : List Value) → get values_cmp taken q ≡ cond (same_values value q) None (get values_cmp index q)

abbrev IsWith : Holders → List Value → Keys → Holders → Type 0
IsWith taken value keys new = (q : List Value) → get values_cmp new q ≡ cond (same_values value q) (Some keys) (get values_cmp taken q)

-- a key is in the set, or is not, and the others are as they were
abbrev IsSet : Keys → List Value → Bool → Keys → Type 0
IsSet keys key there new = (q : List Value) → list_any (same_values q) new.keys ≡ cond (same_values key q) there (list_any (same_values q) keys.keys)

kept_at : (index taken new : Holders) (value other q : List Value) (keys more : Keys) (b : Bool) → same_values value q ≡ b → get values_cmp taken q ≡ cond b None (get values_cmp index q)
    → get values_cmp new q ≡ cond b (Some more) (get values_cmp taken q) → keys.keys ≡ keys_at index value → (list_any (same_values other) keys.keys ≡ true → list_any (same_values other) more.keys ≡ true)
    → Has index q other → Has new q other
kept_at index taken new value other q keys more true s t n are kept there =
    ap (λ o. list_any (same_values other) (keys_in o)) n
    ∙ kept (ap (list_any (same_values other)) (are ∙ ap keys_in (lookup_congr same_values same_values_equiv.congr index.entries value q s)) ∙ there)
kept_at index taken new value other q keys more false s t n are kept there = ap (λ o. list_any (same_values other) (keys_in o)) (n ∙ t) ∙ there

still : (b c : Bool) → c ≡ true → cond b true c ≡ true
still true c there = refl
still false c there = there

-- a key more at a value
pub keys_kept : (index taken new : Holders) (value key : List Value) (keys more : Keys) → IsWithout index value taken → IsWith taken value more new → keys.keys ≡ keys_at index value → IsSet keys key true more
    → (other q : List Value) → Has index q other → Has new q other
keys_kept index taken new value key keys more t n are m other q there =
    kept_at index taken new value other q keys more (same_values value q) refl (t q) (n q) are (λ inside. m other ∙ still (same_values key other) (list_any (same_values other) keys.keys) inside) there

-- one key less at a value
pub keys_left : (index taken new : Holders) (value key : List Value) (keys less : Keys) → IsWithout index value taken → IsWith taken value less new → keys.keys ≡ keys_at index value → IsSet keys key false less
    → (other q : List Value) → (same_values key other ≡ false) ⊎ (same_values value q ≡ false) → Has index q other → Has new q other
keys_left index taken new value key keys less t n are m other q apart there = elim apart [
  | inl is ↦ kept_at index taken new value other q keys less (same_values value q) refl (t q) (n q) are (λ inside. m other ∙ ap (λ b. cond b false (list_any (same_values other) keys.keys)) is ∙ inside) there
  | inr is ↦ ap (λ o. list_any (same_values other) (keys_in o)) (n q ∙ ap (λ b. cond b (Some less) (get values_cmp taken q)) is ∙ t q ∙ ap (λ b. cond b None (get values_cmp index q)) is) ∙ there
]

none_in : (keys : List (List Value)) (other : List Value) → length keys ≡ 0 → list_any (same_values other) keys ≡ false
none_in [] other none = refl
none_in (key ∷ keys) other none = absurd (omega (arith, none))

-- no key is left at a value
pub keys_gone : (index taken : Holders) (value key : List Value) (keys less : Keys) → IsWithout index value taken → keys.keys ≡ keys_at index value → IsSet keys key false less → length less.keys ≡ 0
    → (other q : List Value) → (same_values key other ≡ false) ⊎ (same_values value q ≡ false) → Has index q other → Has taken q other
keys_gone index taken value key keys less t are m none other q apart there = elim apart [
  | inl is ↦ by (same_values value q) refl is
  | inr is ↦ ap (λ o. list_any (same_values other) (keys_in o)) (t q ∙ ap (λ b. cond b None (get values_cmp index q)) is) ∙ there
]
  where
    inside : same_values value q ≡ true → list_any (same_values other) keys.keys ≡ true
    inside s = ap (list_any (same_values other)) (are ∙ ap keys_in (lookup_congr same_values same_values_equiv.congr index.entries value q s)) ∙ there

    by : (b : Bool) → same_values value q ≡ b → same_values key other ≡ false → Has taken q other
    by true s is = absurd (true≢false (sym (m other ∙ ap (λ b. cond b false (list_any (same_values other) keys.keys)) is ∙ inside s) ∙ none_in less.keys other none))
    by false s is = ap (λ o. list_any (same_values other) (keys_in o)) (t q ∙ ap (λ b. cond b None (get values_cmp index q)) s) ∙ there

-- the key that was put in is there
pub key_there : (new : Holders) (value key : List Value) (more : Keys) → get values_cmp new value ≡ Some more → list_any (same_values key) more.keys ≡ true → Has new value key
key_there new value key more is there = ap (λ o. list_any (same_values key) (keys_in o)) is ∙ there

-- ---- rows that are entered

pub row_entered : (old new : ValueIndex) (value key row : List Value) → new.columns.items ≡ old.columns.items → value ≡ cells_at old.columns.items row → Has new.holders value key → is_entered new key row ≡ true
row_entered old new value key row same is there =
    ap (λ columns. list_any (same_values key) (keys_at new.holders (cells_at columns row))) same ∙ ap (λ v. list_any (same_values key) (keys_at new.holders v)) (sym is) ∙ there

pub rows_kept : (old new : ValueIndex) → new.columns.items ≡ old.columns.items → ((other q : List Value) → Has old.holders q other → Has new.holders q other)
    → (other cells : List Value) → is_entered old other cells ≡ true → is_entered new other cells ≡ true
rows_kept old new same kept other cells there =
    ap (λ columns. list_any (same_values other) (keys_at new.holders (cells_at columns cells))) same ∙ kept other (cells_at old.columns.items cells) there

-- what a row had entered that stands no more is taken out
pub former_gone : (old new : ValueIndex) (rows : Found) (key former value : List Value) (row : Option (List Value)) → new.columns.items ≡ old.columns.items → value ≡ cells_at old.columns.items former
    → has_cells_of old.columns.items former row ≡ false
    → ((other q : List Value) → (same_values key other ≡ false) ⊎ (same_values value q ≡ false) → Has old.holders q other → Has new.holders q other)
    → IsComplete rows old → rows key ≡ row → IsComplete rows new
former_gone old new rows key former value row same is others left complete stood other cells there =
    ap (λ columns. list_any (same_values other) (keys_at new.holders (cells_at columns cells))) same
    ∙ left other (cells_at old.columns.items cells) (by (same_values key other) refl) (complete other cells there)
  where
    by : (b : Bool) → same_values key other ≡ b → (same_values key other ≡ false) ⊎ (same_values value (cells_at old.columns.items cells) ≡ false)
    by false e = inl e
    by true e =
        let it : row ≡ Some cells = sym stood ∙ ap rows (same_is key other e) ∙ there in
        inr (ap (λ v. same_values v (cells_at old.columns.items cells)) is ∙ ap (has_cells_of old.columns.items former) (sym it) ∙ others)

-- ---- changes of rows

-- what stands under a key after a change
after_change : (rows after : Found) (key : List Value) (row : Option (List Value)) (other cells : List Value) (P : Type 0) → IsChanged rows key row after → after other ≡ Some cells
    → (key ≡ other → row ≡ Some cells → P) → (same_values key other ≡ false → rows other ≡ Some cells → P) → P
after_change rows after key row other cells P changed there same apart = by (same_values key other) refl
  where
    by : (b : Bool) → same_values key other ≡ b → P
    by true e = let is : key ≡ other = same_is key other e in same is (sym changed.here ∙ ap after is ∙ there)
    by false e = apart e (sym (changed.others other e) ∙ there)

some_is : {A : Type 0} (x y : A) → Some x ≡ Some y → x ≡ y
some_is x y e = cc

-- the row is entered, and those that were are still
pub new_complete : (old new : ValueIndex) (rows after : Found) (key row : List Value) → is_entered new key row ≡ true → ((other cells : List Value) → is_entered old other cells ≡ true → is_entered new other cells ≡ true)
    → IsComplete rows old → IsChanged rows key (Some row) after → IsComplete after new
new_complete old new rows after key row here others complete changed other cells there =
    after_change rows after key (Some row) other cells (is_entered new other cells ≡ true) changed there
    (λ same is. sym (ap (λ k. is_entered new k cells) same) ∙ sym (ap (is_entered new key) (some_is row cells is)) ∙ here)
    (λ apart was. others other cells (complete other cells was))

-- ---- all indexes

parted : (P : ValueIndex → Type 0) (rest : List ValueIndex) (index : ValueIndex) → AllByRecursion P (rest ++ index ∷ []) → AllByRecursion P rest × P index
parted P [] index all = (tt, all.0)
parted P (first ∷ rest) index all = let more = parted P rest index all.1 in ((all.0, more.0), more.1)

-- one more of them was changed
pub all_moved : (rows after : Found) (left rest done all : List ValueIndex) (index changed : ValueIndex) → left ≡ rest ++ index ∷ [] → all ≡ done ++ changed ∷ [] → (IsComplete rows index → IsComplete after changed)
    → AllByRecursion (IsComplete rows) left × AllByRecursion (IsComplete after) done → AllByRecursion (IsComplete rows) rest × AllByRecursion (IsComplete after) all
all_moved rows after left rest done all index changed parts more change complete =
    let split = parted (IsComplete rows) rest index (subst (AllByRecursion (IsComplete rows)) parts complete.0) in
    (split.0, subst (AllByRecursion (IsComplete after)) (sym more) (every_append (IsComplete after) done (changed ∷ []) complete.1 (change split.1, tt)))

-- fewer rows
pub lost_kept : (indexes : Indexes) (rows after : Found) (key : List Value) → IsChanged rows key None after → AreComplete rows indexes → AreComplete after indexes
lost_kept indexes rows after key changed complete = by indexes.list.items complete
  where
    one : (index : ValueIndex) → IsComplete rows index → IsComplete after index
    one index all other cells there = after_change rows after key None other cells (is_entered index other cells ≡ true) changed there (λ it is. cc) (λ apart_key stood. all other cells stood)

    by : (list : List ValueIndex) → AllByRecursion (IsComplete rows) list → AllByRecursion (IsComplete after) list
    by [] all = tt
    by (index ∷ list) all = (one index all.0, by list all.1)

-- ---- a row that each index has

pub not_entered : (list there : List ValueIndex) (key row seen : List Value) (i : ℕ) (index : ValueIndex) (has : Bool) → there ≡ list → i < length there → index ≡ slice_index_or there i index → seen ≡ row → has ≡ is_entered index key seen → has ≡ false
    → false ≡ list_all (λ x. is_entered x key row) list
not_entered list there key row seen i index has same inside is alike found lacks =
    sym (list_all_at (λ x. is_entered x key row) there i index inside (ap (λ x. is_entered x key row) (sym is) ∙ ap (is_entered index key) (sym alike) ∙ sym found ∙ lacks))
    ∙ ap (list_all (λ x. is_entered x key row)) same

pub also_entered : (list there : List ValueIndex) (key row seen : List Value) (i : ℕ) (index : ValueIndex) (has : Bool) → there ≡ list → i < length there → index ≡ slice_index_or there i index → seen ≡ row → has ≡ is_entered index key seen → has ≡ true
    → list_all (λ x. is_entered x key row) (take i list) ≡ true → list_all (λ x. is_entered x key row) (take (i + 1) list) ≡ true
also_entered list there key row seen i index has same inside is alike found entered before =
    ap (λ xs. list_all (λ x. is_entered x key row) (take (i + 1) xs)) (sym same)
    ∙ list_all_more (λ x. is_entered x key row) there i index inside
    ∙ ap (λ b. b && is_entered (slice_index_or there i index) key row) (ap (λ xs. list_all (λ x. is_entered x key row) (take i xs)) same ∙ before)
    ∙ ap (λ x. is_entered x key row) (sym is) ∙ ap (is_entered index key) (sym alike) ∙ sym found ∙ entered

-- no row comes anew, and each index had the row that comes back
pub all_back : (indexes : Indexes) (rows after : Found) (key row : List Value) (has : Bool) → has ≡ true → has ≡ has_entered indexes key row → AreComplete rows indexes → IsChanged rows key (Some row) after → AreComplete after indexes
all_back indexes rows after key row has there entered complete changed = by indexes.list.items (sym entered ∙ there) complete
  where
    first : (a b : Bool) → (a && b) ≡ true → a ≡ true
    first true b both = refl
    first false b both = both

    by : (list : List ValueIndex) → list_all (λ index. is_entered index key row) list ≡ true → AllByRecursion (IsComplete rows) list → AllByRecursion (IsComplete after) list
    by [] entered all = tt
    by (index ∷ list) entered all = (
      new_complete index index rows after key row (first (is_entered index key row) (list_all (λ (i : ValueIndex). is_entered i key row) list) entered) (λ other cells there. there) all.0 changed,
      by list (and_then (is_entered index key row) (list_all (λ (i : ValueIndex). is_entered i key row) list) entered) all.1,
    )
