-- Every declared table is in the order of dependencies, and in the opposite one: as many tables stand there as are declared, and none twice.
use Rattle.std.proofs.Common.{◌≡◌, ℕ, zero, suc, ◌+◌, ◌-◌, ◌<◌, ◌≤◌, Bool, true, false, cond, not, ◌&&◌, ◌||◌, ◌==◌, List, [], ◌∷◌, ◌++◌, map, length, get_or, eqb, Option, None, Some, IfSome, refl, sym, ap, ◌∙◌, subst, append-nil, length-append, arith}
use Rattle.std.proofs.lemmas.Bool.{eqb-true}
use Rattle.std.proofs.lemmas.List.{get_or-reverse, length-map, length-reverse, map-append}
use Rattle.std.proofs.lemmas.List.Elements.{All-append, All-cons, All-head, All-nil, All-tail}
use Rattle.std.proofs.lemmas.Map.Keys.{IsDistinct-push}
use Rattle.std.proofs.lemmas.Map.Steps.{length-le_from_distinct_below}
use Rattle.std.proofs.lemmas.Map.Views.{Contains-from_any}
use Rattle.std.specs.Prelude.{Contains, reverse}
use Rattle.std.specs.Cmp.{nat_eq_equiv}
use Rattle.std.specs.List.{All, IsDistinct, find, list_any}
use Rattle.std.specs.Option.{option_or, option_to_list}
use Rattle.base_core.specs.declared.ids.TableId.{TableId}
use Rattle.schema_core.specs.Catalog.{Catalog, IsTable}
use Rattle.schema_core.specs.DependencyOrder.{dependency_order, first_tables, is_among, is_ready, least_left, next_table, table_ids}
use Rattle.table_laws.proofs.OrderLemmas.{order_holds}
use Rattle.session_tables.proofs.Orders.{order_declared}

abbrev numbers_of : List TableId → List ℕ
numbers_of tables = map (λ (table : TableId). table.0) tables

numbers_among : (placed : List TableId) (q : ℕ) → list_any (eqb q) (numbers_of placed) ≡ is_among placed (record { 0 = q })
numbers_among [] q = refl
numbers_among (t ∷ ts) q = λ i. nat_eq_equiv.symm q t.0 i || numbers_among ts q i

-- ---- no table stands there twice

-- what comes next, if anything, is not there yet
abbrev IsNew : List TableId → Option TableId → Type 0
IsNew placed next = IfSome next (λ table. is_among placed table ≡ false)

new_step : (placed : List TableId) (table : TableId) (among other : Bool) (rest : Option TableId) → is_among placed table ≡ among → IsNew placed rest → IsNew placed (cond (not among && other) (Some table) rest)
new_step placed table true other rest is later = later
new_step placed table false true rest is later = is
new_step placed table false false rest is later = later

found_new : (placed : List TableId) (test : TableId → Bool) (tables : List TableId) → IsNew placed (find (λ table. not (is_among placed table) && test table) tables)
found_new placed test [] = tt
found_new placed test (table ∷ tables) = new_step placed table (is_among placed table) (test table) (find (λ t. not (is_among placed t) && test t) tables) refl (found_new placed test tables)

one_or_other : (placed : List TableId) (one other : Option TableId) → IsNew placed one → IsNew placed other → IsNew placed (option_or one other)
one_or_other placed None other p q = q
one_or_other placed (Some table) other p q = p

next_new : (schema : Catalog) (placed : List TableId) → IsNew placed (next_table schema placed)
unfolding next_table
next_new schema placed =
    one_or_other placed (least_left schema placed (is_ready schema placed)) (least_left schema placed (λ table. true))
    (found_new placed (is_ready schema placed) (table_ids schema)) (found_new placed (λ table. true) (table_ids schema))

put_apart : (placed : List TableId) (next : Option TableId) → IsDistinct eqb (numbers_of placed) → IsNew placed next → IsDistinct eqb (numbers_of (placed ++ option_to_list next))
put_apart placed None apart new = subst (λ (tables : List TableId). IsDistinct eqb (numbers_of tables)) (sym (append-nil placed)) apart
put_apart placed (Some table) apart new =
    subst (IsDistinct eqb) (sym (map-append (λ (t : TableId). t.0) placed (table ∷ []))) (IsDistinct-push nat_eq_equiv (numbers_of placed) table.0 apart (numbers_among placed table.0 ∙ new))

none_apart : IsDistinct {K = ℕ} eqb []
unfolding IsDistinct
none_apart = tt

so_many_apart : (schema : Catalog) (n : ℕ) → IsDistinct eqb (numbers_of (first_tables schema n))
unfolding first_tables
so_many_apart schema zero = none_apart
so_many_apart schema (suc n) = put_apart (first_tables schema n) (next_table schema (first_tables schema n)) (so_many_apart schema n) (next_new schema (first_tables schema n))

order_apart : (schema : Catalog) → IsDistinct eqb (numbers_of (dependency_order schema))
unfolding dependency_order
order_apart schema = so_many_apart schema (length schema.tables)

-- ---- every declared table stands there

number_below : (schema : Catalog) (table : TableId) (q : ℕ) (same rest : Bool) → eqb q table.0 ≡ same → IsTable schema table → (same || rest) ≡ true → (rest ≡ true → q < length schema.tables) → q < length schema.tables
number_below schema table q true rest is declared any later = subst (λ (n : ℕ). n < length schema.tables) (sym (eqb-true q table.0 is)) declared
number_below schema table q false rest is declared any later = later any

numbers_below : (schema : Catalog) (tables : List TableId) → All (IsTable schema) tables → (q : ℕ) → list_any (eqb q) (numbers_of tables) ≡ true → q < length schema.tables
numbers_below schema [] all q any = cc
numbers_below schema (table ∷ tables) all q any =
    number_below schema table q (eqb q table.0) (list_any (eqb q) (numbers_of tables)) refl (All-head (IsTable schema) table tables all) any
    (numbers_below schema tables (All-tail (IsTable schema) table tables all) q)

-- one more would be too many
too_many : (schema : Catalog) (table : TableId) → IsTable schema table → is_among (dependency_order schema) table ≡ false → ⊥
too_many schema table declared missed =
    let order : List TableId = dependency_order schema in
    let apart : IsDistinct eqb (numbers_of (order ++ table ∷ [])) = put_apart order (Some table) (order_apart schema) missed in
    let all : All (IsTable schema) (order ++ table ∷ []) = All-append (IsTable schema) order (table ∷ []) (order_declared schema order refl) (All-cons (IsTable schema) table [] declared (All-nil (IsTable schema))) in
    let few : length (numbers_of (order ++ table ∷ [])) ≤ length schema.tables = length-le_from_distinct_below (numbers_of (order ++ table ∷ [])) (length schema.tables) apart (numbers_below schema (order ++ table ∷ []) all) in
    let many : length (numbers_of (order ++ table ∷ [])) ≡ length order + 1 = length-map (order ++ table ∷ []) (λ (t : TableId). t.0) ∙ length-append order (table ∷ []) in
    let whole : length order ≡ length schema.tables = (order_holds schema).whole in
    absurd (omega (arith, few, many, whole))

among_so : (schema : Catalog) (table : TableId) (among : Bool) → is_among (dependency_order schema) table ≡ among → IsTable schema table → among ≡ true
among_so schema table true is declared = refl
among_so schema table false is declared = absurd (too_many schema table declared is)

same_id : (x y : TableId) → (y.0 == x.0) ≡ true → x ≡ y
same_id x y is = ap (λ (n : ℕ). let table : TableId = record { 0 = n } in table) (sym (eqb-true y.0 x.0 is))

stands_there : (schema : Catalog) (table : TableId) → IsTable schema table → Contains (dependency_order schema) table
stands_there schema table declared =
    Contains-from_any {eq = λ (x y : TableId). y.0 == x.0} same_id table (dependency_order schema) (among_so schema table (is_among (dependency_order schema) table) refl declared)

-- ---- the opposite order

turned_within : (n k : ℕ) → k < n → n - 1 - k < n
turned_within n k less = omega (arith, less)

turned_back : (n k : ℕ) → k < n → n - 1 - (n - 1 - k) ≡ k
turned_back n k less = omega (arith, less)

turned : (order : List TableId) (table : TableId) → Contains order table → Contains (reverse order) table
turned order table has = (
  length order - 1 - has.0,
  subst (λ (n : ℕ). length order - 1 - has.0 < n) (sym (length-reverse order)) (turned_within (length order) has.0 has.1),
  get_or-reverse order (length order - 1 - has.0) table (turned_within (length order) has.0 has.1) ∙ ap (λ (n : ℕ). get_or order n table) (turned_back (length order) has.0 has.1) ∙ has.2,
)

pub turned_whole : (schema : Catalog) (table : TableId) → IsTable schema table → Contains (reverse (dependency_order schema)) table
turned_whole schema table declared = turned (dependency_order schema) table (stands_there schema table declared)
