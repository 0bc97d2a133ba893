-- The tables of either order are declared.
use Rattle.std.proofs.Common.{◌≡◌, ◌-◌, ◌<◌, ℕ, zero, suc, Bool, true, false, cond, List, [], ◌∷◌, ◌++◌, length, Option, None, Some, IfSome, refl, sym, subst, arith}
use Rattle.std.proofs.lemmas.List.{get_or-reverse, length-reverse}
use Rattle.std.proofs.lemmas.List.Elements.{All-append, All-cons, All-head, All-nil, All-tail}
use Rattle.std.proofs.lemmas.List.FromFn.{get_or-map-range_with_len, length-map-range_with_len}
use Rattle.std.specs.Prelude.{reverse}
use Rattle.std.specs.List.{All, find}
use Rattle.std.specs.Option.{option_or, option_to_list}
use Rattle.base_core.specs.declared.ids.TableId.{TableId}
use Rattle.schema_core.specs.Catalog.{Catalog, IsTable}
use Rattle.schema_core.specs.DependencyOrder.{dependency_order, first_tables, is_ready, least_left, next_table, table_ids}

-- ---- the order of dependencies

abbrev AreTables : Catalog → List TableId → Type 0
AreTables schema tables = All (IsTable schema) tables

-- the table, if there is one, is declared
abbrev MayBeTable : Catalog → Option TableId → Type 0
MayBeTable schema found = IfSome found (IsTable schema)

all_ids : (schema : Catalog) → AreTables schema (table_ids schema)
all_ids schema k d less =
    let n = length schema.tables in
    let within : k < n = subst (λ (m : ℕ). k < m) (length-map-range_with_len (λ (number : ℕ). record { 0 = number }) 0 n) less in
    subst (IsTable schema) (sym (get_or-map-range_with_len (λ (number : ℕ). record { 0 = number }) 0 n k k d within (omega arith))) within

first_or_rest : (schema : Catalog) (is_first : Bool) (table : TableId) (rest : Option TableId) → IsTable schema table → MayBeTable schema rest → MayBeTable schema (cond is_first (Some table) rest)
first_or_rest schema true table rest declared others = declared
first_or_rest schema false table rest declared others = others

found_table : (schema : Catalog) (test : TableId → Bool) (tables : List TableId) → AreTables schema tables → MayBeTable schema (find test tables)
found_table schema test [] all = tt
found_table schema test (table ∷ tables) all =
    first_or_rest schema (test table) table (find test tables) (All-head (IsTable schema) table tables all) (found_table schema test tables (All-tail (IsTable schema) table tables all))

one_or_other : (schema : Catalog) (one other : Option TableId) → MayBeTable schema one → MayBeTable schema other → MayBeTable schema (option_or one other)
one_or_other schema None other p q = q
one_or_other schema (Some table) other p q = p

after_tables : (schema : Catalog) (placed : List TableId) → MayBeTable schema (next_table schema placed)
unfolding next_table
after_tables schema placed =
    one_or_other schema (least_left schema placed (is_ready schema placed)) (least_left schema placed (λ table. true)) (found_table schema _ (table_ids schema) (all_ids schema)) (found_table schema _ (table_ids schema) (all_ids schema))

placed_next : (schema : Catalog) (placed : List TableId) (next : Option TableId) → AreTables schema placed → MayBeTable schema next → AreTables schema (placed ++ option_to_list next)
placed_next schema placed None all none = All-append (IsTable schema) placed [] all (All-nil (IsTable schema))
placed_next schema placed (Some table) all declared = All-append (IsTable schema) placed (table ∷ []) all (All-cons (IsTable schema) table [] declared (All-nil (IsTable schema)))

so_many : (schema : Catalog) (n : ℕ) → AreTables schema (first_tables schema n)
unfolding first_tables
so_many schema zero = All-nil (IsTable schema)
so_many schema (suc n) = placed_next schema (first_tables schema n) (next_table schema (first_tables schema n)) (so_many schema n) (after_tables schema (first_tables schema n))

pub order_declared : (schema : Catalog) (order : List TableId) → order ≡ dependency_order schema → All (IsTable schema) order
unfolding dependency_order
order_declared schema order is = subst (AreTables schema) (sym is) (so_many schema (length schema.tables))

-- ---- the opposite order

all_turned : (schema : Catalog) (order : List TableId) → AreTables schema order → AreTables schema (reverse order)
all_turned schema order all k d less =
    let within : k < length order = omega (arith, less, length-reverse order) in
    subst (IsTable schema) (sym (get_or-reverse order k d within)) (all (length order - 1 - k) d (omega arith))

pub turned_declared : (schema : Catalog) (order : List TableId) → order ≡ reverse (dependency_order schema) → All (IsTable schema) order
turned_declared schema order is = subst (AreTables schema) (sym is) (all_turned schema (dependency_order schema) (order_declared schema (dependency_order schema) refl))

pub ruleset orders = (order_declared, turned_declared)
