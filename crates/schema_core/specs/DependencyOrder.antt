-- The order in which tables are created: each time the least declared table whose other targets are placed, and where none is ready the least one left.
use Rattle.std.specs.Prelude.{◌≡◌, ◌<◌, ℕ, zero, suc, Bool, true, false, not, ◌&&◌, ◌||◌, ◌==◌, List, [], ◌∷◌, ◌++◌, map, length, take, slice_get, Option, None, Some}
use Rattle.std.specs.List.{list_any, list_all, find, range_with_len}
use Rattle.std.specs.Option.{option_or, option_to_list}
use Rattle.base_core.specs.declared.ids.TableId.{TableId}
use Rattle.schema_core.specs.Catalog.{Catalog, spec_of, target_of}

-- the declared tables by number
abbrev pub table_ids : Catalog → List TableId
table_ids schema = map (λ number. record { 0 = number }) (range_with_len 0 (length schema.tables))

-- the table is one of these
abbrev pub is_among : List TableId → TableId → Bool
is_among placed table = list_any (λ other. other.0 == table.0) placed

abbrev pub is_settled : List TableId → TableId → Option TableId → Bool
is_settled placed table None = false
is_settled placed table (Some target) = (target.0 == table.0) || is_among placed target

-- the table's targets are placed, or the table itself
abbrev pub is_ready : Catalog → List TableId → TableId → Bool
is_ready schema placed table = list_all (λ foreign. is_settled placed table (target_of schema foreign)) (spec_of schema table).foreigns

-- the least table that is not placed and passes the test
abbrev pub least_left : Catalog → List TableId → (TableId → Bool) → Option TableId
least_left schema placed test = find (λ table. not (is_among placed table) && test table) (table_ids schema)

-- the table that comes after these
unfoldable pub next_table : Catalog → List TableId → Option TableId
next_table schema placed = option_or (least_left schema placed (is_ready schema placed)) (least_left schema placed (λ table. true))

-- these and the table that comes after them
abbrev pub and_next : Catalog → List TableId → List TableId
and_next schema placed = placed ++ option_to_list (next_table schema placed)

-- the first tables of the order, so many
unfoldable pub first_tables : Catalog → ℕ → List TableId
first_tables schema zero = []
first_tables schema (suc n) = and_next schema (first_tables schema n)

-- all declared tables in their order
unfoldable pub dependency_order : Catalog → List TableId
dependency_order schema = first_tables schema (length schema.tables)

-- the list has every declared table, and each is the one that comes after those before it
pub record IsDependencyOrder (schema : Catalog) (order : List TableId) : Type 0 where
  pub whole : length order ≡ length schema.tables
  pub next : (place : ℕ) → place < length order → next_table schema (take place order) ≡ slice_get order place
