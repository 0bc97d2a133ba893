-- What is tested of a statement, as truth values. That they are the conditions on a plain statement is proved of the public functions.
use Rattle.std.specs.Prelude.{ℕ, Bool, true, false, not, ◌&&◌, ◌||◌, ◌==◌, nat_lt, List, [], ◌∷◌, ◌++◌, map, length, Option, Some, None, is_some, is_ok, Ok, Err}
use Rattle.std.specs.List.{list_all, list_any}
use Rattle.std.specs.Cmp.Lexicographic.{pointwise}
use Rattle.base_core.specs.declared.ids.TableId.{TableId}
use Rattle.base_core.specs.declared.ids.ColumnNo.{ColumnNo}
use Rattle.base_core.specs.declared.value.Kind.{Kind}
use Rattle.base_core.specs.declared.value.Kind.TheVariants.{Boolean}
use Rattle.schema_core.specs.declared.table.ColumnSpec.{ColumnSpec}
use Rattle.schema_core.specs.Catalog.{Catalog, kind_of, same_kind}
use Rattle.schema_core.specs.Declaration.{some_two}
use Rattle.expr_scopes.specs.Scopes.{is_for, is_known}
use Rattle.expr_types.specs.declared.expr.Expr.{Expr}
use Rattle.expr_types.specs.declared.expr.Origin.{Origin}
use Rattle.expr_types.specs.declared.select.Joined.{Joined}
use Rattle.expr_types.specs.declared.select.Select.{Select}
use Rattle.expr_types.specs.declared.select.Bulk.{Bulk}
use Rattle.expr_types.specs.declared.select.Bulk.TheVariants as bulk
use Rattle.expr_types.specs.Level.{has_aggregate}
use Rattle.expr_types.specs.Normal.{normal}
use Rattle.expr_types.specs.Same.{same}
use Rattle.sql_semantics.specs.Kinds.{Judged, Scope, column_in, expression_kind}
use Rattle.sql_semantics.specs.Plain.{are_distinct, fits, has_full_lists, is_free_column, is_limit, lacks_aggregate, name_of, names_apart, is_well_grouped, sources_of}

-- ---- expressions

-- the sources around an expression: their tables, and their names
abbrev pub tables_of : List Origin → Scope
tables_of = map (λ origin. origin.table)

abbrev pub names_of : Catalog → List Origin → List (List ℕ)
names_of schema = map (name_of schema)

abbrev pub is_normal : Expr → Bool
is_normal e = same (normal e) e

-- the kind of an expression without a mismatch
abbrev pub kind_told : Judged → Option Kind
kind_told (Ok kind) = Some kind
kind_told (Err mismatch) = None

-- an expression under these sources, whatever its kind
abbrev pub is_placed : Catalog → Scope → List (List ℕ) → Expr → Bool
is_placed schema scope names e = fits schema e scope && names_apart schema e names && has_full_lists e && is_normal e

abbrev pub is_of : Kind → Judged → Bool
is_of kind (Ok found) = same_kind found kind
is_of kind (Err mismatch) = false

abbrev pub stands : Catalog → Scope → List (List ℕ) → Expr → Bool
stands schema scope names e = is_placed schema scope names e && is_ok (expression_kind schema e scope)

-- an expression of a kind
abbrev pub stands_as : Catalog → Scope → List (List ℕ) → Kind → Expr → Bool
stands_as schema scope names kind e = is_placed schema scope names e && is_of kind (expression_kind schema e scope)

abbrev pub is_condition : Catalog → Scope → List (List ℕ) → Expr → Bool
is_condition schema scope names e = stands_as schema scope names Boolean e

abbrev pub is_filter : Catalog → Scope → List (List ℕ) → Expr → Bool
is_filter schema scope names e = is_condition schema scope names e && lacks_aggregate e

abbrev pub if_set : (Expr → Bool) → Option Expr → Bool
if_set test (Some e) = test e
if_set test None = true

-- ---- selects

abbrev pub are_joined : Catalog → Scope → List (List ℕ) → List Joined → Bool
are_joined schema scope names [] = true
are_joined schema scope names (join ∷ joins) =
    is_filter schema (scope ++ join.origin.table ∷ []) (names ++ name_of schema join.origin ∷ []) join.on
    && are_joined schema (scope ++ join.origin.table ∷ []) (names ++ name_of schema join.origin ∷ []) joins

abbrev pub are_items : Catalog → Scope → List (List ℕ) → List (Expr × Option (List ℕ)) → Bool
are_items schema scope names items = list_all (λ item. stands schema scope names item.0) items

abbrev pub are_keys : Catalog → Scope → List (List ℕ) → List (Expr × Bool) → Bool
are_keys schema scope names keys = list_all (λ key. stands schema scope names key.0) keys

abbrev pub is_group : Catalog → Scope → List (List ℕ) → Expr → Bool
is_group schema scope names e = stands schema scope names e && lacks_aggregate e

-- the parts of a select under its sources
abbrev pub are_placed : Catalog → Scope → List (List ℕ) → Select → Bool
are_placed schema scope names s =
    if_set (is_filter schema scope names) s.filter && if_set (is_condition schema scope names) s.having && are_items schema scope names s.items
    && list_all (is_group schema scope names) s.groups && are_keys schema scope names s.order

-- the query has one row for each group
abbrev pub groups_rows : Select → Bool
groups_rows s =
    nat_lt 0 (length s.groups) || is_some s.having || list_any (λ item. has_aggregate item.0) s.items || list_any (λ key. has_aggregate key.0) s.order

-- what is evaluated for each row or group is settled
abbrev pub are_settled : Bool → List Expr → ℕ → Select → Bool
are_settled grouped groups own s =
    if_set (is_well_grouped grouped groups own) s.having && list_all (λ item. is_well_grouped grouped groups own item.0) s.items && list_all (λ key. is_well_grouped grouped groups own key.0) s.order

-- sources that are declared, each under a name of its own
abbrev pub are_sources : Catalog → Scope → List (List ℕ) → Bool
are_sources schema scope names = list_all (is_known schema) scope && are_distinct names

abbrev pub plain_under : Catalog → Scope → List (List ℕ) → Select → Bool
plain_under schema scope names s =
    are_sources schema scope names && are_settled (groups_rows s) s.groups (length scope) s && are_placed schema scope names s

abbrev pub plain_select : Catalog → Select → Bool
plain_select schema s =
    is_limit s.limit && is_limit s.offset && plain_under schema (tables_of (sources_of s)) (names_of schema (sources_of s)) s
    && are_joined schema (s.first.table ∷ []) (name_of schema s.first ∷ []) s.joins

-- ---- bulk statements

-- the names around an expression of a bulk statement
abbrev pub names_alone : Catalog → TableId → List (List ℕ)
names_alone schema table = name_of schema (record { table = table; alias = None }) ∷ []

abbrev pub stands_at : Catalog → Scope → List (List ℕ) → Option ColumnSpec → Expr → Bool
stands_at schema scope names (Some column) e = stands_as schema scope names (kind_of column.kind) e
stands_at schema scope names None e = false

-- an expression that is written into a column
abbrev pub is_written : Catalog → TableId → List (List ℕ) → ColumnNo → Expr → Bool
is_written schema table names column e = stands_at schema (table ∷ []) names (column_in schema (table ∷ []) 0 column) e && lacks_aggregate e

abbrev pub is_cell : Catalog → TableId → List (List ℕ) → (ColumnNo × Option Expr) → Bool
is_cell schema table names cell = if_set (is_written schema table names cell.0) cell.1

abbrev pub is_bulk_filter : Catalog → TableId → Option Expr → Bool
is_bulk_filter schema table filter = if_set (is_filter schema (table ∷ []) (names_alone schema table)) filter

abbrev pub fitting_update : Catalog → TableId → List (ColumnNo × Option Expr) → Option Expr → Bool
fitting_update schema table cells filter =
    list_all (λ cell. is_some (column_in schema (table ∷ []) 0 cell.0)) cells && list_all (is_cell schema table (names_alone schema table)) cells && is_bulk_filter schema table filter

-- a bulk statement whose parts fit its table
abbrev pub fitting_bulk : Catalog → Bulk → Bool
fitting_bulk schema (bulk.Insert table columns values) = is_known schema table && pointwise (is_for schema table) columns values
fitting_bulk schema (bulk.Update table cells filter) = is_known schema table && fitting_update schema table cells filter
fitting_bulk schema (bulk.Delete table filter) = is_known schema table && is_bulk_filter schema table filter

-- what a keeper asks of it beside: no column is named twice, and an UPDATE spares the key
abbrev pub sparing_bulk : Catalog → Bulk → Bool
sparing_bulk schema (bulk.Insert table columns values) = not (some_two (λ other column. other.0 == column.0) columns)
sparing_bulk schema (bulk.Update table cells filter) =
    not (some_two (λ other cell. other.0.0 == cell.0.0) cells) && list_all (λ cell. is_free_column schema table cell.0) cells
sparing_bulk schema (bulk.Delete table filter) = true
