-- What is asked of an expression in its scope, as truth values.
use Rattle.std.specs.Prelude.{ℕ, Bool, nat_lt, List, [], ◌∷◌, length}
use Rattle.std.specs.List.{list_any}
use Rattle.base_core.specs.declared.ids.TableId.{TableId}
use Rattle.base_core.specs.declared.ids.ColumnNo.{ColumnNo}
use Rattle.base_core.specs.declared.value.Value.{Value}
use Rattle.schema_core.specs.Catalog.{Catalog}
use Rattle.expr_types.specs.declared.expr.Expr.{Expr, out-Expr}
use Rattle.expr_types.specs.declared.expr.Expr.TheFolds.{map-Expr}
use Rattle.expr_types.specs.Same.{same}
use Rattle.sql_semantics.specs.Kinds.{column_in}
use Rattle.sql_semantics.specs.Plain.{Found, has_kind, is_well_grouped, is_well_grouped_level}

-- ---- tables and columns

abbrev pub is_known : Catalog → TableId → Bool
is_known schema table = nat_lt table.0 (length schema.tables)

abbrev pub is_for : Catalog → TableId → ColumnNo → Value → Bool
is_for schema table column v = has_kind (column_in schema (table ∷ []) 0 column) v

-- ---- aggregates and groups

abbrev pub occurs_in : List Expr → Expr → Bool
occurs_in groups e = list_any (λ g. same g e) groups

abbrev pub found_in : Bool → List Expr → ℕ → Expr → Found
found_in grouped groups own e = (e, is_well_grouped grouped groups own e)

-- what is asked of an expression that is no group expression
abbrev pub settled_inside : Bool → List Expr → ℕ → Expr → Bool
settled_inside grouped groups own e = is_well_grouped_level grouped own (map-Expr Expr Found (found_in grouped groups own) (out-Expr e))
