-- Which refusals a select may meet.
use Rattle.std.specs.Prelude.{◌==◌, Bool, false, ◌||◌, Option, None, Some, IsTrue}
use Rattle.std.specs.List.{list_any}
use Rattle.base_core.specs.declared.refusal.Refusal.{Refusal}
use Rattle.base_core.specs.declared.refusal.Refusal.TheVariants.{Memory, DataError, OperationalError}
use Rattle.schema_core.specs.Catalog.{Catalog, IsTable}
use Rattle.expr_types.specs.declared.expr.Expr.{Expr}
use Rattle.expr_types.specs.declared.select.Select.{Select}
use Rattle.sql_semantics.specs.Arithmetic.{has_arithmetic}
use Rattle.sql_semantics.specs.Rows.{tables_of}

abbrev pub calculates_where : Option Expr → Bool
calculates_where None = false
calculates_where (Some e) = has_arithmetic e

-- one of the expressions of the select's text calculates
abbrev pub calculates : Select → Bool
calculates s =
    list_any (λ item. has_arithmetic item.0) s.items || list_any (λ j. has_arithmetic j.on) s.joins || calculates_where s.filter
    || list_any has_arithmetic s.groups || calculates_where s.having || list_any (λ key. has_arithmetic key.0) s.order

-- a table of the select's text, a result outside 64 bits where it calculates, or memory that ran out
abbrev pub CanRefuse : Select → Refusal → Type 0
CanRefuse s (OperationalError table) = IsTrue (list_any (λ t. t == table.0) (tables_of s))
CanRefuse s (DataError op a b) = IsTrue (calculates s)
CanRefuse s Memory = Unit {0}
CanRefuse s e = ⊥

-- a table that is refused is declared
abbrev pub IsOfDeclared : Catalog → Refusal → Type 0
IsOfDeclared schema (OperationalError table) = IsTable schema table
IsOfDeclared schema e = Unit {0}
