-- The shape of a select's rows.
use Rattle.std.specs.Prelude.{◌≡◌, ℕ, zero, suc, Bool, true, false, not, ◌&&◌, List, [], ◌∷◌, length, map, slice_get, Option, Some, None, Ok}
use Rattle.std.specs.List.{AllByRecursion}
use Rattle.base_core.specs.declared.value.Kind.{Kind}
use Rattle.base_core.specs.declared.value.Value.{Value}
use Rattle.schema_core.specs.declared.table.ColumnSpec.{ColumnSpec}
use Rattle.schema_core.specs.Catalog.{Catalog, is_required, spec_of}
use Rattle.schema_core.specs.Tables.{is_legal_row, is_null}
use Rattle.schema_core.specs.WellFormed.{is_row}
use Rattle.expr_types.specs.declared.expr.Expr.{Expr}
use Rattle.expr_types.specs.declared.expr.Expr.TheOpen.{Expr-F}
use Rattle.expr_types.specs.declared.expr.Expr.TheFolds.{fold-Expr}
use Rattle.expr_types.specs.declared.select.Joined.{Joined}
use Rattle.expr_types.specs.declared.select.Select.{Select}
use Rattle.sql_semantics.specs.Kinds.{Scope, column_in, expression_kind}
use Rattle.sql_semantics.specs.Plain.{is_of_kind, sources_of}
use Rattle.sql_semantics.specs.Eval.{Row, Tables}

-- each row has one value for each item
abbrev pub AreWide : Select → List Row → Type 0
AreWide s rows = AllByRecursion (λ row. length row ≡ length s.items) rows

-- each row of each table has one value for each of the table's columns, NULL or of its kind
abbrev pub AreRows : Catalog → Tables → Type 0
AreRows schema tables = AllByRecursion (λ table. AllByRecursion (λ row. is_row (spec_of schema table.0) row ≡ true) table.1) tables

-- each row of each table is legal: a value is not NULL where its column takes none
abbrev pub AreLegalRows : Catalog → Tables → Type 0
AreLegalRows schema tables = AllByRecursion (λ table. AllByRecursion (λ row. is_legal_row (spec_of schema table.0) row ≡ true) table.1) tables

-- the tables of the sources
abbrev pub scope_of : Select → Scope
scope_of s = map (λ source. source.table) (sources_of s)

-- one value for each item, which has what is said of the item's values
abbrev pub EachItem : (Expr → Value → Type 0) → List (Expr × Option (List ℕ)) → Row → Type 0
EachItem P [] [] = Unit {0}
EachItem P (item ∷ items) (v ∷ row) = P item.0 v × EachItem P items row
EachItem P items row = ⊥

-- ---- kinds

-- a value is NULL or of the expression's kind
abbrev pub IsOfItsKind : Catalog → Scope → Expr → Value → Type 0
IsOfItsKind schema scope e v = (kind : Kind) → expression_kind schema e scope ≡ Ok kind → is_of_kind kind v ≡ true

-- each row of the select has one value for each item, NULL or of the item's kind
abbrev pub AreOfItems : Catalog → Select → List Row → Type 0
AreOfItems schema s rows = AllByRecursion (EachItem (IsOfItsKind schema (scope_of s)) s.items) rows

-- ---- NULL

-- the join is there, and no left one
abbrev pub is_inner_join : Option Joined → Bool
is_inner_join None = false
is_inner_join (Some join) = not join.left

-- the source at this place is the first, or one that is not left-joined
abbrev pub is_inner : Select → ℕ → Bool
is_inner s zero = true
is_inner s (suc place) = is_inner_join (slice_get s.joins place)

-- the column is there, and is NOT NULL or of the primary key
abbrev pub takes_no_null : Option ColumnSpec → Bool
takes_no_null None = false
takes_no_null (Some column) = is_required column

-- one level of an expression is such a column of such a source
abbrev pub is_required_level : {A : Type 0} → Catalog → Select → Expr-F A → Bool
is_required_level schema s (Expr-F.Column source column) = is_inner s source && takes_no_null (column_in schema (scope_of s) source column)
is_required_level schema s level = false

-- the expression is a column that takes no NULL, of a source that is not left-joined
unfoldable pub is_never_null : Catalog → Select → Expr → Bool
is_never_null schema s = fold-Expr Bool (is_required_level schema s)

-- a value is not NULL where the expression never is
abbrev pub IsGiven : Catalog → Select → Expr → Value → Type 0
IsGiven schema s e v = is_never_null schema s e ≡ true → is_null v ≡ false

-- each row of the select has one value for each item, not NULL where the item never is
abbrev pub AreGiven : Catalog → Select → List Row → Type 0
AreGiven schema s rows = AllByRecursion (EachItem (IsGiven schema s) s.items) rows
