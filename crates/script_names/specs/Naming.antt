-- Names of an expression as it is written: what it says in numbers, and the names that stand for nothing.
use Rattle.std.specs.Prelude.{ℕ, false, not, List, [], ◌∷◌, ◌++◌, length, map, Option, None, Some, Ok, Err}
use Rattle.std.specs.List.{flat_map}
use Rattle.base_core.specs.declared.ids.TableId.{TableId}
use Rattle.base_core.specs.declared.value.Value.TheVariants.{Null}
use Rattle.base_core.specs.declared.refusal.Refusal.{Refusal}
use Rattle.base_core.specs.declared.refusal.Refusal.TheVariants.{InvalidRequestError}
use Rattle.base_core.specs.declared.refusal.RequestKind.TheVariants.{Unknown, WrongKind}
use Rattle.schema_core.specs.Catalog.{Catalog, find_table}
use Rattle.expr_types.specs.declared.expr.Expr.{Expr}
use Rattle.expr_types.specs.declared.expr.Expr.TheVariants as expr
use Rattle.expr_types.specs.declared.expr.Origin.{Origin}
use Rattle.sql_semantics.specs.Plain.{takes}
use Rattle.script_types.specs.declared.expression.Syn.{Syn}
use Rattle.script_types.specs.declared.expression.Syn.TheOpen.{Syn-F}
use Rattle.script_types.specs.declared.expression.Syn.TheFolds.{fold-Syn}
use Rattle.script_types.specs.declared.expression.SynSource.{SynSource}
use Rattle.script_names.specs.Parts.{operands}
use Rattle.script_names.specs.Faults.{fault_if}
use Rattle.script_names.specs.Scopes.{PathMeaning, Scope, inner_scope, path_in, scope_below}

-- ---- faults

abbrev pub unknown_name : List ℕ → List Refusal
unknown_name name = InvalidRequestError (Unknown name) ∷ []

abbrev pub unknown_if_none : {A : Type 0} → List ℕ → Option A → List Refusal
unknown_if_none name None = unknown_name name
unknown_if_none name (Some a) = []

-- the table is to be declared
abbrev pub table_faults : Catalog → List ℕ → List Refusal
table_faults schema table = unknown_if_none table (find_table schema.tables table)

abbrev pub source_faults : Catalog → SynSource → List Refusal
source_faults schema source = table_faults schema source.table

abbrev pub path_faults : PathMeaning → List Refusal
path_faults (Ok place) = []
path_faults (Err name) = unknown_name name

-- what one level names before its operands
abbrev pub faults_before : {A : Type 0} → Catalog → Scope → Syn-F A → List Refusal
faults_before schema scope (Syn-F.Path source column) = path_faults (path_in schema scope source column)
faults_before schema scope (Syn-F.Exists source condition) = source_faults schema source
faults_before schema scope level = []

-- how many operands it has is known behind them
abbrev pub faults_behind : {A : Type 0} → Syn-F A → List Refusal
faults_behind (Syn-F.Call function arguments) = fault_if (not (takes function (length arguments))) WrongKind
faults_behind level = []

-- the faults of operands in one scope, in reading order
abbrev pub faults_in : Scope → List (Scope → List Refusal) → List Refusal
faults_in scope = flat_map (λ operand. operand scope)

abbrev pub name_faults_level : Catalog → Syn-F (Scope → List Refusal) → Scope → List Refusal
name_faults_level schema level scope =
    faults_before schema scope level ++ faults_in (scope_below scope level) (operands level) ++ faults_behind level

-- names that stand for nothing and wrong numbers of operands, in reading order
unfoldable pub name_faults : Catalog → Syn → Scope → List Refusal
name_faults schema = fold-Syn (Scope → List Refusal) (name_faults_level schema)

-- ---- what is said

-- a path that means nothing stands for NULL, which is no literal
abbrev pub column_or_null : PathMeaning → Expr
column_or_null (Ok place) = expr.Column place.0 place.1
column_or_null (Err name) = expr.Lit Null

-- a number that no table has
abbrev pub number_or_none : Catalog → Option TableId → TableId
number_or_none schema None = record { 0 = length schema.tables }
number_or_none schema (Some table) = table

-- the number of the table of a name
abbrev pub table_number : Catalog → List ℕ → TableId
table_number schema table = number_or_none schema (find_table schema.tables table)

-- a source with its table's number for the name
abbrev pub named_origin : Catalog → SynSource → Origin
named_origin schema source = record { table = table_number schema source.table; alias = source.alias }

-- what operands say in one scope
abbrev pub said_in : Scope → List (Scope → Expr) → List Expr
said_in scope = map (λ operand. operand scope)

-- one level, by what its operands say in each scope
abbrev pub named_level : Catalog → Syn-F (Scope → Expr) → Scope → Expr
named_level schema (Syn-F.Lit value) scope = expr.Lit value
named_level schema (Syn-F.Path source column) scope = column_or_null (path_in schema scope source column)
named_level schema Syn-F.CountAll scope = expr.CountAll
named_level schema (Syn-F.Call function arguments) scope = expr.Call function (said_in scope arguments)
named_level schema (Syn-F.Exists source condition) scope = expr.Exists false (named_origin schema source) (condition (inner_scope scope source))
named_level schema (Syn-F.Compare op a b) scope = expr.Compare op (a scope) (b scope)
named_level schema (Syn-F.IsNull negated a) scope = expr.IsNull negated (a scope)
named_level schema (Syn-F.Like negated a b) scope = expr.Like negated (a scope) (b scope)
named_level schema (Syn-F.Ilike negated a b) scope = expr.Ilike negated (a scope) (b scope)
named_level schema (Syn-F.InList negated a values) scope = expr.InList negated (a scope) values
named_level schema (Syn-F.Between negated a low high) scope = expr.Between negated (a scope) (low scope) (high scope)
named_level schema (Syn-F.Distinct negated a b) scope = expr.Distinct negated (a scope) (b scope)
named_level schema (Syn-F.And parts) scope = expr.And (said_in scope parts)
named_level schema (Syn-F.Or parts) scope = expr.Or (said_in scope parts)
named_level schema (Syn-F.Not a) scope = expr.Not (a scope)
named_level schema (Syn-F.Arith op a b) scope = expr.Arith op (a scope) (b scope)
named_level schema (Syn-F.Concat a b) scope = expr.Concat (a scope) (b scope)
named_level schema (Syn-F.Neg a) scope = expr.Neg (a scope)

-- the expression with numbers for its names
unfoldable pub named_expression : Catalog → Syn → Scope → Expr
named_expression schema = fold-Syn (Scope → Expr) (named_level schema)
