-- Conditions over columns of sources, as lists of which all hold.
use Rattle.std.specs.Prelude.{false, ◌==◌, List, [], ◌∷◌, length, map, slice_get, Option, None, Some, if◌then◌else◌}
use Rattle.std.specs.List.{flat_map, zip}
use Rattle.base_core.specs.declared.value.Value.{Value}
use Rattle.schema_core.specs.Tables.{value_or_null}
use Rattle.expr_types.specs.declared.expr.Expr.{Expr}
use Rattle.expr_types.specs.declared.expr.Expr.TheVariants as expr
use Rattle.expr_types.specs.declared.expr.CompareOp.TheVariants.{Equal}
use Rattle.load_columns.specs.declared.placing.SourceColumn.{SourceColumn}

abbrev pub column_of : SourceColumn → Expr
column_of column = expr.Column column.source column.column

-- two columns are equal
abbrev pub equal_column : SourceColumn → SourceColumn → Expr
equal_column one other = expr.Compare Equal (column_of one) (column_of other)

-- a column holds a value
abbrev pub has_value : SourceColumn → Value → Expr
has_value column value = expr.Compare Equal (column_of column) (expr.Lit value)

-- a column is in a list
abbrev pub is_in : SourceColumn → List Value → Expr
is_in column values = expr.InList false (column_of column) values

-- no condition, the one, or all of them
abbrev pub all_of : List Expr → Option Expr
all_of [] = None
all_of (e ∷ []) = Some e
all_of (e ∷ f ∷ es) = Some (expr.And (e ∷ f ∷ es))

abbrev pub or_empty : Option Expr → Expr
or_empty None = expr.And []
or_empty (Some e) = e

-- the one, or all of them
abbrev pub conjoined : List Expr → Expr
conjoined es = or_empty (all_of es)

-- columns equal others, one by one
abbrev pub equal_columns : List SourceColumn → List SourceColumn → List Expr
equal_columns columns others = map (λ pair. equal_column pair.0 pair.1) (zip columns others)

-- columns hold a key
abbrev pub has_values : List SourceColumn → List Value → List Expr
has_values columns values = map (λ pair. has_value pair.0 pair.1) (zip columns values)

abbrev pub first_value : List Value → Value
first_value values = value_or_null (slice_get values 0)

-- each column holds the first value of one of the keys
abbrev pub holds_first : List (List Value) → SourceColumn → Expr
holds_first keys column = is_in column (map first_value keys)

abbrev pub has_key : List SourceColumn → List Value → Expr
has_key columns key = expr.And (has_values columns key)

abbrev pub has_some_key : List SourceColumn → List (List Value) → List Expr
has_some_key columns keys = expr.Or (map (has_key columns) keys) ∷ []

-- Columns hold one of these keys: one column is in a list, the one key is that of several columns, or of several keys of several
-- columns one is.
abbrev pub has_one_of : List SourceColumn → List (List Value) → List Expr
has_one_of columns keys =
    if length columns == 1 then map (holds_first keys) columns
    else if length keys == 1 then flat_map (has_values columns) keys
    else has_some_key columns keys
