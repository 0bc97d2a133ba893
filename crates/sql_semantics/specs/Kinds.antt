-- The kind of an expression in a scope, or the first operand in reading order that is of another kind than its place wants.
use Rattle.std.specs.Prelude.{ℕ, List, [], ◌∷◌, ◌++◌, map, slice_get, Option, Some, None, Result, Ok, Err, if◌then◌else◌}
use Rattle.std.specs.Option.{option_and_then}
use Rattle.base_core.specs.declared.ids.TableId.{TableId}
use Rattle.base_core.specs.declared.ids.ColumnNo.{ColumnNo}
use Rattle.base_core.specs.declared.value.Value.{Value}
use Rattle.base_core.specs.declared.value.Value.TheVariants as value
use Rattle.base_core.specs.declared.value.Kind.{Kind}
use Rattle.base_core.specs.declared.value.Kind.TheVariants.{Integer, Text, Boolean, Bytes}
use Rattle.base_core.specs.declared.refusal.Refusal.{Refusal}
use Rattle.base_core.specs.declared.refusal.Refusal.TheVariants.{TypeMismatch}
use Rattle.schema_core.specs.declared.table.ColumnSpec.{ColumnSpec}
use Rattle.schema_core.specs.Catalog.{Catalog, kind_of, same_kind, spec_of}
use Rattle.expr_types.specs.declared.expr.Expr.{Expr}
use Rattle.expr_types.specs.declared.expr.Expr.TheOpen.{Expr-F}
use Rattle.expr_types.specs.declared.expr.Expr.TheFolds.{fold-Expr}
use Rattle.expr_types.specs.declared.expr.Func.{Func}
use Rattle.expr_types.specs.declared.expr.Func.TheVariants.{Count, Sum, Min, Max, Lower, Upper, Length, Coalesce}

-- a kind, or the first mismatch
abbrev pub Judged : Type 0
Judged = Result Kind Refusal

-- the tables of the sources in scope, the innermost last
abbrev pub Scope : Type 0
Scope = List TableId

-- what the first judgement finds goes on to the next, a mismatch ends both
abbrev pub then_judge : Judged → (Kind → Judged) → Judged
then_judge (Ok kind) next = next kind
then_judge (Err mismatch) next = Err mismatch

abbrev pub kind_or_mismatch : Kind → Kind → Judged
kind_or_mismatch wanted found = if same_kind found wanted then Ok wanted else Err (TypeMismatch wanted found)

-- each operand is of the kind wanted, from left to right
abbrev pub all_of : Kind → List Judged → Judged
all_of wanted [] = Ok wanted
all_of wanted (operand ∷ operands) = then_judge operand (λ found. then_judge (kind_or_mismatch wanted found) (λ kind. all_of wanted operands))

-- each operand is of the first one's kind
abbrev pub all_alike : List Judged → Judged
all_alike [] = Ok Integer
all_alike (first ∷ operands) = then_judge first (λ kind. all_of kind operands)

-- the kind of what has fitting operands
abbrev pub gives : Kind → Judged → Judged
gives kind operands = then_judge operands (λ found. Ok kind)

-- the kind of a value other than NULL
abbrev pub value_kind : Value → Kind
value_kind value.Null = Integer
value_kind (value.Bool b) = Boolean
value_kind (value.Int n) = Integer
value_kind (value.Text t) = Text
value_kind (value.Bytes b) = Bytes

-- the declaration of a source's column
abbrev pub column_in : Catalog → Scope → ℕ → ColumnNo → Option ColumnSpec
column_in schema scope source column = option_and_then (λ table. slice_get (spec_of schema table).columns column.0) (slice_get scope source)

abbrev pub kind_where : Option ColumnSpec → Kind
kind_where (Some column) = kind_of column.kind
kind_where None = Integer

-- the kind of a source's column
abbrev pub column_kind : Catalog → Scope → ℕ → ColumnNo → Kind
column_kind schema scope source column = kind_where (column_in schema scope source column)

-- the kind of a function's value, by its operands
abbrev pub call_kind : Func → List Judged → Judged
call_kind Count operands = gives Integer (all_alike operands)
call_kind Sum operands = all_of Integer operands
call_kind Min operands = all_alike operands
call_kind Max operands = all_alike operands
call_kind Lower operands = all_of Text operands
call_kind Upper operands = all_of Text operands
call_kind Length operands = gives Integer (all_of Text operands)
call_kind Coalesce operands = all_alike operands

-- the judgements of the operands in one scope
abbrev pub in_scope : Scope → List (Scope → Judged) → List Judged
in_scope scope = map (λ operand. operand scope)

-- one level of an expression, by the judgements of its operands
abbrev pub judged_level : Catalog → Expr-F (Scope → Judged) → Scope → Judged
judged_level schema (Expr-F.Column source column) scope = Ok (column_kind schema scope source column)
judged_level schema (Expr-F.Lit v) scope = Ok (value_kind v)
judged_level schema (Expr-F.Compare op a b) scope = gives Boolean (all_alike (a scope ∷ b scope ∷ []))
judged_level schema (Expr-F.IsNull negated a) scope = gives Boolean (a scope)
judged_level schema (Expr-F.And parts) scope = all_of Boolean (in_scope scope parts)
judged_level schema (Expr-F.Or parts) scope = all_of Boolean (in_scope scope parts)
judged_level schema (Expr-F.Not a) scope = all_of Boolean (a scope ∷ [])
judged_level schema (Expr-F.Arith op a b) scope = all_of Integer (a scope ∷ b scope ∷ [])
judged_level schema (Expr-F.Neg a) scope = all_of Integer (a scope ∷ [])
judged_level schema (Expr-F.Concat a b) scope = all_of Text (a scope ∷ b scope ∷ [])
judged_level schema (Expr-F.Like negated a b) scope = gives Boolean (all_of Text (a scope ∷ b scope ∷ []))
judged_level schema (Expr-F.Ilike negated a b) scope = gives Boolean (all_of Text (a scope ∷ b scope ∷ []))
judged_level schema (Expr-F.InList negated a values) scope = gives Boolean (all_alike (a scope ∷ map (λ v. Ok (value_kind v)) values))
judged_level schema (Expr-F.Between negated a low high) scope = gives Boolean (all_alike (a scope ∷ low scope ∷ high scope ∷ []))
judged_level schema (Expr-F.Distinct negated a b) scope = gives Boolean (all_alike (a scope ∷ b scope ∷ []))
judged_level schema (Expr-F.Call function operands) scope = call_kind function (in_scope scope operands)
judged_level schema Expr-F.CountAll scope = Ok Integer
judged_level schema (Expr-F.Exists negated origin condition) scope = all_of Boolean (condition (scope ++ origin.table ∷ []) ∷ [])

-- the kind of an expression in a scope, or its first mismatch
unfoldable pub expression_kind : Catalog → Expr → Scope → Judged
expression_kind schema = fold-Expr (Scope → Judged) (judged_level schema)
