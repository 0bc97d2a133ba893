-- What an expression of a query for objects says, with numbers in the place of its names, or the first refusal in reading order.
use Rattle.std.specs.Prelude.{ℕ, false, List, [], ◌∷◌, length, map, Ok, if◌then◌else◌}
use Rattle.base_core.specs.declared.ids.TableId.{TableId}
use Rattle.schema_core.specs.Catalog.{Catalog, find_table}
use Rattle.expr_types.specs.declared.expr.Expr.{Expr}
use Rattle.expr_types.specs.declared.expr.Expr.TheVariants as expr
use Rattle.expr_types.specs.declared.expr.Func.{Func}
use Rattle.sql_semantics.specs.Checked.{Checked, ◌>>=◌}
use Rattle.sql_semantics.specs.Plain.{name_or, takes}
use Rattle.class_mapping.specs.Mapped.{Mapped}
use Rattle.script_types.specs.declared.expression.Syn.{Syn}
use Rattle.script_types.specs.declared.expression.Syn.TheOpen.{Syn-F}
use Rattle.script_types.specs.declared.expression.Syn.TheFolds.{fold-Syn}
use Rattle.script_types.specs.declared.expression.SynSource.{SynSource}
use Rattle.script_names.specs.Faults.{pair_or_refusal}
use Rattle.command_names.specs.Terms.{found_or_unknown, wrong_kind}
use Rattle.query_names.specs.declared.scope.QueryScope.{QueryScope}
use Rattle.query_names.specs.Scopes.{path_said, scope_within}

-- all answers in order, or the first refusal
abbrev pub in_order : {A : Type 0} → List (Checked A) → Checked (List A)
in_order [] = Ok []
in_order (answer ∷ answers) = answer >>= λ a. (in_order answers >>= λ more. Ok (a ∷ more))

-- what an operand says in each scope
abbrev pub Said : Type 0
Said = QueryScope → Checked Expr

-- ---- operands, in reading order

abbrev pub two : Said → Said → QueryScope → Checked (Expr × Expr)
two a b scope = pair_or_refusal (a scope) (b scope)

abbrev pub three : Said → Said → Said → QueryScope → Checked (Expr × (Expr × Expr))
three a b c scope = pair_or_refusal (a scope) (two b c scope)

abbrev pub all_of : List Said → QueryScope → Checked (List Expr)
all_of operands scope = in_order (map (λ operand. operand scope) operands)

-- ---- levels

-- how many operands a function takes is known behind them
abbrev pub called : Func → List Expr → Checked Expr
called function operands = if takes function (length operands) then Ok (expr.Call function operands) else wrong_kind

abbrev pub table_said : Catalog → List ℕ → Checked TableId
table_said schema name = found_or_unknown name (find_table schema.tables name)

-- a row of a source, whose table is read before the condition
abbrev pub exists_said : Catalog → SynSource → Said → QueryScope → Checked Expr
exists_said schema source condition scope =
    table_said schema source.table >>= λ table. (condition (scope_within scope (name_or source.table source.alias) table) >>= λ e.
    Ok (expr.Exists false (record { table = table; alias = source.alias }) e))

-- one level, by what its operands say in each scope
abbrev pub said_level : Mapped → Syn-F Said → QueryScope → Checked Expr
said_level mapped (Syn-F.Lit value) scope = Ok (expr.Lit value)
said_level mapped (Syn-F.Path owner name) scope = path_said mapped scope owner name
said_level mapped Syn-F.CountAll scope = Ok expr.CountAll
said_level mapped (Syn-F.Call function arguments) scope = all_of arguments scope >>= called function
said_level mapped (Syn-F.Exists source condition) scope = exists_said mapped.schema source condition scope
said_level mapped (Syn-F.Compare op a b) scope = two a b scope >>= λ it. Ok (expr.Compare op it.0 it.1)
said_level mapped (Syn-F.IsNull negated a) scope = a scope >>= λ e. Ok (expr.IsNull negated e)
said_level mapped (Syn-F.Like negated a b) scope = two a b scope >>= λ it. Ok (expr.Like negated it.0 it.1)
said_level mapped (Syn-F.Ilike negated a b) scope = two a b scope >>= λ it. Ok (expr.Ilike negated it.0 it.1)
said_level mapped (Syn-F.InList negated a values) scope = a scope >>= λ e. Ok (expr.InList negated e values)
said_level mapped (Syn-F.Between negated a low high) scope = three a low high scope >>= λ it. Ok (expr.Between negated it.0 it.1.0 it.1.1)
said_level mapped (Syn-F.Distinct negated a b) scope = two a b scope >>= λ it. Ok (expr.Distinct negated it.0 it.1)
said_level mapped (Syn-F.And parts) scope = all_of parts scope >>= λ es. Ok (expr.And es)
said_level mapped (Syn-F.Or parts) scope = all_of parts scope >>= λ es. Ok (expr.Or es)
said_level mapped (Syn-F.Not a) scope = a scope >>= λ e. Ok (expr.Not e)
said_level mapped (Syn-F.Arith op a b) scope = two a b scope >>= λ it. Ok (expr.Arith op it.0 it.1)
said_level mapped (Syn-F.Concat a b) scope = two a b scope >>= λ it. Ok (expr.Concat it.0 it.1)
said_level mapped (Syn-F.Neg a) scope = a scope >>= λ e. Ok (expr.Neg e)

-- the expression with numbers for its names, in the form in which it is written
unfoldable pub expression_said : Mapped → Syn → Said
expression_said mapped = fold-Syn Said (said_level mapped)
