-- The names that sources have, and an alias that none of them has.
use Rattle.std.specs.Prelude.{ℕ, ◌+◌, ◌++◌, Bool, not, List, [], ◌∷◌, length, map, find, decimal, unwrap_or, Option, None, Some}
use Rattle.std.specs.List.{flat_map, range_with_len}
use Rattle.schema_core.specs.Catalog.{Catalog, has_name}
use Rattle.expr_types.specs.declared.expr.Expr.{Expr}
use Rattle.expr_types.specs.declared.expr.Expr.TheOpen.{Expr-F}
use Rattle.expr_types.specs.declared.expr.Expr.TheFolds.{fold-Expr}
use Rattle.expr_types.specs.declared.select.Select.{Select}
use Rattle.expr_types.specs.Level.{operands}
use Rattle.sql_semantics.specs.Plain.{name_of, sources_of}

abbrev pub own_names : {A : Type 0} → Catalog → Expr-F A → List (List ℕ)
own_names schema (Expr-F.Exists negated origin condition) = name_of schema origin ∷ []
own_names schema level = []

abbrev pub names_at : Catalog → Expr-F (List (List ℕ)) → List (List ℕ)
names_at schema level = own_names schema level ++ flat_map (λ names. names) (operands level)

-- the names of the sources of each `exists`, from the outermost on
unfoldable pub exists_names : Catalog → Expr → List (List ℕ)
exists_names schema = fold-Expr (List (List ℕ)) (names_at schema)

abbrev pub filter_names : Catalog → Option Expr → List (List ℕ)
filter_names schema None = []
filter_names schema (Some e) = exists_names schema e

-- the names that an alias can not be: of a table, of a source, of a source of an `exists`
abbrev pub taken_names : Catalog → Select → List (List ℕ)
taken_names schema s =
    map (λ table. table.name) schema.tables ++ (map (name_of schema) (sources_of s) ++ (filter_names schema s.filter ++ flat_map (λ key. exists_names schema key.0) s.order))

-- the name of a table, an underscore, and a number
abbrev pub alias_of : List ℕ → ℕ → List ℕ
alias_of name number = name ++ 95 ∷ decimal number

abbrev pub is_free : List (List ℕ) → List ℕ → ℕ → Bool
is_free taken name number = not (has_name taken (alias_of name number))

-- the alias with the least number from 1 on that is not taken: where each number up to that of the names is, the one behind
abbrev pub free_alias : List (List ℕ) → List ℕ → List ℕ
free_alias taken name = alias_of name (unwrap_or (find (is_free taken name) (range_with_len 1 (length taken))) (length taken + 1))
