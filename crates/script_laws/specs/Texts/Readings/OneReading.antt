-- A text with its values is one expression.
use Rattle.std.specs.Prelude.{◌≡◌, ℕ, List, map, IsTrue}
use Rattle.schema_core.specs.Catalog.{Catalog}
use Rattle.expr_types.specs.declared.expr.Expr.{Expr}
use Rattle.expr_types.specs.declared.expr.Origin.{Origin}
use Rattle.sql_semantics.specs.DistinctNames.{has_distinct_names}
use Rattle.sql_semantics.specs.Plain.{StandsIn, are_distinct, name_of}
use Rattle.base_core.specs.declared.dialect.Dialect.{Dialect}
use Rattle.script_laws.specs.Texts.Expressions.Read.{written_alone}

-- Two expressions that stand under the same sources, of which no two have one name, and that a dialect writes as one text with one list of values are one expression.
abbrev pub TextsTellExpressions : Type 0
TextsTellExpressions =
    (dialect : Dialect) (schema : Catalog) (sources : List Origin) (base other_base : List ℕ) (e other : Expr) → IsTrue (has_distinct_names schema) → IsTrue (are_distinct (map (name_of schema) sources))
    → StandsIn schema sources e → StandsIn schema sources other → (written_alone dialect schema sources base e).text ≡ (written_alone dialect schema sources other_base other).text
    → (written_alone dialect schema sources base e).values ≡ (written_alone dialect schema sources other_base other).values → e ≡ other
