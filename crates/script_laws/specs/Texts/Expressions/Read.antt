-- The text of an expression is read as its tree.
use Rattle.std.specs.Prelude.{◌≡◌, ℕ, List}
use Rattle.schema_core.specs.Catalog.{Catalog}
use Rattle.expr_types.specs.declared.expr.Expr.{Expr}
use Rattle.expr_types.specs.declared.expr.Origin.{Origin}
use Rattle.sql_semantics.specs.Plain.{StandsIn}
use Rattle.base_core.specs.declared.dialect.Dialect.{Dialect}
use Rattle.sql_text.specs.Written.{Written, nothing_written, put_all}
use Rattle.sql_expressions.specs.Laid.{laid}
use Rattle.script_laws.specs.Texts.Grammar.Reads.{Reads, Either}
use Rattle.script_laws.specs.Texts.Expressions.Tree.{tree}

-- an expression by itself, with this base name for a literal that stands alone
abbrev pub written_alone : Dialect → Catalog → List Origin → List ℕ → Expr → Written
written_alone dialect schema sources base e = put_all (nothing_written dialect) ((laid dialect schema e).pieces sources base)

-- The text and the values of an expression that stands under some sources are read as its tree.
abbrev pub ExpressionsAreRead : Type 0
ExpressionsAreRead = (dialect : Dialect) (schema : Catalog) (sources : List Origin) (base : List ℕ) (e : Expr) → StandsIn schema sources e
    → Reads dialect Either (written_alone dialect schema sources base e).text (written_alone dialect schema sources base e).values (tree dialect schema e sources)

-- Two expressions that a dialect writes as one text with one list of values have one tree, each under its own sources.
abbrev pub TextsTellTrees : Type 0
TextsTellTrees =
    (dialect : Dialect) (schema other_schema : Catalog) (sources other_sources : List Origin) (base other_base : List ℕ) (e other : Expr) → StandsIn schema sources e → StandsIn other_schema other_sources other
    → (written_alone dialect schema sources base e).text ≡ (written_alone dialect other_schema other_sources other_base other).text
    → (written_alone dialect schema sources base e).values ≡ (written_alone dialect other_schema other_sources other_base other).values → tree dialect schema e sources ≡ tree dialect other_schema other other_sources
