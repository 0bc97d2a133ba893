-- Which classes and sources are in scope at a place of a query for objects, and which column a path means there.
use Rattle.std.specs.Prelude.{ℕ, ◌+◌, List, ◌∷◌, Option, None, Some, Ok}
use Rattle.std.specs.List.{All, find}
use Rattle.base_core.specs.declared.ids.AttrNo.{AttrNo}
use Rattle.base_core.specs.declared.ids.TableId.{TableId}
use Rattle.schema_core.specs.Catalog.{Catalog, IsTable, same_name, spec_of}
use Rattle.expr_types.specs.declared.expr.Expr.{Expr}
use Rattle.expr_types.specs.declared.expr.Expr.TheVariants as expr
use Rattle.sql_semantics.specs.Checked.{Checked, ◌>>=◌}
use Rattle.class_mapping.specs.Mapped.{IsClass, Mapped, attribute_of, class_spec}
use Rattle.load_columns.specs.Conditions.{column_of}
use Rattle.load_columns.specs.Placing.{attribute_column}
use Rattle.script_names.specs.Scopes.{find_column}
use Rattle.command_names.specs.Attributes.{attribute_named}
use Rattle.command_names.specs.Terms.{found_or_unknown}
use Rattle.query_names.specs.declared.scope.InnerSource.{InnerSource}
use Rattle.query_names.specs.declared.scope.PlacedClass.{PlacedClass}
use Rattle.query_names.specs.declared.scope.QueryScope.{QueryScope}

-- ---- names in scope

-- the class of the query that a name means: of several of one name the first
abbrev pub class_meant : Mapped → List PlacedClass → List ℕ → Option PlacedClass
class_meant mapped classes name = find (λ placed. same_name (class_spec mapped placed.class).name name) classes

-- the source of an `exists` that a name means: of several of one name the innermost
abbrev pub source_meant : List InnerSource → List ℕ → Option InnerSource
source_meant sources name = find (λ source. same_name source.name name) sources

-- inside an `exists` its source is looked for before those around it, and has the next place
abbrev pub scope_within : QueryScope → List ℕ → TableId → QueryScope
scope_within scope name table = record scope {
  inner = record { name = name; table = table; place = scope.sources } ∷ scope.inner;
  sources = scope.sources + 1;
}

-- ---- paths

-- an attribute of a class of the query
abbrev pub attribute_said : Mapped → PlacedClass → AttrNo → Expr
attribute_said mapped placed attr = column_of (attribute_column mapped placed.class placed.placement (attribute_of mapped placed.class attr))

abbrev pub in_class : Mapped → List ℕ → PlacedClass → Checked Expr
in_class mapped name placed = attribute_named mapped placed.class name >>= λ attr. Ok (attribute_said mapped placed attr)

-- a column of the source of an `exists`
abbrev pub in_source : Catalog → List ℕ → InnerSource → Checked Expr
in_source schema name source = found_or_unknown name (find_column (spec_of schema source.table) name) >>= λ column. Ok (expr.Column source.place column)

abbrev pub path_by : Mapped → QueryScope → List ℕ → List ℕ → Option InnerSource → Checked Expr
path_by mapped scope owner name None = found_or_unknown owner (class_meant mapped scope.classes owner) >>= in_class mapped name
path_by mapped scope owner name (Some source) = in_source mapped.schema name source

-- what the path `owner.name` means: sources of an `exists` go before classes of the same name
abbrev pub path_said : Mapped → QueryScope → List ℕ → List ℕ → Checked Expr
path_said mapped scope owner name = path_by mapped scope owner name (source_meant scope.inner owner)

-- ---- what stands

-- the classes are declared
abbrev pub AreDeclared : Mapped → List PlacedClass → Type 0
AreDeclared mapped classes = All (λ placed. IsClass mapped placed.class) classes

-- the classes in scope and the tables of the sources are declared
pub record IsScope (mapped : Mapped) (scope : QueryScope) : Type 0 where
  pub classes : AreDeclared mapped scope.classes
  pub inner : All (λ source. IsTable mapped.schema source.table) scope.inner
