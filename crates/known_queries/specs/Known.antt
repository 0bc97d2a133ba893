-- Queries whose rows are known by the tables.
use Rattle.std.specs.Prelude.{◌≡◌, ◌<◌, Bool, true, false, is_some, List, [], ◌∷◌, ◌++◌, length, map}
use Rattle.std.specs.List.{All, AllByRecursion}
use Rattle.base_core.specs.declared.ids.ClassId.{ClassId}
use Rattle.base_core.specs.declared.ids.RelNo.{RelNo}
use Rattle.schema_core.specs.Catalog.{Catalog}
use Rattle.expr_types.specs.declared.expr.Expr.{Expr}
use Rattle.expr_types.specs.declared.expr.Expr.TheOpen.{Expr-F}
use Rattle.expr_types.specs.declared.select.Joined.{Joined}
use Rattle.expr_types.specs.declared.select.ObjectQuery.{ObjectQuery}
use Rattle.expr_types.specs.declared.select.Select.{Select}
use Rattle.expr_types.specs.Level.{everywhere}
use Rattle.sql_semantics.specs.Kinds.{Scope, column_in}
use Rattle.sql_semantics.specs.Plain.{IfSet, is_grouped}
use Rattle.sql_semantics.specs.Shapes.{scope_of}
use Rattle.class_mapping.specs.Mapped.{IsClass, Mapped, relations_of, root_table}
use Rattle.load_columns.specs.Placing.{attribute_columns, from_root}
use Rattle.load_selects.specs.Selects.{inner_joined, item_of, origin_of}
use Rattle.load_selects.specs.Sources.{other_tables}

-- ---- columns

-- a column of one level is one that its source has
abbrev pub finds_column : {A : Type 0} → Catalog → Scope → Expr-F A → Bool
finds_column schema scope (Expr-F.Column source column) = is_some (column_in schema scope source column)
finds_column schema scope level = true

-- every column of the expression is one that its source has
unfoldable pub finds_columns : Catalog → Expr → Scope → Bool
finds_columns schema = everywhere (λ scope origin. scope ++ origin.table ∷ []) (finds_column schema)

-- those of the condition and of the order of a select
pub record FindsColumns (schema : Catalog) (s : Select) : Type 0 where
  pub filter : IfSet (λ e. finds_columns schema e (scope_of s) ≡ true) s.filter
  pub order : AllByRecursion (λ key. finds_columns schema key.0 (scope_of s) ≡ true) s.order

-- ---- queries

-- the first sources of a select are the tables of a class, joined by their keys
pub record BeginsWith (mapped : Mapped) (class : ClassId) (s : Select) : Type 0 where
  pub more : List Joined
  pub first : s.first ≡ origin_of (root_table mapped class)
  pub joins : s.joins ≡ map inner_joined (other_tables mapped class (from_root 0)) ++ more

-- a query for the objects of a class: its first sources are the class's tables, its items the class's attributes, and it has no groups
pub record ReadsClass (mapped : Mapped) (query : ObjectQuery) : Type 0 where
  pub class : IsClass mapped query.class
  pub begins : BeginsWith mapped query.class query.select
  pub reads : query.select.items ≡ map item_of (attribute_columns mapped query.class (from_root 0))
  pub single : is_grouped query.select ≡ false

-- its joined options are relationships of the class, and its select finds its columns
pub record ReadsJoined (mapped : Mapped) (query : ObjectQuery) : Type 0 where
  pub own : ReadsClass mapped query
  pub places : All (λ (place : RelNo). place.0 < length (relations_of mapped query.class)) query.joined
  pub finds : FindsColumns mapped.schema query.select
