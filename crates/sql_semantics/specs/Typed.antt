-- Which selects are typed: well typed as they are written, with every part where SQL lets it stand. Their normal forms are plain.
use Rattle.std.specs.Prelude.{◌≡◌, IsTrue, List, [], ◌∷◌, ◌++◌, map, length, is_ok, Ok}
use Rattle.std.specs.List.{list_all, AllByRecursion}
use Rattle.base_core.specs.declared.value.Kind.TheVariants.{Boolean}
use Rattle.schema_core.specs.Catalog.{Catalog}
use Rattle.expr_types.specs.declared.expr.Expr.{Expr}
use Rattle.expr_types.specs.declared.expr.Origin.{Origin}
use Rattle.expr_types.specs.declared.select.Joined.{Joined}
use Rattle.expr_types.specs.declared.select.Select.{Select}
use Rattle.expr_types.specs.Normal.{normal}
use Rattle.expr_types.specs.NormalSelect.{normal_select, normal_where}
use Rattle.sql_semantics.specs.Kinds.{expression_kind}
use Rattle.sql_semantics.specs.Plain.{IfSet, and_having, are_distinct, fits, has_full_lists, is_declared, is_grouped, is_limit, lacks_aggregate, name_of, names_apart, outputs, is_well_grouped, sources_of}

-- the parts of an expression that stands under these sources, whatever its form
pub record IsTyped (schema : Catalog) (sources : List Origin) (e : Expr) : Type 0 where
  pub fitting : IsTrue (fits schema e (map (λ origin. origin.table) sources))
  pub typed : IsTrue (is_ok (expression_kind schema e (map (λ origin. origin.table) sources)))
  pub full_lists : IsTrue (has_full_lists e)
  pub apart : IsTrue (names_apart schema e (map (name_of schema) sources))

-- a condition is true or false
pub record IsTypedCondition (schema : Catalog) (sources : List Origin) (e : Expr) : Type 0 where
  pub stands : IsTyped schema sources e
  pub boolean : expression_kind schema e (map (λ origin. origin.table) sources) ≡ Ok Boolean

-- a condition on rows, which has no aggregate
pub record IsTypedFilter (schema : Catalog) (sources : List Origin) (e : Expr) : Type 0 where
  pub condition : IsTypedCondition schema sources e
  pub no_aggregate : IsTrue (lacks_aggregate e)

-- the condition of each join stands under the sources up to its own
abbrev pub AreTypedJoins : Catalog → List Origin → List Joined → Type 0
AreTypedJoins schema before [] = Unit {0}
AreTypedJoins schema before (join ∷ joins) = IsTypedFilter schema (before ++ join.origin ∷ []) join.on × AreTypedJoins schema (before ++ join.origin ∷ []) joins

-- a typed select; that its columns stand in groups is judged on normal forms
pub record IsTypedSelect (schema : Catalog) (s : Select) : Type 0 where
  pub declared_tables : IsTrue (list_all (is_declared schema) (sources_of s))
  pub distinct_names : IsTrue (are_distinct (map (name_of schema) (sources_of s)))
  pub items_typed : AllByRecursion (λ item. IsTyped schema (sources_of s) item.0) s.items
  pub joins_typed : AreTypedJoins schema (s.first ∷ []) s.joins
  pub filter_typed : IfSet (IsTypedFilter schema (sources_of s)) s.filter
  pub groups_typed : AllByRecursion (IsTyped schema (sources_of s)) s.groups
  pub groups_plain : IsTrue (list_all lacks_aggregate s.groups)
  pub having_typed : IfSet (IsTypedCondition schema (sources_of s)) s.having
  pub order_typed : AllByRecursion (λ key. IsTyped schema (sources_of s) key.0) s.order
  pub grouped_columns : IsTrue (list_all (is_well_grouped (is_grouped s) (map normal s.groups) (length (sources_of s))) (and_having (normal_where s.having) (outputs (normal_select s))))
  pub fits_limit : IsTrue (is_limit s.limit)
  pub fits_offset : IsTrue (is_limit s.offset)
