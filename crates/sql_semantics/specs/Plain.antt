-- Which statements are plain: well typed and in normal form, with every part where SQL lets it stand.
use Rattle.std.specs.Prelude.{◌≡◌, ℕ, ◌<◌, ◌^◌, Bool, true, false, not, ◌&&◌, ◌||◌, ◌==◌, nat_lt, List, [], ◌∷◌, ◌++◌, map, length, Option, Some, None, is_some, IsTrue, is_ok, Ok, if◌then◌else◌}
use Rattle.std.specs.List.{list_all, list_any, AllByRecursion}
use Rattle.base_core.specs.declared.ids.TableId.{TableId}
use Rattle.base_core.specs.declared.ids.ColumnNo.{ColumnNo}
use Rattle.base_core.specs.declared.value.Value.{Value}
use Rattle.base_core.specs.declared.value.Value.TheVariants as value
use Rattle.base_core.specs.declared.value.Kind.{Kind}
use Rattle.base_core.specs.declared.value.Kind.TheVariants.{Boolean}
use Rattle.schema_core.specs.declared.table.ColumnSpec.{ColumnSpec}
use Rattle.schema_core.specs.Catalog.{Catalog, kind_of, same_kind, has_name, spec_of}
use Rattle.expr_types.specs.declared.expr.Expr.{Expr, roll-Expr}
use Rattle.expr_types.specs.declared.expr.Expr.TheOpen.{Expr-F}
use Rattle.expr_types.specs.declared.expr.Expr.TheFolds.{fold-Expr, para-Expr, map-Expr}
use Rattle.expr_types.specs.declared.expr.Func.{Func}
use Rattle.expr_types.specs.declared.expr.Func.TheVariants.{Coalesce}
use Rattle.expr_types.specs.declared.expr.Origin.{Origin}
use Rattle.expr_types.specs.declared.select.Joined.{Joined}
use Rattle.expr_types.specs.declared.select.Select.{Select}
use Rattle.expr_types.specs.declared.select.Bulk.{Bulk}
use Rattle.expr_types.specs.declared.select.Bulk.TheVariants as bulk
use Rattle.expr_types.specs.Level.{everywhere, has_aggregate, is_aggregate, operands}
use Rattle.expr_types.specs.Normal.{normal}
use Rattle.expr_types.specs.Same.{same}
use Rattle.sql_semantics.specs.Kinds.{Scope, column_in, expression_kind, value_kind}

-- ---- expressions

abbrev pub is_given : Value → Bool
is_given value.Null = false
is_given v = true

-- a function has its number of operands
abbrev pub takes : Func → ℕ → Bool
takes Coalesce count = nat_lt 0 count
takes function count = count == 1

-- one level stands in its scope: its column is there, its function has its operands, its source is declared, and no literal is NULL
abbrev pub fits_level : {A : Type 0} → Catalog → Scope → Expr-F A → Bool
fits_level schema scope (Expr-F.Column source column) = is_some (column_in schema scope source column)
fits_level schema scope (Expr-F.Lit v) = is_given v
fits_level schema scope (Expr-F.InList negated a values) = list_all is_given values
fits_level schema scope (Expr-F.Call function arguments) = takes function (length arguments)
fits_level schema scope (Expr-F.Exists negated origin condition) = nat_lt origin.table.0 (length schema.tables)
fits_level schema scope level = true

-- every level stands in its scope
unfoldable pub fits : Catalog → Expr → Scope → Bool
fits schema = everywhere (λ scope origin. scope ++ origin.table ∷ []) (fits_level schema)

abbrev pub several : {A : Type 0} → Expr-F A → Bool
several (Expr-F.And parts) = nat_lt 1 (length parts)
several (Expr-F.Or parts) = nat_lt 1 (length parts)
several level = true

abbrev pub full_level : Expr-F Bool → Bool
full_level level = several level && list_all (λ has. has) (operands level)

-- every `and` and `or` has at least two parts
unfoldable pub has_full_lists : Expr → Bool
has_full_lists = fold-Expr Bool full_level

abbrev pub name_or : List ℕ → Option (List ℕ) → List ℕ
name_or name None = name
name_or name (Some alias) = alias

-- the name of a source: its own, or else its table's
abbrev pub name_of : Catalog → Origin → List ℕ
name_of schema origin = name_or (spec_of schema origin.table).name origin.alias

abbrev pub adds_name : {A : Type 0} → Catalog → List (List ℕ) → Expr-F A → Bool
adds_name schema names (Expr-F.Exists negated origin condition) = not (has_name names (name_of schema origin))
adds_name schema names level = true

-- no source of an `exists` has the name of a source around it
unfoldable pub names_apart : Catalog → Expr → List (List ℕ) → Bool
names_apart schema = everywhere (λ names origin. names ++ name_of schema origin ∷ []) (adds_name schema)

-- the parts of an expression that stands under these sources
pub record StandsIn (schema : Catalog) (sources : List Origin) (e : Expr) : Type 0 where
  pub fitting : IsTrue (fits schema e (map (λ origin. origin.table) sources))
  pub typed : IsTrue (is_ok (expression_kind schema e (map (λ origin. origin.table) sources)))
  pub in_normal_form : normal e ≡ e
  pub full_lists : IsTrue (has_full_lists e)
  pub apart : IsTrue (names_apart schema e (map (name_of schema) sources))

-- a condition is true or false
pub record IsCondition (schema : Catalog) (sources : List Origin) (e : Expr) : Type 0 where
  pub stands : StandsIn schema sources e
  pub boolean : expression_kind schema e (map (λ origin. origin.table) sources) ≡ Ok Boolean

abbrev pub IfSet : (Expr → Type 0) → Option Expr → Type 0
IfSet P (Some e) = P e
IfSet P None = Unit {0}

-- ---- aggregates and groups

abbrev pub lacks_aggregate : Expr → Bool
lacks_aggregate e = not (has_aggregate e)

-- an operand with what was found of it
abbrev pub Found : Type 0
Found = Expr × Bool

abbrev pub whole : Expr-F Found → Expr
whole level = roll-Expr (map-Expr Found Expr (λ found. found.0) level)

abbrev pub operands_lack : Expr-F Found → Bool
operands_lack level = list_all (λ found. lacks_aggregate found.0) (operands level)

-- a column of the query's own sources, which are the first ones in scope
abbrev pub is_own_column : ℕ → Expr-F Found → Bool
is_own_column own (Expr-F.Column source column) = nat_lt source own
is_own_column own level = false

abbrev pub is_exists : Expr-F Found → Bool
is_exists (Expr-F.Exists negated origin condition) = true
is_exists level = false

-- what stands outside the group expressions: an aggregate over operands without one, or no column of the query's sources
abbrev pub is_well_grouped_level : Bool → ℕ → Expr-F Found → Bool
is_well_grouped_level grouped own level =
    if is_aggregate level then operands_lack level
    else (not (grouped && is_own_column own level) && (not (is_exists level) || operands_lack level) && list_all (λ found. found.1) (operands level))

-- aggregates stand in no other one and in no `exists`; in a grouped query the columns of its sources stand in aggregates and in occurrences of its group expressions alone
unfoldable pub is_well_grouped : Bool → List Expr → ℕ → Expr → Bool
is_well_grouped grouped groups own = para-Expr Bool (λ level. (grouped && list_any (λ g. same g (whole level)) groups) || is_well_grouped_level grouped own level)

-- ---- selects

-- the sources of a select in order
abbrev pub sources_of : Select → List Origin
sources_of s = s.first ∷ map (λ j. j.origin) s.joins

-- what is evaluated for each row or group that is left
abbrev pub outputs : Select → List Expr
outputs s = map (λ item. item.0) s.items ++ map (λ key. key.0) s.order

abbrev pub and_having : Option Expr → List Expr → List Expr
and_having None es = es
and_having (Some e) es = e ∷ es

-- the query has one row for each group: it groups, or has a condition on groups or an aggregate
abbrev pub is_grouped : Select → Bool
is_grouped s = nat_lt 0 (length s.groups) || is_some s.having || list_any has_aggregate (outputs s)

abbrev pub is_declared : Catalog → Origin → Bool
is_declared schema origin = nat_lt origin.table.0 (length schema.tables)

abbrev pub are_distinct : List (List ℕ) → Bool
are_distinct [] = true
are_distinct (name ∷ names) = not (has_name names name) && are_distinct names

-- the condition of each join stands under the sources up to its own
abbrev pub AreJoined : Catalog → List Origin → List Joined → Type 0
AreJoined schema before [] = Unit {0}
AreJoined schema before (join ∷ joins) =
    IsCondition schema (before ++ join.origin ∷ []) join.on × IsTrue (lacks_aggregate join.on) × AreJoined schema (before ++ join.origin ∷ []) joins

abbrev pub is_limit : Option ℕ → Bool
is_limit None = true
is_limit (Some n) = nat_lt n (2 ^ 63)

-- a condition on rows, which has no aggregate
pub record IsFilter (schema : Catalog) (sources : List Origin) (e : Expr) : Type 0 where
  pub condition : IsCondition schema sources e
  pub no_aggregate : IsTrue (lacks_aggregate e)

-- a plain select
pub record IsPlainSelect (schema : Catalog) (s : Select) : Type 0 where
  pub declared_tables : IsTrue (list_all (is_declared schema) (sources_of s))
  pub distinct_names : IsTrue (are_distinct (map (name_of schema) (sources_of s)))
  pub items_stand : AllByRecursion (λ item. StandsIn schema (sources_of s) item.0) s.items
  pub joins_stand : AreJoined schema (s.first ∷ []) s.joins
  pub filter_stands : IfSet (IsFilter schema (sources_of s)) s.filter
  pub groups_stand : AllByRecursion (StandsIn schema (sources_of s)) s.groups
  pub groups_plain : IsTrue (list_all lacks_aggregate s.groups)
  pub having_stands : IfSet (IsCondition schema (sources_of s)) s.having
  pub order_stands : AllByRecursion (λ key. StandsIn schema (sources_of s) key.0) s.order
  pub grouped_columns : IsTrue (list_all (is_well_grouped (is_grouped s) s.groups (length (sources_of s))) (and_having s.having (outputs s)))
  pub fits_limit : IsTrue (is_limit s.limit)
  pub fits_offset : IsTrue (is_limit s.offset)

-- ---- bulk statements

-- the declared table alone is in scope
abbrev pub alone : TableId → List Origin
alone table = record { table = table; alias = None } ∷ []

-- a value for a column: NULL, or of its kind
abbrev pub is_of_kind : Kind → Value → Bool
is_of_kind kind value.Null = true
is_of_kind kind v = same_kind (value_kind v) kind

abbrev pub has_kind : Option ColumnSpec → Value → Bool
has_kind (Some column) v = is_of_kind (kind_of column.kind) v
has_kind None v = false

-- each value is for the column at its place
abbrev pub are_for : Catalog → TableId → List ColumnNo → List Value → Bool
are_for schema table [] [] = true
are_for schema table (column ∷ columns) (v ∷ values) = has_kind (column_in schema (table ∷ []) 0 column) v && are_for schema table columns values
are_for schema table columns values = false

abbrev pub has_column : List ColumnNo → ColumnNo → Bool
has_column columns column = list_any (λ other. other.0 == column.0) columns

abbrev pub are_apart : List ColumnNo → Bool
are_apart [] = true
are_apart (column ∷ columns) = not (has_column columns column) && are_apart columns

abbrev pub is_key_column : Option ColumnSpec → Bool
is_key_column (Some column) = column.key
is_key_column None = true

-- the column is there and no part of the key
abbrev pub is_free_column : Catalog → TableId → ColumnNo → Bool
is_free_column schema table column = not (is_key_column (column_in schema (table ∷ []) 0 column))

abbrev pub is_kind_where : Option ColumnSpec → Kind → Type 0
is_kind_where (Some column) kind = kind ≡ kind_of column.kind
is_kind_where None kind = ⊥

-- an expression that is written into a column
pub record IsWritten (schema : Catalog) (table : TableId) (column : ColumnNo) (e : Expr) : Type 0 where
  pub stands : StandsIn schema (alone table) e
  pub no_aggregate : IsTrue (lacks_aggregate e)
  pub of_kind : (kind : Kind) × (expression_kind schema e (table ∷ []) ≡ Ok kind) × is_kind_where (column_in schema (table ∷ []) 0 column) kind

-- what a keeper may be sent of bulk statements: the parts fit the table, no column is named twice, and an UPDATE spares the key
abbrev pub IsPlainBulk : Catalog → Bulk → Type 0
IsPlainBulk schema (bulk.Insert table columns values) =
    (table.0 < length schema.tables) × IsTrue (are_apart columns) × IsTrue (are_for schema table columns values)
IsPlainBulk schema (bulk.Update table cells filter) =
    (table.0 < length schema.tables) × IsTrue (are_apart (map (λ cell. cell.0) cells)) × IsTrue (list_all (λ cell. is_free_column schema table cell.0) cells)
    × AllByRecursion (λ cell. IfSet (IsWritten schema table cell.0) cell.1) cells × IfSet (IsFilter schema (alone table)) filter
IsPlainBulk schema (bulk.Delete table filter) = (table.0 < length schema.tables) × IfSet (IsFilter schema (alone table)) filter
