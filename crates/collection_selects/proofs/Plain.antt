-- Which selects of columns over joined tables are plain.
use Rattle.std.proofs.Common.{◌≡◌, ℕ, ◌≤◌, Bool, true, false, ◌&&◌, ◌||◌, suc, List, [], ◌∷◌, ◌++◌, map, length, Option, refl, sym, ap, arith, ◌∙◌}
use Rattle.std.specs.Prelude.{is_ok}
use Rattle.std.specs.List.{AllByRecursion, list_all, list_any}
use Rattle.base_core.specs.declared.ids.ColumnNo.{ColumnNo}
use Rattle.base_core.specs.declared.ids.TableId.{TableId}
use Rattle.base_core.specs.declared.value.Kind.{Kind}
use Rattle.base_core.specs.declared.value.Kind.TheVariants as kinds
use Rattle.schema_core.specs.Catalog.{Catalog}
use Rattle.expr_types.specs.declared.expr.Expr.{Expr}
use Rattle.expr_types.specs.declared.expr.Expr.TheOpen.{Expr-F}
use Rattle.expr_types.specs.declared.expr.Expr.TheFolds.{para-Expr, para-roll-Expr}
use Rattle.expr_types.specs.declared.expr.Expr.TheVariants as expr
use Rattle.expr_types.specs.declared.expr.Origin.{Origin}
use Rattle.expr_types.specs.declared.select.Select.{Select}
use Rattle.expr_types.specs.Level.{has_aggregate}
use Rattle.expr_types.specs.Normal.{and_parts}
use Rattle.expr_types.specs.Same.{same}
use Rattle.sql_semantics.specs.Plain.{AreJoined, Found, IfSet, IsFilter, IsPlainSelect, StandsIn, are_distinct, is_declared, is_grouped, is_well_grouped, is_well_grouped_level, name_of, sources_of, whole}
use Rattle.load_columns.specs.declared.placing.SourceColumn.{SourceColumn}
use Rattle.load_selects.specs.declared.sources.Further.{Further}
use Rattle.load_columns.specs.Conditions.{all_of, column_of, conjoined}
use Rattle.load_selects.specs.Selects.{inner_joined, item_of, origin_of, select_of}
use Rattle.collection_selects.proofs.Standing.{IsThere, Stands, and_stands, as_filter, column_stands}

-- ---- conditions of which all hold

-- a condition that is no list of such
pub record IsPart (schema : Catalog) (sources : List Origin) (e : Expr) : Type 0 where
  pub stands : Stands schema sources kinds.Boolean e
  pub whole : and_parts e ≡ e ∷ []

pub all_stand : (schema : Catalog) (sources : List Origin) (es : List Expr) → AllByRecursion (IsPart schema sources) es → AllByRecursion (Stands schema sources kinds.Boolean) es
all_stand schema sources [] h = tt
all_stand schema sources (e ∷ es) h = (h.0.stands, all_stand schema sources es h.1)

pub all_whole : (schema : Catalog) (sources : List Origin) (es : List Expr) → AllByRecursion (IsPart schema sources) es → AllByRecursion (λ e. and_parts e ≡ e ∷ []) es
all_whole schema sources [] h = tt
all_whole schema sources (e ∷ es) h = (h.0.whole, all_whole schema sources es h.1)

two_long : (es : List Expr) → 2 ≤ suc (suc (length es))
two_long es = omega arith

several_stand : (schema : Catalog) (sources : List Origin) (e f : Expr) (es : List Expr) → AllByRecursion (IsPart schema sources) (e ∷ f ∷ es) → IsFilter schema sources (expr.And (e ∷ f ∷ es))
several_stand schema sources e f es h =
    as_filter schema sources (expr.And (e ∷ f ∷ es)) (and_stands schema sources (e ∷ f ∷ es) (two_long es) (all_stand schema sources (e ∷ f ∷ es) h) (all_whole schema sources (e ∷ f ∷ es) h))

filter_stands : (schema : Catalog) (sources : List Origin) (es : List Expr) → AllByRecursion (IsPart schema sources) es → IfSet (IsFilter schema sources) (all_of es)
filter_stands schema sources [] h = tt
filter_stands schema sources (e ∷ []) h = as_filter schema sources e h.0.stands
filter_stands schema sources (e ∷ f ∷ es) h = several_stand schema sources e f es h

join_stands : (schema : Catalog) (sources : List Origin) (es : List Expr) → 1 ≤ length es → AllByRecursion (IsPart schema sources) es → IsFilter schema sources (conjoined es)
join_stands schema sources [] some h = absurd (omega (arith, some))
join_stands schema sources (e ∷ []) some h = as_filter schema sources e h.0.stands
join_stands schema sources (e ∷ f ∷ es) some h = several_stand schema sources e f es h

-- ---- joins

-- the conditions of each source, of which there are some, stand under those before it and itself
abbrev pub AreTied : Catalog → List Origin → List Further → Type 0
AreTied schema before [] = Unit {0}
AreTied schema before (further ∷ more) =
    (1 ≤ length further.on) × AllByRecursion (IsPart schema (before ++ origin_of further.table ∷ [])) further.on × AreTied schema (before ++ origin_of further.table ∷ []) more

joins_stand : (schema : Catalog) (before : List Origin) (more : List Further) → AreTied schema before more → AreJoined schema before (map inner_joined more)
joins_stand schema before [] h = tt
joins_stand schema before (further ∷ more) h =
    let on = join_stands schema (before ++ origin_of further.table ∷ []) further.on h.0 h.1 in
    (on.condition, on.no_aggregate, joins_stand schema (before ++ origin_of further.table ∷ []) more h.2)

-- ---- items

-- the source has the column
abbrev pub IsColumn : Catalog → List Origin → SourceColumn → Type 0
IsColumn schema sources column = (kind : Kind) × IsThere schema sources column.source column.column kind

item_stands : (schema : Catalog) (sources : List Origin) (e : Expr) (kind : Kind) → Stands schema sources kind e → StandsIn schema sources e
item_stands schema sources e kind s = record { fitting = s.fitting; typed = ap is_ok s.typed; in_normal_form = s.in_normal_form; full_lists = s.full_lists; apart = s.apart }

items_stand : (schema : Catalog) (sources : List Origin) (columns : List SourceColumn) → AllByRecursion (IsColumn schema sources) columns
    → AllByRecursion (λ (item : Expr × Option (List ℕ)). StandsIn schema sources item.0) (map item_of columns)
items_stand schema sources [] h = tt
items_stand schema sources (c ∷ columns) h =
    (item_stands schema sources (column_of c) h.0.0 (column_stands schema sources c.source c.column h.0.0 h.0.1), items_stand schema sources columns h.1)

abbrev item_expressions : List SourceColumn → List Expr
item_expressions columns = map (λ (item : Expr × Option (List ℕ)). item.0) (map item_of columns) ++ []

no_aggregate : (schema : Catalog) (sources : List Origin) (columns : List SourceColumn) → AllByRecursion (IsColumn schema sources) columns → list_any has_aggregate (item_expressions columns) ≡ false
no_aggregate schema sources [] h = refl
no_aggregate schema sources (c ∷ columns) h =
    ap (λ b. b || list_any has_aggregate (item_expressions columns)) (column_stands schema sources c.source c.column h.0.0 h.0.1).no_aggregate ∙ no_aggregate schema sources columns h.1

abbrev ungrouped_step : ℕ → Expr-F Found → Bool
ungrouped_step own level = (false && list_any (λ g. same g (whole level)) []) || is_well_grouped_level false own level

column_settled : (own source : ℕ) (c : ColumnNo) → is_well_grouped false [] own (expr.Column source c) ≡ true
unfolding is_well_grouped
column_settled own source c = ap (para-Expr Bool (ungrouped_step own)) (sym (expr.rolls-Column source c)) ∙ para-roll-Expr Bool (ungrouped_step own) (Expr-F.Column source c)

all_settled : (grouped : Bool) (own : ℕ) (columns : List SourceColumn) → grouped ≡ false → list_all (is_well_grouped grouped [] own) (item_expressions columns) ≡ true
all_settled grouped own [] e = refl
all_settled grouped own (c ∷ columns) e =
    ap (λ (g : Bool). is_well_grouped g [] own (column_of c) && list_all (is_well_grouped grouped [] own) (item_expressions columns)) e
    ∙ ap (λ b. b && list_all (is_well_grouped grouped [] own) (item_expressions columns)) (column_settled own c.source c.column)
    ∙ all_settled grouped own columns e

-- ---- the select

-- what such a select is made of
pub record HasPlainParts (schema : Catalog) (s : Select) (first : TableId) (more : List Further) (columns : List SourceColumn) (conditions : List Expr) : Type 0 where
  pub declared : list_all (is_declared schema) (sources_of s) ≡ true
  pub distinct : are_distinct (map (name_of schema) (sources_of s)) ≡ true
  pub items : AllByRecursion (IsColumn schema (sources_of s)) columns
  pub tied : AreTied schema (origin_of first ∷ []) more
  pub filter : AllByRecursion (IsPart schema (sources_of s)) conditions

pub select_is_plain : (schema : Catalog) (first : TableId) (more : List Further) (columns : List SourceColumn) (conditions : List Expr)
    → HasPlainParts schema (select_of first more columns conditions) first more columns conditions → IsPlainSelect schema (select_of first more columns conditions)
select_is_plain schema first more columns conditions h =
    let s : Select = select_of first more columns conditions in
    record {
      declared_tables = h.declared;
      distinct_names = h.distinct;
      items_stand = items_stand schema (sources_of s) columns h.items;
      joins_stand = joins_stand schema (origin_of first ∷ []) more h.tied;
      filter_stands = filter_stands schema (sources_of s) conditions h.filter;
      groups_stand = tt;
      groups_plain = refl;
      having_stands = tt;
      order_stands = tt;
      grouped_columns = all_settled (is_grouped s) (length (sources_of s)) columns (no_aggregate schema (sources_of s) columns h.items);
      fits_limit = refl;
      fits_offset = refl;
    }
