-- What a query's main select answers: the rows of its own select, each in place of one for each of its partners.
use Rattle.std.specs.Prelude.{◌≡◌, ◌⊎◌, ℕ, ◌+◌, true, false, List, [], ◌∷◌, ◌++◌, length, map, None, Ok, Err}
use Rattle.std.specs.List.{AllByRecursion, Contains, flat_map}
use Rattle.base_core.specs.declared.ids.ClassId.{ClassId}
use Rattle.base_core.specs.declared.ids.RelNo.{RelNo}
use Rattle.base_core.specs.declared.ids.TableId.{TableId}
use Rattle.schema_core.specs.Catalog.{Catalog, spec_of}
use Rattle.expr_types.specs.declared.expr.Origin.{Origin}
use Rattle.expr_types.specs.declared.select.Joined.{Joined}
use Rattle.expr_types.specs.declared.select.ObjectQuery.{ObjectQuery}
use Rattle.expr_types.specs.declared.select.Select.{Select}
use Rattle.sql_semantics.specs.Checked.{Checked}
use Rattle.sql_semantics.specs.Eval.{Row, Tables, rows_in}
use Rattle.sql_semantics.specs.Kinds.{Scope}
use Rattle.sql_semantics.specs.Plain.{IsPlainSelect, is_grouped, sources_of}
use Rattle.sql_semantics.specs.Rows.{answer, distinct, nulls, page_of, require_created, tables_of, width}
use Rattle.sql_semantics.specs.Shapes.{AreRows, scope_of}
use Rattle.class_mapping.specs.Mapped.{Mapped}
use Rattle.object_arena.specs.Fit.{relation_of}
use Rattle.load_columns.specs.declared.placing.SourceColumn.{SourceColumn}
use Rattle.load_columns.specs.Placing.{attribute_columns, from_root}
use Rattle.load_selects.specs.declared.sources.Further.{Further}
use Rattle.load_selects.specs.Selects.{item_of}
use Rattle.load_selects.specs.Sources.{target_placement}
use Rattle.main_selects.specs.MainSelect.{main_select, option_columns, option_sources}
use Rattle.loading_laws.specs.Wide.Parts.{cells, holds_at}
use Rattle.loading_laws.specs.Wide.Partners.{partners}

-- ---- rows of the own sources

abbrev pub table_width : Catalog → TableId → ℕ
table_width schema table = length (spec_of schema table).columns

-- a row for each table in scope, as wide as it
abbrev pub AreWideIn : Catalog → Scope → List Row → Type 0
AreWideIn schema [] [] = Unit {0}
AreWideIn schema (table ∷ scope) (row ∷ rows) = (length row ≡ table_width schema table) × AreWideIn schema scope rows
AreWideIn schema scope rows = ⊥

-- a row of a joined table for which the condition is true behind these rows, or the NULLs of a left join
abbrev pub IsBehind : Catalog → Tables → List Row → Joined → Row → Type 0
IsBehind schema tables rows join row =
    (Contains (rows_in tables join.origin.table.0) row × (holds_at tables join.on (rows ++ row ∷ []) ≡ true)) ⊎ ((join.left ≡ true) × (row ≡ nulls (width schema join.origin)))

abbrev pub AreBehind : Catalog → Tables → List Row → List Joined → List Row → Type 0
AreBehind schema tables rows [] [] = Unit {0}
AreBehind schema tables rows (join ∷ joins) (row ∷ more) = IsBehind schema tables rows join row × AreBehind schema tables (rows ++ row ∷ []) joins more
AreBehind schema tables rows joins more = ⊥

abbrev pub StandTogether : Catalog → Tables → Origin → List Joined → List Row → Type 0
StandTogether schema tables first joins [] = ⊥
StandTogether schema tables first joins (row ∷ rows) = Contains (rows_in tables first.table.0) row × AreBehind schema tables (row ∷ []) joins rows

-- a row of each source of a select, as its joins put them together
pub record AreOfSources (schema : Catalog) (tables : Tables) (s : Select) (rows : List Row) : Type 0 where
  pub wide : AreWideIn schema (scope_of s) rows
  pub together : StandTogether schema tables s.first s.joins rows

-- ---- what options add

-- the sources that joined options add behind so many
abbrev pub options_sources : Mapped → ClassId → ℕ → List RelNo → List Further
options_sources mapped class sources [] = []
options_sources mapped class sources (place ∷ places) =
    let more = option_sources mapped class (relation_of mapped class place) sources in
    more ++ options_sources mapped class (sources + length more) places

-- what they read of their targets, one option after the other
abbrev pub options_columns : Mapped → ClassId → ℕ → List RelNo → List SourceColumn
options_columns mapped class sources [] = []
options_columns mapped class sources (place ∷ places) =
    let relation = relation_of mapped class place in
    option_columns mapped relation.target (target_placement mapped relation sources)
    ++ options_columns mapped class (sources + length (option_sources mapped class relation sources)) places

-- ---- answers

abbrev pub own_columns : Mapped → ObjectQuery → List SourceColumn
own_columns mapped query = attribute_columns mapped query.class (from_root 0)

-- what the sources of a query's options put behind rows of its own sources
abbrev pub query_partners : Mapped → Tables → ObjectQuery → List Row → List (List Row)
query_partners mapped tables query rows = partners mapped.schema tables (options_sources mapped query.class (length (sources_of query.select)) query.joined) rows

-- of rows of the own sources the class's attributes, and of all rows what the options read
abbrev pub joined_row : Mapped → ObjectQuery → List Row → List Row → Row
joined_row mapped query rows more =
    cells (own_columns mapped query) rows ++ cells (options_columns mapped query.class (length (sources_of query.select)) query.joined) (rows ++ more)

-- a row for each of its partners
abbrev pub joined_rows : Mapped → Tables → ObjectQuery → List Row → List Row
joined_rows mapped tables query rows = map (joined_row mapped query rows) (query_partners mapped tables query rows)

-- of rows in their order what `distinct`, offset and limit leave
abbrev pub left_of : Select → List Row → List Row
left_of s rows = page_of s (distinct s.distinct rows)

-- both answers come from the same rows of the own sources, in the same order
pub record AreMultiplied (mapped : Mapped) (tables : Tables) (query : ObjectQuery) (owners joined : List Row) : Type 0 where
  pub from : List (List Row)
  pub sourced : AllByRecursion (AreOfSources mapped.schema tables query.select) from
  pub owners_are : owners ≡ left_of query.select (map (cells (own_columns mapped query)) from)
  pub joined_are : joined ≡ left_of query.select (flat_map (joined_rows mapped tables query) from)

-- two answers, or twice the same refusal
abbrev pub AreAnswered : Mapped → Tables → ObjectQuery → Checked (List Row) → Checked (List Row) → Type 0
AreAnswered mapped tables query (Ok owners) (Ok joined) = AreMultiplied mapped tables query owners joined
AreAnswered mapped tables query (Err one) (Err other) = one ≡ other
AreAnswered mapped tables query one other = ⊥

-- ---- the law

-- a query for objects without groups over tables with rows of theirs, whose own select and main select may be sent
pub record CanBeJoined (mapped : Mapped) (tables : Tables) (query : ObjectQuery) : Type 0 where
  pub reads : query.select.items ≡ map item_of (own_columns mapped query)
  pub plain : IsPlainSelect mapped.schema query.select
  pub single : is_grouped query.select ≡ false
  pub main : IsPlainSelect mapped.schema (main_select mapped query)
  pub held : AreRows mapped.schema tables
  pub created : require_created tables (tables_of (main_select mapped query)) ≡ Ok tt

-- The main select answers what the own select answers, each row of its sources in place of one for each partner, or the same refusal.
abbrev pub MainSelectsMultiply : Type 0
MainSelectsMultiply =
    (mapped : Mapped) (tables : Tables) (query : ObjectQuery) → CanBeJoined mapped tables query
    → AreAnswered mapped tables query (answer mapped.schema tables query.select) (answer mapped.schema tables (main_select mapped query))

-- ---- whole answers

-- the options put one row behind rows of the own sources, as those do that lead to one object at most
abbrev pub HasOnePartner : Mapped → Tables → ObjectQuery → Type 0
HasOnePartner mapped tables query = (rows : List Row) → AreOfSources mapped.schema tables query.select rows → length (query_partners mapped tables query rows) ≡ 1

-- what the query leaves out it leaves out by rows of its own sources: it is not distinct, and limits only where no row is multiplied
pub record CutsOwners (mapped : Mapped) (tables : Tables) (query : ObjectQuery) : Type 0 where
  pub not_distinct : query.select.distinct ≡ false
  pub cut : ((query.select.limit ≡ None) × (query.select.offset ≡ None)) ⊎ HasOnePartner mapped tables query

-- each answered row of the own select, in its order, and in its place its joined rows
pub record AreBlocks (mapped : Mapped) (tables : Tables) (query : ObjectQuery) (owners joined : List Row) : Type 0 where
  pub from : List (List Row)
  pub sourced : AllByRecursion (AreOfSources mapped.schema tables query.select) from
  pub owners_are : owners ≡ map (cells (own_columns mapped query)) from
  pub joined_are : joined ≡ flat_map (joined_rows mapped tables query) from

abbrev pub AreInBlocks : Mapped → Tables → ObjectQuery → Checked (List Row) → Checked (List Row) → Type 0
AreInBlocks mapped tables query (Ok owners) (Ok joined) = AreBlocks mapped tables query owners joined
AreInBlocks mapped tables query (Err one) (Err other) = one ≡ other
AreInBlocks mapped tables query one other = ⊥

-- Each row that the own select answers stands in the main select's answer as its joined rows, or both refuse alike.
abbrev pub MainSelectsAnswerBlocks : Type 0
MainSelectsAnswerBlocks =
    (mapped : Mapped) (tables : Tables) (query : ObjectQuery) → CanBeJoined mapped tables query → CutsOwners mapped tables query
    → AreInBlocks mapped tables query (answer mapped.schema tables query.select) (answer mapped.schema tables (main_select mapped query))
