-- The columns that a query's main select reads are there.
use Rattle.std.proofs.Common.{◌≡◌, ℕ, suc, ◌+◌, ◌<◌, List, [], ◌∷◌, ◌++◌, fold, length, map, sym, ap, subst}
use Rattle.std.specs.Prelude.{is_some}
use Rattle.std.specs.List.{AllByRecursion}
use Rattle.std.proofs.lemmas.List.Elements.{recursion_from_All}
use Rattle.base_core.proofs.Lists.{every_append}
use Rattle.base_core.specs.declared.ids.ClassId.{ClassId}
use Rattle.base_core.specs.declared.ids.RelNo.{RelNo}
use Rattle.schema_core.specs.Catalog.{Catalog}
use Rattle.expr_types.specs.declared.expr.Origin.{Origin}
use Rattle.expr_types.specs.declared.select.ObjectQuery.{ObjectQuery}
use Rattle.expr_types.specs.declared.select.Select.{Select}
use Rattle.sql_semantics.specs.Plain.{sources_of}
use Rattle.sql_semantics.specs.Shapes.{scope_of}
use Rattle.class_types.specs.declared.mapped.Relation.{Relation}
use Rattle.class_mapping.specs.Mapped.{Mapped, relations_of}
use Rattle.class_mapping.specs.Related.{AreRelated, IsRelated}
use Rattle.class_mapping.specs.Mapped.{IsClass}
use Rattle.mapping_laws.specs.Hierarchies.{HasHierarchies}
use Rattle.mapping_laws.proofs.Ties.{class_tables}
use Rattle.object_arena.specs.Fit.{no_relation, relation_of}
use Rattle.load_columns.specs.declared.placing.Placement.{Placement}
use Rattle.load_columns.specs.declared.placing.SourceColumn.{SourceColumn}
use Rattle.load_columns.specs.Placing.{from_root, place_at_rank}
use Rattle.load_selects.specs.declared.sources.Further.{Further}
use Rattle.load_selects.specs.Sources.{target_placement}
use Rattle.collection_selects.proofs.Placed.{StandsAt, at_more, attributes_there}
use Rattle.collection_selects.proofs.Plain.{IsColumn}
use Rattle.main_selects.specs.MainSelect.{main_select, option_columns, option_sources, with_joined}
use Rattle.joined_rows.proofs.Targets.{target_stands}
use Rattle.joined_rows.proofs.Widening.{count_sources, option_of, options_widen}
use Rattle.known_queries.specs.Known.{ReadsJoined}
use Rattle.loading_laws.specs.Wide.Answers.{options_columns, own_columns}
use Rattle.loading_laws.proofs.MainSelects.Grown.{columns_more}
use Rattle.loading_laws.proofs.MainSelects.Main.{option_there}
use Rattle.loading_laws.proofs.Wide.Conditions.{IsColumnIn}
use Rattle.loading_laws.proofs.Wide.Forms.{count_is, joins_long}

pub all_inside : (schema : Catalog) (sources : List Origin) (columns : List SourceColumn) → AllByRecursion (IsColumn schema sources) columns → AllByRecursion (IsColumnIn schema (map (λ origin. origin.table) sources)) columns
all_inside schema sources [] h = tt
all_inside schema sources (column ∷ columns) h = (ap is_some h.0.1.is, all_inside schema sources columns h.1)

module _ (mapped : Mapped) (class : ClassId) (has : HasHierarchies mapped) (relations : AreRelated mapped) (less : IsClass mapped class) where
  abbrev AreThere : List Origin → List SourceColumn → Type 0
  AreThere sources columns = AllByRecursion (IsColumn mapped.schema sources) columns

  abbrev Stands : Select → Type 0
  Stands wide = StandsAt mapped class (from_root 0) (sources_of wide)

  -- what options read is there where the tables of the class stand first
  options_there : (places : List RelNo) (wide : Select) → AllByRecursion (λ place. place.0 < length (relations_of mapped class)) places → Stands wide
      → AreThere (sources_of (fold (with_joined mapped class) wide places)) (options_columns mapped class (suc (length wide.joins)) places)
  options_there [] wide inside stands = tt
  options_there (place ∷ places) wide inside stands =
      let relation : Relation = relation_of mapped class place in
      let related : IsRelated mapped relation = relations.each class less place.0 no_relation inside.0 in
      let count : ℕ = suc (length wide.joins) in
      let placement : Placement = target_placement mapped relation count in
      let others : List Further = option_sources mapped class relation count in
      let read : List SourceColumn = option_columns mapped relation.target placement in
      let next : Select = with_joined mapped class wide place in
      let last : Select = fold (with_joined mapped class) next places in
      let option = option_of mapped class wide relation in
      let further = options_widen mapped class next places in
      let target : StandsAt mapped relation.target placement (sources_of wide ++ option.origins) =
      target_stands mapped class (from_root 0) relation (sources_of wide) option.origins count related (count_sources wide) option.tables in
      let here : AreThere (sources_of next) read =
      subst (λ (sources : List Origin). AreThere sources read) (sym option.has_sources)
      (option_there mapped relation.target placement (sources_of wide ++ option.origins) target has related.target (class_tables mapped relation.target has related.target)) in
      let first : AreThere (sources_of last) read =
      subst (λ (sources : List Origin). AreThere sources read) (sym further.has_sources) (columns_more mapped.schema (sources_of next) further.sources read here) in
      let still : Stands next =
      subst (StandsAt mapped class (from_root 0)) (sym option.has_sources)
      (λ rank table e. at_more (sources_of wide) option.origins (place_at_rank (from_root 0) rank) table (stands rank table e)) in
      let long : suc (length next.joins) ≡ count + length others = joins_long mapped.schema wide others in
      every_append (IsColumn mapped.schema (sources_of last)) read (options_columns mapped class (count + length others) places) first
      (subst (λ (k : ℕ). AreThere (sources_of last) (options_columns mapped class k places)) long (options_there places next inside.1 still))

module _ (mapped : Mapped) (query : ObjectQuery) (has : HasHierarchies mapped) (relations : AreRelated mapped) (is : ReadsJoined mapped query) (stands : StandsAt mapped query.class (from_root 0) (sources_of query.select)) where
  abbrev s : Select
  s = query.select

  abbrev own : List SourceColumn
  own = own_columns mapped query

  abbrev wide : Select
  wide = fold (with_joined mapped query.class) s query.joined

  own_there : AllByRecursion (IsColumn mapped.schema (sources_of s)) own
  own_there = attributes_there mapped query.class has is.own.class (class_tables mapped query.class has is.own.class) (from_root 0) (sources_of s) stands

  -- the class's attributes
  pub own_inside : AllByRecursion (IsColumnIn mapped.schema (scope_of s)) own
  own_inside = all_inside mapped.schema (sources_of s) own own_there

  -- and what options read of their targets
  pub main_inside : AllByRecursion (IsColumnIn mapped.schema (scope_of (main_select mapped query))) (own ++ options_columns mapped query.class (length (sources_of s)) query.joined)
  unfolding main_select
  main_inside =
      let further = options_widen mapped query.class s query.joined in
      let places = recursion_from_All (λ (place : RelNo). place.0 < length (relations_of mapped query.class)) query.joined is.places in
      let read : ℕ → List SourceColumn = λ count. options_columns mapped query.class count query.joined in
      let there = options_there mapped query.class has relations is.own.class query.joined s places stands in
      let first : AllByRecursion (IsColumn mapped.schema (sources_of wide)) own =
      subst (λ (sources : List Origin). AllByRecursion (IsColumn mapped.schema sources) own) (sym further.has_sources) (columns_more mapped.schema (sources_of s) further.sources own own_there) in
      let behind : AllByRecursion (IsColumn mapped.schema (sources_of wide)) (read (length (sources_of s))) =
      subst (λ (k : ℕ). AllByRecursion (IsColumn mapped.schema (sources_of wide)) (read k)) (count_is s) there in
      all_inside mapped.schema (sources_of wide) (own ++ read (length (sources_of s))) (every_append (IsColumn mapped.schema (sources_of wide)) own (read (length (sources_of s))) first behind)
