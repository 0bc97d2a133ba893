-- The select of a query reads the objects of its class: its own tables stand first, and its items are its attributes.
use Rattle.std.proofs.Common.{append-nil, append_assoc, ◌≡◌, ℕ, List, [], ◌∷◌, ◌++◌, map, Option, None, Ok, Err, IfOk, refl, sym, ap, ◌∙◌, subst}
use Rattle.std.proofs.lemmas.List.{map-append}
use Rattle.base_core.specs.Answers.{Gives}
use Rattle.base_core.specs.declared.ids.ClassId.{ClassId}
use Rattle.expr_types.specs.NormalSelect.{normal_join}
use Rattle.expr_types.specs.Normal.{normal}
use Rattle.expr_types.specs.declared.expr.Expr.{Expr}
use Rattle.expr_types.specs.declared.expr.Origin.{Origin}
use Rattle.expr_types.specs.declared.select.Joined.{Joined}
use Rattle.expr_types.specs.declared.select.ObjectQuery.{ObjectQuery}
use Rattle.expr_normal.proofs.Steps.{normal-Column}
use Rattle.sql_semantics.specs.Checked.{Checked, ◌>>=◌}
use Rattle.sql_semantics.specs.Plain.{IsPlainSelect}
use Rattle.class_types.specs.declared.mapped.Relation.{Relation}
use Rattle.class_mapping.specs.Mapped.{IsClass, Mapped, root_table, tables_of}
use Rattle.object_arena.specs.Fit.{relation_of}
use Rattle.mapping_laws.specs.Hierarchies.{HasHierarchies}
use Rattle.load_columns.specs.declared.placing.SourceColumn.{SourceColumn}
use Rattle.load_columns.specs.Placing.{attribute_columns, from_root}
use Rattle.load_selects.specs.declared.sources.Further.{Further}
use Rattle.load_selects.specs.Selects.{inner_joined, item_of, origin_of}
use Rattle.load_selects.specs.Sources.{other_tables, related_sources}
use Rattle.collection_selects.proofs.Rows.{reads_rows}
use Rattle.main_selects.specs.MainSelect.{main_select}
use Rattle.load_queries.specs.Queries.{ReadsObjects}
use Rattle.load_queries.specs.Selectin.{IsSelectable}
use Rattle.script_types.specs.declared.select.SynQuery.{SynQuery}
use Rattle.command_names.specs.Attributes.{class_named}
use Rattle.command_names.specs.Terms.{found_or_unknown}
use Rattle.query_names.specs.declared.scope.PlacedClass.{PlacedClass}
use Rattle.query_names.specs.declared.sources.QuerySources.{QuerySources}
use Rattle.query_names.specs.Judging.{query_faults}
use Rattle.query_names.specs.Queries.{HasOptions, Parts, judged_query, named_query, named_under, normal_query, parts_said, query_of, resolved_query}
use Rattle.query_names.specs.Scopes.{class_meant}
use Rattle.query_names.proofs.Answered.{ok_after, ok_then, ok_unless}
use Rattle.query_names.specs.Sources.{class_alone, relation_named, scope_of, source_count, with_join, with_joins, with_named, with_relation}

-- ---- normal forms

abbrev Item : Type 0
Item = Expr × Option (List ℕ)

abbrev normal_item : Item → Item
normal_item item = (normal item.0, item.1)

-- columns are in normal form
items_stay : (columns : List SourceColumn) → map normal_item (map item_of columns) ≡ map item_of columns
items_stay [] = refl
items_stay (column ∷ columns) =
    ap (λ (e : Expr). (e, None) ∷ map normal_item (map item_of columns)) (normal-Column column.source column.column)
    ∙ ap (λ (items : List Item). item_of column ∷ items) (items_stay columns)

abbrev origins : List Joined → List Origin
origins joins = map (λ (join : Joined). join.origin) joins

pub origins_stay : (joins : List Joined) → origins (map normal_join joins) ≡ origins joins
origins_stay [] = refl
origins_stay (join ∷ joins) = ap (λ (more : List Origin). join.origin ∷ more) (origins_stay joins)

-- ---- sources

-- the other tables of the class stand first
pub record Begins (mapped : Mapped) (class : ClassId) (sources : QuerySources) : Type 0 where
  pub more : List Further
  pub is : sources.further ≡ other_tables mapped class (from_root 0) ++ more

module _ (mapped : Mapped) (class : ClassId) where
  abbrev HasFirst : QuerySources → Type 0
  HasFirst = Begins mapped class

  pub alone_begins : Begins mapped class (class_alone mapped class)
  alone_begins = record { more = []; is = sym (append-nil (other_tables mapped class (from_root 0))) }

  relation_begins : (owner : PlacedClass) (relation : Relation) (sources : QuerySources) → HasFirst sources → HasFirst (with_relation mapped owner relation sources)
  relation_begins owner relation sources first =
      let further : List Further = related_sources mapped owner.class owner.placement relation (source_count sources) in
      record {
        more = first.more ++ further;
        is = ap (λ (all : List Further). all ++ further) first.is ∙ append_assoc (other_tables mapped class (from_root 0)) first.more further;
      }

  named_begins : (name : List ℕ) (sources : QuerySources) (owner : PlacedClass) → HasFirst sources → IfOk (with_named mapped name sources owner) HasFirst
  named_begins name sources owner first =
      ok_then HasFirst (relation_named mapped owner.class name) (λ place. Ok (with_relation mapped owner (relation_of mapped owner.class place) sources))
      (λ place. relation_begins owner (relation_of mapped owner.class place) sources first)

  join_begins : (join : List ℕ × List ℕ) (sources : QuerySources) → HasFirst sources → IfOk (with_join mapped sources join) HasFirst
  join_begins join sources first =
      ok_then HasFirst (found_or_unknown join.0 (class_meant mapped sources.classes join.0)) (with_named mapped join.1 sources)
      (λ owner. named_begins join.1 sources owner first)

  pub joins_begin : (joins : List (List ℕ × List ℕ)) (sources : QuerySources) → Begins mapped class sources → IfOk (with_joins mapped sources joins) (Begins mapped class)
  joins_begin [] sources first = first
  joins_begin (join ∷ joins) sources first =
      ok_after HasFirst HasFirst (with_join mapped sources join) (λ more. with_joins mapped more joins) (join_begins join sources first) (λ more. joins_begin joins more)

-- ---- queries

module _ (mapped : Mapped) (has : HasHierarchies mapped) where
  -- a query of a class that there is reads its objects
  abbrev Reads : ObjectQuery → Type 0
  Reads query = IsClass mapped query.class → ReadsObjects mapped query.class query.select

  pub query_reads : (class : ClassId) (sources : QuerySources) (written : SynQuery) (parts : Parts) → Begins mapped class sources → Reads (normal_query (query_of mapped class sources written parts))
  query_reads class sources written parts first = λ less.
      let own : List Joined = map inner_joined (other_tables mapped class (from_root 0)) in
      let further : List Joined = map inner_joined first.more in
      let rows = reads_rows mapped class [] has less in
      record {
        more = rows.more ++ origins further;
        items = items_stay (attribute_columns mapped class (from_root 0));
        sources =
            ap (λ (all : List Origin). origin_of (root_table mapped class) ∷ all)
            (origins_stay (map inner_joined sources.further)
            ∙ ap (λ (all : List Further). origins (map inner_joined all)) first.is
            ∙ ap origins (map-append inner_joined (other_tables mapped class (from_root 0)) first.more)
            ∙ map-append (λ (join : Joined). join.origin) own further)
            ∙ ap (λ (all : List Origin). all ++ origins further) rows.sources
            ∙ append_assoc (map origin_of (tables_of mapped class)) rows.more (origins further);
      }

  abbrev ReadsNormal : ObjectQuery → Type 0
  ReadsNormal query = Reads (normal_query query)

  under_reads : (written : SynQuery) (class : ClassId) (sources : QuerySources) → Begins mapped class sources → IfOk (named_under mapped written class sources) ReadsNormal
  under_reads written class sources first =
      ok_then ReadsNormal (parts_said mapped class (scope_of sources) written) (λ parts. Ok (query_of mapped class sources written parts))
      (λ parts. query_reads class sources written parts first)

  class_reads : (written : SynQuery) (class : ClassId) → IfOk (with_joins mapped (class_alone mapped class) written.joins >>= named_under mapped written class) ReadsNormal
  class_reads written class =
      ok_after (Begins mapped class) ReadsNormal (with_joins mapped (class_alone mapped class) written.joins) (named_under mapped written class)
      (joins_begin mapped class written.joins (class_alone mapped class) (alone_begins mapped class)) (under_reads written class)

  named_reads : (written : SynQuery) → IfOk (named_query mapped written) ReadsNormal
  named_reads written =
      ok_then ReadsNormal (class_named mapped written.class) (λ class. (with_joins mapped (class_alone mapped class) written.joins >>= named_under mapped written class))
      (class_reads written)

  resolved_reads : (written : SynQuery) → IfOk (resolved_query mapped written) Reads
  unfolding resolved_query
  resolved_reads written =
      ok_after ReadsNormal Reads (named_query mapped written) (judged_query mapped) (named_reads written)
      (λ query reads. ok_unless Reads (query_faults mapped query) (normal_query query) (λ none. reads))

  -- a query that a line says can be answered with its options
  pub selectable : (written : SynQuery) (r : Checked ObjectQuery) → Gives (λ (query : ObjectQuery). query) r (resolved_query mapped written) → IfOk r (λ query. IsClass mapped query.class) → IfOk r (HasOptions mapped)
      → IfOk r (λ query. IsPlainSelect mapped.schema (main_select mapped query)) → IfOk r (IsSelectable mapped)
  selectable written (Ok query) told less options plain =
      let known : Reads query = subst (λ (r : Checked ObjectQuery). IfOk r Reads) told (resolved_reads written) in
      record { class = less; joined = options.0; selectin = options.1; reads = known less; plain = plain }
  selectable written (Err e) told less options plain = tt
