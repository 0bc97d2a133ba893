-- The tables of the classes of a query stand among its sources where they are placed.
use Rattle.std.proofs.Common.{◌≡◌, ℕ, suc, ◌<◌, List, [], ◌∷◌, ◌++◌, length, map, Ok, IfOk, refl, sym, ap, subst, ◌∙◌}
use Rattle.std.specs.List.{AllByRecursion}
use Rattle.std.proofs.lemmas.List.{length-map, map-append}
use Rattle.base_core.proofs.Lists.{every_append}
use Rattle.base_core.specs.declared.ids.ClassId.{ClassId}
use Rattle.base_core.specs.declared.ids.RelNo.{RelNo}
use Rattle.base_core.specs.declared.ids.TableId.{TableId}
use Rattle.schema_core.specs.Catalog.{same_name}
use Rattle.expr_types.specs.declared.expr.Origin.{Origin}
use Rattle.expr_types.specs.declared.select.Joined.{Joined}
use Rattle.class_types.specs.declared.mapped.Relation.{Relation}
use Rattle.class_mapping.specs.Mapped.{IsClass, Mapped, class_spec, relations_of, root_table}
use Rattle.class_mapping.specs.Related.{AreRelated, IsRelated}
use Rattle.mapping_laws.specs.Hierarchies.{HasHierarchies}
use Rattle.mapping_laws.proofs.Ties.{class_tables}
use Rattle.object_arena.specs.Fit.{no_relation, relation_of}
use Rattle.load_columns.specs.Placing.{from_root, place_at_rank}
use Rattle.load_selects.specs.declared.sources.Further.{Further}
use Rattle.load_selects.specs.Selects.{inner_joined, origin_of}
use Rattle.load_selects.specs.Sources.{related_sources, target_placement}
use Rattle.collection_selects.proofs.ClassLemmas.{placed_before}
use Rattle.collection_selects.proofs.Placed.{StandsAt, at_more}
use Rattle.collection_selects.proofs.Rows.{reads_rows}
use Rattle.joined_rows.proofs.Targets.{target_stands}
use Rattle.joined_rows.proofs.Widening.{joined_table, table_of}
use Rattle.command_names.specs.Terms.{found_or_unknown}
use Rattle.query_names.specs.declared.scope.PlacedClass.{PlacedClass}
use Rattle.query_names.specs.declared.sources.QuerySources.{QuerySources}
use Rattle.query_names.specs.Scopes.{class_meant}
use Rattle.query_names.specs.Sources.{class_alone, relation_named, source_count, with_join, with_joins, with_named, with_relation}
use Rattle.query_names.proofs.Answered.{found_among, ok_after, ok_found, relation_there}

abbrev pub of_join : Joined → Origin
of_join join = join.origin

abbrev pub origins_behind : List Further → List Origin
origins_behind further = map of_join (map inner_joined further)

-- the sources of a query for a class
abbrev pub origins_of : Mapped → ClassId → QuerySources → List Origin
origins_of mapped class sources = origin_of (root_table mapped class) ∷ origins_behind sources.further

-- a declared class, whose tables stand among sources where it is placed
pub record StandsAmong (mapped : Mapped) (origins : List Origin) (placed : PlacedClass) : Type 0 where
  pub declared : IsClass mapped placed.class
  pub stands : StandsAt mapped placed.class placed.placement origins

-- so they do with more sources behind
pub still_stand : (mapped : Mapped) (origins more : List Origin) (classes : List PlacedClass) → AllByRecursion (StandsAmong mapped origins) classes → AllByRecursion (StandsAmong mapped (origins ++ more)) classes
still_stand mapped origins more [] h = tt
still_stand mapped origins more (placed ∷ classes) h = (
  record { declared = h.0.declared; stands = λ rank table e. at_more origins more (place_at_rank placed.placement rank) table (h.0.stands rank table e) },
  still_stand mapped origins more classes h.1,
)

-- ---- sources

tables_are : (further : List Further) → map table_of (origins_behind further) ≡ map joined_table further
tables_are [] = refl
tables_are (one ∷ further) = ap (λ (tables : List TableId). one.table ∷ tables) (tables_are further)

pub counted : (mapped : Mapped) (class : ClassId) (sources : QuerySources) → length (origins_of mapped class sources) ≡ source_count sources
counted mapped class sources = ap suc (length-map (map inner_joined sources.further) of_join ∙ length-map sources.further inner_joined)

-- all classes of the query do so
abbrev pub ArePlaced : Mapped → ClassId → QuerySources → Type 0
ArePlaced mapped class sources = AllByRecursion (StandsAmong mapped (origins_of mapped class sources)) sources.classes

module _ (mapped : Mapped) (has : HasHierarchies mapped) (relations : AreRelated mapped) (class : ClassId) where
  abbrev Placed : QuerySources → Type 0
  Placed = ArePlaced mapped class

  alone_placed : IsClass mapped class → Placed (class_alone mapped class)
  alone_placed less =
      let rows = reads_rows mapped class [] has less in
      (record { declared = less; stands = subst (StandsAt mapped class (from_root 0)) (sym rows.sources) (placed_before mapped class has less (class_tables mapped class has less) rows.more) }, tt)

  relation_placed : (owner : PlacedClass) (relation : Relation) (sources : QuerySources) → IsRelated mapped relation → Placed sources → Placed (with_relation mapped owner relation sources)
  relation_placed owner relation sources related h =
      let further : List Further = related_sources mapped owner.class owner.placement relation (source_count sources) in
      let before : List Origin = origins_of mapped class sources in
      let more : List Origin = origins_behind further in
      let placed : PlacedClass = record { class = relation.target; placement = target_placement mapped relation (source_count sources) } in
      let one : StandsAmong mapped (before ++ more) placed =
      record { declared = related.target; stands = target_stands mapped owner.class owner.placement relation before more (source_count sources) related (counted mapped class sources) (tables_are further) } in
      let same : origins_of mapped class (with_relation mapped owner relation sources) ≡ before ++ more =
      ap (λ (origins : List Origin). origin_of (root_table mapped class) ∷ origins)
      (ap (map of_join) (map-append inner_joined sources.further further) ∙ map-append of_join (map inner_joined sources.further) (map inner_joined further)) in
      subst (λ (origins : List Origin). AllByRecursion (StandsAmong mapped origins) (sources.classes ++ placed ∷ [])) (sym same)
      (every_append (StandsAmong mapped (before ++ more)) sources.classes (placed ∷ []) (still_stand mapped before more sources.classes h) (one, tt))

  named_placed : (name : List ℕ) (sources : QuerySources) (owner : PlacedClass) → Placed sources → StandsAmong mapped (origins_of mapped class sources) owner → IfOk (with_named mapped name sources owner) Placed
  named_placed name sources owner h stands =
      ok_after (λ (place : RelNo). place.0 < length (relations_of mapped owner.class)) Placed (relation_named mapped owner.class name)
      (λ place. Ok (with_relation mapped owner (relation_of mapped owner.class place) sources)) (relation_there mapped owner.class name)
      (λ place less. relation_placed owner (relation_of mapped owner.class place) sources (relations.each owner.class stands.declared place.0 no_relation less) h)

  join_placed : (join : List ℕ × List ℕ) (sources : QuerySources) → Placed sources → IfOk (with_join mapped sources join) Placed
  join_placed join sources h =
      ok_after (StandsAmong mapped (origins_of mapped class sources)) Placed (found_or_unknown join.0 (class_meant mapped sources.classes join.0)) (with_named mapped join.1 sources)
      (ok_found (StandsAmong mapped (origins_of mapped class sources)) join.0 (class_meant mapped sources.classes join.0)
      (λ owner is. found_among (StandsAmong mapped (origins_of mapped class sources)) (λ (placed : PlacedClass). same_name (class_spec mapped placed.class).name join.0) sources.classes owner h is))
      (λ owner stands. named_placed join.1 sources owner h stands)

  joins_placed : (joins : List (List ℕ × List ℕ)) (sources : QuerySources) → Placed sources → IfOk (with_joins mapped sources joins) Placed
  joins_placed [] sources h = h
  joins_placed (join ∷ joins) sources h = ok_after Placed Placed (with_join mapped sources join) (λ more. with_joins mapped more joins) (join_placed join sources h) (λ more. joins_placed joins more)

  pub all_placed : (joins : List (List ℕ × List ℕ)) → IsClass mapped class → IfOk (with_joins mapped (class_alone mapped class) joins) (ArePlaced mapped class)
  all_placed joins less = joins_placed joins (class_alone mapped class) (alone_placed less)
