-- The classes of a query for objects, and the tables among which they stand.
use Rattle.std.specs.Prelude.{ℕ, suc, List, [], ◌∷◌, ◌++◌, length, Ok}
use Rattle.base_core.specs.declared.ids.ClassId.{ClassId}
use Rattle.base_core.specs.declared.ids.RelNo.{RelNo}
use Rattle.sql_semantics.specs.Checked.{Checked, ◌>>=◌}
use Rattle.class_types.specs.declared.mapped.Relation.{Relation}
use Rattle.class_mapping.specs.Mapped.{Mapped}
use Rattle.object_arena.specs.Fit.{relation_of}
use Rattle.load_columns.specs.Placing.{from_root}
use Rattle.load_selects.specs.Sources.{other_tables, related_sources, target_placement}
use Rattle.command_names.specs.declared.members.Member.{Member}
use Rattle.command_names.specs.declared.members.Member.TheVariants.{Attribute, One, Many}
use Rattle.command_names.specs.Attributes.{member_named}
use Rattle.command_names.specs.Terms.{found_or_unknown, wrong_kind}
use Rattle.query_names.specs.declared.scope.PlacedClass.{PlacedClass}
use Rattle.query_names.specs.declared.scope.QueryScope.{QueryScope}
use Rattle.query_names.specs.declared.sources.QuerySources.{QuerySources}
use Rattle.query_names.specs.Scopes.{class_meant}

-- ---- relationships

-- where a relationship is wanted, an attribute is of the wrong kind
abbrev pub as_relation : Member → Checked RelNo
as_relation (Attribute attr) = wrong_kind
as_relation (One relation) = Ok relation
as_relation (Many relation) = Ok relation

-- the relationship of a class that a name stands for; the name of an attribute stands for none, and is known
abbrev pub relation_named : Mapped → ClassId → List ℕ → Checked RelNo
relation_named mapped class name = member_named mapped class name >>= as_relation

-- ---- sources

-- the first table of the query's class stands before the further sources
abbrev pub source_count : QuerySources → ℕ
source_count sources = suc (length sources.further)

-- a class alone, with its tables from the root's on
abbrev pub class_alone : Mapped → ClassId → QuerySources
class_alone mapped class = record {
  classes = record { class = class; placement = from_root 0 } ∷ [];
  further = other_tables mapped class (from_root 0);
}

-- with a relationship of one of the classes joined: its target stands behind all others
abbrev pub with_relation : Mapped → PlacedClass → Relation → QuerySources → QuerySources
with_relation mapped owner relation sources = record {
  classes = sources.classes ++ record { class = relation.target; placement = target_placement mapped relation (source_count sources) } ∷ [];
  further = sources.further ++ related_sources mapped owner.class owner.placement relation (source_count sources);
}

-- the relationship of a name of one of the classes, joined
abbrev pub with_named : Mapped → List ℕ → QuerySources → PlacedClass → Checked QuerySources
with_named mapped name sources owner = relation_named mapped owner.class name >>= λ place. Ok (with_relation mapped owner (relation_of mapped owner.class place) sources)

-- a join names a class of the query, or one that is joined before, and a relationship of it
abbrev pub with_join : Mapped → QuerySources → List ℕ × List ℕ → Checked QuerySources
with_join mapped sources join = found_or_unknown join.0 (class_meant mapped sources.classes join.0) >>= with_named mapped join.1 sources

abbrev pub with_joins : Mapped → QuerySources → List (List ℕ × List ℕ) → Checked QuerySources
with_joins mapped sources [] = Ok sources
with_joins mapped sources (join ∷ joins) = with_join mapped sources join >>= λ more. with_joins mapped more joins

-- the scope of the query's expressions
abbrev pub scope_of : QuerySources → QueryScope
scope_of sources = record { classes = sources.classes; inner = []; sources = source_count sources }
