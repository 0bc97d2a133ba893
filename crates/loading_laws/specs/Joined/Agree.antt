-- Joined loading and lazy loading fill links alike.
use Rattle.std.specs.Prelude.{◌≡◌, true, List}
use Rattle.std.specs.List.{list_any}
use Rattle.base_core.specs.declared.ids.ClassId.{ClassId}
use Rattle.base_core.specs.declared.ids.ObjId.{ObjId}
use Rattle.base_core.specs.declared.ids.RelNo.{RelNo}
use Rattle.schema_core.specs.Tables.{same_values}
use Rattle.expr_types.specs.declared.select.ObjectQuery.{ObjectQuery}
use Rattle.sql_semantics.specs.Eval.{Row}
use Rattle.class_types.specs.declared.mapped.Relation.{Relation}
use Rattle.class_sides.specs.Keys.{TableKey}
use Rattle.class_mapping.specs.Mapped.{Mapped}
use Rattle.object_arena.specs.Fit.{relation_of}
use Rattle.object_arena.specs.Graph.{Graph}
use Rattle.load_filling.specs.Rows.{row_key}
use Rattle.load_rows.specs.Links.{link_at}
use Rattle.load_calls.specs.Reading.{World}
use Rattle.load_calls.specs.Collections.{load_collection}
use Rattle.load_targets.specs.Targets.{load_target}
use Rattle.load_ends.specs.Ends.{key_of}
use Rattle.load_queries.specs.Queries.{load_select}
use Rattle.load_queries.specs.Joined.{load_joined}
use Rattle.loading_laws.specs.Strategies.Filled.{AreAlike, Goes, IsOneToMany, IsWaiting, Stage}
use Rattle.loading_laws.specs.Strategies.Ends.{IsManyToOne, IsPointing, LeadAlike, has_row, leads_to_one}
use Rattle.loading_laws.specs.Strategies.Paired.{IsHolding, PairedStage}
use Rattle.loading_laws.specs.Joined.Blocks.{referred_key}
use Rattle.loading_laws.specs.Joined.Joined.{IsJoinedOwner, IsJoining, IsOwnerOf}

-- From one world a query's objects are read by its own select, and by its main select with its options; an owner is there in both.
pub record AreLoaded (mapped : Mapped) (query : ObjectQuery) (plain joined : List Row) (objects answered : List ObjId) (w first after : World) (row : Row) (place : RelNo) (one owner : ObjId) : Type 0 where
  pub joining : IsJoining mapped query plain joined w
  pub selected : Goes (load_select mapped query) w objects first
  pub loaded : Goes (load_joined mapped query) w answered after
  pub lazy_owner : IsOwnerOf mapped query.class first.own.graph row one
  pub joined_owner : IsJoinedOwner mapped query plain w.own.graph after.own.graph row place owner

-- A lazy load fills a one-to-many collection as the joined load did, by identity, and with the same changes kept.
abbrev pub JoinedCollectionsAgree : Type 0
JoinedCollectionsAgree =
    (mapped : Mapped) (query : ObjectQuery) (plain joined all : List Row) (objects answered : List ObjId) (w first after lazy : World) (row : Row) (place : RelNo) (one owner : ObjId)
    → AreLoaded mapped query plain joined objects answered w first after row place one owner → IsOneToMany mapped (relation_of mapped query.class place) → Stage mapped (relation_of mapped query.class place) all first
    → IsWaiting mapped (relation_of mapped query.class place) place first.own.graph one → Goes (load_collection mapped (relation_of mapped query.class place) one place) first tt lazy
    → AreAlike lazy.own.graph after.own.graph (link_at first.own.graph one place) (link_at lazy.own.graph one place) (link_at after.own.graph owner place)

-- So it does a collection over a secondary table.
abbrev pub JoinedPairsAgree : Type 0
JoinedPairsAgree =
    (mapped : Mapped) (query : ObjectQuery) (far : TableKey) (plain joined all : List Row) (objects answered : List ObjId) (w first after lazy : World) (row : Row) (place : RelNo) (one owner : ObjId)
    → AreLoaded mapped query plain joined objects answered w first after row place one owner → PairedStage mapped (relation_of mapped query.class place) far all first
    → IsHolding mapped (relation_of mapped query.class place) place first.own.graph one → Goes (load_collection mapped (relation_of mapped query.class place) one place) first tt lazy
    → AreAlike lazy.own.graph after.own.graph (link_at first.own.graph one place) (link_at lazy.own.graph one place) (link_at after.own.graph owner place)

-- The owner of a many-to-one link holds the foreign key that the rows under its key have, and what the identity map has under that is an
-- object of the target just where one of the target's rows has it.
pub record HoldsItsKey (mapped : Mapped) (class : ClassId) (relation : Relation) (plain all : List Row) (graph : Graph) (row : Row) (owner : ObjId) : Type 0 where
  pub holds : (other : Row) → list_any (same_values other) plain ≡ true → row_key mapped class other ≡ row_key mapped class row → key_of mapped relation graph owner ≡ referred_key mapped class relation other
  pub leads : leads_to_one mapped relation all graph (key_of mapped relation graph owner) ≡ has_row mapped relation.target all (key_of mapped relation graph owner)

-- A lazy load leads a many-to-one link to the same object, by identity, or both to none.
abbrev pub JoinedEndsAgree : Type 0
JoinedEndsAgree =
    (mapped : Mapped) (query : ObjectQuery) (plain joined all : List Row) (objects answered : List ObjId) (w first after lazy : World) (row : Row) (place : RelNo) (one owner : ObjId)
    → AreLoaded mapped query plain joined objects answered w first after row place one owner → IsManyToOne mapped (relation_of mapped query.class place) → Stage mapped (relation_of mapped query.class place) all first
    → IsPointing mapped (relation_of mapped query.class place) place first.own.graph one → HoldsItsKey mapped query.class (relation_of mapped query.class place) plain all first.own.graph row one
    → Goes (load_target mapped (relation_of mapped query.class place) one place) first tt lazy → LeadAlike lazy.own.graph after.own.graph (link_at lazy.own.graph one place) (link_at after.own.graph owner place)
