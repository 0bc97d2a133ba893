-- Owners of whose foreign key a cell is expired: a lazy load reads their cells first. A select-in load is asked for owners whose keys are
-- held, as those of a query's objects are, whose cells its main select fills; it takes an expired cell for NULL.
use Rattle.std.specs.Prelude.{◌≡◌, true, false, List}
use Rattle.base_core.specs.declared.ids.ObjId.{ObjId}
use Rattle.base_core.specs.declared.ids.RelNo.{RelNo}
use Rattle.sql_semantics.specs.Created.{bare}
use Rattle.sql_semantics.specs.Eval.{Row}
use Rattle.class_types.specs.declared.mapped.Relation.{Relation}
use Rattle.class_mapping.specs.Mapped.{Mapped}
use Rattle.object_arena.specs.Graph.{object_at}
use Rattle.load_rows.specs.Links.{link_at}
use Rattle.load_calls.specs.Reading.{World}
use Rattle.load_calls.specs.Refreshing.{refresh}
use Rattle.load_targets.specs.ForeignKeys.{is_key_expired}
use Rattle.load_targets.specs.Targets.{load_lazy}
use Rattle.load_batches.specs.Batches.{IsOwner, is_unloaded}
use Rattle.loading_laws.specs.Answers.Answers.{AreRowsOf}
use Rattle.loading_laws.specs.Strategies.Filled.{Goes}
use Rattle.loading_laws.specs.Loaders.Calls.{HoldsRelated}
use Rattle.loading_laws.specs.Loaders.Linked.{AgreesWithMap, IsStage}

-- the owner's expired cells were read, which left the store and the link; where its key is held then, the link holds what is related by it
pub record ReadsKeyFirst (mapped : Mapped) (relation : Relation) (place : RelNo) (all : List Row) (w after : World) (owner : ObjId) : Type 0 where
  pub between : World
  pub read : Goes (refresh mapped owner) w tt between
  pub same_store : between.store ≡ w.store
  pub same_link : link_at between.own.graph owner place ≡ link_at w.own.graph owner place
  pub leads : is_key_expired mapped relation (object_at between.own.graph owner) ≡ false → AgreesWithMap mapped relation all between.own.graph owner → HoldsRelated mapped relation place all between after owner

-- A lazy load does so.
abbrev pub LazyReadsKeyFirst : Type 0
LazyReadsKeyFirst =
    (mapped : Mapped) (relation : Relation) (place : RelNo) (owner : ObjId) (all : List Row) (w after : World) → IsStage mapped w → AreRowsOf mapped relation.target (bare w.store.tables) all → IsOwner mapped w.own.graph relation place owner
    → relation.many ≡ false → is_unloaded (link_at w.own.graph owner place) ≡ true → is_key_expired mapped relation (object_at w.own.graph owner) ≡ true → Goes (load_lazy mapped owner place) w tt after
    → ReadsKeyFirst mapped relation place all w after owner
