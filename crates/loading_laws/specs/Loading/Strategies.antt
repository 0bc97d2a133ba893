-- Lazy, joined and select-in loading answer the same objects and fill the same links.
use Rattle.std.specs.Prelude.{◌≡◌, ◌<◌, ◌==◌, true, List, length}
use Rattle.std.specs.List.{All, list_any}
use Rattle.base_core.specs.declared.ids.ClassId.{ClassId}
use Rattle.base_core.specs.declared.ids.ObjId.{ObjId}
use Rattle.base_core.specs.declared.ids.RelNo.{RelNo}
use Rattle.expr_types.specs.declared.select.ObjectQuery.{ObjectQuery}
use Rattle.sql_semantics.specs.Created.{bare}
use Rattle.sql_semantics.specs.Eval.{Row}
use Rattle.class_types.specs.declared.mapped.Relation.{Relation}
use Rattle.class_mapping.specs.Mapped.{Mapped, relations_of}
use Rattle.object_arena.specs.declared.object.Link.{Link}
use Rattle.object_arena.specs.Fit.{relation_of}
use Rattle.object_arena.specs.Graph.{Graph, is_among}
use Rattle.relations.specs.Mirror.{is_of}
use Rattle.load_rows.specs.Reading.{identity_key}
use Rattle.load_rows.specs.Links.{link_at}
use Rattle.load_calls.specs.Reading.{World}
use Rattle.load_batches.specs.Batches.{is_unloaded}
use Rattle.load_queries.specs.Queries.{load_select}
use Rattle.load_queries.specs.Selectin.{IsOption, load_objects}
use Rattle.load_queries.specs.Joined.{load_joined}
use Rattle.loading_laws.specs.Strategies.Filled.{Goes}
use Rattle.loading_laws.specs.Joined.Joined.{AnswerAlike}
use Rattle.loading_laws.specs.Loaders.Lazily.{is_link, load_links}
use Rattle.loading_laws.specs.Loaders.Linked.{HoldAlike, HoldsRows, related_to}
use Rattle.loading_laws.specs.Loaders.OwnRows.{AreOfTheirRows}
use Rattle.loading_laws.specs.Loading.Loadable.{IsLoadable, rows_of}
use Rattle.loading_laws.specs.Loading.Whole.{AreSettled, old_link}

-- ---- the loads

-- the link of an object of the query's class that the own select answered, at a place where the class has a relationship
pub record IsLinkOf (mapped : Mapped) (class : ClassId) (objects : List ObjId) (graph : Graph) (link : ObjId × RelNo) : Type 0 where
  pub among : is_among objects link.0 ≡ true
  pub of : is_of graph mapped class link.0 ≡ true
  pub within : link.1.0 < length (relations_of mapped class)

-- From one world the objects of a query are read three times: by its own select, behind which links of them are read lazily, one after
-- another; by its main select with its joined options; and by its own select with further selects for its select-in options.
pub record AreReadByEach (mapped : Mapped) (query : ObjectQuery) (links : List (ObjId × RelNo)) (objects answered together : List ObjId) (w first lazy after batch : World) : Type 0 where
  pub query_is : IsLoadable mapped query w
  pub options : All (IsOption mapped query.class) query.selectin
  pub selected : Goes (load_select mapped query) w objects first
  pub read : All (IsLinkOf mapped query.class objects first.own.graph) links
  pub lazily : Goes (load_links mapped links) first tt lazy
  pub joined : Goes (load_joined mapped query) w answered after
  pub selectin : Goes (load_objects mapped query) w together batch

-- ---- objects and rows

-- nothing is left to flush before the loads, and objects agree with their rows behind them
pub record AreInStep (mapped : Mapped) (w first lazy batch : World) : Type 0 where
  pub settled : AreSettled mapped w first
  pub lazily : AreOfTheirRows mapped (bare w.store.tables) lazy.own.graph
  pub selectin : AreOfTheirRows mapped (bare w.store.tables) batch.own.graph

-- ---- what they give

-- One object, of the query's class, as each of the loads answered it, and the place of one of its options of each sort. Its link was read
-- lazily there, and was unloaded before the loads, as that of an object that they made is.
pub record IsReadByEach (mapped : Mapped) (query : ObjectQuery) (links : List (ObjId × RelNo)) (answered together : List ObjId) (w first after batch : World) (place : RelNo) (one owner other : ObjId) : Type 0 where
  pub read : list_any (is_link one place) links ≡ true
  pub joined : list_any (λ (asked : RelNo). asked.0 == place.0) query.joined ≡ true
  pub selectin : list_any (λ (asked : RelNo). asked.0 == place.0) query.selectin ≡ true
  pub owner_among : is_among answered owner ≡ true
  pub owner_same : identity_key after.own.graph owner ≡ identity_key first.own.graph one
  pub owner_of : is_of after.own.graph mapped query.class owner ≡ true
  pub other_among : is_among together other ≡ true
  pub other_same : identity_key batch.own.graph other ≡ identity_key first.own.graph one
  pub unloaded : is_unloaded (old_link mapped query.class place w.own.graph (identity_key first.own.graph one)) ≡ true

-- each of three links, in its graph, was filled from one with the objects of the same rows, and so with objects of the same identities
pub record AreFilledAlike (mapped : Mapped) (relation : Relation) (rows : List Row) (old : Link) (first second third : Graph) (one other another : Link) : Type 0 where
  pub one_holds : HoldsRows mapped relation rows old first one
  pub other_holds : HoldsRows mapped relation rows old second other
  pub another_holds : HoldsRows mapped relation rows old third another
  pub one_and_other : HoldAlike first second relation.many old one other
  pub one_and_another : HoldAlike first third relation.many old one another

-- All three answer objects of the same identities, in the same order and each once, and the one that had an identity before. The link of
-- each of them, at the place of one of the options, holds in the end what is related to it, with the same kept changes.
pub record AnswerAndFillAlike (mapped : Mapped) (query : ObjectQuery) (links : List (ObjId × RelNo)) (objects answered together : List ObjId) (w first lazy after batch : World) : Type 0 where
  pub joined : AnswerAlike mapped query.class w.own.graph first.own.graph after.own.graph objects answered
  pub selectin : AnswerAlike mapped query.class w.own.graph first.own.graph batch.own.graph objects together
  pub filled : (place : RelNo) (one owner other : ObjId) → IsReadByEach mapped query links answered together w first after batch place one owner other
      → AreFilledAlike mapped (relation_of mapped query.class place)
      (related_to mapped (relation_of mapped query.class place) (bare w.store.tables) (rows_of mapped (bare w.store.tables) (relation_of mapped query.class place).target) first.own.graph one)
      (old_link mapped query.class place w.own.graph (identity_key first.own.graph one)) lazy.own.graph after.own.graph batch.own.graph (link_at lazy.own.graph one place) (link_at after.own.graph owner place) (link_at batch.own.graph other place)

abbrev pub StrategiesAgree : Type 0
StrategiesAgree =
    (mapped : Mapped) (query : ObjectQuery) (links : List (ObjId × RelNo)) (objects answered together : List ObjId) (w first lazy after batch : World)
    → AreReadByEach mapped query links objects answered together w first lazy after batch → AreInStep mapped w first lazy batch → AnswerAndFillAlike mapped query links objects answered together w first lazy after batch
