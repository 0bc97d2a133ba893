-- Lazy, joined and select-in loading at a session's calls: the same objects in one order, and the same links.
use Rattle.std.specs.Prelude.{◌≡◌, ◌==◌, true, List, Ok}
use Rattle.std.specs.List.{All, list_any}
use Rattle.base_core.specs.declared.ids.ClassId.{ClassId}
use Rattle.base_core.specs.declared.ids.ObjId.{ObjId}
use Rattle.base_core.specs.declared.ids.RelNo.{RelNo}
use Rattle.expr_types.specs.declared.select.ObjectQuery.{ObjectQuery}
use Rattle.sql_semantics.specs.Created.{bare}
use Rattle.sql_semantics.specs.Eval.{Row}
use Rattle.class_types.specs.declared.mapped.Relation.{Relation}
use Rattle.class_mapping.specs.Mapped.{Mapped}
use Rattle.keeper_core.specs.Programs.{Run, ◌>>=◌, each, give}
use Rattle.object_arena.specs.declared.object.Link.{Link}
use Rattle.object_arena.specs.Fit.{relation_of}
use Rattle.object_arena.specs.Graph.{Graph, is_among}
use Rattle.relations.specs.Mirror.{is_of}
use Rattle.load_rows.specs.Reading.{identity_key}
use Rattle.load_rows.specs.Links.{link_at}
use Rattle.load_batches.specs.Batches.{is_unloaded}
use Rattle.load_steps.specs.Loads.{Load}
use Rattle.loading_laws.specs.Joined.Joined.{AnswerAlike}
use Rattle.loading_laws.specs.Loaders.Lazily.{is_link}
use Rattle.loading_laws.specs.Loaders.Linked.{HoldAlike, HoldsRows, related_to}
use Rattle.loading_laws.specs.Loaders.OwnRows.{AreOfTheirRows}
use Rattle.loading_laws.specs.Loading.Loadable.{rows_of}
use Rattle.loading_laws.specs.Loading.Strategies.{AreFilledAlike, IsLinkOf}
use Rattle.loading_laws.specs.Loading.Whole.{old_link}
use Rattle.loading_laws.specs.Strategies.Filled.{Goes}
use Rattle.session_calls.specs.Parts.{World}
use Rattle.session_acts.specs.Flush.{flush}
use Rattle.session_acts.specs.Steps.{flush_now}
use Rattle.session_laws.specs.Whole.{IsHale}
use Rattle.session_loads.specs.Queries.{select_objects}
use Rattle.session_loads.specs.Reads.{read_related}
use Rattle.session_load_laws.specs.Loads.{MayLoad, loaded_by}
use Rattle.session_strategies.specs.Asked.{IsOfClass, by_joins, by_selects, lazily, written}
use Rattle.session_strategies.specs.Unwritten.{NothingIsLeft}

-- ---- the calls

-- From one session the objects of a query are asked for three times: without options, with its joined options, and with its select-in
-- options. Each call writes first what is to be written.
pub record AreSelected (query : ObjectQuery) (objects answered together : List ObjId) (world first after batch : World) : Type 0 where
  pub query_is : IsOfClass (written world).own.mapping (written world).store.tables query
  pub own : Goes (select_objects (lazily query)) world objects first
  pub joined : Goes (select_objects (by_joins query)) world answered after
  pub selectin : Goes (select_objects (by_selects query)) world together batch

-- behind a call each persistent object whose row is there is of the class that its row names
abbrev pub IsOfItsRows : World → Type 0
IsOfItsRows world = AreOfTheirRows world.own.mapping (bare world.store.tables) world.own.graph

-- ---- the laws

-- What a flush leaves has nothing left to flush.
abbrev pub FlushesLeaveNothing : Type 0
FlushesLeaveNothing = (world : World) → IsHale world → (flush_now world).answer ≡ Ok tt → NothingIsLeft (written world).own.graph

-- the same mapping, objects, tables and scopes
pub record IsSame (old now : World) : Type 0 where
  pub mapping : now.own.mapping ≡ old.own.mapping
  pub graph : now.own.graph ≡ old.own.graph
  pub store : now.store ≡ old.store

-- Where nothing is left to flush, a flush that answers leaves the objects, the tables and the scopes as they are.
abbrev pub FlushesOfNothingStay : Type 0
FlushesOfNothingStay = (world : World) → NothingIsLeft world.own.graph → (flush world).answer ≡ Ok tt → IsSame world (flush world).after

-- A load of a whole session of which nothing is left to flush leaves nothing to flush.
abbrev pub LoadsLeaveNothing : Type 0
LoadsLeaveNothing = (load : Load) (world : World) → MayLoad load world → IsHale world → NothingIsLeft world.own.graph → NothingIsLeft (loaded_by load world).own.graph

-- what the three answer are objects of the same identities, in the same order and each once, and the one that had an identity before
pub record AnswerAllAlike (query : ObjectQuery) (objects answered together : List ObjId) (world first after batch : World) : Type 0 where
  pub joined : AnswerAlike (written world).own.mapping query.class (written world).own.graph first.own.graph after.own.graph objects answered
  pub selectin : AnswerAlike (written world).own.mapping query.class (written world).own.graph first.own.graph batch.own.graph objects together

-- All three answer such objects.
abbrev pub CallsAnswerAlike : Type 0
CallsAnswerAlike =
    (query : ObjectQuery) (objects answered together : List ObjId) (world first after batch : World) → IsHale world → AreSelected query objects answered together world first after batch
    → AnswerAllAlike query objects answered together world first after batch

-- One object, of the query's class, as each of the three calls answered it, and the place of one of its options of each sort. Its link
-- there was unloaded once all was written, as that of an object that they made is.
pub record IsAnsweredByEach (query : ObjectQuery) (objects answered together : List ObjId) (world first after batch : World) (place : RelNo) (one owner other : ObjId) : Type 0 where
  pub joined : list_any (λ (asked : RelNo). asked.0 == place.0) query.joined ≡ true
  pub selectin : list_any (λ (asked : RelNo). asked.0 == place.0) query.selectin ≡ true
  pub one_among : is_among objects one ≡ true
  pub one_of : is_of first.own.graph (written world).own.mapping query.class one ≡ true
  pub owner_among : is_among answered owner ≡ true
  pub owner_same : identity_key after.own.graph owner ≡ identity_key first.own.graph one
  pub owner_of : is_of after.own.graph (written world).own.mapping query.class owner ≡ true
  pub other_among : is_among together other ≡ true
  pub other_same : identity_key batch.own.graph other ≡ identity_key first.own.graph one
  pub unloaded : is_unloaded (old_link (written world).own.mapping query.class place (written world).own.graph (identity_key first.own.graph one)) ≡ true

-- both links were filled from one with the objects of the rows that are related to the object, and so with objects of the same identities
pub record AreFilledByBoth (mapped : Mapped) (relation : Relation) (rows : List Row) (old : Link) (after batch : Graph) (one other : Link) : Type 0 where
  pub joined : HoldsRows mapped relation rows old after one
  pub selectin : HoldsRows mapped relation rows old batch other
  pub alike : HoldAlike after batch relation.many old one other

-- And the link of each object, at the place of one of the options, holds what is related to it, whether it was filled by joins or by
-- further selects.
abbrev pub CallsFillAlike : Type 0
CallsFillAlike =
    (query : ObjectQuery) (objects answered together : List ObjId) (world first after batch : World) (place : RelNo) (one owner other : ObjId) → IsHale world → AreSelected query objects answered together world first after batch
    → IsOfItsRows first → IsOfItsRows batch → IsAnsweredByEach query objects answered together world first after batch place one owner other
    → AreFilledByBoth (written world).own.mapping (relation_of (written world).own.mapping query.class place)
    (related_to (written world).own.mapping (relation_of (written world).own.mapping query.class place) (bare (written world).store.tables)
    (rows_of (written world).own.mapping (bare (written world).store.tables) (relation_of (written world).own.mapping query.class place).target) first.own.graph one)
    (old_link (written world).own.mapping query.class place (written world).own.graph (identity_key first.own.graph one)) after.own.graph batch.own.graph (link_at after.own.graph owner place) (link_at batch.own.graph other place)

-- ---- links that are read one after another

-- the link of an object at a place is read, whatever it leads to
abbrev pub read_link : ObjId × RelNo → Unit {0} → World → Run World (Unit {0})
read_link link u = read_related link.0 link.1 >>= λ related. give tt

-- links are read, one after another
abbrev pub read_links : List (ObjId × RelNo) → World → Run World (Unit {0})
read_links links = each read_link tt links

-- Behind the call without options links of objects that it answered are read, each at a place where the class has a relationship. Each of
-- these calls too writes first what is to be written.
pub record AreReadInTurn (mapped : Mapped) (class : ClassId) (objects : List ObjId) (links : List (ObjId × RelNo)) (first lazy : World) : Type 0 where
  pub are : All (IsLinkOf mapped class objects first.own.graph) links
  pub read : Goes (read_links links) first tt lazy

-- So does that link where it is one of those which are read one after another behind the call without options.
abbrev pub CallsReadAlike : Type 0
CallsReadAlike =
    (query : ObjectQuery) (objects answered together : List ObjId) (world first after batch : World) (place : RelNo) (one owner other : ObjId) (links : List (ObjId × RelNo)) (lazy : World) → IsHale world
    → AreSelected query objects answered together world first after batch → IsOfItsRows first → IsOfItsRows batch → IsOfItsRows lazy → IsAnsweredByEach query objects answered together world first after batch place one owner other
    → AreReadInTurn (written world).own.mapping query.class objects links first lazy → list_any (is_link one place) links ≡ true
    → AreFilledAlike (written world).own.mapping (relation_of (written world).own.mapping query.class place)
    (related_to (written world).own.mapping (relation_of (written world).own.mapping query.class place) (bare (written world).store.tables)
    (rows_of (written world).own.mapping (bare (written world).store.tables) (relation_of (written world).own.mapping query.class place).target) first.own.graph one)
    (old_link (written world).own.mapping query.class place (written world).own.graph (identity_key first.own.graph one)) lazy.own.graph after.own.graph batch.own.graph
    (link_at lazy.own.graph one place) (link_at after.own.graph owner place) (link_at batch.own.graph other place)
