-- Joined and select-in loads behind one flush fill the same links, and a lazy read of such a link begins with what it waits for.
use Rattle.std.proofs.Common.{◌≡◌, ◌==◌, true, List, [], sym, subst}
use Rattle.std.specs.List.{All, list_any}
use Rattle.base_core.specs.declared.ids.ClassId.{ClassId}
use Rattle.base_core.specs.declared.ids.ObjId.{ObjId}
use Rattle.base_core.specs.declared.ids.RelNo.{RelNo}
use Rattle.expr_types.specs.declared.select.ObjectQuery.{ObjectQuery}
use Rattle.sql_semantics.specs.Created.{bare}
use Rattle.sql_semantics.specs.Eval.{Row}
use Rattle.class_types.specs.declared.mapped.Relation.{Relation}
use Rattle.class_mapping.specs.Mapped.{Mapped}
use Rattle.keeper_core.specs.Store.{Store}
use Rattle.object_arena.specs.declared.object.Link.{Link}
use Rattle.object_arena.specs.Fit.{IsFit, relation_of}
use Rattle.object_arena.specs.Graph.{Graph, is_among}
use Rattle.load_rows.specs.Reading.{identity_key}
use Rattle.load_rows.specs.Links.{link_at}
use Rattle.load_calls.specs.Reading.{World}
use Rattle.load_batches.specs.Batches.{is_unloaded}
use Rattle.load_queries.specs.Queries.{load_select}
use Rattle.load_queries.specs.Joined.{load_joined}
use Rattle.load_queries.specs.Selectin.{IsOption, load_objects}
use Rattle.loading_laws.specs.Strategies.Filled.{Goes}
use Rattle.loading_laws.specs.Loaders.Lazily.{CanBeRead}
use Rattle.loading_laws.specs.Answers.Answers.{AreRowsOf}
use Rattle.loading_laws.specs.Loaders.Linked.{AgreesWithMap, HoldsRows, IsReady, IsStage, related_to}
use Rattle.loading_laws.specs.Loaders.OwnRows.{AreOfTheirRows}
use Rattle.loading_laws.proofs.Loaders.Later.{IsLater}
use Rattle.loading_laws.specs.Loading.First.{LeavesReady}
use Rattle.loading_laws.specs.Loading.Loadable.{IsLoadable, rows_of}
use Rattle.loading_laws.specs.Loading.Strategies.{IsLinkOf}
use Rattle.loading_laws.specs.Loading.Whole.{AreSettled, IsOwner, old_link}
use Rattle.loading_laws.proofs.Loading.Alike as shared
use Rattle.loading_laws.proofs.Loading.Whole.{IsAtHand, holds_alike}
use Rattle.session_strategies.specs.Strategies.{AreFilledByBoth}

-- ---- the loads

module _ (mapped : Mapped) (query : ObjectQuery) (objects answered together : List ObjId) (w first after batch : World) (loadable : IsLoadable mapped query w) (options : All (IsOption mapped query.class) query.selectin)
    (selected : Goes (load_select mapped query) w objects first) (joined : Goes (load_joined mapped query) w answered after) (selectin : Goes (load_objects mapped query) w together batch) where
  abbrev class : ClassId
  class = query.class

  left : LeavesReady mapped class objects w first
  left = shared.left mapped query objects answered together w first after batch loadable options selected joined selectin

  -- the objects behind the own select, as a session has them: with nothing noted
  abbrev pub bared : World
  bared = record { own = record { graph = first.own.graph; notes = [] }; store = first.store }

  can_be : (link : ObjId × RelNo) → IsLinkOf mapped class objects bared.own.graph link → CanBeRead mapped bared.own.graph link
  can_be (object, place) is =
      let ready = left.ready place object is.within is.among is.of in
      subst (λ (relation : Relation). IsReady mapped relation place bared.own.graph object) (sym ready.owner.is) ready

  module _ (settled : AreSettled mapped w first) (of_rows : AreOfTheirRows mapped (bare w.store.tables) batch.own.graph) (place : RelNo) (one owner other : ObjId) (own : IsOwner mapped query objects answered w first after place one owner)
      (asked : list_any (λ (asked : RelNo). asked.0 == place.0) query.selectin ≡ true) (other_among : is_among together other ≡ true) (other_same : identity_key batch.own.graph other ≡ identity_key first.own.graph one) where
    abbrev relation : Relation
    relation = relation_of mapped class place

    abbrev all : List Row
    all = rows_of mapped (bare w.store.tables) relation.target

    abbrev related : List Row
    related = related_to mapped relation (bare w.store.tables) all first.own.graph one

    abbrev old : Link
    old = old_link mapped class place w.own.graph (identity_key first.own.graph one)

    abbrev hand : IsAtHand mapped query objects answered w first after place one owner
    hand = shared.hand mapped query objects answered together w first after batch loadable options selected joined selectin settled of_rows place one owner other own asked other_among other_same

    -- what a link holds, by the tables and the link before
    abbrev Holds : Graph → Link → Type 0
    Holds graph link = HoldsRows mapped relation related old graph link

    joined_holds : Holds after.own.graph (link_at after.own.graph owner place)
    joined_holds = shared.joined_holds mapped query objects answered together w first after batch loadable options selected joined selectin settled of_rows place one owner other own asked other_among other_same

    selectin_holds : Holds batch.own.graph (link_at batch.own.graph other place)
    selectin_holds = shared.selectin_holds mapped query objects answered together w first after batch loadable options selected joined selectin settled of_rows place one owner other own asked other_among other_same

    pub filled : AreFilledByBoth mapped relation related old after.own.graph batch.own.graph (link_at after.own.graph owner place) (link_at batch.own.graph other place)
    filled = record {
      joined = joined_holds;
      selectin = selectin_holds;
      alike = holds_alike mapped relation related old after.own.graph batch.own.graph (link_at after.own.graph owner place) (link_at batch.own.graph other place) joined_holds selectin_holds;
    }

    -- What a read of the link starts from, with nothing noted. Where persistent objects are of their rows behind it, the identity map
    -- agrees with them; and what is related then is so once all is written.
    pub record IsToRead : Type 0 where
      pub stage : IsStage mapped bared
      pub can : (links : List (ObjId × RelNo)) → All (IsLinkOf mapped class objects bared.own.graph) links → All (CanBeRead mapped bared.own.graph) links
      pub ready : IsReady mapped relation place bared.own.graph one
      pub rows : AreRowsOf mapped relation.target (bare bared.store.tables) all
      pub waits : is_unloaded (link_at bared.own.graph one place) ≡ true
      pub agrees : (u : World) → IsLater bared u → IsFit mapped u.own.graph → AreOfTheirRows mapped (bare bared.store.tables) u.own.graph → AgreesWithMap mapped relation all u.own.graph one
      pub held : (graph : Graph) (link : Link) → HoldsRows mapped relation (related_to mapped relation (bare bared.store.tables) all bared.own.graph one) (link_at bared.own.graph one place) graph link → Holds graph link

    pub to_read : IsToRead
    to_read = record {
      stage = record { has = left.stage.has; related = left.stage.related; graph = left.stage.graph; fit = left.stage.fit; held = left.stage.held };
      can = λ links are i d less. can_be _ (are i d less);
      ready = hand.ready;
      rows = hand.set.rows;
      waits = shared.unloaded mapped query objects answered together w first after batch loadable options selected joined selectin settled of_rows place one owner other own asked other_among other_same;
      agrees = λ u later fit of. shared.agrees_then mapped query objects answered together w first after batch loadable options selected joined selectin settled of_rows place one owner other own asked other_among other_same u (record { kept = later.kept; store = later.store }) fit (subst (λ (s : Store). AreOfTheirRows mapped (bare s.tables) u.own.graph) left.store of);
      held = shared.as_before mapped query objects answered together w first after batch loadable options selected joined selectin settled of_rows place one owner other own asked other_among other_same;
    }
