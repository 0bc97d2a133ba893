-- Lazy, joined and select-in loading answer the same objects and fill the same links.
use Rattle.std.proofs.Common.{ℕ, ◌==◌, List, sym, ap, subst}
use Rattle.std.specs.List.{All}
use Rattle.std.proofs.lemmas.Bool.{and_parts, eqb-true}
use Rattle.std.proofs.lemmas.List.Elements.{recursion_from_All}
use Rattle.base_core.specs.declared.ids.ClassId.{ClassId}
use Rattle.base_core.specs.declared.ids.ObjId.{ObjId}
use Rattle.base_core.specs.declared.ids.RelNo.{RelNo}
use Rattle.expr_types.specs.declared.select.ObjectQuery.{ObjectQuery}
use Rattle.sql_semantics.specs.Created.{bare}
use Rattle.sql_semantics.specs.Eval.{Row}
use Rattle.class_types.specs.declared.mapped.Relation.{Relation}
use Rattle.class_mapping.specs.Mapped.{Mapped}
use Rattle.class_mapping.proofs.Having.{some_of}
use Rattle.object_arena.specs.declared.object.Link.{Link}
use Rattle.object_arena.specs.Fit.{IsFit, relation_of}
use Rattle.object_arena.specs.Graph.{Graph}
use Rattle.load_rows.specs.Reading.{identity_key}
use Rattle.load_rows.specs.Links.{link_at}
use Rattle.load_calls.specs.Reading.{World}
use Rattle.loading_laws.proofs.Members.Choices.{every_has}
use Rattle.loading_laws.proofs.Joined.Owners.{object_is}
use Rattle.loading_laws.specs.Loaders.Lazily.{CanBeRead, is_link}
use Rattle.loading_laws.specs.Loaders.Linked.{HoldsRows, IsReady, related_to}
use Rattle.loading_laws.proofs.Loaders.Later.{IsLater}
use Rattle.loading_laws.proofs.Loaders.Lazily.{links_kept, links_read}
use Rattle.loading_laws.specs.Loading.First.{LeavesReady}
use Rattle.loading_laws.specs.Loading.Loadable.{rows_of}
use Rattle.loading_laws.specs.Loading.Strategies.{AnswerAndFillAlike, AreFilledAlike, AreInStep, AreReadByEach, IsLinkOf, IsReadByEach}
use Rattle.loading_laws.specs.Loading.Whole.{IsOwner, old_link}
use Rattle.loading_laws.proofs.Loading.Alike as alike
use Rattle.loading_laws.proofs.Loading.FitLoads.{IsFirm, links_fit}
use Rattle.loading_laws.proofs.Loading.Whole.{IsAtHand, holds_alike}

-- ---- the three loads

module _ (mapped : Mapped) (query : ObjectQuery) (links : List (ObjId × RelNo)) (objects answered together : List ObjId) (w first lazy after batch : World) (each : AreReadByEach mapped query links objects answered together w first lazy after batch) where
  abbrev class : ClassId
  class = query.class

  left : LeavesReady mapped class objects w first
  left = alike.left mapped query objects answered together w first after batch each.query_is each.options each.selected each.joined each.selectin

  can_be : (link : ObjId × RelNo) → IsLinkOf mapped class objects first.own.graph link → CanBeRead mapped first.own.graph link
  can_be (object, place) is =
      let ready = left.ready place object is.within is.among is.of in
      subst (λ (relation : Relation). IsReady mapped relation place first.own.graph object) (sym ready.owner.is) ready

  can_be_read : All (CanBeRead mapped first.own.graph) links
  can_be_read = λ i d less. can_be _ (each.read i d less)

  lazy_later : IsLater first lazy
  lazy_later = links_kept mapped first left.stage links lazy can_be_read each.lazily

  -- the objects fit still
  firm : IsFirm mapped first
  firm = alike.firm mapped query objects answered together w first after batch each.query_is each.options each.selected each.joined each.selectin

  lazy_fit : IsFit mapped lazy.own.graph
  lazy_fit = links_fit mapped first lazy links firm can_be_read each.lazily

  module _ (step : AreInStep mapped w first lazy batch) (place : RelNo) (one owner other : ObjId) (asked : IsReadByEach mapped query links answered together w first after batch place one owner other) where
    abbrev relation : Relation
    relation = relation_of mapped class place

    abbrev all : List Row
    all = rows_of mapped (bare w.store.tables) relation.target

    abbrev related : List Row
    related = related_to mapped relation (bare w.store.tables) all first.own.graph one

    abbrev old : Link
    old = old_link mapped class place w.own.graph (identity_key first.own.graph one)

    link_of : IsLinkOf mapped class objects first.own.graph (one, place)
    link_of =
        let found = some_of (is_link one place) links asked.read in
        let is = every_has (IsLinkOf mapped class objects first.own.graph) links found.0 (recursion_from_All (IsLinkOf mapped class objects first.own.graph) links each.read) found.1 in
        let parts = and_parts (found.0.0.0 == one.0) (found.0.1.0 == place.0) found.2 in
        subst (λ (p : RelNo). IsLinkOf mapped class objects first.own.graph (one, p)) (ap (λ (n : ℕ). let p : RelNo = record { 0 = n } in p) (eqb-true found.0.1.0 place.0 parts.1))
        (subst (λ (o : ObjId). IsLinkOf mapped class objects first.own.graph (o, found.0.1)) (object_is found.0.0 one parts.0) is)

    abbrev own : IsOwner mapped query objects answered w first after place one owner
    own = record { asked = asked.joined; one_among = link_of.among; owner_among = asked.owner_among; same = sym asked.owner_same; one_of = link_of.of; owner_of = asked.owner_of; unloaded = asked.unloaded }

    abbrev hand : IsAtHand mapped query objects answered w first after place one owner
    hand = alike.hand mapped query objects answered together w first after batch each.query_is each.options each.selected each.joined each.selectin step.settled step.selectin place one owner other own asked.selectin asked.other_among asked.other_same

    -- what a link holds, by the tables and the link before
    abbrev Holds : Graph → Link → Type 0
    Holds graph link = HoldsRows mapped relation related old graph link

    lazy_holds : Holds lazy.own.graph (link_at lazy.own.graph one place)
    lazy_holds =
        let unloaded = alike.unloaded mapped query objects answered together w first after batch each.query_is each.options each.selected each.joined each.selectin step.settled step.selectin place one owner other own asked.selectin asked.other_among asked.other_same in
        let agrees = alike.agrees_then mapped query objects answered together w first after batch each.query_is each.options each.selected each.joined each.selectin step.settled step.selectin place one owner other own asked.selectin asked.other_among asked.other_same lazy lazy_later lazy_fit step.lazily in
        alike.as_before mapped query objects answered together w first after batch each.query_is each.options each.selected each.joined each.selectin step.settled step.selectin place one owner other own asked.selectin asked.other_among asked.other_same lazy.own.graph (link_at lazy.own.graph one place)
        (links_read mapped relation place one all first left.stage hand.ready hand.set.rows unloaded links lazy can_be_read asked.read agrees each.lazily)

    joined_holds : Holds after.own.graph (link_at after.own.graph owner place)
    joined_holds = alike.joined_holds mapped query objects answered together w first after batch each.query_is each.options each.selected each.joined each.selectin step.settled step.selectin place one owner other own asked.selectin asked.other_among asked.other_same

    selectin_holds : Holds batch.own.graph (link_at batch.own.graph other place)
    selectin_holds = alike.selectin_holds mapped query objects answered together w first after batch each.query_is each.options each.selected each.joined each.selectin step.settled step.selectin place one owner other own asked.selectin asked.other_among asked.other_same

    filled : AreFilledAlike mapped relation related old lazy.own.graph after.own.graph batch.own.graph (link_at lazy.own.graph one place) (link_at after.own.graph owner place) (link_at batch.own.graph other place)
    filled = record {
      one_holds = lazy_holds;
      other_holds = joined_holds;
      another_holds = selectin_holds;
      one_and_other = holds_alike mapped relation related old lazy.own.graph after.own.graph (link_at lazy.own.graph one place) (link_at after.own.graph owner place) lazy_holds joined_holds;
      one_and_another = holds_alike mapped relation related old lazy.own.graph batch.own.graph (link_at lazy.own.graph one place) (link_at batch.own.graph other place) lazy_holds selectin_holds;
    }

  pub strategies_agree : AreInStep mapped w first lazy batch → AnswerAndFillAlike mapped query links objects answered together w first lazy after batch
  strategies_agree step = record {
    joined = alike.joined_alike mapped query objects answered together w first after batch each.query_is each.options each.selected each.joined each.selectin;
    selectin = alike.selectin_alike mapped query objects answered together w first after batch each.query_is each.options each.selected each.joined each.selectin;
    filled = λ place one owner other asked. filled step place one owner other asked;
  }
