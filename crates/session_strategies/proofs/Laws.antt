-- The laws of the strategies at the calls of a whole session.
use Rattle.std.proofs.Common.{◌≡◌, true, List, refl, sym, ap, subst, ◌∙◌}
use Rattle.std.specs.List.{list_any}
use Rattle.base_core.specs.declared.ids.ObjId.{ObjId}
use Rattle.base_core.specs.declared.ids.RelNo.{RelNo}
use Rattle.expr_types.specs.declared.select.ObjectQuery.{ObjectQuery}
use Rattle.sql_semantics.specs.Created.{bare}
use Rattle.sql_semantics.specs.Eval.{Row}
use Rattle.class_types.specs.declared.mapped.Relation.{Relation}
use Rattle.class_mapping.specs.Mapped.{Mapped}
use Rattle.keeper_core.specs.Programs.{Run}
use Rattle.keeper_core.specs.Store.{Store}
use Rattle.object_arena.specs.declared.object.Link.{Link}
use Rattle.object_arena.specs.Fit.{relation_of}
use Rattle.object_arena.specs.Graph.{Graph}
use Rattle.load_rows.specs.Reading.{identity_key}
use Rattle.load_rows.specs.Links.{link_at}
use Rattle.load_calls.specs.Reading as loads
use Rattle.load_queries.specs.Queries.{load_select}
use Rattle.load_queries.specs.Joined.{load_joined}
use Rattle.load_queries.specs.Selectin as load_queries
use Rattle.load_queries.specs.Selectin.{load_objects}
use Rattle.load_steps.specs.Loads.{Load}
use Rattle.ranked_rows.specs.Laws.{MainSelectsAnswerTableRows, OwnSelectsAnswerTableRows, SelectsAnswerTableRows}
use Rattle.loading_laws.specs.Joined.Joined.{AnswerAlike}
use Rattle.loading_laws.specs.Loaders.Lazily.{is_link}
use Rattle.loading_laws.specs.Loaders.Linked.{HoldsRows, related_to}
use Rattle.loading_laws.specs.Loaders.OwnRows.{AreOfTheirRows}
use Rattle.loading_laws.specs.Loading.Loadable.{IsLoadable, rows_of}
use Rattle.loading_laws.specs.Loading.Strategies.{AreFilledAlike}
use Rattle.loading_laws.specs.Loading.Whole.{AreSettled, IsOwner, old_link}
use Rattle.loading_laws.proofs.Loading.Whole.{holds_alike}
use Rattle.loading_laws.proofs.MainSelects.Unjoined.{plain_query}
use Rattle.loading_laws.specs.Strategies.Filled.{Goes}
use Rattle.session_calls.specs.Parts.{World}
use Rattle.session_laws.specs.Loads.{loading_of}
use Rattle.session_laws.specs.Preparing.{PreparationsLeaveReread}
use Rattle.session_laws.specs.Whole.{IsHale}
use Rattle.session_scopes.specs.Loads.{on_load}
use Rattle.session_laws.proofs.Whole.Inside.{IsWithin}
use Rattle.session_load_laws.specs.Loads.{LoadsLeaveLoaded, MayLoad, loaded_by}
use Rattle.session_load_laws.proofs.Going.{loaded_going}
use Rattle.session_laws.proofs.Health.Acts.{FlushLeavesSound, FlushWritesAll}
use Rattle.session_laws.proofs.OwnRows.Standing.{hierarchies}
use Rattle.session_strategies.specs.Asked.{IsOfClass, by_joins, by_selects, lazily, written}
use Rattle.loading_laws.proofs.Loading.Alike.{batch_stays, first_stays, joined_alike, selectin_alike}
use Rattle.session_strategies.specs.Strategies.{AnswerAllAlike, AreFilledByBoth, AreReadInTurn, AreSelected, CallsAnswerAlike, CallsFillAlike, CallsReadAlike, IsAnsweredByEach, IsOfItsRows}
use Rattle.session_strategies.proofs.Alike.{filled, to_read}
use Rattle.session_strategies.proofs.Fresh.{fresh_of}
use Rattle.session_strategies.specs.Unwritten.{NothingIsLeft}
use Rattle.session_strategies.proofs.Kept.{nothing_left}
use Rattle.session_strategies.proofs.Loaded.{load_left}
use Rattle.session_strategies.proofs.InTurn.{links_hold}
use Rattle.session_strategies.proofs.Loading.{IsLoaded, call_loads, joined_loaded, own_loaded, taking, together_loaded, written_led}

-- a query that a whole session is asked for can be loaded by any strategy
loadable : (query : ObjectQuery) (world : World) → IsHale world → IsOfClass world.own.mapping world.store.tables query → IsLoadable world.own.mapping query (loading_of world)
loadable query world hale is = record {
  has = hierarchies world.own.mapping hale.keyed.well;
  over = is.over;
  related = hale.keyed.well.related;
  class = is.class;
  places = is.joined;
  begins = is.begins;
  reads = is.reads;
  plain = is.plain;
  few = is.few;
  single = is.single;
  cuts = is.cuts;
  sound = record { legal = hale.healthy.sound.legal; ascending = hale.healthy.tidy.ascending.tables };
  created = is.created;
  graph = hale.healthy.sound.graph;
  fit = hale.keyed.fit;
}

module _ (reads : PreparationsLeaveReread) (keeps : FlushLeavesSound) (answers : FlushWritesAll) (query : ObjectQuery) (objects answered together : List ObjId) (world first after batch : World) (hale : IsHale world) (asked : AreSelected query objects answered together world first after batch) where
  abbrev here : World
  here = written world

  abbrev mapped : Mapped
  mapped = here.own.mapping

  abbrev start : loads.World
  start = loading_of here

  own : IsLoaded (lazily query) world objects first
  own = call_loads (lazily query) world objects first asked.own

  joined : IsLoaded (by_joins query) world answered after
  joined = call_loads (by_joins query) world answered after asked.joined

  selectin : IsLoaded (by_selects query) world together batch
  selectin = call_loads (by_selects query) world together batch asked.selectin

  can : IsLoadable mapped query start
  can = loadable query here (written_led reads keeps answers world hale).here asked.query_is

  own_goes : Goes (load_select mapped query) start objects own.now
  own_goes = own_loaded mapped query start objects own.now own.loaded

  joined_goes : Goes (load_joined mapped query) start answered joined.now
  joined_goes = joined_loaded mapped query start answered joined.now joined.loaded

  together_goes : Goes (load_objects mapped query) start together selectin.now
  together_goes = together_loaded mapped query start together selectin.now selectin.loaded

  -- what the session took in are the objects of the load
  own_graph : own.now.own.graph ≡ first.own.graph
  own_graph = ap (λ (v : World). v.own.graph) own.is

  joined_graph : joined.now.own.graph ≡ after.own.graph
  joined_graph = ap (λ (v : World). v.own.graph) joined.is

  selectin_graph : selectin.now.own.graph ≡ batch.own.graph
  selectin_graph = ap (λ (v : World). v.own.graph) selectin.is

  abbrev Alike : Graph → Graph → List ObjId → Type 0
  Alike one other found = AnswerAlike mapped query.class here.own.graph one other objects found

  pub alike : AnswerAllAlike query objects answered together world first after batch
  alike = record {
    joined =
        subst (λ (one : Graph). Alike one after.own.graph answered) own_graph
        (subst (λ (other : Graph). Alike own.now.own.graph other answered) joined_graph
        (joined_alike mapped query objects answered together start own.now joined.now selectin.now can asked.query_is.selectin own_goes joined_goes together_goes));
    selectin =
        subst (λ (one : Graph). Alike one batch.own.graph together) own_graph
        (subst (λ (other : Graph). Alike own.now.own.graph other together) selectin_graph
        (selectin_alike mapped query objects answered together start own.now joined.now selectin.now can asked.query_is.selectin own_goes joined_goes together_goes));
  }

  -- what the objects hold once all is written is what their rows have, and behind the first call they are of their rows' classes
  settled : AreOfTheirRows mapped (bare own.now.store.tables) own.now.own.graph → AreSettled mapped start own.now
  settled of_rows = record {
    fresh = fresh_of mapped here.store.tables here.own.graph (written_led reads keeps answers world hale).here.healthy.sound.fresh (nothing_left answers world hale own.flushed);
    own = subst (λ (s : Store). AreOfTheirRows mapped (bare s.tables) own.now.own.graph) (first_stays mapped query objects answered together start own.now joined.now selectin.now can asked.query_is.selectin own_goes joined_goes together_goes) of_rows;
  }

  module _ (place : RelNo) (one owner other : ObjId) where
    abbrev relation : Relation
    relation = relation_of mapped query.class place

    abbrev Fills : World → World → World → Type 0
    Fills first after batch =
        IsOfItsRows first → IsOfItsRows batch → IsAnsweredByEach query objects answered together world first after batch place one owner other
        → AreFilledByBoth mapped relation (related_to mapped relation (bare here.store.tables) (rows_of mapped (bare here.store.tables) relation.target) first.own.graph one)
        (old_link mapped query.class place here.own.graph (identity_key first.own.graph one)) after.own.graph batch.own.graph (link_at after.own.graph owner place) (link_at batch.own.graph other place)

    owner_by : IsAnsweredByEach query objects answered together world (taking own.now here) (taking joined.now here) (taking selectin.now here) place one owner other → IsOwner mapped query objects answered start own.now joined.now place one owner
    owner_by by = record {
      asked = by.joined;
      one_among = by.one_among;
      owner_among = by.owner_among;
      same = sym by.owner_same;
      one_of = by.one_of;
      owner_of = by.owner_of;
      unloaded = by.unloaded;
    }

    fills_taking : Fills (taking own.now here) (taking joined.now here) (taking selectin.now here)
    fills_taking first_rows batch_rows by =
        filled mapped query objects answered together start own.now joined.now selectin.now can asked.query_is.selectin own_goes joined_goes together_goes (settled first_rows)
        (subst (λ (s : Store). AreOfTheirRows mapped (bare s.tables) selectin.now.own.graph)
        (batch_stays mapped query objects answered together start own.now joined.now selectin.now can asked.query_is.selectin own_goes joined_goes together_goes) batch_rows)
        place one owner other (owner_by by) by.selectin by.other_among by.other_same

    pub fills : Fills first after batch
    fills =
        subst (λ (v : World). Fills v after batch) own.is (subst (λ (v : World). Fills (taking own.now here) v batch) joined.is (subst (λ (v : World). Fills (taking own.now here) (taking joined.now here) v) selectin.is fills_taking))

    -- ---- links that are read behind the first call

    module _ (selects : SelectsAnswerTableRows) (owns : OwnSelectsAnswerTableRows) (mains : MainSelectsAnswerTableRows) (leaves : LoadsLeaveLoaded) (links : List (ObjId × RelNo)) (lazy : World) where
      abbrev load : loads.World → Run loads.World (List ObjId)
      load = load_queries.load_query mapped (lazily query)

      may : MayLoad (Load.Objects (lazily query)) here
      may = (
        record {
          class = asked.query_is.class;
          begins = record { more = asked.query_is.begins.more; first = asked.query_is.begins.first; joins = asked.query_is.begins.joins };
          reads = asked.query_is.reads;
          single = asked.query_is.single;
        },
        tt,
      )

      is_load : (load start).after ≡ loaded_by (Load.Objects (lazily query)) here
      is_load = ap (λ (run : Run loads.World (List ObjId)). run.after) (plain_query mapped (lazily query) start refl)

      within : IsWithin world.own (taking own.now here)
      unfolding on_load
      within =
          subst (λ (u : loads.World). IsWithin world.own (taking u here)) own.loaded.leaves
          ((loaded_going leaves (Load.Objects (lazily query)) load world.own here is_load may ((written_led reads keeps answers world hale).told tt own.flushed)).told objects own.loaded.answer)

      nothing : NothingIsLeft own.now.own.graph
      nothing =
          subst (λ (u : loads.World). NothingIsLeft u.own.graph) (sym is_load ∙ own.loaded.leaves)
          (load_left selects owns mains leaves here (written_led reads keeps answers world hale).here (Load.Objects (lazily query)) may (nothing_left answers world hale own.flushed))

      abbrev Reads : World → World → World → Type 0
      Reads first after batch =
          IsOfItsRows first → IsOfItsRows batch → IsOfItsRows lazy → IsAnsweredByEach query objects answered together world first after batch place one owner other → AreReadInTurn mapped query.class objects links first lazy
          → list_any (is_link one place) links ≡ true → AreFilledAlike mapped relation (related_to mapped relation (bare here.store.tables) (rows_of mapped (bare here.store.tables) relation.target) first.own.graph one)
          (old_link mapped query.class place here.own.graph (identity_key first.own.graph one)) lazy.own.graph after.own.graph batch.own.graph (link_at lazy.own.graph one place) (link_at after.own.graph owner place) (link_at batch.own.graph other place)

      reads_taking : Reads (taking own.now here) (taking joined.now here) (taking selectin.now here)
      reads_taking first_rows batch_rows lazy_rows by turn among =
          let all : List Row = rows_of mapped (bare here.store.tables) relation.target in
          let rows : List Row = related_to mapped relation (bare here.store.tables) all own.now.own.graph one in
          let old : Link = old_link mapped query.class place here.own.graph (identity_key own.now.own.graph one) in
          let both = fills_taking first_rows batch_rows by in
          let batch_of : AreOfTheirRows mapped (bare here.store.tables) selectin.now.own.graph =
          subst (λ (s : Store). AreOfTheirRows mapped (bare s.tables) selectin.now.own.graph)
          (batch_stays mapped query objects answered together start own.now joined.now selectin.now can asked.query_is.selectin own_goes joined_goes together_goes) batch_rows in
          let read = to_read mapped query objects answered together start own.now joined.now selectin.now can asked.query_is.selectin own_goes joined_goes together_goes (settled first_rows) batch_of place one owner other (owner_by by) by.selectin by.other_among by.other_same in
          let held : HoldsRows mapped relation rows old lazy.own.graph (link_at lazy.own.graph one place) =
          read.held lazy.own.graph (link_at lazy.own.graph one place)
          (links_hold selects owns mains leaves reads keeps answers (taking own.now here) read.stage relation place one all read.ready read.rows read.waits world.own links lazy within nothing (read.can links turn.are) among
          (read.agrees (loading_of lazy)) lazy_rows turn.read) in
          record {
            one_holds = held;
            other_holds = both.joined;
            another_holds = both.selectin;
            one_and_other = holds_alike mapped relation rows old lazy.own.graph joined.now.own.graph (link_at lazy.own.graph one place) (link_at joined.now.own.graph owner place) held both.joined;
            one_and_another = holds_alike mapped relation rows old lazy.own.graph selectin.now.own.graph (link_at lazy.own.graph one place) (link_at selectin.now.own.graph other place) held both.selectin;
          }

      pub read_in_turn : Reads first after batch
      read_in_turn =
          subst (λ (v : World). Reads v after batch) own.is (subst (λ (v : World). Reads (taking own.now here) v batch) joined.is (subst (λ (v : World). Reads (taking own.now here) (taking joined.now here) v) selectin.is reads_taking))

pub answer_alike : PreparationsLeaveReread → FlushLeavesSound → FlushWritesAll → CallsAnswerAlike
answer_alike reads keeps answers query objects answered together world first after batch hale asked = alike reads keeps answers query objects answered together world first after batch hale asked

pub fill_alike : PreparationsLeaveReread → FlushLeavesSound → FlushWritesAll → CallsFillAlike
fill_alike reads keeps answers query objects answered together world first after batch place one owner other hale asked = fills reads keeps answers query objects answered together world first after batch hale asked place one owner other

pub read_alike : PreparationsLeaveReread → FlushLeavesSound → FlushWritesAll → SelectsAnswerTableRows → OwnSelectsAnswerTableRows → MainSelectsAnswerTableRows → LoadsLeaveLoaded → CallsReadAlike
read_alike reads keeps answers selects owns mains leaves query objects answered together world first after batch place one owner other links lazy hale asked =
    read_in_turn reads keeps answers query objects answered together world first after batch hale asked place one owner other selects owns mains leaves links lazy
