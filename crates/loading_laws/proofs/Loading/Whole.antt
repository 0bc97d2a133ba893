-- Lazy and joined loading answer the same objects and fill the same links.
use Rattle.std.proofs.Common.{◌≡◌, ◌⊎◌, inl, inr, ◌<◌, ◌==◌, ◌||◌, Bool, true, false, List, [], ◌∷◌, length, map, None, Some, Ok, refl, sym, ap, subst, ◌∙◌}
use Rattle.std.specs.List.{All, list_any}
use Rattle.std.proofs.lemmas.Bool.{eqb-true}
use Rattle.std.proofs.lemmas.List.Elements.{recursion_from_All}
use Rattle.base_core.specs.declared.ids.ClassId.{ClassId}
use Rattle.base_core.specs.declared.ids.ObjId.{ObjId}
use Rattle.base_core.specs.declared.ids.RelNo.{RelNo}
use Rattle.base_core.specs.declared.value.Value.{Value}
use Rattle.schema_core.specs.Tables.{same_values}
use Rattle.expr_types.specs.declared.select.ObjectQuery.{ObjectQuery}
use Rattle.sql_semantics.specs.Created.{bare}
use Rattle.sql_semantics.specs.Eval.{Row, Tables}
use Rattle.sql_semantics.specs.Rows.{answer}
use Rattle.class_types.specs.declared.mapped.Relation.{Relation}
use Rattle.class_mapping.specs.Mapped.{Mapped, relations_of, root_of}
use Rattle.class_mapping.specs.Related.{IsRelated}
use Rattle.class_mapping.proofs.Having.{Has, from_map}
use Rattle.keeper_core.specs.Beside.{on_own}
use Rattle.keeper_core.specs.Store.{Store}
use Rattle.object_arena.specs.declared.object.Link.{Link}
use Rattle.object_arena.specs.Fit.{relation_of}
use Rattle.object_arena.specs.Graph.{Graph, is_among}
use Rattle.object_arena.specs.Identity.{find_identity}
use Rattle.object_arena.proofs.GraphLemmas.{same_equiv}
use Rattle.main_selects.specs.MainSelect.{main_select}
use Rattle.load_filling.specs.Rows.{row_key}
use Rattle.load_rows.specs.Reading.{identity_key}
use Rattle.load_rows.specs.Links.{link_at}
use Rattle.load_calls.specs.Reading.{World, read}
use Rattle.load_batches.specs.Batches.{is_unloaded}
use Rattle.load_ends.specs.Ends.{with_first}
use Rattle.load_queries.specs.Queries.{load_select, take_objects}
use Rattle.joined_rows.specs.Parts.{parts_of}
use Rattle.load_queries.specs.Joined.{load_joined, take_answers}
use Rattle.load_targets.specs.Targets.{load_lazy}
use Rattle.loading_laws.specs.Answers.Answers.{AreRowsOf}
use Rattle.loading_laws.specs.Wide.Answers.{AreBlocks, CanBeJoined, CutsOwners, HasOnePartner}
use Rattle.loading_laws.proofs.Wide.Blocks.{answered_created, blocks_of}
use Rattle.loading_laws.specs.TiedRows.{HasOptions}
use Rattle.loading_laws.proofs.TiedRows.Joined.{options_give_tied}
use Rattle.loading_laws.proofs.ToOne.Legal.{legal_ordered}
use Rattle.loading_laws.proofs.ToOne.One.{options_put_one}
use Rattle.loading_laws.specs.Strategies.Filled.{Goes}
use Rattle.loading_laws.proofs.Strategies.Batch.{one_waiting}
use Rattle.loading_laws.proofs.Strategies.Goes.{parted, read_goes}
use Rattle.loading_laws.specs.Joined.Agree.{AreLoaded, HoldsItsKey}
use Rattle.loading_laws.specs.Joined.Joined.{AnswerAlike, AreAnswered, IsJoining, first_keys}
use Rattle.loading_laws.proofs.Joined.Fills.{place_within}
use Rattle.loading_laws.proofs.Joined.Given.{among_has, has_among}
use Rattle.loading_laws.proofs.Joined.Objects.{answer_alike, joined_answered, selected_in}
use Rattle.loading_laws.proofs.Joined.Owners.{added_by, from_steps, is_ready}
use Rattle.loading_laws.specs.Loaders.Linked.{AgreesWithMap, HoldAlike, HoldsRows, IsReady, IsStage, related_to}
use Rattle.loading_laws.specs.Loaders.OwnRows.{AreOfTheirRows}
use Rattle.loading_laws.proofs.Loaders.EachKind.{IsOpen, IsSet, opened, owned_related}
use Rattle.loading_laws.proofs.Loaders.Loads.{lazily, lazy_by}
use Rattle.loading_laws.specs.Loading.Loadable.{IsLoadable, rows_of}
use Rattle.loading_laws.specs.Loading.Whole.{AreBothRead, AreSettled, IsOwner, old_link}
use Rattle.loading_laws.proofs.Loading.First.{leaves_ready, readable}
use Rattle.loading_laws.proofs.Loading.Inherited.{reads_keys}
use Rattle.loading_laws.proofs.Loading.Joining.{are_joined, read_key}
use Rattle.loading_laws.proofs.Loading.Related.{joined_holds}
use Rattle.loading_laws.proofs.Loading.Rows.{held_of, legal_of, main_of, rows_are}
use Rattle.loading_laws.proofs.Loading.Settled.{agrees_at, settled}

-- ---- what the selects answer

record AreAnswers (mapped : Mapped) (query : ObjectQuery) (w : World) : Type 0 where
  plain : List Row
  joined : List Row
  own_rows : answer mapped.schema (bare w.store.tables) query.select ≡ Ok plain
  main_rows : answer mapped.schema (bare w.store.tables) (main_select mapped query) ≡ Ok joined

answers_of : (mapped : Mapped) (query : ObjectQuery) (objects answered : List ObjId) (w first after : World) → AreBothRead mapped query objects answered w first after → AreAnswers mapped query w
unfolding load_select load_joined
answers_of mapped query objects answered w first after both =
    let g = both.selected in
    let h = both.joined in
    let one = parted (read mapped.schema query.select) (λ (rows : List Row). on_own (take_objects mapped query.class rows)) w objects first (record { answer = g.answer; leaves = g.leaves }) in
    let other =
    parted (read mapped.schema (main_select mapped query)) (λ (rows : List Row). on_own (take_answers mapped query.class (parts_of mapped query.class query.joined) rows)) w answered after (record { answer = h.answer; leaves = h.leaves }) in
    record {
      plain = one.value;
      joined = other.value;
      own_rows = (read_goes mapped.schema query.select w one.value one.between one.first).answered;
      main_rows = (read_goes mapped.schema (main_select mapped query) w other.value other.between other.first).answered;
    }

-- what it leaves out it leaves out by rows of its own sources
cuts_owners : (mapped : Mapped) (query : ObjectQuery) (w : World) → IsLoadable mapped query w → CutsOwners mapped (bare w.store.tables) query
cuts_owners mapped query w is = record { not_distinct = is.cuts.not_distinct; cut = by is.cuts.cut }
  where
    by : ((query.select.limit ≡ None) × (query.select.offset ≡ None)) ⊎ All (λ (place : RelNo). (relation_of mapped query.class place).many ≡ false) query.joined
        → ((query.select.limit ≡ None) × (query.select.offset ≡ None)) ⊎ HasOnePartner mapped (bare w.store.tables) query
    by (inl none) = inl none
    by (inr ends) =
        inr
        (options_put_one mapped (bare w.store.tables) query
        (record {
          has = is.has;
          related = is.related;
          class = is.class;
          places = is.places;
          ends = ends;
          begins = is.begins;
          held = held_of mapped query w is;
          legal = legal_of mapped query w is;
          ordered = legal_ordered mapped.schema w.store.tables is.sound.legal is.sound.ascending;
        }))

joining_of : (mapped : Mapped) (query : ObjectQuery) (w : World) → IsLoadable mapped query w → (answers : AreAnswers mapped query w) → IsJoining mapped query answers.plain answers.joined w
joining_of mapped query w is answers =
    let tables : Tables = bare w.store.tables in
    let can : CanBeJoined mapped tables query = record {
      reads = is.reads;
      plain = is.plain;
      single = is.single;
      main = main_of mapped query w is;
      held = held_of mapped query w is;
      created = answered_created mapped.schema tables (main_select mapped query) answers.joined answers.main_rows;
    } in
    let options : HasOptions mapped (read_key mapped) query tables = record {
      has = is.has;
      related = is.related;
      class = is.class;
      places = is.places;
      begins = is.begins;
      held = held_of mapped query w is;
      legal = legal_of mapped query w is;
      reads = reads_keys mapped is.has;
    } in
    let blocks : AreBlocks mapped tables query answers.plain answers.joined = blocks_of mapped tables query can (cuts_owners mapped query w is) answers.plain answers.joined answers.own_rows answers.main_rows in
    record {
      has = is.has;
      related = is.related;
      class = is.class;
      places = is.places;
      fit = is.fit;
      own_rows = answers.own_rows;
      main_rows = answers.main_rows;
      rows = are_joined mapped query tables (rows_of mapped tables) (rows_are mapped query w is) options options_give_tied answers.plain answers.joined blocks;
    }

pub loads_answer_alike : (mapped : Mapped) (query : ObjectQuery) (objects answered : List ObjId) (w first after : World) → AreBothRead mapped query objects answered w first after
    → AnswerAlike mapped query.class w.own.graph first.own.graph after.own.graph objects answered
loads_answer_alike mapped query objects answered w first after both =
    let answers = answers_of mapped query objects answered w first after both in
    answer_alike mapped query answers.plain answers.joined objects answered w first after (joining_of mapped query w both.query_is answers) both.selected both.joined

-- ---- the row of an owner

from_first_keys : (keys : List (List Value)) (key : List Value) → Has (first_keys keys) key → Has keys key
from_first_keys keys key there = by (from_steps with_first (λ kept x z h. added_by (list_any (same_values x) kept) kept x z h) [] keys key there)
  where
    by : (Has [] key ⊎ Has keys key) → Has keys key
    by (inl h) = absurd h
    by (inr h) = h

keys_has : (graph : Graph) (objects : List ObjId) (object : ObjId) → is_among objects object ≡ true → Has (map (identity_key graph) objects) (identity_key graph object)
keys_has graph objects object among = among_has _ _ (by objects among)
  where
    or_true : (b : Bool) → (b || true) ≡ true
    or_true true = refl
    or_true false = refl

    by : (some : List ObjId) → is_among some object ≡ true → list_any (same_values (identity_key graph object)) (map (identity_key graph) some) ≡ true
    by [] there = absurd cc
    by (other ∷ some) there = at (other.0 == object.0) refl there (by some)
      where
        at : (b : Bool) → (other.0 == object.0) ≡ b → (b || is_among some object) ≡ true → (is_among some object ≡ true → list_any (same_values (identity_key graph object)) (map (identity_key graph) some) ≡ true)
            → (same_values (identity_key graph object) (identity_key graph other) || list_any (same_values (identity_key graph object)) (map (identity_key graph) some)) ≡ true
        at true is h more =
            let one : other ≡ object = ap (λ n. let o : ObjId = record { 0 = n } in o) (eqb-true other.0 object.0 is) in
            ap (λ (b : Bool). b || list_any (same_values (identity_key graph object)) (map (identity_key graph) some)) (ap (λ (o : ObjId). same_values (identity_key graph object) (identity_key graph o)) one ∙ same_equiv.refl (identity_key graph object))
        at false is h more = ap (λ (b : Bool). same_values (identity_key graph object) (identity_key graph other) || b) (more h) ∙ or_true (same_values (identity_key graph object) (identity_key graph other))

-- an object that was answered is found under the key of one of the rows
record HasRow (mapped : Mapped) (class : ClassId) (plain : List Row) (key : List Value) : Type 0 where
  row : Row
  among : list_any (same_values row) plain ≡ true
  is : row_key mapped class row ≡ key

row_of : (mapped : Mapped) (class : ClassId) (plain : List Row) (graph : Graph) (objects : List ObjId) (object : ObjId) → AreAnswered mapped class plain graph objects → is_among objects object ≡ true
    → HasRow mapped class plain (identity_key graph object)
row_of mapped class plain graph objects object answered among =
    let there = subst (λ (keys : List (List Value)). Has keys (identity_key graph object)) answered.keys (keys_has graph objects object among) in
    let from = from_map (row_key mapped class) plain (identity_key graph object) (from_first_keys (map (row_key mapped class) plain) (identity_key graph object) there) in
    record { row = from.0; among = has_among plain from.0 from.1; is = from.2 }

pub found_of : (mapped : Mapped) (class : ClassId) (plain : List Row) (graph : Graph) (objects : List ObjId) (object : ObjId) → AreAnswered mapped class plain graph objects → is_among objects object ≡ true
    → find_identity graph (root_of mapped class) (identity_key graph object) ≡ Some object
found_of mapped class plain graph objects object answered among =
    one_waiting (λ one. find_identity graph (root_of mapped class) (identity_key graph one) ≡ Some one) objects object
    (recursion_from_All (λ one. find_identity graph (root_of mapped class) (identity_key graph one) ≡ Some one) objects answered.found) among

-- links that hold objects of the same rows hold them alike
pub holds_alike : (mapped : Mapped) (relation : Relation) (rows : List Row) (old : Link) (first second : Graph) (one other : Link) → HoldsRows mapped relation rows old first one → HoldsRows mapped relation rows old second other
    → HoldAlike first second relation.many old one other
holds_alike mapped relation rows old first second one other a b = record { objects = a.objects; same = b.objects; one_link = a.link; other_link = b.link; alike = a.keys ∙ sym b.keys }

-- ---- an owner

-- an owner that both loads answered: its row, what both did with it, and what the laws of each kind ask of its link behind the own select
pub record IsAtHand (mapped : Mapped) (query : ObjectQuery) (objects answered : List ObjId) (w first after : World) (place : RelNo) (one owner : ObjId) : Type 0 where
  pub plain : List Row
  pub joined : List Row
  pub row : Row
  pub own_rows : answer mapped.schema (bare w.store.tables) query.select ≡ Ok plain
  pub row_is : row_key mapped query.class row ≡ identity_key first.own.graph one
  pub old_is : link_at first.own.graph one place ≡ old_link mapped query.class place w.own.graph (identity_key first.own.graph one)
  pub loaded : AreLoaded mapped query plain joined objects answered w first after row place one owner
  pub within : place.0 < length (relations_of mapped query.class)
  pub store : first.store ≡ w.store
  pub stage : IsStage mapped first
  pub ready : IsReady mapped (relation_of mapped query.class place) place first.own.graph one
  pub set : IsSet mapped (relation_of mapped query.class place) (rows_of mapped (bare w.store.tables) (relation_of mapped query.class place).target) first
  pub free : IsOpen mapped (relation_of mapped query.class place) place first.own.graph one

module _ (mapped : Mapped) (query : ObjectQuery) (objects answered : List ObjId) (w first after : World) (place : RelNo) (one owner : ObjId) (both : AreBothRead mapped query objects answered w first after)
    (own : IsOwner mapped query objects answered w first after place one owner) where
  abbrev class : ClassId
  class = query.class

  abbrev relation : Relation
  relation = relation_of mapped class place

  -- all rows of the target
  abbrev all : List Row
  all = rows_of mapped (bare w.store.tables) relation.target

  pub at_hand : IsAtHand mapped query objects answered w first after place one owner
  at_hand =
      let answers = answers_of mapped query objects answered w first after both in
      let plain : List Row = answers.plain in
      let joining = joining_of mapped query w both.query_is answers in
      let selected = selected_in mapped query plain answers.joined objects w first joining both.selected in
      let read_joined = joined_answered mapped query plain answers.joined answered w after joining both.joined in
      let row = row_of mapped class plain first.own.graph objects one selected.answered own.one_among in
      let one_found : find_identity first.own.graph (root_of mapped class) (row_key mapped class row.row) ≡ Some one =
      ap (find_identity first.own.graph (root_of mapped class)) row.is ∙ found_of mapped class plain first.own.graph objects one selected.answered own.one_among in
      let owner_found : find_identity after.own.graph (root_of mapped class) (row_key mapped class row.row) ≡ Some owner =
      ap (find_identity after.own.graph (root_of mapped class)) (row.is ∙ own.same) ∙ found_of mapped class plain after.own.graph answered owner read_joined.0 own.owner_among in
      let within = place_within mapped class query.joined place joining.places own.asked in
      let waits = is_ready mapped joining.has class place within row.row w.own.graph first.own.graph joining.fit selected.extends one one_found own.one_of in
      let old_is : link_at first.own.graph one place ≡ old_link mapped class place w.own.graph (identity_key first.own.graph one) = waits.waits ∙ ap (old_link mapped class place w.own.graph) row.is in
      let left = leaves_ready mapped query w (readable mapped query w both.query_is) objects first both.selected in
      let ready = left.ready place one within own.one_among own.one_of in
      let related : IsRelated mapped relation = owned_related mapped relation place first one left.stage ready.owner in
      let rows : AreRowsOf mapped relation.target (bare first.store.tables) all =
      subst (λ (store : Store). AreRowsOf mapped relation.target (bare store.tables) all) (sym selected.store) (rows_are mapped query w both.query_is relation.target related.target) in
      record {
        plain = plain;
        joined = answers.joined;
        row = row.row;
        own_rows = answers.own_rows;
        row_is = row.is;
        old_is = old_is;
        loaded = record {
          joining = joining;
          selected = both.selected;
          loaded = both.joined;
          lazy_owner = record { found = one_found; of = own.one_of };
          joined_owner = record { asked = own.asked; among = row.among; found = owner_found; of = own.owner_of; unloaded = ap is_unloaded (sym waits.waits ∙ old_is) ∙ own.unloaded };
        };
        within = within;
        store = left.store;
        stage = left.stage;
        ready = ready;
        set = record { has = left.stage.has; related = related; rooted = left.stage.graph.rooted; held = left.stage.held; rows = rows };
        free = opened mapped relation place first one left.stage ready (ap is_unloaded old_is ∙ own.unloaded);
      }

  module _ (settled_is : AreSettled mapped w first) where
    abbrev hand : IsAtHand mapped query objects answered w first after place one owner
    hand = at_hand

    own_rows : AreOfTheirRows mapped (bare first.store.tables) first.own.graph
    own_rows = subst (λ (s : Store). AreOfTheirRows mapped (bare s.tables) first.own.graph) (sym hand.store) settled_is.own

    -- the foreign key of a many-to-one link
    pub holds_key : relation.many ≡ false → HoldsItsKey mapped class relation hand.plain all first.own.graph hand.row one
    holds_key single =
        settled mapped query w first objects hand.plain place hand.row one both.query_is both.selected hand.own_rows hand.loaded.joined_owner.among hand.row_is hand.within hand.store hand.stage hand.ready settled_is.fresh own_rows single

    agrees : AgreesWithMap mapped relation all first.own.graph one
    agrees = λ single.
        let among = hand.loaded.joined_owner.among in
        agrees_at mapped query w both.query_is place hand.within single hand.plain hand.own_rows hand.row among first one hand.store hand.stage own_rows ((holds_key single).holds hand.row among refl) single

    -- what the joined load filled
    pub joined_related : HoldsRows mapped relation (related_to mapped relation (bare first.store.tables) all first.own.graph one) (link_at first.own.graph one place) after.own.graph (link_at after.own.graph owner place)
    joined_related = joined_holds mapped query hand.plain hand.joined all objects answered w first after hand.row place one owner hand.loaded hand.set hand.free holds_key agrees

    -- a lazy load fills it alike
    pub links_agree : (lazy : World) → Goes (load_lazy mapped one place) first tt lazy
        → HoldAlike lazy.own.graph after.own.graph relation.many (link_at first.own.graph one place) (link_at lazy.own.graph one place) (link_at after.own.graph owner place)
    links_agree lazy g =
        let read = lazily mapped relation place all first hand.set one lazy relation.far relation.many refl refl hand.free agrees (lazy_by mapped relation place one first lazy hand.ready.owner g) in
        holds_alike mapped relation (related_to mapped relation (bare first.store.tables) all first.own.graph one) (link_at first.own.graph one place) lazy.own.graph after.own.graph (link_at lazy.own.graph one place) (link_at after.own.graph owner place) read joined_related
