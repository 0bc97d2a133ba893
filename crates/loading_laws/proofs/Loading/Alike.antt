-- Joined and select-in loads answer the same objects and fill the same links; what a lazy load of such a link starts from.
use Rattle.std.proofs.Common.{◌≡◌, inl, inr, ◌==◌, Bool, true, false, List, [], ◌∷◌, map, Option, if◌then◌else◌, refl, sym, ap, subst, ◌∙◌}
use Rattle.std.specs.Prelude.{unwrap_or}
use Rattle.std.specs.List.{All, AllByRecursion, list_any}
use Rattle.std.proofs.lemmas.Bool.{and_from, and_parts, eq-eqb}
use Rattle.std.proofs.lemmas.List.Elements.{All-from_recursion, recursion_from_All}
use Rattle.base_core.specs.declared.ids.ClassId.{ClassId}
use Rattle.base_core.specs.declared.ids.ObjId.{ObjId}
use Rattle.base_core.specs.declared.ids.RelNo.{RelNo}
use Rattle.base_core.specs.declared.value.Value.{Value}
use Rattle.expr_types.specs.declared.select.ObjectQuery.{ObjectQuery}
use Rattle.sql_semantics.specs.Created.{bare}
use Rattle.sql_semantics.specs.Eval.{Row}
use Rattle.sql_semantics.specs.Shapes.{AreLegalRows, AreRows}
use Rattle.class_types.specs.declared.mapped.Relation.{Relation}
use Rattle.class_mapping.specs.Mapped.{Mapped, root_of}
use Rattle.class_mapping.proofs.Having.{Has, all_from, any_has, from_flat, has_flat, some_of}
use Rattle.keeper_core.specs.Programs.{give}
use Rattle.keeper_core.specs.Store.{Store}
use Rattle.object_arena.specs.declared.object.Link.{Link}
use Rattle.object_arena.specs.declared.object.State.{State}
use Rattle.object_arena.specs.Fit.{IsFit, relation_of}
use Rattle.object_arena.specs.Graph.{Graph, is_among, is_persistent, object_at}
use Rattle.object_arena.specs.Identity.{find_identity}
use Rattle.relations.specs.Mirror.{is_of}
use Rattle.load_rows.specs.Reading.{identity_key}
use Rattle.load_rows.specs.Links.{link_at}
use Rattle.load_calls.specs.Reading.{World}
use Rattle.load_batches.specs.Batches.{is_unloaded}
use Rattle.load_ends.specs.Ends.{key_of}
use Rattle.load_queries.specs.Queries.{load_select}
use Rattle.load_queries.specs.Joined.{load_joined}
use Rattle.load_queries.specs.Selectin.{IsOption, if_owner, is_owner, load_objects, load_options, owners_among, with_options}
use Rattle.loading_laws.specs.Strategies.Filled.{Goes}
use Rattle.loading_laws.proofs.Strategies.Goes.{given, parted, same_answer}
use Rattle.loading_laws.specs.Joined.Blocks.{referred_key}
use Rattle.loading_laws.specs.Joined.Joined.{AnswerAlike, AreAnswered}
use Rattle.loading_laws.proofs.Joined.Answered.{same_some}
use Rattle.loading_laws.proofs.Joined.Owners.{object_is}
use Rattle.loading_laws.specs.Loaders.Linked.{AgreesWithMap, HoldsRows, IsStage, related_to}
use Rattle.loading_laws.specs.Loaders.Options as option
use Rattle.loading_laws.specs.Loaders.Options.{IsAnswered}
use Rattle.loading_laws.specs.Loaders.OwnRows.{AreOfTheirRows}
use Rattle.loading_laws.proofs.Loaders.Later.{IsLater, found_later, key_same}
use Rattle.loading_laws.proofs.Loaders.Options.{options_kept, options_links}
use Rattle.loading_laws.specs.Loading.First.{LeavesReady}
use Rattle.loading_laws.specs.Loading.Loadable.{IsLoadable, rows_of}
use Rattle.loading_laws.specs.Loading.Whole.{AreBothRead, AreSettled, IsOwner, old_link}
use Rattle.loading_laws.proofs.Loading.First.{leaves_ready, readable}
use Rattle.loading_laws.proofs.Loading.FitLoads.{IsFirm}
use Rattle.loading_laws.proofs.Loading.FitOptions.{options_fit}
use Rattle.loading_laws.proofs.Loading.Rows.{legal_of}
use Rattle.loading_laws.proofs.Loading.Settled.{agrees_at}
use Rattle.loading_laws.proofs.Loading.Whole.{IsAtHand, at_hand, found_of, holds_key, joined_related, loads_answer_alike}

-- ---- objects in a later world

key_later : (w u : World) (object : ObjId) → IsLater w u → IsAnswered w.own.graph object → identity_key u.own.graph object ≡ identity_key w.own.graph object
key_later w u object later is = ap (λ (identity : Option (List Value)). unwrap_or identity []) (later.kept.stays.identities object is.0)

keys_later : (w u : World) (objects : List ObjId) → IsLater w u → AllByRecursion (IsAnswered w.own.graph) objects → map (identity_key u.own.graph) objects ≡ map (identity_key w.own.graph) objects
keys_later w u [] later are = refl
keys_later w u (object ∷ objects) later are =
    ap (λ (key : List Value). key ∷ map (identity_key u.own.graph) objects) (key_later w u object later are.0) ∙ ap (λ (keys : List (List Value)). identity_key w.own.graph object ∷ keys) (keys_later w u objects later are.1)

-- what was answered is so in a later world
answered_later : (mapped : Mapped) (class : ClassId) (rows : List Row) (w u : World) (objects : List ObjId) → IsStage mapped w → IsLater w u → All (IsAnswered w.own.graph) objects → AreAnswered mapped class rows w.own.graph objects
    → AreAnswered mapped class rows u.own.graph objects
answered_later mapped class rows w u objects stage later are answered = record {
  keys = keys_later w u objects later (recursion_from_All (IsAnswered w.own.graph) objects are) ∙ answered.keys;
  found = λ i d less.
      ap (find_identity u.own.graph (root_of mapped class)) (key_later w u _ later (are i d less))
      ∙ found_later w.own.graph u.own.graph (root_of mapped class) _ _ stage.graph later.kept (answered.found i d less);
}

-- ---- the owners among objects

owner_there : (mapped : Mapped) (class : ClassId) (graph : Graph) (one object : ObjId) (b : Bool) → is_owner mapped class graph one ≡ b → Has (if b then one ∷ [] else []) object → (one ≡ object) × (is_owner mapped class graph one ≡ true)
owner_there mapped class graph one object true is (inl same) = (same, is)
owner_there mapped class graph one object true is (inr there) = absurd there
owner_there mapped class graph one object false is there = absurd there

among_by : (objects : List ObjId) (object : ObjId) → Has objects object → is_among objects object ≡ true
among_by objects object there = any_has (λ (other : ObjId). other.0 == object.0) objects object there (eq-eqb object.0 object.0 refl)

has_by : (objects : List ObjId) (object : ObjId) → is_among objects object ≡ true → Has objects object
has_by objects object there = let found = some_of (λ (other : ObjId). other.0 == object.0) objects there in subst (Has objects) (object_is found.0 object found.2) found.1

each_owner : (mapped : Mapped) (class : ClassId) (graph : Graph) (objects : List ObjId) (P : ObjId → Type 0) → ((object : ObjId) → is_among objects object ≡ true → is_of graph mapped class object ≡ true → P object)
    → All P (owners_among mapped class graph objects)
unfolding owners_among
each_owner mapped class graph objects P each =
    All-from_recursion P (owners_among mapped class graph objects)
    (all_from P (owners_among mapped class graph objects) (λ object there.
    let from = from_flat (if_owner mapped class graph) objects object there in
    let is = owner_there mapped class graph from.0 object (is_owner mapped class graph from.0) refl from.2 in
    subst P is.0 (each from.0 (among_by objects from.0 from.1) (and_parts (is_persistent (object_at graph from.0).state) (is_of graph mapped class from.0) is.1).1)))

owner_among : (mapped : Mapped) (class : ClassId) (graph : Graph) (objects : List ObjId) (object : ObjId) → is_among objects object ≡ true → IsAnswered graph object → is_of graph mapped class object ≡ true
    → is_among (owners_among mapped class graph objects) object ≡ true
unfolding owners_among
owner_among mapped class graph objects object among is of =
    let owner : is_owner mapped class graph object ≡ true = and_from (is_persistent (object_at graph object).state) (is_of graph mapped class object) (ap (λ (state : State). is_persistent state) is.1) of in
    let here : Has (if_owner mapped class graph object) object = subst (λ (b : Bool). Has (if b then object ∷ [] else []) object) (sym owner) (inl refl) in
    among_by (owners_among mapped class graph objects) object (has_flat (if_owner mapped class graph) objects object object (has_by objects object among) here)

-- ---- the loads

module _ (mapped : Mapped) (query : ObjectQuery) (objects answered together : List ObjId) (w first after batch : World) (loadable : IsLoadable mapped query w) (options : All (IsOption mapped query.class) query.selectin)
    (selected : Goes (load_select mapped query) w objects first) (joined : Goes (load_joined mapped query) w answered after) (selectin : Goes (load_objects mapped query) w together batch) where
  abbrev pub class : ClassId
  class = query.class

  abbrev both : AreBothRead mapped query objects answered w first after
  both = record { query_is = loadable; selected = selected; joined = joined }

  pub left : LeavesReady mapped class objects w first
  left = leaves_ready mapped query w (readable mapped query w loadable) objects first selected

  -- the select-in load begins with the own select
  record BeginsSo : Type 0 where
    same : objects ≡ together
    further : Goes (load_options mapped class objects query.selectin) first tt batch

  begins_so : BeginsSo
  unfolding load_objects
  begins_so =
      let two = parted (load_select mapped query) (with_options mapped query) w together batch (record { answer = selectin.answer; leaves = selectin.leaves }) in
      let value : two.value ≡ objects = same_answer two.value objects (sym two.first.answer ∙ selected.answer) in
      let between : two.between ≡ first = sym two.first.leaves ∙ selected.leaves in
      let three = parted (load_options mapped class two.value query.selectin) (λ (u : Unit {0}). give two.value) two.between together batch two.second in
      let end = given two.value together three.between batch three.second in
      let filling : Goes (load_options mapped class two.value query.selectin) two.between tt batch = subst (λ (x : World). Goes (load_options mapped class two.value query.selectin) two.between tt x) end.1 three.first in
      record {
        same = sym value ∙ end.0;
        further = subst (λ (x : World). Goes (load_options mapped class objects query.selectin) x tt batch) between (subst (λ (found : List ObjId). Goes (load_options mapped class found query.selectin) two.between tt batch) value filling);
      }

  batch_later : IsLater first batch
  batch_later = options_kept mapped class objects left.stage.has left.stage.related loadable.class query.selectin first batch options left.stage.graph begins_so.further

  -- the tables stay
  pub first_stays : first.store ≡ w.store
  first_stays = left.store

  pub batch_stays : batch.store ≡ w.store
  batch_stays = batch_later.store ∙ left.store

  -- the objects fit still
  pub firm : IsFirm mapped first
  firm = record { stage = left.stage; legal = subst (λ (s : Store). AreLegalRows mapped.schema (bare s.tables)) (sym left.store) (legal_of mapped query w loadable) }

  batch_fit : IsFit mapped batch.own.graph
  batch_fit = options_fit mapped class loadable.class objects query.selectin first batch firm options left.answered begins_so.further

  pub joined_alike : AnswerAlike mapped class w.own.graph first.own.graph after.own.graph objects answered
  joined_alike = loads_answer_alike mapped query objects answered w first after both

  selectin_answered : AreAnswered mapped class joined_alike.rows batch.own.graph together
  selectin_answered = subst (AreAnswered mapped class joined_alike.rows batch.own.graph) begins_so.same (answered_later mapped class joined_alike.rows first batch objects left.stage batch_later left.answered joined_alike.first_are)

  pub selectin_alike : AnswerAlike mapped class w.own.graph first.own.graph batch.own.graph objects together
  selectin_alike = record {
    rows = joined_alike.rows;
    first_are = joined_alike.first_are;
    second_are = selectin_answered;
    first_kept = joined_alike.first_kept;
    second_kept = λ key object there. found_later first.own.graph batch.own.graph (root_of mapped class) key object left.stage.graph batch_later.kept (joined_alike.first_kept key object there);
  }

  module _ (settled : AreSettled mapped w first) (of_rows : AreOfTheirRows mapped (bare w.store.tables) batch.own.graph) (place : RelNo) (one owner other : ObjId) (own : IsOwner mapped query objects answered w first after place one owner)
      (asked : list_any (λ (asked : RelNo). asked.0 == place.0) query.selectin ≡ true) (other_among : is_among together other ≡ true) (other_same : identity_key batch.own.graph other ≡ identity_key first.own.graph one) where
    abbrev pub relation : Relation
    relation = relation_of mapped class place

    abbrev pub all : List Row
    all = rows_of mapped (bare w.store.tables) relation.target

    abbrev pub related : List Row
    related = related_to mapped relation (bare w.store.tables) all first.own.graph one

    abbrev pub old : Link
    old = old_link mapped class place w.own.graph (identity_key first.own.graph one)

    abbrev pub hand : IsAtHand mapped query objects answered w first after place one owner
    hand = at_hand mapped query objects answered w first after place one owner both own

    pub unloaded : is_unloaded (link_at first.own.graph one place) ≡ true
    unloaded = ap is_unloaded hand.old_is ∙ own.unloaded

    standing : IsAnswered first.own.graph one
    standing = (hand.ready.owner.made, hand.ready.owner.persistent)

    -- the foreign key of the object, in a later world too
    key_there : (u : World) → IsLater first u → relation.many ≡ false → key_of mapped relation u.own.graph one ≡ referred_key mapped class relation hand.row
    key_there u later single =
        let holds = holds_key mapped query objects answered w first after place one owner both own settled single in
        key_same mapped relation first.own.graph u.own.graph one hand.ready.owner.made later.kept (hand.ready.held single) ∙ holds.holds hand.row hand.loaded.joined_owner.among refl

    pub agrees_then : (u : World) → IsLater first u → IsFit mapped u.own.graph → AreOfTheirRows mapped (bare w.store.tables) u.own.graph → AgreesWithMap mapped relation all u.own.graph one
    agrees_then u later fit of = λ single.
        let store : u.store ≡ w.store = later.store ∙ left.store in
        let stage : IsStage mapped u = record {
          has = left.stage.has;
          related = left.stage.related;
          graph = later.kept.graph;
          fit = fit;
          held = subst (λ (s : Store). AreRows mapped.schema (bare s.tables)) (sym later.store) left.stage.held;
        } in
        agrees_at mapped query w loadable place hand.within single hand.plain hand.own_rows hand.row hand.loaded.joined_owner.among u one store stage (subst (λ (s : Store). AreOfTheirRows mapped (bare s.tables) u.own.graph) (sym store) of)
        (key_there u later single) single

    -- what a link holds, by the tables and the link before
    abbrev pub Holds : Graph → Link → Type 0
    Holds graph link = HoldsRows mapped relation related old graph link

    pub as_before : (graph : Graph) (link : Link) → HoldsRows mapped relation (related_to mapped relation (bare first.store.tables) all first.own.graph one) (link_at first.own.graph one place) graph link → Holds graph link
    as_before graph link holds =
        subst (λ (before : Link). HoldsRows mapped relation related before graph link) hand.old_is
        (subst (λ (s : Store). HoldsRows mapped relation (related_to mapped relation (bare s.tables) all first.own.graph one) (link_at first.own.graph one place) graph link) left.store holds)

    pub joined_holds : Holds after.own.graph (link_at after.own.graph owner place)
    joined_holds = as_before after.own.graph (link_at after.own.graph owner place) (joined_related mapped query objects answered w first after place one owner both own settled)

    keys_held : All (option.HoldsItsKey mapped relation first.own.graph) (owners_among mapped class first.own.graph objects)
    keys_held = each_owner mapped class first.own.graph objects (option.HoldsItsKey mapped relation first.own.graph) (λ object among of. (left.ready place object hand.within among of).held)

    batch_holds : Holds batch.own.graph (link_at batch.own.graph one place)
    batch_holds =
        as_before batch.own.graph (link_at batch.own.graph one place)
        (options_links mapped class query.selectin place objects one all first batch left.stage loadable.class options asked left.answered hand.set.rows keys_held
        (owner_among mapped class first.own.graph objects one own.one_among standing own.one_of) unloaded (agrees_then batch batch_later batch_fit of_rows) begins_so.further)

    -- the select-in load answers the object itself
    itself : one ≡ other
    itself =
        let root : ClassId = root_of mapped class in
        let there : is_among together one ≡ true = subst (λ (found : List ObjId). is_among found one ≡ true) begins_so.same own.one_among in
        let one_found = found_of mapped class joined_alike.rows batch.own.graph together one selectin_answered there in
        let other_found = found_of mapped class joined_alike.rows batch.own.graph together other selectin_answered other_among in
        let same : identity_key batch.own.graph other ≡ identity_key batch.own.graph one = other_same ∙ sym (key_later first batch one batch_later standing) in
        same_some one other (sym one_found ∙ ap (find_identity batch.own.graph root) (sym same) ∙ other_found)

    pub selectin_holds : Holds batch.own.graph (link_at batch.own.graph other place)
    selectin_holds = subst (λ (o : ObjId). Holds batch.own.graph (link_at batch.own.graph o place)) itself batch_holds
