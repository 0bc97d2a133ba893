-- A select-in option more sends the selects of batches more.
use Rattle.std.proofs.Common.{◌≡◌, inl, inr, ◌<◌, Bool, true, false, List, [], ◌∷◌, ◌++◌, length, if◌then◌else◌, refl, sym, ap, subst, ◌∙◌, append_assoc, append-nil, arith}
use Rattle.std.specs.List.{All, AllByRecursion}
use Rattle.std.proofs.lemmas.List.Elements.{All-from_recursion, recursion_from_All}
use Rattle.base_core.specs.declared.ids.ClassId.{ClassId}
use Rattle.base_core.specs.declared.ids.ObjId.{ObjId}
use Rattle.base_core.specs.declared.ids.RelNo.{RelNo}
use Rattle.expr_types.specs.declared.select.ObjectQuery.{ObjectQuery}
use Rattle.class_types.specs.declared.mapped.Relation.{Relation}
use Rattle.class_mapping.specs.Mapped.{Mapped, relations_of}
use Rattle.class_mapping.specs.Paired.{HasPairs}
use Rattle.class_mapping.proofs.Having.{Has, all_from, from_flat}
use Rattle.keeper_core.specs.Beside.{by_own, on_own}
use Rattle.keeper_core.specs.Programs.{Event, Run, ◌>>=◌, each, give}
use Rattle.object_arena.specs.Fit.{relation_of}
use Rattle.object_arena.specs.Graph.{Graph, IsObject, object_at}
use Rattle.main_selects.specs.MainSelect.{main_select}
use Rattle.load_calls.specs.Reading as loads
use Rattle.load_batches.specs.Batches as batches
use Rattle.load_batches.specs.Batches.{IsOwner}
use Rattle.load_ends.specs.Ends as ends
use Rattle.load_queries.specs.Joined.{load_joined}
use Rattle.load_queries.specs.Selectin as load_queries
use Rattle.load_queries.specs.Selectin.{IsOption, if_owner, is_owner, load_option, load_options, load_selectin, load_together, owners_among, with_options}
use Rattle.load_queries.proofs.OwnerLemmas.{owner_tested, owner_under}
use Rattle.known_queries.specs.Known.{ReadsJoined}
use Rattle.loading_laws.specs.Loaders.Statements.{AsksInBatches, keys_asked, select_of_keys}
use Rattle.loading_laws.specs.Strategies.Filled.{Goes}
use Rattle.loading_laws.proofs.Loaders.Statements.{selectin_asks}
use Rattle.loading_laws.proofs.Members.Choices.{every_has}
use Rattle.loading_laws.proofs.Strategies.Goes.{given, parted}
use Rattle.session_scopes.specs.Loads.{on_load}
use Rattle.session_calls.specs.Parts.{World}
use Rattle.session_acts.specs.Steps.{flush_now}
use Rattle.session_loads.specs.Queries.{load_query, select_objects}
use Rattle.session_laws.specs.Loads.{loading_of}
use Rattle.session_laws.specs.Preparing.{PreparationsLeaveReread}
use Rattle.session_laws.specs.Whole.{IsHale}
use Rattle.session_laws.proofs.Health.Acts.{FlushLeavesSound, FlushWritesAll}
use Rattle.session_laws.proofs.OwnRows.Standing.{hierarchies}
use Rattle.session_load_laws.specs.Readings.{MayRead, QueriesTellMade, Reading}
use Rattle.session_strategies.specs.Asked.{with_selectin, written}
use Rattle.session_strategies.specs.Statements.{AsksMore, SelectinsAskInBatches}
use Rattle.session_strategies.proofs.Programs.{each_last, events_then, goes_then}
use Rattle.session_strategies.proofs.Loading.{call_loads, call_of, taking, written_led}

-- ---- owners

module _ (mapped : Mapped) (class : ClassId) (graph : Graph) where
  owner_there : (one object : ObjId) (b : Bool) → is_owner mapped class graph one ≡ b → Has (if b then one ∷ [] else []) object → (one ≡ object) × (is_owner mapped class graph one ≡ true)
  owner_there one object true is (inl same) = (same, is)
  owner_there one object true is (inr there) = absurd there
  owner_there one object false is there = absurd there

  -- the owners among objects that have been made have the relationship of the class at its place
  owners_are : (place : RelNo) (objects : List ObjId) → HasPairs mapped → place.0 < length (relations_of mapped class) → All (IsObject graph) objects
      → All (IsOwner mapped graph (relation_of mapped class place) place) (owners_among mapped class graph objects)
  unfolding owners_among
  owners_are place objects paired within made =
      let P : ObjId → Type 0 = IsOwner mapped graph (relation_of mapped class place) place in
      All-from_recursion P (owners_among mapped class graph objects)
      (all_from P (owners_among mapped class graph objects) (λ object there.
      let from = from_flat (if_owner mapped class graph) objects object there in
      let is = owner_there from.0 object (is_owner mapped class graph from.0) refl from.2 in
      let there : IsObject graph from.0 = every_has (IsObject graph) objects from.0 (recursion_from_All (IsObject graph) objects made) from.1 in
      subst P is.0 (owner_under mapped graph class place from.0 paired within (owner_tested mapped graph class from.0 true there (sym is.1) refl))))

-- ---- one option

module _ (mapped : Mapped) (relation : Relation) (place : RelNo) (w : loads.World) where
  none_sent : (many : Bool) → (if many then batches.load_members mapped relation place [] w else ends.load_ends mapped relation place [] w).events ≡ []
  unfolding batches.load_members batches.load_each batches.unloaded_owners ends.load_ends ends.load_each ends.unloaded ends.wanted_keys ends.fill_owners by_own on_own each give ◌>>=◌
  none_sent true = refl
  none_sent false = refl

  none_keys : (many : Bool) → [] ≡ (if many then batches.keys_of (batches.unloaded_owners w.own.graph place []) else ends.wanted_keys mapped relation w.own.graph (ends.unloaded w.own.graph place []))
  unfolding batches.unloaded_owners ends.unloaded ends.wanted_keys
  none_keys true = refl
  none_keys false = refl

  abbrev Asks : List ObjId → List Event → Type 0
  Asks owners events = AsksInBatches (keys_asked mapped relation place w.own.graph owners) (select_of_keys mapped relation) w.store events

  option_asks : (owners : List ObjId) (v : loads.World) → All (IsOwner mapped w.own.graph relation place) owners → Goes (load_together mapped relation place owners) w tt v → Asks owners (load_together mapped relation place owners w).events
  unfolding load_selectin by_own
  option_asks [] v owned g = record { batches = []; whole = none_keys relation.many; cut = tt; sent = silent relation.many refl }
    where
      silent : (many : Bool) → relation.many ≡ many → (load_together mapped relation place [] w).events ≡ []
      silent true is = ap (λ (b : Bool). ((if b then batches.load_members mapped relation place [] else ends.load_ends mapped relation place []) w).events) is ∙ none_sent true
      silent false is = ap (λ (b : Bool). ((if b then batches.load_members mapped relation place [] else ends.load_ends mapped relation place []) w).events) is ∙ none_sent false
  option_asks (first ∷ more) v owned g =
      let is : relation_of mapped (object_at w.own.graph first).class place ≡ relation = (owned 0 first (omega arith)).is in
      let named : Goes (load_selectin mapped place (first ∷ more)) w tt v =
      (let here = subst (λ (r : Relation). Goes (load_together mapped r place (first ∷ more)) w tt v) (sym is) g in record { answer = here.answer; leaves = here.leaves }) in
      subst (λ (r : Relation). Asks (first ∷ more) (load_together mapped r place (first ∷ more) w).events) is (selectin_asks mapped relation place (first ∷ more) w v owned named)

-- ---- the call

first_of : (IsItem : RelNo → Type 0) (places : List RelNo) (place : RelNo) → AllByRecursion IsItem (places ++ place ∷ []) → AllByRecursion IsItem places × IsItem place
first_of IsItem [] place all = (tt, all.0)
first_of IsItem (one ∷ places) place all = let rest = first_of IsItem places place all.1 in ((all.0, rest.0), rest.1)

-- the same query with one option less
fewer : (query : ObjectQuery) (place : RelNo) (world : World) → MayRead (Reading.Objects (with_selectin place query)) world → MayRead (Reading.Objects query) world
fewer query place world may =
    let reads : ReadsJoined world.own.mapping query = record {
      own = record { class = may.0.own.class; begins = record { more = may.0.own.begins.more; first = may.0.own.begins.first; joins = may.0.own.begins.joins }; reads = may.0.own.reads; single = may.0.own.single };
      places = may.0.places;
      finds = record { filter = may.0.finds.filter; order = may.0.finds.order };
    } in
    (reads, may.1, (first_of (IsOption world.own.mapping query.class) query.selectin place may.2).0)

pub asks_more : PreparationsLeaveReread → FlushLeavesSound → FlushWritesAll → QueriesTellMade → SelectinsAskInBatches
unfolding select_objects load_queries.load_query load_options load_joined main_select by_own on_load give
asks_more reads keeps answers told query place objects world after may hale g =
    let mapped : Mapped = (written world).own.mapping in
    let class : ClassId = query.class in
    let start : loads.World = loading_of (written world) in
    let more : ObjectQuery = with_selectin place query in
    let step : List ObjId → RelNo → Unit {0} → loads.World → Run loads.World (Unit {0}) = load_option mapped class in
    let by = call_loads more world objects after (record { answer = g.answer; leaves = g.leaves }) in
    let two = parted (load_joined mapped query) (with_options mapped more) start objects by.now (record { answer = by.loaded.answer; leaves = by.loaded.leaves }) in
    let three = parted (load_options mapped class two.value more.selectin) (λ (u : Unit {0}). give two.value) two.between objects by.now two.second in
    let end = given two.value objects three.between by.now three.second in
    let last = each_last (step two.value) query.selectin place tt two.between tt three.between (record { answer = three.first.answer; leaves = three.first.leaves }) in
    let few : Goes (load_queries.load_query mapped query) start two.value last.between = (
    let options = goes_then (load_options mapped class two.value query.selectin) (λ (u : Unit {0}). give two.value) two.between last.between tt (record { answer = last.first.answer; leaves = last.first.leaves }) two.value last.between (record { answer = refl; leaves = refl }) in
    let whole = goes_then (load_joined mapped query) (with_options mapped query) start two.between two.value (record { answer = two.first.answer; leaves = two.first.leaves }) two.value last.between options in
    record { answer = whole.answer; leaves = whole.leaves }) in
    let call : Goes (select_objects query) world two.value (taking last.between (written world)) = call_of query world two.value last.between by.flushed few in
    let here : taking last.between (written world) ≡ (select_objects query world).after = sym call.leaves in
    let hale_written : IsHale (written world) = (written_led reads keeps answers world hale).here in
    let within = (first_of (IsOption world.own.mapping class) query.selectin place may.2).1 in
    let same : mapped ≡ world.own.mapping = ((written_led reads keeps answers world hale).told tt by.flushed).goes.mapping in
    let made : All (IsObject last.between.own.graph) two.value =
    subst (λ (v : World). All (IsObject v.own.graph) two.value) call.leaves (told query two.value world (fewer query place world may) hale call.answer) in
    let owned = owners_are mapped class last.between.own.graph place two.value (hierarchies mapped hale_written.keyed.well).paired (subst (λ (m : Mapped). place.0 < length (relations_of m class)) (sym same) within) made in
    let asked = option_asks mapped (relation_of mapped class place) place last.between (owners_among mapped class last.between.own.graph two.value) three.between owned (record { answer = last.last.answer; leaves = last.last.leaves }) in
    let batch : List Event = (step two.value place tt last.between).events in
    let flushed : List Event = (flush_now world).events in
    let joined : List Event = (load_joined mapped query start).events in
    let before : List Event = (load_options mapped class two.value query.selectin two.between).events in
    let answered : Goes flush_now world tt (written world) = record { answer = by.flushed; leaves = refl } in
    let read : Goes (load_joined mapped query) start two.value two.between = record { answer = two.first.answer; leaves = two.first.leaves } in
    let filled : Goes (load_options mapped class two.value query.selectin) two.between tt last.between = record { answer = last.first.answer; leaves = last.first.leaves } in
    let all : (select_objects more world).events ≡ flushed ++ (joined ++ (before ++ batch)) =
    events_then flush_now (λ (u : Unit {0}). load_query more) world (written world) tt answered
    ∙ ap (λ (es : List Event). flushed ++ es)
    (events_then (load_joined mapped query) (with_options mapped more) start two.between two.value read
    ∙ ap (λ (es : List Event). joined ++ es)
    (events_then (load_options mapped class two.value more.selectin) (λ (u : Unit {0}). give two.value) two.between three.between tt three.first
    ∙ append-nil (load_options mapped class two.value more.selectin two.between).events ∙ last.events)) in
    let fewer_sent : (select_objects query world).events ≡ flushed ++ (joined ++ before) =
    events_then flush_now (λ (u : Unit {0}). load_query query) world (written world) tt answered
    ∙ ap (λ (es : List Event). flushed ++ es)
    (events_then (load_joined mapped query) (with_options mapped query) start two.between two.value read
    ∙ ap (λ (es : List Event). joined ++ es)
    (events_then (load_options mapped class two.value query.selectin) (λ (u : Unit {0}). give two.value) two.between last.between tt filled ∙ append-nil before)) in
    subst (λ (v : World). AsksMore query place objects world v) here
    (record {
      events = batch;
      sent =
          all ∙ ap (λ (es : List Event). flushed ++ es) (sym (append_assoc joined before batch)) ∙ sym (append_assoc flushed (joined ++ before) batch)
          ∙ ap (λ (es : List Event). es ++ batch) (sym fewer_sent);
      batches = subst (λ (found : List ObjId). AsksInBatches (keys_asked mapped (relation_of mapped class place) place last.between.own.graph (owners_among mapped class last.between.own.graph found)) (select_of_keys mapped (relation_of mapped class place)) last.between.store batch)
          end.0 asked;
    })
