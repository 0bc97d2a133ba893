-- A joined load taken apart, and the objects that it answers beside those of the query's own select.
use Rattle.std.proofs.Common.{◌≡◌, ℕ, zero, suc, ◌<◌, ◌==◌, ◌||◌, Bool, List, [], ◌∷◌, length, map, Some, refl, sym, ap, subst, ◌∙◌}
use Rattle.std.specs.Prelude.{slice_get}
use Rattle.std.specs.List.{All, AllByRecursion, list_any}
use Rattle.std.proofs.lemmas.List.{length-map}
use Rattle.std.proofs.lemmas.List.Elements.{All-from_recursion, recursion_from_All}
use Rattle.base_core.specs.declared.ids.ClassId.{ClassId}
use Rattle.base_core.specs.declared.ids.ObjId.{ObjId}
use Rattle.base_core.specs.declared.ids.RelNo.{RelNo}
use Rattle.base_core.specs.declared.value.Value.{Value}
use Rattle.expr_types.specs.declared.select.ObjectQuery.{ObjectQuery}
use Rattle.sql_semantics.specs.Created.{bare}
use Rattle.sql_semantics.specs.Eval.{Row}
use Rattle.class_mapping.specs.Mapped.{IsClass, Mapped, relations_of, root_of}
use Rattle.class_mapping.specs.Related.{AreRelated}
use Rattle.mapping_laws.specs.Hierarchies.{HasHierarchies}
use Rattle.keeper_core.specs.Beside.{on_own}
use Rattle.keeper_core.specs.Programs.{give}
use Rattle.object_arena.specs.declared.object.Object.{Object}
use Rattle.object_arena.specs.Fit.{IsFit, no_relation, relation_of}
use Rattle.object_arena.specs.Graph.{Graph}
use Rattle.object_arena.specs.Identity.{find_identity}
use Rattle.main_selects.specs.MainSelect.{main_select}
use Rattle.load_filling.specs.Rows.{row_key}
use Rattle.load_rows.specs.Loading.{Loading}
use Rattle.load_rows.specs.Reading.{identity_key}
use Rattle.load_calls.specs.Reading.{World, read}
use Rattle.load_calls.specs.Collections.{take_rows}
use Rattle.object_parts.specs.Lists.{firsts}
use Rattle.load_queries.specs.Queries.{load_select, take_objects}
use Rattle.joined_rows.specs.declared.parts.Part.{Part}
use Rattle.joined_rows.specs.Parts.{own_values, part_at, parts_from, parts_of, width_of}
use Rattle.object_parts.specs.declared.answers.Taken.{Taken}
use Rattle.joined_rows.specs.Taking.{take_joined}
use Rattle.load_queries.specs.Joined.{answered as objects_answered, fill_options, fill_owners, fill_taken, load_joined, owners_among, take_answers}
use Rattle.loading_laws.specs.Strategies.Filled.{Goes}
use Rattle.loading_laws.proofs.Strategies.Finding.{Same}
use Rattle.loading_laws.proofs.Strategies.Goes.{given, on_own_goes, parted, read_goes, same_answer}
use Rattle.loading_laws.specs.Joined.Blocks.{IsBlock}
use Rattle.loading_laws.specs.Joined.Joined.{AnswerAlike, AreAnswered, IsJoining, first_keys}
use Rattle.loading_laws.proofs.Joined.Answered.{AreUnder, IsOfKey, blocks_first, firsts_keys, keys_under}
use Rattle.loading_laws.proofs.Joined.Links.{LeavesObjects, all_leave}
use Rattle.loading_laws.proofs.Joined.Taken.{AreFound, AreTaken, Extends, StillFound, all_taken, rows_extend, taken_later}

abbrev Block : Type 0
Block = Row × List Row

-- ---- the parts of the options

every_target : (mapped : Mapped) (class : ClassId) (first : ℕ) (places : List RelNo) → AreRelated mapped → IsClass mapped class → AllByRecursion (λ (place : RelNo). place.0 < length (relations_of mapped class)) places → AllByRecursion (λ part. IsClass mapped part.target) (parts_from mapped class first places)
every_target mapped class first [] related declared within = tt
every_target mapped class first (place ∷ places) related declared within =
    ((related.each class declared place.0 no_relation within.0).target, every_target mapped class (part_at mapped class place first).end places related declared within.1)

pub targets_of : (mapped : Mapped) (class : ClassId) (places : List RelNo) → AreRelated mapped → IsClass mapped class → All (λ (place : RelNo). place.0 < length (relations_of mapped class)) places → AllByRecursion (λ part. IsClass mapped part.target) (parts_of mapped class places)
unfolding parts_of
targets_of mapped class places related declared within =
    every_target mapped class (width_of mapped class) places related declared (recursion_from_All (λ (place : RelNo). place.0 < length (relations_of mapped class)) places within)

target_from : (mapped : Mapped) (class : ClassId) (first : ℕ) (places : List RelNo) (i : ℕ) (part : Part) → slice_get (parts_from mapped class first places) i ≡ Some part → part.target ≡ (relation_of mapped class part.place).target
target_from mapped class first [] i part at = absurd cc
target_from mapped class first (place ∷ places) zero part at = let same : part_at mapped class place first ≡ part = cc in subst (λ (p : Part). p.target ≡ (relation_of mapped class p.place).target) same refl
target_from mapped class first (place ∷ places) (suc i) part at = target_from mapped class (part_at mapped class place first).end places i part at

-- each leads to the target of its relationship
pub target_of : (mapped : Mapped) (class : ClassId) (places : List RelNo) (i : ℕ) (part : Part) → slice_get (parts_of mapped class places) i ≡ Some part → part.target ≡ (relation_of mapped class part.place).target
unfolding parts_of
target_of mapped class places i part at = target_from mapped class (width_of mapped class) places i part at

asked_from : (mapped : Mapped) (class : ClassId) (first : ℕ) (places : List RelNo) (place : RelNo) → list_any (λ (part : Part). part.place.0 == place.0) (parts_from mapped class first places) ≡ list_any (λ (other : RelNo). other.0 == place.0) places
asked_from mapped class first [] place = refl
asked_from mapped class first (other ∷ places) place = ap (λ (b : Bool). (other.0 == place.0) || b) (asked_from mapped class (part_at mapped class other first).end places place)

-- there is one for each place
pub asked_of : (mapped : Mapped) (class : ClassId) (places : List RelNo) (place : RelNo) → list_any (λ (part : Part). part.place.0 == place.0) (parts_of mapped class places) ≡ list_any (λ (other : RelNo). other.0 == place.0) places
unfolding parts_of
asked_of mapped class places place = asked_from mapped class (width_of mapped class) places place

-- ---- a joined load

pub rooted_fit : (mapped : Mapped) (graph : Graph) → IsFit mapped graph → length graph.roots ≡ length graph.objects
rooted_fit mapped graph fit = ap length fit.roots ∙ length-map graph.objects (λ (object : Object). root_of mapped object.class)

-- the rows of the main select are taken, and then the links of the owners are filled
pub record IsLoadedIn (mapped : Mapped) (query : ObjectQuery) (plain joined : List Row) (objects : List ObjId) (w after : World) (joining : IsJoining mapped query plain joined w) : Type 0 where
  pub taken : List Taken
  pub mid : Loading
  pub are : objects_answered taken ≡ objects
  pub extends : Extends mapped w.own.graph mid.graph
  pub is : AreTaken mapped joining.has query.class joining.class (parts_of mapped query.class query.joined) (targets_of mapped query.class query.joined joining.related joining.class joining.places) mid.graph joined taken
  pub fills : Goes (fill_options mapped query.class (parts_of mapped query.class query.joined) taken (owners_among mapped query.class mid.graph objects)) mid tt after.own
  pub leaves : LeavesObjects mid.graph after.own.graph
  pub store : after.store ≡ w.store

pub loaded_in : (mapped : Mapped) (query : ObjectQuery) (plain joined : List Row) (objects : List ObjId) (w after : World) (joining : IsJoining mapped query plain joined w) → Goes (load_joined mapped query) w objects after
    → IsLoadedIn mapped query plain joined objects w after joining
unfolding load_joined take_answers fill_owners
loaded_in mapped query plain joined objects w after joining g =
    let class : ClassId = query.class in
    let parts : List Part = parts_of mapped class query.joined in
    let targets = targets_of mapped class query.joined joining.related joining.class joining.places in
    let one = parted (read mapped.schema (main_select mapped query)) (λ (rows : List Row). on_own (take_answers mapped class parts rows)) w objects after (record { answer = g.answer; leaves = g.leaves }) in
    let sent = read_goes mapped.schema (main_select mapped query) w one.value one.between one.first in
    let own = on_own_goes (take_answers mapped class parts one.value) one.between objects after one.second in
    let two = parted (take_joined mapped class parts one.value) (fill_taken mapped class parts) one.between.own objects after.own (record { answer = own.goes.answer; leaves = own.goes.leaves }) in
    let three = parted (fill_owners mapped class parts two.value (objects_answered two.value)) (λ (u : Unit {0}). give (objects_answered two.value)) two.between objects after.own two.second in
    let end = given (objects_answered two.value) objects three.between after.own three.second in
    let rows : one.value ≡ joined = same_answer one.value joined (sym sent.answered ∙ joining.main_rows) in
    let rooted : length one.between.own.graph.roots ≡ length one.between.own.graph.objects = subst (λ (h : Graph). length h.roots ≡ length h.objects) (sym sent.graph) (rooted_fit mapped w.own.graph joining.fit) in
    let all = all_taken mapped joining.has class joining.class parts targets one.value one.between.own two.value two.between rooted two.first in
    let fills : Goes (fill_options mapped class parts two.value (owners_among mapped class two.between.graph (objects_answered two.value))) two.between tt after.own =
    subst (λ (u : Loading). Goes (fill_options mapped class parts two.value (owners_among mapped class two.between.graph (objects_answered two.value))) two.between tt u) end.1 (record { answer = three.first.answer; leaves = three.first.leaves }) in
    record {
      taken = two.value;
      mid = two.between;
      are = end.0;
      extends = subst (λ (h : Graph). Extends mapped h two.between.graph) sent.graph all.extends;
      is =
          subst (λ (rs : List Row). AreTaken mapped joining.has class joining.class parts targets two.between.graph rs two.value) rows
          (subst (AreTaken mapped joining.has class joining.class parts targets two.between.graph one.value) (sym all.are) all.is);
      fills = subst (λ (os : List ObjId). Goes (fill_options mapped class parts two.value (owners_among mapped class two.between.graph os)) two.between tt after.own) end.0 fills;
      leaves = all_leave mapped class two.value parts (owners_among mapped class two.between.graph (objects_answered two.value)) two.between after.own fills;
      store = own.store ∙ sent.store;
    }

-- ---- the objects that are answered

pub still_found : (old new : Graph) → Same old new → StillFound old new
still_found old new same = λ root key object e. same.found root key ∙ e

module _ (mapped : Mapped) (has : HasHierarchies mapped) (class : ClassId) (declared : IsClass mapped class) (parts : List Part) (targets : AllByRecursion (λ part. IsClass mapped part.target) parts) (graph : Graph)
    (rooted : length graph.roots ≡ length graph.objects) where
  owners_under : (rows : List Row) (taken : List Taken) → AreTaken mapped has class declared parts targets graph rows taken
      → AreUnder (root_of mapped class) graph rooted (λ row. row_key mapped class (own_values mapped class row)) rows (map (λ (one : Taken). one.owner) taken)
  owners_under [] [] h = tt
  owners_under [] (one ∷ taken) h = absurd h
  owners_under (row ∷ rows) [] h = absurd h
  owners_under (row ∷ rows) (one ∷ taken) h = (h.0.0, owners_under rows taken h.1)

  found_under : (rows : List Row) (objects : List ObjId) → AreFound mapped has class graph rows objects → AreUnder (root_of mapped class) graph rooted (row_key mapped class) rows objects
  found_under [] [] h = tt
  found_under [] (object ∷ objects) h = absurd h
  found_under (row ∷ rows) [] h = absurd h
  found_under (row ∷ rows) (object ∷ objects) h = (h.0, found_under rows objects h.1)

  -- objects under the keys of items, each where it comes first
  answered_under : {A : Type 0} (key : A → List Value) (items : List A) (objects : List ObjId) (plain : List Row) → AreUnder (root_of mapped class) graph rooted key items objects
      → first_keys (map key items) ≡ first_keys (map (row_key mapped class) plain) → AreAnswered mapped class plain graph (firsts objects)
  answered_under key items objects plain under same =
      let keys = keys_under (root_of mapped class) graph rooted key items objects under in
      let first = firsts_keys (root_of mapped class) graph rooted objects keys.1 in
      record {
        keys = first.0 ∙ ap first_keys keys.0 ∙ same;
        found = All-from_recursion (λ object. find_identity graph (root_of mapped class) (identity_key graph object) ≡ Some object) (firsts objects) first.1;
      }

  -- the owners of taken rows
  pub taken_answered : (rows : List Row) (taken : List Taken) (plain : List Row) → AreTaken mapped has class declared parts targets graph rows taken
      → first_keys (map (λ row. row_key mapped class (own_values mapped class row)) rows) ≡ first_keys (map (row_key mapped class) plain) → AreAnswered mapped class plain graph (objects_answered taken)
  taken_answered rows taken plain is same =
      answered_under (λ row. row_key mapped class (own_values mapped class row)) rows (map (λ (one : Taken). one.owner) taken) plain (owners_under rows taken is) same

  pub found_answered : (rows : List Row) (objects : List ObjId) → AreFound mapped has class graph rows objects → AreAnswered mapped class rows graph (firsts objects)
  found_answered rows objects found = answered_under (row_key mapped class) rows objects rows (found_under rows objects found) refl

-- ---- the rows of blocks

of_key : (mapped : Mapped) (class : ClassId) (row : Row) (rows : List Row) → AllByRecursion (λ one. own_values mapped class one ≡ row) rows → AllByRecursion (λ one. row_key mapped class (own_values mapped class one) ≡ row_key mapped class row) rows
of_key mapped class row [] own = tt
of_key mapped class row (one ∷ rows) own = (ap (row_key mapped class) own.0, of_key mapped class row rows own.1)

blocks_of_key : (mapped : Mapped) (query : ObjectQuery) (w : World) (blocks : List Block) → AllByRecursion (IsBlock mapped query.class (bare w.store.tables) (parts_of mapped query.class query.joined)) blocks
    → AllByRecursion (IsOfKey (λ row. row_key mapped query.class (own_values mapped query.class row)) (row_key mapped query.class)) blocks
blocks_of_key mapped query w [] each = tt
blocks_of_key mapped query w (block ∷ blocks) each = ((each.0.some, of_key mapped query.class block.0 block.1 each.0.own), blocks_of_key mapped query w blocks each.1)

-- the keys of the joined rows, each where it comes first, are those of the plain ones
joined_first : (mapped : Mapped) (query : ObjectQuery) (plain joined : List Row) (w : World) → IsJoining mapped query plain joined w
    → first_keys (map (λ row. row_key mapped query.class (own_values mapped query.class row)) joined) ≡ first_keys (map (row_key mapped query.class) plain)
joined_first mapped query plain joined w joining =
    let key : Row → List Value = λ row. row_key mapped query.class (own_values mapped query.class row) in
    let rows = joining.rows in
    ap (λ (rs : List Row). first_keys (map key rs)) rows.joined_is
    ∙ blocks_first key (row_key mapped query.class) rows.blocks [] (blocks_of_key mapped query w rows.blocks rows.each)
    ∙ ap (λ (rs : List Row). first_keys (map (row_key mapped query.class) rs)) (sym rows.plain_is)

-- ---- the law

pub joined_answered : (mapped : Mapped) (query : ObjectQuery) (plain joined : List Row) (objects : List ObjId) (w after : World) → IsJoining mapped query plain joined w → Goes (load_joined mapped query) w objects after
    → AreAnswered mapped query.class plain after.own.graph objects × StillFound w.own.graph after.own.graph
joined_answered mapped query plain joined objects w after joining g =
    let class : ClassId = query.class in
    let parts : List Part = parts_of mapped class query.joined in
    let targets = targets_of mapped class query.joined joining.related joining.class joining.places in
    let load = loaded_in mapped query plain joined objects w after joining g in
    let last : Graph = after.own.graph in
    let same : Same load.mid.graph last = load.leaves.same in
    let rooted : length last.roots ≡ length last.objects = same.rooted ∙ load.extends.rooted ∙ sym same.long in
    let is : AreTaken mapped joining.has class joining.class parts targets last joined load.taken =
    taken_later mapped joining.has class joining.class parts targets load.mid.graph last joined load.taken (still_found load.mid.graph last same) load.is in (
      subst (AreAnswered mapped class plain last) load.are
          (taken_answered mapped joining.has class joining.class parts targets last rooted joined load.taken plain is (joined_first mapped query plain joined w joining)),
      λ root key object e. same.found root key ∙ load.extends.found root key object e,
    )

-- the own select's rows are taken
pub record IsSelectedIn (mapped : Mapped) (class : ClassId) (plain : List Row) (objects : List ObjId) (w after : World) : Type 0 where
  pub answered : AreAnswered mapped class plain after.own.graph objects
  pub extends : Extends mapped w.own.graph after.own.graph
  pub store : after.store ≡ w.store

pub selected_in : (mapped : Mapped) (query : ObjectQuery) (plain joined : List Row) (objects : List ObjId) (w after : World) → IsJoining mapped query plain joined w → Goes (load_select mapped query) w objects after → IsSelectedIn mapped query.class plain objects w after
unfolding load_select
selected_in mapped query plain joined objects w after joining g =
    let class : ClassId = query.class in
    let one = parted (read mapped.schema query.select) (λ (rows : List Row). on_own (take_objects mapped class rows)) w objects after (record { answer = g.answer; leaves = g.leaves }) in
    let sent = read_goes mapped.schema query.select w one.value one.between one.first in
    let own = on_own_goes (take_objects mapped class one.value) one.between objects after one.second in
    let two = parted (take_rows mapped class one.value) (λ (found : List ObjId). give (firsts found)) one.between.own objects after.own own.goes in
    let end = given (firsts two.value) objects two.between after.own two.second in
    let rows : one.value ≡ plain = same_answer one.value plain (sym sent.answered ∙ joining.own_rows) in
    let rooted : length one.between.own.graph.roots ≡ length one.between.own.graph.objects = subst (λ (h : Graph). length h.roots ≡ length h.objects) (sym sent.graph) (rooted_fit mapped w.own.graph joining.fit) in
    let all = rows_extend mapped joining.has class joining.class one.value one.between.own two.value two.between rooted two.first in
    let found : AreFound mapped joining.has class two.between.graph one.value two.value = subst (AreFound mapped joining.has class two.between.graph one.value) (sym all.are) all.found in
    let answers : AreAnswered mapped class one.value two.between.graph (firsts two.value) =
    found_answered mapped joining.has class joining.class [] tt two.between.graph all.extends.rooted one.value two.value found in
    let last : AreAnswered mapped class one.value after.own.graph objects =
    subst (λ (u : Loading). AreAnswered mapped class one.value u.graph objects) end.1 (subst (AreAnswered mapped class one.value two.between.graph) end.0 answers) in
    record {
      answered = subst (λ (rs : List Row). AreAnswered mapped class rs after.own.graph objects) rows last;
      extends = subst (λ (h : Graph). Extends mapped h after.own.graph) sent.graph (subst (λ (u : Loading). Extends mapped one.between.own.graph u.graph) end.1 all.extends);
      store = own.store ∙ sent.store;
    }

pub answer_alike : (mapped : Mapped) (query : ObjectQuery) (plain joined : List Row) (objects answered : List ObjId) (w first after : World) → IsJoining mapped query plain joined w → Goes (load_select mapped query) w objects first
    → Goes (load_joined mapped query) w answered after → AnswerAlike mapped query.class w.own.graph first.own.graph after.own.graph objects answered
answer_alike mapped query plain joined objects answered w first after joining g h =
    let one = selected_in mapped query plain joined objects w first joining g in
    let other = joined_answered mapped query plain joined answered w after joining h in
    record {
      rows = plain;
      first_are = one.answered;
      second_are = other.0;
      first_kept = λ key object e. one.extends.found (root_of mapped query.class) key object e;
      second_kept = λ key object e. other.1 (root_of mapped query.class) key object e;
    }
