-- The calls that read rows into objects keep a whole session whole.
use Rattle.std.proofs.Common.{◌≡◌, ◌<◌, Bool, true, false, List, [], ◌∷◌, length, Option, None, Some, Result, Ok, Err, IfOk, refl, sym, subst}
use Rattle.std.specs.Prelude.{if◌then◌else◌}
use Rattle.std.specs.List.{All, AllByRecursion}
use Rattle.std.proofs.lemmas.List.Elements.{All-from_recursion, All-nil}
use Rattle.std.proofs.lemmas.Bool.{and_parts}
use Rattle.base_core.specs.declared.ids.AttrNo.{AttrNo}
use Rattle.base_core.specs.declared.ids.ClassId.{ClassId}
use Rattle.base_core.specs.declared.ids.ObjId.{ObjId}
use Rattle.base_core.specs.declared.ids.RelNo.{RelNo}
use Rattle.base_core.specs.declared.refusal.Refusal.{Refusal}
use Rattle.base_core.specs.declared.value.Value.{Value}
use Rattle.class_mapping.specs.Mapped.{IsClass, Mapped, relations_of, root_of}
use Rattle.expr_types.specs.declared.select.ObjectQuery.{ObjectQuery}
use Rattle.object_arena.specs.declared.object.State.TheVariants.{Persistent}
use Rattle.object_arena.specs.declared.object.Link.{Link}
use Rattle.object_arena.specs.declared.object.Link.TheVariants as link
use Rattle.object_arena.specs.Fit.{IsFit, relation_of}
use Rattle.object_arena.proofs.FitLemmas.{fit_links}
use Rattle.object_arena.specs.Graph.{Graph, IsObject, is_persistent, object_at}
use Rattle.object_arena.specs.Identity.{find_identity}
use Rattle.object_parts.proofs.Expiries.{persistent_is}
use Rattle.keeper_core.specs.Beside.{Beside, by_own}
use Rattle.keeper_core.specs.Programs.{Event, Run, ◌>>=◌, continue_from, give}
use Rattle.relations.specs.declared.calls.LinkCall.{LinkCall}
use Rattle.relations.specs.Calls.{end_of, is_of_collection}
use Rattle.relations.specs.Keys.{IsEnd}
use Rattle.relations.specs.Mirror.{is_of, link_at}
use Rattle.load_rows.specs.Loading.{Loading}
use Rattle.load_calls.specs.Refreshing as load_calls
use Rattle.load_targets.specs.Targets as load_targets
use Rattle.load_queries.specs.Selectin as load_queries
use Rattle.load_steps.specs.Loads.{IsStanding, Load}
use Rattle.load_steps.specs.Steps as steps
use Rattle.loading_laws.proofs.Strategies.Standing.{found_stands}
use Rattle.load_queries.specs.Selectin.{IsOption}
use Rattle.known_queries.specs.Known.{ReadsJoined}
use Rattle.ranked_rows.specs.Laws.{MainSelectsAnswerTableRows, OwnSelectsAnswerTableRows, SelectsAnswerTableRows}
use Rattle.session_scopes.specs.Loads.{on_load}
use Rattle.session_scopes.specs.SessionState.{GoesOn, SessionState}
use Rattle.session_calls.specs.Parts.{World, checked}
use Rattle.session_calls.specs.Steps.{enter}
use Rattle.session_links.specs.declared.reading.Related.{Related}
use Rattle.session_links.specs.Reading.{AreToldMade, is_many, none_related}
use Rattle.session_links.specs.Steps.{change_inside}
use Rattle.session_links.proofs.ReadLemmas.{end_told, members_told}
use Rattle.session_acts.specs.Flush.{flush}
use Rattle.session_acts.specs.Steps.{flush_now}
use Rattle.session_loads.specs.Asking.{asked_fault, cell_fault, detached_if, is_expired_in, is_key_expired_in, is_persistent_in, is_unloaded_in, link_fault}
use Rattle.session_loads.specs.Queries.{load_query, select_objects}
use Rattle.session_loads.specs.Reads.{change_collection, change_loaded, fetch_link, fetch_members, fill_attached, fill_cell, fill_key, fill_link, find_by_key, found_for, found_under, get, if_asked, load_key, load_link, read_attached, read_cell, read_lacking, read_members, read_related, refresh_cells, related_as, related_in, tell_cell, tell_related, value_in, write_and_fill}
use Rattle.session_laws.specs.LinkCalls.{IsLinkCall}
use Rattle.session_laws.specs.Loads.{loading_of}
use Rattle.session_laws.specs.Preparing.{PreparationsLeaveReread}
use Rattle.session_laws.specs.Whole.{IsHale}
use Rattle.session_laws.proofs.Health.Acts.{FlushLeavesSound, FlushWritesAll, IsLed, led_checked, led_then}
use Rattle.session_laws.proofs.Whole.Inside.{IsWithin}
use Rattle.session_calls.proofs.Joining.{goes_itself}
use Rattle.session_load_laws.proofs.Laws.{key_told, leaves_law, query_told}
use Rattle.session_load_laws.proofs.Expiry.{expire_hale}
use Rattle.session_load_laws.proofs.Going.{IsGoing, change_going, enter_going, flush_going, going_of, loaded_going, passed}
use Rattle.session_load_laws.proofs.Anew.{refresh_hale}
use Rattle.session_load_laws.specs.Loads.{LoadsLeaveLoaded, MayLoad, loaded_by}
use Rattle.session_load_laws.specs.Readings.{GetsTellMade, IsPlace, LinksTellMade, MayRead, QueriesTellMade, Reading, ReadingsGoOn, ReadingsKeepWhole, after_reading}

-- ---- what goes on to be there

object_on : (object : ObjId) (old new : SessionState) → GoesOn old new → IsObject old.graph object → IsObject new.graph object
object_on object old new goes made = (goes.there object made).0

class_on : (object : ObjId) (old new : SessionState) → GoesOn old new → IsObject old.graph object → (object_at new.graph object).class ≡ (object_at old.graph object).class
class_on object old new goes made = (goes.there object made).1

-- what is said of the mapping and of an object's class
on_class : (P : Mapped → ClassId → Type 0) (object : ObjId) (old new : SessionState) → GoesOn old new → IsObject old.graph object → P old.mapping (object_at old.graph object).class → P new.mapping (object_at new.graph object).class
on_class P object old new goes made is =
    subst (λ (class : ClassId). P new.mapping class) (sym (class_on object old new goes made)) (subst (λ (mapped : Mapped). P mapped (object_at old.graph object).class) (sym goes.mapping) is)

pub place_on : (object : ObjId) (place : RelNo) (old new : SessionState) → GoesOn old new → IsPlace object place old → IsPlace object place new
place_on object place old new goes at = record {
  made = object_on object old new goes at.made;
  there = on_class (λ mapped class. place.0 < length (relations_of mapped class)) object old new goes at.made at.there;
}

end_on : (end : Option ObjId) (old new : SessionState) → GoesOn old new → IsEnd old.graph end → IsEnd new.graph end
end_on None old new goes is = is
end_on (Some end) old new goes is = object_on end old new goes is

call_on : (owner : ObjId) (place : RelNo) (call : LinkCall) (old new : SessionState) → GoesOn old new → IsLinkCall old.mapping old.graph owner place call → IsLinkCall new.mapping new.graph owner place call
call_on owner place call old new goes on = record {
  made = object_on owner old new goes on.made;
  there = on_class (λ mapped class. place.0 < length (relations_of mapped class)) owner old new goes on.made on.there;
  form = on_class (λ mapped class. (relation_of mapped class place).many ≡ is_of_collection call) owner old new goes on.made on.form;
  end = end_on (end_of call) old new goes on.end;
}

-- ---- persistent objects

-- something is to be read of it, and nothing was against that
attached : (asked : Bool) (object : ObjId) (session : SessionState) → detached_if asked object session ≡ None → asked ≡ true → (object_at session.graph object).state ≡ Persistent
attached true object session none is = persistent_is (object_at session.graph object).state (passed (is_persistent_in object session) _ none)
attached false object session none is = absurd cc

-- ---- programs

-- what is told of the session then
told_led : {A : Type 0} (tell : SessionState → A) (first : SessionState) (w : World) → IsWithin first w → IsLed (IsGoing first) (IsWithin first) (by_own (λ session. give (tell session)) w)
unfolding by_own give
told_led tell first w it = record { here = (going_of it); told = λ a is. it }

asked_led : (asked : Bool) (m : World → Run World (Unit {0})) (first : SessionState) (w : World) → IsWithin first w → (asked ≡ true → IsLed (IsGoing first) (IsWithin first) (m w)) → IsLed (IsGoing first) (IsWithin first) (if_asked asked m w)
unfolding give
asked_led true m first w it later = later refl
asked_led false m first w it later = record { here = (going_of it); told = λ u is. it }

module _ (loads : LoadsLeaveLoaded) (reads : PreparationsLeaveReread) (keeps : FlushLeavesSound) (answers : FlushWritesAll) (first : SessionState) where
  -- in the transaction
  abbrev Within : World → Type 0
  Within = IsWithin first

  -- it has gone on, whatever was answered
  abbrev Going : World → Type 0
  Going = IsGoing first

  -- and nothing is against what is asked
  record Passes (fault : SessionState → Option Refusal) (w : World) : Type 0 where
    within : Within w
    none : fault w.own ≡ None

  load_led : {A : Type 0} (load : Load) (m : Beside Loading → Run (Beside Loading) A) (w : World) → (m (loading_of w)).after ≡ loaded_by load w → MayLoad load w → Within w → IsLed Going Within (on_load m w)
  load_led load m w is may it = loaded_going loads load m first w is may it

  passes_led : (fault : SessionState → Option Refusal) (w : World) → Within w → IsLed Going (Passes fault) (checked fault w)
  passes_led fault w it = led_checked Going (Passes fault) fault w (going_of it) (λ none. record { within = it; none = none })

  cells_led : (object : ObjId) (w : World) → IsStanding w.own.graph object → Within w → IsLed Going Within (refresh_cells object w)
  unfolding by_own
  cells_led object w standing it = load_led (Load.Cells object) (load_calls.refresh w.own.mapping object) w refl standing it

  -- ---- cells

  module _ (object : ObjId) (attr : AttrNo) (made : IsObject first.graph object) where
    fill_led : (w : World) → Passes (cell_fault object attr) w → IsLed Going Within (fill_cell object attr w)
    unfolding fill_cell by_own
    fill_led w passes =
        asked_led (is_expired_in object attr w.own) (refresh_cells object) first w passes.within
        (λ asked. cells_led object w (object_on object first w.own passes.within.goes made, attached (is_expired_in object attr w.own) object w.own passes.none asked) passes.within)

    pub cell_led : (w : World) → Within w → IsLed Going Within (tell_cell object attr w)
    unfolding tell_cell
    cell_led w it =
        led_then Going (Passes (cell_fault object attr)) Within (checked (cell_fault object attr)) (λ u. fill_cell object attr >>= λ u. by_own (λ session. give (value_in object attr session))) w (passes_led (cell_fault object attr) w it)
        (λ u passes.
        let v : World = (checked (cell_fault object attr) w).after in
        led_then Going Within Within (fill_cell object attr) (λ u. by_own (λ session. give (value_in object attr session))) v (fill_led v passes) (λ u again. told_led (value_in object attr) first (fill_cell object attr v).after again))

  -- ---- links

  module _ (object : ObjId) (place : RelNo) (at : IsPlace object place first) where
    load_link_led : (w : World) → (object_at w.own.graph object).state ≡ Persistent → Within w → IsLed Going Within (load_link object place w)
    unfolding by_own
    load_link_led w persistent it =
        let here = place_on object place first w.own it.goes at in
        load_led (Load.Link object place) (load_targets.load_lazy w.own.mapping object place) w refl ((here.made, persistent), here.there) it

    fill_link_led : (w : World) → Passes (link_fault object place) w → IsLed Going Within (fill_link object place w)
    unfolding fill_link by_own
    fill_link_led w passes =
        asked_led (is_unloaded_in object place w.own) (load_link object place) first w passes.within
        (λ asked. load_link_led w (attached (is_unloaded_in object place w.own) object w.own passes.none asked) passes.within)

    attached_led : (w : World) → Within w → IsLed Going Within (fill_attached object place w)
    unfolding fill_attached
    attached_led w it =
        led_then Going (Passes (link_fault object place)) Within (checked (link_fault object place)) (λ u. fill_link object place) w (passes_led (link_fault object place) w it) (λ u passes. fill_link_led (checked (link_fault object place) w).after passes)

    fetch_led : (w : World) → Within w → IsLed Going Within (fetch_link object place w)
    unfolding fetch_link by_own
    fetch_led w it =
        asked_led (is_unloaded_in object place w.own) (write_and_fill object place) first w it
        (λ asked. led_then Going Within Within flush (λ u. fill_attached object place) w (flush_going reads keeps answers first w it) (λ u again. attached_led (flush w).after again))

    pub related_led : (w : World) → Within w → IsLed Going Within (tell_related object place w)
    unfolding tell_related
    related_led w it =
        led_then Going (Passes (link_fault object place)) Within (checked (link_fault object place)) (λ u. fetch_link object place >>= λ u. by_own (λ session. give (related_in object place session))) w (passes_led (link_fault object place) w it)
        (λ u passes.
        let v : World = (checked (link_fault object place) w).after in
        led_then Going Within Within (fetch_link object place) (λ u. by_own (λ session. give (related_in object place session))) v (fetch_led v passes.within) (λ u again. told_led (related_in object place) first (fetch_link object place v).after again))

  -- ---- collections that change

  module _ (owner : ObjId) (place : RelNo) (call : LinkCall) (on : IsLinkCall first.mapping first.graph owner place call) where
    at : IsPlace owner place first
    at = record { made = on.made; there = on.there }

    read_attached_led : (w : World) → Within w → IsLed Going Within (read_attached owner place call w)
    read_attached_led w it =
        led_then Going (Passes (asked_fault owner place call)) Within (checked (asked_fault owner place call)) (λ u. fill_attached owner place) w (passes_led (asked_fault owner place call) w it)
        (λ u passes. attached_led owner place at (checked (asked_fault owner place call) w).after passes.within)

    members_led : (w : World) → Within w → IsLed Going Within (fetch_members owner place call w)
    unfolding fetch_members by_own
    members_led w it =
        asked_led (is_unloaded_in owner place w.own) (read_members owner place call) first w it
        (λ asked.
        led_then Going (Passes (asked_fault owner place call)) Within (checked (asked_fault owner place call)) (λ u. flush >>= λ u. read_attached owner place call) w (passes_led (asked_fault owner place call) w it)
        (λ u passes.
        let v : World = (checked (asked_fault owner place call) w).after in
        led_then Going Within Within flush (λ u. read_attached owner place call) v (flush_going reads keeps answers first v passes.within) (λ u again. read_attached_led (flush v).after again)))

    pub changed_hale : (w : World) → Within w → Going (change_loaded owner place call w).after
    unfolding change_loaded
    changed_hale w it =
        (led_then Going Within Going (fetch_members owner place call) (λ u. change_inside owner place call) w (members_led w it)
        (λ u again.
        let v : World = (fetch_members owner place call w).after in
        let done = change_going owner place call first v (call_on owner place call first v.own again.goes on) again in
        record { here = done; told = λ a is. done })).here

  -- ---- an object by its key

  module _ (class : ClassId) (key : List Value) (declared : IsClass first.mapping class) where
    key_led : (object : ObjId) (w : World) → find_identity w.own.graph (root_of w.own.mapping class) key ≡ Some object → Within w → IsLed Going Within (fill_key object w)
    unfolding fill_key by_own
    key_led object w found it =
        let stands = found_stands w.own.graph (root_of w.own.mapping class) key object it.hale.healthy.sound.graph.rooted found in
        let persistent = persistent_is (object_at w.own.graph object).state (and_parts (is_persistent (object_at w.own.graph object).state) _ stands.1).0 in
        asked_led (is_key_expired_in object w.own) (refresh_cells object) first w it (λ asked. cells_led object w (stands.0, persistent) it)

    under_led : (object : ObjId) (w : World) → find_identity w.own.graph (root_of w.own.mapping class) key ≡ Some object → Within w → Going (found_under class object w).after
    unfolding by_own give
    under_led object w found it = by (is_of w.own.graph w.own.mapping class object)
      where
        by : (is : Bool) → Going ((if is then (fill_key object >>= λ u. give (Some object)) else give None) w).after
        by true = (led_then Going Within Going (fill_key object) (λ u. give (Some object)) w (key_led object w found it) (λ u again. record { here = going_of again; told = λ a is. going_of again })).here
        by false = going_of it

    lacking_led : (w : World) → Within w → Going (read_lacking class key w).after
    unfolding by_own
    lacking_led w it =
        (led_then Going Within Going flush (λ u. load_key class key) w (flush_going reads keeps answers first w it)
        (λ u again.
        let v : World = (flush w).after in
        let led = load_led (Load.Key class key) (load_targets.load_key v.own.mapping class key) v refl (subst (λ (mapped : Mapped). IsClass mapped class) (sym again.goes.mapping) declared) again in
        record { here = led.here; told = λ a is. led.here })).here

    pub found_hale : (w : World) → Within w → Going (find_by_key class key w).after
    unfolding find_by_key by_own
    found_hale w it = by (find_identity w.own.graph (root_of w.own.mapping class) key) refl
      where
        by : (found : Option ObjId) → find_identity w.own.graph (root_of w.own.mapping class) key ≡ found → Going (found_for class key found w).after
        by (Some object) is = under_led object w is it
        by None is = lacking_led w it

-- ---- the calls

module _ (loads : LoadsLeaveLoaded) (reads : PreparationsLeaveReread) (keeps : FlushLeavesSound) (answers : FlushWritesAll) where
  read_hale : (object : ObjId) (attr : AttrNo) (w : World) → IsObject w.own.graph object → IsHale w → IsGoing w.own (read_cell object attr w).after
  unfolding read_cell
  read_hale object attr w made hale =
      (led_then (IsGoing w.own) (IsWithin w.own) (IsWithin w.own) enter (λ u. tell_cell object attr) w (enter_going w hale) (λ u it. cell_led loads reads keeps answers w.own object attr made (enter w).after it)).here

  related_hale : (object : ObjId) (place : RelNo) (w : World) → IsPlace object place w.own → IsHale w → IsGoing w.own (read_related object place w).after
  unfolding read_related
  related_hale object place w at hale =
      (led_then (IsGoing w.own) (IsWithin w.own) (IsWithin w.own) enter (λ u. tell_related object place) w (enter_going w hale) (λ u it. related_led loads reads keeps answers w.own object place at (enter w).after it)).here

  change_hale : (owner : ObjId) (place : RelNo) (call : LinkCall) (w : World) → IsLinkCall w.own.mapping w.own.graph owner place call → IsHale w → IsGoing w.own (change_collection owner place call w).after
  unfolding change_collection
  change_hale owner place call w on hale =
      (led_then (IsGoing w.own) (IsWithin w.own) (IsGoing w.own) enter (λ u. change_loaded owner place call) w (enter_going w hale)
      (λ u it. let done = changed_hale loads reads keeps answers w.own owner place call on (enter w).after it in record { here = done; told = λ a is. done })).here

  get_hale : (class : ClassId) (key : List Value) (w : World) → IsClass w.own.mapping class → IsHale w → IsGoing w.own (get class key w).after
  unfolding get
  get_hale class key w declared hale =
      (led_then (IsGoing w.own) (IsWithin w.own) (IsGoing w.own) enter (λ u. find_by_key class key) w (enter_going w hale)
      (λ u it. let done = found_hale loads reads keeps answers w.own class key declared (enter w).after it in record { here = done; told = λ a is. done })).here

  abbrev IsSelected : Mapped → ObjectQuery → Type 0
  IsSelected mapped query = ReadsJoined mapped query × AllByRecursion (IsOption mapped query.class) query.joined × AllByRecursion (IsOption mapped query.class) query.selectin

  queried : (query : ObjectQuery) (first : SessionState) (v : World) → IsSelected v.own.mapping query → IsWithin first v → IsGoing first (load_query query v).after
  unfolding by_own load_queries.load_query
  queried query first v may it = (load_led loads reads keeps answers first (Load.Query query) (load_queries.load_query v.own.mapping query) v refl may it).here

  query_hale : (query : ObjectQuery) (w : World) → MayRead (Reading.Objects query) w → IsHale w → IsGoing w.own (select_objects query w).after
  unfolding select_objects flush_now
  query_hale query w may hale =
      let first : SessionState = w.own in
      let written : IsLed (IsGoing first) (IsWithin first) ((enter >>= λ u. flush) w) =
      led_then (IsGoing first) (IsWithin first) (IsWithin first) enter (λ u. flush) w (enter_going w hale) (λ u it. flush_going reads keeps answers first (enter w).after it) in
      (led_then (IsGoing first) (IsWithin first) (IsGoing first) (enter >>= λ u. flush) (λ u. load_query query) w written
      (λ u it.
      let v : World = ((enter >>= λ u. flush) w).after in
      let done = queried query first v (subst (λ (mapped : Mapped). IsSelected mapped query) (sym it.goes.mapping) may) it in
      record { here = done; told = λ a is. done })).here

module _ (selects : SelectsAnswerTableRows) (owns : OwnSelectsAnswerTableRows) (mains : MainSelectsAnswerTableRows) (reads : PreparationsLeaveReread) (keeps : FlushLeavesSound) (answers : FlushWritesAll) where
  law : LoadsLeaveLoaded
  law = leaves_law selects owns mains

  going : (reading : Reading) (w : World) → MayRead reading w → IsHale w → IsGoing w.own (after_reading reading w)
  going (Reading.Cell object attr) w may hale = read_hale law reads keeps answers object attr w may hale
  going (Reading.Link object place) w may hale = related_hale law reads keeps answers object place w may hale
  going (Reading.Change owner place call) w may hale = change_hale law reads keeps answers owner place call w may hale
  going (Reading.Key class key) w may hale = get_hale law reads keeps answers class key w may hale
  going (Reading.Objects query) w may hale = query_hale law reads keeps answers query w may hale
  going (Reading.Anew object) w may hale = refresh_hale selects owns mains reads keeps answers object w may hale
  going (Reading.Expiry object) w may hale = expire_hale object w hale

pub readings_law : SelectsAnswerTableRows → OwnSelectsAnswerTableRows → MainSelectsAnswerTableRows → PreparationsLeaveReread → FlushLeavesSound → FlushWritesAll → ReadingsKeepWhole
readings_law selects owns mains reads keeps answers reading w may hale = (going selects owns mains reads keeps answers reading w may hale).hale

pub goes_law : SelectsAnswerTableRows → OwnSelectsAnswerTableRows → MainSelectsAnswerTableRows → PreparationsLeaveReread → FlushLeavesSound → FlushWritesAll → ReadingsGoOn
goes_law selects owns mains reads keeps answers reading w may hale = (going selects owns mains reads keeps answers reading w may hale).goes

-- ---- what is told

-- what a run answers has this of it and of the world then
abbrev Tells : {A : Type 0} → (A → World → Type 0) → Run World A → Type 0
Tells {A} R run = (a : A) → run.answer ≡ Ok a → R a run.after

tells_from : {A B : Type 0} (Q : World → Type 0) (R : B → World → Type 0) (events : List Event) (v : World) (r : Result A Refusal) (next : A → World → Run World B) → ((a : A) → r ≡ Ok a → Q v) → ((a : A) → Q v → Tells R (next a v)) → Tells R (continue_from events v r next)
tells_from Q R events v (Ok a) next told later = later a (told a refl)
tells_from Q R events v (Err e) next told later = λ b is. absurd cc

tells_then : {A B : Type 0} (P Q : World → Type 0) (R : B → World → Type 0) (m : World → Run World A) (next : A → World → Run World B) (w : World) → IsLed P Q (m w) → ((a : A) → Q (m w).after → Tells R (next a (m w).after)) → Tells R ((m >>= next) w)
unfolding ◌>>=◌
tells_then P Q R m next w first later = tells_from Q R (m w).events (m w).after (m w).answer next first.told later

told_of : {A : Type 0} (r : Result A Refusal) (P : A → Type 0) (a : A) → r ≡ Ok a → IfOk r P → P a
told_of r P a is if_ok = subst (λ (x : Result _ Refusal). IfOk x P) is if_ok

-- objects that stand under a key have been made
end_made : (graph : Graph) (root : ClassId) (end : Option ObjId) → steps.IsEnd graph root end → IsEnd graph end
end_made graph root None is = tt
end_made graph root (Some end) is = is.stands.0

all_made : (graph : Graph) (root : ClassId) (objects : List ObjId) → steps.AreFound graph root objects → AllByRecursion (IsObject graph) objects
all_made graph root [] all = tt
all_made graph root (object ∷ objects) all = (all.0.stands.0, all_made graph root objects all.1)

-- ---- links

none_made : (graph : Graph) (many : Bool) → AreToldMade graph (none_related many)
none_made graph true = All-nil (IsObject graph)
none_made graph false = tt

related_made : (object : ObjId) (place : RelNo) (session : SessionState) → IsFit session.mapping session.graph → IsObject session.graph object → AreToldMade session.graph (related_in object place session)
related_made object place session fit made = by (link_at session.graph object place) refl
  where
    by : (found : Option Link) → link_at session.graph object place ≡ found → AreToldMade session.graph (related_as (is_many session object place) found)
    by None is = none_made session.graph (is_many session object place)
    by (Some link.Unset) is = none_made session.graph (is_many session object place)
    by (Some (link.Unloaded added removed)) is = none_made session.graph (is_many session object place)
    by (Some (link.One end changed)) is = end_told session.mapping session.graph (object_at session.graph object) place.0 end changed fit (fit_links session.mapping session.graph object fit made) is
    by (Some (link.Many members base)) is = members_told session.mapping session.graph (object_at session.graph object) place.0 members base members fit (fit_links session.mapping session.graph object fit made) is refl

-- a world of a session goes on from itself
from_itself : (first : SessionState) (w : World) → IsWithin first w → IsWithin w.own w
from_itself first w it = record { hale = it.hale; opened = it.opened; awake = it.awake; goes = goes_itself w.own }

module _ (selects : SelectsAnswerTableRows) (owns : OwnSelectsAnswerTableRows) (mains : MainSelectsAnswerTableRows) (reads : PreparationsLeaveReread) (keeps : FlushLeavesSound) (answers : FlushWritesAll) where
  loads : LoadsLeaveLoaded
  loads = leaves_law selects owns mains

  abbrev IsSelectedBy : Mapped → ObjectQuery → Type 0
  IsSelectedBy mapped query = ReadsJoined mapped query × AllByRecursion (IsOption mapped query.class) query.joined × AllByRecursion (IsOption mapped query.class) query.selectin

  abbrev MadeEnd : Option ObjId → World → Type 0
  MadeEnd end v = IsEnd v.own.graph end

  abbrev MadeAll : List ObjId → World → Type 0
  MadeAll objects v = All (IsObject v.own.graph) objects

  abbrev MadeTold : Related → World → Type 0
  MadeTold related v = AreToldMade v.own.graph related

  -- ---- an object by its key

  under_tells : (class : ClassId) (key : List Value) (object : ObjId) (w : World) → IsClass w.own.mapping class → find_identity w.own.graph (root_of w.own.mapping class) key ≡ Some object → IsWithin w.own w → Tells MadeEnd (found_under class object w)
  unfolding by_own give
  under_tells class key object w declared found it = by (is_of w.own.graph w.own.mapping class object)
    where
      by : (is : Bool) → Tells MadeEnd ((if is then (fill_key object >>= λ u. give (Some object)) else give None) w)
      by true =
          tells_then (IsGoing w.own) (IsWithin w.own) MadeEnd (fill_key object) (λ u. give (Some object)) w (key_led loads reads keeps answers w.own class key declared object w found it)
          (λ u again end is.
          let v : World = (fill_key object w).after in
          let stands = found_stands w.own.graph (root_of w.own.mapping class) key object it.hale.healthy.sound.graph.rooted found in
          subst (IsEnd v.own.graph) (let same : Some object ≡ end = cc in same) (object_on object w.own v.own again.goes stands.0))
      by false = λ end is. subst (IsEnd w.own.graph) (let same : None ≡ end = cc in same) tt

  lacking_tells : (class : ClassId) (key : List Value) (w : World) → IsClass w.own.mapping class → IsWithin w.own w → Tells MadeEnd (read_lacking class key w)
  unfolding by_own on_load
  lacking_tells class key w declared it =
      tells_then (IsGoing w.own) (IsWithin w.own) MadeEnd flush (λ u. load_key class key) w (flush_going reads keeps answers w.own w it)
      (λ u again end is.
      let v : World = (flush w).after in
      let run = load_targets.load_key v.own.mapping class key (loading_of v) in
      let root : ClassId = root_of v.own.mapping class in
      end_made run.after.own.graph root end
      (told_of run.answer (λ found. steps.IsEnd run.after.own.graph root found) end is (key_told selects owns mains v again.hale class key (subst (λ (mapped : Mapped). IsClass mapped class) (sym again.goes.mapping) declared))))

  find_tells : (class : ClassId) (key : List Value) (w : World) → IsClass w.own.mapping class → IsWithin w.own w → Tells MadeEnd (find_by_key class key w)
  unfolding find_by_key by_own
  find_tells class key w declared it = by (find_identity w.own.graph (root_of w.own.mapping class) key) refl
    where
      by : (found : Option ObjId) → find_identity w.own.graph (root_of w.own.mapping class) key ≡ found → Tells MadeEnd (found_for class key found w)
      by (Some object) is = under_tells class key object w declared is it
      by None is = lacking_tells class key w declared it

  get_tells : (class : ClassId) (key : List Value) (w : World) → IsClass w.own.mapping class → IsHale w → Tells MadeEnd (get class key w)
  unfolding get
  get_tells class key w declared hale =
      tells_then (IsGoing w.own) (IsWithin w.own) MadeEnd enter (λ u. find_by_key class key) w (enter_going w hale)
      (λ u it. find_tells class key (enter w).after (subst (λ (mapped : Mapped). IsClass mapped class) (sym it.goes.mapping) declared) (from_itself w.own (enter w).after it))

  -- ---- queries

  query_tells : (query : ObjectQuery) (w : World) → MayRead (Reading.Objects query) w → IsHale w → Tells MadeAll (select_objects query w)
  unfolding select_objects flush_now by_own on_load
  query_tells query w may hale =
      let first : SessionState = w.own in
      let written : IsLed (IsGoing first) (IsWithin first) ((enter >>= λ u. flush) w) =
      led_then (IsGoing first) (IsWithin first) (IsWithin first) enter (λ u. flush) w (enter_going w hale) (λ u it. flush_going reads keeps answers first (enter w).after it) in
      tells_then (IsGoing first) (IsWithin first) MadeAll (enter >>= λ u. flush) (λ u. load_query query) w written
      (λ u it objects is.
      let v : World = ((enter >>= λ u. flush) w).after in
      let run = load_queries.load_query v.own.mapping query (loading_of v) in
      let root : ClassId = root_of v.own.mapping query.class in
      let given : MayRead (Reading.Objects query) v = subst (λ (mapped : Mapped). IsSelectedBy mapped query) (sym it.goes.mapping) may in
      All-from_recursion (IsObject run.after.own.graph) objects
      (all_made run.after.own.graph root objects (told_of run.answer (λ found. steps.AreFound run.after.own.graph root found) objects is (query_told selects owns mains v it.hale query given))))

  -- ---- links

  link_tells : (object : ObjId) (place : RelNo) (w : World) → IsPlace object place w.own → IsHale w → Tells MadeTold (read_related object place w)
  unfolding read_related tell_related by_own give
  link_tells object place w at hale =
      let first : SessionState = w.own in
      tells_then (IsGoing first) (IsWithin first) MadeTold enter (λ u. tell_related object place) w (enter_going w hale)
      (λ u it.
      let v : World = (enter w).after in
      tells_then (IsGoing first) (IsWithin first) MadeTold (checked (link_fault object place)) (λ u. fetch_link object place >>= λ u. by_own (λ session. give (related_in object place session))) v
      (led_checked (IsGoing first) (IsWithin first) (link_fault object place) v (going_of it) (λ none. it))
      (λ u again.
      let x : World = (checked (link_fault object place) v).after in
      tells_then (IsGoing first) (IsWithin first) MadeTold (fetch_link object place) (λ u. by_own (λ session. give (related_in object place session))) x (fetch_led loads reads keeps answers first object place at x again)
      (λ u then_it related is.
      let y : World = (fetch_link object place x).after in
      subst (AreToldMade y.own.graph) (let same : related_in object place y.own ≡ related = cc in same) (related_made object place y.own then_it.hale.keyed.fit (object_on object first y.own then_it.goes at.made)))))

pub gets_law : SelectsAnswerTableRows → OwnSelectsAnswerTableRows → MainSelectsAnswerTableRows → PreparationsLeaveReread → FlushLeavesSound → FlushWritesAll → GetsTellMade
gets_law selects owns mains reads keeps answers class key end w declared hale is = get_tells selects owns mains reads keeps answers class key w declared hale end is

pub queries_law : SelectsAnswerTableRows → OwnSelectsAnswerTableRows → MainSelectsAnswerTableRows → PreparationsLeaveReread → FlushLeavesSound → FlushWritesAll → QueriesTellMade
queries_law selects owns mains reads keeps answers query objects w may hale is = query_tells selects owns mains reads keeps answers query w may hale objects is

pub links_law : SelectsAnswerTableRows → OwnSelectsAnswerTableRows → MainSelectsAnswerTableRows → PreparationsLeaveReread → FlushLeavesSound → FlushWritesAll → LinksTellMade
links_law selects owns mains reads keeps answers object place related w at hale is = link_tells selects owns mains reads keeps answers object place w at hale related is
