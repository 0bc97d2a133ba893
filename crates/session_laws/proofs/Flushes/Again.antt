-- A flush right after one that answered sends nothing.
use Rattle.std.proofs.Common.{◌≡◌, ℕ, ◌+◌, ◌-◌, ◌<◌, Bool, true, false, not, ◌&&◌, ◌||◌, List, [], length, map, get_or, Option, None, Some, Result, Ok, refl, sym, ap, ◌∙◌, subst, arith}
use Rattle.std.specs.Prelude.{if◌then◌else◌}
use Rattle.std.specs.List.{range_with_len}
use Rattle.std.proofs.lemmas.Bool.{and_right}
use Rattle.std.proofs.lemmas.List.{get_or-map}
use Rattle.std.proofs.lemmas.List.FromFn.{get_or-map-range_with_len, length-map-range_with_len}
use Rattle.base_core.specs.declared.ids.ObjId.{ObjId}
use Rattle.base_core.specs.declared.refusal.Refusal.{Refusal}
use Rattle.base_core.specs.declared.value.Value.{Value}
use Rattle.schema_core.specs.declared.changes.Planned.{Planned}
use Rattle.schema_core.specs.declared.changes.RowChanges.{RowChanges}
use Rattle.class_mapping.specs.Mapped.{Mapped}
use Rattle.object_arena.specs.declared.object.Object.{Object}
use Rattle.object_arena.specs.declared.object.State.{State}
use Rattle.object_arena.specs.declared.object.State.TheVariants.{Transient, Pending, Persistent, Deleted, Detached}
use Rattle.object_arena.specs.Graph.{Graph, is_among, is_pending, is_persistent, no_object, object_at}
use Rattle.object_arena.specs.Identity.{id_of_place}
use Rattle.object_rows.specs.declared.prepared.Prepared.{Prepared}
use Rattle.object_rows.specs.Seen.{is_new, object_ids}
use Rattle.flush_plan.specs.Planning.{plan}
use Rattle.row_project.specs.Changes.{project}
use Rattle.graph_flushed.specs.Flushed.{Written, deleted_object, graph_written, key_of, new_object, object_in, staying_object, state_under, written_with}
use Rattle.graph_flushed.specs.Keys.{key_if_new, new_keys}
use Rattle.prepared_objects.specs.Known.{next_unread}
use Rattle.prepared_objects.specs.Leaving.{is_new_orphan, prepared_of, starts_deletes}
use Rattle.session_laws.proofs.Flushed.{at_each, no_statement, settled_in}
use Rattle.load_rows.specs.Loading.{Loading}
use Rattle.object_records.specs.Kept.{held_in}
use Rattle.keeper_core.specs.Programs.{Run, ◌>>=◌, ask, continue_from, each, give, quiet, undo_on_refusal, with_events_before, with_undo}
use Rattle.keeper_core.specs.Beside.{Beside, by_own, changes, on_own}
use Rattle.session_scopes.specs.Loads.{loaded_run, on_load}
use Rattle.session_scopes.specs.SessionState.{with_warnings}
use Rattle.session_calls.specs.Parts.{World}
use Rattle.session_statements.specs.Run.{send_plan}
use Rattle.session_acts.specs.Flush.{flush, give_up_to, prepare, session_flushed, write_loaded, write_objects, write_prepared, write_rows, write_warned}
use Rattle.session_acts.specs.Outcome.{changes_of}
use Rattle.session_laws.specs.Flushes.{prepared_world}
use Rattle.session_laws.specs.Loads.{loading_of}
use Rattle.session_laws.specs.Sound.{EachObject, IsMarkedRight}
use Rattle.session_laws.proofs.Flushes.Flushing.{IsFlushDone, IsFlushSent, flush_sent}
use Rattle.session_laws.proofs.Flushes.Reached.{dropped_among, none_going, none_prepared, none_unread}
use Rattle.session_laws.proofs.Flushes.Reached as reached
use Rattle.session_laws.proofs.Flushes.Reading.{none_read, prepare_marks}

-- ---- no object starts a delete then

pub here_at : (graph : Graph) (place : ℕ) → object_at graph (id_of_place place) ≡ get_or graph.objects place no_object
here_at graph place = let same : place + 1 - 1 ≡ place = omega arith in ap (λ (n : ℕ). get_or graph.objects n no_object) same

pub prepared_among : (mapped : Mapped) (graph : Graph) (place : ℕ) → place < length graph.objects → starts_deletes (object_at graph (id_of_place place)) ≡ true → is_among (prepared_of mapped graph).deleted (id_of_place place) ≡ true
prepared_among mapped graph place inside is = reached.prepared_among mapped graph place inside is

no_start : (state : State) (b : Bool) → (b ≡ true → ⊥) → (is_persistent state && b) ≡ false
no_start state true never = absurd (never refl)
no_start state false never = and_right (is_persistent state) false refl

not_standing : (own state : State) (b : Bool) → own ≡ state → is_persistent state ≡ false → (is_persistent own && b) ≡ false
not_standing own state b is none = ap (λ (p : Bool). p && b) (ap is_persistent is ∙ none)

none_if : {A : Type 0} (b : Bool) (key : Option A) → b ≡ false → (let none : Option A = None in if b then key else none) ≡ None
none_if true key is = absurd cc
none_if false key is = refl

-- one that is new no more has no key
dropped_key : (mapped : Mapped) (graph : Graph) (prepared : Prepared) (rows : RowChanges) (keys : List (List Value)) (place : ℕ) → place < length graph.objects → is_among prepared.transient (id_of_place place) ≡ true
    → key_of (written_with mapped prepared rows keys graph) (id_of_place place) ≡ None
unfolding new_keys object_ids
dropped_key mapped graph prepared rows keys place inside among =
    let all : List ObjId = map id_of_place (range_with_len 0 (length graph.objects)) in
    let key : ObjId → Option (List Value) = key_if_new mapped graph prepared rows keys in
    let within : place < length all = omega (arith, inside, length-map-range_with_len id_of_place 0 (length graph.objects)) in
    let same : place + 1 - 1 ≡ place = omega arith in
    let old : is_new graph prepared (id_of_place place) ≡ false = ap (λ (b : Bool). is_pending (object_at graph (id_of_place place)).state && not b) among ∙ and_right (is_pending (object_at graph (id_of_place place)).state) false refl in
    ap (λ (n : ℕ). get_or (map key all) n None) same
    ∙ get_or-map key all place (id_of_place place) None within
    ∙ ap key (get_or-map-range_with_len id_of_place 0 (length graph.objects) place place (id_of_place place) inside (omega arith))
    ∙ none_if (is_new graph prepared (id_of_place place)) _ old

module _ (mapped : Mapped) (graph : Graph) (rows : RowChanges) (keys : List (List Value)) (marks : EachObject IsMarkedRight graph) where
  abbrev written : Written
  written = written_with mapped (prepared_of mapped graph) rows keys graph

  module _ (place : ℕ) (inside : place < length graph.objects) where
    abbrev object : ObjId
    object = id_of_place place

    abbrev it : Object
    it = get_or graph.objects place no_object

    abbrev starts : Bool
    starts = it.marked || it.orphan

    -- a new object has no mark, and its parent has not left it
    new_left : (key : Option (List Value)) → it.state ≡ Pending → key_of written object ≡ key → starts_deletes (new_object written object key it) ≡ false
    new_left None is at = refl
    new_left (Some key) is at = no_start (state_under written object (Some key)) starts (λ b. by it.marked it.orphan refl refl b)
      where
        by : (marked orphan : Bool) → it.marked ≡ marked → it.orphan ≡ orphan → (marked || orphan) ≡ true → ⊥
        by true orphan one other b = let none : true ≡ false = sym (marks place inside one) ∙ ap is_persistent is in cc
        by false true one other b =
            let new : is_new_orphan it ≡ true = ap (λ (s : State). is_pending s && it.orphan) is ∙ other in
            let gone = dropped_key mapped graph (prepared_of mapped graph) rows keys place inside (dropped_among mapped graph place inside (ap is_new_orphan (here_at graph place) ∙ new)) in
            let never : Some key ≡ None = sym at ∙ gone in
            cc
        by false false one other b = cc

    -- one that starts a delete is deleted
    old_left : (gone : Bool) → it.state ≡ Persistent → is_among (prepared_of mapped graph).deleted object ≡ gone
        → (let now : Object = (if gone then deleted_object written object it else staying_object written object it) in starts_deletes now) ≡ false
    old_left true is at = refl
    old_left false is at =
        no_start (state_under written object it.identity) starts
        (λ b.
        let start : starts_deletes it ≡ true = ap (λ (s : State). is_persistent s && starts) is ∙ b in
        let never : true ≡ false = sym (reached.prepared_among mapped graph place inside (ap starts_deletes (here_at graph place) ∙ start)) ∙ at in
        cc)

    left_in : (state : State) → it.state ≡ state → starts_deletes (object_in state written object it) ≡ false
    left_in Transient is = not_standing it.state Transient starts is refl
    left_in Pending is = new_left (key_of written object) is refl
    left_in Persistent is = old_left (is_among (prepared_of mapped graph).deleted object) is refl
    left_in Deleted is = not_standing it.state Deleted starts is refl
    left_in Detached is = not_standing it.state Detached starts is refl

  pub none_starts : (other : ObjId) → starts_deletes (object_at (graph_written written) other) ≡ false
  none_starts other = at_each (λ (it : Object). starts_deletes it ≡ false) written other (λ place inside. left_in place inside (get_or graph.objects place no_object).state refl) refl

  none_pending : (other : ObjId) → is_pending (object_at (graph_written written) other).state ≡ false
  none_pending other =
      at_each (λ (it : Object). is_pending it.state ≡ false) written other
      (λ place inside. settled_in written (id_of_place place) (get_or graph.objects place no_object) (get_or graph.objects place no_object).state refl) refl

  -- nothing is to be read
  unread_again : next_unread mapped (graph_written written) ≡ None
  unread_again = none_unread mapped (graph_written written) (none_going mapped (graph_written written) none_starts)

  -- and nothing is to be written
  planned_again : plan mapped.schema (project mapped (graph_written written) (prepared_of mapped (graph_written written))) ≡ Ok []
  planned_again =
      ap (λ (p : Prepared). plan mapped.schema (project mapped (graph_written written) p)) (none_prepared mapped (graph_written written) (none_going mapped (graph_written written) none_starts) none_pending)
      ∙ no_statement written

-- ---- the second flush

-- nothing is sent
record IsQuietRun (run : Run World (Unit {0})) : Type 0 where
  events : run.events ≡ []
  answer : run.answer ≡ Ok tt

-- where the plan is empty
empty_written : (mid : World) → plan mid.own.mapping.schema (changes_of mid.own) ≡ Ok [] → IsQuietRun (write_loaded mid)
unfolding write_loaded write_prepared write_warned write_rows ◌>>=◌ by_own on_own ask changes give each send_plan
empty_written mid empty =
    let prepared : Prepared = prepared_of mid.own.mapping mid.own.graph in
    let rows : RowChanges = changes_of mid.own in
    let warned : World = (changes (with_warnings rows.warnings) mid).after in
    let next : List Planned → World → Run World (Unit {0}) = λ statements. by_own (λ session. send_plan session.mapping.schema rows statements) >>= λ keys. changes (session_flushed prepared rows keys) in
    subst (λ (r : Result (List Planned) Refusal). IsQuietRun (with_events_before [] (with_events_before [] (continue_from [] warned r next)))) (sym empty) (record { events = refl; answer = refl })

-- and where nothing is to be read
quiet_objects : (w mid : World) → prepare w ≡ quiet (Ok tt) mid → IsQuietRun (write_loaded mid) → IsQuietRun (write_objects w)
unfolding write_objects ◌>>=◌
quiet_objects w mid is rest =
    subst (λ (run : Run World (Unit {0})). IsQuietRun (continue_from run.events run.after run.answer (λ u. write_loaded))) (sym is) (record { events = rest.events; answer = rest.answer })

quiet_flush : (w : World) → IsQuietRun (write_objects w) → IsQuietRun (flush w)
unfolding flush with_undo by_own
quiet_flush w run =
    subst (λ (r : Result (Unit {0}) Refusal). IsQuietRun (undo_on_refusal (write_objects w).events (write_objects w).after r (give_up_to (held_in w.own.graph)))) (sym run.answer) (record { events = run.events; answer = refl })

-- the session, when nothing was read
abbrev unread : World → World
unread w = let run : Run (Beside Loading) (Unit {0}) = quiet (Ok tt) (loading_of w) in (loaded_run w.own run).after

quiet_prepared : (w : World) → next_unread w.own.mapping w.own.graph ≡ None → prepare w ≡ quiet (Ok tt) (unread w)
unfolding prepare by_own on_load
quiet_prepared w none = ap (λ (run : Run (Beside Loading) (Unit {0})). loaded_run w.own run) (none_read w.own.mapping (loading_of w) none)

empty_flush : (w : World) → next_unread w.own.mapping w.own.graph ≡ None → plan w.own.mapping.schema (changes_of w.own) ≡ Ok [] → IsQuietRun (flush w)
empty_flush w none empty = quiet_flush w (quiet_objects w (unread w) (quiet_prepared w none) (empty_written (unread w) empty))

pub quiet_again : (world : World) → EachObject IsMarkedRight world.own.graph → (flush world).answer ≡ Ok tt → ((flush (flush world).after).events ≡ []) × ((flush (flush world).after).answer ≡ Ok tt)
quiet_again world marks is =
    let done : IsFlushDone world (flush world).after = flush_sent world is in
    let mid : World = prepared_world world in
    let sent : IsFlushSent mid (flush world).after = done.sent in
    let right : EachObject IsMarkedRight mid.own.graph = prepare_marks world marks in
    let now : World = (flush world).after in
    let none : next_unread now.own.mapping now.own.graph ≡ None =
    ap (λ (m : Mapped). next_unread m now.own.graph) sent.mapping ∙ ap (next_unread mid.own.mapping) sent.objects ∙ unread_again mid.own.mapping mid.own.graph (changes_of mid.own) sent.given right in
    let empty : plan now.own.mapping.schema (changes_of now.own) ≡ Ok [] =
    ap (λ (m : Mapped). plan m.schema (project m now.own.graph (prepared_of m now.own.graph))) sent.mapping
    ∙ ap (λ (g : Graph). plan mid.own.mapping.schema (project mid.own.mapping g (prepared_of mid.own.mapping g))) sent.objects
    ∙ planned_again mid.own.mapping mid.own.graph (changes_of mid.own) sent.given right in
    let run : IsQuietRun (flush now) = empty_flush now none empty in
    (run.events, run.answer)
