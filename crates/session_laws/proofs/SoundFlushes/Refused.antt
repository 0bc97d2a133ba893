-- A flush that is refused has changed no object since it was prepared and ended no scope, and gives back what the reading changed, before
-- it is given up.
use Rattle.std.proofs.Common.{◌≡◌, ◌⊎◌, inl, inr, ℕ, ◌<◌, ◌≤◌, List, length, Result, Ok, Err, refl, sym, ap, ◌∙◌, subst, arith}
use Rattle.std.specs.Prelude.{◌==◌}
use Rattle.base_core.specs.declared.refusal.Refusal.{Refusal}
use Rattle.class_mapping.specs.Mapped.{Mapped}
use Rattle.keeper_core.specs.Calls as call
use Rattle.object_arena.specs.Graph.{Graph}
use Rattle.object_arena.specs.Identity.{IsGraph}
use Rattle.object_rows.specs.declared.prepared.Prepared.{Prepared}
use Rattle.flush_plan.specs.Planning.{plan}
use Rattle.object_records.specs.Kept.{given_back, held_in}
use Rattle.prepared_objects.specs.Leaving.{prepared_of}
use Rattle.load_rows.specs.Loading.{Loading}
use Rattle.load_preparing.specs.Preparing.{read_going}
use Rattle.session_statements.specs.Run.{send_plan}
use Rattle.keeper_core.specs.Store.{Store}
use Rattle.keeper_core.specs.Programs.{Event, Run, ◌>>=◌, ask, continue_from, refuse, undo_on_refusal, with_undo}
use Rattle.keeper_core.specs.Beside.{by_own, changes, on_own, on_store}
use Rattle.savepoints.specs.declared.scope.Scope.{Scope}
use Rattle.savepoints.specs.Scopes.{Framed, is_touched}
use Rattle.schema_core.specs.Apply.{Outcome, apply}
use Rattle.schema_core.specs.declared.changes.RowChanges.{RowChanges}
use Rattle.schema_core.specs.declared.statement.RowStmt.{RowStmt}
use Rattle.schema_core.specs.Catalog.{Catalog}
use Rattle.session_scopes.specs.Keeping.{session_given_back}
use Rattle.session_scopes.specs.Loads.{frames_filled, on_load, with_loaded}
use Rattle.session_scopes.specs.Scoping.{session_failed}
use Rattle.session_scopes.specs.SessionState.{SessionState, with_notes, with_warnings}
use Rattle.session_calls.specs.Parts.{World, roll_back_scope}
use Rattle.session_acts.specs.Flush.{flush, give_up, give_up_to, prepare, session_flushed, write_loaded, write_objects, write_prepared, write_rows, write_warned}
use Rattle.session_acts.specs.Outcome.{changes_of}
use Rattle.session_acts.proofs.Unwritten.{scope_open}
use Rattle.session_laws.specs.Flushes.{prepared_world}
use Rattle.session_laws.specs.Loads.{IsNotedAt, loading_of}
use Rattle.session_laws.specs.Preparing.{PreparationsLeaveReread}
use Rattle.session_laws.specs.Scopes.{object_in}
use Rattle.session_laws.specs.Sound.{AreSoundScopes, IsSound}
use Rattle.session_laws.specs.SoundFlushes.{RefusedFlushIsSound}
use Rattle.session_laws.proofs.Flushes.GivenBack.{IsGivenBack, given_graph, given_read}
use Rattle.session_laws.proofs.Flushes.Kept.{IsKeptByWrites, plan_keeps}
use Rattle.session_laws.proofs.Flushes.Reading.{IsReadWell, prepare_scopes}
use Rattle.session_laws.proofs.Loads.Laws.{sound_law}
use Rattle.session_laws.proofs.Loads.Touched.{filled_scopes, noted_touched}
use Rattle.session_laws.proofs.Sound.Changes.{IsLater, scopes_kept}
use Rattle.session_laws.proofs.Sound.Rolling.{HasSoundScopes, answered_back, scope_rolled_back}
use Rattle.session_laws.proofs.Sound.Touches.{IsLeft, other_answer}

-- ---- objects and scopes are as they were

pub record IsUnmoved (old now : World) : Type 0 where
  pub mapping : now.own.mapping ≡ old.own.mapping
  pub graph : now.own.graph ≡ old.own.graph
  pub frames : now.own.frames ≡ old.own.frames
  pub starts : now.store.scopes ≡ old.store.scopes

unmoved : (w : World) → IsUnmoved w w
unmoved w = record { mapping = refl; graph = refl; frames = refl; starts = refl }

written_unmoved : (old : World) (statement : RowStmt) (outcome : Outcome) (w : World) → IsUnmoved old w
    → IsUnmoved old (record { own = with_notes (call.run_of_write statement outcome w.store).events w.own; store = (call.run_of_write statement outcome w.store).after })
written_unmoved old statement (Ok done) w same = record { mapping = same.mapping; graph = same.graph; frames = same.frames; starts = same.starts }
written_unmoved old statement (Err violation) w same = record { mapping = same.mapping; graph = same.graph; frames = same.frames; starts = same.starts }

writes_unmoved : (old : World) (schema : Catalog) → IsKeptByWrites schema (IsUnmoved old)
unfolding on_store call.write
writes_unmoved old schema = λ statement well. record { kept = λ w same. written_unmoved old statement (apply schema w.store.tables statement) w same }

-- ---- a refusal on the way

refused_from : {A B : Type 0} (P : World → Type 0) (events : List Event) (v : World) (r : Result A Refusal) (next : A → World → Run World B) (e : Refusal) → P v → ((a : A) → (next a v).answer ≡ Err e → P (next a v).after)
    → (continue_from events v r next).answer ≡ Err e → P (continue_from events v r next).after
refused_from P events v (Ok a) next e here later is = later a is
refused_from P events v (Err f) next e here later is = here

refused_then : {A B : Type 0} (P : World → Type 0) (m : World → Run World A) (next : A → World → Run World B) (w : World) (e : Refusal) → P (m w).after → ((a : A) → (next a (m w).after).answer ≡ Err e → P (next a (m w).after).after)
    → ((m >>= next) w).answer ≡ Err e → P ((m >>= next) w).after
unfolding ◌>>=◌
refused_then P m next w e here later is = refused_from P (m w).events (m w).after (m w).answer next e here later is

noted_unmoved : (old w : World) (own : SessionState) → own.mapping ≡ w.own.mapping → own.graph ≡ w.own.graph → own.frames ≡ w.own.frames → IsUnmoved old w → IsUnmoved old (record { own = own; store = w.store })
noted_unmoved old w own mapping graph frames same = record { mapping = mapping ∙ same.mapping; graph = graph ∙ same.graph; frames = frames ∙ same.frames; starts = same.starts }

never_refused : (P : World → Type 0) (f : SessionState → SessionState) (v : World) (e : Refusal) → (changes f v).answer ≡ Err e → P (changes f v).after
unfolding changes
never_refused P f v e is = absurd cc

rows_refused : (old : World) (prepared : Prepared) (rows : RowChanges) (w : World) (e : Refusal) → IsUnmoved old w → (write_rows prepared rows w).answer ≡ Err e → IsUnmoved old (write_rows prepared rows w).after
unfolding write_rows on_own ask by_own
rows_refused old prepared rows w e same is =
    refused_then (IsUnmoved old) (on_own (ask (λ session. plan session.mapping.schema rows))) (λ statements. by_own (λ session. send_plan session.mapping.schema rows statements) >>= λ keys. changes (session_flushed prepared rows keys)) w e same
    (λ statements stopped.
    refused_then (IsUnmoved old) (by_own (λ session. send_plan session.mapping.schema rows statements)) (λ keys. changes (session_flushed prepared rows keys)) w e
    ((plan_keeps w.own.mapping.schema rows (IsUnmoved old) (writes_unmoved old w.own.mapping.schema) statements).kept w same)
    (λ keys ended. never_refused (IsUnmoved old) (session_flushed prepared rows keys) _ e ended) stopped) is

warned_refused : (old : World) (prepared : Prepared) (rows : RowChanges) (w : World) (e : Refusal) → IsUnmoved old w → (write_warned prepared rows w).answer ≡ Err e → IsUnmoved old (write_warned prepared rows w).after
unfolding write_warned changes
warned_refused old prepared rows w e same is =
    let warned : World = record { own = with_warnings rows.warnings w.own; store = w.store } in
    refused_then (IsUnmoved old) (changes (with_warnings rows.warnings)) (λ u. write_rows prepared rows) w e (noted_unmoved old w warned.own refl refl refl same)
    (λ u stopped. rows_refused old prepared rows warned e (noted_unmoved old w warned.own refl refl refl same) stopped) is

loaded_refused : (w : World) (e : Refusal) → (write_loaded w).answer ≡ Err e → IsUnmoved w (write_loaded w).after
unfolding write_loaded write_prepared by_own
loaded_refused w e is = warned_refused w (prepared_of w.own.mapping w.own.graph) (changes_of w.own) w e (unmoved w) is

-- what was prepared is as it was, also where that was refused
pub objects_refused : (w : World) (e : Refusal) → (write_objects w).answer ≡ Err e → IsUnmoved (prepared_world w) (write_objects w).after
unfolding write_objects
objects_refused w e is = refused_then (IsUnmoved (prepared_world w)) prepare (λ u. write_loaded) w e (unmoved (prepared_world w)) (λ u stopped. loaded_refused (prepared_world w) e stopped) is

-- ---- what was read is given back

scopes_moved : (w v : World) → IsUnmoved w v → HasSoundScopes w.own w.store → HasSoundScopes v.own v.store
scopes_moved w v same sound = record {
  graph = subst (λ (g : Graph). IsGraph g.objects g.roots) (sym same.graph) sound.graph;
  scopes = subst (λ (m : Mapped). AreSoundScopes m v.own.graph v.own.frames v.own.frames.scopes v.store.scopes) (sym same.mapping)
      (subst (λ (g : Graph). AreSoundScopes w.own.mapping g v.own.frames v.own.frames.scopes v.store.scopes) (sym same.graph)
      (subst (λ (f : Framed). AreSoundScopes w.own.mapping w.own.graph f f.scopes v.store.scopes) (sym same.frames)
      (subst (AreSoundScopes w.own.mapping w.own.graph w.own.frames w.own.frames.scopes) (sym same.starts) sound.scopes)));
}

-- the world in which that is done
abbrev back_of : World → World → World
back_of w v = record { own = session_given_back (held_in w.own.graph) v.own; store = v.store }

back_moved : (w mid v : World) → IsUnmoved mid v → IsUnmoved (back_of w mid) (back_of w v)
back_moved w mid v same = record { mapping = same.mapping; graph = ap (given_back (held_in w.own.graph)) same.graph; frames = same.frames; starts = same.starts }

module _ (w : World) (well : IsReadWell w) (inside : 0 < length w.own.frames.scopes) (sound : IsSound w) where
  -- the session that was read is sound
  read_sound : IsSound (prepared_world w)
  unfolding prepare by_own on_load
  read_sound =
      let own : Loading = (read_going w.own.mapping (loading_of w)).after.own in
      subst (λ (store : Store). IsSound (record { own = with_loaded own w.own; store = store })) (sym well.store) (sound_law own w (scope_open w.own.frames.scopes inside) well.loads sound)

  -- an object that no scope has touched is the same when that is given back
  untouched_same : IsLater (length (prepared_world w).own.frames.scopes) (prepared_world w).own.graph (back_of w (prepared_world w)).own.graph (prepared_world w).own.frames (prepared_world w).own.frames
  unfolding IsLater prepare by_own on_load
  untouched_same depth place low high less untouched = by (well.loads.noted place (omega (arith, less, given.long)))
    where
      own : Loading
      own = (read_going w.own.mapping (loading_of w)).after.own

      given : IsGivenBack w.own.graph own.graph (given_back (held_in w.own.graph) own.graph)
      given = given_read w well

      deep : depth ≤ length w.own.frames.scopes
      deep = subst (λ (scopes : List Scope). depth ≤ length scopes) (filled_scopes own.graph own.notes w.own.frames) high

      by : IsNotedAt own.notes place ⊎ ((place < length w.own.graph.objects) × (object_in own.graph place ≡ object_in w.own.graph place))
          → IsLeft own.graph (given_back (held_in w.own.graph) own.graph) (frames_filled own.graph own.notes w.own.frames) depth place
      by (inl noted) =
          absurd (other_answer (is_touched (frames_filled own.graph own.notes w.own.frames) depth place) untouched (noted_touched own.graph own.notes w.own.frames depth place low deep noted))
      by (inr same) = record { untouched = untouched; same = same.1 ∙ sym (given.there place same.0) }

  -- the scopes are sound when that is given back
  back_scopes : HasSoundScopes (back_of w (prepared_world w)).own (prepared_world w).store
  back_scopes =
      let mid : World = prepared_world w in
      let given = given_read w well in
      record {
        graph = given_graph w.own.graph mid.own.graph (back_of w mid).own.graph given read_sound.graph;
        scopes = scopes_kept mid.own.mapping mid.own.graph (back_of w mid).own.graph mid.own.frames mid.own.frames (length mid.own.frames.scopes) given.long given.roots untouched_same mid.own.frames.scopes mid.store.scopes (omega arith) read_sound.scopes;
      }

  refused_scopes : (v : World) → IsUnmoved (prepared_world w) v → HasSoundScopes (back_of w v).own v.store
  refused_scopes v same = scopes_moved (back_of w (prepared_world w)) (back_of w v) (back_moved w (prepared_world w) v same) back_scopes

  refused_inside : (v : World) → IsUnmoved (prepared_world w) v → 0 < length v.own.frames.scopes
  refused_inside v same = omega (arith, inside, ap (λ (frames : Framed). length frames.scopes) same.frames, ap (λ (scopes : List Scope). length scopes) (prepare_scopes w))

-- ---- it is given up

failed_sound : (own : SessionState) (store : Store) → 0 < length own.frames.scopes → HasSoundScopes own store → IsSound (record { own = session_failed own; store = (roll_back_scope (length own.frames.scopes) store).after })
failed_sound own store inside starts =
    let gone = scope_rolled_back (length own.frames.scopes) own store (omega (arith, inside)) (omega arith) starts in
    record { graph = gone.graph; legal = gone.legal; fresh = gone.fresh; marked = gone.marked; scopes = gone.scopes; rest = gone.rest }

answer_up : (events : List Event) (v : World) (answer : Result (Unit {0}) Refusal) (e : Refusal) → answer ≡ Ok tt → IsSound (record { own = session_failed v.own; store = v.store })
    → (let run = continue_from events v answer (λ u. changes session_failed) in IsSound (continue_from run.events run.after run.answer (λ u. refuse {A = Unit {0}} e)).after)
unfolding changes refuse
answer_up events v (Ok u) e is sound = sound
answer_up events v (Err f) e is sound = absurd cc

given_up : (w : World) (e : Refusal) → 0 < length w.own.frames.scopes → HasSoundScopes w.own w.store → IsSound ((give_up >>= λ u. refuse {A = Unit {0}} e) w).after
unfolding give_up by_own ◌>>=◌ on_store
given_up w e inside starts =
    let depth : ℕ = length w.own.frames.scopes in
    let run = roll_back_scope depth w.store in
    answer_up run.events (record { own = with_notes run.events w.own; store = run.after }) run.answer e (answered_back (depth == 1) depth w.store)
    (failed_sound (with_notes run.events w.own) w.store inside (record { graph = starts.graph; scopes = starts.scopes }))

-- first what was read is given back
gave_back : (w v : World) (e : Refusal) → IsSound ((give_up >>= λ u. refuse {A = Unit {0}} e) (back_of w v)).after → IsSound ((give_up_to (held_in w.own.graph) >>= λ u. refuse {A = Unit {0}} e) v).after
unfolding give_up_to changes ◌>>=◌
gave_back w v e sound = sound

undone : (undo : World → Run World (Unit {0})) (events : List Event) (v : World) (answer : Result (Unit {0}) Refusal) (e : Refusal) → (undo_on_refusal events v answer undo).answer ≡ Err e
    → ((f : Refusal) → answer ≡ Err f → IsSound ((undo >>= λ u. refuse {A = Unit {0}} f) v).after) → IsSound (undo_on_refusal events v answer undo).after
undone undo events v (Ok u) e is later = absurd cc
undone undo events v (Err f) e is later = later f refl

pub refused_sound : PreparationsLeaveReread → RefusedFlushIsSound
unfolding flush with_undo by_own
refused_sound reads w e inside readable sound is =
    let well : IsReadWell w = reads w readable in
    undone (give_up_to (held_in w.own.graph)) (write_objects w).events (write_objects w).after (write_objects w).answer e is
    (λ f stopped.
    let v : World = (write_objects w).after in
    let same : IsUnmoved (prepared_world w) v = objects_refused w f stopped in
    gave_back w v f (given_up (back_of w v) f (refused_inside w well inside sound v same) (refused_scopes w well inside sound v same)))
