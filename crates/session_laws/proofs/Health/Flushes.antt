-- A flush leaves a session tidy, and where it answers its scopes are as deep as before and no rollback is awaited that was not.
use Rattle.std.proofs.Common.{◌≡◌, ℕ, ◌<◌, ◌≤◌, true, List, length, Result, Ok, Err, ⊎_elim, refl, sym, ap, ◌∙◌, subst, arith}
use Rattle.std.proofs.lemmas.Bool.{cases_lt}
use Rattle.base_core.specs.declared.refusal.Refusal.{Refusal}
use Rattle.base_core.specs.declared.value.Value.{Value}
use Rattle.schema_core.specs.declared.changes.RowChanges.{RowChanges}
use Rattle.schema_core.specs.Catalog.{Catalog}
use Rattle.flush_plan.specs.Planning.{plan}
use Rattle.object_rows.specs.declared.prepared.Prepared.{Prepared}
use Rattle.row_project.specs.Changes.{project}
use Rattle.keeper_core.specs.Calls as call
use Rattle.table_laws.specs.Legality.{Keeps, KeepsAscending}
use Rattle.table_laws.proofs.EachCall.{write_ascends}
use Rattle.table_laws.proofs.EachJoin.{keeps_then}
use Rattle.class_mapping.specs.Mapped.{Mapped}
use Rattle.object_arena.specs.declared.object.Object.{Object}
use Rattle.object_arena.specs.Graph.{Graph, no_object}
use Rattle.object_arena.specs.Identity.{IsGraph}
use Rattle.session_statements.specs.Run.{send_plan}
use Rattle.keeper_core.specs.Programs.{Run, ◌>>=◌, ask, continue_from, refuse, undo_on_refusal, with_undo}
use Rattle.keeper_core.specs.Beside.{by_own, changes, on_own, on_store}
use Rattle.keeper_core.specs.Store.{Store}
use Rattle.object_records.specs.Kept.{given_back, held_in}
use Rattle.savepoints.specs.declared.scope.Scope.{Scope}
use Rattle.savepoints.specs.Scopes.{Framed}
use Rattle.session_scopes.specs.Scoping.{session_failed, session_restored}
use Rattle.session_scopes.specs.SessionState.{SessionState, with_notes, with_warnings}
use Rattle.session_calls.specs.Parts.{World}
use Rattle.prepared_objects.specs.Leaving.{prepared_of}
use Rattle.session_scopes.specs.Keeping.{session_given_back}
use Rattle.session_scopes.specs.Loads.{on_load}
use Rattle.session_acts.specs.Flush.{flush, give_up, give_up_to, prepare, session_flushed, write_loaded, write_objects, write_prepared, write_rows, write_warned}
use Rattle.session_laws.proofs.Flushes.Answered.{IsDone, done_of}
use Rattle.session_laws.proofs.Flushes.Kept.{IsKeptByWrites, plan_keeps}
use Rattle.session_laws.proofs.Sound.Touches.{between_scopes}
use Rattle.session_laws.specs.Flushes.{prepared_world}
use Rattle.session_laws.specs.Preparing.{IsReadable, PreparationsLeaveReread}
use Rattle.session_laws.specs.Scopes.{object_in}
use Rattle.session_laws.proofs.Flushes.GivenBack.{IsGivenBack, given_graph, given_read}
use Rattle.session_laws.proofs.Flushes.Reading.{prepare_mapping, prepare_scopes}
use Rattle.session_laws.proofs.Preparing.{prepare_readable, prepare_tidy}
use Rattle.session_laws.proofs.SoundFlushes.Refused.{IsUnmoved, objects_refused}
use Rattle.session_laws.specs.Health.Health.{AreNamedSince, HoldsItsKey, IsOrderlySession, IsTidy, is_named, is_named_in}
use Rattle.session_laws.proofs.Health.Named.{named_inside, named_more}
use Rattle.session_laws.proofs.Health.Programs.{IsReady, back_tidy, goes_on}
use Rattle.session_laws.proofs.Health.Sessions.{flushed_session}

module _ (start : SessionState) where
  -- a tidy session with as many scopes and the same handles as at the start, failed where it was
  pub record IsTidyAs (world : World) : Type 0 where
    pub tidy : IsTidy world
    pub scopes : length world.own.frames.scopes ≡ length start.frames.scopes
    pub failed : world.own.failed ≡ start.failed
    pub drawn : world.own.drawn ≡ start.drawn

  store_as : {A : Type 0} (m : Store → Run Store A) → KeepsAscending m → Keeps IsTidyAs (on_store with_notes m)
  unfolding on_store
  store_as m up = record {
    kept = λ w like. record {
      tidy = record { own = record { well = like.tidy.own.well; objects = like.tidy.own.objects; named = like.tidy.own.named }; ascending = up.kept w.store like.tidy.ascending };
      scopes = like.scopes;
      failed = like.failed;
      drawn = like.drawn;
    };
  }

  by_as : {A : Type 0} (choose : SessionState → World → Run World A) → ((own : SessionState) → Keeps IsTidyAs (choose own)) → Keeps IsTidyAs (by_own choose)
  unfolding by_own
  by_as choose one = record { kept = λ w like. (one w.own).kept w like }

  then_as : {A B : Type 0} (m : World → Run World A) (next : A → World → Run World B) → Keeps IsTidyAs m → ((a : A) → Keeps IsTidyAs (next a)) → Keeps IsTidyAs (m >>= next)
  then_as m next first later = keeps_then IsTidyAs m next first (λ w a like is. later a)

  writes_as : (schema : Catalog) → IsKeptByWrites schema IsTidyAs
  writes_as schema statement well = store_as (call.write schema statement) (write_ascends schema statement)

  module _ (prepared : Prepared) (rows : RowChanges) where
    flushed_as : (keys : List (List Value)) → Keeps IsTidyAs (changes (session_flushed prepared rows keys))
    unfolding changes
    flushed_as keys = record {
      kept = λ w like. record {
        tidy = record { own = flushed_session prepared rows keys w.own like.tidy.own; ascending = like.tidy.ascending };
        scopes = ap (λ (s : List Scope). length s) (between_scopes w.own.graph (session_flushed prepared rows keys w.own).graph w.own.frames) ∙ like.scopes;
        failed = like.failed;
        drawn = like.drawn;
      };
    }

    asked_as : Keeps IsTidyAs (on_own (ask (λ (session : SessionState). plan session.mapping.schema rows)))
    unfolding on_own ask
    asked_as = record { kept = λ w like. record { tidy = like.tidy; scopes = like.scopes; failed = like.failed; drawn = like.drawn } }

    warn_as : Keeps IsTidyAs (changes (with_warnings rows.warnings))
    unfolding changes
    warn_as = record {
      kept = λ w like. record {
        tidy = record { own = record { well = like.tidy.own.well; objects = like.tidy.own.objects; named = like.tidy.own.named }; ascending = like.tidy.ascending };
        scopes = like.scopes;
        failed = like.failed;
        drawn = like.drawn;
      };
    }

    rows_as : Keeps IsTidyAs (write_rows prepared rows)
    unfolding write_rows
    rows_as =
        then_as (on_own (ask (λ session. plan session.mapping.schema rows))) (λ statements. by_own (λ session. send_plan session.mapping.schema rows statements) >>= λ keys. changes (session_flushed prepared rows keys)) asked_as
        (λ statements.
        then_as (by_own (λ session. send_plan session.mapping.schema rows statements)) (λ keys. changes (session_flushed prepared rows keys))
        (by_as (λ session. send_plan session.mapping.schema rows statements) (λ own. plan_keeps own.mapping.schema rows IsTidyAs (writes_as own.mapping.schema) statements))
        (λ keys. flushed_as keys))

    warned_as : Keeps IsTidyAs (write_warned prepared rows)
    unfolding write_warned
    warned_as = then_as (changes (with_warnings rows.warnings)) (λ u. write_rows prepared rows) warn_as (λ u. rows_as)

  loaded_as : Keeps IsTidyAs write_loaded
  unfolding write_loaded write_prepared
  loaded_as =
      by_as (λ session. write_prepared (prepared_of session.mapping session.graph))
      (λ own.
      let prepared : Prepared = prepared_of own.mapping own.graph in
      by_as (λ session. write_warned prepared (project session.mapping session.graph prepared)) (λ now. warned_as prepared (project now.mapping now.graph prepared)))

-- what goes on from one world, whatever was answered
then_kept : {A B : Type 0} (P : World → Type 0) (m : World → Run World A) (next : A → World → Run World B) (w : World) → P (m w).after → ((a : A) → P (next a (m w).after).after) → P ((m >>= next) w).after
unfolding ◌>>=◌
then_kept {A} {B} P m next w here later = by (m w).answer
  where
    by : (r : Result A Refusal) → P (continue_from (m w).events (m w).after r next).after
    by (Ok a) = later a
    by (Err e) = here

-- what is to be known of the objects that are to be deleted is read
read_as : PreparationsLeaveReread → (w : World) → IsReadable w → IsTidy w → IsTidyAs w.own (prepared_world w)
unfolding prepare by_own on_load
read_as reads w can tidy = record { tidy = prepare_tidy reads w can tidy; scopes = ap (λ (scopes : List Scope). length scopes) (prepare_scopes w); failed = refl; drawn = refl }

-- all that is to be written is written, or is not
written_as : PreparationsLeaveReread → (w : World) → IsReadable w → IsTidy w → IsTidyAs w.own (write_objects w).after
unfolding write_objects
written_as reads w can tidy =
    let read : IsTidyAs w.own (prepared_world w) = read_as reads w can tidy in
    then_kept (IsTidyAs w.own) prepare (λ u. write_loaded) w read (λ u. (loaded_as w.own).kept (prepared_world w) read)

-- a flush that answers
pub answered_as : PreparationsLeaveReread → (w : World) (u : Unit {0}) → IsReadable w → IsTidy w → (flush w).answer ≡ Ok u → IsTidyAs w.own (flush w).after
unfolding flush by_own
answered_as reads w u can tidy is =
    let undo : World → Run World (Unit {0}) = give_up_to (held_in w.own.graph) in
    let done : IsDone write_objects undo w u = done_of write_objects undo w u is in
    subst (IsTidyAs w.own) (sym done.after) (written_as reads w can tidy)

-- ---- it is given up

failed_as : (depth : ℕ) (own : SessionState) → IsOrderlySession (session_restored depth own) → IsOrderlySession (record (session_restored depth own) { failed = true })
failed_as depth own orderly = record { well = orderly.well; objects = orderly.objects; named = orderly.named }

given_up : (v : World) → IsReady v → IsTidy (give_up v).after
unfolding give_up by_own
given_up v ready =
    back_tidy (length v.own.frames.scopes) session_failed v
    (λ own same orderly. failed_as (length own.frames.scopes) own (subst (λ (depth : ℕ). IsOrderlySession (session_restored depth own)) (sym (ap (λ (scopes : List Scope). length scopes) same)) orderly)) ready

-- ---- cells and links are given back

-- the objects hold their keys as before, or as those that were made since
back_tidy_of : (old v : World) (back : Graph) → v.own.mapping ≡ old.own.mapping → v.own.frames.scopes ≡ old.own.frames.scopes → IsGivenBack old.own.graph v.own.graph back → IsTidy old → IsTidy v
    → IsTidy (record { own = record v.own { graph = back }; store = v.store })
back_tidy_of old v back mapping scopes given tidy now = record {
  own = record {
    well = now.own.well;
    objects = λ place less.
        ⊎_elim
        (λ (there : place < length old.own.graph.objects).
        subst (HoldsItsKey v.own.mapping) (sym (given.there place there)) (subst (λ (m : Mapped). HoldsItsKey m (object_in old.own.graph place)) (sym mapping) (tidy.own.objects place there)))
        (λ (past : length old.own.graph.objects ≤ place).
        let inside : place < length v.own.graph.objects = omega (arith, less, given.long) in
        subst (HoldsItsKey v.own.mapping) (sym (given.since place past inside)) (now.own.objects place inside))
        (cases_lt place (length old.own.graph.objects));
    named = subst (AreNamedSince (is_named_in back)) (sym scopes)
        (named_more (is_named_in old.own.graph) (is_named_in back) old.own.frames.scopes
        (λ place is. ap (λ (o : Object). is_named o.state o.identity) (given.there place (named_inside old.own.graph place is)) ∙ is) tidy.own.named);
  };
  ascending = now.ascending;
}

-- a write that was refused, of which the cells and links are given back
module _ (reads : PreparationsLeaveReread) (w : World) (can : IsReadable w) (tidy : IsTidy w) (e : Refusal) (is : (write_objects w).answer ≡ Err e) where
  abbrev v : World
  v = (write_objects w).after

  abbrev back : Graph
  back = given_back (held_in w.own.graph) v.own.graph

  abbrev given : World
  given = record { own = record v.own { graph = back }; store = v.store }

  same : IsUnmoved (prepared_world w) v
  same = objects_refused w e is

  is_back : IsGivenBack w.own.graph v.own.graph back
  is_back = subst (λ (g : Graph). IsGivenBack w.own.graph g (given_back (held_in w.own.graph) g)) (sym same.graph) (given_read w (reads w can))

  ready : IsReady given
  ready = record {
    tidy = back_tidy_of w v back (same.mapping ∙ prepare_mapping w) (ap (λ (f : Framed). f.scopes) same.frames ∙ prepare_scopes w) is_back tidy (written_as reads w can tidy).tidy;
    identified = λ place less.
        (given_graph w.own.graph v.own.graph back is_back (subst (λ (g : Graph). IsGraph g.objects g.roots) (sym same.graph) (prepare_readable reads w can).one)).identified place no_object less;
  }

  gone : IsTidy (give_up_to (held_in w.own.graph) v).after
  unfolding give_up_to changes
  gone = goes_on (changes (session_given_back (held_in w.own.graph))) (λ u. give_up) v ready.tidy (λ u. given_up given ready)

-- a flush, whatever it answers
pub flush_tidy : PreparationsLeaveReread → (w : World) → IsReadable w → IsTidy w → IsTidy (flush w).after
unfolding flush with_undo refuse by_own
flush_tidy reads w can tidy = by (write_objects w).answer refl
  where
    by : (answer : Result (Unit {0}) Refusal) → (write_objects w).answer ≡ answer → IsTidy (undo_on_refusal (write_objects w).events (write_objects w).after answer (give_up_to (held_in w.own.graph))).after
    by (Ok u) is = (written_as reads w can tidy).tidy
    by (Err e) is =
        let back = gone reads w can tidy e is in
        goes_on (give_up_to (held_in w.own.graph)) (λ u. refuse {A = Unit {0}} e) (write_objects w).after back (λ u. back)
