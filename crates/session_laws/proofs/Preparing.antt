-- The reading before a flush: what it leaves of a session, and that all is known where it answers.
use Rattle.std.proofs.Common.{◌≡◌, ◌<◌, true, List, length, sym, ap, subst}
use Rattle.mapping_laws.specs.Hierarchies.{HasHierarchies}
use Rattle.object_arena.specs.declared.object.Object.{Object}
use Rattle.object_arena.specs.Graph.{is_persistent}
use Rattle.keeper_core.specs.Beside.{by_own}
use Rattle.keeper_core.specs.Store.{Store}
use Rattle.savepoints.specs.declared.scope.Scope.{Scope}
use Rattle.load_rows.specs.Loading.{Loading}
use Rattle.load_preparing.specs.Preparing.{read_going}
use Rattle.load_steps.specs.Based.{AreReadOfTables, IsRowOfTables}
use Rattle.load_steps.specs.Loads.{IsLoadStage}
use Rattle.preparing_laws.specs.Done.{ReadingsPrepare}
use Rattle.preparing_laws.specs.Laws.{ReadingsOnlyReread}
use Rattle.ranked_rows.specs.Laws.{SelectsAnswerTableRows, SelectsAnswerWideCells}
use Rattle.session_scopes.specs.Loads.{on_load, with_loaded}
use Rattle.session_scopes.specs.SessionState.{in_transaction}
use Rattle.session_calls.specs.Parts.{World}
use Rattle.session_acts.specs.Flush.{prepare}
use Rattle.session_acts.proofs.Unwritten.{scope_open}
use Rattle.session_laws.specs.Flushes.{prepared_world}
use Rattle.session_laws.specs.Held.{KeepsItsKey}
use Rattle.session_laws.specs.Sound.{IsSound}
use Rattle.session_laws.specs.SoundFlushes.{IsToldSession}
use Rattle.session_laws.specs.Health.Health.{IsHealthy, IsTidy, IsWhole}
use Rattle.session_laws.specs.Whole.{IsHale}
use Rattle.session_laws.specs.Loads.{IsLoad, after_load, loading_of}
use Rattle.session_laws.specs.Preparing.{IsReadable, PreparationsKeepWhole, PreparationsKnowAll, PreparationsLeaveReread}
use Rattle.session_laws.proofs.Bridge.{reread_bridge}
use Rattle.session_laws.proofs.Loads.Laws.{sound_law, whole_law}
use Rattle.session_laws.proofs.Loads.Objects.{each_loaded, made_keeps, read_keeps}
use Rattle.session_laws.proofs.Loads.Sessions.{loaded_orderly}
use Rattle.session_laws.proofs.Loads.Touched.{filled_scopes}
use Rattle.session_laws.proofs.OwnRows.Standing.{hierarchies}

-- ---- which sessions rows can be read into

-- a healthy one whose objects fit
pub healthy_readable : (w : World) → IsWhole w → IsHealthy w → IsReadable w
healthy_readable w whole healthy = record { well = healthy.tidy.own.well; fit = whole.fit; one = healthy.sound.graph; tables = record { legal = healthy.sound.legal; ascending = healthy.tidy.ascending.tables } }

pub hale_readable : (w : World) → IsHale w → IsReadable w
hale_readable w hale = healthy_readable w (record { fit = hale.keyed.fit; handled = hale.handled }) hale.healthy

pub told_readable : (w : World) → IsToldSession w → IsSound w → IsReadable w
told_readable w told sound = record { well = told.well; fit = told.fit; one = sound.graph; tables = record { legal = sound.legal; ascending = told.ascending.tables } }

-- ---- what is read

stage_of : SelectsAnswerTableRows → (w : World) → IsReadable w → IsLoadStage w.own.mapping (IsRowOfTables w.own.mapping w.store.tables) (AreReadOfTables w.own.mapping w.store.tables) (loading_of w)
stage_of selects w can =
    let has : HasHierarchies w.own.mapping = hierarchies w.own.mapping can.well in
    record { has = has; related = can.well.related; arena = record { fit = can.fit; graph = can.one }; answers = selects w.own.mapping w.store.tables has can.tables }

pub reread_law : SelectsAnswerTableRows → ReadingsOnlyReread → PreparationsLeaveReread
reread_law selects reads w can =
    let read = reads w.own.mapping (loading_of w) (stage_of selects w can) in
    record { store = read.store; loads = reread_bridge w.own.mapping w.store.tables w.own.graph (read_going w.own.mapping (loading_of w)).after.own read.arena read.read read.noted }

pub known_law : SelectsAnswerTableRows → SelectsAnswerWideCells → ReadingsPrepare → PreparationsKnowAll
unfolding prepare by_own on_load
known_law selects wide prepares w can is =
    let has : HasHierarchies w.own.mapping = hierarchies w.own.mapping can.well in
    prepares w.own.mapping (loading_of w) (stage_of selects w can) (wide w.own.mapping w.store.tables has can.tables) is

pub keeps_law : PreparationsLeaveReread → PreparationsKeepWhole
keeps_law leaves w opened hale = whole_law (read_going w.own.mapping) w opened (leaves w (hale_readable w hale)) hale

-- ---- the session that has taken it in

module _ (reads : PreparationsLeaveReread) (w : World) (can : IsReadable w) where
  load : IsLoad (read_going w.own.mapping) w
  load = reads w can

  abbrev own : Loading
  own = (read_going w.own.mapping (loading_of w)).after.own

  taken : prepared_world w ≡ after_load own w
  unfolding prepare by_own on_load
  taken = ap (λ (store : Store). let v : World = record { own = with_loaded own w.own; store = store } in v) load.store

  pub prepare_readable : IsReadable (prepared_world w)
  prepare_readable = subst IsReadable (sym taken) (record { well = can.well; fit = load.loads.fit; one = load.loads.graph; tables = can.tables })

  pub prepare_sound : in_transaction w.own ≡ true → IsSound w → IsSound (prepared_world w)
  prepare_sound opened sound = subst IsSound (sym taken) (sound_law own w opened load.loads sound)

  pub prepare_tidy : IsTidy w → IsTidy (prepared_world w)
  prepare_tidy tidy = subst IsTidy (sym taken) (record { own = loaded_orderly w.store.tables own w.own load.loads tidy.own; ascending = tidy.ascending })

  pub prepare_told : IsToldSession w → IsToldSession (prepared_world w)
  prepare_told told =
      subst IsToldSession (sym taken)
      (record {
        inside = subst (λ (scopes : List Scope). 0 < length scopes) (sym (filled_scopes own.graph own.notes w.own.frames)) told.inside;
        well = told.well;
        ascending = told.ascending;
        fit = load.loads.fit;
        keyed = each_loaded w.own.mapping w.store.tables (λ (object : Object). is_persistent object.state ≡ true → KeepsItsKey w.own.mapping object) w.own.graph own
            (λ was now read identified keeps. read_keeps w.own.mapping w.store.tables was now read keeps) (λ now made identified. made_keeps w.own.mapping w.store.tables now made) load.loads told.keyed;
      })

-- in the transaction of a told session
pub told_sound : PreparationsLeaveReread → (w : World) → IsToldSession w → IsSound w → IsSound (prepared_world w)
told_sound reads w told sound = prepare_sound reads w (told_readable w told sound) (scope_open w.own.frames.scopes told.inside) sound
