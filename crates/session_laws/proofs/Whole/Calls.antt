-- Every call of a session keeps it whole.
use Rattle.std.proofs.Common.{List, [], ◌∷◌, refl}
use Rattle.std.proofs.lemmas.List.Elements.{All-nil}
use Rattle.class_types.specs.Rules.{Rules}
use Rattle.class_mapping.specs.Mapped.{Mapped}
use Rattle.object_arena.specs.Graph.{empty_graph}
use Rattle.object_arena.proofs.FitLemmas.{fit_empty}
use Rattle.session_laws.specs.Graphs.{IsWellMapped}
use Rattle.savepoints.specs.Scopes.{HasKeys}
use Rattle.session_calls.specs.Parts.{World}
use Rattle.session_laws.specs.Health.Calls.{Call, MayCall, after_call, after_calls}
use Rattle.session_laws.specs.Health.Health.{IsWhole}
use Rattle.session_laws.proofs.Health.Acts.{FlushLeavesSound, FlushWritesAll}
use Rattle.session_laws.proofs.Health.Calls.{call_healthy, new_healthy}
use Rattle.session_laws.specs.Whole.{AreCallsOf, CallsKeepFit, CallsKeepWhole, IsCallOf, IsHale, IsKeyed, SessionsHaveOneForEachKey, new_world}
use Rattle.session_laws.specs.Preparing.{PreparationsLeaveReread}
use Rattle.session_laws.proofs.Whole.Handled as handled
use Rattle.session_laws.proofs.Whole.Handled.{Handled}
use Rattle.session_laws.proofs.Whole.Reads.{reads_bulk, reads_entered, reads_handle, reads_nested}
use Rattle.session_laws.proofs.Whole.Programs as keyed
use Rattle.session_laws.proofs.Whole.Since.{keyed_steps, make_keyed}

may_call : (call : Call) (w : World) → IsCallOf call w → MayCall call w
may_call (Call.Make class given) w of = tt
may_call (Call.Add object) w of = of
may_call (Call.Set object attr value) w of = of.0
may_call (Call.Delete object) w of = of
may_call (Call.Expunge object) w of = of
may_call (Call.ChangeLink owner place call) w of = (of.made, of.end)
may_call Call.Flush w of = tt
may_call Call.Commit w of = tt
may_call Call.Rollback w of = tt
may_call Call.Close w of = tt
may_call Call.BeginNested w of = tt
may_call (Call.CommitHandle handle) w of = tt
may_call (Call.RollbackHandle handle) w of = tt
may_call (Call.ChangeTables change) w of = tt
may_call (Call.Rows select) w of = tt
may_call (Call.Write statement) w of = of

module _ (rules : Rules) where
  call_handled : (call : Call) (w : World) → Handled w → Handled (after_call rules call w)
  call_handled (Call.Make class given) w has = handled.make_handled rules class given w has
  call_handled (Call.Add object) w has = (handled.add_handled object).kept w has
  call_handled (Call.Set object attr value) w has = (handled.set_handled rules object attr value).kept w has
  call_handled (Call.Delete object) w has = (handled.delete_handled object).kept w has
  call_handled (Call.Expunge object) w has = (handled.expunge_handled object).kept w has
  call_handled (Call.ChangeLink owner place call) w has = (handled.link_handled owner place call).kept w has
  call_handled Call.Flush w has = handled.flush_handled w has
  call_handled Call.Commit w has = handled.commit_handled w has
  call_handled Call.Rollback w has = handled.rollback_handled w has
  call_handled Call.Close w has = handled.close_handled.kept w has
  call_handled Call.BeginNested w has = handled.nested_handled w has
  call_handled (Call.CommitHandle handle) w has = handled.handle_committed handle w has
  call_handled (Call.RollbackHandle handle) w has = handled.handle_handled handle w has
  call_handled (Call.ChangeTables change) w has = (handled.tables_handled change).kept w has
  call_handled (Call.Rows select) w has = handled.rows_handled select w has
  call_handled (Call.Write statement) w has = handled.bulk_handled statement w has

module _ (reads : PreparationsLeaveReread) (keeps : FlushLeavesSound) (answers : FlushWritesAll) (rules : Rules) where
  call_keyed : (call : Call) (w : World) → IsCallOf call w → IsHale w → IsKeyed (after_call rules call w).own
  call_keyed (Call.Make class given) w of hale = make_keyed rules class given w of.0 of.1 hale.keyed
  call_keyed (Call.Add object) w of hale = (keyed.adds IsKeyed keyed_steps object).kept w hale.keyed
  call_keyed (Call.Set object attr value) w of hale = keyed.sets IsKeyed keyed_steps object attr value rules w of.1 hale.keyed
  call_keyed (Call.Delete object) w of hale = (keyed.deletes IsKeyed keyed_steps object).kept w hale.keyed
  call_keyed (Call.Expunge object) w of hale = (keyed.expunges IsKeyed keyed_steps object).kept w hale.keyed
  call_keyed (Call.ChangeLink owner place call) w of hale = keyed.links IsKeyed keyed_steps owner place call w of hale.keyed
  call_keyed Call.Flush w of hale = keyed.flushes IsKeyed keyed_steps w (reads_entered reads w hale) hale.keyed
  call_keyed Call.Commit w of hale = keyed.commits IsKeyed keyed_steps w (reads_entered reads w hale) hale.keyed
  call_keyed Call.Rollback w of hale = (keyed.rolls_back IsKeyed keyed_steps).kept w hale.keyed
  call_keyed Call.Close w of hale = (keyed.closes IsKeyed keyed_steps).kept w hale.keyed
  call_keyed Call.BeginNested w of hale = keyed.begins_nested IsKeyed keyed_steps w (reads_nested reads w hale) hale.keyed
  call_keyed (Call.CommitHandle handle) w of hale = keyed.commits_handle IsKeyed keyed_steps handle w (reads_handle reads handle w hale) hale.keyed
  call_keyed (Call.RollbackHandle handle) w of hale = (keyed.rolls_back_to IsKeyed keyed_steps handle).kept w hale.keyed
  call_keyed (Call.ChangeTables change) w of hale = (keyed.changes_tables IsKeyed keyed_steps change).kept w hale.keyed
  call_keyed (Call.Rows select) w of hale = keyed.asks_rows IsKeyed keyed_steps select w (reads_entered reads w hale) hale.keyed
  call_keyed (Call.Write statement) w of hale = keyed.sends_bulk IsKeyed keyed_steps statement w (reads_bulk reads statement w hale) hale.keyed

  call_hale : (call : Call) (w : World) → IsCallOf call w → IsHale w → IsHale (after_call rules call w)
  call_hale call w of hale =
      let whole : IsWhole w = record { fit = hale.keyed.fit; handled = hale.handled } in
      record {
        healthy = call_healthy reads keeps answers rules call w whole (may_call call w of) hale.healthy;
        keyed = call_keyed call w of hale;
        handled = call_handled rules call w hale.handled;
      }

  calls_hale : (calls : List Call) (w : World) → IsHale w → AreCallsOf rules calls w → IsHale (after_calls rules calls w)
  calls_hale [] w hale of = hale
  calls_hale (call ∷ calls) w hale of = calls_hale calls (after_call rules call w) (call_hale call w of.0 hale) of.1

-- ---- a new session

pub new_whole : (mapping : Mapped) → IsWellMapped mapping → IsHale (new_world mapping)
new_whole mapping well = record { healthy = new_healthy mapping well; keyed = record { well = well; fit = fit_empty mapping; keys = All-nil (HasKeys mapping empty_graph) }; handled = refl }

pub whole_law : PreparationsLeaveReread → FlushLeavesSound → FlushWritesAll → CallsKeepWhole
whole_law reads keeps answers rules calls w hale of = calls_hale reads keeps answers rules calls w hale of

pub fit_law : CallsKeepWhole → CallsKeepFit
fit_law law rules calls w hale of = (law rules calls w hale of).keyed

pub one_law : CallsKeepWhole → SessionsHaveOneForEachKey
one_law law mapping rules calls well of = (law rules calls (new_world mapping) (new_whole mapping well) of).healthy.sound.graph.one
