-- Every call of a session keeps it healthy.
use Rattle.std.proofs.Common.{List, [], ◌∷◌, Option, None, Some, arith}
use Rattle.base_core.specs.declared.ids.AttrNo.{AttrNo}
use Rattle.base_core.specs.declared.ids.ClassId.{ClassId}
use Rattle.base_core.specs.declared.ids.ObjId.{ObjId}
use Rattle.base_core.specs.declared.refusal.Refusal.{Refusal}
use Rattle.base_core.specs.declared.value.Value.{Value}
use Rattle.class_types.specs.Rules.{Rules}
use Rattle.class_mapping.specs.Mapped.{Mapped}
use Rattle.table_laws.specs.Legality.{Keeps}
use Rattle.table_laws.proofs.Dropped.{no_tables_ascend}
use Rattle.object_arena.specs.Graph.{IsObject}
use Rattle.session_laws.specs.Graphs.{IsWellMapped}
use Rattle.keeper_core.specs.Beside.{on_own}
use Rattle.session_scopes.specs.SessionState.{SessionState, new_session}
use Rattle.session_calls.specs.Parts.{World, checked}
use Rattle.session_calls.specs.Steps.{enter, set_cell}
use Rattle.session_tables.specs.Steps.{change_all}
use Rattle.session_tables.specs.declared.tables.TableChange.{TableChange}
use Rattle.session_tables.specs.declared.tables.TableChange.TheVariants.{Create, Drop}
use Rattle.session_objects.specs.ValueSteps.{cell_kept, given_fault, made_unless, set_inside, set_judged, set_valid, valid_made, value_invalid}
use Rattle.session_laws.specs.Preparing.{PreparationsLeaveReread}
use Rattle.session_laws.specs.Sound.{IsSound}
use Rattle.session_laws.proofs.Sound.Beginning.{new_sound}
use Rattle.session_laws.proofs.Sound.Ending.{close_sound}
use Rattle.session_laws.proofs.Sound.Objects.{delete_sound, made_there, set_sound}
use Rattle.session_laws.proofs.Sound.Programs.{checked_then, entered_then}
use Rattle.session_laws.proofs.Sound.Rolling.{handle_sound, rollback_sound}
use Rattle.session_laws.proofs.Calls.Adding.{add_sound}
use Rattle.session_laws.proofs.Calls.Leaving.{expunge_sound, expunge_tidy}
use Rattle.session_laws.proofs.Calls.Making.{make_sound}
use Rattle.session_laws.proofs.LinkCalls.Linking.{always_once, change_sound}
use Rattle.session_laws.proofs.TableCalls.Dropping.{drop_sound}
use Rattle.session_laws.proofs.TableCalls.Making.{create_sound}
use Rattle.session_laws.specs.Health.Calls.{Call, CallsKeepHealth, CallsKeepOne, MayCall, MayCallAll, after_call, after_calls}
use Rattle.session_laws.specs.Health.Health.{IsHealthy, IsOrderlySession, IsTidy, IsWhole}
use Rattle.session_laws.proofs.Health.Acts.{FlushLeavesSound, FlushWritesAll, bulk_healthy, commit_healthy, flush_now_healthy, handle_healthy, nested_healthy, ready, rows_healthy}
use Rattle.session_laws.proofs.Health.Programs.{add_tidy, close_tidy, delete_tidy, enter_tidy, handle_tidy, link_tidy, rollback_tidy, set_tidy, tables_tidy, tidy_checked, tidy_then}
use Rattle.session_laws.proofs.Health.Sessions.{object_orderly}

-- ---- a new session

pub new_healthy : (mapping : Mapped) → IsWellMapped mapping → IsHealthy (record { own = new_session mapping; store = record { tables = []; scopes = [] } })
new_healthy mapping well = record {
  sound = new_sound mapping;
  tidy = record {
    own = record { well = well; objects = λ place less. absurd (omega (arith, less)); named = tt };
    ascending = record { tables = no_tables_ascend; scopes = tt };
  };
}

-- ---- where validators take the values

made_sound : (fault : Option Refusal) (class : ClassId) (given : List (AttrNo × Value)) (w : World) → IsSound w → IsSound (record { own = (made_unless fault class given w.own).after; store = w.store })
unfolding on_own
made_sound None class given w sound = make_sound class given w sound
made_sound (Some fault) class given w sound = sound

made_orderly : (fault : Option Refusal) (class : ClassId) (given : List (AttrNo × Value)) (own : SessionState) → IsOrderlySession own → IsOrderlySession (made_unless fault class given own).after
made_orderly None class given own orderly = object_orderly class given own orderly
made_orderly (Some fault) class given own orderly = orderly

valid_orderly : (rules : Rules) (class : ClassId) (given : List (AttrNo × Value)) (own : SessionState) → IsOrderlySession own → IsOrderlySession (valid_made rules class given own).after
unfolding valid_made
valid_orderly rules class given own orderly = made_orderly (given_fault rules own.mapping class given) class given own orderly

make_healthy : (rules : Rules) (class : ClassId) (given : List (AttrNo × Value)) (w : World) → IsHealthy w → IsHealthy (on_own (valid_made rules class given) w).after
unfolding on_own valid_made
make_healthy rules class given w healthy = record {
  sound = made_sound (given_fault rules w.own.mapping class given) class given w healthy.sound;
  tidy = record { own = valid_orderly rules class given w.own healthy.tidy.own; ascending = healthy.tidy.ascending };
}

pub valid_sound : (rules : Rules) (object : ObjId) (attr : AttrNo) (value : Value) (w : World) → IsObject w.own.graph object → IsSound w → IsSound (set_valid rules object attr value w).after
unfolding set_valid
valid_sound rules object attr value w made sound =
    checked_then (value_invalid rules object attr value) (λ u. set_judged object attr value) w sound
    (λ u none. entered_then (λ u. set_inside object attr value) w sound
    (λ u v graph opened entered.
    checked_then (cell_kept object attr) (λ u. set_cell object attr value) v entered (λ u kept. set_sound attr value object v (made_there w.own.graph v.own.graph object graph made) entered)))

valid_tidy : (rules : Rules) (object : ObjId) (attr : AttrNo) (value : Value) → Keeps IsTidy (set_valid rules object attr value)
unfolding set_valid
valid_tidy rules object attr value =
    tidy_then (checked (value_invalid rules object attr value)) (λ u. set_judged object attr value) (tidy_checked (value_invalid rules object attr value))
    (λ u. tidy_then enter (λ u. set_inside object attr value) enter_tidy
    (λ u. tidy_then (checked (cell_kept object attr)) (λ u. set_cell object attr value) (tidy_checked (cell_kept object attr)) (λ u. set_tidy object attr value)))

-- ---- each call

tables_healthy : (change : TableChange) (w : World) → IsHealthy w → IsHealthy (change_all change w).after
tables_healthy Create w healthy = record { sound = create_sound w healthy.tidy.ascending healthy.sound; tidy = (tables_tidy Create).kept w healthy.tidy }
tables_healthy Drop w healthy = record { sound = drop_sound w healthy.tidy.ascending healthy.sound; tidy = (tables_tidy Drop).kept w healthy.tidy }

module _ (reads : PreparationsLeaveReread) (keeps : FlushLeavesSound) (answers : FlushWritesAll) (rules : Rules) where
  pub call_healthy : (call : Call) (w : World) → IsWhole w → MayCall call w → IsHealthy w → IsHealthy (after_call rules call w)
  call_healthy (Call.Make class given) w whole may healthy = make_healthy rules class given w healthy
  call_healthy (Call.Add object) w whole may healthy =
      record { sound = add_sound object w (always_once w.own.mapping w.own.graph object may) healthy.sound; tidy = (add_tidy object).kept w healthy.tidy }
  call_healthy (Call.Set object attr value) w whole may healthy = record { sound = valid_sound rules object attr value w may healthy.sound; tidy = (valid_tidy rules object attr value).kept w healthy.tidy }
  call_healthy (Call.Delete object) w whole may healthy = record { sound = delete_sound object w may healthy.sound; tidy = (delete_tidy object).kept w healthy.tidy }
  call_healthy (Call.Expunge object) w whole may healthy = record { sound = expunge_sound object w may healthy.sound; tidy = (expunge_tidy object).kept w healthy.tidy }
  call_healthy (Call.ChangeLink owner place call) w whole may healthy = record { sound = change_sound owner place call w whole.fit may.0 may.1 healthy.sound; tidy = (link_tidy owner place call).kept w healthy.tidy }
  call_healthy Call.Flush w whole may healthy = flush_now_healthy reads keeps answers w whole healthy
  call_healthy Call.Commit w whole may healthy = commit_healthy reads keeps answers w whole healthy
  call_healthy Call.Rollback w whole may healthy = record { sound = rollback_sound w healthy.sound; tidy = rollback_tidy w (ready w healthy) }
  call_healthy Call.Close w whole may healthy = record { sound = close_sound w healthy.sound; tidy = close_tidy.kept w healthy.tidy }
  call_healthy Call.BeginNested w whole may healthy = nested_healthy reads keeps answers w whole healthy
  call_healthy (Call.CommitHandle handle) w whole may healthy = handle_healthy reads keeps answers handle w whole healthy
  call_healthy (Call.RollbackHandle handle) w whole may healthy = record { sound = handle_sound handle w whole.handled healthy.sound; tidy = handle_tidy handle w (ready w healthy) }
  call_healthy (Call.ChangeTables change) w whole may healthy = tables_healthy change w healthy
  call_healthy (Call.Rows select) w whole may healthy = rows_healthy reads keeps answers select w whole healthy
  call_healthy (Call.Write statement) w whole may healthy = bulk_healthy reads keeps answers statement w may whole healthy

  calls_healthy : (calls : List Call) (w : World) → IsHealthy w → MayCallAll rules calls w → IsHealthy (after_calls rules calls w)
  calls_healthy [] w healthy may = healthy
  calls_healthy (call ∷ calls) w healthy may = calls_healthy calls (after_call rules call w) (call_healthy call w may.0 may.1 healthy) may.2

pub calls_law : PreparationsLeaveReread → FlushLeavesSound → FlushWritesAll → CallsKeepHealth
calls_law reads keeps answers rules calls w healthy may = calls_healthy reads keeps answers rules calls w healthy may

pub one_law : CallsKeepHealth → CallsKeepOne
one_law law rules calls w healthy may = (law rules calls w healthy may).sound.graph.one
