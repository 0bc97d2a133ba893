-- Why a line is refused, and what that leaves of the session, by cases of the line.
use Rattle.std.specs.Prelude.{◌≡◌, true, None, Some}
use Rattle.base_core.specs.declared.refusal.Refusal.{Refusal}
use Rattle.class_types.specs.Rules.{Rules}
use Rattle.keeper_core.specs.Keeping.{RefusesBulk, RefusesSelect}
use Rattle.object_arena.specs.Graph.{either_fault}
use Rattle.keeper_core.specs.Store.{Store}
use Rattle.keeper_core.specs.Programs.{ends_early}
use Rattle.keeper_core.specs.Moment.{Moment}
use Rattle.keeper_core.specs.declared.sent.Sent.TheVariants as sent
use Rattle.session_scopes.specs.SessionState.{SessionState}
use Rattle.session_calls.specs.Refusals.{IsRefused, entered, fault_in, mark_fault}
use Rattle.session_calls.specs.Steps.{pending_fault}
use Rattle.session_tables.specs.Steps.{transaction_fault}
use Rattle.session_acts.specs.Savepoints.{handle_fault, limit_fault}
use Rattle.session_statements.specs.Steps.{update_fault}
use Rattle.session_objects.specs.Conflicts.{add_fault}
use Rattle.session_objects.specs.Leaving.{expunge_fault}
use Rattle.session_objects.specs.ValueSteps.{judged_fault, valid_made, value_invalid}
use Rattle.session_links.specs.Linking.{change_fault}
use Rattle.session_loads.specs.Asking.{cell_fault, link_fault, persistence_fault}
use Rattle.session_loads.specs.Refusals.{IsRefusedCells, IsRefusedChanging, IsRefusedGetting, IsRefusedLink, IsRefusedLoading, IsRefusedQuery, IsRefusedReading, IsRefusedWhole, no_fault}
use Rattle.relations.specs.declared.calls.LinkCall.TheVariants.{Set}
use Rattle.base_core.specs.declared.ids.ObjId.{ObjId}
use Rattle.base_core.specs.declared.ids.RelNo.{RelNo}
use Rattle.session_acts.specs.Refusals.{IsRefusedFlushing, IsRefusedSending}
use Rattle.command_resolve.specs.declared.resolved.Resolved.{Resolved}
use Rattle.command_resolve.specs.declared.resolved.Resolved.TheVariants as resolved

-- what a link leads to is not told
abbrev pub IsRefusedRelated : ObjId → RelNo → SessionState → Moment Store → Refusal → SessionState → Moment Store → Type 0
IsRefusedRelated object relation old = IsRefusedLoading (pending_fault old) (link_fault object relation old) (link_fault object relation) (IsRefusedLink object) old

-- What needs no statement is asked first, and nothing has happened then; then what is asked in the transaction, which has begun then;
-- then a flush may fail, and at last the statement. What a line read of rows by then stays. Lines that only tell are never refused.
abbrev pub IsRefusedLine : Rules → Resolved → SessionState → Moment Store → Refusal → SessionState → Moment Store → Type 0
IsRefusedLine rules resolved.CreateAll old was e new now = IsRefused (transaction_fault old) None old e new
IsRefusedLine rules resolved.DropAll old was e new now = IsRefused (transaction_fault old) None old e new
IsRefusedLine rules resolved.Dump old was e new now = ends_early e ≡ true
IsRefusedLine rules (resolved.New name class cells) old was e new now = IsRefused (fault_in (valid_made rules class cells old).answer) None old e new
IsRefusedLine rules (resolved.Get name class key) old was e new now = IsRefusedGetting class key old was e new now
IsRefusedLine rules (resolved.Objects name query) old was e new now = IsRefusedLoading (pending_fault old) None no_fault (IsRefusedQuery query) old was e new now
IsRefusedLine rules (resolved.Related name object relation) old was e new now = IsRefusedRelated object relation old was e new now
IsRefusedLine rules (resolved.BeginNested name) old was e new now = IsRefusedFlushing (pending_fault old) (limit_fault (entered old)) old was e new now
IsRefusedLine rules (resolved.SetCell object attr value) old was e new now =
    IsRefused (either_fault (value_invalid rules object attr value old) (pending_fault old)) (judged_fault object attr old) old e new
IsRefusedLine rules (resolved.ChangeLink owner relation (Set end)) old was e new now = IsRefused (pending_fault old) (change_fault owner relation (Set end) old) old e new
IsRefusedLine rules (resolved.ChangeLink owner relation call) old was e new now = IsRefusedChanging owner relation call old was e new now
IsRefusedLine rules (resolved.Add object) old was e new now = IsRefused (pending_fault old) (add_fault object old) old e new
IsRefusedLine rules (resolved.Delete object) old was e new now = IsRefused (pending_fault old) (mark_fault object old) old e new
IsRefusedLine rules (resolved.Expunge object) old was e new now = IsRefused (pending_fault old) (expunge_fault object old) old e new
IsRefusedLine rules (resolved.Expire object) old was e new now = IsRefused (pending_fault old) (persistence_fault object old) old e new
IsRefusedLine rules (resolved.Refresh object) old was e new now =
    IsRefusedLoading (pending_fault old) (persistence_fault object old) (persistence_fault object) (IsRefusedWhole object) old was e new now
IsRefusedLine rules (resolved.Show thing) old was e new now = ⊥
IsRefusedLine rules (resolved.ShowCell object attr) old was e new now = IsRefusedReading (pending_fault old) (cell_fault object attr old) (IsRefusedCells object) old was e new now
IsRefusedLine rules (resolved.ShowLink object relation) old was e new now = IsRefusedRelated object relation old was e new now
IsRefusedLine rules (resolved.State object) old was e new now = ⊥
IsRefusedLine rules (resolved.Same object other) old was e new now = ⊥
IsRefusedLine rules resolved.Flush old was e new now = IsRefusedFlushing (pending_fault old) None old was e new now
IsRefusedLine rules (resolved.Commit None) old was e new now = IsRefusedFlushing (pending_fault old) None old was e new now
IsRefusedLine rules (resolved.Commit (Some handle)) old was e new now = IsRefusedFlushing (either_fault (pending_fault old) (handle_fault handle old)) None old was e new now
IsRefusedLine rules (resolved.Rollback None) old was e new now = ends_early e ≡ true
IsRefusedLine rules (resolved.Rollback (Some handle)) old was e new now = IsRefused (handle_fault handle old) None old e new
IsRefusedLine rules resolved.Close old was e new now = ends_early e ≡ true
IsRefusedLine rules (resolved.Rows select) old was e new now =
    IsRefusedSending (pending_fault old) None (sent.Query select) (RefusesSelect old.mapping.schema select) old was e new now
IsRefusedLine rules (resolved.Bulk statement) old was e new now =
    IsRefusedSending (pending_fault old) (update_fault statement old) (sent.Bulk statement) (RefusesBulk old.mapping.schema statement) old was e new now
