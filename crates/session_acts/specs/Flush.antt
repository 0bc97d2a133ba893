-- The flush as a program of the store and of the session beside it: what is to be known of the objects that are to be deleted is
-- read, then the changes and their plan, the run of the plan, and what success makes of the objects. Where that is refused the
-- innermost scope is given up, and of the preparation only the objects stay that it loaded.
use Rattle.std.specs.Prelude.{List, length}
use Rattle.base_core.specs.declared.value.Value.{Value}
use Rattle.schema_core.specs.declared.changes.RowChanges.{RowChanges}
use Rattle.object_records.specs.declared.kept.Held.{Held}
use Rattle.object_records.specs.Kept.{held_in}
use Rattle.object_rows.specs.declared.prepared.Prepared.{Prepared}
use Rattle.row_project.specs.Changes.{project}
use Rattle.flush_plan.specs.Planning.{plan}
use Rattle.graph_flushed.specs.Flushed.{graph_flushed}
use Rattle.keeper_core.specs.Programs.{Run, ◌>>=◌, ask, with_undo}
use Rattle.keeper_core.specs.Beside.{by_own, changes, on_own, on_store}
use Rattle.prepared_objects.specs.Leaving.{prepared_of}
use Rattle.load_preparing.specs.Preparing.{read_going}
use Rattle.session_scopes.specs.Keeping.{session_given_back}
use Rattle.session_scopes.specs.Loads.{on_load}
use Rattle.session_scopes.specs.Scoping.{session_failed}
use Rattle.session_scopes.specs.SessionState.{SessionState, with_graph, with_notes, with_warnings}
use Rattle.session_calls.specs.Parts.{World, roll_back_scope}
use Rattle.session_statements.specs.Run.{send_plan}

-- ---- before the statements

-- what is to be known of the objects that are to be deleted is read, without a flush
unfoldable pub prepare : World → Run World (Unit {0})
prepare = by_own (λ session. on_load (read_going session.mapping))

-- ---- the statements

-- the objects stand as they were written
abbrev pub session_flushed : Prepared → RowChanges → List (List Value) → SessionState → SessionState
session_flushed prepared rows keys session = with_graph (graph_flushed session.mapping prepared rows keys session.graph) session

-- the changes are planned and sent, and the objects stand as they were written
unfoldable pub write_rows : Prepared → RowChanges → World → Run World (Unit {0})
write_rows prepared rows =
    on_own (ask (λ session. plan session.mapping.schema rows)) >>= λ statements.
    (by_own (λ session. send_plan session.mapping.schema rows statements) >>= λ keys. changes (session_flushed prepared rows keys))

-- warnings stand before the statements, and before the refusal of a cycle
unfoldable pub write_warned : Prepared → RowChanges → World → Run World (Unit {0})
write_warned prepared rows = changes (with_warnings rows.warnings) >>= λ u. write_rows prepared rows

-- what the objects of a prepared graph change is written
unfoldable pub write_prepared : Prepared → World → Run World (Unit {0})
write_prepared prepared = by_own (λ session. write_warned prepared (project session.mapping session.graph prepared))

-- what is pending and changed is written, and what is to be deleted of objects of which all is known
unfoldable pub write_loaded : World → Run World (Unit {0})
write_loaded = by_own (λ session. write_prepared (prepared_of session.mapping session.graph))

-- what is to be written is prepared, and written
unfoldable pub write_objects : World → Run World (Unit {0})
write_objects = prepare >>= λ u. write_loaded

-- ---- a refusal

-- the innermost scope is rolled back, and a rollback awaited
unfoldable pub give_up : World → Run World (Unit {0})
give_up = by_own (λ session. on_store with_notes (roll_back_scope (length session.frames.scopes)) >>= λ u. changes session_failed)

-- what the preparation changed of the objects that there were is given back, before they stand where they stood at the scope's start
unfoldable pub give_up_to : List Held → World → Run World (Unit {0})
give_up_to held = changes (session_given_back held) >>= λ u. give_up

-- the objects are written; where that is refused the innermost scope is given up
unfoldable pub flush : World → Run World (Unit {0})
flush = by_own (λ session. with_undo write_objects (give_up_to (held_in session.graph)))
