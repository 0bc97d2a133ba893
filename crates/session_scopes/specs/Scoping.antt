-- What becomes of a session where scopes begin and end.
use Rattle.std.specs.Prelude.{ℕ, true, false, ◌∷◌, length}
use Rattle.object_arena.specs.Every.{each_object}
use Rattle.savepoints.specs.Scopes.{around, begun_at, no_frames, restored_graph, scope_released}
use Rattle.session_parts.specs.Ends.{object_committed, object_left}
use Rattle.session_scopes.specs.Handles.{with_next_handle, without_innermost}
use Rattle.session_scopes.specs.SessionState.{SessionState}

-- a scope has begun, the transaction or a savepoint
abbrev pub session_begun : SessionState → SessionState
session_begun session = record session { frames = record session.frames { scopes = begun_at session.graph ∷ session.frames.scopes } }

-- a savepoint has begun, under the next handle
abbrev pub session_nested : SessionState → SessionState
session_nested session = record (session_begun session) { drawn = with_next_handle session.drawn }

-- the innermost savepoint has ended, and what was done inside stays
abbrev pub session_released : SessionState → SessionState
session_released session = record session { frames = scope_released session.frames; drawn = without_innermost 1 session.drawn }

-- each object stands where it stood at the start of the scope at a depth, which has ended with those inside it
abbrev pub session_restored : ℕ → SessionState → SessionState
session_restored depth session = record session { graph = restored_graph depth session.frames session.graph; frames = around depth session.frames }

-- the innermost scope has ended for a flush that failed: each object stands where it stood at its start, and a rollback is awaited
abbrev pub session_failed : SessionState → SessionState
session_failed session = record (session_restored (length session.frames.scopes) session) { failed = true }

-- a failed flush has been rolled back, and so many of the innermost savepoints have ended
abbrev pub session_rolled_back : ℕ → SessionState → SessionState
session_rolled_back count session = record session { failed = false; drawn = without_innermost count session.drawn }

-- the transaction was committed
abbrev pub session_committed : SessionState → SessionState
session_committed session = record session { graph = each_object object_committed session.graph; frames = no_frames }

-- the session has no transaction and no objects in it
abbrev pub session_closed : SessionState → SessionState
session_closed session = record session {
  graph = each_object object_left session.graph;
  frames = no_frames;
  failed = false;
  drawn = without_innermost (length session.drawn.handles) session.drawn;
}
