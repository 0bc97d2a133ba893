-- What is seen of a session that has savepoints and tells what a command did.
use Rattle.std.specs.Prelude.{◌≡◌, ℕ, ◌+◌, ◌-◌, ◌≤◌, Bool, false, List, [], ◌∷◌, ◌++◌, length, map, Result, if◌then◌else◌}
use Rattle.std.specs.List.{All, flat_map}
use Rattle.base_core.specs.declared.ids.ClassId.{ClassId}
use Rattle.base_core.specs.declared.ids.ObjId.{ObjId}
use Rattle.base_core.specs.declared.refusal.Refusal.{Refusal}
use Rattle.base_core.specs.declared.refusal.Warning.{Warning}
use Rattle.class_mapping.specs.Mapped.{Mapped}
use Rattle.object_arena.specs.Every.{classes_of}
use Rattle.object_arena.specs.Graph.{Graph, IsObject, empty_graph, object_at}
use Rattle.object_arena.specs.Fit.{IsFit}
use Rattle.savepoints.specs.declared.scope.Scope.{Scope}
use Rattle.savepoints.specs.Scopes.{Framed, HasKeys, no_frames}
use Rattle.keeper_core.specs.declared.notes.Note.{Note}
use Rattle.keeper_core.specs.declared.notes.Note.TheVariants as note
use Rattle.keeper_core.specs.declared.sent.Sent.{Sent}
use Rattle.keeper_core.specs.Programs.{Event, Sends, Writes}
use Rattle.keeper_core.specs.Moment.{Moment}
use Rattle.object_records.specs.Touched.{frames_touched_between}
use Rattle.session_parts.specs.Depths.{HasDepth, StaysAt, has_scope}
use Rattle.session_scopes.specs.Handles.{Drawn, no_handles}

-- A session: its mapping and objects; its scopes in progress, with what is kept of each object inside them; whether a flush
-- failed that was not rolled back yet; the handles of the savepoints in progress, that of a failed one included; how many add
-- numbers were given; and what the command did so far.
pub record SessionState : Type 0 where
  pub mapping : Mapped
  pub graph : Graph
  pub frames : Framed
  pub failed : Bool
  pub drawn : Drawn
  pub added : ℕ
  pub notes : List Note

-- a session over a mapping, with no objects and no transaction
abbrev pub new_session : Mapped → SessionState
new_session mapping = record { mapping = mapping; graph = empty_graph; frames = no_frames; failed = false; drawn = no_handles; added = 0; notes = [] }

-- a transaction is in progress
abbrev pub in_transaction : SessionState → Bool
in_transaction session = has_scope session.frames.scopes

abbrev pub depth_in : Bool → List Scope → ℕ
depth_in failed scopes = if failed then length scopes + 1 else length scopes

-- how many scopes are in progress, a failed one included
abbrev pub depth_of : SessionState → ℕ
depth_of session = depth_in session.failed session.frames.scopes

-- the session with other objects, where each that comes to differ has been touched in the innermost scope
abbrev pub with_graph : Graph → SessionState → SessionState
with_graph graph session = record session { graph = graph; frames = frames_touched_between session.graph graph session.frames }

-- ---- notes

abbrev pub notes_of : Event → List Note
notes_of (Sends statement tables) = note.Sent statement ∷ []
notes_of (Writes byte) = []

-- the session has noted a statement
abbrev pub with_note : Sent → SessionState → SessionState
with_note statement session = record session { notes = session.notes ++ note.Sent statement ∷ [] }

-- the session has noted warnings
abbrev pub with_warnings : List Warning → SessionState → SessionState
with_warnings warnings session = record session { notes = session.notes ++ map note.Warn warnings }

-- the session has noted the statements of a call
abbrev pub with_notes : List Event → SessionState → SessionState
with_notes events session = record session { notes = session.notes ++ flat_map notes_of events }

-- ---- what is kept

-- What every session keeps: its objects fit its mapping, and had keys of their classes at each scope's start. Each
-- savepoint in progress has a handle, one that failed too.
pub record IsSession (mapped : Mapped) (graph : Graph) (scopes : List Scope) (failed : Bool) (drawn : Drawn) : Type 0 where
  pub fit : IsFit mapped graph
  pub keys : All (HasKeys mapped graph) scopes
  pub handled : length drawn.handles ≡ depth_in failed scopes - 1

-- the sessions are the same but for what was noted
abbrev pub AreAlikeButNotes : SessionState → SessionState → Type 0
AreAlikeButNotes old new = new ≡ record old { notes = new.notes }

-- the same mapping and the same objects, each of its class, and no handle fewer was drawn
pub record SameObjects (old new : SessionState) : Type 0 where
  pub mapping : new.mapping ≡ old.mapping
  pub classes : classes_of new.graph ≡ classes_of old.graph
  pub drawn : old.drawn.drawn ≤ new.drawn.drawn

-- the object has been made of the class
abbrev pub IsMadeOf : Graph → ObjId → ClassId → Type 0
IsMadeOf graph object class = IsObject graph object × ((object_at graph object).class ≡ class)

-- each object is there still, of its class
abbrev pub AreThereStill : Graph → Graph → Type 0
AreThereStill old new = (object : ObjId) → IsObject old object → IsMadeOf new object (object_at old object).class

-- the keeper took its target, and has the session's scopes open
abbrev pub IsInStep : {W : Type 0} → SessionState → Moment W → Type 0
IsInStep session moment = HasDepth (length session.frames.scopes) moment

-- the mapping stays, each object is there still, of its class, and no handle fewer was drawn
pub record GoesOn (old new : SessionState) : Type 0 where
  pub mapping : new.mapping ≡ old.mapping
  pub there : AreThereStill old.graph new.graph
  pub drawn : old.drawn.drawn ≤ new.drawn.drawn

-- what a call keeps: the session goes on, with the keeper in step, unless memory or the store ended it early
pub record IsKept {A W : Type 0} (result : Result A Refusal) (old new : SessionState) (moment : Moment W) : Type 0 where
  pub same : GoesOn old new
  pub in_step : StaysAt result (length new.frames.scopes) moment
