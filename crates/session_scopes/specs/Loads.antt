-- Loads of a session's objects, as programs of the session.
use Rattle.std.specs.Prelude.{◌≡◌, ◌⊎◌, false, List, [], ◌∷◌, ◌++◌}
use Rattle.std.specs.List.{flat_map}
use Rattle.base_core.specs.declared.ids.ObjId.{ObjId}
use Rattle.base_core.specs.declared.refusal.Refusal.{Refusal}
use Rattle.base_core.specs.declared.refusal.Refusal.TheVariants.{Memory}
use Rattle.class_mapping.specs.Mapped.{Mapped}
use Rattle.keeper_core.specs.declared.notes.Note.{Note}
use Rattle.keeper_core.specs.declared.notes.Note.TheVariants.{Filled}
use Rattle.keeper_core.specs.Beside.{Beside}
use Rattle.keeper_core.specs.Moment.{Moment}
use Rattle.keeper_core.specs.Programs.{Run, ends_early}
use Rattle.keeper_core.specs.Store.{Store}
use Rattle.object_arena.specs.Graph.{Graph}
use Rattle.object_records.specs.Touched.{frames_with_touched}
use Rattle.savepoints.specs.Scopes.{Framed}
use Rattle.load_rows.specs.Loading.{Loading, loading}
use Rattle.session_scopes.specs.SessionState.{GoesOn, SessionState}

-- the objects, with nothing noted yet
abbrev pub loading_in : SessionState → Loading
loading_in session = loading session.graph []

-- the object that a note tells to be filled
abbrev pub filled_in : Note → List ObjId
filled_in (Filled object) = object ∷ []
filled_in note = []

-- the scopes when each object that was made or filled has been touched, as it stands now
abbrev pub frames_filled : Graph → List Note → Framed → Framed
frames_filled graph notes frames = frames_with_touched graph (flat_map filled_in notes) frames

-- what the load made of the objects, touched directly after it, and its notes behind the session's
abbrev pub with_loaded : Loading → SessionState → SessionState
with_loaded own session = record session { graph = own.graph; frames = frames_filled own.graph own.notes session.frames; notes = session.notes ++ own.notes }

abbrev pub loaded_run : {A : Type 0} → SessionState → Run (Beside Loading) A → Run (Beside SessionState) A
loaded_run session run = record { events = run.events; answer = run.answer; after = record { own = with_loaded run.after.own session; store = run.after.store } }

-- a load, as a program of the session: a refused one leaves what it loaded, touched too
unfoldable pub on_load : {A : Type 0} → (Beside Loading → Run (Beside Loading) A) → Beside SessionState → Run (Beside SessionState) A
on_load m w = loaded_run w.own (m (record { own = loading_in w.own; store = w.store }))

-- What a load tells of its refusal, of the objects of the session before it and then. The session took in what was loaded, unless
-- memory or the store ended the load early.
pub record IsShownIn (IsShown : Loading × Moment Store → Loading × Moment Store → Refusal → Type 0) (old : SessionState) (before : Moment Store) (new : SessionState) (after : Moment Store) (e : Refusal) : Type 0 where
  pub own : Loading
  pub graph : own.graph ≡ new.graph
  pub taken : ends_early e ≡ false → new ≡ with_loaded own old
  pub shown : IsShown (loading_in old, before) (own, after) e

-- ---- what a load leaves

-- Only what rows gave has changed: the objects, what is kept of them inside the scopes in progress, and the notes. Each object is
-- there still, of its class.
pub record IsLoadedFrom (old new : SessionState) : Type 0 where
  pub goes : GoesOn old new
  pub rest : new ≡ record old { graph = new.graph; frames = new.frames; notes = new.notes }
  pub scopes : new.frames.scopes ≡ old.frames.scopes

-- a load was refused for what may refuse it, and shows why; what it had loaded by then stays
pub record IsRefusedLoad (MayRefuse : Mapped → Graph → Refusal → Type 0) (IsShown : Mapped → Loading × Moment Store → Loading × Moment Store → Refusal → Type 0) (old : SessionState) (was : Moment Store) (e : Refusal) (new : SessionState) (now : Moment Store) : Type 0 where
  pub left : IsLoadedFrom old new
  pub cause : (e ≡ Memory) ⊎ MayRefuse old.mapping new.graph e
  pub shown : (e ≡ Memory) ⊎ IsShownIn (IsShown old.mapping) old was new now e
