-- Selects that loads send, noted, and how a keeper stands for a load.
use Rattle.std.specs.Prelude.{◌≡◌, ◌≤◌, true, false, List, [], ◌∷◌, ◌++◌, filter_map, Option, None, Some, Result, Ok, Err}
use Rattle.base_core.specs.declared.value.Value.{Value}
use Rattle.base_core.specs.declared.refusal.Refusal.{Refusal}
use Rattle.schema_core.specs.Catalog.{Catalog}
use Rattle.expr_types.specs.declared.select.Select.{Select}
use Rattle.keeper_core.specs.declared.sent.Sent.{Sent}
use Rattle.keeper_core.specs.Programs.{Event, Run, Sends, Writes, ends_early}
use Rattle.keeper_core.specs.Beside.{Beside, on_store}
use Rattle.keeper_core.specs.Moment.{Moment}
use Rattle.keeper_core.specs.Store.{Store}
use Rattle.keeper_core.specs.declared.notes.Note.{Note}
use Rattle.keeper_core.specs.declared.notes.Note.TheVariants as note
use Rattle.keeper_core.specs.Calls as call
use Rattle.load_rows.specs.Loading.{Loading}

-- the world of loads: the store, and beside it the objects and the notes
abbrev pub World : Type 0
World = Beside Loading

-- ---- statements

-- the note of a statement
abbrev pub statement_note : Event → Option Note
statement_note (Sends statement tables) = Some (note.Sent statement)
statement_note (Writes byte) = None

-- a statement is noted
abbrev pub with_statement : Sent → Loading → Loading
with_statement statement own = record own { notes = own.notes ++ note.Sent statement ∷ [] }

-- the statements of a call are noted, a refused one too
abbrev pub with_statements : List Event → Loading → Loading
with_statements events own = record own { notes = own.notes ++ filter_map statement_note events }

-- the rows of a select over the tables now
unfoldable pub read : Catalog → Select → World → Run World (List (List Value))
read schema select = on_store with_statements (call.query schema select)

-- ---- the keeper

-- it took its target, and a transaction is in progress
pub record IsReady (moment : Moment Store) : Type 0 where
  pub attached : moment.attached ≡ true
  pub inside : 1 ≤ moment.depth

-- it is ready still, with as many scopes open as before
abbrev pub IsReadyStill : Moment Store → Moment Store → Type 0
IsReadyStill before moment = IsReady moment × (moment.depth ≡ before.depth)

-- a load leaves it so, unless memory or the store ended it early
abbrev pub StaysReady : {A : Type 0} → Moment Store → Result A Refusal → Moment Store → Type 0
StaysReady before (Ok x) moment = IsReadyStill before moment
StaysReady before (Err e) moment = ends_early e ≡ false → IsReadyStill before moment
