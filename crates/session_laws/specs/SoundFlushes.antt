-- What a flush leaves of a session that is sound.
use Rattle.std.specs.Prelude.{◌≡◌, ◌<◌, true, length, Ok, Err}
use Rattle.base_core.specs.declared.refusal.Refusal.{Refusal}
use Rattle.object_arena.specs.declared.object.Object.{Object}
use Rattle.object_arena.specs.Graph.{is_persistent}
use Rattle.session_laws.specs.Graphs.{IsWellMapped}
use Rattle.object_arena.specs.Fit.{IsFit}
use Rattle.session_laws.specs.Held.{KeepsItsKey}
use Rattle.table_laws.specs.Legality.{IsAscendingStore}
use Rattle.session_calls.specs.Parts.{World}
use Rattle.session_acts.specs.Flush.{flush}
use Rattle.session_laws.specs.Preparing.{IsReadable}
use Rattle.session_laws.specs.Sound.{EachObject, IsSound, IsWritten}

-- A session in a transaction, whose mapping is as every configured one is, with links, classes of several tables and
-- discriminators as they may be, over tables that ascend, as do those at the start of each scope. Its objects fit their classes, and
-- the key of a persistent object has not been changed.
pub record IsToldSession (world : World) : Type 0 where
  pub inside : 0 < length world.own.frames.scopes
  pub well : IsWellMapped world.own.mapping
  pub ascending : IsAscendingStore world.store
  pub fit : IsFit world.own.mapping world.own.graph
  pub keyed : EachObject (λ (object : Object). is_persistent object.state ≡ true → KeepsItsKey world.own.mapping object) world.own.graph

-- a flush in the transaction of a sound session whose objects fit, whatever it is refused for, leaves a sound one
abbrev pub RefusedFlushIsSound : Type 0
RefusedFlushIsSound = (world : World) (e : Refusal) → 0 < length world.own.frames.scopes → IsReadable world → IsSound world → (flush world).answer ≡ Err e → IsSound (flush world).after

-- a flush that answers leaves a sound session, with nothing to be written
abbrev pub ToldFlushIsSound : Type 0
ToldFlushIsSound = (world : World) → IsToldSession world → IsSound world → (flush world).answer ≡ Ok tt → IsSound (flush world).after × IsWritten (flush world).after

-- a flush keeps a session sound, whatever it answers
abbrev pub ToldFlushKeepsSound : Type 0
ToldFlushKeepsSound = (world : World) → IsToldSession world → IsSound world → IsSound (flush world).after
