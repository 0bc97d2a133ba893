-- What sessions keep beside soundness, so that every call finds what it needs: keys that no cell contradicts, and tables that ascend.
use Rattle.std.specs.Prelude.{◌≡◌, ℕ, Bool, true, ◌&&◌, List, [], ◌∷◌, slice_index_or, Option, is_some}
use Rattle.base_core.specs.declared.ids.AttrNo.{AttrNo}
use Rattle.base_core.specs.declared.value.Value.{Value}
use Rattle.class_mapping.specs.Mapped.{Mapped, is_key_attribute}
use Rattle.table_laws.specs.Legality.{IsAscendingStore}
use Rattle.object_arena.specs.declared.object.Object.{Object}
use Rattle.object_arena.specs.declared.object.State.{State}
use Rattle.object_arena.specs.Fit.{IsFit}
use Rattle.object_arena.specs.Graph.{Graph, cell_in, has_identity, no_object}
use Rattle.session_laws.specs.Graphs.{IsWellMapped}
use Rattle.keeper_core.specs.Programs.{Run}
use Rattle.savepoints.specs.declared.scope.Scope.{Scope}
use Rattle.savepoints.specs.declared.scope.Standing.{Standing}
use Rattle.savepoints.specs.Scopes.{standing_at, standing_of}
use Rattle.session_scopes.specs.SessionState.{SessionState}
use Rattle.session_calls.specs.Parts.{World}
use Rattle.session_laws.specs.Sound.{EachObject, IsHandled, IsSound}

-- ---- objects

-- in a state that has an identity, and with one
abbrev pub is_named : State → Option (List Value) → Bool
is_named state identity = has_identity state && is_some identity

-- the cells of its key hold what its row holds, where it has an identity
abbrev pub HoldsItsKey : Mapped → Object → Type 0
HoldsItsKey mapped object =
    is_named object.state object.identity ≡ true → (attr : AttrNo) → is_key_attribute mapped object.class attr ≡ true → (cell_in object attr).value ≡ (cell_in object attr).base

-- ---- who had an identity

abbrev pub stands_named : Standing → Bool
stands_named standing = is_named standing.state standing.identity

abbrev pub is_named_in : Graph → ℕ → Bool
is_named_in graph place = stands_named (standing_of (slice_index_or graph.objects place no_object))

abbrev pub was_named : Scope → ℕ → Bool
was_named scope place = stands_named (standing_at scope place)

-- the objects that had an identity at the start of a scope had one at that of each scope inside it, and have one now
abbrev pub AreNamedSince : (ℕ → Bool) → List Scope → Type 0
AreNamedSince now [] = Unit {0}
AreNamedSince now (scope ∷ scopes) = ((place : ℕ) → was_named scope place ≡ true → now place ≡ true) × AreNamedSince (was_named scope) scopes

-- ---- sessions

-- the mapping is as every configured one is, with links, classes of several tables and discriminators as they may be
pub record IsOrderlySession (own : SessionState) : Type 0 where
  pub well : IsWellMapped own.mapping
  pub objects : EachObject (HoldsItsKey own.mapping) own.graph
  pub named : AreNamedSince (is_named_in own.graph) own.frames.scopes

-- its tables and their rows ascend, those at the start of each scope too
pub record IsTidy (world : World) : Type 0 where
  pub own : IsOrderlySession world.own
  pub ascending : IsAscendingStore world.store

-- a session of which every call finds what it needs, and leaves it so
pub record IsHealthy (world : World) : Type 0 where
  pub sound : IsSound world
  pub tidy : IsTidy world

-- the objects fit their classes, and each savepoint in progress has a handle, as in every session
pub record IsWhole (world : World) : Type 0 where
  pub fit : IsFit world.own.mapping world.own.graph
  pub handled : IsHandled world

-- a call that flushes, and needs it whole, keeps a healthy session healthy, whatever it answers
abbrev pub KeepsHealthWhole : {A : Type 0} → (World → Run World A) → Type 0
KeepsHealthWhole m = (world : World) → IsWhole world → IsHealthy world → IsHealthy (m world).after
