-- When a session that is told is sound: what its objects hold is what the store has.
use Rattle.std.specs.Prelude.{◌≡◌, ◌≢◌, ℕ, ◌-◌, ◌<◌, ◌≤◌, true, false, List, [], ◌∷◌, length, slice_get, slice_index_or, Option, None, Some}
use Rattle.std.specs.List.{AllByRecursion}
use Rattle.std.specs.Option.{option_and_then}
use Rattle.base_core.specs.declared.value.Value.{Value}
use Rattle.class_types.specs.declared.mapped.Attribute.{Attribute}
use Rattle.class_mapping.specs.Mapped.{Mapped, attribute_of}
use Rattle.expr_types.specs.declared.select.Bulk.{Bulk}
use Rattle.sql_semantics.specs.Plain.{IsPlainBulk}
use Rattle.schema_core.specs.Tables.{Legal, Tables, row_under, rows_in}
use Rattle.object_arena.specs.declared.object.Link.{Link}
use Rattle.object_arena.specs.declared.object.Link.TheVariants.{Unloaded}
use Rattle.object_arena.specs.declared.object.Object.{Object}
use Rattle.object_arena.specs.declared.object.State.TheVariants.{Pending}
use Rattle.object_arena.specs.Graph.{Graph, IsObject, cell_in, expired_cell, is_persistent, no_class_id, no_object}
use Rattle.object_arena.specs.Fit.{IsFit}
use Rattle.object_arena.specs.Identity.{IsGraph, holds, is_identified}
use Rattle.base_core.specs.declared.ids.AttrNo.{AttrNo}
use Rattle.base_core.specs.declared.ids.ClassId.{ClassId}
use Rattle.base_core.specs.declared.ids.ObjId.{ObjId}
use Rattle.keeper_core.specs.Beside.{Beside}
use Rattle.keeper_core.specs.Programs.{Run}
use Rattle.savepoints.specs.declared.scope.Scope.{Scope}
use Rattle.savepoints.specs.declared.scope.Standing.{Standing}
use Rattle.savepoints.specs.Scopes.{Framed, is_touched, standing_at, standing_of}
use Rattle.session_parts.specs.Depths.{has_scope}
use Rattle.session_scopes.specs.SessionState.{SessionState, depth_of}

-- what the tables have in the column of an object's cell
abbrev pub in_row : Attribute → Option (List Value) → Option Value
in_row attribute None = None
in_row attribute (Some row) = slice_get row attribute.column.0

-- the row under the object's key in the attribute's table
abbrev pub row_for : Tables → Attribute → Option (List Value) → Option (List Value)
row_for tables attribute None = None
row_for tables attribute (Some key) = option_and_then (λ rows. row_under rows key) (rows_in tables attribute.table)

-- a cell whose base is known has the base that stands in the row of this key, which is there
abbrev pub IsFreshCell : Mapped → Tables → Object → Option (List Value) → AttrNo → Type 0
IsFreshCell mapped tables object key attr =
    (base : Value) → (cell_in object attr).base ≡ Some base → in_row (attribute_of mapped object.class attr) (row_for tables (attribute_of mapped object.class attr) key) ≡ Some base

abbrev pub IsFreshUnder : Mapped → Tables → Object → Option (List Value) → Type 0
IsFreshUnder mapped tables object key = (attr : AttrNo) → attr.0 < length object.cells → IsFreshCell mapped tables object key attr

-- the bases of a persistent object are those of its rows
abbrev pub IsFresh : Mapped → Tables → Object → Type 0
IsFresh mapped tables object = is_persistent object.state ≡ true → IsFreshUnder mapped tables object object.identity

-- what holds of each object of a graph
abbrev pub EachObject : (Object → Type 0) → Graph → Type 0
EachObject P graph = (place : ℕ) → place < length graph.objects → P (slice_index_or graph.objects place no_object)

-- an object that was not touched since a scope's start stands as it stood then, has no delete mark, and what is known of its rows
-- is what they held then
pub record IsAsAtStart (mapped : Mapped) (tables : Tables) (start : Standing) (object : Object) : Type 0 where
  pub stands : standing_of object ≡ start
  pub unmarked : object.marked ≡ false
  pub fresh : IsFresh mapped tables object

-- an object that stands so
abbrev pub as_object : Standing → Object
as_object standing = record no_object { state = standing.state; identity = standing.identity }

-- no two objects that stood at a scope's start were persistent under one root and key
abbrev pub AreApart : List ClassId → Scope → Type 0
AreApart roots scope = (root : ClassId) (key : List Value) (i j : ℕ) → holds root key (as_object (standing_at scope i), slice_index_or roots i no_class_id) ≡ true
    → holds root key (as_object (standing_at scope j), slice_index_or roots j no_class_id) ≡ true → i ≡ j

-- what holds of the scope at a depth, with the tables at its start: nothing was pending then, one object stood for each key, and
-- each object that was touched neither in it nor inside it is as it was
pub record IsSoundScope (mapped : Mapped) (graph : Graph) (frames : Framed) (depth : ℕ) (scope : Scope) (tables : Tables) : Type 0 where
  pub legal : Legal mapped.schema tables
  pub few : length scope.standings ≤ length graph.objects
  pub settled : (place : ℕ) → (standing_at scope place).state ≢ Pending
  pub identified : (place : ℕ) → is_identified (as_object (standing_at scope place)) ≡ true
  pub apart : AreApart graph.roots scope
  pub untouched : (place : ℕ) → place < length graph.objects → is_touched frames depth place ≡ false
      → IsAsAtStart mapped tables (standing_at scope place) (slice_index_or graph.objects place no_object)

-- the scopes, the innermost first, each with the tables that the store has of its start
abbrev pub AreSoundScopes : Mapped → Graph → Framed → List Scope → List Tables → Type 0
AreSoundScopes mapped graph frames [] [] = Unit {0}
AreSoundScopes mapped graph frames (scope ∷ scopes) (tables ∷ starts) =
    IsSoundScope mapped graph frames (length (scope ∷ scopes)) scope tables × AreSoundScopes mapped graph frames scopes starts
AreSoundScopes mapped graph frames scopes starts = ⊥

-- only persistent objects have a delete mark
abbrev pub IsMarkedRight : Object → Type 0
IsMarkedRight object = object.marked ≡ true → is_persistent object.state ≡ true

-- an object with nothing to be written: it is not pending, and has no delete mark
pub record IsSettled (object : Object) : Type 0 where
  pub settled : object.state ≢ Pending
  pub unmarked : object.marked ≡ false

-- of no link it is known to what it leads, and nothing is kept to be added or removed
abbrev pub AreUnloaded : List Link → Type 0
AreUnloaded links = AllByRecursion (λ link. link ≡ Unloaded [] []) links

-- outside transactions nothing is pending or marked, and every persistent object is wholly expired, its cells and its links
pub record IsAtRest (object : Object) : Type 0 where
  pub settled : object.state ≢ Pending
  pub unmarked : object.marked ≡ false
  pub expired : is_persistent object.state ≡ true → (attr : AttrNo) → attr.0 < length object.cells → cell_in object attr ≡ expired_cell
  pub unloaded : is_persistent object.state ≡ true → AreUnloaded object.links

-- outside transactions objects are at rest
abbrev pub RestIf : List Scope → Graph → Type 0
RestIf [] graph = EachObject IsAtRest graph
RestIf (scope ∷ scopes) graph = Unit {0}

-- a told session is sound
pub record IsSound (world : Beside SessionState) : Type 0 where
  pub graph : IsGraph world.own.graph.objects world.own.graph.roots
  pub legal : Legal world.own.mapping.schema world.store.tables
  pub fresh : EachObject (IsFresh world.own.mapping world.store.tables) world.own.graph
  pub marked : EachObject IsMarkedRight world.own.graph
  pub scopes : AreSoundScopes world.own.mapping world.own.graph world.own.frames world.own.frames.scopes world.store.scopes
  pub rest : RestIf world.own.frames.scopes world.own.graph

-- a program keeps a sound session sound, whatever it answers
abbrev pub KeepsSound : {A : Type 0} → (Beside SessionState → Run (Beside SessionState) A) → Type 0
KeepsSound m = (world : Beside SessionState) → IsSound world → IsSound (m world).after

-- a program keeps those sound sessions sound of which something holds
abbrev pub KeepsSoundWhere : {A : Type 0} → (Beside SessionState → Type 0) → (Beside SessionState → Run (Beside SessionState) A) → Type 0
KeepsSoundWhere P m = (world : Beside SessionState) → P world → IsSound world → IsSound (m world).after

-- nothing of any object is to be written, as it is behind a flush
abbrev pub IsWritten : Beside SessionState → Type 0
IsWritten world = EachObject IsSettled world.own.graph

-- each savepoint in progress has a handle, one that failed too
abbrev pub IsHandled : Beside SessionState → Type 0
IsHandled world = length world.own.drawn.handles ≡ depth_of world.own - 1

-- no rollback is awaited, and each savepoint in progress has a handle
pub record IsWell (world : Beside SessionState) : Type 0 where
  pub handled : IsHandled world
  pub well : world.own.failed ≡ false

-- the transaction may be committed: it is in progress, no rollback is awaited, and nothing is to be written
pub record IsCommittable (world : Beside SessionState) : Type 0 where
  pub inside : 0 < length world.own.frames.scopes
  pub well : IsWell world
  pub written : IsWritten world

-- a transaction is in progress, and the objects fit their classes
pub record IsFitting (session : SessionState) : Type 0 where
  pub inside : has_scope session.frames.scopes ≡ true
  pub fit : IsFit session.mapping session.graph

-- a bulk statement may be sent
abbrev pub IsSendable : Bulk → Beside SessionState → Type 0
IsSendable statement world = IsFitting world.own × IsPlainBulk world.own.mapping.schema statement

-- the scope at a depth is in progress
abbrev pub IsInProgress : ℕ → Beside SessionState → Type 0
IsInProgress depth world = (1 ≤ depth) × (depth ≤ length world.own.frames.scopes)

-- a program on an object keeps a sound session sound, where the object has been made
abbrev pub KeepsSoundOf : {A : Type 0} → (ObjId → Beside SessionState → Run (Beside SessionState) A) → Type 0
KeepsSoundOf m = (object : ObjId) (world : Beside SessionState) → IsObject world.own.graph object → IsSound world → IsSound (m object world).after
