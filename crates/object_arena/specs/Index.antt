-- The ordered map by which the persistent object of an identity is found.
use Rattle.std.specs.Prelude.{◌≡◌, ℕ, ◌+◌, Bool, true, ◌&&◌, nat_lt, nat_le, List, length, Option, None, Some}
use Rattle.base_core.specs.declared.ids.ObjId.{ObjId}
use Rattle.base_core.specs.declared.ids.ClassId.{ClassId}
use Rattle.base_core.specs.declared.value.Value.{Value}
use Rattle.object_arena.specs.Entries.{IsPut, IsSame, Keyed, entry_of}
use Rattle.object_arena.specs.declared.object.State.{State}
use Rattle.object_arena.specs.declared.object.State.TheVariants.{Persistent}
use Rattle.object_arena.specs.declared.object.Object.{Object}
use Rattle.object_arena.specs.Graph.{Graph, object_at, root_at}
use Rattle.object_arena.specs.Identity.{IsGraph, holds, holds_at}

abbrev pub number_of : Option ObjId → ℕ
number_of None = 0
number_of (Some object) = object.0

-- every persistent object is found under its identity
abbrev pub IsComplete : List Object → List ClassId → List Keyed → Type 0
IsComplete objects roots maps = (root : ClassId) (key : List Value) (i : ℕ) → holds_at objects roots root key i ≡ true → number_of (entry_of maps root key) ≡ i + 1

-- an entry is good: its object has been made, and is persistent under the root and key
abbrev pub is_holder : Graph → ClassId → List Value → ObjId → Bool
is_holder graph root key object = (nat_lt 0 object.0 && nat_le object.0 (length graph.objects)) && holds root key (object_at graph object, root_at graph object)

-- what an arena keeps: its graph, and a map that is complete where it says so
pub record IsIndexed (objects : List Object) (roots : List ClassId) (maps : List Keyed) (complete : Bool) : Type 0 where
  pub graph : IsGraph objects roots
  pub entries : complete ≡ true → IsComplete objects roots maps

-- an object that goes into a state and an identity has its entry, where it is persistent then; all other entries stay
abbrev pub moved_under : List Keyed → List Keyed → ClassId → Option (List Value) → ObjId → Type 0
moved_under old new root None object = IsSame old new
moved_under old new root (Some key) object = IsPut old new root key object

abbrev pub IsMoved : List Keyed → List Keyed → ClassId → State → Option (List Value) → ObjId → Type 0
IsMoved old new root Persistent identity object = moved_under old new root identity object
IsMoved old new root state identity object = IsSame old new
