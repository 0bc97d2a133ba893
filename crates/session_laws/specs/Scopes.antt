-- What is done inside a scope of a session's objects, and what is left of it when the scope ends.
use Rattle.std.specs.Prelude.{◌≡◌, ◌≢◌, ◌⊎◌, ℕ, ◌+◌, ◌<◌, ◌≤◌, true, false, List, [], ◌∷◌, length, slice_index_or, None, Some, Result, Ok, Err}
use Rattle.base_core.specs.declared.ids.ObjId.{ObjId}
use Rattle.base_core.specs.declared.ids.ClassId.{ClassId}
use Rattle.base_core.specs.declared.value.Value.{Value}
use Rattle.base_core.specs.declared.refusal.Refusal.{Refusal}
use Rattle.object_arena.specs.declared.object.Object.{Object}
use Rattle.object_arena.specs.declared.object.State.TheVariants.{Persistent, Detached}
use Rattle.object_arena.specs.Graph.{Graph, no_class_id, no_object, place_of}
use Rattle.object_arena.specs.Identity.{IsGraph, holds_at}
use Rattle.savepoints.specs.declared.scope.Standing.{Standing}
use Rattle.savepoints.specs.Scopes as scope

-- the objects and the scopes of a session
pub record Objects : Type 0 where
  pub graph : Graph
  pub frames : scope.Framed

-- what is done: the objects change, in whatever way, one of them is touched, or a scope starts or ends
pub data Act : Type 0 where
  Change : Graph → Act
  Touch : ObjId → Act
  Push : Act
  Release : Act
  Restore : ℕ → Act

-- a scope that is refused does not start
abbrev pub after_push : Result (Unit {0} × scope.Framed) Refusal → scope.Framed → scope.Framed
after_push (Ok pushed) frames = pushed.1
after_push (Err refusal) frames = frames

abbrev pub after_act : Act → Objects → Objects
after_act (Change graph) s = record { graph = graph; frames = s.frames }
after_act (Touch object) s = record { graph = s.graph; frames = scope.touch s.graph object s.frames }
after_act Push s = record { graph = s.graph; frames = after_push (scope.push s.graph s.frames) s.frames }
after_act Release s = record { graph = s.graph; frames = scope.scope_released s.frames }
after_act (Restore depth) s = record { graph = scope.restored_graph depth s.frames s.graph; frames = scope.around depth s.frames }

-- what is done in order
abbrev pub after_acts : List Act → Objects → Objects
after_acts [] s = s
after_acts (act ∷ acts) s = after_acts acts (after_act act s)

abbrev pub object_in : Graph → ℕ → Object
object_in graph place = slice_index_or graph.objects place no_object

abbrev pub root_in : Graph → ℕ → ClassId
root_in graph place = slice_index_or graph.roots place no_class_id

-- no object is unmade, and each stays under its root class
pub record IsLater (old new : Graph) : Type 0 where
  pub count : length old.objects ≤ length new.objects
  pub roots : (place : ℕ) → place < length old.objects → root_in new place ≡ root_in old place

-- what is done ends no scope but such as started inside the one at this depth
abbrev pub IsInside : ℕ → Act → Objects → Type 0
IsInside depth (Change graph) s = IsLater s.graph graph
IsInside depth Release s = depth < length s.frames.scopes
IsInside depth (Restore inner) s = depth < inner
IsInside depth act s = Unit {0}

abbrev pub AreInside : ℕ → List Act → Objects → Type 0
AreInside depth [] s = Unit {0}
AreInside depth (act ∷ acts) s = IsInside depth act s × AreInside depth acts (after_act act s)

-- where the object at a place stands
abbrev pub stands : Graph → ℕ → Standing
stands graph place = scope.standing_of (object_in graph place)

-- the depth of the scope that starts next
abbrev pub next_depth : Objects → ℕ
next_depth s = length s.frames.scopes + 1

-- after these acts inside a scope that starts now, and before it is restored
abbrev pub inside : List Act → Objects → Objects
inside acts s = after_acts acts (after_act Push s)

-- after it is restored
abbrev pub gone_back : List Act → Objects → Objects
gone_back acts s = after_act (Restore (next_depth s)) (inside acts s)

-- the scope starts, and none but those inside it end
pub record IsScope (acts : List Act) (s : Objects) : Type 0 where
  pub graph : IsGraph s.graph.objects s.graph.roots
  pub room : length s.frames.scopes < scope.scope_limit
  pub within : AreInside (next_depth s) acts (after_act Push s)

-- each object stands where it stood at the start
abbrev pub RestoreGivesTheStart : Type 0
RestoreGivesTheStart = (s : Objects) (acts : List Act) → IsScope acts s → (place : ℕ) → place < length s.graph.objects → stands (gone_back acts s).graph place ≡ stands s.graph place

-- the scopes in progress are those at the start
abbrev pub ScopesOutsideStay : Type 0
ScopesOutsideStay = (s : Objects) (acts : List Act) → IsScope acts s → (gone_back acts s).frames.scopes ≡ s.frames.scopes

abbrev pub under : List Value → Standing
under key = record { state = Persistent; identity = Some key }

abbrev pub left_under : List Value → Standing
left_under key = record { state = Detached; identity = Some key }

-- an object of a lesser number is persistent under the key and the root of the object at a place
abbrev pub LesserHolds : Graph → ℕ → List Value → Type 0
LesserHolds graph place key = (other : ℕ) × (other < place) × (holds_at graph.objects graph.roots (root_in graph place) key other ≡ true)

-- a load made the object since the transaction began
abbrev pub IsLoaded : Objects → ℕ → Type 0
IsLoaded s place = (scope.trace_in s.frames.traces place).loaded ≡ true

pub record GoesBack (acts : List Act) (s : Objects) (place : ℕ) : Type 0 where
  pub made : (scope.trace_in (inside acts s).frames.traces place).loaded ≡ false → stands (gone_back acts s).graph place ≡ scope.made_since
  pub nameless : (object_in (inside acts s).graph place).identity ≡ None → stands (gone_back acts s).graph place ≡ scope.made_since
  pub loaded : IsLoaded (inside acts s) place → (key : List Value) → (object_in (inside acts s).graph place).identity ≡ Some key
      → (stands (gone_back acts s).graph place ≡ under key) ⊎ ((stands (gone_back acts s).graph place ≡ left_under key) × LesserHolds (gone_back acts s).graph place key)

-- where each object that was made since the start stands
abbrev pub MadeSinceGoesBack : Type 0
MadeSinceGoesBack = (s : Objects) (acts : List Act) → IsScope acts s → (place : ℕ) → length s.graph.objects ≤ place → place < length (inside acts s).graph.objects → GoesBack acts s place

-- ---- what was touched and what was loaded

-- the object at a place was touched in the scope at a depth, which is in progress, or in one inside it
abbrev pub IsTouched : Objects → ℕ → ℕ → Type 0
IsTouched s depth place = scope.is_touched s.frames depth place ≡ true

abbrev pub IsInProgress : Objects → ℕ → Type 0
IsInProgress s depth = (1 ≤ depth) × (depth ≤ length s.frames.scopes)

-- an object that is touched is so in the innermost scope, and in those around it
abbrev pub TouchTouches : Type 0
TouchTouches = (s : Objects) (object : ObjId) (depth : ℕ) → IsInProgress s depth → IsTouched (after_act (Touch object) s) depth (place_of object)

-- what was touched in a scope stays so until it ends
abbrev pub TouchesGrow : Type 0
TouchesGrow = (s : Objects) (act : Act) (depth place : ℕ) → IsInProgress (after_act act s) depth → IsTouched s depth place → IsTouched (after_act act s) depth place

-- what was loaded stays so until the transaction ends
abbrev pub LoadsGrow : Type 0
LoadsGrow = (s : Objects) (act : Act) (place : ℕ) → IsInProgress (after_act act s) 1 → IsLoaded s place → IsLoaded (after_act act s) place

-- what is done that touches no object, or not this one
abbrev pub IsNoTouch : ℕ → Act → Type 0
IsNoTouch place (Touch object) = place ≢ place_of object
IsNoTouch place act = Unit {0}

-- an object becomes touched or loaded by its own touch alone: in the scopes around one that ends it is touched exactly where it was
abbrev pub OnlyTouchesTouch : Type 0
OnlyTouchesTouch = (s : Objects) (act : Act) (place : ℕ) → IsNoTouch place act
    → ((depth : ℕ) → IsInProgress (after_act act s) depth → IsTouched (after_act act s) depth place → IsTouched s depth place) × (IsLoaded (after_act act s) place → IsLoaded s place)
