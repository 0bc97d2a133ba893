-- The objects that stand for rows, and what the taking of rows leaves of those that stood before.
use Rattle.std.specs.Prelude.{◌≡◌, ◌≤◌, true, List, length}
use Rattle.base_core.specs.declared.ids.ClassId.{ClassId}
use Rattle.base_core.specs.declared.ids.ObjId.{ObjId}
use Rattle.base_core.specs.declared.value.Value.{Value}
use Rattle.object_arena.specs.Graph.{Graph, IsObject, object_at, root_at}
use Rattle.object_arena.specs.Identity.{holds}

-- the object is the persistent one of a hierarchy under a key
abbrev pub Stands : ClassId → Graph → List Value → ObjId → Type 0
Stands root graph key object = IsObject graph object × (holds root key (object_at graph object, root_at graph object) ≡ true)

-- who stood for a key still does, and the objects that there were have their identities
pub record Stays (old new : Graph) : Type 0 where
  pub long : length old.objects ≤ length new.objects
  pub stand : (root : ClassId) (key : List Value) (object : ObjId) → Stands root old key object → Stands root new key object
  pub identities : (object : ObjId) → IsObject old object → (object_at new object).identity ≡ (object_at old object).identity

-- and their links
pub record Keeps (old new : Graph) : Type 0 where
  pub all : Stays old new
  pub links : (object : ObjId) → IsObject old object → (object_at new object).links ≡ (object_at old object).links
