-- The entries of maps from a root class and a key to an object.
use Rattle.std.specs.Prelude.{◌≡◌, Bool, ◌&&◌, ◌==◌, List, slice_get, Option, None, Some, if◌then◌else◌}
use Rattle.std.specs.Ordering.{is_eq}
use Rattle.std.specs.BTreeMap.{BTreeMap, get}
use Rattle.base_core.specs.declared.ids.ClassId.{ClassId}
use Rattle.base_core.specs.declared.ids.ObjId.{ObjId}
use Rattle.base_core.specs.declared.value.Value.{Value}
use Rattle.base_core.specs.Order.{values_cmp}

-- the objects of a root class by their keys
abbrev pub Keyed : Type 0
Keyed = BTreeMap (List Value) ObjId

abbrev pub entry_in : Option Keyed → List Value → Option ObjId
entry_in None key = None
entry_in (Some map) key = get values_cmp map key

-- the object under a root and a key
abbrev pub entry_of : List Keyed → ClassId → List Value → Option ObjId
entry_of maps root key = entry_in (slice_get maps root.0) key

abbrev pub is_entry : ClassId → List Value → ClassId → List Value → Bool
is_entry root key other_root other = other_root.0 == root.0 && is_eq (values_cmp key other)

-- the object is under the root and the key, and every other entry is as it was
abbrev pub IsPut : List Keyed → List Keyed → ClassId → List Value → ObjId → Type 0
IsPut old new root key object =
    (other_root : ClassId) (other : List Value) → entry_of new other_root other ≡ (if is_entry root key other_root other then Some object else entry_of old other_root other)

-- the same entries
abbrev pub IsSame : List Keyed → List Keyed → Type 0
IsSame old new = (root : ClassId) (key : List Value) → entry_of new root key ≡ entry_of old root key
