-- When two records of objects are the same.
use Rattle.std.specs.Prelude.{Bool, true, false, not, ◌&&◌, ◌==◌, Option, None, Some}
use Rattle.std.specs.Cmp.Lexicographic.{pointwise}
use Rattle.base_core.specs.declared.ids.ObjId.{ObjId}
use Rattle.base_core.specs.Order.{same_value}
use Rattle.schema_core.specs.Tables.{same_values}
use Rattle.object_arena.specs.declared.object.Cell.{Cell}
use Rattle.object_arena.specs.declared.object.Link.{Link}
use Rattle.object_arena.specs.declared.object.Link.TheVariants.{Unset, Unloaded, One, Many}
use Rattle.object_arena.specs.declared.object.Object.{Object}
use Rattle.object_arena.specs.declared.object.State.{State}
use Rattle.object_arena.specs.declared.object.State.TheVariants.{Transient, Pending, Persistent, Deleted, Detached}

-- both are there and alike, or none is there
abbrev pub both_alike : {A : Type 0} → (A → A → Bool) → Option A → Option A → Bool
both_alike alike None None = true
both_alike alike (Some a) (Some b) = alike a b
both_alike alike a b = false

abbrev pub same_bool : Bool → Bool → Bool
same_bool true other = other
same_bool false other = not other

abbrev pub same_state : State → State → Bool
same_state Transient Transient = true
same_state Pending Pending = true
same_state Persistent Persistent = true
same_state Deleted Deleted = true
same_state Detached Detached = true
same_state one other = false

abbrev pub same_id : ObjId → ObjId → Bool
same_id one other = one.0 == other.0

abbrev pub same_cell : Cell → Cell → Bool
same_cell one other = both_alike same_value one.value other.value && both_alike same_value one.base other.base

abbrev pub same_link : Link → Link → Bool
same_link Unset Unset = true
same_link (Unloaded added removed) (Unloaded more less) = pointwise same_id added more && pointwise same_id removed less
same_link (One end changed) (One other new) = both_alike same_id end other && same_bool changed new
same_link (Many members base) (Many others before) = pointwise same_id members others && pointwise same_id base before
same_link one other = false

-- where the objects stand: the class, the state with its identity, the add number and the marks agree
abbrev pub same_standing : Object → Object → Bool
same_standing one other =
    (one.class.0 == other.class.0) && (same_state one.state other.state && (both_alike same_values one.identity other.identity
    && ((one.added == other.added) && (same_bool one.marked other.marked && same_bool one.orphan other.orphan))))

-- the records agree in where the objects stand, in each cell with its base, and in each link
unfoldable pub same_object : Object → Object → Bool
same_object one other = same_standing one other && (pointwise same_cell one.cells other.cells && pointwise same_link one.links other.links)
