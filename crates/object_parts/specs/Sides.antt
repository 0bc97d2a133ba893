-- What a collection becomes where a member leaves it or joins it.
use Rattle.std.specs.Prelude.{Bool, true, false, not, ◌==◌, List, [], ◌∷◌, ◌++◌, filter}
use Rattle.base_core.specs.declared.ids.ObjId.{ObjId}
use Rattle.object_arena.specs.declared.object.Link.{Link}
use Rattle.object_arena.specs.declared.object.Link.TheVariants.{Unset, Unloaded, One, Many}
use Rattle.object_arena.specs.Graph.{is_among}

abbrev pub without : List ObjId → ObjId → List ObjId
without objects object = filter (λ other. not (other.0 == object.0)) objects

abbrev pub added_unless : Bool → List ObjId → ObjId → List ObjId
added_unless true objects object = objects
added_unless false objects object = objects ++ object ∷ []

-- of an unloaded collection: a leave takes back a kept add, or else is kept as removed
abbrev pub left_unloaded : Bool → List ObjId → List ObjId → ObjId → Link
left_unloaded true added removed member = Unloaded (without added member) removed
left_unloaded false added removed member = Unloaded added (added_unless (is_among removed member) removed member)

-- of an unloaded collection: a join takes back a kept remove, or else is kept as added
abbrev pub joined_unloaded : Bool → List ObjId → List ObjId → ObjId → Link
joined_unloaded true added removed member = Unloaded added (without removed member)
joined_unloaded false added removed member = Unloaded (added_unless (is_among added member) added member) removed

-- a member leaves
abbrev pub left_by : Link → ObjId → Link
left_by Unset member = Unset
left_by (Unloaded added removed) member = left_unloaded (is_among added member) added removed member
left_by (One end changed) member = One end changed
left_by (Many members base) member = Many (without members member) base

-- a member joins: what was unset is loaded then, and a member that is there already stays where it is
abbrev pub joined_by : Link → ObjId → Link
joined_by Unset member = Many (member ∷ []) []
joined_by (Unloaded added removed) member = joined_unloaded (is_among removed member) added removed member
joined_by (One end changed) member = One end changed
joined_by (Many members base) member = Many (added_unless (is_among members member) members member) base
