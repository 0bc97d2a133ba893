-- What is known, changed and kept of a link.
use Rattle.std.specs.Prelude.{Bool, true, false, [], Option, None, Some}
use Rattle.base_core.specs.declared.ids.ObjId.{ObjId}
use Rattle.object_arena.specs.declared.object.Link.{Link}
use Rattle.object_arena.specs.declared.object.Link.TheVariants.{Unset, Unloaded, One, Many}

abbrev pub is_unloaded : Link → Bool
is_unloaded (Unloaded added removed) = true
is_unloaded link = false

abbrev pub end_if : Bool → Option ObjId → Option (Option ObjId)
end_if true end = Some end
end_if false end = None

-- the end of a many-to-one link that was changed
abbrev pub changed_end : Link → Option (Option ObjId)
changed_end Unset = None
changed_end (Unloaded added removed) = None
changed_end (One end changed) = end_if changed end
changed_end (Many members base) = None

-- a link without flags and kept changes; what was not set is to be read
abbrev pub kept_link : Link → Link
kept_link Unset = Unloaded [] []
kept_link (Unloaded added removed) = Unloaded [] []
kept_link (One end changed) = One end false
kept_link (Many members base) = Many members members
