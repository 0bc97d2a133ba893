-- To which objects a link leads.
use Rattle.std.specs.Prelude.{Bool, true, false, List, [], ◌∷◌, Option, None, Some}
use Rattle.base_core.specs.declared.ids.ObjId.{ObjId}
use Rattle.object_arena.specs.declared.object.Link.{Link}
use Rattle.object_arena.specs.declared.object.Link.TheVariants.{Unset, Unloaded, One, Many}

abbrev pub end_of : Option ObjId → List ObjId
end_of None = []
end_of (Some end) = end ∷ []

-- the objects that a link holds: those that are loaded, and of an unloaded collection the kept adds
abbrev pub ends_of : Link → List ObjId
ends_of Unset = []
ends_of (Unloaded added removed) = added
ends_of (One end changed) = end_of end
ends_of (Many members base) = members

abbrev pub ends_with : Bool → Link → List ObjId
ends_with true link = ends_of link
ends_with false link = []
