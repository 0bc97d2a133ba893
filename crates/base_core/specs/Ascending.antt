-- Lists of objects in ascending order of their numbers.
use Rattle.std.specs.Prelude.{◌<◌, List, [], ◌∷◌}
use Rattle.base_core.specs.declared.ids.ObjId.{ObjId}

-- the object is above each one of the list
abbrev pub IsAbove : List ObjId → ObjId → Type 0
IsAbove [] object = Unit {0}
IsAbove (x ∷ xs) object = (x.0 < object.0) × IsAbove xs object

-- the object is below each one of the list
abbrev pub IsBelow : ObjId → List ObjId → Type 0
IsBelow object [] = Unit {0}
IsBelow object (x ∷ xs) = (object.0 < x.0) × IsBelow object xs

-- each object is below all later ones
abbrev pub IsAscending : List ObjId → Type 0
IsAscending [] = Unit {0}
IsAscending (x ∷ xs) = IsBelow x xs × IsAscending xs
