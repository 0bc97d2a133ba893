-- The members of a collection, once it is loaded.
use Rattle.std.specs.Prelude.{Bool, not, ◌==◌, List, ◌++◌, filter}
use Rattle.std.specs.List.{list_all}
use Rattle.base_core.specs.declared.ids.ObjId.{ObjId}

abbrev pub is_apart : List ObjId → ObjId → Bool
is_apart others object = list_all (λ other. not (other.0 == object.0)) others

-- the objects that are none of the others
abbrev pub without : List ObjId → List ObjId → List ObjId
without others objects = filter (is_apart others) objects

-- what was read without the kept removes, and behind it the kept adds that are not there already
abbrev pub linked : List ObjId → List ObjId → List ObjId → List ObjId
linked added removed read = without removed read ++ without (without removed read) added
