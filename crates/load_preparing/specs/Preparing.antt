-- What is read before objects are deleted, as one load: the program of a flush's preparation.
use Rattle.std.specs.Prelude.{ℕ, zero, suc, Bool, true, false, ◌&&◌, map, Option, None, Some, is_none, is_some, if◌then◌else◌}
use Rattle.std.specs.List.{list_any}
use Rattle.base_core.specs.declared.ids.ObjId.{ObjId}
use Rattle.class_types.specs.declared.mapped.Relation.{Relation}
use Rattle.class_mapping.specs.Mapped.{Mapped}
use Rattle.object_arena.specs.declared.object.Cell.{Cell}
use Rattle.object_arena.specs.declared.object.Object.{Object}
use Rattle.object_arena.specs.Graph.{expired_cell, is_persistent, object_at, object_limit, with_object}
use Rattle.pair_rows.specs.Pairs.{relations_at}
use Rattle.keeper_core.specs.Programs.{Run, ◌>>=◌, each, give}
use Rattle.keeper_core.specs.Beside.{by_own, changes}
use Rattle.load_rows.specs.Loading.{Loading, noted_if}
use Rattle.load_calls.specs.Reading.{World}
use Rattle.load_calls.specs.Refreshing.{refresh}
use Rattle.load_targets.specs.Targets.{load_lazy}
use Rattle.prepared_objects.specs.Known.{lacks_link, next_unread}

-- ---- cells

-- a cell whose row's value is not known is to be read again: what was put into it is lost
abbrev pub reread_cell : Cell → Cell
reread_cell cell = if is_none cell.base then expired_cell else cell

abbrev pub reread_object : Object → Object
reread_object object = record object { cells = map reread_cell object.cells }

-- such a cell holds a value
abbrev pub is_unwritten : Cell → Bool
is_unwritten cell = is_none cell.base && is_some cell.value

abbrev pub loses_value : Object → Bool
loses_value object = list_any is_unwritten object.cells

-- such cells of an object are to be read again, and it is noted where one held a value
abbrev pub reread : ObjId → Loading → Loading
reread object own = record {
  graph = with_object own.graph object (reread_object (object_at own.graph object));
  notes = noted_if (loses_value (object_at own.graph object)) object own.notes;
}

-- ---- one object

abbrev pub load_if : Bool → Mapped → ObjId → ℕ × Relation → World → Run World (Unit {0})
load_if true mapped object placed = load_lazy mapped object (record { 0 = placed.0 })
load_if false mapped object placed = give tt

-- the object is persistent still, and lacks a link that is to be read
abbrev pub is_to_load : Object → ℕ × Relation → Bool
is_to_load object placed = is_persistent object.state && lacks_link object placed

-- a link that is to be read is loaded, where it is not
unfoldable pub read_link : Mapped → ObjId → ℕ × Relation → Unit {0} → World → Run World (Unit {0})
read_link mapped object placed u = by_own (λ own. load_if (is_to_load (object_at own.graph object) placed) mapped object placed)

unfoldable pub read_links : Mapped → ObjId → World → Run World (Unit {0})
read_links mapped object = by_own (λ own. each (read_link mapped object) tt (relations_at mapped own.graph object))

-- what is not known of an object is read: its cells by one select, and then its links in the order of the relationships
unfoldable pub read_object : Mapped → ObjId → World → Run World (Unit {0})
read_object mapped object = changes (reread object) >>= λ u. (refresh mapped object >>= λ u. read_links mapped object)

-- ---- all objects

-- an object is read, if there is one, and then more
abbrev pub read_then : Mapped → Option ObjId → (World → Run World (Unit {0})) → World → Run World (Unit {0})
read_then mapped None more = give tt
read_then mapped (Some object) more = read_object mapped object >>= λ u. more

-- so many objects are read, each time that of least number that is to be deleted and of which something is to be read
unfoldable pub read_most : ℕ → Mapped → World → Run World (Unit {0})
read_most zero mapped = give tt
read_most (suc most) mapped = by_own (λ own. read_then mapped (next_unread mapped own.graph) (read_most most mapped))

-- all that is to be known of the objects that are to be deleted is read; there are no more of them than there may be objects
unfoldable pub read_going : Mapped → World → Run World (Unit {0})
read_going mapped = read_most object_limit mapped
