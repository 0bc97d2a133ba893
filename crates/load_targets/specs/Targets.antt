-- The reading of a many-to-one link, as a program.
use Rattle.std.specs.Prelude.{Bool, true, false, List, [], ◌∷◌, Option, None, Some, if◌then◌else◌}
use Rattle.base_core.specs.declared.ids.ClassId.{ClassId}
use Rattle.base_core.specs.declared.ids.ObjId.{ObjId}
use Rattle.base_core.specs.declared.ids.RelNo.{RelNo}
use Rattle.base_core.specs.declared.value.Value.{Value}
use Rattle.schema_core.specs.Tables.{has_null}
use Rattle.class_types.specs.declared.mapped.Relation.{Relation}
use Rattle.class_mapping.specs.Mapped.{Mapped, root_of}
use Rattle.keeper_core.specs.Programs.{Run, ◌>>=◌, give}
use Rattle.keeper_core.specs.Beside.{by_own, changes, on_own}
use Rattle.object_arena.specs.Fit.{relation_of}
use Rattle.object_arena.specs.Graph.{Graph, object_at}
use Rattle.object_arena.specs.Identity.{find_identity}
use Rattle.relations.specs.Mirror.{is_of}
use Rattle.load_selects.specs.Selects.{key_select}
use Rattle.load_rows.specs.Loading.{Loading, take_row}
use Rattle.load_rows.specs.Links.{end_filled}
use Rattle.load_calls.specs.Reading.{World, read}
use Rattle.load_calls.specs.Refreshing.{refresh}
use Rattle.load_calls.specs.Collections.{load_collection}
use Rattle.load_targets.specs.ForeignKeys.{foreign_key, is_key_expired}

-- ---- one object by its key

-- the object of the first row, if there is one
unfoldable pub take_first : Mapped → ClassId → List (List Value) → Loading → Run Loading (Option ObjId)
take_first mapped class [] = give None
take_first mapped class (row ∷ rows) = take_row mapped class row >>= λ object. give (Some object)

-- the object of the row of a class under a key, if there is such a row
unfoldable pub load_key : Mapped → ClassId → List Value → World → Run World (Option ObjId)
load_key mapped class key = read mapped.schema (key_select mapped class key) >>= λ rows. on_own (take_first mapped class rows)

-- the object, where it is of a class at or under the class
abbrev pub if_of : Graph → Mapped → ClassId → ObjId → Option ObjId
if_of graph mapped class object = if is_of graph mapped class object then Some object else None

abbrev pub found_or_load : Mapped → ClassId → List Value → Graph → Option ObjId → World → Run World (Option ObjId)
found_or_load mapped class key graph (Some object) = give (if_of graph mapped class object)
found_or_load mapped class key graph None = load_key mapped class key

-- The object of a class under a key. One that the identity map has is taken, or none where it is of another class; a key that it
-- lacks is read, and one with a NULL is that of none.
unfoldable pub find_or_load : Mapped → ClassId → List Value → World → Run World (Option ObjId)
find_or_load mapped class key =
    if has_null key then give None else by_own (λ own. found_or_load mapped class key own.graph (find_identity own.graph (root_of mapped class) key))

-- ---- a link

abbrev pub refresh_if : Bool → Mapped → ObjId → World → Run World (Unit {0})
refresh_if true mapped object = refresh mapped object
refresh_if false mapped object = give tt

-- the expired cells of an object are read where one of the foreign key is among them
unfoldable pub refresh_key : Mapped → Relation → ObjId → World → Run World (Unit {0})
refresh_key mapped relation object = by_own (λ own. refresh_if (is_key_expired mapped relation (object_at own.graph object)) mapped object)

-- the object to which the cells of the foreign key lead
unfoldable pub read_target : Mapped → Relation → ObjId → World → Run World (Option ObjId)
read_target mapped relation object = by_own (λ own. find_or_load mapped relation.target (foreign_key mapped relation (object_at own.graph object)))

abbrev pub load_end : Mapped → Relation → ObjId → RelNo → Unit {0} → World → Run World (Unit {0})
load_end mapped relation object place u = read_target mapped relation object >>= λ end. changes (end_filled object place end)

-- the link of an object at a place leads to the object of the cells of its foreign key
unfoldable pub load_target : Mapped → Relation → ObjId → RelNo → World → Run World (Unit {0})
load_target mapped relation object place = refresh_key mapped relation object >>= load_end mapped relation object place

-- ---- any link

abbrev pub load_by : Mapped → Relation → ObjId → RelNo → World → Run World (Unit {0})
load_by mapped relation object place = if relation.many then load_collection mapped relation object place else load_target mapped relation object place

-- the link of an object at a place is loaded
unfoldable pub load_lazy : Mapped → ObjId → RelNo → World → Run World (Unit {0})
load_lazy mapped object place = by_own (λ own. load_by mapped (relation_of mapped (object_at own.graph object).class place) object place)
