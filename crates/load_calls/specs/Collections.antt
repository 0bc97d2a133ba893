-- The reading of a collection, as a program.
use Rattle.std.specs.Prelude.{List, [], ◌∷◌, ◌++◌}
use Rattle.base_core.specs.declared.ids.ClassId.{ClassId}
use Rattle.base_core.specs.declared.ids.ObjId.{ObjId}
use Rattle.base_core.specs.declared.ids.RelNo.{RelNo}
use Rattle.base_core.specs.declared.value.Value.{Value}
use Rattle.class_types.specs.declared.mapped.Relation.{Relation}
use Rattle.class_mapping.specs.Mapped.{Mapped}
use Rattle.keeper_core.specs.Programs.{Run, ◌>>=◌, each, give}
use Rattle.keeper_core.specs.Beside.{by_own, changes, on_own}
use Rattle.collection_selects.specs.Collections.{members_select}
use Rattle.load_rows.specs.Loading.{Loading, take_row}
use Rattle.load_rows.specs.Reading.{identity_key}
use Rattle.load_calls.specs.Reading.{World, read}
use Rattle.load_rows.specs.Links.{collection_filled}

-- ---- the objects of rows

-- the object of a row goes behind those of the rows before
abbrev pub take_next : Mapped → ClassId → List Value → List ObjId → Loading → Run Loading (List ObjId)
take_next mapped class values objects = take_row mapped class values >>= λ object. give (objects ++ object ∷ [])

-- the objects of rows, in order
unfoldable pub take_rows : Mapped → ClassId → List (List Value) → Loading → Run Loading (List ObjId)
take_rows mapped class rows = each (take_next mapped class) [] rows

-- ---- a collection

-- the rows of the members of an owner
unfoldable pub read_members : Mapped → Relation → ObjId → World → Run World (List (List Value))
read_members mapped relation owner = by_own (λ own. read mapped.schema (members_select mapped relation (identity_key own.graph owner)))

abbrev pub take_members : Mapped → Relation → ObjId → RelNo → List (List Value) → World → Run World (Unit {0})
take_members mapped relation owner place rows = on_own (take_rows mapped relation.target rows) >>= λ members. changes (collection_filled owner place members)

-- the collection of an owner at a place is read by one select, and holds the objects of the rows
unfoldable pub load_collection : Mapped → Relation → ObjId → RelNo → World → Run World (Unit {0})
load_collection mapped relation owner place = read_members mapped relation owner >>= λ rows. take_members mapped relation owner place rows
