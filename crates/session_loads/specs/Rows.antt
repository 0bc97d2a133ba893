-- The reading of an object's whole row, as loads of a session's objects.
use Rattle.std.specs.Prelude.{◌≡◌, ℕ, ◌<◌, List, [], ◌∷◌, length, map}
use Rattle.std.specs.List.{AllByRecursion, range_with_len}
use Rattle.base_core.specs.declared.ids.AttrNo.{AttrNo}
use Rattle.base_core.specs.declared.ids.ClassId.{ClassId}
use Rattle.base_core.specs.declared.ids.ObjId.{ObjId}
use Rattle.base_core.specs.declared.value.Value.{Value}
use Rattle.base_core.specs.declared.refusal.Refusal.{Refusal}
use Rattle.base_core.specs.declared.refusal.Refusal.TheVariants.{ObjectDeletedError}
use Rattle.class_mapping.specs.Mapped.{Mapped, attributes_of}
use Rattle.keeper_core.specs.Programs.{Run, ◌>>=◌, give, refuse}
use Rattle.keeper_core.specs.Beside.{by_own, on_own}
use Rattle.keeper_core.specs.Moment.{IsCalm, counters}
use Rattle.object_arena.specs.Graph.{Graph, object_at}
use Rattle.collection_selects.specs.Rows.{AreCellsOf}
use Rattle.load_calls.specs.Reading.{World}
use Rattle.load_calls.specs.Refreshing.{Scene, read_cells, take_cells, with_cells_select}

-- the attribute of a number
abbrev pub attr_at : ℕ → AttrNo
attr_at place = record { 0 = place }

-- all attributes of a class
abbrev pub all_attrs : Mapped → ClassId → List AttrNo
all_attrs mapped class = map attr_at (range_with_len 0 (length (attributes_of mapped class)))

-- all attributes of an object
abbrev pub attrs_of : Mapped → Graph → ObjId → List AttrNo
attrs_of mapped graph object = all_attrs mapped (object_at graph object).class

-- what was read of an object; without a row it was deleted
abbrev pub if_there : ObjId → List (List Value) → World → Run World (List (List Value))
if_there object [] = refuse (ObjectDeletedError object)
if_there object (row ∷ rows) = give (row ∷ rows)

-- the row of an object, with all its cells
unfoldable pub read_row : Mapped → ObjId → World → Run World (List (List Value))
read_row mapped object = by_own (λ own. read_cells mapped object (attrs_of mapped own.graph object)) >>= λ rows. if_there object rows

-- the expired cells of an object hold what was read of all its cells
unfoldable pub fill_row : Mapped → ObjId → List (List Value) → World → Run World (Unit {0})
fill_row mapped object rows = by_own (λ own. on_own (take_cells object (attrs_of mapped own.graph object) rows))

-- there are rows, of all cells of the object
pub record AreRowsOf (mapped : Mapped) (graph : Graph) (object : ObjId) (rows : List (List Value)) : Type 0 where
  pub some : 0 < length rows
  pub cells : AllByRecursion (AreCellsOf mapped (object_at graph object).class (attrs_of mapped graph object)) rows

-- ---- what shows a refusal, whatever is told

-- the select of all cells of an object was sent, noted, and not refused, and no object changed
pub record IsWithoutWhole (mapped : Mapped) (object : ObjId) (old new : Scene) : Type 0 where
  pub noted : new.0 ≡ with_cells_select mapped object (attrs_of mapped old.0.graph object) old.0
  pub answered : IsCalm (counters old.1) (counters new.1)

-- an object is answered as deleted only where its row was asked for and not given
abbrev pub IsShownGone : Mapped → ObjId → Scene → Scene → Refusal → Type 0
IsShownGone mapped object old new (ObjectDeletedError deleted) = IsWithoutWhole mapped object old new
IsShownGone mapped object old new e = Unit {0}
