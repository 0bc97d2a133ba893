-- The reading of an object's expired cells.
use Rattle.std.specs.Prelude.{◌≡◌, ℕ, Bool, ◌==◌, List, [], ◌∷◌, length, map, filter, slice_get, is_none, Option, Ok, Err}
use Rattle.std.specs.Option.{option_and_then}
use Rattle.std.specs.List.{enumerate_from, position, range_with_len}
use Rattle.base_core.specs.declared.ids.AttrNo.{AttrNo}
use Rattle.base_core.specs.declared.ids.ObjId.{ObjId}
use Rattle.base_core.specs.declared.value.Value.{Value}
use Rattle.base_core.specs.declared.refusal.Refusal.{Refusal}
use Rattle.base_core.specs.declared.refusal.Refusal.TheVariants.{KeeperFault, Memory, ObjectDeletedError, OperationalError}
use Rattle.schema_core.specs.Catalog.{IsTable}
use Rattle.class_mapping.specs.Mapped.{Mapped}
use Rattle.keeper_core.specs.declared.sent.Sent.TheVariants as sent
use Rattle.keeper_core.specs.Store.{Store}
use Rattle.keeper_core.specs.Programs.{Run, ◌>>=◌, give, quiet}
use Rattle.keeper_core.specs.Moment.{IsCalm, Moment, counters}
use Rattle.keeper_core.specs.Beside.{by_own, on_own}
use Rattle.object_arena.specs.declared.object.Cell.{Cell}
use Rattle.object_arena.specs.declared.object.Object.{Object}
use Rattle.object_arena.specs.Graph.{object_at}
use Rattle.load_selects.specs.Selects.{cells_select}
use Rattle.load_filling.specs.Filled.{Found}
use Rattle.load_rows.specs.Loading.{Loading, filled}
use Rattle.load_rows.specs.Reading.{identity_key}
use Rattle.load_calls.specs.Reading.{World, read, with_statement}

abbrev pub attr_of : ℕ × Cell → AttrNo
attr_of placed = record { 0 = placed.0 }

abbrev pub is_expired : ℕ × Cell → Bool
is_expired placed = is_none placed.1.value

-- the attributes whose cells are expired, in order
abbrev pub expired_attrs : Object → List AttrNo
expired_attrs object = map attr_of (filter is_expired (enumerate_from 0 object.cells))

-- the row of some cells of an object, of whatever class its row is
unfoldable pub read_cells : Mapped → ObjId → List AttrNo → World → Run World (List (List Value))
read_cells mapped object attrs = by_own (λ own. read mapped.schema (cells_select mapped (object_at own.graph object).class attrs (identity_key own.graph object)))

-- ---- what was read

-- what the values of some attributes have for the cell at a place
abbrev pub found_at : List AttrNo → List Value → ℕ → Option Value
found_at attrs values place = option_and_then (slice_get values) (position (λ attr. attr.0 == place) attrs)

-- and for so many cells, one by one
abbrev pub found_among : ℕ → List AttrNo → List Value → Found
found_among count attrs values = map (found_at attrs values) (range_with_len 0 count)

-- The expired cells hold what was read. An object without a row was deleted.
unfoldable pub take_cells : ObjId → List AttrNo → List (List Value) → Loading → Run Loading (Unit {0})
take_cells object attrs [] own = quiet (Err (ObjectDeletedError object)) own
take_cells object attrs (row ∷ rows) own = quiet (Ok tt) (filled object (found_among (length (object_at own.graph object).cells) attrs row) own)

abbrev pub refresh_cells : Mapped → ObjId → List AttrNo → World → Run World (Unit {0})
refresh_cells mapped object [] = give tt
refresh_cells mapped object (attr ∷ attrs) = read_cells mapped object (attr ∷ attrs) >>= λ rows. on_own (take_cells object (attr ∷ attrs) rows)

-- the expired cells of an object are read by one select, where it has any
unfoldable pub refresh : Mapped → ObjId → World → Run World (Unit {0})
refresh mapped object = by_own (λ own. refresh_cells mapped object (expired_attrs (object_at own.graph object)))

-- ---- why it is refused, whatever is told

-- the row of an object is not there, or memory ran out
abbrev pub IsDeletedOrMemory : ObjId → Refusal → Type 0
IsDeletedOrMemory object (ObjectDeletedError deleted) = deleted ≡ object
IsDeletedOrMemory object Memory = Unit {0}
IsDeletedOrMemory object e = ⊥

-- a table was not created, the store failed, or memory ran out
abbrev pub CanRefuseCells : Mapped → Refusal → Type 0
CanRefuseCells mapped (OperationalError table) = IsTable mapped.schema table
CanRefuseCells mapped KeeperFault = Unit {0}
CanRefuseCells mapped Memory = Unit {0}
CanRefuseCells mapped e = ⊥

-- and the row of the object is not there
abbrev pub CanRefuse : Mapped → ObjId → Refusal → Type 0
CanRefuse mapped object (ObjectDeletedError deleted) = deleted ≡ object
CanRefuse mapped object e = CanRefuseCells mapped e

-- ---- what shows it, whatever is told

-- the select of some cells of an object is noted, and nothing else has changed
abbrev pub with_cells_select : Mapped → ObjId → List AttrNo → Loading → Loading
with_cells_select mapped object attrs own =
    with_statement (sent.Query (cells_select mapped (object_at own.graph object).class attrs (identity_key own.graph object))) own

-- what stands beside the keeper, and what is seen of the keeper
abbrev pub Scene : Type 0
Scene = Loading × Moment Store

-- An object has expired cells; the select of them was sent, noted, and not refused, and no object changed: the rows that were given
-- for it have none of the object.
pub record IsWithoutRow (mapped : Mapped) (object : ObjId) (old new : Scene) : Type 0 where
  pub expired : expired_attrs (object_at old.0.graph object) ≡ [] → ⊥
  pub noted : new.0 ≡ with_cells_select mapped object (expired_attrs (object_at old.0.graph object)) old.0
  pub answered : IsCalm (counters old.1) (counters new.1)

-- an object is answered as deleted only where its row was asked for and not given
abbrev pub IsShownDeleted : Mapped → ObjId → Scene → Scene → Refusal → Type 0
IsShownDeleted mapped object old new (ObjectDeletedError deleted) = IsWithoutRow mapped object old new
IsShownDeleted mapped object old new e = Unit {0}
