use Rattle.std.proofs.Common.{◌≡◌, ◌-◌, length, drop}
use Rattle.std.specs.BTreeMap.{get}
use Rattle.std.specs.List.{position_from}
use Rattle.base_core.specs.declared.ids.ObjId.{ObjId}
use Rattle.base_core.specs.declared.ids.TableId.{TableId}
use Rattle.object_rows.specs.Places.{is_row_of, name_cmp}
use Rattle.object_rows.proofs.places.places_of.Given as goal

abbrev pub invariant-loop-behind : goal.invariant-loop-behind
invariant-loop-behind l =
    (table : TableId) (object : ObjId) → get name_cmp l.places (table, object) ≡ position_from (is_row_of table object) (length l.names - l.behind) (drop (length l.names - l.behind) l.names)
