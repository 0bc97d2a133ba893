-- What the changed links of an object give the columns of its foreign keys.
use Rattle.std.specs.Prelude.{ℕ, Bool, not, ◌&&◌, ◌==◌, List, [], ◌∷◌, map, slice_get, slice_index_or, Option, None, Some, if◌then◌else◌}
use Rattle.std.specs.List.{enumerate_from, position}
use Rattle.base_core.specs.declared.ids.ObjId.{ObjId}
use Rattle.base_core.specs.declared.ids.TableId.{TableId}
use Rattle.base_core.specs.declared.refusal.RowName.{RowName}
use Rattle.base_core.specs.declared.value.Value.{Value}
use Rattle.base_core.specs.declared.value.Value.TheVariants.{Null}
use Rattle.schema_core.specs.declared.changes.RowCell.{RowCell}
use Rattle.schema_core.specs.declared.changes.RowCell.TheVariants.{Given, KeyOf}
use Rattle.schema_core.specs.declared.table.ForeignSpec.{ForeignSpec}
use Rattle.schema_core.specs.Catalog.{Catalog, same_name, target_of}
use Rattle.class_types.specs.declared.mapped.Relation.{Relation}
use Rattle.class_layouts.specs.Faults.{foreigns_in}
use Rattle.class_mapping.specs.Mapped.{Mapped, relations_of}
use Rattle.object_arena.specs.Graph.{Graph, object_at}
use Rattle.object_rows.specs.declared.prepared.Prepared.{Prepared}
use Rattle.object_rows.specs.Places.{is_row_of}
use Rattle.object_rows.specs.Seen.{end_put, is_kept_end}

-- the place of an object's row in a table among the new rows
abbrev pub place_among : List RowName → Option TableId → ObjId → Option ℕ
place_among rows None object = None
place_among rows (Some table) object = position (is_row_of table object) rows

-- a part of a key that an object has, or NULL
abbrev pub key_value : Option (List Value) → ℕ → Value
key_value None part = Null
key_value (Some key) part = slice_index_or key part Null

-- a part of an object's key: that of a new row, or of its identity
abbrev pub key_cell : Option ℕ → Option (List Value) → ℕ → RowCell
key_cell (Some place) identity part = KeyOf place part
key_cell None identity part = Given (key_value identity part)

-- what a link gives a column of its foreign key, which refers to this part of the key of a table
abbrev pub end_cell : Graph → List RowName → Option TableId → ℕ → Option ObjId → RowCell
end_cell graph rows table part None = Given Null
end_cell graph rows table part (Some end) = key_cell (place_among rows table end) (object_at graph end).identity part

abbrev pub part_cell : Catalog → Graph → List RowName → ForeignSpec → Option ObjId → Option ℕ → Option RowCell
part_cell schema graph rows foreign end None = None
part_cell schema graph rows foreign end (Some part) = Some (end_cell graph rows (target_of schema foreign) part end)

-- what a link to this end gives the column of a name, where the column is one of the foreign key
abbrev pub foreign_cell : Catalog → Graph → List RowName → List ℕ → Option ObjId → Option ForeignSpec → Option RowCell
foreign_cell schema graph rows name end None = None
foreign_cell schema graph rows name end (Some foreign) = part_cell schema graph rows foreign end (position (λ own. same_name own name) foreign.columns)

-- an end outside the session gives nothing
abbrev pub put_cell : Catalog → Graph → Prepared → List RowName → List ℕ → Option ForeignSpec → Option (Option ObjId) → Option RowCell
put_cell schema graph prepared rows name foreign None = None
put_cell schema graph prepared rows name foreign (Some end) =
    if is_kept_end graph prepared end then foreign_cell schema graph rows name end foreign else None

-- the relationship is a many-to-one one by a foreign key of the table
abbrev pub is_by : TableId → Relation → Bool
is_by table relation = not relation.many && relation.foreign.0.0 == table.0

-- what a changed link of an object, of this number, gives the column of a name in a table
abbrev pub relation_cell : Mapped → Graph → Prepared → List RowName → ObjId → TableId → List ℕ → ℕ × Relation → Option RowCell
relation_cell mapped graph prepared rows object table name placed =
    if is_by table placed.1
    then put_cell mapped.schema graph prepared rows name (slice_get (foreigns_in mapped.schema.tables table) placed.1.foreign.1)
    (end_put graph prepared object (record { 0 = placed.0 }))
    else None

abbrev pub or_first : Option RowCell → Option RowCell → Option RowCell
or_first (Some cell) later = Some cell
or_first None later = later

abbrev pub first_cell : List (Option RowCell) → Option RowCell
first_cell [] = None
first_cell (cell ∷ cells) = or_first cell (first_cell cells)

-- what the changed links of an object give the column of a name in a table
abbrev pub linked_cell : Mapped → Graph → Prepared → List RowName → ObjId → TableId → List ℕ → Option RowCell
linked_cell mapped graph prepared rows object table name =
    first_cell (map (relation_cell mapped graph prepared rows object table name) (enumerate_from 0 (relations_of mapped (object_at graph object).class)))
