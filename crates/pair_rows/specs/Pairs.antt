-- The rows of secondary tables that are made and taken away: pairs of objects, as a set.
use Rattle.std.specs.Prelude.{◌≡◌, ℕ, Bool, true, false, not, ◌&&◌, ◌||◌, ◌==◌, List, [], ◌∷◌, ◌++◌, map, fold, slice_get, unwrap_or, Option, Some, is_some, if◌then◌else◌}
use Rattle.std.specs.List.{enumerate_from, filter, flat_map, list_any}
use Rattle.std.specs.BTreeSet.{BTreeSet, contains, insert_key}
use Rattle.std.specs.declared.cmp.Ordering.{Ordering}
use Rattle.std.specs.Ordering.{nat_cmp, ordering_then}
use Rattle.base_core.specs.declared.ids.ObjId.{ObjId}
use Rattle.base_core.specs.declared.ids.TableId.{TableId}
use Rattle.base_core.specs.declared.refusal.RowName.{RowName}
use Rattle.base_core.specs.declared.value.Value.TheVariants.{Null}
use Rattle.schema_core.specs.declared.changes.GoneRow.{GoneRow}
use Rattle.schema_core.specs.declared.changes.NewRow.{NewRow}
use Rattle.schema_core.specs.declared.changes.RowCell.{RowCell}
use Rattle.schema_core.specs.declared.changes.RowCell.TheVariants.{Given}
use Rattle.schema_core.specs.declared.table.ColumnSpec.{ColumnSpec}
use Rattle.schema_core.specs.Catalog.{Catalog}
use Rattle.schema_core.specs.Tables.{given_value}
use Rattle.class_types.specs.declared.mapped.Relation.{Relation}
use Rattle.class_layouts.specs.Faults.{foreigns_in}
use Rattle.class_mapping.specs.Mapped.{Mapped, relations_of}
use Rattle.object_arena.specs.declared.object.Link.{Link}
use Rattle.object_arena.specs.declared.object.Link.TheVariants.{Unset, Unloaded, One, Many}
use Rattle.object_arena.specs.Graph.{Graph, is_among, object_at}
use Rattle.flush_order.specs.Orders.{place_of_gone}
use Rattle.flush_order.specs.Sorted.{Place, place_cmp, same_place}
use Rattle.object_rows.specs.declared.prepared.Prepared.{Prepared}
use Rattle.object_rows.specs.Seen.{is_in_session, link_of, object_ids}
use Rattle.object_rows.specs.Cells.{foreign_cell, or_first}
use Rattle.object_rows.specs.Rows.{columns_at, new_names, row_name}

-- ---- what collections hold

-- those of a list that are not in another
abbrev pub without : List ObjId → List ObjId → List ObjId
without others objects = filter (λ object. not (is_among others object)) objects

-- the members that a collection was given
abbrev pub members_added : Link → List ObjId
members_added Unset = []
members_added (Unloaded added removed) = added
members_added (One end changed) = []
members_added (Many members base) = without base members

-- the members that it lost
abbrev pub members_removed : Link → List ObjId
members_removed Unset = []
members_removed (Unloaded added removed) = removed
members_removed (One end changed) = []
members_removed (Many members base) = without members base

-- the members that it had when it was last read or written
abbrev pub members_before : Link → List ObjId
members_before Unset = []
members_before (Unloaded added removed) = []
members_before (One end changed) = []
members_before (Many members base) = base

-- ---- pairs

-- a secondary table, the object of its first foreign key and that of its second
abbrev pub Pair : Type 0
Pair = TableId × (ObjId × ObjId)

abbrev pub pair_cmp : Pair → Pair → Ordering
pair_cmp one other = ordering_then (nat_cmp one.0.0 other.0.0) (ordering_then (nat_cmp one.1.0.0 other.1.0.0) (nat_cmp one.1.1.0 other.1.1.0))

abbrev pub ordered_pair : Bool → ObjId → ObjId → ObjId × ObjId
ordered_pair true object member = (object, member)
ordered_pair false object member = (member, object)

-- an object and a member of its collection
abbrev pub pair_of : Relation → ObjId → ObjId → Pair
pair_of relation object member = (relation.foreign.0, ordered_pair (relation.foreign.1 == 0) object member)

-- pairs as a set, ascending
abbrev pub as_set : List Pair → List Pair
as_set pairs = fold (insert_key pair_cmp) [] pairs

abbrev pub is_leaving : Prepared → ObjId → Bool
is_leaving prepared object = is_among prepared.deleted object

abbrev pub has_key : Graph → ObjId → Bool
has_key graph object = is_some (object_at graph object).identity

-- a pair that was added is made where both objects are in the session and neither is to be deleted
abbrev pub is_made : Graph → Prepared → ObjId → ObjId → Bool
is_made graph prepared object member = is_in_session graph prepared member && not (is_leaving prepared object || is_leaving prepared member)

-- a pair that was removed is taken away where both objects are in the session and have rows
abbrev pub is_parted : Graph → Prepared → ObjId → Bool
is_parted graph prepared member = is_in_session graph prepared member && has_key graph member

-- a pair that stood is taken away where one of both is to be deleted
abbrev pub is_lost : Graph → Prepared → ObjId → ObjId → Bool
is_lost graph prepared object member = (is_leaving prepared object || is_leaving prepared member) && has_key graph member

abbrev pub made_from : Graph → Prepared → ObjId → Relation → Link → List Pair
made_from graph prepared object relation link = map (pair_of relation object) (filter (is_made graph prepared object) (members_added link))

-- the pairs that are made of an object's collection, of this number
abbrev pub made_by : Graph → Prepared → ObjId → ℕ × Relation → List Pair
made_by graph prepared object placed =
    if is_some placed.1.far then made_from graph prepared object placed.1 (link_of (object_at graph object) (record { 0 = placed.0 })) else []

abbrev pub lost_from : Graph → Prepared → ObjId → Relation → Link → List Pair
lost_from graph prepared object relation link =
    map (pair_of relation object) (filter (is_lost graph prepared object) (members_before link))
    ++ map (pair_of relation object) (filter (is_parted graph prepared) (members_removed link))

-- the pairs that are taken away of it
abbrev pub lost_by : Graph → Prepared → ObjId → ℕ × Relation → List Pair
lost_by graph prepared object placed =
    if is_some placed.1.far then lost_from graph prepared object placed.1 (link_of (object_at graph object) (record { 0 = placed.0 })) else []

abbrev pub relations_at : Mapped → Graph → ObjId → List (ℕ × Relation)
relations_at mapped graph object = enumerate_from 0 (relations_of mapped (object_at graph object).class)

abbrev pub made_of : Mapped → Graph → Prepared → ObjId → List Pair
made_of mapped graph prepared object =
    if is_in_session graph prepared object then flat_map (made_by graph prepared object) (relations_at mapped graph object) else []

abbrev pub lost_of : Mapped → Graph → Prepared → ObjId → List Pair
lost_of mapped graph prepared object =
    if is_parted graph prepared object then flat_map (lost_by graph prepared object) (relations_at mapped graph object) else []

-- the pairs that are made, by table and objects
unfoldable pub made_pairs : Mapped → Graph → Prepared → List Pair
made_pairs mapped graph prepared = as_set (flat_map (made_of mapped graph prepared) (object_ids graph))

-- the pairs that are taken away
unfoldable pub lost_pairs : Mapped → Graph → Prepared → List Pair
lost_pairs mapped graph prepared = as_set (flat_map (lost_of mapped graph prepared) (object_ids graph))

-- ---- their rows

-- what a column of a pair's row is given by one of both objects
abbrev pub end_of_pair : Mapped → Graph → List RowName → Pair → List ℕ → Option RowCell
end_of_pair mapped graph rows pair name =
    or_first (foreign_cell mapped.schema graph rows name (Some pair.1.0) (slice_get (foreigns_in mapped.schema.tables pair.0) 0))
    (foreign_cell mapped.schema graph rows name (Some pair.1.1) (slice_get (foreigns_in mapped.schema.tables pair.0) 1))

-- what a column of a pair's row holds: a part of the key of one of both
abbrev pub pair_cell : Mapped → Graph → List RowName → Pair → ColumnSpec → RowCell
pair_cell mapped graph rows pair column = unwrap_or (end_of_pair mapped graph rows pair column.name) (Given Null)

-- the row has the object of the first foreign key
abbrev pub pair_name : Pair → RowName
pair_name pair = row_name pair.1.0 pair.0

abbrev pub made_row : Mapped → Graph → List RowName → Pair → NewRow
made_row mapped graph rows pair = record { name = pair_name pair; cells = map (pair_cell mapped graph rows pair) (columns_at mapped pair.0) }

abbrev pub lost_row : Mapped → Graph → Pair → GoneRow
lost_row mapped graph pair = record { name = pair_name pair; base = map (λ column. given_value (pair_cell mapped graph [] pair column)) (columns_at mapped pair.0) }

-- a row for each pair that is made
unfoldable pub made_rows : Mapped → Graph → Prepared → List NewRow
made_rows mapped graph prepared = map (made_row mapped graph (new_names mapped graph prepared)) (made_pairs mapped graph prepared)

-- ---- one row for the pairs of one key

-- one of the rows has the table and key
abbrev pub has_row : Catalog → List GoneRow → Place → Bool
has_row schema rows place = list_any (λ (other : GoneRow). same_place (place_of_gone schema other) place) rows

-- rows with one more, unless one of them has its table and key
abbrev pub with_first : Catalog → List GoneRow → GoneRow → List GoneRow
with_first schema rows row = if has_row schema rows (place_of_gone schema row) then rows else (rows ++ row ∷ [])

-- the rows have different tables or keys
abbrev pub differ : Catalog → GoneRow → GoneRow → Bool
differ schema row other = not (same_place (place_of_gone schema row) (place_of_gone schema other))

-- of the rows of one table and key the first
abbrev pub first_rows : Catalog → List GoneRow → List GoneRow
first_rows schema [] = []
first_rows schema (row ∷ rows) = row ∷ filter (differ schema row) (first_rows schema rows)

-- a set has the tables and keys of these rows
pub record HasPlaces (schema : Catalog) (places : BTreeSet Place) (rows : List GoneRow) : Type 0 where
  pub same : (place : Place) → contains place_cmp places place ≡ has_row schema rows place

-- a row for each row that the pairs that are taken away are: two of them may be one
unfoldable pub lost_rows : Mapped → Graph → Prepared → List GoneRow
lost_rows mapped graph prepared = first_rows mapped.schema (map (lost_row mapped graph) (lost_pairs mapped graph prepared))
