-- The declared relationships: where each leads, and which keys can serve it.
use Rattle.std.specs.Prelude.{ℕ, Bool, true, false, not, ◌&&◌, ◌||◌, List, [], ◌∷◌, map, find, slice_get, ◌==◌, Option, None, Some, if◌then◌else◌}
use Rattle.std.specs.Option.{option_map}
use Rattle.std.specs.List.{enumerate_from, filter, flat_map, list_all, list_any}
use Rattle.base_core.specs.declared.ids.ClassId.{ClassId}
use Rattle.base_core.specs.declared.ids.TableId.{TableId}
use Rattle.schema_core.specs.declared.table.ColumnSpec.{ColumnSpec}
use Rattle.schema_core.specs.declared.table.ForeignSpec.{ForeignSpec}
use Rattle.schema_core.specs.declared.table.TableSpec.{TableSpec}
use Rattle.schema_core.specs.Catalog.{has_name, same_name}
use Rattle.class_types.specs.declared.declared.ClassSpec.{ClassSpec}
use Rattle.class_types.specs.declared.declared.RelationSpec.{RelationSpec}
use Rattle.class_types.specs.declared.mapped.Attribute.{Attribute}
use Rattle.class_layouts.specs.declared.classes.Classes.{Classes}
use Rattle.class_layouts.specs.declared.layout.Layout.{Layout}
use Rattle.class_layouts.specs.Hierarchy.{place_of}
use Rattle.class_layouts.specs.Columns.{columns_in, named_table}
use Rattle.class_layouts.specs.Faults.{foreigns_in, maps_name}
use Rattle.class_blocks.specs.declared.side.Side.{Side}
use Rattle.class_sides.specs.Keys.{TableKey, allows, is_inherited, refers_into}

-- the class to which a relationship leads
abbrev pub target_of : List ClassSpec → RelationSpec → Option ClassId
target_of specs relation = option_map (λ place. record { 0 = place }) (place_of specs relation.target)

-- what a class has
abbrev pub layout_at : List Layout → Option ClassId → Option Layout
layout_at layouts None = None
layout_at layouts (Some class) = slice_get layouts class.0

-- ---- without a secondary table

-- the column of a table is an attribute
abbrev pub has_attribute : List Attribute → TableId → List ℕ → Bool
has_attribute attributes table name = list_any (λ attribute. (attribute.table.0 == table.0) && same_name attribute.name name) attributes

-- a foreign key of a table of the many side refers to one of the other side's tables, is no key of inheritance, its columns are attributes there, and it is the one that is named, where one is
abbrev pub serves : List TableSpec → Layout → List TableId → List (List ℕ) → ℕ → TableId → ForeignSpec → Bool
serves tables child owners using rank table foreign =
    refers_into tables foreign owners
    && not (is_inherited tables child.tables rank table foreign)
    && list_all (has_attribute child.attributes table) foreign.columns
    && allows using foreign.columns

abbrev pub key_at : TableId → ℕ × ForeignSpec → TableKey
key_at table placed = (table, placed.0)

-- the keys of a table of the many side that can serve
abbrev pub table_candidates : List TableSpec → Layout → List TableId → List (List ℕ) → ℕ × TableId → List TableKey
table_candidates tables child owners using ranked =
    map (key_at ranked.1) (filter (λ placed. serves tables child owners using ranked.0 ranked.1 placed.1) (enumerate_from 0 (foreigns_in tables ranked.1)))

-- the keys of the many side that can serve
abbrev pub candidates : List TableSpec → List (List ℕ) → Option Layout → Option Layout → List TableKey
candidates tables using None owner = []
candidates tables using (Some child) None = []
candidates tables using (Some child) (Some owner) = flat_map (table_candidates tables child owner.tables using) (enumerate_from 0 child.tables)

-- those of a relationship from a class to its target
abbrev pub candidates_of : List TableSpec → RelationSpec → Option Layout → Option Layout → List TableKey
candidates_of tables relation own target = if relation.many then candidates tables relation.using target own else candidates tables relation.using own target

-- ---- with a secondary table

-- each column of the table is of its key and of one of its foreign keys
abbrev pub is_all_keys : List ColumnSpec → List ForeignSpec → Bool
is_all_keys columns foreigns = list_all (λ column. column.key && list_any (λ foreign. has_name foreign.columns column.name) foreigns) columns

-- a secondary table's key to the near side, and its key to the far side
abbrev pub Ends : Type 0
Ends = TableKey × TableKey

-- which of the two foreign keys refers to which side; the first to the near one, where both ways fit
abbrev pub ends_by : List TableSpec → TableId → ForeignSpec → ForeignSpec → List TableId → List TableId → Option Ends
ends_by tables table first second near far =
    if refers_into tables first near && refers_into tables second far then Some ((table, 0), (table, 1))
    else if refers_into tables second near && refers_into tables first far then Some ((table, 1), (table, 0))
    else None

-- two foreign keys to two tables, which are all columns of the table and its whole key
abbrev pub ends_among : List TableSpec → TableId → List ForeignSpec → List TableId → List TableId → Option Ends
ends_among tables table (first ∷ second ∷ []) near far =
    if is_all_keys (columns_in tables table) (first ∷ second ∷ []) && not (same_name first.target second.target)
    then ends_by tables table first second near far else None
ends_among tables table foreigns near far = None

abbrev pub ends_in : List TableSpec → Option TableId → Option Layout → Option Layout → Option Ends
ends_in tables (Some table) (Some near) (Some far) = ends_among tables table (foreigns_in tables table) near.tables far.tables
ends_in tables table near far = None

-- the two keys of the secondary table that is named, which no class maps
abbrev pub ends_of : List TableSpec → List ClassSpec → Option (List ℕ) → Option Layout → Option Layout → Option Ends
ends_of tables specs secondary near far =
    if maps_name specs secondary then None else ends_in tables (named_table tables secondary) near far

-- ---- all declared relationships

-- a relationship of the block of the class of a number
abbrev pub side_of : List TableSpec → Classes → List Layout → ℕ → RelationSpec → Side
side_of tables classes layouts class relation =
    let own = layout_at layouts (Some (record { 0 = class })) in
    let target = target_of classes.specs relation in
    record {
      class = record { 0 = class };
      spec = relation;
      target = target;
      candidates = candidates_of tables relation own (layout_at layouts target);
      ends = ends_of tables classes.specs relation.secondary own (layout_at layouts target);
    }

abbrev pub sides_at : List TableSpec → Classes → List Layout → ℕ × ClassSpec → List Side
sides_at tables classes layouts placed = map (side_of tables classes layouts placed.0) placed.1.relations

-- all declared relationships, in order of declaration
abbrev pub sides_of : List TableSpec → Classes → List Layout → List Side
sides_of tables classes layouts = flat_map (sides_at tables classes layouts) (enumerate_from 0 classes.specs)
