-- What a row of a query's main select has of the query's class and of each joined option.
use Rattle.std.specs.Prelude.{ℕ, ◌+◌, List, [], ◌∷◌, drop, length, take}
use Rattle.base_core.specs.declared.ids.ClassId.{ClassId}
use Rattle.base_core.specs.declared.ids.RelNo.{RelNo}
use Rattle.base_core.specs.declared.value.Value.{Value}
use Rattle.class_types.specs.declared.mapped.Relation.{Relation}
use Rattle.class_mapping.specs.Mapped.{Mapped, attributes_of}
use Rattle.object_arena.specs.Fit.{relation_of}
use Rattle.load_columns.specs.Placing.{from_root}
use Rattle.main_selects.specs.MainSelect.{option_columns}
use Rattle.joined_rows.specs.declared.parts.Part.{Part}

-- ---- where they stand

-- how many attributes a class has
abbrev pub width_of : Mapped → ClassId → ℕ
width_of mapped class = length (attributes_of mapped class)

-- how many columns an option reads of its target, wherever its tables stand
abbrev pub option_width : Mapped → ClassId → ℕ
option_width mapped class = length (option_columns mapped class (from_root 0))

-- the part of an option that begins at a place of the row
abbrev pub part_from : Mapped → RelNo → Relation → ℕ → Part
part_from mapped place relation first = record {
  place = place;
  target = relation.target;
  first = first;
  keys = first + width_of mapped relation.target;
  end = first + option_width mapped relation.target;
}

abbrev pub part_at : Mapped → ClassId → RelNo → ℕ → Part
part_at mapped class place first = part_from mapped place (relation_of mapped class place) first

-- the parts of options, one behind the other
abbrev pub parts_from : Mapped → ClassId → ℕ → List RelNo → List Part
parts_from mapped class first [] = []
parts_from mapped class first (place ∷ places) = part_at mapped class place first ∷ parts_from mapped class (part_at mapped class place first).end places

-- the parts of the options of a query, behind the attributes of its class
unfoldable pub parts_of : Mapped → ClassId → List RelNo → List Part
parts_of mapped class places = parts_from mapped class (width_of mapped class) places

-- ---- what stands there

-- what a row has of its class
abbrev pub own_values : Mapped → ClassId → List Value → List Value
own_values mapped class row = take (width_of mapped class) row

-- what a row has from a part on
abbrev pub values_from : Part → List Value → List Value
values_from part row = drop part.first row
