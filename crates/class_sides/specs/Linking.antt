-- The relationships of each class of a configured mapping.
use Rattle.std.specs.Prelude.{ℕ, Bool, true, false, not, ◌&&◌, ◌||◌, List, [], ◌++◌, map, find, slice_get, ◌==◌, Option, None, Some, if◌then◌else◌}
use Rattle.std.specs.List.{filter, flat_map, position}
use Rattle.base_core.specs.declared.ids.ClassId.{ClassId}
use Rattle.base_core.specs.declared.ids.RelNo.{RelNo}
use Rattle.base_core.specs.declared.ids.TableId.{TableId}
use Rattle.schema_core.specs.declared.table.TableSpec.{TableSpec}
use Rattle.schema_core.specs.Catalog.{same_name}
use Rattle.class_types.specs.declared.mapped.Relation.{Relation}
use Rattle.class_layouts.specs.declared.classes.Classes.{Classes}
use Rattle.class_layouts.specs.Columns.{layouts_of}
use Rattle.class_layouts.specs.Faults.{cascade_or_default, default_cascade}
use Rattle.class_blocks.specs.declared.side.Side.{Side}
pub use Rattle.class_blocks.specs.Sides.{is_own, makes_back, names_at, names_on}
use Rattle.class_sides.specs.Keys.{TableKey}
use Rattle.class_sides.specs.Sides.{Ends, sides_of}
use Rattle.class_sides.specs.Pairs.{is_class, is_partner, is_plain, join_of, same_side}

-- ---- the names of a class's relationships, which tell a partner's place

abbrev pub all_names : Classes → List Side → List (List (List ℕ))
all_names classes sides = map (names_on sides) classes.lines

abbrev pub place_or_none : Option ℕ → RelNo
place_or_none None = record { 0 = 0 }
place_or_none (Some place) = record { 0 = place }

abbrev pub place_among : Option (List (List ℕ)) → List ℕ → RelNo
place_among None name = record { 0 = 0 }
place_among (Some names) name = place_or_none (position (λ other. same_name other name) names)

-- the place of the relationship of a name in the list of a class
abbrev pub place_in : List (List (List ℕ)) → ClassId → List ℕ → RelNo
place_in names class name = place_among (slice_get names class.0) name

-- ---- the keys of a pair

abbrev pub no_key : TableKey
no_key = (record { 0 = 0 }, 0)

abbrev pub key_or_none : Option TableKey → TableKey
key_or_none None = no_key
key_or_none (Some key) = key

abbrev pub swapped_ends : Option Ends → Option Ends
swapped_ends None = None
swapped_ends (Some ends) = Some (ends.1, ends.0)

abbrev pub is_same_pair : Side → Side → Bool
is_same_pair side other = same_side side other || (not side.spec.backref && is_partner side other)

abbrev pub ends_from : Side → Option Side → Option Ends
ends_from side None = side.ends
ends_from side (Some first) = if same_side side first then first.ends else swapped_ends first.ends

-- the keys of the secondary table of a side, as the side of its pair that is declared first finds them
abbrev pub ends_on : List Side → Side → Option Ends
ends_on sides side = ends_from side (find (is_same_pair side) sides)

abbrev pub near_or : Option Ends → TableKey → TableKey
near_or None key = key
near_or (Some ends) key = ends.0

abbrev pub far_or : Option Ends → TableKey → TableKey
far_or None key = key
far_or (Some ends) key = ends.1

abbrev pub far_key : Option Ends → Option TableKey
far_key None = None
far_key (Some ends) = Some ends.1

abbrev pub near_key : Option Ends → Option TableKey
near_key None = None
near_key (Some ends) = Some ends.0

abbrev pub class_or : Option ClassId → ClassId → ClassId
class_or None class = class
class_or (Some target) class = target

-- ---- the relationships

-- a declared relationship
abbrev pub own_relation : List TableSpec → Classes → List Side → List (List (List ℕ)) → Side → Relation
own_relation tables classes sides names side =
    let target = class_or side.target side.class in
    let ends = ends_on sides side in
    record {
      name = side.spec.name;
      class = side.class;
      target = target;
      many = side.spec.many;
      foreign = near_or ends (key_or_none (join_of tables classes sides side));
      far = far_key ends;
      partner = place_in names target side.spec.partner;
      cascade = cascade_or_default side.spec.cascade;
      post_update = side.spec.post_update;
    }

-- the backref that a declaration makes: the opposite form, with the default cascade
abbrev pub back_relation : List TableSpec → Classes → List Side → List (List (List ℕ)) → Side → Relation
back_relation tables classes sides names side =
    let ends = ends_on sides side in
    record {
      name = side.spec.partner;
      class = class_or side.target side.class;
      target = side.class;
      many = not (is_plain side) || not side.spec.many;
      foreign = far_or ends (key_or_none (join_of tables classes sides side));
      far = near_key ends;
      partner = place_in names side.class side.spec.name;
      cascade = default_cascade;
      post_update = false;
    }

abbrev pub relations_at : List TableSpec → Classes → List Side → List (List (List ℕ)) → ClassId → List Relation
relations_at tables classes sides names class =
    map (own_relation tables classes sides names) (filter (is_own class) sides)
    ++ map (back_relation tables classes sides names) (filter (makes_back class) sides)

-- the relationships of the class of a line: of each class its own, and then its backrefs, in order of declaration
abbrev pub relations_on : List TableSpec → Classes → List Side → List (List (List ℕ)) → List ClassId → List Relation
relations_on tables classes sides names line = flat_map (relations_at tables classes sides names) line

-- the relationships of each class, where the declared relationships are known
abbrev pub relations_by : List TableSpec → Classes → List Side → List (List Relation)
relations_by tables classes sides = map (relations_on tables classes sides (all_names classes sides)) classes.lines

-- the relationships of each class
abbrev pub relations_of : List TableSpec → Classes → List (List Relation)
relations_of tables classes = relations_by tables classes (sides_of tables classes (layouts_of tables classes))
