-- The declared relationships: which of them name each other, and the names that they give to classes.
use Rattle.std.specs.Prelude.{ℕ, Bool, false, not, ◌&&◌, List, ◌++◌, map, ◌==◌, Option, None, Some}
use Rattle.std.specs.List.{filter, flat_map}
use Rattle.base_core.specs.declared.ids.ClassId.{ClassId}
use Rattle.schema_core.specs.Catalog.{same_name}
use Rattle.class_blocks.specs.declared.side.Side.{Side}
use Rattle.class_blocks.specs.Lines.{has_class, line_in}

abbrev pub is_class : Option ClassId → ClassId → Bool
is_class None class = false
is_class (Some found) class = found.0 == class.0

-- the class stands in the line of the target
abbrev pub is_of_target : List (List ClassId) → Option ClassId → ClassId → Bool
is_of_target lines None class = false
is_of_target lines (Some target) class = has_class (line_in lines target.0) class.0

-- the partner that the one names is the other
abbrev pub leads_to : List (List ClassId) → Side → Side → Bool
leads_to lines one other = is_of_target lines one.target other.class && same_name other.spec.name one.spec.partner

abbrev pub names_each_other : List (List ClassId) → Side → Side → Bool
names_each_other lines one other =
    not one.spec.backref && not other.spec.backref && leads_to lines one other && leads_to lines other one

-- ---- the names of a class's relationships, which tell a partner's place

-- the relationships of a class's own block
abbrev pub is_own : ClassId → Side → Bool
is_own class side = side.class.0 == class.0

-- the declarations that make a backref at a class
abbrev pub makes_back : ClassId → Side → Bool
makes_back class side = side.spec.backref && is_class side.target class

abbrev pub names_at : List Side → ClassId → List (List ℕ)
names_at sides class = map (λ side. side.spec.name) (filter (is_own class) sides) ++ map (λ side. side.spec.partner) (filter (makes_back class) sides)

-- the names of the relationships of the class of a line: of each class its own, and then its backrefs
abbrev pub names_on : List Side → List ClassId → List (List ℕ)
names_on sides line = flat_map (names_at sides) line
