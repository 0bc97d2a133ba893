-- A class with its descendants, and the condition by which the rows of a class without a table of its own are told.
use Rattle.std.specs.Prelude.{ℕ, not, ◌&&◌, ◌==◌, Bool, List, [], ◌∷◌, length, map, Option, None, Some, is_some, if◌then◌else◌}
use Rattle.std.specs.List.{filter, filter_map, range_with_len}
use Rattle.base_core.specs.declared.ids.ClassId.{ClassId}
use Rattle.base_core.specs.declared.value.Value.{Value}
use Rattle.expr_types.specs.declared.expr.Expr.{Expr}
use Rattle.class_mapping.specs.Mapped.{Mapped, class_spec, root_of, root_table}
use Rattle.class_mapping.specs.Paired.{is_at_or_under}
use Rattle.load_columns.specs.declared.placing.Placement.{Placement}
use Rattle.load_columns.specs.declared.placing.SourceColumn.{SourceColumn}
use Rattle.load_columns.specs.Placing.{column_at, column_named, place_at_rank}
use Rattle.load_columns.specs.Conditions.{is_in}

abbrev pub class_numbered : ℕ → ClassId
class_numbered number = record { 0 = number }

abbrev pub class_ids : Mapped → List ClassId
class_ids mapped = map class_numbered (range_with_len 0 (length mapped.classes.specs))

abbrev pub is_under : Mapped → ClassId → ClassId → Bool
is_under mapped class other = not (other.0 == class.0) && is_at_or_under mapped other class

-- the class, and its descendants in order of declaration
abbrev pub branch : Mapped → ClassId → List ClassId
branch mapped class = class ∷ filter (is_under mapped class) (class_ids mapped)

-- what the discriminator of a row of the branch can be
abbrev pub identities : Mapped → ClassId → List Value
identities mapped class = filter_map (λ other. (class_spec mapped other).identity) (branch mapped class)

-- the name of the column that tells the classes of a hierarchy apart
abbrev pub discriminator_of : Mapped → ClassId → Option (List ℕ)
discriminator_of mapped class = (class_spec mapped (root_of mapped class)).discriminator

abbrev pub discriminator_column : Mapped → ClassId → Placement → List ℕ → SourceColumn
discriminator_column mapped class placement name = column_at (place_at_rank placement 0) (column_named mapped (root_table mapped class) name)

abbrev pub names_branch : Mapped → ClassId → Placement → Option (List ℕ) → List Expr
names_branch mapped class placement None = []
names_branch mapped class placement (Some name) = is_in (discriminator_column mapped class placement name) (identities mapped class) ∷ []

-- the rows of a class without a table of its own are those of its branch
abbrev pub is_of_branch : Mapped → ClassId → Placement → List Expr
is_of_branch mapped class placement =
    if is_some (class_spec mapped class).table then [] else names_branch mapped class placement (discriminator_of mapped class)
