-- The rows of the members of several collections.
use Rattle.std.specs.Prelude.{ℕ, List, drop, length, Option, None, Some}
use Rattle.base_core.specs.declared.value.Value.{Value}
use Rattle.class_types.specs.declared.mapped.Relation.{Relation}
use Rattle.class_sides.specs.Keys.{TableKey}
use Rattle.class_mapping.specs.Mapped.{Mapped}
use Rattle.load_columns.specs.Placing.{foreign_numbers}
use Rattle.load_rows.specs.Reading.{IsRowOf}

abbrev pub owner_width_by : Mapped → Relation → Option TableKey → ℕ
owner_width_by mapped relation None = 0
owner_width_by mapped relation (Some far) = length (foreign_numbers mapped relation.foreign)

-- how many values of such a row stand before those of the target: the key of the owner, where there is a secondary table
abbrev pub owner_width : Mapped → Relation → ℕ
owner_width mapped relation = owner_width_by mapped relation relation.far

-- behind them stands a row of the target
abbrev pub IsMemberRow : Mapped → Relation → List Value → Type 0
IsMemberRow mapped relation row = IsRowOf mapped relation.target (drop (owner_width mapped relation) row)
