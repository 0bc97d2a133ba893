-- The selects of the members of collections.
use Rattle.std.specs.Prelude.{ℕ, List, [], ◌∷◌, ◌++◌, length, Option, None, Some}
use Rattle.base_core.specs.declared.value.Value.{Value}
use Rattle.expr_types.specs.declared.expr.Expr.{Expr}
use Rattle.expr_types.specs.declared.select.Select.{Select}
use Rattle.class_types.specs.declared.mapped.Relation.{Relation}
use Rattle.class_sides.specs.Keys.{TableKey}
use Rattle.class_mapping.specs.Mapped.{Mapped, root_table, tables_of}
use Rattle.load_columns.specs.declared.placing.SourceColumn.{SourceColumn}
use Rattle.load_selects.specs.declared.sources.Further.{Further}
use Rattle.load_columns.specs.Placing.{attribute_columns, columns_at, foreign_numbers, from_root, place_of_table}
use Rattle.load_columns.specs.Conditions.{has_one_of, has_values}
use Rattle.load_selects.specs.Branches.{is_of_branch}
use Rattle.load_selects.specs.Sources.{led_from, leading_table, other_tables, referred_place, refers}
use Rattle.load_selects.specs.Selects.{class_rows, select_of}

-- the columns by which the target's rows of a one-to-many relationship refer to their owners
abbrev pub owner_columns : Mapped → Relation → List SourceColumn
owner_columns mapped relation =
    columns_at (place_of_table mapped relation.target (from_root 0) relation.foreign.0) (foreign_numbers mapped relation.foreign)

-- the same columns of a secondary table
abbrev pub pair_columns : Mapped → Relation → ℕ → List SourceColumn
pair_columns mapped relation place = columns_at place (foreign_numbers mapped relation.foreign)

-- the secondary table behind the tables of the target
abbrev pub secondary_behind : Mapped → Relation → TableKey → ℕ → Further
secondary_behind mapped relation far place = record {
  table = relation.foreign.0;
  on = refers mapped far (referred_place mapped relation.target (from_root 0) far) place;
}

abbrev pub pair_members : Mapped → Relation → TableKey → List Expr → Select
pair_members mapped relation far conditions =
    select_of (root_table mapped relation.target)
    (other_tables mapped relation.target (from_root 0) ++ secondary_behind mapped relation far (length (tables_of mapped relation.target)) ∷ [])
    (attribute_columns mapped relation.target (from_root 0))
    (conditions ++ is_of_branch mapped relation.target (from_root 0))

abbrev pub referring_members : Mapped → Relation → List Value → Select
referring_members mapped relation key = class_rows mapped relation.target (has_values (owner_columns mapped relation) key)

abbrev pub paired_members : Mapped → Relation → TableKey → List Value → Select
paired_members mapped relation far key =
    pair_members mapped relation far (has_values (pair_columns mapped relation (length (tables_of mapped relation.target))) key)

abbrev pub members_by : Mapped → Relation → List Value → Option TableKey → Select
members_by mapped relation key None = referring_members mapped relation key
members_by mapped relation key (Some far) = paired_members mapped relation far key

-- the members of the collection of the owner with this key
unfoldable pub members_select : Mapped → Relation → List Value → Select
members_select mapped relation key = members_by mapped relation key relation.far

-- the tables of the target behind the secondary one
abbrev pub member_sources : Mapped → Relation → TableKey → List Further
member_sources mapped relation far =
    record { table = leading_table mapped relation; on = refers mapped far 1 0 } ∷ other_tables mapped relation.target (led_from mapped relation 1)

-- pairs with their members, the owner's key before each
abbrev pub pairs_select : Mapped → Relation → TableKey → List Expr → Select
pairs_select mapped relation far conditions =
    select_of relation.foreign.0 (member_sources mapped relation far)
    (pair_columns mapped relation 0 ++ attribute_columns mapped relation.target (led_from mapped relation 1))
    (conditions ++ is_of_branch mapped relation.target (led_from mapped relation 1))

abbrev pub referring_batch : Mapped → Relation → List (List Value) → Select
referring_batch mapped relation keys = class_rows mapped relation.target (has_one_of (owner_columns mapped relation) keys)

abbrev pub paired_batch : Mapped → Relation → TableKey → List (List Value) → Select
paired_batch mapped relation far keys = pairs_select mapped relation far (has_one_of (pair_columns mapped relation 0) keys)

abbrev pub batch_by : Mapped → Relation → List (List Value) → Option TableKey → Select
batch_by mapped relation keys None = referring_batch mapped relation keys
batch_by mapped relation keys (Some far) = paired_batch mapped relation far keys

-- the members of the collections of the owners with these keys; of many-to-many the owner's key stands before each
unfoldable pub batch_select : Mapped → Relation → List (List Value) → Select
batch_select mapped relation keys = batch_by mapped relation keys relation.far
