-- The members of many-to-many collections: of the target's rows those to which a pair of the owner leads.
use Rattle.std.specs.Prelude.{◌≡◌, ℕ, Bool, true, ◌&&◌, List, drop, filter, map, slice_get, Some, Ok}
use Rattle.std.specs.List.{All, list_any, range_with_len}
use Rattle.base_core.specs.declared.value.Value.{Value}
use Rattle.schema_core.specs.Tables.{same_values, value_or_null}
use Rattle.schema_core.specs.WellFormed.{is_key}
use Rattle.sql_semantics.specs.Eval.{Row, Tables, item_or_null, rows_in}
use Rattle.sql_semantics.specs.Rows.{answer}
use Rattle.sql_semantics.specs.Shapes.{AreRows}
use Rattle.class_types.specs.declared.mapped.Relation.{Relation}
use Rattle.class_sides.specs.Keys.{TableKey}
use Rattle.class_mapping.specs.Mapped.{Mapped, root_spec}
use Rattle.class_mapping.specs.Related.{IsRelated}
use Rattle.mapping_laws.specs.Hierarchies.{HasHierarchies}
use Rattle.load_columns.specs.Placing.{foreign_numbers}
use Rattle.collection_selects.specs.Collections.{batch_select, members_select}
use Rattle.load_filling.specs.Rows.{row_key}
use Rattle.collection_selects.specs.Pairs.{owner_width}
use Rattle.loading_laws.specs.Answers.Answers.{AreRowsOf}
use Rattle.loading_laws.specs.Answers.Equal.{equals_key}

-- ---- pairs

-- what a row of a secondary table has in the columns of one of its keys
abbrev pub cells_of : Mapped → TableKey → Row → List Value
cells_of mapped key pair = map (λ number. item_or_null (slice_get pair number.0)) (foreign_numbers mapped key)

-- the pair has an owner's key, and leads to the row
abbrev pub is_pair_of : Mapped → Relation → TableKey → List Value → Row → Row → Bool
is_pair_of mapped relation far key row pair =
    equals_key (cells_of mapped relation.foreign pair) key && equals_key (cells_of mapped far pair) (row_key mapped relation.target row)

-- of all rows of the target those to which one of these pairs leads from an owner's key
abbrev pub paired_rows : Mapped → Relation → TableKey → List Row → List Row → List Value → List Row
paired_rows mapped relation far all pairs key = filter (λ row. list_any (is_pair_of mapped relation far key row) pairs) all

-- ---- rows

-- two lists have the same rows, in whatever order and however often
abbrev pub HaveSame : List Row → List Row → Type 0
HaveSame one other = (row : Row) → list_any (same_values row) one ≡ list_any (same_values row) other

-- so many values of a row, the first ones
abbrev pub first_values : ℕ → Row → List Value
first_values count row = map (λ place. value_or_null (slice_get row place)) (range_with_len 0 count)

-- the rows of a batch whose first values are an owner's key, without these values
abbrev pub rows_under : Mapped → Relation → List Row → List Value → List Row
rows_under mapped relation rows key = map (drop (owner_width mapped relation)) (filter (λ row. same_values (first_values (owner_width mapped relation) row) key) rows)

-- ---- the laws

-- a many-to-many relationship of a configured mapping, over tables that hold rows of theirs, in which the rows of the target are these
pub record IsPaired (mapped : Mapped) (relation : Relation) (far : TableKey) (tables : Tables) (all : List Row) : Type 0 where
  pub has : HasHierarchies mapped
  pub related : IsRelated mapped relation
  pub many : relation.many ≡ true
  pub far_is : relation.far ≡ Some far
  pub held : AreRows mapped.schema tables
  pub rows : AreRowsOf mapped relation.target tables all

-- To the select of an owner's members the rows are answered to which its pairs lead.
abbrev pub MembersArePaired : Type 0
MembersArePaired =
    (mapped : Mapped) (relation : Relation) (far : TableKey) (tables : Tables) (all rows : List Row) (key : List Value) → IsPaired mapped relation far tables all → is_key (root_spec mapped relation.class) key ≡ true
    → answer mapped.schema tables (members_select mapped relation key) ≡ Ok rows → HaveSame rows (paired_rows mapped relation far all (rows_in tables relation.foreign.0.0) key)

-- To the select of the members of several owners they are answered behind the key of each.
abbrev pub BatchIsPaired : Type 0
BatchIsPaired =
    (mapped : Mapped) (relation : Relation) (far : TableKey) (tables : Tables) (all rows : List Row) (keys : List (List Value)) (key : List Value) → IsPaired mapped relation far tables all
    → All (λ one. is_key (root_spec mapped relation.class) one ≡ true) keys → list_any (same_values key) keys ≡ true
    → answer mapped.schema tables (batch_select mapped relation keys) ≡ Ok rows → HaveSame (rows_under mapped relation rows key) (paired_rows mapped relation far all (rows_in tables relation.foreign.0.0) key)
