-- The tables that a schema has, in order of number, and what a declaration says of its columns.
use Rattle.std.specs.Prelude.{◌≡◌, ℕ, ◌<◌, Bool, true, false, not, ◌&&◌, ◌||◌, List, [], ◌∷◌, length, slice_index_or, nat_eq, ◌==◌, Option, None, Some}
use Rattle.std.specs.Option.{option_map}
use Rattle.std.specs.List.{list_any, filter, position, count_by}
use Rattle.std.specs.Cmp.Lexicographic.{pointwise}
use Rattle.base_core.specs.declared.ids.TableId.{TableId}
use Rattle.base_core.specs.declared.value.Kind.{Kind}
use Rattle.base_core.specs.declared.value.Kind.TheVariants as kinds
use Rattle.schema_core.specs.declared.table.ColumnKind.{ColumnKind}
use Rattle.schema_core.specs.declared.table.ColumnKind.TheVariants.{Integer, Varchar, Text, Boolean, Bytes}
use Rattle.schema_core.specs.declared.table.ColumnSpec.{ColumnSpec}
use Rattle.schema_core.specs.declared.table.ForeignSpec.{ForeignSpec}
use Rattle.schema_core.specs.declared.table.TableSpec.{TableSpec}

-- the declared tables in order of number, and whether every foreign key was found to have its target
pub record Catalog : Type 0 where
  pub tables : List TableSpec
  pub resolved : Bool

-- a table that declares nothing
abbrev pub no_table : TableSpec
no_table = record { name = []; columns = []; uniques = []; foreigns = [] }

-- the declaration of a table
abbrev pub spec_of : Catalog → TableId → TableSpec
spec_of schema table = slice_index_or schema.tables table.0 no_table

-- a table of this number is declared
abbrev pub IsTable : Catalog → TableId → Type 0
IsTable schema table = table.0 < length schema.tables

-- a foreign key that declares nothing
abbrev pub no_foreign : ForeignSpec
no_foreign = record { columns = []; target = [] }

-- the foreign key of a number
abbrev pub foreign_of : TableSpec → ℕ → ForeignSpec
foreign_of spec number = slice_index_or spec.foreigns number no_foreign

abbrev pub same_name : List ℕ → List ℕ → Bool
same_name = pointwise nat_eq

abbrev pub has_name : List (List ℕ) → List ℕ → Bool
has_name names name = list_any (λ other. same_name other name) names

-- the table of a name
abbrev pub find_table : List TableSpec → List ℕ → Option TableId
find_table tables name = option_map (λ place. record { 0 = place }) (position (λ spec. same_name spec.name name) tables)

-- the table that a foreign key refers to
abbrev pub target_of : Catalog → ForeignSpec → Option TableId
target_of schema foreign = find_table schema.tables foreign.target

-- the kind of a column's values; varchar and text are one kind
abbrev pub kind_of : ColumnKind → Kind
kind_of Integer = kinds.Integer
kind_of (Varchar most) = kinds.Text
kind_of Text = kinds.Text
kind_of Boolean = kinds.Boolean
kind_of Bytes = kinds.Bytes

abbrev pub same_kind : Kind → Kind → Bool
same_kind kinds.Integer kinds.Integer = true
same_kind kinds.Text kinds.Text = true
same_kind kinds.Boolean kinds.Boolean = true
same_kind kinds.Bytes kinds.Bytes = true
same_kind one other = false

-- the columns of the primary key, in order
abbrev pub key_columns : TableSpec → List ColumnSpec
key_columns spec = filter (λ column. column.key) spec.columns

-- a column of the key takes no NULL either
abbrev pub is_required : ColumnSpec → Bool
is_required column = column.not_null || column.key

-- an integer column that is in no foreign key
abbrev pub is_free_integer : List ForeignSpec → ColumnSpec → Bool
is_free_integer foreigns column = same_kind (kind_of column.kind) kinds.Integer && not (list_any (λ foreign. has_name foreign.columns column.name) foreigns)

-- the table's keys are generated: its primary key is one column, an integer in no foreign key
abbrev pub has_generated_key : TableSpec → Bool
has_generated_key spec = (count_by (λ column. column.key) spec.columns == 1) && list_any (λ column. column.key && is_free_integer spec.foreigns column) spec.columns
