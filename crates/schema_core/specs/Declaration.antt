-- Which declarations of tables are taken, the first fault of one that is not, and when every foreign key has its target.
use Rattle.std.specs.Prelude.{◌≡◌, ◌<◌, ◌≤◌, take, ℕ, Bool, true, false, not, ◌&&◌, ◌||◌, List, [], ◌∷◌, ◌++◌, length, slice_index_or, Option, None, Some, is_some, Result, Ok, Err, if◌then◌else◌}
use Rattle.std.specs.List.{list_any, list_all}
use Rattle.std.specs.Cmp.Lexicographic.{pointwise}
use Rattle.base_core.specs.declared.ids.TableId.{TableId}
use Rattle.base_core.specs.declared.refusal.ArgumentKind.{ArgumentKind}
use Rattle.base_core.specs.declared.refusal.ArgumentKind.TheVariants.{DuplicateName, UnknownColumn, NoPrimaryKey, SharedColumn, BadTarget}
use Rattle.base_core.specs.declared.refusal.Refusal.{Refusal}
use Rattle.base_core.specs.declared.refusal.Refusal.TheVariants.{ArgumentError}
use Rattle.schema_core.specs.declared.table.ColumnSpec.{ColumnSpec}
use Rattle.schema_core.specs.declared.table.ForeignSpec.{ForeignSpec}
use Rattle.schema_core.specs.declared.table.TableSpec.{TableSpec}
use Rattle.schema_core.specs.Catalog.{Catalog, find_table, has_name, key_columns, kind_of, no_table, same_kind, same_name}

-- an item and a later one pass the test
abbrev pub some_two : {A : Type 0} → (A → A → Bool) → List A → Bool
some_two test [] = false
some_two test (x ∷ xs) = list_any (λ later. test later x) xs || some_two test xs

-- the list of columns of a unique constraint or of a foreign key passes the test
abbrev pub some_list : (List (List ℕ) → Bool) → TableSpec → Bool
some_list test spec = list_any test spec.uniques || list_any (λ foreign. test foreign.columns) spec.foreigns

-- the table's name is taken, or a column, or a name in a list of columns, stands twice
abbrev pub repeats_name : List TableSpec → TableSpec → Bool
repeats_name tables spec =
    is_some (find_table tables spec.name)
    || some_two (λ one other. same_name one.name other.name) spec.columns
    || some_list (some_two same_name) spec

abbrev pub has_column : List ColumnSpec → List ℕ → Bool
has_column columns name = list_any (λ column. same_name column.name name) columns

-- one of the names is no column
abbrev pub names_unknown : List ColumnSpec → List (List ℕ) → Bool
names_unknown columns names = list_any (λ name. not (has_column columns name)) names

-- a list of columns has a name that is none
abbrev pub lists_unknown : TableSpec → Bool
lists_unknown spec = some_list (names_unknown spec.columns) spec

abbrev pub has_key : TableSpec → Bool
has_key spec = list_any (λ column. column.key) spec.columns

-- the foreign keys have a column in common
abbrev pub shares_one : ForeignSpec → ForeignSpec → Bool
shares_one foreign other = list_any (has_name other.columns) foreign.columns

-- two foreign keys do
abbrev pub shares_column : TableSpec → Bool
shares_column spec = some_two shares_one spec.foreigns

-- the first fault of a declaration beside the tables declared before it
unfoldable pub declaration_fault : List TableSpec → TableSpec → Option ArgumentKind
declaration_fault tables spec =
    if repeats_name tables spec then Some DuplicateName
    else if lists_unknown spec then Some UnknownColumn
    else if not (has_key spec) then Some NoPrimaryKey
    else if shares_column spec then Some SharedColumn
    else None

-- the tables with one more, whose target is still to be found
abbrev pub with_table : Catalog → TableSpec → Catalog
with_table schema spec = record { tables = schema.tables ++ spec ∷ []; resolved = false }

abbrev pub declared_unless : Option ArgumentKind → Catalog → TableSpec → Result (TableId × Catalog) Refusal
declared_unless (Some fault) schema spec = Err (ArgumentError fault)
declared_unless None schema spec = Ok (record { 0 = length schema.tables }, with_table schema spec)

-- the answer to a declaration: the next number with the tables then, or the first fault
unfoldable pub declare : Catalog → TableSpec → Result (TableId × Catalog) Refusal
declare schema spec = declared_unless (declaration_fault schema.tables spec) schema spec

-- the column of this name has the kind of the other
abbrev pub has_kind : List ColumnSpec → List ℕ → ColumnSpec → Bool
has_kind columns name other = list_any (λ column. same_name column.name name && same_kind (kind_of column.kind) (kind_of other.kind)) columns

-- the columns of these names have the kinds of the key of the other table, one by one
abbrev pub fits_key : List ColumnSpec → List (List ℕ) → TableSpec → Bool
fits_key columns names target = pointwise (has_kind columns) names (key_columns target)

abbrev pub refers_to : List TableSpec → TableSpec → ForeignSpec → Option TableId → Bool
refers_to tables spec foreign None = false
refers_to tables spec foreign (Some target) = fits_key spec.columns foreign.columns (slice_index_or tables target.0 no_table)

-- the target is declared, and the foreign key's columns are of the kinds of its key, one by one
abbrev pub has_target : List TableSpec → TableSpec → ForeignSpec → Bool
has_target tables spec foreign = refers_to tables spec foreign (find_table tables foreign.target)

-- every foreign key has its target
abbrev pub has_targets : List TableSpec → Bool
has_targets tables = list_all (λ spec. list_all (has_target tables spec) spec.foreigns) tables

-- the answer to the search for all targets
unfoldable pub resolve : Catalog → Result (Unit {0} × Catalog) Refusal
resolve schema = if has_targets schema.tables then Ok (tt, record { tables = schema.tables; resolved = true }) else Err (ArgumentError BadTarget)

-- What the tables of a schema keep: each was free of faults beside those before it, and where they are resolved every foreign key has its target.
pub record IsDeclared (tables : List TableSpec) (resolved : Bool) : Type 0 where
  pub count : length tables ≤ 4294967295
  pub faultless : (place : ℕ) → place < length tables → declaration_fault (take place tables) (slice_index_or tables place no_table) ≡ None
  pub targets : resolved ≡ true → has_targets tables ≡ true
