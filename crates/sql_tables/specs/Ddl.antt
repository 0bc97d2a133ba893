-- The texts that make tables and drop them.
use Rattle.std.specs.Prelude.{ℕ, ◌+◌, ◌++◌, Bool, true, false, ◌&&◌, ◌==◌, List, [], ◌∷◌, Option, Some, None, Result, Ok, Err, if◌then◌else◌, codes, decimal}
use Rattle.std.specs.List.{list_any}
use Rattle.base_core.specs.declared.ids.ColumnNo.{ColumnNo}
use Rattle.base_core.specs.declared.ids.TableId.{TableId}
use Rattle.base_core.specs.declared.refusal.Refusal.{Refusal}
use Rattle.base_core.specs.declared.refusal.Refusal.TheVariants.{CompileError}
use Rattle.schema_core.specs.declared.table.ColumnKind.{ColumnKind}
use Rattle.schema_core.specs.declared.table.ColumnKind.TheVariants as kind
use Rattle.schema_core.specs.declared.table.ColumnSpec.{ColumnSpec}
use Rattle.schema_core.specs.declared.table.ForeignSpec.{ForeignSpec}
use Rattle.schema_core.specs.declared.table.TableSpec.{TableSpec}
use Rattle.schema_core.specs.Catalog.{Catalog, spec_of, target_of, foreign_of, is_required, has_generated_key}
use Rattle.base_core.specs.declared.dialect.Dialect.{Dialect}
use Rattle.base_core.specs.declared.dialect.Dialect.TheVariants.{Sqlite, Postgresql, Mysql}
use Rattle.sql_text.specs.Written.{Piece, words, name, with_separators, nothing_written, put_all}

-- ---- columns

abbrev pub varchar_word : Option ℕ → List ℕ
varchar_word None = codes "VARCHAR"
varchar_word (Some most) = codes "VARCHAR(" ++ (decimal most ++ codes ")")

abbrev pub boolean_word : Dialect → List ℕ
boolean_word Sqlite = codes "BOOLEAN"
boolean_word Postgresql = codes "BOOLEAN"
boolean_word Mysql = codes "BOOL"

abbrev pub bytes_word : Dialect → List ℕ
bytes_word Sqlite = codes "BLOB"
bytes_word Postgresql = codes "BYTEA"
bytes_word Mysql = codes "BLOB"

abbrev pub type_word : Dialect → ColumnKind → List ℕ
type_word dialect kind.Integer = codes "INTEGER"
type_word dialect (kind.Varchar most) = varchar_word most
type_word dialect kind.Text = codes "TEXT"
type_word dialect kind.Boolean = boolean_word dialect
type_word dialect kind.Bytes = bytes_word dialect

abbrev pub generated_word : Dialect → List ℕ
generated_word Sqlite = codes "INTEGER NOT NULL"
generated_word Postgresql = codes "SERIAL NOT NULL"
generated_word Mysql = codes "INTEGER NOT NULL AUTO_INCREMENT"

abbrev pub null_pieces : Bool → List Piece
null_pieces false = []
null_pieces true = words (codes " NOT NULL") ∷ []

-- a column's type, where generated says whether the table's key is generated
abbrev pub type_pieces : Dialect → Bool → ColumnSpec → List Piece
type_pieces dialect generated column =
    if generated && column.key then words (generated_word dialect) ∷ [] else words (type_word dialect column.kind) ∷ null_pieces (is_required column)

abbrev pub column_pieces : Dialect → Bool → ColumnSpec → List Piece
column_pieces dialect generated column = name column.name ∷ words (codes " ") ∷ type_pieces dialect generated column

-- ---- constraints

abbrev pub names_pieces : List (List ℕ) → List Piece
names_pieces names = with_separators (codes ", ") (λ shown. name shown ∷ []) names

-- the names of the key's columns, a comma before all but the first
abbrev pub key_names : List ℕ → List ColumnSpec → List Piece
key_names word [] = []
key_names word (column ∷ columns) = if column.key then words word ∷ name column.name ∷ key_names (codes ", ") columns else key_names word columns

abbrev pub unique_pieces : List (List ℕ) → List Piece
unique_pieces names = words (codes ", UNIQUE (") ∷ names_pieces names ++ words (codes ")") ∷ []

abbrev pub uniques_pieces : List (List (List ℕ)) → List Piece
uniques_pieces [] = []
uniques_pieces (names ∷ uniques) = unique_pieces names ++ uniques_pieces uniques

-- the table and the columns of its key; a target that is not declared has neither
abbrev pub target_pieces : Catalog → Option TableId → List Piece
target_pieces schema None = name [] ∷ words (codes " (") ∷ []
target_pieces schema (Some table) = name (spec_of schema table).name ∷ key_names (codes " (") (spec_of schema table).columns

abbrev pub reference_pieces : Catalog → Option TableId → List Piece
reference_pieces schema target = words (codes ") REFERENCES ") ∷ target_pieces schema target ++ words (codes ")") ∷ []

abbrev pub foreign_to : Catalog → List (List ℕ) → Option TableId → List Piece
foreign_to schema columns target = words (codes "FOREIGN KEY(") ∷ names_pieces columns ++ reference_pieces schema target

abbrev pub foreign_pieces : Catalog → ForeignSpec → List Piece
foreign_pieces schema foreign = foreign_to schema foreign.columns (target_of schema foreign)

-- the foreign keys from this number on, but for those that come later
abbrev pub foreigns_pieces : Catalog → List ℕ → ℕ → List ForeignSpec → List Piece
foreigns_pieces schema later number [] = []
foreigns_pieces schema later number (foreign ∷ foreigns) =
    if list_any (λ other. other == number) later then foreigns_pieces schema later (number + 1) foreigns
    else words (codes ", ") ∷ foreign_pieces schema foreign ++ foreigns_pieces schema later (number + 1) foreigns

-- ---- statements

-- the key, the uniques, and the foreign keys but for those that come later
abbrev pub constraint_pieces : Catalog → TableSpec → List ℕ → List Piece
constraint_pieces schema spec later =
    key_names (codes ", PRIMARY KEY (") spec.columns ++ words (codes ")") ∷ uniques_pieces spec.uniques ++ foreigns_pieces schema later 0 spec.foreigns

abbrev pub create_pieces : Dialect → Catalog → TableSpec → List ℕ → List Piece
create_pieces dialect schema spec later =
    words (codes "CREATE TABLE ") ∷ name spec.name ∷ words (codes " (") ∷ with_separators (codes ", ") (column_pieces dialect (has_generated_key spec)) spec.columns
    ++ constraint_pieces schema spec later ++ words (codes ")") ∷ []

-- a text without values
abbrev pub text_alone : Dialect → List Piece → List ℕ
text_alone dialect pieces = (put_all (nothing_written dialect) pieces).text

abbrev pub create_text : Dialect → Catalog → TableSpec → List ℕ → List ℕ
create_text dialect schema spec later = text_alone dialect (create_pieces dialect schema spec later)

abbrev pub is_unsized : ColumnKind → Bool
is_unsized (kind.Varchar None) = true
is_unsized other = false

-- the first varchar without a length, from this place on
abbrev pub first_unsized : ℕ → List ColumnSpec → Option ColumnNo
first_unsized place [] = None
first_unsized place (column ∷ columns) = if is_unsized column.kind then Some (record { 0 = place }) else first_unsized (place + 1) columns

-- MySQL has no varchar without a length
abbrev pub unsized_in : Dialect → List ColumnSpec → Option ColumnNo
unsized_in Sqlite columns = None
unsized_in Postgresql columns = None
unsized_in Mysql columns = first_unsized 0 columns

abbrev pub create_text_or_refusal : Dialect → Catalog → TableId → List ℕ → Option ColumnNo → Result (List ℕ) Refusal
create_text_or_refusal dialect schema table later None = Ok (create_text dialect schema (spec_of schema table) later)
create_text_or_refusal dialect schema table later (Some column) = Err (CompileError table column)

-- CREATE TABLE without the foreign keys of these numbers, or the first column that has no type
unfoldable pub ddl : Dialect → Catalog → TableId → List ℕ → Result (List ℕ) Refusal
ddl dialect schema table later = create_text_or_refusal dialect schema table later (unsized_in dialect (spec_of schema table).columns)

abbrev pub alter_pieces : Catalog → TableSpec → ForeignSpec → List Piece
alter_pieces schema spec foreign = words (codes "ALTER TABLE ") ∷ name spec.name ∷ words (codes " ADD ") ∷ foreign_pieces schema foreign

-- the foreign key of a number, added to its table
unfoldable pub alter : Dialect → Catalog → TableId → ℕ → List ℕ
alter dialect schema table number = text_alone dialect (alter_pieces schema (spec_of schema table) (foreign_of (spec_of schema table) number))

abbrev pub drop_pieces : Catalog → TableId → List Piece
drop_pieces schema table = words (codes "DROP TABLE ") ∷ name (spec_of schema table).name ∷ []

unfoldable pub drop_text : Dialect → Catalog → TableId → List ℕ
drop_text dialect schema table = text_alone dialect (drop_pieces schema table)
