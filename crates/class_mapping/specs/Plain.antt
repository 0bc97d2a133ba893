-- Root classes over a table, without a discriminator and without lines: what such a class has.
use Rattle.std.specs.Prelude.{ℕ, Bool, ◌||◌, List, [], ◌∷◌, map, filter, is_some, is_none}
use Rattle.std.specs.List.{enumerate_from}
use Rattle.base_core.specs.declared.ids.AttrNo.{AttrNo}
use Rattle.base_core.specs.declared.ids.ClassId.{ClassId}
use Rattle.schema_core.specs.declared.table.ColumnSpec.{ColumnSpec}
use Rattle.schema_core.specs.declared.table.TableSpec.{TableSpec}
use Rattle.class_types.specs.declared.declared.ClassSpec.{ClassSpec}
use Rattle.class_blocks.specs.Tables.{named_table}
pub use Rattle.class_blocks.specs.Plain.{is_empty, is_plain_root, repeats_column, repeats_in}
unfoldable pub use Rattle.class_blocks.specs.Plain.{early_fault, plain_fault}

-- the line of such a class is the class alone
abbrev pub alone : ℕ × ClassSpec → List ClassId
alone placed = record { 0 = placed.0 } ∷ []

abbrev pub lines_alone : List ClassSpec → List (List ClassId)
lines_alone specs = map alone (enumerate_from 0 specs)

-- the table that a class names, if it names one, is declared
abbrev pub is_over_table : List TableSpec → ClassSpec → Bool
is_over_table tables spec = is_none spec.table || is_some (named_table tables spec.table)

abbrev pub attr_at : ℕ × ColumnSpec → AttrNo
attr_at placed = record { 0 = placed.0 }

-- which columns of a table are those of its key, in order
abbrev pub key_places : List ColumnSpec → List AttrNo
key_places columns = map attr_at (filter (λ placed. placed.1.key) (enumerate_from 0 columns))
