-- Root classes over a table, without a discriminator and without lines, and why one is refused.
use Rattle.std.specs.Prelude.{Bool, true, false, ◌&&◌, ◌||◌, List, [], ◌∷◌, Option, None, Some, is_some, is_none, if◌then◌else◌}
use Rattle.std.specs.List.{list_all}
use Rattle.base_core.specs.declared.ids.TableId.{TableId}
use Rattle.base_core.specs.declared.refusal.ArgumentKind.{ArgumentKind}
use Rattle.base_core.specs.declared.refusal.ArgumentKind.TheVariants.{DuplicateName, BadClass}
use Rattle.schema_core.specs.declared.table.ColumnSpec.{ColumnSpec}
use Rattle.schema_core.specs.declared.table.TableSpec.{TableSpec}
use Rattle.schema_core.specs.Catalog.{same_name}
use Rattle.schema_core.specs.Declaration.{some_two}
use Rattle.class_types.specs.declared.declared.ClassSpec.{ClassSpec}
use Rattle.class_blocks.specs.Blocks.{is_declared, maps_name}
use Rattle.class_blocks.specs.Tables.{columns_in, named_table}

abbrev pub is_empty : {A : Type 0} → List A → Bool
is_empty [] = true
is_empty (x ∷ xs) = false

-- the declaration is a root class over a table, without a discriminator and without lines
abbrev pub is_plain_root : ClassSpec → Bool
is_plain_root spec =
    is_none spec.base && is_some spec.table && is_none spec.discriminator && is_none spec.identity
    && is_empty spec.owned && is_empty spec.relations && is_empty spec.validators

-- ---- why such a class is not taken

-- two of the columns have one name
abbrev pub repeats_column : List ColumnSpec → Bool
repeats_column columns = some_two (λ one other. same_name one.name other.name) columns

abbrev pub repeats_in : List TableSpec → Option TableId → Bool
repeats_in tables None = false
repeats_in tables (Some table) = repeats_column (columns_in tables table)

-- why such a class is not taken beside other such classes
unfoldable pub plain_fault : List TableSpec → List ClassSpec → ClassSpec → Option ArgumentKind
plain_fault tables specs spec =
    if is_declared specs spec.name || repeats_in tables (named_table tables spec.table) then Some DuplicateName
    else if is_none (named_table tables spec.table) || maps_name specs spec.table then Some BadClass
    else None

-- what is told before memory is taken: the fault of such a class beside other such classes
unfoldable pub early_fault : List TableSpec → List ClassSpec → ClassSpec → Option ArgumentKind
early_fault tables specs spec = if list_all is_plain_root specs && is_plain_root spec then plain_fault tables specs spec else None
