-- Why the declarations of relationships and hierarchies are refused, each kind over all declarations.
use Rattle.std.specs.Prelude.{ℕ, Bool, false, not, ◌&&◌, ◌||◌, List, length, find, nat_lt, slice_get, ◌==◌, Option, None, Some, is_some, is_none, if◌then◌else◌}
use Rattle.std.specs.List.{enumerate_from, list_any}
use Rattle.base_core.specs.declared.ids.ClassId.{ClassId}
use Rattle.base_core.specs.declared.ids.TableId.{TableId}
use Rattle.base_core.specs.declared.refusal.ArgumentKind.{ArgumentKind}
use Rattle.base_core.specs.declared.refusal.ArgumentKind.TheVariants.{BadTarget, BadInheritance, BadSecondary, NoJoin, TwoJoins, Overlap, PartnerDiffers, KeyForeign, BadPostUpdate}
use Rattle.schema_core.specs.declared.table.ColumnSpec.{ColumnSpec}
use Rattle.schema_core.specs.declared.table.TableSpec.{TableSpec}
use Rattle.schema_core.specs.Catalog.{find_table, has_name, is_required, same_name}
use Rattle.schema_core.specs.Declaration.{has_targets, some_two}
use Rattle.class_types.specs.declared.declared.Cascade.{Cascade}
use Rattle.class_types.specs.declared.declared.ClassSpec.{ClassSpec}
use Rattle.class_layouts.specs.declared.classes.Classes.{Classes}
use Rattle.class_layouts.specs.declared.layout.Layout.{Layout}
use Rattle.class_layouts.specs.Hierarchy.{line_of, root_in}
use Rattle.class_layouts.specs.Columns.{columns_in, is_table, layouts_of, lives_in, owner_of}
use Rattle.class_layouts.specs.Faults.{discriminator_on, is_named, root_table_on}
use Rattle.class_blocks.specs.declared.side.Side.{Side}
use Rattle.class_sides.specs.Keys.{TableKey, is_tied, names_of}
use Rattle.class_sides.specs.Sides.{sides_of}
use Rattle.class_sides.specs.Pairs.{differs, has_two_joins, is_plain, join_of, lacks_join, many_cascade, overlaps}
use Rattle.class_sides.specs.Linking.{near_key}

-- ---- BadTarget

abbrev pub misses_table : List TableSpec → Option (List ℕ) → Bool
misses_table tables None = false
misses_table tables (Some name) = is_none (find_table tables name)

-- the target class or the secondary table is not declared
abbrev pub misses_target : List TableSpec → Side → Bool
misses_target tables side = is_none side.target || misses_table tables side.spec.secondary

-- ---- BadInheritance

abbrev pub is_free_column : Option ColumnSpec → Bool
is_free_column None = false
is_free_column (Some column) = not column.key

abbrev pub is_place : Option ℕ → ℕ → Bool
is_place None class = false
is_place (Some found) class = found == class

-- the table is the root's, and the column its discriminator
abbrev pub is_discriminator : List TableSpec → Classes → Option ClassId → TableId → List ℕ → Bool
is_discriminator tables classes root table name = is_table (root_table_on tables classes root) table && is_named (discriminator_on classes root) name

abbrev pub may_own : List TableSpec → Classes → ℕ → Option ClassId → List ℕ → Option TableId → Bool
may_own tables classes class root name None = false
may_own tables classes class root name (Some table) =
    is_free_column (find (λ column. same_name column.name name) (columns_in tables table))
    && not (is_discriminator tables classes root table name)
    && is_place (owner_of tables classes root table name) class

-- the column is one of the table in which the class lives, no key and no discriminator, and no other class owns it
abbrev pub owns_rightly : List TableSpec → Classes → ℕ → List ℕ → Bool
owns_rightly tables classes class name =
    let line = line_of classes class in may_own tables classes class (root_in line) name (lives_in tables classes line)

abbrev pub misses_tie_in : List TableSpec → Option Layout → Bool
misses_tie_in tables None = false
misses_tie_in tables (Some layout) = list_any (λ ranked. not (is_tied tables layout.tables ranked)) (enumerate_from 0 layout.tables)

-- the class is too deep, its table's key is no foreign key to its parent's table, or it owns a column that it may not own
abbrev pub inherits_badly : List TableSpec → Classes → List Layout → ℕ × ClassSpec → Bool
inherits_badly tables classes layouts placed =
    nat_lt 16 (length (line_of classes placed.0))
    || misses_tie_in tables (slice_get layouts placed.0)
    || some_two same_name placed.1.owned
    || list_any (λ name. not (owns_rightly tables classes placed.0 name)) placed.1.owned

-- ---- BadSecondary

-- a link names a secondary table, which only a collection has, or the table's columns, key or foreign keys are not right
abbrev pub is_bad_secondary : Side → Bool
is_bad_secondary side = is_some side.spec.secondary && (not side.spec.many || is_none side.ends)

-- ---- KeyForeign

abbrev pub is_key_named : List ColumnSpec → List ℕ → Bool
is_key_named columns name = list_any (λ column. column.key && same_name column.name name) columns

-- a column of the foreign key is one of its table's key
abbrev pub is_of_key : List TableSpec → Option TableKey → Bool
is_of_key tables None = false
is_of_key tables (Some key) = list_any (is_key_named (columns_in tables key.0)) (names_of tables key)

abbrev pub keeps_no_orphans : Cascade → Bool
keeps_no_orphans cascade = cascade.delete && cascade.delete_orphan

-- the foreign key has a key column, and the many side lacks delete or delete-orphan
abbrev pub misses_delete : List TableSpec → Classes → List Side → Side → Bool
misses_delete tables classes sides side =
    is_plain side && is_of_key tables (join_of tables classes sides side) && not (keeps_no_orphans (many_cascade sides side))

-- ---- BadPostUpdate

-- the foreign key behind a side; of a secondary table the one to the side
abbrev pub key_of : List TableSpec → Classes → List Side → Side → Option TableKey
key_of tables classes sides side = if is_plain side then join_of tables classes sides side else near_key side.ends

abbrev pub is_unique_name : Option TableSpec → List ℕ → Bool
is_unique_name None name = false
is_unique_name (Some spec) name = list_any (λ unique. has_name unique name) spec.uniques

-- the column takes no NULL, or is in a unique constraint
abbrev pub is_fixed : List TableSpec → TableId → List ℕ → Bool
is_fixed tables table name =
    list_any (λ column. is_required column && same_name column.name name) (columns_in tables table)
    || is_unique_name (slice_get tables table.0) name

abbrev pub has_fixed : List TableSpec → Option TableKey → Bool
has_fixed tables None = false
has_fixed tables (Some key) = list_any (is_fixed tables key.0) (names_of tables key)

-- a foreign key that is to be written late has a column that takes no NULL or is in a unique constraint
abbrev pub posts_badly : List TableSpec → Classes → List Side → Side → Bool
posts_badly tables classes sides side =
    side.spec.post_update && (not side.spec.many || is_some side.spec.secondary) && has_fixed tables (key_of tables classes sides side)

-- ---- the first fault

-- the first kind that holds of pairs
unfoldable pub fault_of_pairs : List TableSpec → Classes → List Layout → List Side → Option ArgumentKind
fault_of_pairs tables classes layouts sides =
    if some_two (overlaps tables classes sides) sides then Some Overlap
    else if list_any (differs classes layouts sides) sides then Some PartnerDiffers
    else if list_any (misses_delete tables classes sides) sides then Some KeyForeign
    else if list_any (posts_badly tables classes sides) sides then Some BadPostUpdate
    else None

-- the first kind that holds of the keys of relationships, and then of pairs
unfoldable pub fault_of_keys : List TableSpec → Classes → List Layout → List Side → Option ArgumentKind
fault_of_keys tables classes layouts sides =
    if list_any is_bad_secondary sides then Some BadSecondary
    else if list_any (lacks_join tables classes sides) sides then Some NoJoin
    else if list_any (has_two_joins tables classes sides) sides then Some TwoJoins
    else fault_of_pairs tables classes layouts sides

-- the first kind that holds, where what the classes have and the declared relationships are known
unfoldable pub fault_among : List TableSpec → Classes → List Layout → List Side → Option ArgumentKind
fault_among tables classes layouts sides =
    if not (has_targets tables) || list_any (misses_target tables) sides then Some BadTarget
    else if list_any (inherits_badly tables classes layouts) (enumerate_from 0 classes.specs) then Some BadInheritance
    else fault_of_keys tables classes layouts sides

-- the first fault of all declarations
abbrev pub mapping_fault : List TableSpec → Classes → Option ArgumentKind
mapping_fault tables classes =
    let layouts = layouts_of tables classes in fault_among tables classes layouts (sides_of tables classes layouts)
