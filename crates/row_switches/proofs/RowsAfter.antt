-- What holds of each row before the switches holds of each row that is made of it.
use Rattle.std.proofs.Common.{◌≡◌, ℕ, Bool, true, false, cond, List, map, Option, None, Some, unwrap_or, is_some, subst}
use Rattle.std.specs.Prelude.{slice_index_or}
use Rattle.std.specs.List.{AllByRecursion, enumerate_from, list_any}
use Rattle.std.specs.Option.{option_map}
use Rattle.schema_core.specs.declared.changes.ChangedRow.{ChangedRow}
use Rattle.schema_core.specs.declared.changes.GoneRow.{GoneRow}
use Rattle.schema_core.specs.declared.changes.NewRow.{NewRow}
use Rattle.schema_core.specs.declared.changes.RowChanges.{RowChanges}
use Rattle.schema_core.specs.Catalog.{Catalog}
use Rattle.class_mapping.specs.Mapped.{Mapped}
use Rattle.object_arena.specs.Graph.{Graph}
use Rattle.flush_order.specs.Orders.{gone_at}
use Rattle.object_rows.specs.Rows.{has_cells}
use Rattle.row_switches.specs.Switch.{cell_after_switch, is_number, row_kept, row_left, row_staying, row_switched, rows_kept, rows_left, rows_staying, rows_switched, switch_of}
use Rattle.row_switches.proofs.Each.{all_filter, all_filter_map, all_map, numbered}

-- one that is made where a test fails
given_unless : {X : Type 0} (P : X → Type 0) (b : Bool) (made given : X) → P made → cond b None (Some made) ≡ Some given → P given
given_unless P true made given holds e = absurd (cc)
given_unless P false made given holds e = subst (λ o. P (unwrap_or o given)) e holds

-- the new rows that stay
pub all_staying : (P Q : NewRow → Type 0) (schema : Catalog) (changes : RowChanges) (partners : List (Option ℕ))
    → ((row : NewRow) → P row → Q (record { name = row.name; cells = map (cell_after_switch schema changes partners) row.cells }))
    → AllByRecursion P changes.fresh → AllByRecursion Q (rows_staying schema changes partners)
all_staying P Q schema changes partners each all =
    all_filter_map (λ (placed : ℕ × NewRow). P placed.1) Q (row_staying schema changes partners)
    (λ placed holds new e. given_unless Q (is_some (slice_index_or partners placed.0 None)) (record { name = placed.1.name; cells = map (cell_after_switch schema changes partners) placed.1.cells }) new (each placed.1 holds) e)
    (enumerate_from 0 changes.fresh) (numbered P 0 changes.fresh all)

-- the deleted rows that are left
pub all_left : (P : GoneRow → Type 0) (changes : RowChanges) (partners : List (Option ℕ)) → AllByRecursion P changes.gone → AllByRecursion P (rows_left changes partners)
all_left P changes partners all =
    all_filter_map (λ (placed : ℕ × GoneRow). P placed.1) P (row_left partners)
    (λ placed holds left e. given_unless P (list_any (is_number placed.0) partners) placed.1 left holds e)
    (enumerate_from 0 changes.gone) (numbered P 0 changes.gone all)

-- the changed rows that are kept
pub all_kept : (P : ChangedRow → Type 0) (mapped : Mapped) (graph : Graph) (changes : RowChanges) (partners : List (Option ℕ))
    → ((row : ChangedRow) → P row → P (row_kept mapped graph changes partners row)) → AllByRecursion P changes.changed → AllByRecursion P (rows_kept mapped graph changes partners)
all_kept P mapped graph changes partners each all =
    all_filter P has_cells (map (row_kept mapped graph changes partners) changes.changed) (all_map P P (row_kept mapped graph changes partners) each changes.changed all)

switched : (P : ChangedRow → Type 0) (f : ℕ → ChangedRow) (gone : Option ℕ) (row : ChangedRow) → ((number : ℕ) → P (f number)) → option_map f gone ≡ Some row → P row
switched P f None row each e = absurd (cc)
switched P f (Some number) row each e = subst (λ o. P (unwrap_or o row)) e (each number)

-- the rows in place of switched ones
pub all_switched : (P : NewRow → Type 0) (Q : ChangedRow → Type 0) (mapped : Mapped) (graph : Graph) (changes : RowChanges) (partners : List (Option ℕ))
    → ((placed : ℕ × NewRow) (gone : GoneRow) → P placed.1 → Q (row_switched mapped graph changes partners placed gone)) → AllByRecursion P changes.fresh → AllByRecursion Q (rows_switched mapped graph changes partners)
all_switched P Q mapped graph changes partners each all =
    all_filter_map (λ (placed : ℕ × NewRow). P placed.1) Q (switch_of mapped graph changes partners)
    (λ placed holds row e. switched Q (λ number. row_switched mapped graph changes partners placed (gone_at changes.gone number)) (slice_index_or partners placed.0 None) row
    (λ number. each placed (gone_at changes.gone number) holds) e)
    (enumerate_from 0 changes.fresh) (numbered P 0 changes.fresh all)
