-- The lists that are found by keys are those of which rows wait for which.
use Rattle.std.proofs.Common.{◌≡◌, ℕ, ◌<◌, ◌||◌, List, length, ap, ◌∙◌, subst}
use Rattle.std.proofs.lemmas.List.Elements.{All-append}
use Rattle.std.proofs.lemmas.List.Folds.{list_any-append}
use Rattle.std.specs.Prelude.{nat_eq}
use Rattle.std.specs.List.{All, list_any}
use Rattle.schema_core.specs.declared.changes.RowChanges.{RowChanges}
use Rattle.schema_core.specs.Catalog.{Catalog, spec_of}
use Rattle.row_order.specs.Lists.{AreListsOf, AreMirrored, AreRows, AreTold}
use Rattle.row_order.specs.Places.{is_among}
use Rattle.row_order.proofs.Told.{mirrored_lists, told_lists}
use Rattle.flush_order.specs.Cells.{first_cells, known_row, table_at}
use Rattle.flush_order.specs.Index.{Index, IsIndexOf, gone_place, gone_targets, new_blockers, new_place, rows_referred, rows_taken}
use Rattle.flush_order.specs.Orders.{gone_at, gone_rows}
use Rattle.flush_order.specs.Ready.{AreReadyGone}
use Rattle.flush_order.specs.Refers.{comes_from, gone_refers, last_base, new_refers}
use Rattle.flush_order.specs.declared.refers.ReadyGone.{ReadyGone}
use Rattle.flush_order.proofs.GoneLemmas.{gone_size}
use Rattle.flush_order.proofs.IndexSteps.{referred, referred_below, taken, taken_below}

-- ---- new rows

pub new_are_listed : (schema : Catalog) (changes : RowChanges) (size : ℕ) (index : Index) (lists : List (List ℕ)) → size ≡ length changes.fresh → IsIndexOf (new_place schema changes) size index → AreTold (new_blockers schema changes index) size lists
    → AreListsOf (new_refers schema changes) (length changes.fresh) lists
new_are_listed schema changes size index lists e is are =
    subst (λ n. AreListsOf (new_refers schema changes) n lists) e (told_lists (new_refers schema changes) (new_blockers schema changes index) size lists are below each)
  where
    referring : ℕ → List ℕ
    referring row = rows_referred schema index (known_row schema changes row) (table_at changes row) (spec_of schema (table_at changes row)).foreigns

    below : (row : ℕ) → All (λ other. other < size) (new_blockers schema changes index row)
    below row =
        All-append (λ other. other < size) (rows_taken (length changes.fresh) (first_cells schema changes row)) (referring row)
        (subst (λ n. All (λ other. other < size) (rows_taken n (first_cells schema changes row))) e (taken_below size (first_cells schema changes row)))
        (referred_below (new_place schema changes) size schema index (known_row schema changes row) (table_at changes row) (spec_of schema (table_at changes row)).foreigns is)

    each : (row other : ℕ) → row < size → other < size → is_among (new_blockers schema changes index row) other ≡ new_refers schema changes row other
    each row other h l =
        list_any-append (nat_eq other) (rows_taken (length changes.fresh) (first_cells schema changes row)) (referring row)
        ∙ ap (λ b. b || is_among (referring row) other) (taken (length changes.fresh) other (first_cells schema changes row) (subst (λ n. other < n) e l))
        ∙ ap (λ b. list_any (comes_from other) (first_cells schema changes row) || b)
        (referred (new_place schema changes) size schema index (known_row schema changes row) (table_at changes row) (spec_of schema (table_at changes row)).foreigns other is l)

-- ---- deleted rows

gone_are_told : (schema : Catalog) (changes : RowChanges) (size : ℕ) (index : Index) (lists : List (List ℕ)) → IsIndexOf (gone_place schema changes) size index → AreTold (gone_targets schema changes index) size lists
    → AreListsOf (λ row other. gone_refers schema changes (gone_at (gone_rows schema changes) other) (gone_at (gone_rows schema changes) row)) size lists
gone_are_told schema changes size index lists is are = told_lists (λ row other. gone_refers schema changes (gone_at (gone_rows schema changes) other) (gone_at (gone_rows schema changes) row)) (gone_targets schema changes index) size lists are below each
  where
    below : (row : ℕ) → All (λ other. other < size) (gone_targets schema changes index row)
    below row =
        referred_below (gone_place schema changes) size schema index (last_base schema changes (gone_at (gone_rows schema changes) row)) (gone_at (gone_rows schema changes) row).name.table
        (spec_of schema (gone_at (gone_rows schema changes) row).name.table).foreigns is

    each : (row other : ℕ) → row < size → other < size → is_among (gone_targets schema changes index row) other ≡ gone_refers schema changes (gone_at (gone_rows schema changes) other) (gone_at (gone_rows schema changes) row)
    each row other h l =
        referred (gone_place schema changes) size schema index (last_base schema changes (gone_at (gone_rows schema changes) row)) (gone_at (gone_rows schema changes) row).name.table
        (spec_of schema (gone_at (gone_rows schema changes) row).name.table).foreigns other is l

pub targets_are_rows : (schema : Catalog) (changes : RowChanges) (size : ℕ) (index : Index) (lists : List (List ℕ)) → IsIndexOf (gone_place schema changes) size index → AreTold (gone_targets schema changes index) size lists → AreRows lists
targets_are_rows schema changes size index lists is are = (gone_are_told schema changes size index lists is are).rows

pub gone_are_listed : (schema : Catalog) (changes : RowChanges) (rows : List ReadyGone) (index : Index) (lists waiting : List (List ℕ)) → AreReadyGone schema changes rows → IsIndexOf (gone_place schema changes) (length rows) index → AreTold (gone_targets schema changes index) (length rows) lists → AreMirrored lists waiting
    → AreListsOf (λ row other. gone_refers schema changes (gone_at (gone_rows schema changes) row) (gone_at (gone_rows schema changes) other)) (length (gone_rows schema changes)) waiting
gone_are_listed schema changes rows index lists waiting ready is are mirror =
    subst (λ n. AreListsOf (λ row other. gone_refers schema changes (gone_at (gone_rows schema changes) row) (gone_at (gone_rows schema changes) other)) n waiting) (gone_size schema changes rows ready)
    (mirrored_lists (λ row other. gone_refers schema changes (gone_at (gone_rows schema changes) other) (gone_at (gone_rows schema changes) row)) (length rows) lists waiting mirror
    (gone_are_told schema changes (length rows) index lists is are))
