-- Cells of columns in order.
use Rattle.std.proofs.Common.{◌≡◌, ℕ, suc, ◌+◌, ◌<◌, ◌≤◌, Bool, true, false, not, ◌&&◌, ◌||◌, List, [], ◌∷◌, Option, None, Some, refl, ap, ◌∙◌, add-one, subst, arith}
use Rattle.std.proofs.lemmas.Bool.{and_from, and_parts, eq-eqb, eqb-true, lt-ltb}
use Rattle.std.specs.Prelude.{nat_eq, nat_lt}
use Rattle.std.specs.List.{cons_option, enumerate_from, filter_map}
use Rattle.base_core.proofs.Tests.{or_first, or_then}
use Rattle.base_core.specs.declared.ids.ColumnNo.{ColumnNo}
use Rattle.schema_core.specs.declared.changes.RowCell.{RowCell}
use Rattle.schema_core.specs.declared.table.ColumnSpec.{ColumnSpec}
use Rattle.session_laws.specs.Plans.Laws.{are_at}

-- a fact by the test that passes
by_either : {A : Type 0} (a b : Bool) → (a || b) ≡ true → (a ≡ true → A) → (b ≡ true → A) → A
by_either true b h one other = one refl
by_either false b h one other = other h

-- the first cell is of no column before the place
first_least : (columns : List ColumnSpec) (p : ℕ) (cell : ColumnNo × RowCell) (cells : List (ColumnNo × RowCell)) → are_at p columns (cell ∷ cells) ≡ true → p ≤ cell.0.0
first_least [] p cell cells h = absurd (cc)
first_least (column ∷ columns) p cell cells h =
    by_either (nat_lt p cell.0.0 && are_at (suc p) columns (cell ∷ cells)) (nat_eq p cell.0.0 && not column.key && are_at (suc p) columns cells) h
    (λ later. omega (arith, first_least columns (suc p) cell cells (and_parts (nat_lt p cell.0.0) (are_at (suc p) columns (cell ∷ cells)) later).1))
    (λ here. omega (arith, eqb-true p cell.0.0 (and_parts (nat_eq p cell.0.0) (not column.key) (and_parts (nat_eq p cell.0.0 && not column.key) (are_at (suc p) columns cells) here).0).0))

-- cells of later columns
later_columns : (column : ColumnSpec) (columns : List ColumnSpec) (p : ℕ) (cells : List (ColumnNo × RowCell)) → are_at (suc p) columns cells ≡ true → are_at p (column ∷ columns) cells ≡ true
later_columns column columns p [] h = refl
later_columns column columns p (cell ∷ cells) h =
    let less : p < cell.0.0 = omega (arith, first_least columns (suc p) cell cells h) in
    or_first (nat_lt p cell.0.0 && are_at (suc p) columns (cell ∷ cells)) (nat_eq p cell.0.0 && not column.key && are_at (suc p) columns cells)
    (and_from (nat_lt p cell.0.0) (are_at (suc p) columns (cell ∷ cells)) (lt-ltb p cell.0.0 less) h)

not_key : (b : Bool) → b ≡ false → not b ≡ true
not_key b e = ap not e

-- a cell of this column before them
this_column : (column : ColumnSpec) (columns : List ColumnSpec) (p : ℕ) (cell : ColumnNo × RowCell) (cells : List (ColumnNo × RowCell)) → p ≡ cell.0.0 → column.key ≡ false → are_at (suc p) columns cells ≡ true → are_at p (column ∷ columns) (cell ∷ cells) ≡ true
this_column column columns p cell cells at key h =
    or_then (nat_lt p cell.0.0 && are_at (suc p) columns (cell ∷ cells)) (nat_eq p cell.0.0 && not column.key && are_at (suc p) columns cells)
    (and_from (nat_eq p cell.0.0 && not column.key) (are_at (suc p) columns cells)
    (and_from (nat_eq p cell.0.0) (not column.key) (eq-eqb p cell.0.0 at) (not_key column.key key)) h)

column_step : (column : ColumnSpec) (columns : List ColumnSpec) (p : ℕ) (found : Option (ColumnNo × RowCell)) (cells : List (ColumnNo × RowCell))
    → ((cell : ColumnNo × RowCell) → found ≡ Some cell → (p ≡ cell.0.0) × (column.key ≡ false)) → are_at (suc p) columns cells ≡ true → are_at p (column ∷ columns) (cons_option found cells) ≡ true
column_step column columns p None cells keeps rest = later_columns column columns p cells rest
column_step column columns p (Some cell) cells keeps rest = this_column column columns p cell cells (keeps cell refl).0 (keeps cell refl).1 rest

-- what a test of columns leaves of them is in order
pub from_columns : (f : ℕ × ColumnSpec → Option (ColumnNo × RowCell)) → ((placed : ℕ × ColumnSpec) (cell : ColumnNo × RowCell) → f placed ≡ Some cell → (placed.0 ≡ cell.0.0) × (placed.1.key ≡ false)) → (columns : List ColumnSpec) (p : ℕ) → are_at p columns (filter_map f (enumerate_from p columns)) ≡ true
from_columns f keeps [] p = refl
from_columns f keeps (column ∷ columns) p =
    column_step column columns p (f (p, column)) (filter_map f (enumerate_from (p + 1) columns)) (λ cell e. keeps (p, column) cell e)
    (subst (λ k. are_at k columns (filter_map f (enumerate_from (p + 1) columns)) ≡ true) (add-one p) (from_columns f keeps columns (p + 1)))

pub no_key : (b : Bool) → not b ≡ true → b ≡ false
no_key true e = absurd (cc)
no_key false e = refl

here_still : (g : ColumnNo × RowCell → Option (ColumnNo × RowCell)) → ((cell other : ColumnNo × RowCell) → g cell ≡ Some other → cell.0.0 ≡ other.0.0) → (column : ColumnSpec) (columns : List ColumnSpec) (p : ℕ) (cell : ColumnNo × RowCell) (cells : List (ColumnNo × RowCell)) (r : Option (ColumnNo × RowCell)) → g cell ≡ r
    → p ≡ cell.0.0 → column.key ≡ false → are_at (suc p) columns (filter_map g cells) ≡ true → are_at p (column ∷ columns) (cons_option r (filter_map g cells)) ≡ true
here_still g same column columns p cell cells None e at key rest = later_columns column columns p (filter_map g cells) rest
here_still g same column columns p cell cells (Some other) e at key rest = this_column column columns p other (filter_map g cells) (at ∙ same cell other e) key rest

-- cells in order that keep their columns, or are left out, stay in order
pub still_in_order : (g : ColumnNo × RowCell → Option (ColumnNo × RowCell)) → ((cell other : ColumnNo × RowCell) → g cell ≡ Some other → cell.0.0 ≡ other.0.0) → (columns : List ColumnSpec) (p : ℕ) (cells : List (ColumnNo × RowCell)) → are_at p columns cells ≡ true → are_at p columns (filter_map g cells) ≡ true
still_in_order g same columns p [] h = refl
still_in_order g same [] p (cell ∷ cells) h = absurd (cc)
still_in_order g same (column ∷ columns) p (cell ∷ cells) h =
    by_either (nat_lt p cell.0.0 && are_at (suc p) columns (cell ∷ cells)) (nat_eq p cell.0.0 && not column.key && are_at (suc p) columns cells) h
    (λ later. later_columns column columns p (filter_map g (cell ∷ cells)) (still_in_order g same columns (suc p) (cell ∷ cells) (and_parts (nat_lt p cell.0.0) (are_at (suc p) columns (cell ∷ cells)) later).1))
    (λ here. here_still g same column columns p cell cells (g cell) refl
    (eqb-true p cell.0.0 (and_parts (nat_eq p cell.0.0) (not column.key) (and_parts (nat_eq p cell.0.0 && not column.key) (are_at (suc p) columns cells) here).0).0)
    (no_key column.key (and_parts (nat_eq p cell.0.0) (not column.key) (and_parts (nat_eq p cell.0.0 && not column.key) (are_at (suc p) columns cells) here).0).1)
    (still_in_order g same columns (suc p) cells (and_parts (nat_eq p cell.0.0 && not column.key) (are_at (suc p) columns cells) here).1))
