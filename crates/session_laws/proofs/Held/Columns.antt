-- The cells of rows by the places of their columns: cells that are written, and what is drawn for a new row.
use Rattle.std.proofs.Common.{◌≡◌, ℕ, ℤ, zero, suc, ◌+◌, ◌<◌, Bool, true, false, cond, not, ◌==◌, if◌then◌else◌, List, [], ◌∷◌, length, map, get_or, Option, None, Some, refl, sym, ap, ◌∙◌, subst, arith}
use Rattle.std.specs.Prelude.{slice_set}
use Rattle.std.specs.List.{cons_option, enumerate_from, filter_map}
use Rattle.std.specs.Option.{option_map}
use Rattle.std.proofs.lemmas.Bool.{eqb-true}
use Rattle.std.proofs.lemmas.List.{get_or-set_other, get_or-set_same, length-set}
use Rattle.std.proofs.lemmas.Option.{same_Some}
use Rattle.base_core.specs.declared.ids.ColumnNo.{ColumnNo}
use Rattle.base_core.specs.declared.value.Value.{Value}
use Rattle.base_core.specs.declared.value.Value.TheVariants.{Int, Null}
use Rattle.schema_core.specs.declared.changes.RowCell.{RowCell}
use Rattle.schema_core.specs.declared.table.ColumnSpec.{ColumnSpec}
use Rattle.schema_core.specs.declared.table.TableSpec.{TableSpec}
use Rattle.schema_core.specs.Apply.{next_key, wants_key, with_cells, with_key, with_own_key}
use Rattle.schema_core.specs.Tables.{Rows}
use Rattle.std.specs.Cmp.{Equal-is}
use Rattle.base_core.specs.Order.{value_cmp}
use Rattle.base_core.proofs.Exact.{exact_value}
use Rattle.schema_core.specs.declared.changes.RowCell.TheVariants.{Given}
use Rattle.flush_plan.specs.Flushing.{Keys, value_of_cell}
use Rattle.object_rows.specs.Rows.{change_to, in_column, is_base}
use Rattle.session_laws.proofs.Plans.Facts.{true_false}
use Rattle.object_arena.specs.Fit.{is_empty}
use Rattle.flush_writes.specs.Writes.{writes_some}
use Rattle.class_mapping.proofs.Having.{Has}

pub not_same : (a b : ℕ) → (a ≡ b → ⊥) → (a == b) ≡ false
not_same a b apart = by (a == b) refl
  where
    by : (t : Bool) → (a == b) ≡ t → t ≡ false
    by true e = absurd (apart (eqb-true a b e))
    by false e = refl

-- ---- cells that are written

abbrev pub cell_then : (RowCell → Value) → Option (ColumnNo × RowCell) → Value → Value
cell_then value None before = before
cell_then value (Some cell) before = value cell.1

-- each cell is of the column that gave it
abbrev pub AreInPlace : (ℕ × ColumnSpec → Option (ColumnNo × RowCell)) → Type 0
AreInPlace f = (placed : ℕ × ColumnSpec) (cell : ColumnNo × RowCell) → f placed ≡ Some cell → placed.0 ≡ cell.0.0

abbrev pub put_all : (RowCell → Value) → List (ColumnNo × RowCell) → List (ColumnNo × Value)
put_all value cells = map (λ cell. (cell.0, value cell.1)) cells

module _ (value : RowCell → Value) (f : ℕ × ColumnSpec → Option (ColumnNo × RowCell)) (places : AreInPlace f) where
  abbrev written : List Value → ℕ → List ColumnSpec → List Value
  written row n columns = with_cells row (put_all value (filter_map f (enumerate_from n columns)))

  -- one column after another
  each_then : (P : List Value → Type 0) (row : List Value) (n : ℕ) (column : ColumnSpec) (columns : List ColumnSpec) → (f (n, column) ≡ None → P (written row (n + 1) columns))
      → ((cell : ColumnNo × RowCell) → f (n, column) ≡ Some cell → P (written (slice_set row n (value cell.1)) (n + 1) columns)) → P (written row n (column ∷ columns))
  each_then P row n column columns none some = by (f (n, column)) refl
    where
      by : (found : Option (ColumnNo × RowCell)) → f (n, column) ≡ found → P (with_cells row (put_all value (cons_option found (filter_map f (enumerate_from (n + 1) columns)))))
      by None e = none e
      by (Some cell) e = subst (λ (p : ℕ). P (written (slice_set row p (value cell.1)) (n + 1) columns)) (places (n, column) cell e) (some cell e)

  pub written_long : (row : List Value) (n : ℕ) (columns : List ColumnSpec) → length (written row n columns) ≡ length row
  written_long row n [] = refl
  written_long row n (column ∷ columns) =
      each_then (λ (left : List Value). length left ≡ length row) row n column columns (λ e. written_long row (n + 1) columns)
      (λ cell e. written_long (slice_set row n (value cell.1)) (n + 1) columns ∙ length-set row n (value cell.1))

  before_stays : (row : List Value) (n c : ℕ) (columns : List ColumnSpec) → c < n → get_or (written row n columns) c Null ≡ get_or row c Null
  before_stays row n c [] less = refl
  before_stays row n c (column ∷ columns) less =
      each_then (λ (left : List Value). get_or left c Null ≡ get_or row c Null) row n column columns (λ e. before_stays row (n + 1) c columns (omega (arith, less)))
      (λ cell e.
      before_stays (slice_set row n (value cell.1)) (n + 1) c columns (omega (arith, less))
      ∙ get_or-set_other row n c (value cell.1) Null (λ same. omega (arith, less, same)))

  written_from : (row : List Value) (n c : ℕ) (columns : List ColumnSpec) (d : ColumnSpec) → n + c < length row → c < length columns
      → get_or (written row n columns) (n + c) Null ≡ cell_then value (f (n + c, get_or columns c d)) (get_or row (n + c) Null)
  written_from row n c [] d inside less = absurd (omega (arith, less))
  written_from row n zero (column ∷ columns) d inside less =
      let here : n ≡ n + 0 = omega arith in
      let P : ℕ → List Value → Type 0 = λ p left. get_or left p Null ≡ cell_then value (f (p, column)) (get_or row p Null) in
      subst (λ (p : ℕ). P p (written row n (column ∷ columns))) here
      (each_then (P n) row n column columns
      (λ e. before_stays row (n + 1) n columns (omega arith) ∙ sym (ap (λ (found : Option (ColumnNo × RowCell)). cell_then value found (get_or row n Null)) e))
      (λ cell e.
      before_stays (slice_set row n (value cell.1)) (n + 1) n columns (omega arith)
      ∙ get_or-set_same row n (value cell.1) Null (omega (arith, inside))
      ∙ sym (ap (λ (found : Option (ColumnNo × RowCell)). cell_then value found (get_or row n Null)) e)))
  written_from row n (suc c) (column ∷ columns) d inside less =
      let same : n + 1 + c ≡ n + suc c = omega arith in
      let P : List Value → Type 0 = λ left. get_or left (n + suc c) Null ≡ cell_then value (f (n + suc c, get_or columns c d)) (get_or row (n + suc c) Null) in
      let later : (other : List Value) → length other ≡ length row → get_or other (n + suc c) Null ≡ get_or row (n + suc c) Null → P (written other (n + 1) columns) =
      λ other long alike.
      subst (λ (p : ℕ). get_or other p Null ≡ get_or row p Null → get_or (written other (n + 1) columns) p Null ≡ cell_then value (f (p, get_or columns c d)) (get_or row p Null)) same
      (λ at. written_from other (n + 1) c columns d (omega (arith, inside, long)) (omega (arith, less)) ∙ ap (cell_then value (f (n + 1 + c, get_or columns c d))) at) alike in
      each_then P row n column columns (λ e. later row refl refl)
      (λ cell e. later (slice_set row n (value cell.1)) (length-set row n (value cell.1)) (get_or-set_other row n (n + suc c) (value cell.1) Null (λ at. omega (arith, at))))

  -- a row with the cells written that columns give
  pub written_at : (row : List Value) (columns : List ColumnSpec) (c : ℕ) (d : ColumnSpec) → length row ≡ length columns → c < length columns
      → get_or (with_cells row (put_all value (filter_map f (enumerate_from 0 columns)))) c Null ≡ cell_then value (f (c, get_or columns c d)) (get_or row c Null)
  written_at row columns c d long less =
      let place : 0 + c ≡ c = omega arith in
      subst (λ (p : ℕ). get_or (written row 0 columns) p Null ≡ cell_then value (f (p, get_or columns c d)) (get_or row p Null)) place
      (written_from row 0 c columns d (omega (arith, long, less)) less)

-- ---- a key that is drawn

keyed_long : (columns : List ColumnSpec) (key : Value) (row : List Value) → length row ≡ length columns → length (with_key columns key row) ≡ length columns
keyed_long [] key row long = refl
keyed_long (column ∷ columns) key [] long = absurd (omega (arith, long))
keyed_long (column ∷ columns) key (cell ∷ row) long = ap suc (keyed_long columns key row (omega (arith, long)))

keyed_at : (columns : List ColumnSpec) (key : Value) (row : List Value) (c : ℕ) (d : ColumnSpec) → length row ≡ length columns → c < length columns → (get_or columns c d).key ≡ false → get_or (with_key columns key row) c Null ≡ get_or row c Null
keyed_at [] key row c d long less free = absurd (omega (arith, less))
keyed_at (column ∷ columns) key [] c d long less free = absurd (omega (arith, long))
keyed_at (column ∷ columns) key (cell ∷ row) zero d long less free = ap (λ (b : Bool). cond b key cell) free
keyed_at (column ∷ columns) key (cell ∷ row) (suc c) d long less free = keyed_at columns key row c d (omega (arith, long)) (omega (arith, less)) free

-- what is drawn for a row has its cells outside the key
pub record IsDrawn (columns : List ColumnSpec) (row drawn : List Value) : Type 0 where
  pub long : length drawn ≡ length columns
  pub cells : (c : ℕ) (d : ColumnSpec) → c < length columns → (get_or columns c d).key ≡ false → get_or drawn c Null ≡ get_or row c Null

pub drawn_is : (spec : TableSpec) (rows : Rows) (row drawn : List Value) → length row ≡ length spec.columns → with_own_key spec rows row ≡ Some drawn → IsDrawn spec.columns row drawn
drawn_is spec rows row drawn long = by (wants_key spec row) (next_key rows)
  where
    by : (b : Bool) (next : Option ℤ) → cond b (option_map (λ key. with_key spec.columns (Int key) row) next) (Some row) ≡ Some drawn → IsDrawn spec.columns row drawn
    by true None e = absurd cc
    by true (Some key) e =
        subst (IsDrawn spec.columns row) (same_Some (with_key spec.columns (Int key) row) drawn e)
        (record { long = keyed_long spec.columns (Int key) row long; cells = λ c d less free. keyed_at spec.columns (Int key) row c d long less free })
    by false next e = subst (IsDrawn spec.columns row) (same_Some row drawn e) (record { long = long; cells = λ c d less free. refl })

-- ---- a value that is written unless the row has it

pub base_is : (base : Option Value) (value : Value) → is_base base value ≡ true → base ≡ Some value
base_is None value h = absurd (true_false (sym h))
base_is (Some base) value h = ap (λ (v : Value). Some v) (sym (exact_value value base ((Equal-is (value_cmp value base)).0 h)))

-- what stands in a column then is the value
pub put_unless : (keys : Keys) (c : ℕ) (base : Option Value) (value before : Value) → (base ≡ Some value → before ≡ value) → cell_then (value_of_cell keys) (in_column c (change_to base value)) before ≡ value
put_unless keys c base value before same = by (is_base base value) refl
  where
    by : (b : Bool) → is_base base value ≡ b → cell_then (value_of_cell keys) (in_column c (let none : Option RowCell = None in if b then none else Some (Given value))) before ≡ value
    by true e = same (base_is base value e)
    by false e = refl

-- cells that change are written
pub some_cells : (cells : List (ColumnNo × RowCell)) (cell : ColumnNo × RowCell) → Has cells cell → (not (is_empty cells) ≡ true) × (writes_some cells ≡ true)
some_cells [] cell has = absurd has
some_cells (first ∷ cells) cell has = (refl, refl)
