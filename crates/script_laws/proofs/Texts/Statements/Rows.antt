-- A well-formed statement on rows is had from its form.
use Rattle.std.proofs.Common.{◌≡◌, ℕ, zero, suc, ◌+◌, ◌<◌, ◌≤◌, ◌==◌, Bool, true, false, not, ◌&&◌, ◌||◌, cond, List, [], ◌∷◌, map, length, refl, sym, ap, ◌∙◌, arith}
use Rattle.std.specs.Prelude.{count_by, filter, slice_get, slice_index_or, is_some, nat_eq, nat_lt}
use Rattle.std.specs.List.{list_all, list_any, AllByRecursion}
use Rattle.std.specs.Cmp.Lexicographic.{pointwise}
use Rattle.std.proofs.lemmas.Bool.{and_parts, eq-eqb, eqb-true, ne_eqb}
use Rattle.std.proofs.lemmas.List.Sums.{sum_by-cons}
use Rattle.base_core.specs.declared.ids.ColumnNo.{ColumnNo}
use Rattle.base_core.specs.declared.ids.TableId.{TableId}
use Rattle.base_core.specs.declared.value.Value.{Value}
use Rattle.base_core.specs.declared.value.Value.TheVariants as cell
use Rattle.schema_core.specs.declared.statement.RowStmt.{RowStmt}
use Rattle.schema_core.specs.declared.statement.RowStmt.TheVariants as row
use Rattle.schema_core.specs.declared.table.ColumnSpec.{ColumnSpec}
use Rattle.schema_core.specs.declared.table.TableSpec.{TableSpec}
use Rattle.schema_core.specs.Apply.{wants_key}
use Rattle.schema_core.specs.Catalog.{Catalog, IsTable, has_generated_key, is_free_integer, no_table, spec_of}
use Rattle.schema_core.specs.Tables.{fits, has_null, is_null, key_cells, key_of}
use Rattle.schema_core.specs.WellFormed.{AreNewRows, IsWellFormed, are_cells, is_row, may_hold}
use Rattle.base_core.specs.declared.dialect.Dialect.{Dialect}
use Rattle.sql_text.specs.Columns.{column_name}
use Rattle.script_laws.specs.Texts.Forms.Forms.{RowForm, fill, add, change, remove}
use Rattle.script_laws.specs.Texts.Forms.Form.{columns_with_values, given_cells, given_values, is_drawn, key_values, row_form, returned_columns}
use Rattle.sql_semantics.specs.DistinctNames.{has_columns, has_distinct_names}
use Rattle.script_laws.proofs.Texts.Readings.Rows.{one_row_form}
use Rattle.script_laws.specs.Texts.Statements.{IsOneRow}
use Rattle.script_laws.proofs.Texts.Statements.Bulks.{table_back, table_told, column_back, column_told}
use Rattle.script_laws.proofs.Texts.Statements.Parts.{list_told, one_more}

-- ---- from a form

-- the first value, or NULL in the place of one that is left out
abbrev place_value : Bool → List Value → (List Value → List Value) → List Value
place_value true values others = cell.Null ∷ others values
place_value false [] others = cell.Null ∷ others []
place_value false (v ∷ values) others = v ∷ others values

-- a row of the values that are given
abbrev filled : Bool → List ColumnSpec → List Value → List Value
filled drawn [] values = []
filled drawn (column ∷ columns) values = place_value (drawn && column.key) values (λ others. filled drawn columns others)

-- a key is generated where a column is left out
abbrev leaves_out : TableSpec → List (List ℕ) → Bool
leaves_out spec columns = not (length columns == length spec.columns)

abbrev add_back : Catalog → TableId → List (List ℕ) → List (List Value) → RowStmt
add_back schema table columns rows = row.Insert table (map (filled (leaves_out (spec_of schema table) columns) (spec_of schema table).columns) rows)

abbrev key_back : List (List ℕ × List ℕ × Value) → List Value
key_back key = map (λ c. c.2) key

abbrev change_back : Catalog → TableId → List (List ℕ × Value) → List (List ℕ × List ℕ × Value) → RowStmt
change_back schema table cells key = row.Update table (key_back key) (map (λ c. (column_back schema table c.0, c.1)) cells)

abbrev row_back : Catalog → RowForm → RowStmt
row_back schema (fill table answered) = row.Insert (table_back schema table) ((cell.Null ∷ []) ∷ [])
row_back schema (add table columns rows answered) = add_back schema (table_back schema table) columns rows
row_back schema (change table cells key) = change_back schema (table_back schema table) cells key
row_back schema (remove table key) = row.Delete (table_back schema table) (key_back key)

-- ---- rows

-- a row has a cell for each column, and NULL where the key is left out
abbrev IsOpen : Bool → List ColumnSpec → List Value → Type 0
IsOpen drawn [] [] = Unit {0}
IsOpen drawn [] (v ∷ cells) = ⊥
IsOpen drawn (c ∷ cs) [] = ⊥
IsOpen drawn (c ∷ cs) (v ∷ cells) = ((drawn && c.key) ≡ true → v ≡ cell.Null) × IsOpen drawn cs cells

placed : (k : Bool) (name : List ℕ) (v : Value) (given : List (List ℕ × Value)) (others : List Value → List Value) (cells : List Value) → (k ≡ true → v ≡ cell.Null) → others (map (λ c. c.1) given) ≡ cells
    → place_value k (map (λ c. c.1) (cond k given ((name, v) ∷ given))) others ≡ v ∷ cells
placed true name v given others cells null are = one_more (sym (null refl)) are
placed false name v given others cells null are = one_more refl are

filled_told : (drawn : Bool) (columns : List ColumnSpec) (cells : List Value) → IsOpen drawn columns cells → filled drawn columns (given_values drawn columns cells) ≡ cells
filled_told drawn [] [] open_row = refl
filled_told drawn [] (v ∷ cells) open_row = absurd open_row
filled_told drawn (c ∷ cs) [] open_row = absurd open_row
filled_told drawn (c ∷ cs) (v ∷ cells) open_row =
    placed (drawn && c.key) c.name v (given_cells drawn cs cells) (λ values. filled drawn cs values) cells open_row.0 (filled_told drawn cs cells open_row.1)

whole_row : (columns : List ColumnSpec) (cells : List Value) → pointwise may_hold columns cells ≡ true → IsOpen false columns cells
whole_row [] [] h = tt
whole_row [] (v ∷ cells) h = absurd (cc)
whole_row (c ∷ cs) [] h = absurd (cc)
whole_row (c ∷ cs) (v ∷ cells) h = (λ e. absurd (cc), whole_row cs cells (and_parts (may_hold c v) (pointwise may_hold cs cells) h).1)

count_step : (c : ColumnSpec) (cs : List ColumnSpec) → count_by (λ d. d.key) (c ∷ cs) ≡ cond c.key 1 0 + count_by (λ d. d.key) cs
count_step c cs = sum_by-cons (λ (d : ColumnSpec). cond d.key 1 0) c cs

-- columns without a key have no cells of it
no_keys : (columns : List ColumnSpec) (cells : List Value) → count_by (λ d. d.key) columns ≡ 0 → key_cells columns cells ≡ []
no_keys [] cells none = refl
no_keys (c ∷ cs) [] none = refl
no_keys (c ∷ cs) (v ∷ cells) none = by c.key (sym (count_step c cs) ∙ none) (no_keys cs cells)
  where
    by : (k : Bool) → cond k 1 0 + count_by (λ d. d.key) cs ≡ 0 → (count_by (λ d. d.key) cs ≡ 0 → key_cells cs cells ≡ []) → cond k (v ∷ key_cells cs cells) (key_cells cs cells) ≡ []
    by true e rec = absurd (omega arith)
    by false e rec = rec (omega arith)

null_is : (v : Value) → is_null v ≡ true → v ≡ cell.Null
null_is cell.Null e = refl
null_is (cell.Bool b) e = absurd (cc)
null_is (cell.Int n) e = absurd (cc)
null_is (cell.Text t) e = absurd (cc)
null_is (cell.Bytes b) e = absurd (cc)

null_first : (v : Value) (others : List Value) → others ≡ [] → has_null (v ∷ others) ≡ true → is_null v ≡ true
null_first v others none h = by (is_null v) (sym (ap (λ (vs : List Value). is_null v || has_null vs) none) ∙ h)
  where
    by : (b : Bool) → (b || false) ≡ true → b ≡ true
    by true e = refl
    by false e = e

key_apart : (columns : List ColumnSpec) (cells : List Value) → pointwise may_hold columns cells ≡ true → count_by (λ d. d.key) columns ≡ 0 → IsOpen true columns cells
key_apart [] [] h none = tt
key_apart [] (v ∷ cells) h none = absurd (cc)
key_apart (c ∷ cs) [] h none = absurd (cc)
key_apart (c ∷ cs) (v ∷ cells) h none =
    by c.key (sym (count_step c cs) ∙ none) (key_apart cs cells (and_parts (may_hold c v) (pointwise may_hold cs cells) h).1)
  where
    by : (k : Bool) → cond k 1 0 + count_by (λ d. d.key) cs ≡ 0 → (count_by (λ d. d.key) cs ≡ 0 → IsOpen true cs cells) → (k ≡ true → v ≡ cell.Null) × IsOpen true cs cells
    by true e rec = absurd (omega arith)
    by false e rec = (λ t. absurd (cc), rec (omega arith))

open_key : (columns : List ColumnSpec) (cells : List Value) → pointwise may_hold columns cells ≡ true → count_by (λ d. d.key) columns ≡ 1 → has_null (key_cells columns cells) ≡ true → IsOpen true columns cells
open_key [] [] h one null = tt
open_key [] (v ∷ cells) h one null = absurd (cc)
open_key (c ∷ cs) [] h one null = absurd (cc)
open_key (c ∷ cs) (v ∷ cells) h one null =
    let held : pointwise may_hold cs cells ≡ true = (and_parts (may_hold c v) (pointwise may_hold cs cells) h).1 in
    by c.key (sym (count_step c cs) ∙ one) null held (open_key cs cells held)
  where
    by : (k : Bool) → cond k 1 0 + count_by (λ d. d.key) cs ≡ 1 → has_null (cond k (v ∷ key_cells cs cells) (key_cells cs cells)) ≡ true → pointwise may_hold cs cells ≡ true
        → (count_by (λ d. d.key) cs ≡ 1 → has_null (key_cells cs cells) ≡ true → IsOpen true cs cells) → (k ≡ true → v ≡ cell.Null) × IsOpen true cs cells
    by true e n m rec =
        let none : count_by (λ d. d.key) cs ≡ 0 = omega arith in
        (λ t. null_is v (null_first v (key_cells cs cells) (no_keys cs cells none) n), key_apart cs cells m none)
    by false e n m rec = (λ t. absurd (cc), rec (omega arith) n)

row_open : (spec : TableSpec) (drawn : Bool) (cells : List Value) → is_row spec cells ≡ true → (drawn ≡ true → wants_key spec cells ≡ true) → IsOpen drawn spec.columns cells
row_open spec false cells held wants = whole_row spec.columns cells held
row_open spec true cells held wants =
    let parts = and_parts (has_generated_key spec) (has_null (key_of spec cells)) (wants refl) in
    let counted = and_parts (count_by (λ (d : ColumnSpec). d.key) spec.columns == 1) (list_any (λ (d : ColumnSpec). d.key && is_free_integer spec.foreigns d) spec.columns) parts.0 in
    open_key spec.columns cells held (eqb-true (count_by (λ (d : ColumnSpec). d.key) spec.columns) 1 counted.0) parts.1

rows_told : (spec : TableSpec) (drawn : Bool) (rows : List (List Value)) → list_all (is_row spec) rows ≡ true → (drawn ≡ true → list_all (wants_key spec) rows ≡ true)
    → map (filled drawn spec.columns) (map (given_values drawn spec.columns) rows) ≡ rows
rows_told spec drawn [] held wants = refl
rows_told spec drawn (cells ∷ rows) held wants =
    let both = and_parts (is_row spec cells) (list_all (is_row spec) rows) held in
    one_more (filled_told drawn spec.columns cells (row_open spec drawn cells both.0 (λ e. (and_parts (wants_key spec cells) (list_all (wants_key spec) rows) (wants e)).0)))
    (rows_told spec drawn rows both.1 (λ e. (and_parts (wants_key spec cells) (list_all (wants_key spec) rows) (wants e)).1))

-- ---- which columns are given

all_given : (columns : List ColumnSpec) → length (columns_with_values false columns) ≡ length columns
all_given [] = refl
all_given (c ∷ cs) = ap suc (all_given cs)

at_most_all : (columns : List ColumnSpec) → length (columns_with_values true columns) ≤ length columns
at_most_all [] = omega arith
at_most_all (c ∷ cs) = by c.key (at_most_all cs)
  where
    by : (k : Bool) → length (columns_with_values true cs) ≤ length cs → length (cond k (columns_with_values true cs) (c.name ∷ columns_with_values true cs)) ≤ suc (length cs)
    by true l = omega arith
    by false l = omega arith

fewer : (columns : List ColumnSpec) → count_by (λ d. d.key) columns ≡ 1 → length (columns_with_values true columns) < length columns
fewer [] one = absurd (omega arith)
fewer (c ∷ cs) one = by c.key (sym (count_step c cs) ∙ one) (fewer cs)
  where
    by : (k : Bool) → cond k 1 0 + count_by (λ d. d.key) cs ≡ 1 → (count_by (λ d. d.key) cs ≡ 1 → length (columns_with_values true cs) < length cs) → length (cond k (columns_with_values true cs) (c.name ∷ columns_with_values true cs)) < suc (length cs)
    by true e rec = let most : length (columns_with_values true cs) ≤ length cs = at_most_all cs in omega arith
    by false e rec = let less : length (columns_with_values true cs) < length cs = rec (omega arith) in omega arith

generated_once : (spec : TableSpec) → has_generated_key spec ≡ true → count_by (λ d. d.key) spec.columns ≡ 1
generated_once spec g =
    eqb-true (count_by (λ (d : ColumnSpec). d.key) spec.columns) 1
    (and_parts (count_by (λ (d : ColumnSpec). d.key) spec.columns == 1) (list_any (λ (d : ColumnSpec). d.key && is_free_integer spec.foreigns d) spec.columns) g).0

left_out : (spec : TableSpec) (drawn : Bool) → (drawn ≡ true → has_generated_key spec ≡ true) → leaves_out spec (columns_with_values drawn spec.columns) ≡ drawn
left_out spec false generated = ap not (eq-eqb (length (columns_with_values false spec.columns)) (length spec.columns) (all_given spec.columns))
left_out spec true generated =
    let less : length (columns_with_values true spec.columns) < length spec.columns = fewer spec.columns (generated_once spec (generated refl)) in
    ap not (ne_eqb (length (columns_with_values true spec.columns)) (length spec.columns) (λ e. absurd (omega arith)))

-- ---- the rows of a statement

alike_rows : (spec : TableSpec) (rows : List (List Value)) → (list_all (wants_key spec) rows || not (list_any (wants_key spec) rows)) ≡ true → is_drawn spec rows ≡ true → list_all (wants_key spec) rows ≡ true
alike_rows spec [] alike drawn = absurd (cc)
alike_rows spec (cells ∷ rows) alike drawn = by (list_all (wants_key spec) (cells ∷ rows)) (sym (ap (λ (b : Bool). list_all (wants_key spec) (cells ∷ rows) || not (b || list_any (wants_key spec) rows)) drawn) ∙ alike)
  where
    by : (b : Bool) → (b || false) ≡ true → b ≡ true
    by true e = refl
    by false e = e

drawn_generated : (spec : TableSpec) (rows : List (List Value)) → is_drawn spec rows ≡ true → has_generated_key spec ≡ true
drawn_generated spec [] drawn = absurd (cc)
drawn_generated spec (cells ∷ rows) drawn = (and_parts (has_generated_key spec) (has_null (key_of spec cells)) drawn).0

any_drawn : (spec : TableSpec) (rows : List (List Value)) → is_drawn spec rows ≡ true → list_any (wants_key spec) rows ≡ true
any_drawn spec [] drawn = absurd (cc)
any_drawn spec (cells ∷ rows) drawn = ap (λ (b : Bool). b || list_any (wants_key spec) rows) drawn

-- a table whose columns are all of a generated key has one
all_keys : (drawn : Bool) (columns : List ColumnSpec) → list_all (λ c. drawn && c.key) columns ≡ true → count_by (λ d. d.key) columns ≡ length columns
all_keys drawn [] h = refl
all_keys drawn (c ∷ cs) h =
    let both = and_parts (drawn && c.key) (list_all (λ (d : ColumnSpec). drawn && d.key) cs) h in
    count_step c cs ∙ by c.key (and_parts drawn c.key both.0).1 (all_keys drawn cs both.1)
  where
    by : (k : Bool) → k ≡ true → count_by (λ d. d.key) cs ≡ length cs → cond k 1 0 + count_by (λ d. d.key) cs ≡ suc (length cs)
    by true e rec = omega arith
    by false e rec = absurd (cc)

some_drawn : (drawn : Bool) (columns : List ColumnSpec) → nat_lt 0 (length columns) ≡ true → list_all (λ c. drawn && c.key) columns ≡ true → drawn ≡ true
some_drawn drawn [] some h = absurd (cc)
some_drawn drawn (c ∷ cs) some h = (and_parts drawn c.key (and_parts (drawn && c.key) (list_all (λ (d : ColumnSpec). drawn && d.key) cs) h).0).0

lone_row : (drawn : Bool) (columns : List ColumnSpec) (cells : List Value) → length columns ≡ 1 → list_all (λ c. drawn && c.key) columns ≡ true → IsOpen drawn columns cells → cells ≡ cell.Null ∷ []
lone_row drawn [] cells one keys open_row = absurd (omega arith)
lone_row drawn (c ∷ []) [] one keys open_row = absurd open_row
lone_row drawn (c ∷ []) (v ∷ []) one keys open_row = one_more (open_row.0 (and_parts (drawn && c.key) true keys).0) refl
lone_row drawn (c ∷ []) (v ∷ w ∷ cells) one keys open_row = absurd open_row.1
lone_row drawn (c ∷ d ∷ cs) cells one keys open_row = absurd (omega arith)

lone_rows : (rows : List (List Value)) (only : List Value) → length rows ≡ 1 → AllByRecursion (λ cells. cells ≡ only) rows → rows ≡ only ∷ []
lone_rows [] only one are = absurd (omega arith)
lone_rows (cells ∷ []) only one are = one_more are.0 refl
lone_rows (cells ∷ other ∷ rows) only one are = absurd (omega arith)

only_rows : (spec : TableSpec) (drawn : Bool) (rows : List (List Value)) → length spec.columns ≡ 1 → list_all (λ c. drawn && c.key) spec.columns ≡ true → list_all (is_row spec) rows ≡ true
    → (drawn ≡ true → list_all (wants_key spec) rows ≡ true) → AllByRecursion (λ cells. cells ≡ cell.Null ∷ []) rows
only_rows spec drawn [] one keys held wants = tt
only_rows spec drawn (cells ∷ rows) one keys held wants =
    let both = and_parts (is_row spec cells) (list_all (is_row spec) rows) held in (
      lone_row drawn spec.columns cells one keys (row_open spec drawn cells both.0 (λ e. (and_parts (wants_key spec cells) (list_all (wants_key spec) rows) (wants e)).0)),
      only_rows spec drawn rows one keys both.1 (λ e. (and_parts (wants_key spec cells) (list_all (wants_key spec) rows) (wants e)).1),
    )

filling : (spec : TableSpec) (rows : List (List Value)) → nat_lt 0 (length spec.columns) ≡ true → AreNewRows spec rows → list_all (λ c. is_drawn spec rows && c.key) spec.columns ≡ true → (cell.Null ∷ []) ∷ [] ≡ rows
filling spec rows some new keys =
    let drawn : is_drawn spec rows ≡ true = some_drawn (is_drawn spec rows) spec.columns some keys in
    let one : length spec.columns ≡ 1 = sym (all_keys (is_drawn spec rows) spec.columns keys) ∙ generated_once spec (drawn_generated spec rows drawn) in
    sym (lone_rows rows (cell.Null ∷ []) (new.alone one (any_drawn spec rows drawn)) (only_rows spec (is_drawn spec rows) rows one keys new.wide (alike_rows spec rows new.alike)))

-- ---- keys and cells

keys_told : (table : List ℕ) (columns : List ColumnSpec) (key : List Value) → pointwise fits (filter (λ c. c.key) columns) key ≡ true → key_back (key_values table columns key) ≡ key
keys_told table [] [] h = refl
keys_told table [] (v ∷ key) h = absurd (cc)
keys_told table (c ∷ cs) [] h = refl
keys_told table (c ∷ cs) (v ∷ key) h = by c.key h (keys_told table cs key) (keys_told table cs (v ∷ key))
  where
    by : (k : Bool) → pointwise fits (cond k (c ∷ filter (λ d. d.key) cs) (filter (λ d. d.key) cs)) (v ∷ key) ≡ true → (pointwise fits (filter (λ d. d.key) cs) key ≡ true → key_back (key_values table cs key) ≡ key)
        → (pointwise fits (filter (λ d. d.key) cs) (v ∷ key) ≡ true → key_back (key_values table cs (v ∷ key)) ≡ v ∷ key)
        → key_back (cond k ((table, c.name, v) ∷ key_values table cs key) (key_values table cs (v ∷ key))) ≡ v ∷ key
    by true h rest same = one_more refl (rest (and_parts (fits c v) (pointwise fits (filter (λ (d : ColumnSpec). d.key) cs) key) h).1)
    by false h rest same = same h

either : {P : Type 0} (a b : Bool) → (a || b) ≡ true → (a ≡ true → P) → (b ≡ true → P) → P
either true b e one other = one refl
either false b e one other = other e

cells_below : (most place : ℕ) (columns : List ColumnSpec) (cells : List (ColumnNo × Value)) → place + length columns ≡ most → are_cells place columns cells ≡ true → AllByRecursion (λ c. c.0.0 < most) cells
cells_below most place columns [] e h = tt
cells_below most place [] (c ∷ cells) e h = absurd (cc)
cells_below most place (column ∷ columns) (c ∷ cells) e h =
    let next : suc place + length columns ≡ most = omega arith in
    either (nat_lt place c.0.0 && are_cells (suc place) columns (c ∷ cells)) (nat_eq place c.0.0 && not column.key && may_hold column c.1 && are_cells (suc place) columns cells) h
    (λ later. cells_below most (suc place) columns (c ∷ cells) next (and_parts (nat_lt place c.0.0) (are_cells (suc place) columns (c ∷ cells)) later).1)
    (λ here.
    let all = and_parts (nat_eq place c.0.0 && not column.key && may_hold column c.1) (are_cells (suc place) columns cells) here in
    let fit = and_parts (nat_eq place c.0.0 && not column.key) (may_hold column c.1) all.0 in
    let same : place ≡ c.0.0 = eqb-true place c.0.0 (and_parts (nat_eq place c.0.0) (not column.key) fit.0).0 in
    (omega arith, cells_below most (suc place) columns cells next all.1))

some_at : {A : Type 0} (xs : List A) (i : ℕ) → i < length xs → is_some (slice_get xs i) ≡ true
some_at [] i l = absurd (omega arith)
some_at (x ∷ xs) zero l = refl
some_at (x ∷ xs) (suc i) l = some_at xs i (omega arith)

all_within : {A : Type 0} (p : A → Bool) (xs : List A) (i : ℕ) (d : A) → list_all p xs ≡ true → i < length xs → p (slice_index_or xs i d) ≡ true
all_within p [] i d h l = absurd (omega arith)
all_within p (x ∷ xs) zero d h l = (and_parts (p x) (list_all p xs) h).0
all_within p (x ∷ xs) (suc i) d h l = all_within p xs i d (and_parts (p x) (list_all p xs) h).1 (omega arith)

module _ (q : Dialect) (schema : Catalog) (named : has_distinct_names schema ≡ true) (full : has_columns schema ≡ true) where
  cells_told : (table : TableId) (cells : List (ColumnNo × Value)) → AllByRecursion (λ c. c.0.0 < length (spec_of schema table).columns) cells
      → map (λ (c : List ℕ × Value). (column_back schema table c.0, c.1)) (map (λ (c : ColumnNo × Value). (column_name schema table c.0, c.1)) cells) ≡ cells
  cells_told table cells below =
      list_told (λ (c : ColumnNo × Value). (column_name schema table c.0, c.1)) (λ (c : List ℕ × Value). (column_back schema table c.0, c.1)) (λ c. c.0.0 < length (spec_of schema table).columns)
      (λ c l. ap (λ (n : ColumnNo). (n, c.1)) (column_told q schema named table c.0 (some_at (spec_of schema table).columns c.0.0 l))) cells below

  some_columns : (table : TableId) → IsTable schema table → nat_lt 0 (length (spec_of schema table).columns) ≡ true
  some_columns table there = all_within (λ (spec : TableSpec). nat_lt 0 (length spec.columns)) schema.tables table.0 no_table full there

  insert_told : (table : TableId) (rows : List (List Value)) → IsTable schema table → AreNewRows (spec_of schema table) rows → row_back schema (row_form q schema (row.Insert table rows)) ≡ row.Insert table rows
  insert_told table rows there new = by (list_all (λ c. (is_drawn (spec_of schema table) rows) && c.key) (spec_of schema table).columns) refl
    where
      by : (b : Bool) → list_all (λ c. (is_drawn (spec_of schema table) rows) && c.key) (spec_of schema table).columns ≡ b
          → row_back schema (cond b (fill (spec_of schema table).name (returned_columns q (is_drawn (spec_of schema table) rows) (spec_of schema table))) (add (spec_of schema table).name (columns_with_values (is_drawn (spec_of schema table) rows) (spec_of schema table).columns) (map (given_values (is_drawn (spec_of schema table) rows) (spec_of schema table).columns) rows) (returned_columns q (is_drawn (spec_of schema table) rows) (spec_of schema table)))) ≡ row.Insert table rows
      by true keys =
          ap (λ (t : TableId). row.Insert t ((cell.Null ∷ []) ∷ [])) (table_told q schema named table there) ∙ ap (row.Insert table) (filling (spec_of schema table) rows (some_columns table there) new keys)
      by false keys =
          ap (λ (t : TableId). add_back schema t (columns_with_values (is_drawn (spec_of schema table) rows) (spec_of schema table).columns) (map (given_values (is_drawn (spec_of schema table) rows) (spec_of schema table).columns) rows)) (table_told q schema named table there)
          ∙ (ap (λ (d : Bool). row.Insert table (map (filled d (spec_of schema table).columns) (map (given_values (is_drawn (spec_of schema table) rows) (spec_of schema table).columns) rows))) (left_out (spec_of schema table) (is_drawn (spec_of schema table) rows) (drawn_generated (spec_of schema table) rows))
          ∙ ap (row.Insert table) (rows_told (spec_of schema table) (is_drawn (spec_of schema table) rows) rows new.wide (alike_rows (spec_of schema table) rows new.alike)))

  row_told : (it : RowStmt) → IsWellFormed schema it → row_back schema (row_form q schema it) ≡ it
  row_told (row.Insert table rows) formed = insert_told table rows formed.0 formed.1
  row_told (row.Update table key cells) formed =
      ap (λ (t : TableId). change_back schema t (map (λ (c : ColumnNo × Value). (column_name schema table c.0, c.1)) cells) (key_values (spec_of schema table).name (spec_of schema table).columns key))
      (table_told q schema named table formed.0)
      ∙ (ap (λ (k : List Value). row.Update table k (map (λ (c : List ℕ × Value). (column_back schema table c.0, c.1)) (map (λ (c : ColumnNo × Value). (column_name schema table c.0, c.1)) cells)))
      (keys_told (spec_of schema table).name (spec_of schema table).columns key formed.1)
      ∙ ap (row.Update table key) (cells_told table cells (cells_below (length (spec_of schema table).columns) 0 (spec_of schema table).columns cells (omega arith) formed.3)))
  row_told (row.Delete table key) formed =
      ap (λ (t : TableId). row.Delete t (key_back (key_values (spec_of schema table).name (spec_of schema table).columns key))) (table_told q schema named table formed.0)
      ∙ ap (row.Delete table) (keys_told (spec_of schema table).name (spec_of schema table).columns key formed.1)

pub one_row : IsOneRow
one_row dialect schema text values it other named full formed other_formed reads other_reads =
    sym (row_told dialect schema named full it formed)
    ∙ (ap (row_back schema) (one_row_form dialect text values (row_form dialect schema it) (row_form dialect schema other) reads other_reads) ∙ row_told dialect schema named full other other_formed)
