-- Steps of loops over the columns of a table beside the cells of a row.
use Rattle.std.proofs.Common.{◌≡◌, ℕ, zero, suc, ◌+◌, ◌<◌, ◌≤◌, Bool, true, false, not, cond, ◌&&◌, ◌||◌, List, [], ◌∷◌, ◌++◌, map, length, get_or, drop, take, slice_get, slice_set, None, Some, refl, sym, ap, ◌∙◌, add-one, drop-cons, append_assoc, append-nil, arith}
use Rattle.std.proofs.lemmas.List.{drop_all, take_more, map-append}
use Rattle.std.proofs.lemmas.Option.{slice_get_within, get_or_from_slice_get}
use Rattle.base_core.proofs.Tests.{and_false}
use Rattle.base_core.specs.declared.ids.ColumnNo.{ColumnNo}
use Rattle.base_core.specs.declared.value.Value.{Value}
use Rattle.base_core.specs.declared.value.Value.TheVariants.{Null}
use Rattle.schema_core.specs.declared.table.ColumnSpec.{ColumnSpec}
use Rattle.row_judging.specs.Cells.{cell_or_key}
use Rattle.schema_core.specs.Apply.{with_cells, with_key}
use Rattle.schema_core.specs.Judged.{lacks_value}
use Rattle.schema_core.specs.Catalog.{same_name}
use Rattle.schema_core.specs.Tables.{cell_of, is_null, key_cells}

at : {A : Type 0} (xs : List A) (i : ℕ) (d : A) → i < length xs → drop i xs ≡ get_or xs i d ∷ drop (i + 1) xs
at xs i d h = rw (add-one, drop-cons xs i d) refl

got : {A : Type 0} (ys : List A) (i : ℕ) (y : A) → slice_get ys i ≡ Some y → drop i ys ≡ y ∷ drop (i + 1) ys
got ys i y is = at ys i y (slice_get_within ys i y is) ∙ ap (λ x. x ∷ drop (i + 1) ys) (get_or_from_slice_get ys i y y is)

ended : {A : Type 0} (ys : List A) (i : ℕ) → slice_get ys i ≡ None → drop i ys ≡ []
ended [] i is = drop_all i [] (omega arith)
ended (y ∷ ys) zero is = cc
ended (y ∷ ys) (suc i) is = ended ys i is

set_past : {A : Type 0} (ys : List A) (i : ℕ) (y : A) → length ys ≤ i → slice_set ys i y ≡ ys
set_past [] i y h = refl
set_past (x ∷ ys) zero y h = absurd (omega arith)
set_past (x ∷ ys) (suc i) y h = let less : length ys ≤ i = omega arith in ap (λ zs. x ∷ zs) (set_past ys i y less)

both : {A B C : Type 0} (F : List A → List B → C) (xs : List A) (ys : List B) (i : ℕ) (d : A) (y : B) → i < length xs → slice_get ys i ≡ Some y
    → F (drop i xs) (drop i ys) ≡ F (get_or xs i d ∷ drop (i + 1) xs) (y ∷ drop (i + 1) ys)
both F xs ys i d y h is = ap (λ zs. F zs (drop i ys)) (at xs i d h) ∙ ap (F (get_or xs i d ∷ drop (i + 1) xs)) (got ys i y is)

-- ---- the cell of a name

pub cell_hit : (columns : List ColumnSpec) (row : List Value) (name : List ℕ) (i : ℕ) (d : ColumnSpec) (cell : Value) → i < length columns → slice_get row i ≡ Some cell
    → same_name (get_or columns i d).name name ≡ true → cell_of (drop i columns) (drop i row) name ≡ cell
cell_hit columns row name i d cell h is same =
    both (λ cs r. cell_of cs r name) columns row i d cell h is ∙ ap (λ b. cond b cell (cell_of (drop (i + 1) columns) (drop (i + 1) row) name)) same

pub cell_next : (columns : List ColumnSpec) (row : List Value) (name : List ℕ) (i : ℕ) (d : ColumnSpec) (cell : Value) → i < length columns → slice_get row i ≡ Some cell
    → same_name (get_or columns i d).name name ≡ false → cell_of (drop (i + 1) columns) (drop (i + 1) row) name ≡ cell_of (drop i columns) (drop i row) name
cell_next columns row name i d cell h is other =
    sym (both (λ cs r. cell_of cs r name) columns row i d cell h is ∙ ap (λ b. cond b cell (cell_of (drop (i + 1) columns) (drop (i + 1) row) name)) other)

pub cell_end : (columns : List ColumnSpec) (row : List Value) (name : List ℕ) (i : ℕ) → length columns ≤ i → cell_of (drop i columns) (drop i row) name ≡ Null
cell_end columns row name i h = ap (λ cs. cell_of cs (drop i row) name) (drop_all i columns h)

short_cell : (columns : List ColumnSpec) (name : List ℕ) → cell_of columns [] name ≡ Null
short_cell [] name = refl
short_cell (c ∷ cs) name = refl

pub cell_short : (columns : List ColumnSpec) (row : List Value) (name : List ℕ) (i : ℕ) → slice_get row i ≡ None → cell_of (drop i columns) (drop i row) name ≡ Null
cell_short columns row name i none = ap (λ r. cell_of (drop i columns) r name) (ended row i none) ∙ short_cell (drop i columns) name

pub ruleset cell_steps = (cell_hit, cell_next, cell_end, cell_short)

-- ---- cells of a list of names

pub map_more : {A B : Type 0} (f : A → B) (xs : List A) (i : ℕ) (d : A) → i < length xs → map f (take i xs) ++ f (get_or xs i d) ∷ [] ≡ map f (take (i + 1) xs)
map_more f xs i d h = sym (ap (map f) (take_more xs i d h) ∙ map-append f (take i xs) (get_or xs i d ∷ []))

-- ---- the key of a row

pub key_column : (columns : List ColumnSpec) (row : List Value) (keys : List Value) (i : ℕ) (d : ColumnSpec) (cell : Value) → i < length columns → slice_get row i ≡ Some cell
    → (get_or columns i d).key ≡ true → (keys ++ cell ∷ []) ++ key_cells (drop (i + 1) columns) (drop (i + 1) row) ≡ keys ++ key_cells (drop i columns) (drop i row)
key_column columns row keys i d cell h is key =
    append_assoc keys (cell ∷ []) (key_cells (drop (i + 1) columns) (drop (i + 1) row))
    ∙ ap (λ k. keys ++ k) (sym (both key_cells columns row i d cell h is ∙ ap (λ b. cond b (cell ∷ key_cells (drop (i + 1) columns) (drop (i + 1) row)) (key_cells (drop (i + 1) columns) (drop (i + 1) row))) key))

pub plain_column : (columns : List ColumnSpec) (row : List Value) (i : ℕ) (d : ColumnSpec) (cell : Value) → i < length columns → slice_get row i ≡ Some cell
    → (get_or columns i d).key ≡ false → key_cells (drop (i + 1) columns) (drop (i + 1) row) ≡ key_cells (drop i columns) (drop i row)
plain_column columns row i d cell h is plain =
    sym (both key_cells columns row i d cell h is ∙ ap (λ b. cond b (cell ∷ key_cells (drop (i + 1) columns) (drop (i + 1) row)) (key_cells (drop (i + 1) columns) (drop (i + 1) row))) plain)

pub key_end : (columns : List ColumnSpec) (row : List Value) (i : ℕ) → length columns ≤ i → key_cells (drop i columns) (drop i row) ≡ []
key_end columns row i h = ap (λ cs. key_cells cs (drop i row)) (drop_all i columns h)

short_key : (columns : List ColumnSpec) → key_cells columns [] ≡ []
short_key [] = refl
short_key (c ∷ cs) = refl

pub key_short : (columns : List ColumnSpec) (row : List Value) (i : ℕ) → slice_get row i ≡ None → key_cells (drop i columns) (drop i row) ≡ []
key_short columns row i none = ap (λ r. key_cells (drop i columns) r) (ended row i none) ∙ short_key (drop i columns)

pub ruleset key_steps = (key_column, plain_column, key_end, key_short, append-nil)

-- ---- a NULL that is not taken

pub lack_hit : (required : ColumnSpec → Bool) (columns : List ColumnSpec) (row : List Value) (i : ℕ) (d : ColumnSpec) (cell : Value) → i < length columns → slice_get row i ≡ Some cell
    → required (get_or columns i d) ≡ true → is_null cell ≡ true → lacks_value required (drop i columns) (drop i row) ≡ true
lack_hit required columns row i d cell h is demanded null =
    both (lacks_value required) columns row i d cell h is
    ∙ ap (λ b. (b && is_null cell) || lacks_value required (drop (i + 1) columns) (drop (i + 1) row)) demanded
    ∙ ap (λ b. b || lacks_value required (drop (i + 1) columns) (drop (i + 1) row)) null

pub lack_free : (required : ColumnSpec → Bool) (columns : List ColumnSpec) (row : List Value) (i : ℕ) (d : ColumnSpec) (cell : Value) → i < length columns → slice_get row i ≡ Some cell
    → required (get_or columns i d) ≡ false → lacks_value required (drop (i + 1) columns) (drop (i + 1) row) ≡ lacks_value required (drop i columns) (drop i row)
lack_free required columns row i d cell h is free =
    sym (both (lacks_value required) columns row i d cell h is ∙ ap (λ b. (b && is_null cell) || lacks_value required (drop (i + 1) columns) (drop (i + 1) row)) free)

pub lack_held : (required : ColumnSpec → Bool) (columns : List ColumnSpec) (row : List Value) (i : ℕ) (d : ColumnSpec) (cell : Value) → i < length columns → slice_get row i ≡ Some cell
    → is_null cell ≡ false → lacks_value required (drop (i + 1) columns) (drop (i + 1) row) ≡ lacks_value required (drop i columns) (drop i row)
lack_held required columns row i d cell h is held =
    sym (both (lacks_value required) columns row i d cell h is
    ∙ ap (λ b. (required (get_or columns i d) && b) || lacks_value required (drop (i + 1) columns) (drop (i + 1) row)) held
    ∙ ap (λ b. b || lacks_value required (drop (i + 1) columns) (drop (i + 1) row)) (and_false (required (get_or columns i d))))

pub lack_end : (required : ColumnSpec → Bool) (columns : List ColumnSpec) (row : List Value) (i : ℕ) → length columns ≤ i → lacks_value required (drop i columns) (drop i row) ≡ false
lack_end required columns row i h = ap (λ cs. lacks_value required cs (drop i row)) (drop_all i columns h)

short_lack : (required : ColumnSpec → Bool) (columns : List ColumnSpec) → lacks_value required columns [] ≡ false
short_lack required [] = refl
short_lack required (c ∷ cs) = refl

pub lack_short : (required : ColumnSpec → Bool) (columns : List ColumnSpec) (row : List Value) (i : ℕ) → slice_get row i ≡ None → lacks_value required (drop i columns) (drop i row) ≡ false
lack_short required columns row i none = ap (λ r. lacks_value required (drop i columns) r) (ended row i none) ∙ short_lack required (drop i columns)

pub ruleset lack_steps = (lack_hit, lack_free, lack_held, lack_end, lack_short)

-- ---- the key written in a row

pub keyed_cell : (columns : List ColumnSpec) (key : Value) (row cells : List Value) (i : ℕ) (d : ColumnSpec) (cell : Value) → i < length columns → slice_get row i ≡ Some cell
    → (cells ++ cell_or_key (get_or columns i d) key cell ∷ []) ++ with_key (drop (i + 1) columns) key (drop (i + 1) row) ≡ cells ++ with_key (drop i columns) key (drop i row)
keyed_cell columns key row cells i d cell h is =
    append_assoc cells (cell_or_key (get_or columns i d) key cell ∷ []) (with_key (drop (i + 1) columns) key (drop (i + 1) row))
    ∙ ap (λ r. cells ++ r) (sym (both (λ cs r. with_key cs key r) columns row i d cell h is))

pub keyed_end : (columns : List ColumnSpec) (key : Value) (row : List Value) (i : ℕ) → length columns ≤ i → with_key (drop i columns) key (drop i row) ≡ []
keyed_end columns key row i h = ap (λ cs. with_key cs key (drop i row)) (drop_all i columns h)

short_keyed : (key : Value) (columns : List ColumnSpec) → with_key columns key [] ≡ []
short_keyed key [] = refl
short_keyed key (c ∷ cs) = refl

pub keyed_short : (columns : List ColumnSpec) (key : Value) (row : List Value) (i : ℕ) → slice_get row i ≡ None → with_key (drop i columns) key (drop i row) ≡ []
keyed_short columns key row i none = ap (with_key (drop i columns) key) (ended row i none) ∙ short_keyed key (drop i columns)

pub ruleset keyed_steps = (keyed_cell, keyed_end, keyed_short, append-nil)

-- ---- cells written in a row

pub cell_written : (row : List Value) (written : List (ColumnNo × Value)) (i : ℕ) (d : ColumnNo × Value) → i < length written
    → with_cells (slice_set row (get_or written i d).0.0 (get_or written i d).1) (drop (i + 1) written) ≡ with_cells row (drop i written)
cell_written row written i d h = sym (ap (with_cells row) (at written i d h))

pub cell_past : (row : List Value) (written : List (ColumnNo × Value)) (i : ℕ) (d : ColumnNo × Value) → i < length written → length row ≤ (get_or written i d).0.0
    → with_cells row (drop (i + 1) written) ≡ with_cells row (drop i written)
cell_past row written i d h past =
    sym (ap (with_cells row) (at written i d h) ∙ ap (λ r. with_cells r (drop (i + 1) written)) (set_past row (get_or written i d).0.0 (get_or written i d).1 past))

pub written_end : (row : List Value) (written : List (ColumnNo × Value)) (i : ℕ) → length written ≤ i → with_cells row (drop i written) ≡ row
written_end row written i h = ap (with_cells row) (drop_all i written h)

pub ruleset written_steps = (cell_written, cell_past, written_end)
