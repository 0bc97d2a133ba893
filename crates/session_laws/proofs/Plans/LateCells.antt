-- The cells that the late UPDATEs write.
use Rattle.std.proofs.Common.{◌≡◌, ℕ, suc, ◌+◌, ◌<◌, Bool, true, false, not, cond, ◌&&◌, eqb, List, [], ◌∷◌, map, length, get_or, Option, None, Some, refl, sym, ap, ◌∙◌, arith}
use Rattle.std.proofs.lemmas.Bool.{eq-eqb}
use Rattle.std.specs.List.{filter}
use Rattle.std.specs.Option.{unwrap_or}
use Rattle.base_core.specs.declared.ids.ColumnNo.{ColumnNo}
use Rattle.base_core.specs.declared.value.Value.{Value}
use Rattle.schema_core.specs.declared.changes.RowCell.{RowCell}
use Rattle.schema_core.specs.declared.table.ColumnSpec.{ColumnSpec}
use Rattle.flush_writes.specs.Writes.{cells_from_number}
use Rattle.flush_writes.specs.Runs.{is_nothing}
use Rattle.flush_plan.specs.Stating.{blend, put_cells}
use Rattle.session_laws.proofs.Plans.Blend.{Long, test}
use Rattle.schema_core.specs.Apply.{with_cells}
use Rattle.session_laws.proofs.Plans.Writing.{Agrees, IsOnce, cell_at, cell_filter, early_written, late_written, with_written, written}
use Rattle.session_laws.proofs.Plans.Facts.{apart_false}

-- ---- filters

put_step : {A B : Type 0} (b : Bool) (f : A → B) (x : A) (xs : List A) (ys : List B) → map f xs ≡ ys → map f (cond b (x ∷ xs) xs) ≡ cond b (f x ∷ ys) ys
put_step true f x xs ys e = ap (λ zs. f x ∷ zs) e
put_step false f x xs ys e = e

pub put_filter : (value : RowCell → Value) (q : ℕ → Bool) (cells : List (ColumnNo × RowCell)) → put_cells value (filter (λ c. q c.0.0) cells) ≡ filter (λ c. q c.0.0) (put_cells value cells)
put_filter value q [] = refl
put_filter value q (cell ∷ cells) = put_step (q cell.0.0) (λ c. (c.0, value c.1)) cell (filter (λ c. q c.0.0) cells) (filter (λ c. q c.0.0) (put_cells value cells)) (put_filter value q cells)

none_cond : {A : Type 0} (b : Bool) (o : Option A) → o ≡ None → cond b o None ≡ None
none_cond true o e = e
none_cond false o e = refl

once_step : (q : ℕ → Bool) (b : Bool) (cell : ColumnNo × Value) (cells : List (ColumnNo × Value)) → cell_at cells cell.0.0 ≡ None → IsOnce (filter (λ c. q c.0.0) cells) → IsOnce (cond b (cell ∷ filter (λ c. q c.0.0) cells) (filter (λ c. q c.0.0) cells))
once_step q true cell cells none more = (cell_filter q cells cell.0.0 ∙ none_cond (q cell.0.0) (cell_at cells cell.0.0) none, more)
once_step q false cell cells none more = more

pub once_filter : (q : ℕ → Bool) (cells : List (ColumnNo × Value)) → IsOnce cells → IsOnce (filter (λ c. q c.0.0) cells)
once_filter q [] once = tt
once_filter q (cell ∷ cells) once = once_step q (q cell.0.0) cell cells once.0 (once_filter q cells once.1)

-- ---- cells by the columns' numbers

behind_step : (b : Bool) (value : RowCell → Value) (place : ℕ) (cell : RowCell) (more : List (ColumnNo × RowCell)) (n : ℕ) → n < place → cell_at (put_cells value more) n ≡ None → cell_at (put_cells value (cond b ((record { 0 = place }, cell) ∷ more) more)) n ≡ None
behind_step true value place cell more n h none = ap (λ b. cond b (Some (value cell)) (cell_at (put_cells value more) n)) (apart_false place n (eqb place n) refl (λ same. omega (arith, same, h))) ∙ none
behind_step false value place cell more n h none = none

-- no cell is of a column before the first
numbered_behind : (value : RowCell → Value) (t : ColumnSpec → Bool) (place : ℕ) (cs : List ColumnSpec) (cells : List RowCell) (n : ℕ) → n < place → cell_at (put_cells value (cells_from_number t place cs cells)) n ≡ None
numbered_behind value t place [] cells n h = refl
numbered_behind value t place (c ∷ cs) [] n h = refl
numbered_behind value t place (c ∷ cs) (cell ∷ cells) n h =
    behind_step (t c && not (is_nothing cell)) value place cell (cells_from_number t (suc place) cs cells) n h (numbered_behind value t (suc place) cs cells n (omega arith))

numbered_step : (b : Bool) (value : RowCell → Value) (place : ℕ) (cell : RowCell) (more : List (ColumnNo × RowCell)) → cell_at (put_cells value more) place ≡ None → IsOnce (put_cells value more) → IsOnce (put_cells value (cond b ((record { 0 = place }, cell) ∷ more) more))
numbered_step true value place cell more none once = (none, once)
numbered_step false value place cell more none once = once

pub numbered_once : (value : RowCell → Value) (t : ColumnSpec → Bool) (place : ℕ) (cs : List ColumnSpec) (cells : List RowCell) → IsOnce (put_cells value (cells_from_number t place cs cells))
numbered_once value t place [] cells = tt
numbered_once value t place (c ∷ cs) [] = tt
numbered_once value t place (c ∷ cs) (cell ∷ cells) =
    numbered_step (t c && not (is_nothing cell)) value place cell (cells_from_number t (suc place) cs cells)
    (numbered_behind value t (suc place) cs cells place (omega arith)) (numbered_once value t (suc place) cs cells)

here_step : (b : Bool) (value : RowCell → Value) (place : ℕ) (cell : RowCell) (more : List (ColumnNo × RowCell)) → cell_at (put_cells value more) place ≡ None → cell_at (put_cells value (cond b ((record { 0 = place }, cell) ∷ more) more)) place ≡ cond b (Some (value cell)) None
here_step true value place cell more none = ap (λ b. cond b (Some (value cell)) (cell_at (put_cells value more) place)) (eq-eqb place place refl)
here_step false value place cell more none = none

skip_step : (b : Bool) (value : RowCell → Value) (place : ℕ) (cell : RowCell) (more : List (ColumnNo × RowCell)) (next : ℕ) (row : List Value) → place < next → written next row (put_cells value (cond b ((record { 0 = place }, cell) ∷ more) more)) ≡ written next row (put_cells value more)
skip_step true value place cell more next [] h = refl
skip_step true value place cell more next (v ∷ row) h =
    let other : eqb place next ≡ false = apart_false place next (eqb place next) refl (λ same. omega (arith, same, h)) in
    λ i. unwrap_or (cond (other i) (Some (value cell)) (cell_at (put_cells value more) next)) v ∷ skip_step true value place cell more (suc next) row (omega arith) i
skip_step false value place cell more next row h = refl

-- in each late column what is left stands for what would be written
abbrev pub Stands : (RowCell → Value) → (List ℕ → Bool) → List ColumnSpec → List RowCell → List Value → List Value → Type 0
Stands value late [] cells row last = Unit {0}
Stands value late (c ∷ cs) [] row last = Unit {0}
Stands value late (c ∷ cs) (cell ∷ cells) [] last = Unit {0}
Stands value late (c ∷ cs) (cell ∷ cells) (v ∷ row) [] = Unit {0}
Stands value late (c ∷ cs) (cell ∷ cells) (v ∷ row) (w ∷ last) = (late c.name ≡ true → is_nothing cell ≡ true → v ≡ w) × (late c.name ≡ true → is_nothing cell ≡ false → value cell ≡ w) × Stands value late cs cells row last

value_step : (t n : Bool) (e v w x : Value) → (t ≡ true → n ≡ true → v ≡ w) → (t ≡ true → n ≡ false → x ≡ w) → unwrap_or (cond (t && not n) (Some x) None) (cond t v e) ≡ cond t w e
value_step true true e v w x a b = a refl refl
value_step true false e v w x a b = b refl refl
value_step false n e v w x a b = refl

-- the cells other than NULL that are written into the late columns of a row
pub numbered_written : (value : RowCell → Value) (late : List ℕ → Bool) (place : ℕ) (cs : List ColumnSpec) (cells : List RowCell) (early row last : List Value) → Long cs early → Long cs row → Long cs last → Long cs (map value cells) → Stands value late cs cells row last → written place (blend (test late) cs early row) (put_cells value (cells_from_number (test late) place cs cells)) ≡ blend (test late) cs early last
numbered_written value late place [] cells early row last e r l m s = refl
numbered_written value late place (c ∷ cs) cells [] row last e r l m s = absurd e
numbered_written value late place (c ∷ cs) cells (x ∷ early) [] last e r l m s = absurd r
numbered_written value late place (c ∷ cs) cells (x ∷ early) (v ∷ row) [] e r l m s = absurd l
numbered_written value late place (c ∷ cs) [] (x ∷ early) (v ∷ row) (w ∷ last) e r l m s = absurd m
numbered_written value late place (c ∷ cs) (cell ∷ cells) (x ∷ early) (v ∷ row) (w ∷ last) e r l m s =
    let b : Bool = late c.name && not (is_nothing cell) in
    let more : List (ColumnNo × RowCell) = cells_from_number (test late) (suc place) cs cells in
    let here : unwrap_or (cell_at (put_cells value (cond b ((record { 0 = place }, cell) ∷ more) more)) place) (cond (late c.name) v x) ≡ cond (late c.name) w x =
    ap (λ o. unwrap_or o (cond (late c.name) v x)) (here_step b value place cell more (numbered_behind value (test late) (suc place) cs cells place (omega arith)))
    ∙ value_step (late c.name) (is_nothing cell) x v w (value cell) s.0 s.1 in
    let rest : written (suc place) (blend (test late) cs early row) (put_cells value (cond b ((record { 0 = place }, cell) ∷ more) more)) ≡ blend (test late) cs early last =
    skip_step b value place cell more (suc place) (blend (test late) cs early row) (omega arith)
    ∙ numbered_written value late (suc place) cs cells early row last e r l m s.2 in
    λ i. here i ∷ rest i

-- ---- the cells of a changed row, early and late

pub agrees : (late : List ℕ → Bool) (by : ℕ → Bool) (place : ℕ) (cs : List ColumnSpec) (d : ColumnSpec) → ((k : ℕ) → k < length cs → by (place + k) ≡ late (get_or cs k d).name) → Agrees late by place cs
agrees late by place [] d each = tt
agrees late by place (c ∷ cs) d each =
    (ap by (plus_zero place) ∙ each 0 (omega arith), agrees late by (suc place) cs d (λ k h. ap by (plus_suc place k) ∙ each (suc k) (omega arith)))
  where
    plus_zero : (n : ℕ) → n ≡ n + 0
    plus_zero n = omega arith

    plus_suc : (n k : ℕ) → suc n + k ≡ n + suc k
    plus_suc n k = omega arith

pub agrees_all : (late : List ℕ → Bool) (cs : List ColumnSpec) (d : ColumnSpec) → Agrees late (λ n. late (get_or cs n d).name) 0 cs
agrees_all late cs d = agrees late (λ n. late (get_or cs n d).name) 0 cs d (λ k h. ap (λ n. late (get_or cs n d).name) (zero_plus k))
  where
    zero_plus : (k : ℕ) → 0 + k ≡ k
    zero_plus k = omega arith

-- the early cells of a changed row, written into a blend
pub early_changed : (late : List ℕ → Bool) (cs : List ColumnSpec) (d : ColumnSpec) (row other : List Value) (cells : List (ColumnNo × Value)) → IsOnce cells → Long cs row → Long cs other → with_cells (blend (test late) cs row other) (filter (λ c. not (late (get_or cs c.0.0 d).name)) cells) ≡ blend (test late) cs (with_cells row cells) other
early_changed late cs d row other cells once r o =
    with_written (blend (test late) cs row other) (filter (λ c. not (late (get_or cs c.0.0 d).name)) cells) (once_filter (λ n. not (late (get_or cs n d).name)) cells once)
    ∙ early_written late (λ n. late (get_or cs n d).name) 0 cs row other cells (agrees_all late cs d) r o
    ∙ ap (λ x. blend (test late) cs x other) (sym (with_written row cells once))

-- the late ones
pub late_changed : (late : List ℕ → Bool) (cs : List ColumnSpec) (d : ColumnSpec) (row other : List Value) (cells : List (ColumnNo × Value)) → IsOnce cells → Long cs row → Long cs other → with_cells (blend (test late) cs row other) (filter (λ c. late (get_or cs c.0.0 d).name) cells) ≡ blend (test late) cs row (with_cells other cells)
late_changed late cs d row other cells once r o =
    with_written (blend (test late) cs row other) (filter (λ c. late (get_or cs c.0.0 d).name) cells) (once_filter (λ n. late (get_or cs n d).name) cells once)
    ∙ late_written late (λ n. late (get_or cs n d).name) 0 cs row other cells (agrees_all late cs d) r o
    ∙ ap (λ x. blend (test late) cs row x) (sym (with_written other cells once))

-- those of a new or deleted row
pub late_numbered : (value : RowCell → Value) (late : List ℕ → Bool) (cs : List ColumnSpec) (cells : List RowCell) (early row last : List Value) → Long cs early → Long cs row → Long cs last → Long cs (map value cells) → Stands value late cs cells row last → with_cells (blend (test late) cs early row) (put_cells value (cells_from_number (test late) 0 cs cells)) ≡ blend (test late) cs early last
late_numbered value late cs cells early row last e r l m s =
    with_written (blend (test late) cs early row) (put_cells value (cells_from_number (test late) 0 cs cells)) (numbered_once value (test late) 0 cs cells)
    ∙ numbered_written value late 0 cs cells early row last e r l m s
