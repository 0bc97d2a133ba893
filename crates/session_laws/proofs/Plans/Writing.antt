-- Cells that are written, early ones and late ones.
use Rattle.std.proofs.Common.{◌≡◌, ℕ, zero, suc, ◌+◌, ◌<◌, Bool, true, false, not, cond, eqb, List, [], ◌∷◌, set, Option, None, Some, refl, sym, ap, ◌∙◌, arith}
use Rattle.std.proofs.lemmas.Bool.{eq-eqb, eqb-true}
use Rattle.std.specs.List.{filter}
use Rattle.std.specs.Map.{lookup}
use Rattle.std.specs.Option.{unwrap_or}
use Rattle.base_core.specs.declared.ids.ColumnNo.{ColumnNo}
use Rattle.base_core.specs.declared.value.Value.{Value}
use Rattle.schema_core.specs.declared.table.ColumnSpec.{ColumnSpec}
use Rattle.schema_core.specs.Apply.{with_cells}
use Rattle.flush_plan.specs.Stating.{blend}
use Rattle.session_laws.proofs.Plans.Blend.{Long, test}
use Rattle.session_laws.proofs.Plans.Facts.{apart_false}

-- the cell of a column
abbrev pub cell_at : {A : Type 0} → List (ColumnNo × A) → ℕ → Option A
cell_at cells place = lookup (λ column. eqb column.0 place) cells

-- the row with these cells, column by column from this one on
abbrev pub written : ℕ → List Value → List (ColumnNo × Value) → List Value
written place [] cells = []
written place (v ∷ row) cells = unwrap_or (cell_at cells place) v ∷ written (suc place) row cells

-- a cell before this column changes nothing
skip_cell : (place : ℕ) (row : List Value) (n : ColumnNo) (v : Value) (cells : List (ColumnNo × Value)) → n.0 < place → written place row ((n, v) ∷ cells) ≡ written place row cells
skip_cell place [] n v cells h = refl
skip_cell place (x ∷ row) n v cells h =
    let other : eqb n.0 place ≡ false = apart_false n.0 place (eqb n.0 place) refl (λ same. omega arith) in
    λ i. unwrap_or (cond (other i) (Some v) (cell_at cells place)) x ∷ skip_cell (suc place) row n v cells (omega arith) i

set_written : (place : ℕ) (row : List Value) (k : ℕ) (n : ColumnNo) (v : Value) (cells : List (ColumnNo × Value)) → n.0 ≡ place + k → cell_at cells n.0 ≡ None → written place (set row k v) cells ≡ written place row ((n, v) ∷ cells)
set_written place [] zero n v cells at free = refl
set_written place [] (suc k) n v cells at free = refl
set_written place (x ∷ row) zero n v cells at free =
    let same : n.0 ≡ place = omega (arith, at) in
    let none : cell_at cells place ≡ None = sym (ap (cell_at cells) same) ∙ free in
    let here : unwrap_or (cell_at cells place) v ≡ unwrap_or (cond (eqb n.0 place) (Some v) (cell_at cells place)) x =
    ap (λ o. unwrap_or o v) none ∙ sym (ap (λ b. unwrap_or (cond b (Some v) (cell_at cells place)) x) (eq-eqb n.0 place same)) in
    λ i. here i ∷ sym (skip_cell (suc place) row n v cells (omega arith)) i
set_written place (x ∷ row) (suc k) n v cells at free =
    let other : eqb n.0 place ≡ false = apart_false n.0 place (eqb n.0 place) refl (λ same. omega arith) in
    λ i. unwrap_or (cond (sym other i) (Some v) (cell_at cells place)) x ∷ set_written (suc place) row k n v cells (omega arith) free i

-- no column stands twice
abbrev pub IsOnce : List (ColumnNo × Value) → Type 0
IsOnce [] = Unit {0}
IsOnce (cell ∷ cells) = (cell_at cells cell.0.0 ≡ None) × IsOnce cells

no_cells : (place : ℕ) (row : List Value) → row ≡ written place row []
no_cells place [] = refl
no_cells place (v ∷ row) = ap (λ r. v ∷ r) (no_cells (suc place) row)

pub with_written : (row : List Value) (cells : List (ColumnNo × Value)) → IsOnce cells → with_cells row cells ≡ written 0 row cells
with_written row [] once = no_cells 0 row
with_written row (cell ∷ cells) once = with_written (set row cell.0.0 cell.1) cells once.1 ∙ set_written 0 row cell.0.0 cell.0 cell.1 cells (omega arith) once.0

-- ---- what a filter by columns leaves

filter_here : {A : Type 0} (q : ℕ → Bool) (cell : ColumnNo × A) (cells : List (ColumnNo × A)) (n : ℕ) (t s : Bool) → q cell.0.0 ≡ t → eqb cell.0.0 n ≡ s → cell_at (filter (λ c. q c.0.0) cells) n ≡ cond (q n) (cell_at cells n) None → cell_at (cond t (cell ∷ filter (λ c. q c.0.0) cells) (filter (λ c. q c.0.0) cells)) n ≡ cond (q n) (cond s (Some cell.1) (cell_at cells n)) None
filter_here q cell cells n true true passes at more =
    ap (λ b. cond b (Some cell.1) (cell_at (filter (λ c. q c.0.0) cells) n)) at ∙ sym (ap (λ b. cond b (Some cell.1) None) (ap q (sym (eqb-true cell.0.0 n at)) ∙ passes))
filter_here q cell cells n true false passes at more = ap (λ b. cond b (Some cell.1) (cell_at (filter (λ c. q c.0.0) cells) n)) at ∙ more
filter_here q cell cells n false true passes at more =
    let fails : q n ≡ false = ap q (sym (eqb-true cell.0.0 n at)) ∙ passes in
    more ∙ ap (λ b. cond b (cell_at cells n) None) fails ∙ sym (ap (λ b. cond b (Some cell.1) None) fails)
filter_here q cell cells n false false passes at more = more

both_same : {A : Type 0} (o : Option A) (b : Bool) → o ≡ cond b o o
both_same o true = refl
both_same o false = refl

pub cell_filter : {A : Type 0} (q : ℕ → Bool) (cells : List (ColumnNo × A)) (n : ℕ) → cell_at (filter (λ c. q c.0.0) cells) n ≡ cond (q n) (cell_at cells n) None
cell_filter q [] n = both_same None (q n)
cell_filter q (cell ∷ cells) n = filter_here q cell cells n (q cell.0.0) (eqb cell.0.0 n) refl refl (cell_filter q cells n)

-- ---- early and late cells of a blend

module _ (late : List ℕ → Bool) (by_number : ℕ → Bool) where
  -- the columns from this number on are late as their numbers are
  abbrev pub Agrees : ℕ → List ColumnSpec → Type 0
  Agrees place [] = Unit {0}
  Agrees place (c ∷ cs) = (by_number place ≡ late c.name) × Agrees (suc place) cs

  early_step : (t : Bool) (o : Option Value) (v w : Value) → unwrap_or (cond (not t) o None) (cond t w v) ≡ cond t w (unwrap_or o v)
  early_step true o v w = refl
  early_step false o v w = refl

  late_step : (t : Bool) (o : Option Value) (v w : Value) → unwrap_or (cond t o None) (cond t w v) ≡ cond t (unwrap_or o w) v
  late_step true o v w = refl
  late_step false o v w = refl

  pub early_written : (place : ℕ) (cs : List ColumnSpec) (row other : List Value) (cells : List (ColumnNo × Value)) → Agrees place cs → Long cs row → Long cs other → written place (blend (test late) cs row other) (filter (λ c. not (by_number c.0.0)) cells) ≡ blend (test late) cs (written place row cells) other
  early_written place [] row other cells agrees r o = refl
  early_written place (c ∷ cs) [] other cells agrees r o = absurd r
  early_written place (c ∷ cs) (v ∷ row) [] cells agrees r o = absurd o
  early_written place (c ∷ cs) (v ∷ row) (w ∷ other) cells agrees r o =
      let here : unwrap_or (cell_at (filter (λ c. not (by_number c.0.0)) cells) place) (cond (late c.name) w v) ≡ cond (late c.name) w (unwrap_or (cell_at cells place) v) =
      ap (λ o. unwrap_or o (cond (late c.name) w v)) (cell_filter (λ n. not (by_number n)) cells place)
      ∙ ap (λ b. unwrap_or (cond (not b) (cell_at cells place) None) (cond (late c.name) w v)) agrees.0
      ∙ early_step (late c.name) (cell_at cells place) v w in
      λ i. here i ∷ early_written (suc place) cs row other cells agrees.1 r o i

  pub late_written : (place : ℕ) (cs : List ColumnSpec) (row other : List Value) (cells : List (ColumnNo × Value)) → Agrees place cs → Long cs row → Long cs other → written place (blend (test late) cs row other) (filter (λ c. by_number c.0.0) cells) ≡ blend (test late) cs row (written place other cells)
  late_written place [] row other cells agrees r o = refl
  late_written place (c ∷ cs) [] other cells agrees r o = absurd r
  late_written place (c ∷ cs) (v ∷ row) [] cells agrees r o = absurd o
  late_written place (c ∷ cs) (v ∷ row) (w ∷ other) cells agrees r o =
      let here : unwrap_or (cell_at (filter (λ c. by_number c.0.0) cells) place) (cond (late c.name) w v) ≡ cond (late c.name) (unwrap_or (cell_at cells place) w) v =
      ap (λ o. unwrap_or o (cond (late c.name) w v)) (cell_filter by_number cells place)
      ∙ ap (λ b. unwrap_or (cond b (cell_at cells place) None) (cond (late c.name) w v)) agrees.0
      ∙ late_step (late c.name) (cell_at cells place) v w in
      λ i. here i ∷ late_written (suc place) cs row other cells agrees.1 r o i

twice_step : (o : Option Value) (v : Value) → unwrap_or o (unwrap_or o v) ≡ unwrap_or o v
twice_step None v = refl
twice_step (Some w) v = refl

-- cells that are written twice
pub written_twice : (place : ℕ) (row : List Value) (cells : List (ColumnNo × Value)) → written place (written place row cells) cells ≡ written place row cells
written_twice place [] cells = refl
written_twice place (v ∷ row) cells = λ i. twice_step (cell_at cells place) v i ∷ written_twice (suc place) row cells i

pub written_long : (cs : List ColumnSpec) (place : ℕ) (row : List Value) (cells : List (ColumnNo × Value)) → Long cs row → Long cs (written place row cells)
written_long [] place [] cells r = tt
written_long [] place (v ∷ row) cells r = absurd r
written_long (c ∷ cs) place [] cells r = absurd r
written_long (c ∷ cs) place (v ∷ row) cells r = written_long cs (suc place) row cells r
