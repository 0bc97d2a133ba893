-- A row that a well-formed statement writes, and that lacks no value, fits its table.
use Rattle.std.proofs.Common.{◌≡◌, ◌⊎◌, inl, inr, ℕ, ℤ, suc, ◌+◌, Bool, true, false, not, cond, ◌&&◌, ◌||◌, List, [], ◌∷◌, ◌++◌, length, set, eqb, ltb, refl, sym, ap, ◌∙◌, append_assoc, length-append, arith}
use Rattle.std.proofs.lemmas.Bool.{eqb-true, or_parts}
use Rattle.std.proofs.lemmas.List.Sums.{sum_by-cons}
use Rattle.std.specs.List.{AllByRecursion, count_by, list_any}
use Rattle.std.specs.Cmp.Lexicographic.{pointwise}
use Rattle.base_core.specs.declared.ids.ColumnNo.{ColumnNo}
use Rattle.base_core.specs.declared.value.Kind.TheVariants as kinds
use Rattle.base_core.specs.declared.value.Value.{Value}
use Rattle.base_core.specs.declared.value.Value.TheVariants.{Null, Int, Text, Bool as BoolValue, Bytes}
use Rattle.schema_core.specs.declared.table.ColumnSpec.{ColumnSpec}
use Rattle.schema_core.specs.Apply.{with_cells, with_key}
use Rattle.schema_core.specs.Judged.{lacks_value}
use Rattle.schema_core.specs.Catalog.{is_required, kind_of, same_kind}
use Rattle.schema_core.specs.Tables.{fits, has_null, is_null, key_cells}
use Rattle.schema_core.specs.WellFormed.{are_cells, may_hold}

pub and_true : (a b : Bool) → (a && b) ≡ true → (a ≡ true) × (b ≡ true)
and_true true b e = (refl, e)
and_true false b e = cc

open_cell : (a k g : Bool) → (((a || k) && not (k && g)) && true) ≡ false → (g && (k && true)) ≡ false → not (a || k) ≡ true
open_cell true true true e f = cc
open_cell true true false e f = cc
open_cell true false g e f = cc
open_cell false true true e f = cc
open_cell false true false e f = cc
open_cell false false g e f = refl

-- a cell that may be held fits where it is no NULL that is missed
cell_fits : (g : Bool) (c : ColumnSpec) (v : Value) → may_hold c v ≡ true → ((is_required c && not (c.key && g)) && is_null v) ≡ false → (g && (c.key && is_null v)) ≡ false → fits c v ≡ true
cell_fits g c Null m l k = open_cell c.not_null c.key g l k
cell_fits g c (BoolValue b) m l k = m
cell_fits g c (Int n) m l k = m
cell_fits g c (Text t) m l k = m
cell_fits g c (Bytes b) m l k = m

key_split : (g k : Bool) (v : Value) (keys : List Value) → (g && has_null (cond k (v ∷ keys) keys)) ≡ false → ((g && (k && is_null v)) ≡ false) × ((g && has_null keys) ≡ false)
key_split false k v keys e = (refl, refl)
key_split true true v keys e = or_parts (is_null v) (has_null keys) e
key_split true false v keys e = (refl, e)

-- a column that takes no NULL; where g, the key may be left open
abbrev pub demands : Bool → ColumnSpec → Bool
demands g c = is_required c && not (c.key && g)

pub plain_fits : (g : Bool) (cs : List ColumnSpec) (row : List Value) → pointwise may_hold cs row ≡ true → lacks_value (demands g) cs row ≡ false → (g && has_null (key_cells cs row)) ≡ false → pointwise fits cs row ≡ true
plain_fits g [] [] m l k = refl
plain_fits g [] (v ∷ row) m l k = cc
plain_fits g (c ∷ cs) [] m l k = cc
plain_fits g (c ∷ cs) (v ∷ row) m l k =
    let held = and_true (may_hold c v) (pointwise may_hold cs row) m in
    let lacks = or_parts (demands g c && is_null v) (lacks_value (demands g) cs row) l in
    let keys = key_split g c.key v (key_cells cs row) k in
    ap (λ b. b && pointwise fits cs row) (cell_fits g c v held.0 lacks.0 keys.0) ∙ plain_fits g cs row held.1 lacks.1 keys.1

-- ---- a generated key

is_integer : ColumnSpec → Bool
is_integer c = same_kind (kind_of c.kind) kinds.Integer

key_fits : (k : Bool) (c : ColumnSpec) (v : Value) (n : ℤ) → c.key ≡ k → (c.key ≡ true → same_kind (kind_of c.kind) kinds.Integer ≡ true) → may_hold c v ≡ true → (demands true c && is_null v) ≡ false → fits c (cond k (Int n) v) ≡ true
key_fits true c v n e int m l = int e
key_fits false c v n e int m l = cell_fits true c v m l (ap (λ k. k && is_null v) e)

pub filled_fits : (cs : List ColumnSpec) (row : List Value) (n : ℤ) → AllByRecursion (λ c. c.key ≡ true → same_kind (kind_of c.kind) kinds.Integer ≡ true) cs → pointwise may_hold cs row ≡ true → lacks_value (demands true) cs row ≡ false → pointwise fits cs (with_key cs (Int n) row) ≡ true
filled_fits [] [] n int m l = refl
filled_fits [] (v ∷ row) n int m l = cc
filled_fits (c ∷ cs) [] n int m l = cc
filled_fits (c ∷ cs) (v ∷ row) n int m l =
    let held = and_true (may_hold c v) (pointwise may_hold cs row) m in
    let lacks = or_parts (demands true c && is_null v) (lacks_value (demands true) cs row) l in
    ap (λ b. b && pointwise fits cs (with_key cs (Int n) row)) (key_fits c.key c v n refl int.0 held.0 lacks.0) ∙ filled_fits cs row n int.1 held.1 lacks.1

count_step : (p : ColumnSpec → Bool) (c : ColumnSpec) (cs : List ColumnSpec) → count_by p (c ∷ cs) ≡ cond (p c) 1 0 + count_by p cs
count_step p c cs = sum_by-cons (λ x. cond (p x) 1 0) c cs

none_step : (k : Bool) (c : ColumnSpec) (cs : List ColumnSpec) → c.key ≡ k → cond k 1 0 + count_by (λ d. d.key) cs ≡ 0 → (c.key ≡ false) × (count_by (λ d. d.key) cs ≡ 0)
none_step true c cs e s = absurd (omega arith)
none_step false c cs e s = (e, omega arith)

none_counted : (cs : List ColumnSpec) → count_by (λ c. c.key) cs ≡ 0 → AllByRecursion (λ c. c.key ≡ false) cs
none_counted [] e = tt
none_counted (c ∷ cs) e =
    let s = none_step c.key c cs refl (sym (count_step (λ d. d.key) c cs) ∙ e) in
    (s.0, none_counted cs s.1)

none_found : (F : ColumnSpec → Bool) (cs : List ColumnSpec) → AllByRecursion (λ c. c.key ≡ false) cs → list_any (λ c. c.key && F c) cs ≡ false
none_found F [] all = refl
none_found F (c ∷ cs) all = ap (λ k. (k && F c) || list_any (λ d. d.key && F d) cs) all.0 ∙ none_found F cs all.1

no_key : (F : ColumnSpec → Bool) (cs : List ColumnSpec) → AllByRecursion (λ c. c.key ≡ false) cs → AllByRecursion (λ c. c.key ≡ true → F c ≡ true) cs
no_key F [] all = tt
no_key F (c ∷ cs) all = (λ e. absurd (no_both c.key all.0 e), no_key F cs all.1)
  where
    no_both : (k : Bool) → k ≡ false → k ≡ true → ⊥
    no_both k a b = cc

or_first : (a b : Bool) → (a || b) ≡ true → b ≡ false → a ≡ true
or_first true b e f = refl
or_first false b e f = cc

only_step : (F : ColumnSpec → Bool) (k : Bool) (c : ColumnSpec) (cs : List ColumnSpec) → c.key ≡ k → cond k 1 0 + count_by (λ d. d.key) cs ≡ 1 → ((k && F c) || list_any (λ d. d.key && F d) cs) ≡ true → (count_by (λ d. d.key) cs ≡ 1 → list_any (λ d. d.key && F d) cs ≡ true → AllByRecursion (λ d. d.key ≡ true → F d ≡ true) cs) → AllByRecursion (λ d. d.key ≡ true → F d ≡ true) (c ∷ cs)
only_step F true c cs e s a more =
    let rest = none_counted cs (omega arith) in
    (λ q. or_first (F c) (list_any (λ d. d.key && F d) cs) a (none_found F cs rest), no_key F cs rest)
only_step F false c cs e s a more = (λ q. absurd (no_both c.key e q), more (omega arith) a)
  where
    no_both : (k : Bool) → k ≡ false → k ≡ true → ⊥
    no_both k x y = cc

-- where one column is flagged, and a flagged one passes, each flagged one does
pub only_key : (F : ColumnSpec → Bool) (cs : List ColumnSpec) → count_by (λ c. c.key) cs ≡ 1 → list_any (λ c. c.key && F c) cs ≡ true → AllByRecursion (λ c. c.key ≡ true → F c ≡ true) cs
only_key F [] e a = tt
only_key F (c ∷ cs) e a = only_step F c.key c cs refl (sym (count_step (λ d. d.key) c cs) ∙ e) a (only_key F cs)

-- ---- cells written

set_seam : (pre : List Value) (v w : Value) (row : List Value) → set (pre ++ v ∷ row) (length pre) w ≡ pre ++ w ∷ row
set_seam [] v w row = refl
set_seam (p ∷ pre) v w row = ap (λ r. p ∷ r) (set_seam pre v w row)

-- what is left of a row's cells once some are written: each may be held, and the key is as it was
pub record Wrote (cs : List ColumnSpec) (pre row : List Value) (cells : List (ColumnNo × Value)) : Type 0 where
  pub out : List Value
  pub is : with_cells (pre ++ row) cells ≡ pre ++ out
  pub held : pointwise may_hold cs out ≡ true
  pub key : key_cells cs out ≡ key_cells cs row

either : (a b : Bool) → (a || b) ≡ true → (a ≡ true) ⊎ (b ≡ true)
either true b e = inl refl
either false b e = inr e

not_true : (b : Bool) → not b ≡ true → b ≡ false
not_true true e = cc
not_true false e = refl

here_cell : (place : ℕ) (c : ColumnSpec) (cs : List ColumnSpec) (pre row : List Value) (v : Value) (cell : ColumnNo × Value) (cells : List (ColumnNo × Value)) → length pre ≡ place → pointwise may_hold cs row ≡ true → (eqb place cell.0.0 && not c.key && may_hold c cell.1 && are_cells (suc place) cs cells) ≡ true → (are_cells (suc place) cs cells ≡ true → Wrote cs (pre ++ cell.1 ∷ []) row cells) → Wrote (c ∷ cs) pre (v ∷ row) (cell ∷ cells)
here_cell place c cs pre row v cell cells size held e more =
    let d = and_true (eqb place cell.0.0 && not c.key && may_hold c cell.1) (are_cells (suc place) cs cells) e in
    let b = and_true (eqb place cell.0.0 && not c.key) (may_hold c cell.1) d.0 in
    let a = and_true (eqb place cell.0.0) (not c.key) b.0 in
    let w = more d.1 in
    let at : cell.0.0 ≡ length pre = sym (eqb-true place cell.0.0 a.0) ∙ sym size in
    let no_key : c.key ≡ false = not_true c.key a.1 in
    record {
      out = cell.1 ∷ w.out;
      is = ap (λ r. with_cells r cells) (ap (λ k. set (pre ++ v ∷ row) k cell.1) at ∙ set_seam pre v cell.1 row ∙ sym (append_assoc pre (cell.1 ∷ []) row)) ∙ w.is ∙ append_assoc pre (cell.1 ∷ []) w.out;
      held = ap (λ k. k && pointwise may_hold cs w.out) b.1 ∙ w.held;
      key = ap (λ k. cond k (cell.1 ∷ key_cells cs w.out) (key_cells cs w.out)) no_key ∙ w.key ∙ sym (ap (λ k. cond k (v ∷ key_cells cs row) (key_cells cs row)) no_key);
    }

there_cell : (c : ColumnSpec) (cs : List ColumnSpec) (pre row : List Value) (v : Value) (cells : List (ColumnNo × Value)) → may_hold c v ≡ true → Wrote cs (pre ++ v ∷ []) row cells → Wrote (c ∷ cs) pre (v ∷ row) cells
there_cell c cs pre row v cells held more = record {
  out = v ∷ more.out;
  is = ap (λ r. with_cells r cells) (sym (append_assoc pre (v ∷ []) row)) ∙ more.is ∙ append_assoc pre (v ∷ []) more.out;
  held = ap (λ b. b && pointwise may_hold cs more.out) held ∙ more.held;
  key = ap (λ k. cond c.key (v ∷ k) k) more.key;
}

pub wrote : (cs : List ColumnSpec) (place : ℕ) (pre row : List Value) (cells : List (ColumnNo × Value)) → length pre ≡ place → are_cells place cs cells ≡ true → pointwise may_hold cs row ≡ true → Wrote cs pre row cells
wrote cs place pre row [] size e m = record { out = row; is = refl; held = m; key = refl }
wrote [] place pre row (cell ∷ cells) size e m = absurd (no e)
  where
    no : false ≡ true → ⊥
    no f = cc
wrote (c ∷ cs) place pre [] (cell ∷ cells) size e m = absurd (no m)
  where
    no : false ≡ true → ⊥
    no f = cc
wrote (c ∷ cs) place pre (v ∷ row) (cell ∷ cells) size e m =
    let held = and_true (may_hold c v) (pointwise may_hold cs row) m in
    let longer : (x : Value) → length (pre ++ x ∷ []) ≡ suc place = λ x. omega (arith, length-append pre (x ∷ [])) in
    elim (either (ltb place cell.0.0 && are_cells (suc place) cs (cell ∷ cells)) (eqb place cell.0.0 && not c.key && may_hold c cell.1 && are_cells (suc place) cs cells) e) [
      | inl a ↦ there_cell c cs pre row v (cell ∷ cells) held.0 (wrote cs (suc place) (pre ++ v ∷ []) row (cell ∷ cells) (longer v) (and_true (ltb place cell.0.0) (are_cells (suc place) cs (cell ∷ cells)) a).1 held.1)
      | inr b ↦ here_cell place c cs pre row v cell cells size held.1 b (λ are. wrote cs (suc place) (pre ++ cell.1 ∷ []) row cells (longer cell.1) are held.1)
    ]
