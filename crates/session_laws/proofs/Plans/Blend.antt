-- A row of which some columns are another row's.
use Rattle.std.proofs.Common.{◌≡◌, ◌⊎◌, inl, inr, ℕ, Bool, true, false, not, cond, ◌&&◌, ◌||◌, List, [], ◌∷◌, map, length, refl, ap, ◌∙◌}
use Rattle.std.specs.List.{AllByRecursion, list_all, list_any}
use Rattle.std.specs.Cmp.Lexicographic.{pointwise}
use Rattle.base_core.specs.declared.value.Value.{Value}
use Rattle.base_core.specs.declared.value.Value.TheVariants.{Null, Int, Text, Bool as BoolValue, Bytes}
use Rattle.schema_core.specs.declared.table.ColumnSpec.{ColumnSpec}
use Rattle.schema_core.specs.Judged.{lacks_value}
use Rattle.schema_core.specs.Catalog.{is_required, same_name}
use Rattle.schema_core.specs.Tables.{cell_of, fits, has_null, is_null, key_cells}
use Rattle.schema_core.proofs.Names.{same_names}
use Rattle.table_laws.proofs.RowFits.{and_true}
use Rattle.flush_plan.specs.Stating.{blend}
use Rattle.session_laws.proofs.Plans.Facts.{or_false}

abbrev pub nulls : List ColumnSpec → List Value
nulls columns = map (λ column. Null) columns

pub nulls_long : (cs : List ColumnSpec) → length (nulls cs) ≡ length cs
nulls_long [] = refl
nulls_long (c ∷ cs) = ap (λ n. Rattle.std.proofs.Common.suc n) (nulls_long cs)

-- a list as long as the columns
abbrev pub Long : List ColumnSpec → List Value → Type 0
Long [] [] = Unit {0}
Long [] (v ∷ row) = ⊥
Long (c ∷ cs) [] = ⊥
Long (c ∷ cs) (v ∷ row) = Long cs row

pub nulls_are_long : (cs : List ColumnSpec) → Long cs (nulls cs)
nulls_are_long [] = tt
nulls_are_long (c ∷ cs) = nulls_are_long cs

pub false_true : false ≡ true → ⊥
false_true e = cc

pub legal_is_long : (cs : List ColumnSpec) (row : List Value) → pointwise fits cs row ≡ true → Long cs row
legal_is_long [] [] e = tt
legal_is_long [] (v ∷ row) e = false_true e
legal_is_long (c ∷ cs) [] e = false_true e
legal_is_long (c ∷ cs) (v ∷ row) e = legal_is_long cs row (and_true (fits c v) (pointwise fits cs row) e).1

-- ---- the key, the cells and the names of a blend

module _ (late : List ℕ → Bool) where
  abbrev pub test : ColumnSpec → Bool
  test c = late c.name

  key_step : (t k : Bool) (v w : Value) (keys : List Value) → (t ≡ true → k ≡ false) → cond k (cond t w v ∷ keys) keys ≡ cond k (v ∷ keys) keys
  key_step true true v w keys free = absurd (no (free refl))
    where
      no : true ≡ false → ⊥
      no e = cc
  key_step true false v w keys free = refl
  key_step false k v w keys free = refl

  -- the columns that are written late are none of the key
  pub blend_key : (cs : List ColumnSpec) (row other : List Value) → Long cs row → Long cs other → AllByRecursion (λ c. late c.name ≡ true → c.key ≡ false) cs → key_cells cs (blend test cs row other) ≡ key_cells cs row
  blend_key [] row other r o free = refl
  blend_key (c ∷ cs) [] other r o free = absurd r
  blend_key (c ∷ cs) (v ∷ row) [] r o free = absurd o
  blend_key (c ∷ cs) (v ∷ row) (w ∷ other) r o free =
      ap (λ keys. cond c.key (cond (test c) w v ∷ keys) keys) (blend_key cs row other r o free.1) ∙ key_step (test c) c.key v w (key_cells cs row) free.0

  fit_step : (t : Bool) (c : ColumnSpec) (v w : Value) → fits c v ≡ true → (t ≡ true → fits c w ≡ true) → fits c (cond t w v) ≡ true
  fit_step true c v w f g = g refl
  fit_step false c v w f g = f

  -- the cells fit where those of the row do, and those of the other in the columns that are written late
  abbrev pub FitsLate : List ColumnSpec → List Value → Type 0
  FitsLate [] other = Unit {0}
  FitsLate (c ∷ cs) [] = Unit {0}
  FitsLate (c ∷ cs) (w ∷ other) = (late c.name ≡ true → fits c w ≡ true) × FitsLate cs other

  pub blend_fits : (cs : List ColumnSpec) (row other : List Value) → pointwise fits cs row ≡ true → Long cs other → FitsLate cs other → pointwise fits cs (blend test cs row other) ≡ true
  blend_fits [] row other f o g = refl
  blend_fits (c ∷ cs) [] other f o g = absurd (false_true f)
  blend_fits (c ∷ cs) (v ∷ row) [] f o g = absurd o
  blend_fits (c ∷ cs) (v ∷ row) (w ∷ other) f o g =
      let both = and_true (fits c v) (pointwise fits cs row) f in
      ap (λ b. b && pointwise fits cs (blend test cs row other)) (fit_step (test c) c v w both.0 g.0) ∙ blend_fits cs row other both.1 o g.1

  pub legal_fits_late : (cs : List ColumnSpec) (row : List Value) → pointwise fits cs row ≡ true → FitsLate cs row
  legal_fits_late [] row f = tt
  legal_fits_late (c ∷ cs) [] f = tt
  legal_fits_late (c ∷ cs) (v ∷ row) f =
      let both = and_true (fits c v) (pointwise fits cs row) f in
      (λ e. both.0, legal_fits_late cs row both.1)

  pub nulls_fit_late : (cs : List ColumnSpec) → AllByRecursion (λ c. late c.name ≡ true → is_required c ≡ false) cs → FitsLate cs (nulls cs)
  nulls_fit_late [] free = tt
  nulls_fit_late (c ∷ cs) free = (λ e. ap not (free.0 e), nulls_fit_late cs free.1)

  cell_step : (s : Bool) (c : ColumnSpec) (name : List ℕ) (v w x y : Value) → same_name c.name name ≡ s → cond s (cond (late c.name) w v) (cond (late name) y x) ≡ cond (late name) (cond s w y) (cond s v x)
  cell_step true c name v w x y e = ap (λ n. cond (late n) w v) (same_names c.name name e)
  cell_step false c name v w x y e = refl

  pub blend_cell : (cs : List ColumnSpec) (row other : List Value) (name : List ℕ) → Long cs row → Long cs other → cell_of cs (blend test cs row other) name ≡ cond (late name) (cell_of cs other name) (cell_of cs row name)
  blend_cell [] row other name r o = same (late name)
    where
      same : (b : Bool) → Null ≡ cond b Null Null
      same true = refl
      same false = refl
  blend_cell (c ∷ cs) [] other name r o = absurd r
  blend_cell (c ∷ cs) (v ∷ row) [] name r o = absurd o
  blend_cell (c ∷ cs) (v ∷ row) (w ∷ other) name r o =
      ap (cond (same_name c.name name) (cond (test c) w v)) (blend_cell cs row other name r o)
      ∙ cell_step (same_name c.name name) c name v w (cell_of cs row name) (cell_of cs other name) refl

  pub blend_early : (cs : List ColumnSpec) (row other : List Value) (names : List (List ℕ)) → Long cs row → Long cs other → list_any late names ≡ false → map (cell_of cs (blend test cs row other)) names ≡ map (cell_of cs row) names
  blend_early cs row other [] r o e = refl
  blend_early cs row other (name ∷ names) r o e =
      let both = or_false (late name) (list_any late names) e in
      let here : cell_of cs (blend test cs row other) name ≡ cell_of cs row name = blend_cell cs row other name r o ∙ ap (λ b. cond b (cell_of cs other name) (cell_of cs row name)) both.0 in
      λ i. here i ∷ blend_early cs row other names r o both.1 i

  pub blend_late : (cs : List ColumnSpec) (row other : List Value) (names : List (List ℕ)) → Long cs row → Long cs other → list_all late names ≡ true → map (cell_of cs (blend test cs row other)) names ≡ map (cell_of cs other) names
  blend_late cs row other [] r o e = refl
  blend_late cs row other (name ∷ names) r o e =
      let both = and_true (late name) (list_all late names) e in
      let here : cell_of cs (blend test cs row other) name ≡ cell_of cs other name = blend_cell cs row other name r o ∙ ap (λ b. cond b (cell_of cs other name) (cell_of cs row name)) both.0 in
      λ i. here i ∷ blend_late cs row other names r o both.1 i

  -- a blend of a blend
  again_step : (t : Bool) (v w x : Value) → cond t x (cond t w v) ≡ cond t x v
  again_step true v w x = refl
  again_step false v w x = refl

  pub blend_again : (cs : List ColumnSpec) (row other last : List Value) → Long cs row → Long cs other → Long cs last → blend test cs (blend test cs row other) last ≡ blend test cs row last
  blend_again [] row other last r o l = refl
  blend_again (c ∷ cs) [] other last r o l = absurd r
  blend_again (c ∷ cs) (v ∷ row) [] last r o l = absurd o
  blend_again (c ∷ cs) (v ∷ row) (w ∷ other) [] r o l = absurd l
  blend_again (c ∷ cs) (v ∷ row) (w ∷ other) (x ∷ last) r o l = λ i. again_step (test c) v w x i ∷ blend_again cs row other last r o l i

  within_step : (t : Bool) (v w x : Value) → cond t (cond t x w) v ≡ cond t x v
  within_step true v w x = refl
  within_step false v w x = refl

  pub blend_within : (cs : List ColumnSpec) (row other last : List Value) → Long cs row → Long cs other → Long cs last → blend test cs row (blend test cs other last) ≡ blend test cs row last
  blend_within [] row other last r o l = refl
  blend_within (c ∷ cs) [] other last r o l = absurd r
  blend_within (c ∷ cs) (v ∷ row) [] last r o l = absurd o
  blend_within (c ∷ cs) (v ∷ row) (w ∷ other) [] r o l = absurd l
  blend_within (c ∷ cs) (v ∷ row) (w ∷ other) (x ∷ last) r o l = λ i. within_step (test c) v w x i ∷ blend_within cs row other last r o l i

  self_step : (t : Bool) (v : Value) → cond t v v ≡ v
  self_step true v = refl
  self_step false v = refl

  pub blend_self : (cs : List ColumnSpec) (row : List Value) → Long cs row → blend test cs row row ≡ row
  blend_self [] [] r = refl
  blend_self [] (v ∷ row) r = absurd r
  blend_self (c ∷ cs) [] r = absurd r
  blend_self (c ∷ cs) (v ∷ row) r = λ i. self_step (test c) v i ∷ blend_self cs row r i

  pub blend_long : (cs : List ColumnSpec) (row other : List Value) → Long cs row → Long cs other → Long cs (blend test cs row other)
  blend_long [] row other r o = tt
  blend_long (c ∷ cs) [] other r o = absurd r
  blend_long (c ∷ cs) (v ∷ row) [] r o = absurd o
  blend_long (c ∷ cs) (v ∷ row) (w ∷ other) r o = blend_long cs row other r o

cell_null : (cs : List ColumnSpec) (name : List ℕ) → cell_of cs (nulls cs) name ≡ Null
cell_null [] name = refl
cell_null (c ∷ cs) name = step (same_name c.name name) (cell_null cs name)
  where
    step : (b : Bool) {v : Value} → v ≡ Null → cond b Null v ≡ Null
    step true e = refl
    step false e = e

-- a row of nulls gives a NULL, or there is nothing asked
pub nulls_null : (cs : List ColumnSpec) (names : List (List ℕ)) → (names ≡ []) ⊎ (has_null (map (cell_of cs (nulls cs)) names) ≡ true)
nulls_null cs [] = inl refl
nulls_null cs (name ∷ names) = inr (ap (λ v. is_null v || has_null (map (cell_of cs (nulls cs)) names)) (cell_null cs name))

-- ---- a legal row lacks nothing

lack_here : (c : ColumnSpec) (v : Value) → fits c v ≡ true → (is_required c && is_null v) ≡ false
lack_here c Null f = open_step (is_required c) f
  where
    open_step : (b : Bool) → not b ≡ true → (b && true) ≡ false
    open_step true e = cc
    open_step false e = refl
lack_here c (BoolValue b) f = none (is_required c)
  where
    none : (b : Bool) → (b && false) ≡ false
    none true = refl
    none false = refl
lack_here c (Int n) f = none (is_required c)
  where
    none : (b : Bool) → (b && false) ≡ false
    none true = refl
    none false = refl
lack_here c (Text t) f = none (is_required c)
  where
    none : (b : Bool) → (b && false) ≡ false
    none true = refl
    none false = refl
lack_here c (Bytes b) f = none (is_required c)
  where
    none : (b : Bool) → (b && false) ≡ false
    none true = refl
    none false = refl

pub legal_lacks_none : (cs : List ColumnSpec) (row : List Value) → pointwise fits cs row ≡ true → lacks_value is_required cs row ≡ false
legal_lacks_none [] row f = refl
legal_lacks_none (c ∷ cs) [] f = refl
legal_lacks_none (c ∷ cs) (v ∷ row) f =
    let both = and_true (fits c v) (pointwise fits cs row) f in
    ap (λ b. b || lacks_value is_required cs row) (lack_here c v both.0) ∙ legal_lacks_none cs row both.1
