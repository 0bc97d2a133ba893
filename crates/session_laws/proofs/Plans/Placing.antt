-- What the keys of new rows are, step by step.
use Rattle.std.proofs.Common.{◌≡◌, inl, inr, ℕ, true, false, cond, ◌||◌, eqb, List, [], ◌∷◌, ◌++◌, map, Option, None, Some, refl, sym, ap, ◌∙◌, subst}
use Rattle.std.proofs.lemmas.Bool.{eq-eqb, eqb-true}
use Rattle.std.specs.List.{IsDistinct, fold}
use Rattle.std.specs.Map.{lookup}
use Rattle.std.specs.Option.{unwrap_or}
use Rattle.base_core.specs.declared.value.Value.{Value}
use Rattle.schema_core.specs.declared.changes.RowChanges.{RowChanges}
use Rattle.schema_core.specs.Apply.{with_own_key}
use Rattle.schema_core.specs.Catalog.{Catalog, spec_of}
use Rattle.schema_core.specs.Tables.{Rows, key_of, rows_in, with_row, with_rows}
use Rattle.table_laws.proofs.Entries.{none_any}
use Rattle.flush_order.specs.Cells.{first_cells, table_at}
use Rattle.row_order.specs.Places.{is_among}
use Rattle.flush_order.specs.Sorted.{Place}
use Rattle.flush_plan.specs.Flushing.{Keys, Sofar, key_of_new, value_of_cell}
use Rattle.flush_plan.specs.Stating.{with_edit, place_new, place_of_new, place_on, placed_in, placed_under, row_at}
use Rattle.session_laws.specs.Plans.Premises.{IsSorted}
use Rattle.session_laws.proofs.Plans.At.{at_edit, at_other, edit_is, edited_sorted}
use Rattle.session_laws.proofs.Plans.Facts.{none_some, or_cases, or_false, true_false}
use Rattle.base_core.proofs.Tests.{or_then}

same_some : (x y : Sofar) → Some x ≡ Some y → x ≡ y
same_some x y e = cc

module _ (schema : Catalog) (changes : RowChanges) where
  -- one new row is placed
  pub record Step (sofar : Sofar) (place : ℕ) (next : Sofar) : Type 0 where
    pub rows : Rows
    pub row : List Value
    pub table : rows_in sofar.tables (table_at changes place) ≡ Some rows
    pub draws : with_own_key (spec_of schema (table_at changes place)) rows (map (value_of_cell sofar.keys) (first_cells schema changes place)) ≡ Some row
    pub is : next ≡ record { tables = with_edit sofar.tables ((table_at changes place, key_of (spec_of schema (table_at changes place)) row), Some row); keys = (place, key_of (spec_of schema (table_at changes place)) row) ∷ sofar.keys }

  step_under : (sofar next : Sofar) (place : ℕ) (rows : Rows) (o : Option (List Value)) → rows_in sofar.tables (table_at changes place) ≡ Some rows → with_own_key (spec_of schema (table_at changes place)) rows (map (value_of_cell sofar.keys) (first_cells schema changes place)) ≡ o → placed_under (spec_of schema (table_at changes place)) sofar place (table_at changes place) rows o ≡ Some next → Step sofar place next
  step_under sofar next place rows None table draws e = absurd (none_some next e)
  step_under sofar next place rows (Some row) table draws e = record {
    rows = rows;
    row = row;
    table = table;
    draws = draws;
    is = sym (same_some (record { tables = with_rows sofar.tables (table_at changes place) (with_row rows (key_of (spec_of schema (table_at changes place)) row) row); keys = (place, key_of (spec_of schema (table_at changes place)) row) ∷ sofar.keys }) next e)
        ∙ ap (λ t. record { tables = t; keys = (place, key_of (spec_of schema (table_at changes place)) row) ∷ sofar.keys }) (sym (edit_is sofar.tables ((table_at changes place, key_of (spec_of schema (table_at changes place)) row), Some row) rows table));
  }

  step_in : (sofar next : Sofar) (place : ℕ) (o : Option Rows) → rows_in sofar.tables (table_at changes place) ≡ o → placed_in schema changes sofar place o ≡ Some next → Step sofar place next
  step_in sofar next place None table e = absurd (none_some next e)
  step_in sofar next place (Some rows) table e = step_under sofar next place rows (with_own_key (spec_of schema (table_at changes place)) rows (map (value_of_cell sofar.keys) (first_cells schema changes place))) table refl e

  pub step_of : (sofar next : Sofar) (place : ℕ) → place_new schema changes sofar place ≡ Some next → Step sofar place next
  unfolding place_new
  step_of sofar next place e = step_in sofar next place (rows_in sofar.tables (table_at changes place)) refl e

  -- the rest is placed
  abbrev pub Leads : Sofar → List ℕ → Sofar → Type 0
  Leads sofar rest placed = fold (place_on schema changes) (Some sofar) rest ≡ Some placed

  no_fold : (rest : List ℕ) → fold (place_on schema changes) None rest ≡ None
  no_fold [] = refl
  no_fold (place ∷ rest) = no_fold rest

  lead_on : (o : Option Sofar) (rest : List ℕ) (placed : Sofar) → fold (place_on schema changes) o rest ≡ Some placed → (next : Sofar) × (o ≡ Some next) × Leads next rest placed
  lead_on None rest placed e = absurd (none_some placed (sym (no_fold rest) ∙ e))
  lead_on (Some next) rest placed e = (next, refl, e)

  pub leads_step : (sofar placed : Sofar) (place : ℕ) (rest : List ℕ) → Leads sofar (place ∷ rest) placed → (next : Sofar) × Step sofar place next × Leads next rest placed
  leads_step sofar placed place rest e =
      let next = lead_on (place_new schema changes sofar place) rest placed e in
      (next.0, step_of sofar next.0 place next.1, next.2)

  -- a key that is known stays
  pub keys_kept : (rest : List ℕ) (sofar placed : Sofar) (place : ℕ) → Leads sofar rest placed → is_among rest place ≡ false → key_of_new placed.keys place ≡ key_of_new sofar.keys place
  keys_kept [] sofar placed place leads out = ap (λ s. key_of_new s.keys place) (sym (same_some sofar placed leads))
  keys_kept (first ∷ rest) sofar placed place leads out =
      let both = or_false (eqb place first) (is_among rest place) out in
      let step = leads_step sofar placed first rest leads in
      keys_kept rest step.0 placed place step.2 both.1
      ∙ ap (λ s. key_of_new s.keys place) step.1.is
      ∙ ap (λ b. unwrap_or (cond b (Some (key_of (spec_of schema (table_at changes first)) step.1.row)) (lookup (eqb place) sofar.keys)) []) both.0

  pub key_here : (keys : Keys) (place : ℕ) (key : List Value) → key_of_new ((place, key) ∷ keys) place ≡ key
  key_here keys place key = ap (λ b. unwrap_or (cond b (Some key) (lookup (eqb place) keys)) []) (eq-eqb place place refl)

  -- the key of the row that is placed is its last key
  pub step_key : (sofar next placed : Sofar) (place : ℕ) (rest : List ℕ) (step : Step sofar place next) → Leads next rest placed → is_among rest place ≡ false → (table_at changes place, key_of (spec_of schema (table_at changes place)) step.row) ≡ place_of_new changes placed.keys place
  step_key sofar next placed place rest step leads out =
      ap (λ key. (table_at changes place, key)) (sym (keys_kept rest next placed place leads out ∙ ap (λ s. key_of_new s.keys place) step.is ∙ key_here sofar.keys place (key_of (spec_of schema (table_at changes place)) step.row)))

  pub step_sorted : (sofar next : Sofar) (place : ℕ) (step : Step sofar place next) → IsSorted sofar.tables → IsSorted next.tables
  step_sorted sofar next place step sorted = subst (λ s. IsSorted s.tables) (sym step.is) (edited_sorted sofar.tables ((table_at changes place, key_of (spec_of schema (table_at changes place)) step.row), Some step.row) sorted)

  pub distinct_out : (place : ℕ) (rest : List ℕ) → IsDistinct eqb (place ∷ rest) → is_among rest place ≡ false
  unfolding IsDistinct
  distinct_out place rest once = none_any (eqb place) rest once.0

  pub distinct_rest : (place : ℕ) (rest : List ℕ) → IsDistinct eqb (place ∷ rest) → IsDistinct eqb rest
  unfolding IsDistinct
  distinct_rest place rest once = once.1

  -- what stands elsewhere stays
  pub rows_kept : (rest : List ℕ) (sofar placed : Sofar) (at : Place) → IsDistinct eqb rest → IsSorted sofar.tables → Leads sofar rest placed → ((place : ℕ) → is_among rest place ≡ true → place_of_new changes placed.keys place ≡ at → ⊥) → row_at placed.tables at ≡ row_at sofar.tables at
  rows_kept [] sofar placed at once sorted leads apart = ap (λ s. row_at s.tables at) (sym (same_some sofar placed leads))
  rows_kept (first ∷ rest) sofar placed at once sorted leads apart =
      let step = leads_step sofar placed first rest leads in
      let is = step_key sofar step.0 placed first rest step.1 step.2 (distinct_out first rest once) in
      let here : is_among (first ∷ rest) first ≡ true = ap (λ b. b || is_among rest first) (eq-eqb first first refl) in
      rows_kept rest step.0 placed at (distinct_rest first rest once) (step_sorted sofar step.0 first step.1 sorted) step.2 (λ place among. apart place (or_then (eqb place first) (is_among rest place) among))
      ∙ ap (λ s. row_at s.tables at) step.1.is
      ∙ at_other sofar.tables ((table_at changes first, key_of (spec_of schema (table_at changes first)) step.1.row), Some step.1.row) at sorted (λ same. apart first here (sym is ∙ same))

  -- the row that was placed stands at the end
  pub record Placed (whole : List ℕ) (placed : Sofar) (place : ℕ) : Type 0 where
    pub before : List ℕ
    pub later : List ℕ
    pub split : whole ≡ before ++ place ∷ later
    pub sofar : Sofar
    pub leads : Leads sofar (place ∷ later) placed
    pub next : Sofar
    pub step : Step sofar place next
    pub stands : row_at placed.tables (place_of_new changes placed.keys place) ≡ Some step.row
    pub key : (table_at changes place, key_of (spec_of schema (table_at changes place)) step.row) ≡ place_of_new changes placed.keys place

  after_first : (first : ℕ) (rest : List ℕ) (placed : Sofar) (place : ℕ) → Placed rest placed place → Placed (first ∷ rest) placed place
  after_first first rest placed place p = record {
    before = first ∷ p.before;
    later = p.later;
    split = ap (λ xs. first ∷ xs) p.split;
    sofar = p.sofar;
    leads = p.leads;
    next = p.next;
    step = p.step;
    stands = p.stands;
    key = p.key;
  }

  pub placed_step : (rest : List ℕ) (sofar placed : Sofar) (place : ℕ) → IsDistinct eqb rest → IsSorted sofar.tables → Leads sofar rest placed → ((a b : ℕ) → is_among rest a ≡ true → is_among rest b ≡ true → place_of_new changes placed.keys a ≡ place_of_new changes placed.keys b → a ≡ b) → is_among rest place ≡ true → Placed rest placed place
  placed_step [] sofar placed place once sorted leads apart among = absurd (true_false (sym among))
  placed_step (first ∷ rest) sofar placed place once sorted leads apart among =
      let step = leads_step sofar placed first rest leads in
      elim (or_cases (eqb place first) (is_among rest place) among) [
        | inl here ↦
            let same : place ≡ first = eqb-true place first here in
            let out : is_among rest first ≡ false = distinct_out first rest once in
            let key = step_key sofar step.0 placed first rest step.1 step.2 out in
            subst (Placed (first ∷ rest) placed) (sym same) (record {
              before = [];
              later = rest;
              split = refl;
              sofar = sofar;
              leads = leads;
              next = step.0;
              step = step.1;
              stands = rows_kept rest step.0 placed (place_of_new changes placed.keys first) (distinct_rest first rest once) (step_sorted sofar step.0 first step.1 sorted) step.2
                  (λ other left is. true_false (sym (subst (λ n. is_among rest n ≡ true) (apart other first (or_then (eqb other first) (is_among rest other) left) (ap (λ b. b || is_among rest first) (eq-eqb first first refl)) is) left) ∙ out))
                  ∙ ap (λ s. row_at s.tables (place_of_new changes placed.keys first)) step.1.is
                  ∙ sym (ap (row_at (with_edit sofar.tables ((table_at changes first, key_of (spec_of schema (table_at changes first)) step.1.row), Some step.1.row))) key)
                  ∙ at_edit sofar.tables ((table_at changes first, key_of (spec_of schema (table_at changes first)) step.1.row), Some step.1.row) step.1.rows sorted step.1.table;
              key = key;
            })
        | inr more ↦ after_first first rest placed place (placed_step rest step.0 placed place (distinct_rest first rest once) (step_sorted sofar step.0 first step.1 sorted) step.2 (λ a b p q. apart a b (or_then (eqb a first) (is_among rest a) p) (or_then (eqb b first) (is_among rest b) q)) more)
      ]
