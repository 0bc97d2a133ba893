-- What stands once new rows are put in, each under a key that was free.
use Rattle.std.proofs.Common.{◌≡◌, ◌⊎◌, inl, inr, ℕ, Bool, true, false, ◌||◌, eqb, List, [], ◌∷◌, None, Some, refl, sym, ap, ◌∙◌}
use Rattle.std.proofs.lemmas.Bool.{eq-eqb, eqb-true}
use Rattle.std.specs.List.{IsDistinct, fold, list_any}
use Rattle.std.specs.Option.{is_some}
use Rattle.base_core.specs.declared.ids.TableId.{TableId}
use Rattle.base_core.specs.declared.value.Value.{Value}
use Rattle.base_core.proofs.Tests.{or_then}
use Rattle.schema_core.specs.declared.changes.RowChanges.{RowChanges}
use Rattle.schema_core.specs.Catalog.{Catalog, spec_of}
use Rattle.schema_core.specs.Declaration.{some_two}
use Rattle.schema_core.specs.Tables.{is_created, key_of}
use Rattle.flush_order.specs.Cells.{table_at}
use Rattle.row_order.specs.Places.{is_among}
use Rattle.flush_order.specs.Sorted.{Place}
use Rattle.flush_plan.specs.Flushing.{Sofar, is_stale, key_of_new}
use Rattle.flush_plan.specs.Stating.{place_of_new, place_on, row_at}
use Rattle.session_laws.specs.Plans.Premises.{IsSorted}
use Rattle.session_laws.proofs.Plans.At.{at_edit, at_other, edited_created, place_cases}
use Rattle.session_laws.proofs.Plans.Newness.{or_none}
use Rattle.session_laws.proofs.Plans.Placing.{Leads, distinct_out, distinct_rest, step_key, step_sorted}
use Rattle.session_laws.proofs.Plans.Puts.{Put, Puts}
use Rattle.session_laws.proofs.Plans.Facts.{none_some, or_cases, some_or_none, true_false}

-- none of the list passes
pub none_among : (test : ℕ → Bool) (xs : List ℕ) → ((x : ℕ) → is_among xs x ≡ true → test x ≡ true → ⊥) → list_any test xs ≡ false
none_among test [] never = refl
none_among test (x ∷ xs) never = by (test x) refl (none_among test xs (λ y among. never y (or_then (eqb y x) (is_among xs y) among)))
  where
    by : (b : Bool) → test x ≡ b → list_any test xs ≡ false → (b || list_any test xs) ≡ false
    by true e more = absurd (never x (ap (λ c. c || is_among xs x) (eq-eqb x x refl)) e)
    by false e more = more

module _ (schema : Catalog) (changes : RowChanges) where
  pub puts_leads : (sofar end : Sofar) (rest : List ℕ) → Puts schema changes sofar rest end → Leads schema changes sofar rest end
  puts_leads sofar end [] puts = ap Some puts
  puts_leads sofar end (place ∷ rest) puts = ap (λ o. fold (place_on schema changes) o rest) puts.1.leads ∙ puts_leads puts.0 end rest puts.2

  -- the place of the row that is put in
  abbrev its_place : (sofar next : Sofar) (place : ℕ) → Put schema changes sofar place next → Place
  its_place sofar next place put = (table_at changes place, key_of (spec_of schema (table_at changes place)) put.step.row)

  place_is : (sofar next end : Sofar) (place : ℕ) (rest : List ℕ) (put : Put schema changes sofar place next) → IsDistinct eqb (place ∷ rest) → Puts schema changes next rest end → its_place sofar next place put ≡ place_of_new changes end.keys place
  place_is sofar next end place rest put once puts =
      step_key schema changes sofar next end place rest put.step (puts_leads next end rest puts) (distinct_out schema changes place rest once)

  -- a row that stood stands
  stays : (sofar next : Sofar) (place : ℕ) (q : Place) (row : List Value) (put : Put schema changes sofar place next) → IsSorted sofar.tables → row_at sofar.tables q ≡ Some row → row_at next.tables q ≡ Some row
  stays sofar next place q row put sorted at =
      ap (λ s. row_at s.tables q) put.step.is
      ∙ at_other sofar.tables (its_place sofar next place put, Some put.step.row) q sorted (λ same. none_some row (sym put.free ∙ ap (row_at sofar.tables) same ∙ at))
      ∙ at

  pub puts_stay : (rest : List ℕ) (sofar end : Sofar) (q : Place) (row : List Value) → IsSorted sofar.tables → Puts schema changes sofar rest end → row_at sofar.tables q ≡ Some row → row_at end.tables q ≡ Some row
  puts_stay [] sofar end q row sorted puts at = ap (λ s. row_at s.tables q) (sym puts) ∙ at
  puts_stay (place ∷ rest) sofar end q row sorted puts at =
      puts_stay rest puts.0 end q row (step_sorted schema changes sofar puts.0 place puts.1.step sorted) puts.2 (stays sofar puts.0 place q row puts.1 sorted at)

  here : (sofar next : Sofar) (place : ℕ) (put : Put schema changes sofar place next) → IsSorted sofar.tables → row_at next.tables (its_place sofar next place put) ≡ Some put.step.row
  here sofar next place put sorted =
      ap (λ s. row_at s.tables (its_place sofar next place put)) put.step.is
      ∙ at_edit sofar.tables (its_place sofar next place put, Some put.step.row) put.step.rows sorted put.step.table

  -- each new row stands under its key at the end
  pub puts_there : (rest : List ℕ) (sofar end : Sofar) (p : ℕ) → IsDistinct eqb rest → IsSorted sofar.tables → Puts schema changes sofar rest end → is_among rest p ≡ true → (row : List Value) × (row_at end.tables (place_of_new changes end.keys p) ≡ Some row)
  puts_there [] sofar end p once sorted puts among = absurd (true_false (sym among))
  puts_there (place ∷ rest) sofar end p once sorted puts among =
      let then : IsSorted puts.0.tables = step_sorted schema changes sofar puts.0 place puts.1.step sorted in
      elim (or_cases (eqb p place) (is_among rest p) among) [
        | inl first ↦
            let is : place_of_new changes end.keys p ≡ its_place sofar puts.0 place puts.1 = ap (place_of_new changes end.keys) (eqb-true p place first) ∙ sym (place_is sofar puts.0 end place rest puts.1 once puts.2) in
            (puts.1.step.row, ap (row_at end.tables) is ∙ puts_stay rest puts.0 end (its_place sofar puts.0 place puts.1) puts.1.step.row then puts.2 (here sofar puts.0 place puts.1 sorted))
        | inr more ↦ puts_there rest puts.0 end p (distinct_rest schema changes place rest once) then puts.2 more
      ]

  -- and nothing stood there before
  pub puts_free : (rest : List ℕ) (sofar end : Sofar) (p : ℕ) → IsDistinct eqb rest → IsSorted sofar.tables → Puts schema changes sofar rest end → is_among rest p ≡ true → row_at sofar.tables (place_of_new changes end.keys p) ≡ None
  puts_free [] sofar end p once sorted puts among = absurd (true_false (sym among))
  puts_free (place ∷ rest) sofar end p once sorted puts among =
      elim (or_cases (eqb p place) (is_among rest p) among) [
        | inl first ↦
            ap (row_at sofar.tables) (ap (place_of_new changes end.keys) (eqb-true p place first) ∙ sym (place_is sofar puts.0 end place rest puts.1 once puts.2)) ∙ puts.1.free
        | inr more ↦
            let then : row_at puts.0.tables (place_of_new changes end.keys p) ≡ None = puts_free rest puts.0 end p (distinct_rest schema changes place rest once) (step_sorted schema changes sofar puts.0 place puts.1.step sorted) puts.2 more in
            elim (some_or_none (row_at sofar.tables (place_of_new changes end.keys p))) [
              | inl row ↦ absurd (none_some row.0 (sym then ∙ stays sofar puts.0 place (place_of_new changes end.keys p) row.0 puts.1 sorted row.1))
              | inr none ↦ none
            ]
      ]

  later_apart : (sofar end : Sofar) (place p : ℕ) (rest : List ℕ) → IsDistinct eqb (place ∷ rest) → IsSorted sofar.tables → (puts : Puts schema changes sofar (place ∷ rest) end) → is_among rest p ≡ true → place_of_new changes end.keys p ≡ place_of_new changes end.keys place → ⊥
  later_apart sofar end place p rest once sorted puts more same =
      let then : row_at puts.0.tables (place_of_new changes end.keys p) ≡ None = puts_free rest puts.0 end p (distinct_rest schema changes place rest once) (step_sorted schema changes sofar puts.0 place puts.1.step sorted) puts.2 more in
      none_some puts.1.step.row (sym then ∙ ap (row_at puts.0.tables) (same ∙ sym (place_is sofar puts.0 end place rest puts.1 once puts.2)) ∙ here sofar puts.0 place puts.1 sorted)

  -- no two new rows have one key
  pub puts_twice : (test : Place → Place → Bool) → ((one other : Place) → test one other ≡ true → one ≡ other) → (rest : List ℕ) (sofar end : Sofar) → IsDistinct eqb rest → IsSorted sofar.tables → Puts schema changes sofar rest end → some_two (λ one other. test (place_of_new changes end.keys one) (place_of_new changes end.keys other)) rest ≡ false
  puts_twice test is [] sofar end once sorted puts = refl
  puts_twice test is (place ∷ rest) sofar end once sorted puts =
      or_none (list_any (λ later. test (place_of_new changes end.keys later) (place_of_new changes end.keys place)) rest) (some_two (λ one other. test (place_of_new changes end.keys one) (place_of_new changes end.keys other)) rest)
      (none_among (λ later. test (place_of_new changes end.keys later) (place_of_new changes end.keys place)) rest
      (λ p more same. later_apart sofar end place p rest once sorted puts more (is (place_of_new changes end.keys p) (place_of_new changes end.keys place) same)))
      (puts_twice test is rest puts.0 end (distinct_rest schema changes place rest once) (step_sorted schema changes sofar puts.0 place puts.1.step sorted) puts.2)

  -- no key is that of a changed or deleted row
  pub puts_fresh : (rest : List ℕ) (sofar end : Sofar) (p : ℕ) → IsDistinct eqb rest → Puts schema changes sofar rest end → is_among rest p ≡ true → is_stale schema changes (table_at changes p) (key_of_new end.keys p) ≡ false
  puts_fresh [] sofar end p once puts among = absurd (true_false (sym among))
  puts_fresh (place ∷ rest) sofar end p once puts among =
      elim (or_cases (eqb p place) (is_among rest p) among) [
        | inl first ↦
            ap (λ q. is_stale schema changes q.0 q.1) (ap (place_of_new changes end.keys) (eqb-true p place first) ∙ sym (place_is sofar puts.0 end place rest puts.1 once puts.2)) ∙ puts.1.fresh
        | inr more ↦ puts_fresh rest puts.0 end p (distinct_rest schema changes place rest once) puts.2 more
      ]

  pub puts_created : (rest : List ℕ) (sofar end : Sofar) (table : TableId) → Puts schema changes sofar rest end → is_created end.tables table ≡ is_created sofar.tables table
  puts_created [] sofar end table puts = ap (λ s. is_created s.tables table) (sym puts)
  puts_created (place ∷ rest) sofar end table puts =
      puts_created rest puts.0 end table puts.2 ∙ ap (λ s. is_created s.tables table) puts.1.step.is ∙ edited_created sofar.tables (its_place sofar puts.0 place puts.1, Some puts.1.step.row) table

  -- the table of each new row is created
  pub puts_table : (rest : List ℕ) (sofar end : Sofar) (p : ℕ) → Puts schema changes sofar rest end → is_among rest p ≡ true → is_created sofar.tables (table_at changes p) ≡ true
  puts_table [] sofar end p puts among = absurd (true_false (sym among))
  puts_table (place ∷ rest) sofar end p puts among =
      elim (or_cases (eqb p place) (is_among rest p) among) [
        | inl first ↦ ap (λ n. is_created sofar.tables (table_at changes n)) (eqb-true p place first) ∙ ap is_some puts.1.step.table
        | inr more ↦
            sym (ap (λ s. is_created s.tables (table_at changes p)) puts.1.step.is ∙ edited_created sofar.tables (its_place sofar puts.0 place puts.1, Some puts.1.step.row) (table_at changes p))
            ∙ puts_table rest puts.0 end p puts.2 more
      ]

  -- a row that stands at the end stood before, or was put in
  pub puts_rows : (rest : List ℕ) (sofar end : Sofar) (q : Place) (row : List Value) → IsDistinct eqb rest → IsSorted sofar.tables → Puts schema changes sofar rest end → row_at end.tables q ≡ Some row → (row_at sofar.tables q ≡ Some row) ⊎ ((p : ℕ) × (is_among rest p ≡ true) × (place_of_new changes end.keys p ≡ q))
  puts_rows [] sofar end q row once sorted puts at = inl (ap (λ s. row_at s.tables q) puts ∙ at)
  puts_rows (place ∷ rest) sofar end q row once sorted puts at =
      elim (puts_rows rest puts.0 end q row (distinct_rest schema changes place rest once) (step_sorted schema changes sofar puts.0 place puts.1.step sorted) puts.2 at) [
        | inr new ↦ inr (new.0, or_then (eqb new.0 place) (is_among rest new.0) new.1, new.2)
        | inl was ↦ elim (place_cases (its_place sofar puts.0 place puts.1) q) [
          | inl same ↦ inr (place, ap (λ b. b || is_among rest place) (eq-eqb place place refl), sym (place_is sofar puts.0 end place rest puts.1 once puts.2) ∙ same)
          | inr apart ↦ inl (sym (ap (λ s. row_at s.tables q) puts.1.step.is ∙ at_other sofar.tables (its_place sofar puts.0 place puts.1, Some puts.1.step.row) q sorted apart) ∙ was)
        ]
      ]
