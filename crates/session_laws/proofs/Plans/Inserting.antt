-- The INSERTs of a plan: a row comes once every new row to which it refers stands.
use Rattle.std.proofs.Common.{◌≡◌, ◌⊎◌, inl, inr, ℕ, true, false, cond, ◌||◌, eqb, List, [], ◌∷◌, map, None, Some, Ok, Err, refl, sym, ap, ◌∙◌, subst}
use Rattle.std.proofs.lemmas.Bool.{eq-eqb, eqb-true}
use Rattle.std.specs.List.{AllByRecursion, IsDistinct}
use Rattle.std.specs.Option.{is_some, option_and_then}
use Rattle.base_core.specs.declared.ids.TableId.{TableId}
use Rattle.base_core.specs.declared.value.Value.{Value}
use Rattle.schema_core.specs.declared.changes.RowChanges.{RowChanges}
use Rattle.schema_core.specs.declared.statement.Violation.TheVariants.{Missing}
use Rattle.schema_core.specs.declared.statement.RowStmt.TheVariants as statement
use Rattle.schema_core.specs.declared.table.ForeignSpec.{ForeignSpec}
use Rattle.schema_core.specs.Apply.{apply, is_demanded}
use Rattle.schema_core.specs.Judged.{lacks_value}
use Rattle.schema_core.specs.Catalog.{Catalog, spec_of, target_of}
use Rattle.schema_core.specs.Tables.{Legal, Rows, Tables, cells_of, dangles, has_null, is_created, is_legal_row, key_of, row_under, rows_in}
use Rattle.table_laws.proofs.Entries.{all_both, all_map}
use Rattle.flush_order.specs.Cells.{first_cells, late_name, table_at}
use Rattle.row_order.specs.Places.{is_among}
use Rattle.flush_order.specs.Sorted.{Place}
use Rattle.flush_plan.specs.Flushing.{Keys, Sofar, after_outcome, is_stale, key_of_new, value_of_cell, send}
use Rattle.flush_plan.specs.Stating.{with_edit, is_present, place_of_new, row_at}
use Rattle.session_laws.specs.Plans.Premises.{Ends, IsSorted}
use Rattle.session_laws.specs.Plans.Laws.{insert_of}
use Rattle.session_laws.proofs.Plans.Accept.{insert_accepted}
use Rattle.session_laws.proofs.Plans.At.{at_edit, at_other, edited_created, edited_sorted, place_cases}
use Rattle.session_laws.proofs.Plans.Between.{Between, FromRow, Good, IsBound, all_forall, between_legal, columns, comes_long, early_part, good_foreigns, good_legal, legal_bound, moved, null_bound}
use Rattle.session_laws.proofs.Plans.Blend.{blend_self, nulls}
use Rattle.session_laws.proofs.Plans.Prefixes.{Goes}
use Rattle.session_laws.proofs.Plans.Placing.{Leads, Step, distinct_out, distinct_rest, leads_step, rows_kept, step_key}
use Rattle.session_laws.proofs.Plans.Facts.{none_some, same_some, some_or_none, true_false, or_cases, or_false, some_of}
use Rattle.base_core.proofs.Tests.{or_then}

module _ (schema : Catalog) (changes : RowChanges) (old stated : Tables) (placed : Sofar) where
  abbrev new_place : ℕ → Place
  new_place place = place_of_new changes placed.keys place

  abbrev First : Place → List Value → List Value
  First place row = early_part schema changes place row

  -- no foreign key of the row names this place
  abbrev pub NamesNot : Place → Place → List Value → ForeignSpec → Type 0
  NamesNot other place row foreign = target_of schema foreign ≡ Some other.0 → has_null (cells_of (spec_of schema place.0) (First place row) foreign.columns) ≡ false → cells_of (spec_of schema place.0) (First place row) foreign.columns ≡ other.1 → ⊥

  -- what is known of the new rows: the key is new, and the row, once placed, is the stated one before what is written late; it lacks nothing
  pub record News (order : List ℕ) : Type 0 where
    pub once : IsDistinct eqb order
    pub free : (place : ℕ) → is_among order place ≡ true → row_at old (new_place place) ≡ None
    pub apart : (place other : ℕ) → is_among order place ≡ true → is_among order other ≡ true → new_place place ≡ new_place other → place ≡ other
    pub fresh : (place : ℕ) → is_among order place ≡ true → is_stale schema changes (table_at changes place) (key_of_new placed.keys place) ≡ false
    pub stands : (place : ℕ) (row : List Value) → is_among order place ≡ true → row_at placed.tables (new_place place) ≡ Some row → (written : List Value) × (row_at stated (new_place place) ≡ Some written) × (row ≡ First (new_place place) written)
    pub whole : (place : ℕ) (sofar next : Sofar) (step : Step schema changes sofar place next) → is_legal_row (spec_of schema (table_at changes place)) step.row ≡ true → lacks_value (is_demanded (spec_of schema (table_at changes place))) (spec_of schema (table_at changes place)).columns (map (value_of_cell sofar.keys) (first_cells schema changes place)) ≡ false
    pub cover : (place : Place) → is_present stated place ≡ true → (is_present old place ≡ true) ⊎ ((other : ℕ) × (is_among order other ≡ true) × (new_place other ≡ place))

  -- each row left names none that is left after it, nor itself
  abbrev pub InOrder : List ℕ → Type 0
  InOrder [] = Unit {0}
  InOrder (place ∷ rest) = ((row : List Value) (other : ℕ) → row_at stated (new_place place) ≡ Some row → is_among (place ∷ rest) other ≡ true → AllByRecursion (NamesNot (new_place other) (new_place place) row) (spec_of schema (table_at changes place)).foreigns) × InOrder rest

  -- old rows stand, and of the new ones those that are not left
  pub record Stood (order rest : List ℕ) (sofar : Sofar) : Type 0 where
    pub sorted : IsSorted sofar.tables
    pub created : (table : TableId) → is_created sofar.tables table ≡ is_created old table
    pub olds : (place : Place) (row : List Value) → row_at old place ≡ Some row → row_at sofar.tables place ≡ Some row
    pub done : (place : ℕ) → is_among order place ≡ true → (is_among rest place ≡ true) ⊎ (is_present sofar.tables (new_place place) ≡ true)
    pub rows : (place : Place) (row : List Value) → row_at sofar.tables place ≡ Some row → (row_at old place ≡ Some row) ⊎ ((other : ℕ) × (is_among order other ≡ true) × (is_among rest other ≡ false) × (new_place other ≡ place) × ((written : List Value) × (row_at stated place ≡ Some written) × (row ≡ First place written)))

  pub record Putting (order rest : List ℕ) (sofar : Sofar) : Type 0 where
    pub stood : Stood order rest sofar
    pub legal : Legal schema sofar.tables

  module _ (ends : Ends schema changes old stated) where
    good_row : (order rest : List ℕ) (news : News order) (place : Place) (row : List Value) → (row_at old place ≡ Some row) ⊎ ((other : ℕ) × (is_among order other ≡ true) × (is_among rest other ≡ false) × (new_place other ≡ place) × ((written : List Value) × (row_at stated place ≡ Some written) × (row ≡ First place written))) → Good schema changes old stated ends place row
    good_row order rest news place row (inl at) = record {
      early = row;
      late = row;
      is = sym (blend_self (late_name schema changes place.0) (columns schema place) row (comes_long schema changes old stated ends place row (inl at)));
      from = inl at;
      after = inl (inl at);
    }
    good_row order rest news place row (inr new) = record {
      early = new.4.0;
      late = nulls (columns schema place);
      is = new.4.2;
      from = inr new.4.1;
      after = inr (refl, inl (sym (ap (row_at old) new.3) ∙ news.free new.0 new.1));
    }

    -- the next row is not there yet
    not_there : (order rest : List ℕ) (news : News order) (place : ℕ) (sofar : Sofar) → is_among order place ≡ true → is_among rest place ≡ false → ((other : ℕ) → is_among rest other ≡ true → is_among order other ≡ true) → Putting order (place ∷ rest) sofar → row_at sofar.tables (new_place place) ≡ None
    not_there order rest news place sofar among out within putting =
        elim (some_or_none (row_at sofar.tables (new_place place))) [
          | inl row ↦ elim (putting.stood.rows (new_place place) row.0 row.1) [
            | inl was ↦ absurd (none_some row.0 (sym (news.free place among) ∙ was))
            | inr new ↦ absurd (true_false (sym (ap (λ b. b || is_among rest new.0) (eq-eqb new.0 place (news.apart new.0 place new.1 among new.3))) ∙ new.2))
          ]
          | inr free ↦ free
        ]

    -- what is there stays
    still : (tables : Tables) (at : Place) (row : List Value) (rows : Rows) (place : Place) → IsSorted tables → rows_in tables at.0 ≡ Some rows → is_present tables place ≡ true → is_present (with_edit tables (at, Some row)) place ≡ true
    still tables at row rows place sorted e was =
        elim (place_cases at place) [
          | inl same ↦ ap (λ q. is_present (with_edit tables (at, Some row)) q) (sym same) ∙ ap is_some (at_edit tables (at, Some row) rows sorted e)
          | inr apart ↦ ap is_some (at_other tables (at, Some row) place sorted apart) ∙ was
        ]

    -- a stated row that the new row names is there
    named_there : (order rest : List ℕ) (news : News order) (place : ℕ) (sofar : Sofar) (row : List Value) (q : Place) → Putting order (place ∷ rest) sofar → ((other : ℕ) → is_among (place ∷ rest) other ≡ true → new_place other ≡ q → ⊥) → is_present stated q ≡ true → is_present sofar.tables q ≡ true
    named_there order rest news place sofar row q putting never there =
        elim (news.cover q there) [
          | inl was ↦ let r = some_of (row_at old q) was in ap is_some (putting.stood.olds q r.0 r.1)
          | inr new ↦ elim (putting.stood.done new.0 new.1) [
            | inl left ↦ absurd (never new.0 left new.2)
            | inr done ↦ ap (is_present sofar.tables) (sym new.2) ∙ done
          ]
        ]

    bound_new : (order rest : List ℕ) (news : News order) (place : ℕ) (sofar : Sofar) (rows : Rows) (written : List Value) → is_among order place ≡ true → (foreign : ForeignSpec) → Putting order (place ∷ rest) sofar → rows_in sofar.tables (table_at changes place) ≡ Some rows → row_at stated (new_place place) ≡ Some written → ((other : ℕ) → is_among (place ∷ rest) other ≡ true → NamesNot (new_place other) (new_place place) written foreign) → FromRow schema changes old stated ends (new_place place) (First (new_place place) written) foreign → dangles schema (with_edit sofar.tables (new_place place, Some (First (new_place place) written))) (spec_of schema (table_at changes place)) (First (new_place place) written) foreign ≡ false
    bound_new order rest news place sofar rows written among foreign putting table at never (inl s) =
        absurd (none_some s.0 (sym (news.free place among) ∙ s.1))
    bound_new order rest news place sofar rows written among foreign putting table at never (inr (inl s)) =
        moved schema stated (with_edit sofar.tables (new_place place, Some (First (new_place place) written))) (spec_of schema (table_at changes place)) (First (new_place place) written) s.0 foreign s.2 s.3
        (λ t target whole there.
        still sofar.tables (new_place place) (First (new_place place) written) rows (t, cells_of (spec_of schema (table_at changes place)) s.0 foreign.columns) putting.stood.sorted table
        (named_there order rest news place sofar written (t, cells_of (spec_of schema (table_at changes place)) s.0 foreign.columns) putting
        (λ other left is. never other left (target ∙ ap Some (sym (ap (λ q. q.0) is))) (ap has_null s.2 ∙ whole) (s.2 ∙ sym (ap (λ q. q.1) is)))
        there))
    bound_new order rest news place sofar rows written among foreign putting table at never (inr (inr null)) = null_bound schema (with_edit sofar.tables (new_place place, Some (First (new_place place) written))) (spec_of schema (table_at changes place)) (First (new_place place) written) foreign null

    abbrev Placed : ℕ → List Value → List Value → Keys → Tables → Sofar
    Placed place written key keys tables = record { tables = with_edit tables (new_place place, Some (First (new_place place) written)); keys = (place, key) ∷ keys }

    module _ (order rest : List ℕ) (news : News order) (place : ℕ) (sofar : Sofar) (rows : Rows) (written : List Value) (among : is_among order place ≡ true) (out : is_among rest place ≡ false) (putting : Putting order (place ∷ rest) sofar) (table : rows_in sofar.tables (table_at changes place) ≡ Some rows) (at : row_at stated (new_place place) ≡ Some written) (inside : (other : ℕ) → is_among rest other ≡ true → is_among order other ≡ true) where
      abbrev then : Tables
      then = with_edit sofar.tables (new_place place, Some (First (new_place place) written))

      -- it stood before, or it is the new row
      then_cases : (q : Place) (row : List Value) → row_at then q ≡ Some row → ((new_place place ≡ q) × (First (new_place place) written ≡ row)) ⊎ ((new_place place ≡ q → ⊥) × (row_at sofar.tables q ≡ Some row))
      then_cases q row is =
          elim (place_cases (new_place place) q) [
            | inl same ↦ inl (same, same_some (First (new_place place) written) row (sym (at_edit sofar.tables (new_place place, Some (First (new_place place) written)) rows putting.stood.sorted table) ∙ ap (row_at then) same ∙ is))
            | inr apart ↦ inr (apart, sym (at_other sofar.tables (new_place place, Some (First (new_place place) written)) q putting.stood.sorted apart) ∙ is)
          ]

      then_rows : (q : Place) (row : List Value) → row_at then q ≡ Some row → (row_at old q ≡ Some row) ⊎ ((other : ℕ) × (is_among order other ≡ true) × (is_among rest other ≡ false) × (new_place other ≡ q) × ((w : List Value) × (row_at stated q ≡ Some w) × (row ≡ First q w)))
      then_rows q row is =
          elim (then_cases q row is) [
            | inl new ↦ inr (place, among, out, new.0, (written, sym (ap (row_at stated) new.0) ∙ at, sym new.1 ∙ ap (λ p. First p written) new.0))
            | inr was ↦ elim (putting.stood.rows q row was.1) [
              | inl old ↦ inl old
              | inr new ↦ inr (new.0, new.1, (or_false (eqb new.0 place) (is_among rest new.0) new.2).1, new.3, new.4)
            ]
          ]

      then_between : Between schema changes old stated ends then
      then_between = record {
        sorted = edited_sorted sofar.tables (new_place place, Some (First (new_place place) written)) putting.stood.sorted;
        created = λ t. edited_created sofar.tables (new_place place, Some (First (new_place place) written)) t ∙ putting.stood.created t;
        good = λ q row is. good_row order rest news q row (then_rows q row is);
      }

      then_bound : InOrder (place ∷ rest) → IsBound schema changes old stated ends then
      then_bound ordered q row is =
          elim (then_cases q row is) [
            | inl new ↦ subst (λ p. AllByRecursion (λ foreign. dangles schema then (spec_of schema p.0) row foreign ≡ false) (spec_of schema p.0).foreigns) new.0
                (subst (λ r. AllByRecursion (λ foreign. dangles schema then (spec_of schema (table_at changes place)) r foreign ≡ false) (spec_of schema (table_at changes place)).foreigns) new.1
                (all_both (λ foreign. (other : (o : ℕ) × (is_among (place ∷ rest) o ≡ true)) → NamesNot (new_place other.0) (new_place place) written foreign)
                (FromRow schema changes old stated ends (new_place place) (First (new_place place) written))
                (λ foreign. dangles schema then (spec_of schema (table_at changes place)) (First (new_place place) written) foreign ≡ false)
                (λ foreign never source. bound_new order rest news place sofar rows written among foreign putting table at (λ other left. never (other, left)) source)
                (spec_of schema (table_at changes place)).foreigns
                (all_forall (λ (other : (o : ℕ) × (is_among (place ∷ rest) o ≡ true)) foreign. NamesNot (new_place other.0) (new_place place) written foreign) (spec_of schema (table_at changes place)).foreigns (λ other. ordered.0 written other.0 at other.1))
                (good_foreigns schema changes old stated ends (new_place place) (First (new_place place) written) (good_row order rest news (new_place place) (First (new_place place) written) (inr (place, among, out, refl, (written, at, refl)))))))
            | inr was ↦
                all_map (λ foreign. dangles schema sofar.tables (spec_of schema q.0) row foreign ≡ false) (λ foreign. dangles schema then (spec_of schema q.0) row foreign ≡ false)
                (λ foreign named. moved schema sofar.tables then (spec_of schema q.0) row row foreign refl named (λ t target whole there. still sofar.tables (new_place place) (First (new_place place) written) rows (t, cells_of (spec_of schema q.0) row foreign.columns) putting.stood.sorted table there))
                (spec_of schema q.0).foreigns (legal_bound schema sofar.tables putting.legal q row was.1)
          ]

      then_putting : InOrder (place ∷ rest) → (key : List Value) → Putting order rest (Placed place written key sofar.keys sofar.tables)
      then_putting ordered key = record {
        stood = record {
          sorted = then_between.sorted;
          created = then_between.created;
          olds = λ q row was.
              at_other sofar.tables (new_place place, Some (First (new_place place) written)) q putting.stood.sorted (λ same. none_some row (sym (news.free place among) ∙ ap (row_at old) same ∙ was))
              ∙ putting.stood.olds q row was;
          done = λ other is.
              elim (putting.stood.done other is) [
                | inl left ↦ elim (or_cases (eqb other place) (is_among rest other) left) [
                  | inl same ↦ inr (ap (λ n. is_present then (new_place n)) (eqb-true other place same) ∙ ap is_some (at_edit sofar.tables (new_place place, Some (First (new_place place) written)) rows putting.stood.sorted table))
                  | inr more ↦ inl more
                ]
                | inr there ↦ inr (still sofar.tables (new_place place) (First (new_place place) written) rows (new_place other) putting.stood.sorted table there)
              ];
          rows = then_rows;
        };
        legal = between_legal schema changes old stated ends then then_between (then_bound ordered);
      }

    sent_insert : (order rest : List ℕ) (news : News order) (place : ℕ) (sofar next : Sofar) → is_among order place ≡ true → ((other : ℕ) → is_among rest other ≡ true → is_among order other ≡ true) → IsDistinct eqb (place ∷ rest) → InOrder (place ∷ rest) → Putting order (place ∷ rest) sofar → Step schema changes sofar place next → Leads schema changes next rest placed → (send schema changes sofar (insert_of changes place) ≡ Ok next) × Putting order rest next
    unfolding send
    sent_insert order rest news place sofar next among inside once ordered putting step leads =
        let out = distinct_out schema changes place rest once in
        let key : List Value = key_of (spec_of schema (table_at changes place)) step.row in
        let is : (table_at changes place, key) ≡ new_place place = step_key schema changes sofar next placed place rest step leads out in
        let sorted : IsSorted next.tables = subst (λ s. IsSorted s.tables) (sym step.is) (edited_sorted sofar.tables ((table_at changes place, key), Some step.row) putting.stood.sorted) in
        let here : row_at next.tables (new_place place) ≡ Some step.row =
        ap (λ s. row_at s.tables (new_place place)) step.is
        ∙ sym (ap (row_at (with_edit sofar.tables ((table_at changes place, key), Some step.row))) is)
        ∙ at_edit sofar.tables ((table_at changes place, key), Some step.row) step.rows putting.stood.sorted step.table in
        let kept : row_at placed.tables (new_place place) ≡ Some step.row =
        rows_kept schema changes rest next placed (new_place place) (distinct_rest schema changes place rest once) sorted leads
        (λ other left same. true_false (sym (subst (λ n. is_among rest n ≡ true) (news.apart other place (inside other left) among same) left) ∙ out))
        ∙ here in
        let stands = news.stands place step.row among kept in
        let edit : ((table_at changes place, key), Some step.row) ≡ (new_place place, Some (First (new_place place) stands.0)) = λ i. (is i, Some (stands.2 i)) in
        let then : next ≡ Placed place stands.0 key sofar.keys sofar.tables = step.is ∙ ap (λ e. record { tables = with_edit sofar.tables e; keys = (place, key) ∷ sofar.keys }) edit in
        let after : Putting order rest next = subst (Putting order rest) (sym then) (then_putting order rest news place sofar step.rows stands.0 among out putting step.table stands.1 inside ordered key) in
        let legal : Legal schema (with_edit sofar.tables ((table_at changes place, key), Some step.row)) = subst (λ s. Legal schema s.tables) step.is after.legal in
        let free : row_under step.rows key ≡ None =
        sym (ap (option_and_then (λ r. row_under r key)) step.table) ∙ ap (row_at sofar.tables) is ∙ not_there order rest news place sofar among out inside putting in
        let fits : is_legal_row (spec_of schema (table_at changes place)) step.row ≡ true =
        ap (is_legal_row (spec_of schema (table_at changes place))) stands.2
        ∙ good_legal schema changes old stated ends (new_place place) (First (new_place place) stands.0) (good_row order rest news (new_place place) (First (new_place place) stands.0) (inr (place, among, out, refl, (stands.0, stands.1, refl)))) in
        let answer : apply schema sofar.tables (statement.Insert (table_at changes place) (map (value_of_cell sofar.keys) (first_cells schema changes place) ∷ [])) ≡ Ok (key ∷ [], with_edit sofar.tables ((table_at changes place, key), Some step.row)) =
        insert_accepted schema sofar.tables (table_at changes place) step.rows (map (value_of_cell sofar.keys) (first_cells schema changes place)) step.row putting.stood.sorted step.table (news.whole place sofar next step fits) step.draws free legal in
        let new : is_stale schema changes (table_at changes place) key ≡ false = ap (λ q. is_stale schema changes (table_at changes place) q.1) is ∙ news.fresh place among in (
          ◌∙◌ {b = after_outcome schema changes sofar (insert_of changes place) (Ok (key ∷ [], with_edit sofar.tables ((table_at changes place, key), Some step.row)))} (ap (after_outcome schema changes sofar (insert_of changes place)) answer)
              (◌∙◌ {b = Ok (record { tables = with_edit sofar.tables ((table_at changes place, key), Some step.row); keys = (place, key) ∷ sofar.keys })}
              (ap (λ b. cond (b || false) (Err (table_at changes place, Missing)) (Ok (record { tables = with_edit sofar.tables ((table_at changes place, key), Some step.row); keys = (place, key) ∷ sofar.keys }))) new)
              (ap Ok (sym step.is))),
          after,
        )

    -- all INSERTs
    pub inserts_go : (order rest : List ℕ) (news : News order) (sofar : Sofar) → ((other : ℕ) → is_among rest other ≡ true → is_among order other ≡ true) → IsDistinct eqb rest → InOrder rest → Putting order rest sofar → Leads schema changes sofar rest placed → Goes schema changes sofar (map (insert_of changes) rest) placed × Putting order [] placed
    inserts_go order [] news sofar inside once ordered putting leads =
        let is : sofar ≡ placed = same_sofar sofar placed leads in
        ((is, putting.legal), subst (Putting order []) is putting)
      where
        same_sofar : (x y : Sofar) → Some x ≡ Some y → x ≡ y
        same_sofar x y e = cc
    inserts_go order (place ∷ rest) news sofar inside once ordered putting leads =
        let next = leads_step schema changes sofar placed place rest leads in
        let here : is_among order place ≡ true = inside place (ap (λ b. b || is_among rest place) (eq-eqb place place refl)) in
        let more : (other : ℕ) → is_among rest other ≡ true → is_among order other ≡ true = λ other left. inside other (or_then (eqb other place) (is_among rest other) left) in
        let step = sent_insert order rest news place sofar next.0 here more once ordered putting next.1 next.2 in
        let all = inserts_go order rest news next.0 more (distinct_rest schema changes place rest once) ordered.1 step.1 next.2 in
        ((putting.legal, (next.0, step.0, all.0)), all.1)
