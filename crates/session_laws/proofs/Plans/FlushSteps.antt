-- The UPDATEs and DELETEs of an accepted plan.
use Rattle.std.proofs.Common.{◌≡◌, ◌⊎◌, inl, inr, true, List, [], ◌∷◌, map, Option, None, Some, refl, sym, ap, ◌∙◌, subst}
use Rattle.std.specs.List.{AllByRecursion}
use Rattle.std.specs.Option.{is_some}
use Rattle.base_core.specs.declared.ids.TableId.{TableId}
use Rattle.base_core.specs.declared.value.Value.{Value}
use Rattle.schema_core.specs.declared.changes.RowChanges.{RowChanges}
use Rattle.schema_core.specs.Apply.{with_cells}
use Rattle.schema_core.specs.Catalog.{Catalog}
use Rattle.schema_core.specs.Tables.{Rows, Tables, is_created, rows_in}
use Rattle.table_laws.proofs.Entries.{all_map}
use Rattle.flush_order.specs.Sorted.{Place}
use Rattle.flush_plan.specs.Flushing.{Keys, Sofar, value_of_cell}
use Rattle.flush_plan.specs.Stating.{with_edit, is_present, put_cells, row_at}
use Rattle.session_laws.specs.Plans.Premises.{IsSorted}
use Rattle.session_laws.proofs.Plans.Accepted.{Accepts, sent_of}
use Rattle.session_laws.proofs.Plans.At.{at_edit, at_other, edited_created, edited_sorted, place_cases, same_tables}
use Rattle.session_laws.proofs.Plans.Between.{at_found}
use Rattle.session_laws.proofs.Plans.Deleting.{remove_at}
use Rattle.session_laws.proofs.Plans.Facts.{none_some, true_false}
use Rattle.session_laws.proofs.Plans.Items.{Member}
use Rattle.session_laws.proofs.Plans.ReadBack.{delete_read, update_read}
use Rattle.session_laws.proofs.Plans.Updating.{IsStep, OnWay, Step, elsewhere, pick, planned_of, step_place, still, written}

-- an UPDATE that was accepted
record Read (sofar : Sofar) (step : Step) (next : Sofar) : Type 0 where
  rows : Rows
  table : rows_in sofar.tables step.1.0 ≡ Some rows
  row : List Value
  at : row_at sofar.tables (step_place sofar.keys step) ≡ Some row
  is : next ≡ record { tables = with_edit sofar.tables (step_place sofar.keys step, Some (with_cells row (put_cells (value_of_cell sofar.keys) step.1.2))); keys = sofar.keys }

module _ (schema : Catalog) (changes : RowChanges) where
  read : (sofar end : Sofar) (step : Step) (steps : List Step) → (a : Accepts schema changes sofar (map planned_of (step ∷ steps)) end) → Read sofar step a.0
  read sofar end step steps a =
      let one = sent_of schema changes sofar a.0 (planned_of step) a.1 in
      let u = update_read schema sofar.tables step.1.0 (map (value_of_cell sofar.keys) step.1.1) (put_cells (value_of_cell sofar.keys) step.1.2) one.answer one.done in
      record {
        rows = u.rows;
        table = u.table_rows;
        row = u.row;
        at = at_found sofar.tables step.1.0 (map (value_of_cell sofar.keys) step.1.1) u.row u.rows u.table_rows u.under;
        is = one.is ∙ ap (λ t. record { tables = t; keys = sofar.keys }) u.is;
      }

  pub updates_keys : (steps : List Step) (sofar end : Sofar) → Accepts schema changes sofar (map planned_of steps) end → end.keys ≡ sofar.keys
  updates_keys [] sofar end a = ap (λ s. s.keys) (sym a)
  updates_keys (step ∷ steps) sofar end a = updates_keys steps a.0 end a.2 ∙ ap (λ s. s.keys) (read sofar end step steps a).is

  sorted_then : (sofar end : Sofar) (step : Step) (steps : List Step) → (a : Accepts schema changes sofar (map planned_of (step ∷ steps)) end) → IsSorted sofar.tables → IsSorted a.0.tables
  sorted_then sofar end step steps a sorted =
      let r = read sofar end step steps a in
      subst (λ s. IsSorted s.tables) (sym r.is) (edited_sorted sofar.tables (step_place sofar.keys step, Some (with_cells r.row (put_cells (value_of_cell sofar.keys) step.1.2))) sorted)

  pub updates_sorted : (steps : List Step) (sofar end : Sofar) → IsSorted sofar.tables → Accepts schema changes sofar (map planned_of steps) end → IsSorted end.tables
  updates_sorted [] sofar end sorted a = subst (λ s. IsSorted s.tables) a sorted
  updates_sorted (step ∷ steps) sofar end sorted a = updates_sorted steps a.0 end (sorted_then sofar end step steps a sorted) a.2

  pub updates_created : (steps : List Step) (sofar end : Sofar) (table : TableId) → Accepts schema changes sofar (map planned_of steps) end → is_created end.tables table ≡ is_created sofar.tables table
  updates_created [] sofar end table a = ap (λ s. is_created s.tables table) (sym a)
  updates_created (step ∷ steps) sofar end table a =
      let r = read sofar end step steps a in
      updates_created steps a.0 end table a.2 ∙ ap (λ s. is_created s.tables table) r.is
      ∙ edited_created sofar.tables (step_place sofar.keys step, Some (with_cells r.row (put_cells (value_of_cell sofar.keys) step.1.2))) table

  -- an UPDATE writes a row that is there, and brings no other
  was_there : (sofar end : Sofar) (step : Step) (steps : List Step) (q : Place) → (a : Accepts schema changes sofar (map planned_of (step ∷ steps)) end) → IsSorted sofar.tables → is_present a.0.tables q ≡ true → is_present sofar.tables q ≡ true
  was_there sofar end step steps q a sorted there =
      let r = read sofar end step steps a in
      elim (place_cases (step_place sofar.keys step) q) [
        | inl same ↦ ap (is_present sofar.tables) (sym same) ∙ ap is_some r.at
        | inr apart ↦
            ap is_some (sym (ap (λ s. row_at s.tables q) r.is ∙ at_other sofar.tables (step_place sofar.keys step, Some (with_cells r.row (put_cells (value_of_cell sofar.keys) step.1.2))) q sorted apart)) ∙ there
      ]

  -- each row that is written is there
  pub updates_present : (steps : List Step) (sofar end : Sofar) → IsSorted sofar.tables → Accepts schema changes sofar (map planned_of steps) end → AllByRecursion (λ step. is_present sofar.tables (step_place sofar.keys step) ≡ true) steps
  updates_present [] sofar end sorted a = tt
  updates_present (step ∷ steps) sofar end sorted a =
      let r = read sofar end step steps a in (
        ap is_some r.at,
        all_map (λ s. is_present a.0.tables (step_place a.0.keys s) ≡ true) (λ s. is_present sofar.tables (step_place sofar.keys s) ≡ true)
            (λ s there. was_there sofar end step steps (step_place sofar.keys s) a sorted (ap (λ t. is_present a.0.tables (step_place t.keys s)) (sym r.is) ∙ there))
            steps (updates_present steps a.0 end (sorted_then sofar end step steps a sorted) a.2),
      )

  module _ (old stated : Tables) (keys : Keys) where
    -- While UPDATEs are accepted: a stated row stands, and has what it should or an UPDATE of it is still to come. Other rows are old ones.
    pub record Arriving (steps : List Step) (sofar : Sofar) : Type 0 where
      pub known : sofar.keys ≡ keys
      pub sorted : IsSorted sofar.tables
      pub created : (table : TableId) → is_created sofar.tables table ≡ is_created old table
      pub there : (place : Place) → is_present stated place ≡ true → is_present sofar.tables place ≡ true
      pub ways : (place : Place) (row : List Value) → row_at sofar.tables place ≡ Some row → is_present stated place ≡ true → OnWay schema changes old stated keys steps place row
      pub others : (place : Place) (row : List Value) → row_at sofar.tables place ≡ Some row → (is_present stated place ≡ true) ⊎ (is_present old place ≡ true)

    -- an UPDATE is of a row that is to go, or writes what it should
    abbrev pub IsRight : Step → Type 0
    IsRight step = (row_at stated (step_place keys step) ≡ None) ⊎ IsStep schema changes old stated keys step

    arrives : (step : Step) (steps : List Step) (sofar : Sofar) (row : List Value) (rows : Rows) → Arriving (step ∷ steps) sofar → IsRight step → rows_in sofar.tables step.1.0 ≡ Some rows → row_at sofar.tables (step_place keys step) ≡ Some row
        → Arriving steps (record { tables = with_edit sofar.tables (step_place keys step, Some (with_cells row (put_cells (value_of_cell keys) step.1.2))); keys = keys })
    arrives step steps sofar row rows coming right table at =
        let new : List Value = with_cells row (put_cells (value_of_cell keys) step.1.2) in
        let q : Place = step_place keys step in
        record {
          known = refl;
          sorted = edited_sorted sofar.tables (q, Some new) coming.sorted;
          created = λ t. edited_created sofar.tables (q, Some new) t ∙ coming.created t;
          there = λ place was. still schema changes old stated keys sofar.tables q new rows place coming.sorted table (coming.there place was);
          ways = pick schema changes old stated keys (λ place r. is_present stated place ≡ true → OnWay schema changes old stated keys steps place r) sofar.tables q new rows coming.sorted table
              (λ stands. elim right [
                | inl none ↦ absurd (true_false (sym stands ∙ ap is_some none))
                | inr is ↦ written schema changes old stated keys step steps row is.1 (coming.ways q row at stands)
              ])
              (λ place r away is stands. elsewhere schema changes old stated keys step steps place r away (coming.ways place r is stands));
          others = pick schema changes old stated keys (λ place r. (is_present stated place ≡ true) ⊎ (is_present old place ≡ true)) sofar.tables q new rows coming.sorted table
              (coming.others q row at) (λ place r away is. coming.others place r is);
        }

    pub updates_end : (steps : List Step) (sofar end : Sofar) → AllByRecursion IsRight steps → Arriving steps sofar → Accepts schema changes sofar (map planned_of steps) end → Arriving [] end
    updates_end [] sofar end are coming a = subst (Arriving []) a coming
    updates_end (step ∷ steps) sofar end are coming a =
        let r = read sofar end step steps a in
        let at : row_at sofar.tables (step_place keys step) ≡ Some r.row = ap (λ k. row_at sofar.tables (step_place k step)) (sym coming.known) ∙ r.at in
        let then : Arriving steps (record { tables = with_edit sofar.tables (step_place keys step, Some (with_cells r.row (put_cells (value_of_cell keys) step.1.2))); keys = keys }) =
        arrives step steps sofar r.row r.rows coming are.0 r.table at in
        let is : a.0 ≡ record { tables = with_edit sofar.tables (step_place keys step, Some (with_cells r.row (put_cells (value_of_cell keys) step.1.2))); keys = keys } =
        r.is ∙ ap (λ k. record { tables = with_edit sofar.tables (step_place k step, Some (with_cells r.row (put_cells (value_of_cell k) step.1.2))); keys = k }) coming.known in
        updates_end steps a.0 end are.1 (subst (Arriving steps) (sym is) then) a.2

  -- ---- DELETEs

  record Gone (sofar : Sofar) (place : Place) (next : Sofar) : Type 0 where
    rows : Rows
    table : rows_in sofar.tables place.0 ≡ Some rows
    is : next ≡ record { tables = with_edit sofar.tables (place, None); keys = sofar.keys }

  gone : (sofar end : Sofar) (place : Place) (places : List Place) → IsSorted sofar.tables → (a : Accepts schema changes sofar (map remove_at (place ∷ places)) end) → Gone sofar place a.0
  gone sofar end place places sorted a =
      let one = sent_of schema changes sofar a.0 (remove_at place) a.1 in
      let d = delete_read schema sofar.tables place.0 place.1 one.answer sorted one.done in
      record { rows = d.rows; table = d.table_rows; is = one.is ∙ ap (λ t. record { tables = t; keys = sofar.keys }) d.is }

  -- each table of which a row is deleted is created
  pub deletes_created : (places : List Place) (sofar end : Sofar) → IsSorted sofar.tables → Accepts schema changes sofar (map remove_at places) end → AllByRecursion (λ place. is_created sofar.tables place.0 ≡ true) places
  deletes_created [] sofar end sorted a = tt
  deletes_created (place ∷ places) sofar end sorted a =
      let g = gone sofar end place places sorted a in (
        ap is_some g.table,
        all_map (λ q. is_created a.0.tables q.0 ≡ true) (λ q. is_created sofar.tables q.0 ≡ true)
            (λ q created. sym (ap (λ s. is_created s.tables q.0) g.is ∙ edited_created sofar.tables (place, None) q.0) ∙ created)
            places (deletes_created places a.0 end (subst (λ s. IsSorted s.tables) (sym g.is) (edited_sorted sofar.tables (place, None) sorted)) a.2),
      )

  module _ (stated : Tables) where
    -- While DELETEs are accepted: the stated rows stand, and others are among those that are still to go.
    pub record Leaving (rest : List Place) (sofar : Sofar) : Type 0 where
      pub sorted : IsSorted sofar.tables
      pub created : (table : TableId) → is_created sofar.tables table ≡ is_created stated table
      pub rows : (place : Place) (row : List Value) → row_at stated place ≡ Some row → row_at sofar.tables place ≡ Some row
      pub others : (place : Place) → is_present sofar.tables place ≡ true → (is_present stated place ≡ true) ⊎ Member place rest

    left : (place q : Place) (rest : List Place) → (place ≡ q → ⊥) → (is_present stated q ≡ true) ⊎ Member q (place ∷ rest) → (is_present stated q ≡ true) ⊎ Member q rest
    left place q rest away (inl stands) = inl stands
    left place q rest away (inr (inl here)) = absurd (away here)
    left place q rest away (inr (inr more)) = inr more

    leaves : (place : Place) (rest : List Place) (sofar : Sofar) (rows : Rows) → Leaving (place ∷ rest) sofar → row_at stated place ≡ None → rows_in sofar.tables place.0 ≡ Some rows
        → Leaving rest (record { tables = with_edit sofar.tables (place, None); keys = sofar.keys })
    leaves place rest sofar rows going none table = record {
      sorted = edited_sorted sofar.tables (place, None) going.sorted;
      created = λ t. edited_created sofar.tables (place, None) t ∙ going.created t;
      rows = λ q row at.
          elim (place_cases place q) [
            | inl same ↦ absurd (none_some row (sym none ∙ ap (row_at stated) same ∙ at))
            | inr away ↦ at_other sofar.tables (place, None) q going.sorted away ∙ going.rows q row at
          ];
      others = λ q there.
          elim (place_cases place q) [
            | inl same ↦ absurd (true_false (sym there ∙ ap (is_present (with_edit sofar.tables (place, None))) (sym same) ∙ ap is_some (at_edit sofar.tables (place, None) rows going.sorted table)))
            | inr away ↦ left place q rest away (going.others q (ap is_some (sym (at_other sofar.tables (place, None) q going.sorted away)) ∙ there))
          ];
    }

    pub deletes_end : (places : List Place) (sofar end : Sofar) → AllByRecursion (λ place. row_at stated place ≡ None) places → Leaving places sofar → Accepts schema changes sofar (map remove_at places) end → Leaving [] end
    deletes_end [] sofar end none going a = subst (Leaving []) a going
    deletes_end (place ∷ places) sofar end none going a =
        let g = gone sofar end place places going.sorted a in
        deletes_end places a.0 end none.1 (subst (Leaving places) (sym g.is) (leaves place places sofar g.rows going none.0 g.table)) a.2

    -- at the end the tables are the stated ones
    pub left_stated : (sofar : Sofar) → IsSorted stated → Leaving [] sofar → sofar.tables ≡ stated
    left_stated sofar sorted going = same_tables sofar.tables stated going.sorted sorted going.created (λ q. at_end q (row_at sofar.tables q) (row_at stated q) refl refl)
      where
        at_end : (q : Place) (o p : Option (List Value)) → row_at sofar.tables q ≡ o → row_at stated q ≡ p → row_at sofar.tables q ≡ row_at stated q
        at_end q o (Some row) e f = going.rows q row f ∙ sym f
        at_end q None None e f = e ∙ sym f
        at_end q (Some row) None e f =
            elim (going.others q (ap is_some e)) [
              | inl there ↦ absurd (true_false (sym there ∙ ap is_some f))
              | inr none ↦ absurd none
            ]
