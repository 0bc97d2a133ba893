-- The UPDATEs of a plan, early and late ones: each row has the stated cells, or an UPDATE of it is still to come.
use Rattle.std.proofs.Common.{◌≡◌, ◌⊎◌, inl, inr, Bool, true, false, List, [], ◌∷◌, map, None, Some, Ok, refl, sym, ap, ◌∙◌, subst}
use Rattle.std.specs.List.{AllByRecursion}
use Rattle.std.specs.Option.{is_some}
use Rattle.base_core.specs.declared.ids.ColumnNo.{ColumnNo}
use Rattle.base_core.specs.declared.ids.TableId.{TableId}
use Rattle.base_core.specs.declared.value.Value.{Value}
use Rattle.schema_core.specs.declared.changes.Planned.{Planned}
use Rattle.schema_core.specs.declared.changes.Planned.TheVariants.{Update}
use Rattle.schema_core.specs.declared.changes.RowCell.{RowCell}
use Rattle.schema_core.specs.declared.changes.RowChanges.{RowChanges}
use Rattle.schema_core.specs.declared.statement.RowStmt.TheVariants as statement
use Rattle.schema_core.specs.Apply.{apply, with_cells}
use Rattle.schema_core.specs.Catalog.{Catalog}
use Rattle.schema_core.specs.Tables.{Legal, Rows, Tables, is_created, rows_in}
use Rattle.flush_order.specs.Cells.{is_late}
use Rattle.flush_order.specs.Sorted.{Place}
use Rattle.flush_plan.specs.Flushing.{Keys, Sofar, after_outcome, value_of_cell, send}
use Rattle.flush_plan.specs.Stating.{blend, with_edit, is_present, put_cells, row_at}
use Rattle.session_laws.specs.Plans.Premises.{Ends, IsSorted}
use Rattle.session_laws.proofs.Plans.Accept.{update_accepted}
use Rattle.session_laws.proofs.Plans.At.{at_edit, at_other, edited_created, edited_sorted, place_cases}
use Rattle.session_laws.proofs.Plans.Between.{Between, Comes, Good, all_bound, between_legal, columns, found, good_legal}
use Rattle.session_laws.proofs.Plans.Blend.{nulls}
use Rattle.session_laws.proofs.Plans.Prefixes.{Goes}
use Rattle.session_laws.proofs.Plans.Facts.{same_some, true_false, some_of}

-- an UPDATE that is still to come: whether it is a late one, and where
abbrev pub Step : Type 0
Step = Bool × (TableId × List RowCell × List (ColumnNo × RowCell))

abbrev pub planned_of : Step → Planned
planned_of step = Update step.1.0 step.1.1 step.1.2

module _ (keys : Keys) where
  abbrev pub step_place : Step → Place
  step_place step = (step.1.0, map (value_of_cell keys) step.1.1)

  abbrev pub ToCome : Bool → Place → List Step → Type 0
  ToCome late place [] = ⊥
  ToCome late place (step ∷ steps) = ((step.0 ≡ late) × (step_place step ≡ place)) ⊎ ToCome late place steps

module _ (schema : Catalog) (changes : RowChanges) (old stated : Tables) (keys : Keys) where
  -- what the late columns of a row are to hold: those of the stated row, or nothing where the row is to be deleted
  abbrev pub IsLast : Place → List Value → Type 0
  IsLast place late = (row_at stated place ≡ Some late) ⊎ ((row_at stated place ≡ None) × (late ≡ nulls (columns schema place)))

  abbrev pub IsFirst : Place → List Value → Type 0
  IsFirst place early = (row_at stated place ≡ Some early) ⊎ (row_at stated place ≡ None)

  abbrev pub Blend : Place → List Value → List Value → List Value
  Blend place early late = blend (is_late schema changes place.0) (columns schema place) early late

  abbrev pub After : Place → List Value → Type 0
  After place late = Comes old stated place late ⊎ ((late ≡ nulls (columns schema place)) × ((row_at old place ≡ None) ⊎ (row_at stated place ≡ None)))

  -- a row on its way
  pub record OnWay (steps : List Step) (place : Place) (row : List Value) : Type 0 where
    pub early : List Value
    pub late : List Value
    pub is : row ≡ Blend place early late
    pub from : Comes old stated place early
    pub after : After place late
    pub early_done : IsFirst place early ⊎ ToCome keys false place steps
    pub late_done : IsLast place late ⊎ ToCome keys true place steps

  -- an early UPDATE writes the early columns as they are stated, a late one the late columns
  abbrev pub Writes : Step → Type 0
  Writes (false, update) = (stated_row : List Value) × (row_at stated (update.0, map (value_of_cell keys) update.1) ≡ Some stated_row) × ((early late : List Value) → Comes old stated (update.0, map (value_of_cell keys) update.1) early → After (update.0, map (value_of_cell keys) update.1) late → with_cells (Blend (update.0, map (value_of_cell keys) update.1) early late) (put_cells (value_of_cell keys) update.2) ≡ Blend (update.0, map (value_of_cell keys) update.1) stated_row late)
  Writes (true, update) = (last : List Value) × IsLast (update.0, map (value_of_cell keys) update.1) last × After (update.0, map (value_of_cell keys) update.1) last × ((early late : List Value) → Comes old stated (update.0, map (value_of_cell keys) update.1) early → After (update.0, map (value_of_cell keys) update.1) late → with_cells (Blend (update.0, map (value_of_cell keys) update.1) early late) (put_cells (value_of_cell keys) update.2) ≡ Blend (update.0, map (value_of_cell keys) update.1) early last)

  abbrev pub IsStep : Step → Type 0
  IsStep step = ((is_present old (step_place keys step) ≡ true) ⊎ (is_present stated (step_place keys step) ≡ true)) × Writes step

  -- between the INSERTs and the DELETEs
  pub record Middle (steps : List Step) (sofar : Sofar) : Type 0 where
    pub known : sofar.keys ≡ keys
    pub sorted : IsSorted sofar.tables
    pub created : (table : TableId) → is_created sofar.tables table ≡ is_created old table
    pub olds : (place : Place) → is_present old place ≡ true → is_present sofar.tables place ≡ true
    pub stateds : (place : Place) → is_present stated place ≡ true → is_present sofar.tables place ≡ true
    pub rows : (place : Place) (row : List Value) → row_at sofar.tables place ≡ Some row → OnWay steps place row

  come_later : (late : Bool) (place : Place) (step : Step) (steps : List Step) {X : Type 0} → (step_place keys step ≡ place → ⊥) → X ⊎ ToCome keys late place (step ∷ steps) → X ⊎ ToCome keys late place steps
  come_later late place step steps apart (inl done) = inl done
  come_later late place step steps apart (inr (inl here)) = absurd (apart here.1)
  come_later late place step steps apart (inr (inr there)) = inr there

  pub elsewhere : (step : Step) (steps : List Step) (place : Place) (row : List Value) → (step_place keys step ≡ place → ⊥) → OnWay (step ∷ steps) place row → OnWay steps place row
  elsewhere step steps place row apart way = record {
    early = way.early;
    late = way.late;
    is = way.is;
    from = way.from;
    after = way.after;
    early_done = come_later false place step steps apart way.early_done;
    late_done = come_later true place step steps apart way.late_done;
  }

  other_tag : (X : Type 0) (place : Place) (update : TableId × List RowCell × List (ColumnNo × RowCell)) (steps : List Step) → X ⊎ ToCome keys true place ((false, update) ∷ steps) → X ⊎ ToCome keys true place steps
  other_tag X place update steps (inl done) = inl done
  other_tag X place update steps (inr (inl here)) = absurd (true_false (sym here.0))
  other_tag X place update steps (inr (inr there)) = inr there

  other_tag_late : (X : Type 0) (place : Place) (update : TableId × List RowCell × List (ColumnNo × RowCell)) (steps : List Step) → X ⊎ ToCome keys false place ((true, update) ∷ steps) → X ⊎ ToCome keys false place steps
  other_tag_late X place update steps (inl done) = inl done
  other_tag_late X place update steps (inr (inl here)) = absurd (true_false here.0)
  other_tag_late X place update steps (inr (inr there)) = inr there

  pub written : (step : Step) (steps : List Step) (row : List Value) → Writes step → OnWay (step ∷ steps) (step_place keys step) row → OnWay steps (step_place keys step) (with_cells row (put_cells (value_of_cell keys) step.1.2))
  written (false, update) steps row writes way = record {
    early = writes.0;
    late = way.late;
    is = ap (λ r. with_cells r (put_cells (value_of_cell keys) update.2)) way.is ∙ writes.2 way.early way.late way.from way.after;
    from = inr writes.1;
    after = way.after;
    early_done = inl (inl writes.1);
    late_done = other_tag (IsLast (update.0, map (value_of_cell keys) update.1) way.late) (update.0, map (value_of_cell keys) update.1) update steps way.late_done;
  }
  written (true, update) steps row writes way = record {
    early = way.early;
    late = writes.0;
    is = ap (λ r. with_cells r (put_cells (value_of_cell keys) update.2)) way.is ∙ writes.3 way.early way.late way.from way.after;
    from = way.from;
    after = writes.2;
    early_done = other_tag_late (IsFirst (update.0, map (value_of_cell keys) update.1) way.early) (update.0, map (value_of_cell keys) update.1) update steps way.early_done;
    late_done = inl writes.1;
  }

  pub pick : (P : Place → List Value → Type 0) (tables : Tables) (at : Place) (row : List Value) (rows : Rows) → IsSorted tables → rows_in tables at.0 ≡ Some rows → P at row → ((place : Place) (r : List Value) → (at ≡ place → ⊥) → row_at tables place ≡ Some r → P place r) → (place : Place) (r : List Value) → row_at (with_edit tables (at, Some row)) place ≡ Some r → P place r
  pick P tables at row rows sorted e here there place r is =
      elim (place_cases at place) [
        | inl same ↦ subst (λ q. P q r) same (subst (P at) (same_some row r (sym (at_edit tables (at, Some row) rows sorted e) ∙ ap (row_at (with_edit tables (at, Some row))) same ∙ is)) here)
        | inr apart ↦ there place r apart (sym (at_other tables (at, Some row) place sorted apart) ∙ is)
      ]

  pub still : (tables : Tables) (at : Place) (row : List Value) (rows : Rows) (place : Place) → IsSorted tables → rows_in tables at.0 ≡ Some rows → is_present tables place ≡ true → is_present (with_edit tables (at, Some row)) place ≡ true
  still tables at row rows place sorted e was =
      elim (place_cases at place) [
        | inl same ↦ ap (λ q. is_present (with_edit tables (at, Some row)) q) (sym same) ∙ ap is_some (at_edit tables (at, Some row) rows sorted e)
        | inr apart ↦ ap is_some (at_other tables (at, Some row) place sorted apart) ∙ was
      ]

  pub after_step : (step : Step) (steps : List Step) (sofar : Sofar) (row : List Value) (rows : Rows) → Middle (step ∷ steps) sofar → Writes step → rows_in sofar.tables step.1.0 ≡ Some rows → row_at sofar.tables (step_place keys step) ≡ Some row → Middle steps (record { tables = with_edit sofar.tables (step_place keys step, Some (with_cells row (put_cells (value_of_cell keys) step.1.2))); keys = keys })
  after_step step steps sofar row rows middle writes table at =
      let new : List Value = with_cells row (put_cells (value_of_cell keys) step.1.2) in
      record {
        known = refl;
        sorted = edited_sorted sofar.tables (step_place keys step, Some new) middle.sorted;
        created = λ t. edited_created sofar.tables (step_place keys step, Some new) t ∙ middle.created t;
        olds = λ place was. still sofar.tables (step_place keys step) new rows place middle.sorted table (middle.olds place was);
        stateds = λ place was. still sofar.tables (step_place keys step) new rows place middle.sorted table (middle.stateds place was);
        rows = pick (OnWay steps) sofar.tables (step_place keys step) new rows middle.sorted table
            (written step steps row writes (middle.rows (step_place keys step) row at))
            (λ place r apart is. elsewhere step steps place r apart (middle.rows place r is));
      }

  there : (step : Step) (sofar : Sofar) (steps : List Step) → Middle (step ∷ steps) sofar → (is_present old (step_place keys step) ≡ true) ⊎ (is_present stated (step_place keys step) ≡ true) → is_present sofar.tables (step_place keys step) ≡ true
  there step sofar steps middle (inl was) = middle.olds (step_place keys step) was
  there step sofar steps middle (inr was) = middle.stateds (step_place keys step) was

  module _ (ends : Ends schema changes old stated) where
    pub good_of : (steps : List Step) (place : Place) (row : List Value) → OnWay steps place row → Good schema changes old stated ends place row
    good_of steps place row way = record { early = way.early; late = way.late; is = way.is; from = way.from; after = way.after }

    between_of : (steps : List Step) (sofar : Sofar) → Middle steps sofar → Between schema changes old stated ends sofar.tables
    between_of steps sofar middle = record { sorted = middle.sorted; created = middle.created; good = λ place row at. good_of steps place row (middle.rows place row at) }

    pub middle_legal : (steps : List Step) (sofar : Sofar) → Middle steps sofar → Legal schema sofar.tables
    middle_legal steps sofar middle =
        between_legal schema changes old stated ends sofar.tables (between_of steps sofar middle) (all_bound schema changes old stated ends sofar.tables (between_of steps sofar middle) middle.olds middle.stateds)

    sent_step : (step : Step) (steps : List Step) (sofar : Sofar) → IsStep step → Middle (step ∷ steps) sofar → (next : Sofar) × (send schema changes sofar (planned_of step) ≡ Ok next) × Middle steps next
    unfolding send
    sent_step step steps sofar is middle =
        let row = some_of (row_at sofar.tables (step_place keys step)) (there step sofar steps middle is.0) in
        let f = found sofar.tables (step_place keys step) row.0 row.1 in
        let new : List Value = with_cells row.0 (put_cells (value_of_cell keys) step.1.2) in
        let next : Sofar = record { tables = with_edit sofar.tables (step_place keys step, Some new); keys = keys } in
        let after : Middle steps next = after_step step steps sofar row.0 f.rows middle is.1 f.table row.1 in
        let legal : Legal schema next.tables = middle_legal steps next after in
        let way : OnWay steps (step_place keys step) new = after.rows (step_place keys step) new (at_edit sofar.tables (step_place keys step, Some new) f.rows middle.sorted f.table) in
        let answer : apply schema sofar.tables (statement.Update step.1.0 (map (value_of_cell keys) step.1.1) (put_cells (value_of_cell keys) step.1.2)) ≡ Ok (map (value_of_cell keys) step.1.1 ∷ [], next.tables) =
        update_accepted schema sofar.tables step.1.0 f.rows (map (value_of_cell keys) step.1.1) row.0 (put_cells (value_of_cell keys) step.1.2) middle.sorted f.table f.under
        (good_legal schema changes old stated ends (step_place keys step) new (good_of steps (step_place keys step) new way)) legal in (
          next,
          ap (λ k. after_outcome schema changes sofar (planned_of step) (apply schema sofar.tables (statement.Update step.1.0 (map (value_of_cell k) step.1.1) (put_cells (value_of_cell k) step.1.2)))) middle.known
              ∙ ap (after_outcome schema changes sofar (planned_of step)) answer
              ∙ ap (λ k. Ok (record { tables = next.tables; keys = k })) middle.known,
          after,
        )

    -- all UPDATEs
    pub updates_go : (steps : List Step) (sofar : Sofar) → AllByRecursion IsStep steps → Middle steps sofar → (end : Sofar) × Goes schema changes sofar (map planned_of steps) end × Middle [] end
    updates_go [] sofar is middle = (sofar, (refl, middle_legal [] sofar middle), middle)
    updates_go (step ∷ steps) sofar is middle =
        let next = sent_step step steps sofar is.0 middle in
        let rest = updates_go steps next.0 is.1 next.2 in
        (rest.0, (middle_legal (step ∷ steps) sofar middle, (next.0, next.1, rest.1)), rest.2)
