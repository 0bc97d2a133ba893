-- The phases one after the other: every prefix of the plan is accepted and leaves legal tables, and the whole leaves the stated ones.
use Rattle.std.proofs.Common.{◌≡◌, inl, inr, ℕ, true, List, [], ◌++◌, map, None, Some, refl, sym, ap, ◌∙◌, subst}
use Rattle.std.specs.List.{AllByRecursion}
use Rattle.std.specs.Option.{is_some}
use Rattle.base_core.specs.declared.ids.TableId.{TableId}
use Rattle.base_core.specs.declared.value.Value.{Value}
use Rattle.schema_core.specs.declared.changes.RowChanges.{RowChanges}
use Rattle.schema_core.specs.Catalog.{Catalog}
use Rattle.schema_core.specs.Tables.{Tables, is_created}
use Rattle.flush_order.specs.Cells.{late_name}
use Rattle.row_order.specs.Places.{is_among}
use Rattle.flush_order.specs.Sorted.{Place}
use Rattle.flush_plan.specs.Flushing.{Sofar}
use Rattle.flush_plan.specs.Stating.{is_present, place_of_new, row_at}
use Rattle.session_laws.specs.Plans.Premises.{Ends}
use Rattle.session_laws.specs.Plans.Laws.{insert_of}
use Rattle.session_laws.proofs.Plans.Between.{columns, comes_long, early_part}
use Rattle.session_laws.proofs.Plans.Blend.{Long, blend_self, nulls}
use Rattle.session_laws.proofs.Plans.Deleting.{Closed, Going, Ordered, deletes_go, going_stated, remove_at}
use Rattle.session_laws.proofs.Plans.Items.{Member}
use Rattle.session_laws.proofs.Plans.Prefixes.{Goes, goes_on}
use Rattle.session_laws.proofs.Plans.Inserting.{InOrder, News, Putting, Stood, inserts_go}
use Rattle.session_laws.proofs.Plans.Placing.{Leads}
use Rattle.session_laws.proofs.Plans.Updating.{Blend, IsStep, Middle, OnWay, Step, planned_of, updates_go}
use Rattle.session_laws.proofs.Plans.Facts.{none_some, same_some, some_or_none, true_false, some_of}

module _ (schema : Catalog) (changes : RowChanges) (old stated : Tables) (placed : Sofar) where
  -- for each row that stands when all INSERTs are done, what is still to be written of it is to come
  pub record Comes_up (order : List ℕ) (steps : List Step) : Type 0 where
    pub old_rows : (place : Place) (row : List Value) → row_at old place ≡ Some row → OnWay schema changes old stated placed.keys steps place row
    pub new_rows : (other : ℕ) (written : List Value) → is_among order other ≡ true → row_at stated (place_of_new changes placed.keys other) ≡ Some written → OnWay schema changes old stated placed.keys steps (place_of_new changes placed.keys other) (early_part schema changes (place_of_new changes placed.keys other) written)

  pub middle_of : (order : List ℕ) (steps : List Step) → News schema changes old stated placed order → Comes_up order steps → Stood schema changes old stated placed order [] placed → Middle schema changes old stated placed.keys steps placed
  middle_of order steps news up stood = record {
    known = refl;
    sorted = stood.sorted;
    created = stood.created;
    olds = λ q at. let row = some_of (row_at old q) at in ap is_some (stood.olds q row.0 row.1);
    stateds = λ q at.
        elim (news.cover q at) [
          | inl was ↦ let row = some_of (row_at old q) was in ap is_some (stood.olds q row.0 row.1)
          | inr new ↦ elim (stood.done new.0 new.1) [
            | inl left ↦ absurd (true_false (sym left))
            | inr there ↦ ap (is_present placed.tables) (sym new.2) ∙ there
          ]
        ];
    rows = λ q row at.
        elim (stood.rows q row at) [
          | inl was ↦ up.old_rows q row was
          | inr new ↦ subst (λ r. OnWay schema changes old stated placed.keys steps q r) (sym new.4.2)
              (subst (λ p. OnWay schema changes old stated placed.keys steps p (early_part schema changes p new.4.0)) new.3
              (up.new_rows new.0 new.4.0 new.1 (ap (row_at stated) new.3 ∙ new.4.1)))
        ];
  }

  -- a stated row is whole when all UPDATEs are done
  pub whole_row : (q : Place) (row written : List Value) → Long (columns schema q) written → row_at stated q ≡ Some written → OnWay schema changes old stated placed.keys [] q row → row ≡ written
  whole_row q row written long at way =
      let first : way.early ≡ written = elim way.early_done [
        | inl done ↦ elim done [
          | inl is ↦ same_some way.early written (sym is ∙ at)
          | inr none ↦ absurd (none_some written (sym none ∙ at))
        ]
        | inr more ↦ absurd more
      ] in
      let last : way.late ≡ written = elim way.late_done [
        | inl done ↦ elim done [
          | inl is ↦ same_some way.late written (sym is ∙ at)
          | inr none ↦ absurd (none_some written (sym none.0 ∙ at))
        ]
        | inr more ↦ absurd more
      ] in
      way.is ∙ (λ i. Blend schema changes old stated placed.keys q (first i) (last i))
      ∙ blend_self (late_name schema changes q.0) (columns schema q) written long

  -- the others are old ones, cleared
  cleared_row : (q : Place) (row : List Value) → row_at stated q ≡ None → OnWay schema changes old stated placed.keys [] q row → (first : List Value) × (row_at old q ≡ Some first) × (row ≡ early_part schema changes q first)
  cleared_row q row none way =
      let was : row_at old q ≡ Some way.early = elim way.from [
        | inl is ↦ is
        | inr is ↦ absurd (none_some way.early (sym none ∙ is))
      ] in
      let last : way.late ≡ nulls (columns schema q) = elim way.late_done [
        | inl done ↦ elim done [
          | inl is ↦ absurd (none_some way.late (sym none ∙ is))
          | inr gone ↦ gone.1
        ]
        | inr more ↦ absurd more
      ] in
      (way.early, was, way.is ∙ ap (Blend schema changes old stated placed.keys q way.early) last)

  pub going_of : (gone : List Place) (end : Sofar) → ((q : Place) (written : List Value) → row_at stated q ≡ Some written → Long (columns schema q) written) → ((q : Place) → row_at stated q ≡ None → is_present old q ≡ true → Member q gone) → Middle schema changes old stated placed.keys [] end → Going schema changes old stated gone end
  going_of gone end long cover middle = record {
    sorted = middle.sorted;
    created = middle.created;
    stateds = λ q written at.
        let row = some_of (row_at end.tables q) (middle.stateds q (ap is_some at)) in
        row.1 ∙ ap Some (whole_row q row.0 written (long q written at) at (middle.rows q row.0 row.1));
    alive = λ q member at. middle.olds q at;
    rows = λ q row at.
        elim (some_or_none (row_at stated q)) [
          | inl written ↦ inl (written.1 ∙ ap Some (sym (whole_row q row written.0 (long q written.0 written.1) written.1 (middle.rows q row at))))
          | inr none ↦
              let first = cleared_row q row none (middle.rows q row at) in
              inr (cover q none (ap is_some first.1), none, first)
        ];
  }

  module _ (ends : Ends schema changes old stated) where
    pub start_putting : (order : List ℕ) → Putting schema changes old stated placed order order (record { tables = old; keys = [] })
    start_putting order = record {
      stood = record {
        sorted = ends.sorted_old;
        created = λ t. refl;
        olds = λ q row at. at;
        done = λ place among. inl among;
        rows = λ q row at. inl at;
      };
      legal = ends.legal_old;
    }

    -- the whole plan
    pub plan_goes : (order : List ℕ) (steps : List Step) (gone : List Place) → News schema changes old stated placed order → InOrder schema changes old stated placed order → Leads schema changes (record { tables = old; keys = [] }) order placed → Comes_up order steps → AllByRecursion (IsStep schema changes old stated placed.keys) steps → Closed schema changes old stated gone → Ordered schema changes old stated gone → ((q : Place) → row_at stated q ≡ None → is_present old q ≡ true → Member q gone) → ((table : TableId) → is_created stated table ≡ is_created old table) → (end : Sofar) × Goes schema changes (record { tables = old; keys = [] }) (map (insert_of changes) order ++ (map planned_of steps ++ map remove_at gone)) end × (end.tables ≡ stated)
    plan_goes order steps gone news ordered leads up are closed after cover created =
        let start : Sofar = record { tables = old; keys = [] } in
        let inserts = inserts_go schema changes old stated placed ends order order news start (λ other among. among) news.once ordered (start_putting order) leads in
        let updates = updates_go schema changes old stated placed.keys ends steps placed are (middle_of order steps news up inserts.1.stood) in
        let deletes = deletes_go schema changes old stated ends gone updates.0 closed after (going_of gone updates.0 (λ q written at. comes_long schema changes old stated ends q written (inr at)) cover updates.2) in (
          deletes.0,
          goes_on schema changes start placed deletes.0 (map (insert_of changes) order) (map planned_of steps ++ map remove_at gone) inserts.0
              (goes_on schema changes placed updates.0 deletes.0 (map planned_of steps) (map remove_at gone) updates.1 deletes.1),
          going_stated schema changes old stated deletes.0 ends.sorted_stated deletes.2 created,
        )
