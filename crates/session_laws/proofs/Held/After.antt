-- What stands under the places of rows once a plan was accepted whole.
use Rattle.std.proofs.Common.{◌≡◌, inl, inr, ℕ, Bool, true, false, List, [], ◌∷◌, ◌++◌, map, get_or, Option, Some, is_some, unwrap_or, Result, Ok, Err, refl, sym, ap, ◌∙◌, subst}
use Rattle.std.specs.List.{list_any}
use Rattle.base_core.specs.declared.ids.ColumnNo.{ColumnNo}
use Rattle.base_core.specs.declared.value.Value.{Value}
use Rattle.base_core.proofs.Lists.{every_append}
use Rattle.schema_core.specs.declared.changes.ChangedRow.{ChangedRow}
use Rattle.schema_core.specs.declared.changes.GoneRow.{GoneRow}
use Rattle.schema_core.specs.declared.changes.Planned.{Planned}
use Rattle.schema_core.specs.declared.changes.RowCell.{RowCell}
use Rattle.schema_core.specs.declared.changes.RowChanges.{RowChanges}
use Rattle.schema_core.specs.Apply.{with_cells}
use Rattle.schema_core.specs.Catalog.{Catalog}
use Rattle.schema_core.specs.Tables.{Tables}
use Rattle.class_mapping.proofs.Having.{Has, all_from, from_filter, none_of}
use Rattle.flush_order.specs.Orders.{insert_order, place_of_gone}
use Rattle.flush_order.specs.Sorted.{Place, same_place}
use Rattle.flush_plan.specs.Flushing.{Keys, Sofar, send_all, value_of_cell}
use Rattle.flush_plan.specs.Planning.{plan, unless_new_cycle}
use Rattle.flush_writes.specs.Writes.{insert_run, no_changed, place_of_changed, writes_some}
use Rattle.flush_writes.specs.Runs.{runs}
use Rattle.flush_plan.specs.Stating.{all_placed, edit_changed, edit_gone, edit_new, is_present, place_of_new, put_cells, row_at, written_rows}
use Rattle.session_laws.specs.Plans.Laws.{before}
use Rattle.session_laws.specs.Plans.Premises.{IsSorted}
use Rattle.session_laws.proofs.Plans.Accepted.{Accepts, accepts_of, accepts_split, sent_of}
use Rattle.session_laws.proofs.Plans.Complete.{IsStated, known_facts, stated_edit}
use Rattle.session_laws.proofs.Plans.Deleting.{remove_at}
use Rattle.session_laws.proofs.Plans.DeleteOrder.{pl}
use Rattle.session_laws.proofs.Plans.Facts.{true_false}
use Rattle.session_laws.proofs.Plans.FlushSteps.{updates_keys}
use Rattle.session_laws.proofs.Plans.Items.{Member, all_map_of, all_members, member_filter, member_left, member_map, member_number, member_right}
use Rattle.session_laws.proofs.Plans.Newness.{new_free, place_same}
use Rattle.session_laws.proofs.Plans.Numbers.{two_at}
use Rattle.session_laws.proofs.Plans.PlanLaw.{in_phases, plan_made}
use Rattle.session_laws.proofs.Plans.Puts.{order_put}
use Rattle.session_laws.proofs.Plans.PutRows.{puts_leads}
use Rattle.session_laws.proofs.Plans.Stated.{stated_other}
use Rattle.session_laws.proofs.Plans.Steps.{all_steps}
use Rattle.session_laws.proofs.Plans.Updating.{planned_of}
use Rattle.schema_core.specs.Declaration.{some_two}

-- ---- lists

has_member : {A : Type 0} (xs : List A) (x : A) → Has xs x → Member x xs
has_member [] x has = has
has_member (y ∷ ys) x (inl same) = inl same
has_member (y ∷ ys) x (inr more) = inr (has_member ys x more)

-- ---- the order of the new rows

pub order_made : (schema : Catalog) (changes : RowChanges) (statements : List Planned) → plan schema changes ≡ Ok statements → (order : List ℕ) × (insert_order schema changes ≡ Ok order)
unfolding plan
order_made schema changes statements e = by (insert_order schema changes) refl e
  where
    by : (found : Result (List ℕ) (List ℕ)) → insert_order schema changes ≡ found → unless_new_cycle schema changes found ≡ Ok statements → (order : List ℕ) × (insert_order schema changes ≡ Ok order)
    by (Ok order) is e = (order, is)
    by (Err rows) is e = absurd cc

-- ---- keys

-- the DELETEs draw no key
deletes_keys : (schema : Catalog) (changes : RowChanges) (places : List Place) (sofar end : Sofar) → Accepts schema changes sofar (map remove_at places) end → end.keys ≡ sofar.keys
deletes_keys schema changes [] sofar end a = ap (λ (s : Sofar). s.keys) (sym a)
deletes_keys schema changes (place ∷ places) sofar end a =
    deletes_keys schema changes places a.0 end a.2 ∙ ap (λ (s : Sofar). s.keys) (sent_of schema changes sofar a.0 (remove_at place) a.1).is

-- the new rows were put in as they are placed, and their keys are those that are known in the end
pub record ArePlaced (schema : Catalog) (old : Tables) (changes : RowChanges) (order : List ℕ) (known : Keys) : Type 0 where
  pub placed : Sofar
  pub puts : all_placed schema changes old order ≡ Some placed
  pub same : known ≡ placed.keys

pub all_are_placed : (schema : Catalog) (old : Tables) (changes : RowChanges) (order : List ℕ) (statements : List Planned) (sofar : Sofar) → IsSorted old → some_two (λ one other. same_place (place_of_gone schema one) (place_of_gone schema other)) changes.gone ≡ false
    → insert_order schema changes ≡ Ok order → plan schema changes ≡ Ok statements → send_all schema changes (Ok (before old)) statements ≡ Ok sofar → ArePlaced schema old changes order sofar.keys
unfolding all_placed
all_are_placed schema old changes order statements sofar sorted gone_once ordered planned sent =
    let m = plan_made schema changes order statements ordered planned in
    let place : ℕ → Place = pl schema changes gone_once m.gone m.ordered in
    let all = accepts_of schema changes (before old) sofar statements sent in
    let inserts = map (insert_run changes) (runs schema changes order) in
    let updates = map planned_of (all_steps schema changes order) in
    let deletes = map remove_at (map place m.gone) in
    let one = accepts_split schema changes (before old) sofar inserts (updates ++ deletes) (subst (λ list. Accepts schema changes (before old) list sofar) (m.is ∙ in_phases schema changes order m.gone place refl) all) in
    let two = accepts_split schema changes one.0 sofar updates deletes one.2 in
    record {
      placed = one.0;
      puts = puts_leads schema changes (before old) one.0 order (order_put schema changes order (before old) one.0 sorted one.1);
      same = deletes_keys schema changes (map place m.gone) two.0 sofar two.2 ∙ updates_keys schema changes (all_steps schema changes order) one.0 two.0 two.1;
    }

-- ---- places

module _ (schema : Catalog) (old : Tables) (changes : RowChanges) (order : List ℕ) (placed : Sofar) (after : Tables) (told : IsStated schema old changes order placed after) where
  -- where a row stands that is none of the changes, it stands still
  pub still_at : (q : Place) → is_present old q ≡ true → ((row : GoneRow) → Has changes.gone row → place_of_gone schema row ≡ q → ⊥)
      → ((row : ChangedRow) → Has changes.changed row → writes_some row.cells ≡ true → place_of_changed row ≡ q → ⊥) → row_at after q ≡ row_at old q
  still_at q there not_gone not_changed =
      let written = written_rows changes in
      stated_other schema old changes order placed after told.sorted (known_facts schema old changes order placed after told) q
      (every_append (λ e. e.0 ≡ q → ⊥) (map (edit_gone schema) changes.gone ++ map (edit_changed old placed.keys) written) (map (edit_new schema changes placed) order)
      (every_append (λ e. e.0 ≡ q → ⊥) (map (edit_gone schema) changes.gone) (map (edit_changed old placed.keys) written)
      (all_map_of (λ e. e.0 ≡ q → ⊥) (edit_gone schema) changes.gone (all_from (λ (row : GoneRow). place_of_gone schema row ≡ q → ⊥) changes.gone not_gone))
      (all_map_of (λ e. e.0 ≡ q → ⊥) (edit_changed old placed.keys) written
      (all_from (λ (row : ChangedRow). place_of_changed row ≡ q → ⊥) written (λ row has. let found = from_filter (λ (r : ChangedRow). writes_some r.cells) changes.changed row has in not_changed row found.0 found.1))))
      (all_map_of (λ e. e.0 ≡ q → ⊥) (edit_new schema changes placed) order
      (all_members (λ p. place_of_new changes placed.keys p ≡ q → ⊥) order
      (λ p among same. true_false (sym there ∙ ap (is_present old) (sym same) ∙ ap is_some (new_free schema old changes order placed after (known_facts schema old changes order placed after told) p among))))))

  -- two changed rows of one place are one
  one_changed : (row other : ChangedRow) → Has changes.changed row → Has changes.changed other → place_of_changed row ≡ place_of_changed other → row ≡ other
  one_changed row other has inside same =
      let one = member_number changes.changed row no_changed (has_member changes.changed row has) in
      let two = member_number changes.changed other no_changed (has_member changes.changed other inside) in
      let number : one.0 ≡ two.0 = two_at place_of_changed changes.changed no_changed one.0 two.0 told.projected.changed_once one.1 two.1 (ap place_of_changed one.2 ∙ same ∙ sym (ap place_of_changed two.2)) in
      sym one.2 ∙ ap (λ (n : ℕ). get_or changes.changed n no_changed) number ∙ two.2

  pub not_both : (row : GoneRow) (other : ChangedRow) → Has changes.gone row → Has changes.changed other → place_of_gone schema row ≡ place_of_changed other → ⊥
  not_both row other has inside same =
      true_false (sym (place_same (place_of_gone schema row) (place_of_changed other) same)
      ∙ none_of (λ (changed : ChangedRow). same_place (place_of_gone schema row) (place_of_changed changed)) changes.changed other
      (none_of (λ (gone : GoneRow). list_any (λ changed. same_place (place_of_gone schema gone) (place_of_changed changed)) changes.changed) changes.gone row told.projected.gone_apart has) inside)

  -- a changed row that stood has its cells then
  pub changed_at : (row : ChangedRow) (stood : List Value) → Has changes.changed row → row_at old (place_of_changed row) ≡ Some stood → row_at after (place_of_changed row) ≡ Some (with_cells stood (put_cells (value_of_cell placed.keys) row.cells))
  changed_at row stood has at = by (writes_some row.cells) refl
    where
      none_written : (cells : List (ColumnNo × RowCell)) → writes_some cells ≡ false → with_cells stood (put_cells (value_of_cell placed.keys) cells) ≡ stood
      none_written [] e = refl
      none_written (cell ∷ cells) e = absurd (true_false e)

      by : (b : Bool) → writes_some row.cells ≡ b → row_at after (place_of_changed row) ≡ Some (with_cells stood (put_cells (value_of_cell placed.keys) row.cells))
      by true some =
          let edit = edit_changed old placed.keys row in
          stated_edit schema old changes order placed after told edit
          (member_left edit (map (edit_gone schema) changes.gone ++ map (edit_changed old placed.keys) (written_rows changes)) (map (edit_new schema changes placed) order)
          (member_right edit (map (edit_gone schema) changes.gone) (map (edit_changed old placed.keys) (written_rows changes))
          (member_map (edit_changed old placed.keys) row (written_rows changes) (member_filter (λ (r : ChangedRow). writes_some r.cells) row changes.changed some (has_member changes.changed row has)))))
          ∙ ap (λ (o : Option (List Value)). Some (with_cells (unwrap_or o []) (put_cells (value_of_cell placed.keys) row.cells))) at
      by false none =
          still_at (place_of_changed row) (ap is_some at) (λ gone inside same. not_both gone row inside has same)
          (λ other inside some same. true_false (sym some ∙ ap (λ (r : ChangedRow). writes_some r.cells) (one_changed other row inside has same) ∙ none))
          ∙ at ∙ ap (λ (values : List Value). Some values) (sym (none_written row.cells none))
