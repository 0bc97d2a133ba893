-- Every prefix of a plan is accepted and leaves legal tables, and the whole leaves the stated ones.
use Rattle.std.proofs.Common.{◌≡◌, ℕ, List, ◌++◌, map, Result, Ok, Err, refl, sym, ap, ◌∙◌, subst, append_assoc}
use Rattle.base_core.specs.declared.refusal.Refusal.{Refusal}
use Rattle.base_core.specs.declared.refusal.Refusal.TheVariants.{CircularDependencyError}
use Rattle.schema_core.specs.declared.changes.Planned.{Planned}
use Rattle.schema_core.specs.declared.changes.RowChanges.{RowChanges}
use Rattle.schema_core.specs.Catalog.{Catalog}
use Rattle.schema_core.specs.Tables.{Tables}
use Rattle.flush_order.specs.Orders.{delete_order, gone_at, gone_rows, insert_order}
use Rattle.flush_order.specs.Sorted.{Place}
use Rattle.flush_plan.specs.Flushing.{Sofar}
use Rattle.flush_writes.specs.Runs.{runs}
use Rattle.flush_plan.specs.Planning.{late_updates, plan, statements, unless_gone_cycle, unless_new_cycle}
use Rattle.flush_writes.specs.Writes.{insert_run, removes, updates}
use Rattle.session_laws.specs.Plans.Laws.{IsComplete, PrefixesAreLegal, WholeIsStated, before}
use Rattle.session_laws.proofs.Plans.Complete.{IsStated, ends, known_facts, leads, news, told_of}
use Rattle.session_laws.proofs.Plans.Deleting.{remove_at}
use Rattle.session_laws.proofs.Plans.DeleteOrder.{gone_closed, gone_covered, gone_ordered, pl}
use Rattle.session_laws.proofs.Plans.InsertOrder.{news_ordered}
use Rattle.session_laws.proofs.Plans.Items.{map_map}
use Rattle.session_laws.proofs.Plans.Prefixes.{Goes, goes_whole, prefix_of}
use Rattle.session_laws.proofs.Plans.Runs.{runs_go}
use Rattle.session_laws.proofs.Plans.Stated.{stated_created}
use Rattle.session_laws.proofs.Plans.Steps.{all_steps, comes_up, steps_ok, steps_planned}
use Rattle.session_laws.proofs.Plans.Updating.{Step, planned_of}
use Rattle.session_laws.proofs.Plans.Whole.{plan_goes}

-- ---- a plan that is made

abbrev made : List Planned → Result (List Planned) Refusal
made plan = Ok plan

same_made : (one other : List Planned) → made one ≡ made other → one ≡ other
same_made one other e = cc

err_made : (refusal : Refusal) (plan : List Planned) → Err refusal ≡ made plan → ⊥
err_made refusal plan e = cc

pub record IsMade (schema : Catalog) (changes : RowChanges) (order : List ℕ) (plan : List Planned) : Type 0 where
  pub gone : List ℕ
  pub ordered : delete_order schema changes (gone_rows schema changes) ≡ Ok gone
  pub is : plan ≡ statements schema changes order gone

made_by : (schema : Catalog) (changes : RowChanges) (order : List ℕ) (plan : List Planned) (o : Result (List ℕ) (List ℕ)) → delete_order schema changes (gone_rows schema changes) ≡ o → unless_gone_cycle schema changes order o ≡ Ok plan → IsMade schema changes order plan
made_by schema changes order plan (Ok gone) e is = record { gone = gone; ordered = e; is = sym (same_made (statements schema changes order gone) plan is) }
made_by schema changes order plan (Err rows) e is = absurd (err_made (CircularDependencyError (map (λ place. (gone_at (gone_rows schema changes) place).name) rows)) plan is)

pub plan_made : (schema : Catalog) (changes : RowChanges) (order : List ℕ) (statements : List Planned) → insert_order schema changes ≡ Ok order → plan schema changes ≡ Ok statements → IsMade schema changes order statements
unfolding plan
plan_made schema changes order statements ordered e =
    made_by schema changes order statements (delete_order schema changes (gone_rows schema changes)) refl (sym (ap (unless_new_cycle schema changes) ordered) ∙ e)

-- INSERTs by runs, then all UPDATEs, then the DELETEs
pub in_phases : (schema : Catalog) (changes : RowChanges) (order gone : List ℕ) (place : ℕ → Place) → removes schema changes gone ≡ map (λ n. remove_at (place n)) gone → statements schema changes order gone ≡ map (insert_run changes) (runs schema changes order) ++ (map planned_of (all_steps schema changes order) ++ map remove_at (map place gone))
in_phases schema changes order gone place same =
    let inserts : List Planned = map (insert_run changes) (runs schema changes order) in
    let early : List Planned = updates schema changes in
    let late : List Planned = late_updates schema changes order in
    let deletes : List Planned = map remove_at (map place gone) in
    ap (λ xs. ((inserts ++ early) ++ late) ++ xs) (same ∙ sym (map_map remove_at place gone))
    ∙ ap (λ xs. xs ++ deletes) (append_assoc inserts early late)
    ∙ append_assoc inserts (early ++ late) deletes
    ∙ ap (λ xs. inserts ++ (xs ++ deletes)) (steps_planned schema changes order)

abbrev Whole : Catalog → Tables → RowChanges → Tables → List Planned → Type 0
Whole schema old changes after statements = (end : Sofar) × Goes schema changes (before old) statements end × (end.tables ≡ after)

plan_whole : (schema : Catalog) (old : Tables) (changes : RowChanges) (order : List ℕ) (placed : Sofar) (after : Tables) (statements : List Planned) → IsComplete schema old changes order placed after → plan schema changes ≡ Ok statements → Whole schema old changes after statements
plan_whole schema old changes order placed after sent complete e =
    let m = plan_made schema changes order sent complete.ordered e in
    let told : IsStated schema old changes order placed after = told_of schema old changes order placed after complete in
    let its = ends schema old changes order placed after complete in
    let steps : List Step = all_steps schema changes order in
    let place : ℕ → Place = pl schema changes complete.projected.gone_once m.gone m.ordered in
    let is : sent ≡ map (insert_run changes) (runs schema changes order) ++ (map planned_of steps ++ map remove_at (map place m.gone)) =
    m.is ∙ in_phases schema changes order m.gone place refl in
    let all =
    plan_goes schema changes old after placed its order steps (map place m.gone)
    (news schema old changes order placed after told)
    (news_ordered schema old changes order placed after told complete.no_guess)
    (leads schema old changes order placed after told)
    (comes_up schema old changes order placed after told complete.read)
    (steps_ok schema old changes order placed after told complete.read)
    (gone_closed schema changes complete.projected.gone_once m.gone m.ordered old order placed after told complete.read)
    (gone_ordered schema changes complete.projected.gone_once m.gone m.ordered old order placed after told complete.read)
    (gone_covered schema changes complete.projected.gone_once m.gone m.ordered old order placed after told)
    (stated_created schema old changes order placed after told.sorted (known_facts schema old changes order placed after told)) in
    subst (Whole schema old changes after) (sym is) (all.0, runs_go schema changes (before old) all.0 order (map planned_of steps ++ map remove_at (map place m.gone)) all.1, all.2)

pub prefixes : PrefixesAreLegal
prefixes schema old changes order placed after sent complete e n =
    let all = plan_whole schema old changes order placed after sent complete e in
    prefix_of schema changes (before old) all.0 sent all.1 n

pub whole : WholeIsStated
whole schema old changes order placed after sent complete e =
    let all = plan_whole schema old changes order placed after sent complete e in
    (all.0, goes_whole schema changes (before old) all.0 sent all.1, all.2)
