-- The whole plan of rows that fit can be sent.
use Rattle.std.proofs.Common.{◌≡◌, ℕ, ◌<◌, List, [], ◌∷◌, ◌++◌, length, map, Result, Ok, Err, refl, sym, ap, ◌∙◌, subst, append_assoc}
use Rattle.std.specs.List.{AllByRecursion}
use Rattle.schema_core.specs.declared.changes.GoneRow.{GoneRow}
use Rattle.schema_core.specs.declared.changes.Planned.{Planned}
use Rattle.schema_core.specs.declared.changes.RowChanges.{RowChanges}
use Rattle.schema_core.specs.Catalog.{Catalog}
use Rattle.schema_core.specs.Tables.{Tables}
use Rattle.flush_order.specs.Orders.{delete_order, gone_at, gone_rows, insert_order}
use Rattle.flush_order.specs.Refers.{gone_refers, new_refers}
use Rattle.flush_plan.specs.Flushing.{Sofar}
use Rattle.flush_plan.specs.Planning.{late_updates, plan, statements, unless_gone_cycle, unless_new_cycle}
use Rattle.flush_writes.specs.Writes.{insert_run, removes, updates}
use Rattle.flush_writes.specs.Runs.{runs}
use Rattle.session_laws.specs.Plans.Laws.{before}
use Rattle.session_laws.proofs.Plans.Accepted.{sent_of}
use Rattle.session_laws.proofs.Plans.Items.{all_members, among_member, member_all}
use Rattle.session_laws.proofs.Plans.Orders.{order_is, order_within}
use Rattle.session_laws.specs.Sendable.{FitPlansAreSendable, HasFitRows, HoldWhenSent}
use Rattle.session_laws.proofs.Sendable.Parts.{AreKnown, IsKnown}
use Rattle.session_laws.proofs.Sendable.Inserting.{IsSent, inserts_first}
use Rattle.session_laws.proofs.Sendable.Latest.{all_late, joined}
use Rattle.session_laws.proofs.Sendable.Writing.{IsLate, removes_late, updates_late}

module _ (schema : Catalog) (changes : RowChanges) (fit : HasFitRows schema changes) where
  abbrev AreSent : Sofar → List Planned → Type 0
  AreSent sofar planned = HoldWhenSent (IsSent schema changes fit) schema changes sofar planned

  -- once all keys are known they stay so
  late_sent : (planned : List Planned) (sofar : Sofar) → AllByRecursion (IsLate schema changes fit) planned → AreKnown schema changes sofar.keys → AreSent sofar planned
  late_sent [] sofar late known = tt
  late_sent (one ∷ planned) sofar late known = (
    late.0.sends sofar.keys known,
    λ next sent.
        let done = sent_of schema changes sofar next one sent in
        late_sent planned next late.1 (subst (λ (s : Sofar). AreKnown schema changes s.keys) (sym done.is) (subst (AreKnown schema changes) (sym (late.0.tells sofar.keys done.answer.0)) known)),
  )

  whole_sent : (tables : Tables) (new_order gone_order : List ℕ) → insert_order schema changes ≡ Ok new_order → delete_order schema changes (gone_rows schema changes) ≡ Ok gone_order → AreSent (before tables) (statements schema changes new_order gone_order)
  whole_sent tables new_order gone_order new gone =
      let rows : List GoneRow = gone_rows schema changes in
      let new_within = all_members (λ place. place < length changes.fresh) new_order (λ place among. order_within (new_refers schema changes) (length changes.fresh) new_order place new among) in
      let gone_within = all_members (λ place. place < length rows) gone_order (λ place among. order_within (λ one other. gone_refers schema changes (gone_at rows one) (gone_at rows other)) (length rows) gone_order place gone among) in
      let inserts : List Planned = map (insert_run changes) (runs schema changes new_order) in
      let early : List Planned = updates schema changes in
      let late : List Planned = late_updates schema changes new_order in
      let gone_last : List Planned = removes schema changes gone_order in
      let behind : AllByRecursion (IsLate schema changes fit) ((early ++ late) ++ gone_last) =
      joined schema changes fit (IsLate schema changes fit) (early ++ late) gone_last
      (joined schema changes fit (IsLate schema changes fit) early late (updates_late schema changes fit) (all_late schema changes fit new_order new_within)) (removes_late schema changes fit gone_order gone_within) in
      subst (AreSent (before tables)) (sym (phases inserts early late gone_last))
      (inserts_first schema changes fit new_order tables ((early ++ late) ++ gone_last) new new_within
      (λ end known. late_sent ((early ++ late) ++ gone_last) end behind
      (λ place less. member_all (IsKnown schema changes end.keys) new_order place known (among_member new_order place ((order_is (new_refers schema changes) (length changes.fresh) new_order new).each place less)))))
    where
      phases : (first second third fourth : List Planned) → first ++ second ++ third ++ fourth ≡ first ++ ((second ++ third) ++ fourth)
      phases first second third fourth = append_assoc (first ++ second) third fourth ∙ append_assoc first second (third ++ fourth) ∙ ap (λ (rest : List Planned). first ++ rest) (sym (append_assoc second third fourth))

  gone_then : (tables : Tables) (new_order : List ℕ) (gone : Result (List ℕ) (List ℕ)) (planned : List Planned) → insert_order schema changes ≡ Ok new_order → delete_order schema changes (gone_rows schema changes) ≡ gone
      → unless_gone_cycle schema changes new_order gone ≡ Ok planned → AreSent (before tables) planned
  gone_then tables new_order (Ok gone_order) planned new at is =
      let same : statements schema changes new_order gone_order ≡ planned = cc in
      subst (AreSent (before tables)) same (whole_sent tables new_order gone_order new at)
  gone_then tables new_order (Err rows) planned new at is = absurd cc

  new_then : (tables : Tables) (new : Result (List ℕ) (List ℕ)) (planned : List Planned) → insert_order schema changes ≡ new → unless_new_cycle schema changes new ≡ Ok planned → AreSent (before tables) planned
  new_then tables (Ok new_order) planned at is = gone_then tables new_order (delete_order schema changes (gone_rows schema changes)) planned at refl is
  new_then tables (Err rows) planned at is = absurd cc

pub plans_sendable : FitPlansAreSendable
unfolding plan
plans_sendable schema changes planned tables fit is = new_then schema changes fit tables (insert_order schema changes) planned refl is
