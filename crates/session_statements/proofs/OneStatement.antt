-- One statement of a plan is sent: it answers the keys of its rows, or is refused, or a row is missing then.
use Rattle.std.proofs.Common.{◌≡◌, Bool, true, false, ◌&&◌, List, None, Some, Result, Ok, Err, refl, sym, ap, ◌∙◌, subst}
use Rattle.base_core.specs.declared.refusal.Refusal.{Refusal}
use Rattle.base_core.specs.declared.refusal.Refusal.TheVariants.{Memory, NotBuilt, StaleDataError}
use Rattle.base_core.specs.declared.value.Value.{Value}
use Rattle.schema_core.specs.declared.changes.Planned.{Planned}
use Rattle.schema_core.specs.declared.changes.RowChanges.{RowChanges}
use Rattle.schema_core.specs.declared.statement.RowStmt.{RowStmt}
use Rattle.schema_core.specs.Catalog.{Catalog}
use Rattle.flush_plan.specs.Flushing.{Keys, keys_then, statement_sent, table_of, was_missing}
use Rattle.keeper_core.specs.Store.{Store}
use Rattle.keeper_core.specs.Moment.{Moment}
use Rattle.keeper_core.specs.Beside.{on_store}
use Rattle.keeper_core.specs.Calls as call
use Rattle.schema_core.specs.WellFormedTest.{is_well_formed}
use Rattle.session_scopes.specs.SessionState.{IsInStep, SessionState, with_notes}
use Rattle.session_calls.specs.Calling.{IsSessionCall}
use Rattle.session_calls.proofs.Joining.{err_call, refused_call, still_call, then_call}
use Rattle.plan_statements.specs.Known.{AreKeysAt, is_of_rows, is_sendable, keys_at, statement_if}
use Rattle.plan_statements.proofs.Alike.{sent_at}
use Rattle.session_statements.specs.Run.{keys_unless, send_one, write_if}
use Rattle.session_statements.proofs.Noted.{ran_out_call}

module _ {K : Type 0} (moment : K → Moment Store) (schema : Catalog) (changes : RowChanges) (planned : Planned) (keys : Keys) (known : List (List Value)) where
  -- the test, by a list of keys
  test_by_list : (b : Bool) → AreKeysAt keys known → is_sendable schema changes (keys_at known) planned ≡ b → is_sendable schema changes keys planned ≡ b
  test_by_list b are is = ap (λ (s : RowStmt). is_of_rows schema changes planned && is_well_formed schema s) (sent_at schema changes keys known planned are) ∙ is

  -- the statement passed the test, or did not
  by_test : {X : Type 0} (v : X → Keys) {own now : SessionState} {old new : K} {r : Result X Refusal} (b : Bool) → AreKeysAt keys known → is_sendable schema changes (keys_at known) planned ≡ b
      → IsSessionCall moment v (write_if b schema changes planned keys) (own, old) r (now, new) → IsSessionCall moment v (send_one schema changes planned keys) (own, old) r (now, new)
  unfolding send_one
  by_test v {own = own} {now = now} {old = old} {new = new} {r = r} b are is p =
      subst (λ (c : Bool). IsSessionCall moment v (write_if c schema changes planned keys) (own, old) r (now, new)) (sym (test_by_list b are is)) p

  -- it does not fit
  pub unfit : {own : SessionState} {keeper : K} → AreKeysAt keys known → is_sendable schema changes (keys_at known) planned ≡ false → IsInStep own (moment keeper)
      → IsSessionCall moment (λ (x : List (List Value)). keys_then keys planned x) (send_one schema changes planned keys) (own, keeper) (Err NotBuilt) (own, keeper)
  unfit are is in_step = by_test (λ (x : List (List Value)). keys_then keys planned x) false are is (refused_call moment (refl, refl) in_step)

module _ {K : Type 0} (moment : K → Moment Store) (schema : Catalog) (changes : RowChanges) (planned : Planned) (keys : Keys) (known : List (List Value)) (statement : RowStmt) (sent : statement ≡ statement_sent schema changes (keys_at known) planned) where
  -- the call of the store, by a list of keys
  by_list : {X : Type 0} (v : X → List (List Value)) {own now : SessionState} {old new : K} {r : Result X Refusal} → AreKeysAt keys known
      → IsSessionCall moment v (on_store with_notes (call.write schema statement)) (own, old) r (now, new)
      → IsSessionCall moment v (on_store with_notes (call.write schema (statement_sent schema changes keys planned))) (own, old) r (now, new)
  by_list v {own = own} {now = now} {old = old} {new = new} {r = r} are p =
      subst (λ (s : RowStmt). IsSessionCall moment v (on_store with_notes (call.write schema s)) (own, old) r (now, new)) (sent ∙ sym (sent_at schema changes keys known planned are)) p

  -- it answered, and no row is missing
  pub keys_answered : {own now : SessionState} {old new : K} {answered : List (List Value)} → AreKeysAt keys known
      → IsSessionCall moment (λ (x : List (List Value)). x) (on_store with_notes (call.write schema statement)) (own, old) (Ok answered) (now, new)
      → is_sendable schema changes (keys_at known) planned ≡ true → was_missing schema changes planned answered ≡ false
      → IsSessionCall moment (λ (x : List (List Value)). keys_then keys planned x) (send_one schema changes planned keys) (own, old) (Ok answered) (now, new)
  keys_answered {now = now} {new = new} {answered = answered} are p is here =
      by_test moment schema changes planned keys known (λ (x : List (List Value)). keys_then keys planned x) true are is (then_call (λ x. keys_unless (was_missing schema changes planned x) planned keys x) (by_list (λ (x : List (List Value)). x) are p)
      (subst (λ (b : Bool). IsSessionCall moment (λ (x : List (List Value)). keys_then keys planned x) (keys_unless b planned keys answered) (now, new) (Ok answered) (now, new)) (sym here)
      (still_call moment {v = λ (x : List (List Value)). keys_then keys planned x} refl p.kept.in_step)))

  -- it answered, and a row is missing
  pub row_missing : {own now : SessionState} {old new : K} {answered : List (List Value)} → AreKeysAt keys known
      → IsSessionCall moment (λ (x : List (List Value)). x) (on_store with_notes (call.write schema statement)) (own, old) (Ok answered) (now, new)
      → is_sendable schema changes (keys_at known) planned ≡ true → was_missing schema changes planned answered ≡ true
      → IsSessionCall moment (λ (x : List (List Value)). keys_then keys planned x) (send_one schema changes planned keys) (own, old) (Err (StaleDataError (table_of planned))) (now, new)
  row_missing {now = now} {new = new} {answered = answered} are p is here =
      by_test moment schema changes planned keys known (λ (x : List (List Value)). keys_then keys planned x) true are is (then_call (λ x. keys_unless (was_missing schema changes planned x) planned keys x) (by_list (λ (x : List (List Value)). x) are p)
      (subst (λ (b : Bool). IsSessionCall moment (λ (x : List (List Value)). keys_then keys planned x) (keys_unless b planned keys answered) (now, new) (Err (StaleDataError (table_of planned))) (now, new)) (sym here)
      (refused_call moment (refl, refl) p.kept.in_step)))

  -- it was refused
  pub write_refused : {own now : SessionState} {old new : K} {e : Refusal} → AreKeysAt keys known
      → IsSessionCall moment (λ (x : List (List Value)). x) (on_store with_notes (call.write schema statement)) (own, old) (Err e) (now, new)
      → is_sendable schema changes (keys_at known) planned ≡ true
      → IsSessionCall moment (λ (x : List (List Value)). keys_then keys planned x) (send_one schema changes planned keys) (own, old) (Err e) (now, new)
  write_refused are p is = by_test moment schema changes planned keys known (λ (x : List (List Value)). keys_then keys planned x) true are is (err_call (λ x. keys_unless (was_missing schema changes planned x) planned keys x) (by_list (λ (x : List (List Value)). x) are p))

  -- memory ran out after it answered
  pub write_ran_out : {own now : SessionState} {old new : K} {answered : List (List Value)} {e : Refusal} → e ≡ Memory → AreKeysAt keys known
      → IsSessionCall moment (λ (x : List (List Value)). x) (on_store with_notes (call.write schema statement)) (own, old) (Ok answered) (now, new)
      → is_sendable schema changes (keys_at known) planned ≡ true
      → IsSessionCall moment (λ (x : List (List Value)). keys_then keys planned x) (send_one schema changes planned keys) (own, old) (Err e) (now, new)
  write_ran_out cause are p is = by_test moment schema changes planned keys known (λ (x : List (List Value)). keys_then keys planned x) true are is (ran_out_call moment (λ x. keys_unless (was_missing schema changes planned x) planned keys x) cause (by_list (λ (x : List (List Value)). x) are p))

-- ---- whether there is a statement

pub none_if : (b : Bool) (statement : RowStmt) → None ≡ statement_if b statement → b ≡ false
none_if true statement is = absurd cc
none_if false statement is = refl

pub some_if : (b : Bool) (found statement : RowStmt) → Some found ≡ statement_if b statement → b ≡ true
some_if true found statement is = refl
some_if false found statement is = absurd cc

pub some_same : (b : Bool) (found statement : RowStmt) → Some found ≡ statement_if b statement → found ≡ statement
some_same true found statement is = cc
some_same false found statement is = absurd cc
