-- Where a call of a whole session flushes, what is to be known before objects are deleted can be read.
use Rattle.std.proofs.Common.{◌≡◌, ℕ, Option, Result, Ok, Err, refl, sym, ◌∙◌, subst}
use Rattle.base_core.specs.declared.refusal.Refusal.{Refusal}
use Rattle.expr_types.specs.declared.select.Bulk.{Bulk}
use Rattle.keeper_core.specs.Programs.{Run, ◌>>=◌, continue_from}
use Rattle.table_laws.specs.Legality.{AreSound}
use Rattle.object_arena.specs.Fit.{IsFit}
use Rattle.object_arena.specs.Identity.{IsGraph}
use Rattle.session_scopes.specs.SessionState.{SessionState}
use Rattle.session_calls.specs.Parts.{World, checked}
use Rattle.session_calls.specs.Steps.{enter, pending_fault}
use Rattle.session_acts.specs.Savepoints.{check_handle, enter_nested, handle_fault, limit_fault}
use Rattle.session_statements.specs.Steps as statements
use Rattle.session_laws.specs.Graphs.{IsWellMapped}
use Rattle.session_laws.specs.Preparing.{IsReadable, PreparationsLeaveReread}
use Rattle.session_laws.specs.Whole.{IsHale}
use Rattle.session_laws.proofs.Flushes.Reading.{IsReadWell}
use Rattle.session_laws.proofs.Health.Acts.{once_begun}
use Rattle.session_laws.proofs.Preparing.{hale_readable}
use Rattle.session_laws.proofs.Sound.Programs.{checked_same}

-- so it is in the transaction that a call begins
pub enter_readable : (w : World) → IsReadable w → IsReadable (enter w).after
enter_readable w can = record {
  well = once_begun (λ mapped graph tables. IsWellMapped mapped) w can.well;
  fit = once_begun (λ mapped graph tables. IsFit mapped graph) w can.fit;
  one = once_begun (λ mapped graph tables. IsGraph graph.objects graph.roots) w can.one;
  tables = once_begun (λ mapped graph tables. AreSound mapped.schema tables) w can.tables;
}

-- a check behind a program leaves what the program left
behind_check : (m : World → Run World (Unit {0})) (fault : SessionState → Option Refusal) (w : World) → ((m >>= λ u. checked fault) w).after ≡ (m w).after
unfolding ◌>>=◌
behind_check m fault w = by (m w).answer
  where
    by : (r : Result (Unit {0}) Refusal) → (continue_from (m w).events (m w).after r (λ u. checked fault)).after ≡ (m w).after
    by (Ok u) = checked_same fault (m w).after
    by (Err e) = refl

module _ (reads : PreparationsLeaveReread) where
  pub reads_in : (w : World) → IsHale w → IsReadWell w
  reads_in w hale = reads w (hale_readable w hale)

  pub reads_entered : (w : World) → IsHale w → IsReadWell (enter w).after
  reads_entered w hale = reads (enter w).after (enter_readable w (hale_readable w hale))

  pub reads_nested : (w : World) → IsHale w → IsReadWell (enter_nested w).after
  unfolding enter_nested
  reads_nested w hale = subst IsReadWell (sym (behind_check enter limit_fault w)) (reads_entered w hale)

  pub reads_handle : (handle : ℕ) (w : World) → IsHale w → IsReadWell (check_handle handle w).after
  unfolding check_handle
  reads_handle handle w hale = subst IsReadWell (sym (behind_check (checked pending_fault) (handle_fault handle) w ∙ checked_same pending_fault w)) (reads_in w hale)

  pub reads_bulk : (statement : Bulk) (w : World) → IsHale w → IsReadWell (statements.enter_bulk statement w).after
  unfolding statements.enter_bulk
  reads_bulk statement w hale = subst IsReadWell (sym (behind_check enter (statements.update_fault statement) w)) (reads_entered w hale)
