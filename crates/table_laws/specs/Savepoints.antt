-- Calls of a keeper inside a savepoint, and what the rollback to it leaves.
use Rattle.std.specs.Prelude.{◌≡◌, ℕ, ◌+◌, ◌<◌, List, [], ◌∷◌, length}
use Rattle.base_core.specs.declared.ids.TableId.{TableId}
use Rattle.schema_core.specs.Catalog.{Catalog}
use Rattle.schema_core.specs.declared.statement.RowStmt.{RowStmt}
use Rattle.expr_types.specs.declared.select.Bulk.{Bulk}
use Rattle.expr_types.specs.declared.select.Select.{Select}
use Rattle.keeper_core.specs.Store.{Store}
use Rattle.keeper_core.specs.Calls as call

-- a call that a transaction may make: a statement that writes or reads, or one that starts or ends a savepoint
pub data Call : Type 0 where
  Write : Catalog → RowStmt → Call
  WriteMany : Catalog → Bulk → Call
  Query : Catalog → Select → Call
  Scan : TableId → Call
  Savepoint : Call
  Release : Call
  RollbackTo : ℕ → Call

-- the store after a call, whether it was refused or not
abbrev pub after_call : Call → Store → Store
after_call (Write schema statement) w = (call.write schema statement w).after
after_call (WriteMany schema statement) w = (call.bulk schema statement w).after
after_call (Query schema select) w = (call.query schema select w).after
after_call (Scan table) w = (call.scan table w).after
after_call Savepoint w = (call.savepoint w).after
after_call Release w = (call.release w).after
after_call (RollbackTo number) w = (call.rollback_to number w).after

-- the store after calls in order
abbrev pub after_calls : List Call → Store → Store
after_calls [] w = w
after_calls (c ∷ calls) w = after_calls calls (after_call c w)

-- the call ends no scope but such as started inside the savepoint of this number
abbrev pub IsInside : ℕ → Call → Store → Type 0
IsInside number Release w = number + 1 < length w.scopes
IsInside number (RollbackTo inner) w = number < inner
IsInside number c w = Unit {0}

abbrev pub AreInside : ℕ → List Call → Store → Type 0
AreInside number [] w = Unit {0}
AreInside number (c ∷ calls) w = IsInside number c w × AreInside number calls (after_call c w)

-- The savepoint that starts now has the number of scopes that are open. Whatever is called inside it, the rollback to it leaves the
-- tables and the scopes as they are now.
abbrev pub RollbackToRestores : Type 0
RollbackToRestores = (w : Store) (calls : List Call) → AreInside (length w.scopes) calls (after_call Savepoint w)
    → after_call (RollbackTo (length w.scopes)) (after_calls calls (after_call Savepoint w)) ≡ w
