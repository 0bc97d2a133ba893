-- What each call of a keeper ensures: its program, the scopes that it leaves, and what is left where it did nothing.
use Rattle.std.specs.Prelude.{◌≡◌, ℕ, ◌+◌, ◌-◌, Bool, true, false, List, [], length, Option, None, Some, Result, Ok, Err, IfErr, IfSome, MatchBool, is_ok, if◌then◌else◌}
use Rattle.std.specs.List.{AllByRecursion}
use Rattle.base_core.specs.Counts.{Rose}
use Rattle.base_core.specs.declared.ids.TableId.{TableId}
use Rattle.base_core.specs.declared.value.Value.{Value}
use Rattle.base_core.specs.declared.refusal.Refusal.{Refusal}
use Rattle.base_core.specs.declared.refusal.Refusal.TheVariants as refusals
use Rattle.schema_core.specs.declared.statement.RowStmt.{RowStmt}
use Rattle.schema_core.specs.declared.statement.Violation.{Violation}
use Rattle.schema_core.specs.Apply.{table_of}
use Rattle.schema_core.specs.Catalog.{Catalog, spec_of}
use Rattle.schema_core.specs.Refusals.{violation_refusal}
use Rattle.schema_core.specs.Tables.{AreAscending, Tables}
use Rattle.schema_core.specs.WellFormed.{MayViolate, is_row}
use Rattle.expr_types.specs.declared.select.Bulk.{Bulk}
use Rattle.expr_types.specs.declared.select.Select.{Select}
use Rattle.sql_semantics.specs.BulkRefusals as bulk
use Rattle.sql_semantics.specs.Created.{bare}
use Rattle.sql_semantics.specs.SelectRefusals as select
use Rattle.sql_semantics.specs.SelectRefusals.{IsOfDeclared}
use Rattle.sql_semantics.specs.Shapes.{AreLegalRows, AreRows}
use Rattle.keeper_core.specs.declared.sent.Sent.{Sent}
use Rattle.keeper_core.specs.declared.sent.Sent.TheVariants as sent
use Rattle.keeper_core.specs.declared.target.Target.{Target}
use Rattle.keeper_core.specs.declared.target.Target.TheVariants as targets
use Rattle.keeper_core.specs.Store.{Store, committed_of}
use Rattle.keeper_core.specs.Programs.{Run, ends_early}
use Rattle.keeper_core.specs.Moment.{IsCalm, IsFaultCount, Moment, Runs, Told, counters}
use Rattle.keeper_core.specs.Calls as call

-- ---- what a keeper tells

-- what is told is told of a keeper that tells; it fits the depth, the tables that the outside saw committed are the store's, and a
-- keeper writes no bytes
abbrev pub IsCoherentTold : Bool → ℕ → Option (Told Store) → Type 0
IsCoherentTold tells depth None = tells ≡ false
IsCoherentTold tells depth (Some told) =
    (tells ≡ true) × (depth ≡ length told.world.scopes) × (told.log.committed ≡ committed_of told.world) × (told.log.written ≡ [])

abbrev pub IsCoherent : Moment Store → Type 0
IsCoherent moment = IsCoherentTold moment.tells moment.depth moment.told

-- the tables that are told, where any are, have rows that fit the schema
abbrev pub HoldsRows : Catalog → Option (Told Store) → Type 0
HoldsRows schema told = IfSome told (λ t. AreRows schema (bare t.world.tables))

-- the tables that are told, where any are, have legal rows
abbrev pub HoldsLegalRows : Catalog → Option (Told Store) → Type 0
HoldsLegalRows schema told = IfSome told (λ t. AreLegalRows schema (bare t.world.tables))

-- ---- a target is given

-- what a keeper in memory that tells has to begin with: no tables, no scope, nothing sent
abbrev pub new_store : Told Store
new_store = record { world = record { tables = []; scopes = [] }; log = record { sent = []; committed = []; written = [] } }

-- no statement was sent and no scope is open; a file may have tables, which are told ascending by number, and their rows by key
abbrev pub IsOpened : Target → Told Store → Type 0
IsOpened targets.Memory told = told ≡ new_store
IsOpened (targets.File name) told = (told.log.sent ≡ []) × (told.world.scopes ≡ []) × AreAscending told.world.tables

-- What is told after a target was given. A keeper need not tell before, and in memory one that told goes on telling.
abbrev pub IsToldAnew : Target → Option (Told Store) → Result (Unit {0}) Refusal → Option (Told Store) → Type 0
IsToldAnew targets.Memory (Some told) (Ok u) now = now ≡ Some new_store
IsToldAnew target told (Ok u) now = IfSome now (IsOpened target)
IsToldAnew target told (Err e) now = now ≡ told

-- the tables that are told, where any are, are these
abbrev pub IsToldFrom : Option Tables → Option (Told Store) → Type 0
IsToldFrom tables None = Unit {0}
IsToldFrom tables (Some told) = tables ≡ Some told.world.tables

-- the keeper keeps the target, and whether it took it; no scope is open
pub record IsAttached (old : Moment Store) (target : Target) (result : Result (Unit {0}) Refusal) (new : Moment Store) : Type 0 where
  pub told : IsToldAnew target old.told result new.told
  pub faults : IsFaultCount old.faults result new.faults
  pub calm : IsCalm (counters old) (counters new)
  pub depth : new.depth ≡ 0
  pub given : new.target ≡ Some target
  pub attached : new.attached ≡ is_ok result

-- ---- what is left of a call

-- the depth that a call leaves: this one, or none where it was ended early
abbrev pub depth_left : {A : Type 0} → Result A Refusal → ℕ → ℕ
depth_left (Ok x) depth = depth
depth_left (Err e) depth = if ends_early e then 0 else depth

-- what the outside has seen is what it had seen before, where that is told
abbrev pub IsUnseen : Option (Told Store) → Option (Told Store) → Type 0
IsUnseen (Some told) (Some now) = now.log ≡ told.log
IsUnseen told now = Unit {0}

-- the call was ended early: nothing was sent, and nothing refused
abbrev pub IsUndone : Moment Store → Moment Store → Type 0
IsUndone old new = IsCalm (counters old) (counters new) × IsUnseen old.told new.told

-- What is left of a statement that was not done: nothing, where the call ended early; else one refusal more, which is the last
-- one, with its statement.
abbrev pub IsLeft : Sent → Refusal → Moment Store → Moment Store → Type 0
IsLeft statement e old new =
    MatchBool (ends_early e) (IsUndone old new) (Rose old.refusals new.refusals × (new.last ≡ Some (record { statement = statement; refusal = e })))

-- ---- calls

-- A call that nothing refuses: it ran its program and left so many scopes, or it ended early and nothing was sent.
pub record IsCall {A K : Type 0} (moment : K → Moment Store) (m : Store → Run Store A) (scopes : ℕ) (old : K) (result : Result A Refusal) (new : K) : Type 0 where
  pub step : Runs moment (λ x. x) m old result new
  pub depth : (moment new).depth ≡ depth_left result scopes
  pub stops : IfErr result (λ e. ends_early e ≡ true)
  pub undone : IfErr result (λ e. IsUndone (moment old) (moment new))

-- A statement: it ran its program and left the scopes as they were. What refuses it is what may, and is kept with it.
pub record IsStatement {A K : Type 0} (moment : K → Moment Store) (m : Store → Run Store A) (statement : Sent) (MayRefuse : Refusal → Type 0) (old : K) (result : Result A Refusal) (new : K) : Type 0 where
  pub step : Runs moment (λ x. x) m old result new
  pub depth : (moment new).depth ≡ depth_left result (moment old).depth
  pub refuses : IfErr result MayRefuse
  pub left : IfErr result (λ e. IsLeft statement e (moment old) (moment new))

abbrev pub IsCreate : {K : Type 0} → (K → Moment Store) → TableId → K → Result Bool Refusal → K → Type 0
IsCreate moment table old result new = IsCall moment (call.create table) 0 old result new

abbrev pub IsDrop : {K : Type 0} → (K → Moment Store) → TableId → K → Result Bool Refusal → K → Type 0
IsDrop moment table old result new = IsCall moment (call.drop_table table) 0 old result new

abbrev pub IsBegin : {K : Type 0} → (K → Moment Store) → K → Result (Unit {0}) Refusal → K → Type 0
IsBegin moment old result new = IsCall moment call.begin 1 old result new

abbrev pub IsSavepoint : {K : Type 0} → (K → Moment Store) → K → Result (Unit {0}) Refusal → K → Type 0
IsSavepoint moment old result new = IsCall moment call.savepoint ((moment old).depth + 1) old result new

abbrev pub IsRelease : {K : Type 0} → (K → Moment Store) → K → Result (Unit {0}) Refusal → K → Type 0
IsRelease moment old result new = IsCall moment call.release ((moment old).depth - 1) old result new

abbrev pub IsRollbackTo : {K : Type 0} → (K → Moment Store) → ℕ → K → Result (Unit {0}) Refusal → K → Type 0
IsRollbackTo moment number old result new = IsCall moment (call.rollback_to number) number old result new

abbrev pub IsRollback : {K : Type 0} → (K → Moment Store) → K → Result (Unit {0}) Refusal → K → Type 0
IsRollback moment old result new = IsCall moment call.rollback 0 old result new

abbrev pub IsCommit : {K : Type 0} → (K → Moment Store) → K → Result (Unit {0}) Refusal → K → Type 0
IsCommit moment old result new = IsCall moment call.commit 0 old result new

abbrev pub IsScan : {K : Type 0} → (K → Moment Store) → TableId → K → Result (Option (List (List Value))) Refusal → K → Type 0
IsScan moment table old result new = IsCall moment (call.scan table) (moment old).depth old result new

-- ---- statements

-- which refusals a statement on rows may meet, whatever the keeper, in the words of the layers above
abbrev pub RefusesRow : RowStmt → Refusal → Type 0
RefusesRow statement refusals.KeeperFault = Unit {0}
RefusesRow statement refusals.Memory = Unit {0}
RefusesRow statement e = (violation : Violation) × (e ≡ violation_refusal (table_of statement) violation) × MayViolate statement violation

-- which refusals a bulk statement may meet, and the tables that they name are declared
abbrev pub RefusesBulk : Catalog → Bulk → Refusal → Type 0
RefusesBulk schema statement refusals.KeeperFault = Unit {0}
RefusesBulk schema statement e = bulk.CanRefuse statement e × IsOfDeclared schema e

-- which refusals a select may meet, and the tables that they name are declared
abbrev pub RefusesSelect : Catalog → Select → Refusal → Type 0
RefusesSelect schema s refusals.KeeperFault = Unit {0}
RefusesSelect schema s e = select.CanRefuse s e × IsOfDeclared schema e

abbrev pub IsWrite : {K : Type 0} → (K → Moment Store) → Catalog → RowStmt → K → Result (List (List Value)) Refusal → K → Type 0
IsWrite moment schema statement old result new =
    IsStatement moment (call.write schema statement) (sent.Write statement) (RefusesRow statement) old result new

abbrev pub IsBulk : {K : Type 0} → (K → Moment Store) → Catalog → Bulk → K → Result ℕ Refusal → K → Type 0
IsBulk moment schema statement old result new =
    IsStatement moment (call.bulk schema statement) (sent.Bulk statement) (RefusesBulk schema statement) old result new

abbrev pub IsQuery : {K : Type 0} → (K → Moment Store) → Catalog → Select → K → Result (List (List Value)) Refusal → K → Type 0
IsQuery moment schema select old result new =
    IsStatement moment (call.query schema select) (sent.Query select) (RefusesSelect schema select) old result new

-- ---- shapes of answers

-- the rows of a table have one value for each of its columns, NULL or of its kind
abbrev pub AreRowsOf : Catalog → TableId → List (List Value) → Type 0
AreRowsOf schema table rows = AllByRecursion (λ row. is_row (spec_of schema table) row ≡ true) rows
