-- What each call of a keeper does to a store that is told.
use Rattle.std.specs.Prelude.{ℕ, ◌-◌, Bool, true, false, List, [], ◌∷◌, map, length, drop, slice_index_or, Option, Result, Ok, Err, if◌then◌else◌}
use Rattle.std.specs.Option.{option_map}
use Rattle.base_core.specs.declared.ids.TableId.{TableId}
use Rattle.base_core.specs.declared.value.Value.{Value}
use Rattle.base_core.specs.declared.refusal.Refusal.{Refusal}
use Rattle.base_core.specs.declared.refusal.Refusal.TheVariants as refusals
use Rattle.base_core.specs.declared.refusal.IntegrityKind.TheVariants as kinds
use Rattle.schema_core.specs.declared.statement.RowStmt.{RowStmt}
use Rattle.schema_core.specs.declared.statement.Violation.{Violation}
use Rattle.schema_core.specs.declared.statement.Violation.TheVariants as violations
use Rattle.keeper_core.specs.declared.sent.Sent.{Sent}
use Rattle.keeper_core.specs.declared.sent.Sent.TheVariants as sent
use Rattle.keeper_core.specs.declared.keeper.KeeperStop.{KeeperStop}
use Rattle.keeper_core.specs.declared.keeper.KeeperStop.TheVariants as stops
use Rattle.keeper_core.specs.declared.keeper.WriteRefusal.{WriteRefusal}
use Rattle.keeper_core.specs.declared.keeper.WriteRefusal.TheVariants as writes
use Rattle.keeper_core.specs.declared.keeper.QueryRefusal.{QueryRefusal}
use Rattle.keeper_core.specs.declared.keeper.QueryRefusal.TheVariants as queries
use Rattle.keeper_core.specs.Programs.{Run, Sends, quiet, give}
use Rattle.schema_core.specs.Apply.{Outcome, apply, table_of}
use Rattle.schema_core.specs.Catalog.{Catalog}
use Rattle.schema_core.specs.Refusals.{violation_refusal}
use Rattle.schema_core.specs.Tables.{is_created, rows_in}
use Rattle.expr_types.specs.declared.select.Select.{Select}
use Rattle.sql_semantics.specs.Created.{bare}
use Rattle.sql_semantics.specs.Rows.{answer}
use Rattle.expr_types.specs.declared.select.Bulk.{Bulk}
use Rattle.sql_semantics.specs.Applied.{bulk_outcome}
use Rattle.sql_semantics.specs.Applied as bulks
use Rattle.keeper_core.specs.Store.{Store, committed_of, with_empty_table, without_table}

-- ---- refusals of a keeper as refusals of the layers above

abbrev pub stop_refusal : KeeperStop → Refusal
stop_refusal stops.Fault = refusals.KeeperFault
stop_refusal stops.Memory = refusals.Memory

abbrev pub write_refusal : TableId → WriteRefusal → Refusal
write_refusal table (writes.NoTable absent) = refusals.OperationalError absent
write_refusal table writes.Missing = refusals.StaleDataError table
write_refusal table writes.NotNull = refusals.IntegrityError kinds.NotNull table
write_refusal table writes.KeysSpent = refusals.KeysSpent table
write_refusal table writes.PrimaryKey = refusals.IntegrityError kinds.PrimaryKey table
write_refusal table writes.Unique = refusals.IntegrityError kinds.Unique table
write_refusal table writes.Foreign = refusals.IntegrityError kinds.Foreign table
write_refusal table (writes.Range op a b) = refusals.DataError op a b
write_refusal table writes.Fault = refusals.KeeperFault
write_refusal table writes.Memory = refusals.Memory

abbrev pub query_refusal : QueryRefusal → Refusal
query_refusal (queries.NoTable absent) = refusals.OperationalError absent
query_refusal (queries.Range op a b) = refusals.DataError op a b
query_refusal queries.Fault = refusals.KeeperFault
query_refusal queries.Memory = refusals.Memory

-- ---- the calls

-- a statement is sent, and leaves this store
abbrev pub sends : {A : Type 0} → Sent → Store → Result A Refusal → Run Store A
sends statement after answer = record { events = Sends statement (committed_of after) ∷ []; answer = answer; after = after }

-- the table is made, and committed at once; true where it was not there
unfoldable pub create : TableId → Store → Run Store Bool
create table w =
    if is_created w.tables table then quiet (Ok false) w
    else sends (sent.Create table) (record { tables = with_empty_table w.tables table; scopes = w.scopes }) (Ok true)

-- the table is dropped, and committed at once; true where it was there
unfoldable pub drop_table : TableId → Store → Run Store Bool
drop_table table w =
    if is_created w.tables table then sends (sent.Drop table) (record { tables = without_table w.tables table; scopes = w.scopes }) (Ok true)
    else quiet (Ok false) w

-- a transaction starts
unfoldable pub begin : Store → Run Store (Unit {0})
begin w = sends sent.Begin (record { tables = w.tables; scopes = w.tables ∷ w.scopes }) (Ok tt)

-- a savepoint starts; the transaction's first has the number 1
unfoldable pub savepoint : Store → Run Store (Unit {0})
savepoint w = sends (sent.Savepoint (length w.scopes)) (record { tables = w.tables; scopes = w.tables ∷ w.scopes }) (Ok tt)

-- the innermost savepoint ends, and its rows stay
unfoldable pub release : Store → Run Store (Unit {0})
release w = sends (sent.Release (length w.scopes - 1)) (record { tables = w.tables; scopes = drop 1 w.scopes }) (Ok tt)

-- the savepoint of this number and all inside it end, and the tables are those at its start
unfoldable pub rollback_to : ℕ → Store → Run Store (Unit {0})
rollback_to number w =
    let inside = length w.scopes - number in
    sends (sent.RollbackTo number) (record { tables = slice_index_or w.scopes (inside - 1) w.tables; scopes = drop inside w.scopes }) (Ok tt)

-- all scopes end, and the tables are those at the transaction's start
unfoldable pub rollback : Store → Run Store (Unit {0})
rollback w = sends sent.Rollback (record { tables = committed_of w; scopes = [] }) (Ok tt)

-- all scopes end, and the tables are committed
unfoldable pub commit : Store → Run Store (Unit {0})
commit w = sends sent.Commit (record { tables = w.tables; scopes = [] }) (Ok tt)

-- the rows of a created table, ascending by key; this is no statement
unfoldable pub scan : TableId → Store → Run Store (Option (List (List Value)))
scan table w = give (option_map (λ rows. map (λ entry. entry.1) rows) (rows_in w.tables table)) w

abbrev pub run_of_write : RowStmt → Outcome → Store → Run Store (List (List Value))
run_of_write statement (Ok done) w = sends (sent.Write statement) (record { tables = done.1; scopes = w.scopes }) (Ok done.0)
run_of_write statement (Err violation) w = sends (sent.Write statement) w (Err (violation_refusal (table_of statement) violation))

-- a statement on rows, which answers their keys; a refused one changes nothing, and is sent too
unfoldable pub write : Catalog → RowStmt → Store → Run Store (List (List Value))
write schema statement w = run_of_write statement (apply schema w.tables statement) w

abbrev pub run_of_bulk : Bulk → bulks.Outcome → Store → Run Store ℕ
run_of_bulk statement (Ok done) w = sends (sent.Bulk statement) (record { tables = done.1; scopes = w.scopes }) (Ok done.0)
run_of_bulk statement (Err refusal) w = sends (sent.Bulk statement) w (Err refusal)

-- a bulk statement, which answers the number of its rows; a refused one changes nothing, and is sent too
unfoldable pub bulk : Catalog → Bulk → Store → Run Store ℕ
bulk schema statement w = run_of_bulk statement (bulk_outcome schema w.tables statement) w

-- the rows of a select over the tables now; it changes nothing, and a refused one is sent too
unfoldable pub query : Catalog → Select → Store → Run Store (List (List Value))
query schema select w = sends (sent.Query select) w (answer schema (bare w.tables) select)

-- the refusal of a statement that violates a rule of its table
abbrev pub refusal_by : Violation → WriteRefusal
refusal_by (violations.NoTable table) = writes.NoTable table
refusal_by violations.Missing = writes.Missing
refusal_by violations.NotNull = writes.NotNull
refusal_by violations.KeysSpent = writes.KeysSpent
refusal_by violations.PrimaryKey = writes.PrimaryKey
refusal_by violations.Unique = writes.Unique
refusal_by violations.Foreign = writes.Foreign
