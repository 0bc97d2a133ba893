-- The making and dropping of all tables, as programs of the store and of the session beside it.
use Rattle.std.specs.Prelude.{Bool, List, nat_lt, reverse, Option}
use Rattle.base_core.specs.declared.ids.TableId.{TableId}
use Rattle.base_core.specs.declared.refusal.Refusal.{Refusal}
use Rattle.base_core.specs.declared.refusal.Refusal.TheVariants.{InvalidRequestError}
use Rattle.base_core.specs.declared.refusal.RequestKind.TheVariants.{InTransaction}
use Rattle.schema_core.specs.Catalog.{Catalog}
use Rattle.schema_core.specs.DependencyOrder.{dependency_order}
use Rattle.keeper_core.specs.declared.sent.Sent.{Sent}
use Rattle.keeper_core.specs.declared.sent.Sent.TheVariants as sent
use Rattle.keeper_core.specs.Store.{Store}
use Rattle.keeper_core.specs.Programs.{Run, ◌>>=◌, each, give}
use Rattle.keeper_core.specs.Beside.{by_own, on_store}
use Rattle.keeper_core.specs.Calls as call
use Rattle.session_scopes.specs.SessionState.{SessionState, depth_of, with_notes}
use Rattle.session_calls.specs.Parts.{World, checked, fault_if}
use Rattle.session_tables.specs.declared.tables.TableChange.{TableChange}
use Rattle.session_tables.specs.declared.tables.TableChange.TheVariants.{Create, Drop}

-- what a change of a table asks of the store, which answers whether the table changed
abbrev pub change_in_store : TableChange → TableId → Store → Run Store Bool
change_in_store Create table = call.create table
change_in_store Drop table = call.drop_table table

-- what is sent where the table changes
abbrev pub statement_of : TableChange → TableId → Sent
statement_of Create table = sent.Create table
statement_of Drop table = sent.Drop table

-- a table is made where it is not there, or dropped where it is
unfoldable pub change_one : TableChange → TableId → Unit {0} → World → Run World (Unit {0})
change_one change table u = on_store with_notes (change_in_store change table) >>= λ _. give tt

-- tables are made in the order of their dependencies, and dropped in the opposite one
abbrev pub order_for : TableChange → Catalog → List TableId
order_for Create schema = dependency_order schema
order_for Drop schema = reverse (dependency_order schema)

-- a transaction is in progress, a failed one included
abbrev pub transaction_fault : SessionState → Option Refusal
transaction_fault session = fault_if (nat_lt 0 (depth_of session)) (InvalidRequestError InTransaction)

-- all tables change, outside transactions alone
unfoldable pub change_all : TableChange → World → Run World (Unit {0})
change_all change = checked transaction_fault >>= λ u. by_own (λ session. each (change_one change) tt (order_for change session.mapping.schema))
