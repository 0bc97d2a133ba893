-- What rows a flush leaves, where the store is told.
use Rattle.std.specs.Prelude.{◌≡◌, ℕ, List, Some, Ok}
use Rattle.schema_core.specs.declared.changes.Planned.{Planned}
use Rattle.schema_core.specs.Tables.{Legal, Tables}
use Rattle.flush_order.specs.Orders.{insert_order}
use Rattle.flush_plan.specs.Flushing.{Sofar}
use Rattle.flush_plan.specs.Planning.{plan}
use Rattle.flush_plan.specs.Stating.{stated_tables}
use Rattle.session_laws.specs.Plans.Laws.{before, changes_to_write}
use Rattle.session_laws.specs.Plans.Premises.{IsSorted}
use Rattle.session_laws.specs.Graphs.{AreStated, HaveOwnRows, IsTold, IsWellMapped}
use Rattle.session_calls.specs.Parts.{World}
use Rattle.prepared_objects.specs.Leaving.{prepared_of}
use Rattle.session_acts.specs.Flush.{flush, prepare}
use Rattle.session_acts.specs.Outcome.{changes_of}
use Rattle.session_laws.specs.Flushes.{AreSendable, prepared_world}

-- The mapping is as every configured one is and the objects have their own rows, in legal and ascending tables. The new rows have
-- this order.
pub record IsFlushable (world : World) (order : List ℕ) : Type 0 where
  pub mapped : IsWellMapped world.own.mapping
  pub own : HaveOwnRows world.own.mapping world.own.graph (prepared_of world.own.mapping world.own.graph)
  pub sorted : IsSorted world.store.tables
  pub legal : Legal world.own.mapping.schema world.store.tables
  pub ordered : insert_order world.own.mapping.schema (changes_of world.own) ≡ Ok order

-- a flush that answers leaves the rows that the objects state: the old ones without the deleted, with the changed cells written
-- and the new rows put in; a row of which no cell is written stays as it was
abbrev pub LeavesStatedRows : Type 0
LeavesStatedRows =
    (world : World) (order : List ℕ) → IsFlushable (prepared_world world) order → (flush world).answer ≡ Ok tt
    → stated_tables (prepared_world world).own.mapping.schema (prepared_world world).store.tables (changes_to_write (changes_of (prepared_world world).own)) order ≡ Some (flush world).after.store.tables

-- The mapping is as every configured one is, the objects have their own rows, and those that are deleted are as they were read. What the
-- objects change has this plan, and states these tables, by this order of the new rows and these keys of theirs; and each statement of
-- the plan fits the schema when it is sent.
pub record CanBeSent (world : World) (order : List ℕ) (placed : Sofar) (after : Tables) (statements : List Planned) : Type 0 where
  pub mapped : IsWellMapped world.own.mapping
  pub told : IsTold world.own.mapping world.own.graph (prepared_of world.own.mapping world.own.graph) world.store.tables
  pub stated : AreStated world.own.mapping.schema world.store.tables (changes_of world.own) order placed after
  pub planned : plan world.own.mapping.schema (changes_of world.own) ≡ Ok statements
  pub fit : AreSendable world.own.mapping.schema (changes_of world.own) (before world.store.tables) statements

-- where a session can be prepared, and what its objects state then can be sent, a flush answers and leaves the stated tables
abbrev pub AnswersWhereStated : Type 0
AnswersWhereStated =
    (world : World) (order : List ℕ) (placed : Sofar) (after : Tables) (statements : List Planned) → (prepare world).answer ≡ Ok tt → CanBeSent (prepared_world world) order placed after statements
    → ((flush world).answer ≡ Ok tt) × ((flush world).after.store.tables ≡ after)
