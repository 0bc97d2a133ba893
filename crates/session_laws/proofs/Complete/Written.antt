-- What can be written is written by a flush in the transaction.
use Rattle.std.proofs.Common.{◌≡◌, ℕ, true, List, [], ◌∷◌, Ok, ap, ◌∙◌}
use Rattle.schema_core.specs.declared.changes.Planned.{Planned}
use Rattle.schema_core.specs.declared.changes.RowChanges.{RowChanges}
use Rattle.schema_core.specs.Catalog.{Catalog}
use Rattle.schema_core.specs.Tables.{Legal, Tables}
use Rattle.class_mapping.specs.Mapped.{Mapped}
use Rattle.mapping_laws.specs.Hierarchies.{HasHierarchies}
use Rattle.object_arena.specs.Graph.{Graph}
use Rattle.object_arena.specs.Identity.{IsGraph}
use Rattle.flush_order.specs.Orders.{delete_order, gone_rows, insert_order}
use Rattle.flush_plan.specs.Flushing.{Sofar}
use Rattle.flush_plan.specs.Planning.{plan, statements, unless_gone_cycle, unless_new_cycle}
use Rattle.session_laws.specs.Plans.Laws.{before}
use Rattle.session_laws.specs.Plans.Premises.{IsSorted}
use Rattle.plan_statements.specs.Known.{is_sendable}
use Rattle.session_laws.specs.Graphs.{IsTold, IsWellMapped}
use Rattle.session_calls.specs.Parts.{World}
use Rattle.session_calls.specs.Steps.{enter}
use Rattle.prepared_objects.specs.Leaving.{prepared_of}
use Rattle.session_acts.specs.Flush.{flush, prepare}
use Rattle.session_acts.specs.Outcome.{changes_of}
use Rattle.session_laws.specs.Flushes.{AreSendable, prepared_world}
use Rattle.session_laws.specs.Stating.{AnswersWhereStated}
use Rattle.session_laws.specs.Sendable.{ChangesFit, FitPlansAreSendable, HoldWhenSent}
use Rattle.session_laws.specs.Complete.{IsWritable}

-- What the objects rest on: they fit the mapping, one stands for each key, and the tables tell what is to be deleted of them.
pub record IsReady (mapped : Mapped) (graph : Graph) (old : Tables) : Type 0 where
  pub well : IsWellMapped mapped
  pub hierarchies : HasHierarchies mapped
  pub is : IsGraph graph.objects graph.roots
  pub legal : Legal mapped.schema old
  pub sorted : IsSorted old
  pub told : IsTold mapped graph (prepared_of mapped graph) old

-- the session in its transaction, when all is read that is to be known of the objects that are to be deleted, and the store
abbrev pub world_read : World → World
world_read w = prepared_world (enter w).after

pub sendable_then : (schema : Catalog) (changes : RowChanges) (planned : List Planned) (sofar : Sofar) → HoldWhenSent (λ sent one. is_sendable schema changes sent.keys one ≡ true) schema changes sofar planned → AreSendable schema changes sofar planned
sendable_then schema changes [] sofar all = tt
sendable_then schema changes (one ∷ planned) sofar all = (all.0, λ next sent. sendable_then schema changes planned next (all.1 next sent))

planned_is : (schema : Catalog) (changes : RowChanges) (order gone : List ℕ) → insert_order schema changes ≡ Ok order → delete_order schema changes (gone_rows schema changes) ≡ Ok gone → plan schema changes ≡ Ok (statements schema changes order gone)
unfolding plan
planned_is schema changes order gone ordered last = ap (unless_new_cycle schema changes) ordered ∙ ap (unless_gone_cycle schema changes order) last

-- a flush that has begun answers
pub flush_written : AnswersWhereStated → FitPlansAreSendable → ChangesFit → (w : World) (after : Tables) → (prepare w).answer ≡ Ok tt
    → IsReady (prepared_world w).own.mapping (prepared_world w).own.graph (prepared_world w).store.tables → IsWritable (prepared_world w).own.mapping (prepared_world w).own.graph (prepared_world w).store.tables after
    → ((flush w).answer ≡ Ok tt) × ((flush w).after.store.tables ≡ after)
flush_written answers sendable fits w after prepared ready writable =
    let mid : World = prepared_world w in
    let schema : Catalog = mid.own.mapping.schema in
    let changes : RowChanges = changes_of mid.own in
    let planned : List Planned = statements schema changes writable.order writable.gone in
    let is : plan schema changes ≡ Ok planned = planned_is schema changes writable.order writable.gone writable.ordered writable.gone_ordered in
    let fit = fits mid.own.mapping mid.own.graph (prepared_of mid.own.mapping mid.own.graph) ready.well ready.hierarchies ready.told.fit ready.is ready.told.keyed in
    answers w writable.order writable.placed after planned prepared
    (record {
      mapped = ready.well;
      told = ready.told;
      stated = record {
        sorted = ready.sorted;
        legal = ready.legal;
        legal_after = writable.legal;
        clear = writable.clear;
        ordered = writable.ordered;
        keys = writable.keys;
        states = writable.states;
        no_guess = writable.no_guess;
      };
      planned = is;
      fit = sendable_then schema changes planned (before mid.store.tables) (sendable schema changes planned mid.store.tables fit is);
    })
