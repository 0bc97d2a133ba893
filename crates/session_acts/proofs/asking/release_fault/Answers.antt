use Rattle.std.proofs.Common.{ℕ, Bool, Option, length, sym, ap, ◌∙◌, arith}
use Rattle.std.specs.Prelude.{is_none}
use Rattle.base_core.specs.declared.refusal.Refusal.TheVariants.{PendingRollbackError, ResourceClosedError}
use Rattle.object_arena.specs.Graph.{either_fault}
use Rattle.session_calls.specs.Parts.{fault_if}
use Rattle.session_acts.specs.Savepoints.{handle_fault}
use Rattle.session_acts.proofs.Savepoints.{fewer_than_scopes}
use Rattle.session_acts.proofs.asking.release_fault.Goals as goal

pub returns-then-is_failed-clause-fault : goal.returns-then-is_failed-clause-fault
returns-then-is_failed-clause-fault c = sym (ap (λ (b : Bool). either_fault (fault_if b PendingRollbackError) (handle_fault c.args.handle c.args.session.now)) (sym c.is_failed.ensures ∙ c.if-is_failed.true))

pub returns-in-None-clause-fault : goal.returns-in-None-clause-fault
returns-in-None-clause-fault c =
    sym
    (ap (λ (b : Bool). either_fault (fault_if b PendingRollbackError) (handle_fault c.args.handle c.args.session.now)) (sym c.is_failed.ensures ∙ c.if-is_failed.false)
    ∙ ap (λ (found : Option ℕ). fault_if (is_none found) ResourceClosedError) (sym c.in-None.ensures.place))

pub returns-in-Some-clause-fault : goal.returns-in-Some-clause-fault
returns-in-Some-clause-fault c =
    sym
    (ap (λ (b : Bool). either_fault (fault_if b PendingRollbackError) (handle_fault c.args.handle c.args.session.now)) (sym c.is_failed.ensures ∙ c.if-is_failed.false)
    ∙ ap (λ (found : Option ℕ). fault_if (is_none found) ResourceClosedError) (sym c.in-Some.ensures.place))

pub returns-in-Some-clause-well : goal.returns-in-Some-clause-well
returns-in-Some-clause-well c = λ none. sym c.is_failed.ensures ∙ c.if-is_failed.false

pub returns-in-Some-clause-inside : goal.returns-in-Some-clause-inside
returns-in-Some-clause-inside c = λ none.
    omega
    (arith, fewer_than_scopes c.args.session.now.failed (length c.args.session.now.frames.scopes) (length c.args.session.now.drawn.handles) c.in-Some._place (sym c.is_failed.ensures ∙ c.if-is_failed.false) c.in-Some.ensures.depth c.in-Some.ensures.inside)

-- with a fault nothing is said
pub returns-then-is_failed-clause-well : goal.returns-then-is_failed-clause-well
returns-then-is_failed-clause-well c = λ none. absurd cc

pub returns-then-is_failed-clause-inside : goal.returns-then-is_failed-clause-inside
returns-then-is_failed-clause-inside c = λ none. absurd cc

pub returns-in-None-clause-well : goal.returns-in-None-clause-well
returns-in-None-clause-well c = λ none. absurd cc

pub returns-in-None-clause-inside : goal.returns-in-None-clause-inside
returns-in-None-clause-inside c = λ none. absurd cc
