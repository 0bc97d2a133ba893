-- A key that was taken out tells it; where the foreign key refers to another table, none was.
use Rattle.std.proofs.Common.{◌≡◌, Bool, false, IfOk, subst, sym, ◌∙◌}
use Rattle.std.specs.List.{list_any}
use Rattle.table_rows.specs.Rows.{rows_present, tables_present}
use Rattle.row_judging.specs.declared.losing.Before.{Before}
use Rattle.row_judging.specs.Lost.{is_lost}
use Rattle.row_judging.proofs.LostSteps.{lost_by_key, lost_by_keys, lost_elsewhere, lost_nowhere}
use Rattle.row_judging.proofs.losing.foreign_lost.Goals as goal

pub returns-then-not-refers_to : goal.returns-then-not-refers_to
returns-then-not-refers_to c =
    subst (λ (was : Before). false ≡ list_any (λ row. is_lost c.args.schema.now was (tables_present c.args.left.now) c.args.spec.now row.1 c.args.foreign.now) (rows_present c.args.rows.now)) (sym c.in-Row.is)
    (lost_elsewhere c.args.schema.now c.in-Row.table c.in-Row.key (tables_present c.args.left.now) c.args.spec.now c.args.foreign.now (rows_present c.args.rows.now) (sym c.refers_to.ensures ∙ c.if-not-refers_to.true))

pub returns-then-not-refers_to-2 : goal.returns-then-not-refers_to-2
returns-then-not-refers_to-2 c =
    subst (λ (was : Before). false ≡ list_any (λ row. is_lost c.args.schema.now was (tables_present c.args.left.now) c.args.spec.now row.1 c.args.foreign.now) (rows_present c.args.rows.now)) (sym c.in-Rows.is)
    (lost_nowhere c.args.schema.now c.in-Rows.table c.in-Rows.taken (tables_present c.args.left.now) c.args.spec.now c.args.foreign.now (rows_present c.args.rows.now) (sym c.refers_to-in-Rows.ensures ∙ c.if-not-refers_to-2.true))

pub returns-else-not-refers_to : goal.returns-else-not-refers_to
returns-else-not-refers_to c =
    subst (λ (was : Before). IfOk c.key_lost.result (λ yes. yes ≡ list_any (λ row. is_lost c.args.schema.now was (tables_present c.args.left.now) c.args.spec.now row.1 c.args.foreign.now) (rows_present c.args.rows.now))) (sym c.in-Row.is)
    (subst (λ (b : Bool). IfOk c.key_lost.result (λ yes. yes ≡ b)) (lost_by_key c.args.schema.now c.in-Row.table c.in-Row.key (tables_present c.args.left.now) c.args.spec.now c.args.foreign.now (rows_present c.args.rows.now) (sym c.refers_to.ensures ∙ c.if-not-refers_to.false)) c.key_lost.ensures)

pub returns-else-not-refers_to-2 : goal.returns-else-not-refers_to-2
returns-else-not-refers_to-2 c =
    subst (λ (was : Before). IfOk c.some_key_lost.result (λ yes. yes ≡ list_any (λ row. is_lost c.args.schema.now was (tables_present c.args.left.now) c.args.spec.now row.1 c.args.foreign.now) (rows_present c.args.rows.now))) (sym c.in-Rows.is)
    (subst (λ (b : Bool). IfOk c.some_key_lost.result (λ yes. yes ≡ b)) (lost_by_keys c.args.schema.now c.in-Rows.table c.in-Rows.taken (tables_present c.args.left.now) c.args.spec.now c.args.foreign.now (rows_present c.args.rows.now) (sym c.refers_to-in-Rows.ensures ∙ c.if-not-refers_to-2.false)) c.some_key_lost.ensures)
