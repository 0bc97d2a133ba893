use Rattle.std.proofs.Common.{◌≡◌, refl, ap, sym, ◌∙◌}
use Rattle.class_mapping.specs.Mapped.{Mapped}
use Rattle.flush_plan.specs.Flushing.{statement_sent}
use Rattle.schema_core.specs.Catalog.{Catalog}
use Rattle.session_calls.proofs.Joining.{passed_call}
use Rattle.plan_statements.specs.Known.{is_sendable, keys_at}
use Rattle.session_statements.proofs.Noted.{no_room_call}
use Rattle.session_statements.proofs.OneStatement.{none_if, some_if, some_same, unfit}
use Rattle.session_statements.proofs.run.send_one.Goals as goal

pub returns-in_err-fitting_statement-clause-call : goal.returns-in_err-fitting_statement-clause-call
returns-in_err-fitting_statement-clause-call g c = λ keys are.
    passed_call c.from_residual.ensures.1 (no_room_call g.K.Keeper.moment refl refl)

pub returns-in-None-clause-call : goal.returns-in-None-clause-call
returns-in-None-clause-call g c = λ keys are.
    let same : c.schema-schema.result.now ≡ c.args.session.now.mapping.schema = c.schema-schema.ensures.schema ∙ ap (λ (m : Mapped). m.schema) c.mapping.ensures in
    unfit g.K.Keeper.moment c.args.session.now.mapping.schema c.args.changes.now c.args.planned.now keys c.args.known.now are
    (ap (λ (s : Catalog). is_sendable s c.args.changes.now (keys_at c.args.known.now) c.args.planned.now) (sym same)
    ∙ none_if (is_sendable c.schema-schema.result.now c.args.changes.now (keys_at c.args.known.now) c.args.planned.now) (statement_sent c.schema-schema.result.now c.args.changes.now (keys_at c.args.known.now) c.args.planned.now)
    (sym c.in-None.is ∙ c.in_ok-fitting_statement.ensures.found))
    c.requires.in_step

pub returns-in-Some-clause-call : goal.returns-in-Some-clause-call
returns-in-Some-clause-call g c = λ keys are.
    let same : c.schema-schema.result.now ≡ c.args.session.now.mapping.schema = c.schema-schema.ensures.schema ∙ ap (λ (m : Mapped). m.schema) c.mapping.ensures in
    c.send_fitting.ensures.call c.args.changes.now keys c.args.known.now c.requires.places are
    (ap (λ (s : Catalog). is_sendable s c.args.changes.now (keys_at c.args.known.now) c.args.planned.now) (sym same)
    ∙ some_if (is_sendable c.schema-schema.result.now c.args.changes.now (keys_at c.args.known.now) c.args.planned.now) c.in-Some.statement (statement_sent c.schema-schema.result.now c.args.changes.now (keys_at c.args.known.now) c.args.planned.now)
    (sym c.in-Some.is ∙ c.in_ok-fitting_statement.ensures.found))
    (some_same (is_sendable c.schema-schema.result.now c.args.changes.now (keys_at c.args.known.now) c.args.planned.now) c.in-Some.statement (statement_sent c.schema-schema.result.now c.args.changes.now (keys_at c.args.known.now) c.args.planned.now)
    (sym c.in-Some.is ∙ c.in_ok-fitting_statement.ensures.found)
    ∙ ap (λ (s : Catalog). statement_sent s c.args.changes.now (keys_at c.args.known.now) c.args.planned.now) same)

pub returns-in-Some-clause-cause : goal.returns-in-Some-clause-cause
returns-in-Some-clause-cause g c =
    let same : c.schema-schema.result.now ≡ c.args.session.now.mapping.schema = c.schema-schema.ensures.schema ∙ ap (λ (m : Mapped). m.schema) c.mapping.ensures in
    c.send_fitting.ensures.cause c.args.changes.now c.args.known.now c.requires.places
    (ap (λ (s : Catalog). is_sendable s c.args.changes.now (keys_at c.args.known.now) c.args.planned.now) (sym same)
    ∙ some_if (is_sendable c.schema-schema.result.now c.args.changes.now (keys_at c.args.known.now) c.args.planned.now) c.in-Some.statement (statement_sent c.schema-schema.result.now c.args.changes.now (keys_at c.args.known.now) c.args.planned.now)
    (sym c.in-Some.is ∙ c.in_ok-fitting_statement.ensures.found))
    (some_same (is_sendable c.schema-schema.result.now c.args.changes.now (keys_at c.args.known.now) c.args.planned.now) c.in-Some.statement (statement_sent c.schema-schema.result.now c.args.changes.now (keys_at c.args.known.now) c.args.planned.now)
    (sym c.in-Some.is ∙ c.in_ok-fitting_statement.ensures.found)
    ∙ ap (λ (s : Catalog). statement_sent s c.args.changes.now (keys_at c.args.known.now) c.args.planned.now) same)
