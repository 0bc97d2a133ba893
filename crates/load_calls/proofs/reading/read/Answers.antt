use Rattle.std.proofs.Common.{◌∙◌, subst, sym}
use Rattle.schema_core.specs.Catalog.{Catalog}
use Rattle.sql_semantics.specs.Plain.{IsPlainSelect}
use Rattle.expr_typing.specs.ItemShapes.{AreAnswers}
use Rattle.expr_typing.proofs.Items.{rows_answer}
use Rattle.keeper_core.proofs.Lifting.{spoiled}
use Rattle.keeper_core.proofs.Sequence.{passed_on, ran_out}
use Rattle.keeper_core.specs.Keeping.{RefusesSelect}
use Rattle.load_calls.proofs.ReadLemmas.{passed_memory, passed_refusal, passed_stays, passed_still, query_is, read_done, stays_after}
use Rattle.load_calls.proofs.reading.read.Goals as goal

pub query-requires-clause-plain : goal.query-requires-clause-plain
query-requires-clause-plain g c =
    subst (λ (s : Catalog). IsPlainSelect s c.args.select.now) (sym c.schema-schema.ensures.schema) (c.requires.plain c.schema-schema.ensures.configured)

pub returns-in_err-note_select-clause-step : goal.returns-in_err-note_select-clause-step
returns-in_err-note_select-clause-step g c = λ graph. passed_on c.from_residual.ensures.1 (spoiled g.K.Keeper.moment)

pub returns-in_err-note_select-clause-stays : goal.returns-in_err-note_select-clause-stays
returns-in_err-note_select-clause-stays g c = passed_stays (g.K.Keeper.moment c.args.keeper.now) (g.K.Keeper.moment c.args.keeper.now) c.from_residual.result c.from_residual.ensures.1

pub returns-in_err-note_select-clause-refuses : goal.returns-in_err-note_select-clause-refuses
returns-in_err-note_select-clause-refuses g c = passed_memory (RefusesSelect c.args.mapping.now.schema c.args.select.now) c.from_residual.result c.from_residual.ensures.1 (tt, tt)

pub returns-in_err-rows-clause-step : goal.returns-in_err-rows-clause-step
returns-in_err-rows-clause-step g c = λ graph.
    passed_on c.from_residual-in_err-rows.ensures.1
    (read_done g.K.Keeper.moment c.args.mapping.now.schema c.args.select.now graph c.in_ok-note_select.ensures
    (query_is g.K.Keeper.moment c.schema-schema.result.now c.args.mapping.now.schema c.args.select.now c.schema-schema.ensures.schema c.in_err-rows.ensures.call))

pub returns-in_err-rows-clause-stays : goal.returns-in_err-rows-clause-stays
returns-in_err-rows-clause-stays g c =
    passed_still (g.K.Keeper.moment c.args.keeper.now) (g.K.Keeper.moment c.query.new.keeper) _ c.from_residual-in_err-rows.result c.from_residual-in_err-rows.ensures.1
    (stays_after g.K.Keeper.moment c.schema-schema.result.now c.args.select.now c.args.keeper.now c.query.new.keeper _ c.requires.ready c.in_err-rows.ensures.call)

pub returns-in_err-rows-clause-refuses : goal.returns-in_err-rows-clause-refuses
returns-in_err-rows-clause-refuses g c =
    passed_refusal (RefusesSelect c.args.mapping.now.schema c.args.select.now) _ c.from_residual-in_err-rows.result c.from_residual-in_err-rows.ensures.1
    (query_is g.K.Keeper.moment c.schema-schema.result.now c.args.mapping.now.schema c.args.select.now c.schema-schema.ensures.schema c.in_err-rows.ensures.call).refuses

pub returns-in_err-fit-clause-step : goal.returns-in_err-fit-clause-step
returns-in_err-fit-clause-step g c = λ graph.
    passed_on c.from_residual-in_err-fit.ensures.1
    (ran_out (read_done g.K.Keeper.moment c.args.mapping.now.schema c.args.select.now graph c.in_ok-note_select.ensures
    (query_is g.K.Keeper.moment c.schema-schema.result.now c.args.mapping.now.schema c.args.select.now c.schema-schema.ensures.schema c.in_ok-rows.ensures.call)))

pub returns-in_err-fit-clause-stays : goal.returns-in_err-fit-clause-stays
returns-in_err-fit-clause-stays g c = passed_stays (g.K.Keeper.moment c.args.keeper.now) (g.K.Keeper.moment c.query.new.keeper) c.from_residual-in_err-fit.result c.from_residual-in_err-fit.ensures.1

pub returns-in_err-fit-clause-refuses : goal.returns-in_err-fit-clause-refuses
returns-in_err-fit-clause-refuses g c = passed_memory (RefusesSelect c.args.mapping.now.schema c.args.select.now) c.from_residual-in_err-fit.result c.from_residual-in_err-fit.ensures.1 (tt, tt)

pub returns-then-not-fit-clause-step : goal.returns-then-not-fit-clause-step
returns-then-not-fit-clause-step g c = λ graph.
    ran_out (read_done g.K.Keeper.moment c.args.mapping.now.schema c.args.select.now graph c.in_ok-note_select.ensures
    (query_is g.K.Keeper.moment c.schema-schema.result.now c.args.mapping.now.schema c.args.select.now c.schema-schema.ensures.schema c.in_ok-rows.ensures.call))

pub returns-clause-step : goal.returns-clause-step
returns-clause-step g c = λ graph.
    read_done g.K.Keeper.moment c.args.mapping.now.schema c.args.select.now graph c.in_ok-note_select.ensures
    (query_is g.K.Keeper.moment c.schema-schema.result.now c.args.mapping.now.schema c.args.select.now c.schema-schema.ensures.schema c.in_ok-rows.ensures.call)

pub returns-clause-stays : goal.returns-clause-stays
returns-clause-stays g c = stays_after g.K.Keeper.moment c.schema-schema.result.now c.args.select.now c.args.keeper.now c.query.new.keeper _ c.requires.ready c.in_ok-rows.ensures.call

pub returns-clause-kinds : goal.returns-clause-kinds
returns-clause-kinds g c =
    (subst (λ (s : Catalog). AreAnswers s c.args.select.now c.in_ok-rows.rows) c.schema-schema.ensures.schema
    (subst (AreAnswers c.schema-schema.result.now c.args.select.now) c.as_slice.ensures
    (rows_answer c.schema-schema.result.now c.args.select.now c.as_slice.result.now (sym c.in_ok-fit.ensures ∙ c.if-not-fit.false)))).1

pub returns-clause-given : goal.returns-clause-given
returns-clause-given g c =
    (subst (λ (s : Catalog). AreAnswers s c.args.select.now c.in_ok-rows.rows) c.schema-schema.ensures.schema
    (subst (AreAnswers c.schema-schema.result.now c.args.select.now) c.as_slice.ensures
    (rows_answer c.schema-schema.result.now c.args.select.now c.as_slice.result.now (sym c.in_ok-fit.ensures ∙ c.if-not-fit.false)))).2
