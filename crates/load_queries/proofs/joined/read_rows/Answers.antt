use Rattle.std.proofs.Common.{IfErr, subst, sym}
use Rattle.expr_types.specs.declared.select.Select.{Select}
use Rattle.sql_semantics.specs.Plain.{IsPlainSelect}
use Rattle.main_selects.specs.MainSelect.{main_select}
use Rattle.keeper_core.proofs.Sequence.{no_memory, passed_on}
use Rattle.load_calls.proofs.ReadLemmas.{passed_memory, passed_stays}
use Rattle.load_calls.specs.Refusals.{CanRefuseSelect}
use Rattle.load_calls.proofs.RefusalLemmas.{select_refused}
use Rattle.load_queries.proofs.AnswerSteps.{main_read, related_told, rows_told}
use Rattle.load_queries.proofs.joined.read_rows.Goals as goal

pub returns-in_err-wanted-clause-step : goal.returns-in_err-wanted-clause-step
returns-in_err-wanted-clause-step g c = λ graph. passed_on c.from_residual.ensures.1 no_memory

pub returns-in_err-wanted-clause-stays : goal.returns-in_err-wanted-clause-stays
returns-in_err-wanted-clause-stays g c = passed_stays (g.K.Keeper.moment c.args.keeper.now) (g.K.Keeper.moment c.args.keeper.now) c.from_residual.result c.from_residual.ensures.1

pub returns-in_err-wanted-clause-refuses : goal.returns-in_err-wanted-clause-refuses
returns-in_err-wanted-clause-refuses g c = passed_memory (CanRefuseSelect c.args.mapping.now (main_select c.args.mapping.now c.args.query.now)) c.from_residual.result c.from_residual.ensures.1 tt

pub read-requires-clause-plain : goal.read-requires-clause-plain
read-requires-clause-plain g c = λ configured. subst (IsPlainSelect c.args.mapping.now.schema) (sym c.in_ok-wanted.ensures) c.requires.plain

pub returns-clause-related : goal.returns-clause-related
returns-clause-related g c = related_told c.args.mapping.now c.read.result c.read.ensures.configured.related

pub returns-clause-step : goal.returns-clause-step
returns-clause-step g c = λ graph. main_read g.K.Keeper.moment c.args.mapping.now c.args.query.now c.in_ok-wanted.wanted graph c.in_ok-wanted.ensures (c.read.ensures.step graph)

pub returns-clause-rows : goal.returns-clause-rows
returns-clause-rows g c =
    rows_told c.args.mapping.now c.args.query.now c.in_ok-wanted.wanted c.read.result c.in_ok-wanted.ensures
    (λ rows kinds given. c.rows_have_parts.ensures c.args.mapping.now c.args.query.now c.requires.reads.more rows c.read.ensures.configured.hierarchies c.read.ensures.configured.related
    c.requires.class c.requires.options c.requires.reads.items c.requires.reads.sources kinds given)
    c.read.ensures.kinds c.read.ensures.given

pub returns-clause-refuses : goal.returns-clause-refuses
returns-clause-refuses g c =
    subst (λ (s : Select). IfErr c.read.result (CanRefuseSelect c.args.mapping.now s)) c.in_ok-wanted.ensures (select_refused c.args.mapping.now c.in_ok-wanted.wanted c.read.result c.read.ensures.refuses)
