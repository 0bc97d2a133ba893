use Rattle.std.proofs.Common.{ap, subst, List, ◌∙◌}
use Rattle.base_core.specs.declared.value.Value.{Value}
use Rattle.expr_types.specs.declared.select.Select.{Select}
use Rattle.sql_semantics.specs.SelectRefusals.{calculates}
use Rattle.collection_selects.proofs.NoArithmetic.{key_calculates_nothing}
use Rattle.keeper_core.proofs.Sequence.{no_memory, passed_on}
use Rattle.keeper_core.specs.Beside.{moment_beside}
use Rattle.keeper_core.specs.Moment.{Runs}
use Rattle.load_rows.specs.Loading.{loading}
use Rattle.load_calls.specs.Reading.{read}
use Rattle.load_calls.proofs.ReadLemmas.{passed_memory, passed_stays}
use Rattle.load_calls.specs.Refreshing.{CanRefuseCells}
use Rattle.load_calls.proofs.RefusalLemmas.{cells_refused}
use Rattle.load_targets.proofs.EndLemmas.{key_plain, key_rows}
use Rattle.load_targets.proofs.ends.read_key.Goals as goal

pub read-rows-requires-clause-plain : goal.read-rows-requires-clause-plain
read-rows-requires-clause-plain g c = λ configured. key_plain c.args.mapping.now c.args.class c.args.key.now c.in_ok-wanted.wanted configured.hierarchies c.requires.class c.requires.key c.in_ok-wanted.ensures

pub returns-in_err-wanted-clause-step : goal.returns-in_err-wanted-clause-step
returns-in_err-wanted-clause-step g c = λ graph. passed_on c.from_residual.ensures.1 no_memory

pub returns-in_err-wanted-clause-stays : goal.returns-in_err-wanted-clause-stays
returns-in_err-wanted-clause-stays g c = passed_stays (g.K.Keeper.moment c.args.keeper.now) (g.K.Keeper.moment c.args.keeper.now) c.from_residual.result c.from_residual.ensures.1

pub returns-clause-step : goal.returns-clause-step
returns-clause-step g c = λ graph.
    subst (λ (s : Select). Runs (moment_beside g.K.Keeper.moment) (λ (rows : List (List Value)). rows) (read c.args.mapping.now.schema s) (loading graph c.args.notes.now, c.args.keeper.now) c.read-rows.result (loading graph c.read-rows.new.notes, c.read-rows.new.keeper))
    c.in_ok-wanted.ensures (c.read-rows.ensures.step graph)

pub returns-clause-rows : goal.returns-clause-rows
returns-clause-rows g c =
    key_rows c.args.mapping.now c.args.class c.args.key.now c.in_ok-wanted.wanted c.read-rows.result c.read-rows.ensures.configured.hierarchies c.requires.class c.in_ok-wanted.ensures c.read-rows.ensures.kinds c.read-rows.ensures.given

pub returns-in_err-wanted-clause-refuses : goal.returns-in_err-wanted-clause-refuses
returns-in_err-wanted-clause-refuses g c = passed_memory (CanRefuseCells c.args.mapping.now) c.from_residual.result c.from_residual.ensures.1 tt

pub returns-clause-refuses : goal.returns-clause-refuses
returns-clause-refuses g c =
    cells_refused c.args.mapping.now c.in_ok-wanted.wanted c.read-rows.result
    (ap (λ (s : Select). calculates s) c.in_ok-wanted.ensures ∙ key_calculates_nothing c.args.mapping.now c.args.class c.args.key.now) c.read-rows.ensures.refuses
