use Rattle.std.proofs.Common.{ap, ◌∙◌}
use Rattle.expr_types.specs.declared.select.Select.{Select}
use Rattle.sql_semantics.specs.SelectRefusals.{calculates}
use Rattle.collection_selects.proofs.NoArithmetic.{targets_calculate_nothing}
use Rattle.keeper_core.proofs.Sequence.{no_memory, passed_on}
use Rattle.load_calls.proofs.ReadLemmas.{passed_memory, passed_stays}
use Rattle.load_calls.specs.Refreshing.{CanRefuseCells}
use Rattle.load_calls.proofs.RefusalLemmas.{cells_refused}
use Rattle.load_ends.proofs.ReadSteps.{keys_plain, keys_read, keys_rows}
use Rattle.load_ends.proofs.reading.read_keys.Goals as goal

pub read-requires-clause-plain : goal.read-requires-clause-plain
read-requires-clause-plain g c = λ configured. keys_plain c.args.mapping.now c.args.class c.args.keys.now c.in_ok-wanted.wanted configured.hierarchies c.requires.class c.requires.some c.requires.keys c.in_ok-wanted.ensures

pub returns-in_err-wanted-clause-step : goal.returns-in_err-wanted-clause-step
returns-in_err-wanted-clause-step g c = λ graph. passed_on c.from_residual.ensures.1 no_memory

pub returns-in_err-wanted-clause-stays : goal.returns-in_err-wanted-clause-stays
returns-in_err-wanted-clause-stays g c = passed_stays (g.K.Keeper.moment c.args.keeper.now) (g.K.Keeper.moment c.args.keeper.now) c.from_residual.result c.from_residual.ensures.1

pub returns-in_err-wanted-clause-refuses : goal.returns-in_err-wanted-clause-refuses
returns-in_err-wanted-clause-refuses g c = passed_memory (CanRefuseCells c.args.mapping.now) c.from_residual.result c.from_residual.ensures.1 tt

pub returns-clause-step : goal.returns-clause-step
returns-clause-step g c = λ graph.
    keys_read g.K.Keeper.moment c.args.mapping.now c.args.class c.args.keys.now graph c.in_ok-wanted.wanted c.in_ok-wanted.ensures (c.read.ensures.step graph)

pub returns-clause-rows : goal.returns-clause-rows
returns-clause-rows g c =
    keys_rows c.args.mapping.now c.args.class c.args.keys.now c.in_ok-wanted.wanted c.read.result c.read.ensures.configured.hierarchies c.requires.class c.in_ok-wanted.ensures c.read.ensures.kinds c.read.ensures.given

pub returns-clause-refuses : goal.returns-clause-refuses
returns-clause-refuses g c =
    cells_refused c.args.mapping.now c.in_ok-wanted.wanted c.read.result
    (ap (λ (s : Select). calculates s) c.in_ok-wanted.ensures ∙ targets_calculate_nothing c.args.mapping.now c.args.class c.args.keys.now) c.read.ensures.refuses
