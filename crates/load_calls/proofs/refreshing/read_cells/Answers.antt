use Rattle.std.proofs.lemmas.Result.{IfOk-weaker}
use Rattle.keeper_core.proofs.Sequence.{no_memory, passed_on}
use Rattle.load_calls.specs.Refreshing.{CanRefuseCells}
use Rattle.load_calls.proofs.ReadLemmas.{passed_memory, passed_stays}
use Rattle.load_calls.proofs.RefreshLemmas.{all_refuse, cells_noted, cells_quiet, cells_read}
use Rattle.load_calls.proofs.refreshing.read_cells.Goals as goal

pub returns-in_err-select-clause-step : goal.returns-in_err-select-clause-step
returns-in_err-select-clause-step g c = passed_on c.from_residual.ensures.1 no_memory

pub returns-in_err-select-clause-stays : goal.returns-in_err-select-clause-stays
returns-in_err-select-clause-stays g c = passed_stays (g.K.Keeper.moment c.args.keeper.now) (g.K.Keeper.moment c.args.keeper.now) c.from_residual.result c.from_residual.ensures.1

pub returns-in_err-select-clause-refuses : goal.returns-in_err-select-clause-refuses
returns-in_err-select-clause-refuses g c = passed_memory (CanRefuseCells c.args.mapping.now) c.from_residual.result c.from_residual.ensures.1 tt

pub returns-clause-step : goal.returns-clause-step
returns-clause-step g c =
    cells_read g.K.Keeper.moment c.args.mapping.now c.args.object c.args.attrs.now c.args.arena.now c.in_ok-select.select c.in_ok-select.ensures.select (c.read-rows.ensures.step c.args.arena.now)

pub returns-clause-cells : goal.returns-clause-cells
returns-clause-cells g c = IfOk-weaker c.read-rows.result _ _ (c.in_ok-select.ensures.cells c.read-rows.ensures.configured) c.read-rows.ensures.kinds

pub returns-clause-refuses : goal.returns-clause-refuses
returns-clause-refuses g c =
    all_refuse c.args.mapping.now c.in_ok-select.select c.read-rows.result (cells_quiet c.args.mapping.now c.args.object c.args.attrs.now c.args.arena.now c.in_ok-select.select c.in_ok-select.ensures.select) c.read-rows.ensures.refuses

pub returns-clause-noted : goal.returns-clause-noted
returns-clause-noted g c =
    cells_noted c.args.mapping.now c.args.object c.args.attrs.now c.args.arena.now c.args.notes.now c.read-rows.new.notes c.in_ok-select.select c.read-rows.result c.in_ok-select.ensures.select c.read-rows.ensures.noted
