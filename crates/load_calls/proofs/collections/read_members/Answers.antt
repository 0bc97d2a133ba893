use Rattle.std.proofs.Common.{ap, ◌∙◌}
use Rattle.expr_types.specs.declared.select.Select.{Select}
use Rattle.sql_semantics.specs.SelectRefusals.{calculates}
use Rattle.collection_selects.proofs.NoArithmetic.{members_calculate_nothing}
use Rattle.keeper_core.proofs.Sequence.{no_memory, passed_on}
use Rattle.load_rows.specs.Reading.{identity_key}
use Rattle.load_calls.proofs.ReadLemmas.{passed_memory, passed_stays}
use Rattle.load_calls.specs.Refreshing.{CanRefuseCells}
use Rattle.load_calls.proofs.RefusalLemmas.{cells_refused}
use Rattle.load_calls.proofs.CollectionLemmas.{members_read, members_rows}
use Rattle.load_calls.proofs.collections.read_members.Goals as goal

pub returns-in_err-wanted-clause-step : goal.returns-in_err-wanted-clause-step
returns-in_err-wanted-clause-step g c = passed_on c.from_residual.ensures.1 no_memory

pub returns-in_err-wanted-clause-stays : goal.returns-in_err-wanted-clause-stays
returns-in_err-wanted-clause-stays g c = passed_stays (g.K.Keeper.moment c.args.keeper.now) (g.K.Keeper.moment c.args.keeper.now) c.from_residual.result c.from_residual.ensures.1

pub returns-clause-step : goal.returns-clause-step
returns-clause-step g c =
    members_read g.K.Keeper.moment c.args.mapping.now c.args.relation.now c.args.owner c.args.arena.now c.in_ok-wanted.wanted c.in_ok-wanted.ensures.select (c.read-rows.ensures.step c.args.arena.now)

pub returns-clause-rows : goal.returns-clause-rows
returns-clause-rows g c =
    members_rows c.args.mapping.now c.args.relation.now (identity_key c.args.arena.now c.args.owner) c.in_ok-wanted.wanted c.read-rows.result c.read-rows.ensures.configured.hierarchies c.requires.related
    c.in_ok-wanted.ensures.select c.read-rows.ensures.kinds c.read-rows.ensures.given

pub returns-in_err-wanted-clause-refuses : goal.returns-in_err-wanted-clause-refuses
returns-in_err-wanted-clause-refuses g c = passed_memory (CanRefuseCells c.args.mapping.now) c.from_residual.result c.from_residual.ensures.1 tt

pub returns-clause-refuses : goal.returns-clause-refuses
returns-clause-refuses g c =
    cells_refused c.args.mapping.now c.in_ok-wanted.wanted c.read-rows.result
    (ap (λ (s : Select). calculates s) c.in_ok-wanted.ensures.select ∙ members_calculate_nothing c.args.mapping.now c.args.relation.now (identity_key c.args.arena.now c.args.owner)) c.read-rows.ensures.refuses
