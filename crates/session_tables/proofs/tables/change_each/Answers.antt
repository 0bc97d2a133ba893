use Rattle.std.proofs.Common.{◌≡◌, true, refl, rules}
use Rattle.keeper_core.specs.Programs.{ends_early}
use Rattle.keeper_core.proofs.Sequence.{reaches_start, unit_end, unit_err, unit_turn}
use Rattle.session_scopes.proofs.SessionLemmas.{goes_more}
use Rattle.session_calls.proofs.Joining.{goes_alike, passed_call}
use Rattle.session_calls.proofs.Refusing.{passed_on}
use Rattle.session_tables.specs.Steps.{change_one}
use Rattle.session_tables.proofs.Changing.{alike_more}
use Rattle.session_tables.proofs.tables.change_each.Goals as goal

pub returns-in_err-change_one-clause-call : goal.returns-in_err-change_one-clause-call
returns-in_err-change_one-clause-call g c =
    passed_call c.from_residual.ensures.1
    (record {
      step = unit_err (change_one c.args.change) c.args.order.now c.loop-table.table-index c.loop-table.invariant.0 c.loop-table-test.true (search rules) c.in_err-change_one.ensures.call.step;
      kept = record {
        same = goes_more (goes_alike c.args.session.now c.loop-table.session c.loop-table.invariant.1) c.in_err-change_one.ensures.call.kept.same;
        in_step = c.in_err-change_one.ensures.call.kept.in_step;
      };
    })

pub loop-table-init : goal.loop-table-init
loop-table-init g c = (reaches_start, refl, c.requires.in_step)

pub loop-table-preserved : goal.loop-table-preserved
loop-table-preserved g c = (
  unit_turn (change_one c.args.change) c.args.order.now c.loop-table.table-index c.loop-table.invariant.0 c.loop-table-test.true (search rules) c.in_ok-change_one.ensures.call.step,
  alike_more c.args.session.now c.loop-table.session c.change_one.new.session c.loop-table.invariant.1 c.in_ok-change_one.ensures.alike,
  c.in_ok-change_one.ensures.call.kept.in_step,
)

pub returns-clause-call : goal.returns-clause-call
returns-clause-call g c = record {
  step = unit_end (change_one c.args.change) c.args.order.now c.loop-table.table-index c.loop-table.invariant.0 c.loop-table-test.false;
  kept = record {
    same = goes_alike c.args.session.now c.loop-table.session c.loop-table.invariant.1;
    in_step = c.loop-table.invariant.2;
  };
}

pub returns-in_err-change_one-clause-alike : goal.returns-in_err-change_one-clause-alike
returns-in_err-change_one-clause-alike g c = alike_more c.args.session.now c.loop-table.session c.change_one.new.session c.loop-table.invariant.1 c.in_err-change_one.ensures.alike

pub returns-in_err-change_one-clause-stops : goal.returns-in_err-change_one-clause-stops
returns-in_err-change_one-clause-stops g c = passed_on (λ e. ends_early e ≡ true) c.from_residual.result c.from_residual.ensures.1 c.in_err-change_one.ensures.stops

pub returns-clause-alike : goal.returns-clause-alike
returns-clause-alike g c = c.loop-table.invariant.1
