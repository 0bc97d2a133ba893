use Rattle.std.proofs.Common.{arith}
use Rattle.sqla_shell.proofs.EndLemmas.{not_rolled_back, rests_call, rests_same, rolled_back}
use Rattle.sqla_shell.proofs.running.roll_back.Goals as goal

-- src/running.rt:120:1
pub returns-then-depth-gt0-clause-undone : goal.returns-then-depth-gt0-clause-undone
returns-then-depth-gt0-clause-undone g c = rolled_back g.K.Keeper.moment c.args.keeper.now c.rollback-rolled_back.new.self c.rollback-rolled_back.result (g.met.K.Keeper.coherent c.args.keeper.now) c.rollback-rolled_back.ensures.step

-- src/running.rt:120:1
pub returns-else-depth-gt0-clause-undone : goal.returns-else-depth-gt0-clause-undone
returns-else-depth-gt0-clause-undone g c = not_rolled_back (g.K.Keeper.moment c.args.keeper.now).told

pub returns-then-depth-gt0-clause-rests : goal.returns-then-depth-gt0-clause-rests
returns-then-depth-gt0-clause-rests g c = rests_call c.rollback-rolled_back.ensures

pub returns-else-depth-gt0-clause-rests : goal.returns-else-depth-gt0-clause-rests
returns-else-depth-gt0-clause-rests g c = rests_same (omega (arith, c.depth.ensures, c.if-depth-gt0.false))
