use Rattle.std.proofs.Common.{rules}
use Rattle.load_queries.proofs.GivenSteps.{given_left}
use Rattle.load_queries.proofs.given.given_by_rows.Goals as goal

pub loop-one-preserved : goal.loop-one-preserved
loop-one-preserved c =
    given_left c.loop-one.given c.add_given.new.given c.args.number c.args.taken.now c.loop-one.one-index _ c.loop-one-test.true (search rules) c.in_ok-add_given.ensures c.loop-one.invariant
