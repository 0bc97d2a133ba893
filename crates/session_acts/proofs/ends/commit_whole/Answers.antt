use Rattle.std.proofs.Common.{length, arith}
use Rattle.session_calls.proofs.Joining.{passed_call}
use Rattle.session_acts.proofs.Savepoints.{commits_whole, commits_whole_not, one_fewer}
use Rattle.session_acts.proofs.ends.commit_whole.Goals as goal

pub release_many-requires : goal.release_many-requires
release_many-requires g c =
    let fits = one_fewer c.args.session.now.failed (length c.args.session.now.frames.scopes) (length c.args.session.now.drawn.handles) c.requires.well c.savepoints-count.ensures.depth c.requires.inside in
    record { in_step = c.requires.in_step; count = omega (arith, fits, c.savepoints-count.ensures.count); well = c.requires.well }

pub returns-in_err-release_many-clause-call : goal.returns-in_err-release_many-clause-call
returns-in_err-release_many-clause-call g c =
    passed_call c.from_residual.ensures.1 (commits_whole_not g.K.Keeper.moment c.savepoints-count.result c.savepoints-count.ensures.count c.in_err-release_many.ensures.call)

pub commit_transaction-requires : goal.commit_transaction-requires
commit_transaction-requires g c =
    let fits = one_fewer c.args.session.now.failed (length c.args.session.now.frames.scopes) (length c.args.session.now.drawn.handles) c.requires.well c.savepoints-count.ensures.depth c.requires.inside in
    record {
      in_step = c.in_ok-release_many.ensures.call.kept.in_step;
      inside = omega (arith, fits, c.savepoints-count.ensures.count, c.in_ok-release_many.ensures.fewer);
      well = c.in_ok-release_many.ensures.well;
    }

pub returns-clause-call : goal.returns-clause-call
returns-clause-call g c =
    commits_whole g.K.Keeper.moment c.savepoints-count.result c.savepoints-count.ensures.count c.in_ok-release_many.ensures.call c.commit_transaction.ensures.call
