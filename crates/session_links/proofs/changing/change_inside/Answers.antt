use Rattle.session_calls.proofs.Joining.{same_itself}
use Rattle.session_links.specs.Linking.{session_changed}
use Rattle.session_links.proofs.Acting.{no_change_done}
use Rattle.session_links.proofs.changing.change_inside.Goals as goal

pub returns-in_err-change-clause-done : goal.returns-in_err-change-clause-done
returns-in_err-change-clause-done c =
    no_change_done c.args.session.now c.args.owner c.args.relation c.args.call (session_changed c.args.owner c.args.relation c.args.call c.args.session.now) _ c.from_residual.result c.in_err-change.ensures.change c.from_residual.ensures.1

pub returns-in_err-change-clause-same : goal.returns-in_err-change-clause-same
returns-in_err-change-clause-same c = same_itself c.args.session.now
