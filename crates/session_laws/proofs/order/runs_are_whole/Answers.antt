use Rattle.session_laws.proofs.Plans.RunsWhole.{runs_whole}
use Rattle.session_laws.proofs.order.runs_are_whole.Goals as goal

pub returns : goal.returns
returns c = runs_whole
