use Rattle.session_objects.proofs.TakingLemmas.{marked_differs}
use Rattle.session_objects.proofs.taking.is_marked.Goals as goal

pub returns : goal.returns
returns c = marked_differs c.args.object.now
