use Rattle.std.proofs.Common.{◌∙◌}
use Rattle.session_objects.proofs.LeavingLemmas.{leaving_differs}
use Rattle.session_objects.proofs.leaving.comes_to_differ.Goals as goal

pub returns : goal.returns
returns c = c.is_inside.ensures ∙ leaving_differs c.args.object.now
