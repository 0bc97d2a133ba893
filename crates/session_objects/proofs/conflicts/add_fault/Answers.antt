use Rattle.session_objects.proofs.JoiningLemmas.{may_join}
use Rattle.session_objects.proofs.conflicts.add_fault.Goals as goal

pub returns-clause-free : goal.returns-clause-free
returns-clause-free c = λ none. may_join c.args.objects.now c.args.session.now c.conflict_fault.ensures.graph.rooted (c.conflict_fault.ensures.free none)
