use Rattle.std.proofs.Common.{◌≡◌, drop}
use Rattle.std.specs.List.{list_any}
use Rattle.session_objects.specs.Conflicts.{has_same_identity}
use Rattle.session_objects.proofs.conflicts.is_shared.Given as goal

abbrev pub invariant-loop-other : goal.invariant-loop-other
invariant-loop-other l = list_any (has_same_identity l.arena l.object l.key) (drop l.other-index l.objects) ≡ list_any (has_same_identity l.arena l.object l.key) l.objects
