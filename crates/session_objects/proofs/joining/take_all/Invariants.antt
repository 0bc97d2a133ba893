use Rattle.std.proofs.Common.{◌≡◌, drop}
use Rattle.session_scopes.specs.SessionState.{SameObjects}
use Rattle.session_objects.specs.Taking.{MayJoin, session_joined}
use Rattle.session_objects.proofs.joining.take_all.Given as goal

abbrev pub invariant-loop-object : goal.invariant-loop-object
invariant-loop-object l =
    MayJoin l.session (drop l.object-index l.objects)
    × (session_joined (drop l.object-index l.objects) l.session ≡ session_joined l.objects l.fn.session)
    × SameObjects l.fn.session l.session
    × (l.session.frames.scopes ≡ l.fn.session.frames.scopes)
