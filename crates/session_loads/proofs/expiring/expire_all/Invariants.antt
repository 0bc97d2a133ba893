use Rattle.std.proofs.Common.{◌≡◌, drop}
use Rattle.std.specs.List.{All}
use Rattle.object_arena.specs.Graph.{IsObject}
use Rattle.session_scopes.specs.SessionState.{SameObjects}
use Rattle.session_loads.specs.Expiring.{all_expired}
use Rattle.session_loads.proofs.expiring.expire_all.Given as goal

abbrev pub invariant-loop-object : goal.invariant-loop-object
invariant-loop-object l =
    All (IsObject l.session.graph) l.objects
    × (all_expired (drop l.object-index l.objects) l.session ≡ all_expired l.objects l.fn.session)
    × SameObjects l.fn.session l.session
    × (l.session.frames.scopes ≡ l.fn.session.frames.scopes)
