use Rattle.std.proofs.Common.{◌≡◌, drop}
use Rattle.std.specs.List.{All}
use Rattle.object_arena.specs.Graph.{IsObject}
use Rattle.session_scopes.specs.SessionState.{SameObjects}
use Rattle.session_objects.specs.Leaving.{all_expunged}
use Rattle.session_objects.proofs.leaving.expunge_all.Given as goal

abbrev pub invariant-loop-object : goal.invariant-loop-object
invariant-loop-object l =
    All (IsObject l.session.graph) l.objects
    × (all_expunged (drop l.object-index l.objects) l.session ≡ all_expunged l.objects l.fn.session)
    × SameObjects l.fn.session l.session
    × (l.session.frames.scopes ≡ l.fn.session.frames.scopes)
