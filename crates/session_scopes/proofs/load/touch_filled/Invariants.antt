use Rattle.std.proofs.Common.{◌≡◌, drop}
use Rattle.session_scopes.specs.Loads.{frames_filled}
use Rattle.session_scopes.proofs.load.touch_filled.Given as goal

abbrev pub invariant-loop-note : goal.invariant-loop-note
invariant-loop-note l =
    (frames_filled l.arena l.notes l.fn.frames ≡ frames_filled l.arena (drop l.note-index l.notes) l.frames)
    × (l.frames.scopes ≡ l.fn.frames.scopes)
