use Rattle.std.proofs.Common.{◌≡◌}
use Rattle.session_statements.specs.Rewriting.{reread_of}
use Rattle.session_statements.proofs.Turns.{touched_before}
use Rattle.session_statements.proofs.rereading.touch_each.Given as goal

abbrev pub invariant-loop-number : goal.invariant-loop-number
invariant-loop-number l = (l.frames ≡ touched_before (reread_of l.mapping l.table) l.arena l.number l.fn.frames) × (l.frames.scopes ≡ l.fn.frames.scopes)
