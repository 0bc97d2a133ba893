use Rattle.std.proofs.Common.{◌≡◌, length}
use Rattle.object_arena.specs.Fit.{Keeps}
use Rattle.object_arena.proofs.TurnLemmas.{changed_before}
use Rattle.session_statements.specs.Rewriting.{reread_of}
use Rattle.session_statements.proofs.rereading.expire_each.Given as goal

abbrev pub invariant-loop-number : goal.invariant-loop-number
invariant-loop-number l =
    (l.arena ≡ changed_before (reread_of l.mapping l.table) l.fn.arena l.number) × (length l.arena.objects ≡ length l.fn.arena.objects) × Keeps l.fn.arena l.arena
