use Rattle.std.proofs.Common.{◌≡◌, take}
use Rattle.sql_text.proofs.bases.Bases.copied.Given as goal

abbrev pub invariant-loop-base : goal.invariant-loop-base
invariant-loop-base l = l.copy ≡ take l.base-index l.base-items
