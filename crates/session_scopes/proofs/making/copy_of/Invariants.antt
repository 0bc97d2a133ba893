use Rattle.std.proofs.Common.{◌≡◌, take}
use Rattle.session_scopes.proofs.making.copy_of.Given as goal

abbrev pub invariant-loop-attr : goal.invariant-loop-attr
invariant-loop-attr l = l.copy.items ≡ take l.attr-index l.given
