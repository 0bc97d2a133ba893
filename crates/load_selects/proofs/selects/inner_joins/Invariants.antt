use Rattle.std.proofs.Common.{◌≡◌, map, take}
use Rattle.load_selects.specs.Selects.{inner_joined}
use Rattle.load_selects.proofs.selects.inner_joins.Given as goal

abbrev pub invariant-loop-source : goal.invariant-loop-source
invariant-loop-source l = l.joins ≡ map inner_joined (take l.source-index l.further)
