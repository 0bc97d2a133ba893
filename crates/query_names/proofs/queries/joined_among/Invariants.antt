use Rattle.std.proofs.Common.{◌≡◌, ◌++◌, drop}
use Rattle.query_names.specs.Queries.{joined_among}
use Rattle.query_names.proofs.queries.joined_among.Given as goal

abbrev pub invariant-loop-option : goal.invariant-loop-option
invariant-loop-option l = l.places ++ joined_among (drop l.option-index l.options) ≡ joined_among l.options
