use Rattle.std.proofs.Common.{◌≡◌, ◌++◌, drop}
use Rattle.query_names.specs.Queries.{selectin_among}
use Rattle.query_names.proofs.queries.selectin_among.Given as goal

abbrev pub invariant-loop-option : goal.invariant-loop-option
invariant-loop-option l = l.places ++ selectin_among (drop l.option-index l.options) ≡ selectin_among l.options
