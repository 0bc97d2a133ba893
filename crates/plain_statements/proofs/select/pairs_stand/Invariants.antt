use Rattle.std.proofs.Common.{◌≡◌, drop}
use Rattle.std.specs.List.{list_all}
use Rattle.plain_statements.specs.Tested.{stands}
use Rattle.plain_statements.proofs.select.pairs_stand.Given as goal

abbrev pub invariant-loop-pair : goal.invariant-loop-pair
invariant-loop-pair g l =
    list_all (λ pair. stands l.schema l.around.tables.items l.around.names.items pair.0) (drop l.pair-index l.pairs)
    ≡ list_all (λ pair. stands l.schema l.around.tables.items l.around.names.items pair.0) l.pairs
