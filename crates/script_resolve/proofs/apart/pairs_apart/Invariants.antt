use Rattle.std.proofs.Common.{◌≡◌, drop}
use Rattle.std.specs.List.{list_all}
use Rattle.sql_semantics.specs.Plain.{names_apart}
use Rattle.script_resolve.proofs.apart.pairs_apart.Given as goal

abbrev pub invariant-loop-pair : goal.invariant-loop-pair
invariant-loop-pair g l = list_all (λ pair. names_apart l.schema pair.0 l.names) (drop l.pair-index l.pairs) ≡ list_all (λ pair. names_apart l.schema pair.0 l.names) l.pairs
