use Rattle.std.proofs.Common.{◌≡◌, drop}
use Rattle.std.specs.List.{list_all}
use Rattle.sql_semantics.specs.Plain.{is_well_grouped}
use Rattle.plain_statements.proofs.select.pairs_settled.Given as goal

abbrev pub invariant-loop-pair : goal.invariant-loop-pair
invariant-loop-pair g l = list_all (λ pair. is_well_grouped l.query.grouped l.query.groups.now l.query.own pair.0) (drop l.pair-index l.pairs) ≡ list_all (λ pair. is_well_grouped l.query.grouped l.query.groups.now l.query.own pair.0) l.pairs
