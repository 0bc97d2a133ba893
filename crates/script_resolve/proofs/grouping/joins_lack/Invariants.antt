use Rattle.std.proofs.Common.{◌≡◌, drop}
use Rattle.std.specs.List.{list_all}
use Rattle.sql_semantics.specs.Plain.{lacks_aggregate}
use Rattle.script_resolve.proofs.grouping.joins_lack.Given as goal

abbrev pub invariant-loop-join : goal.invariant-loop-join
invariant-loop-join l = list_all (λ join. lacks_aggregate join.on) (drop l.join-index l.joins) ≡ list_all (λ join. lacks_aggregate join.on) l.joins
