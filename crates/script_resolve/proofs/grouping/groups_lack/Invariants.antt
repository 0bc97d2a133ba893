use Rattle.std.proofs.Common.{◌≡◌, drop}
use Rattle.std.specs.List.{list_all}
use Rattle.sql_semantics.specs.Plain.{lacks_aggregate}
use Rattle.script_resolve.proofs.grouping.groups_lack.Given as goal

abbrev pub invariant-loop-group : goal.invariant-loop-group
invariant-loop-group l = list_all lacks_aggregate (drop l.group-index l.groups) ≡ list_all lacks_aggregate l.groups
