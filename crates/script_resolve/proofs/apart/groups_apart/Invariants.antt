use Rattle.std.proofs.Common.{◌≡◌, drop}
use Rattle.std.specs.List.{list_all}
use Rattle.sql_semantics.specs.Plain.{names_apart}
use Rattle.script_resolve.proofs.apart.groups_apart.Given as goal

abbrev pub invariant-loop-group : goal.invariant-loop-group
invariant-loop-group l = list_all (λ e. names_apart l.schema e l.names) (drop l.group-index l.groups) ≡ list_all (λ e. names_apart l.schema e l.names) l.groups
