use Rattle.std.proofs.Common.{◌≡◌, drop}
use Rattle.std.specs.List.{list_all}
use Rattle.plain_statements.specs.Tested.{is_group}
use Rattle.plain_statements.proofs.select.are_groups.Given as goal

abbrev pub invariant-loop-group : goal.invariant-loop-group
invariant-loop-group l =
    list_all (is_group l.schema l.around.tables.items l.around.names.items) (drop l.group-index l.groups) ≡ list_all (is_group l.schema l.around.tables.items l.around.names.items) l.groups
