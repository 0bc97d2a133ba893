use Rattle.std.proofs.Common.{◌≡◌, ◌++◌, List, drop}
use Rattle.base_core.specs.declared.value.Value.{Value}
use Rattle.load_batches.specs.Batches.{members_under, objects_at}
use Rattle.load_batches.proofs.groups.groups_of.Given as goal

abbrev pub invariant-loop-member : goal.invariant-loop-member
invariant-loop-member l = (key : List Value) → objects_at l.groups key ++ members_under (drop l.member-index l.members) key ≡ members_under l.members key
