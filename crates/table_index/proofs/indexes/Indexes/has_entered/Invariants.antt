use Rattle.std.proofs.Common.{◌≡◌, true, take}
use Rattle.std.specs.List.{list_all}
use Rattle.table_index.specs.Indexed.{is_entered}
use Rattle.table_index.proofs.indexes.Indexes.has_entered.Given as goal

abbrev pub invariant-loop-index : goal.invariant-loop-index
invariant-loop-index l = list_all (λ index. is_entered index l.key l.row) (take l.index-index l.self.list.items) ≡ true
