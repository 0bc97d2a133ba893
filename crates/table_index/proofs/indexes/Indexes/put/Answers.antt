-- Each index has the row, or all are given up.
use Rattle.std.proofs.Common.{Global, Vec, sym, subst}
use Rattle.std.specs.List.{AllByRecursion}
use Rattle.table_index.specs.declared.index.ValueIndex.{ValueIndex}
use Rattle.table_index.specs.Indexed.{IsComplete}
use Rattle.table_index.proofs.indexes.Indexes.put.Goals as goal

pub returns-in-Ok : goal.returns-in-Ok
returns-in-Ok c = λ rows after complete changed.
    c.in-Ok.ensures rows after (subst (λ (list : Vec ValueIndex Global). AllByRecursion (IsComplete rows) list.items) (sym c.replace-list.ensures.value) complete) changed
