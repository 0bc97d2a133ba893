-- Each index still has the rows that stand, or all are given up.
use Rattle.std.proofs.Common.{Global, Vec, sym, subst}
use Rattle.std.specs.List.{AllByRecursion}
use Rattle.table_index.specs.declared.index.ValueIndex.{ValueIndex}
use Rattle.table_index.specs.Indexed.{IsComplete}
use Rattle.table_index.proofs.indexes.Indexes.sweep.Goals as goal

pub returns-in-Ok : goal.returns-in-Ok
returns-in-Ok c = λ rows complete stood.
    c.in-Ok.ensures rows (subst (λ (list : Vec ValueIndex Global). AllByRecursion (IsComplete rows) list.items) (sym c.replace-list.ensures.value) complete) stood
