-- One index more is without what the row had entered.
use Rattle.table_index.proofs.Entered.{all_moved}
use Rattle.table_index.proofs.indexes.all_without_former.Goals as goal

pub loop-index-preserved : goal.loop-index-preserved
loop-index-preserved c = λ rows complete stood.
    all_moved rows rows c.loop-index.rest.items c.pop.new.self.items c.loop-index.done.items c.push.new.self.items c.in-Some.index c.in_ok-without_former.field-0 c.in-Some.ensures.items c.in_ok-push.ensures.items
    (λ one. c.in_ok-without_former.ensures rows one stood) (c.loop-index.invariant rows complete stood)

pub returns : goal.returns
returns c = λ rows complete stood. (c.loop-index.invariant rows complete stood).1
