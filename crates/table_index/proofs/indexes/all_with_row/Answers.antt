-- One index more has the row.
use Rattle.std.proofs.Common.{ap, sym, ◌∙◌}
use Rattle.table_index.specs.Indexed.{is_entered}
use Rattle.table_index.proofs.Entered.{all_moved, new_complete}
use Rattle.table_index.proofs.indexes.all_with_row.Goals as goal

pub loop-index-preserved : goal.loop-index-preserved
loop-index-preserved c = λ rows after complete changed.
    all_moved rows after c.loop-index.left.items c.pop.new.self.items c.loop-index.done.items c.push.new.self.items c.in-Some.index c.in_ok-with_row.field-0 c.in-Some.ensures.items c.in_ok-push.ensures.items
    (λ one. new_complete c.in-Some.index c.in_ok-with_row.field-0 rows after c.args.key.now c.args.row.now
    (ap (is_entered c.in_ok-with_row.field-0 c.args.key.now) (sym c.as_slice.ensures) ∙ c.in_ok-with_row.ensures.entered) c.in_ok-with_row.ensures.others one changed) (c.loop-index.invariant rows after complete changed)

pub returns : goal.returns
returns c = λ rows after complete changed. (c.loop-index.invariant rows after complete changed).1
