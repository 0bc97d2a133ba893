use Rattle.table_rows.specs.Lent.{seen}
use Rattle.table_rows.specs.Walks.{entries_left}
use Rattle.bulk_rows.proofs.Updates.{update_next}
use Rattle.bulk_rows.proofs.taken.updated_rows.Goals as goal

pub loop-key-preserved : goal.loop-key-preserved
loop-key-preserved c =
    update_next (seen c.args.tables) c.args.written.now c.args.filter.now c.loop-key.done.items c.in_ok-done.done.items (entries_left c.loop-key.left) (entries_left c.next_entry.new.self) (c.in-Some.key.now, c.in-Some.row.now) c.as_slice.result.now c.in_ok-taken.taken _
    c.in-Some.ensures c.as_slice.ensures c.in_ok-taken.ensures c.in_ok-done.ensures c.loop-key.invariant
