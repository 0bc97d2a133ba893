-- The next row is entered too.
use Rattle.table_rows.specs.Rows.{rows_present}
use Rattle.table_rows.proofs.IndexSteps.{entered_next}
use Rattle.table_rows.proofs.table.index_of.Goals as goal

pub loop-key-preserved : goal.loop-key-preserved
loop-key-preserved c =
    entered_next c.loop-key.index c.in_ok-index.index (rows_present c.args.rows.now) c.loop-key.key-iterator c.next.new.self c.in-Some.key.now _ c.as_slice.result.now c.in-Some.place.now c.in-Some.ensures.steps c.in-Some-place.is
    c.as_slice.ensures c.in_ok-index.ensures.entered c.in_ok-index.ensures.others c.loop-key.invariant
