-- One more row is in, and noted.
use Rattle.std.proofs.Common.{◌+◌, refl, ◌∙◌}
use Rattle.row_statements.specs.Held.{put_all}
use Rattle.table_store.proofs.BulkSteps.{entries_step, entry_created}
use Rattle.row_statements.proofs.Noting.{noted_more}
use Rattle.table_store.proofs.bulk.put_all.Goals as goal

pub loop-entry-preserved : goal.loop-entry-preserved
loop-entry-preserved c = (
  entries_step c.loop-entry.store.seen.tables c.put_copy.new.store.seen.tables (put_all c.args.store.now.seen.tables c.args.table c.args.entries.now) c.args.table c.args.entries.now c.loop-entry.entry-index c.entry-item.result c.loop-entry-test.true c.entry-item.is
      c.in_ok-put_copy.ensures.tables c.loop-entry.invariant.0,
  entry_created c.loop-entry.store.seen.tables c.put_copy.new.store.seen.tables c.args.table c.entry-item.result c.in_ok-put_copy.ensures.tables,
  c.put_copy.ensures.scopes ∙ c.loop-entry.invariant.2,
  noted_more c.loop-entry.entry-index 1 (c.loop-entry.entry-index + 1) c.args.store.now c.loop-entry.store c.put_copy.new.store c.loop-entry.invariant.2 refl c.loop-entry.invariant.3 c.in_ok-put_copy.ensures.noted,
)
