-- One more row is out, set aside and noted.
use Rattle.std.proofs.Common.{◌∙◌}
use Rattle.table_rows.specs.Rows.{rows_at}
use Rattle.table_store.specs.Taken.{take_all}
use Rattle.table_store.proofs.BulkSteps.{key_created, key_noted, keys_step}
use Rattle.table_store.proofs.bulk.take_all.Goals as goal

pub loop-key-preserved : goal.loop-key-preserved
loop-key-preserved c =
    let noted = key_noted c.args.store.now c.loop-key.store c.take_aside.new.store c.args.table c.args.keys.now c.loop-key.key-index c.key-item.result c.loop-key-test.true c.key-item.is c.in_ok-take_aside.ensures.sorted c.loop-key.invariant.3
    c.in_ok-take_aside.ensures.tables c.loop-key.invariant.5 c.loop-key.invariant.4 c.in_ok-take_aside.ensures.noted in (
      keys_step c.loop-key.store.seen.tables c.take_aside.new.store.seen.tables (take_all c.args.store.now.seen.tables c.args.table c.args.keys.now) c.args.table c.args.keys.now c.loop-key.key-index c.key-item.result c.loop-key-test.true c.key-item.is
          c.in_ok-take_aside.ensures.tables c.loop-key.invariant.0,
      key_created c.loop-key.store.seen.tables c.take_aside.new.store.seen.tables c.args.table c.key-item.result c.in_ok-take_aside.ensures.tables,
      c.in_ok-take_aside.ensures.aside (rows_at c.args.store.now.seen.tables c.args.table) c.loop-key.invariant.2,
      c.take_aside.ensures.scopes ∙ c.loop-key.invariant.3,
      noted.0,
      noted.1,
    )
