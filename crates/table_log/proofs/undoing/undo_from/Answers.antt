-- The last entry was undone, and its key's place and those of the others are kept.
use Rattle.std.proofs.Common.{arith}
use Rattle.table_rows.specs.Rows.{tables_present}
use Rattle.table_log.proofs.WayBack.{first_placed, follows_back, kept_placed, shorter}
use Rattle.table_log.proofs.undoing.undo_from.Goals as goal

pub back-preserved : goal.back-preserved
back-preserved c = (
  follows_back (tables_present c.back.tables) (tables_present c.undo-entry.new.tables) (tables_present c.args.tables.now) c.back.log.items c.take_last-last.new.self.items c.args.log.now.items c.take_last-last.result c.back.invariant.0 c.take_last-last.ensures.items c.undo-entry.ensures.rows,
  omega (arith, c.back-test.true, c.len.ensures, shorter c.back.log.items c.take_last-last.new.self.items c.take_last-last.result c.take_last-last.ensures.items),
  kept_placed c.back.tables c.undo-entry.new.tables c.take_last-last.new.self.items (first_placed c.back.tables c.back.log.items c.take_last-last.new.self.items c.take_last-last.result c.take_last-last.ensures.items c.back.invariant.2) c.undo-entry.ensures.places,
  omega (arith, c.back.invariant.3, c.take_last-last.ensures.len, c.take_last-last.ensures.capacity, c.push_reserved.ensures.len, c.push_reserved.ensures.capacity),
)
