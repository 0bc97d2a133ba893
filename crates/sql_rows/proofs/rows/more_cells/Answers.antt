use Rattle.std.proofs.Common.{◌<◌, length, codes, arith}
use Rattle.sql_text.proofs.Pages.{dropped, led_on}
use Rattle.sql_rows.specs.Rows.{cell_pieces}
use Rattle.sql_rows.proofs.rows.more_cells.Goals as goal

pub loop-next-preserved : goal.loop-next-preserved
loop-next-preserved c =
    let less : c.loop-next.next-index < length c.args.cells.now = omega arith in
    led_on (codes ", ") (cell_pieces c.args.schema.now c.args.table) c.next-item.result _ _ c.loop-next.page c.put_words.new.self c.cell.new.page _ (dropped c.args.cells.now c.loop-next.next-index c.next-item.result less c.next-item.is) c.loop-next.invariant c.put_words.ensures c.cell.ensures
