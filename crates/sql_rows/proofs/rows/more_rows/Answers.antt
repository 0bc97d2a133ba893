use Rattle.std.proofs.Common.{◌<◌, List, length, codes, arith, subst}
use Rattle.base_core.specs.declared.value.Value.{Value}
use Rattle.sql_text.specs.Pages.{WroteOn}
use Rattle.sql_text.proofs.Pages.{dropped, led_on}
use Rattle.sql_rows.specs.Rows.{row_list}
use Rattle.sql_rows.proofs.rows.more_rows.Goals as goal

pub loop-row-preserved : goal.loop-row-preserved
loop-row-preserved c =
    let less : c.loop-row.row-index < length c.args.rows.now = omega arith in
    let told = subst (λ (row : List Value). WroteOn (row_list c.args.drawn c.args.columns.now row) c.put_words.new.self c.row_list.new.page) c.as_slice.ensures c.row_list.ensures in
    led_on (codes ", ") (row_list c.args.drawn c.args.columns.now) c.row-item.result _ _ c.loop-row.page c.put_words.new.self c.row_list.new.page _ (dropped c.args.rows.now c.loop-row.row-index c.row-item.result less c.row-item.is) c.loop-row.invariant c.put_words.ensures told
