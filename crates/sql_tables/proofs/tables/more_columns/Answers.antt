use Rattle.std.proofs.Common.{◌<◌, length, codes, arith}
use Rattle.base_core.specs.declared.dialect.Dialect.{Dialect}
use Rattle.sql_text.proofs.Pages.{dropped}
use Rattle.sql_text.proofs.Pages.{led_in}
use Rattle.sql_tables.specs.Ddl.{column_pieces}
use Rattle.sql_tables.proofs.tables.more_columns.Goals as goal

pub loop-next-preserved : goal.loop-next-preserved
loop-next-preserved c =
    let less : c.loop-next.next-index < length c.args.columns.now = omega arith in
    led_in (λ (q : Dialect). column_pieces q c.args.generated) (codes ", ") c.next-item.result _ _ c.args.columns.now c.args.page.now c.loop-next.page c.put_words.new.self c.column.new.page (dropped c.args.columns.now c.loop-next.next-index c.next-item.result less c.next-item.is) c.loop-next.invariant c.put_words.ensures c.column.ensures
