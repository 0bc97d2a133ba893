use Rattle.std.proofs.Common.{◌<◌, length, codes, arith}
use Rattle.base_core.specs.declared.dialect.Dialect.{Dialect}
use Rattle.sql_text.proofs.Pages.{dropped, led_in}
use Rattle.sql_statements.specs.Selects.{item_pieces}
use Rattle.sql_statements.proofs.selects.more_items.Goals as goal

pub loop-next-preserved : goal.loop-next-preserved
loop-next-preserved c =
    let less : c.loop-next.next-index < length c.args.items.now = omega arith in
    led_in (λ (q : Dialect). item_pieces q c.args.schema.now c.args.scope.now) (codes ", ") c.next-item.result _ _ c.args.items.now c.args.page.now c.loop-next.page c.put_words.new.self c.item.new.page (dropped c.args.items.now c.loop-next.next-index c.next-item.result less c.next-item.is) c.loop-next.invariant c.put_words.ensures c.item.ensures
