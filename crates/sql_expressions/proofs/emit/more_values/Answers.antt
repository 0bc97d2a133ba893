use Rattle.std.proofs.Common.{◌<◌, length, codes, arith}
use Rattle.sql_text.proofs.Pages.{dropped, led_on}
use Rattle.sql_expressions.specs.Laid.{value_pieces}
use Rattle.sql_expressions.proofs.emit.more_values.Goals as goal

pub loop-value-preserved : goal.loop-value-preserved
unfolding value_pieces
loop-value-preserved c =
    let less : c.loop-value.value-index < length c.args.values.now = omega arith in
    led_on (codes ", ") (value_pieces c.args.base.now) c.value-item.result _ _ c.loop-value.page c.put_words.new.self c.put_mark.new.self _ (dropped c.args.values.now c.loop-value.value-index c.value-item.result less c.value-item.is) c.loop-value.invariant c.put_words.ensures c.put_mark.ensures
