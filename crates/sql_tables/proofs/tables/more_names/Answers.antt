use Rattle.std.proofs.Common.{◌<◌, [], ◌∷◌, length, codes, arith}
use Rattle.sql_text.specs.Written.{name}
use Rattle.sql_text.proofs.Pages.{dropped}
use Rattle.sql_text.proofs.Pages.{led_on}
use Rattle.sql_tables.proofs.tables.more_names.Goals as goal

pub loop-name-preserved : goal.loop-name-preserved
loop-name-preserved c =
    let less : c.loop-name.name-index < length c.args.names.now = omega arith in
    led_on (codes ", ") (λ shown. name shown ∷ []) c.name-item.result _ _ c.loop-name.page c.put_words.new.self c.put_name.new.self _ (dropped c.args.names.now c.loop-name.name-index c.name-item.result less c.name-item.is) c.loop-name.invariant c.put_words.ensures c.put_name.ensures
