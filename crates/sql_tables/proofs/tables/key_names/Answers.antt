use Rattle.std.proofs.Common.{◌≡◌, ◌<◌, true, [], ◌∷◌, length, refl, arith, rules}
use Rattle.sql_text.proofs.Pages.{dropped}
use Rattle.sql_tables.proofs.Lists.{key_next}
use Rattle.sql_tables.proofs.tables.key_names.Goals as goal

pub loop-column-preserved : goal.loop-column-preserved
unfolding lib.Utf8.encode
loop-column-preserved c =
    let less : c.loop-column.column-index < length c.args.columns.now = omega arith in
    let key : c.column-item.result.key ≡ true = search rules in
    ((44 ∷ 32 ∷ [], (refl, refl)), key_next c.loop-column.word.now c.column-item.result _ _ c.loop-column.page c.put_words.new.self c.put_name.new.self _ (dropped c.args.columns.now c.loop-column.column-index c.column-item.result less c.column-item.is) key c.loop-column.invariant.1 c.put_words.ensures c.put_name.ensures)
