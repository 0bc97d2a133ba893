use Rattle.std.proofs.Common.{◌≡◌, ◌<◌, true, [], ◌∷◌, length, refl, arith, rules}
use Rattle.sql_text.proofs.Pages.{dropped}
use Rattle.sql_rows.proofs.Lists.{key_cell_next}
use Rattle.sql_rows.proofs.rows.by_key.Goals as goal

pub loop-column-preserved : goal.loop-column-preserved
unfolding lib.Utf8.encode
loop-column-preserved c =
    let less : c.loop-column.column-index < length c.columns_of-columns.result.now = omega arith in
    let key : c.column-item.result.key ≡ true = search rules in
    ((32 ∷ 65 ∷ 78 ∷ 68 ∷ 32 ∷ [], (refl, refl)), key_cell_next c.table_name-name.result.now c.loop-column.word.now c.column-item.result c.in-Some.value.now _ _ c.in-Some.more.now c.loop-column.rest.now c.loop-column.page c.put_words.new.self c.key_cell.new.page _ (dropped c.columns_of-columns.result.now c.loop-column.column-index c.column-item.result less c.column-item.is) c.in-Some.ensures.cases.0 key c.loop-column.invariant.1 c.put_words.ensures c.key_cell.ensures)
