use Rattle.std.proofs.Common.{◌≡◌, ◌<◌, true, [], ◌∷◌, length, codes, arith, rules}
use Rattle.sql_text.specs.Written.{words, name}
use Rattle.sql_text.proofs.Pages.{dropped, wrote_then}
use Rattle.sql_rows.proofs.Lists.{key_name_next}
use Rattle.sql_rows.proofs.rows.key_names.Goals as goal

pub loop-column-preserved : goal.loop-column-preserved
loop-column-preserved c =
    let less : c.loop-column.column-index < length c.columns_of-columns.result.now = omega arith in
    let key : c.column-item.result.key ≡ true = search rules in
    let named = name c.column-item.result.name ∷ [] in
    let behind = wrote_then (words (codes ".") ∷ []) named c.put_shown.new.self c.put_words-in-loop-column.new.self c.put_name.new.self c.put_words-in-loop-column.ensures c.put_name.ensures in
    let shown = wrote_then (name c.table_name-name.result.now ∷ []) (words (codes ".") ∷ named) c.put_words.new.self c.put_shown.new.self c.put_name.new.self c.put_shown.ensures behind in
    let all = wrote_then (words (codes " RETURNING ") ∷ []) (name c.table_name-name.result.now ∷ words (codes ".") ∷ named) c.loop-column.page c.put_words.new.self c.put_name.new.self c.put_words.ensures shown in
    key_name_next c.table_name-name.result.now c.column-item.result _ _ c.loop-column.page c.put_name.new.self _ (dropped c.columns_of-columns.result.now c.loop-column.column-index c.column-item.result less c.column-item.is) key c.loop-column.invariant all
