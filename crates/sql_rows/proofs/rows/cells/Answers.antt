use Rattle.std.proofs.Common.{◌≡◌, ◌<◌, false, [], ◌∷◌, length, refl, sym, ◌∙◌, arith}
use Rattle.sql_text.proofs.Pages.{dropped}
use Rattle.sql_rows.specs.Rows.{is_left_out}
use Rattle.sql_rows.proofs.Lists.{row_cell_next}
use Rattle.sql_rows.proofs.rows.cells.Goals as goal

pub loop-column-preserved : goal.loop-column-preserved
unfolding lib.Utf8.encode
loop-column-preserved c =
    let less : c.loop-column.column-index < length c.args.columns.now = omega arith in
    let kept : is_left_out c.args.drawn c.column-item.result ≡ false = sym c.is_left_out.ensures ∙ c.if-is_left_out.false in
    ((44 ∷ 32 ∷ [], (refl, refl)), row_cell_next c.args.drawn c.loop-column.word.now c.column-item.result c.in-Some.value.now _ _ c.in-Some.more.now c.loop-column.rest.now c.loop-column.page c.put_words.new.self c.put_value.new.self _ (dropped c.args.columns.now c.loop-column.column-index c.column-item.result less c.column-item.is) c.in-Some.ensures.cases.0 kept c.loop-column.invariant.1 c.put_words.ensures c.put_value.ensures)
