use Rattle.std.proofs.Common.{[], ◌∷◌, codes}
use Rattle.sql_text.specs.Written.{words, with_separators}
use Rattle.sql_text.proofs.Pages.{wrote_then}
use Rattle.sql_rows.specs.Rows.{names_pieces, row_list}
use Rattle.sql_rows.proofs.rows.row_lists.Goals as goal

pub returns : goal.returns
returns c =
    let rows = with_separators (codes ", ") (row_list c.args.drawn c.args.columns.now) c.args.rows.now in
    let behind = wrote_then (words (codes ") VALUES ") ∷ []) rows c.names.new.page c.put_words.new.self c.rows_of.new.page c.put_words.ensures c.rows_of.ensures in
    wrote_then (names_pieces c.args.drawn (codes " (") c.args.columns.now) (words (codes ") VALUES ") ∷ rows) c.args.page.now c.names.new.page c.rows_of.new.page c.names.ensures behind
