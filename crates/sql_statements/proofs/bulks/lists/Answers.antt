use Rattle.std.proofs.Common.{[], ◌∷◌, ◌++◌, codes}
use Rattle.sql_text.specs.Written.{words}
use Rattle.sql_text.proofs.Pages.{wrote_then}
use Rattle.sql_statements.specs.Bulks.{cells_pieces, columns_pieces}
use Rattle.sql_statements.proofs.bulks.lists.Goals as goal

pub returns : goal.returns
returns c =
    let columns = columns_pieces c.args.schema.now c.args.table c.args.columns.now in
    let cells = cells_pieces c.args.schema.now c.args.table (codes "(") c.args.columns.now c.args.values.now in
    let last = wrote_then cells (words (codes ")") ∷ []) c.put_words-2.new.self c.cells.new.page c.put_words-3.new.self c.cells.ensures c.put_words-3.ensures in
    let values = wrote_then (words (codes ") VALUES ") ∷ []) (cells ++ (words (codes ")") ∷ [])) c.columns_of.new.page c.put_words-2.new.self c.put_words-3.new.self c.put_words-2.ensures last in
    let behind = wrote_then columns (words (codes ") VALUES ") ∷ (cells ++ (words (codes ")") ∷ []))) c.put_words.new.self c.columns_of.new.page c.put_words-3.new.self c.columns_of.ensures values in
    wrote_then (words (codes " (") ∷ []) (columns ++ (words (codes ") VALUES ") ∷ (cells ++ (words (codes ")") ∷ [])))) c.args.page.now c.put_words.new.self c.put_words-3.new.self c.put_words.ensures behind
