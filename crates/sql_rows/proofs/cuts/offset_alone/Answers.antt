use Rattle.std.proofs.Common.{[], ◌∷◌, codes, sym, ◌∙◌, subst}
use Rattle.base_core.specs.declared.dialect.Dialect.{Dialect}
use Rattle.sql_text.specs.Pages.{WroteOn}
use Rattle.sql_text.specs.Written.{words}
use Rattle.sql_text.proofs.Pages.{wrote_then}
use Rattle.sql_rows.specs.Cuts.{row_count_pieces, offset_pieces}
use Rattle.sql_rows.proofs.cuts.offset_alone.Goals as goal

pub returns-in-Sqlite : goal.returns-in-Sqlite
returns-in-Sqlite c = subst (λ (q : Dialect). WroteOn (offset_pieces q c.args.offset) c.args.page.now c.counted.new.page) (sym c.in-Sqlite.is ∙ c.dialect.ensures) c.counted.ensures

pub returns-in-Mysql : goal.returns-in-Mysql
returns-in-Mysql c =
    let told = wrote_then (row_count_pieces (codes " LIMIT ") c.args.offset) (words (codes ", 18446744073709551615") ∷ []) c.args.page.now c.counted-in-Mysql.new.page c.put_words.new.self c.counted-in-Mysql.ensures c.put_words.ensures in
    subst (λ (q : Dialect). WroteOn (offset_pieces q c.args.offset) c.args.page.now c.put_words.new.self) (sym c.in-Mysql.is ∙ c.dialect.ensures) told
