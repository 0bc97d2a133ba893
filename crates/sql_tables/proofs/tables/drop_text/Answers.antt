use Rattle.std.proofs.Common.{sym, ap, ◌∙◌}
use Rattle.sql_text.specs.Written.{Written}
use Rattle.sql_text.proofs.Pages.{text_on}
use Rattle.sql_tables.specs.Ddl.{drop_pieces, drop_text}
use Rattle.sql_tables.proofs.tables.drop_text.Goals as goal

pub returns : goal.returns
unfolding drop_text
returns c =
    let text = c.text_of.ensures ∙ ap (λ (w : Written). w.text) c.in_ok-writer.ensures.written in
    sym (text_on c.args.dialect (drop_pieces c.args.schema.now c.args.table) c.new-page.result c.drop_table.new.page c.text_of.result c.new-page.ensures c.drop_table.ensures c.in_ok-writer.ensures.whole text)
