use Rattle.std.proofs.Common.{ap, refl, ◌∙◌, subst}
use Rattle.sql_text.specs.Pages.{Paged, WroteOn}
use Rattle.sql_text.specs.Written.{Written, compiled_statement}
use Rattle.sql_text.proofs.Pages.{written_on}
use Rattle.sql_statements.specs.Texts.{statement_pieces, text_of}
use Rattle.sql_statements.proofs.texts.compiled.Goals as goal

pub returns : goal.returns
unfolding text_of
returns c =
    let told = subst (λ (page : Paged). WroteOn (statement_pieces page.written.dialect c.args.schema.now c.args.statement.now) page c.write.new.page) c.new-page.ensures c.write.ensures in
    let written = c.in_ok-written.ensures.written ∙ written_on c.args.dialect (statement_pieces c.args.dialect c.args.schema.now c.args.statement.now) _ c.write.new.page refl told c.in_ok-written.ensures.whole in
    c.finish.ensures ∙ ap (λ (w : Written). compiled_statement w) written
