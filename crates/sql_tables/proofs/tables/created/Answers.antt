use Rattle.std.proofs.Common.{refl, sym, ap, ◌∙◌, subst}
use Rattle.sql_text.specs.Pages.{Paged, WroteOn}
use Rattle.sql_text.specs.Written.{Written}
use Rattle.sql_text.proofs.Pages.{text_on}
use Rattle.sql_tables.specs.Ddl.{create_pieces}
use Rattle.sql_tables.proofs.tables.created.Goals as goal

pub returns : goal.returns
returns c =
    let told = subst (λ (page : Paged). WroteOn (create_pieces page.written.dialect c.args.schema.now c.args.declared.now c.args.later.now) page c.create.new.page) c.new-page.ensures c.create.ensures in
    let text = c.text_of.ensures ∙ ap (λ (w : Written). w.text) c.in_ok-writer.ensures.written in
    sym (text_on c.args.dialect (create_pieces c.args.dialect c.args.schema.now c.args.declared.now c.args.later.now) _ c.create.new.page c.text_of.result refl told c.in_ok-writer.ensures.whole text)
