use Rattle.std.proofs.Common.{sym, ap, ◌∙◌}
use Rattle.std.proofs.lemmas.Option.{get_or_from_slice_get}
use Rattle.schema_core.specs.Catalog.{foreign_of, no_foreign, spec_of}
use Rattle.schema_core.specs.declared.table.ForeignSpec.{ForeignSpec}
use Rattle.schema_core.specs.declared.table.TableSpec.{TableSpec}
use Rattle.sql_text.specs.Written.{Written}
use Rattle.sql_text.proofs.Pages.{text_on}
use Rattle.sql_tables.specs.Ddl.{alter, alter_pieces, text_alone}
use Rattle.sql_tables.proofs.tables.alter.Goals as goal

pub returns : goal.returns
unfolding alter
returns c =
    let text = c.text_of.ensures ∙ ap (λ (w : Written). w.text) c.in_ok-writer.ensures.written in
    let told = sym (text_on c.args.dialect (alter_pieces c.args.schema.now c.spec-declared.result.now c.at-added.result.now) c.new-page.result c.add.new.page c.text_of.result c.new-page.ensures c.add.ensures c.in_ok-writer.ensures.whole text) in
    let foreign = sym (get_or_from_slice_get c.spec-declared.result.now.foreigns c.args.number c.at-added.result.now no_foreign c.at-added.ensures) ∙ ap (λ (spec : TableSpec). foreign_of spec c.args.number) c.spec-declared.ensures in
    told ∙ (ap (λ (spec : TableSpec). text_alone c.args.dialect (alter_pieces c.args.schema.now spec c.at-added.result.now)) c.spec-declared.ensures
    ∙ ap (λ (it : ForeignSpec). text_alone c.args.dialect (alter_pieces c.args.schema.now (spec_of c.args.schema.now c.args.table) it)) foreign)
