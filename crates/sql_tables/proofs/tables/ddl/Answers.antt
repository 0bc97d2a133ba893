use Rattle.std.proofs.Common.{◌≡◌, Option, None, Ok, ap, ◌∙◌, sym, subst}
use Rattle.base_core.specs.declared.ids.ColumnNo.{ColumnNo}
use Rattle.schema_core.specs.Catalog.{spec_of}
use Rattle.schema_core.specs.declared.table.TableSpec.{TableSpec}
use Rattle.sql_tables.specs.Ddl.{create_text_or_refusal, create_text, ddl, unsized_in}
use Rattle.sql_tables.proofs.tables.ddl.Goals as goal

pub returns-in_ok-made-in-None : goal.returns-in_ok-made-in-None
unfolding ddl
returns-in_ok-made-in-None c =
    let none : unsized_in c.args.dialect (spec_of c.args.schema.now c.args.table).columns ≡ None = cc (c.in_ok-column.ensures, c.in-None.is, c.as_slice.ensures, c.spec-declared.ensures) in
    let told : c.in_ok-made-in-None.made ≡ create_text c.args.dialect c.args.schema.now (spec_of c.args.schema.now c.args.table) c.args.later.now =
    subst (λ (spec : TableSpec). c.in_ok-made-in-None.made ≡ create_text c.args.dialect c.args.schema.now spec c.args.later.now) c.spec-declared.ensures c.in_ok-made-in-None.ensures in
    ap (λ (none : Option ColumnNo). create_text_or_refusal c.args.dialect c.args.schema.now c.args.table c.args.later.now none) none ∙ ap Ok (sym told)
