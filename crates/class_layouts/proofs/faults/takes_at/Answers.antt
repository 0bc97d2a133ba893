use Rattle.std.proofs.Common.{List, Some, ◌∙◌, ap}
use Rattle.schema_core.specs.declared.table.ForeignSpec.{ForeignSpec}
use Rattle.class_layouts.specs.Faults.{foreigns_in, takes_identity}
use Rattle.class_layouts.proofs.faults.takes_at.Goals as goal

pub returns-in-Some : goal.returns-in-Some
returns-in-Some c =
    c.takes_identity.ensures
    ∙ ap (λ (foreigns : List ForeignSpec). takes_identity foreigns c.args.identity.now (Some c.in-Some.column.now)) c.foreigns_of.ensures
    ∙ ap (takes_identity (foreigns_in c.args.schema.now.tables c.args.table) c.args.identity.now) (rw c.columns_of.ensures at c.in-Some.ensures)
