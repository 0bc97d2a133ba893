-- The tables that are lent are those of the store.
use Rattle.std.proofs.Common.{◌≡◌, IfOk, subst}
use Rattle.schema_core.specs.Judged.{some_written_dangles}
use Rattle.schema_core.specs.Tables.{Tables}
use Rattle.row_statements.proofs.references.some_written_dangles.Goals as goal

pub returns : goal.returns
returns c =
    subst (λ (tables : Tables). IfOk c.some_written_dangles.result (λ yes. yes ≡ some_written_dangles c.args.schema.now tables c.args.spec.now c.args.entries.now)) c.tables.ensures
    c.some_written_dangles.ensures
