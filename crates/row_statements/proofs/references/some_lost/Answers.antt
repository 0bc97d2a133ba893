-- The tables that are lent are those of the store.
use Rattle.std.proofs.Common.{◌≡◌, IfOk, subst}
use Rattle.schema_core.specs.Tables.{Tables}
use Rattle.row_judging.specs.Lost.{some_lost}
use Rattle.row_statements.proofs.references.some_lost.Goals as goal

pub returns : goal.returns
returns c = subst (λ (tables : Tables). IfOk c.some_lost.result (λ yes. yes ≡ some_lost c.args.schema.now c.args.before.now tables)) c.tables.ensures c.some_lost.ensures
