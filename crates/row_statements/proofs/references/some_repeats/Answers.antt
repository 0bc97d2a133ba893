-- The tables that are lent are those of the store.
use Rattle.std.proofs.Common.{◌≡◌, is_some, IfOk, ap, subst, ◌∙◌}
use Rattle.schema_core.specs.Judged.{some_repeats}
use Rattle.schema_core.specs.Tables.{Tables, rows_in}
use Rattle.table_rows.specs.Rows.{rows_at}
use Rattle.row_statements.proofs.references.some_repeats.Goals as goal

pub some_repeats-requires : goal.some_repeats-requires
some_repeats-requires c = ap (λ (tables : Tables). is_some (rows_in tables c.args.table)) c.tables.ensures ∙ c.requires

pub returns : goal.returns
returns c = subst (λ (tables : Tables). IfOk c.some_repeats.result (λ yes. yes ≡ some_repeats c.args.spec.now (rows_at tables c.args.table) c.args.entries.now)) c.tables.ensures c.some_repeats.ensures
