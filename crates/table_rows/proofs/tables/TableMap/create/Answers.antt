-- A new table has no places.
use Rattle.std.proofs.Common.{ap, ◌∙◌}
use Rattle.schema_core.specs.Tables.{with_rows}
use Rattle.table_rows.specs.Rows.{Places, rows_present, tables_present}
use Rattle.table_rows.proofs.Seen.{seen_put}
use Rattle.table_rows.proofs.tables.TableMap.create.Goals as goal

pub returns-clause-ok : goal.returns-clause-ok
returns-clause-ok c =
    rw (← c.self.view_is) (ap tables_present c.in_ok-insert.ensures.entries ∙ seen_put c.self.inside.tables.entries c.args.table c.new.result
    ∙ ap (λ (places : Places). with_rows (tables_present c.self.inside.tables.entries) c.args.table (rows_present places)) c.new.ensures)
