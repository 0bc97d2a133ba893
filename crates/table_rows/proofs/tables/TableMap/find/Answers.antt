-- The rows that are seen of a table are those that stand in its places.
use Rattle.std.proofs.Common.{ap, ◌∙◌}
use Rattle.std.specs.Option.{option_map}
use Rattle.schema_core.specs.Tables.{rows_in}
use Rattle.table_rows.specs.Rows.{Held, rows_present, tables_present}
use Rattle.table_rows.proofs.Seen.{seen_found}
use Rattle.table_rows.proofs.tables.TableMap.find.Goals as goal

pub returns : goal.returns
returns c =
    ap (option_map rows_present) c.get.ensures.value ∙ seen_found c.self.inside.tables.entries c.args.table
    ∙ ap (λ (held : Held). rows_in (tables_present held) c.args.table) c.self.view_is
