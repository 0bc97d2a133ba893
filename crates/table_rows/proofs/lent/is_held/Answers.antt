use Rattle.std.proofs.Common.{◌∙◌, ap, sym}
use Rattle.std.specs.Option.{option_copied, option_map}
use Rattle.table_rows.specs.Rows.{rows_present, tables_present}
use Rattle.table_rows.proofs.Bare.{table_found, table_missed}
use Rattle.table_rows.proofs.lent.is_held.Goals as goal

pub returns-in-Some : goal.returns-in-Some
returns-in-Some c = table_found (tables_present c.args.tables.now) c.args.table (rows_present c.in-Some.field-0.now) (ap (λ found. option_map rows_present (option_copied found)) (sym c.in-Some.is) ∙ c.get.ensures)

pub returns-in-None : goal.returns-in-None
returns-in-None c = table_missed (tables_present c.args.tables.now) c.args.table (ap (λ found. option_map rows_present (option_copied found)) (sym c.in-None.is) ∙ c.get.ensures)
