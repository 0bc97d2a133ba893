use Rattle.std.proofs.Common.{◌∙◌, ap, sym, map}
use Rattle.std.specs.Option.{option_copied, option_map}
use Rattle.table_rows.specs.Rows.{rows_present, tables_present}
use Rattle.table_rows.proofs.Bare.{rows_found, rows_missed}
use Rattle.table_rows.proofs.lent.rows_held.Goals as goal

pub returns-in-Some : goal.returns-in-Some
returns-in-Some c =
    ap (λ places. map (λ entry. entry.1) (rows_present places)) (c.iter.ensures.rest ∙ c.places.ensures)
    ∙ rows_found (tables_present c.args.tables.now) c.args.table (rows_present c.in-Some.rows.now) (ap (λ found. option_map rows_present (option_copied found)) (sym c.in-Some.is) ∙ c.get.ensures)

pub returns-in-None : goal.returns-in-None
returns-in-None c =
    c.iter-in-None.ensures.rest ∙ rows_missed (tables_present c.args.tables.now) c.args.table (ap (λ found. option_map rows_present (option_copied found)) (sym c.in-None.is) ∙ c.get.ensures)
