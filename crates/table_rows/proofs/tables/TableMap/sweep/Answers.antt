-- No row stood in the place that was given up.
use Rattle.std.proofs.Common.{sym, ap, ◌∙◌}
use Rattle.table_rows.specs.Rows.{tables_present}
use Rattle.table_rows.proofs.Seen.{seen_kept}
use Rattle.table_rows.proofs.tables.TableMap.sweep.Goals as goal

pub returns : goal.returns
returns c =
    rw (← c.self.view_is) (ap tables_present (c.get_mut.follows.holds c.sweep.new.self).0
    ∙ seen_kept c.self.inside.tables.entries c.args.table c.in-Some.rows.now c.sweep.new.self (sym c.in-Some.ensures.value) c.sweep.ensures)
