-- A table that is as it was leaves the tables as they were.
use Rattle.std.proofs.Common.{sym, ◌∙◌}
use Rattle.table_rows.proofs.Seen.{set_same}
use Rattle.table_rows.proofs.tables.TableMap.index_columns.Goals as goal

pub returns : goal.returns
returns c =
    (c.get_mut.follows.holds c.index_columns.new.self).0 ∙ set_same c.self.inside.tables.entries c.args.table c.in-Some.rows.now c.index_columns.new.self (sym c.in-Some.ensures.value) c.index_columns.ensures ∙ c.self.view_is
