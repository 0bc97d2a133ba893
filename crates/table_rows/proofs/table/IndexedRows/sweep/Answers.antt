-- The rows that stand are entered still.
use Rattle.std.proofs.Common.{sym, subst}
use Rattle.schema_core.specs.Tables.{Rows, row_under}
use Rattle.table_index.specs.Indexed.{AreComplete}
use Rattle.table_rows.specs.Rows.{rows_present}
use Rattle.table_rows.proofs.table.IndexedRows.sweep.Goals as goal

pub invariant_of-self : goal.invariant_of-self
invariant_of-self c = subst (λ (rows : Rows). AreComplete (row_under rows) c.self.inside.indexes) (sym c.sweep.ensures) c.self.invariant

pub invariant_of-self-2 : goal.invariant_of-self-2
invariant_of-self-2 c =
    subst (λ (rows : Rows). AreComplete (row_under rows) c.sweep-2.new.self) (sym c.sweep-3.ensures) (c.sweep-2.ensures (row_under (rows_present c.self.inside.rows)) c.self.invariant (sym c.get.ensures))
