use Rattle.std.proofs.Common.{sym, subst, arith}
use Rattle.schema_core.specs.Catalog.{spec_of}
use Rattle.schema_core.specs.WellFormed.{AreKeysOf}
use Rattle.sqlite_statements.proofs.Keys.{keys_end}
use Rattle.sqlite_statements.proofs.rows.rows_with_keys.Goals as goal

pub returns : goal.returns
returns c =
    let spec = spec_of c.args.schema.now c.args.table in
    subst (AreKeysOf spec c.args.rows.now) (sym c.from_vec-2.ensures)
    (keys_end spec c.args.rows.now c.loop-row.keys.items c.loop-row.row-index (omega (arith, c.loop-row-test.false)) c.loop-row.invariant)
