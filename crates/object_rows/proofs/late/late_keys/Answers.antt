use Rattle.std.proofs.Common.{◌<◌, ◌+◌, ap, drop, subst, arith}
use Rattle.std.specs.List.{flat_map}
use Rattle.schema_core.specs.DependencyOrder.{table_ids}
use Rattle.object_rows.specs.Late.{late_in}
use Rattle.object_rows.proofs.Steps.{keys_done, tables_left, turn}
use Rattle.object_rows.proofs.late.late_keys.Goals as goal

pub loop-table-preserved : goal.loop-table-preserved
loop-table-preserved c =
    turn c.loop-table.keys c.push_late_in.new.out (late_in c.args.mapping.now (record { 0 = c.loop-table.table }))
    (flat_map (late_in c.args.mapping.now) (drop (c.loop-table.table + 1) (table_ids c.args.mapping.now.schema)))
    (flat_map (late_in c.args.mapping.now) (drop c.loop-table.table (table_ids c.args.mapping.now.schema)))
    (flat_map (late_in c.args.mapping.now) (table_ids c.args.mapping.now.schema))
    c.in_ok-push_late_in.ensures
    (ap (flat_map (late_in c.args.mapping.now)) (tables_left c.args.mapping.now.schema c.loop-table.table (subst (λ m. c.loop-table.table < m) c.table_count-table-end.ensures c.loop-table-test.true)))
    c.loop-table.invariant

pub returns : goal.returns
returns c = keys_done c.args.mapping.now c.loop-table.keys c.loop-table.table (omega (arith, c.loop-table-test.false, c.table_count-table-end.ensures)) c.loop-table.invariant
