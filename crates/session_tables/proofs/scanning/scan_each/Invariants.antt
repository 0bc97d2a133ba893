use Rattle.std.proofs.Common.{drop}
use Rattle.std.specs.List.{All}
use Rattle.schema_core.specs.Catalog.{IsTable}
use Rattle.schema_core.specs.DependencyOrder.{table_ids}
use Rattle.keeper_core.specs.Programs.{each}
use Rattle.keeper_core.specs.Moment.{Reaches}
use Rattle.session_parts.specs.Depths.{HasDepth}
use Rattle.session_tables.specs.Dump.{scan_each, scan_one}
use Rattle.session_tables.proofs.scanning.scan_each.Given as goal

abbrev pub invariant-loop-number : goal.invariant-loop-number
invariant-loop-number g l =
    Reaches g.K.Keeper.moment (scan_each l.schema) l.fn.keeper (each scan_one l.tables (drop l.number (table_ids l.schema))) l.keeper
    × HasDepth (g.K.Keeper.moment l.fn.keeper).depth (g.K.Keeper.moment l.keeper)
    × All (λ table. IsTable l.schema table.0) l.tables
