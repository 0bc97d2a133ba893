use Rattle.std.proofs.Common.{◌≡◌, ◌++◌, drop}
use Rattle.std.specs.List.{enumerate_from, flat_map}
use Rattle.class_layouts.specs.Columns.{table_attributes}
use Rattle.class_layouts.proofs.layout.attributes_on.Given as goal

abbrev pub invariant-loop-rank : goal.invariant-loop-rank
invariant-loop-rank l =
    l.all ++ flat_map (table_attributes l.schema.tables l.classes l.line) (enumerate_from l.rank (drop l.rank l.tables))
    ≡ flat_map (table_attributes l.schema.tables l.classes l.line) (enumerate_from 0 l.tables)
