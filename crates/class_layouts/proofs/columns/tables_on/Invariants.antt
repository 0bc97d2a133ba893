use Rattle.std.proofs.Common.{◌≡◌, ◌++◌, drop}
use Rattle.std.specs.List.{filter_map}
use Rattle.class_layouts.specs.Columns.{own_table}
use Rattle.class_layouts.proofs.columns.tables_on.Given as goal

abbrev pub invariant-loop-class : goal.invariant-loop-class
invariant-loop-class l = l.tables ++ filter_map (λ class. own_table l.schema.tables l.classes class.0) (drop l.class-index l.line) ≡ filter_map (λ class. own_table l.schema.tables l.classes class.0) l.line
