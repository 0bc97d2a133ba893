use Rattle.std.proofs.Common.{◌≡◌, map, take}
use Rattle.class_layouts.specs.Columns.{layout_of}
use Rattle.class_layouts.proofs.layout.layouts_of.Given as goal

abbrev pub invariant-loop-line : goal.invariant-loop-line
invariant-loop-line l = l.layouts ≡ map (layout_of l.schema.tables l.classes) (take l.line-index l.classes.lines)
