use Rattle.std.proofs.Common.{◌≡◌, map, take}
use Rattle.load_selects.specs.Selects.{cell_column}
use Rattle.load_filling.proofs.selects.cell_columns.Given as goal

abbrev pub invariant-loop-attr : goal.invariant-loop-attr
invariant-loop-attr l = l.columns ≡ map (cell_column l.mapping l.class) (take l.attr-index l.attrs)
