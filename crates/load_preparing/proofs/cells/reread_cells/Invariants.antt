use Rattle.std.proofs.Common.{◌≡◌}
use Rattle.class_mapping.specs.Mapped.{Mapped}
use Rattle.object_arena.specs.Every.{classes_of}
use Rattle.object_arena.specs.Fit.{IsFit}
use Rattle.load_preparing.proofs.CellLemmas.{graph_before}
use Rattle.load_preparing.proofs.cells.reread_cells.Given as goal

abbrev pub invariant-loop-number : goal.invariant-loop-number
invariant-loop-number l = record {
  put : l.arena ≡ graph_before l.fn.arena l.object l.number;
  fits : (mapped : Mapped) → IsFit mapped l.fn.arena → IsFit mapped l.arena;
  classes : classes_of l.arena ≡ classes_of l.fn.arena;
}
