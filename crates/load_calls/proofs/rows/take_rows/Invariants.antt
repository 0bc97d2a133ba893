use Rattle.std.proofs.Common.{◌≡◌, true, drop}
use Rattle.std.specs.List.{All}
use Rattle.class_mapping.specs.Mapped.{root_of}
use Rattle.object_arena.specs.Fit.{IsFit, is_of_root}
use Rattle.keeper_core.specs.Alone.{alone}
use Rattle.keeper_core.specs.Moment.{Reaches}
use Rattle.keeper_core.specs.Programs.{each}
use Rattle.load_filling.specs.Growing.{Grows}
use Rattle.load_rows.specs.Loading.{loading}
use Rattle.load_calls.specs.Collections.{take_next, take_rows}
use Rattle.load_calls.proofs.rows.take_rows.Given as goal

abbrev pub invariant-loop-row : goal.invariant-loop-row
invariant-loop-row l = record {
  step : Reaches alone (take_rows l.mapping l.class l.rows) (loading l.fn.arena l.fn.notes) (each (take_next l.mapping l.class) l.objects (drop l.row-index l.rows)) (loading l.arena l.notes);
  of : All (λ object. is_of_root l.arena.roots (root_of l.mapping l.class) object ≡ true) l.objects;
  grows : Grows l.fn.arena l.arena;
  fits : IsFit l.mapping l.arena;
}
