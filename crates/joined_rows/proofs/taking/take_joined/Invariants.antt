use Rattle.std.proofs.Common.{drop}
use Rattle.std.specs.List.{All}
use Rattle.object_arena.specs.Fit.{IsFit}
use Rattle.keeper_core.specs.Alone.{alone}
use Rattle.keeper_core.specs.Moment.{Reaches}
use Rattle.keeper_core.specs.Programs.{each}
use Rattle.load_filling.specs.Growing.{Grows}
use Rattle.load_rows.specs.Loading.{loading}
use Rattle.joined_rows.specs.Taking.{IsTaken, take_joined, take_one}
use Rattle.joined_rows.proofs.taking.take_joined.Given as goal

abbrev pub invariant-loop-row : goal.invariant-loop-row
invariant-loop-row l = record {
  step : Reaches alone (take_joined l.mapping l.class l.parts l.rows) (loading l.fn.arena l.fn.notes) (each (take_one l.mapping l.class l.parts) l.taken (drop l.row-index l.rows)) (loading l.arena l.notes);
  of : All (IsTaken l.mapping l.arena.roots l.class l.parts) l.taken;
  grows : Grows l.fn.arena l.arena;
  fits : IsFit l.mapping l.arena;
}
