use Rattle.std.proofs.Common.{drop}
use Rattle.object_arena.specs.Fit.{IsFit}
use Rattle.keeper_core.specs.Beside.{moment_beside}
use Rattle.keeper_core.specs.Moment.{Reaches}
use Rattle.keeper_core.specs.Programs.{each}
use Rattle.load_filling.specs.Growing.{Grows}
use Rattle.load_calls.specs.Reading.{IsReadyStill}
use Rattle.load_rows.specs.Loading.{loading}
use Rattle.load_batches.specs.Batches.{load_each, load_from}
use Rattle.load_batches.proofs.batches.load_each.Given as goal

abbrev pub invariant-loop-start : goal.invariant-loop-start
invariant-loop-start g l = record {
  step : Reaches (moment_beside g.K.Keeper.moment) (load_each l.mapping l.relation l.place l.owners l.starts) (loading l.fn.arena l.fn.notes, l.fn.keeper) (each (load_from l.mapping l.relation l.place l.owners) tt (drop l.start-index l.starts)) (loading l.arena l.notes, l.keeper);
  ready : IsReadyStill (g.K.Keeper.moment l.fn.keeper) (g.K.Keeper.moment l.keeper);
  grows : Grows l.fn.arena l.arena;
  fits : IsFit l.mapping l.arena;
}
