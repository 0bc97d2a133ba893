use Rattle.std.proofs.Common.{drop}
use Rattle.std.specs.List.{enumerate_from}
use Rattle.object_arena.specs.Fit.{IsFit}
use Rattle.keeper_core.specs.Beside.{moment_beside}
use Rattle.keeper_core.specs.Moment.{Reaches}
use Rattle.keeper_core.specs.Programs.{each}
use Rattle.load_filling.specs.Growing.{Grows}
use Rattle.load_calls.specs.Reading.{IsReadyStill}
use Rattle.load_rows.specs.Loading.{loading}
use Rattle.load_preparing.specs.Preparing.{read_link}
use Rattle.load_preparing.proofs.links.read_links.Given as goal

abbrev pub invariant-loop-number : goal.invariant-loop-number
invariant-loop-number g l = record {
  step : Reaches (moment_beside g.K.Keeper.moment) (each (read_link l.mapping l.object) tt (enumerate_from 0 l.relations)) (loading l.fn.arena l.fn.notes, l.fn.keeper) (each (read_link l.mapping l.object) tt (drop l.number (enumerate_from 0 l.relations))) (loading l.arena l.notes, l.keeper);
  ready : IsReadyStill (g.K.Keeper.moment l.fn.keeper) (g.K.Keeper.moment l.keeper);
  grows : Grows l.fn.arena l.arena;
  fits : IsFit l.mapping l.arena;
}
