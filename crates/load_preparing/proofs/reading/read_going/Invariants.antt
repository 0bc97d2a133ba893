use Rattle.object_arena.specs.Fit.{IsFit}
use Rattle.object_arena.specs.Graph.{object_limit}
use Rattle.keeper_core.specs.Beside.{moment_beside}
use Rattle.keeper_core.specs.Moment.{Reaches}
use Rattle.load_filling.specs.Growing.{Grows}
use Rattle.load_calls.specs.Reading.{IsReadyStill}
use Rattle.load_rows.specs.Loading.{loading}
use Rattle.load_preparing.specs.Preparing.{read_most}
use Rattle.load_preparing.proofs.reading.read_going.Given as goal

abbrev pub invariant-loop-turns : goal.invariant-loop-turns
invariant-loop-turns g l = record {
  step : Reaches (moment_beside g.K.Keeper.moment) (read_most object_limit l.mapping) (loading l.fn.arena l.fn.notes, l.fn.keeper) (read_most l.turns l.mapping) (loading l.arena l.notes, l.keeper);
  ready : IsReadyStill (g.K.Keeper.moment l.fn.keeper) (g.K.Keeper.moment l.keeper);
  grows : Grows l.fn.arena l.arena;
  fits : IsFit l.mapping l.arena;
}

abbrev pub decreases-loop-turns : goal.decreases-loop-turns
decreases-loop-turns g l = l.turns
