use Rattle.std.proofs.Common.{drop}
use Rattle.object_arena.specs.Fit.{IsFit}
use Rattle.keeper_core.specs.Beside.{moment_beside}
use Rattle.keeper_core.specs.Moment.{Reaches}
use Rattle.keeper_core.specs.Programs.{each}
use Rattle.load_filling.specs.Growing.{Grows}
use Rattle.load_calls.specs.Reading.{IsReadyStill}
use Rattle.load_rows.specs.Loading.{loading}
use Rattle.load_queries.specs.Selectin.{load_option, load_options}
use Rattle.load_queries.proofs.options.load_options.Given as goal

abbrev pub invariant-loop-place : goal.invariant-loop-place
invariant-loop-place g l = record {
  step : Reaches (moment_beside g.K.Keeper.moment) (load_options l.mapping l.class l.objects l.places) (loading l.fn.arena l.fn.notes, l.fn.keeper) (each (load_option l.mapping l.class l.objects) tt (drop l.place-index l.places)) (loading l.arena l.notes, l.keeper);
  ready : IsReadyStill (g.K.Keeper.moment l.fn.keeper) (g.K.Keeper.moment l.keeper);
  grows : Grows l.fn.arena l.arena;
  fits : IsFit l.mapping l.arena;
}
