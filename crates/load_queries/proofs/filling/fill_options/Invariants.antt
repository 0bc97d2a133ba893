use Rattle.std.proofs.Common.{◌≡◌, drop}
use Rattle.std.specs.List.{enumerate_from}
use Rattle.object_arena.specs.Every.{classes_of}
use Rattle.object_arena.specs.Fit.{IsFit}
use Rattle.keeper_core.specs.Alone.{alone}
use Rattle.keeper_core.specs.Moment.{Reaches}
use Rattle.keeper_core.specs.Programs.{each}
use Rattle.load_rows.specs.Loading.{loading}
use Rattle.load_queries.specs.Joined.{fill_option, fill_options}
use Rattle.load_queries.proofs.filling.fill_options.Given as goal

abbrev pub invariant-loop-number : goal.invariant-loop-number
invariant-loop-number l = record {
  step : Reaches alone (fill_options l.mapping l.class l.parts l.taken l.owners) (loading l.fn.arena l.fn.notes) (each (fill_option l.mapping l.class l.taken l.owners) tt (enumerate_from l.number (drop l.number l.parts))) (loading l.arena l.notes);
  fits : IsFit l.mapping l.arena;
  classes : classes_of l.arena ≡ classes_of l.fn.arena;
}
