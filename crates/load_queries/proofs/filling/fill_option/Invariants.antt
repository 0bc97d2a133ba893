use Rattle.std.proofs.Common.{◌≡◌, drop}
use Rattle.object_arena.specs.Every.{classes_of}
use Rattle.object_arena.specs.Fit.{IsFit}
use Rattle.keeper_core.specs.Alone.{alone}
use Rattle.keeper_core.specs.Moment.{Reaches}
use Rattle.keeper_core.specs.Programs.{each}
use Rattle.load_rows.specs.Loading.{loading}
use Rattle.load_queries.specs.Joined.{fill_option, fill_owner}
use Rattle.load_queries.proofs.filling.fill_option.Given as goal

abbrev pub invariant-loop-owner : goal.invariant-loop-owner
invariant-loop-owner l = record {
  step : Reaches alone (fill_option l.mapping l.class l.taken l.owners (l.number, l.part) tt) (loading l.fn.arena l.fn.notes) (each (fill_owner l.mapping l.class l.taken (l.number, l.part)) tt (drop l.owner-index l.owners)) (loading l.arena l.notes);
  fits : IsFit l.mapping l.arena;
  classes : classes_of l.arena ≡ classes_of l.fn.arena;
}
