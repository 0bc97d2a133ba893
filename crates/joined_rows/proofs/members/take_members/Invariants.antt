use Rattle.std.proofs.Common.{◌≡◌, length, drop}
use Rattle.object_arena.specs.Fit.{IsFit}
use Rattle.keeper_core.specs.Alone.{alone}
use Rattle.keeper_core.specs.Moment.{Reaches}
use Rattle.keeper_core.specs.Programs.{each}
use Rattle.load_filling.specs.Growing.{Grows}
use Rattle.load_rows.specs.Loading.{loading}
use Rattle.joined_rows.specs.Taking.{AreMembers, take_members, take_next}
use Rattle.joined_rows.proofs.members.take_members.Given as goal

abbrev pub invariant-loop-part : goal.invariant-loop-part
invariant-loop-part l = record {
  step : Reaches alone (take_members l.mapping l.parts l.row) (loading l.fn.arena l.fn.notes) (each (take_next l.mapping l.row) l.members (drop l.part-index l.parts)) (loading l.arena l.notes);
  of : AreMembers l.mapping l.arena.roots l.parts l.members;
  long : length l.members ≡ l.part-index;
  grows : Grows l.fn.arena l.arena;
  fits : IsFit l.mapping l.arena;
}
