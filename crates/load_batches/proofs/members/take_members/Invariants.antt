use Rattle.std.proofs.Common.{◌≡◌, true, drop}
use Rattle.std.specs.List.{All}
use Rattle.class_mapping.specs.Mapped.{root_of}
use Rattle.object_arena.specs.Fit.{IsFit, is_of_root}
use Rattle.keeper_core.specs.Alone.{alone}
use Rattle.keeper_core.specs.Moment.{Reaches}
use Rattle.keeper_core.specs.Programs.{each}
use Rattle.load_filling.specs.Growing.{Grows}
use Rattle.load_rows.specs.Loading.{loading}
use Rattle.load_batches.specs.Batches.{objects_in, take_member, take_members}
use Rattle.load_batches.proofs.members.take_members.Given as goal

abbrev pub invariant-loop-row : goal.invariant-loop-row
invariant-loop-row l = record {
  step : Reaches alone (take_members l.mapping l.relation l.rows) (loading l.fn.arena l.fn.notes) (each (take_member l.mapping l.relation) l.members (drop l.row-index l.rows)) (loading l.arena l.notes);
  of : All (λ object. is_of_root l.arena.roots (root_of l.mapping l.relation.target) object ≡ true) (objects_in l.members);
  grows : Grows l.fn.arena l.arena;
  fits : IsFit l.mapping l.arena;
}
