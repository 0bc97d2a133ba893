-- What a load keeps of the objects that there were.
use Rattle.std.specs.Prelude.{◌≡◌, List, ◌++◌}
use Rattle.base_core.specs.declared.ids.ClassId.{ClassId}
use Rattle.object_arena.specs.Every.{classes_of}
use Rattle.object_arena.specs.Graph.{Graph}

-- each object is there still, of its class, and others may stand behind them
pub record Grows (old new : Graph) : Type 0 where
  pub classes : List ClassId
  pub roots : List ClassId
  pub longer : (classes_of new).0 ≡ (classes_of old).0 ++ classes
  pub rooted : (classes_of new).1 ≡ (classes_of old).1 ++ roots
