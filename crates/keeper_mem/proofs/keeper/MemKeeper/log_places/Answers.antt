-- The log and the places that the tables keep.
use Rattle.std.proofs.Common.{subst}
use Rattle.table_log.specs.Undone.{AreMarks}
use Rattle.keeper_mem.specs.Kept.{Kept}
use Rattle.keeper_mem.proofs.keeper.MemKeeper.log_places.Goals as goal

pub returns-clause-marks : goal.returns-clause-marks
returns-clause-marks c = subst (λ (kept : Kept). AreMarks kept.store kept.marks) c.self.view_is c.log.ensures.marks
