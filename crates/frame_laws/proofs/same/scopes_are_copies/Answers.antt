use Rattle.frame_laws.proofs.Beginning.{begin_same, changes_same, starts_same}
use Rattle.frame_laws.proofs.Ending.{ends_same}
use Rattle.frame_laws.proofs.Restoring.{restores_same}
use Rattle.frame_laws.proofs.Touching.{touch_same}
use Rattle.frame_laws.proofs.same.scopes_are_copies.Goals as goal

pub returns-clause-starts : goal.returns-clause-starts
returns-clause-starts c = starts_same

pub returns-clause-changes : goal.returns-clause-changes
returns-clause-changes c = changes_same

pub returns-clause-begins : goal.returns-clause-begins
returns-clause-begins c = begin_same

pub returns-clause-touches : goal.returns-clause-touches
returns-clause-touches c = touch_same

pub returns-clause-ends : goal.returns-clause-ends
returns-clause-ends c = ends_same

pub returns-clause-restored : goal.returns-clause-restored
returns-clause-restored c = restores_same
