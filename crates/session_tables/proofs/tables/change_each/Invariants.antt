use Rattle.std.proofs.Common.{drop}
use Rattle.keeper_core.specs.Beside.{moment_beside}
use Rattle.keeper_core.specs.Programs.{each}
use Rattle.keeper_core.specs.Moment.{Reaches}
use Rattle.session_scopes.specs.SessionState.{AreAlikeButNotes, IsInStep}
use Rattle.session_tables.specs.Steps.{change_one}
use Rattle.session_tables.proofs.tables.change_each.Given as goal

abbrev pub invariant-loop-table : goal.invariant-loop-table
invariant-loop-table g l =
    Reaches (moment_beside g.K.Keeper.moment) (each (change_one l.change) tt l.order) (l.fn.session, l.fn.keeper) (each (change_one l.change) tt (drop l.table-index l.order)) (l.session, l.keeper)
    × AreAlikeButNotes l.fn.session l.session
    × IsInStep l.session (g.K.Keeper.moment l.keeper)
