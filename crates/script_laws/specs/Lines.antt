-- What the lines of scripts keep of a session, whatever they answer.
use Rattle.std.specs.Prelude.{Option, None, Some}
use Rattle.class_types.specs.Rules.{Rules}
use Rattle.keeper_core.specs.Moment.{Told}
use Rattle.keeper_core.specs.Store.{Store}
use Rattle.session_calls.specs.Parts.{World}
use Rattle.session_laws.specs.Flushes.{world_of}
use Rattle.session_scopes.specs.SessionState.{SessionState}
use Rattle.session_perform.specs.Performing.{IsReady, program_of_resolved}
use Rattle.command_resolve.specs.declared.resolved.Resolved.{Resolved}
use Rattle.session_laws.specs.Whole.{IsHale}

-- whatever a resolved line asks for, and whatever it answers, a healthy session that is whole stays so, where all that it names
-- is there
abbrev pub LinesKeepWhole : Type 0
LinesKeepWhole = (rules : Rules) (line : Resolved) (world : World) → IsHale world → IsReady world.own line → IsHale (program_of_resolved rules line world).after

-- a keeper tells, and beside what it tells the session is so
abbrev pub IsHaleBeside : SessionState → Option (Told Store) → Type 0
IsHaleBeside session None = ⊥
IsHaleBeside session (Some told) = IsHale (world_of session told)
