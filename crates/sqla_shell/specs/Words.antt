-- What the words after the program's name make of a run.
use Rattle.std.specs.Prelude.{◌≡◌, Option, Some, ◌⊎◌}
use Rattle.class_types.specs.Rules.{Rules}
use Rattle.schema_core.specs.Tables.{Tables}
use Rattle.keeper_core.specs.declared.keeper.KeeperStop.{KeeperStop}
use Rattle.keeper_core.specs.declared.keeper.KeeperStop.TheVariants as stops
use Rattle.program_words.specs.declared.options.Options.{Options}
use Rattle.keeper_core.specs.Moment.{Moment}
use Rattle.keeper_core.specs.Store.{Store}
use Rattle.keeper_core.specs.declared.target.Target.{Target}
use Rattle.shell_replies.specs.declared.notes.PrintOptions.{PrintOptions}
use Rattle.sqla_shell.specs.Outcome.{IsReference}
use Rattle.sqla_shell.specs.Seen.{Seen}
use Rattle.sqla_shell.specs.declared.status.Status.{Status}
use Rattle.sqla_shell.specs.declared.status.Status.TheVariants as status

-- how texts are printed by what the words ask for
abbrev pub print_options : Options → PrintOptions
print_options options = record { dialect = options.dialect; echo = options.echo }

-- the run is the reference's from the tables in the target that the words name, or memory ran out before anything happened
abbrev pub IsRun : Options → Rules → (Target → Option Tables) → Seen → Status → Seen → Type 0
IsRun options rules opening old end new =
    ((end ≡ status.Memory) × (new ≡ old)) ⊎ IsReference (print_options options) rules options.target (opening options.target) old end new

-- the keeper was given the target, or memory ran out before that
abbrev pub IsGiven : Moment Store → Target → Status → Moment Store → Type 0
IsGiven old target end new = ((end ≡ status.Memory) × (new ≡ old)) ⊎ (new.target ≡ Some target)

-- the status of a run whose keeper did not take its target
abbrev pub untaken_status : KeeperStop → Status
untaken_status stops.Fault = status.KeeperFault
untaken_status stops.Memory = status.Memory
