-- What holds of a shell at every line of a script, and behind its end.
use Rattle.std.specs.Prelude.{◌≡◌, ◌<◌, ◌≤◌, ℕ, true, false, List, [], length, take, slice_index_or, Option, None, Some}
use Rattle.std.specs.List.{list_any}
use Rattle.schema_core.specs.Catalog.{no_table}
use Rattle.schema_core.specs.Declaration.{declaration_fault}
use Rattle.class_types.specs.Rules.{Rules}
use Rattle.class_layouts.specs.Faults.{is_bad_cascade}
use Rattle.class_mapping.specs.Lines.{AreLines}
use Rattle.class_mapping.specs.Mapped.{Mapped}
use Rattle.session_laws.specs.Configured.{HasLateLinks, has_late_links}
use Rattle.keeper_core.specs.Keeping.{new_store}
use Rattle.keeper_core.specs.Beside.{Beside}
use Rattle.keeper_core.specs.Programs.{each}
use Rattle.keeper_core.specs.Store.{Store}
use Rattle.command_names.specs.Terms.{Bindings}
use Rattle.byte_streams.specs.Scripts.{lines_of}
use Rattle.shell_parts.specs.declared.block.Block.{Block}
use Rattle.shell_parts.specs.declared.block.Declared.{Declared}
use Rattle.shell_parts.specs.declared.block.Declared.TheVariants.{Table, Class}
use Rattle.shell_replies.specs.declared.notes.PrintOptions.{PrintOptions}
use Rattle.shell_stage.specs.declared.stage.Stage.{Stage}
use Rattle.shell_stage.specs.declared.stage.Stage.TheVariants.{Declaring, Configured}
use Rattle.shell_stage.specs.Stages.{AreBound}
use Rattle.shell_steps.specs.ShellState.{ShellState}
use Rattle.sqla_shell.specs.Reference.{do_and_reply, reference, start}
use Rattle.session_laws.specs.Whole.{IsHale}
use Rattle.session_laws.specs.Health.Calls.{HasOneForEachKey}

-- what a mapping keeps as tables and classes are declared in so many lines
pub record IsBuilt (count : ℕ) (mapped : Mapped) : Type 0 where
  -- each class has its line
  pub lined : length mapped.classes.lines ≡ length mapped.classes.specs
  pub lines : AreLines mapped.schema.tables mapped.classes
  -- no collection says that its foreign key is written late
  pub late : HasLateLinks mapped
  pub orphans : list_any (λ spec. list_any is_bad_cascade spec.relations) mapped.classes.specs ≡ false
  -- each table was free of faults beside those before it, and stands in lines of its own
  pub faultless : (place : ℕ) → place < length mapped.schema.tables → declaration_fault (take place mapped.schema.tables) (slice_index_or mapped.schema.tables place no_table) ≡ None
  pub few : length mapped.schema.tables ≤ count

-- what a block declares says of no collection that its foreign key is written late
abbrev pub IsLateDeclared : Declared → Type 0
IsLateDeclared (Table spec) = Unit {0}
IsLateDeclared (Class spec) = has_late_links spec ≡ true

-- nor does the block that is open
abbrev pub IsLateBlock : Option Block → Type 0
IsLateBlock None = Unit {0}
IsLateBlock (Some block) = IsLateDeclared block.declared

-- Until `configure` nothing is bound and nothing was sent. From then on the session is healthy and whole beside its store, and what names
-- stand for is there.
abbrev pub IsWholeAt : ℕ → Stage → Bindings → Store → Type 0
IsWholeAt count (Declaring mapping) names store = IsBuilt count mapping × (names ≡ []) × (store ≡ new_store.world)
IsWholeAt count (Configured session) names store = IsHale (record { own = session; store = store }) × AreBound (Configured session) names

-- so it is behind so many lines
abbrev pub IsWholeShell : ℕ → Beside ShellState → Type 0
IsWholeShell count world = IsWholeAt count world.own.stage world.own.names world.store × IsLateBlock world.own.desk.block

-- the shell after lines of a script
abbrev pub after_lines : PrintOptions → Rules → List (List ℕ) → Beside ShellState
after_lines options rules lines = (each (do_and_reply rules) tt lines (start options)).after

-- whatever the lines of a script are, where they can be numbered, and whatever they answer
abbrev pub ScriptsStayWhole : Type 0
ScriptsStayWhole = (options : PrintOptions) (rules : Rules) (lines : List (List ℕ)) → length lines ≤ 4294967295 → IsWholeShell (length lines) (after_lines options rules lines)

-- whatever the bytes of a script are: behind its end, where its session is closed
abbrev pub ScriptsEndWhole : Type 0
ScriptsEndWhole = (options : PrintOptions) (rules : Rules) (bytes : List ℕ) → IsWholeShell (length (lines_of bytes).lines) (reference options rules bytes).after

-- one object stands for each key in the session, where there is one
abbrev pub HasOneAt : Stage → Store → Type 0
HasOneAt (Declaring mapping) store = Unit {0}
HasOneAt (Configured session) store = HasOneForEachKey (record { own = session; store = store })

abbrev pub ScriptsHaveOneForEachKey : Type 0
ScriptsHaveOneForEachKey =
    (options : PrintOptions) (rules : Rules) (lines : List (List ℕ)) → length lines ≤ 4294967295 → HasOneAt (after_lines options rules lines).own.stage (after_lines options rules lines).store
