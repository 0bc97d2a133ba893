-- What the lines of a script do, each as a program of the store and of the shell beside it. A program answers its reply.
use Rattle.std.specs.Prelude.{ℕ, List, [], ◌++◌, Option, None, Some, Result, Ok, Err}
use Rattle.base_core.specs.declared.refusal.RequestKind.TheVariants.{NotConfigured}
use Rattle.base_core.specs.declared.refusal.Refusal.{Refusal}
use Rattle.base_core.specs.declared.refusal.Refusal.TheVariants.{InvalidRequestError, ScriptError}
use Rattle.class_types.specs.Rules.{Rules}
use Rattle.script_types.specs.declared.command.Command.{Command}
use Rattle.shell_parts.specs.declared.block.Block.{Block}
use Rattle.keeper_core.specs.Programs.{Run, ◌>>=◌, ask, becomes, change, give, handle_refusal, quiet}
use Rattle.keeper_core.specs.Beside.{Beside, by_own, on_own}
use Rattle.session_scopes.specs.SessionState.{SessionState}
use Rattle.session_calls.specs.Steps as session
use Rattle.command_resolve.specs.declared.answer.Answer.{Answer}
use Rattle.command_resolve.specs.declared.answer.Answer.TheVariants as answer
use Rattle.shell_lines.specs.declared.desk.Said.{Said}
use Rattle.shell_lines.specs.declared.desk.Said.TheVariants.{Nothing, Configure, Declare, Compile, Do}
use Rattle.shell_lines.specs.Desk.{DeskState, said_line, with_refused}
use Rattle.shell_replies.specs.Answers.{answer_text}
use Rattle.shell_replies.specs.Replies.{error_line}
use Rattle.shell_stage.specs.declared.stage.Stage.{Stage}
use Rattle.shell_stage.specs.declared.stage.Stage.TheVariants.{Declaring, Configured}
use Rattle.shell_stage.specs.Asking.{compiled_at}
use Rattle.shell_stage.specs.Stages.{mapping_of}
use Rattle.shell_stage.specs.Step.{declared_stage, names_at, names_with, notes_at, opened_stage, performed, without_notes}
use Rattle.shell_steps.specs.ShellState.{ShellState}

-- the world of a line: the shell, and the store
abbrev pub World : Type 0
World = Beside ShellState

-- ---- the parts of the shell

-- the shell at another stage
abbrev pub at_stage : ShellState → Stage → ShellState
at_stage shell stage = record shell { stage = stage }

-- the shell with its session after a call
abbrev pub with_session : ShellState → SessionState → ShellState
with_session shell session = at_stage shell (Configured session)

abbrev pub session_run : {A : Type 0} → ShellState → Run (Beside SessionState) A → Run World A
session_run shell run = record { events = run.events; answer = run.answer; after = record { own = with_session shell run.after.own; store = run.after.store } }

abbrev pub run_at : {A : Type 0} → Stage → (Beside SessionState → Run (Beside SessionState) A) → World → Run World A
run_at (Declaring mapping) m w = quiet (Err (InvalidRequestError NotConfigured)) w
run_at (Configured session) m w = session_run w.own (m (record { own = session; store = w.store }))

-- a program of the session and the store, once there is a session
unfoldable pub in_session : {A : Type 0} → (Beside SessionState → Run (Beside SessionState) A) → World → Run World A
in_session m w = run_at w.own.stage m w

abbrev pub desk_run : {A : Type 0} → ShellState → Run DeskState A → Run ShellState A
desk_run shell run = record { events = run.events; answer = run.answer; after = record shell { desk = run.after } }

-- a program of the place where the script stands
unfoldable pub at_desk : {A : Type 0} → (DeskState → Run DeskState A) → ShellState → Run ShellState A
at_desk m shell = desk_run shell (m shell.desk)

-- ---- declarations

abbrev pub at_stage_of : ShellState → Result Stage Refusal → Result ShellState Refusal
at_stage_of shell (Ok stage) = Ok (at_stage shell stage)
at_stage_of shell (Err e) = Err e

-- the shell goes to another stage, or is refused
unfoldable pub goes : (Stage → Result Stage Refusal) → ShellState → Run ShellState (Unit {0})
goes step = becomes (λ shell. at_stage_of shell (step shell.stage))

-- the shell goes to another stage, and nothing is told
unfoldable pub turn : (Stage → Result Stage Refusal) → World → Run World (List ℕ)
turn step = on_own (goes step) >>= λ u. give []

-- ---- commands

unfoldable pub perform : Rules → Command → World → Run World Answer
perform rules command = by_own (λ shell. in_session (performed rules shell.options.dialect shell.names command))

abbrev pub with_answer : Answer → ShellState → ShellState
with_answer answer shell = record shell { names = names_with answer shell.names }

-- what is told of the answer; what is to be bound is bound
unfoldable pub tell_answer : Answer → ShellState → Run ShellState (List ℕ)
tell_answer answer shell = quiet (Ok (answer_text (mapping_of shell.stage) answer)) (with_answer answer shell)

-- a command of the session is done, and its reply told
unfoldable pub do_command : Rules → Command → World → Run World (List ℕ)
do_command rules command = perform rules command >>= λ answer. on_own (tell_answer answer)

-- what is answered to a line that compiles
unfoldable pub compile : Command → ShellState → Run ShellState (List ℕ)
compile command = ask (λ shell. compiled_at shell.stage command)

-- ---- a line

-- what a line comes to is done
abbrev pub do_said : Rules → Said → World → Run World (List ℕ)
do_said rules Nothing = give []
do_said rules Configure = turn opened_stage
do_said rules (Declare block) = turn (declared_stage rules block)
do_said rules (Compile command) = on_own (compile command)
do_said rules (Do command) = do_command rules command

-- a line is read and done
unfoldable pub line_step : Rules → List ℕ → World → Run World (List ℕ)
line_step rules bytes = on_own (at_desk (said_line bytes)) >>= do_said rules

-- ---- replies

abbrev pub shell_refused : ShellState → ShellState
shell_refused shell = record shell { desk = with_refused shell.desk }

-- the line that says why the line of this number is refused
abbrev pub error_text : ℕ → Refusal → ShellState → List ℕ
error_text number e shell = error_line (names_at shell.stage) number e

-- the refusal of the line of this number is told
unfoldable pub tell : ℕ → Refusal → ShellState → Run ShellState (List ℕ)
tell number e = change shell_refused >>= λ _. ask (λ shell. Ok (error_text number e shell))

abbrev pub tell_here : Refusal → ShellState → Run ShellState (List ℕ)
tell_here e shell = tell shell.desk.line e shell

-- the reply to a line: what it answers, or why it is refused
unfoldable pub answer_to : Rules → List ℕ → World → Run World (List ℕ)
answer_to rules bytes = handle_refusal (λ e. on_own (tell_here e)) (line_step rules bytes)

-- what is told of what the line did
abbrev pub notes_told : ShellState → List ℕ
notes_told shell = notes_at shell.options shell.desk.line shell.stage

-- what the line did is told before its reply, and forgotten
unfoldable pub tell_notes : List ℕ → ShellState → Run ShellState (List ℕ)
tell_notes reply shell = quiet (Ok (notes_told shell ++ reply)) (at_stage shell (without_notes shell.stage))

-- A line is done: what is told of what it did, and its reply. Validators have these rules.
unfoldable pub reply_to : Rules → List ℕ → World → Run World (List ℕ)
reply_to rules bytes = answer_to rules bytes >>= λ reply. on_own (tell_notes reply)

abbrev pub end_of_script_in : Option Block → ShellState → Run ShellState (List ℕ)
end_of_script_in None = give []
end_of_script_in (Some block) = tell block.first (ScriptError block.first 1)

-- the script has ended: a block that is open is refused at its first line
unfoldable pub end_of_script : ShellState → Run ShellState (List ℕ)
end_of_script shell = end_of_script_in shell.desk.block shell

unfoldable pub end_reply : World → Run World (List ℕ)
end_reply = on_own end_of_script

abbrev pub close_session_at : Stage → World → Run World (Unit {0})
close_session_at (Declaring mapping) = give tt
close_session_at (Configured state) = in_session session.close

-- the session is closed, where there is one
unfoldable pub close_stage : World → Run World (Unit {0})
close_stage = by_own (λ shell. close_session_at shell.stage)

-- the session is closed, and what that did is told
unfoldable pub close_session : World → Run World (List ℕ)
close_session = close_stage >>= λ u. on_own (tell_notes [])
