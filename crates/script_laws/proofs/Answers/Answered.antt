-- What a shell makes of a line whose command the session answers.
use Rattle.std.proofs.Common.{◌≡◌, ℕ, List, [], ◌++◌, Option, None, Result, Ok, Err, refl, sym, ap, ◌∙◌, subst}
use Rattle.base_core.specs.declared.refusal.Refusal.{Refusal}
use Rattle.class_types.specs.Rules.{Rules}
use Rattle.command_resolve.specs.declared.answer.Answer.{Answer}
use Rattle.command_resolve.specs.declared.resolved.Resolved.{Resolved}
use Rattle.keeper_core.specs.Beside.{Beside, by_own, on_own}
use Rattle.keeper_core.specs.Programs.{Event, Run, ◌>>=◌, ask, continue_from, give, handle_refusal, quiet, recover_from, with_events_before}
use Rattle.script_types.specs.declared.command.Command.{Command}
use Rattle.session_calls.specs.Parts.{World}
use Rattle.session_perform.specs.Performing.{program_of_resolved, telling}
use Rattle.session_scopes.specs.SessionState.{SessionState}
use Rattle.shell_lines.specs.Desk.{DeskState, next_line, said_line, said_outside, said_read}
use Rattle.shell_lines.specs.declared.desk.Said.{Said}
use Rattle.shell_lines.specs.declared.desk.Said.TheVariants.{Do}
use Rattle.shell_parts.specs.declared.block.Block.{Block}
use Rattle.shell_replies.specs.Answers.{answer_text}
use Rattle.shell_stage.specs.Asking.{asked}
use Rattle.shell_stage.specs.declared.stage.Stage.{Stage}
use Rattle.shell_stage.specs.declared.stage.Stage.TheVariants.{Configured}
use Rattle.shell_stage.specs.Step.{performed, without_notes}
use Rattle.shell_steps.specs.ShellState.{ShellState}
use Rattle.shell_steps.specs.Step.{answer_to, at_desk, at_stage, do_command, do_said, in_session, line_step, notes_told, perform, reply_to, run_at, session_run, tell_answer, tell_here, tell_notes, with_answer, with_session}
use Rattle.sqla_shell.specs.Reference.{do_and_reply, writes}
use Rattle.script_laws.specs.Answers.Lines.{ReadsAs}

abbrev pub Shells : Type 0
Shells = Beside ShellState

-- a run answers this, and leaves the world so
pub record Gives {W A : Type 0} (run : Run W A) (a : A) (after : W) : Type 0 where
  pub answer : run.answer ≡ Ok a
  pub left : run.after ≡ after

-- ---- the line is read

-- a line that the session is to do moves the script on, and no more
pub said_is : (desk : DeskState) (line : List ℕ) (command : Command) → ReadsAs desk line command → ((at : DeskState) → said_outside command at ≡ quiet (Ok (Do command)) at) → said_line line desk ≡ quiet (Ok (Do command)) (next_line desk)
unfolding said_line
said_is desk line command reads does =
    let outside : DeskState = next_line (record desk { block = None }) in
    ap (λ (block : Option Block). said_line line (record desk { block = block })) reads.outside
    ∙ ap (λ (r : Result Command Refusal). said_read r outside) reads.read
    ∙ does outside
    ∙ ap (λ (block : Option Block). quiet (Ok (Do command)) (next_line (record desk { block = block }))) (sym reads.outside)

-- ---- the session answers

pub tells : {A : Type 0} (tell : A → Answer) (m : World → Run World A) (v : World) (a : A) → (m v).answer ≡ Ok a → Gives (telling tell m v) (tell a) (m v).after
unfolding ◌>>=◌ give
tells {A = A} tell m v a is = subst (λ (r : Result A Refusal). Gives (continue_from (m v).events (m v).after r (λ a. give (tell a))) (tell a) (m v).after) (sym is) (record { answer = refl; left = refl })

pub tells_refused : {A : Type 0} (tell : A → Answer) (m : World → Run World A) (v : World) (e : Refusal) → (m v).answer ≡ Err e → (telling tell m v).answer ≡ Err e
unfolding ◌>>=◌ give
tells_refused {A = A} tell m v e is = ap (λ (r : Result A Refusal). (continue_from (m v).events (m v).after r (λ a. give (tell a))).answer) is

-- ---- the shell tells it

module _ (rules : Rules) (command : Command) (what : Resolved) (session : SessionState) (line : List ℕ) (w : Shells) (does : (at : DeskState) → said_outside command at ≡ quiet (Ok (Do command)) at) (reads : ReadsAs w.own.desk line command)
    (at : w.own.stage ≡ Configured session) (asks : asked w.own.options.dialect session.mapping w.own.names command ≡ Ok what) where
  -- what the session does, and the shell at the line
  abbrev pub run : Run World Answer
  run = program_of_resolved rules what (record { own = session; store = w.store })

  abbrev moved : ShellState
  moved = record w.own { desk = next_line w.own.desk }

  abbrev asking : Run Shells Answer
  asking = session_run moved (with_events_before [] run)

  abbrev answering : Result Answer Refusal → Run Shells (List ℕ)
  answering r = continue_from asking.events asking.after r (λ answer. on_own (tell_answer answer))

  asks_session : perform rules command (record { own = moved; store = w.store }) ≡ asking
  unfolding perform performed by_own in_session on_own ask ◌>>=◌
  asks_session =
      ap (λ (s : Stage). run_at s (performed rules w.own.options.dialect w.own.names command) (record { own = moved; store = w.store })) at
      ∙ ap (λ (r : Result Resolved Refusal). session_run moved (continue_from [] (record { own = session; store = w.store }) r (program_of_resolved rules))) asks

  step_is : line_step rules line w ≡ with_events_before [] (answering run.answer)
  unfolding line_step at_desk on_own do_command ◌>>=◌
  step_is =
      ap (λ (said : Run DeskState Said). continue_from said.events (record { own = record w.own { desk = said.after }; store = w.store }) said.answer (do_said rules)) (said_is w.own.desk line command reads does)
      ∙ ap (λ (r : Run Shells Answer). with_events_before [] (continue_from r.events r.after r.answer (λ answer. on_own (tell_answer answer)))) asks_session

  -- the shell once the session has answered
  abbrev pub told_of : Answer → Shells
  told_of a = record { own = with_answer a (with_session moved run.after.own); store = run.after.store }

  pub line_told : (a : Answer) → run.answer ≡ Ok a → Gives (line_step rules line w) (answer_text run.after.own.mapping a) (told_of a)
  unfolding on_own tell_answer
  line_told a is = record {
    answer = ap (λ (r : Run Shells (List ℕ)). r.answer) step_is ∙ ap (λ (r : Result Answer Refusal). (answering r).answer) is;
    left = ap (λ (r : Run Shells (List ℕ)). r.after) step_is ∙ ap (λ (r : Result Answer Refusal). (answering r).after) is;
  }

  pub line_refused : (e : Refusal) → run.answer ≡ Err e → (line_step rules line w).answer ≡ Err e
  line_refused e is = ap (λ (r : Run Shells (List ℕ)). r.answer) step_is ∙ ap (λ (r : Result Answer Refusal). (answering r).answer) is

-- ---- its reply goes out

-- what a line of a shell comes to that answers this text, and leaves the shell so
pub record IsReplied (rules : Rules) (line : List ℕ) (w : Shells) (text : List ℕ) (after : Shells) : Type 0 where
  pub reply : (reply_to rules line w).answer ≡ Ok (notes_told after.own ++ text)
  pub left : (do_and_reply rules line tt w).after ≡ record { own = at_stage after.own (without_notes after.own.stage); store = after.store }

reply_goes : (events : List Event) (v : Shells) (r : Result (List ℕ) Refusal) (text : List ℕ) → r ≡ Ok text
    → (let caught : Run Shells (List ℕ) = recover_from events v r (λ e. on_own (tell_here e)) in
    let told : Run Shells (List ℕ) = continue_from caught.events caught.after caught.answer (λ reply. on_own (tell_notes reply)) in
    (told.answer ≡ Ok (notes_told v.own ++ text)) × ((continue_from told.events told.after told.answer writes).after ≡ record { own = at_stage v.own (without_notes v.own.stage); store = v.store }))
unfolding on_own tell_notes writes
reply_goes events v r text is =
    subst (λ (r : Result (List ℕ) Refusal). (let caught : Run Shells (List ℕ) = recover_from events v r (λ e. on_own (tell_here e)) in
    let told : Run Shells (List ℕ) = continue_from caught.events caught.after caught.answer (λ reply. on_own (tell_notes reply)) in
    (told.answer ≡ Ok (notes_told v.own ++ text)) × ((continue_from told.events told.after told.answer writes).after ≡ record { own = at_stage v.own (without_notes v.own.stage); store = v.store }))) (sym is) (refl, refl)

pub replied : (rules : Rules) (line : List ℕ) (w : Shells) (text : List ℕ) (after : Shells) → Gives (line_step rules line w) text after → IsReplied rules line w text after
unfolding do_and_reply reply_to answer_to handle_refusal ◌>>=◌
replied rules line w text after gives =
    let run : Run Shells (List ℕ) = line_step rules line w in
    let goes = reply_goes run.events run.after run.answer text gives.answer in
    record {
      reply = goes.0 ∙ ap (λ (v : Shells). Ok (notes_told v.own ++ text)) gives.left;
      left = goes.1 ∙ ap (λ (v : Shells). record { own = at_stage v.own (without_notes v.own.stage); store = v.store }) gives.left;
    }
