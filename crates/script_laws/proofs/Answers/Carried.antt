-- Lines that flush are carried out where what the objects state can be written.
use Rattle.std.proofs.Common.{◌≡◌, ◌<◌, ℕ, List, [], ◌++◌, length, None, Ok, refl, sym, ap, ◌∙◌, subst, append-nil}
use Rattle.schema_core.specs.Tables.{Tables}
use Rattle.class_types.specs.Rules.{Rules}
use Rattle.command_resolve.specs.declared.answer.Answer.{Answer}
use Rattle.command_resolve.specs.declared.answer.Answer.TheVariants as answer
use Rattle.command_resolve.specs.declared.resolved.Resolved.{Resolved}
use Rattle.command_resolve.specs.declared.resolved.Resolved.TheVariants as resolved
use Rattle.keeper_core.specs.Programs.{Run, quiet}
use Rattle.savepoints.specs.Scopes.{scope_limit}
use Rattle.script_types.specs.declared.command.Command.{Command}
use Rattle.script_types.specs.declared.command.Command.TheVariants as words
use Rattle.session_acts.specs.Steps as acts
use Rattle.session_calls.specs.Parts.{World}
use Rattle.session_perform.specs.Performing.{program_of_resolved, quietly}
use Rattle.session_scopes.specs.SessionState.{SessionState}
use Rattle.shell_lines.specs.Desk.{DeskState, said_outside}
use Rattle.shell_lines.specs.declared.desk.Said.TheVariants.{Do}
use Rattle.shell_parts.specs.Bindings.{bind}
use Rattle.shell_parts.specs.declared.names.Bound.TheVariants.{Saved}
use Rattle.shell_replies.specs.Answers.{answer_text}
use Rattle.shell_stage.specs.Asking.{asked}
use Rattle.shell_stage.specs.declared.stage.Stage.{Stage}
use Rattle.shell_stage.specs.declared.stage.Stage.TheVariants.{Declaring, Configured}
use Rattle.shell_stage.specs.Step.{names_with}
use Rattle.shell_steps.specs.Step.{notes_told}
use Rattle.sqla_shell.specs.Reference.{do_and_reply}
use Rattle.session_laws.specs.Complete.{CanBeWritten, CommitsAnswer, FlushesAnswer, SavepointsAnswer}
use Rattle.session_laws.specs.Whole.{IsHale}
use Rattle.session_laws.proofs.Preparing.{hale_readable}
use Rattle.script_laws.specs.Scripts.{IsWholeAt, IsWholeShell, ScriptsStayWhole, after_lines}
use Rattle.script_laws.specs.Answers.Lines.{BeginsSavepoints, BehindLines, CanBeWrittenAt, CarriesOut, HasRoomAt, IsCarriedOut, ReadsAs}
use Rattle.script_laws.proofs.Answers.Answered.{Gives, Shells, line_told, replied, tells, told_of}

-- ---- a line that the session answers without words

-- the line is carried out, and its answer is bound
record IsDone (rules : Rules) (shell : Shells) (line : List ℕ) (a : Answer) (tables : Tables) : Type 0 where
  carried : IsCarriedOut rules shell line tables
  names : (do_and_reply rules line tt shell).after.own.names ≡ names_with a shell.own.names

done : (rules : Rules) (command : Command) (what : Resolved) (shell : Shells) (session : SessionState) (line : List ℕ) (a : Answer) (tables : Tables) → ((at : DeskState) → said_outside command at ≡ quiet (Ok (Do command)) at) → ReadsAs shell.own.desk line command
    → shell.own.stage ≡ Configured session → asked shell.own.options.dialect session.mapping shell.own.names command ≡ Ok what
    → (let run : Run World Answer = program_of_resolved rules what (record { own = session; store = shell.store }) in (run.answer ≡ Ok a) × (answer_text run.after.own.mapping a ≡ []) × (run.after.store.tables ≡ tables)) → IsDone rules shell line a tables
done rules command what shell session line a tables does reads at asks is =
    let now : Shells = told_of rules command what session line shell does reads at asks a in
    let step = line_told rules command what session line shell does reads at asks a is.0 in
    let goes = replied rules line shell _ now step in
    record {
      carried = record {
        answer = step.answer ∙ ap Ok is.1;
        reply = goes.reply ∙ ap (λ (text : List ℕ). Ok (notes_told now.own ++ text)) is.1 ∙ ap Ok (append-nil (notes_told now.own)) ∙ ap (λ (u : Shells). Ok (notes_told u.own)) (sym step.left);
        refused = ap (λ (u : Shells). u.own.desk.refused) goes.left;
        tables = ap (λ (u : Shells). u.store.tables) goes.left ∙ is.2;
      };
      names = ap (λ (u : Shells). u.own.names) goes.left;
    }

-- ---- a flush and a commit

module _ (rules : Rules) (command : Command) (what : Resolved) (m : World → Run World (Unit {0})) (does : (at : DeskState) → said_outside command at ≡ quiet (Ok (Do command)) at)
    (asks : (shell : Shells) (session : SessionState) → asked shell.own.options.dialect session.mapping shell.own.names command ≡ Ok what) (is : (v : World) → quietly m v ≡ program_of_resolved rules what v)
    (writes : (v : World) (after : Tables) → IsHale v → CanBeWritten v after → ((m v).answer ≡ Ok tt) × ((m v).after.store.tables ≡ after)) where
  quiet_at : (count : ℕ) (stage : Stage) (shell : Shells) (line : List ℕ) (after : Tables) → shell.own.stage ≡ stage → IsWholeAt count stage shell.own.names shell.store → ReadsAs shell.own.desk line command → CanBeWrittenAt stage shell.store after → IsCarriedOut rules shell line after
  quiet_at count (Declaring mapping) shell line after at whole reads can = absurd can
  quiet_at count (Configured session) shell line after at whole reads can =
      let v : World = record { own = session; store = shell.store } in
      let wrote = writes v after whole.0 can in
      let told : Gives (program_of_resolved rules what v) answer.Nothing (m v).after = subst (λ (run : Run World Answer). Gives run answer.Nothing (m v).after) (is v) (tells (λ u. answer.Nothing) m v tt wrote.0) in
      (done rules command what shell session line answer.Nothing after does reads at (asks shell session) (told.answer, refl, ap (λ (u : World). u.store.tables) told.left ∙ wrote.1)).carried

  quiet_line : (count : ℕ) (shell : Shells) → IsWholeShell count shell → CarriesOut command rules shell
  quiet_line count shell whole line after reads can = quiet_at count shell.own.stage shell line after refl whole.0 reads can

pub flush_law : FlushesAnswer → ScriptsStayWhole → BehindLines (CarriesOut words.Flush)
flush_law answers stay options rules lines few =
    quiet_line rules words.Flush resolved.Flush acts.flush_now (λ at. refl) (λ shell session. refl) (λ v. refl) (λ v after hale can. answers v after (hale_readable v hale) hale.healthy.sound can) (length lines)
    (after_lines options rules lines) (stay options rules lines few)

pub commit_law : CommitsAnswer → ScriptsStayWhole → BehindLines (CarriesOut (words.Commit None))
commit_law answers stay options rules lines few =
    quiet_line rules (words.Commit None) (resolved.Commit None) acts.commit (λ at. refl) (λ shell session. refl) (λ v. refl) (λ v after hale can. answers v after (hale_readable v hale) hale.healthy.sound can) (length lines)
    (after_lines options rules lines) (stay options rules lines few)

-- ---- the beginning of a savepoint

module _ (rules : Rules)
    (begins : (v : World) (after : Tables) → IsHale v → CanBeWritten v after → length v.own.frames.scopes < scope_limit → (handle : ℕ) × ((acts.begin_nested v).answer ≡ Ok handle) × ((acts.begin_nested v).after.store.tables ≡ after)) where
  savepoint_at : (count : ℕ) (stage : Stage) (shell : Shells) (line name : List ℕ) (after : Tables) → shell.own.stage ≡ stage → IsWholeAt count stage shell.own.names shell.store → ReadsAs shell.own.desk line (words.BeginNested name) → CanBeWrittenAt stage shell.store after → HasRoomAt stage
      → IsCarriedOut rules shell line after × (handle : ℕ) × ((do_and_reply rules line tt shell).after.own.names ≡ bind shell.own.names name (Saved handle))
  savepoint_at count (Declaring mapping) shell line name after at whole reads can room = absurd can
  savepoint_at count (Configured session) shell line name after at whole reads can room =
      let v : World = record { own = session; store = shell.store } in
      let begun = begins v after whole.0 can room in
      let tell : ℕ → Answer = λ handle. answer.Bind name (Saved handle) in
      let told = tells tell acts.begin_nested v begun.0 begun.1 in
      let did =
      done rules (words.BeginNested name) (resolved.BeginNested name) shell session line (tell begun.0) after (λ at. refl) reads at refl (told.answer, refl, ap (λ (u : World). u.store.tables) told.left ∙ begun.2) in (
        did.carried,
        begun.0,
        did.names,
      )

pub savepoint_law : SavepointsAnswer → ScriptsStayWhole → BehindLines BeginsSavepoints
savepoint_law answers stay options rules lines few line name after reads can room =
    let shell : Shells = after_lines options rules lines in
    savepoint_at rules (λ v after hale can. answers v after (hale_readable v hale) hale.healthy.sound can) (length lines) shell.own.stage
    shell line name after refl (stay options rules lines few).0 reads can room
