-- Lines that flush leave what is stated, where they are not refused.
use Rattle.std.proofs.Common.{◌≡◌, ℕ, List, length, None, Result, Ok, Err, refl, sym, ap, ◌∙◌, subst}
use Rattle.base_core.specs.declared.refusal.Refusal.{Refusal}
use Rattle.class_types.specs.Rules.{Rules}
use Rattle.command_resolve.specs.declared.answer.Answer.{Answer}
use Rattle.command_resolve.specs.declared.answer.Answer.TheVariants as answer
use Rattle.command_resolve.specs.declared.resolved.Resolved.{Resolved}
use Rattle.command_resolve.specs.declared.resolved.Resolved.TheVariants as resolved
use Rattle.keeper_core.specs.Programs.{Run, quiet}
use Rattle.script_types.specs.declared.command.Command.{Command}
use Rattle.script_types.specs.declared.command.Command.TheVariants as words
use Rattle.session_acts.specs.Steps as acts
use Rattle.session_calls.specs.Parts.{World}
use Rattle.session_perform.specs.Performing.{program_of_resolved, telling}
use Rattle.session_scopes.specs.SessionState.{SessionState}
use Rattle.shell_lines.specs.Desk.{DeskState, said_outside}
use Rattle.shell_lines.specs.declared.desk.Said.TheVariants.{Do}
use Rattle.shell_parts.specs.declared.names.Bound.TheVariants.{Saved}
use Rattle.shell_stage.specs.Asking.{asked}
use Rattle.shell_stage.specs.declared.stage.Stage.{Stage}
use Rattle.shell_stage.specs.declared.stage.Stage.TheVariants.{Declaring, Configured}
use Rattle.shell_steps.specs.Step.{line_step}
use Rattle.sqla_shell.specs.Reference.{do_and_reply}
use Rattle.session_laws.specs.Complete.{CommitsLeaveStatedRows, FlushesLeaveStatedRows, ObjectsState, SavepointsLeaveStatedRows, graph_read}
use Rattle.session_laws.specs.Preparing.{IsReadable}
use Rattle.session_laws.specs.Sound.{IsSound}
use Rattle.session_laws.proofs.Preparing.{hale_readable}
use Rattle.script_laws.specs.Scripts.{IsWholeAt, IsWholeShell, ScriptsStayWhole, after_lines}
use Rattle.script_laws.specs.Answers.Left.{IsStatedAt, LeavesWhatIsStated}
use Rattle.script_laws.specs.Answers.Lines.{BehindLines, ReadsAs}
use Rattle.script_laws.proofs.Answers.Answered.{Gives, Shells, line_refused, line_told, replied, tells, tells_refused, told_of}

module _ {A : Type 0} (rules : Rules) (command : Command) (what : Resolved) (tell : A → Answer) (m : World → Run World A) (does : (at : DeskState) → said_outside command at ≡ quiet (Ok (Do command)) at)
    (asks : (shell : Shells) (session : SessionState) → asked shell.own.options.dialect session.mapping shell.own.names command ≡ Ok what) (is : (v : World) → telling tell m v ≡ program_of_resolved rules what v) (leaves : (v : World) → IsReadable v → IsSound v → (a : A) → (m v).answer ≡ Ok a → ObjectsState v.own.mapping (graph_read v) v.store.tables (m v).after.store.tables) where
  left_at : (count : ℕ) (stage : Stage) (shell : Shells) (line text : List ℕ) → shell.own.stage ≡ stage → IsWholeAt count stage shell.own.names shell.store → ReadsAs shell.own.desk line command → (line_step rules line shell).answer ≡ Ok text
      → IsStatedAt stage shell.store (do_and_reply rules line tt shell).after.store.tables
  left_at count (Declaring mapping) shell line text at whole reads goes = tt
  left_at count (Configured session) shell line text at whole reads goes = by (m (record { own = session; store = shell.store })).answer refl
    where
      by : (r : Result A Refusal) → (m (record { own = session; store = shell.store })).answer ≡ r
          → ObjectsState session.mapping (graph_read (record { own = session; store = shell.store })) shell.store.tables (do_and_reply rules line tt shell).after.store.tables
      by (Err e) failed =
          let v : World = record { own = session; store = shell.store } in
          let refused : (line_step rules line shell).answer ≡ Err e =
          line_refused rules command what session line shell does reads at (asks shell session) e (ap (λ (run : Run World Answer). run.answer) (sym (is v)) ∙ tells_refused tell m v e failed) in
          absurd (let same : Ok text ≡ Err e = sym goes ∙ refused in cc)
      by (Ok a) answered =
          let v : World = record { own = session; store = shell.store } in
          let told : Gives (program_of_resolved rules what v) (tell a) (m v).after = subst (λ (run : Run World Answer). Gives run (tell a) (m v).after) (is v) (tells tell m v a answered) in
          let now : Shells = told_of rules command what session line shell does reads at (asks shell session) (tell a) in
          let step = line_told rules command what session line shell does reads at (asks shell session) (tell a) told.answer in
          let out = replied rules line shell _ now step in
          subst (ObjectsState session.mapping (graph_read v) shell.store.tables) (sym (ap (λ (u : Shells). u.store.tables) out.left ∙ ap (λ (u : World). u.store.tables) told.left))
          (leaves v (hale_readable v whole.0) whole.0.healthy.sound a answered)

  line_left : (count : ℕ) (shell : Shells) → IsWholeShell count shell → LeavesWhatIsStated command rules shell
  line_left count shell whole line text reads goes = left_at count shell.own.stage shell line text refl whole.0 reads goes

pub flush_left : FlushesLeaveStatedRows → ScriptsStayWhole → BehindLines (LeavesWhatIsStated words.Flush)
flush_left leaves stay options rules lines few =
    line_left rules words.Flush resolved.Flush (λ u. answer.Nothing) acts.flush_now (λ at. refl) (λ shell session. refl) (λ v. refl) (λ v can sound u is. leaves v can sound is) (length lines) (after_lines options rules lines)
    (stay options rules lines few)

pub commit_left : CommitsLeaveStatedRows → ScriptsStayWhole → BehindLines (LeavesWhatIsStated (words.Commit None))
commit_left leaves stay options rules lines few =
    line_left rules (words.Commit None) (resolved.Commit None) (λ u. answer.Nothing) acts.commit (λ at. refl) (λ shell session. refl) (λ v. refl) (λ v can sound u is. leaves v can sound is) (length lines) (after_lines options rules lines)
    (stay options rules lines few)

pub savepoint_left : SavepointsLeaveStatedRows → ScriptsStayWhole → (name : List ℕ) → BehindLines (LeavesWhatIsStated (words.BeginNested name))
savepoint_left leaves stay name options rules lines few =
    line_left rules (words.BeginNested name) (resolved.BeginNested name) (λ handle. answer.Bind name (Saved handle)) acts.begin_nested (λ at. refl) (λ shell session. refl) (λ v. refl) (λ v can sound handle is. leaves v handle can sound is) (length lines) (after_lines options rules lines)
    (stay options rules lines few)
