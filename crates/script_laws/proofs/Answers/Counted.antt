-- A command counts as refused exactly where its line is, and a block that is open at the end.
use Rattle.std.proofs.Common.{◌≡◌, ℕ, Bool, true, false, not, ◌&&◌, ◌||◌, List, [], ◌∷◌, Option, None, Some, Result, Ok, Err, refl, sym, ap, ◌∙◌, subst}
use Rattle.std.specs.Prelude.{if◌then◌else◌, is_none, is_ok, is_some}
use Rattle.base_core.specs.declared.refusal.Refusal.{Refusal}
use Rattle.class_types.specs.Rules.{Rules}
use Rattle.command_resolve.specs.declared.answer.Answer.{Answer}
use Rattle.table_laws.proofs.EachJoin.{keeps_give, keeps_then}
use Rattle.table_laws.specs.Legality.{Keeps}
use Rattle.keeper_core.specs.Beside.{Beside, by_own, on_own}
use Rattle.keeper_core.specs.Programs.{Event, Run, ◌>>=◌, ask, become, becomes, change, continue_from, each, give, handle_refusal, quiet, recover_from}
use Rattle.byte_streams.specs.Scripts.{lines_of}
use Rattle.script_read.specs.Line.{line as read_as}
use Rattle.script_types.specs.declared.command.Command.{Command}
use Rattle.session_scopes.specs.SessionState.{SessionState}
use Rattle.shell_lines.specs.Desk.{DeskState, done_of, ends_block, is_configure, is_head, is_skip, is_skipped, next_line, opened, place_of, said_at, said_line, said_read, unless_end, with_block, with_line_taken}
use Rattle.shell_lines.specs.Lines.{is_end}
use Rattle.shell_lines.specs.declared.desk.Said.{Said}
use Rattle.shell_lines.specs.declared.desk.Said.TheVariants.{Nothing, Configure, Declare, Compile, Do}
use Rattle.shell_parts.specs.Blocks.{block_of}
use Rattle.shell_parts.specs.declared.block.Block.{Block}
use Rattle.shell_replies.specs.declared.notes.PrintOptions.{PrintOptions}
use Rattle.shell_stage.specs.declared.stage.Stage.{Stage}
use Rattle.shell_stage.specs.declared.stage.Stage.TheVariants.{Declaring, Configured}
use Rattle.shell_stage.specs.Step.{performed}
use Rattle.shell_steps.specs.ShellState.{ShellState}
use Rattle.shell_steps.specs.Step.{answer_to, at_desk, at_stage_of, close_session, close_session_at, close_stage, compile, do_command, do_said, end_of_script, end_of_script_in, end_reply, goes, in_session, line_step, perform, reply_to, run_at, tell, tell_answer, tell_here, tell_notes, turn}
use Rattle.sqla_shell.specs.declared.ending.Ending.{Ending}
use Rattle.sqla_shell.specs.declared.ending.Ending.TheVariants.{Finished}
use Rattle.sqla_shell.specs.Reference.{close_and_tell, do_and_reply, end_script, end_unless_too_long, reference, script, start, writes}
use Rattle.script_laws.specs.Answers.Runs.{are_answered, is_answered, is_script_answered}
use Rattle.script_laws.proofs.Answers.Answered.{Shells}

-- ---- what a line comes to counts nothing

unless_counts : (ends : Bool) (desk : DeskState) → (unless_end ends desk).refused ≡ desk.refused
unless_counts true desk = refl
unless_counts false desk = refl

opened_counts : (r : Result Block Refusal) (desk : DeskState) → (opened r desk).after.refused ≡ desk.refused
opened_counts (Ok block) desk = refl
opened_counts (Err e) desk = refl

outside_counts : (skip head configures : Bool) (command : Command) (desk : DeskState)
    → (let run : Run DeskState Said = if skip then quiet (Ok Nothing) desk else if head then opened (block_of command desk.line) desk else if configures then quiet (Ok Configure) desk else quiet (Ok (done_of command)) desk in run.after.refused) ≡ desk.refused
outside_counts true head configures command desk = refl
outside_counts false true configures command desk = opened_counts (block_of command desk.line) desk
outside_counts false false true command desk = refl
outside_counts false false false command desk = refl

inside_counts : (ends : Bool) (block : Block) (command : Command) (desk : DeskState)
    → (let run : Run DeskState Said = if ends then quiet (Ok (Declare block)) (with_block None desk) else quiet (Ok Nothing) (with_block (Some (with_line_taken command block)) desk) in run.after.refused) ≡ desk.refused
inside_counts true block command desk = refl
inside_counts false block command desk = refl

at_counts : (block : Option Block) (command : Command) (desk : DeskState) → (said_at block command desk).after.refused ≡ desk.refused
at_counts None command desk = outside_counts (is_skip command) (is_head command) (is_configure command) command desk
at_counts (Some block) command desk = inside_counts (ends_block command) block command desk

read_counts : (r : Result Command Refusal) (desk : DeskState) → (said_read r desk).after.refused ≡ desk.refused
read_counts (Ok command) desk = at_counts desk.block command desk
read_counts (Err e) desk = refl

now_counts : (skipped : Bool) (line : List ℕ) (desk : DeskState)
    → (let run : Run DeskState Said = if skipped then quiet (Ok Nothing) (unless_end (is_end line) desk) else said_read (read_as line desk.line (place_of desk.block)) desk in run.after.refused) ≡ desk.refused
now_counts true line desk = unless_counts (is_end line) desk
now_counts false line desk = read_counts (read_as line desk.line (place_of desk.block)) desk

said_counts : (line : List ℕ) (desk : DeskState) → (said_line line desk).after.refused ≡ desk.refused
unfolding said_line
said_counts line desk = now_counts (is_skipped (next_line desk).block) line (next_line desk)

-- ---- nor does what is done

turn_counts : (r : Result Stage Refusal) (w : Shells) → (let run : Run ShellState (Unit {0}) = become w.own (at_stage_of w.own r) in let turned : Run Shells (List ℕ) = continue_from run.events (record { own = run.after; store = w.store }) run.answer (λ u. give []) in turned.after.own.desk) ≡ w.own.desk
unfolding give
turn_counts (Ok stage) w = refl
turn_counts (Err e) w = refl

turned_counts : (step : Stage → Result Stage Refusal) (w : Shells) → (turn step w).after.own.desk ≡ w.own.desk
unfolding turn goes becomes on_own ◌>>=◌
turned_counts step w = turn_counts (step w.own.stage) w

asked_counts : {A : Type 0} (stage : Stage) (m : Beside SessionState → Run (Beside SessionState) A) (w : Shells) → (run_at stage m w).after.own.desk ≡ w.own.desk
asked_counts (Declaring mapping) m w = refl
asked_counts (Configured session) m w = refl

told_counts : (events : List Event) (w : Shells) (r : Result Answer Refusal) → (continue_from events w r (λ answer. on_own (tell_answer answer))).after.own.desk ≡ w.own.desk
unfolding on_own tell_answer
told_counts events w (Ok a) = refl
told_counts events w (Err e) = refl

command_counts : (rules : Rules) (command : Command) (w : Shells) → (do_command rules command w).after.own.desk ≡ w.own.desk
unfolding do_command perform by_own in_session ◌>>=◌
command_counts rules command w =
    let run : Run Shells Answer = run_at w.own.stage (performed rules w.own.options.dialect w.own.names command) w in
    told_counts run.events run.after run.answer ∙ asked_counts w.own.stage (performed rules w.own.options.dialect w.own.names command) w

does_count : (rules : Rules) (said : Said) (w : Shells) → (do_said rules said w).after.own.desk ≡ w.own.desk
unfolding give on_own compile ask
does_count rules Nothing w = refl
does_count rules Configure w = turned_counts _ w
does_count rules (Declare block) w = turned_counts _ w
does_count rules (Compile command) w = refl
does_count rules (Do command) w = command_counts rules command w

step_counts_from : (rules : Rules) (events : List Event) (w : Shells) (r : Result Said Refusal) → (continue_from events w r (do_said rules)).after.own.desk ≡ w.own.desk
step_counts_from rules events w (Ok said) = does_count rules said w
step_counts_from rules events w (Err e) = refl

step_counts : (rules : Rules) (line : List ℕ) (w : Shells) → (line_step rules line w).after.own.desk.refused ≡ w.own.desk.refused
unfolding line_step at_desk on_own ◌>>=◌
step_counts rules line w =
    let said : Run DeskState Said = said_line line w.own.desk in
    ap (λ (desk : DeskState). desk.refused) (step_counts_from rules said.events (record { own = record w.own { desk = said.after }; store = w.store }) said.answer) ∙ said_counts line w.own.desk

-- ---- a line that is refused counts, and no other

-- what came of a line, and goes out
abbrev line_out : List Event → Shells → Result (List ℕ) Refusal → Run Shells (Unit {0})
line_out events w r =
    let caught : Run Shells (List ℕ) = recover_from events w r (λ e. on_own (tell_here e)) in
    let told : Run Shells (List ℕ) = continue_from caught.events caught.after caught.answer (λ reply. on_own (tell_notes reply)) in continue_from told.events told.after told.answer writes

out_counts : (events : List Event) (w : Shells) (r : Result (List ℕ) Refusal) → ((line_out events w r).after.own.desk.refused ≡ (not (is_ok r) || w.own.desk.refused)) × ((line_out events w r).answer ≡ Ok tt)
unfolding on_own tell change ask tell_notes writes ◌>>=◌
out_counts events w (Ok reply) = (refl, refl)
out_counts events w (Err e) = (refl, refl)

line_counts : (rules : Rules) (line : List ℕ) (u : Unit {0}) (w : Shells) → ((do_and_reply rules line u w).after.own.desk.refused ≡ (not (is_answered rules line w) || w.own.desk.refused)) × ((do_and_reply rules line u w).answer ≡ Ok tt)
unfolding do_and_reply reply_to answer_to handle_refusal ◌>>=◌
line_counts rules line u w =
    let run : Run Shells (List ℕ) = line_step rules line w in
    let out = out_counts run.events run.after run.answer in (out.0 ∙ ap (λ (refused : Bool). not (is_ok run.answer) || refused) (step_counts rules line w), out.1)

one_more : (one rest before : Bool) → (not rest || (not one || before)) ≡ (not (one && rest) || before)
one_more true rest before = refl
one_more false true before = refl
one_more false false before = refl

lines_count : (rules : Rules) (lines : List (List ℕ)) (u : Unit {0}) (w : Shells)
    → ((each (do_and_reply rules) u lines w).after.own.desk.refused ≡ (not (are_answered rules lines w) || w.own.desk.refused)) × ((each (do_and_reply rules) u lines w).answer ≡ Ok tt)
unfolding each give ◌>>=◌
lines_count rules [] u w = (refl, refl)
lines_count rules (line ∷ lines) u w =
    let run : Run Shells (Unit {0}) = do_and_reply rules line u w in
    let counts = line_counts rules line u w in
    let rest = lines_count rules lines tt run.after in
    subst (λ (r : Result (Unit {0}) Refusal). ((continue_from run.events run.after r (λ t. each (do_and_reply rules) t lines)).after.own.desk.refused ≡ (not (is_answered rules line w && are_answered rules lines run.after) || w.own.desk.refused))
    × ((continue_from run.events run.after r (λ t. each (do_and_reply rules) t lines)).answer ≡ Ok tt)) (sym counts.1)
    (rest.0 ∙ ap (λ (before : Bool). not (are_answered rules lines run.after) || before) counts.0 ∙ one_more (is_answered rules line w) (are_answered rules lines run.after) w.own.desk.refused, rest.1)

-- ---- the end of a script

abbrev Counts : Bool → Shells → Type 0
Counts refused w = w.own.desk.refused ≡ refused

closing_counts : (refused : Bool) (stage : Stage) (w : Shells) → Counts refused w → Counts refused (close_session_at stage w).after
unfolding give in_session
closing_counts refused (Declaring mapping) w is = is
closing_counts refused (Configured session) w is = ap (λ (desk : DeskState). desk.refused) (asked_counts w.own.stage _ w) ∙ is

close_counts : (refused : Bool) → Keeps (Counts refused) close_and_tell
unfolding close_and_tell close_session close_stage by_own on_own tell_notes writes
close_counts refused =
    keeps_then (Counts refused) close_session writes
    (keeps_then (Counts refused) close_stage (λ u. on_own (tell_notes [])) (record { kept = λ w is. closing_counts refused w.own.stage w is }) (λ w u is told. record { kept = λ v is. is }))
    (λ w bytes is told. record { kept = λ v is. is })

end_counts_in : (block : Option Block) (w : Shells) → (on_own (end_of_script_in block) w).after.own.desk.refused ≡ (is_some block || w.own.desk.refused)
unfolding on_own give tell change ask ◌>>=◌
end_counts_in None w = refl
end_counts_in (Some block) w = refl

-- what is done behind the reply to a block that is open
abbrev rest_of_end : List ℕ → Shells → Run Shells Ending
rest_of_end reply = writes reply >>= λ u. (close_and_tell >>= λ u. give Finished)

rest_counts : (refused : Bool) (events : List Event) (v : Shells) (r : Result (List ℕ) Refusal) → Counts refused v → Counts refused (continue_from events v r rest_of_end).after
unfolding writes
rest_counts refused events v (Err e) is = is
rest_counts refused events v (Ok reply) is =
    (keeps_then (Counts refused) (writes reply) (λ u. close_and_tell >>= λ u. give Finished) (record { kept = λ w same. same })
    (λ w u same told. keeps_then (Counts refused) close_and_tell (λ u. give Finished) (close_counts refused) (λ w u same told. keeps_give (Counts refused) Finished))).kept v is

end_counts : (w : Shells) → (end_script w).after.own.desk.refused ≡ (is_some w.own.desk.block || w.own.desk.refused)
unfolding end_script end_reply end_of_script on_own ◌>>=◌
end_counts w = let run : Run Shells (List ℕ) = end_reply w in rest_counts (is_some w.own.desk.block || w.own.desk.refused) run.events run.after run.answer (end_counts_in w.own.desk.block w)

all_or_open : (all : Bool) (block : Option Block) → (is_some block || (not all || false)) ≡ not (all && is_none block)
all_or_open true None = refl
all_or_open true (Some block) = refl
all_or_open false None = refl
all_or_open false (Some block) = refl

-- a command of a script counts as refused where some line of it is, or a block is open at its end
pub script_counts : (options : PrintOptions) (rules : Rules) (bytes : List ℕ) → (lines_of bytes).too_long ≡ false → (reference options rules bytes).after.own.desk.refused ≡ not (is_script_answered options rules (lines_of bytes).lines)
unfolding script ◌>>=◌
script_counts options rules bytes short =
    let lines : List (List ℕ) = (lines_of bytes).lines in
    let run : Run Shells (Unit {0}) = each (do_and_reply rules) tt lines (start options) in
    let counts = lines_count rules lines tt (start options) in
    ap (λ (r : Result (Unit {0}) Refusal). (continue_from run.events run.after r (λ u. end_unless_too_long (lines_of bytes).too_long)).after.own.desk.refused) counts.1
    ∙ ap (λ (too_long : Bool). (end_unless_too_long too_long run.after).after.own.desk.refused) short
    ∙ end_counts run.after
    ∙ ap (λ (before : Bool). is_some run.after.own.desk.block || before) counts.0
    ∙ all_or_open (are_answered rules lines (start options)) run.after.own.desk.block
