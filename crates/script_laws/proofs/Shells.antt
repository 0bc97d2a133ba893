-- Every line of a script keeps its shell whole, and so does its end.
use Rattle.std.proofs.Common.{◌≡◌, ◌+◌, arith, ◌≤◌, ℕ, zero, suc, Bool, true, false, List, [], ◌∷◌, length, Option, None, Some, Result, Ok, Err, refl, sym, subst}
use Rattle.std.specs.Prelude.{if◌then◌else◌}
use Rattle.base_core.specs.declared.refusal.Refusal.{Refusal}
use Rattle.class_types.specs.Rules.{Rules}
use Rattle.class_mapping.specs.Mapped.{Mapped}
use Rattle.class_mapping.specs.Declaring.{configure, declare_class, declare_table}
use Rattle.keeper_core.specs.Programs.{Event, Run, ◌>>=◌, ask, become, becomes, change, continue_from, each, give, handle_refusal, quiet, recover_from}
use Rattle.keeper_core.specs.Beside.{Beside, by_own, on_own}
use Rattle.keeper_core.specs.Store.{Store}
use Rattle.keeper_core.specs.Keeping.{new_store}
use Rattle.table_laws.specs.Legality.{Keeps}
use Rattle.table_laws.proofs.EachJoin.{keeps_give, keeps_then}
use Rattle.session_calls.proofs.Joining.{goes_itself}
use Rattle.session_calls.specs.Steps.{close}
use Rattle.byte_streams.specs.Cutting.{Cut, Ended, Line, TooLong, next_cut}
use Rattle.byte_streams.specs.Scripts.{lines_by, lines_from, lines_of}
use Rattle.session_scopes.specs.SessionState.{SessionState, new_session}
use Rattle.session_perform.specs.Performing.{program_of_resolved}
use Rattle.script_types.specs.declared.command.Command.{Command}
use Rattle.base_core.specs.declared.dialect.Dialect.{Dialect}
use Rattle.script_read.specs.Line.{line as said_by}
use Rattle.sayable_lines.specs.Sayable.{IsSayable}
use Rattle.sayable_lines.proofs.Lines.{read_is_sayable}
use Rattle.shell_parts.specs.declared.block.Block.{Block}
use Rattle.shell_parts.specs.declared.block.Declared.{Declared}
use Rattle.shell_parts.specs.declared.block.Declared.TheVariants.{Table, Class}
use Rattle.shell_parts.specs.Blocks.{block_of, declare, without_number}
use Rattle.command_resolve.specs.declared.answer.Answer.{Answer}
use Rattle.command_resolve.specs.declared.answer.Answer.TheVariants as answer
use Rattle.command_resolve.specs.declared.resolved.Resolved.{Resolved}
use Rattle.command_resolve.specs.Resolving.{resolve}
use Rattle.command_names.specs.Terms.{Bindings}
use Rattle.shell_lines.specs.declared.desk.Said.{Said}
use Rattle.shell_lines.specs.declared.desk.Said.TheVariants.{Nothing, Configure, Declare, Compile, Do}
use Rattle.shell_lines.specs.Lines.{is_compiled}
use Rattle.shell_lines.specs.Desk.{CanBeDone, DeskState, done_if, done_of, ends_block, is_configure, is_head, is_skip, is_skipped, next_line, opened, place_of, said_at, said_line, said_read}
use Rattle.shell_stage.specs.declared.stage.Stage.{Stage}
use Rattle.shell_stage.specs.declared.stage.Stage.TheVariants.{Declaring, Configured}
use Rattle.shell_stage.specs.Asking.{asked, has_texts}
use Rattle.shell_stage.specs.Stages.{AreBound}
use Rattle.shell_stage.specs.Step.{declared_stage, names_with, opened_stage, performed, session_stage, stage_over, without_notes}
use Rattle.shell_stage.proofs.Bindings.{bound_same, bound_more, none_bound_in}
use Rattle.shell_steps.specs.ShellState.{ShellState}
use Rattle.shell_steps.specs.Step.{answer_to, close_session, close_session_at, close_stage, end_of_script, end_of_script_in, end_reply, at_desk, at_stage_of, compile, do_command, do_said, goes, in_session, line_step, perform, reply_to, run_at, tell, tell_answer, tell_here, tell_notes, turn}
use Rattle.sqla_shell.specs.declared.ending.Ending.TheVariants.{Finished}
use Rattle.sqla_shell.specs.Reference.{close_and_tell, do_and_reply, end_script, end_unless_too_long, script, start, writes}
use Rattle.session_laws.specs.Graphs.{IsWellMapped}
use Rattle.session_laws.specs.Health.Calls.{Call}
use Rattle.session_laws.specs.Whole.{CallsKeepWhole, IsHale}
use Rattle.session_laws.proofs.Whole.Calls.{new_whole}
use Rattle.session_laws.proofs.Whole.Programs as keeps
use Rattle.session_laws.proofs.Whole.Since.{IsKeyedSince, since_steps}
use Rattle.script_laws.specs.Scripts.{HasOneAt, IsBuilt, IsLateBlock, IsLateDeclared, IsWholeAt, IsWholeShell, ScriptsEndWhole, ScriptsHaveOneForEachKey, ScriptsStayWhole, after_lines}
use Rattle.script_laws.proofs.Built.{built_wider, class_built, configured_well, new_built, table_built}
use Rattle.script_laws.proofs.Late.{IsLateRun, IsLateSaid, said_late}
use Rattle.script_laws.proofs.Performed.{IsBound, IsLeft, ReadingLaws, line_left}
use Rattle.query_names.proofs.Meant.{given}
use Rattle.session_laws.proofs.OwnRows.Standing.{hierarchies}
use Rattle.script_laws.proofs.Resolved.{asks_what_is_there}

abbrev Shells : Type 0
Shells = Beside ShellState

-- ---- what a line says

done_says : (compiled : Bool) (command : Command) (said : Said) → IsSayable command → (let r : Result Said Refusal = Ok (done_if compiled command) in r ≡ Ok said) → CanBeDone said
done_says true command said sayable is = subst CanBeDone (let same : (let s : Said = Compile command in s ≡ said) = cc in same) sayable
done_says false command said sayable is = subst CanBeDone (let same : (let s : Said = Do command in s ≡ said) = cc in same) sayable

opened_says : (r : Result Block Refusal) (desk : DeskState) (said : Said) → (opened r desk).answer ≡ Ok said → CanBeDone said
opened_says (Ok block) desk said is = subst CanBeDone (let same : Nothing ≡ said = cc in same) tt
opened_says (Err e) desk said is = absurd cc

outside_says : (skip head configures : Bool) (command : Command) (desk : DeskState) (said : Said) → IsSayable command
    → (let run : Run DeskState Said = if skip then quiet (Ok Nothing) desk else if head then opened (block_of command desk.line) desk else if configures then quiet (Ok Configure) desk else quiet (Ok (done_of command)) desk in run.answer ≡ Ok said)
    → CanBeDone said
outside_says true head configures command desk said sayable is = subst CanBeDone (let same : Nothing ≡ said = cc in same) tt
outside_says false true configures command desk said sayable is = opened_says (block_of command desk.line) desk said is
outside_says false false true command desk said sayable is = subst CanBeDone (let same : Configure ≡ said = cc in same) tt
outside_says false false false command desk said sayable is = done_says (is_compiled command) command said sayable is

inside_says : (ends : Bool) (block : Block) (one other : DeskState) (said : Said) → (let run : Run DeskState Said = if ends then quiet (Ok (Declare block)) one else quiet (Ok Nothing) other in run.answer ≡ Ok said) → CanBeDone said
inside_says true block one other said is = subst CanBeDone (let same : (let s : Said = Declare block in s ≡ said) = cc in same) tt
inside_says false block one other said is = subst CanBeDone (let same : Nothing ≡ said = cc in same) tt

at_says : (block : Option Block) (command : Command) (desk : DeskState) (said : Said) → IsSayable command → (said_at block command desk).answer ≡ Ok said → CanBeDone said
at_says None command desk said sayable is = outside_says (is_skip command) (is_head command) (is_configure command) command desk said sayable is
at_says (Some block) command desk said sayable is = inside_says (ends_block command) block _ _ said is

read_says : (r : Result Command Refusal) (desk : DeskState) (said : Said) → ((command : Command) → r ≡ Ok command → IsSayable command) → (said_read r desk).answer ≡ Ok said → CanBeDone said
read_says (Ok command) desk said sayable is = at_says desk.block command desk said (sayable command refl) is
read_says (Err e) desk said sayable is = absurd cc

now_says : (skipped : Bool) (bytes : List ℕ) (desk other : DeskState) (said : Said)
    → (let run : Run DeskState Said = if skipped then quiet (Ok Nothing) other else said_read (said_by bytes desk.line (place_of desk.block)) desk in run.answer ≡ Ok said) → CanBeDone said
now_says true bytes desk other said is = subst CanBeDone (let same : Nothing ≡ said = cc in same) tt
now_says false bytes desk other said is =
    read_says (said_by bytes desk.line (place_of desk.block)) desk said (λ command read. read_is_sayable bytes desk.line (place_of desk.block) command read) is

line_says : (bytes : List ℕ) (desk : DeskState) (said : Said) → (said_line bytes desk).answer ≡ Ok said → CanBeDone said
unfolding said_line
line_says bytes desk said is = now_says (is_skipped (next_line desk).block) bytes (next_line desk) _ said is

-- ---- how a line's parts are put together

-- what holds behind so many lines holds behind more
wider_at : (count more : ℕ) (stage : Stage) (names : Bindings) (store : Store) → count ≤ more → IsWholeAt count stage names store → IsWholeAt more stage names store
wider_at count more (Declaring mapping) names store least whole = (built_wider count more mapping least whole.0, whole.1, whole.2)
wider_at count more (Configured session) names store least whole = whole

wider : (count more : ℕ) (w : Shells) → count ≤ more → IsWholeShell count w → IsWholeShell more w
wider count more w least whole = (wider_at count more w.own.stage w.own.names w.store least whole.0, whole.1)

after_told : (count : ℕ) (events : List Event) (v : Shells) (r : Result (Unit {0}) Refusal) → IsWholeShell count v → IsWholeShell count (continue_from events v r (λ u. give {A = List ℕ} [])).after
unfolding give
after_told count events v (Ok u) whole = whole
after_told count events v (Err e) whole = whole

become_whole : (count more : ℕ) (own : ShellState) (store : Store) (r : Result Stage Refusal) → count ≤ more → IsWholeShell count (record { own = own; store = store }) → ((next : Stage) → r ≡ Ok next → IsWholeAt more next own.names store)
    → IsWholeShell more (record { own = (become own (at_stage_of own r)).after; store = store })
become_whole count more own store (Ok next) least whole moves = (moves next refl, whole.1)
become_whole count more own store (Err e) least whole moves = wider count more (record { own = own; store = store }) least whole

turned : (count more : ℕ) (step : Stage → Result Stage Refusal) (w : Shells) → count ≤ more → IsWholeShell count w → ((next : Stage) → step w.own.stage ≡ Ok next → IsWholeAt more next w.own.names w.store) → IsWholeShell more (turn step w).after
unfolding turn goes becomes on_own ◌>>=◌
turned count more step w least whole moves =
    let run : Run ShellState (Unit {0}) = goes step w.own in
    after_told more run.events (record { own = run.after; store = w.store }) run.answer (become_whole count more w.own w.store (step w.own.stage) least whole moves)

-- ---- declarations

opens : (count : ℕ) (names : Bindings) (store : Store) (r : Result Mapped Refusal) (next : Stage) → ((mapping : Mapped) → r ≡ Ok mapping → IsWellMapped mapping) → names ≡ [] → store ≡ new_store.world → session_stage r ≡ Ok next → IsWholeAt count next names store
opens count names store (Ok mapping) next well none empty is =
    subst (λ (s : Stage). IsWholeAt count s names store) (let same : Configured (new_session mapping) ≡ next = cc in same)
    (subst (λ (s : Store). IsHale (record { own = new_session mapping; store = s })) (sym empty) (new_whole mapping (well mapping refl)), none_bound_in (new_session mapping) names none)
opens count names store (Err e) next well none empty is = absurd cc

configures : (count more : ℕ) (stage : Stage) (names : Bindings) (store : Store) (next : Stage) → IsWholeAt count stage names store → count ≤ 4294967295 → opened_stage stage ≡ Ok next → IsWholeAt more next names store
unfolding opened_stage
configures count more (Declaring mapping) names store next whole few is = opens more names store (configure mapping) next (λ now done. configured_well count mapping now done whole.0 few) whole.1 whole.2 is
configures count more (Configured session) names store next whole few is = absurd cc

without : {A : Type 0} (P : Mapped → Type 0) (r : Result (A × Mapped) Refusal) (p : Unit {0} × Mapped) → ((q : A × Mapped) → r ≡ Ok q → P q.1) → without_number r ≡ Ok p → P p.1
without P (Ok q) p has is = subst (λ (t : Unit {0} × Mapped). P t.1) (let same : (let t : Unit {0} × Mapped = (tt, q.1) in t ≡ p) = cc in same) (has q refl)
without P (Err e) p has is = absurd cc

block_built : (count : ℕ) (rules : Rules) (declared : Declared) (mapping : Mapped) (p : Unit {0} × Mapped) → declare rules declared mapping ≡ Ok p → IsLateDeclared declared → IsBuilt count mapping → IsBuilt (count + 1) p.1
block_built count rules (Table spec) mapping p is late built = without (IsBuilt (count + 1)) (declare_table mapping spec) p (λ q done. table_built count mapping spec q done built) is
block_built count rules (Class spec) mapping p is late built =
    without (IsBuilt (count + 1)) (declare_class rules mapping spec) p (λ q done. built_wider count (count + 1) q.1 (omega arith) (class_built count rules mapping spec q done late built)) is

over_mapping : (count : ℕ) (names : Bindings) (store : Store) (r : Result (Unit {0} × Mapped) Refusal) (next : Stage) → ((p : Unit {0} × Mapped) → r ≡ Ok p → IsBuilt count p.1) → names ≡ [] → store ≡ new_store.world → stage_over r ≡ Ok next → IsWholeAt count next names store
over_mapping count names store (Ok p) next built none empty is = subst (λ (s : Stage). IsWholeAt count s names store) (let same : Declaring p.1 ≡ next = cc in same) (built p refl, none, empty)
over_mapping count names store (Err e) next built none empty is = absurd cc

declares : (count : ℕ) (rules : Rules) (block : Block) (stage : Stage) (names : Bindings) (store : Store) (next : Stage) → IsWholeAt count stage names store → IsLateDeclared block.declared → declared_stage rules block stage ≡ Ok next → IsWholeAt (count + 1) next names store
unfolding declared_stage
declares count rules block (Declaring mapping) names store next whole late is =
    over_mapping (count + 1) names store (declare rules block.declared mapping) next (λ p done. block_built count rules block.declared mapping p done late whole.0) whole.1 whole.2 is
declares count rules block (Configured session) names store next whole late is = absurd cc

-- ---- commands

module _ (law : CallsKeepWhole) (reads : ReadingLaws) (rules : Rules) where
  -- a command that was asked of a session
  asked_left : (names : Bindings) (v : Beside SessionState) (r : Result Resolved Refusal) → IsHale v → AreBound (Configured v.own) names → ((line : Resolved) → r ≡ Ok line → IsLeft names (program_of_resolved rules line v))
      → IsLeft names (continue_from [] v r (program_of_resolved rules))
  asked_left names v (Ok line) hale bound left = let one = left line refl in record { hale = one.hale; bound = one.bound; told = one.told }
  asked_left names v (Err e) hale bound left = record { hale = hale; bound = bound; told = λ a is. absurd cc }

  performed_left : (dialect : Dialect) (names : Bindings) (command : Command) (v : Beside SessionState) → IsSayable command → IsHale v → AreBound (Configured v.own) names → IsLeft names (performed rules dialect names command v)
  unfolding performed on_own ask ◌>>=◌
  performed_left dialect names command v sayable hale bound =
      asked_left names v (asked dialect v.own.mapping names command) hale bound
      (λ line is.
      let texts = given (has_texts dialect v.own.mapping.schema command) (λ u. resolve v.own.mapping names command) line is in
      line_left law reads rules names v hale bound line (asks_what_is_there v.own.mapping (hierarchies v.own.mapping hale.keyed.well) hale.keyed.well.related v.own.graph v.own.drawn.drawn names bound.0 command line sayable texts.2))

  -- its answer is told, and bound
  told_whole : (count : ℕ) (names : Bindings) (session : SessionState) (store : Store) (a : Answer) → IsHale (record { own = session; store = store }) → AreBound (Configured session) names → IsBound session a → IsWholeAt count (Configured session) (names_with a names) store
  told_whole count names session store (answer.Bind name thing) hale bound is = (hale, bound_more (Configured session) names _ (answer.Bind name thing) refl is bound)
  told_whole count names session store _ hale bound is = (hale, bound)

  command_told : (count : ℕ) (shell : ShellState) (run : Run (Beside SessionState) Answer) (r : Result Answer Refusal) → run.answer ≡ r → IsLateBlock shell.desk.block → IsLeft shell.names run
      → IsWholeShell count (continue_from run.events (record { own = record shell { stage = Configured run.after.own }; store = run.after.store }) r (λ a. on_own (tell_answer a))).after
  unfolding on_own tell_answer
  command_told count shell run (Ok a) at late left = (told_whole count shell.names run.after.own run.after.store a left.hale left.bound (left.told a at), late)
  command_told count shell run (Err e) at late left = ((left.hale, left.bound), late)

  command_at : (count : ℕ) (stage : Stage) (command : Command) (w : Shells) → IsSayable command → w.own.stage ≡ stage → IsWholeAt count stage w.own.names w.store → IsLateBlock w.own.desk.block
      → IsWholeShell count (continue_from (run_at stage (performed rules w.own.options.dialect w.own.names command) w).events (run_at stage (performed rules w.own.options.dialect w.own.names command) w).after
      (run_at stage (performed rules w.own.options.dialect w.own.names command) w).answer (λ a. on_own (tell_answer a))).after
  command_at count (Declaring mapping) command w sayable at whole late = (subst (λ (s : Stage). IsWholeAt count s w.own.names w.store) (sym at) whole, late)
  command_at count (Configured session) command w sayable at whole late =
      let v : Beside SessionState = record { own = session; store = w.store } in
      let run : Run (Beside SessionState) Answer = performed rules w.own.options.dialect w.own.names command v in
      command_told count w.own run run.answer refl late (performed_left w.own.options.dialect w.own.names command v sayable whole.0 whole.1)

  command_whole : (count : ℕ) (command : Command) (w : Shells) → IsSayable command → IsWholeShell count w → IsWholeShell count (do_command rules command w).after
  unfolding do_command perform by_own in_session ◌>>=◌
  command_whole count command w sayable whole = command_at count w.own.stage command w sayable refl whole.0 whole.1

  -- ---- a line

  said_whole : (count : ℕ) (said : Said) (w : Shells) → CanBeDone said → IsLateSaid said → count ≤ 4294967295 → IsWholeShell count w → IsWholeShell (count + 1) (do_said rules said w).after
  unfolding give on_own compile ask
  said_whole count Nothing w can late few whole = wider count (count + 1) w (omega arith) whole
  said_whole count Configure w can late few whole = turned count (count + 1) opened_stage w (omega arith) whole (λ next is. configures count (count + 1) w.own.stage w.own.names w.store next whole.0 few is)
  said_whole count (Declare block) w can late few whole =
      turned count (count + 1) (declared_stage rules block) w (omega arith) whole (λ next is. declares count rules block w.own.stage w.own.names w.store next whole.0 late is)
  said_whole count (Compile command) w can late few whole = wider count (count + 1) w (omega arith) whole
  said_whole count (Do command) w can late few whole = wider count (count + 1) (do_command rules command w).after (omega arith) (command_whole count command w can whole)

  said_by_desk : (count : ℕ) (w : Shells) → (run : Run DeskState Said) (r : Result Said Refusal) → run.answer ≡ r → ((said : Said) → run.answer ≡ Ok said → CanBeDone said) → IsLateRun run → count ≤ 4294967295 → IsWholeShell count w
      → IsWholeShell (count + 1) (continue_from run.events (record { own = record w.own { desk = run.after }; store = w.store }) r (do_said rules)).after
  said_by_desk count w run (Ok said) is can late few whole = said_whole count said (record { own = record w.own { desk = run.after }; store = w.store }) (can said is) (late.told said is) few (whole.0, late.block)
  said_by_desk count w run (Err e) is can late few whole = wider count (count + 1) (record { own = record w.own { desk = run.after }; store = w.store }) (omega arith) (whole.0, late.block)

  line_whole : (count : ℕ) (bytes : List ℕ) (w : Shells) → count ≤ 4294967295 → IsWholeShell count w → IsWholeShell (count + 1) (line_step rules bytes w).after
  unfolding line_step on_own at_desk ◌>>=◌
  line_whole count bytes w few whole =
      let run : Run DeskState Said = said_line bytes w.own.desk in
      said_by_desk count w run run.answer refl (λ said is. line_says bytes w.own.desk said is) (said_late bytes w.own.desk whole.1) few whole

  -- ---- its reply

  told_here : (count : ℕ) (e : Refusal) (w : Shells) → IsWholeShell count w → IsWholeShell count (on_own (tell_here e) w).after
  unfolding on_own tell change ask ◌>>=◌
  told_here count e w whole = whole

  recovered : (count : ℕ) (events : List Event) (w : Shells) (r : Result (List ℕ) Refusal) → IsWholeShell count w → IsWholeShell count (recover_from events w r (λ e. on_own (tell_here e))).after
  recovered count events w (Ok reply) whole = whole
  recovered count events w (Err e) whole = told_here count e w whole

  answered_whole : (count : ℕ) (bytes : List ℕ) (w : Shells) → count ≤ 4294967295 → IsWholeShell count w → IsWholeShell (count + 1) (answer_to rules bytes w).after
  unfolding answer_to handle_refusal
  answered_whole count bytes w few whole = let run = line_step rules bytes w in recovered (count + 1) run.events run.after run.answer (line_whole count bytes w few whole)

  without_notes_hale : (session : SessionState) (store : Store) → IsHale (record { own = session; store = store }) → IsHale (record { own = record session { notes = [] }; store = store })
  without_notes_hale session store hale =
      let sound = hale.healthy.sound in
      let own = hale.healthy.tidy.own in
      record {
        healthy = record {
          sound = record { graph = sound.graph; legal = sound.legal; fresh = sound.fresh; marked = sound.marked; scopes = sound.scopes; rest = sound.rest };
          tidy = record { own = record { well = own.well; objects = own.objects; named = own.named }; ascending = hale.healthy.tidy.ascending };
        };
        keyed = record { well = hale.keyed.well; fit = hale.keyed.fit; keys = hale.keyed.keys };
        handled = hale.handled;
      }

  notes_forgotten : (count : ℕ) (stage : Stage) (names : Bindings) (store : Store) → IsWholeAt count stage names store → IsWholeAt count (without_notes stage) names store
  notes_forgotten count (Declaring mapping) names store whole = whole
  notes_forgotten count (Configured session) names store whole = (without_notes_hale session store whole.0, whole.1)

  notes_told : (count : ℕ) (reply : List ℕ) (w : Shells) → IsWholeShell count w → IsWholeShell count (on_own (tell_notes reply) w).after
  unfolding on_own tell_notes
  notes_told count reply w whole = (notes_forgotten count w.own.stage w.own.names w.store whole.0, whole.1)

  noted_whole : (count : ℕ) (events : List Event) (w : Shells) (r : Result (List ℕ) Refusal) → IsWholeShell count w → IsWholeShell count (continue_from events w r (λ reply. on_own (tell_notes reply))).after
  noted_whole count events w (Ok reply) whole = notes_told count reply w whole
  noted_whole count events w (Err e) whole = whole

  replied_whole : (count : ℕ) (bytes : List ℕ) (w : Shells) → count ≤ 4294967295 → IsWholeShell count w → IsWholeShell (count + 1) (reply_to rules bytes w).after
  unfolding reply_to ◌>>=◌
  replied_whole count bytes w few whole = let run = answer_to rules bytes w in noted_whole (count + 1) run.events run.after run.answer (answered_whole count bytes w few whole)

  written_whole : (count : ℕ) (events : List Event) (w : Shells) (r : Result (List ℕ) Refusal) → IsWholeShell count w → IsWholeShell count (continue_from events w r writes).after
  unfolding writes
  written_whole count events w (Ok bytes) whole = whole
  written_whole count events w (Err e) whole = whole

  done_whole : (count : ℕ) (bytes : List ℕ) (u : Unit {0}) (w : Shells) → count ≤ 4294967295 → IsWholeShell count w → IsWholeShell (count + 1) (do_and_reply rules bytes u w).after
  unfolding do_and_reply ◌>>=◌
  done_whole count bytes u w few whole = let run = reply_to rules bytes w in written_whole (count + 1) run.events run.after run.answer (replied_whole count bytes w few whole)

  -- ---- all lines

  each_from : (count more : ℕ) (lines : List (List ℕ)) (events : List Event) (v : Shells) (r : Result (Unit {0}) Refusal) → count ≤ more → IsWholeShell count v → ((t : Unit {0}) → IsWholeShell more (each (do_and_reply rules) t lines v).after)
      → IsWholeShell more (continue_from events v r (λ t. each (do_and_reply rules) t lines)).after
  each_from count more lines events v (Ok t) least whole later = later t
  each_from count more lines events v (Err e) least whole later = wider count more v least whole

  each_whole : (count more : ℕ) (lines : List (List ℕ)) (u : Unit {0}) (w : Shells) → count + length lines ≡ more → more ≤ 4294967295 → IsWholeShell count w → IsWholeShell more (each (do_and_reply rules) u lines w).after
  unfolding each give ◌>>=◌
  each_whole count more [] u w all few whole = wider count more w (omega (arith, all)) whole
  each_whole count more (line ∷ lines) u w all few whole =
      let run : Run Shells (Unit {0}) = do_and_reply rules line u w in
      let now : IsWholeShell (count + 1) run.after = done_whole count line u w (omega (arith, all, few)) whole in
      each_from (count + 1) more lines run.events run.after run.answer (omega (arith, all)) now (λ t. each_whole (count + 1) more lines t run.after (omega (arith, all)) few now)

  -- ---- the end

  closed_in : (count : ℕ) (stage : Stage) (w : Shells) → IsWholeShell count w → IsWholeAt count stage w.own.names w.store → IsWholeShell count (run_at stage close w).after
  closed_in count (Declaring mapping) w whole at = whole
  closed_in count (Configured session) w whole at =
      let v : Beside SessionState = record { own = session; store = w.store } in
      let same = ((keeps.closes (IsKeyedSince session) (since_steps session)).kept v (record { keyed = at.0.keyed; same = goes_itself session })).same in
      ((law rules (Call.Close ∷ []) v at.0 (tt, tt), bound_same w.own.names session (close v).after.own same at.1), whole.1)

  closed_at : (count : ℕ) (stage : Stage) (w : Shells) → IsWholeShell count w → IsWholeShell count (close_session_at stage w).after
  unfolding give in_session
  closed_at count (Declaring mapping) w whole = whole
  closed_at count (Configured session) w whole = closed_in count w.own.stage w whole whole.0

  stage_closed : (count : ℕ) → Keeps (IsWholeShell count) close_stage
  unfolding close_stage by_own
  stage_closed count = record { kept = λ w whole. closed_at count w.own.stage w whole }

  goes_out : (count : ℕ) (bytes : List ℕ) → Keeps (IsWholeShell count) (writes bytes)
  unfolding writes
  goes_out count bytes = record { kept = λ w whole. whole }

  end_told : (count : ℕ) (block : Option Block) (w : Shells) → IsWholeShell count w → IsWholeShell count (on_own (end_of_script_in block) w).after
  unfolding on_own give tell change ask ◌>>=◌
  end_told count None w whole = whole
  end_told count (Some block) w whole = whole

  end_replied : (count : ℕ) → Keeps (IsWholeShell count) end_reply
  unfolding end_reply end_of_script on_own
  end_replied count = record { kept = λ w whole. end_told count w.own.desk.block w whole }

  closed_told : (count : ℕ) → Keeps (IsWholeShell count) close_and_tell
  unfolding close_and_tell close_session
  closed_told count =
      keeps_then (IsWholeShell count) close_session writes
      (keeps_then (IsWholeShell count) close_stage (λ u. on_own (tell_notes [])) (stage_closed count) (λ w u whole is. record { kept = λ v there. notes_told count [] v there }))
      (λ w bytes whole is. goes_out count bytes)

  script_ended : (count : ℕ) → Keeps (IsWholeShell count) end_script
  unfolding end_script
  script_ended count =
      keeps_then (IsWholeShell count) end_reply (λ reply. writes reply >>= λ u. (close_and_tell >>= λ u. give Finished)) (end_replied count)
      (λ w reply whole is.
      keeps_then (IsWholeShell count) (writes reply) (λ u. close_and_tell >>= λ u. give Finished) (goes_out count reply)
      (λ w u whole is. keeps_then (IsWholeShell count) close_and_tell (λ u. give Finished) (closed_told count) (λ w u whole is. keeps_give (IsWholeShell count) Finished)))

  ended_from : (count : ℕ) (too_long : Bool) (events : List Event) (v : Shells) (r : Result (Unit {0}) Refusal) → IsWholeShell count v → IsWholeShell count (continue_from events v r (λ u. end_unless_too_long too_long)).after
  unfolding give
  ended_from count true events v (Ok u) whole = whole
  ended_from count false events v (Ok u) whole = (script_ended count).kept v whole
  ended_from count too_long events v (Err e) whole = whole

-- a script has no more lines than bytes
few_lines : (most taken : ℕ) (bytes : List ℕ) → length (lines_from most taken bytes).lines ≤ most
unfolding lines_from
few_lines zero taken bytes = omega arith
few_lines (suc most) taken bytes = by (next_cut taken bytes) (λ took rest. few_lines most took rest)
  where
    by : (cut : Cut) → ((took : ℕ) (rest : List ℕ) → length (lines_from most took rest).lines ≤ most) → length (lines_by cut (lines_from most)).lines ≤ suc most
    by Ended later = omega arith
    by TooLong later = omega arith
    by (Line line took rest) later = let fewer = later took rest in omega (arith, fewer)

script_few : (bytes : List ℕ) → length (lines_of bytes).lines ≤ 4294967295
script_few bytes = let few : length (lines_of bytes).lines ≤ 16777217 = few_lines 16777217 0 bytes in omega (arith, few)

pub end_law : CallsKeepWhole → ReadingLaws → ScriptsEndWhole
unfolding script ◌>>=◌
end_law law reads options rules bytes =
    let lines : List (List ℕ) = (lines_of bytes).lines in
    let run : Run Shells (Unit {0}) = each (do_and_reply rules) tt lines (start options) in
    ended_from law reads rules (length lines) (lines_of bytes).too_long run.events run.after run.answer (each_whole law reads rules 0 (length lines) lines tt (start options) (omega arith) (script_few bytes) ((new_built, refl, refl), tt))

pub scripts_law : CallsKeepWhole → ReadingLaws → ScriptsStayWhole
scripts_law law reads options rules lines few = each_whole law reads rules 0 (length lines) lines tt (start options) (omega arith) few ((new_built, refl, refl), tt)

one_at : (count : ℕ) (stage : Stage) (names : Bindings) (store : Store) → IsWholeAt count stage names store → HasOneAt stage store
one_at count (Declaring mapping) names store whole = tt
one_at count (Configured session) names store whole = whole.0.healthy.sound.graph.one

pub one_law : ScriptsStayWhole → ScriptsHaveOneForEachKey
one_law law options rules lines few =
    let now : Shells = after_lines options rules lines in one_at (length lines) now.own.stage now.own.names now.store (law options rules lines few).0
