-- The end of a script, and how a run is concluded.
use Rattle.std.proofs.Common.{◌≡◌, ◌≤◌, IfOk, ℕ, Bool, true, false, List, [], ◌∷◌, ◌++◌, length, Option, None, Some, Result, Ok, Err, IsErrAnd, refl, sym, ap, ◌∙◌, subst, inl, inr, arith, if◌then◌else◌}
use Rattle.std.specs.Prelude.{◌⊎◌}
use Rattle.schema_core.specs.Tables.{Tables}
use Rattle.base_core.specs.declared.refusal.Refusal.{Refusal}
use Rattle.class_types.specs.Rules.{Rules}
use Rattle.keeper_core.specs.declared.sent.Sent.TheVariants.{Rollback}
use Rattle.keeper_core.specs.declared.keeper.KeeperStop.{KeeperStop}
use Rattle.keeper_core.specs.declared.keeper.KeeperStop.TheVariants as stops
use Rattle.keeper_core.specs.Store.{Store, committed_of, outermost}
use Rattle.keeper_core.specs.Programs.{Event, Log, Run, Sends, after_events, as_refusal, ends_early}
use Rattle.keeper_core.specs.Beside.{Beside}
use Rattle.keeper_core.specs.Calls as call
use Rattle.keeper_core.specs.Calls.{sends, stop_refusal as keeper_refusal}
use Rattle.keeper_core.specs.Moment.{AsTold, IsCutOff, Moment, Outcome, Runs, Told, parts}
use Rattle.keeper_core.specs.Keeping.{IsCoherent, IsCoherentTold, IsRollback, depth_left}
use Rattle.keeper_core.proofs.Counts.{faults_rise}
use Rattle.keeper_core.proofs.Sequence.{after_append, done, then_err, then_ok}
use Rattle.shell_replies.specs.declared.notes.PrintOptions.{PrintOptions}
use Rattle.shell_steps.specs.ShellState.{ShellState, new_shell}
use Rattle.sqla_shell.specs.declared.ending.Ending.{Ending}
use Rattle.sqla_shell.specs.declared.ending.Ending.TheVariants.{Finished, TooLong}
use Rattle.sqla_shell.specs.declared.status.Status.{Status}
use Rattle.sqla_shell.specs.declared.status.Status.TheVariants as status
use Rattle.sqla_shell.specs.declared.stop.Stop.{Stop}
use Rattle.sqla_shell.specs.declared.stop.Stop.TheVariants as stopped
use Rattle.sqla_shell.specs.Causes.{CountsFaults, ShowsFaults, done_status, faults, stop_refusal}
use Rattle.sqla_shell.specs.Outcome.{Rests, Concludes, DoesLines, DoesScript, Ends, HasNothingLeft, IsDoneOf, IsReadThrough, IsRolledBack, IsSettled, IsStopped, IsWhole, IsUndone, IsUsage, ending_of, log_with, moment_writing, told_writing}
use Rattle.byte_streams.specs.Scripts.{lines_of}
use Rattle.sqla_shell.specs.Reference.{end_unless_too_long, end_script, reference_over, script}

-- ---- the end of the lines, and then what the end asks for

ending_from : (b : Bool) (e : Ending) → e ≡ ending_of b → ending_of b ≡ e
ending_from b e is = sym is

is_false : (b : Bool) → Finished ≡ ending_of b → b ≡ false
is_false true is = cc
is_false false is = refl

is_true : (b : Bool) → TooLong ≡ ending_of b → b ≡ true
is_true true is = refl
is_true false is = cc

pub script_stopped : {S : Type 0} (rules : Rules) (tell : S → Moment (Beside ShellState)) (old new : S) (left : Option (List ℕ)) (stop : Stop) (r : Result Ending Stop)
    → IsErrAnd r (λ d. d ≡ stop) → DoesLines rules left tell old (Err (stop_refusal stop)) new → DoesScript rules left tell old (as_refusal stop_refusal r) new
unfolding script
script_stopped rules tell old new left stop (Ok e) is p = absurd is
script_stopped rules tell old new None stop (Err d) is p = tt
script_stopped rules tell old new (Some bytes) stop (Err d) is p =
    subst (λ s. Runs {X = Ending} tell (λ e. e) (script rules bytes) old (Err (stop_refusal s)) new) (sym is) (then_err (λ u. end_unless_too_long (lines_of bytes).too_long) p.0)

pub script_finished : {S : Type 0} (rules : Rules) (tell : S → Moment (Beside ShellState)) (old mid new : S) (left : Option (List ℕ)) (r : Result Ending Refusal)
    → DoesLines rules left tell old (Ok Finished) mid → Runs tell (λ e. e) end_script mid r new → DoesScript rules left tell old r new
unfolding script
script_finished rules tell old mid new None r p ran = tt
script_finished rules tell old mid new (Some bytes) r p ran =
    then_ok (λ u. end_unless_too_long (lines_of bytes).too_long) p.0 (subst (λ b. Runs tell (λ e. e) (end_unless_too_long b) mid r new) (sym (is_false (lines_of bytes).too_long p.1)) ran)

pub script_too_long : {S : Type 0} (rules : Rules) (tell : S → Moment (Beside ShellState)) (old mid : S) (left : Option (List ℕ))
    → DoesLines rules left tell old (Ok TooLong) mid → DoesScript rules left tell old (Ok TooLong) mid
unfolding script
script_too_long rules tell old mid None p = tt
script_too_long rules tell old mid (Some bytes) p =
    then_ok (λ u. end_unless_too_long (lines_of bytes).too_long) p.0 (subst (λ b. Runs tell (λ e. e) (end_unless_too_long b) mid (Ok TooLong) mid) (sym (is_true (lines_of bytes).too_long p.1)) (done refl))

-- ---- rolling back

first_of : List Event → List Event
first_of [] = []
first_of (y ∷ ys) = y ∷ []

undone_cut : (prefix rest : List Event) (e : Event) → prefix ++ rest ≡ e ∷ [] → (prefix ≡ []) ⊎ (prefix ≡ e ∷ [])
unfolding first_of
undone_cut [] rest e is = inl refl
undone_cut (x ∷ []) rest e is = inr (ap first_of is)
undone_cut (x ∷ y ∷ prefix) rest e is = cc

cut_back : (log : Log) (store : Store) (now : Told Store) → log.committed ≡ committed_of store → IsCutOff (call.rollback store) log now
    → (undone : List Event) × IsUndone log undone × (now.log ≡ after_events log undone)
unfolding call.rollback
cut_back log store now committed p = (p.prefix, by (undone_cut p.prefix p.rest (Sends Rollback (committed_of store)) p.events), p.log)
  where
    by : (p.prefix ≡ []) ⊎ (p.prefix ≡ Sends Rollback (committed_of store) ∷ []) → IsUndone log p.prefix
    by (inl is) = inl is
    by (inr is) = inr (is ∙ ap (λ c. Sends Rollback c ∷ []) (sym committed))

rolled_back_by : (tells : Bool) (depth : ℕ) (old new : Option (Told Store)) (r : Result (Unit {0}) KeeperStop) → IsCoherentTold tells depth old
    → AsTold (λ u. u) call.rollback old (as_refusal keeper_refusal r) new → IsRolledBack old new
unfolding call.rollback
rolled_back_by tells depth None new r c p = tt
rolled_back_by tells depth (Some t) None r c p = absurd p
rolled_back_by tells depth (Some t) (Some n) (Ok u) c p = (Sends Rollback (committed_of t.world) ∷ [], inr (ap (λ d. Sends Rollback d ∷ []) (sym c.2)), p.log)
rolled_back_by tells depth (Some t) (Some n) (Err stops.Fault) c p = cut_back t.log t.world n c.2 p
rolled_back_by tells depth (Some t) (Some n) (Err stops.Memory) c p = cut_back t.log t.world n c.2 p

-- the keeper rolled back, or was stopped there
pub rolled_back : {K : Type 0} (moment : K → Moment Store) (old new : K) (r : Result (Unit {0}) KeeperStop)
    → IsCoherent (moment old) → Runs moment (λ u. u) call.rollback old (as_refusal keeper_refusal r) new → IsRolledBack (moment old).told (moment new).told
rolled_back moment old new r coherent ran = rolled_back_by (moment old).tells (moment old).depth (moment old).told (moment new).told r coherent (parts ran).told

-- nothing was to be rolled back
pub not_rolled_back : (told : Option (Told Store)) → IsRolledBack told told
unfolding after_events
not_rolled_back None = tt
not_rolled_back (Some t) = ([], inl refl, refl)

-- ---- what is told in the end

abbrev IsSettledTold : Option (Told Store) → Type 0
IsSettledTold None = Unit {0}
IsSettledTold (Some told) = IsSettled told

settled_by : (scopes : List Tables) (tables committed : Tables) (depth : ℕ) → depth ≡ length scopes → depth ≡ 0 → committed ≡ outermost tables scopes → (scopes ≡ []) × (tables ≡ committed)
settled_by [] tables committed depth count none is = (refl, sym is)
settled_by (s ∷ scopes) tables committed depth count none is = cc

settled_told : (tells : Bool) (depth : ℕ) (told : Option (Told Store)) → IsCoherentTold tells depth told → depth ≡ 0 → IsSettledTold told
settled_told tells depth None c none = tt
settled_told tells depth (Some t) c none = settled_by t.world.scopes t.world.tables t.log.committed depth c.1 none c.2

log_undone : (log : Log) (undone : List Event) (written : List ℕ) → IsUndone log undone → log_with (after_events log undone) written ≡ after_events (log_with log written) undone
unfolding after_events
log_undone log undone written (inl is) = subst (λ es. log_with (after_events log es) written ≡ after_events (log_with log written) es) (sym is) refl
log_undone log undone written (inr is) = subst (λ es. log_with (after_events log es) written ≡ after_events (log_with log written) es) (sym is) refl

-- ---- how a run ends

abbrev mid_told : ShellState → Told Store → List ℕ → Told (Beside ShellState)
mid_told own mid written = record { world = record { own = own; store = mid.world }; log = log_with mid.log written }

undone_log : (first : Log) (prefix : List Event) (mid now : Told Store) (written : List ℕ) (undone : List Event) → log_with mid.log written ≡ after_events first prefix
    → IsUndone mid.log undone → now.log ≡ after_events mid.log undone → log_with now.log written ≡ after_events first (prefix ++ undone)
undone_log first prefix mid now written undone here undoing is =
    ap (λ l. log_with l written) is ∙ log_undone mid.log undone written undoing ∙ ap (λ l. after_events l undone) here ∙ sym (after_append first prefix undone)

stopped_at : (run : Run (Beside ShellState) Ending) (first : Log) (mid now : Told Store) (own : ShellState) (written : List ℕ)
    → IsCutOff run first (mid_told own mid written) → IsRolledBack (Some mid) (Some now) → IsStopped run first (log_with now.log written)
stopped_at run first mid now own written p back = record {
  prefix = p.prefix;
  rest = p.rest;
  undone = back.0;
  events = p.events;
  undoing = subst (λ l. IsUndone l back.0) p.log back.1;
  log = undone_log first p.prefix mid now written back.0 p.log back.1 back.2;
}

whole_by : (run : Run (Beside ShellState) Ending) (first now : Log) (b : Bool) → IsWhole run Finished first now → run.after.own.desk.refused ≡ b → Ends run first (done_status b) now
whole_by run first now true whole is = (whole, is)
whole_by run first now false whole is = (whole, is)

some_of : Told Store → Option (Told Store) → Told Store
some_of other None = other
some_of other (Some told) = told

same_told : (mid now : Told Store) → Some now ≡ Some mid → now ≡ mid
unfolding some_of
same_told mid now is = ap (some_of mid) is

ended : (run : Run (Beside ShellState) Ending) (first : Log) (done : Result Ending Stop) (end : Status) (mid now : Told Store) (own : ShellState) (written : List ℕ)
    → Outcome (λ e. e) run first (as_refusal stop_refusal done) (mid_told own mid written) → Concludes done own.desk.refused (Some mid) end (Some now) → Ends run first end (log_with now.log written)
ended run first (Ok Finished) end mid now own written p c =
    subst (λ s. Ends run first s (log_with now.log written)) (sym c.0)
    (whole_by run first (log_with now.log written) own.desk.refused (record { answer = p.answer; log = ap (λ t. log_with t.log written) (same_told mid now c.1) ∙ p.log }) (sym (ap (λ w. w.own.desk.refused) p.world)))
ended run first (Ok TooLong) end mid now own written p c =
    subst (λ s. Ends run first s (log_with now.log written)) (sym c.0) (record {
      undone = c.1.0;
      answer = p.answer;
      undoing = subst (λ l. IsUndone l c.1.0) p.log c.1.1;
      log = undone_log first run.events mid now written c.1.0 p.log c.1.1 c.1.2;
    })
ended run first (Err stopped.Read) end mid now own written p c = subst (λ s. Ends run first s (log_with now.log written)) (sym c.0) (stopped_at run first mid now own written p c.1)
ended run first (Err stopped.Write) end mid now own written p c = subst (λ s. Ends run first s (log_with now.log written)) (sym c.0) (stopped_at run first mid now own written p c.1)
ended run first (Err stopped.Keeper) end mid now own written p c = subst (λ s. Ends run first s (log_with now.log written)) (sym c.0) (stopped_at run first mid now own written p c.1)
ended run first (Err stopped.Memory) end mid now own written p c = subst (λ s. Ends run first s (log_with now.log written)) (sym c.0) (stopped_at run first mid now own written p c.1)

goes_on : (done : Result Ending Stop) (refused : Bool) (mid : Told Store) (end : Status) → Concludes done refused (Some mid) end None → ⊥
goes_on (Ok Finished) refused mid end c = cc
goes_on (Ok TooLong) refused mid end c = c.1
goes_on (Err stop) refused mid end c = c.1

-- a store without a scope is its tables
bare_store : (store : Store) → store.scopes ≡ [] → store ≡ record { tables = store.tables; scopes = [] }
bare_store store is = ap (λ (scopes : List Tables). record { tables = store.tables; scopes = scopes }) is

is_done_by : (options : PrintOptions) (rules : Rules) (bytes : List ℕ) (before after : Option (List ℕ)) (first mid last : Option (Told Store)) (own : ShellState) (done : Result Ending Stop) (end : Status)
    → IsSettledTold first → AsTold (λ e. e) (script rules bytes) (told_writing (new_shell options) first before) (as_refusal stop_refusal done) (told_writing own mid after)
    → Concludes done own.desk.refused mid end last → IsSettledTold last → IsDoneOf options rules (Some bytes) before first end after last
is_done_by options rules bytes None after first mid last own done end bare p c settled = tt
is_done_by options rules bytes (Some b) after None mid last own done end bare p c settled = tt
is_done_by options rules bytes (Some b) None (Some t) None last own done end bare p c settled = absurd p
is_done_by options rules bytes (Some b) None (Some t) (Some m) last own done end bare p c settled = absurd p
is_done_by options rules bytes (Some b) (Some a) (Some t) None last own done end bare p c settled = absurd p
is_done_by options rules bytes (Some b) (Some a) (Some t) (Some m) None own done end bare p c settled = absurd (goes_on done own.desk.refused m end c)
is_done_by options rules bytes (Some b) (Some a) (Some t) (Some m) (Some n) own done end bare p c settled = record {
  began = bare;
  run = ended (reference_over options rules t.world.tables bytes) (log_with t.log b) done end m n own a
      (subst (λ store. Outcome (λ e. e) (script rules bytes (record { own = new_shell options; store = store })) (log_with t.log b) (as_refusal stop_refusal done) (mid_told own m a)) (bare_store t.world bare.0) p) c;
  settled = settled;
}

-- a script was done over a keeper that had no scope open, and concluded
pub is_done : {K O : Type 0} (moment : K → Moment Store) (written : O → Option (List ℕ)) (options : PrintOptions) (rules : Rules) (left : Option (List ℕ)) (shell own : ShellState) (first mid last : K) (sink after : O) (done : Result Ending Stop) (end : Status)
    → shell ≡ new_shell options → DoesScript rules left (moment_writing moment written) (shell, first, sink) (as_refusal stop_refusal done) (own, mid, after)
    → IsCoherent (moment first) → (moment first).depth ≡ 0 → Concludes done own.desk.refused (moment mid).told end (moment last).told → IsCoherent (moment last) → (moment last).depth ≡ 0
    → IsDoneOf options rules left (written sink) (moment first).told end (written after) (moment last).told
unfolding moment_writing
is_done moment written options rules None shell own first mid last sink after done end is p opened bare c coherent depth = tt
is_done moment written options rules (Some bytes) shell own first mid last sink after done end is p opened bare c coherent depth =
    is_done_by options rules bytes (written sink) (written after) (moment first).told (moment mid).told (moment last).told own done end
    (settled_told (moment first).tells (moment first).depth (moment first).told opened bare)
    (subst (λ s. AsTold (λ e. e) (script rules bytes) (told_writing s (moment first).told (written sink)) (as_refusal stop_refusal done) (told_writing own (moment mid).told (written after))) is (parts p).told)
    c (settled_told (moment last).tells (moment last).depth (moment last).told coherent depth)

-- ---- what a status shows

-- nothing is left of a script that was done to its end
pub read_through : (done : Result Ending Stop) (refused : Bool) (mid last : Option (Told Store)) (end : Status) (old new : Option (List ℕ))
    → Concludes done refused mid end last → IfOk done (λ ending. ending ≡ Finished → HasNothingLeft old new) → IsReadThrough end old new
read_through (Ok Finished) true mid last end old new c nothing = subst (λ s. IsReadThrough s old new) (sym c.0) (nothing refl)
read_through (Ok Finished) false mid last end old new c nothing = subst (λ s. IsReadThrough s old new) (sym c.0) (nothing refl)
read_through (Ok TooLong) refused mid last end old new c nothing = subst (λ s. IsReadThrough s old new) (sym c.0) tt
read_through (Err stopped.Read) refused mid last end old new c nothing = subst (λ s. IsReadThrough s old new) (sym c.0) tt
read_through (Err stopped.Write) refused mid last end old new c nothing = subst (λ s. IsReadThrough s old new) (sym c.0) tt
read_through (Err stopped.Keeper) refused mid last end old new c nothing = subst (λ s. IsReadThrough s old new) (sym c.0) tt
read_through (Err stopped.Memory) refused mid last end old new c nothing = subst (λ s. IsReadThrough s old new) (sym c.0) tt

abbrev IsOfScript : Status → Type 0
IsOfScript status.Usage = ⊥
IsOfScript end = Unit {0}

of_script : (end : Status) → IsOfScript end → end ≡ status.Usage → ⊥
of_script end is same = subst IsOfScript same is

-- no script ends as a run with words does
pub concludes_script : (done : Result Ending Stop) (refused : Bool) (mid last : Option (Told Store)) (end : Status) → Concludes done refused mid end last → end ≡ status.Usage → ⊥
concludes_script (Ok Finished) true mid last end c = of_script end (subst IsOfScript (sym c.0) tt)
concludes_script (Ok Finished) false mid last end c = of_script end (subst IsOfScript (sym c.0) tt)
concludes_script (Ok TooLong) refused mid last end c = of_script end (subst IsOfScript (sym c.0) tt)
concludes_script (Err stopped.Read) refused mid last end c = of_script end (subst IsOfScript (sym c.0) tt)
concludes_script (Err stopped.Write) refused mid last end c = of_script end (subst IsOfScript (sym c.0) tt)
concludes_script (Err stopped.Keeper) refused mid last end c = of_script end (subst IsOfScript (sym c.0) tt)
concludes_script (Err stopped.Memory) refused mid last end c = of_script end (subst IsOfScript (sym c.0) tt)

-- the status shows the faults that the script counted
pub concludes_faults : (done : Result Ending Stop) (refused : Bool) (mid last : Option (Told Store)) (end : Status) (source sink keeper source' sink' keeper' keeper'' : ℕ)
    → Concludes done refused mid end last → CountsFaults done (faults source sink keeper) (faults source' sink' keeper') → keeper' ≤ keeper''
    → IfOk done (λ ending. ending ≡ Finished → keeper'' ≡ keeper') → ShowsFaults end true (faults source sink keeper) (faults source' sink' keeper'')
concludes_faults (Ok Finished) true mid last end s k n s' k' n' n'' c p le same =
    subst (λ e. ShowsFaults e true (faults s k n) (faults s' k' n'')) (sym c.0) (p.0, p.1, same refl ∙ p.2)
concludes_faults (Ok Finished) false mid last end s k n s' k' n' n'' c p le same =
    subst (λ e. ShowsFaults e true (faults s k n) (faults s' k' n'')) (sym c.0) (p.0, p.1, same refl ∙ p.2)
concludes_faults (Ok TooLong) refused mid last end s k n s' k' n' n'' c p le same =
    subst (λ e. ShowsFaults e true (faults s k n) (faults s' k' n'')) (sym c.0) (p.0, p.1, omega (arith, p.2, le))
concludes_faults (Err stopped.Read) refused mid last end s k n s' k' n' n'' c p le same =
    subst (λ e. ShowsFaults e true (faults s k n) (faults s' k' n'')) (sym c.0) (p.0, p.1, omega (arith, p.2, le))
concludes_faults (Err stopped.Write) refused mid last end s k n s' k' n' n'' c p le same =
    subst (λ e. ShowsFaults e true (faults s k n) (faults s' k' n'')) (sym c.0) (p.0, p.1, omega (arith, p.2, le))
concludes_faults (Err stopped.Keeper) refused mid last end s k n s' k' n' n'' c p le same =
    subst (λ e. ShowsFaults e true (faults s k n) (faults s' k' n'')) (sym c.0) (p.0, p.1, (omega (arith, p.2.0, le), omega (arith, p.2.1, le)))
concludes_faults (Err stopped.Memory) refused mid last end s k n s' k' n' n'' c p le same =
    subst (λ e. ShowsFaults e true (faults s k n) (faults s' k' n'')) (sym c.0) (p.0, p.1, omega (arith, p.2, le))

-- ---- a keeper at the end of a run

-- nothing was to be rolled back
pub rests_same : {m : Moment Store} → m.depth ≡ 0 → Rests m m
rests_same outside = record { depth = outside; faults = omega arith; keeper = record { target = refl; attached = refl; tells = refl } }

none_left : {A : Type 0} (r : Result A Refusal) (n : ℕ) → n ≡ 0 → depth_left r n ≡ 0
none_left (Ok x) n is = is
none_left (Err e) n is = elim (ends_early e) as (λ b. ◌≡◌ {A = ℕ} (if b then 0 else n) 0) [ true ↦ refl | false ↦ is ]

-- the transaction was rolled back, or that was stopped
pub rests_call : {K : Type 0} {moment : K → Moment Store} {old new : K} {r : Result (Unit {0}) Refusal} → IsRollback moment old r new → Rests (moment old) (moment new)
rests_call {moment = moment} {old = old} {new = new} {r = r} p =
    let keeps = (parts p.step).keeps in
    record {
      depth = p.depth ∙ none_left r 0 refl;
      faults = faults_rise r (moment old).faults (moment new).faults keeps.faults;
      keeper = record { target = keeps.target; attached = keeps.attached; tells = keeps.tells };
    }

pub ruleset resting = (rests_same, rests_call)
