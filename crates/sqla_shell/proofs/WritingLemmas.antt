-- Calls of a shell and writes to a sink as runs of the world whose log has both statements and bytes.
use Rattle.std.proofs.Common.{◌≡◌, ℕ, ◌<◌, ◌≤◌, Bool, true, false, List, [], ◌∷◌, ◌++◌, map, length, ◌+◌, ◌-◌, take, drop, Option, None, Some, Result, Ok, Err, IsErr, IsErrAnd, MatchBool, refl, sym, ap, ◌∙◌, subst, append_assoc, append-nil, arith}
use Rattle.std.proofs.Math.Seq.{take-add}
use Rattle.std.proofs.lemmas.List.{length-drop, map-append, take-append-drop, take_all}
use Rattle.std.specs.Io.KnownBytes.{Appends, Keeps}
use Rattle.base_core.specs.declared.refusal.Refusal.{Refusal}
use Rattle.base_core.specs.declared.refusal.Refusal.TheVariants.{KeeperFault, Memory}
use Rattle.keeper_core.specs.Store.{Store}
use Rattle.keeper_core.proofs.Counts.{keeps_answer, keeps_memory}
use Rattle.keeper_core.proofs.Sequence.{then_err}
use Rattle.keeper_core.specs.Programs.{◌>>=◌, Event, Sends, Writes, Log, Run, after_event, after_events, ends_early, as_refusal}
use Rattle.keeper_core.specs.Moment.{Told, Moment, IsRun, IsCutOff, AsTold, Runs, Ran}
use Rattle.keeper_core.specs.Keeping.{IsCoherent}
use Rattle.keeper_core.specs.Beside.{Beside, told_beside, moment_answering}
use Rattle.shell_steps.specs.ShellState.{ShellState}
use Rattle.sqla_shell.specs.Causes.{CountsFaults, CountsStop, faults, keeper_stop, stop_refusal}
use Rattle.sqla_shell.specs.Outcome.{HasWritten, log_with, moment_writing, told_writing}
use Rattle.sqla_shell.specs.Reference.{writes}
use Rattle.sqla_shell.specs.declared.stop.Stop.{Stop}
use Rattle.sqla_shell.specs.declared.stop.Stop.TheVariants.{Read, Write, Keeper, Memory as StopMemory}

-- ---- the bytes of a log

abbrev bytes_of : List Event → List ℕ
bytes_of [] = []
bytes_of (Sends statement committed ∷ events) = bytes_of events
bytes_of (Writes byte ∷ events) = byte ∷ bytes_of events

after_written : (log : Log) (events : List Event) → (after_events log events).written ≡ log.written ++ bytes_of events
unfolding after_events
after_written log [] = sym (append-nil log.written)
after_written log (Sends statement committed ∷ events) = after_written (after_event log (Sends statement committed)) events
after_written log (Writes byte ∷ events) = after_written (after_event log (Writes byte)) events ∙ append_assoc log.written (byte ∷ []) (bytes_of events)

none≢cons : {A : Type 0} {x : A} {xs : List A} → x ∷ xs ≡ [] → ⊥
none≢cons is = cc

after_seen : (log : Log) (bytes : List ℕ) (events : List Event) → bytes_of events ≡ [] → after_events (log_with log bytes) events ≡ log_with (after_events log events) bytes
unfolding after_events
after_seen log bytes [] none = refl
after_seen log bytes (Sends statement committed ∷ events) none = after_seen (after_event log (Sends statement committed)) bytes events none
after_seen log bytes (Writes byte ∷ events) none = absurd (none≢cons none)

-- events of a keeper that had written nothing and has written nothing have no bytes
quiet_events : (log : Log) (events : List Event) (now : Log) → log.written ≡ [] → now.written ≡ [] → now ≡ after_events log events → bytes_of events ≡ []
quiet_events log events now before after is =
    ap (λ bytes. bytes ++ bytes_of events) (sym before) ∙ sym (after_written log events) ∙ ap (λ l. l.written) (sym is) ∙ after

seen_after : (log now : Log) (bytes : List ℕ) (events : List Event) → log.written ≡ [] → now.written ≡ [] → now ≡ after_events log events
    → log_with now bytes ≡ after_events (log_with log bytes) events
seen_after log now bytes events before after is = ap (λ l. log_with l bytes) is ∙ sym (after_seen log bytes events (quiet_events log events now before after is))

-- ---- a call of the shell

abbrev told_quiet : Option (Told Store) → Type 0
told_quiet None = Unit {0}
told_quiet (Some told) = told.log.written ≡ []

stops_writing : {S A : Type 0} (run : Run (Beside S) A) (log : Log) (e : Refusal) (own : S) (now : Told Store) (bytes : List ℕ) (b : Bool)
    → log.written ≡ [] → now.log.written ≡ []
    → MatchBool b (IsCutOff run log (record { world = record { own = own; store = now.world }; log = now.log })) (IsRun run log (Err e) (record { world = record { own = own; store = now.world }; log = now.log }))
    → MatchBool b (IsCutOff run (log_with log bytes) (record { world = record { own = own; store = now.world }; log = log_with now.log bytes }))
    (IsRun run (log_with log bytes) (Err e) (record { world = record { own = own; store = now.world }; log = log_with now.log bytes }))
stops_writing run log e own now bytes true before after p =
    record { prefix = p.prefix; rest = p.rest; events = p.events; log = seen_after log now.log bytes p.prefix before after p.log }
stops_writing run log e own now bytes false before after p =
    record { answer = p.answer; world = p.world; log = seen_after log now.log bytes run.events before after p.log }

told_shell : {S A X : Type 0} (v : X → A) (m : Beside S → Run (Beside S) A) (own : S) (old : Option (Told Store)) (mine : S) (new : Option (Told Store)) (r : Result X Refusal) (bytes : Option (List ℕ))
    → told_quiet old → told_quiet new
    → AsTold v m (told_beside own old) r (told_beside mine new) → AsTold v m (told_writing own old bytes) r (told_writing mine new bytes)
told_shell v m own None mine new r bytes before after p = tt
told_shell v m own (Some t) mine None r bytes before after p = absurd p
told_shell v m own (Some t) mine (Some n) r None before after p = tt
told_shell v m own (Some t) mine (Some n) (Ok x) (Some bytes) before after p =
    record { answer = p.answer; world = p.world; log = seen_after t.log n.log bytes (m (record { own = own; store = t.world })).events before after p.log }
told_shell v m own (Some t) mine (Some n) (Err e) (Some bytes) before after p =
    stops_writing (m (record { own = own; store = t.world })) t.log e mine n bytes (ends_early e) before after p

quiet_of : (moment : Moment Store) → IsCoherent moment → told_quiet moment.told
quiet_of moment coherent = by moment.told coherent
  where
    by : (told : Option (Told Store)) → IsCoherent (record moment { told = told }) → told_quiet told
    by None p = tt
    by (Some t) p = p.3

-- a call of the shell leaves the sink
pub on_shell : {S K O A X : Type 0} (moment : K → Moment Store) (written : O → Option (List ℕ)) (coherent : (keeper : K) → IsCoherent (moment keeper)) {v : X → A}
    {m : Beside S → Run (Beside S) A} {own mine : S} {old new : K} (sink : O) {r : Result X Refusal}
    → Runs (moment_answering moment) v m (own, old) r (mine, new) → Runs (moment_writing moment written) v m (own, old, sink) r (mine, new, sink)
unfolding moment_answering moment_writing
on_shell {S = S} moment written coherent {v = v} {m = m} {own = own} {mine = mine} {old = old} {new = new} sink {r = r} (Ran p) = Ran (record {
  told = told_shell v m own (moment old).told mine (moment new).told r (written sink) (quiet_of (moment old) (coherent old)) (quiet_of (moment new) (coherent new)) p.told;
  keeps = p.keeps;
})

-- ---- a write

after_bytes : (log : Log) (bytes piece : List ℕ) → after_events (log_with log bytes) (map Writes piece) ≡ log_with log (bytes ++ piece)
unfolding after_events
after_bytes log bytes [] = ap (log_with log) (sym (append-nil bytes))
after_bytes log bytes (byte ∷ piece) = after_bytes log (bytes ++ byte ∷ []) piece ∙ ap (log_with log) (append_assoc bytes (byte ∷ []) piece)

split_writes : (count : ℕ) (piece : List ℕ) → map Writes (take count piece) ++ map Writes (drop count piece) ≡ map Writes piece
split_writes count piece = sym (map-append Writes (take count piece) (drop count piece)) ∙ ap (map Writes) (take-append-drop count piece)

told_written : {S : Type 0} (own : S) (told : Option (Told Store)) (before after : Option (List ℕ)) (piece : List ℕ)
    → HasWritten before piece (Ok tt) after → AsTold (λ u. u) (writes piece) (told_writing own told before) (Ok tt) (told_writing own told after)
unfolding writes
told_written own None before after piece p = tt
told_written own (Some t) None after piece p = tt
told_written own (Some t) (Some bytes) None piece p = absurd p
told_written own (Some t) (Some bytes) (Some more) piece p = record { answer = refl; world = refl; log = ap (log_with t.log) p ∙ sym (after_bytes t.log bytes piece) }

told_stopped : {S : Type 0} (own : S) (told : Option (Told Store)) (before after : Option (List ℕ)) (piece : List ℕ) (stop : Stop)
    → HasWritten before piece (Err stop) after → AsTold (λ u. u) (writes piece) (told_writing own told before) (Err Memory) (told_writing own told after)
unfolding writes
told_stopped own None before after piece stop p = tt
told_stopped own (Some t) None after piece stop p = tt
told_stopped own (Some t) (Some bytes) None piece stop p = absurd p
told_stopped own (Some t) (Some bytes) (Some more) piece stop p = record {
  prefix = map Writes (take p.0 piece);
  rest = map Writes (drop p.0 piece);
  events = split_writes p.0 piece;
  log = ap (log_with t.log) p.2 ∙ sym (after_bytes t.log bytes (take p.0 piece));
}

-- all of a piece went out
wrote : {S K O : Type 0} (moment : K → Moment Store) (written : O → Option (List ℕ)) (own : S) (keeper : K) (old new : O) (piece : List ℕ)
    → HasWritten (written old) piece (Ok tt) (written new) → Runs (moment_writing moment written) (λ u. u) (writes piece) (own, keeper, old) (Ok tt) (own, keeper, new)
unfolding moment_writing
wrote moment written own keeper old new piece p = Ran (record {
  told = told_written own (moment keeper).told (written old) (written new) piece p;
  keeps = keeps_answer;
})

-- less than a piece went out
wrote_prefix : {S K O : Type 0} (moment : K → Moment Store) (written : O → Option (List ℕ)) (own : S) (keeper : K) (old new : O) (piece : List ℕ) (stop : Stop)
    → HasWritten (written old) piece (Err stop) (written new) → Runs (moment_writing moment written) (λ u. u) (writes piece) (own, keeper, old) (Err Memory) (own, keeper, new)
unfolding moment_writing
wrote_prefix moment written own keeper old new piece stop p = Ran (record {
  told = told_stopped own (moment keeper).told (written old) (written new) piece stop p;
  keeps = keeps_memory;
})

-- a write ran, however it ended
pub on_sink : {S K O : Type 0} (moment : K → Moment Store) (written : O → Option (List ℕ)) (before after : ℕ) (own : S) (keeper : K) (old new : O) (piece : List ℕ) (r : Result (Unit {0}) Stop)
    → HasWritten (written old) piece r (written new) → CountsFaults r (faults 0 before 0) (faults 0 after 0)
    → Runs (moment_writing moment written) (λ u. u) (writes piece) (own, keeper, old) (as_refusal stop_refusal r) (own, keeper, new)
on_sink moment written before after own keeper old new piece (Ok u) p cause = wrote moment written own keeper old new piece p
on_sink moment written before after own keeper old new piece (Err Read) p cause = wrote_prefix moment written own keeper old new piece Read p
on_sink moment written before after own keeper old new piece (Err Write) p cause = wrote_prefix moment written own keeper old new piece Write p
on_sink moment written before after own keeper old new piece (Err Keeper) p cause = absurd (omega (arith, cause.2.1))
on_sink moment written before after own keeper old new piece (Err StopMemory) p cause = wrote_prefix moment written own keeper old new piece StopMemory p

-- a refusal that ends a run early is what its stop says below
pub stopped_as : (e : Refusal) (stop : Stop) → ends_early e ≡ true → stop ≡ keeper_stop e → stop_refusal stop ≡ e
stopped_as e stop early is = ap stop_refusal is ∙ by e early
  where
    by : (e : Refusal) → ends_early e ≡ true → stop_refusal (keeper_stop e) ≡ e
    by KeeperFault early = refl
    by Memory early = refl
    by e early = cc

-- ---- a line

-- the shell was stopped
pub answer_stopped : {S K O A B X Y : Type 0} (moment : K → Moment Store) (written : O → Option (List ℕ)) (coherent : (keeper : K) → IsCoherent (moment keeper)) {v : X → A} (v' : Y → B)
    {m : Beside S → Run (Beside S) A} (next : A → Beside S → Run (Beside S) B) {own mine : S} {old new : K} (sink : O) (e : Refusal) (r : Result Y Stop)
    → ends_early e ≡ true → IsErrAnd r (λ stop. stop ≡ keeper_stop e) → Runs (moment_answering moment) v m (own, old) (Err e) (mine, new)
    → Runs (moment_writing moment written) v' (m >>= next) (own, old, sink) (as_refusal stop_refusal r) (mine, new, sink)
answer_stopped moment written coherent v' {m = m} next {own = own} {mine = mine} {old = old} {new = new} sink e (Ok y) early is ran = absurd is
answer_stopped moment written coherent v' {m = m} next {own = own} {mine = mine} {old = old} {new = new} sink e (Err stop) early is ran =
    subst (λ d. Runs (moment_writing moment written) v' (m >>= next) (own, old, sink) (Err d) (mine, new, sink)) (sym (stopped_as e stop early is))
    (then_err next (on_shell moment written coherent sink ran))

-- a write was stopped
pub sink_stopped : {S K O B Y : Type 0} (moment : K → Moment Store) (written : O → Option (List ℕ)) (before after : ℕ) (v : Y → B) (next : Unit {0} → Beside S → Run (Beside S) B)
    (own : S) (keeper : K) (old new : O) (piece : List ℕ) (stop : Stop) (r : Result Y Stop)
    → HasWritten (written old) piece (Err stop) (written new) → CountsStop stop (faults 0 before 0) (faults 0 after 0) → IsErrAnd r (λ d. d ≡ stop)
    → Runs (moment_writing moment written) v (writes piece >>= next) (own, keeper, old) (as_refusal stop_refusal r) (own, keeper, new)
sink_stopped moment written before after v next own keeper old new piece stop (Ok y) p cause is = absurd is
sink_stopped moment written before after v next own keeper old new piece stop (Err d) p cause is =
    subst (λ e. Runs (moment_writing moment written) v (writes piece >>= next) (own, keeper, old) (Err (stop_refusal e)) (own, keeper, new)) (sym is)
    (then_err next (on_sink moment written before after own keeper old new piece (Err stop) p cause))

-- a call was stopped, of which another would have gone on
pub stopped_then : {S A B X Y : Type 0} {tell : S → Moment (Beside ShellState)} {v : X → A} (v' : Y → B) {m : Beside ShellState → Run (Beside ShellState) A} (next : A → Beside ShellState → Run (Beside ShellState) B) {old new : S} (stop : Stop) (r : Result Y Stop)
    → IsErrAnd r (λ d. d ≡ stop) → Runs tell v m old (Err (stop_refusal stop)) new → Runs tell v' (m >>= next) old (as_refusal stop_refusal r) new
stopped_then v' next stop (Ok y) is p = absurd is
stopped_then {tell = tell} v' {m = m} next {old = old} {new = new} stop (Err d) is p = subst (λ (s : Stop). Runs tell v' (m >>= next) old (Err (stop_refusal s)) new) (sym is) (then_err next p)

-- ---- a piece that goes out in parts

pub more_written : (before mid now : Option (List ℕ)) (piece part : List ℕ) (count n : ℕ)
    → Appends before mid (take count piece) → Appends mid now part → part ≡ take n (drop count piece) → Appends before now (take (count + n) piece)
more_written None mid now piece part count n p q is = tt
more_written (Some b) None now piece part count n p q is = absurd p
more_written (Some b) (Some m) None piece part count n p q is = absurd q
more_written (Some b) (Some m) (Some x) piece part count n p q is =
    q ∙ ap (λ l. l ++ part) p ∙ append_assoc b (take count piece) part ∙ ap (λ l. b ++ (take count piece ++ l)) is ∙ ap (λ l. b ++ l) (sym (take-add count n piece))

-- the whole piece went out
pub all_written : (before now : Option (List ℕ)) (piece : List ℕ) (count : ℕ) → Appends before now (take count piece) → length piece ≤ count → HasWritten before piece (Ok tt) now
all_written None now piece count p whole = tt
all_written (Some b) None piece count p whole = absurd p
all_written (Some b) (Some x) piece count p whole = p ∙ ap (λ l. b ++ l) (take_all count piece whole)

-- less than the piece went out
pub prefix_written : (before mid now : Option (List ℕ)) (piece : List ℕ) (count : ℕ) (r : Result (Unit {0}) Stop) → count < length piece → IsErr r → Appends before mid (take count piece) → Keeps mid now → HasWritten before piece r now
prefix_written before mid now piece count (Ok u) less is p q = cc
prefix_written None mid now piece count (Err stop) less is p q = tt
prefix_written (Some b) None now piece count (Err stop) less is p q = absurd p
prefix_written (Some b) (Some m) None piece count (Err stop) less is p q = absurd q
prefix_written (Some b) (Some m) (Some x) piece count (Err stop) less is p q = (count, less, q ∙ p)

-- what a write of the rest of a piece took
pub part_of : (piece : List ℕ) (count n : ℕ) → take n (take (length piece - count) (drop count piece)) ≡ take n (drop count piece)
part_of piece count n = ap (take n) (take_all (length piece - count) (drop count piece) (omega (arith, length-drop count piece)))

pub within : (piece : List ℕ) (count n : ℕ) → count ≤ length piece → n ≤ length (take (length piece - count) (drop count piece)) → count + n ≤ length piece
within piece count n le bound =
    let rest : length (take (length piece - count) (drop count piece)) ≡ length piece - count = ap length (take_all (length piece - count) (drop count piece) (omega (arith, length-drop count piece))) ∙ length-drop count piece in
    omega (arith, le, bound, rest)
