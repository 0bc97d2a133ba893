-- What calls in a row keep of a source, a sink and a keeper.
use Rattle.std.proofs.Common.{true, ◌≡◌, ◌≢◌, ◌≤◌, ℕ, List, Option, None, Result, Ok, Err, IsErrAnd, refl, sym, ap, ◌∙◌, subst, arith}
use Rattle.std.specs.Result.{IsErrOf}
use Rattle.base_core.specs.Counts.{Rose}
use Rattle.base_core.specs.declared.refusal.Refusal.{Refusal}
use Rattle.base_core.specs.declared.refusal.Refusal.TheVariants.{KeeperFault, Memory}
use Rattle.keeper_core.specs.Programs.{ends_early}
use Rattle.keeper_core.specs.Moment.{Acted, Acts, Moment}
use Rattle.keeper_core.specs.Store.{Store}
use Rattle.byte_streams.specs.declared.streams.SinkStop.{SinkStop}
use Rattle.byte_streams.specs.declared.streams.SinkStop.TheVariants as sink
use Rattle.byte_streams.specs.declared.lines.ReadStop.{ReadStop}
use Rattle.byte_streams.specs.declared.lines.ReadStop.TheVariants as read
use Rattle.sqla_shell.specs.declared.stop.Stop.{Stop}
use Rattle.sqla_shell.specs.declared.stop.Stop.TheVariants as stopped
use Rattle.sqla_shell.specs.Causes.{CountsFaults, Faults, faults, keeper_stop, read_stop, write_stop}
use Rattle.sqla_shell.specs.Seen.{Keeps, KeepsKeeper, Seen, faults_of, moment_seen}

-- ---- counts

answers_apart : (answer : Result ℕ SinkStop) → answer ≡ Err sink.Memory → answer ≡ Err sink.Fault → ⊥
answers_apart (Ok n) memory fault = cc
answers_apart (Err sink.Fault) memory fault = cc
answers_apart (Err sink.Memory) memory fault = cc

-- a write was stopped after others that were not
pub write_counted : {X : Type 0} (s : SinkStop) (answer : Result ℕ SinkStop) (r : Result X Stop) (before mid now : ℕ) → answer ≡ Err s → IsErrAnd r (λ d. d ≡ write_stop s) → mid ≡ before → mid ≤ now
    → (answer ≡ Err sink.Fault → Rose mid now) → (answer ≢ Err sink.Fault → now ≡ mid) → CountsFaults r (faults 0 before 0) (faults 0 now 0)
write_counted s answer (Ok x) before mid now here is same le cause quiet = absurd is
write_counted {X = X} sink.Fault answer (Err d) before mid now here is same le cause quiet =
    subst (λ (e : Stop). CountsFaults {X = X} (Err e) (faults 0 before 0) (faults 0 now 0)) (sym is) (refl, (omega (arith, same, le), subst (λ n. Rose n now) same (cause here)), refl)
write_counted {X = X} sink.Memory answer (Err d) before mid now here is same le cause quiet =
    subst (λ (e : Stop). CountsFaults {X = X} (Err e) (faults 0 before 0) (faults 0 now 0)) (sym is) (refl, quiet (λ fault. answers_apart answer here fault) ∙ same, refl)

-- a call that counted nothing, and then another
pub counts_then : {X : Type 0} (r : Result X Stop) (a b c : Faults) → (b.source ≡ a.source) × (b.sink ≡ a.sink) × (b.keeper ≡ a.keeper) → CountsFaults r b c → CountsFaults r a c
counts_then (Ok x) a b c p q = (q.0 ∙ p.0, q.1 ∙ p.1, q.2 ∙ p.2)
counts_then (Err stopped.Read) a b c p q = ((omega (arith, p.0, q.0.0), subst (λ n. Rose n c.source) p.0 q.0.1), q.1 ∙ p.1, q.2 ∙ p.2)
counts_then (Err stopped.Write) a b c p q = (q.0 ∙ p.0, (omega (arith, p.1, q.1.0), subst (λ n. Rose n c.sink) p.1 q.1.1), q.2 ∙ p.2)
counts_then (Err stopped.Keeper) a b c p q = (q.0 ∙ p.0, q.1 ∙ p.1, (omega (arith, p.2, q.2.0), subst (λ n. Rose n c.keeper) p.2 q.2.1))
counts_then (Err stopped.Memory) a b c p q = (q.0 ∙ p.0, q.1 ∙ p.1, q.2 ∙ p.2)

-- what was counted of a sink and a keeper, where the source stood still
counts_beside : {X : Type 0} (r : Result X Stop) (source source' sink keeper sink' keeper' : ℕ) → source' ≡ source
    → CountsFaults r (faults 0 sink keeper) (faults 0 sink' keeper') → CountsFaults r (faults source sink keeper) (faults source' sink' keeper')
counts_beside (Ok x) s s' k n k' n' same p = (same, p.1, p.2)
counts_beside (Err stopped.Read) s s' k n k' n' same p = absurd (omega (arith, p.0.1))
counts_beside (Err stopped.Write) s s' k n k' n' same p = (same, p.1, p.2)
counts_beside (Err stopped.Keeper) s s' k n k' n' same p = (same, p.1, p.2)
counts_beside (Err stopped.Memory) s s' k n k' n' same p = (same, p.1, p.2)

-- what was counted of a sink, where the keeper stood still
counts_sink : {X : Type 0} (r : Result X Stop) (sink keeper sink' keeper' : ℕ) → keeper' ≡ keeper
    → CountsFaults r (faults 0 sink 0) (faults 0 sink' 0) → CountsFaults r (faults 0 sink keeper) (faults 0 sink' keeper')
counts_sink (Ok x) k n k' n' same p = (refl, p.1, same)
counts_sink (Err stopped.Read) k n k' n' same p = absurd (omega (arith, p.0.1))
counts_sink (Err stopped.Write) k n k' n' same p = (refl, p.1, same)
counts_sink (Err stopped.Keeper) k n k' n' same p = absurd (omega (arith, p.2.1))
counts_sink (Err stopped.Memory) k n k' n' same p = (refl, p.1, same)

-- ---- calls

pub keeper_then : {a b c : Moment Store} → KeepsKeeper a b → KeepsKeeper b c → KeepsKeeper a c
keeper_then p q = record { target = q.target ∙ p.target; attached = q.attached ∙ p.attached; tells = q.tells ∙ p.tells }

pub keeper_same : {a : Moment Store} → KeepsKeeper a a
keeper_same = record { target = refl; attached = refl; tells = refl }

-- a call that answered, and then another
pub keeps_then : {X Y : Type 0} {a b c : Seen} {x : X} {r : Result Y Stop} → Keeps a (Ok x) b → Keeps b r c → Keeps a r c
keeps_then {a = a} {b = b} {c = c} {r = r} p q = record { faults = counts_then r (faults_of a) (faults_of b) (faults_of c) p.faults q.faults; keeper = keeper_then p.keeper q.keeper }

-- the same answer of another kind
pub keeps_answer : {X Y : Type 0} {a b : Seen} {x : X} {y : Y} → Keeps a (Ok x) b → Keeps a (Ok y) b
keeps_answer p = record { faults = p.faults; keeper = p.keeper }

keeps_stop : {X Y : Type 0} {a b : Seen} {s : Stop} (r : Result Y Stop) → IsErrAnd r (λ d. d ≡ s) → Keeps {X = X} a (Err s) b → Keeps a r b
keeps_stop (Ok y) is p = absurd is
keeps_stop {Y = Y} {a = a} {b = b} (Err d) is p = subst (λ (e : Stop). Keeps {X = Y} a (Err e) b) (sym is) (record { faults = p.faults; keeper = p.keeper })

-- the stop of a call as that of the call around it
pub keeps_passed : {X Y : Type 0} {a b : Seen} {s : Stop} {r : Result Y Stop} → IsErrAnd r (λ d. d ≡ s) → Keeps {X = X} a (Err s) b → Keeps a r b
keeps_passed {X = X} {r = r} is p = keeps_stop {X = X} r is p

-- a call of the shell was stopped
shell_stop : {X Y : Type 0} (e : Refusal) (s s' : Option (List ℕ)) (k : ℕ) (old new : Moment Store)
    → ends_early e ≡ true → Acts {X = X} old (Err e) new → Keeps {X = Y} (moment_seen None 0 s k old) (Err (keeper_stop e)) (moment_seen None 0 s' k new)
shell_stop KeeperFault s s' k old new early (Acted p) =
    record { faults = (refl, refl, p.faults); keeper = record { target = p.kept; attached = p.attached; tells = p.tells } }
shell_stop Memory s s' k old new early (Acted p) =
    record { faults = (refl, refl, p.faults); keeper = record { target = p.kept; attached = p.attached; tells = p.tells } }
shell_stop e s s' k old new early p = cc

pub shell_stopped : {X Y : Type 0} {e : Refusal} {s s' : Option (List ℕ)} {k : ℕ} {old new : Moment Store} {r : Result Y Stop}
    → ends_early e ≡ true → IsErrAnd r (λ d. d ≡ keeper_stop e) → Acts {X = X} old (Err e) new → Keeps (moment_seen None 0 s k old) r (moment_seen None 0 s' k new)
shell_stopped {X = X} {Y = Y} {e = e} {s = s} {s' = s'} {k = k} {old = old} {new = new} {r = r} early is p = keeps_stop {X = Y} r is (shell_stop {X = X} {Y = Y} e s s' k old new early p)

-- a call of the shell answered
pub shell_answered : {X Y : Type 0} {x : X} {y : Y} {s s' : Option (List ℕ)} {k : ℕ} {old new : Moment Store} → Acts old (Ok x) new → Keeps (moment_seen None 0 s k old) (Ok y) (moment_seen None 0 s' k new)
shell_answered (Acted p) = record { faults = (refl, refl, p.faults); keeper = record { target = p.kept; attached = p.attached; tells = p.tells } }

-- a piece was written, or that was stopped
pub sink_wrote : {X : Type 0} {r : Result X Stop} {s s' : Option (List ℕ)} {k k' : ℕ} {keeper : Moment Store} → CountsFaults r (faults 0 k 0) (faults 0 k' 0) → Keeps (moment_seen None 0 s k keeper) r (moment_seen None 0 s' k' keeper)
sink_wrote {r = r} {k = k} {k' = k'} {keeper = keeper} p = record { faults = counts_sink r k keeper.faults k' keeper.faults refl p; keeper = keeper_same }

-- a call of a sink and a keeper, beside a source that stood still
pub beside_source : {X : Type 0} {r : Result X Stop} {l l' w w' : Option (List ℕ)} {s s' k k' : ℕ} {old new : Moment Store} → s' ≡ s → Keeps (moment_seen None 0 w k old) r (moment_seen None 0 w' k' new) → Keeps (moment_seen l s w k old) r (moment_seen l' s' w' k' new)
beside_source {r = r} {s = s} {s' = s'} {k = k} {k' = k'} {old = old} {new = new} same p =
    record { faults = counts_beside r s s' k old.faults k' new.faults same p.faults; keeper = p.keeper }

-- the source answered
pub source_read : {X : Type 0} {x : X} {l l' w : Option (List ℕ)} {s s' k : ℕ} {keeper : Moment Store} → s' ≡ s → Keeps (moment_seen l s w k keeper) (Ok x) (moment_seen l' s' w k keeper)
source_read same = record { faults = (same, refl, refl); keeper = keeper_same }

read_counted : {X : Type 0} (cause : ReadStop) (l l' w : Option (List ℕ)) (s s' k : ℕ) (keeper : Moment Store) → s ≤ s' → (cause ≡ read.Fault → Rose s s') → (cause ≢ read.Fault → s' ≡ s)
    → Keeps {X = X} (moment_seen l s w k keeper) (Err (read_stop cause)) (moment_seen l' s' w k keeper)
read_counted read.Fault l l' w s s' k keeper le rose quiet = record { faults = ((le, rose refl), refl, refl); keeper = keeper_same }
read_counted read.Memory l l' w s s' k keeper le rose quiet = record { faults = (quiet (λ same. cc), refl, refl); keeper = keeper_same }

-- the source was stopped
pub source_stopped : {X : Type 0} {cause : ReadStop} {r : Result X Stop} {l l' w : Option (List ℕ)} {s s' k : ℕ} {keeper : Moment Store} → IsErrAnd r (λ d. d ≡ read_stop cause)
    → s ≤ s' → (cause ≡ read.Fault → Rose s s') → (cause ≢ read.Fault → s' ≡ s) → Keeps (moment_seen l s w k keeper) r (moment_seen l' s' w k keeper)
source_stopped {X = X} {cause = cause} {r = r} {l = l} {l' = l'} {w = w} {s = s} {s' = s'} {k = k} {keeper = keeper} is le rose quiet =
    keeps_stop {X = X} r is (read_counted {X = X} cause l l' w s s' k keeper le rose quiet)

err_of : {T E : Type 0} → E → Result T E → E
err_of other (Ok x) = other
err_of other (Err e) = e

pub err_is : {T E : Type 0} {e d : E} → IsErrOf {T = T} (Err e) d → e ≡ d
unfolding err_of
err_is {e = e} is = ap (err_of e) is

-- ---- a reply and what is written of it

-- a call of the shell answered, and then a piece was written, or that was stopped
pub answered_then_wrote : {X Y : Type 0} {x : X} {r : Result Y Stop} {s s' : Option (List ℕ)} {k k' : ℕ} {old new : Moment Store}
    → Acts old (Ok x) new → CountsFaults r (faults 0 k 0) (faults 0 k' 0) → Keeps (moment_seen None 0 s k old) r (moment_seen None 0 s' k' new)
answered_then_wrote {r = r} {s = s} {s' = s'} {k = k} {k' = k'} {new = new} p q =
    keeps_then {r = r} (shell_answered {Y = Unit {0}} {y = tt} {s = s} {s' = s} {k = k} p) (sink_wrote {r = r} {s = s} {s' = s'} {k = k} {k' = k'} {keeper = new} q)

-- a piece was written, and then a call of the shell was stopped
pub wrote_then_stopped : {X Y : Type 0} {e : Refusal} {r : Result Y Stop} {s s' : Option (List ℕ)} {k k' : ℕ} {old new : Moment Store}
    → CountsFaults {X = Unit {0}} (Ok tt) (faults 0 k 0) (faults 0 k' 0) → ends_early e ≡ true → IsErrAnd r (λ d. d ≡ keeper_stop e) → Acts {X = X} old (Err e) new
    → Keeps (moment_seen None 0 s k old) r (moment_seen None 0 s' k' new)
wrote_then_stopped {X = X} {e = e} {r = r} {s = s} {s' = s'} {k = k} {k' = k'} {old = old} p early is q =
    keeps_then {x = tt} {r = r} (sink_wrote {X = Unit {0}} {r = Ok tt} {s = s} {s' = s'} {k = k} {k' = k'} {keeper = old} p) (shell_stopped {X = X} {s = s'} {s' = s'} early is q)

-- a piece was written, and then a call of the shell answered
pub wrote_then_answered : {X Y : Type 0} {x : X} {y : Y} {s s' : Option (List ℕ)} {k k' : ℕ} {old new : Moment Store}
    → CountsFaults {X = Unit {0}} (Ok tt) (faults 0 k 0) (faults 0 k' 0) → Acts old (Ok x) new → Keeps (moment_seen None 0 s k old) (Ok y) (moment_seen None 0 s' k' new)
wrote_then_answered {y = y} {s = s} {s' = s'} {k = k} {k' = k'} {old = old} p q =
    keeps_then {x = tt} {r = Ok y} (sink_wrote {X = Unit {0}} {r = Ok tt} {s = s} {s' = s'} {k = k} {k' = k'} {keeper = old} p) (shell_answered {y = y} {s = s'} {s' = s'} q)
