-- How runs of programs are joined, undone and repeated: what an acting call needs of the calls that it makes.
use Rattle.std.proofs.Common.{◌≡◌, ℕ, ◌+◌, ◌<◌, ◌≤◌, Bool, true, false, List, [], ◌∷◌, ◌++◌, Option, None, Some, Result, Ok, Err, IsErrAnd, MatchBool, refl, sym, ap, ◌∙◌, subst, append_assoc, append-nil, length, drop, get_or}
use Rattle.std.proofs.Common.{add-one, drop-cons}
use Rattle.std.proofs.lemmas.List.{drop_all}
use Rattle.base_core.specs.declared.refusal.Refusal.{Refusal}
use Rattle.base_core.specs.declared.refusal.Refusal.TheVariants.{Memory}
use Rattle.keeper_core.specs.Programs.{Event, Log, Run, after_event, after_events, ends_early, is_of_tables, with_events_before, continue_from, ◌>>=◌, give, refuse, with_undo, undo_on_refusal, each}
use Rattle.keeper_core.specs.Moment.{Told, Moment, IsRun, IsCutOff, Keeps, Outcome, AsTold, counters, Runs, Ran, AsReached, Reaches, Reached}
use Rattle.keeper_core.proofs.Counts.{keeps_answer, keeps_err, keeps_lost, keeps_memory, keeps_ok, keeps_ran_out, keeps_ran_out_refused, keeps_refusal, keeps_then, keeps_undone}

-- ---- logs

-- events in two pieces, one after the other
pub after_append : (log : Log) (xs ys : List Event) → after_events log (xs ++ ys) ≡ after_events (after_events log xs) ys
unfolding after_events
after_append log [] ys = refl
after_append log (x ∷ xs) ys = after_append (after_event log x) xs ys

-- ---- what is told

joined_run : {W A : Type 0} {before mid : Log} {result : Result A Refusal} {now : Told W} (events : List Event) (run : Run W A)
    → mid ≡ after_events before events → IsRun run mid result now → IsRun (with_events_before events run) before result now
joined_run {before = before} events run here p = record {
  answer = p.answer;
  world = p.world;
  log = p.log ∙ ap (λ l. after_events l run.events) here ∙ sym (after_append before events run.events);
}

joined_cut : {W A : Type 0} {before mid : Log} {now : Told W} (events : List Event) (run : Run W A)
    → mid ≡ after_events before events → IsCutOff run mid now → IsCutOff (with_events_before events run) before now
joined_cut {before = before} events run here p = record {
  prefix = events ++ p.prefix;
  rest = p.rest;
  events = append_assoc events p.prefix p.rest ∙ ap (λ es. events ++ es) p.events;
  log = p.log ∙ ap (λ l. after_events l p.prefix) here ∙ sym (after_append before events p.prefix);
}

joined_stops : {W A : Type 0} (before mid : Log) (now : Told W) (events : List Event) (run : Run W A) (e : Refusal) (b : Bool)
    → mid ≡ after_events before events → MatchBool b (IsCutOff run mid now) (IsRun run mid (Err e) now)
    → MatchBool b (IsCutOff (with_events_before events run) before now) (IsRun (with_events_before events run) before (Err e) now)
joined_stops before mid now events run e true here p = joined_cut events run here p
joined_stops before mid now events run e false here p = joined_run events run here p

pub joined_outcome : {W A X : Type 0} (before mid : Log) (now : Told W) (v : X → A) (events : List Event) (run : Run W A) (r : Result X Refusal)
    → mid ≡ after_events before events → Outcome v run mid r now → Outcome v (with_events_before events run) before r now
joined_outcome before mid now v events run (Ok x) here p = joined_run events run here p
joined_outcome before mid now v events run (Err e) here p = joined_stops before mid now events run e (ends_early e) here p

-- the run of a program that goes on from an answer
bind_ok : {W A B : Type 0} (m : W → Run W A) (next : A → W → Run W B) (w u : W) (a : A) → (m w).answer ≡ Ok a → u ≡ (m w).after
    → with_events_before (m w).events (next a u) ≡ (m >>= next) w
unfolding ◌>>=◌
bind_ok m next w u a answer after =
    ap (λ v. with_events_before (m w).events (next a v)) after ∙ sym (ap (λ r. continue_from (m w).events (m w).after r next) answer)

bind_err : {W A B : Type 0} (m : W → Run W A) (next : A → W → Run W B) (w : W) (e : Refusal) → (m w).answer ≡ Err e
    → record { events = (m w).events; answer = Err e; after = (m w).after } ≡ (m >>= next) w
unfolding ◌>>=◌
bind_err m next w e answer = sym (ap (λ r. continue_from (m w).events (m w).after r next) answer)

told_then_ok : {W A B X Y : Type 0} (v : X → A) (v' : Y → B) (m : W → Run W A) (next : A → W → Run W B) (old mid new : Option (Told W)) (x : X) (r : Result Y Refusal)
    → AsTold v m old (Ok x) mid → AsTold v' (next (v x)) mid r new → AsTold v' (m >>= next) old r new
told_then_ok v v' m next None mid new x r p q = tt
told_then_ok v v' m next (Some t) None new x r p q = absurd p
told_then_ok v v' m next (Some t) (Some k) None x r p q = absurd q
told_then_ok v v' m next (Some t) (Some k) (Some n) x r p q =
    subst (λ run. Outcome v' run t.log r n) (bind_ok m next t.world k.world (v x) p.answer p.world)
    (joined_outcome t.log k.log n v' (m t.world).events (next (v x) k.world) r p.log q)

-- a run that was refused is the whole of a program that would have gone on from its answer
err_run : {W A B : Type 0} (before : Log) (now : Told W) (m : W → Run W A) (next : A → W → Run W B) (w : W) (e : Refusal)
    → IsRun (m w) before (Err e) now → IsRun ((m >>= next) w) before (Err e) now
err_run before now m next w e p =
    subst (λ run. IsRun run before (Err e) now) (bind_err m next w e p.answer) (record { answer = refl; world = p.world; log = p.log })

-- a program that goes on has at least the events of its first part
followed_events : {W A B : Type 0} (events : List Event) (w : W) (r : Result A Refusal) (next : A → W → Run W B)
    → (rest : List Event) × (events ++ rest ≡ (continue_from events w r next).events)
followed_events events w (Ok a) next = ((next a w).events, refl)
followed_events events w (Err e) next = ([], append-nil events)

bind_events : {W A B : Type 0} (m : W → Run W A) (next : A → W → Run W B) (w : W)
    → (rest : List Event) × ((m w).events ++ rest ≡ ((m >>= next) w).events)
unfolding ◌>>=◌
bind_events m next w = followed_events (m w).events (m w).after (m w).answer next

pub longer_cut : {W A B : Type 0} (before : Log) (now : Told W) (run : Run W A) (whole : Run W B) (rest : List Event)
    → run.events ++ rest ≡ whole.events → IsCutOff run before now → IsCutOff whole before now
longer_cut before now run whole rest more p = record {
  prefix = p.prefix;
  rest = p.rest ++ rest;
  events = sym (append_assoc p.prefix p.rest rest) ∙ ap (λ es. es ++ rest) p.events ∙ more;
  log = p.log;
}

err_stops : {W A B : Type 0} (before : Log) (now : Told W) (m : W → Run W A) (next : A → W → Run W B) (w : W) (e : Refusal) (b : Bool)
    → MatchBool b (IsCutOff (m w) before now) (IsRun (m w) before (Err e) now)
    → MatchBool b (IsCutOff ((m >>= next) w) before now) (IsRun ((m >>= next) w) before (Err e) now)
err_stops before now m next w e true p = let more = bind_events m next w in longer_cut before now (m w) ((m >>= next) w) more.0 more.1 p
err_stops before now m next w e false p = err_run before now m next w e p

told_then_err : {W A B X Y : Type 0} (v : X → A) (v' : Y → B) (m : W → Run W A) (next : A → W → Run W B) (old new : Option (Told W)) (e : Refusal)
    → AsTold v m old (Err e) new → AsTold v' (m >>= next) old (Err e) new
told_then_err v v' m next None new e p = tt
told_then_err v v' m next (Some t) None e p = absurd p
told_then_err v v' m next (Some t) (Some n) e p = err_stops t.log n m next t.world e (ends_early e) p

-- nothing has happened yet
told_unmoved : {W A X : Type 0} (v : X → A) (m : W → Run W A) (told : Option (Told W)) (e : Refusal) → ends_early e ≡ true → AsTold v m told (Err e) told
unfolding after_events
told_unmoved v m None e early = tt
told_unmoved v m (Some t) e early = subst (λ b. MatchBool b (IsCutOff (m t.world) t.log t) (IsRun (m t.world) t.log (Err e) t)) (sym early)
    (record { prefix = []; rest = (m t.world).events; events = refl; log = refl })

told_given : {W A X : Type 0} (v : X → A) (a : A) (told : Option (Told W)) (x : X) → a ≡ v x → AsTold v (give a) told (Ok x) told
unfolding give after_events
told_given v a None x is = tt
told_given v a (Some t) x is = record { answer = ap Ok is; world = refl; log = refl }

told_refused : {W A X : Type 0} (v : X → A) (told : Option (Told W)) (e : Refusal) → ends_early e ≡ false → AsTold v (refuse e) told (Err e) told
unfolding refuse after_events
told_refused v None e own = tt
told_refused {W = W} {A = A} v (Some t) e own = let run : Run W A = refuse e t.world in subst (λ b. MatchBool b (IsCutOff run t.log t) (IsRun run t.log (Err e) t)) (sym own)
    (record { answer = refl; world = refl; log = refl })

-- memory may run out in a call wherever it is
told_ran_out : {W A X Y : Type 0} (v : X → A) (v' : Y → A) (m : W → Run W A) (old new : Option (Told W)) (r : Result X Refusal)
    → AsTold v m old r new → AsTold v' m old (Err Memory) new
told_ran_out v v' m None new r p = tt
told_ran_out v v' m (Some t) None r p = absurd p
told_ran_out v v' m (Some t) (Some n) (Ok x) p = record { prefix = (m t.world).events; rest = []; events = append-nil (m t.world).events; log = p.log }
told_ran_out v v' m (Some t) (Some n) (Err e) p = by (ends_early e) p
  where
    by : (b : Bool) → MatchBool b (IsCutOff (m t.world) t.log n) (IsRun (m t.world) t.log (Err e) n) → IsCutOff (m t.world) t.log n
    by true q = q
    by false q = record { prefix = (m t.world).events; rest = []; events = append-nil (m t.world).events; log = q.log }

-- ---- calls in a row

-- a call that answered, and what goes on from its answer
pub then_ok : {W A B X Y S : Type 0} {tell : S → Moment W} {v : X → A} {v' : Y → B} {m : W → Run W A} (next : A → W → Run W B) {old mid new : S} {x : X} {r : Result Y Refusal}
    → Runs tell v m old (Ok x) mid → Runs tell v' (next (v x)) mid r new → Runs tell v' (m >>= next) old r new
then_ok {tell = tell} {v = v} {v' = v'} {m = m} next {old = old} {mid = mid} {new = new} {x = x} {r = r} (Ran p) (Ran q) = Ran (record {
  told = told_then_ok v v' m next (tell old).told (tell mid).told (tell new).told x r p.told q.told;
  keeps = keeps_then p.keeps q.keeps;
})

-- a call that was refused
pub then_err : {W A B X Y S : Type 0} {tell : S → Moment W} {v : X → A} {v' : Y → B} {m : W → Run W A} (next : A → W → Run W B) {old new : S} {e : Refusal}
    → Runs tell v m old (Err e) new → Runs tell v' (m >>= next) old (Err e) new
then_err {tell = tell} {v = v} {v' = v'} {m = m} next {old = old} {new = new} {e = e} (Ran p) = Ran (record {
  told = told_then_err v v' m next (tell old).told (tell new).told e p.told;
  keeps = keeps_err p.keeps;
})

-- an answer with nothing sent
pub done : {W A X S : Type 0} {tell : S → Moment W} {v : X → A} {a : A} {x : X} {s : S} → a ≡ v x → Runs tell v (give a) s (Ok x) s
done {tell = tell} {v = v} {a = a} {x = x} {s = s} is = Ran (record {
  told = told_given v a (tell s).told x is;
  keeps = keeps_answer;
})

-- a refusal with nothing sent
pub refused : {W A X S : Type 0} {tell : S → Moment W} {v : X → A} {e : Refusal} {s : S} → ends_early e ≡ false → is_of_tables e ≡ false → Runs tell v (refuse e) s (Err e) s
refused {tell = tell} {v = v} {e = e} {s = s} own apart = Ran (record {
  told = told_refused v (tell s).told e own;
  keeps = keeps_refusal e own apart;
})

-- memory ran out before anything was done
pub no_memory : {W A X S : Type 0} {tell : S → Moment W} {v : X → A} {m : W → Run W A} {s : S} → Runs tell v m s (Err Memory) s
no_memory {tell = tell} {v = v} {m = m} {s = s} = Ran (record {
  told = told_unmoved v m (tell s).told Memory refl;
  keeps = keeps_memory;
})

-- memory ran out after the call
pub ran_out : {W A X Y S : Type 0} {tell : S → Moment W} {v : X → A} {v' : Y → A} {m : W → Run W A} {old new : S} {x : X}
    → Runs tell v m old (Ok x) new → Runs tell v' m old (Err Memory) new
ran_out {tell = tell} {v = v} {v' = v'} {m = m} {old = old} {new = new} {x = x} (Ran p) = Ran (record {
  told = told_ran_out v v' m (tell old).told (tell new).told (Ok x) p.told;
  keeps = keeps_ran_out p.keeps;
})

-- memory ran out after a call that was refused
pub ran_out_refused : {W A X Y S : Type 0} {tell : S → Moment W} {v : X → A} {v' : Y → A} {m : W → Run W A} {old new : S} {e : Refusal}
    → ends_early e ≡ false → Runs tell v m old (Err e) new → Runs tell v' m old (Err Memory) new
ran_out_refused {tell = tell} {v = v} {v' = v'} {m = m} {old = old} {new = new} {e = e} own (Ran p) = Ran (record {
  told = told_ran_out v v' m (tell old).told (tell new).told (Err e) p.told;
  keeps = keeps_ran_out_refused own p.keeps;
})

pass_on : {W A X S : Type 0} (tell : S → Moment W) (v : X → A) (m : W → Run W A) (old new : S) (e : Refusal) (r : Result X Refusal)
    → IsErrAnd r (λ d. d ≡ e) → Runs tell v m old (Err e) new → Runs tell v m old r new
pass_on tell v m old new e (Ok x) is p = absurd is
pass_on tell v m old new e (Err d) is p = subst (λ c. Runs tell v m old (Err c) new) (sym is) p

-- the same refusal, as the answer of the call around
pub passed_on : {W A X S : Type 0} {tell : S → Moment W} {v : X → A} {m : W → Run W A} {old new : S} {e : Refusal} {r : Result X Refusal}
    → IsErrAnd r (λ d. d ≡ e) → Runs tell v m old (Err e) new → Runs tell v m old r new
passed_on {tell = tell} {v = v} {m = m} {old = old} {new = new} {e = e} {r = r} is p = pass_on tell v m old new e r is p

-- ---- undoing

mended_ok : {W A : Type 0} (m : W → Run W A) (undo : W → Run W (Unit {0})) (w : W) (a : A) → (m w).answer ≡ Ok a
    → record { events = (m w).events; answer = Ok a; after = (m w).after } ≡ with_undo m undo w
unfolding with_undo
mended_ok m undo w a is = sym (ap (λ r. undo_on_refusal (m w).events (m w).after r undo) is)

mended_err : {W A : Type 0} (m : W → Run W A) (undo : W → Run W (Unit {0})) (w u : W) (e : Refusal) → (m w).answer ≡ Err e → u ≡ (m w).after
    → with_events_before (m w).events ((undo >>= λ _. refuse {W = W} {A = A} e) u) ≡ with_undo m undo w
unfolding with_undo
mended_err {W = W} {A = A} m undo w u e is after =
    ap (λ x. with_events_before (m w).events ((undo >>= λ _. refuse {W = W} {A = A} e) x)) after ∙ sym (ap (λ r. undo_on_refusal (m w).events (m w).after r undo) is)

mended_events : {W A : Type 0} (events : List Event) (w : W) (r : Result A Refusal) (undo : W → Run W (Unit {0}))
    → (rest : List Event) × (events ++ rest ≡ (undo_on_refusal events w r undo).events)
mended_events events w (Ok a) undo = ([], append-nil events)
mended_events {W = W} {A = A} events w (Err e) undo = (((undo >>= λ _. refuse {W = W} {A = A} e) w).events, refl)

guarded_events : {W A : Type 0} (m : W → Run W A) (undo : W → Run W (Unit {0})) (w : W)
    → (rest : List Event) × ((m w).events ++ rest ≡ (with_undo m undo w).events)
unfolding with_undo
guarded_events m undo w = mended_events (m w).events (m w).after (m w).answer undo

told_guard_ok : {W A X : Type 0} (v : X → A) (m : W → Run W A) (undo : W → Run W (Unit {0})) (old new : Option (Told W)) (x : X)
    → AsTold v m old (Ok x) new → AsTold v (with_undo m undo) old (Ok x) new
told_guard_ok v m undo None new x p = tt
told_guard_ok v m undo (Some t) None x p = absurd p
told_guard_ok v m undo (Some t) (Some n) x p =
    subst (λ run. IsRun run t.log (Ok (v x)) n) (mended_ok m undo t.world (v x) p.answer) (record { answer = refl; world = p.world; log = p.log })

told_guard_early : {W A X Y : Type 0} (v : X → A) (v' : Y → A) (m : W → Run W A) (undo : W → Run W (Unit {0})) (old new : Option (Told W)) (e : Refusal) → ends_early e ≡ true
    → AsTold v m old (Err e) new → AsTold v' (with_undo m undo) old (Err e) new
told_guard_early v v' m undo None new e early p = tt
told_guard_early v v' m undo (Some t) None e early p = absurd p
told_guard_early v v' m undo (Some t) (Some n) e early p =
    let cut : IsCutOff (m t.world) t.log n = subst (λ b. MatchBool b (IsCutOff (m t.world) t.log n) (IsRun (m t.world) t.log (Err e) n)) early p in
    let more = guarded_events m undo t.world in
    subst (λ b. MatchBool b (IsCutOff (with_undo m undo t.world) t.log n) (IsRun (with_undo m undo t.world) t.log (Err e) n)) (sym early)
    (longer_cut t.log n (m t.world) (with_undo m undo t.world) more.0 more.1 cut)

told_guard_refused : {W A X Y Z : Type 0} (v : X → A) (v' : Y → A) (u : Z → Unit {0}) (m : W → Run W A) (undo : W → Run W (Unit {0})) (old mid new : Option (Told W)) (e : Refusal) (r : Result Y Refusal)
    → ends_early e ≡ false → AsTold v m old (Err e) mid → AsTold v' (undo >>= λ _. refuse e) mid r new → AsTold v' (with_undo m undo) old r new
told_guard_refused v v' u m undo None mid new e r own p q = tt
told_guard_refused v v' u m undo (Some t) None new e r own p q = absurd p
told_guard_refused v v' u m undo (Some t) (Some k) None e r own p q = absurd q
told_guard_refused v v' u m undo (Some t) (Some k) (Some n) e r own p q =
    let ran : IsRun (m t.world) t.log (Err e) k = subst (λ b. MatchBool b (IsCutOff (m t.world) t.log k) (IsRun (m t.world) t.log (Err e) k)) own p in
    subst (λ run. Outcome v' run t.log r n) (mended_err m undo t.world k.world e ran.answer ran.world)
    (joined_outcome t.log k.log n v' (m t.world).events ((undo >>= λ _. refuse e) k.world) r ran.log q)

-- the guarded call answered
pub guard_ok : {W A X S : Type 0} {tell : S → Moment W} {v : X → A} {m : W → Run W A} (undo : W → Run W (Unit {0})) {old new : S} {x : X}
    → Runs tell v m old (Ok x) new → Runs tell v (with_undo m undo) old (Ok x) new
guard_ok {tell = tell} {v = v} {m = m} undo {old = old} {new = new} {x = x} (Ran p) = Ran (record {
  told = told_guard_ok v m undo (tell old).told (tell new).told x p.told;
  keeps = p.keeps;
})

-- the guarded call was ended early: nothing is undone
pub guard_early : {W A X Y S : Type 0} {tell : S → Moment W} {v : X → A} {v' : Y → A} {m : W → Run W A} (undo : W → Run W (Unit {0})) {old new : S} {e : Refusal}
    → ends_early e ≡ true → Runs tell v m old (Err e) new → Runs tell v' (with_undo m undo) old (Err e) new
guard_early {tell = tell} {v = v} {v' = v'} {m = m} undo {old = old} {new = new} {e = e} early (Ran p) = Ran (record {
  told = told_guard_early v v' m undo (tell old).told (tell new).told e early p.told;
  keeps = keeps_err p.keeps;
})

-- the guarded call was refused, and what it did was undone
pub guard_refused : {W A X Y Z S : Type 0} {tell : S → Moment W} {v : X → A} {v' : Y → A} {u : Z → Unit {0}} {m : W → Run W A} {undo : W → Run W (Unit {0})} {old mid new : S} {e : Refusal} {z : Z}
    → ends_early e ≡ false → Runs tell v m old (Err e) mid → Runs tell u undo mid (Ok z) new → Runs tell v' (with_undo m undo) old (Err e) new
guard_refused {tell = tell} {v = v} {v' = v'} {u = u} {m = m} {undo = undo} {old = old} {mid = mid} {new = new} {e = e} {z = z} own (Ran p) (Ran q) = Ran (record {
  told = told_guard_refused v v' u m undo (tell old).told (tell mid).told (tell new).told e (Err e) own p.told
      (told_then_ok u v' undo (λ _. refuse e) (tell mid).told (tell new).told (tell new).told z (Err e) q.told (told_refused v' (tell new).told e own));
  keeps = keeps_undone own p.keeps q.keeps;
})

-- the guarded call was refused, and so was the undoing
pub guard_lost : {W A X Y Z S : Type 0} {tell : S → Moment W} {v : X → A} {v' : Y → A} {u : Z → Unit {0}} {m : W → Run W A} {undo : W → Run W (Unit {0})} {old mid new : S} {e d : Refusal}
    → ends_early e ≡ false → Runs tell v m old (Err e) mid → Runs tell u undo mid (Err d) new → Runs tell v' (with_undo m undo) old (Err d) new
guard_lost {tell = tell} {v = v} {v' = v'} {u = u} {m = m} {undo = undo} {old = old} {mid = mid} {new = new} {e = e} {d = d} own (Ran p) (Ran q) = Ran (record {
  told = told_guard_refused v v' u m undo (tell old).told (tell mid).told (tell new).told e (Err d) own p.told
      (told_then_err u v' undo (λ _. refuse e) (tell mid).told (tell new).told d q.told);
  keeps = keeps_lost own p.keeps q.keeps;
})

-- ---- loops

told_start : {W A : Type 0} (m : W → Run W A) (told : Option (Told W)) → AsReached m told m told
unfolding after_events
told_start m None = tt
told_start m (Some t) = ([], refl, refl)

-- a loop at its start
pub reaches_start : {W A S : Type 0} {tell : S → Moment W} {m : W → Run W A} {s : S} → Reaches tell m s m s
reaches_start {tell = tell} {m = m} {s = s} = Reached (record {
  told = told_start m (tell s).told;
  keeps = keeps_answer;
})

told_more : {W A B X : Type 0} (v : X → B) (whole : W → Run W A) (m : W → Run W B) (next : B → W → Run W A) (old mid new : Option (Told W)) (x : X)
    → AsReached whole old (m >>= next) mid → AsTold v m mid (Ok x) new → AsReached whole old (next (v x)) new
told_more v whole m next None mid new x p q = tt
told_more v whole m next (Some t) None new x p q = absurd p
told_more v whole m next (Some t) (Some k) None x p q = absurd q
told_more v whole m next (Some t) (Some k) (Some n) x p q = (
  p.0 ++ (m k.world).events,
  q.log ∙ ap (λ l. after_events l (m k.world).events) p.1 ∙ sym (after_append t.log p.0 (m k.world).events),
  p.2 ∙ ap (with_events_before p.0) (sym (bind_ok m next k.world n.world (v x) q.answer q.world)) ∙ joined_twice p.0 (m k.world).events (next (v x) n.world),
)
  where
    joined_twice : {W A : Type 0} (xs ys : List Event) (run : Run W A) → with_events_before xs (with_events_before ys run) ≡ with_events_before (xs ++ ys) run
    joined_twice xs ys run = ap (λ es. record { events = es; answer = run.answer; after = run.after }) (sym (append_assoc xs ys run.events))

told_end : {W A X : Type 0} (v : X → A) (whole rest : W → Run W A) (old mid new : Option (Told W)) (r : Result X Refusal)
    → AsReached whole old rest mid → AsTold v rest mid r new → AsTold v whole old r new
told_end v whole rest None mid new r p q = tt
told_end v whole rest (Some t) None new r p q = absurd p
told_end v whole rest (Some t) (Some k) None r p q = absurd q
told_end v whole rest (Some t) (Some k) (Some n) r p q =
    subst (λ run. Outcome v run t.log r n) (sym p.2) (joined_outcome t.log k.log n v p.0 (rest k.world) r p.1 q)

-- one call more of a loop
pub reaches_more : {W A B X S : Type 0} {tell : S → Moment W} {v : X → B} {whole : W → Run W A} {m : W → Run W B} (next : B → W → Run W A) {old mid new : S} {x : X}
    → Reaches tell whole old (m >>= next) mid → Runs tell v m mid (Ok x) new → Reaches tell whole old (next (v x)) new
reaches_more {tell = tell} {v = v} {whole = whole} {m = m} next {old = old} {mid = mid} {new = new} {x = x} (Reached p) (Ran q) = Reached (record {
  told = told_more v whole m next (tell old).told (tell mid).told (tell new).told x p.told q.told;
  keeps = keeps_then p.keeps (keeps_ok q.keeps);
})

-- the rest of a loop was run
pub reaches_end : {W A X S : Type 0} {tell : S → Moment W} {v : X → A} {whole rest : W → Run W A} {old mid new : S} {r : Result X Refusal}
    → Reaches tell whole old rest mid → Runs tell v rest mid r new → Runs tell v whole old r new
reaches_end {tell = tell} {v = v} {whole = whole} {rest = rest} {old = old} {mid = mid} {new = new} {r = r} (Reached p) (Ran q) = Ran (record {
  told = told_end v whole rest (tell old).told (tell mid).told (tell new).told r p.told q.told;
  keeps = keeps_then p.keeps q.keeps;
})

each_cons : {W A C : Type 0} (step : A → C → W → Run W C) (s : C) (xs : List A) (i : ℕ) (x : A) → i < length xs → x ≡ get_or xs i x
    → each step s (drop i xs) ≡ (step x s >>= λ t. each step t (drop (i + 1) xs))
unfolding each
each_cons step s xs i x within is =
    let first : drop i xs ≡ get_or xs i x ∷ drop (i + 1) xs = rw (add-one, drop-cons xs i x) refl in
    let item : get_or xs i x ∷ drop (i + 1) xs ≡ x ∷ drop (i + 1) xs = ap (λ y. y ∷ drop (i + 1) xs) (sym is) in
    ap (λ ys. each step s ys) (first ∙ item)

each_nil : {W A C : Type 0} (step : A → C → W → Run W C) (s : C) (xs : List A) (i : ℕ) → length xs ≤ i → each step s (drop i xs) ≡ give s
unfolding each
each_nil step s xs i ended = ap (each step s) (drop_all i xs ended)

-- one turn of a loop over items
pub each_turn : {W A C X S : Type 0} {tell : S → Moment W} {v : X → C} {whole : W → Run W C} {s : C} (step : A → C → W → Run W C) (xs : List A) (i : ℕ) {x : A} {old mid new : S} {t : X} {u : C}
    → Reaches tell whole old (each step s (drop i xs)) mid → i < length xs → x ≡ get_or xs i x → Runs tell v (step x s) mid (Ok t) new → u ≡ v t
    → Reaches tell whole old (each step u (drop (i + 1) xs)) new
each_turn {tell = tell} {v = v} {whole = whole} {s = s} step xs i {x = x} {old = old} {mid = mid} {new = new} {t = t} {u = u} p within is q same =
    subst (λ c. Reaches tell whole old (each step c (drop (i + 1) xs)) new) (sym same)
    (reaches_more (λ c. each step c (drop (i + 1) xs)) (subst (λ m. Reaches tell whole old m mid) (each_cons step s xs i x within is) p) q)

-- a turn that was refused ends the loop
pub each_err : {W A C X Y S : Type 0} {tell : S → Moment W} {v : X → C} {v' : Y → C} {whole : W → Run W C} {s : C} (step : A → C → W → Run W C) (xs : List A) (i : ℕ) {x : A} {old mid new : S} {e : Refusal}
    → Reaches tell whole old (each step s (drop i xs)) mid → i < length xs → x ≡ get_or xs i x → Runs tell v (step x s) mid (Err e) new → Runs tell v' whole old (Err e) new
each_err {tell = tell} {v = v} {v' = v'} {whole = whole} {s = s} step xs i {x = x} {old = old} {mid = mid} {new = new} {e = e} p within is q =
    reaches_end {v = v'} (subst (λ m. Reaches tell whole old m mid) (each_cons step s xs i x within is) p) (then_err (λ t. each step t (drop (i + 1) xs)) q)

-- all items are done
pub each_end : {W A C X S : Type 0} {tell : S → Moment W} {v : X → C} {whole : W → Run W C} {s : C} (step : A → C → W → Run W C) (xs : List A) (i : ℕ) {old mid : S} {x : X}
    → Reaches tell whole old (each step s (drop i xs)) mid → length xs ≤ i → s ≡ v x → Runs tell v whole old (Ok x) mid
each_end {tell = tell} {v = v} {whole = whole} {s = s} step xs i {old = old} {mid = mid} {x = x} p ended is =
    reaches_end {v = v} (subst (λ m. Reaches tell whole old m mid) (each_nil step s xs i ended) p) (done {v = v} is)

-- ---- a keeper that tells nothing

-- where nothing is told the counts are all that there is to show
pub untold : {W A X S : Type 0} {tell : S → Moment W} {v : X → A} {m : W → Run W A} {old new : S} {r : Result X Refusal}
    → (tell old).told ≡ None → Keeps (counters (tell old)) r (counters (tell new)) → Runs tell v m old r new
untold {tell = tell} {v = v} {m = m} {new = new} {r = r} silent keeps = Ran (record { told = subst (λ told. AsTold v m told r (tell new).told) (sym silent) tt; keeps = keeps })

-- ---- loops of steps without an answer

pub unit_turn : {W A S : Type 0} {tell : S → Moment W} {v : Unit {0} → Unit {0}} {whole : W → Run W (Unit {0})} (step : A → Unit {0} → W → Run W (Unit {0})) (xs : List A) (i : ℕ) {x : A} {old mid new : S} {t : Unit {0}}
    → Reaches tell whole old (each step tt (drop i xs)) mid → i < length xs → x ≡ get_or xs i x → Runs tell v (step x tt) mid (Ok t) new → Reaches tell whole old (each step tt (drop (i + 1) xs)) new
unit_turn step xs i p h is q = each_turn step xs i p h is q refl

pub unit_err : {W A S : Type 0} {tell : S → Moment W} {v v' : Unit {0} → Unit {0}} {whole : W → Run W (Unit {0})} (step : A → Unit {0} → W → Run W (Unit {0})) (xs : List A) (i : ℕ) {x : A} {old mid new : S} {e : Refusal}
    → Reaches tell whole old (each step tt (drop i xs)) mid → i < length xs → x ≡ get_or xs i x → Runs tell v (step x tt) mid (Err e) new → Runs tell v' whole old (Err e) new
unit_err step xs i p h is q = each_err step xs i p h is q

pub unit_end : {W A S : Type 0} {tell : S → Moment W} {v : Unit {0} → Unit {0}} {whole : W → Run W (Unit {0})} (step : A → Unit {0} → W → Run W (Unit {0})) (xs : List A) (i : ℕ) {old mid : S} {x : Unit {0}}
    → Reaches tell whole old (each step tt (drop i xs)) mid → length xs ≤ i → Runs tell v whole old (Ok x) mid
unit_end step xs i p h = each_end step xs i p h refl

pub ruleset sequence = (then_ok, then_err, no_memory, done, passed_on, guard_ok, guard_early, guard_refused, guard_lost, refused, reaches_start)

pub ruleset loops = (each_turn, each_err, each_end, reaches_start)

pub ruleset unit_loops = (unit_turn, unit_err, unit_end, reaches_start)
