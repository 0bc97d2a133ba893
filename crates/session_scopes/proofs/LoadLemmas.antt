-- A load, as a program of the session.
use Rattle.std.proofs.Common.{◌≡◌, ℕ, ◌+◌, ◌<◌, ◌≤◌, Bool, true, false, List, [], ◌∷◌, ◌++◌, length, drop, get_or, Option, None, Some, Result, Ok, Err, MatchBool, refl, sym, ap, ◌∙◌, subst, append-nil, arith}
use Rattle.std.specs.List.{flat_map}
use Rattle.std.proofs.lemmas.List.{drop_all, drop_more}
use Rattle.std.proofs.lemmas.List.Sums.{fold-append}
use Rattle.base_core.specs.declared.ids.ObjId.{ObjId}
use Rattle.base_core.specs.declared.refusal.Refusal.{Refusal}
use Rattle.base_core.specs.declared.refusal.Refusal.TheVariants.{Memory}
use Rattle.class_mapping.specs.Mapped.{Mapped}
use Rattle.keeper_core.specs.Store.{Store}
use Rattle.keeper_core.specs.declared.notes.Note.{Note}
use Rattle.keeper_core.specs.Beside.{Beside, moment_beside, told_beside}
use Rattle.keeper_core.specs.Moment.{AsTold, IsCutOff, IsRun, Moment, Ran, Runs, Told}
use Rattle.keeper_core.specs.Programs.{Log, Run, ends_early}
use Rattle.keeper_core.proofs.Counts.{keeps_ran_out, keeps_ran_out_refused}
use Rattle.object_arena.specs.Graph.{Graph}
use Rattle.object_records.specs.Touched.{frames_with_touched}
use Rattle.savepoints.specs.declared.scope.Scope.{Scope}
use Rattle.savepoints.specs.Scopes.{Framed, touch}
use Rattle.session_parts.specs.Depths.{StaysAt}
use Rattle.load_filling.specs.Growing.{Grows}
use Rattle.load_rows.specs.Loading.{Loading, loading}
use Rattle.session_scopes.specs.SessionState.{AreThereStill, IsKept, SessionState}
use Rattle.session_scopes.specs.Loads.{IsShownIn, filled_in, frames_filled, loaded_run, loading_in, on_load, with_loaded}
use Rattle.session_scopes.proofs.GrownLemmas.{there_grown}

-- ---- what is filled is touched

-- the object of one more note
pub filled_more : (graph : Graph) (notes : List Note) (i : ℕ) (note : Note) (old frames now : Framed) → i < length notes → note ≡ get_or notes i note → now ≡ frames_with_touched graph (filled_in note) frames
    → frames_filled graph notes old ≡ frames_filled graph (drop i notes) frames → frames_filled graph notes old ≡ frames_filled graph (drop (i + 1) notes) now
filled_more graph notes i note old frames now less is touched so_far =
    let step : Framed → ObjId → Framed = λ f object. touch graph object f in
    let rest : List Note = drop (i + 1) notes in
    let left : drop i notes ≡ note ∷ rest = drop_more notes i note less ∙ ap (λ (n : Note). n ∷ rest) (sym is) in
    so_far
    ∙ ap (λ (ns : List Note). frames_filled graph ns frames) left
    ∙ fold-append step frames (filled_in note) (flat_map filled_in rest)
    ∙ ap (λ (f : Framed). frames_filled graph rest f) (sym touched)

-- no note is left
pub filled_all : (graph : Graph) (notes : List Note) (i : ℕ) (old frames : Framed) → length notes ≤ i → frames_filled graph notes old ≡ frames_filled graph (drop i notes) frames → frames ≡ frames_filled graph notes old
filled_all graph notes i old frames ended so_far = sym (so_far ∙ ap (λ (ns : List Note). frames_filled graph ns frames) (drop_all i notes ended))

-- ---- what is told

-- so it is unless the call ended early
abbrev pub UnlessEarly : {X : Type 0} → Result X Refusal → Type 0 → Type 0
UnlessEarly (Ok x) P = P
UnlessEarly (Err e) P = MatchBool (ends_early e) (Unit {0}) P

-- a run of the load, whole, is one of the session
whole : {A : Type 0} (session now : SessionState) (own : Loading) (run : Run (Beside Loading) A) (before : Log) (r : Result A Refusal) (n : Told Store)
    → now ≡ with_loaded own session → IsRun run before r (record { world = record { own = own; store = n.world }; log = n.log })
    → IsRun (loaded_run session run) before r (record { world = record { own = now; store = n.world }; log = n.log })
whole session now own run before r n is p = record {
  answer = p.answer;
  world = ap (λ s. record { own = s; store = n.world }) is ∙ ap (λ (w : Beside Loading). record { own = with_loaded w.own session; store = w.store }) p.world;
  log = p.log;
}

stopped : {A : Type 0} (session now : SessionState) (own : Loading) (run : Run (Beside Loading) A) (before : Log) (e : Refusal) (n : Told Store) (b : Bool)
    → MatchBool b (Unit {0}) (now ≡ with_loaded own session)
    → MatchBool b (IsCutOff run before (record { world = record { own = own; store = n.world }; log = n.log })) (IsRun run before (Err e) (record { world = record { own = own; store = n.world }; log = n.log }))
    → MatchBool b (IsCutOff (loaded_run session run) before (record { world = record { own = now; store = n.world }; log = n.log }))
    (IsRun (loaded_run session run) before (Err e) (record { world = record { own = now; store = n.world }; log = n.log }))
stopped session now own run before e n true is p = record { prefix = p.prefix; rest = p.rest; events = p.events; log = p.log }
stopped session now own run before e n false is p = whole session now own run before (Err e) n is p

told_load : {A X : Type 0} (v : X → A) (m : Beside Loading → Run (Beside Loading) A) (session now : SessionState) (own : Loading) (old new : Option (Told Store)) (r : Result X Refusal)
    → UnlessEarly r (now ≡ with_loaded own session)
    → AsTold v m (told_beside (loading_in session) old) r (told_beside own new) → AsTold v (on_load m) (told_beside session old) r (told_beside now new)
unfolding on_load
told_load v m session now own None new r is p = tt
told_load v m session now own (Some t) None r is p = absurd p
told_load v m session now own (Some t) (Some n) (Ok x) is p =
    whole session now own (m (record { own = loading_in session; store = t.world })) t.log (Ok (v x)) n is p
told_load v m session now own (Some t) (Some n) (Err e) is p =
    stopped session now own (m (record { own = loading_in session; store = t.world })) t.log e n (ends_early e) is p

-- what a load ran is a run of the session, which took in what it loaded unless it ended early
pub loaded : {K A X : Type 0} (moment : K → Moment Store) {v : X → A} (m : Beside Loading → Run (Beside Loading) A) {session now : SessionState} {own : Loading} {old new : K} {r : Result X Refusal}
    → UnlessEarly r (now ≡ with_loaded own session)
    → Runs (moment_beside moment) v m (loading_in session, old) r (own, new) → Runs (moment_beside moment) v (on_load m) (session, old) r (now, new)
unfolding moment_beside
loaded moment {v = v} m {session = session} {now = now} {own = own} {old = old} {new = new} {r = r} is (Ran p) =
    Ran (record { told = told_load v m session now own (moment old).told (moment new).told r is p.told; keeps = p.keeps })

-- memory may run out in a load wherever it is, whatever the session took in
told_lost : {A X Y : Type 0} (v : X → A) (v' : Y → A) (m : Beside Loading → Run (Beside Loading) A) (session now : SessionState) (own : Loading) (old new : Option (Told Store)) (r : Result X Refusal)
    → AsTold v m (told_beside (loading_in session) old) r (told_beside own new) → AsTold v' (on_load m) (told_beside session old) (Err Memory) (told_beside now new)
unfolding on_load
told_lost v v' m session now own None new r p = tt
told_lost v v' m session now own (Some t) None r p = absurd p
told_lost {A = A} v v' m session now own (Some t) (Some n) (Ok x) p =
    let run : Run (Beside Loading) A = m (record { own = loading_in session; store = t.world }) in
    record { prefix = run.events; rest = []; events = append-nil run.events; log = p.log }
told_lost {A = A} v v' m session now own (Some t) (Some n) (Err e) p = by (ends_early e) p
  where
    by : (b : Bool) → MatchBool b (IsCutOff (m (record { own = loading_in session; store = t.world })) t.log (record { world = record { own = own; store = n.world }; log = n.log }))
        (IsRun (m (record { own = loading_in session; store = t.world })) t.log (Err e) (record { world = record { own = own; store = n.world }; log = n.log }))
        → IsCutOff (loaded_run session (m (record { own = loading_in session; store = t.world }))) t.log (record { world = record { own = now; store = n.world }; log = n.log })
    by true q = record { prefix = q.prefix; rest = q.rest; events = q.events; log = q.log }
    by false q = record { prefix = (m (record { own = loading_in session; store = t.world })).events; rest = []; events = append-nil (m (record { own = loading_in session; store = t.world })).events; log = q.log }

-- memory ran out after the load
pub loaded_ran_out : {K A X Y : Type 0} (moment : K → Moment Store) {v : X → A} {v' : Y → A} (m : Beside Loading → Run (Beside Loading) A) {session now : SessionState} {own : Loading} {old new : K} {x : X}
    → Runs (moment_beside moment) v m (loading_in session, old) (Ok x) (own, new) → Runs (moment_beside moment) v' (on_load m) (session, old) (Err Memory) (now, new)
unfolding moment_beside
loaded_ran_out moment {v = v} {v' = v'} m {session = session} {now = now} {own = own} {old = old} {new = new} {x = x} (Ran p) =
    Ran (record { told = told_lost v v' m session now own (moment old).told (moment new).told (Ok x) p.told; keeps = keeps_ran_out p.keeps })

-- memory ran out after a load that was refused
pub refused_ran_out : {K A X Y : Type 0} (moment : K → Moment Store) {v : X → A} {v' : Y → A} (m : Beside Loading → Run (Beside Loading) A) {session now : SessionState} {own : Loading} {old new : K} {e : Refusal}
    → ends_early e ≡ false → Runs (moment_beside moment) v m (loading_in session, old) (Err e) (own, new) → Runs (moment_beside moment) v' (on_load m) (session, old) (Err Memory) (now, new)
unfolding moment_beside
refused_ran_out moment {v = v} {v' = v'} m {session = session} {now = now} {own = own} {old = old} {new = new} {e = e} own_one (Ran p) =
    Ran (record { told = told_lost v v' m session now own (moment old).told (moment new).told (Err e) p.told; keeps = keeps_ran_out_refused own_one p.keeps })

-- the session took in what was loaded
took_in_refused : (e : Refusal) (P : Type 0) → ends_early e ≡ false → P → UnlessEarly {X = Unit {0}} (Err e) P
took_in_refused e P kept p = subst (λ b. MatchBool b (Unit {0}) P) (sym kept) p

ended_early : (e : Refusal) (P : Type 0) → ends_early e ≡ true → UnlessEarly {X = Unit {0}} (Err e) P
ended_early e P early = subst (λ b. MatchBool b (Unit {0}) P) (sym early) tt

-- a refused load
pub loaded_refused : {K A X : Type 0} (moment : K → Moment Store) {v : X → A} (m : Beside Loading → Run (Beside Loading) A) {session now : SessionState} {own : Loading} {old new : K} {e : Refusal}
    → ends_early e ≡ false → now ≡ with_loaded own session
    → Runs (moment_beside moment) v m (loading_in session, old) (Err e) (own, new) → Runs (moment_beside moment) v (on_load m) (session, old) (Err e) (now, new)
loaded_refused moment m {session = session} {now = now} {own = own} {e = e} kept is p = loaded moment m (took_in_refused e (now ≡ with_loaded own session) kept is) p

-- a load that ended early
pub loaded_early : {K A X : Type 0} (moment : K → Moment Store) {v : X → A} (m : Beside Loading → Run (Beside Loading) A) {session now : SessionState} {own : Loading} {old new : K} {e : Refusal}
    → ends_early e ≡ true
    → Runs (moment_beside moment) v m (loading_in session, old) (Err e) (own, new) → Runs (moment_beside moment) v (on_load m) (session, old) (Err e) (now, new)
loaded_early moment m {session = session} {now = now} {own = own} {e = e} early p = loaded moment m (ended_early e (now ≡ with_loaded own session) early) p

-- a load of the objects of a session, which began with nothing noted, as a call of the session that is seen as that
pub seen : {K A X : Type 0} (moment : K → Moment Store) {v : X → A} (program : Mapped → Beside Loading → Run (Beside Loading) A) {inside session now : SessionState} {notes : List Note} {own : Loading} {old new : K} {r d : Result X Refusal}
    → inside ≡ session → notes ≡ []
    → (Runs (moment_beside moment) v (program inside.mapping) (loading_in inside, old) r (own, new) → Runs (moment_beside moment) v (on_load (program inside.mapping)) (inside, old) d (now, new))
    → Runs (moment_beside moment) v (program inside.mapping) (loading inside.graph notes, old) r (own, new)
    → Runs (moment_beside moment) v (on_load (program session.mapping)) (session, old) d (now, new)
seen moment {v = v} program {inside = inside} {now = now} {own = own} {old = old} {new = new} {r = r} {d = d} is none lift p =
    subst (λ (s : SessionState). Runs (moment_beside moment) v (on_load (program s.mapping)) (s, old) d (now, new)) is
    (lift (subst (λ ns. Runs (moment_beside moment) v (program inside.mapping) (loading inside.graph ns, old) r (own, new)) none p))

-- ---- what is kept

-- memory that ran out ends a call early
stays_lost : (X : Type 0) {W : Type 0} (depth : ℕ) (moment : Moment W) → StaysAt {A = X} (Err Memory) depth moment
stays_lost X depth moment = λ own. absurd (let h : false ≡ true = sym own in cc)

-- the session goes on with what was loaded, whatever became of the load
pub load_kept : {A W : Type 0} {r : Result A Refusal} {inside session now : SessionState} {mid : Graph} {after : Moment W} {depth : ℕ} → inside ≡ session → depth ≡ length session.frames.scopes → Grows inside.graph mid
    → now ≡ record inside { graph = mid; frames = now.frames; notes = now.notes } → now.frames.scopes ≡ inside.frames.scopes → StaysAt r depth after → IsKept r session now after
load_kept {r = r} {inside = inside} {session = session} {now = now} {mid = mid} {after = after} {depth = depth} is deep grows taken scopes stays =
    let there : AreThereStill inside.graph now.graph = subst (λ (g : Graph). AreThereStill inside.graph g) (sym (ap (λ (s : SessionState). s.graph) taken)) (there_grown inside.graph mid grows) in
    let drawn = ap (λ (s : SessionState). s.drawn.drawn) taken in
    let long : depth ≡ length now.frames.scopes = deep ∙ sym (ap (λ (s : SessionState). length s.frames.scopes) is) ∙ sym (ap (λ (scopes : List Scope). length scopes) scopes) in
    subst (λ (s : SessionState). IsKept r s now after) is
    (record {
      same = record { mapping = ap (λ (s : SessionState). s.mapping) taken; there = there; drawn = omega (arith, drawn) };
      in_step = subst (λ (n : ℕ). StaysAt r n after) long stays;
    })

-- and so it does where memory ran out
pub lost_kept : {A W : Type 0} {inside session now : SessionState} {mid : Graph} {after : Moment W} → inside ≡ session → Grows inside.graph mid
    → now ≡ record inside { graph = mid; frames = now.frames; notes = now.notes } → now.frames.scopes ≡ inside.frames.scopes → IsKept {A = A} (Err Memory) session now after
lost_kept {A = A} {session = session} {after = after} is grows taken scopes = load_kept is refl grows taken scopes (stays_lost A (length session.frames.scopes) after)

-- what a load tells of its refusal
pub load_shown : (IsShown : Mapped → Loading × Moment Store → Loading × Moment Store → Refusal → Type 0) {inside session now : SessionState} {notes : List Note} {own : Loading} {before after : Moment Store} {e : Refusal} → inside ≡ session → notes ≡ []
    → own.graph ≡ now.graph → (ends_early e ≡ false → now ≡ with_loaded own inside) → IsShown inside.mapping (loading inside.graph notes, before) (own, after) e → IsShownIn (IsShown session.mapping) session before now after e
load_shown IsShown {inside = inside} {session = session} {now = now} {own = own} {before = before} {after = after} {e = e} is none graph taken shown =
    subst (λ (s : SessionState). IsShownIn (IsShown s.mapping) s before now after e) is
    (record { own = own; graph = graph; taken = taken; shown = subst (λ (ns : List Note). IsShown inside.mapping (loading inside.graph ns, before) (own, after) e) none shown })

-- what may refuse a load, by the objects that it left
pub load_may : (May : Mapped → Graph → Refusal → Type 0) {inside session : SessionState} {left now : Graph} {e : Refusal} → inside ≡ session → left ≡ now → May inside.mapping left e → May session.mapping now e
load_may May {inside = inside} {session = session} {left = left} {now = now} {e = e} is same may =
    subst (λ (s : SessionState). May s.mapping now e) is (subst (λ (g : Graph). May inside.mapping g e) same may)

pub early_taken : (e : Refusal) {P : Type 0} → ends_early e ≡ true → ends_early e ≡ false → P
early_taken e early own = absurd (let h : false ≡ true = sym own ∙ early in cc)
