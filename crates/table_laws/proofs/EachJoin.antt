-- However programs are joined, they keep what each of them keeps.
use Rattle.std.proofs.Common.{◌≡◌, List, [], ◌∷◌, Result, Ok, Err, refl}
use Rattle.std.specs.List.{AllByRecursion}
use Rattle.base_core.specs.declared.refusal.Refusal.{Refusal}
use Rattle.keeper_core.specs.Programs.{Event, Run, ◌>>=◌, ask, become, becomes, handle_refusal, change, each, continue_from, give, with_undo, undo_on_refusal, quiet, recover_from, refuse, rescue}
use Rattle.keeper_core.specs.Store.{Store}
use Rattle.keeper_core.specs.Beside.{Beside, by_own, changes, on_own, on_store}
use Rattle.table_laws.specs.Legality.{Keeps}

pub keeps_quiet : {W A : Type 0} (P : W → Type 0) (answer : Result A Refusal) → Keeps P (quiet answer)
keeps_quiet P answer = record { kept = λ w p. p }

pub keeps_give : {W A : Type 0} (P : W → Type 0) (a : A) → Keeps P (give a)
unfolding give
keeps_give P a = record { kept = λ w p. p }

pub keeps_refuse : {W A : Type 0} (P : W → Type 0) (e : Refusal) → Keeps {A = A} P (refuse e)
unfolding refuse
keeps_refuse P e = record { kept = λ w p. p }

pub keeps_asked : {W A : Type 0} (P : W → Type 0) (question : W → Result A Refusal) → Keeps P (ask question)
unfolding ask
keeps_asked P question = record { kept = λ w p. p }

pub keeps_change : {W : Type 0} (P : W → Type 0) (f : W → W) → ((w : W) → P w → P (f w)) → Keeps P (change f)
unfolding change
keeps_change P f stays = record { kept = stays }

pub keeps_becomes : {W : Type 0} (P : W → Type 0) (step : W → Result W Refusal) → ((w now : W) → P w → step w ≡ Ok now → P now) → Keeps P (becomes step)
unfolding becomes
keeps_becomes {W = W} P step stays = record { kept = λ w p. by w (step w) refl p }
  where
    by : (w : W) (r : Result W Refusal) → step w ≡ r → P w → P (become w r).after
    by w (Ok now) is p = stays w now p is
    by w (Err e) is p = p

-- what goes on need keep it only after an answer that the first gives of such a world
pub keeps_then : {W A B : Type 0} (P : W → Type 0) (m : W → Run W A) (next : A → W → Run W B) → Keeps P m → ((w : W) (a : A) → P w → (m w).answer ≡ Ok a → Keeps P (next a)) → Keeps P (m >>= next)
unfolding ◌>>=◌
keeps_then {W = W} {A = A} P m next first rest = record { kept = λ w p. by w (m w).answer refl p }
  where
    by : (w : W) (r : Result A Refusal) → (m w).answer ≡ r → P w → P (continue_from (m w).events (m w).after r next).after
    by w (Ok a) is p = (rest w a p is).kept (m w).after (first.kept w p)
    by w (Err e) is p = first.kept w p

pub keeps_each : {W A S : Type 0} (P : W → Type 0) (step : A → S → W → Run W S) (s : S) (xs : List A) → AllByRecursion (λ x. (s : S) → Keeps P (step x s)) xs → Keeps P (each step s xs)
unfolding each
keeps_each P step s [] one = keeps_give P s
keeps_each P step s (x ∷ xs) one = keeps_then P (step x s) (λ t. each step t xs) (one.0 s) (λ w t p is. keeps_each P step t xs one.1)

pub keeps_caught : {W A : Type 0} (P : W → Type 0) (instead : Refusal → W → Run W A) (m : W → Run W A) → Keeps P m → ((w : W) (e : Refusal) → P w → (m w).answer ≡ Err e → Keeps P (instead e)) → Keeps P (handle_refusal instead m)
unfolding handle_refusal
keeps_caught {W = W} {A = A} P instead m first rest = record { kept = λ w p. by w (m w).answer refl p }
  where
    by : (w : W) (r : Result A Refusal) → (m w).answer ≡ r → P w → P (recover_from (m w).events (m w).after r instead).after
    by w (Ok a) is p = first.kept w p
    by w (Err e) is p = (rest w e p is).kept (m w).after (first.kept w p)

pub keeps_guarded : {W A : Type 0} (P : W → Type 0) (m : W → Run W A) (undo : W → Run W (Unit {0})) → Keeps P m → Keeps P undo → Keeps P (with_undo m undo)
unfolding with_undo
keeps_guarded {W = W} {A = A} P m undo first back = record { kept = λ w p. by (m w).events (m w).after (m w).answer (first.kept w p) }
  where
    by : (events : List Event) (w : W) (r : Result A Refusal) → P w → P (undo_on_refusal events w r undo).after
    by events w (Ok a) p = p
    by events w (Err e) p = (keeps_then P undo (λ u. refuse {A = A} e) back (λ w u p is. keeps_refuse P e)).kept w p

pub keeps_rescued : {W A : Type 0} (P : W → Type 0) (text : Refusal → A) (m : W → Run W A) → Keeps P m → Keeps P (rescue text m)
unfolding rescue
keeps_rescued P text m first = record { kept = first.kept }

-- ---- what stands beside the store

pub keeps_on_store : {S A : Type 0} (P : Store → Type 0) (note : List Event → S → S) (m : Store → Run Store A) → Keeps P m → Keeps (λ (w : Beside S). P w.store) (on_store note m)
unfolding on_store
keeps_on_store P note m first = record { kept = λ w p. first.kept w.store p }

pub keeps_on_own : {S A : Type 0} (P : Store → Type 0) (m : S → Run S A) → Keeps (λ (w : Beside S). P w.store) (on_own m)
unfolding on_own
keeps_on_own P m = record { kept = λ w p. p }

pub keeps_changes : {S : Type 0} (P : Store → Type 0) (f : S → S) → Keeps (λ (w : Beside S). P w.store) (changes f)
unfolding changes
keeps_changes P f = record { kept = λ w p. p }

pub keeps_by_own : {S A : Type 0} (P : Store → Type 0) (choose : S → Beside S → Run (Beside S) A) → ((own : S) → Keeps (λ (w : Beside S). P w.store) (choose own)) → Keeps (λ (w : Beside S). P w.store) (by_own choose)
unfolding by_own
keeps_by_own P choose one = record { kept = λ w p. (one w.own).kept w p }
