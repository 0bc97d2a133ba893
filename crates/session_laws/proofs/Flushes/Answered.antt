-- What is known of a program that answered, by its parts.
use Rattle.std.proofs.Common.{◌≡◌, Result, Ok, Err, refl}
use Rattle.base_core.specs.declared.refusal.Refusal.{Refusal}
use Rattle.keeper_core.specs.Programs.{Run, ◌>>=◌, continue_from, refuse, undo_on_refusal, with_undo}

-- a program that went on from an answer and answered: its parts answered, and the world is that of the second
pub record IsJoined {W A B : Type 0} (m : W → Run W A) (next : A → W → Run W B) (w : W) (b : B) : Type 0 where
  pub middle : A
  pub first : (m w).answer ≡ Ok middle
  pub second : (next middle (m w).after).answer ≡ Ok b
  pub after : ((m >>= next) w).after ≡ (next middle (m w).after).after

pub joined_of : {W A B : Type 0} (m : W → Run W A) (next : A → W → Run W B) (w : W) (b : B) → ((m >>= next) w).answer ≡ Ok b → IsJoined m next w b
unfolding ◌>>=◌
joined_of {W} {A} {B} m next w b is =
    let parts : (a : A) × ((m w).answer ≡ Ok a) × ((next a (m w).after).answer ≡ Ok b) × ((continue_from (m w).events (m w).after (m w).answer next).after ≡ (next a (m w).after).after) = by (m w).answer is in
    record { middle = parts.0; first = parts.1; second = parts.2; after = parts.3 }
  where
    by : (r : Result A Refusal) → (continue_from (m w).events (m w).after r next).answer ≡ Ok b
        → (a : A) × (r ≡ Ok a) × ((next a (m w).after).answer ≡ Ok b) × ((continue_from (m w).events (m w).after r next).after ≡ (next a (m w).after).after)
    by (Ok a) is = (a, refl, is, refl)
    by (Err e) is = absurd cc

never_undone : {W A : Type 0} (undo : W → Run W (Unit {0})) (w : W) (e : Refusal) (a : A) → ((undo >>= λ u. refuse e) w).answer ≡ Ok a → ⊥
unfolding refuse
never_undone undo w e a is =
    let joined : IsJoined undo (λ u. refuse e) w a = joined_of undo (λ u. refuse e) w a is in
    let never : Err e ≡ Ok a = joined.second in
    cc

-- a program that is undone where it refuses, and answered: it answered by itself
pub record IsDone {W A : Type 0} (m : W → Run W A) (undo : W → Run W (Unit {0})) (w : W) (a : A) : Type 0 where
  pub answer : (m w).answer ≡ Ok a
  pub after : (with_undo m undo w).after ≡ (m w).after

pub done_of : {W A : Type 0} (m : W → Run W A) (undo : W → Run W (Unit {0})) (w : W) (a : A) → (with_undo m undo w).answer ≡ Ok a → IsDone m undo w a
unfolding with_undo
done_of {W} {A} m undo w a is =
    let parts : ((m w).answer ≡ Ok a) × ((undo_on_refusal (m w).events (m w).after (m w).answer undo).after ≡ (m w).after) = by (m w).answer is in
    record { answer = parts.0; after = parts.1 }
  where
    by : (r : Result A Refusal) → (undo_on_refusal (m w).events (m w).after r undo).answer ≡ Ok a → (r ≡ Ok a) × ((undo_on_refusal (m w).events (m w).after r undo).after ≡ (m w).after)
    by (Ok b) is = (is, refl)
    by (Err e) is = absurd (never_undone undo (m w).after e a is)
