-- Answers that may be refused.
use Rattle.std.specs.Prelude.{Result, Ok, Err}
use Rattle.base_core.specs.declared.refusal.Refusal.{Refusal}
pub use Rattle.base_core.specs.Answers.{Gives, Refuses}

-- an answer, or the first refusal met
abbrev pub Checked : Type 0 → Type 0
Checked A = Result A Refusal

infixl 10 ◌>>=◌
abbrev pub ◌>>=◌ : {A B : Type 0} → Checked A → (A → Checked B) → Checked B
(Ok a) >>= next = next a
(Err e) >>= next = Err e
