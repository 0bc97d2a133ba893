-- What a call answers beside what its definition tells: the same, unless memory ran out.
use Rattle.std.specs.Prelude.{◌≡◌, Bool, true, false, MatchBool, Result, Ok, Err}
use Rattle.base_core.specs.declared.refusal.Refusal.{Refusal}
use Rattle.base_core.specs.declared.refusal.Refusal.TheVariants.{Memory}

abbrev pub is_memory : Refusal → Bool
is_memory Memory = true
is_memory e = false

-- the refusal is what is told, or memory ran out
abbrev pub Refuses : {A : Type 0} → Refusal → Result A Refusal → Type 0
Refuses e told = MatchBool (is_memory e) (Unit {0}) (told ≡ Err e)

-- the answer, seen by view, is what is told, unless memory ran out
abbrev pub Gives : {A X : Type 0} → (X → A) → Result X Refusal → Result A Refusal → Type 0
Gives view (Ok x) told = told ≡ Ok (view x)
Gives view (Err e) told = Refuses e told

-- the call took the step that is told, and a refusal left all as it was
abbrev pub Takes : {A S X : Type 0} → (X → A) → Result (A × S) Refusal → S → Result X Refusal → S → Type 0
Takes view told old (Ok x) new = told ≡ Ok (view x, new)
Takes view told old (Err e) new = (new ≡ old) × Refuses e told
