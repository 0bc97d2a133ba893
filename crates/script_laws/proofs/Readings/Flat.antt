-- Readers that are put together in another way.
use Rattle.std.proofs.Common.{◌≡◌, Bool, true, false, if◌then◌else◌, Option, Some, None, Ok, Err, refl}
use Rattle.script_lex.specs.declared.kind.Kind.{Kind}
use Rattle.script_tokens.specs.Input.{Input, Outcome, Reader, and_then, pure, eat, clause}

-- steps behind steps, one after the other
pub through : {A B C : Type 0} (out : Outcome A) (f : A → Reader B) (g : B → Reader C) {h : A → Reader C} → ((a : A) (i : Input) → and_then (f a i) g ≡ h a i)
    → and_then (and_then out f) g ≡ and_then out h
through (Ok p) f g same = same p.0 p.1
through (Err e) f g same = refl

pub inside : {A B : Type 0} (out : Outcome A) {f g : A → Reader B} → ((a : A) (i : Input) → f a i ≡ g a i) → and_then out f ≡ and_then out g
inside (Ok p) same = same p.0 p.1
inside (Err e) same = refl

chosen : {A : Type 0} (b : Bool) (p q r : Reader A) (i : Input) → p i ≡ q i → (if b then p else r) i ≡ (if b then q else r) i
chosen true p q r i same = same
chosen false p q r i same = refl

-- a word and what it introduces, which gives an option by itself
pub clause_same : {A : Type 0} (kd : Kind) (p : Reader A) (q : Reader (Option A)) → ((j : Input) → and_then (p j) (λ x. pure (Some x)) ≡ q j)
    → (i : Input) → clause kd p i ≡ and_then (eat kd i) (λ found. if found then q else pure None)
clause_same kd p q same i = inside (eat kd i) (λ found j. chosen found (λ l. and_then (p l) (λ x. pure (Some x))) q (pure None) j (same j))
