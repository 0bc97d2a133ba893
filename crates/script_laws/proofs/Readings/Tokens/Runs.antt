-- Runs of bytes that pass a test, and steps of tests.
use Rattle.std.proofs.Common.{◌≡◌, ℕ, ◌+◌, Bool, true, false, cond, ◌&&◌, if◌then◌else◌, [], ◌∷◌, ◌++◌, length, Option, Some, None, refl, ap, sym, ◌∙◌, arith}
use Rattle.std.specs.List.{prefix_len}
use Rattle.script_lex.specs.Shape.{Text}
use Rattle.script_laws.specs.Readings.Tokens.Spelling.{every, starts}

-- ---- tests

pub true_false : true ≡ false → ⊥
true_false e = cc

pub false_true : false ≡ true → ⊥
false_true e = cc

pub both_true : (a b : Bool) → (a && b) ≡ true → (a ≡ true) × (b ≡ true)
both_true true b e = (refl, e)
both_true false b e = absurd (false_true e)

pub if_true : {A : Type 0} (b : Bool) (x y : A) → b ≡ true → (if b then x else y) ≡ x
if_true b x y e = ap (λ c. if c then x else y) e

pub if_false : {A : Type 0} (b : Bool) (x y : A) → b ≡ false → (if b then x else y) ≡ y
if_false b x y e = ap (λ c. if c then x else y) e

-- a test that fails at one number and passes at another tells them apart
pub apart : (p : ℕ → Bool) (a b : ℕ) → p a ≡ true → p b ≡ false → a ≡ b → ⊥
apart p a b passes fails same = true_false (sym passes ∙ ap p same ∙ fails)

-- ---- runs

-- the front of a text that passes, and what is behind it
pub record Run (passes : ℕ → Bool) (z : Text) : Type 0 where
  pub front : Text
  pub behind : Text
  pub joined : z ≡ front ++ behind
  pub all : every passes front ≡ true
  pub ends : starts passes behind ≡ false
  pub long : prefix_len passes z ≡ length front

run_by : (p : ℕ → Bool) (b : ℕ) (z : Text) (passes : Bool) → p b ≡ passes → Run p z → Run p (b ∷ z)
run_by p b z true is run = record {
  front = b ∷ run.front;
  behind = run.behind;
  joined = ap (λ w. b ∷ w) run.joined;
  all = ap (λ c. c && every p run.front) is ∙ run.all;
  ends = run.ends;
  long = ap (λ c. cond c (1 + prefix_len p z) 0) is ∙ omega (arith, run.long);
}
run_by p b z false is run =
    record { front = []; behind = b ∷ z; joined = refl; all = refl; ends = is; long = ap (λ c. cond c (1 + prefix_len p z) 0) is }

pub run_of : (p : ℕ → Bool) (z : Text) → Run p z
run_of p [] = record { front = []; behind = []; joined = refl; all = refl; ends = refl; long = refl }
run_of p (b ∷ z) = run_by p b z (p b) refl (run_of p z)

pub passes_along : (p : ℕ → Bool) (front behind : Text) → every p front ≡ true → prefix_len p (front ++ behind) ≡ length front + prefix_len p behind
passes_along p [] behind all = omega arith
passes_along p (b ∷ front) behind all =
    let parts = both_true (p b) (every p front) all in
    ap (λ c. cond c (1 + prefix_len p (front ++ behind)) 0) parts.0 ∙ omega (arith, passes_along p front behind parts.1)

pub stops_at : (p : ℕ → Bool) (behind : Text) → starts p behind ≡ false → prefix_len p behind ≡ 0
stops_at p [] ends = refl
stops_at p (b ∷ z) ends = ap (λ c. cond c (1 + prefix_len p z) 0) ends

pub run_length : (p : ℕ → Bool) (front behind : Text) → every p front ≡ true → starts p behind ≡ false → prefix_len p (front ++ behind) ≡ length front
run_length p front behind all ends = omega (arith, passes_along p front behind all, stops_at p behind ends)

-- ---- values that are there

value_or : {A : Type 0} → A → Option A → A
value_or other None = other
value_or other (Some a) = a

pub same_some : {A : Type 0} {a b : A} → ◌≡◌ {A = Option A} (Some a) (Some b) → a ≡ b
unfolding value_or
same_some {a = a} e = ap (value_or a) e

is_there : {A : Type 0} → Option A → Bool
is_there None = false
is_there (Some a) = true

pub none_some : {A : Type 0} {a : A} → ◌≡◌ {A = Option A} None (Some a) → ⊥
unfolding is_there
none_some e = false_true (ap is_there e)
