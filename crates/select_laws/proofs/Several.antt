-- Several tests that hold, and each of several.
use Rattle.std.proofs.Common.{◌≡◌, Bool, true, false, ◌&&◌, ◌||◌, refl, ap, ◌∙◌}
use Rattle.std.proofs.lemmas.Bool.{and_parts}

pub one_true : (a : Bool) → a ≡ true → (a && true) ≡ true
one_true a h = ap (λ b. b && true) h

pub two_true : (a b : Bool) → a ≡ true → b ≡ true → (a && (b && true)) ≡ true
two_true a b h g = ap (λ c. c && (b && true)) h ∙ one_true b g

pub three_true : (a b c : Bool) → a ≡ true → b ≡ true → c ≡ true → (a && (b && (c && true))) ≡ true
three_true a b c h g f = ap (λ d. d && (b && (c && true))) h ∙ two_true b c g f

pub first_true : (a b : Bool) → (a && b) ≡ true → a ≡ true
first_true a b h = (and_parts a b h).0

pub rest_true : (a b : Bool) → (a && b) ≡ true → b ≡ true
rest_true a b h = (and_parts a b h).1

pub first_false : (a b : Bool) → (a || b) ≡ false → a ≡ false
first_false false b h = refl
first_false true b h = absurd (cc)

pub rest_false : (a b : Bool) → (a || b) ≡ false → b ≡ false
rest_false false b h = h
rest_false true b h = absurd (cc)
