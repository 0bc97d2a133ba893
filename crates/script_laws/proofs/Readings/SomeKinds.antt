-- Kinds of tokens, by lists of them.
use Rattle.std.proofs.Common.{◌≡◌, Bool, true, false, not, ◌&&◌, ◌||◌, List, [], ◌∷◌, refl, ap, ◌∙◌}
use Rattle.base_core.proofs.Tests.{or_then}
use Rattle.script_lex.specs.declared.kind.Kind.{Kind}
use Rattle.script_lex.specs.declared.kind.Kind.TheVariants as k
use Rattle.script_lex.specs.Lex.{same_kind}
use Rattle.script_tokens.proofs.Alike.{same, alike}
use Rattle.script_laws.proofs.Readings.Expressions.FillingSteps.{unlike}
use Rattle.script_laws.proofs.Readings.Forms.Steps.{is_end}

pub false_true : false ≡ true → ⊥
false_true e = cc

unfoldable pub among : List Kind → Kind → Bool
among [] y = false
among (kd ∷ ks) y = same_kind y kd || among ks y

unfoldable pub all_in : (Kind → Bool) → List Kind → Bool
all_in these [] = true
all_in these (kd ∷ ks) = these kd && all_in these ks

and_left : (a b : Bool) → (a && b) ≡ true → a ≡ true
and_left true b e = refl
and_left false b e = absurd (false_true e)

and_right : (a b : Bool) → (a && b) ≡ true → b ≡ true
and_right true b e = e
and_right false b e = absurd (false_true e)

by_first : (kd : Kind) (ks : List Kind) (these : Kind → Bool) → (these kd && all_in these ks) ≡ true → (y : Kind) → (among ks y ≡ true → these y ≡ true)
    → (b : Bool) → same_kind y kd ≡ b → (b || among ks y) ≡ true → these y ≡ true
by_first kd ks these all y rec true is e = ap these (same is) ∙ and_left (these kd) (all_in these ks) all
by_first kd ks these all y rec false is e = rec e

-- any kind but this
abbrev pub other_than : Kind → Kind → Bool
other_than kd y = not (same_kind y kd)

-- kinds that are all of these
pub within : (ks : List Kind) (these : Kind → Bool) → all_in these ks ≡ true → (y : Kind) → among ks y ≡ true → these y ≡ true
unfolding among all_in
within [] these all y e = absurd (false_true e)
within (kd ∷ ks) these all y e =
    by_first kd ks these all y (within ks these (and_right (these kd) (all_in these ks) all) y) (same_kind y kd) refl e

pub first_among : (kd : Kind) (ks : List Kind) → among (kd ∷ ks) kd ≡ true
unfolding among
first_among kd ks = ap (λ b. b || among ks kd) (alike {a = kd} {b = kd} refl)

pub rest_among : (kd : Kind) (ks : List Kind) (y : Kind) → among ks y ≡ true → among (kd ∷ ks) y ≡ true
unfolding among
rest_among kd ks y e = or_then (same_kind y kd) (among ks y) e

pub not_this : (these : Kind → Bool) (kd : Kind) → these kd ≡ false → (y : Kind) → these y ≡ true → other_than kd y ≡ true
not_this these kd out y e = ap not (unlike these kd out y e)

-- the end of the line is one of these
pub end_within : (these : Kind → Bool) → these k.LineEnd ≡ true → (y : Kind) → is_end y ≡ true → these y ≡ true
end_within these is k.LineEnd e = is
end_within these is _ e = absurd (false_true e)

pub end_kind : (y : Kind) → is_end y ≡ true → y ≡ k.LineEnd
end_kind k.LineEnd e = refl
end_kind _ e = absurd (false_true e)
