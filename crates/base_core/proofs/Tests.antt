-- Tests that hold or fail together.
use Rattle.std.proofs.Common.{◌≡◌, Bool, true, false, not, ◌&&◌, ◌||◌, refl}
use Rattle.std.specs.declared.cmp.Ordering.{Ordering}
use Rattle.std.specs.declared.cmp.Ordering.TheVariants.{Less, Equal, Greater}
use Rattle.std.specs.Ordering.{is_eq, ordering_then}

pub or_first : (a b : Bool) → a ≡ true → (a || b) ≡ true
or_first true b h = refl
or_first false b h = absurd (cc)

pub or_then : (a b : Bool) → b ≡ true → (a || b) ≡ true
or_then true b h = refl
or_then false b h = h

pub or_false : (b : Bool) → (b || false) ≡ b
or_false true = refl
or_false false = refl

pub and_true : (b : Bool) → (b && true) ≡ b
and_true true = refl
and_true false = refl

pub and_false : (b : Bool) → (b && false) ≡ false
and_false true = refl
and_false false = refl

pub and_then : (a b : Bool) → (a && b) ≡ true → b ≡ true
and_then true b h = h
and_then false b h = cc

pub and_none : (a b : Bool) → b ≡ false → (a && b) ≡ false
and_none true b h = h
and_none false b h = refl

pub or_rest : (a b : Bool) → (a || b) ≡ true → a ≡ false → b ≡ true
or_rest true b h e = absurd (cc)
or_rest false b h e = h

-- a test agrees with itself
pub alike : (b : Bool) → ((b && true) || not (b || false)) ≡ true
alike true = refl
alike false = refl

-- two orders are ties where both are
pub then_equal : (r o : Ordering) → (is_eq r && is_eq o) ≡ is_eq (ordering_then r o)
then_equal Less o = refl
then_equal Equal o = refl
then_equal Greater o = refl
