-- The order in which truths are joined does not matter, and what joins nothing.
use Rattle.std.proofs.Common.{◌≡◌, Bool, true, false, Option, Some, None, refl}
use Rattle.sql_semantics.specs.Truth.{or3, and3}

pub or3_assoc : (a b c : Option Bool) → or3 (or3 a b) c ≡ or3 a (or3 b c)
or3_assoc (Some true) b c = refl
or3_assoc (Some false) b c = refl
or3_assoc None (Some true) c = refl
or3_assoc None (Some false) c = refl
or3_assoc None None (Some true) = refl
or3_assoc None None (Some false) = refl
or3_assoc None None None = refl

pub and3_assoc : (a b c : Option Bool) → and3 (and3 a b) c ≡ and3 a (and3 b c)
and3_assoc (Some false) b c = refl
and3_assoc (Some true) b c = refl
and3_assoc None (Some false) c = refl
and3_assoc None (Some true) c = refl
and3_assoc None None (Some true) = refl
and3_assoc None None (Some false) = refl
and3_assoc None None None = refl

pub or3_false : (a : Option Bool) → or3 a (Some false) ≡ a
or3_false (Some true) = refl
or3_false (Some false) = refl
or3_false None = refl

pub and3_true : (a : Option Bool) → and3 a (Some true) ≡ a
and3_true (Some true) = refl
and3_true (Some false) = refl
and3_true None = refl
