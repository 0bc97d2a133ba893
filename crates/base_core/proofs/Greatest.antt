-- What is above all that stands in a map.
use Rattle.std.proofs.Common.{◌≡◌, Bool, true, false, Option, None, Some, refl, sym, ◌∙◌}
use Rattle.std.proofs.lemmas.Bool.{true≢false}
use Rattle.std.specs.Prelude.{IsSome}

-- nothing is found above what all that is found is not above
pub none_above : {X : Type 0} (found : Option X) (above : Bool) → (IsSome found → above ≡ false) → above ≡ true → found ≡ None
none_above None above bound is = refl
none_above (Some x) above bound is = absurd (true≢false (sym is ∙ bound refl))
