use Rattle.std.proofs.Common.{◌<◌, ◌+◌, ◌-◌, ◌≡◌, length, arith, subst, drop, get_or, ◌∷◌, ◌∙◌, ap, sym, ℕ, List}
use Rattle.std.proofs.lemmas.List.{drop_more}
use Rattle.query_steps.specs.Ends.{AreEnds}
use Rattle.query_steps.proofs.pattern.fits.Goals as goal

rest : (p : List ℕ) (i j : ℕ) → j ≡ i + 1 → i < length p → get_or p i 0 ∷ drop j p ≡ drop i p
rest p i j e l = ap (λ n. get_or p i 0 ∷ drop n p) e ∙ sym (drop_more p i 0 l)

pub loop-at-preserved : goal.loop-at-preserved
loop-at-preserved c = (
  subst (λ p. AreEnds p c.args.text.now c.in_ok-ends-2.ends.items) (rest c.args.pattern.now (c.loop-at.at - 1) c.loop-at.at (omega arith) (omega arith)) (c.in_ok-ends-2.ensures (drop c.loop-at.at c.args.pattern.now) (rw c.deref.ensures.value c.loop-at.invariant.0)),
  omega arith,
)
