-- Products and sums are read as their forms say.
use Rattle.std.proofs.Common.{◌≢◌, ℕ, [], ◌∷◌, refl, inl, inr}
use Rattle.script_types.specs.declared.expression.Syn.{Syn}
use Rattle.script_lex.specs.declared.kind.Kind.{Kind}
use Rattle.script_lex.specs.declared.kind.Kind.TheVariants as k
use Rattle.script_tokens.specs.Input.{Reader}
use Rattle.script_expr.specs.declared.grammar.Level.{Level}
use Rattle.script_expr.specs.Expr as r
use Rattle.script_laws.specs.Readings.Forms.Form.{Form}
use Rattle.script_laws.specs.Readings.Forms.Expressions as form
use Rattle.script_laws.specs.Readings.Forms.Expressions.{Place}
use Rattle.script_laws.proofs.Readings.Forms.Taking.{Inside, Sound, Inhabited}
use Rattle.script_laws.proofs.Readings.Forms.Sequences.{then_says}
use Rattle.script_laws.proofs.Readings.Expressions.Nesting.{Fits, place}
use Rattle.script_laws.proofs.Readings.Expressions.Chains.{JoinsBy, chain_read, some_chain}
use Rattle.script_laws.proofs.Readings.Expressions.Atoms.{unary_read, some_unary}

product_joins : (kd : Kind) → JoinsBy form.product_joint kd (r.product_joint kd)
product_joins k.Star = record {
  by = form.Times;
  not_end = refl;
  said = λ t is. then_says (form.operator k.Star) form.Times (t ∷ []) 1 tt (t, refl, is, refl);
  joined = λ left right. refl;
}
product_joins _ = tt

sum_joins : (kd : Kind) → JoinsBy form.sum_joint kd (r.sum_joint kd)
sum_joins k.Plus = record {
  by = form.Plus;
  not_end = refl;
  said = λ t is. inl (then_says (form.operator k.Plus) form.Plus (t ∷ []) 1 tt (t, refl, is, refl));
  joined = λ left right. refl;
}
sum_joins k.Minus = record {
  by = form.Minus;
  not_end = refl;
  said = λ t is. inr (inl (then_says (form.operator k.Minus) form.Minus (t ∷ []) 1 tt (t, refl, is, refl)));
  joined = λ left right. refl;
}
sum_joins k.Signed = record {
  by = form.Minus;
  not_end = refl;
  said = λ t is. inr (inr (inl (then_says (form.operator k.Signed) form.Minus (t ∷ []) 1 tt (t, refl, is, refl))));
  joined = λ left right. refl;
}
sum_joins k.Concat = record {
  by = form.Beside;
  not_end = refl;
  said = λ t is. inr (inr (inr (then_says (form.operator k.Concat) form.Beside (t ∷ []) 1 tt (t, refl, is, refl))));
  joined = λ left right. refl;
}
sum_joins _ = tt

pub some_sum : (depth : ℕ) (inner : Place → Form Syn) → Inhabited (form.sum depth inner)
some_sum depth inner = some_chain form.sum_joint (some_chain form.product_joint (some_unary depth inner))

module _ (depth room near : ℕ) (fits : Fits depth room near) (expr : Level → Reader Syn) (inner : Place → Form Syn)
    (reads : depth ≢ 0 → (l : Level) → Sound (Inside near) (expr l) (inner (place l))) (somes : room ≢ 0 → (stands : Place) → Inhabited (inner stands)) where
  product_read : Sound (Inside near) (r.product depth expr) (form.product room inner)
  unfolding r.product r.factors
  product_read = chain_read near r.product_joint form.product_joint product_joins (r.unary depth expr) (form.unary room inner) (unary_read depth room near fits expr inner reads somes)

  pub sum_read : Sound (Inside near) (r.sum depth expr) (form.sum room inner)
  unfolding r.sum r.summands
  sum_read = chain_read near r.sum_joint form.sum_joint sum_joins (r.product depth expr) (form.product room inner) product_read
