-- The levels of an expression are read as their forms say.
use Rattle.std.proofs.Common.{◌≡◌, ◌≢◌, ℕ, zero, suc, refl, inl, inr, arith}
use Rattle.script_types.specs.declared.expression.Syn.{Syn}
use Rattle.script_types.specs.declared.expression.Syn.TheVariants as e
use Rattle.script_lex.specs.declared.kind.Kind.{Kind}
use Rattle.script_lex.specs.declared.kind.Kind.TheVariants as k
use Rattle.script_tokens.specs.Input.{Input, Reader, ◌>>=◌, and_then, pure, kind}
use Rattle.script_expr.specs.declared.grammar.Level.{Level}
use Rattle.script_expr.specs.declared.grammar.Level.TheVariants as level
use Rattle.script_expr.specs.Expr as r
use Rattle.script_laws.specs.Readings.Forms.Form.{Form, sequence, says}
use Rattle.script_laws.specs.Readings.Forms.Expressions as form
use Rattle.script_laws.specs.Readings.Forms.Expressions.{Place, Anywhere, BehindNot, BehindMinus}
use Rattle.script_laws.proofs.Readings.Forms.Taking.{Inside, Out, Whole, Sound, Inhabited}
use Rattle.script_laws.proofs.Readings.Forms.Steps.{both, at, some_made, some_both, some_right, right_of, on_kind}
use Rattle.script_laws.proofs.Readings.Expressions.Steps.{Within, mapped}
use Rattle.script_laws.proofs.Readings.Expressions.Nesting.{Fits, place, nested_form, deeper_read}
use Rattle.script_laws.proofs.Readings.Expressions.Chains.{one_or_list_read, some_one_or_list}
use Rattle.script_laws.proofs.Readings.Expressions.Atoms.{unary_read, some_unary}
use Rattle.script_laws.proofs.Readings.Expressions.Sums.{sum_read, some_sum}
use Rattle.script_laws.proofs.Readings.Expressions.Tests.{follow_read, some_tested}

module _ (depth : ℕ) (inner : Place → Form Syn) where
  some_comparison : Inhabited (form.comparison depth inner)
  some_comparison = some_both (some_sum depth inner) (some_tested depth inner)

  some_negation : Inhabited (form.negation depth inner)
  some_negation = some_right some_comparison

  not_up : Within (nested_form depth k.Not (sequence (inner BehindNot) (λ x. says (e.Not x)))) (form.negation depth inner)
  not_up ts m a s = inl s

  some_conjunction : Inhabited (form.conjunction depth inner)
  some_conjunction = some_one_or_list k.And e.And some_negation

  some_disjunction : Inhabited (form.disjunction depth inner)
  some_disjunction = some_one_or_list k.Or e.Or some_conjunction

  some_at : (stands : Place) → Inhabited (form.at depth inner stands)
  some_at Anywhere = some_disjunction
  some_at BehindNot = some_negation
  some_at BehindMinus = some_unary depth inner

module _ (depth room near : ℕ) (fits : Fits depth room near) (expr : Level → Reader Syn) (inner : Place → Form Syn)
    (reads : depth ≢ 0 → (l : Level) → Sound (Inside near) (expr l) (inner (place l))) (somes : room ≢ 0 → (stands : Place) → Inhabited (inner stands)) where
  comparison_read : Sound (Inside near) (r.comparison depth expr) (form.comparison room inner)
  unfolding r.comparison
  comparison_read = both (sum_read depth room near fits expr inner reads somes) (follow_read depth room near fits expr inner reads somes) (some_tested room inner)

  not_read : Sound (Inside near) (λ i. and_then (r.deeper depth expr k.Not i) (λ _. expr level.Negation >>= (λ x. pure (e.Not x)))) (form.negation room inner)
  not_read =
      deeper_read depth room near fits expr k.Not refl (λ some. mapped e.Not (reads some level.Negation)) (λ some. some_both (somes some BehindNot) (λ x. some_made (e.Not x)))
      (some_negation room inner) (not_up room inner)

  negation_at : (kd : Kind) (i : Input) → Whole i.ahead → kind i ≡ kd → Out (Inside near) (form.negation room inner) i (r.negation_by depth expr kd i)
  negation_at k.Not i whole is = at not_read i whole
  negation_at _ i whole is = right_of (at comparison_read i whole)

  negation_read : Sound (Inside near) (r.negation depth expr) (form.negation room inner)
  unfolding r.negation
  negation_read = on_kind (r.negation_by depth expr) negation_at

  conjunction_read : Sound (Inside near) (r.conjunction depth expr) (form.conjunction room inner)
  unfolding r.conjunction r.conjuncts
  conjunction_read = one_or_list_read k.And e.And refl negation_read (some_negation room inner)

  disjunction_read : Sound (Inside near) (r.disjunction depth expr) (form.disjunction room inner)
  unfolding r.disjunction r.disjuncts
  disjunction_read = one_or_list_read k.Or e.Or refl conjunction_read (some_conjunction room inner)

  level_read : (l : Level) → Sound (Inside near) (r.at_level depth expr l) (form.at room inner (place l))
  level_read level.Whole = disjunction_read
  level_read level.Negation = negation_read
  level_read level.Unary = unary_read depth room near fits expr inner reads somes

-- ---- to every depth

pub some_nested : (depth : ℕ) (stands : Place) → Inhabited (form.nested_expression (suc depth) stands)
unfolding form.nested_expression
some_nested depth stands = some_at depth (form.nested_expression depth) stands

-- compared with a form in which as many may nest
fits_itself : (depth : ℕ) → Fits depth depth 0
fits_itself depth = record { roomy = λ some. some; full = λ none. inl refl }

pub nested_read : (depth : ℕ) (l : Level) → Sound (Inside 0) (r.expr (suc depth) l) (form.nested_expression (suc depth) (place l))
unfolding r.expr form.nested_expression
nested_read zero l =
    level_read zero zero 0 (fits_itself zero) (r.expr zero) (form.nested_expression zero) (λ some. absurd (some refl)) (λ some. absurd (some refl)) l
nested_read (suc depth) l =
    level_read (suc depth) (suc depth) 0 (fits_itself (suc depth)) (r.expr (suc depth)) (form.nested_expression (suc depth)) (λ some. nested_read depth)
    (λ some. some_nested depth) l

-- compared with a form in which one more may nest
has_room : (depth : ℕ) → suc depth ≢ 0
has_room depth = omega arith

fits_wider : (depth : ℕ) → Fits depth (suc depth) 1
fits_wider depth = record { roomy = λ some. has_room depth; full = λ none. inr (has_room depth) }

pub wider_read : (depth : ℕ) (l : Level) → Sound (Inside 1) (r.expr (suc depth) l) (form.nested_expression (suc (suc depth)) (place l))
unfolding r.expr form.nested_expression
wider_read zero l =
    level_read zero 1 1 (fits_wider zero) (r.expr zero) (form.nested_expression 1) (λ some. absurd (some refl)) (λ some. some_nested 0) l
wider_read (suc depth) l =
    level_read (suc depth) (suc (suc depth)) 1 (fits_wider (suc depth)) (r.expr (suc depth)) (form.nested_expression (suc (suc depth))) (λ some. wider_read depth)
    (λ some. some_nested (suc depth)) l
