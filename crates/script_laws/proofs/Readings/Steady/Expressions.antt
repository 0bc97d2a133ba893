-- Expressions are read steadily.
use Rattle.std.proofs.Common.{◌≡◌, ℕ, zero, suc, Bool, true, false, if◌then◌else◌, ◌==◌, List, [], ◌∷◌, Option, Some, None, refl, sym, ◌∙◌}
use Rattle.expr_types.specs.declared.expr.CompareOp.{CompareOp}
use Rattle.expr_types.specs.declared.expr.CompareOp.TheVariants as compare
use Rattle.expr_types.specs.declared.expr.Func.{Func}
use Rattle.expr_types.specs.declared.expr.Func.TheVariants as func
use Rattle.script_types.specs.declared.expression.Syn.{Syn}
use Rattle.script_types.specs.declared.expression.Syn.TheVariants as e
use Rattle.script_lex.specs.declared.kind.Kind.{Kind}
use Rattle.script_lex.specs.declared.kind.Kind.TheVariants as k
use Rattle.script_lex.specs.Lex.{same_kind}
use Rattle.script_expr.specs.declared.grammar.Level.{Level}
use Rattle.script_expr.specs.declared.grammar.Level.TheVariants as level
use Rattle.script_expr.specs.declared.expression.Test.{Test}
use Rattle.script_expr.specs.declared.expression.Test.TheVariants as test
use Rattle.script_tokens.specs.Input.{Reader, ◌>>=◌, ◌<$>◌, pure, refuse, expect, eat, head, sees}
use Rattle.script_tokens.specs.Names.{name}
use Rattle.script_expr.specs.Expr as x
use Rattle.script_laws.proofs.Readings.Steady.Settling.{closes, IsSteady}
use Rattle.script_laws.proofs.Readings.Steady.Steps.{IsSteadyAt, both, made, mapped, on_head, on_kind, there, behind, refused, chosen, chosen_at, eaten, expected, introduced, begun, false_true}
use Rattle.script_laws.proofs.Readings.Steady.Marked.{IsBare, bare_first, listed, chained}
use Rattle.script_laws.proofs.Readings.Steady.Reading.{comma_marks, name_steady, name_bare, literal_steady, literals_steady}

and_marks : closes k.And ≡ false
and_marks = refl

or_marks : closes k.Or ≡ false
or_marks = refl

-- no operator or test closes a line

no_product : (kd : Kind) → closes kd ≡ true → x.product_joint kd ≡ None
no_product k.LineEnd e = refl
no_product k.Bad e = refl
no_product _ e = absurd (false_true e)

no_sum : (kd : Kind) → closes kd ≡ true → x.sum_joint kd ≡ None
no_sum k.LineEnd e = refl
no_sum k.Bad e = refl
no_sum _ e = absurd (false_true e)

test_goes : (kd : Kind) → (x.test_kind kd ≡ test.Absent → ⊥) → closes kd ≡ false
test_goes k.LineEnd some = absurd (some refl)
test_goes k.Bad some = absurd (some refl)
test_goes _ some = refl

no_compare : {op : CompareOp} → test.Compare op ≡ test.Absent → ⊥
no_compare e = cc

no_distinct : test.Distinct ≡ test.Absent → ⊥
no_distinct e = cc

no_negated : test.Negated ≡ test.Absent → ⊥
no_negated e = cc

pub source_steady : IsSteady x.source
unfolding x.source
source_steady = both name_steady (λ table. both (introduced k.As refl name_steady) (λ alias. made (record { table = table; alias = alias })))

null_steady : (op : CompareOp) → IsSteady (x.negated_test k.Null op)
null_steady compare.Equal = eaten k.Null refl
null_steady compare.NotEqual = eaten k.Null refl
null_steady _ = made false

null_after_steady : (op : CompareOp) → IsSteady (x.null_after op)
unfolding x.null_after
null_after_steady op = null_steady op

path_steady : (first : List ℕ) → IsSteady (x.path first)
path_steady first = both (expected k.Dot refl) (λ _. both name_steady (λ second. made (e.Path first second)))

star_steady : (f : Func) → IsSteady (x.star_of f)
star_steady func.Count = eaten k.Star refl
star_steady _ = made false

takes_all_steady : (f : Func) → IsSteady (x.takes_all f)
unfolding x.takes_all
takes_all_steady f = star_steady f

module _ (depth : ℕ) (expr : Level → Reader Syn) (steady : (l : Level) → IsSteady (expr l)) (bare : (l : Level) → IsBare (expr l)) where
  deeper_steady : (kind : Kind) → closes kind ≡ false → IsSteady (x.deeper depth expr kind)
  unfolding x.deeper
  deeper_steady kind goes = chosen_at refuse (expect kind) (depth == 0) refused (expected kind goes)

  parenthesized_steady : IsSteady (x.parenthesized depth expr)
  unfolding x.parenthesized
  parenthesized_steady = both (deeper_steady k.LParen refl) (λ _. both (steady level.Whole) (λ inner. both (expected k.RParen refl) (λ _. made inner)))

  exists_steady : IsSteady (x.exists depth expr)
  unfolding x.exists
  exists_steady =
      both (deeper_steady k.LParen refl) (λ _. both source_steady (λ from. both (expected k.Where refl) (λ _. both (steady level.Whole) (λ inner.
      both (expected k.RParen refl) (λ _. made (e.Exists from inner))))))

  arguments_steady : IsSteady (x.arguments depth expr)
  unfolding x.arguments
  arguments_steady = listed k.Comma comma_marks (steady level.Whole) (bare level.Whole) []

  call_steady : (f : Func) → IsSteady (x.call depth expr f)
  unfolding x.call
  call_steady f =
      both (deeper_steady k.LParen refl) (λ _. both (takes_all_steady f) (λ is_all. chosen is_all (both (expected k.RParen refl) (λ _. made e.CountAll))
      (both arguments_steady (λ found. both (expected k.RParen refl) (λ _. made (e.Call f found))))))

  called_steady : (f : Func) (first : List ℕ) → IsSteady (x.called depth expr f first)
  unfolding x.called sees head
  called_steady f first =
      on_head (λ t i. if same_kind t.kind k.LParen then x.call depth expr f i else x.path first i)
      (λ t. chosen_at (x.call depth expr f) (x.path first) (same_kind t.kind k.LParen) (call_steady f) (path_steady first))

  named_by_steady : (first : List ℕ) (f : Option Func) → IsSteady (x.named_by depth expr first f)
  named_by_steady first (Some f) = called_steady f first
  named_by_steady first None = path_steady first

  named_steady : IsSteady (x.named depth expr)
  unfolding x.named
  named_steady =
      on_kind (λ kind. name >>= (λ first. x.named_by depth expr first (x.function kind)))
      (λ kind. there (both name_steady (λ first. named_by_steady first (x.function kind))))

  atom_by_steady : (kind : Kind) → IsSteadyAt kind (x.atom_by depth expr kind)
  atom_by_steady k.LParen = there parenthesized_steady
  atom_by_steady k.Exists = behind k.Exists refl (λ _. exists_steady)
  atom_by_steady k.Number = there (mapped e.Lit literal_steady)
  atom_by_steady k.Signed = there (mapped e.Lit literal_steady)
  atom_by_steady k.TextLiteral = there (mapped e.Lit literal_steady)
  atom_by_steady k.BytesLiteral = there (mapped e.Lit literal_steady)
  atom_by_steady k.True = there (mapped e.Lit literal_steady)
  atom_by_steady k.False = there (mapped e.Lit literal_steady)
  atom_by_steady _ = there named_steady

  atom_steady : IsSteady (x.atom depth expr)
  unfolding x.atom
  atom_steady = on_kind (x.atom_by depth expr) atom_by_steady

  unary_by_steady : (kind : Kind) → IsSteadyAt kind (x.unary_by depth expr kind)
  unary_by_steady k.Minus = there (both (deeper_steady k.Minus refl) (λ _. mapped e.Neg (steady level.Unary)))
  unary_by_steady _ = there atom_steady

  unary_steady : IsSteady (x.unary depth expr)
  unfolding x.unary
  unary_steady = on_kind (x.unary_by depth expr) unary_by_steady

  factors_steady : (first : Syn) → IsSteady (x.factors depth expr first)
  unfolding x.factors
  factors_steady first = chained x.product_joint (x.unary depth expr) no_product unary_steady first

  product_steady : IsSteady (x.product depth expr)
  unfolding x.product
  product_steady = both unary_steady factors_steady

  summands_steady : (first : Syn) → IsSteady (x.summands depth expr first)
  unfolding x.summands
  summands_steady first = chained x.sum_joint (x.product depth expr) no_sum product_steady first

  sum_steady : IsSteady (x.sum depth expr)
  unfolding x.sum
  sum_steady = both product_steady summands_steady

  compared_steady : (op : CompareOp) (left : Syn) → IsSteady (x.compared depth expr op left)
  unfolding x.compared
  compared_steady op left =
      both (null_after_steady op) (λ is_null. chosen is_null (made (e.IsNull (x.is_unlike op) left)) (mapped (e.Compare op left) sum_steady))

  distinct_steady : (left : Syn) → IsSteady (x.distinct depth expr left)
  unfolding x.distinct
  distinct_steady left =
      both (eaten k.Not refl) (λ negated. both (expected k.Distinct refl) (λ _. both (expected k.From refl) (λ _. mapped (e.Distinct negated left) sum_steady)))

  members_steady : IsSteady (x.members depth expr)
  unfolding x.members
  members_steady =
      both (deeper_steady k.LParen refl) (λ _. both (eaten k.RParen refl) (λ is_empty. chosen is_empty (made [])
      (both literals_steady (λ found. both (expected k.RParen refl) (λ _. made found)))))

  between_steady : (negated : Bool) (left : Syn) → IsSteady (x.between depth expr negated left)
  unfolding x.between
  between_steady negated left = both sum_steady (λ low. both (expected k.And refl) (λ _. mapped (e.Between negated left low) sum_steady))

  liked_steady : (negated : Bool) (left : Syn) → IsSteady (x.liked depth expr negated left)
  unfolding x.liked
  liked_steady negated left = mapped (e.Like negated left) sum_steady

  iliked_steady : (negated : Bool) (left : Syn) → IsSteady (x.iliked depth expr negated left)
  unfolding x.iliked
  iliked_steady negated left = mapped (e.Ilike negated left) sum_steady

  among_steady : (negated : Bool) (left : Syn) → IsSteady (x.among depth expr negated left)
  unfolding x.among
  among_steady negated left = mapped (e.InList negated left) members_steady

  test_by_steady : (negated : Bool) (left : Syn) (kind : Kind) → IsSteadyAt kind (x.test_by depth expr negated left kind)
  test_by_steady negated left k.Like = behind k.Like refl (λ _. liked_steady negated left)
  test_by_steady negated left k.Ilike = behind k.Ilike refl (λ _. iliked_steady negated left)
  test_by_steady negated left k.Between = behind k.Between refl (λ _. between_steady negated left)
  test_by_steady negated left k.In = behind k.In refl (λ _. among_steady negated left)
  test_by_steady negated left _ = there refused

  tested_steady : (negated : Bool) (left : Syn) → IsSteady (x.tested depth expr negated left)
  unfolding x.tested
  tested_steady negated left = on_kind (x.test_by depth expr negated left) (test_by_steady negated left)

  follow_by_steady : (left : Syn) (kind : Kind) (t : Test) → x.test_kind kind ≡ t → IsSteadyAt kind (x.follow_by depth expr left t)
  follow_by_steady left kind (test.Compare op) e = behind kind (test_goes kind (λ is. no_compare (sym e ∙ is))) (λ _. compared_steady op left)
  follow_by_steady left kind test.Distinct e = behind kind (test_goes kind (λ is. no_distinct (sym e ∙ is))) (λ _. distinct_steady left)
  follow_by_steady left kind test.Negated e = behind kind (test_goes kind (λ is. no_negated (sym e ∙ is))) (λ _. tested_steady true left)
  follow_by_steady left kind test.Plain e = there (tested_steady false left)
  follow_by_steady left kind test.Absent e = there (made left)

  follow_steady : (left : Syn) → IsSteady (x.follow depth expr left)
  unfolding x.follow
  follow_steady left = on_kind (λ kind. x.follow_by depth expr left (x.test_kind kind)) (λ kind. follow_by_steady left kind (x.test_kind kind) refl)

  comparison_steady : IsSteady (x.comparison depth expr)
  unfolding x.comparison
  comparison_steady = both sum_steady follow_steady

  negation_by_steady : (kind : Kind) → IsSteadyAt kind (x.negation_by depth expr kind)
  negation_by_steady k.Not = there (both (deeper_steady k.Not refl) (λ _. mapped e.Not (steady level.Negation)))
  negation_by_steady _ = there comparison_steady

  negation_steady : IsSteady (x.negation depth expr)
  unfolding x.negation
  negation_steady = on_kind (x.negation_by depth expr) negation_by_steady

  -- where no tokens are left

  named_bare : IsBare (x.named depth expr)
  unfolding x.named head
  named_bare = bare_first name (λ first. x.named_by depth expr first (x.function k.LineEnd)) name_bare

  atom_bare : IsBare (x.atom depth expr)
  unfolding x.atom head
  atom_bare = named_bare

  unary_bare : IsBare (x.unary depth expr)
  unfolding x.unary head
  unary_bare = atom_bare

  product_bare : IsBare (x.product depth expr)
  unfolding x.product
  product_bare = bare_first (x.unary depth expr) (x.factors depth expr) unary_bare

  sum_bare : IsBare (x.sum depth expr)
  unfolding x.sum
  sum_bare = bare_first (x.product depth expr) (x.summands depth expr) product_bare

  comparison_bare : IsBare (x.comparison depth expr)
  unfolding x.comparison
  comparison_bare = bare_first (x.sum depth expr) (x.follow depth expr) sum_bare

  negation_bare : IsBare (x.negation depth expr)
  unfolding x.negation head
  negation_bare = comparison_bare

  conjuncts_steady : (first : Syn) → IsSteady (x.conjuncts depth expr first)
  unfolding x.conjuncts
  conjuncts_steady first = listed k.And and_marks negation_steady negation_bare (first ∷ [])

  conjunction_steady : IsSteady (x.conjunction depth expr)
  unfolding x.conjunction
  conjunction_steady = both negation_steady (λ first. both (eaten k.And refl) (λ more. chosen more (mapped e.And (conjuncts_steady first)) (made first)))

  conjunction_bare : IsBare (x.conjunction depth expr)
  unfolding x.conjunction
  conjunction_bare =
      bare_first (x.negation depth expr) (λ first. eat k.And >>= (λ more. if more then (e.And <$> x.conjuncts depth expr first) else pure first)) negation_bare

  disjuncts_steady : (first : Syn) → IsSteady (x.disjuncts depth expr first)
  unfolding x.disjuncts
  disjuncts_steady first = listed k.Or or_marks conjunction_steady conjunction_bare (first ∷ [])

  disjunction_steady : IsSteady (x.disjunction depth expr)
  unfolding x.disjunction
  disjunction_steady = both conjunction_steady (λ first. both (eaten k.Or refl) (λ more. chosen more (mapped e.Or (disjuncts_steady first)) (made first)))

  disjunction_bare : IsBare (x.disjunction depth expr)
  unfolding x.disjunction
  disjunction_bare =
      bare_first (x.conjunction depth expr) (λ first. eat k.Or >>= (λ more. if more then (e.Or <$> x.disjuncts depth expr first) else pure first)) conjunction_bare

  pub level_steady : (l : Level) → IsSteady (x.at_level depth expr l)
  level_steady level.Whole = disjunction_steady
  level_steady level.Negation = negation_steady
  level_steady level.Unary = unary_steady

  pub level_bare : (l : Level) → IsBare (x.at_level depth expr l)
  level_bare level.Whole = disjunction_bare
  level_bare level.Negation = negation_bare
  level_bare level.Unary = unary_bare

-- both facts of one reader
record Both (p : Level → Reader Syn) : Type 0 where
  steady : (l : Level) → IsSteady (p l)
  bare : (l : Level) → IsBare (p l)

expr_both : (depth : ℕ) → Both (x.expr depth)
unfolding x.expr head
expr_both zero = record { steady = λ l. refused; bare = λ l o. refl }
expr_both (suc depth) = let inner = expr_both depth in record { steady = level_steady depth (x.expr depth) inner.steady inner.bare; bare = level_bare depth (x.expr depth) inner.steady inner.bare }

pub whole_steady : IsSteady x.whole
unfolding x.whole
whole_steady = both begun (λ _. (expr_both 101).steady level.Whole)

pub whole_bare : IsBare x.whole
unfolding x.whole
whole_bare = λ o. (expr_both 101).bare level.Whole 1000
