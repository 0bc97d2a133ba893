-- What the forms of expressions say is read: comparisons.
use Rattle.std.proofs.Common.{◌≡◌, ◌≢◌, ℕ, Bool, true, false, if◌then◌else◌, List, [], refl, ap, sym, subst}
use Rattle.base_core.specs.declared.value.Value.{Value}
use Rattle.expr_types.specs.declared.expr.CompareOp.{CompareOp}
use Rattle.expr_types.specs.declared.expr.CompareOp.TheVariants as compare
use Rattle.script_types.specs.declared.expression.Syn.{Syn}
use Rattle.script_types.specs.declared.expression.Syn.TheVariants as e
use Rattle.script_lex.specs.declared.kind.Kind.{Kind}
use Rattle.script_lex.specs.declared.kind.Kind.TheVariants as k
use Rattle.script_lex.specs.Lex.{same_kind}
use Rattle.script_tokens.specs.Input.{Reader, ◌>>=◌, ◌>>◌, pure, peek, eat, expect}
use Rattle.script_tokens.specs.Names.{is_no_name}
use Rattle.script_tokens.specs.Literals as l
use Rattle.script_tokens.specs.Literals.{begins_literal}
use Rattle.script_expr.specs.declared.grammar.Level.{Level}
use Rattle.script_expr.specs.declared.grammar.Level.TheVariants as level
use Rattle.script_expr.specs.declared.expression.Test.TheVariants as test
use Rattle.script_expr.specs.Expr as r
use Rattle.script_laws.specs.Readings.Forms.Form.{Form, sequence, says, word, whether, separated_list, ◌or◌}
use Rattle.script_laws.specs.Readings.Forms.Basics as basic
use Rattle.script_laws.specs.Readings.Forms.Expressions as form
use Rattle.script_laws.proofs.Readings.Forms.Sequences.{regrouped}
use Rattle.script_laws.proofs.Readings.Forms.Taking.{Inside}
use Rattle.script_laws.proofs.Readings.Forms.Filling.{Complete, Opens, always, both, then_any, less, made, expected, taken, eaten, on_word, either, made_opens, word_opens, then_opens, first_opens, whether_opens, either_opens}
use Rattle.script_laws.proofs.Readings.Forms.FillingBasics.{listed, closes}
use Rattle.script_laws.proofs.Readings.Expressions.FillingSteps.{unlike, only, onto, separated_opens, either_then, says_then, on_opening, on_sign, uneaten, eaten_then, whether_before, Sign, sign, either_sign, word_one, sign_opens}
use Rattle.script_laws.proofs.Readings.Expressions.FillingKinds.{begins_sum, begins_expression, ends_sum, ends_comparison, ends_expression, comparison_ends_sum, ends_comparison_test}
use Rattle.script_laws.proofs.Readings.Expressions.FillingLiterals.{literal_read, literal_opens, literal_solid}
use Rattle.script_laws.proofs.Readings.Expressions.FillingAtoms.{Fit, nested, sum_read, sum_opens}

false_true : false ≡ true → ⊥
false_true e = cc

-- ---- the signs

sign_sign : Sign form.comparison_sign (λ kd by. r.test_kind kd ≡ test.Compare by) 0
sign_sign =
    either_sign (sign k.Equal (word_one k.Equal) refl)
    (either_sign (sign k.NotEqual (word_one k.NotEqual) refl)
    (either_sign (sign k.Less (word_one k.Less) refl)
    (either_sign (sign k.LessEqual (word_one k.LessEqual) refl)
    (either_sign (sign k.Greater (word_one k.Greater) refl) (sign k.GreaterEqual (word_one k.GreaterEqual) refl)))))

absent_compare : {by : CompareOp} → test.Absent ≡ test.Compare by → ⊥
absent_compare e = cc

-- before a test a sum ends
tests_end_sum : (kd : Kind) (by : CompareOp) → r.test_kind kd ≡ test.Compare by → ends_sum kd ≡ true
tests_end_sum k.Star by e = absurd (absent_compare e)
tests_end_sum k.Plus by e = absurd (absent_compare e)
tests_end_sum k.Minus by e = absurd (absent_compare e)
tests_end_sum k.Signed by e = absurd (absent_compare e)
tests_end_sum k.Concat by e = absurd (absent_compare e)
tests_end_sum _ by e = refl

-- no list, or one
abbrev literals_or_none : Form (List Value)
literals_or_none = separated_list k.Comma basic.literal or says []

module _ (depth : ℕ) (inner : form.Place → Form Syn) where
  pub comparison_opens : {next : Kind → Bool} → Opens (form.comparison depth inner) next begins_sum
  comparison_opens = first_opens (sum_opens depth inner)

module _ (near depth room : ℕ) (fit : Fit near depth room) (inner : form.Place → Form Syn) (expr : Level → Reader Syn)
    (wholes : depth ≢ 0 → Complete (Inside near) ends_expression (expr level.Whole) (inner form.Anywhere))
    (unaries : depth ≢ 0 → Complete (Inside near) always (expr level.Unary) (inner form.BehindMinus)) (begins : Opens (inner form.Anywhere) always begins_expression) where
  operand : Complete (Inside near) ends_comparison (r.sum depth expr) (form.sum room inner)
  operand = less (sum_read near depth room fit inner expr wholes unaries begins) comparison_ends_sum

  abbrev then_sum : (Syn → Syn) → Form Syn
  then_sum f = sequence (form.sum room inner) (λ right. says (f right))

  then_sum_read : (f : Syn → Syn) → Complete (Inside near) ends_comparison (r.sum depth expr >>= (λ right. pure (f right))) (then_sum f)
  then_sum_read f = both operand (λ right. less (made (f right)) (λ y e. refl)) (λ right. made_opens (f right) (λ y e. e))

  then_sum_opens : (f : Syn → Syn) → Opens (then_sum f) ends_comparison begins_sum
  then_sum_opens f = first_opens (sum_opens room inner)

  -- ---- `==` and its like

  abbrev null_or_sum : CompareOp → Syn → Bool → Reader Syn
  null_or_sum by left is_null = if is_null then pure (e.IsNull (r.is_unlike by) left) else (r.sum depth expr >>= (λ right. pure (e.Compare by left right)))

  compared_read : (by : CompareOp) (left : Syn) → Complete (Inside near) ends_comparison (r.compared depth expr by left) (then_sum (e.Compare by left))
  unfolding r.compared r.null_after is_no_name
  compared_read compare.Equal left =
      uneaten begins_sum k.Null (null_or_sum compare.Equal left) (then_sum_opens (e.Compare compare.Equal left)) refl (then_sum_read (e.Compare compare.Equal left))
  compared_read compare.NotEqual left =
      uneaten begins_sum k.Null (null_or_sum compare.NotEqual left) (then_sum_opens (e.Compare compare.NotEqual left)) refl (then_sum_read (e.Compare compare.NotEqual left))
  compared_read compare.Less left = then_sum_read (e.Compare compare.Less left)
  compared_read compare.LessEqual left = then_sum_read (e.Compare compare.LessEqual left)
  compared_read compare.Greater left = then_sum_read (e.Compare compare.Greater left)
  compared_read compare.GreaterEqual left = then_sum_read (e.Compare compare.GreaterEqual left)

  abbrev follow_at : Syn → Kind → Reader Syn
  follow_at left kd = r.follow_by depth expr left (r.test_kind kd)

  signs_read : (left : Syn) → Complete (Inside near) ends_comparison (peek >>= follow_at left) (sequence form.comparison_sign (λ by. then_sum (e.Compare by left)))
  signs_read left =
      on_sign (follow_at left) (λ by. r.compared depth expr by left) sign_sign (λ kd by is. ap (r.follow_by depth expr left) is) (λ by. compared_read by left)

  null_equal : (left : Syn)
      → Complete (Inside near) ends_comparison (peek >>= follow_at left) (sequence (sequence (word k.Equal) (λ _. word k.Null)) (λ _. says (e.IsNull false left)))
  unfolding r.compared r.null_after
  null_equal left =
      onto (regrouped (word k.Equal) (λ _. word k.Null) (λ _. says (e.IsNull false left)))
      (on_word (follow_at left) k.Equal
      (then_any (taken k.Equal) (λ _. eaten_then k.Null (null_or_sum compare.Equal left) (less (made (e.IsNull false left)) (λ y e. refl)))))

  null_unequal : (left : Syn)
      → Complete (Inside near) ends_comparison (peek >>= follow_at left) (sequence (sequence (word k.NotEqual) (λ _. word k.Null)) (λ _. says (e.IsNull true left)))
  unfolding r.compared r.null_after
  null_unequal left =
      onto (regrouped (word k.NotEqual) (λ _. word k.Null) (λ _. says (e.IsNull true left)))
      (on_word (follow_at left) k.NotEqual
      (then_any (taken k.NotEqual) (λ _. eaten_then k.Null (null_or_sum compare.NotEqual left) (less (made (e.IsNull true left)) (λ y e. refl)))))

  -- ---- the tests that `not` may stand before

  abbrev alike : Bool → Syn → Form Syn
  alike negated left = sequence (word k.Like) (λ _. then_sum (e.Like negated left))

  abbrev ialike : Bool → Syn → Form Syn
  ialike negated left = sequence (word k.Ilike) (λ _. then_sum (e.Ilike negated left))

  abbrev listed_in : Bool → Syn → Form Syn
  listed_in negated left = sequence (word k.In) (λ _. sequence (form.members room inner) (λ found. says (e.InList negated left found)))

  abbrev ranged : Bool → Syn → Form Syn
  ranged negated left =
      sequence (word k.Between) (λ _. sequence (form.sum room inner) (λ low. sequence (word k.And) (λ _. then_sum (e.Between negated left low))))

  alike_read : (negated : Bool) (left : Syn) → Complete (Inside near) ends_comparison (r.tested depth expr negated left) (alike negated left)
  unfolding r.tested r.liked
  alike_read negated left = on_word (r.test_by depth expr negated left) k.Like (then_any (taken k.Like) (λ _. then_sum_read (e.Like negated left)))

  ialike_read : (negated : Bool) (left : Syn) → Complete (Inside near) ends_comparison (r.tested depth expr negated left) (ialike negated left)
  unfolding r.tested r.iliked
  ialike_read negated left = on_word (r.test_by depth expr negated left) k.Ilike (then_any (taken k.Ilike) (λ _. then_sum_read (e.Ilike negated left)))

  ranged_read : (negated : Bool) (left : Syn) → Complete (Inside near) ends_comparison (r.tested depth expr negated left) (ranged negated left)
  unfolding r.tested r.between
  ranged_read negated left =
      on_word (r.test_by depth expr negated left) k.Between (then_any (taken k.Between) (λ _. both (sum_read near depth room fit inner expr wholes unaries begins)
      (λ low. then_any (expected k.And) (λ _. then_sum_read (e.Between negated left low))) (λ low. first_opens (word_opens k.And refl))))

  -- ---- `in`

  abbrev literals_and_close : Form (List Value)
  literals_and_close = sequence literals_or_none (λ found. sequence (word k.RParen) (λ _. says found))

  list_read : Complete (Inside near) always (l.literals >>= (λ found. expect k.RParen >> pure found))
      (sequence (separated_list k.Comma basic.literal) (λ found. sequence (word k.RParen) (λ _. says found)))
  unfolding l.literals
  list_read =
      both (listed k.Comma always closes literal_read literal_solid refl (λ y e. refl) (λ y e. unlike closes k.Comma refl y e)) (λ found. then_any (expected k.RParen) (λ _. made found))
      (λ found. first_opens (word_opens k.RParen refl))

  abbrev none_or_list : Bool → Reader (List Value)
  none_or_list is_empty = if is_empty then pure [] else (l.literals >>= (λ found. expect k.RParen >> pure found))

  list_or_none_read : Complete (Inside near) always (eat k.RParen >>= none_or_list) literals_and_close
  list_or_none_read =
      onto (either_then (separated_list k.Comma basic.literal) (says []) (λ found. sequence (word k.RParen) (λ _. says found)))
      (either (uneaten begins_literal k.RParen none_or_list (first_opens (separated_opens k.Comma literal_opens)) refl list_read)
      (onto (says_then [] (λ found. sequence (word k.RParen) (λ _. says found))) (eaten_then k.RParen none_or_list (made []))))

  members_read : Complete (Inside near) always (r.members depth expr) (form.members room inner)
  unfolding r.members
  members_read = nested near depth room fit expr k.LParen refl (λ some. list_or_none_read)

  listed_in_read : (negated : Bool) (left : Syn) → Complete (Inside near) ends_comparison (r.tested depth expr negated left) (listed_in negated left)
  unfolding r.tested r.among
  listed_in_read negated left =
      on_word (r.test_by depth expr negated left) k.In (then_any (taken k.In) (λ _. then_any members_read (λ found. less (made (e.InList negated left found)) (λ y e. refl))))

  -- ---- `is distinct from`

  abbrev apart : Syn → Form Syn
  apart left =
      sequence (whether (word k.Not)) (λ negated. sequence (word k.Distinct) (λ _. sequence (word k.From) (λ _. then_sum (e.Distinct negated left))))

  distinct_no_not : (y : Kind) → only k.Distinct y ≡ true → same_kind y k.Not ≡ false
  unfolding same_kind
  distinct_no_not y e = unlike (only k.Distinct) k.Not refl y e

  apart_read : (left : Syn) → Complete (Inside near) ends_comparison (r.distinct depth expr left) (apart left)
  unfolding r.distinct same_kind
  apart_read left =
      both (eaten {next = only k.Distinct} k.Not distinct_no_not)
      (λ negated. then_any (expected k.Distinct) (λ _. then_any (expected k.From) (λ _. then_sum_read (e.Distinct negated left))))
      (λ negated. first_opens (word_opens k.Distinct refl))

  -- ---- what may stand behind the first sum

  absent_kinds : (left : Syn) (kd : Kind) → ends_comparison kd ≡ true → follow_at left kd ≡ pure left
  absent_kinds left kd e = ap (r.follow_by depth expr left) (ends_comparison_test kd e)

  -- with `not`, and without
  with_not : (kd : Kind) (left : Syn) (g : Bool → Form Syn) → follow_at left kd ≡ r.tested depth expr false left
      → ((negated : Bool) → Complete (Inside near) ends_comparison (r.tested depth expr negated left) (sequence (word kd) (λ _. g negated)))
      → Complete (Inside near) ends_comparison (peek >>= follow_at left) (sequence (whether (word k.Not)) (λ negated. sequence (word kd) (λ _. g negated)))
  with_not kd left g is cp =
      whether_before k.Not (on_word (follow_at left) kd (subst (λ p. Complete (Inside near) ends_comparison p (sequence (word kd) (λ _. g false))) (sym is) (cp false)))
      (on_word (follow_at left) k.Not (then_any (taken k.Not) (λ _. cp true)))

  follow_read : (left : Syn) → Complete (Inside near) ends_comparison (r.follow depth expr left) (form.tested room inner left)
  unfolding r.follow
  follow_read left =
      either (on_opening ends_comparison (follow_at left) (made_opens left (λ y e. e)) (absent_kinds left) (less (made left) (λ y e. refl)))
      (either (signs_read left)
      (either (null_equal left)
      (either (null_unequal left)
      (either (with_not k.Like left (λ negated. then_sum (e.Like negated left)) refl (λ negated. alike_read negated left))
      (either (with_not k.Ilike left (λ negated. then_sum (e.Ilike negated left)) refl (λ negated. ialike_read negated left))
      (either (with_not k.In left (λ negated. sequence (form.members room inner) (λ found. says (e.InList negated left found))) refl (λ negated. listed_in_read negated left))
      (either (with_not k.Between left
      (λ negated. sequence (form.sum room inner) (λ low. sequence (word k.And) (λ _. then_sum (e.Between negated left low)))) refl (λ negated. ranged_read negated left))
      (on_word (follow_at left) k.Is (then_any (taken k.Is) (λ _. apart_read left))))))))))

  not_opens : (kd : Kind) (g : Bool → Form Syn) → ends_sum kd ≡ true
      → Opens (sequence (whether (word k.Not)) (λ negated. sequence (word kd) (λ _. g negated))) ends_comparison ends_sum
  not_opens kd g is = then_opens ends_sum (whether_opens (word_opens k.Not refl) (λ y e. e)) (λ negated. first_opens (word_opens kd is))

  tested_opens : (left : Syn) → Opens (form.tested room inner left) ends_comparison ends_sum
  tested_opens left =
      either_opens (made_opens left comparison_ends_sum)
      (either_opens (first_opens (sign_opens sign_sign tests_end_sum))
      (either_opens (first_opens (first_opens (word_opens k.Equal refl)))
      (either_opens (first_opens (first_opens (word_opens k.NotEqual refl)))
      (either_opens (not_opens k.Like (λ negated. then_sum (e.Like negated left)) refl)
      (either_opens (not_opens k.Ilike (λ negated. then_sum (e.Ilike negated left)) refl)
      (either_opens (not_opens k.In (λ negated. sequence (form.members room inner) (λ found. says (e.InList negated left found))) refl)
      (either_opens (not_opens k.Between
      (λ negated. sequence (form.sum room inner) (λ low. sequence (word k.And) (λ _. then_sum (e.Between negated left low)))) refl)
      (first_opens (word_opens k.Is refl)))))))))

  -- ---- CMP

  pub comparison_read : Complete (Inside near) ends_comparison (r.comparison depth expr) (form.comparison room inner)
  unfolding r.comparison
  comparison_read = both (sum_read near depth room fit inner expr wholes unaries begins) (λ left. follow_read left) (λ left. tested_opens left)
