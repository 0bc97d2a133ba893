-- What stands behind the first sum of a comparison is read as its form says.
use Rattle.std.proofs.Common.{◌≡◌, ◌≢◌, ℕ, Bool, true, false, if◌then◌else◌, List, [], Ok, Err, refl, subst, inl, inr}
use Rattle.base_core.specs.declared.value.Value.{Value}
use Rattle.expr_types.specs.declared.expr.CompareOp.{CompareOp}
use Rattle.expr_types.specs.declared.expr.CompareOp.TheVariants as compare
use Rattle.script_types.specs.declared.expression.Syn.{Syn}
use Rattle.script_types.specs.declared.expression.Syn.TheVariants as e
use Rattle.script_lex.specs.declared.kind.Kind.{Kind}
use Rattle.script_lex.specs.declared.kind.Kind.TheVariants as k
use Rattle.script_lex.specs.declared.token.Token.{Token}
use Rattle.script_tokens.specs.Input.{Input, Outcome, Reader, ◌>>=◌, ◌>>◌, and_then, pure, take_token, eat, expect, kind, next}
use Rattle.script_tokens.specs.Literals as l
use Rattle.script_expr.specs.declared.grammar.Level.{Level}
use Rattle.script_expr.specs.Expr as r
use Rattle.script_laws.specs.Readings.Forms.Form.{Form, sequence, says, word, whether, separated_list, ◌or◌}
use Rattle.script_laws.specs.Readings.Forms.Basics.{literal}
use Rattle.script_laws.specs.Readings.Forms.Expressions as form
use Rattle.script_laws.specs.Readings.Forms.Expressions.{Place, nesting_token}
use Rattle.script_laws.proofs.Readings.Forms.Taking.{Mode, Inside, Kept, Out, Whole, Sound, Inhabited}
use Rattle.script_laws.proofs.Readings.Forms.Steps.{both, at, made, some_made, some_both, some_left, some_right, some_word, left_of, right_of, refused_at, expected, behind_word, on_kind}
use Rattle.script_laws.proofs.Readings.Forms.Options.{eaten}
use Rattle.script_laws.proofs.Readings.Forms.Lists.{listed}
use Rattle.script_laws.proofs.Readings.Forms.Basics.{literal_read, some_literal}
use Rattle.script_laws.proofs.Readings.Forms.Sequences.{then_says}
use Rattle.script_laws.proofs.Readings.Expressions.Steps.{Within, then_within, within_at, within, none_before, first_within, first_as, grouped_left, either_up, either_second, with_word, without_word, either_word, mapped}
use Rattle.script_laws.proofs.Readings.Expressions.Nesting.{Fits, place, nested_form, behind_nesting}
use Rattle.script_laws.proofs.Readings.Expressions.Sums.{sum_read, some_sum}

-- ---- the forms of tests

-- what stands in the parentheses behind `in`
listing : Form (List Value)
listing = sequence (separated_list k.Comma literal or says []) (λ found. sequence (word k.RParen) (λ _. says found))

some_listing : Inhabited listing
unfolding listing
some_listing = some_both (some_right (some_made [])) (λ found. some_both (some_word k.RParen) (λ _. some_made found))

null_form : Bool → Syn → Form Syn
null_form unlike left = sequence (word k.Null) (λ _. says (e.IsNull unlike left))

module _ (depth : ℕ) (inner : Place → Form Syn) where
  -- a sum, which makes a test
  against : (Syn → Syn) → Form Syn
  against make = sequence (form.sum depth inner) (λ right. says (make right))

  some_against : (make : Syn → Syn) → Inhabited (against make)
  unfolding against
  some_against make = some_both (some_sum depth inner) (λ right. some_made (make right))

  liked : Bool → Syn → Form Syn
  liked negated left = sequence (word k.Like) (λ _. against (e.Like negated left))

  iliked : Bool → Syn → Form Syn
  iliked negated left = sequence (word k.Ilike) (λ _. against (e.Ilike negated left))

  among : Bool → Syn → Form Syn
  among negated left = sequence (word k.In) (λ _. sequence (nested_form depth k.LParen listing) (λ found. says (e.InList negated left found)))

  between_bounds : Bool → Syn → Form Syn
  between_bounds negated left = sequence (form.sum depth inner) (λ low. sequence (word k.And) (λ _. against (e.Between negated left low)))

  some_bounds : (negated : Bool) (left : Syn) → Inhabited (between_bounds negated left)
  unfolding between_bounds
  some_bounds negated left = some_both (some_sum depth inner) (λ low. some_both (some_word k.And) (λ _. some_against (e.Between negated left low)))

  between : Bool → Syn → Form Syn
  between negated left = sequence (word k.Between) (λ _. between_bounds negated left)

  -- a test that `not` may stand before
  test : Bool → Syn → Form Syn
  test negated left = liked negated left or iliked negated left or among negated left or between negated left

  -- `in` and what stands behind it
  listed_up : (negated : Bool) (left : Syn)
      → Within (sequence (word k.In) (λ _. nested_form depth k.LParen (sequence listing (λ found. says (e.InList negated left found))))) (test negated left)
  unfolding test among
  listed_up negated left ts n a s =
      inr (inr (inl (then_within (word k.In) (λ _. nested_form depth k.LParen (sequence listing (λ found. says (e.InList negated left found))))
      (λ _. sequence (nested_form depth k.LParen listing) (λ found. says (e.InList negated left found)))
      (λ _. grouped_left (nesting_token depth k.LParen) (λ _. listing) (λ found. says (e.InList negated left found))) ts n a s)))

  some_test : (negated : Bool) (left : Syn) → Inhabited (test negated left)
  unfolding test liked
  some_test negated left = some_left (some_both (some_word k.Like) (λ _. some_against (e.Like negated left)))

  like_up : (left : Syn) → Within (sequence (whether (word k.Not)) (λ negated. liked negated left)) (form.tested depth inner left)
  unfolding liked against
  like_up left ts n a s = inr (inr (inr (inr (inl s))))

  ilike_up : (left : Syn) → Within (sequence (whether (word k.Not)) (λ negated. iliked negated left)) (form.tested depth inner left)
  unfolding iliked against
  ilike_up left ts n a s = inr (inr (inr (inr (inr (inl s)))))

  among_up : (left : Syn) → Within (sequence (whether (word k.Not)) (λ negated. among negated left)) (form.tested depth inner left)
  unfolding among listing
  among_up left ts n a s = inr (inr (inr (inr (inr (inr (inl s))))))

  between_up : (left : Syn) → Within (sequence (whether (word k.Not)) (λ negated. between negated left)) (form.tested depth inner left)
  unfolding between between_bounds against
  between_up left ts n a s = inr (inr (inr (inr (inr (inr (inr (inl s)))))))

  choice_up : {A : Type 0} (f : Form A) (g h : A → Form Syn) (left : Syn) → Within (sequence f g) (form.tested depth inner left) → Within (sequence f h) (form.tested depth inner left)
      → Within (sequence f (λ a. g a or h a)) (form.tested depth inner left)
  choice_up f g h left one two ts n a s = either_up (sequence f g) (sequence f h) (form.tested depth inner left) one two ts n a (either_second f g h ts n a s)

  -- a test, and whether `not` stands before it
  test_up : (left : Syn) → Within (sequence (whether (word k.Not)) (λ negated. test negated left)) (form.tested depth inner left)
  unfolding test
  test_up left =
      choice_up (whether (word k.Not)) (λ negated. liked negated left) (λ negated. iliked negated left or among negated left or between negated left) left (like_up left)
      (choice_up (whether (word k.Not)) (λ negated. iliked negated left) (λ negated. among negated left or between negated left) left (ilike_up left)
      (choice_up (whether (word k.Not)) (λ negated. among negated left) (λ negated. between negated left) left (among_up left) (between_up left)))

  negated_up : (left : Syn) → Within (sequence (word k.Not) (λ _. test true left)) (form.tested depth inner left)
  negated_up left ts n a s = test_up left ts n a (with_word k.Not (λ negated. test negated left) ts n a s)

  plain_up : (left : Syn) → Within (test false left) (form.tested depth inner left)
  plain_up left ts n a s = test_up left ts n a (without_word k.Not (λ negated. test negated left) ts n a s)

  -- a comparison's sign, and a sum
  sign_up : (kd : Kind) (op : CompareOp) (left : Syn) → ((ts : List Token) (n : ℕ) (u : Unit {0}) → word kd ts n u → form.comparison_sign ts n op)
      → Within (sequence (word kd) (λ _. against (e.Compare op left))) (form.tested depth inner left)
  unfolding against
  sign_up kd op left is ts n a s =
      inr (inl (first_as (word kd) form.comparison_sign op (sequence (form.sum depth inner) (λ right. says (e.Compare op left right)))
      (λ by. sequence (form.sum depth inner) (λ right. says (e.Compare by left right))) is (λ us m b said. said) ts n a s))

  equal_null_up : (left : Syn) → Within (sequence (word k.Equal) (λ _. null_form false left)) (form.tested depth inner left)
  unfolding null_form
  equal_null_up left ts n a s = inr (inr (inl (grouped_left (word k.Equal) (λ _. word k.Null) (λ _. says (e.IsNull false left)) ts n a s)))

  unlike_null_up : (left : Syn) → Within (sequence (word k.NotEqual) (λ _. null_form true left)) (form.tested depth inner left)
  unfolding null_form
  unlike_null_up left ts n a s = inr (inr (inr (inl (grouped_left (word k.NotEqual) (λ _. word k.Null) (λ _. says (e.IsNull true left)) ts n a s))))

  equal_up : (left : Syn) → Within (sequence (word k.Equal) (λ _. null_form false left or against (e.Compare compare.Equal left))) (form.tested depth inner left)
  equal_up left =
      choice_up (word k.Equal) (λ _. null_form false left) (λ _. against (e.Compare compare.Equal left)) left (equal_null_up left)
      (sign_up k.Equal compare.Equal left (λ us m u said. inl (then_says (word k.Equal) compare.Equal us m u said)))

  unlike_up : (left : Syn) → Within (sequence (word k.NotEqual) (λ _. null_form true left or against (e.Compare compare.NotEqual left))) (form.tested depth inner left)
  unlike_up left =
      choice_up (word k.NotEqual) (λ _. null_form true left) (λ _. against (e.Compare compare.NotEqual left)) left (unlike_null_up left)
      (sign_up k.NotEqual compare.NotEqual left (λ us m u said. inr (inl (then_says (word k.NotEqual) compare.NotEqual us m u said))))

  -- what stands behind `is`
  distinct : Syn → Form Syn
  distinct left = sequence (whether (word k.Not)) (λ negated. sequence (word k.Distinct) (λ _. sequence (word k.From) (λ _. against (e.Distinct negated left))))

  distinct_up : (left : Syn) → Within (sequence (word k.Is) (λ _. distinct left)) (form.tested depth inner left)
  unfolding distinct against
  distinct_up left ts n a s = inr (inr (inr (inr (inr (inr (inr (inr s)))))))

  some_distinct : (left : Syn) → Inhabited (distinct left)
  unfolding distinct
  some_distinct left =
      some_both (some_not k.Not) (λ negated. some_both (some_word k.Distinct) (λ _. some_both (some_word k.From) (λ _. some_against (e.Distinct negated left))))
    where
      some_not : (kd : Kind) → Inhabited (whether (word kd))
      some_not kd = record { tokens = []; value = false; said = (refl, refl) }

  pub some_tested : (left : Syn) → Inhabited (form.tested depth inner left)
  some_tested left = some_left (some_made left)

-- what is behind what was read behind a token is behind both
mapped_behind : {A B : Type 0} (p : Reader A) (out : Outcome (Unit {0})) (make : A → Reader B) → and_then out (λ _. p >>= make) ≡ and_then (and_then out (λ _. p)) make
mapped_behind p (Ok q) make = refl
mapped_behind p (Err e) make = refl

same_out : {A : Type 0} {c : Mode} {g : Form A} {i : Input} {out other : Outcome A} → out ≡ other → Out c g i out → Out c g i other
same_out {c = c} {g = g} {i = i} same one = record { kept = subst (Kept c g i) same one.kept }

-- after the parenthesis behind `in`
no_members : Within (sequence (word k.RParen) (λ _. says [])) listing
unfolding listing
no_members = none_before (separated_list k.Comma literal or says []) (λ found. sequence (word k.RParen) (λ _. says found)) [] (inr (refl, refl, refl))

some_members : Within (sequence (separated_list k.Comma literal) (λ found. sequence (word k.RParen) (λ _. says found))) listing
unfolding listing
some_members =
    first_within (separated_list k.Comma literal) (separated_list k.Comma literal or says []) (λ found. sequence (word k.RParen) (λ _. says found)) (λ ts n a s. inl s)

listing_up : Within (sequence (word k.RParen) (λ _. says []) or sequence (separated_list k.Comma literal) (λ found. sequence (word k.RParen) (λ _. says found))) listing
listing_up =
    either_up (sequence (word k.RParen) (λ _. says [])) (sequence (separated_list k.Comma literal) (λ found. sequence (word k.RParen) (λ _. says found))) listing no_members
    some_members

-- ---- their readers

module _ (depth room near : ℕ) (fits : Fits depth room near) (expr : Level → Reader Syn) (inner : Place → Form Syn)
    (reads : depth ≢ 0 → (l : Level) → Sound (Inside near) (expr l) (inner (place l))) (somes : room ≢ 0 → (stands : Place) → Inhabited (inner stands)) where
  against_read : (make : Syn → Syn) → Sound (Inside near) (r.sum depth expr >>= (λ right. pure (make right))) (against room inner make)
  unfolding against
  against_read make = mapped make (sum_read depth room near fits expr inner reads somes)

  listing_read : Sound (Inside near)
      (eat k.RParen >>= (λ is_empty. if is_empty then pure [] else (l.literals >>= (λ found. expect k.RParen >> pure found)))) listing
  unfolding l.literals
  listing_read =
      within
      (either_word k.RParen refl (made [])
      (both (listed k.Comma refl literal_read some_literal) (λ found. both (expected k.RParen refl) (λ _. made found) (λ _. some_made found))
      (λ found. some_both (some_word k.RParen) (λ _. some_made found)))) listing_up

  -- the list, and a value made of it
  among_at : (negated : Bool) (left : Syn) (i : Input) → Whole i.ahead → kind i ≡ k.In
      → Out (Inside near) (test room inner negated left) i (and_then (take_token i) (λ _. r.among depth expr negated left))
  unfolding r.among r.members
  among_at negated left i whole is =
      let make : List Value → Reader Syn = λ found. pure (e.InList negated left found) in
      same_out (mapped_behind _ (r.deeper depth expr k.LParen (next i)) make)
      (behind_nesting depth room near fits expr k.In refl refl (λ some. mapped (e.InList negated left) listing_read)
      (λ some. some_both some_listing (λ found. some_made (e.InList negated left found))) (some_test room inner negated left) (listed_up room inner negated left) i whole is)

  bounds_read : (negated : Bool) (left : Syn) → Sound (Inside near) (r.between depth expr negated left) (between_bounds room inner negated left)
  unfolding r.between between_bounds
  bounds_read negated left =
      both (sum_read depth room near fits expr inner reads somes)
      (λ low. both (expected k.And refl) (λ _. against_read (e.Between negated left low)) (λ _. some_against room inner (e.Between negated left low)))
      (λ low. some_both (some_word k.And) (λ _. some_against room inner (e.Between negated left low)))

  test_at : (negated : Bool) (left : Syn) (kd : Kind) (i : Input) → Whole i.ahead → kind i ≡ kd
      → Out (Inside near) (test room inner negated left) i (r.test_by depth expr negated left kd i)
  unfolding test liked iliked between r.liked r.iliked
  test_at negated left k.Like i whole is = left_of (behind_word k.Like refl (against_read (e.Like negated left)) (some_against room inner (e.Like negated left)) i whole is)
  test_at negated left k.Ilike i whole is =
      right_of (left_of (behind_word k.Ilike refl (against_read (e.Ilike negated left)) (some_against room inner (e.Ilike negated left)) i whole is))
  test_at negated left k.In i whole is = among_at negated left i whole is
  test_at negated left k.Between i whole is =
      right_of (right_of (right_of (behind_word k.Between refl (bounds_read negated left) (some_bounds room inner negated left) i whole is)))
  test_at negated left _ i whole is = refused_at (some_test room inner negated left) i

  test_read : (negated : Bool) (left : Syn) → Sound (Inside near) (r.tested depth expr negated left) (test room inner negated left)
  unfolding r.tested
  test_read negated left = on_kind (r.test_by depth expr negated left) (test_at negated left)

  distinct_read : (left : Syn) → Sound (Inside near) (r.distinct depth expr left) (distinct room inner left)
  unfolding r.distinct distinct
  distinct_read left =
      both (eaten k.Not refl)
      (λ negated. both (expected k.Distinct refl) (λ _. both (expected k.From refl) (λ _. against_read (e.Distinct negated left)) (λ _. some_against room inner (e.Distinct negated left)))
      (λ _. some_both (some_word k.From) (λ _. some_against room inner (e.Distinct negated left))))
      (λ negated. some_both (some_word k.Distinct) (λ _. some_both (some_word k.From) (λ _. some_against room inner (e.Distinct negated left))))

  equal_read : (left : Syn) → Sound (Inside near) (r.compared depth expr compare.Equal left) (null_form false left or against room inner (e.Compare compare.Equal left))
  unfolding r.compared r.null_after null_form
  equal_read left = either_word k.Null refl (made (e.IsNull false left)) (against_read (e.Compare compare.Equal left))

  unlike_read : (left : Syn)
      → Sound (Inside near) (r.compared depth expr compare.NotEqual left) (null_form true left or against room inner (e.Compare compare.NotEqual left))
  unfolding r.compared r.null_after null_form
  unlike_read left = either_word k.Null refl (made (e.IsNull true left)) (against_read (e.Compare compare.NotEqual left))

  less_read : (left : Syn) → Sound (Inside near) (r.compared depth expr compare.Less left) (against room inner (e.Compare compare.Less left))
  unfolding r.compared r.null_after
  less_read left = against_read (e.Compare compare.Less left)

  less_equal_read : (left : Syn) → Sound (Inside near) (r.compared depth expr compare.LessEqual left) (against room inner (e.Compare compare.LessEqual left))
  unfolding r.compared r.null_after
  less_equal_read left = against_read (e.Compare compare.LessEqual left)

  greater_read : (left : Syn) → Sound (Inside near) (r.compared depth expr compare.Greater left) (against room inner (e.Compare compare.Greater left))
  unfolding r.compared r.null_after
  greater_read left = against_read (e.Compare compare.Greater left)

  greater_equal_read : (left : Syn) → Sound (Inside near) (r.compared depth expr compare.GreaterEqual left) (against room inner (e.Compare compare.GreaterEqual left))
  unfolding r.compared r.null_after
  greater_equal_read left = against_read (e.Compare compare.GreaterEqual left)

  follow_at : (left : Syn) (kd : Kind) (i : Input) → Whole i.ahead → kind i ≡ kd
      → Out (Inside near) (form.tested room inner left) i (r.follow_by depth expr left (r.test_kind kd) i)
  follow_at left k.Equal i whole is =
      within_at (behind_word k.Equal refl (equal_read left) (some_right (some_against room inner (e.Compare compare.Equal left))) i whole is) (equal_up room inner left)
  follow_at left k.NotEqual i whole is =
      within_at (behind_word k.NotEqual refl (unlike_read left) (some_right (some_against room inner (e.Compare compare.NotEqual left))) i whole is) (unlike_up room inner left)
  follow_at left k.Less i whole is =
      within_at (behind_word k.Less refl (less_read left) (some_against room inner (e.Compare compare.Less left)) i whole is)
      (sign_up room inner k.Less compare.Less left (λ us m u said. inr (inr (inl (then_says (word k.Less) compare.Less us m u said)))))
  follow_at left k.LessEqual i whole is =
      within_at (behind_word k.LessEqual refl (less_equal_read left) (some_against room inner (e.Compare compare.LessEqual left)) i whole is)
      (sign_up room inner k.LessEqual compare.LessEqual left (λ us m u said. inr (inr (inr (inl (then_says (word k.LessEqual) compare.LessEqual us m u said))))))
  follow_at left k.Greater i whole is =
      within_at (behind_word k.Greater refl (greater_read left) (some_against room inner (e.Compare compare.Greater left)) i whole is)
      (sign_up room inner k.Greater compare.Greater left (λ us m u said. inr (inr (inr (inr (inl (then_says (word k.Greater) compare.Greater us m u said)))))))
  follow_at left k.GreaterEqual i whole is =
      within_at (behind_word k.GreaterEqual refl (greater_equal_read left) (some_against room inner (e.Compare compare.GreaterEqual left)) i whole is)
      (sign_up room inner k.GreaterEqual compare.GreaterEqual left (λ us m u said. inr (inr (inr (inr (inr (then_says (word k.GreaterEqual) compare.GreaterEqual us m u said)))))))
  follow_at left k.Is i whole is = within_at (behind_word k.Is refl (distinct_read left) (some_distinct room inner left) i whole is) (distinct_up room inner left)
  follow_at left k.Not i whole is = within_at (behind_word k.Not refl (test_read true left) (some_test room inner true left) i whole is) (negated_up room inner left)
  follow_at left k.Like i whole is = within_at (at (test_read false left) i whole) (plain_up room inner left)
  follow_at left k.Ilike i whole is = within_at (at (test_read false left) i whole) (plain_up room inner left)
  follow_at left k.Between i whole is = within_at (at (test_read false left) i whole) (plain_up room inner left)
  follow_at left k.In i whole is = within_at (at (test_read false left) i whole) (plain_up room inner left)
  follow_at left _ i whole is = left_of (at (made left) i whole)

  pub follow_read : (left : Syn) → Sound (Inside near) (r.follow depth expr left) (form.tested room inner left)
  unfolding r.follow
  follow_read left = on_kind (λ kd. r.follow_by depth expr left (r.test_kind kd)) (follow_at left)
