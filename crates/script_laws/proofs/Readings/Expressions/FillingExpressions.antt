-- What the forms of expressions say is read: `not`, lists of `and` and `or`, and whole expressions.
use Rattle.std.proofs.Common.{◌≡◌, ◌≢◌, ℕ, zero, suc, ◌≤◌, Bool, true, false, List, ◌++◌, refl}
use Rattle.script_types.specs.declared.expression.Syn.{Syn}
use Rattle.script_types.specs.declared.expression.Syn.TheVariants as e
use Rattle.script_lex.specs.declared.kind.Kind.{Kind}
use Rattle.script_lex.specs.declared.kind.Kind.TheVariants as k
use Rattle.script_lex.specs.declared.token.Token.{Token}
use Rattle.script_tokens.specs.Input.{Reader, first_of}
use Rattle.script_tokens.specs.Names.{is_no_name}
use Rattle.script_expr.specs.declared.grammar.Level.{Level}
use Rattle.script_expr.specs.declared.grammar.Level.TheVariants as level
use Rattle.script_expr.specs.Expr as r
use Rattle.script_laws.specs.Readings.Forms.Form.{Form}
use Rattle.script_laws.specs.Readings.Forms.Expressions as form
use Rattle.script_laws.proofs.Readings.Forms.Taking.{Plain, Around, Inside}
use Rattle.script_laws.proofs.Readings.Forms.Filling.{given, Read, Complete, Opens, always, both, less, made, on_first, then_begun, either, made_opens, first_opens, either_opens}
use Rattle.script_laws.proofs.Readings.Forms.FillingBasics.{Solid}
use Rattle.script_laws.proofs.Readings.Expressions.FillingSteps.{opens_less, solid_of, on_opening, one_or_list_read}
use Rattle.script_laws.proofs.Readings.Expressions.FillingKinds.{begins_sum, begins_expression, sum_begins_expression, ends_comparison, ends_conjunction, ends_expression, conjunction_ends_comparison, expression_ends_conjunction}
use Rattle.script_laws.proofs.Readings.Expressions.FillingAtoms.{Fit, Same, OneMore, nested, nesting_begun, nesting_opens, unary_read}
use Rattle.script_laws.proofs.Readings.Expressions.FillingTests.{comparison_read, comparison_opens}

false_true : false ≡ true → ⊥
false_true e = cc

-- ---- how each level begins

module _ (depth : ℕ) (inner : form.Place → Form Syn) where
  negation_opens : {next : Kind → Bool} → Opens (form.negation depth inner) next begins_expression
  negation_opens = either_opens (first_opens (nesting_opens depth k.Not refl)) (opens_less (comparison_opens depth inner) sum_begins_expression)

  conjunction_opens : {next : Kind → Bool} → Opens (form.conjunction depth inner) next begins_expression
  conjunction_opens = either_opens negation_opens (first_opens (first_opens negation_opens))

  disjunction_opens : {next : Kind → Bool} → Opens (form.disjunction depth inner) next begins_expression
  disjunction_opens = either_opens conjunction_opens (first_opens (first_opens conjunction_opens))

  negation_solid : Solid (form.negation depth inner)
  unfolding is_no_name
  negation_solid = solid_of begins_expression negation_opens refl

  conjunction_solid : Solid (form.conjunction depth inner)
  unfolding is_no_name
  conjunction_solid = solid_of begins_expression conjunction_opens refl

-- ---- where each place ends

abbrev ends : form.Place → Kind → Bool
ends form.Anywhere = ends_expression
ends form.BehindNot = ends_comparison
ends form.BehindMinus = always

abbrev level_of : form.Place → Level
level_of form.Anywhere = level.Whole
level_of form.BehindNot = level.Negation
level_of form.BehindMinus = level.Unary

-- ---- NEG, CONJ, EXPR

module _ (near depth room : ℕ) (fit : Fit near depth room) (inner : form.Place → Form Syn) (expr : Level → Reader Syn)
    (cp : depth ≢ 0 → (place : form.Place) → Complete (Inside near) (ends place) (expr (level_of place)) (inner place)) (begins : Opens (inner form.Anywhere) always begins_expression) where
  sum_kinds : (kd : Kind) → begins_sum kd ≡ true → r.negation_by depth expr kd ≡ r.comparison depth expr
  unfolding is_no_name
  sum_kinds k.Not e = absurd (false_true e)
  sum_kinds _ e = refl

  negation_read : Complete (Inside near) ends_comparison (r.negation depth expr) (form.negation room inner)
  unfolding r.negation
  negation_read =
      either (on_first (r.negation_by depth expr) k.Not (then_begun k.Not (form.nesting_token room k.Not) _ (nesting_begun room k.Not))
      (nested near depth room fit expr k.Not refl (λ some. both (cp some form.BehindNot) (λ x. less (made (e.Not x)) (λ y e. refl)) (λ x. made_opens (e.Not x) (λ y e. e)))))
      (on_opening begins_sum (r.negation_by depth expr) (comparison_opens room inner) sum_kinds
      (comparison_read near depth room fit inner expr (λ some. cp some form.Anywhere) (λ some. cp some form.BehindMinus) begins))

  conjunction_read : Complete (Inside near) ends_conjunction (r.conjunction depth expr) (form.conjunction room inner)
  unfolding r.conjunction r.conjuncts
  conjunction_read =
      one_or_list_read (Inside near) k.And (r.negation depth expr) (form.negation room inner) ends_comparison ends_conjunction negation_read (negation_solid room inner) refl
      conjunction_ends_comparison refl e.And

  disjunction_read : Complete (Inside near) ends_expression (r.disjunction depth expr) (form.disjunction room inner)
  unfolding r.disjunction r.disjuncts
  disjunction_read =
      one_or_list_read (Inside near) k.Or (r.conjunction depth expr) (form.conjunction room inner) ends_conjunction ends_expression conjunction_read (conjunction_solid room inner) refl
      expression_ends_conjunction refl e.Or

  at_read : (place : form.Place) → Complete (Inside near) (ends place) (r.at_level depth expr (level_of place)) (form.at room inner place)
  at_read form.Anywhere = disjunction_read
  at_read form.BehindNot = negation_read
  at_read form.BehindMinus = unary_read near depth room fit inner expr (λ some. cp some form.Anywhere) (λ some. cp some form.BehindMinus) begins

-- ---- expressions in which parentheses, `not` and unary minus nest

nested_opens : (depth : ℕ) → Opens (form.nested_expression depth form.Anywhere) always begins_expression
unfolding form.nested_expression
nested_opens zero = record { run = λ tokens rest count a said stop. absurd said }
nested_opens (suc depth) = disjunction_opens depth (form.nested_expression depth)

nested_read : (depth : ℕ) (place : form.Place) → Complete (Inside 0) (ends place) (r.expr depth (level_of place)) (form.nested_expression depth place)
unfolding r.expr form.nested_expression
nested_read zero place = record { run = λ prefix rest count o a said enough stop. absurd said }
nested_read (suc depth) place =
    at_read 0 depth depth (Same refl) (form.nested_expression depth) (r.expr depth) (λ some. nested_read depth) (nested_opens depth) place

-- a form in which one more may nest
wider_read : (depth : ℕ) (place : form.Place) → Complete (Inside 1) (ends place) (r.expr (suc depth) (level_of place)) (form.nested_expression (suc (suc depth)) place)
unfolding r.expr form.nested_expression
wider_read zero place =
    at_read 1 zero 1 (OneMore 0 refl) (form.nested_expression 1) (r.expr zero) (λ some. absurd (some refl)) (nested_opens 1) place
wider_read (suc depth) place =
    at_read 1 (suc depth) (suc (suc depth)) (OneMore 0 refl) (form.nested_expression (suc (suc depth))) (r.expr (suc depth)) (λ some. wider_read depth)
    (nested_opens (suc (suc depth))) place

-- ---- whole expressions

whole_by : (prefix rest : List Token) (operators : ℕ) (o : ℕ) (a : Syn) → form.nested_expression 101 form.Anywhere prefix operators a → operators ≤ 1000
    → ends_expression (first_of rest).kind ≡ true → Read Plain r.whole (prefix ++ rest) rest 0 o a
unfolding r.whole
whole_by prefix rest operators o a said few stop =
    let read = (nested_read 101 form.Anywhere).run prefix rest operators 1000 a said few stop in
    record { left = read.left; budget = refl; is = given read.is.gives }

pub whole_plain : Complete Plain ends_expression r.whole form.expression
whole_plain = record { run = λ prefix rest count o a said enough stop. let read = whole_by prefix rest said.0 o a said.1 said.2 stop in record { left = read.left; budget = said.3; is = read.is } }

pub expression_opens : {next : Kind → Bool} → Opens form.expression next begins_expression
expression_opens = record { run = λ tokens rest count a said stop. (nested_opens 101).run tokens rest said.0 a said.1 refl }

-- one in which one more may nest than is read
wider_by : (prefix rest : List Token) (operators : ℕ) (o : ℕ) (a : Syn) → form.nested_expression 102 form.Anywhere prefix operators a → operators ≤ 1000
    → ends_expression (first_of rest).kind ≡ true → Read Around r.whole (prefix ++ rest) rest 0 o a
unfolding r.whole
wider_by prefix rest operators o a said few stop =
    let read = (wider_read 100 form.Anywhere).run prefix rest operators 1000 a said few stop in
    record { left = read.left; budget = refl; is = record { gives = read.is.gives } }

pub whole_wider : Complete Around ends_expression r.whole (form.expression_to 101)
whole_wider = record { run = λ prefix rest count o a said enough stop. let read = wider_by prefix rest said.0 o a said.1 said.2 stop in record { left = read.left; budget = said.3; is = read.is } }

pub wider_opens : {next : Kind → Bool} → Opens (form.expression_to 101) next begins_expression
wider_opens = record { run = λ tokens rest count a said stop. (nested_opens 102).run tokens rest said.0 a said.1 refl }
