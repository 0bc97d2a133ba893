-- What is read of an expression, lines can say.
use Rattle.std.proofs.Common.{ℕ, zero, suc, Bool, true, false, if◌then◌else◌, ◌==◌, List, [], ◌∷◌, Option, Some, None}
use Rattle.std.specs.List.{AllByRecursion}
use Rattle.expr_types.specs.declared.expr.CompareOp.{CompareOp}
use Rattle.expr_types.specs.declared.expr.CompareOp.TheVariants as compare
use Rattle.expr_types.specs.declared.expr.Func.{Func}
use Rattle.expr_types.specs.declared.expr.Func.TheVariants as func
use Rattle.script_types.specs.declared.expression.Syn.{Syn}
use Rattle.script_types.specs.declared.expression.Syn.TheVariants as e
use Rattle.script_lex.specs.declared.kind.Kind.{Kind}
use Rattle.script_lex.specs.declared.kind.Kind.TheVariants as k
use Rattle.script_tokens.specs.Input.{Input, Reader, ◌>>=◌, ◌>>◌, pure, refuse, expect, sees, turns}
use Rattle.script_tokens.specs.Literals as l
use Rattle.script_expr.specs.declared.grammar.Level.{Level}
use Rattle.script_expr.specs.declared.grammar.Level.TheVariants as level
use Rattle.script_expr.specs.declared.expression.Test.{Test}
use Rattle.script_expr.specs.declared.expression.Test.TheVariants as test
use Rattle.script_expr.specs.declared.expression.Joint.{Joint}
use Rattle.script_expr.specs.declared.expression.Joint.TheVariants as joint
use Rattle.script_expr.specs.Expr as r
use Rattle.sayable_lines.proofs.Given.{AreGiven}
use Rattle.sayable_lines.proofs.Yields.{Any, Kept, Yields, link, made, refused, mapped, chosen, peeked, taken, eaten, expected, operated, begun, introduced, separated, listed}
use Rattle.sayable_lines.proofs.Words.{IsGiven, named, literal, literals}
use Rattle.sayable_lines.proofs.Said as said
use Rattle.sayable_lines.proofs.Said.{Said, OneOrMore, TwoOrMore}

-- ---- operands with joints between

joined : (j : Joint) (left right : Syn) → Said left → Said right → Said (r.join_operands j left right)
joined (joint.Arith op) left right one two = said.arithmetic op left right one two
joined joint.Concat left right one two = said.concat left right one two

chained_by : (more : Syn → Reader Syn) → ((left : Syn) → Said left → Yields Said (more left)) → {operand : Reader Syn} → Yields Said operand
    → (left : Syn) → Said left → (o : Option Joint) → Yields Said (r.chained_by more operand left o)
chained_by more goes sub left is None = made left is
chained_by more goes sub left is (Some j) =
    link (link operated (λ _ _. sub)) (λ right also. goes (r.join_operands j left right) (joined j left right is also))

chained : (joint : Kind → Option Joint) {operand : Reader Syn} → Yields Said operand → (n : ℕ) (left : Syn) → Said left → Yields Said (r.chained_from joint operand n left)
unfolding r.chained_from
chained joint sub zero left is = made left is
chained joint {operand = operand} sub (suc n) left is =
    link peeked (λ kind _. chained_by (r.chained_from joint operand n) (λ next also. chained joint sub n next also) sub left is (joint kind))

-- ---- sources, paths, and what a name may begin

pub source : Yields Any r.source
unfolding r.source
source = link named (λ table _. link (introduced k.As named) (λ alias _. made _ tt))

path : (first : List ℕ) → Yields Said (r.path first)
path first = link (expected k.Dot) (λ _ _. link named (λ second _. made (e.Path first second) (said.path first second)))

star_of : (f : Func) → Yields Any (r.star_of f)
star_of func.Count = eaten k.Star
star_of _ = made false tt

takes_all : (f : Func) → Yields Any (r.takes_all f)
unfolding r.takes_all
takes_all f = star_of f

null_by : (op : CompareOp) → Yields Any (r.negated_test k.Null op)
null_by compare.Equal = eaten k.Null
null_by compare.NotEqual = eaten k.Null
null_by _ = made false tt

null_after : (op : CompareOp) → Yields Any (r.null_after op)
unfolding r.null_after
null_after op = null_by op

deeper_by : (b : Bool) (kd : Kind) (i : Input) → AreGiven i.ahead → Kept {A = Unit {0}} Any (if b then refuse i else expect kd i)
deeper_by true kd i given = tt
deeper_by false kd i given = (expected kd).run i given

-- ---- the levels, over those inside

module _ (depth : ℕ) (expr : Level → Reader Syn) (inner : (level : Level) → Yields Said (expr level)) where
  deeper : (kd : Kind) → Yields Any (r.deeper depth expr kd)
  unfolding r.deeper
  deeper kd = record { run = λ i given. deeper_by (depth == 0) kd i given }

  parenthesized : Yields Said (r.parenthesized depth expr)
  unfolding r.parenthesized
  parenthesized = link (deeper k.LParen) (λ _ _. link (inner level.Whole) (λ a is. link (expected k.RParen) (λ _ _. made a is)))

  exists : Yields Said (r.exists depth expr)
  unfolding r.exists
  exists =
      link (deeper k.LParen) (λ _ _. link source (λ from _. link (expected k.Where) (λ _ _. link (inner level.Whole) (λ a is.
      link (expected k.RParen) (λ _ _. made (e.Exists from a) (said.exists from a is))))))

  arguments : Yields (AllByRecursion Said) (r.arguments depth expr)
  unfolding r.arguments
  arguments = listed (inner level.Whole)

  some_call : (f : Func) → Yields Said (r.arguments depth expr >>= (λ found. expect k.RParen >> pure (e.Call f found)))
  some_call f = link arguments (λ found all. link (expected k.RParen) (λ _ _. made (e.Call f found) (said.call f found all)))

  call : (f : Func) → Yields Said (r.call depth expr f)
  unfolding r.call
  call f =
      link (deeper k.LParen) (λ _ _. link (takes_all f) (λ all _.
      chosen all (link (expected k.RParen) (λ _ _. made e.CountAll said.count_all)) (some_call f)))

  called_by : (f : Func) (first : List ℕ) (b : Bool) (i : Input) → AreGiven i.ahead → Kept Said (if b then r.call depth expr f i else r.path first i)
  called_by f first true i given = (call f).run i given
  called_by f first false i given = (path first).run i given

  named_by : (first : List ℕ) (o : Option Func) → Yields Said (r.named_by depth expr first o)
  unfolding r.called
  named_by first (Some f) = record { run = λ i given. called_by f first (sees k.LParen i) i given }
  named_by first None = path first

  by_name : Yields Said (r.named depth expr)
  unfolding r.named
  by_name = link peeked (λ kind _. link named (λ first _. named_by first (r.function kind)))

  otherwise : (kd : Kind) → Yields Said (if l.begins_literal kd then (l.literal >>= (λ x. pure (e.Lit x))) else r.named depth expr)
  otherwise kd = chosen (l.begins_literal kd) (mapped e.Lit literal (λ v given. said.lit v given)) by_name

  atom_by : (kd : Kind) → Yields Said (r.atom_by depth expr kd)
  atom_by k.LParen = parenthesized
  atom_by k.Exists = link taken (λ _ _. exists)
  atom_by kd = otherwise kd

  atom : Yields Said (r.atom depth expr)
  unfolding r.atom
  atom = link peeked (λ kind _. atom_by kind)

  unary_by : (kd : Kind) → Yields Said (r.unary_by depth expr kd)
  unary_by k.Minus = link (deeper k.Minus) (λ _ _. mapped e.Neg (inner level.Unary) (λ a is. said.minus a is))
  unary_by _ = atom

  unary : Yields Said (r.unary depth expr)
  unfolding r.unary
  unary = link peeked (λ kind _. unary_by kind)

  factors : (first : Syn) → Said first → Yields Said (r.factors depth expr first)
  unfolding r.factors
  factors first is = record { run = λ i given. (chained r.product_joint unary (turns i) first is).run i given }

  product : Yields Said (r.product depth expr)
  unfolding r.product
  product = link unary factors

  summands : (first : Syn) → Said first → Yields Said (r.summands depth expr first)
  unfolding r.summands
  summands first is = record { run = λ i given. (chained r.sum_joint product (turns i) first is).run i given }

  sum : Yields Said (r.sum depth expr)
  unfolding r.sum
  sum = link product summands

  -- ---- comparisons

  compared : (op : CompareOp) (left : Syn) → Said left → Yields Said (r.compared depth expr op left)
  unfolding r.compared
  compared op left is =
      link (null_after op) (λ null _. chosen null (made (e.IsNull (r.is_unlike op) left) (said.is_null (r.is_unlike op) left is))
      (mapped (e.Compare op left) sum (λ right also. said.compare op left right is also)))

  distinct : (left : Syn) → Said left → Yields Said (r.distinct depth expr left)
  unfolding r.distinct
  distinct left is =
      link (eaten k.Not) (λ negated _. link (expected k.Distinct) (λ _ _. link (expected k.From) (λ _ _.
      mapped (e.Distinct negated left) sum (λ right also. said.distinct negated left right is also))))

  some_members : Yields (AllByRecursion IsGiven) (l.literals >>= (λ found. expect k.RParen >> pure found))
  some_members = link literals (λ found all. link (expected k.RParen) (λ _ _. made found all))

  members : Yields (AllByRecursion IsGiven) (r.members depth expr)
  unfolding r.members
  members = link (deeper k.LParen) (λ _ _. link (eaten k.RParen) (λ empty _. chosen empty (made [] tt) some_members))

  between : (negated : Bool) (left : Syn) → Said left → Yields Said (r.between depth expr negated left)
  unfolding r.between
  between negated left is =
      link sum (λ low also. link (expected k.And) (λ _ _. mapped (e.Between negated left low) sum (λ high last. said.between negated left low high is also last)))

  liked : (negated : Bool) (left : Syn) → Said left → Yields Said (r.liked depth expr negated left)
  unfolding r.liked
  liked negated left is = mapped (e.Like negated left) sum (λ right also. said.like negated left right is also)

  iliked : (negated : Bool) (left : Syn) → Said left → Yields Said (r.iliked depth expr negated left)
  unfolding r.iliked
  iliked negated left is = mapped (e.Ilike negated left) sum (λ right also. said.ilike negated left right is also)

  among : (negated : Bool) (left : Syn) → Said left → Yields Said (r.among depth expr negated left)
  unfolding r.among
  among negated left is = mapped (e.InList negated left) members (λ values given. said.in_list negated left values is given)

  test_by : (negated : Bool) (left : Syn) → Said left → (kd : Kind) → Yields Said (r.test_by depth expr negated left kd)
  test_by negated left is k.Like = link taken (λ _ _. liked negated left is)
  test_by negated left is k.Ilike = link taken (λ _ _. iliked negated left is)
  test_by negated left is k.Between = link taken (λ _ _. between negated left is)
  test_by negated left is k.In = link taken (λ _ _. among negated left is)
  test_by negated left is _ = refused

  tested : (negated : Bool) (left : Syn) → Said left → Yields Said (r.tested depth expr negated left)
  unfolding r.tested
  tested negated left is = link peeked (λ kind _. test_by negated left is kind)

  follow_by : (left : Syn) → Said left → (t : Test) → Yields Said (r.follow_by depth expr left t)
  follow_by left is (test.Compare op) = link taken (λ _ _. compared op left is)
  follow_by left is test.Distinct = link taken (λ _ _. distinct left is)
  follow_by left is test.Negated = link taken (λ _ _. tested true left is)
  follow_by left is test.Plain = tested false left is
  follow_by left is test.Absent = made left is

  follow : (left : Syn) → Said left → Yields Said (r.follow depth expr left)
  unfolding r.follow
  follow left is = link peeked (λ kind _. follow_by left is (r.test_kind kind))

  comparison : Yields Said (r.comparison depth expr)
  unfolding r.comparison
  comparison = link sum follow

  -- ---- `not`, `and`, `or`

  negation_by : (kd : Kind) → Yields Said (r.negation_by depth expr kd)
  negation_by k.Not = link (deeper k.Not) (λ _ _. mapped e.Not (inner level.Negation) (λ a is. said.negation a is))
  negation_by _ = comparison

  negation : Yields Said (r.negation depth expr)
  unfolding r.negation
  negation = link peeked (λ kind _. negation_by kind)

  conjuncts : (first : Syn) → Said first → Yields TwoOrMore (r.conjuncts depth expr first)
  unfolding r.conjuncts
  conjuncts first is = record {
    run = λ i given. (separated OneOrMore TwoOrMore k.And negation said.one_more said.several (turns i) (first ∷ []) (said.one_first first is)).run i given;
  }

  conjunction : Yields Said (r.conjunction depth expr)
  unfolding r.conjunction
  conjunction =
      link negation (λ first is. link (eaten k.And) (λ more _. chosen more (mapped e.And (conjuncts first is) (λ es some. said.and_list es some)) (made first is)))

  disjuncts : (first : Syn) → Said first → Yields TwoOrMore (r.disjuncts depth expr first)
  unfolding r.disjuncts
  disjuncts first is = record {
    run = λ i given. (separated OneOrMore TwoOrMore k.Or conjunction said.one_more said.several (turns i) (first ∷ []) (said.one_first first is)).run i given;
  }

  disjunction : Yields Said (r.disjunction depth expr)
  unfolding r.disjunction
  disjunction =
      link conjunction (λ first is. link (eaten k.Or) (λ more _. chosen more (mapped e.Or (disjuncts first is) (λ es some. said.or_list es some)) (made first is)))

  at_level : (level : Level) → Yields Said (r.at_level depth expr level)
  at_level level.Whole = disjunction
  at_level level.Negation = negation
  at_level level.Unary = unary

expression : (n : ℕ) (level : Level) → Yields Said (r.expr n level)
unfolding r.expr
expression zero level = refused
expression (suc depth) level = at_level depth (r.expr depth) (expression depth) level

pub whole : Yields Said r.whole
unfolding r.whole
whole = link begun (λ _ _. expression 101 level.Whole)
