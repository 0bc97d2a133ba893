-- Expressions. A binary operator groups to the left.
use Rattle.std.specs.Prelude.{ℕ, zero, suc, Bool, true, false, if◌then◌else◌, ◌==◌, List, [], ◌∷◌, Option, Some, None, Ok}
use Rattle.base_core.specs.declared.value.Value.{Value}
use Rattle.base_core.specs.declared.value.ArithOp.{ArithOp}
use Rattle.base_core.specs.declared.value.ArithOp.TheVariants as arith
use Rattle.expr_types.specs.declared.expr.CompareOp.{CompareOp}
use Rattle.expr_types.specs.declared.expr.CompareOp.TheVariants as compare
use Rattle.expr_types.specs.declared.expr.Func.{Func}
use Rattle.expr_types.specs.declared.expr.Func.TheVariants as func
use Rattle.script_types.specs.declared.expression.Syn.{Syn}
use Rattle.script_types.specs.declared.expression.Syn.TheVariants as e
use Rattle.script_types.specs.declared.expression.SynSource.{SynSource}
use Rattle.script_lex.specs.declared.kind.Kind.{Kind}
use Rattle.script_lex.specs.declared.kind.Kind.TheVariants as k
use Rattle.script_lex.specs.Lex.{same_kind}
use Rattle.script_expr.specs.declared.grammar.Level.{Level}
use Rattle.script_expr.specs.declared.grammar.Level.TheVariants as level
use Rattle.script_expr.specs.declared.expression.Test.{Test}
use Rattle.script_expr.specs.declared.expression.Test.TheVariants as test
use Rattle.script_expr.specs.declared.expression.Joint.{Joint}
use Rattle.script_expr.specs.declared.expression.Joint.TheVariants as joint
use Rattle.script_tokens.specs.Input.{Reader, ◌>>=◌, ◌>>◌, ◌<$>◌, pure, refuse, peek, take_token, eat, expect, clause, sees, turns, comma_list, separated_from, operator, fresh}
use Rattle.script_tokens.specs.Names.{name}
use Rattle.script_tokens.specs.Literals.{literal, literals, begins_literal}

abbrev pub function : Kind → Option Func
function k.Count = Some func.Count
function k.Sum = Some func.Sum
function k.Min = Some func.Min
function k.Max = Some func.Max
function k.Lower = Some func.Lower
function k.Upper = Some func.Upper
function k.Length = Some func.Length
function k.Coalesce = Some func.Coalesce
function _ = None

-- what may follow the first sum of a comparison
abbrev pub test_kind : Kind → Test
test_kind k.Equal = test.Compare compare.Equal
test_kind k.NotEqual = test.Compare compare.NotEqual
test_kind k.Less = test.Compare compare.Less
test_kind k.LessEqual = test.Compare compare.LessEqual
test_kind k.Greater = test.Compare compare.Greater
test_kind k.GreaterEqual = test.Compare compare.GreaterEqual
test_kind k.Is = test.Distinct
test_kind k.Not = test.Negated
test_kind k.Like = test.Plain
test_kind k.Ilike = test.Plain
test_kind k.Between = test.Plain
test_kind k.In = test.Plain
test_kind _ = test.Absent

-- what joins two summands. A minus before digits is an operator here.
abbrev pub sum_joint : Kind → Option Joint
sum_joint k.Plus = Some (joint.Arith arith.Add)
sum_joint k.Minus = Some (joint.Arith arith.Sub)
sum_joint k.Signed = Some (joint.Arith arith.Sub)
sum_joint k.Concat = Some joint.Concat
sum_joint _ = None

-- what joins two factors
abbrev pub product_joint : Kind → Option Joint
product_joint k.Star = Some (joint.Arith arith.Mul)
product_joint _ = None

abbrev pub join_operands : Joint → Syn → Syn → Syn
join_operands (joint.Arith op) left right = e.Arith op left right
join_operands joint.Concat left right = e.Concat left right

-- an operand and the joints and operands that follow it, grouped to the left
abbrev pub chained_by : (Syn → Reader Syn) → Reader Syn → Syn → Option Joint → Reader Syn
chained_by more operand left None = pure left
chained_by more operand left (Some joint) = operator >> operand >>= (λ right. more (join_operands joint left right))

unfoldable pub chained_from : (Kind → Option Joint) → Reader Syn → ℕ → Syn → Reader Syn
chained_from joint operand zero left = pure left
chained_from joint operand (suc n) left = peek >>= (λ kind. chained_by (chained_from joint operand n) operand left (joint kind))

-- `a as b`, a source of rows
unfoldable pub source : Reader SynSource
source = do
  table ← name
  alias ← clause k.As name
  pure (record { table = table; alias = alias })

abbrev pub negated_test : Kind → CompareOp → Reader Bool
negated_test word compare.Equal = eat word
negated_test word compare.NotEqual = eat word
negated_test word _ = pure false

-- `null` after `==` or `!=`
unfoldable pub null_after : CompareOp → Reader Bool
null_after = negated_test k.Null

abbrev pub is_unlike : CompareOp → Bool
is_unlike compare.NotEqual = true
is_unlike _ = false

-- after the first name
abbrev pub path : List ℕ → Reader Syn
path first = do
  expect k.Dot
  second ← name
  pure (e.Path first second)

abbrev pub star_of : Func → Reader Bool
star_of func.Count = eat k.Star
star_of _ = pure false

-- `*` in `count(*)`
unfoldable pub takes_all : Func → Reader Bool
takes_all f = star_of f

-- where the operand behind `not` and behind a minus stands
abbrev pub operand_level : Kind → Level
operand_level k.Not = level.Negation
operand_level k.Minus = level.Unary
operand_level _ = level.Whole

-- the literals of a list behind its opening parenthesis, to its closing one
abbrev pub listed : Reader (List Value)
listed = do
  is_empty ← eat k.RParen
  if is_empty then pure [] else (do found ← literals; expect k.RParen; pure found)

-- The number says how many more of parentheses, `not` and unary minus may nest, and the reader reads an expression inside one.
module _ (depth : ℕ) (expr : Level → Reader Syn) where
  -- a token that nests, where one more may
  unfoldable pub deeper : Kind → Reader (Unit {0})
  deeper kind = λ i. if depth == 0 then refuse i else expect kind i

  unfoldable pub parenthesized : Reader Syn
  parenthesized = do
    deeper k.LParen
    inner ← expr level.Whole
    expect k.RParen
    pure inner

  -- after `exists`
  unfoldable pub exists : Reader Syn
  exists = do
    deeper k.LParen
    from ← source
    expect k.Where
    inner ← expr level.Whole
    expect k.RParen
    pure (e.Exists from inner)

  unfoldable pub arguments : Reader (List Syn)
  arguments = comma_list (expr level.Whole)

  -- after the function's name
  unfoldable pub call : Func → Reader Syn
  call f = do
    deeper k.LParen
    is_all ← takes_all f
    if is_all then expect k.RParen >> pure e.CountAll else (do found ← arguments; expect k.RParen; pure (e.Call f found))

  -- after the name of a function, which may be that of a source
  unfoldable pub called : Func → List ℕ → Reader Syn
  called f first = λ i. if sees k.LParen i then call f i else path first i

  abbrev pub named_by : List ℕ → Option Func → Reader Syn
  named_by first (Some f) = called f first
  named_by first None = path first

  -- a call of a function, or a source and its column
  unfoldable pub named : Reader Syn
  named = do
    kind ← peek
    first ← name
    named_by first (function kind)

  abbrev pub atom_by : Kind → Reader Syn
  atom_by k.LParen = parenthesized
  atom_by k.Exists = take_token >> exists
  atom_by kind = if begins_literal kind then e.Lit <$> literal else named

  unfoldable pub atom : Reader Syn
  atom = peek >>= atom_by

  abbrev pub unary_by : Kind → Reader Syn
  unary_by k.Minus = deeper k.Minus >> e.Neg <$> expr level.Unary
  unary_by _ = atom

  unfoldable pub unary : Reader Syn
  unary = peek >>= unary_by

  -- a factor, and those that follow it
  unfoldable pub factors : Syn → Reader Syn
  factors first = λ i. chained_from product_joint unary (turns i) first i

  unfoldable pub product : Reader Syn
  product = unary >>= factors

  -- a summand, and those that follow it
  unfoldable pub summands : Syn → Reader Syn
  summands first = λ i. chained_from sum_joint product (turns i) first i

  unfoldable pub sum : Reader Syn
  sum = product >>= summands

  -- after a comparison's operator
  unfoldable pub compared : CompareOp → Syn → Reader Syn
  compared op left = do
    is_null ← null_after op
    if is_null then pure (e.IsNull (is_unlike op) left) else e.Compare op left <$> sum

  -- after `is`
  unfoldable pub distinct : Syn → Reader Syn
  distinct left = do
    negated ← eat k.Not
    expect k.Distinct
    expect k.From
    e.Distinct negated left <$> sum

  -- the list after `in`
  unfoldable pub members : Reader (List Value)
  members = do
    deeper k.LParen
    is_empty ← eat k.RParen
    if is_empty then pure [] else (do found ← literals; expect k.RParen; pure found)

  -- after `between`
  unfoldable pub between : Bool → Syn → Reader Syn
  between negated left = do
    low ← sum
    expect k.And
    e.Between negated left low <$> sum

  -- after `like`
  unfoldable pub liked : Bool → Syn → Reader Syn
  liked negated left = e.Like negated left <$> sum

  -- after `ilike`
  unfoldable pub iliked : Bool → Syn → Reader Syn
  iliked negated left = e.Ilike negated left <$> sum

  -- after `in`
  unfoldable pub among : Bool → Syn → Reader Syn
  among negated left = e.InList negated left <$> members

  abbrev pub test_by : Bool → Syn → Kind → Reader Syn
  test_by negated left k.Like = take_token >> liked negated left
  test_by negated left k.Ilike = take_token >> iliked negated left
  test_by negated left k.Between = take_token >> between negated left
  test_by negated left k.In = take_token >> among negated left
  test_by negated left _ = refuse

  -- a test that `not` may stand before
  unfoldable pub tested : Bool → Syn → Reader Syn
  tested negated left = peek >>= test_by negated left

  abbrev pub follow_by : Syn → Test → Reader Syn
  follow_by left (test.Compare op) = take_token >> compared op left
  follow_by left test.Distinct = take_token >> distinct left
  follow_by left test.Negated = take_token >> tested true left
  follow_by left test.Plain = tested false left
  follow_by left test.Absent = pure left

  -- what follows the first sum of a comparison
  unfoldable pub follow : Syn → Reader Syn
  follow left = peek >>= (λ kind. follow_by left (test_kind kind))

  unfoldable pub comparison : Reader Syn
  comparison = sum >>= follow

  abbrev pub negation_by : Kind → Reader Syn
  negation_by k.Not = deeper k.Not >> e.Not <$> expr level.Negation
  negation_by _ = comparison

  unfoldable pub negation : Reader Syn
  negation = peek >>= negation_by

  -- the parts of an `and` list after the first
  unfoldable pub conjuncts : Syn → Reader (List Syn)
  conjuncts first = λ i. separated_from k.And negation (turns i) (first ∷ []) i

  unfoldable pub conjunction : Reader Syn
  conjunction = do
    first ← negation
    more ← eat k.And
    if more then e.And <$> conjuncts first else pure first

  -- the parts of an `or` list after the first
  unfoldable pub disjuncts : Syn → Reader (List Syn)
  disjuncts first = λ i. separated_from k.Or conjunction (turns i) (first ∷ []) i

  unfoldable pub disjunction : Reader Syn
  disjunction = do
    first ← conjunction
    more ← eat k.Or
    if more then e.Or <$> disjuncts first else pure first

  abbrev pub at_level : Level → Reader Syn
  at_level level.Whole = disjunction
  at_level level.Negation = negation
  at_level level.Unary = unary

-- with less than this number of parentheses, `not` and unary minus nested
unfoldable pub expr : ℕ → Level → Reader Syn
expr zero level = refuse
expr (suc depth) level = at_level depth (expr depth) level

-- how many of parentheses, `not` and unary minus may nest
abbrev pub most_nested : ℕ
most_nested = 100

-- a whole expression, with a count of its own
unfoldable pub whole : Reader Syn
whole = fresh >> expr 101 level.Whole
