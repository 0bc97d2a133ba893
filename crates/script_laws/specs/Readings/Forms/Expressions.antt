-- Expressions, by their levels from the loosest to the tightest.
use Rattle.std.specs.Prelude.{◌≡◌, ◌≢◌, ◌≤◌, ℕ, zero, suc, true, false, List, [], ◌∷◌}
use Rattle.base_core.specs.declared.value.Value.{Value}
use Rattle.base_core.specs.declared.value.ArithOp.TheVariants as arith
use Rattle.expr_types.specs.declared.expr.CompareOp.{CompareOp}
use Rattle.expr_types.specs.declared.expr.CompareOp.TheVariants as compare
use Rattle.expr_types.specs.declared.expr.Func.{Func}
use Rattle.expr_types.specs.declared.expr.Func.TheVariants as func
use Rattle.script_types.specs.declared.expression.Syn.{Syn}
use Rattle.script_types.specs.declared.expression.Syn.TheVariants as e
use Rattle.script_types.specs.declared.expression.SynSource.{SynSource}
use Rattle.script_lex.specs.declared.kind.Kind.{Kind}
use Rattle.script_lex.specs.declared.kind.Kind.TheVariants as k
use Rattle.script_lex.specs.declared.token.Token.{Token}
use Rattle.script_laws.specs.Readings.Forms.Form.{Form, Both, ◌>>=◌, ◌>>◌, ◌<$>◌, ◌or◌, says, word, maybe, whether, separated_list}
use Rattle.script_laws.specs.Readings.Forms.Basics.{name, literal}

-- ---- parts of forms

-- no tokens say anything
abbrev pub no_form : {A : Type 0} → Form A
no_form tokens count found = ⊥

-- any number of items, also none
abbrev pub many : {A : Type 0} → Form A → Form (List A)
many item tokens count [] = (tokens ≡ []) × (count ≡ 0)
many item tokens count (a ∷ more) = Both (λ ts n. item ts n a) (λ ts n. many item ts n more) tokens count

-- two items or more, with this word between
abbrev pub several : {A : Type 0} → Kind → Form A → Form (List A)
several mark item = do
  first ← item
  word mark
  more ← separated_list mark item
  says (first ∷ more)

-- one token of this kind, which is one of the operators that are counted
abbrev pub operator : Kind → Form (Unit {0})
operator kind tokens count _ = (t : Token) × (tokens ≡ t ∷ []) × (t.kind ≡ kind) × (count ≡ 1)

-- one token of this kind, behind which an expression stands one deeper, where that may be
abbrev pub nesting_token : ℕ → Kind → Form (Unit {0})
nesting_token depth kind tokens count _ = (t : Token) × (tokens ≡ t ∷ []) × (t.kind ≡ kind) × (depth ≢ 0) × (count ≡ 0)

-- ---- operators

-- what stands between two operands that are grouped to the left
pub data Joint : Type 0 where
  Plus : Joint
  Minus : Joint
  Times : Joint
  Beside : Joint

abbrev pub operation_of : Joint → Syn → Syn → Syn
operation_of Plus left right = e.Arith arith.Add left right
operation_of Minus left right = e.Arith arith.Sub left right
operation_of Times left right = e.Arith arith.Mul left right
operation_of Beside left right = e.Concat left right

-- an operand and those behind it, grouped to the left
abbrev pub left_association : Syn → List (Joint × Syn) → Syn
left_association left [] = left
left_association left (next ∷ more) = left_association (operation_of next.0 left next.1) more

-- `+`, `-`, `||`; a minus directly before a digit is one too where an operator may stand
abbrev pub sum_joint : Form Joint
sum_joint = (operator k.Plus >> says Plus) or (operator k.Minus >> says Minus) or (operator k.Signed >> says Minus) or (operator k.Concat >> says Beside)

-- `*`
abbrev pub product_joint : Form Joint
product_joint = operator k.Star >> says Times

-- an operand, and those that joints put behind it
abbrev pub chain : Form Joint → Form Syn → Form Syn
chain joint operand = do
  first ← operand
  more ← many (do by ← joint; right ← operand; says (by, right))
  says (left_association first more)

-- one operand, or a list of them
abbrev pub one_or_list : Kind → (List Syn → Syn) → Form Syn → Form Syn
one_or_list mark list operand = operand or (list <$> several mark operand)

-- `==`, `!=`, `<`, `<=`, `>`, `>=`
abbrev pub comparison_sign : Form CompareOp
comparison_sign =
    (word k.Equal >> says compare.Equal)
    or (word k.NotEqual >> says compare.NotEqual)
    or (word k.Less >> says compare.Less)
    or (word k.LessEqual >> says compare.LessEqual)
    or (word k.Greater >> says compare.Greater)
    or (word k.GreaterEqual >> says compare.GreaterEqual)

-- one of the words of the language that may also be names
abbrev pub free_word : Kind → Form (Unit {0})
free_word kind tokens count found = word kind tokens count found × ((bytes : List ℕ) × name tokens count bytes)

-- FN: `count`, `sum`, `min`, `max`, `lower`, `upper`, `length`, `coalesce`
abbrev pub function : Form Func
function =
    (free_word k.Count >> says func.Count)
    or (free_word k.Sum >> says func.Sum)
    or (free_word k.Min >> says func.Min)
    or (free_word k.Max >> says func.Max)
    or (free_word k.Lower >> says func.Lower)
    or (free_word k.Upper >> says func.Upper)
    or (free_word k.Length >> says func.Length)
    or (free_word k.Coalesce >> says func.Coalesce)

-- SRC: `NAME [as NAME]`
abbrev pub source : Form SynSource
source = do
  table ← name
  alias ← maybe (word k.As >> name)
  says (record { table = table; alias = alias })

-- ---- levels

-- where an expression stands: anywhere, behind `not`, or behind a unary minus
pub data Place : Type 0 where
  Anywhere : Place
  BehindNot : Place
  BehindMinus : Place

-- The number says how many more of parentheses, `not` and unary minus may nest, and the form is that of an expression inside one.
module _ (depth : ℕ) (inner : Place → Form Syn) where
  -- `(EXPR)`
  abbrev pub parenthesized : Form Syn
  parenthesized = do
    nesting_token depth k.LParen
    found ← inner Anywhere
    word k.RParen
    says found

  -- `exists (SRC where EXPR)`
  abbrev pub existence : Form Syn
  existence = do
    word k.Exists
    nesting_token depth k.LParen
    from ← source
    word k.Where
    found ← inner Anywhere
    word k.RParen
    says (e.Exists from found)

  -- `count(*)`
  abbrev pub count_all : Form Syn
  count_all = do
    free_word k.Count
    nesting_token depth k.LParen
    word k.Star
    word k.RParen
    says e.CountAll

  -- `FN(EXPR {, EXPR})`
  abbrev pub call : Form Syn
  call = do
    called ← function
    nesting_token depth k.LParen
    found ← separated_list k.Comma (inner Anywhere)
    word k.RParen
    says (e.Call called found)

  -- `NAME.NAME`
  abbrev pub path : Form Syn
  path = do
    first ← name
    word k.Dot
    second ← name
    says (e.Path first second)

  -- ATOM
  abbrev pub atom : Form Syn
  atom = (e.Lit <$> literal) or path or count_all or call or existence or parenthesized

  -- UN: `- UN`, or ATOM
  abbrev pub unary : Form Syn
  unary = (nesting_token depth k.Minus >> e.Neg <$> inner BehindMinus) or atom

  -- PROD: `UN {* UN}`
  abbrev pub product : Form Syn
  product = chain product_joint unary

  -- SUM: `PROD {(+ | - | ||) PROD}`
  abbrev pub sum : Form Syn
  sum = chain sum_joint product

  -- `([LIT {, LIT}])`
  abbrev pub members : Form (List Value)
  members = do
    nesting_token depth k.LParen
    found ← separated_list k.Comma literal or says []
    word k.RParen
    says found

  -- what may stand behind the first sum of a comparison
  abbrev pub tested : Syn → Form Syn
  tested left =
      says left
      or (do by ← comparison_sign; right ← sum; says (e.Compare by left right))
      or (word k.Equal >> word k.Null >> says (e.IsNull false left))
      or (word k.NotEqual >> word k.Null >> says (e.IsNull true left))
      or (do negated ← whether (word k.Not); word k.Like; right ← sum; says (e.Like negated left right))
      or (do negated ← whether (word k.Not); word k.Ilike; right ← sum; says (e.Ilike negated left right))
      or (do negated ← whether (word k.Not); word k.In; found ← members; says (e.InList negated left found))
      or (do negated ← whether (word k.Not); word k.Between; low ← sum; word k.And; high ← sum; says (e.Between negated left low high))
      or (do word k.Is; negated ← whether (word k.Not); word k.Distinct; word k.From; right ← sum; says (e.Distinct negated left right))

  -- CMP
  abbrev pub comparison : Form Syn
  comparison = sum >>= tested

  -- NEG: `not NEG`, or CMP
  abbrev pub negation : Form Syn
  negation = (nesting_token depth k.Not >> e.Not <$> inner BehindNot) or comparison

  -- CONJ: `NEG {and NEG}`
  abbrev pub conjunction : Form Syn
  conjunction = one_or_list k.And e.And negation

  -- EXPR: `CONJ {or CONJ}`
  abbrev pub disjunction : Form Syn
  disjunction = one_or_list k.Or e.Or conjunction

  abbrev pub at : Place → Form Syn
  at Anywhere = disjunction
  at BehindNot = negation
  at BehindMinus = unary

-- an expression in which less than this number of parentheses, `not` and unary minus nest
unfoldable pub nested_expression : ℕ → Place → Form Syn
nested_expression zero place = no_form
nested_expression (suc depth) place = at depth (nested_expression depth) place

-- an expression of its own: at most this number of parentheses, `not` and unary minus nest, and it has at most 1000 of `+ - || *`
abbrev pub expression_to : ℕ → Form Syn
expression_to most tokens count found = (operators : ℕ) × nested_expression (suc most) Anywhere tokens operators found × (operators ≤ 1000) × (count ≡ 0)

-- EXPR: at most 100 nest
abbrev pub expression : Form Syn
expression = expression_to 100
