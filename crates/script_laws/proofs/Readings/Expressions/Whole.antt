-- Whole expressions are read as their form says.
use Rattle.std.proofs.Common.{ℕ, suc, List, Ok, Err, refl, arith}
use Rattle.script_types.specs.declared.expression.Syn.{Syn}
use Rattle.script_lex.specs.declared.token.Token.{Token}
use Rattle.script_tokens.specs.declared.fault.Fault.{Fault}
use Rattle.script_tokens.specs.Input.{Input, Outcome}
use Rattle.script_expr.specs.declared.grammar.Level.TheVariants as level
use Rattle.script_expr.specs.Expr as r
use Rattle.script_laws.specs.Readings.Forms.Expressions.{Anywhere, nested_expression, expression, expression_to}
use Rattle.script_laws.proofs.Readings.Forms.Taking.{Mode, Plain, Around, Inside, Budget, Enough, Stands, Here, TooDeep, Completed, Took, Kept, Sound, Inhabited}
use Rattle.script_laws.proofs.Readings.Expressions.Levels.{nested_read, wider_read, some_nested}

-- an expression with a count of its own
abbrev counted : Input → Input
counted i = record i { operators = 1000 }

-- what a whole expression took inside took so outside
taken : (c : Mode) (most near : ℕ) (i : Input) (p : Syn) (j : Input) → Budget c 0 i.operators j.operators → Took (Inside near) (nested_expression (suc most) Anywhere) (counted i) p j
    → Took c (expression_to most) i p j
taken c most near i p j budget t = record { prefix = t.prefix; count = 0; joined = t.joined; budget = budget; said = (t.count, t.said, omega (arith, t.budget), refl) }

completed : (c : Mode) (most near : ℕ) (before : List Token) (o : ℕ) → Enough c 0 o → Completed (Inside near) (nested_expression (suc most) Anywhere) before 1000
    → Completed c (expression_to most) before o
completed c most near before o enough done =
    record { more = done.more; count = 0; value = done.value; enough = enough; said = (done.count, done.said, done.enough, refl) }

around_stands : (behind : List Token) (e : Fault) → Stands (Inside 0) behind e → Stands Around behind e
around_stands behind e (Here at) = Here at
around_stands behind e (TooDeep tight t after split wants at) = TooDeep tt t after split wants at

around : (i : Input) (out : Outcome Syn) → Kept (Inside 0) (nested_expression 101 Anywhere) (counted i) out → Kept Around expression i out
around i (Ok p) t = taken Around 100 0 i p.0 p.1 refl t
around i (Err e) r = record {
  before = r.before;
  behind = r.behind;
  joined = r.joined;
  done = completed Around 100 0 r.before i.operators refl r.done;
  stands = around_stands r.behind e r.stands;
}

pub whole_sound : Sound Around r.whole expression
unfolding r.whole
whole_sound = record { run = λ i whole. around i (r.expr 101 level.Whole (counted i)) ((nested_read 100 level.Whole).run (counted i) whole) }

-- where one more may nest than is read, whatever is refused ends a viable prefix
wide_stands : (behind : List Token) (e : Fault) → Stands (Inside 1) behind e → Stands Plain behind e
wide_stands behind e (Here at) = Here at
wide_stands behind e (TooDeep tight t after split wants at) = absurd (omega (arith, tight))

wide : (i : Input) (out : Outcome Syn) → Kept (Inside 1) (nested_expression 102 Anywhere) (counted i) out → Kept Plain (expression_to 101) i out
wide i (Ok p) t = taken Plain 101 1 i p.0 p.1 refl t
wide i (Err e) r = record {
  before = r.before;
  behind = r.behind;
  joined = r.joined;
  done = completed Plain 101 1 r.before i.operators refl r.done;
  stands = wide_stands r.behind e r.stands;
}

pub wider_sound : Sound Plain r.whole (expression_to 101)
unfolding r.whole
wider_sound = record { run = λ i whole. wide i (r.expr 101 level.Whole (counted i)) ((wider_read 100 level.Whole).run (counted i) whole) }

pub some_expression_to : (most : ℕ) → Inhabited (expression_to most)
some_expression_to most =
    let some = some_nested most Anywhere in
    record { tokens = some.tokens; value = some.value; said = (0, some.said, omega arith, refl) }
