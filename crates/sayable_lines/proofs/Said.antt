-- Expressions that lines can say, by their outermost operator.
use Rattle.std.proofs.Common.{◌≡◌, ℕ, ◌≤◌, nat_lt, Bool, true, List, [], ◌∷◌, ◌++◌, length, map, refl, ap, ◌∙◌, arith}
use Rattle.std.proofs.lemmas.Bool.{and_from, lt-ltb}
use Rattle.std.proofs.lemmas.List.{length-map, length_push}
use Rattle.std.specs.List.{AllByRecursion, list_all}
use Rattle.base_core.specs.declared.value.ArithOp.{ArithOp}
use Rattle.base_core.specs.declared.value.Value.{Value}
use Rattle.expr_types.specs.declared.expr.CompareOp.{CompareOp}
use Rattle.expr_types.specs.declared.expr.Func.{Func}
use Rattle.sql_semantics.specs.Plain.{is_given}
use Rattle.script_types.specs.declared.expression.Syn.{Syn}
use Rattle.script_types.specs.declared.expression.Syn.TheOpen.{Syn-F}
use Rattle.script_types.specs.declared.expression.Syn.TheVariants as e
use Rattle.script_types.specs.declared.expression.SynSource.{SynSource}
use Rattle.script_names.specs.Parts.{operands}
use Rattle.script_names.proofs.Folds as folds
use Rattle.script_resolve.specs.Sayable.{can_stand, is_sayable, sayable_level}
use Rattle.sayable_lines.proofs.Words.{IsGiven}
use Rattle.sayable_lines.proofs.Yields.{each_more}

pub record Said (e : Syn) : Type 0 where
  pub says : is_sayable e ≡ true

-- two or more, each of which lines can say
pub record TwoOrMore (es : List Syn) : Type 0 where
  pub each : AllByRecursion Said es
  pub many : 2 ≤ length es

-- one or more
pub record OneOrMore (es : List Syn) : Type 0 where
  pub each : AllByRecursion Said es
  pub many : 1 ≤ length es

pub one_first : (first : Syn) → Said first → OneOrMore (first ∷ [])
one_first first said = record { each = (said, tt); many = omega arith }

pub one_more : (found : List Syn) (e : Syn) → OneOrMore found → Said e → OneOrMore (found ++ e ∷ [])
one_more found e some said = record { each = each_more Said found e some.each said; many = omega (arith, length_push found e) }

pub several : (found : List Syn) (e : Syn) → OneOrMore found → Said e → TwoOrMore (found ++ e ∷ [])
several found e some said = record { each = each_more Said found e some.each said; many = omega (arith, length_push found e, some.many) }

-- ---- levels

abbrev hold : List Bool → Bool
hold = list_all (λ holds. holds)

level : (e : Syn) (x : Syn-F Bool) → is_sayable e ≡ sayable_level x → can_stand x ≡ true → hold (operands x) ≡ true → Said e
level e x is stands all = record { says = is ∙ and_from (can_stand x) (hold (operands x)) stands all }

one : (e : Syn) → Said e → hold (is_sayable e ∷ []) ≡ true
one e said = and_from (is_sayable e) true said.says refl

two : (e d : Syn) → Said e → Said d → hold (is_sayable e ∷ is_sayable d ∷ []) ≡ true
two e d said also = and_from (is_sayable e) (hold (is_sayable d ∷ [])) said.says (one d also)

three : (e d c : Syn) → Said e → Said d → Said c → hold (is_sayable e ∷ is_sayable d ∷ is_sayable c ∷ []) ≡ true
three e d c said also last = and_from (is_sayable e) (hold (is_sayable d ∷ is_sayable c ∷ [])) said.says (two d c also last)

each : (es : List Syn) → AllByRecursion Said es → hold (map is_sayable es) ≡ true
each [] all = refl
each (e ∷ es) all = and_from (is_sayable e) (hold (map is_sayable es)) all.0.says (each es all.1)

long : (es : List Syn) → 2 ≤ length es → nat_lt 1 (length (map is_sayable es)) ≡ true
long es many = ap (λ n. nat_lt 1 n) (length-map es is_sayable) ∙ lt-ltb 1 (length es) (omega arith)

all_given : (values : List Value) → AllByRecursion IsGiven values → list_all is_given values ≡ true
all_given [] all = refl
all_given (v ∷ values) all = and_from (is_given v) (list_all is_given values) all.0 (all_given values all.1)

pub lit : (v : Value) → IsGiven v → Said (e.Lit v)
unfolding is_sayable
lit v given = level (e.Lit v) (Syn-F.Lit v) (folds.fold-Lit Bool sayable_level v) given refl

pub path : (source column : List ℕ) → Said (e.Path source column)
unfolding is_sayable
path source column = level (e.Path source column) (Syn-F.Path source column) (folds.fold-Path Bool sayable_level source column) refl refl

pub count_all : Said e.CountAll
unfolding is_sayable
count_all = level e.CountAll Syn-F.CountAll (folds.fold-CountAll Bool sayable_level) refl refl

pub call : (f : Func) (es : List Syn) → AllByRecursion Said es → Said (e.Call f es)
unfolding is_sayable
call f es all = level (e.Call f es) (Syn-F.Call f (map is_sayable es)) (folds.fold-Call Bool sayable_level f es) refl (each es all)

pub exists : (source : SynSource) (a : Syn) → Said a → Said (e.Exists source a)
unfolding is_sayable
exists source a said = level (e.Exists source a) (Syn-F.Exists source (is_sayable a)) (folds.fold-Exists Bool sayable_level source a) refl (one a said)

pub compare : (op : CompareOp) (a b : Syn) → Said a → Said b → Said (e.Compare op a b)
unfolding is_sayable
compare op a b said also =
    level (e.Compare op a b) (Syn-F.Compare op (is_sayable a) (is_sayable b)) (folds.fold-Compare Bool sayable_level op a b) refl (two a b said also)

pub is_null : (negated : Bool) (a : Syn) → Said a → Said (e.IsNull negated a)
unfolding is_sayable
is_null negated a said = level (e.IsNull negated a) (Syn-F.IsNull negated (is_sayable a)) (folds.fold-IsNull Bool sayable_level negated a) refl (one a said)

pub like : (negated : Bool) (a b : Syn) → Said a → Said b → Said (e.Like negated a b)
unfolding is_sayable
like negated a b said also =
    level (e.Like negated a b) (Syn-F.Like negated (is_sayable a) (is_sayable b)) (folds.fold-Like Bool sayable_level negated a b) refl (two a b said also)

pub ilike : (negated : Bool) (a b : Syn) → Said a → Said b → Said (e.Ilike negated a b)
unfolding is_sayable
ilike negated a b said also =
    level (e.Ilike negated a b) (Syn-F.Ilike negated (is_sayable a) (is_sayable b)) (folds.fold-Ilike Bool sayable_level negated a b) refl (two a b said also)

pub in_list : (negated : Bool) (a : Syn) (values : List Value) → Said a → AllByRecursion IsGiven values → Said (e.InList negated a values)
unfolding is_sayable
in_list negated a values said given =
    level (e.InList negated a values) (Syn-F.InList negated (is_sayable a) values) (folds.fold-InList Bool sayable_level negated a values) (all_given values given) (one a said)

pub between : (negated : Bool) (a low high : Syn) → Said a → Said low → Said high → Said (e.Between negated a low high)
unfolding is_sayable
between negated a low high said also last =
    level (e.Between negated a low high) (Syn-F.Between negated (is_sayable a) (is_sayable low) (is_sayable high))
    (folds.fold-Between Bool sayable_level negated a low high) refl (three a low high said also last)

pub distinct : (negated : Bool) (a b : Syn) → Said a → Said b → Said (e.Distinct negated a b)
unfolding is_sayable
distinct negated a b said also =
    level (e.Distinct negated a b) (Syn-F.Distinct negated (is_sayable a) (is_sayable b)) (folds.fold-Distinct Bool sayable_level negated a b) refl (two a b said also)

pub and_list : (es : List Syn) → TwoOrMore es → Said (e.And es)
unfolding is_sayable
and_list es some = level (e.And es) (Syn-F.And (map is_sayable es)) (folds.fold-And Bool sayable_level es) (long es some.many) (each es some.each)

pub or_list : (es : List Syn) → TwoOrMore es → Said (e.Or es)
unfolding is_sayable
or_list es some = level (e.Or es) (Syn-F.Or (map is_sayable es)) (folds.fold-Or Bool sayable_level es) (long es some.many) (each es some.each)

pub negation : (a : Syn) → Said a → Said (e.Not a)
unfolding is_sayable
negation a said = level (e.Not a) (Syn-F.Not (is_sayable a)) (folds.fold-Not Bool sayable_level a) refl (one a said)

pub arithmetic : (op : ArithOp) (a b : Syn) → Said a → Said b → Said (e.Arith op a b)
unfolding is_sayable
arithmetic op a b said also = level (e.Arith op a b) (Syn-F.Arith op (is_sayable a) (is_sayable b)) (folds.fold-Arith Bool sayable_level op a b) refl (two a b said also)

pub concat : (a b : Syn) → Said a → Said b → Said (e.Concat a b)
unfolding is_sayable
concat a b said also = level (e.Concat a b) (Syn-F.Concat (is_sayable a) (is_sayable b)) (folds.fold-Concat Bool sayable_level a b) refl (two a b said also)

pub minus : (a : Syn) → Said a → Said (e.Neg a)
unfolding is_sayable
minus a said = level (e.Neg a) (Syn-F.Neg (is_sayable a)) (folds.fold-Neg Bool sayable_level a) refl (one a said)
