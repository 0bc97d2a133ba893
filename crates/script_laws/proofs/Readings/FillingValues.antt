-- What the forms of values and terms say is read.
use Rattle.std.proofs.Common.{◌≡◌, ℕ, ◌^◌, nat_lt, Bool, true, false, not, ◌||◌, if◌then◌else◌, List, ◌∷◌, ◌++◌, Some, None, refl, ap, sym, subst, ◌∙◌}
use Rattle.base_core.proofs.Tests.{or_then}
use Rattle.base_core.specs.declared.value.Value.TheVariants as v
use Rattle.script_lex.specs.declared.kind.Kind.{Kind}
use Rattle.script_lex.specs.declared.kind.Kind.TheVariants as k
use Rattle.script_lex.specs.declared.token.Content.TheVariants as content
use Rattle.script_lex.specs.declared.token.Token.{Token}
use Rattle.script_lex.specs.Lex.{same_kind}
use Rattle.script_tokens.specs.Input.{Input, Reader, ◌>>=◌, ◌>>◌, pure, expect, clause, head, next}
use Rattle.script_tokens.specs.Names.{is_no_name}
use Rattle.script_tokens.specs.Literals as l
use Rattle.script_tokens.specs.Literals.{begins_literal}
use Rattle.script_read.specs.Terms as r
use Rattle.script_read.specs.Bindings as b
use Rattle.script_laws.specs.Readings.Forms.Form.{sequence, says, word, maybe}
use Rattle.script_laws.specs.Readings.Forms.Basics as form
use Rattle.script_laws.specs.Readings.Forms.Bindings as bindings
use Rattle.script_laws.specs.Readings.Forms.TopLines as top
use Rattle.script_laws.proofs.Readings.Forms.Taking.{Mode}
use Rattle.script_laws.proofs.Readings.Forms.Steps.{budget_none}
use Rattle.script_laws.proofs.Readings.Forms.Filling.{given, Read, Complete, Opens, always, both, then_any, less, made, expected, introduced, word_opens, first_opens, made_opens, either_opens}
use Rattle.script_laws.proofs.Readings.Forms.FillingBasics.{Solid, named}
use Rattle.script_laws.proofs.Readings.Expressions.FillingSteps.{unlike, only, opens_less, solid_of}
use Rattle.script_laws.proofs.Readings.Expressions.FillingKinds.{is_name}
use Rattle.script_laws.proofs.Readings.Expressions.FillingLiterals.{literal_read, literal_opens, name_opens as any_name_opens}
use Rattle.script_laws.proofs.Readings.Flat.{through, clause_same}
use Rattle.script_laws.proofs.Readings.SomeKinds.{false_true, not_this}
use Rattle.script_laws.proofs.Readings.FillingParts.{instead, word_or}

-- ---- names

pub name_opens : {t : Kind → Bool} → Opens form.name t is_name
name_opens = any_name_opens form.no_words

pub no_name_ends : is_name k.LineEnd ≡ false
unfolding is_no_name
no_name_ends = refl

-- ---- numbers without a minus

int_by : (mode : Mode) (t : Token) (rest : List Token) (o m : ℕ) → t.kind ≡ k.Number → t.content ≡ content.Number m → nat_lt m (2 ^ 63) ≡ true
    → Read mode l.int (t ∷ rest) rest 0 o m
unfolding l.int head next
int_by mode t rest o m is holds fits =
    let i : Input = record { ahead = t ∷ rest; operators = o } in
    record {
      left = o;
      budget = budget_none mode o;
      is = given (ap (λ y. l.int_by (l.whole_number y t.content) i) is ∙ ap (λ y. l.int_by (l.whole_number k.Number y) i) holds ∙ ap (λ b. l.int_by (if b then Some m else None) i) fits);
    }

int_run : (mode : Mode) (prefix rest : List Token) (count o m : ℕ) → form.int prefix count m → Read mode l.int (prefix ++ rest) rest count o m
int_run mode prefix rest count o m said =
    subst (λ ts. Read mode l.int (ts ++ rest) rest count o m) (sym said.1)
    (subst (λ y. Read mode l.int (said.0 ∷ rest) rest y o m) (sym said.5) (int_by mode said.0 rest o m said.2 said.3 said.4))

pub int : {mode : Mode} → Complete mode always l.int form.int
int {mode = mode} = record { run = λ prefix rest count o m said enough stop. int_run mode prefix rest count o m said }

-- ---- values

unfoldable pub begins_value : Kind → Bool
begins_value kd = same_kind kd k.Null || begins_literal kd

pub value : {mode : Mode} → Complete mode always l.value form.value
unfolding l.value
value = word_or k.Null (made v.Null) literal_read (opens_less literal_opens (not_this begins_literal k.Null refl))

literal_value : (y : Kind) → begins_literal y ≡ true → begins_value y ≡ true
unfolding begins_value
literal_value y e = or_then (same_kind y k.Null) (begins_literal y) e

pub value_opens : {t : Kind → Bool} → Opens form.value t begins_value
unfolding begins_value same_kind
value_opens = either_opens (first_opens {h = λ _. says v.Null} (word_opens k.Null refl)) (opens_less literal_opens literal_value)

-- what begins a name begins no value
pub name_no_value : (y : Kind) → is_name y ≡ true → not (begins_value y) ≡ true
unfolding begins_value is_no_name same_kind
name_no_value k.Null e = absurd (false_true e)
name_no_value k.Number e = absurd (false_true e)
name_no_value k.Signed e = absurd (false_true e)
name_no_value k.TextLiteral e = absurd (false_true e)
name_no_value k.BytesLiteral e = absurd (false_true e)
name_no_value k.True e = absurd (false_true e)
name_no_value k.False e = absurd (false_true e)
name_no_value _ e = refl

pub value_solid : Solid form.value
unfolding begins_value same_kind
value_solid = solid_of begins_value value_opens refl

-- ---- terms

abbrev place_reader : Reader ℕ
place_reader = do
  m ← l.int
  expect k.RBracket
  pure m

place_same : (i : Input) → clause k.LBracket place_reader i ≡ r.index i
unfolding r.index
place_same i =
    clause_same k.LBracket place_reader (l.int >>= (λ m. expect k.RBracket >> pure (Some m))) (λ j. through (l.int j) (λ m. expect k.RBracket >> pure m) (λ m. pure (Some m)) (λ m s.
    through (expect k.RBracket s) (λ _. pure m) (λ m. pure (Some m)) (λ _ u. refl))) i

index : {mode : Mode} {t : Kind → Bool} → ((y : Kind) → t y ≡ true → same_kind y k.LBracket ≡ false)
    → Complete mode t r.index (maybe (sequence (word k.LBracket) (λ _. sequence form.int (λ m. sequence (word k.RBracket) (λ _. says m)))))
index none = instead place_same (introduced k.LBracket (less (then_any int (λ m. then_any (expected k.RBracket) (λ _. made m))) (λ y e. refl)) none)

-- a term, where no `[` follows
pub term : {mode : Mode} {t : Kind → Bool} → t k.LBracket ≡ false → Complete mode t r.term form.term
unfolding r.term
term {t = t} out = then_any named (λ called. both (index (unlike t k.LBracket out)) (λ place. less (made _) (λ y e. refl)) (λ place. made_opens _ (λ y e. e)))

pub term_opens : {t : Kind → Bool} → Opens form.term t is_name
term_opens = first_opens name_opens

pub member : {mode : Mode} → Complete mode always r.member bindings.member
unfolding r.member same_kind
member =
    both (term {t = only k.Dot} refl) (λ owner. then_any (expected k.Dot) (λ _. then_any named (λ called. made _))) (λ owner. first_opens (word_opens k.Dot refl))

pub linked : {mode : Mode} {t : Kind → Bool} → t k.LBracket ≡ false → Complete mode t r.member_and_term top.member_and_term
unfolding r.member_and_term
linked out = then_any member (λ owner. both (term out) (λ other. less (made _) (λ y e. refl)) (λ other. made_opens _ (λ y e. e)))

pub cell : {mode : Mode} → Complete mode always b.cell bindings.cell
unfolding b.cell
cell = then_any named (λ attribute. then_any (expected k.Assign) (λ _. then_any value (λ found. made _)))

pub cell_opens : {t : Kind → Bool} → Opens bindings.cell t is_name
cell_opens = first_opens name_opens
