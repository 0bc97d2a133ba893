-- What a form says is read: literals, and the sources of rows.
use Rattle.std.proofs.Common.{◌≡◌, ◌≢◌, ℕ, Bool, true, false, not, if◌then◌else◌, List, ◌∷◌, ◌++◌, drop, Some, Ok, refl, ap, sym, subst, ◌∙◌, inl, inr}
use Rattle.base_core.specs.declared.value.Value.{Value}
use Rattle.script_lex.specs.declared.kind.Kind.{Kind}
use Rattle.script_lex.specs.declared.kind.Kind.TheVariants as k
use Rattle.script_lex.specs.declared.token.Content.{Content}
use Rattle.script_lex.specs.declared.token.Content.TheVariants as content
use Rattle.script_lex.specs.declared.token.Token.{Token}
use Rattle.script_lex.specs.Lex.{same_kind}
use Rattle.script_tokens.proofs.Alike.{same, alike}
use Rattle.script_tokens.specs.Input.{Input, head, next, first_of}
use Rattle.script_tokens.specs.Literals as l
use Rattle.script_tokens.specs.Literals.{literal_in, begins_literal}
use Rattle.script_expr.specs.Expr as r
use Rattle.script_laws.specs.Readings.Forms.Basics as form
use Rattle.script_laws.specs.Readings.Forms.Expressions.{source}
use Rattle.script_laws.proofs.Readings.Forms.Taking.{Mode}
use Rattle.script_laws.proofs.Readings.Forms.Steps.{budget_none}
use Rattle.script_laws.proofs.Readings.Forms.Options.{none_same}
use Rattle.script_laws.proofs.Readings.Forms.Filling.{given, Read, Complete, Opens, always, both, then_any, made, either, introduced, less, made_opens}
use Rattle.script_laws.proofs.Readings.Forms.FillingBasics.{named, Solid}
use Rattle.script_laws.proofs.Readings.Expressions.FillingSteps.{unlike, solid_of}
use Rattle.script_laws.proofs.Readings.Expressions.FillingKinds.{is_name}

false_true : false ≡ true → ⊥
false_true e = cc

-- ---- literals

past_by : (t : Token) (ts : List Token) (o : ℕ) (b : Bool) → same_kind t.kind k.Signed ≡ b
    → l.past_literal (record { ahead = t ∷ ts; operators = o }) ≡ (if b then record { ahead = drop 1 ts; operators = o } else record { ahead = ts; operators = o })
unfolding l.past_literal head next
past_by t ts o b is =
    ap {A = Bool} {B = Input} (λ x. if x then record { ahead = drop 1 ts; operators = o } else record { ahead = ts; operators = o }) is

literal_by : (mode : Mode) (t : Token) (ts rest : List Token) (o : ℕ) (a : Value) → literal_in t.kind t.content ≡ Some a
    → l.past_literal (record { ahead = t ∷ ts; operators = o }) ≡ record { ahead = rest; operators = o } → Read mode l.literal (t ∷ ts) rest 0 o a
unfolding l.literal l.next_literal head
literal_by mode t ts rest o a is past =
    let i : Input = record { ahead = t ∷ ts; operators = o } in
    record { left = o; budget = budget_none mode o; is = given (ap (λ found. l.literal_by found i) is ∙ ap (λ j. Ok (a, j)) past) }

unsigned : (t : Token) (b : Bool) → t.kind ≢ k.Signed → same_kind t.kind k.Signed ≡ b → b ≡ false
unsigned t false other is = refl
unsigned t true other is = absurd (other (same is))

plain_run : (mode : Mode) (prefix rest : List Token) (count o : ℕ) (a : Value) → form.plain_literal prefix count a → Read mode l.literal (prefix ++ rest) rest count o a
plain_run mode prefix rest count o a said =
    let t = said.0 in
    subst (λ ts. Read mode l.literal (ts ++ rest) rest count o a) (sym said.1)
    (subst (λ n. Read mode l.literal (t ∷ rest) rest n o a) (sym said.4)
    (literal_by mode t rest rest o a said.3 (past_by t rest o false (unsigned t (same_kind t.kind k.Signed) said.2 refl))))

signed_run : (mode : Mode) (prefix rest : List Token) (count o : ℕ) (a : Value) → form.signed_literal prefix count a → Read mode l.literal (prefix ++ rest) rest count o a
signed_run mode prefix rest count o a said =
    let t = said.0 in
    let digits = said.1 in
    subst (λ ts. Read mode l.literal (ts ++ rest) rest count o a) (sym said.2)
    (subst (λ n. Read mode l.literal (t ∷ digits ∷ rest) rest n o a) (sym said.5)
    (literal_by mode t (digits ∷ rest) rest o a said.4 (past_by t (digits ∷ rest) o true (alike said.3))))

pub literal_read : {mode : Mode} → Complete mode always l.literal form.literal
literal_read {mode = mode} =
    either (record { run = λ prefix rest count o a said enough stop. plain_run mode prefix rest count o a said })
    (record { run = λ prefix rest count o a said enough stop. signed_run mode prefix rest count o a said })

number_begins : (kd : Kind) (n : ℕ) (v : Value) → l.number_by kd n ≡ Some v → begins_literal kd ≡ true
number_begins k.Number n v e = refl
number_begins k.Signed n v e = refl
number_begins _ n v e = absurd (none_same e)

quoted_begins : (kd : Kind) (found v : Value) → l.quoted_by kd found ≡ Some v → begins_literal kd ≡ true
quoted_begins k.TextLiteral found v e = refl
quoted_begins k.BytesLiteral found v e = refl
quoted_begins _ found v e = absurd (none_same e)

truth_begins : (kd : Kind) (v : Value) → l.truth_by kd ≡ Some v → begins_literal kd ≡ true
truth_begins k.True v e = refl
truth_begins k.False v e = refl
truth_begins _ v e = absurd (none_same e)

literal_begins : (kd : Kind) (held : Content) (v : Value) → literal_in kd held ≡ Some v → begins_literal kd ≡ true
literal_begins kd (content.Number n) v e = number_begins kd n v e
literal_begins kd (content.Literal found) v e = quoted_begins kd found v e
literal_begins kd (content.Name word) v e = truth_begins kd v e
literal_begins kd content.Nothing v e = absurd (none_same e)

literal_opens_by : (tokens rest : List Token) (count : ℕ) (a : Value) → form.literal tokens count a → begins_literal (first_of (tokens ++ rest)).kind ≡ true
literal_opens_by tokens rest count a (inl said) =
    subst (λ ts. begins_literal (first_of (ts ++ rest)).kind ≡ true) (sym said.1) (literal_begins said.0.kind said.0.content a said.3)
literal_opens_by tokens rest count a (inr said) =
    subst (λ ts. begins_literal (first_of (ts ++ rest)).kind ≡ true) (sym said.2) (literal_begins said.0.kind said.0.content a said.4)

pub literal_opens : {next : Kind → Bool} → Opens form.literal next begins_literal
literal_opens = record { run = λ tokens rest count a said stop. literal_opens_by tokens rest count a said }

pub literal_solid : Solid form.literal
literal_solid = solid_of begins_literal literal_opens refl

-- ---- names

name_opens_by : (excluded : Kind → Bool) (tokens rest : List Token) (count : ℕ) (found : List ℕ) → form.name_but excluded tokens count found
    → is_name (first_of (tokens ++ rest)).kind ≡ true
name_opens_by excluded tokens rest count found said =
    subst (λ ts. is_name (first_of (ts ++ rest)).kind ≡ true) (sym said.1) (ap not said.3)

pub name_opens : (excluded : Kind → Bool) {next : Kind → Bool} → Opens (form.name_but excluded) next is_name
name_opens excluded = record { run = λ tokens rest count found said stop. name_opens_by excluded tokens rest count found said }

-- ---- sources

-- behind the name of a source no other is given
abbrev pub ends_source : Kind → Bool
ends_source k.As = false
ends_source _ = true

ends_no_as : (y : Kind) → ends_source y ≡ true → same_kind y k.As ≡ false
ends_no_as y e = unlike ends_source k.As refl y e

pub source_read : {mode : Mode} → Complete mode ends_source r.source source
unfolding r.source
source_read =
    then_any named (λ table. both (introduced k.As (less named (λ y e. refl)) ends_no_as) (λ alias. less (made _) (λ y e. refl)) (λ alias. made_opens _ (λ y e. e)))
