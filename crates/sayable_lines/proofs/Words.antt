-- Names, numbers and literals are read: no literal is NULL, and a number is less than 2^63.
use Rattle.std.proofs.Common.{◌≡◌, ℕ, ◌^◌, nat_lt, nat_le, pos, neg_ℤ, Bool, true, false, if◌then◌else◌, List, Option, Some, None, refl}
use Rattle.std.specs.List.{AllByRecursion}
use Rattle.base_core.specs.declared.value.Value.{Value}
use Rattle.base_core.specs.declared.value.Value.TheVariants as v
use Rattle.sql_semantics.specs.Plain.{is_given}
use Rattle.script_lex.specs.declared.kind.Kind.{Kind}
use Rattle.script_lex.specs.declared.kind.Kind.TheVariants as k
use Rattle.script_lex.specs.declared.token.Content.{Content}
use Rattle.script_lex.specs.declared.token.Content.TheVariants.{Name, Nothing, Number, Literal}
use Rattle.script_lex.specs.Lex.{same_kind}
use Rattle.script_tokens.specs.Input.{Input, head, kind, next}
use Rattle.script_tokens.specs.Names as n
use Rattle.script_tokens.specs.Literals as l
use Rattle.sayable_lines.proofs.Given.{AreGiven, holds_given, rest_given, first_given}
use Rattle.sayable_lines.proofs.Yields.{Any, IfAny, Kept, Yields, link, made, chosen, loosened, eaten, expected, listed}

-- ---- names

named_by : (o : Option (List ℕ)) (i : Input) → AreGiven i.ahead → Kept Any (n.named_by o i)
unfolding next
named_by None i given = tt
named_by (Some found) i given = (tt, rest_given i.ahead given)

pub named : Yields Any n.name
unfolding n.name
named = record { run = λ i given. named_by (n.next_name i) i given }

pub names : Yields Any n.names
unfolding n.names
names = link (expected k.LParen) (λ _ _. link (listed named) (λ found _. link (expected k.RParen) (λ _ _. made found tt)))

-- ---- numbers

-- within 64 bits with a sign
abbrev pub IsSmall : ℕ → Type 0
IsSmall count = nat_lt count (2 ^ 63) ≡ true

small_by : (count : ℕ) (b : Bool) → nat_lt count (2 ^ 63) ≡ b → IfAny IsSmall (if b then Some count else None)
small_by count true is = is
small_by count false is = tt

small : (kd : Kind) (content : Content) → IfAny IsSmall (l.whole_number kd content)
small k.Number (Number count) = small_by count (nat_lt count (2 ^ 63)) refl
small k.Number _ = tt
small _ content = tt

counted_by : (o : Option ℕ) → IfAny IsSmall o → (i : Input) → AreGiven i.ahead → Kept IsSmall (l.int_by o i)
unfolding next
counted_by None is i given = tt
counted_by (Some count) is i given = (is, rest_given i.ahead given)

pub counted : Yields IsSmall l.int
unfolding l.int
counted = record { run = λ i given. counted_by (l.whole_number (head i).kind (head i).content) (small (head i).kind (head i).content) i given }

-- ---- literals

abbrev pub IsGiven : Value → Type 0
IsGiven value = is_given value ≡ true

given_if : (b : Bool) (value : Value) → IsGiven value → IfAny IsGiven (if b then Some value else None)
given_if true value is = is
given_if false value is = tt

number_given : (kd : Kind) (count : ℕ) → IfAny IsGiven (l.number_by kd count)
number_given k.Number count = given_if (nat_lt count (2 ^ 63)) (v.Int (pos count)) refl
number_given k.Signed count = given_if (nat_le count (2 ^ 63)) (v.Int (neg_ℤ (pos count))) refl
number_given _ count = tt

quoted_given : (kd : Kind) (value : Value) → IsGiven value → IfAny IsGiven (l.quoted_by kd value)
quoted_given k.TextLiteral value is = is
quoted_given k.BytesLiteral value is = is
quoted_given _ value is = tt

truth_given : (kd : Kind) → IfAny IsGiven (l.truth_by kd)
truth_given k.True = refl
truth_given k.False = refl
truth_given _ = tt

literal_given : (kd : Kind) (content : Content) → holds_given content ≡ true → IfAny IsGiven (l.literal_in kd content)
literal_given kd (Number count) is = number_given kd count
literal_given kd (Literal value) is = quoted_given kd value is
literal_given kd (Name word) is = truth_given kd
literal_given kd Nothing is = tt

past_by : (b : Bool) (i : Input) → AreGiven i.ahead → AreGiven (if b then next (next i) else next i).ahead
unfolding next
past_by true i given = rest_given (next i).ahead (rest_given i.ahead given)
past_by false i given = rest_given i.ahead given

literal_by : (o : Option Value) → IfAny IsGiven o → (i : Input) → AreGiven i.ahead → Kept IsGiven (l.literal_by o i)
unfolding l.past_literal
literal_by None is i given = tt
literal_by (Some value) is i given = (is, past_by (same_kind (kind i) k.Signed) i given)

pub literal : Yields IsGiven l.literal
unfolding l.literal l.next_literal head
literal = record {
  run = λ i given. literal_by (l.next_literal i) (literal_given (head i).kind (head i).content (first_given i.ahead given)) i given;
}

pub literals : Yields (AllByRecursion IsGiven) l.literals
unfolding l.literals
literals = listed literal

pub value : Yields Any l.value
unfolding l.value
value = link (eaten k.Null) (λ is_null _. chosen is_null (made v.Null tt) (loosened (λ a is. tt) literal))

pub values : Yields Any l.values
unfolding l.values
values = loosened (λ all is. tt) (listed value)
