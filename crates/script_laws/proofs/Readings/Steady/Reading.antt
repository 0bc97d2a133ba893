-- Names and literals are read steadily.
use Rattle.std.proofs.Common.{◌≡◌, ℕ, Bool, true, false, not, if◌then◌else◌, List, [], Option, Some, None, Ok, refl, ap, sym, ◌∙◌}
use Rattle.base_core.specs.declared.value.Value.{Value}
use Rattle.base_core.specs.declared.value.Value.TheVariants as v
use Rattle.script_lex.specs.declared.kind.Kind.{Kind}
use Rattle.script_lex.specs.declared.kind.Kind.TheVariants as k
use Rattle.script_lex.specs.declared.token.Content.{Content}
use Rattle.script_lex.specs.declared.token.Content.TheVariants.{Name, Nothing, Number, Literal}
use Rattle.script_lex.specs.Lex.{same_kind}
use Rattle.script_tokens.proofs.Alike.{same}
use Rattle.script_tokens.specs.Input.{Input, first_of, head, next, sees, after}
use Rattle.script_tokens.specs.Names.{is_no_name, name_in, next_name, named_by, name, names}
use Rattle.script_tokens.specs.Literals.{literal_in, next_literal, past_literal, literal_by, literal, whole_number, int_by, int, value, literals, values}
use Rattle.script_laws.proofs.Readings.Steady.Settling.{closes, Settled, Taken, IsSteady}
use Rattle.script_laws.proofs.Readings.Steady.Steps.{both, made, at_head, on_token, drop_drop, refused, gone_past, chosen, eaten, expected, leaves_one, leaves_two, false_true}
use Rattle.script_laws.proofs.Readings.Steady.Marked.{IsBare, listed, some_none}

pub comma_marks : closes k.Comma ≡ false
comma_marks = refl

named_at : (i : Input) (o : Option (List ℕ)) → ((found : List ℕ) → o ≡ Some found → closes (first_of i.ahead).kind ≡ false) → Settled (named_by o) i
named_at i None goes = refused i
named_at i (Some found) goes = gone_past found i (goes found refl)

is_named : (b : Bool) (content : Content) (found : List ℕ) → name_in b content ≡ Some found → b ≡ true
is_named true content found e = refl
is_named false content found e = absurd (some_none (sym e))

name_goes : (kd : Kind) → not (is_no_name kd) ≡ true → closes kd ≡ false
unfolding is_no_name
name_goes k.LineEnd e = absurd (false_true e)
name_goes k.Bad e = absurd (false_true e)
name_goes _ e = refl

pub name_steady : IsSteady name
unfolding name next_name head
name_steady =
    on_token (λ t. named_by (name_in (not (is_no_name t.kind)) t.content))
    (λ t i is. named_at i (name_in (not (is_no_name t.kind)) t.content)
    (λ found e. ap (λ u. closes u.kind) is ∙ name_goes t.kind (is_named (not (is_no_name t.kind)) t.content found e)))

pub name_bare : IsBare name
unfolding name next_name head is_no_name
name_bare = λ o. refl

pub names_steady : IsSteady names
unfolding names
names_steady = both (expected k.LParen refl) (λ _. both (listed k.Comma comma_marks name_steady name_bare []) (λ found. both (expected k.RParen refl) (λ _. made found)))

past_by : (i : Input) (found : Value) (b : Bool) → closes (first_of i.ahead).kind ≡ false → (b ≡ true → (first_of i.ahead).kind ≡ k.Signed)
    → Settled (λ j. Ok (found, if b then next (next j) else next j)) i
unfolding next
past_by i found true goes is =
    Taken 2 found i.operators (leaves_two i.ahead (is refl)) (λ other e. ap (λ rest. Ok (found, record { ahead = rest; operators = i.operators })) (drop_drop 1 1 other))
past_by i found false goes is = Taken 1 found i.operators (leaves_one i.ahead goes) (λ other e. refl)

literal_at : (i : Input) (o : Option Value) → ((found : Value) → o ≡ Some found → closes (first_of i.ahead).kind ≡ false) → Settled (literal_by o) i
unfolding past_literal head
literal_at i None goes = refused i
literal_at i (Some found) goes =
    at_head (λ t j. Ok (found, if same_kind t.kind k.Signed then next (next j) else next j)) i
    (past_by i found (same_kind (first_of i.ahead).kind k.Signed) (goes found refl) (λ is. same is))

literal_goes : (kd : Kind) (content : Content) (found : Value) → literal_in kd content ≡ Some found → closes kd ≡ false
literal_goes k.LineEnd (Number n) found e = absurd (some_none (sym e))
literal_goes k.LineEnd (Literal v) found e = absurd (some_none (sym e))
literal_goes k.LineEnd (Name n) found e = absurd (some_none (sym e))
literal_goes k.LineEnd Nothing found e = absurd (some_none (sym e))
literal_goes k.Bad (Number n) found e = absurd (some_none (sym e))
literal_goes k.Bad (Literal v) found e = absurd (some_none (sym e))
literal_goes k.Bad (Name n) found e = absurd (some_none (sym e))
literal_goes k.Bad Nothing found e = absurd (some_none (sym e))
literal_goes _ content found e = refl

pub literal_steady : IsSteady literal
unfolding literal next_literal head
literal_steady =
    on_token (λ t. literal_by (literal_in t.kind t.content))
    (λ t i is. literal_at i (literal_in t.kind t.content) (λ found e. ap (λ u. closes u.kind) is ∙ literal_goes t.kind t.content found e))

pub literal_bare : IsBare literal
unfolding literal next_literal head
literal_bare = λ o. refl

pub int_at : (i : Input) (o : Option ℕ) → ((n : ℕ) → o ≡ Some n → closes (first_of i.ahead).kind ≡ false) → Settled (int_by o) i
int_at i None goes = refused i
int_at i (Some n) goes = gone_past n i (goes n refl)

int_goes : (kd : Kind) (content : Content) (n : ℕ) → whole_number kd content ≡ Some n → closes kd ≡ false
int_goes k.LineEnd content n e = absurd (some_none (sym e))
int_goes k.Bad content n e = absurd (some_none (sym e))
int_goes _ content n e = refl

pub int_steady : IsSteady int
unfolding int head
int_steady =
    on_token (λ t. int_by (whole_number t.kind t.content))
    (λ t i is. int_at i (whole_number t.kind t.content) (λ n e. ap (λ u. closes u.kind) is ∙ int_goes t.kind t.content n e))

pub value_steady : IsSteady value
unfolding value
value_steady = both (eaten k.Null refl) (λ is_null. chosen is_null (made v.Null) literal_steady)

pub value_bare : IsBare value
unfolding value sees after head same_kind literal next_literal
value_bare = λ o. refl

pub literals_steady : IsSteady literals
unfolding literals
literals_steady = listed k.Comma comma_marks literal_steady literal_bare []

pub values_steady : IsSteady values
unfolding values
values_steady = listed k.Comma comma_marks value_steady value_bare []
