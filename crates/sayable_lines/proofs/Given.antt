-- No token of a line of bytes holds NULL.
use Rattle.std.proofs.Common.{◌≡◌, ℕ, zero, suc, ◌+◌, ◌-◌, Bool, true, false, if◌then◌else◌, List, [], ◌∷◌, drop, take, Option, Some, None, refl}
use Rattle.std.specs.Option.{option_map}
use Rattle.base_core.specs.declared.value.Value.TheVariants as value
use Rattle.sql_semantics.specs.Plain.{is_given}
use Rattle.script_lex.specs.declared.kind.Kind.{Kind}
use Rattle.script_lex.specs.declared.kind.Kind.TheVariants as k
use Rattle.script_lex.specs.declared.token.Content.{Content}
use Rattle.script_lex.specs.declared.token.Content.TheVariants.{Name, Literal}
use Rattle.script_lex.specs.declared.token.Token.{Token}
use Rattle.script_lex.specs.Shape.{Text, token_prefix}
use Rattle.script_lex.specs.Content.{content, content_by, if_utf8, inside, undouble}
use Rattle.script_lex.specs.Lex.{first_token, is_blank, same_kind, token_or_bad, tokens, tokens_from}
use Rattle.script_tokens.specs.Input.{first_of}

-- what a token holds is no NULL
abbrev pub holds_given : Content → Bool
holds_given (Literal v) = is_given v
holds_given content = true

abbrev pub AreGiven : List Token → Type 0
AreGiven [] = Unit {0}
AreGiven (t ∷ ts) = (holds_given t.content ≡ true) × AreGiven ts

pub rest_given : (ts : List Token) → AreGiven ts → AreGiven (drop 1 ts)
rest_given [] given = tt
rest_given (t ∷ ts) given = given.1

pub first_given : (ts : List Token) → AreGiven ts → holds_given (first_of ts).content ≡ true
first_given [] given = refl
first_given (t ∷ ts) given = given.0

-- ---- a line's tokens

abbrev held_given : Option Content → Bool
held_given None = true
held_given (Some content) = holds_given content

of_text : (f : Text → Content) → ((t : Text) → holds_given (f t) ≡ true) → (o : Option Text) → held_given (option_map f o) ≡ true
of_text f given None = refl
of_text f given (Some t) = given t

content_given : (kind : Kind) (spelling z : Text) → held_given (content_by kind spelling z) ≡ true
content_given k.Quoted spelling z = of_text Name (λ t. refl) (if_utf8 (undouble 34 false (inside 1 spelling)))
content_given k.TextLiteral spelling z = of_text (λ t. Literal (value.Text t)) (λ t. refl) (if_utf8 (undouble 39 false (inside 1 spelling)))
content_given k.BytesLiteral spelling z = refl
content_given k.Number spelling z = refl
content_given k.Signed spelling z = refl
content_given _ spelling z = of_text Name (λ t. refl) (if_utf8 spelling)

token_given : (at : ℕ) (kind : Kind) (len : ℕ) (o : Option Content) → held_given o ≡ true → holds_given (token_or_bad at kind len o).0.content ≡ true
token_given at kind len None given = refl
token_given at kind len (Some found) given = given

cut_given : (at : ℕ) (z : Text) → holds_given (first_token at z).0.content ≡ true
unfolding first_token content
cut_given at z =
    token_given at (token_prefix z).0 (token_prefix z).1 (content_by (token_prefix z).0 (take (token_prefix z).1 z) z)
    (content_given (token_prefix z).0 (take (token_prefix z).1 z) z)

either_given : (b : Bool) (ts us : List Token) → AreGiven ts → AreGiven us → AreGiven (if b then ts else us)
either_given true ts us one two = one
either_given false ts us one two = two

from_given : (left at : ℕ) (z : Text) → AreGiven (tokens_from left at z)
from_given left at [] = (refl, tt)
from_given (suc left) at (b ∷ z) = from_given left (at + 1) z
from_given zero at (b ∷ z) =
    let t = first_token at (b ∷ z) in
    let given : holds_given t.0.content ≡ true = cut_given at (b ∷ z) in
    let behind : List Token = tokens_from (t.1 - 1) (at + 1) z in
    either_given (is_blank b) (tokens_from 0 (at + 1) z) (if same_kind t.0.kind k.Bad then t.0 ∷ [] else t.0 ∷ behind) (from_given 0 (at + 1) z)
    (either_given (same_kind t.0.kind k.Bad) (t.0 ∷ []) (t.0 ∷ behind) (given, tt) (given, from_given (t.1 - 1) (at + 1) z))

pub tokens_given : (bytes : List ℕ) → AreGiven (tokens bytes)
unfolding tokens
tokens_given bytes = from_given 0 0 bytes
