-- The tokens of a line of bytes stand one behind the other.
use Rattle.std.proofs.Common.{◌≡◌, ℕ, zero, suc, ◌+◌, ◌-◌, ◌≤◌, Bool, true, false, if◌then◌else◌, List, [], ◌∷◌, drop, length, Option, Some, None, refl, ap, sym, subst, arith}
use Rattle.script_lex.specs.declared.kind.Kind.{Kind}
use Rattle.script_lex.specs.declared.kind.Kind.TheVariants as k
use Rattle.script_lex.specs.declared.token.Content.{Content}
use Rattle.script_lex.specs.declared.token.Token.{Token}
use Rattle.script_lex.specs.Shape.{Text, token_prefix}
use Rattle.script_lex.specs.Content.{content}
use Rattle.script_lex.specs.Lex.{same_kind, is_blank, token_or_bad, first_token, tokens_from, tokens}
use Rattle.script_tokens.specs.Input.{first_of}

-- the first of these stands at the place or behind it, and each of the others behind the one before it
abbrev pub Rise : ℕ → List Token → Type 0
Rise at [] = Unit {0}
Rise at (t ∷ ts) = (at ≤ t.at) × Rise (t.at + 1) ts

sooner : (a b : ℕ) (ts : List Token) → a ≤ b → Rise b ts → Rise a ts
sooner a b [] less rise = rise
sooner a b (t ∷ ts) less rise = let first : a ≤ t.at = omega (arith, rise.0) in (first, rise.1)

placed_at : (at : ℕ) (kind : Kind) (len : ℕ) (o : Option Content) → (token_or_bad at kind len o).0.at ≡ at
placed_at at kind len None = refl
placed_at at kind len (Some found) = refl

cut_at : (at : ℕ) (z : Text) → (first_token at z).0.at ≡ at
unfolding first_token
cut_at at z = placed_at at (token_prefix z).0 (token_prefix z).1 (content (token_prefix z).0 (token_prefix z).1 z)

behind_first : (at : ℕ) (t : Token) (rest : List Token) (bad : Bool) → t.at ≡ at → Rise (at + 1) rest → Rise at (if bad then t ∷ [] else t ∷ rest)
behind_first at t rest true is rise = let first : at ≤ t.at = omega arith in (first, tt)
behind_first at t rest false is rise = let first : at ≤ t.at = omega arith in (first, subst (λ n. Rise (n + 1) rest) (sym is) rise)

by_blank : (b at : ℕ) (z : Text) (blank : Bool) → ((left : ℕ) → Rise (at + 1) (tokens_from left (at + 1) z))
    → Rise at (if blank then tokens_from 0 (at + 1) z
    else (let t = first_token at (b ∷ z) in if same_kind t.0.kind k.Bad then t.0 ∷ [] else t.0 ∷ tokens_from (t.1 - 1) (at + 1) z))
by_blank b at z true rec = sooner at (at + 1) (tokens_from 0 (at + 1) z) (omega arith) (rec 0)
by_blank b at z false rec =
    let t = first_token at (b ∷ z) in
    behind_first at t.0 (tokens_from (t.1 - 1) (at + 1) z) (same_kind t.0.kind k.Bad) (cut_at at (b ∷ z)) (rec (t.1 - 1))

rise_from : (left at : ℕ) (z : Text) → Rise at (tokens_from left at z)
rise_from left at [] = let first : at ≤ at = omega arith in (first, tt)
rise_from (suc left) at (b ∷ z) = sooner at (at + 1) (tokens_from left (at + 1) z) (omega arith) (rise_from left (at + 1) z)
rise_from zero at (b ∷ z) = by_blank b at z (is_blank b) (λ left. rise_from left (at + 1) z)

pub line_rises : (line : Text) → Rise 0 (tokens line)
unfolding tokens
line_rises line = rise_from 0 0 line

least : (at : ℕ) (ts : List Token) (k : ℕ) → Rise at ts → suc k ≤ length ts → at ≤ (first_of (drop k ts)).at
least at [] k rise some = absurd (omega arith)
least at (t ∷ ts) zero rise some = rise.0
least at (t ∷ ts) (suc k) rise some =
    let less : suc k ≤ length ts = omega arith in
    let behind : t.at + 1 ≤ (first_of (drop k ts)).at = least (t.at + 1) ts k rise.1 less in
    let first : at ≤ t.at = rise.0 in
    omega arith

-- no two stand at one place
pub one_place : (at : ℕ) (ts : List Token) (j k : ℕ) → Rise at ts → suc j ≤ length ts → suc k ≤ length ts → (first_of (drop j ts)).at ≡ (first_of (drop k ts)).at → j ≡ k
one_place at [] j k rise one two is = absurd (omega arith)
one_place at (t ∷ ts) zero zero rise one two is = refl
one_place at (t ∷ ts) zero (suc k) rise one two is =
    let less : suc k ≤ length ts = omega arith in
    let behind : t.at + 1 ≤ (first_of (drop k ts)).at = least (t.at + 1) ts k rise.1 less in
    let same : t.at ≡ (first_of (drop k ts)).at = is in
    absurd (omega arith)
one_place at (t ∷ ts) (suc j) zero rise one two is =
    let less : suc j ≤ length ts = omega arith in
    let behind : t.at + 1 ≤ (first_of (drop j ts)).at = least (t.at + 1) ts j rise.1 less in
    let same : (first_of (drop j ts)).at ≡ t.at = is in
    absurd (omega arith)
one_place at (t ∷ ts) (suc j) (suc k) rise one two is =
    let first : suc j ≤ length ts = omega arith in
    let second : suc k ≤ length ts = omega arith in
    ap suc (one_place (t.at + 1) ts j k rise.1 first second is)
