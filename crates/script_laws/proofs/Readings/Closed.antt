-- The last token of a line of bytes closes it, and what stands behind a minus that digits must follow is a number.
use Rattle.std.proofs.Common.{◌≡◌, ℕ, zero, suc, ◌+◌, ◌-◌, Bool, true, false, not, ◌&&◌, if◌then◌else◌, ◌==◌, List, [], ◌∷◌, ◌++◌, take, drop, slice_index, Option, Some, None, refl, ap, ◌∙◌, arith}
use Rattle.std.specs.Char.{is_ascii_digit}
use Rattle.std.specs.Str.{bytes_eq}
use Rattle.script_lex.specs.declared.kind.Kind.{Kind}
use Rattle.script_lex.specs.declared.kind.Kind.TheVariants as k
use Rattle.script_lex.specs.declared.shape.Class.TheVariants as class
use Rattle.script_lex.specs.declared.token.Content.{Content}
use Rattle.script_lex.specs.declared.token.Token.{Token}
use Rattle.script_lex.specs.Shape as s
use Rattle.script_lex.specs.Shape.{Text}
use Rattle.script_lex.specs.Content.{content}
use Rattle.script_lex.specs.Lex.{same_kind, is_blank, token_or_bad, first_token, tokens_from, tokens}
use Rattle.script_tokens.proofs.Alike.{same, other}
use Rattle.script_tokens.specs.Input.{first_of}
use Rattle.script_laws.proofs.Readings.Steady.Settling.{closes, IsClosed}
use Rattle.script_laws.proofs.Readings.Steady.Steps.{false_true}

-- ---- a minus that digits must follow

-- one byte, before a digit
record IsMinus (next : ℕ) (r : Kind × ℕ) : Type 0 where
  run : r.0 ≡ k.Signed → (r.1 ≡ 1) × (is_ascii_digit next ≡ true)

either : (b : Bool) (next : ℕ) {x y : Kind × ℕ} → IsMinus next x → IsMinus next y → IsMinus next (if b then x else y)
either true next mx my = mx
either false next mx my = my

neither : (b : Bool) {x y : Kind} → (x ≡ k.Signed → ⊥) → (y ≡ k.Signed → ⊥) → (if b then x else y) ≡ k.Signed → ⊥
neither true nx ny = nx
neither false nx ny = ny

no_minus : (kd : Kind) (len next : ℕ) → (kd ≡ k.Signed → ⊥) → IsMinus next (kd, len)
no_minus kd len next differs = record { run = λ e. absurd (differs e) }

unsigned : List (Text × Kind) → Bool
unsigned [] = true
unsigned (w ∷ ws) = not (same_kind w.1 k.Signed) && unsigned ws

unsigned_by : (kd : Kind) (b rest : Bool) → same_kind kd k.Signed ≡ b → (not b && rest) ≡ true → (kd ≡ k.Signed → ⊥) × (rest ≡ true)
unsigned_by kd true rest is e = absurd (false_true e)
unsigned_by kd false rest is e = (other is, e)

no_word : (ws : List (Text × Kind)) (word : Text) → unsigned ws ≡ true → s.lookup ws word ≡ k.Signed → ⊥
unfolding unsigned
no_word [] word all = λ e. cc
no_word (w ∷ ws) word all =
    let parts = unsigned_by w.1 (same_kind w.1 k.Signed) (unsigned ws) refl all in
    neither (bytes_eq w.0 word) parts.0 (no_word ws word parts.1)

no_keyword : (word : Text) → s.keyword word ≡ k.Signed → ⊥
unfolding s.keyword unsigned same_kind
no_keyword word = no_word (s.reserved_words ++ s.other_words) word refl

closed_minus : (kd : Kind) (o : Option ℕ) (next : ℕ) → (kd ≡ k.Signed → ⊥) → IsMinus next (s.kind_or_bad kd o)
closed_minus kd None next differs = no_minus k.Bad 1 next (λ e. cc)
closed_minus kd (Some end) next differs = no_minus kd end next differs

minus_by : (next : ℕ) (b : Bool) → is_ascii_digit next ≡ b → IsMinus next (if b then k.Signed else k.Minus, 1)
minus_by next true is = record { run = λ e. (refl, is) }
minus_by next false is = record { run = λ e. cc }

single_minus : (b : ℕ) → s.single b ≡ k.Signed → ⊥
single_minus b =
    neither (b == 40) (λ e. cc) (neither (b == 41) (λ e. cc) (neither (b == 91) (λ e. cc) (neither (b == 93) (λ e. cc)
    (neither (b == 44) (λ e. cc) (neither (b == 46) (λ e. cc) (neither (b == 43) (λ e. cc) (neither (b == 42) (λ e. cc) (λ e. cc))))))))

symbol_minus : (b next : ℕ) → IsMinus next (s.symbol b next)
unfolding s.symbol
symbol_minus b next =
    either (b == 60) next (either (next == 61) next (no_minus k.LessEqual 2 next (λ e. cc)) (no_minus k.Less 1 next (λ e. cc)))
    (either (b == 62) next (either (next == 61) next (no_minus k.GreaterEqual 2 next (λ e. cc)) (no_minus k.Greater 1 next (λ e. cc)))
    (either (b == 61) next (either (next == 61) next (no_minus k.Equal 2 next (λ e. cc)) (no_minus k.Assign 1 next (λ e. cc)))
    (either (b == 33 && next == 61) next (no_minus k.NotEqual 2 next (λ e. cc))
    (either (b == 124 && next == 124) next (no_minus k.Concat 2 next (λ e. cc))
    (either (b == 45) next (minus_by next (is_ascii_digit next) refl) (no_minus (s.single b) 1 next (single_minus b)))))))

front_minus : (z : Text) → IsMinus (slice_index z 1) (s.token_prefix z)
unfolding s.token_prefix
front_minus z =
    let b = slice_index z 0 in
    let next = slice_index z 1 in
    either (s.is_bytes z) next (no_minus k.BytesLiteral (s.past class.Hex z 2 + 1) next (λ e. cc))
    (either (is_ascii_digit b) next (no_minus k.Number (s.past class.Digit z 0) next (λ e. cc))
    (either (s.is_in class.Word b) next (no_minus (s.keyword (take (s.past class.Word z 0) z)) (s.past class.Word z 0) next (no_keyword (take (s.past class.Word z 0) z)))
    (either (b == 34) next (closed_minus k.Quoted (s.quote_end b false 1 (drop 1 z)) next (λ e. cc))
    (either (b == 39) next (closed_minus k.TextLiteral (s.quote_end b false 1 (drop 1 z)) next (λ e. cc)) (symbol_minus b next)))))

placed_minus : (at : ℕ) (r : Kind × ℕ) (next : ℕ) (o : Option Content) → IsMinus next r → (token_or_bad at r.0 r.1 o).0.kind ≡ k.Signed
    → ((token_or_bad at r.0 r.1 o).1 ≡ 1) × (is_ascii_digit next ≡ true)
placed_minus at r next None minus e = cc
placed_minus at r next (Some found) minus e = minus.run e

cut_minus : (at : ℕ) (z : Text) → (first_token at z).0.kind ≡ k.Signed → ((first_token at z).1 ≡ 1) × (is_ascii_digit (slice_index z 1) ≡ true)
unfolding first_token
cut_minus at z e = placed_minus at (s.token_prefix z) (slice_index z 1) (content (s.token_prefix z).0 (s.token_prefix z).1 z) (front_minus z) e

-- ---- the digits behind it

no_bytes : (d : ℕ) → is_ascii_digit d ≡ true → (d == 120) ≡ false
no_bytes d e = grind arith

no_blank : (d : ℕ) → is_ascii_digit d ≡ true → is_blank d ≡ false
no_blank d e = grind arith

number_front : (d : ℕ) (w : Text) → is_ascii_digit d ≡ true → s.token_prefix (d ∷ w) ≡ (k.Number, s.past class.Digit (d ∷ w) 0)
unfolding s.token_prefix
number_front d w e = rw (no_bytes d e, e)

number_cut : (at d : ℕ) (w : Text) → is_ascii_digit d ≡ true → (first_token at (d ∷ w)).0.kind ≡ k.Number
unfolding first_token content
number_cut at d w e = ap (λ r. (token_or_bad at r.0 r.1 (content r.0 r.1 (d ∷ w))).0.kind) (number_front d w e)

first_by : (t : Token) (rest : List Token) (bad : Bool) → first_of (if bad then t ∷ [] else t ∷ rest) ≡ t
first_by t rest true = refl
first_by t rest false = refl

first_cut : (at d : ℕ) (w : Text) → is_blank d ≡ false → first_of (tokens_from 0 at (d ∷ w)) ≡ (first_token at (d ∷ w)).0
first_cut at d w e =
    let t = first_token at (d ∷ w) in
    ap (λ blank. first_of (if blank then tokens_from 0 (at + 1) w else (if same_kind t.0.kind k.Bad then t.0 ∷ [] else t.0 ∷ tokens_from (t.1 - 1) (at + 1) w))) e
    ∙ first_by t.0 (tokens_from (t.1 - 1) (at + 1) w) (same_kind t.0.kind k.Bad)

number_first : (at : ℕ) (z : Text) → is_ascii_digit (slice_index z 0) ≡ true → closes (first_of (tokens_from 0 at z)).kind ≡ false
number_first at [] e = absurd (false_true e)
number_first at (d ∷ w) e = ap (λ t. closes t.kind) (first_cut at d w (no_blank d e)) ∙ ap closes (number_cut at d w e)

-- ---- the tokens of a line

closed_more : (t : Token) (rest : List Token) → IsClosed rest → (t.kind ≡ k.Signed → closes (first_of rest).kind ≡ false) → IsClosed (t ∷ rest)
closed_more t [] closed behind = absurd closed
closed_more t (u ∷ us) closed behind = (behind, closed)

bad_or_more : (t : Token) (rest : List Token) (bad : Bool) → same_kind t.kind k.Bad ≡ bad → IsClosed rest → (t.kind ≡ k.Signed → closes (first_of rest).kind ≡ false)
    → IsClosed (if bad then t ∷ [] else t ∷ rest)
bad_or_more t rest true is closed behind = ap closes (same is)
bad_or_more t rest false is closed behind = closed_more t rest closed behind

minus_first : (at b : ℕ) (z : Text) → (first_token at (b ∷ z)).0.kind ≡ k.Signed → closes (first_of (tokens_from ((first_token at (b ∷ z)).1 - 1) (at + 1) z)).kind ≡ false
minus_first at b z e =
    let minus = cut_minus at (b ∷ z) e in
    let none : (first_token at (b ∷ z)).1 - 1 ≡ 0 = ap (λ n. n - 1) minus.0 in
    ap (λ n. closes (first_of (tokens_from n (at + 1) z)).kind) none ∙ number_first (at + 1) z minus.1

by_blank : (b at : ℕ) (z : Text) (blank : Bool) → ((left : ℕ) → IsClosed (tokens_from left (at + 1) z))
    → IsClosed (if blank then tokens_from 0 (at + 1) z
    else (let t = first_token at (b ∷ z) in if same_kind t.0.kind k.Bad then t.0 ∷ [] else t.0 ∷ tokens_from (t.1 - 1) (at + 1) z))
by_blank b at z true rec = rec 0
by_blank b at z false rec =
    let t = first_token at (b ∷ z) in
    bad_or_more t.0 (tokens_from (t.1 - 1) (at + 1) z) (same_kind t.0.kind k.Bad) refl (rec (t.1 - 1)) (minus_first at b z)

closed_from : (left at : ℕ) (z : Text) → IsClosed (tokens_from left at z)
closed_from left at [] = refl
closed_from (suc left) at (b ∷ z) = closed_from left (at + 1) z
closed_from zero at (b ∷ z) = by_blank b at z (is_blank b) (λ left. closed_from left (at + 1) z)

pub line_is_closed : (line : Text) → IsClosed (tokens line)
unfolding tokens
line_is_closed line = closed_from 0 0 line
