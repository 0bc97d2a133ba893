-- What tokens hold whose kind is that of a word or symbol, and texts in quotes.
use Rattle.std.proofs.Common.{◌≡◌, ℕ, zero, suc, ◌+◌, ◌-◌, ◌<◌, Bool, true, false, ◌&&◌, if◌then◌else◌, List, [], ◌∷◌, ◌++◌, length, take, drop, slice_index, nat_lt, Some, None, option_map, IsUtf8, refl, ap, sym, ◌∙◌, arith}
use Rattle.std.proofs.Math.Seq.{take-append_seam}
use Rattle.std.proofs.lemmas.Bool.{ltb-true}
use Rattle.std.proofs.lemmas.Str.{IsUtf8-from_ascii, IsUtf8-from_is_utf8, is_utf8-from_IsUtf8}
use Rattle.std.specs.Str.{is_utf8, bytes_eq}
use Rattle.script_lex.specs.declared.kind.Kind.{Kind}
use Rattle.script_lex.specs.declared.kind.Kind.TheVariants as k
use Rattle.script_lex.specs.declared.token.Content.{Content}
use Rattle.script_lex.specs.declared.token.Content.TheVariants.{Name}
use Rattle.script_lex.specs.declared.shape.Class.TheVariants as class
use Rattle.script_lex.specs.Shape.{Text, is_in, lookup, reserved_words, other_words, keyword}
use Rattle.script_lex.specs.Content.{content, content_by, if_utf8, inside}
use Rattle.script_lex.specs.Lex.{same_kind}
use Rattle.script_tokens.proofs.Alike.{same}
use Rattle.script_laws.specs.Readings.Tokens.Spelling.{every, symbol}
use Rattle.script_laws.proofs.Readings.Tokens.Runs.{false_true, both_true, if_true, same_some, none_some}

-- ---- kinds whose tokens hold their spelling

abbrev pub is_plain : Kind → Bool
is_plain k.Quoted = false
is_plain k.TextLiteral = false
is_plain k.BytesLiteral = false
is_plain k.Number = false
is_plain k.Signed = false
is_plain k.Bad = false
is_plain _ = true

good_by : (kind : Kind) → is_plain kind ≡ true → (bad : Bool) → same_kind kind k.Bad ≡ bad → bad ≡ false
good_by kind plain false is = refl
good_by kind plain true is = absurd (false_true (sym (ap is_plain (same is)) ∙ plain))

pub plain_good : (kind : Kind) → is_plain kind ≡ true → same_kind kind k.Bad ≡ false
plain_good kind plain = good_by kind plain (same_kind kind k.Bad) refl

plain_content : (kind : Kind) → is_plain kind ≡ true → (s z : Text) → content_by kind s z ≡ option_map Name (if_utf8 s)
plain_content k.Quoted e s z = absurd (false_true e)
plain_content k.TextLiteral e s z = absurd (false_true e)
plain_content k.BytesLiteral e s z = absurd (false_true e)
plain_content k.Number e s z = absurd (false_true e)
plain_content k.Signed e s z = absurd (false_true e)
plain_content _ e s z = refl

all_plain : List (Text × Kind) → Bool
all_plain [] = true
all_plain (w ∷ ws) = is_plain w.1 && all_plain ws

either_plain : (b : Bool) (x y : Kind) → is_plain x ≡ true → is_plain y ≡ true → is_plain (if b then x else y) ≡ true
either_plain true x y one two = one
either_plain false x y one two = two

lookup_plain : (ws : List (Text × Kind)) (word : Text) → all_plain ws ≡ true → is_plain (lookup ws word) ≡ true
unfolding all_plain
lookup_plain [] word all = refl
lookup_plain (w ∷ ws) word all =
    let parts = both_true (is_plain w.1) (all_plain ws) all in
    either_plain (bytes_eq w.0 word) w.1 (lookup ws word) parts.0 (lookup_plain ws word parts.1)

pub keyword_plain : (word : Text) → is_plain (keyword word) ≡ true
unfolding keyword all_plain
keyword_plain word = lookup_plain (reserved_words ++ other_words) word refl

pub symbol_plain : (kind : Kind) (s : Text) → symbol kind ≡ Some s → is_plain kind ≡ true
symbol_plain k.Quoted s e = absurd (none_some e)
symbol_plain k.TextLiteral s e = absurd (none_some e)
symbol_plain k.BytesLiteral s e = absurd (none_some e)
symbol_plain k.Number s e = absurd (none_some e)
symbol_plain k.Signed s e = absurd (none_some e)
symbol_plain k.Bad s e = absurd (none_some e)
symbol_plain _ s e = refl

-- ---- bytes of ASCII are UTF-8

ascii_of : (p : ℕ → Bool) → ((b : ℕ) → p b ≡ true → b < 128) → (z : Text) → every p z ≡ true → (i : ℕ) → slice_index z i < 128
ascii_of p within [] all i = omega arith
ascii_of p within (b ∷ z) all zero = within b (both_true (p b) (every p z) all).0
ascii_of p within (b ∷ z) all (suc i) = ascii_of p within z (both_true (p b) (every p z) all).1 i

word_byte : (b : ℕ) → is_in class.Word b ≡ true → b < 128
word_byte b e = grind arith

pub word_utf8 : (word : Text) → every (is_in class.Word) word ≡ true → IsUtf8 word
word_utf8 word all = IsUtf8-from_ascii word (ascii_of (is_in class.Word) word_byte word all)

abbrev pub is_small : ℕ → Bool
is_small b = nat_lt b 128

pub small_utf8 : (z : Text) → every is_small z ≡ true → IsUtf8 z
small_utf8 z all = IsUtf8-from_ascii z (ascii_of is_small (λ b e. ltb-true b 128 e) z all)

pub utf8_kept : (z : Text) → IsUtf8 z → if_utf8 z ≡ Some z
unfolding if_utf8
utf8_kept z is = if_true (is_utf8 z) _ _ (is_utf8-from_IsUtf8 z is)

-- a token of such a kind holds its spelling
pub spelling_held : (kind : Kind) (s z : Text) → is_plain kind ≡ true → IsUtf8 s → content_by kind s z ≡ Some (Name s)
spelling_held kind s z plain is = plain_content kind plain s z ∙ ap (option_map Name) (utf8_kept s is)

pub record Told (f : Text → Content) (z : Text) (held : Content) : Type 0 where
  pub utf8 : IsUtf8 z
  pub is : held ≡ f z

told_by : (f : Text → Content) (z : Text) (held : Content) (b : Bool) → is_utf8 z ≡ b → option_map f (if b then Some z else None) ≡ Some held → Told f z held
told_by f z held true is e = record { utf8 = IsUtf8-from_is_utf8 z is; is = sym (same_some e) }
told_by f z held false is e = absurd (none_some e)

-- what is held is UTF-8
pub utf8_told : (f : Text → Content) (z : Text) (held : Content) → option_map f (if_utf8 z) ≡ Some held → Told f z held
unfolding if_utf8
utf8_told f z held e = told_by f z held (is_utf8 z) refl e

-- ---- spellings

pub content_at : (kind : Kind) (len : ℕ) (s b : Text) → len ≡ length s → content kind len (s ++ b) ≡ content_by kind s (s ++ b)
unfolding content
content_at kind len s b long = ap (λ t. content_by kind t (s ++ b)) (ap (λ n. take n (s ++ b)) long ∙ take-append_seam s b)

pub within_marks : (n q : ℕ) (t middle : Text) → drop n t ≡ middle ++ q ∷ [] → length t ≡ n + suc (length middle) → inside n t ≡ middle
within_marks n q t middle front long =
    let cut : length t - n - 1 ≡ length middle = omega (arith, long) in
    ap (λ m. take m (drop n t)) cut ∙ ap (take (length middle)) front ∙ take-append_seam middle (q ∷ [])

-- two fronts of one text that are as long are one
pub same_front : (s b f r : Text) → s ++ b ≡ f ++ r → length s ≡ length f → s ≡ f
same_front s b f r e long = sym (take-append_seam s b) ∙ ap (take (length s)) e ∙ ap (λ n. take n (f ++ r)) long ∙ take-append_seam f r
