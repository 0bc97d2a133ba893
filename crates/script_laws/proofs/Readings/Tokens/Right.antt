-- What is cut of the front of a text, where a token is, is spelled so.
use Rattle.std.proofs.Common.{◌≡◌, ◌≢◌, ℕ, suc, ◌+◌, ◌%◌, Bool, true, false, ◌&&◌, if◌then◌else◌, ◌==◌, [], ◌∷◌, ◌++◌, length, slice_index, Option, Some, None, option_map, IsUtf8, refl, ap, sym, subst, ◌∙◌, append_assoc, arith}
use Rattle.std.proofs.lemmas.Bool.{eqb-true}
use Rattle.std.specs.Char.{is_ascii_digit}
use Rattle.base_core.specs.declared.value.Value.TheVariants as value
use Rattle.script_lex.specs.declared.kind.Kind.{Kind}
use Rattle.script_lex.specs.declared.kind.Kind.TheVariants as k
use Rattle.script_lex.specs.declared.token.Content.{Content}
use Rattle.script_lex.specs.declared.token.Content.TheVariants.{Name, Number, Literal}
use Rattle.script_lex.specs.declared.shape.Class.TheVariants as class
use Rattle.script_lex.specs.Shape.{Text, is_in, past, keyword, word, quote_end, kind_or_bad, single, symbol as symbol_prefix, is_bytes, token_prefix}
use Rattle.script_lex.specs.Content.{content_by, if_utf8, number, bytes_of_hex}
use Rattle.script_lex.specs.Lex.{same_kind}
use Rattle.script_tokens.proofs.Alike.{alike}
use Rattle.script_laws.specs.Readings.Tokens.Spelling.{every, starts, with_quotes_doubled, in_quotes, symbol, Spells, Word, QuotedName, QuotedText, QuotedBytes, Digits, Sign, Minus, Symbol}
use Rattle.script_laws.proofs.Readings.Tokens.Runs.{true_false, false_true, both_true, Run, run_of, same_some}
use Rattle.script_laws.proofs.Readings.Tokens.Quotes.{closed_by}
use Rattle.script_laws.proofs.Readings.Tokens.Words.{is_plain, keyword_plain, word_utf8, spelling_held, utf8_told, small_utf8}
use Rattle.script_laws.proofs.Readings.Tokens.Reached.{marks, word_run, InQuotes, names, texts, quoted_length, inside_quotes, bytes_spelling, bytes_length, inside_bytes, digits_behind, symbol_utf8}

-- a front of this many bytes is spelled as a token of this kind, whatever it holds
pub record Begun (z : Text) (kind : Kind) (len : ℕ) : Type 0 where
  pub spelling : Text
  pub behind : Text
  pub joined : z ≡ spelling ++ behind
  pub long : len ≡ length spelling
  pub spelled : (held : Content) → content_by kind spelling z ≡ Some held → Spells kind held spelling behind

record Right (z : Text) (r : Kind × ℕ) : Type 0 where
  pub run : same_kind r.0 k.Bad ≡ false → Begun z r.0 r.1

right_if : (b : Bool) (z : Text) {x y : Kind × ℕ} → (b ≡ true → Right z x) → (b ≡ false → Right z y) → Right z (if b then x else y)
right_if true z one two = one refl
right_if false z one two = two refl

one_if : (b : Bool) (z : Text) {x y : Kind} → (b ≡ true → Right z (x, 1)) → Right z (y, 1) → Right z (if b then x else y, 1)
one_if true z one two = one refl
one_if false z one two = two

known : {z : Text} {kind : Kind} {len : ℕ} → Begun z kind len → Right z (kind, len)
known begun = record { run = λ good. begun }

bad : (z : Text) (len : ℕ) → Right z (k.Bad, len)
bad z len = record { run = λ good. absurd (true_false (sym (alike refl) ∙ good)) }

-- ---- bytes

at_rest : (front behind : Text) → slice_index (front ++ behind) (length front) ≡ slice_index behind 0
at_rest [] behind = refl
at_rest (b ∷ front) behind = at_rest front behind

bytes_by : (x y : ℕ) (v digits behind : Text) → (x == 120) ≡ true → (y == 39) ≡ true → v ≡ digits ++ behind → every (is_in class.Hex) digits ≡ true
    → (slice_index behind 0 == 39) ≡ true → length digits % 2 ≡ 0 → (len : ℕ) → len ≡ suc (suc (suc (length digits))) → Begun (x ∷ y ∷ v) k.BytesLiteral len
bytes_by x y v digits [] first second split all third even len long = absurd (false_true third)
bytes_by x y v digits (c ∷ behind) first second split all third even len long = record {
  spelling = bytes_spelling digits;
  behind = behind;
  joined = ap (λ a. a ∷ y ∷ v) (eqb-true x 120 first) ∙ ap (λ a. 120 ∷ a ∷ v) (eqb-true y 39 second)
      ∙ ap (λ w. 120 ∷ 39 ∷ w) (split ∙ ap (λ a. digits ++ a ∷ behind) (eqb-true c 39 third) ∙ sym (append_assoc digits (39 ∷ []) behind));
  long = long ∙ sym (bytes_length digits);
  spelled = λ held e. QuotedBytes digits all even refl refl (sym (same_some e) ∙ ap (λ t. Literal (value.Bytes (bytes_of_hex t))) (inside_bytes digits));
}

bytes_begun : (z : Text) → is_bytes z ≡ true → Begun z k.BytesLiteral (past class.Hex z 2 + 1)
bytes_begun [] e = absurd (false_true (marks [] e).first)
bytes_begun (x ∷ []) e = absurd (false_true (marks (x ∷ []) e).second)
bytes_begun (x ∷ y ∷ v) e =
    let z = x ∷ y ∷ v in
    let m = marks z e in
    let run = run_of (is_in class.Hex) v in
    let end : past class.Hex z 2 ≡ suc (suc (length run.front)) = omega (arith, run.long) in
    let there : slice_index z (past class.Hex z 2) ≡ slice_index run.behind 0 =
    ap (slice_index z) end ∙ ap (λ w. slice_index w (length run.front)) run.joined ∙ at_rest run.front run.behind in
    let even_end : past class.Hex z 2 % 2 ≡ 0 = eqb-true (past class.Hex z 2 % 2) 0 m.even in
    let even : length run.front % 2 ≡ 0 = omega (arith, even_end, end) in
    let long : past class.Hex z 2 + 1 ≡ suc (suc (suc (length run.front))) = omega (arith, end) in
    bytes_by x y v run.front run.behind m.first m.second run.joined run.all (sym (ap (λ c. c == 39) there) ∙ m.third) even (past class.Hex z 2 + 1) long

-- ---- words and numbers

front_some : (p : ℕ → Bool) (x : ℕ) (w front behind : Text) → x ∷ w ≡ front ++ behind → p x ≡ true → starts p behind ≡ false → starts p front ≡ true
front_some p x w [] behind split first ends = absurd (true_false (sym first ∙ ap (starts p) split ∙ ends))
front_some p x w (f ∷ front) behind split first ends = sym (ap (starts p) split) ∙ first

starts_some : (p : ℕ → Bool) (front : Text) → starts p front ≡ true → front ≢ []
starts_some p front is none = false_true (sym (ap (starts p) none) ∙ is)

digits_begun : (x : ℕ) (w : Text) → is_ascii_digit x ≡ true → Begun (x ∷ w) k.Number (past class.Digit (x ∷ w) 0)
digits_begun x w e =
    let run = run_of (is_in class.Digit) (x ∷ w) in
    let cut : past class.Digit (x ∷ w) 0 ≡ length run.front = omega (arith, run.long) in
    record {
      spelling = run.front;
      behind = run.behind;
      joined = run.joined;
      long = cut;
      spelled = λ held is.
          Digits (starts_some (is_in class.Digit) run.front (front_some (is_in class.Digit) x w run.front run.behind run.joined e run.ends)) run.all refl (sym (same_some is));
    }

same_start : (p : ℕ → Bool) (x : ℕ) (w front behind : Text) → x ∷ w ≡ front ++ behind → p x ≡ false → starts p front ≡ false
same_start p x w [] behind split first = refl
same_start p x w (f ∷ front) behind split first = sym (ap (starts p) split) ∙ first

word_begun : (x : ℕ) (w : Text) → is_ascii_digit x ≡ false → is_in class.Word x ≡ true → (run : Run (is_in class.Word) (x ∷ w))
    → Begun (x ∷ w) (keyword run.front) (length run.front)
word_begun x w digit e run =
    let f = run.front in
    let letter : starts (is_in class.Word) f ≡ true = front_some (is_in class.Word) x w f run.behind run.joined e run.ends in
    let no_digit : starts is_ascii_digit f ≡ false = same_start is_ascii_digit x w f run.behind run.joined digit in
    record {
      spelling = f;
      behind = run.behind;
      joined = run.joined;
      long = refl;
      spelled = λ held is.
          Word (no_digit, letter, run.all) refl (same_some (sym is ∙ spelling_held (keyword f) f (x ∷ w) (keyword_plain f) (word_utf8 f run.all)));
    }

word_right : (x : ℕ) (w : Text) → is_ascii_digit x ≡ false → is_in class.Word x ≡ true → Right (x ∷ w) (word (x ∷ w))
word_right x w digit e =
    let run = run_of (is_in class.Word) (x ∷ w) in
    subst (Right (x ∷ w)) (sym (word_run (x ∷ w) run)) (known (word_begun x w digit e run))

-- ---- quotes

quoted_by : (q : ℕ) (kind : Kind) (make : Text → Content) → InQuotes q kind make
    → ((text s behind : Text) (held : Content) → IsUtf8 text → s ≡ in_quotes q text → starts (λ c. c == q) behind ≡ false → held ≡ make text → Spells kind held s behind)
    → (w : Text) (end : Option ℕ) → quote_end q false 1 w ≡ end → Right (q ∷ w) (kind_or_bad kind end)
quoted_by q kind make c tell w None is = bad (q ∷ w) 1
quoted_by q kind make c tell w (Some end) is =
    let closed = closed_by q 1 w end is in
    let text = closed.inside in
    let long : end ≡ length (in_quotes q text) = omega (arith, closed.long, quoted_length q text) in
    known (record {
      spelling = in_quotes q text;
      behind = closed.behind;
      joined = ap (λ t. q ∷ t) (closed.joined ∙ sym (append_assoc (with_quotes_doubled q text) (q ∷ []) closed.behind));
      long = long;
      spelled = λ held e.
          let told = utf8_told make text held
          (sym (c.holds (in_quotes q text) (q ∷ w) ∙ ap (λ t. option_map make (if_utf8 t)) (inside_quotes q text)) ∙ e) in
          tell text (in_quotes q text) closed.behind held told.utf8 refl closed.ends told.is;
    })

quoted_right : (q : ℕ) (kind : Kind) (make : Text → Content) → InQuotes q kind make
    → ((text s behind : Text) (held : Content) → IsUtf8 text → s ≡ in_quotes q text → starts (λ c. c == q) behind ≡ false → held ≡ make text → Spells kind held s behind)
    → (x : ℕ) (w : Text) → (x == q) ≡ true → Right (x ∷ w) (kind_or_bad kind (quote_end x false 1 w))
quoted_right q kind make c tell x w is =
    subst (λ y. Right (y ∷ w) (kind_or_bad kind (quote_end y false 1 w))) (sym (eqb-true x q is)) (quoted_by q kind make c tell w (quote_end q false 1 w) refl)

-- ---- symbols

symbol_begun : (kind : Kind) (s behind z : Text) → symbol kind ≡ Some s → is_plain kind ≡ true → z ≡ s ++ behind → Begun z kind (length s)
symbol_begun kind s behind z is plain split = record {
  spelling = s;
  behind = behind;
  joined = split;
  long = refl;
  spelled = λ held e. Symbol is (same_some (sym e ∙ spelling_held kind s z plain (symbol_utf8 kind s is)));
}

one : (kind : Kind) (a : ℕ) → symbol kind ≡ Some (a ∷ []) → is_plain kind ≡ true → (x : ℕ) (w : Text) → (x == a) ≡ true → Right (x ∷ w) (kind, 1)
one kind a is plain x w e = known (symbol_begun kind (a ∷ []) w (x ∷ w) is plain (ap (λ c. c ∷ w) (eqb-true x a e)))

two : (kind : Kind) (a b : ℕ) → symbol kind ≡ Some (a ∷ b ∷ []) → is_plain kind ≡ true → (0 == b) ≡ false → (x : ℕ) (w : Text) → (x == a) ≡ true
    → (slice_index w 0 == b) ≡ true → Right (x ∷ w) (kind, 2)
two kind a b is plain some x [] e next = absurd (true_false (sym next ∙ some))
two kind a b is plain some x (y ∷ w) e next =
    known (symbol_begun kind (a ∷ b ∷ []) w (x ∷ y ∷ w) is plain (ap (λ c. c ∷ y ∷ w) (eqb-true x a e) ∙ ap (λ c. a ∷ c ∷ w) (eqb-true y b next)))

two_of : (kind : Kind) (a b : ℕ) → symbol kind ≡ Some (a ∷ b ∷ []) → is_plain kind ≡ true → (0 == b) ≡ false → (x : ℕ) (w : Text)
    → (x == a && slice_index w 0 == b) ≡ true → Right (x ∷ w) (kind, 2)
two_of kind a b is plain some x w e =
    let parts = both_true (x == a) (slice_index w 0 == b) e in
    two kind a b is plain some x w parts.0 parts.1

digit_starts : (w : Text) (digit : Bool) → is_ascii_digit (slice_index w 0) ≡ digit → starts is_ascii_digit w ≡ digit
digit_starts [] digit e = e
digit_starts (d ∷ w) digit e = e

minus_by : (w : Text) (digit : Bool) → is_ascii_digit (slice_index w 0) ≡ digit → Right (45 ∷ w) (if digit then k.Signed else k.Minus, 1)
minus_by w true e =
    known (record {
      spelling = 45 ∷ [];
      behind = w;
      joined = refl;
      long = refl;
      spelled = λ held is. Sign refl (digit_starts w true e) refl (sym (same_some is) ∙ ap (λ t. Number (number t)) (digits_behind w));
    })
minus_by w false e =
    known (record {
      spelling = 45 ∷ [];
      behind = w;
      joined = refl;
      long = refl;
      spelled = λ held is. Minus refl (digit_starts w false e) refl
          (same_some (sym is ∙ spelling_held k.Minus (45 ∷ []) (45 ∷ w) refl (small_utf8 (45 ∷ []) refl)));
    })

minus_right : (x : ℕ) (w : Text) → (x == 45) ≡ true → Right (x ∷ w) (if is_ascii_digit (slice_index w 0) then k.Signed else k.Minus, 1)
minus_right x w is =
    subst (λ y. Right (y ∷ w) (if is_ascii_digit (slice_index w 0) then k.Signed else k.Minus, 1)) (sym (eqb-true x 45 is))
    (minus_by w (is_ascii_digit (slice_index w 0)) refl)

single_right : (x : ℕ) (w : Text) → Right (x ∷ w) (single x, 1)
single_right x w =
    let z = x ∷ w in
    one_if (x == 40) z (one k.LParen 40 refl refl x w) (one_if (x == 41) z (one k.RParen 41 refl refl x w)
    (one_if (x == 91) z (one k.LBracket 91 refl refl x w) (one_if (x == 93) z (one k.RBracket 93 refl refl x w)
    (one_if (x == 44) z (one k.Comma 44 refl refl x w) (one_if (x == 46) z (one k.Dot 46 refl refl x w)
    (one_if (x == 43) z (one k.Plus 43 refl refl x w) (one_if (x == 42) z (one k.Star 42 refl refl x w) (bad z 1))))))))

symbol_right : (x : ℕ) (w : Text) → Right (x ∷ w) (symbol_prefix x (slice_index w 0))
unfolding symbol_prefix
symbol_right x w =
    let z = x ∷ w in
    let next = slice_index w 0 in
    right_if (x == 60) z (λ e. right_if (next == 61) z (two k.LessEqual 60 61 refl refl refl x w e) (λ _. one k.Less 60 refl refl x w e))
    (λ _. right_if (x == 62) z (λ e. right_if (next == 61) z (two k.GreaterEqual 62 61 refl refl refl x w e) (λ _. one k.Greater 62 refl refl x w e))
    (λ _. right_if (x == 61) z (λ e. right_if (next == 61) z (two k.Equal 61 61 refl refl refl x w e) (λ _. one k.Assign 61 refl refl x w e))
    (λ _. right_if (x == 33 && next == 61) z (two_of k.NotEqual 33 61 refl refl refl x w)
    (λ _. right_if (x == 124 && next == 124) z (two_of k.Concat 124 124 refl refl refl x w)
    (λ _. right_if (x == 45) z (minus_right x w) (λ _. single_right x w))))))

-- ---- all tokens

front_right : (x : ℕ) (w : Text) → Right (x ∷ w) (token_prefix (x ∷ w))
unfolding token_prefix
front_right x w =
    let z = x ∷ w in
    right_if (is_bytes z) z (λ e. known (bytes_begun z e))
    (λ _. right_if (is_ascii_digit x) z (λ e. known (digits_begun x w e))
    (λ digit. right_if (is_in class.Word x) z (word_right x w digit)
    (λ _. right_if (x == 34) z (quoted_right 34 k.Quoted Name names (λ text s behind held utf8 is ends holds. QuotedName text utf8 is ends refl holds) x w)
    (λ _. right_if (x == 39) z
    (quoted_right 39 k.TextLiteral (λ t. Literal (value.Text t)) texts (λ text s behind held utf8 is ends holds. QuotedText text utf8 is ends refl holds) x w)
    (λ _. symbol_right x w)))))

pub begun : (x : ℕ) (w : Text) → same_kind (token_prefix (x ∷ w)).0 k.Bad ≡ false → Begun (x ∷ w) (token_prefix (x ∷ w)).0 (token_prefix (x ∷ w)).1
begun x w good = (front_right x w).run good
