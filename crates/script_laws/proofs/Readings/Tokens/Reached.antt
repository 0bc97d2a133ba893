-- Whatever is spelled at the front of a text, the prefix that is cut of it reaches as far.
use Rattle.std.proofs.Common.{◌≡◌, ◌≢◌, ◌⊎◌, inl, inr, ℕ, zero, suc, ◌+◌, ◌≤◌, ◌%◌, Bool, true, false, ◌&&◌, if◌then◌else◌, ◌==◌, [], ◌∷◌, ◌++◌, length, take, slice_index, codes, take_while, Option, Some, None, option_map, IsUtf8, refl, ap, sym, subst, ◌∙◌, append_assoc, length-append, arith}
use Rattle.std.proofs.Math.Seq.{take-append_seam, get_or-append_seam}
use Rattle.std.proofs.lemmas.Bool.{eqb-true, eq-eqb}
use Rattle.std.specs.Char.{is_ascii_digit}
use Rattle.std.specs.List.{prefix_len}
use Rattle.base_core.specs.declared.value.Value.TheVariants as value
use Rattle.script_lex.specs.declared.kind.Kind.{Kind}
use Rattle.script_lex.specs.declared.kind.Kind.TheVariants as k
use Rattle.script_lex.specs.declared.token.Content.{Content}
use Rattle.script_lex.specs.declared.token.Content.TheVariants.{Name, Number, Literal}
use Rattle.script_lex.specs.declared.shape.Class.TheVariants as class
use Rattle.script_lex.specs.Shape.{Text, is_in, past, keyword, word, quote_end, kind_or_bad, symbol as symbol_prefix, is_bytes, token_prefix}
use Rattle.script_lex.specs.Content.{content, content_by, if_utf8, undouble, inside, number, bytes_of_hex, signed_digits}
use Rattle.script_lex.specs.Lex.{same_kind}
use Rattle.script_laws.specs.Readings.Tokens.Spelling.{every, starts, with_quotes_doubled, in_quotes, IsWord, symbol, Spells, Word, QuotedName, QuotedText, QuotedBytes, Digits, Sign, Minus, Symbol}
use Rattle.script_laws.proofs.Readings.Tokens.Runs.{false_true, both_true, if_true, if_false, apart, Run, run_of, passes_along, run_length, same_some, none_some}
use Rattle.script_laws.proofs.Readings.Tokens.Quotes.{closes_there, undoes_doubling}
use Rattle.script_laws.proofs.Readings.Tokens.Words.{plain_good, keyword_plain, symbol_plain, word_utf8, is_small, small_utf8, utf8_kept, spelling_held, content_at, within_marks, same_front}

-- what is cut of a text of which the first n bytes are spelled: more bytes, or these as this token
pub record Reached (z : Text) (n : ℕ) (kind : Kind) (held : Content) : Type 0 where
  pub found : Kind
  pub len : ℕ
  pub what : Content
  pub is : token_prefix z ≡ (found, len)
  pub good : same_kind found k.Bad ≡ false
  pub holds : content found len z ≡ Some what
  pub far : (suc n ≤ len) ⊎ ((n ≡ len) × (kind ≡ found) × (held ≡ what))

exact : (kind : Kind) (held : Content) (s b : Text) → token_prefix (s ++ b) ≡ (kind, length s) → same_kind kind k.Bad ≡ false
    → content_by kind s (s ++ b) ≡ Some held → Reached (s ++ b) (length s) kind held
exact kind held s b front good holds = record {
  found = kind;
  len = length s;
  what = held;
  is = front;
  good = good;
  holds = content_at kind (length s) s b refl ∙ holds;
  far = inr (refl, refl, refl);
}

-- ---- words and numbers

-- the marks of bytes
pub record Marks (z : Text) : Type 0 where
  pub first : (slice_index z 0 == 120) ≡ true
  pub second : (slice_index z 1 == 39) ≡ true
  pub third : (slice_index z (past class.Hex z 2) == 39) ≡ true
  pub even : (past class.Hex z 2 % 2 == 0) ≡ true

pub marks : (z : Text) → is_bytes z ≡ true → Marks z
marks z e =
    let a = slice_index z 0 == 120 in
    let b = slice_index z 1 == 39 in
    let c = slice_index z (past class.Hex z 2) == 39 in
    let d = past class.Hex z 2 % 2 == 0 in
    let all = both_true ((a && b) && c) d e in
    let three = both_true (a && b) c all.0 in
    let two = both_true a b three.0 in
    record { first = two.0; second = two.1; third = three.1; even = all.1 }

pub no_marks : (x : ℕ) (w : Text) → (x == 120) ≡ false → is_bytes (x ∷ w) ≡ false
no_marks x w e =
    let z = x ∷ w in
    ap (λ c. ((c && slice_index z 1 == 39) && slice_index z (past class.Hex z 2) == 39) && past class.Hex z 2 % 2 == 0) e

digit_no_mark : (x : ℕ) → is_ascii_digit x ≡ true → (x == 120) ≡ false
digit_no_mark x e = grind arith

front_bytes : (z : Text) → is_bytes z ≡ true → token_prefix z ≡ (k.BytesLiteral, past class.Hex z 2 + 1)
unfolding token_prefix
front_bytes z e = if_true (is_bytes z) _ _ e

front_digits : (x : ℕ) (w : Text) → is_ascii_digit x ≡ true → token_prefix (x ∷ w) ≡ (k.Number, past class.Digit (x ∷ w) 0)
unfolding token_prefix
front_digits x w e = if_false (is_bytes (x ∷ w)) _ _ (no_marks x w (digit_no_mark x e)) ∙ if_true (is_ascii_digit x) _ _ e

front_word : (x : ℕ) (w : Text) → is_bytes (x ∷ w) ≡ false → is_ascii_digit x ≡ false → is_in class.Word x ≡ true → token_prefix (x ∷ w) ≡ word (x ∷ w)
unfolding token_prefix
front_word x w bytes digit e = if_false (is_bytes (x ∷ w)) _ _ bytes ∙ if_false (is_ascii_digit x) _ _ digit ∙ if_true (is_in class.Word x) _ _ e

pub word_run : (z : Text) (run : Run (is_in class.Word) z) → word z ≡ (keyword run.front, length run.front)
word_run z run =
    let cut : past class.Word z 0 ≡ length run.front = omega (arith, run.long) in
    ap (λ n. (keyword (take n z), n)) cut
    ∙ ap (λ t. (keyword t, length run.front)) (ap (take (length run.front)) run.joined ∙ take-append_seam run.front run.behind)

far_by : (p : ℕ → Bool) (s b : Text) (run : Run p (s ++ b)) → every p s ≡ true → (n : ℕ) → prefix_len p b ≡ n → (suc (length s) ≤ length run.front) ⊎ (s ≡ run.front)
far_by p s b run all zero is =
    let long : length s ≡ length run.front = omega (arith, run.long, passes_along p s b all, is) in
    inr (same_front s b run.front run.behind run.joined long)
far_by p s b run all (suc n) is =
    let long : suc (length s) ≤ length run.front = omega (arith, run.long, passes_along p s b all, is) in
    inl long

-- a front that passes ends where the run does, or before
far_of : (p : ℕ → Bool) (s b : Text) (run : Run p (s ++ b)) → every p s ≡ true → (suc (length s) ≤ length run.front) ⊎ (s ≡ run.front)
far_of p s b run all = far_by p s b run all (prefix_len p b) refl

far_as : (s f : Text) (tell : Text → Kind) (make : Text → Content) → (suc (length s) ≤ length f) ⊎ (s ≡ f)
    → (suc (length s) ≤ length f) ⊎ ((length s ≡ length f) × (tell s ≡ tell f) × (make s ≡ make f))
far_as s f tell make (inl more) = inl more
far_as s f tell make (inr same) = inr (ap length same, ap tell same, ap make same)

no_more : (x : ℕ) (w b : Text) → every (is_in class.Word) w ≡ true → is_bytes (x ∷ (w ++ b)) ≡ true → length w ≡ 0
no_more x [] b all e = refl
no_more x (y ∷ w) b all e =
    absurd (apart (is_in class.Word) y 39 (both_true (is_in class.Word y) (every (is_in class.Word) w) all).0 refl
    (eqb-true y 39 (marks (x ∷ y ∷ (w ++ b)) e).second))

pub bytes_good : same_kind k.BytesLiteral k.Bad ≡ false
unfolding same_kind
bytes_good = refl

word_by : (x : ℕ) (w b : Text) → is_ascii_digit x ≡ false → is_in class.Word x ≡ true → every (is_in class.Word) (x ∷ w) ≡ true → (bytes : Bool)
    → is_bytes (x ∷ (w ++ b)) ≡ bytes → Reached (x ∷ (w ++ b)) (length (x ∷ w)) (keyword (x ∷ w)) (Name (x ∷ w))
unfolding content
word_by x w b digit first all true e =
    let z = x ∷ (w ++ b) in
    let none : length w ≡ 0 = no_more x w b (both_true (is_in class.Word x) (every (is_in class.Word) w) all).1 e in
    let more : suc (suc (length w)) ≤ past class.Hex z 2 + 1 = omega (arith, none) in
    record {
      found = k.BytesLiteral;
      len = past class.Hex z 2 + 1;
      what = Literal (value.Bytes (bytes_of_hex (inside 2 (take (past class.Hex z 2 + 1) z))));
      is = front_bytes z e;
      good = bytes_good;
      holds = refl;
      far = inl more;
    }
word_by x w b digit first all false e =
    let z = x ∷ (w ++ b) in
    let run : Run (is_in class.Word) ((x ∷ w) ++ b) = run_of (is_in class.Word) z in
    let f = run.front in
    let kind = keyword f in
    record {
      found = kind;
      len = length f;
      what = Name f;
      is = front_word x (w ++ b) e digit first ∙ word_run z run;
      good = plain_good kind (keyword_plain f);
      holds = ap (content kind (length f)) run.joined ∙ content_at kind (length f) f run.behind refl
          ∙ spelling_held kind f (f ++ run.behind) (keyword_plain f) (word_utf8 f run.all);
      far = far_as (x ∷ w) f keyword Name (far_of (is_in class.Word) (x ∷ w) b run all);
    }

reached_word : (s b : Text) → IsWord s → Reached (s ++ b) (length s) (keyword s) (Name s)
reached_word [] b is = absurd (false_true is.1)
reached_word (x ∷ w) b is = word_by x w b is.0 is.1 is.2 (is_bytes (x ∷ (w ++ b))) refl

pub number_good : same_kind k.Number k.Bad ≡ false
unfolding same_kind
number_good = refl

reached_digits : (s b : Text) → s ≢ [] → every (is_in class.Digit) s ≡ true → Reached (s ++ b) (length s) k.Number (Number (number s))
reached_digits [] b some all = absurd (some refl)
reached_digits (x ∷ w) b some all =
    let z = x ∷ (w ++ b) in
    let run : Run (is_in class.Digit) ((x ∷ w) ++ b) = run_of (is_in class.Digit) z in
    let f = run.front in
    let cut : past class.Digit z 0 ≡ length f = omega (arith, run.long) in
    record {
      found = k.Number;
      len = length f;
      what = Number (number f);
      is = front_digits x (w ++ b) (both_true (is_in class.Digit x) (every (is_in class.Digit) w) all).0 ∙ ap (λ n. (k.Number, n)) cut;
      good = number_good;
      holds = ap (content k.Number (length f)) run.joined ∙ content_at k.Number (length f) f run.behind refl;
      far = far_as (x ∷ w) f (λ _. k.Number) (λ t. Number (number t)) (far_of (is_in class.Digit) (x ∷ w) b run all);
    }

-- ---- quotes

-- a kind of tokens in quotes: how their prefix is found, and what they hold
pub record InQuotes (q : ℕ) (kind : Kind) (make : Text → Content) : Type 0 where
  pub some : q ≡ 0 → ⊥
  pub good : same_kind kind k.Bad ≡ false
  pub front : (w : Text) → token_prefix (q ∷ w) ≡ kind_or_bad kind (quote_end q false 1 w)
  pub holds : (s z : Text) → content_by kind s z ≡ option_map make (if_utf8 (undouble q false (inside 1 s)))

pub names : InQuotes 34 k.Quoted Name
unfolding token_prefix same_kind
names = record { some = λ e. cc; good = refl; front = λ w. refl; holds = λ s z. refl }

pub texts : InQuotes 39 k.TextLiteral (λ t. Literal (value.Text t))
unfolding token_prefix same_kind
texts = record { some = λ e. cc; good = refl; front = λ w. refl; holds = λ s z. refl }

pub quoted_length : (q : ℕ) (text : Text) → length (in_quotes q text) ≡ suc (suc (length (with_quotes_doubled q text)))
quoted_length q text = omega (arith, length-append (with_quotes_doubled q text) (q ∷ []))

pub inside_quotes : (q : ℕ) (text : Text) → undouble q false (inside 1 (in_quotes q text)) ≡ text
inside_quotes q text =
    let long : length (in_quotes q text) ≡ 1 + suc (length (with_quotes_doubled q text)) = omega (arith, quoted_length q text) in
    ap (undouble q false) (within_marks 1 q (in_quotes q text) (with_quotes_doubled q text) refl long) ∙ undoes_doubling q text

reached_quoted : (q : ℕ) (kind : Kind) (make : Text → Content) → InQuotes q kind make → (text b : Text) → IsUtf8 text → starts (λ c. c == q) b ≡ false
    → Reached (in_quotes q text ++ b) (length (in_quotes q text)) kind (make text)
reached_quoted q kind make c text b is ends =
    let d = with_quotes_doubled q text in
    let cut : 1 + length d + 1 ≡ length (in_quotes q text) = omega (arith, quoted_length q text) in
    exact kind (make text) (in_quotes q text) b
    (c.front ((d ++ q ∷ []) ++ b) ∙ ap (λ w. kind_or_bad kind (quote_end q false 1 w)) (append_assoc d (q ∷ []) b)
    ∙ ap (kind_or_bad kind) (closes_there q c.some text b ends 1) ∙ ap (λ n. (kind, n)) cut)
    c.good
    (c.holds (in_quotes q text) (in_quotes q text ++ b) ∙ ap (λ t. option_map make (if_utf8 t)) (inside_quotes q text) ∙ ap (option_map make) (utf8_kept text is))

-- ---- bytes

abbrev pub bytes_spelling : Text → Text
bytes_spelling digits = codes "x'" ++ (digits ++ codes "'")

pub bytes_length : (digits : Text) → length (bytes_spelling digits) ≡ suc (suc (suc (length digits)))
bytes_length digits = omega (arith, length-append digits (39 ∷ []))

pub inside_bytes : (digits : Text) → inside 2 (bytes_spelling digits) ≡ digits
inside_bytes digits =
    let long : length (bytes_spelling digits) ≡ 2 + suc (length digits) = omega (arith, bytes_length digits) in
    within_marks 2 39 (bytes_spelling digits) digits refl long

reached_bytes : (digits b : Text) → every (is_in class.Hex) digits ≡ true → length digits % 2 ≡ 0
    → Reached (bytes_spelling digits ++ b) (length (bytes_spelling digits)) k.BytesLiteral (Literal (value.Bytes (bytes_of_hex digits)))
reached_bytes digits b all even =
    let w = digits ++ 39 ∷ b in
    let z = 120 ∷ 39 ∷ w in
    let split : bytes_spelling digits ++ b ≡ z = ap (λ t. 120 ∷ 39 ∷ t) (append_assoc digits (39 ∷ []) b) in
    let end : past class.Hex z 2 ≡ suc (suc (length digits)) = omega (arith, run_length (is_in class.Hex) digits (39 ∷ b) all refl) in
    let even_end : suc (suc (length digits)) % 2 ≡ 0 = omega (arith, even) in
    let are : is_bytes z ≡ true =
    ap (λ n. slice_index z n == 39 && n % 2 == 0) end ∙ ap (λ c. c == 39 && suc (suc (length digits)) % 2 == 0) (get_or-append_seam digits 39 b 0)
    ∙ eq-eqb (suc (suc (length digits)) % 2) 0 even_end in
    let cut : past class.Hex z 2 + 1 ≡ length (bytes_spelling digits) = omega (arith, end, bytes_length digits) in
    exact k.BytesLiteral (Literal (value.Bytes (bytes_of_hex digits))) (bytes_spelling digits) b
    (ap token_prefix split ∙ front_bytes z are ∙ ap (λ n. (k.BytesLiteral, n)) cut) bytes_good
    (ap (λ t. Some (Literal (value.Bytes (bytes_of_hex t)))) (inside_bytes digits))

-- ---- a minus

pub signed_good : same_kind k.Signed k.Bad ≡ false
unfolding same_kind
signed_good = refl

pub digits_behind : (b : Text) → signed_digits (45 ∷ b) ≡ take_while is_ascii_digit b
digits_behind b = let same : 0 + prefix_len is_ascii_digit b ≡ prefix_len is_ascii_digit b = omega arith in ap (λ n. take n b) same

pub front_minus : (b : Text) → token_prefix (45 ∷ b) ≡ (if is_ascii_digit (slice_index b 0) then k.Signed else k.Minus, 1)
unfolding token_prefix symbol_prefix
front_minus b = refl

pub starts_digit : (b : Text) (digit : Bool) → starts is_ascii_digit b ≡ digit → is_ascii_digit (slice_index b 0) ≡ digit
starts_digit [] digit e = e
starts_digit (d ∷ b) digit e = e

reached_sign : (b : Text) → starts is_ascii_digit b ≡ true → Reached (45 ∷ b) 1 k.Signed (Number (number (take_while is_ascii_digit b)))
reached_sign b e =
    exact k.Signed (Number (number (take_while is_ascii_digit b))) (45 ∷ []) b
    (front_minus b ∙ ap (λ c. (if c then k.Signed else k.Minus, 1)) (starts_digit b true e)) signed_good
    (ap (λ t. Some (Number (number t))) (digits_behind b))

minus_utf8 : IsUtf8 (45 ∷ [])
minus_utf8 = small_utf8 (45 ∷ []) refl

reached_minus : (b : Text) → starts is_ascii_digit b ≡ false → Reached (45 ∷ b) 1 k.Minus (Name (45 ∷ []))
reached_minus b e =
    exact k.Minus (Name (45 ∷ [])) (45 ∷ []) b (front_minus b ∙ ap (λ c. (if c then k.Signed else k.Minus, 1)) (starts_digit b false e)) (plain_good k.Minus refl)
    (spelling_held k.Minus (45 ∷ []) (45 ∷ b) refl minus_utf8)

-- ---- symbols

abbrev spelled_small : Option Text → Bool
spelled_small None = true
spelled_small (Some t) = every is_small t

all_small : (kind : Kind) → spelled_small (symbol kind) ≡ true
all_small k.LParen = refl
all_small _ = refl

pub symbol_utf8 : (kind : Kind) (s : Text) → symbol kind ≡ Some s → IsUtf8 s
symbol_utf8 kind s e = small_utf8 s (sym (ap spelled_small e) ∙ all_small kind)

-- what is cut of a text that begins with a symbol: it, or a longer one
data Front (kind : Kind) (s b : Text) : Type 0 where
  Exact : token_prefix (s ++ b) ≡ (kind, length s) → Front kind s b
  Longer : (other : Kind) (t r : Text) → symbol other ≡ Some t → s ++ b ≡ t ++ r → suc (length s) ≤ length t → token_prefix (t ++ r) ≡ (other, length t) → Front kind s b

before_mark : (kind wider : Kind) (x y : ℕ) (r : Text) (is : Bool) → (y == 61) ≡ is → symbol wider ≡ Some (x ∷ 61 ∷ [])
    → ((c : ℕ) → token_prefix (x ∷ c ∷ r) ≡ (if c == 61 then (wider, 2) else (kind, 1))) → Front kind (x ∷ []) (y ∷ r)
before_mark kind wider x y r true is two front =
    let more : suc 1 ≤ 2 = omega arith in
    Longer wider (x ∷ 61 ∷ []) r two (ap (λ c. x ∷ c ∷ r) (eqb-true y 61 is)) more (front 61)
before_mark kind wider x y r false is two front = Exact (front y ∙ if_false (y == 61) _ _ is)

less_front : (b : Text) → Front k.Less (60 ∷ []) b
unfolding token_prefix symbol_prefix
less_front [] = Exact refl
less_front (y ∷ r) = before_mark k.Less k.LessEqual 60 y r (y == 61) refl refl (λ c. refl)

greater_front : (b : Text) → Front k.Greater (62 ∷ []) b
unfolding token_prefix symbol_prefix
greater_front [] = Exact refl
greater_front (y ∷ r) = before_mark k.Greater k.GreaterEqual 62 y r (y == 61) refl refl (λ c. refl)

assign_front : (b : Text) → Front k.Assign (61 ∷ []) b
unfolding token_prefix symbol_prefix
assign_front [] = Exact refl
assign_front (y ∷ r) = before_mark k.Assign k.Equal 61 y r (y == 61) refl refl (λ c. refl)

front_as : (kind : Kind) (t s b : Text) → Some t ≡ Some s → Front kind t b → Front kind s b
front_as kind t s b e front = subst (λ u. Front kind u b) (same_some e) front

symbol_front : (kind : Kind) (s b : Text) → symbol kind ≡ Some s → Front kind s b
unfolding token_prefix symbol_prefix
symbol_front k.LParen s b e = front_as k.LParen (40 ∷ []) s b e (Exact refl)
symbol_front k.RParen s b e = front_as k.RParen (41 ∷ []) s b e (Exact refl)
symbol_front k.LBracket s b e = front_as k.LBracket (91 ∷ []) s b e (Exact refl)
symbol_front k.RBracket s b e = front_as k.RBracket (93 ∷ []) s b e (Exact refl)
symbol_front k.Comma s b e = front_as k.Comma (44 ∷ []) s b e (Exact refl)
symbol_front k.Dot s b e = front_as k.Dot (46 ∷ []) s b e (Exact refl)
symbol_front k.Plus s b e = front_as k.Plus (43 ∷ []) s b e (Exact refl)
symbol_front k.Star s b e = front_as k.Star (42 ∷ []) s b e (Exact refl)
symbol_front k.Assign s b e = front_as k.Assign (61 ∷ []) s b e (assign_front b)
symbol_front k.Less s b e = front_as k.Less (60 ∷ []) s b e (less_front b)
symbol_front k.Greater s b e = front_as k.Greater (62 ∷ []) s b e (greater_front b)
symbol_front k.Equal s b e = front_as k.Equal (61 ∷ 61 ∷ []) s b e (Exact refl)
symbol_front k.NotEqual s b e = front_as k.NotEqual (33 ∷ 61 ∷ []) s b e (Exact refl)
symbol_front k.LessEqual s b e = front_as k.LessEqual (60 ∷ 61 ∷ []) s b e (Exact refl)
symbol_front k.GreaterEqual s b e = front_as k.GreaterEqual (62 ∷ 61 ∷ []) s b e (Exact refl)
symbol_front k.Concat s b e = front_as k.Concat (124 ∷ 124 ∷ []) s b e (Exact refl)
symbol_front _ s b e = absurd (none_some e)

symbol_by : (kind : Kind) (s b : Text) → symbol kind ≡ Some s → Front kind s b → Reached (s ++ b) (length s) kind (Name s)
symbol_by kind s b e (Exact front) =
    exact kind (Name s) s b front (plain_good kind (symbol_plain kind s e)) (spelling_held kind s (s ++ b) (symbol_plain kind s e) (symbol_utf8 kind s e))
symbol_by kind s b e (Longer other t r so split more front) = record {
  found = other;
  len = length t;
  what = Name t;
  is = ap token_prefix split ∙ front;
  good = plain_good other (symbol_plain other t so);
  holds = ap (content other (length t)) split ∙ content_at other (length t) t r refl
      ∙ spelling_held other t (t ++ r) (symbol_plain other t so) (symbol_utf8 other t so);
  far = inl more;
}

-- ---- all tokens

moved : (s b t : Text) (kind other : Kind) (held what : Content) → s ≡ t → kind ≡ other → held ≡ what → Reached (t ++ b) (length t) other what
    → Reached (s ++ b) (length s) kind held
moved s b t kind other held what is same holds r =
    subst (λ u. Reached (u ++ b) (length u) kind held) (sym is)
    (subst (λ x. Reached (t ++ b) (length t) x held) (sym same) (subst (λ x. Reached (t ++ b) (length t) other x) (sym holds) r))

pub reached : (kind : Kind) (held : Content) (s b : Text) → Spells kind held s b → Reached (s ++ b) (length s) kind held
reached kind held s b (Word is same holds) = moved s b s kind (keyword s) held (Name s) refl same holds (reached_word s b is)
reached kind held s b (QuotedName name utf8 is ends same holds) =
    moved s b (in_quotes 34 name) kind k.Quoted held (Name name) is same holds (reached_quoted 34 k.Quoted Name names name b utf8 ends)
reached kind held s b (QuotedText text utf8 is ends same holds) =
    moved s b (in_quotes 39 text) kind k.TextLiteral held (Literal (value.Text text)) is same holds
    (reached_quoted 39 k.TextLiteral (λ t. Literal (value.Text t)) texts text b utf8 ends)
reached kind held s b (QuotedBytes digits all even is same holds) =
    moved s b (bytes_spelling digits) kind k.BytesLiteral held (Literal (value.Bytes (bytes_of_hex digits))) is same holds (reached_bytes digits b all even)
reached kind held s b (Digits some all same holds) = moved s b s kind k.Number held (Number (number s)) refl same holds (reached_digits s b some all)
reached kind held s b (Sign is digit same holds) =
    moved s b (45 ∷ []) kind k.Signed held (Number (number (take_while is_ascii_digit b))) is same holds (reached_sign b digit)
reached kind held s b (Minus is digit same holds) =
    let name : held ≡ Name (45 ∷ []) = holds ∙ ap Name is in
    moved s b (45 ∷ []) kind k.Minus held (Name (45 ∷ [])) is same name (reached_minus b digit)
reached kind held s b (Symbol is holds) = moved s b s kind kind held (Name s) refl refl holds (symbol_by kind s b is (symbol_front kind s b is))
