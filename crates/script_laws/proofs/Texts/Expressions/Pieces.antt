-- What is written piece by piece: a text and its values, split as its pieces are.
use Rattle.std.proofs.Common.{◌≡◌, ℕ, zero, suc, ◌+◌, ◌/◌, ◌%◌, ◌<◌, ◌++◌, ◌==◌, Bool, true, false, not, ◌&&◌, ◌||◌, cond, List, [], ◌∷◌, map, codes, refl, sym, ap, subst, ◌∙◌, append_assoc, append-nil, arith}
use Rattle.std.specs.Prelude.{decimal, nat_lt}
use Rattle.std.specs.List.{list_all}
use Rattle.std.specs.Fmt.{digits, digits_onto, digit_glyph}
use Rattle.std.proofs.lemmas.Bool.{le-ltb, lt-ltb}
use Rattle.std.proofs.lemmas.List.Folds.{list_all-append}
use Rattle.std.proofs.lemmas.Nat.{mod_below}
use Rattle.base_core.specs.declared.value.Value.{Value}
use Rattle.base_core.specs.declared.dialect.Dialect.{Dialect}
use Rattle.base_core.specs.declared.dialect.Dialect.TheVariants.{Sqlite, Postgresql, Mysql}
use Rattle.sql_text.specs.Names.{needs_quotes, quoted_name, name_text, is_lower, is_upper, is_digit, cleaned_byte}
use Rattle.sql_text.specs.Written.{Piece, words, name, value, Written, put_piece, put_all, mark_text, next_name, uses_of, mark_name}
use Rattle.script_laws.specs.Texts.Grammar.Reads.{IsName, bare, in_quotes, IsMark, question, labelled, format, is_label_byte}

-- the pieces, written in order
pub data Writes (q : Dialect) : List Piece → List ℕ → List Value → Type 0 where
  ended : Writes q [] [] []
  of_words : {word : List ℕ} {ps : List Piece} {t : List ℕ} {v : List Value} → Writes q ps t v → Writes q (words word ∷ ps) (word ++ t) v
  of_name : {n a : List ℕ} {ps : List Piece} {t : List ℕ} {v : List Value} → IsName q a n → Writes q ps t v → Writes q (name n ∷ ps) (a ++ t) v
  of_value : {base m : List ℕ} {x : Value} {ps : List Piece} {t : List ℕ} {v : List Value} → IsMark q m → Writes q ps t v → Writes q (value base x ∷ ps) (m ++ t) (x ∷ v)

-- a property of a text and its values
abbrev pub OfText : Type 1
OfText = List ℕ → List Value → Type 0

module _ {q : Dialect} where
  -- ---- parts

  -- behind some words
  pub after_words : (G : OfText) {word : List ℕ} {ps : List Piece} {t : List ℕ} {v : List Value} → Writes q (words word ∷ ps) t v
      → ((r : List ℕ) → Writes q ps r v → G (word ++ r) v) → G t v
  after_words G (of_words {t = r} w) go = go r w

  pub after_name : (G : OfText) {n : List ℕ} {ps : List Piece} {t : List ℕ} {v : List Value} → Writes q (name n ∷ ps) t v
      → ((a r : List ℕ) → IsName q a n → Writes q ps r v → G (a ++ r) v) → G t v
  after_name G (of_name {a = a} {t = r} n w) go = go a r n w

  pub after_value : (G : OfText) {base : List ℕ} {x : Value} {ps : List Piece} {t : List ℕ} {v : List Value} → Writes q (value base x ∷ ps) t v
      → ((m r : List ℕ) (u : List Value) → IsMark q m → Writes q ps r u → G (m ++ r) (x ∷ u)) → G t v
  after_value G (of_value {m = m} {t = r} {v = u} is w) go = go m r u is w

  pub at_end : (G : OfText) {t : List ℕ} {v : List Value} → Writes q [] t v → G [] [] → G t v
  at_end G ended g = g

  pub split : (G : OfText) (ps qs : List Piece) {t : List ℕ} {v : List Value} → Writes q (ps ++ qs) t v
      → ((a b : List ℕ) (u w : List Value) → Writes q ps a u → Writes q qs b w → G (a ++ b) (u ++ w)) → G t v
  split G [] qs {t} {v} w go = go [] t [] v ended w
  split G (words word ∷ ps) qs w go =
      after_words G w (λ r rest. split (λ t v. G (word ++ t) v) ps qs rest (λ a b u w one two. subst (λ t. G t (u ++ w)) (append_assoc word a b) (go (word ++ a) b u w (of_words one) two)))
  split G (name n ∷ ps) qs w go =
      after_name G w
      (λ c r is rest. split (λ t v. G (c ++ t) v) ps qs rest (λ a b u w one two. subst (λ t. G t (u ++ w)) (append_assoc c a b) (go (c ++ a) b u w (of_name is one) two)))
  split G (value base x ∷ ps) qs w go =
      after_value G w
      (λ m r v is rest. split (λ t v. G (m ++ t) (x ∷ v)) ps qs rest (λ a b u w one two. subst (λ t. G t (x ∷ (u ++ w))) (append_assoc m a b) (go (m ++ a) b (x ∷ u) w (of_value is one) two)))

  -- up to some words at the end
  pub before_words : (G : OfText) (ps : List Piece) (word : List ℕ) {t : List ℕ} {v : List Value} → Writes q (ps ++ words word ∷ []) t v
      → ((a : List ℕ) (u : List Value) → Writes q ps a u → G (a ++ word) u) → G t v
  before_words G [] word w go = after_words G w (λ r rest. at_end (λ t v. G (word ++ t) v) rest (subst (λ t. G t []) (sym (append-nil word)) (go [] [] ended)))
  before_words G (words past ∷ ps) word w go =
      after_words G w (λ r rest. before_words (λ t v. G (past ++ t) v) ps word rest (λ a u one. subst (λ t. G t u) (append_assoc past a word) (go (past ++ a) u (of_words one))))
  before_words G (name n ∷ ps) word w go =
      after_name G w (λ c r is rest. before_words (λ t v. G (c ++ t) v) ps word rest (λ a u one. subst (λ t. G t u) (append_assoc c a word) (go (c ++ a) u (of_name is one))))
  before_words G (value base x ∷ ps) word w go =
      after_value G w
      (λ m r v is rest. before_words (λ t u. G (m ++ t) (x ∷ u)) ps word rest (λ a u one. subst (λ t. G t (x ∷ u)) (append_assoc m a word) (go (m ++ a) (x ∷ u) (of_value is one))))

-- ---- what is written is written in order

written_name_by : (q : Dialect) (n : List ℕ) (b : Bool) → needs_quotes n ≡ b → IsName q (cond b (quoted_name q n) n) n
written_name_by q n true is = in_quotes
written_name_by q n false is = bare is

written_name : (q : Dialect) (n : List ℕ) → IsName q (name_text q n) n
unfolding name_text
written_name q n = written_name_by q n (needs_quotes n) refl

-- the bytes of labels
among : (l u d o : Bool) → d ≡ true → (l || u || d || o) ≡ true
among true u d o is = refl
among false true d o is = refl
among false false true o is = refl
among false false false o is = absurd (cc)

digit_by : (a b : Bool) → a ≡ false → b ≡ false → (not a && not b) ≡ true
digit_by false false e f = refl
digit_by false true e f = absurd (cc)
digit_by true b e f = absurd (cc)

label_digit : (d : ℕ) → d < 10 → is_label_byte (48 + d) ≡ true
label_digit d h =
    among (is_lower (48 + d)) (is_upper (48 + d)) (is_digit (48 + d)) (48 + d == 95)
    (digit_by (nat_lt (48 + d) 48) (nat_lt 57 (48 + d)) (le-ltb (48 + d) 48 (omega arith)) (le-ltb 57 (48 + d) (omega (arith, h))))

label_glyph : (d : ℕ) → d < 10 → is_label_byte (digit_glyph false d) ≡ true
label_glyph d h = ap (λ (b : Bool). is_label_byte (cond b (48 + d) (87 + d))) (lt-ltb d 10 h) ∙ label_digit d h

pub and_both : (a b : Bool) → a ≡ true → b ≡ true → (a && b) ≡ true
and_both true b e f = f
and_both false b e f = absurd (cc)

either_way : (b : Bool) (xs ys : List ℕ) → list_all is_label_byte xs ≡ true → list_all is_label_byte ys ≡ true → list_all is_label_byte (cond b xs ys) ≡ true
either_way true xs ys one other = one
either_way false xs ys one other = other

label_digits : (k n : ℕ) (past : List ℕ) → list_all is_label_byte past ≡ true → list_all is_label_byte (digits_onto k 10 false n past) ≡ true
label_digits zero n past is = is
label_digits (suc k) n past is =
    let glyph : list_all is_label_byte (digit_glyph false (n % 10) ∷ past) ≡ true =
    and_both (is_label_byte (digit_glyph false (n % 10))) (list_all is_label_byte past) (label_glyph (n % 10) (mod_below n 10 (omega arith))) is in
    either_way (n / 10 == 0) _ _ glyph (label_digits k (n / 10) (digit_glyph false (n % 10) ∷ past) glyph)

label_decimal : (n : ℕ) → list_all is_label_byte (decimal n) ≡ true
unfolding digits
label_decimal n = label_digits 64 n [] refl

cleaned_by : (b : Bool) (c : ℕ) → is_label_byte c ≡ b → is_label_byte (cond b c 95) ≡ true
cleaned_by true c is = is
cleaned_by false c is = refl

label_base : (base : List ℕ) → list_all is_label_byte (map cleaned_byte base) ≡ true
label_base [] = refl
label_base (c ∷ cs) = and_both (is_label_byte (cleaned_byte c)) (list_all is_label_byte (map cleaned_byte cs)) (cleaned_by (is_label_byte c) c refl) (label_base cs)

label_of : (base : List ℕ) (n : ℕ) → list_all is_label_byte (mark_name (map cleaned_byte base) n) ≡ true
label_of base n =
    list_all-append is_label_byte (map cleaned_byte base) (codes "_" ++ decimal n)
    ∙ and_both (list_all is_label_byte (map cleaned_byte base)) (list_all is_label_byte (codes "_" ++ decimal n)) (label_base base) (label_decimal n)

written_mark : (q : Dialect) (base : List ℕ) (n : ℕ) → IsMark q (mark_text q (mark_name (map cleaned_byte base) n))
written_mark Sqlite base n = question
written_mark Postgresql base n = labelled (mark_name (map cleaned_byte base) n) (label_of base n)
written_mark Mysql base n = format

-- pieces behind what was written
pub all_written : (G : OfText) (w : Written) (ps : List Piece) → ((t : List ℕ) (v : List Value) → Writes w.dialect ps t v → G (w.text ++ t) (w.values ++ v))
    → G (put_all w ps).text (put_all w ps).values
unfolding put_all put_piece
all_written G w [] go = subst (λ t. G t w.values) (append-nil w.text) (subst (λ v. G (w.text ++ []) v) (append-nil w.values) (go [] [] ended))
all_written G w (words word ∷ ps) go =
    all_written G (put_piece w (words word)) ps (λ t v is. subst (λ s. G s (w.values ++ v)) (sym (append_assoc w.text word t)) (go (word ++ t) v (of_words is)))
all_written G w (name n ∷ ps) go =
    all_written G (put_piece w (name n)) ps
    (λ t v is. subst (λ s. G s (w.values ++ v)) (sym (append_assoc w.text (name_text w.dialect n) t)) (go (name_text w.dialect n ++ t) v (of_name (written_name w.dialect n) is)))
all_written G w (value base x ∷ ps) go =
    all_written G (put_piece w (value base x)) ps
    (λ t v is.
    let m = mark_text w.dialect (next_name w.bases (map cleaned_byte base)) in
    subst (λ s. G s ((w.values ++ x ∷ []) ++ v)) (sym (append_assoc w.text m t))
    (subst (λ u. G (w.text ++ (m ++ t)) u) (sym (append_assoc w.values (x ∷ []) v))
    (go (m ++ t) (x ∷ v) (of_value (written_mark w.dialect base (uses_of w.bases (map cleaned_byte base) + 1)) is))))
