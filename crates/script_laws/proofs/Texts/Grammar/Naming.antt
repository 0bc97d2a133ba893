-- Names and marks are read to their ends.
use Rattle.std.proofs.Common.{◌≡◌, ℕ, ◌++◌, ◌==◌, Bool, true, false, not, ◌&&◌, ◌||◌, cond, List, [], ◌∷◌, Option, Some, None, codes, refl, sym, ap, ◌∙◌, append_assoc}
use Rattle.std.specs.List.{list_all, list_any}
use Rattle.std.proofs.lemmas.Bool.{eq-eqb, eqb-true, not-false, not-true, and_parts, or_parts}
use Rattle.base_core.specs.declared.value.Value.{Value}
use Rattle.base_core.specs.declared.dialect.Dialect.{Dialect}
use Rattle.base_core.specs.declared.dialect.Dialect.TheVariants.{Sqlite, Postgresql, Mysql}
use Rattle.sql_text.specs.Names.{needs_quotes, begins_plain, is_plain_byte, is_lower, is_digit, quote_of, quoted_name, with_byte_doubled, with_percents, is_reserved}
use Rattle.script_laws.specs.Texts.Grammar.Reads.{IsName, bare, in_quotes, IsMark, question, labelled, format, is_label_byte, AreMarks, one_mark, more_marks}
use Rattle.script_laws.proofs.Texts.Grammar.Reader.{after, quoted_in, with_byte, halved, without_percents, plain_in, plain_by, unquoted, name_in, mark_in, behind_label, marks_in, marks_by, more_values, behind, ends_name}

-- ---- doubled bytes

same_byte : (c : ℕ) → (c == c) ≡ true
same_byte c = eq-eqb c c refl

-- one byte doubled, by whether it is the one
doubled_one : (mark c : ℕ) (text : List ℕ) → (c == mark) ≡ true → with_byte_doubled mark (c ∷ text) ≡ mark ∷ mark ∷ with_byte_doubled mark text
doubled_one mark c text is = ap (λ b. cond b (mark ∷ mark ∷ []) (c ∷ []) ++ with_byte_doubled mark text) is

doubled_other : (mark c : ℕ) (text : List ℕ) → (c == mark) ≡ false → with_byte_doubled mark (c ∷ text) ≡ c ∷ with_byte_doubled mark text
doubled_other mark c text is = ap (λ b. cond b (mark ∷ mark ∷ []) (c ∷ []) ++ with_byte_doubled mark text) is

halved_two : (mark : ℕ) (text : List ℕ) → halved mark (mark ∷ mark ∷ text) ≡ mark ∷ halved mark text
halved_two mark text = ap (λ b. cond b (mark ∷ halved mark text) (mark ∷ halved mark (mark ∷ text))) (same_byte mark)

halved_other : (mark c : ℕ) (text : List ℕ) → (c == mark) ≡ false → halved mark (c ∷ text) ≡ c ∷ halved mark text
halved_other mark c [] is = refl
halved_other mark c (d ∷ text) is = ap (λ b. cond b (mark ∷ halved mark text) (c ∷ halved mark (d ∷ text))) is

halved_by : (mark c : ℕ) (text : List ℕ) → halved mark (with_byte_doubled mark text) ≡ text → (b : Bool) → (c == mark) ≡ b → halved mark (with_byte_doubled mark (c ∷ text)) ≡ c ∷ text
halved_by mark c text rec true is =
    ap (halved mark) (doubled_one mark c text is) ∙ (halved_two mark (with_byte_doubled mark text) ∙ (ap (λ (x : ℕ). x ∷ halved mark (with_byte_doubled mark text)) (sym (eqb-true c mark is)) ∙ ap (λ (xs : List ℕ). c ∷ xs) rec))
halved_by mark c text rec false is = ap (halved mark) (doubled_other mark c text is) ∙ (halved_other mark c (with_byte_doubled mark text) is ∙ ap (λ (xs : List ℕ). c ∷ xs) rec)

pub halved_doubled : (mark : ℕ) (text : List ℕ) → halved mark (with_byte_doubled mark text) ≡ text
halved_doubled mark [] = refl
halved_doubled mark (c ∷ text) = halved_by mark c text (halved_doubled mark text) (c == mark) refl

quoted_two : (mark : ℕ) (text : List ℕ) → quoted_in mark (mark ∷ mark ∷ text) ≡ with_byte mark (quoted_in mark text)
quoted_two mark text =
    ap (λ b. cond b (cond b (with_byte mark (quoted_in mark text)) (Some ([], mark ∷ text))) (with_byte mark (quoted_in mark (mark ∷ text)))) (same_byte mark)

quoted_other : (mark c : ℕ) (text : List ℕ) → (c == mark) ≡ false → quoted_in mark (c ∷ text) ≡ with_byte c (quoted_in mark text)
quoted_other mark c [] is = ap (λ b. cond b (Some ([], [])) None) is
quoted_other mark c (d ∷ text) is =
    ap (λ b. cond b (cond (d == mark) (with_byte mark (quoted_in mark text)) (Some ([], d ∷ text))) (with_byte c (quoted_in mark (d ∷ text)))) is

-- the text does not go on with this byte
abbrev pub EndsQuote : ℕ → List ℕ → Type 0
EndsQuote mark [] = Unit {0}
EndsQuote mark (c ∷ cs) = (c == mark) ≡ false

quoted_end : (mark : ℕ) (rest : List ℕ) → EndsQuote mark rest → quoted_in mark (mark ∷ rest) ≡ Some ([], rest)
quoted_end mark [] ends = ap (λ b. cond b (Some ([], [])) None) (same_byte mark)
quoted_end mark (d ∷ rest) ends =
    rw (same_byte mark, ends) refl

quoted_by : (mark c : ℕ) (text rest : List ℕ) → quoted_in mark (with_byte_doubled mark text ++ mark ∷ rest) ≡ Some (text, rest) → (b : Bool) → (c == mark) ≡ b
    → quoted_in mark (with_byte_doubled mark (c ∷ text) ++ mark ∷ rest) ≡ Some (c ∷ text, rest)
quoted_by mark c text rest rec true is =
    ap (λ (xs : List ℕ). quoted_in mark (xs ++ mark ∷ rest)) (doubled_one mark c text is) ∙ (quoted_two mark (with_byte_doubled mark text ++ mark ∷ rest)
    ∙ (ap (with_byte mark) rec ∙ ap (λ (x : ℕ). Some (x ∷ text, rest)) (sym (eqb-true c mark is))))
quoted_by mark c text rest rec false is =
    ap (λ (xs : List ℕ). quoted_in mark (xs ++ mark ∷ rest)) (doubled_other mark c text is) ∙ (quoted_other mark c (with_byte_doubled mark text ++ mark ∷ rest) is ∙ ap (with_byte c) rec)

pub quoted_doubled : (mark : ℕ) (text rest : List ℕ) → EndsQuote mark rest → quoted_in mark (with_byte_doubled mark text ++ mark ∷ rest) ≡ Some (text, rest)
quoted_doubled mark [] rest ends = quoted_end mark rest ends
quoted_doubled mark (c ∷ text) rest ends = quoted_by mark c text rest (quoted_doubled mark text rest ends) (c == mark) refl

-- ---- names

percents_read : (q : Dialect) (name : List ℕ) → without_percents q (with_percents q name) ≡ name
percents_read Sqlite name = refl
percents_read Postgresql name = halved_doubled 37 name
percents_read Mysql name = halved_doubled 37 name

-- the parts of what ends a name
no_plain : (c : ℕ) (cs : List ℕ) → ends_name (c ∷ cs) ≡ true → is_plain_byte c ≡ false
no_plain c cs ends = not-true (is_plain_byte c) (and_parts (not (is_plain_byte c)) (not (c == 34)) (and_parts (not (is_plain_byte c) && not (c == 34)) (not (c == 96)) ends).0).0

ends_quote : (q : Dialect) (rest : List ℕ) → ends_name rest ≡ true → EndsQuote (quote_of q) rest
ends_quote q [] ends = tt
ends_quote Sqlite (c ∷ cs) ends = not-true (c == 34) (and_parts (not (is_plain_byte c)) (not (c == 34)) (and_parts (not (is_plain_byte c) && not (c == 34)) (not (c == 96)) ends).0).1
ends_quote Postgresql (c ∷ cs) ends = not-true (c == 34) (and_parts (not (is_plain_byte c)) (not (c == 34)) (and_parts (not (is_plain_byte c) && not (c == 34)) (not (c == 96)) ends).0).1
ends_quote Mysql (c ∷ cs) ends = not-true (c == 96) (and_parts (not (is_plain_byte c) && not (c == 34)) (not (c == 96)) ends).1

-- a name's first byte
abbrev pub starts_name : ℕ → Bool
starts_name c = is_lower c || c == 95 || c == 34 || c == 96

-- the bytes of a name that stands bare
plain_end : (rest : List ℕ) → ends_name rest ≡ true → plain_in rest ≡ ([], rest)
plain_end [] ends = refl
plain_end (c ∷ cs) ends = ap (plain_by c cs (plain_in cs)) (no_plain c cs ends)

plain_read : (name rest : List ℕ) → list_any (λ byte. not (is_plain_byte byte)) name ≡ false → ends_name rest ≡ true → plain_in (name ++ rest) ≡ (name, rest)
plain_read [] rest plain ends = plain_end rest ends
plain_read (c ∷ cs) rest plain ends = plain_next c cs rest (is_plain_byte c) refl plain (λ h. plain_read cs rest h ends)
  where
    plain_next : (c : ℕ) (cs rest : List ℕ) (b : Bool) → is_plain_byte c ≡ b → (not (is_plain_byte c) || list_any (λ byte. not (is_plain_byte byte)) cs) ≡ false
        → (list_any (λ byte. not (is_plain_byte byte)) cs ≡ false → plain_in (cs ++ rest) ≡ (cs, rest)) → plain_by c (cs ++ rest) (plain_in (cs ++ rest)) (is_plain_byte c) ≡ (c ∷ cs, rest)
    plain_next c cs rest true is plain rec =
        ap (plain_by c (cs ++ rest) (plain_in (cs ++ rest))) is ∙ ap (λ (found : List ℕ × List ℕ). (c ∷ found.0, found.1)) (rec (sym (ap (λ b. not b || list_any (λ byte. not (is_plain_byte byte)) cs) is) ∙ plain))
    plain_next c cs rest false is plain rec = absurd (true_false (sym (ap (λ b. not b || list_any (λ byte. not (is_plain_byte byte)) cs) is) ∙ plain))
      where
        true_false : true ≡ false → ⊥
        true_false e = cc

-- ---- the first byte

-- the text begins with such a byte
pub record Begins (is : ℕ → Bool) (text : List ℕ) : Type 0 where
  pub first : ℕ
  pub following : List ℕ
  pub joined : text ≡ first ∷ following
  pub fits : is first ≡ true

-- a byte of one kind is no byte outside it
unlike : (is : ℕ → Bool) (c d : ℕ) → is c ≡ true → is d ≡ false → (c == d) ≡ false
unlike is c d within out = unlike_by is c d within out (c == d) refl
  where
    unlike_by : (is : ℕ → Bool) (c d : ℕ) → is c ≡ true → is d ≡ false → (b : Bool) → (c == d) ≡ b → (c == d) ≡ false
    unlike_by is c d within out false same = same
    unlike_by is c d within out true same = absurd (true_false (sym within ∙ (ap is (eqb-true c d same) ∙ out)))
      where
        true_false : true ≡ false → ⊥
        true_false e = cc

some_start : (l d u s q b : Bool) → (l || d || u || s) ≡ true → d ≡ false → s ≡ false → (l || u || q || b) ≡ true
some_start true d u s q b e f g = refl
some_start false true u s q b e f g = absurd (cc)
some_start false false true s q b e f g = refl
some_start false false false true q b e f g = absurd (cc)
some_start false false false false q b e f g = absurd (cc)

-- a bare name: its first byte and the others
pub record IsBare (name : List ℕ) : Type 0 where
  pub begins : Begins starts_name name
  pub plain : list_any (λ byte. not (is_plain_byte byte)) name ≡ false

pub bare_name : (name : List ℕ) → needs_quotes name ≡ false → IsBare name
unfolding needs_quotes
bare_name [] e = absurd (cc)
bare_name (c ∷ cs) e =
    let two = or_parts (not (begins_plain (c ∷ cs)) || list_any (λ byte. not (is_plain_byte byte)) (c ∷ cs)) (is_reserved (c ∷ cs)) e in
    let one = or_parts (not (begins_plain (c ∷ cs))) (list_any (λ byte. not (is_plain_byte byte)) (c ∷ cs)) two.0 in
    let plain = or_parts (not (is_plain_byte c)) (list_any (λ byte. not (is_plain_byte byte)) cs) one.1 in
    let begins = and_parts (not (is_digit c)) (not (c == 36)) (not-false (begins_plain (c ∷ cs)) one.0) in
    record {
      begins = record {
        first = c;
        following = cs;
        joined = refl;
        fits = some_start (is_lower c) (is_digit c) (c == 95) (c == 36) (c == 34) (c == 96) (not-false (is_plain_byte c) plain.0) (not-true (is_digit c) begins.0) (not-true (c == 36) begins.1);
      };
      plain = one.1;
    }

quote_starts : (q : Dialect) → starts_name (quote_of q) ≡ true
quote_starts Sqlite = refl
quote_starts Postgresql = refl
quote_starts Mysql = refl

quote_not_plain : (q : Dialect) → is_plain_byte (quote_of q) ≡ false
quote_not_plain Sqlite = refl
quote_not_plain Postgresql = refl
quote_not_plain Mysql = refl

pub name_begins : {q : Dialect} {a name : List ℕ} → IsName q a name → Begins starts_name a
name_begins (bare {name = name} e) = (bare_name name e).begins
name_begins {q} (in_quotes {name = name}) =
    record { first = quote_of q; following = with_byte_doubled (quote_of q) (with_percents q name) ++ quote_of q ∷ []; joined = refl; fits = quote_starts q }

bare_read : (q : Dialect) (name rest : List ℕ) → IsBare name → ends_name rest ≡ true → name_in q (name ++ rest) ≡ Some (name, rest)
unfolding name_in
bare_read q [] rest is ends = absurd (no_first is.begins.joined)
  where
    no_first : {c : ℕ} {cs : List ℕ} → ◌≡◌ {A = List ℕ} [] (c ∷ cs) → ⊥
    no_first e = cc
bare_read q (c ∷ cs) rest is ends =
    let plain = or_parts (not (is_plain_byte c)) (list_any (λ byte. not (is_plain_byte byte)) cs) is.plain in
    ap (λ b. cond b (unquoted q (quoted_in (quote_of q) (cs ++ rest))) (Some (plain_in (c ∷ cs ++ rest)))) (unlike is_plain_byte c (quote_of q) (not-false (is_plain_byte c) plain.0) (quote_not_plain q))
    ∙ ap Some (plain_read (c ∷ cs) rest is.plain ends)

quoted_read : (q : Dialect) (name rest : List ℕ) → ends_name rest ≡ true → name_in q (quoted_name q name ++ rest) ≡ Some (name, rest)
unfolding name_in
quoted_read q name rest ends =
    ap (λ b. cond b (unquoted q (quoted_in (quote_of q) ((with_byte_doubled (quote_of q) (with_percents q name) ++ quote_of q ∷ []) ++ rest))) (Some (plain_in (quoted_name q name ++ rest)))) (same_byte (quote_of q))
    ∙ (ap (λ (text : List ℕ). unquoted q (quoted_in (quote_of q) text)) (append_assoc (with_byte_doubled (quote_of q) (with_percents q name)) (quote_of q ∷ []) rest)
    ∙ (ap (unquoted q) (quoted_doubled (quote_of q) (with_percents q name) rest (ends_quote q rest ends)) ∙ ap (λ (n : List ℕ). Some (n, rest)) (percents_read q name)))

-- a name is read to its end
pub name_read : {q : Dialect} {a name : List ℕ} → IsName q a name → (rest : List ℕ) → ends_name rest ≡ true → name_in q (a ++ rest) ≡ Some (name, rest)
name_read {q} (bare {name = name} e) rest ends = bare_read q name rest (bare_name name e) ends
name_read {q} (in_quotes {name = name}) rest ends = quoted_read q name rest ends

-- ---- marks

-- a mark's first byte
abbrev pub starts_mark : ℕ → Bool
starts_mark c = c == 63 || c == 37

pub mark_begins : {q : Dialect} {a : List ℕ} → IsMark q a → Begins starts_mark a
mark_begins question = record { first = 63; following = []; joined = refl; fits = refl }
mark_begins (labelled label is) = record { first = 37; following = 40 ∷ (label ++ codes ")s"); joined = refl; fits = refl }
mark_begins format = record { first = 37; following = 115 ∷ []; joined = refl; fits = refl }

label_read : (label rest : List ℕ) → list_all is_label_byte label ≡ true → behind_label (label ++ (codes ")s" ++ rest)) ≡ codes ")s" ++ rest
label_read [] rest is = refl
label_read (c ∷ cs) rest is =
    let parts = and_parts (is_label_byte c) (list_all is_label_byte cs) is in
    ap (λ b. cond b (behind_label (cs ++ (codes ")s" ++ rest))) (c ∷ cs ++ (codes ")s" ++ rest))) parts.0 ∙ label_read cs rest parts.1

pub mark_read : {q : Dialect} {a : List ℕ} → IsMark q a → (rest : List ℕ) → mark_in q (a ++ rest) ≡ Some rest
unfolding mark_in
mark_read question rest = refl
mark_read (labelled label is) rest =
    ap (λ (text : List ℕ). after (codes ")s") (behind_label text)) (append_assoc label (codes ")s") rest) ∙ ap (after (codes ")s")) (label_read label rest is)
mark_read format rest = refl

-- all marks are read, each with its value
pub marks_read : {q : Dialect} {a : List ℕ} {w : List Value} → AreMarks q a w → (rest : List ℕ) (left : List Value) → after (codes ", ") rest ≡ None → marks_in q (w ++ left) (a ++ rest) ≡ Some (w, rest, left)
marks_read {q} (one_mark {a = a} {v = v} m) rest left ends =
    ap (λ (o : Option (List ℕ)). behind o (λ text. marks_by v (marks_in q left) left text (after (codes ", ") text))) (mark_read m rest) ∙ ap (marks_by v (marks_in q left) left rest) ends
marks_read {q} (more_marks {a = a} {b = b} {v = v} {w = w} m ms) rest left ends =
    ap (λ (text : List ℕ). marks_in q (v ∷ (w ++ left)) text) (append_assoc a (codes ", " ++ b) rest)
    ∙ (ap (λ (o : Option (List ℕ)). behind o (λ text. marks_by v (marks_in q (w ++ left)) (w ++ left) text (after (codes ", ") text))) (mark_read m (codes ", " ++ (b ++ rest)))
    ∙ ap (more_values v) (marks_read ms rest left ends))

pub marks_begin : {q : Dialect} {a : List ℕ} {w : List Value} → AreMarks q a w → Begins starts_mark a
marks_begin (one_mark m) = mark_begins m
marks_begin (more_marks {b = b} m ms) =
    let begins = mark_begins m in
    record { first = begins.first; following = begins.following ++ (codes ", " ++ b); joined = ap (λ (text : List ℕ). text ++ (codes ", " ++ b)) begins.joined; fits = begins.fits }
