-- Two readings of one text agree: what each part of a text is read as, and where it ends.
use Rattle.std.proofs.Common.{◌≡◌, ℕ, ◌++◌, Bool, true, false, List, [], ◌∷◌, Option, Some, None, refl, sym, ap, subst, ◌∙◌, append_assoc, unwrap_or, codes}
use Rattle.base_core.specs.declared.value.Value.{Value}
use Rattle.base_core.specs.declared.dialect.Dialect.{Dialect}
use Rattle.script_laws.specs.Texts.Grammar.Reads.{IsName, IsMark, AreMarks}
use Rattle.script_laws.proofs.Texts.Grammar.Reader.{after, Out, ends_name, name_in, mark_in, marks_in}
use Rattle.script_laws.proofs.Texts.Grammar.Finding.{after_self}
use Rattle.script_laws.proofs.Texts.Grammar.Naming.{Begins, name_read, mark_read, marks_read}
use Rattle.script_laws.specs.Texts.Forms.Clauses.{Reading, Items, no_items, one_item, more_items, Clause, no_clause, clause, Series, no_series, series}

-- ---- words

pub no_some : {A B : Type 0} {x : A} → Some x ≡ None → B
no_some e = absurd (cc)

pub true_false : {A : Type 0} → true ≡ false → A
true_false e = absurd (cc)

pub some_is : {A : Type 0} {x y : A} → Some x ≡ Some y → x ≡ y
some_is {A} {x} e = ap (λ (o : Option A). unwrap_or o x) e

-- what is behind one word
pub cut_word : (word : List ℕ) {rest past : List ℕ} → word ++ rest ≡ word ++ past → rest ≡ past
cut_word word {rest} {past} e = some_is (sym (after_self word rest) ∙ (ap (after word) e ∙ after_self word past))

-- a text that lacks a word begins with no such word
pub lacking : {A : Type 0} (word : List ℕ) {text : List ℕ} (past : List ℕ) → after word text ≡ None → text ≡ word ++ past → A
lacking word {text} past none e = no_some (sym (after_self word past) ∙ (ap (after word) (sym e) ∙ none))

-- the text begins with no such byte
abbrev pub Lacking : (ℕ → Bool) → List ℕ → Type 0
Lacking is [] = Unit {0}
Lacking is (c ∷ cs) = is c ≡ false

pub not_begun : {A : Type 0} {is : ℕ → Bool} {a rest : List ℕ} (past : List ℕ) → Begins is a → Lacking is rest → rest ≡ a ++ past → A
not_begun {A} {is} {a} {rest} past begins none e =
    true_false (sym begins.fits ∙ subst (Lacking is) (e ∙ ap (λ (text : List ℕ). text ++ past) begins.joined) none)

-- ---- agreement

-- one thing was read, and one text and one list of values are left
pub record Agree {A : Type 0} (x y : A) (rest past : List ℕ) (left over : List Value) : Type 0 where
  pub same : x ≡ y
  pub rests : rest ≡ past
  pub lefts : left ≡ over

-- where two readings of one text before such rests agree
abbrev pub Agreeing : {A : Type 0} → (List ℕ → Type 0) → List ℕ → List ℕ → List Value → List Value → A → A → Type 0
Agreeing Ends a b v w x y = (rest past : List ℕ) (left over : List Value) → Ends rest → Ends past → a ++ rest ≡ b ++ past → v ++ left ≡ w ++ over → Agree x y rest past left over

pub record IsOne {A : Type 0} (reads : Reading A) (Ends : List ℕ → Type 0) : Type 0 where
  pub agree : {a b : List ℕ} {v w : List Value} {x y : A} → reads a v x → reads b w y → Agreeing Ends a b v w x y

out_or : {A : Type 0} → A × List ℕ × List Value → Out A → A × List ℕ × List Value
out_or other None = other
out_or other (Some out) = out

pub agreed : {A : Type 0} {x y : A} {rest past : List ℕ} {left over : List Value} → ◌≡◌ {A = Out A} (Some (x, rest, left)) (Some (y, past, over)) → Agree x y rest past left over
unfolding out_or
agreed {A} {x} {y} {rest} {past} {left} {over} e =
    let d : A × List ℕ × List Value = (x, rest, left) in
    record { same = ap (λ (o : Out A). (out_or d o).0) e; rests = ap (λ (o : Out A). (out_or d o).1) e; lefts = ap (λ (o : Out A). (out_or d o).2) e }

-- ---- names, marks and trees

pub record SameName (n m : List ℕ) (rest past : List ℕ) : Type 0 where
  pub same : n ≡ m
  pub rests : rest ≡ past

pub name_one : {q : Dialect} {a b n m : List ℕ} → IsName q a n → IsName q b m → (rest past : List ℕ) → ends_name rest ≡ true → ends_name past ≡ true → a ++ rest ≡ b ++ past → SameName n m rest past
name_one {q} {a} {b} {n} {m} r s rest past e f texts =
    let pair : (n, rest) ≡ (m, past) = some_is (sym (name_read r rest e) ∙ (ap (name_in q) texts ∙ name_read s past f)) in
    record { same = ap (λ (p : List ℕ × List ℕ). p.0) pair; rests = ap (λ (p : List ℕ × List ℕ). p.1) pair }

pub mark_one : {q : Dialect} {a b : List ℕ} → IsMark q a → IsMark q b → (rest past : List ℕ) → a ++ rest ≡ b ++ past → rest ≡ past
mark_one {q} r s rest past texts = some_is (sym (mark_read r rest) ∙ (ap (mark_in q) texts ∙ mark_read s past))

pub marks_one : {q : Dialect} {a b : List ℕ} {v w : List Value} → AreMarks q a v → AreMarks q b w → (rest past : List ℕ) (left over : List Value) → after (codes ", ") rest ≡ None → after (codes ", ") past ≡ None
    → a ++ rest ≡ b ++ past → v ++ left ≡ w ++ over → Agree v w rest past left over
marks_one {q} {a} {b} {v} {w} r s rest past left over e f texts values =
    agreed
    (sym (marks_read r rest left e)
    ∙ (ap (λ (text : List ℕ). marks_in q (v ++ left) text) texts ∙ (ap (λ (u : List Value). marks_in q u (b ++ past)) values ∙ marks_read s past over f)))

-- ---- items

-- what ends some items: no further word, and nothing that begins an item
pub record EndsItems (starts : ℕ → Bool) (word : List ℕ) (Ends : List ℕ → Type 0) (rest : List ℕ) : Type 0 where
  pub ends : Ends rest
  pub no_word : after word rest ≡ None
  pub no_start : Lacking starts rest

-- how the texts of a reading begin, and where they end
pub record IsPart {A : Type 0} (reads : Reading A) (starts : ℕ → Bool) (Ends : List ℕ → Type 0) : Type 0 where
  pub begins : {a : List ℕ} {v : List Value} {x : A} → reads a v x → Begins starts a
  pub one : IsOne reads Ends

pub one_text : (a word c rest : List ℕ) → (a ++ (word ++ c)) ++ rest ≡ a ++ (word ++ (c ++ rest))
one_text a word c rest = append_assoc a (word ++ c) rest ∙ ap (λ (t : List ℕ). a ++ t) (append_assoc word c rest)

module _ {A : Type 0} (reads : Reading A) (starts : ℕ → Bool) (Ends : List ℕ → Type 0) (part : IsPart reads starts Ends) (word : List ℕ) (between : (text : List ℕ) → Ends (word ++ text)) where
  pub items_begin : {B : Type 0} {a rest : List ℕ} {v : List Value} {x : A} {xs : List A} (past : List ℕ) → Items reads word a v (x ∷ xs) → Lacking starts rest → rest ≡ a ++ past → B
  items_begin past (one_item r) none e = not_begun past (part.begins r) none e
  items_begin past (more_items {a = a} {b = b} r rs) none e = not_begun (word ++ (b ++ past)) (part.begins r) none (e ∙ one_text a word b past)

  pub items_agree : {a b : List ℕ} {v w : List Value} {x y : List A} → Items reads word a v x → Items reads word b w y → Agreeing (EndsItems starts word Ends) a b v w x y
  items_agree no_items no_items rest past left over e f texts values = record { same = refl; rests = texts; lefts = values }
  items_agree no_items (one_item s) rest past left over e f texts values = items_begin past (one_item s) e.no_start texts
  items_agree no_items (more_items s ss) rest past left over e f texts values = items_begin past (more_items s ss) e.no_start texts
  items_agree (one_item r) no_items rest past left over e f texts values = items_begin rest (one_item r) f.no_start (sym texts)
  items_agree (more_items r rs) no_items rest past left over e f texts values = items_begin rest (more_items r rs) f.no_start (sym texts)
  items_agree (one_item r) (one_item s) rest past left over e f texts values =
      let it = part.one.agree r s rest past left over e.ends f.ends texts values in
      record { same = ap (λ z. z ∷ []) it.same; rests = it.rests; lefts = it.lefts }
  items_agree (one_item {v = v} r) (more_items {a = b} {b = d} {v = w} {w = z} s ss) rest past left over e f texts values =
      let it = part.one.agree r s rest (word ++ (d ++ past)) left (z ++ over) e.ends (between (d ++ past)) (texts ∙ one_text b word d past) (values ∙ append_assoc w z over) in
      lacking word (d ++ past) e.no_word it.rests
  items_agree (more_items {a = a} {b = c} {v = v} {w = u} r rs) (one_item s) rest past left over e f texts values =
      let it = part.one.agree r s (word ++ (c ++ rest)) past (u ++ left) over (between (c ++ rest)) f.ends (sym (one_text a word c rest) ∙ texts) (sym (append_assoc v u left) ∙ values) in
      lacking word (c ++ rest) f.no_word (sym it.rests)
  items_agree (more_items {a = a} {b = c} {v = v} {w = u} r rs) (more_items {a = b} {b = d} {v = w} {w = z} s ss) rest past left over e f texts values =
      let it = part.one.agree r s (word ++ (c ++ rest)) (word ++ (d ++ past)) (u ++ left) (z ++ over) (between (c ++ rest)) (between (d ++ past)) (sym (one_text a word c rest) ∙ (texts ∙ one_text b word d past))
      (sym (append_assoc v u left) ∙ (values ∙ append_assoc w z over)) in
      let others = items_agree rs ss rest past left over e f (cut_word word it.rests) it.lefts in
      record { same = cons_same it.same others.same; rests = others.rests; lefts = others.lefts }
    where
      cons_same : {x y : A} {xs ys : List A} → x ≡ y → xs ≡ ys → x ∷ xs ≡ y ∷ ys
      cons_same {x} {y} {xs} {ys} e f = ap (λ z. z ∷ xs) e ∙ ap (λ zs. y ∷ zs) f

  pub items_one : IsOne (Items reads word) (EndsItems starts word Ends)
  items_one = record { agree = items_agree }

-- ---- clauses

-- what ends a clause: not its word
pub record EndsClause (word : List ℕ) (Ends : List ℕ → Type 0) (rest : List ℕ) : Type 0 where
  pub ends : Ends rest
  pub no_word : after word rest ≡ None

module _ {A : Type 0} (reads : Reading A) (Ends : List ℕ → Type 0) (one : IsOne reads Ends) (word : List ℕ) where
  clause_agree : {a b : List ℕ} {v w : List Value} {x y : Option A} → Clause reads word a v x → Clause reads word b w y → Agreeing (EndsClause word Ends) a b v w x y
  clause_agree no_clause no_clause rest past left over e f texts values = record { same = refl; rests = texts; lefts = values }
  clause_agree no_clause (clause {a = b} s) rest past left over e f texts values = lacking word (b ++ past) e.no_word (texts ∙ append_assoc word b past)
  clause_agree (clause {a = a} r) no_clause rest past left over e f texts values = lacking word (a ++ rest) f.no_word (sym texts ∙ append_assoc word a rest)
  clause_agree (clause {a = a} r) (clause {a = b} s) rest past left over e f texts values =
      let it = one.agree r s rest past left over e.ends f.ends (cut_word word (sym (append_assoc word a rest) ∙ (texts ∙ append_assoc word b past))) values in
      record { same = ap Some it.same; rests = it.rests; lefts = it.lefts }

  pub clause_one : IsOne (Clause reads word) (EndsClause word Ends)
  clause_one = record { agree = clause_agree }

module _ {A : Type 0} (reads : Reading A) (word between : List ℕ) (Ends : List ℕ → Type 0) (one : IsOne (Items reads between) Ends) where
  series_agree : {a b : List ℕ} {v w : List Value} {x y : List A} → Series reads word between a v x → Series reads word between b w y → Agreeing (EndsClause word Ends) a b v w x y
  series_agree no_series no_series rest past left over e f texts values = record { same = refl; rests = texts; lefts = values }
  series_agree no_series (series {a = b} s) rest past left over e f texts values = lacking word (b ++ past) e.no_word (texts ∙ append_assoc word b past)
  series_agree (series {a = a} r) no_series rest past left over e f texts values = lacking word (a ++ rest) f.no_word (sym texts ∙ append_assoc word a rest)
  series_agree (series {a = a} r) (series {a = b} s) rest past left over e f texts values =
      one.agree r s rest past left over e.ends f.ends (cut_word word (sym (append_assoc word a rest) ∙ (texts ∙ append_assoc word b past))) values

  pub series_one : IsOne (Series reads word between) (EndsClause word Ends)
  series_one = record { agree = series_agree }

-- ---- what stands behind

-- what holds of what may stand behind a part
pub behind_clause : {A : Type 0} {reads : Reading A} {word a : List ℕ} {v : List Value} {x : Option A} (P : List ℕ → Type 0) → Clause reads word a v x → (rest : List ℕ) → P rest → ((text : List ℕ) → P (word ++ text)) → P (a ++ rest)
behind_clause P no_clause rest p w = p
behind_clause {word = word} P (clause {a = a} r) rest p w = subst P (sym (append_assoc word a rest)) (w (a ++ rest))

pub behind_series : {A : Type 0} {reads : Reading A} {word between a : List ℕ} {v : List Value} {xs : List A} (P : List ℕ → Type 0) → Series reads word between a v xs → (rest : List ℕ) → P rest
    → ((text : List ℕ) → P (word ++ text)) → P (a ++ rest)
behind_series P no_series rest p w = p
behind_series {word = word} P (series {a = a} r) rest p w = subst P (sym (append_assoc word a rest)) (w (a ++ rest))
