-- Operands: what stands in parentheses, marks, columns, functions and `exists`.
use Rattle.std.proofs.Common.{◌≡◌, ℕ, ◌≤◌, ◌++◌, ◌==◌, ◌||◌, Bool, true, false, List, [], ◌∷◌, Some, None, codes, refl, ap, ◌∙◌, append_assoc}
use Rattle.base_core.specs.declared.value.Value.{Value}
use Rattle.base_core.specs.declared.dialect.Dialect.{Dialect}
use Rattle.base_core.specs.declared.dialect.Dialect.TheVariants.{Sqlite, Postgresql, Mysql}
use Rattle.script_laws.specs.Texts.Grammar.Trees.{Function, Count, Sum, Min, Max, Lower, Upper, Length, Coalesce, Concat, Source, Sql, column, mark, call, count_all, exists, Sqls}
use Rattle.script_laws.specs.Texts.Grammar.Words.{function_word}
use Rattle.script_laws.specs.Texts.Grammar.Reads.{IsName, IsMark, IsSource, named, aliased, Either, Operand}
use Rattle.script_laws.proofs.Texts.Grammar.Reader.{after, Out, next, closed, Readers, at, read, stops, operand_by, mark_by, word_by, name_by, column_by, operands_by, exists_by, aliased_in, existing_in, name_in, mark_in, function_of, ends_name}
use Rattle.script_laws.proofs.Texts.Grammar.Finding.{either_close, by_word, no_word, in_each}
use Rattle.script_laws.proofs.Texts.Grammar.Naming.{Begins, starts_name, starts_mark, name_begins, name_read, mark_begins, mark_read}
use Rattle.script_laws.proofs.Texts.Grammar.Found.{Found, FoundParts, starts_operand, begins_as, begins_on, begins_so, lacks_byte, made, or_left}

among : (n p one two e : Bool) → (one || two) ≡ true → (n || p || one || two || e) ≡ true
among true p one two e is = refl
among false true one two e is = refl
among false false true two e is = refl
among false false false true e is = refl
among false false false false e is = absurd (cc)

mark_starts : (c : ℕ) → starts_mark c ≡ true → starts_operand c ≡ true
mark_starts c is = among (starts_name c) (c == 40) (c == 63) (c == 37) (c == 69) is

name_starts : (c : ℕ) → starts_name c ≡ true → starts_operand c ≡ true
name_starts c is =
    or_left (starts_name c || c == 40 || c == 63 || c == 37) (c == 69)
    (or_left (starts_name c || c == 40 || c == 63) (c == 37) (or_left (starts_name c || c == 40) (c == 63) (or_left (starts_name c) (c == 40) is)))

module _ (q : Dialect) where
  -- `(a)`
  pub enclosed_found : {a : List ℕ} {v : List Value} {x : Sql} → Found q Either a v x → Found q Operand (codes "(" ++ (a ++ codes ")")) v x
  enclosed_found {a} {v} {x} f =
      made (begins_so starts_operand 40 (a ++ codes ")") refl) f.bound
      (λ j g rest left s.
      ap (λ (text : List ℕ). at q (read q j) Operand (codes "(" ++ text) (v ++ left)) (append_assoc a (codes ")") rest)
      ∙ ap (λ (o : Out Sql). next o (λ y. closed y)) (f.gives j g (codes ")" ++ rest) left (either_close q rest)))

  -- no mark begins as a name or with a word
  no_mark : (is : ℕ → Bool) {a : List ℕ} → Begins is a → is 63 ≡ false → is 37 ≡ false → (rest : List ℕ) → mark_in q (a ++ rest) ≡ None
  unfolding mark_in
  no_mark is {a} begins one two rest =
      in_each (λ d. mark_in d (a ++ rest) ≡ None) (lacks_byte begins 63 one rest []) (rw (lacks_byte begins 37 two rest (codes "(")) refl) (lacks_byte begins 37 two rest (codes "s")) q

  pub mark_found : {a : List ℕ} (v : Value) → IsMark q a → Found q Operand a (v ∷ []) (mark v)
  mark_found {a} v m =
      let begins = mark_begins m in
      made (begins_as mark_starts begins) 0
      (λ j g rest left s.
      ap (operand_by q (read q j) (a ++ rest) (v ∷ left)) (lacks_byte begins 40 refl rest [])
      ∙ ap (mark_by q (read q j) (a ++ rest) (v ∷ left)) (mark_read m rest))

  -- an operand that begins with a name
  by_name : {a name : List ℕ} → IsName q a name → (r : Readers) (rest : List ℕ) (values : List Value) → ends_name rest ≡ true
      → at q r Operand (a ++ rest) values ≡ name_by q r values (Some (name, rest))
  by_name {a} {name} n r rest values ends =
      let begins = name_begins n in
      ap (operand_by q r (a ++ rest) values) (lacks_byte begins 40 refl rest [])
      ∙ (ap (mark_by q r (a ++ rest) values) (no_mark starts_name begins refl refl rest)
      ∙ (ap (word_by q r (a ++ rest) values) (lacks_byte begins 69 refl rest (codes "XISTS (SELECT 1 FROM ")) ∙ ap (name_by q r values) (name_read n rest ends)))

  ends_operand : (rest : List ℕ) → stops q Operand rest ≡ true → ends_name rest ≡ true
  unfolding stops
  ends_operand rest s = s

  pub column_found : {a b source name : List ℕ} → IsName q a source → IsName q b name → Found q Operand (a ++ (codes "." ++ b)) [] (column source name)
  column_found {a} {b} {source} {name} n m =
      made (begins_on (begins_as name_starts (name_begins n)) (codes "." ++ b)) 0
      (λ j g rest left s.
      ap (λ (text : List ℕ). at q (read q j) Operand text left) (append_assoc a (codes "." ++ b) rest)
      ∙ (by_name n (read q j) (codes "." ++ (b ++ rest)) left refl
      ∙ ap (column_by source left) (name_read m rest (ends_operand rest s))))

  -- ---- `exists`

  -- where the condition stands
  condition_found : (source : Source) {b : List ℕ} {v : List Value} {x : Sql} (f : Found q Either b v x) (j : ℕ) → f.bound ≤ j → (rest : List ℕ) (left : List Value)
      → existing_in (read q j) source (v ++ left) (codes " WHERE " ++ (b ++ (codes ")" ++ rest))) ≡ Some (exists source x, rest, left)
  condition_found source f j h rest left = ap (λ (o : Out Sql). next o (λ y. closed (exists source y))) (f.gives j h (codes ")" ++ rest) left (either_close q rest))

  source_found : {a : List ℕ} {source : Source} → IsSource q a source → (r : Readers) (values : List Value) (text : List ℕ)
      → exists_by q r values (name_in q (a ++ (codes " WHERE " ++ text))) ≡ existing_in r source values (codes " WHERE " ++ text)
  source_found (named n) r values text = ap (exists_by q r values) (name_read n (codes " WHERE " ++ text) refl)
  source_found (aliased {a = a} {b = b} {table = table} {alias = alias} n m) r values text =
      ap (λ (t : List ℕ). exists_by q r values (name_in q t)) (append_assoc a (codes " AS " ++ b) (codes " WHERE " ++ text))
      ∙ (ap (exists_by q r values) (name_read n (codes " AS " ++ (b ++ (codes " WHERE " ++ text))) refl)
      ∙ ap (aliased_in q r table values) (name_read m (codes " WHERE " ++ text) refl))

  pub exists_found : {a b : List ℕ} {v : List Value} {source : Source} {x : Sql} → IsSource q a source → Found q Either b v x
      → Found q Operand (codes "EXISTS (SELECT 1 FROM " ++ (a ++ (codes " WHERE " ++ (b ++ codes ")")))) v (exists source x)
  unfolding mark_in
  exists_found {a} {b} {v} {source} {x} n f =
      made (begins_so starts_operand 69 _ refl) f.bound
      (λ j g rest left s.
      ap (λ (text : List ℕ). at q (read q j) Operand (codes "EXISTS (SELECT 1 FROM " ++ text) (v ++ left)) (append_assoc a (codes " WHERE " ++ (b ++ codes ")")) rest)
      ∙ (ap (λ (text : List ℕ). at q (read q j) Operand (codes "EXISTS (SELECT 1 FROM " ++ (a ++ (codes " WHERE " ++ text))) (v ++ left)) (append_assoc b (codes ")") rest)
      ∙ (in_each (λ d. mark_by d (read q j) (codes "EXISTS (SELECT 1 FROM " ++ (a ++ (codes " WHERE " ++ (b ++ (codes ")" ++ rest))))) (v ++ left)
      (mark_in d (codes "EXISTS (SELECT 1 FROM " ++ (a ++ (codes " WHERE " ++ (b ++ (codes ")" ++ rest))))))
      ≡ exists_by d (read q j) (v ++ left) (name_in d (a ++ (codes " WHERE " ++ (b ++ (codes ")" ++ rest)))))) refl refl refl q
      ∙ (source_found n (read q j) (v ++ left) (b ++ (codes ")" ++ rest)) ∙ condition_found source f j g rest left))))

  -- ---- functions

  -- a function's word begins an operand of its own
  abbrev Calls : Dialect → Function → List ℕ → List ℕ → Type 0
  Calls d by word text =
      Begins starts_operand word × ((r : Readers) (values : List Value) → at d r Operand (word ++ text) values ≡ operands_by r by text values (after (codes "*)") text))

  call_word : (d : Dialect) (by : Function) (word text : List ℕ) → function_word d by ≡ Some word → Calls d by word text
  unfolding mark_in name_in function_of
  call_word d Count word text is = by_word (λ w. Calls d Count w text) _ word is (in_each (λ e. Calls e Count (codes "count(") text) (begins_so starts_operand _ _ refl, λ r values. refl) (begins_so starts_operand _ _ refl, λ r values. refl) (begins_so starts_operand _ _ refl, λ r values. refl) d)
  call_word d Sum word text is = by_word (λ w. Calls d Sum w text) _ word is (in_each (λ e. Calls e Sum (codes "sum(") text) (begins_so starts_operand _ _ refl, λ r values. refl) (begins_so starts_operand _ _ refl, λ r values. refl) (begins_so starts_operand _ _ refl, λ r values. refl) d)
  call_word d Min word text is = by_word (λ w. Calls d Min w text) _ word is (in_each (λ e. Calls e Min (codes "min(") text) (begins_so starts_operand _ _ refl, λ r values. refl) (begins_so starts_operand _ _ refl, λ r values. refl) (begins_so starts_operand _ _ refl, λ r values. refl) d)
  call_word d Max word text is = by_word (λ w. Calls d Max w text) _ word is (in_each (λ e. Calls e Max (codes "max(") text) (begins_so starts_operand _ _ refl, λ r values. refl) (begins_so starts_operand _ _ refl, λ r values. refl) (begins_so starts_operand _ _ refl, λ r values. refl) d)
  call_word d Lower word text is = by_word (λ w. Calls d Lower w text) _ word is (in_each (λ e. Calls e Lower (codes "lower(") text) (begins_so starts_operand _ _ refl, λ r values. refl) (begins_so starts_operand _ _ refl, λ r values. refl) (begins_so starts_operand _ _ refl, λ r values. refl) d)
  call_word d Upper word text is = by_word (λ w. Calls d Upper w text) _ word is (in_each (λ e. Calls e Upper (codes "upper(") text) (begins_so starts_operand _ _ refl, λ r values. refl) (begins_so starts_operand _ _ refl, λ r values. refl) (begins_so starts_operand _ _ refl, λ r values. refl) d)
  call_word d Length word text is = by_word (λ w. Calls d Length w text) _ word is (in_each (λ e. Calls e Length (codes "length(") text) (begins_so starts_operand _ _ refl, λ r values. refl) (begins_so starts_operand _ _ refl, λ r values. refl) (begins_so starts_operand _ _ refl, λ r values. refl) d)
  call_word d Coalesce word text is = by_word (λ w. Calls d Coalesce w text) _ word is (in_each (λ e. Calls e Coalesce (codes "coalesce(") text) (begins_so starts_operand _ _ refl, λ r values. refl) (begins_so starts_operand _ _ refl, λ r values. refl) (begins_so starts_operand _ _ refl, λ r values. refl) d)
  call_word Sqlite Concat word text is = no_word word is
  call_word Postgresql Concat word text is = no_word word is
  call_word Mysql Concat word text is = by_word (λ w. Calls Mysql Concat w text) _ word is (begins_so starts_operand _ _ refl, λ r values. refl)

  pub call_found : {a word : List ℕ} {v : List Value} {xs : Sqls} (by : Function) → function_word q by ≡ Some word → FoundParts q Either (codes ", ") a v xs
      → Found q Operand (word ++ (a ++ codes ")")) v (call by xs)
  call_found {a} {word} {v} {xs} by is p =
      made (begins_on (call_word q by word [] is).0 (a ++ codes ")")) p.bound
      (λ j g rest left s.
      ap (λ (text : List ℕ). at q (read q j) Operand text (v ++ left)) (append_assoc word (a ++ codes ")") rest)
      ∙ (ap (λ (text : List ℕ). at q (read q j) Operand (word ++ text) (v ++ left)) (append_assoc a (codes ")") rest)
      ∙ ((call_word q by word (a ++ (codes ")" ++ rest)) is).1 (read q j) (v ++ left)
      ∙ (ap (operands_by (read q j) by (a ++ (codes ")" ++ rest)) (v ++ left)) (lacks_byte p.begins 42 refl (codes ")" ++ rest) (codes ")"))
      ∙ ap (λ (o : Out Sqls). next o (λ ys. closed (call by ys))) (p.gives j g (codes ")" ++ rest) left (either_close q rest) refl)))))

  pub count_found : Found q Operand (codes "count(*)") [] count_all
  count_found = made (begins_so starts_operand _ _ refl) 0 (λ j g rest left s. (call_word q Count (codes "count(") (codes "*)" ++ rest) refl).1 (read q j) left)
