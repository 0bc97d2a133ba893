-- Tests, their opposites, and texts of a level with a word between.
use Rattle.std.proofs.Common.{◌≡◌, ℕ, suc, ◌+◌, ◌≤◌, ◌++◌, Bool, true, List, [], Some, codes, refl, ap, ◌∙◌, append_assoc, arith}
use Rattle.base_core.specs.declared.value.Value.{Value}
use Rattle.base_core.specs.declared.dialect.Dialect.{Dialect}
use Rattle.sql_text.specs.Words.{null_word, in_word, empty_word, between_word}
use Rattle.script_laws.specs.Texts.Grammar.Trees.{Test, Sql, test, null_test, in_list, between, opposite, all_of, any_of, Sqls, none, more}
use Rattle.script_laws.specs.Texts.Grammar.Words.{test_word}
use Rattle.script_laws.specs.Texts.Grammar.Reads.{AreMarks, Level, Either, Both, Opposite, Tested, Added, Multiplied, Signed, Operand}
use Rattle.script_laws.proofs.Texts.Grammar.Reader.{after, find, tails, Tail, ends, nulls, empties, lists, ranges, Out, next, behind, closed, at, read, stops, tested_by, tail_by, not_by, parts_by, one_or}
use Rattle.script_laws.proofs.Texts.Grammar.Finding.{after_self, test_found, nulls_found, empties_found, lists_found, ranges_found, stops_tighter, sum_and, no_tail, no_and, no_or}
use Rattle.script_laws.proofs.Texts.Grammar.Naming.{marks_begin, marks_read}
use Rattle.script_laws.proofs.Texts.Grammar.Found.{Found, FoundParts, begins_wider, begins_on, begins_so, lacks_byte, made, one_deeper, rearranged}

module _ (q : Dialect) where
  -- ---- 4

  pub tested_found : {a : List ℕ} {v : List Value} {x : Sql} → Found q Added a v x → Found q Tested a v x
  tested_found {a} {v} {x} f =
      made f.begins f.bound
      (λ j g rest left s.
      ap (λ (o : Out Sql). next o (λ y past over. tested_by q (read q j) y past over (find (tails q) past))) (f.gives j g rest left (stops_tighter q Tested rest s))
      ∙ ap (tested_by q (read q j) x rest left) (no_tail q rest s))

  -- what stands behind the first sum, up to this tail
  behind_sum : {a : List ℕ} {v : List Value} {x : Sql} (f : Found q Added a v x) (j : ℕ) → f.bound ≤ j → (text rest : List ℕ) (left : List Value) (tail : Tail)
      → (find (tails q) text ≡ Some (tail, rest)) × (stops q Added text ≡ true) → at q (read q j) Tested (a ++ text) (v ++ left) ≡ tail_by q (read q j) x rest left tail
  behind_sum {a} {v} {x} f j g text rest left tail is =
      ap (λ (o : Out Sql). next o (λ y past over. tested_by q (read q j) y past over (find (tails q) past))) (f.gives j g text left is.1)
      ∙ ap (tested_by q (read q j) x text left) is.0

  pub two_tested : {a b word : List ℕ} {v w : List Value} {x y : Sql} (by : Test) → test_word q by ≡ Some word → Found q Added a v x → Found q Added b w y
      → Found q Tested (a ++ (word ++ b)) (v ++ w) (test by x y)
  two_tested {a} {b} {word} {v} {w} {x} {y} by is f g =
      made (begins_on f.begins (word ++ b)) (f.bound + g.bound)
      (λ j h rest left s.
      rearranged (at q (read q j) Tested) a (word ++ b) rest v w left
      ∙ (ap (λ (text : List ℕ). at q (read q j) Tested (a ++ text) (v ++ (w ++ left))) (append_assoc word b rest)
      ∙ (behind_sum f j (omega (arith, h)) (word ++ (b ++ rest)) (b ++ rest) (w ++ left) (ends by) (test_found q by word (b ++ rest) is (lacks_byte g.begins 78 refl rest))
      ∙ ap (λ (o : Out Sql). next o (λ z past over. Some (test by x z, past, over))) (g.gives j (omega (arith, h)) rest left (stops_tighter q Tested rest s)))))

  pub nulls_tested : {a : List ℕ} {v : List Value} {x : Sql} (negated : Bool) → Found q Added a v x → Found q Tested (a ++ null_word negated) v (null_test negated x)
  nulls_tested {a} {v} {x} negated f =
      made (begins_on f.begins (null_word negated)) f.bound
      (λ j h rest left s.
      ap (λ (text : List ℕ). at q (read q j) Tested text (v ++ left)) (append_assoc a (null_word negated) rest)
      ∙ behind_sum f j h (null_word negated ++ rest) rest left (nulls negated) (nulls_found q negated rest))

  -- an empty list, which the grammar has in parentheses alone
  pub empty_tested : {a : List ℕ} {v : List Value} {x : Sql} (negated : Bool) → Found q Added a v x → Found q Tested (a ++ empty_word negated) v (in_list negated x [])
  empty_tested {a} {v} {x} negated f =
      made (begins_on f.begins (empty_word negated)) f.bound
      (λ j h rest left s.
      ap (λ (text : List ℕ). at q (read q j) Tested text (v ++ left)) (append_assoc a (empty_word negated) rest)
      ∙ behind_sum f j h (empty_word negated ++ rest) rest left (empties negated) (empties_found q negated rest))

  pub list_tested : {a b : List ℕ} {v w : List Value} {x : Sql} (negated : Bool) → Found q Added a v x → AreMarks q b w
      → Found q Tested (a ++ (in_word negated ++ (b ++ codes ")"))) (v ++ w) (in_list negated x w)
  list_tested {a} {b} {v} {w} {x} negated f ms =
      made (begins_on f.begins (in_word negated ++ (b ++ codes ")"))) f.bound
      (λ j h rest left s.
      rearranged (at q (read q j) Tested) a (in_word negated ++ (b ++ codes ")")) rest v w left
      ∙ (ap (λ (text : List ℕ). at q (read q j) Tested (a ++ text) (v ++ (w ++ left))) (append_assoc (in_word negated) (b ++ codes ")") rest)
      ∙ (ap (λ (text : List ℕ). at q (read q j) Tested (a ++ (in_word negated ++ text)) (v ++ (w ++ left))) (append_assoc b (codes ")") rest)
      ∙ (behind_sum f j h (in_word negated ++ (b ++ (codes ")" ++ rest))) (b ++ (codes ")" ++ rest)) (w ++ left) (lists negated)
      (lists_found q negated (b ++ (codes ")" ++ rest)) (lacks_byte (marks_begin ms) 78 refl (codes ")" ++ rest)))
      ∙ ap (λ (o : Out (List Value)). next o (λ u. closed (in_list negated x u))) (marks_read ms (codes ")" ++ rest) left refl)))))

  pub range_tested : {a b c : List ℕ} {u v w : List Value} {x y z : Sql} (negated : Bool) → Found q Added a u x → Found q Added b v y → Found q Added c w z
      → Found q Tested (a ++ (between_word negated ++ (b ++ (codes " AND " ++ c)))) (u ++ (v ++ w)) (between negated x y z)
  range_tested {a} {b} {c} {u} {v} {w} {x} {y} {z} negated f g h =
      made (begins_on f.begins (between_word negated ++ (b ++ (codes " AND " ++ c)))) (f.bound + (g.bound + h.bound))
      (λ j n rest left s.
      rearranged (at q (read q j) Tested) a (between_word negated ++ (b ++ (codes " AND " ++ c))) rest u (v ++ w) left
      ∙ (ap (λ (text : List ℕ). at q (read q j) Tested (a ++ text) (u ++ ((v ++ w) ++ left))) (append_assoc (between_word negated) (b ++ (codes " AND " ++ c)) rest)
      ∙ (rearranged (λ text values. at q (read q j) Tested (a ++ (between_word negated ++ text)) (u ++ values)) b (codes " AND " ++ c) rest v w left
      ∙ (behind_sum f j (omega (arith, n)) (between_word negated ++ (b ++ (codes " AND " ++ (c ++ rest)))) (b ++ (codes " AND " ++ (c ++ rest))) (v ++ (w ++ left)) (ranges negated)
      (ranges_found q negated (b ++ (codes " AND " ++ (c ++ rest))))
      ∙ (ap (λ (o : Out Sql). next o (λ m past over. behind (after (codes " AND ") past) (λ text. next ((read q j).tree Added text over) (λ o past over. Some (between negated x m o, past, over)))))
      (g.gives j (omega (arith, n)) (codes " AND " ++ (c ++ rest)) (w ++ left) (sum_and q (c ++ rest)))
      ∙ ap (λ (o : Out Sql). next o (λ m past over. Some (between negated x y m, past, over))) (h.gives j (omega (arith, n)) rest left (stops_tighter q Tested rest s)))))))

  -- ---- 3

  pub opposite_found : {a : List ℕ} {v : List Value} {x : Sql} → Found q Tested a v x → Found q Opposite a v x
  opposite_found {a} {v} {x} f =
      made (begins_wider Opposite f.begins) f.bound
      (λ j g rest left s. ap (not_by (read q j) (a ++ rest) (v ++ left)) (lacks_byte f.begins 78 refl rest (codes "OT ")) ∙ f.gives j g rest left (stops_tighter q Opposite rest s))

  pub not_found : {a : List ℕ} {v : List Value} {x : Sql} → Found q Operand a v x → Found q Opposite (codes "NOT " ++ a) v (opposite x)
  not_found {a} {v} {x} f =
      made (begins_so _ 78 (codes "OT " ++ a) refl) f.bound
      (λ j g rest left s. ap (λ (o : Out Sql). next o (λ y past over. Some (opposite y, past, over))) (f.gives j g rest left (operand_stops q rest s)))
    where
      operand_stops : (q : Dialect) (rest : List ℕ) → stops q Opposite rest ≡ true → stops q Operand rest ≡ true
      operand_stops q rest s =
          stops_tighter q Signed rest (stops_tighter q Multiplied rest (stops_tighter q Added rest (stops_tighter q Tested rest (stops_tighter q Opposite rest s))))

  -- ---- parts

  -- a word that ends a text of this level
  pub record Separates (l : Level) (word : List ℕ) : Type 0 where
    pub ends_text : (rest : List ℕ) → stops q l (word ++ rest) ≡ true

  pub one_found : {l : Level} {a : List ℕ} {v : List Value} {x : Sql} (word : List ℕ) → Found q l a v x → FoundParts q l word a v (more x none)
  unfolding read
  one_found {l} {a} {v} {x} word f = record {
    begins = f.begins;
    bound = suc f.bound;
    gives = λ k h rest left s none_behind.
        one_deeper (λ n. (read q n).parts l word (a ++ rest) (v ++ left) ≡ Some (more x none, rest, left)) f.bound k h
        (λ j g. ap (λ (o : Out Sql). next o (λ y past over. parts_by (read q j) l word y past over (after word past))) (f.gives j g rest left s)
        ∙ ap (parts_by (read q j) l word x rest left) none_behind);
  }

  pub more_found : {l : Level} {word a b : List ℕ} {v w : List Value} {x : Sql} {ys : Sqls} → Separates l word → Found q l a v x → FoundParts q l word b w ys
      → FoundParts q l word (a ++ (word ++ b)) (v ++ w) (more x ys)
  unfolding read
  more_found {l} {word} {a} {b} {v} {w} {x} {ys} sep f g = record {
    begins = begins_on f.begins (word ++ b);
    bound = suc (f.bound + g.bound);
    gives = λ k h rest left s none_behind.
        one_deeper (λ n. (read q n).parts l word ((a ++ (word ++ b)) ++ rest) ((v ++ w) ++ left) ≡ Some (more x ys, rest, left)) (f.bound + g.bound) k h
        (λ j n. rearranged (λ text values. next ((read q j).tree l text values) (λ y past over. parts_by (read q j) l word y past over (after word past))) a (word ++ b) rest v w left
        ∙ (ap (λ (text : List ℕ). next ((read q j).tree l (a ++ text) (v ++ (w ++ left))) (λ y past over. parts_by (read q j) l word y past over (after word past))) (append_assoc word b rest)
        ∙ (ap (λ (o : Out Sql). next o (λ y past over. parts_by (read q j) l word y past over (after word past)))
        (f.gives j (omega (arith, n)) (word ++ (b ++ rest)) (w ++ left) (sep.ends_text (b ++ rest)))
        ∙ (ap (parts_by (read q j) l word x (word ++ (b ++ rest)) (w ++ left)) (after_self word (b ++ rest))
        ∙ ap (λ (o : Out Sqls). next o (λ zs past over. Some (more x zs, past, over))) (g.gives j (omega (arith, n)) rest left s none_behind)))));
  }

  -- ---- 2 and 1

  pub both_found : {a : List ℕ} {v : List Value} {x : Sql} → Found q Opposite a v x → Found q Both a v x
  both_found {a} {v} {x} f =
      let p = one_found (codes " AND ") f in
      made f.begins p.bound
      (λ j g rest left s. ap (λ (o : Out Sqls). next o (λ xs past over. Some (one_or all_of xs, past, over))) (p.gives j g rest left (stops_tighter q Both rest s) (no_and q rest s)))

  pub all_found : {a : List ℕ} {v : List Value} {x : Sql} {ys : Sqls} → one_or all_of (more x ys) ≡ all_of (more x ys) → FoundParts q Opposite (codes " AND ") a v (more x ys) → Found q Both a v (all_of (more x ys))
  all_found {a} {v} {x} {ys} several p =
      made p.begins p.bound
      (λ j g rest left s.
      ap (λ (o : Out Sqls). next o (λ xs past over. Some (one_or all_of xs, past, over))) (p.gives j g rest left (stops_tighter q Both rest s) (no_and q rest s))
      ∙ ap (λ (y : Sql). Some (y, rest, left)) several)

  pub either_found : {a : List ℕ} {v : List Value} {x : Sql} → Found q Both a v x → Found q Either a v x
  either_found {a} {v} {x} f =
      let p = one_found (codes " OR ") f in
      made f.begins p.bound
      (λ j g rest left s. ap (λ (o : Out Sqls). next o (λ xs past over. Some (one_or any_of xs, past, over))) (p.gives j g rest left (stops_tighter q Either rest s) (no_or q rest s)))

  pub any_found : {a : List ℕ} {v : List Value} {x : Sql} {ys : Sqls} → one_or any_of (more x ys) ≡ any_of (more x ys) → FoundParts q Both (codes " OR ") a v (more x ys) → Found q Either a v (any_of (more x ys))
  any_found {a} {v} {x} {ys} several p =
      made p.begins p.bound
      (λ j g rest left s.
      ap (λ (o : Out Sqls). next o (λ xs past over. Some (one_or any_of xs, past, over))) (p.gives j g rest left (stops_tighter q Either rest s) (no_or q rest s))
      ∙ ap (λ (y : Sql). Some (y, rest, left)) several)
