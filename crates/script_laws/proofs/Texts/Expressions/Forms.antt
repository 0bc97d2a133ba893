-- The parts of each form of an expression, read.
use Rattle.std.proofs.Common.{◌≡◌, ℕ, ◌≤◌, ◌++◌, Bool, true, false, cond, List, [], ◌∷◌, Option, Some, None, codes, refl, sym, ap, subst, ◌∙◌, append_assoc, append-nil, arith}
use Rattle.std.specs.Prelude.{nat_lt}
use Rattle.std.proofs.lemmas.Bool.{ltb-false}
use Rattle.base_core.specs.declared.value.Value.{Value}
use Rattle.schema_core.specs.Catalog.{Catalog, spec_of}
use Rattle.expr_types.specs.declared.expr.Origin.{Origin}
use Rattle.base_core.specs.declared.dialect.Dialect.{Dialect}
use Rattle.sql_text.specs.Words.{like_word, empty_word}
use Rattle.sql_text.specs.Written.{words, name, with_separators}
use Rattle.sql_expressions.specs.Laid as l
use Rattle.sql_expressions.specs.Laid.{Laid, under, with_closing_parenthesis, two, part, parts, value_pieces, beside, source_pieces, alias_pieces}
use Rattle.script_laws.specs.Texts.Grammar.Trees.{Sql, none, more, Like, Lower, call, in_list}
use Rattle.script_laws.specs.Texts.Grammar.Reads.{IsName, AreMarks, one_mark, more_marks, IsSource, named, aliased, Reads, tested, called, in_parentheses, in_nothing, one_part, Tested, Added, Operand}
use Rattle.script_laws.specs.Texts.Expressions.Tree.{lower_like, source_tree}
use Rattle.script_laws.proofs.Texts.Expressions.Pieces.{OfText, Writes, after_words, after_name, after_value, at_end, split, before_words}
use Rattle.script_laws.proofs.Texts.Expressions.Levels.{At, at_least, here, to_added, to_either}

-- an operand's text is read as its tree, at its level
abbrev pub Ready : Dialect → Laid → (List Origin → Sql) → Type 0
Ready q a s = (scope : List Origin) (base : List ℕ) (t : List ℕ) (v : List Value) → Writes q (a.pieces scope base) t v → At q a.level t v (s scope)

module _ (q : Dialect) where
  -- ---- operands

  under_by : (least : ℕ) (a : Laid) (s : List Origin → Sql) → Ready q a s → least ≤ 8 → (scope : List Origin) (base : List ℕ) (t : List ℕ) (v : List Value) (b : Bool) → nat_lt a.level least ≡ b
      → Writes q (cond b (with_closing_parenthesis (codes "(") (a.pieces scope base)) (a.pieces scope base)) t v → At q least t v (s scope)
  under_by least a s ready h scope base t v true is w =
      after_words (λ r u. At q least r u (s scope)) w
      (λ r rest. before_words (λ p u. At q least (codes "(" ++ p) u (s scope)) (a.pieces scope base) (codes ")") rest
      (λ p u one. at_least least 8 h (here Operand (in_parentheses (to_either a.level (ready scope base p u one))))))
  under_by least a s ready h scope base t v false is w = at_least least a.level (ltb-false a.level least is) (ready scope base t v w)

  pub under_read : (least : ℕ) (a : Laid) (s : List Origin → Sql) → Ready q a s → least ≤ 8 → (scope : List Origin) (base : List ℕ) (t : List ℕ) (v : List Value)
      → Writes q (under least a scope base) t v → At q least t v (s scope)
  under_read least a s ready h scope base t v w = under_by least a s ready h scope base t v (nat_lt a.level least) refl w

  pub two_read : (G : OfText) (left right : ℕ) (word : List ℕ) (a b : Laid) (s r : List Origin → Sql) → Ready q a s → Ready q b r → left ≤ 8 → right ≤ 8 → (scope : List Origin) (t : List ℕ) (v : List Value)
      → Writes q (two left right word a b scope) t v
      → ((c d : List ℕ) (u w : List Value) → At q left c u (s scope) → At q right d w (r scope) → G (c ++ (word ++ d)) (u ++ w)) → G t v
  two_read G left right word a b s r ra rb hl hr scope t v w go =
      split G (under left a scope (beside scope b)) (words word ∷ under right b scope (beside scope a)) w
      (λ c past u over one rest. after_words (λ p y. G (c ++ p) (u ++ y)) rest
      (λ d last. go c d u over (under_read left a s ra hl scope (beside scope b) c u one) (under_read right b r rb hr scope (beside scope a) d over last)))

  -- ---- marks

  pub marks_written : (G : OfText) (base : List ℕ) (x : Value) (xs : List Value) (t : List ℕ) (v : List Value) → Writes q (with_separators (codes ", ") (value_pieces base) (x ∷ xs)) t v
      → ((m : List ℕ) → AreMarks q m (x ∷ xs) → G m (x ∷ xs)) → G t v
  unfolding value_pieces
  marks_written G base x [] t v w go =
      after_value G w (λ m r u is rest. at_end (λ p y. G (m ++ p) (x ∷ y)) rest (subst (λ p. G p (x ∷ [])) (sym (append-nil m)) (go m (one_mark is))))
  marks_written G base x (y ∷ ys) t v w go =
      after_value G w (λ m r u is rest. after_words (λ p z. G (m ++ p) (x ∷ z)) rest
      (λ p others. marks_written (λ s z. G (m ++ (codes ", " ++ s)) (x ∷ z)) base y ys p u others (λ n are. go (m ++ (codes ", " ++ n)) (more_marks is are))))

  -- ---- sources

  pub source_read : (G : OfText) (schema : Catalog) (origin : Origin) (t : List ℕ) (v : List Value) → Writes q (source_pieces schema origin) t v
      → ((a : List ℕ) → IsSource q a (source_tree schema origin) → G a []) → G t v
  source_read G schema origin t v w go = by origin.alias w go
    where
      by : (alias : Option (List ℕ)) → Writes q (name (spec_of schema origin.table).name ∷ alias_pieces alias) t v
          → ((a : List ℕ) → IsSource q a (record { table = (spec_of schema origin.table).name; alias = alias }) → G a []) → G t v
      by None w go = after_name G w (λ a r is rest. at_end (λ p y. G (a ++ p) y) rest (subst (λ p. G p []) (sym (append-nil a)) (go a (named is))))
      by (Some alias) w go =
          after_name G w (λ a r is rest. after_words (λ p y. G (a ++ p) y) rest (λ p past. after_name (λ s y. G (a ++ (codes " AS " ++ s)) y) past
          (λ b s at last. at_end (λ s y. G (a ++ (codes " AS " ++ (b ++ s))) y) last
          (subst (λ s. G (a ++ (codes " AS " ++ s)) []) (sym (append-nil b)) (go (a ++ (codes " AS " ++ b)) (aliased is at))))))

  pub column_written : (G : OfText) (n m : List ℕ) (t : List ℕ) (v : List Value) → Writes q (name n ∷ words (codes ".") ∷ name m ∷ []) t v
      → ((a b : List ℕ) → IsName q a n → IsName q b m → G (a ++ (codes "." ++ b)) []) → G t v
  column_written G n m t v w go =
      after_name G w (λ a r is rest. after_words (λ p y. G (a ++ p) y) rest (λ p past. after_name (λ s y. G (a ++ (codes "." ++ s)) y) past
      (λ b s at last. at_end (λ s y. G (a ++ (codes "." ++ (b ++ s))) y) last (subst (λ s. G (a ++ (codes "." ++ s)) []) (sym (append-nil b)) (go a b is at)))))

  -- ---- forms

  lowered : {a : List ℕ} {v : List Value} {x : Sql} → At q 5 a v x → Reads q Added (codes "lower(" ++ (a ++ codes ")")) v (call Lower (more x none))
  lowered at = to_added (at_least 5 8 (omega arith) (here Operand (called Lower refl (one_part (to_either 5 at)))))

  like_text : (a b w : List ℕ) → codes "lower(" ++ ((a ++ ((codes ")" ++ (w ++ codes "lower(")) ++ b)) ++ codes ")") ≡ (codes "lower(" ++ (a ++ codes ")")) ++ (w ++ (codes "lower(" ++ (b ++ codes ")")))
  like_text a b w =
      ap (λ (s : List ℕ). codes "lower(" ++ s)
      (append_assoc a ((codes ")" ++ (w ++ codes "lower(")) ++ b) (codes ")")
      ∙ (ap (λ (s : List ℕ). a ++ (codes ")" ++ s)) (append_assoc (w ++ codes "lower(") b (codes ")") ∙ append_assoc w (codes "lower(") (b ++ codes ")"))
      ∙ sym (append_assoc a (codes ")") (w ++ (codes "lower(" ++ (b ++ codes ")"))))))

  pub lower_like_read : (denied : Bool) (a b : Laid) (s r : List Origin → Sql) → Ready q a s → Ready q b r → (scope : List Origin) (t : List ℕ) (v : List Value)
      → Writes q (l.lower_like denied a b scope) t v → Reads q Tested t v (lower_like denied (s scope) (r scope))
  lower_like_read n a b s r ra rb scope t v w =
      after_words (λ p y. Reads q Tested p y (lower_like n (s scope) (r scope))) w
      (λ p rest. before_words (λ p y. Reads q Tested (codes "lower(" ++ p) y (lower_like n (s scope) (r scope))) (two 5 5 (l.lower_like_word n) a b scope) (codes ")") rest
      (λ p y inner. two_read (λ p y. Reads q Tested (codes "lower(" ++ (p ++ codes ")")) y (lower_like n (s scope) (r scope))) 5 5 (l.lower_like_word n) a b s r ra rb (omega arith) (omega arith) scope p y inner
      (λ c d u z one other. subst (λ (m : List ℕ). Reads q Tested m (u ++ z) (lower_like n (s scope) (r scope))) (sym (like_text c d (like_word n))) (tested (Like n) refl (lowered one) (lowered other)))))

  no_list_text : (n : Bool) (a : List ℕ) → codes "(" ++ (a ++ l.no_in_word n) ≡ codes "(" ++ ((a ++ empty_word n) ++ codes ")")
  no_list_text n a = ap (λ (s : List ℕ). codes "(" ++ s) (sym (append_assoc a (empty_word n) (codes ")")))

  pub no_list_read : (n : Bool) (a : Laid) (s : List Origin → Sql) → Ready q a s → (scope : List Origin) (t : List ℕ) (v : List Value)
      → Writes q (l.no_list n a scope) t v → Reads q Operand t v (in_list n (s scope) [])
  no_list_read n a s ra scope t v w =
      after_words (λ p y. Reads q Operand p y (in_list n (s scope) [])) w
      (λ p rest. before_words (λ p y. Reads q Operand (codes "(" ++ p) y (in_list n (s scope) [])) (under 5 a scope l.param) (l.no_in_word n) rest
      (λ c u one. subst (λ (m : List ℕ). Reads q Operand m u (in_list n (s scope) [])) (sym (no_list_text n c)) (in_nothing n (to_added (under_read 5 a s ra (omega arith) scope l.param c u one)))))
