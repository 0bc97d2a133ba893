-- The text of every expression is read as its tree.
use Rattle.std.proofs.Common.{◌≡◌, ℕ, suc, ◌≤◌, ◌++◌, Bool, true, false, ◌&&◌, List, [], ◌∷◌, length, map, Some, codes, refl, sym, ap, subst, ◌∙◌, append-nil, arith}
use Rattle.std.specs.Prelude.{nat_lt, slice_get}
use Rattle.std.specs.List.{list_all}
use Rattle.std.proofs.lemmas.Bool.{and_parts}
use Rattle.base_core.specs.declared.value.Value.{Value}
use Rattle.base_core.specs.declared.value.ArithOp.{ArithOp}
use Rattle.base_core.specs.declared.value.ArithOp.TheVariants.{Add, Sub, Mul}
use Rattle.schema_core.specs.Catalog.{Catalog}
use Rattle.expr_types.specs.declared.expr.CompareOp.{CompareOp}
use Rattle.expr_types.specs.declared.expr.CompareOp.TheVariants as compare
use Rattle.expr_types.specs.declared.expr.Expr.{Expr, roll-Expr}
use Rattle.expr_types.specs.declared.expr.Expr.TheOpen.{Expr-F}
use Rattle.expr_types.specs.declared.expr.Expr.TheFolds.{fold-Expr, map-Expr, fold-roll-Expr}
use Rattle.expr_types.specs.declared.expr.Func.{Func}
use Rattle.expr_types.specs.declared.expr.Origin.{Origin}
use Rattle.expr_types.specs.Level.{operands}
use Rattle.expr_types.proofs.Folds.{bare, by_levels}
use Rattle.sql_semantics.specs.Plain.{several}
use Rattle.base_core.specs.declared.dialect.Dialect.{Dialect}
use Rattle.base_core.specs.declared.dialect.Dialect.TheVariants.{Sqlite, Postgresql, Mysql}
use Rattle.sql_text.specs.Words.{null_word, like_word, ilike_word, distinct_word, sqlite_distinct_word}
use Rattle.sql_expressions.specs.Laid as l
use Rattle.sql_expressions.specs.Laid.{Laid, laid, laid_level}
use Rattle.script_laws.specs.Texts.Grammar.Trees.{Sql, Sqls, column, mark, test, null_test, in_list, opposite, negative, call, count_all, Like, Ilike, Distinct, Plus, Minus, Beside, Concat, all_of, any_of, more}
use Rattle.script_laws.specs.Texts.Grammar.Words.{test_word}
use Rattle.script_laws.specs.Texts.Grammar.Reads as g
use Rattle.script_laws.specs.Texts.Grammar.Reads.{Reads, Level, Either, Both, Opposite, Tested, Added, Multiplied, Signed, Operand}
use Rattle.script_laws.specs.Texts.Expressions.Tree.{tree, tree_at, trees, compare_test, function_as, arith_tree, concat_tree, ilike_tree, distinct_tree}
use Rattle.script_laws.proofs.Texts.Expressions.Pieces.{OfText, Writes, after_words, after_value, at_end, before_words}
use Rattle.script_laws.proofs.Texts.Expressions.Levels.{At, here, to_operand, to_signed, to_multiplied, to_added, to_opposite, to_both, to_either}
use Rattle.script_laws.proofs.Texts.Expressions.Forms.{Ready, under_read, two_read, column_written, lower_like_read, no_list_read}
use Rattle.script_laws.proofs.Texts.Expressions.Lists.{ReadOperand, laids, trees_of, first_read, call_read, list_read, range_read, exists_read}

-- ---- what has its operands

-- a function has an operand
abbrev pub has_operands : {A : Type 0} → Expr-F A → Bool
has_operands (Expr-F.Call f es) = nat_lt 0 (length es)
has_operands level = true

abbrev pub whole_level : Expr-F Bool → Bool
whole_level level = (several level && has_operands level) && list_all (λ b. b) (operands level)

-- lists have two parts and functions an operand, at every level
unfoldable pub is_full : Expr → Bool
is_full = fold-Expr Bool whole_level

pub full_rolled : (x : Expr-F Expr) → is_full (roll-Expr x) ≡ whole_level (map-Expr Expr Bool is_full x)
unfolding is_full
full_rolled x = fold-roll-Expr Bool whole_level x

-- ---- one level

module _ (q : Dialect) (schema : Catalog) where
  abbrev Claim : Bool → Laid → (List Origin → Sql) → Type 0
  Claim full a s = full ≡ true → Ready q a s

  abbrev IsRead : Expr → Type 0
  IsRead e = Claim (is_full e) (laid q schema e) (tree q schema e)

  abbrev Known : Type 0
  Known = (e : Expr) × IsRead e

  tests_read : (word : List ℕ) (a b : Known) (scope : List Origin) (t : List ℕ) (v : List Value) → (is_full a.0 && (is_full b.0 && true)) ≡ true
      → (G : OfText) (left right : ℕ) → left ≤ 8 → right ≤ 8 → Writes q (l.two left right word (laid q schema a.0) (laid q schema b.0) scope) t v
      → ((c d : List ℕ) (u w : List Value) → At q left c u (tree q schema a.0 scope) → At q right d w (tree q schema b.0 scope) → G (c ++ (word ++ d)) (u ++ w)) → G t v
  tests_read word a b scope t v h G left right hl hr w go =
      let one = and_parts (is_full a.0) (is_full b.0 && true) h in
      let other = and_parts (is_full b.0) true one.1 in
      two_read q G left right word (laid q schema a.0) (laid q schema b.0) (tree q schema a.0) (tree q schema b.0) (a.1 one.0) (b.1 other.0) hl hr scope t v w go

  compare_word_is : (op : CompareOp) → test_word q (compare_test op) ≡ Some (l.compare_word op)
  compare_word_is compare.Equal = refl
  compare_word_is compare.NotEqual = refl
  compare_word_is compare.Less = refl
  compare_word_is compare.LessEqual = refl
  compare_word_is compare.Greater = refl
  compare_word_is compare.GreaterEqual = refl

  arith_read : (op : ArithOp) (a b : Known) → (is_full a.0 && (is_full b.0 && true)) ≡ true → (scope : List Origin) (t : List ℕ) (v : List Value)
      → Writes q (l.arith_pieces op (laid q schema a.0) (laid q schema b.0) scope) t v → At q (l.arith_level op) t v (arith_tree op (tree q schema a.0 scope) (tree q schema b.0 scope))
  arith_read Add a b h scope t v w =
      tests_read (codes " + ") a b scope t v h (λ p u. At q 5 p u (arith_tree Add (tree q schema a.0 scope) (tree q schema b.0 scope))) 5 6 (omega arith) (omega arith) w
      (λ c d u z one other. here Added (g.added Plus refl (to_added one) (to_multiplied other)))
  arith_read Sub a b h scope t v w =
      tests_read (codes " - ") a b scope t v h (λ p u. At q 5 p u (arith_tree Sub (tree q schema a.0 scope) (tree q schema b.0 scope))) 5 6 (omega arith) (omega arith) w
      (λ c d u z one other. here Added (g.added Minus refl (to_added one) (to_multiplied other)))
  arith_read Mul a b h scope t v w =
      tests_read (codes " * ") a b scope t v h (λ p u. At q 6 p u (arith_tree Mul (tree q schema a.0 scope) (tree q schema b.0 scope))) 6 7 (omega arith) (omega arith) w
      (λ c d u z one other. here Multiplied (g.multiplied (to_multiplied one) (to_signed other)))

  -- operands of a list, all of them full
  operands_of : (ks : List Known) → list_all (λ b. b) (map is_full (map (λ k. k.0) ks)) ≡ true → List (ReadOperand q)
  operands_of [] h = []
  operands_of (k ∷ ks) h =
      let one = and_parts (is_full k.0) (list_all (λ b. b) (map is_full (map (λ (k : Known). k.0) ks))) h in
      record { laid = laid q schema k.0; tree = tree q schema k.0; ready = k.1 one.0 } ∷ operands_of ks one.1

  laids_of : (ks : List Known) (h : list_all (λ b. b) (map is_full (map (λ k. k.0) ks)) ≡ true) → laids q (operands_of ks h) ≡ map (laid q schema) (map (λ k. k.0) ks)
  unfolding operands_of
  laids_of [] h = refl
  laids_of (k ∷ ks) h = ap (λ (xs : List Laid). laid q schema k.0 ∷ xs) (laids_of ks (and_parts (is_full k.0) (list_all (λ b. b) (map is_full (map (λ (k : Known). k.0) ks))) h).1)

  trees_are : (scope : List Origin) (ks : List Known) (h : list_all (λ b. b) (map is_full (map (λ k. k.0) ks)) ≡ true)
      → trees_of q scope (operands_of ks h) ≡ trees (map (λ a. a scope) (map (tree q schema) (map (λ k. k.0) ks)))
  unfolding operands_of
  trees_are scope [] h = refl
  trees_are scope (k ∷ ks) h =
      ap (λ (xs : Sqls). more (tree q schema k.0 scope) xs) (trees_are scope ks (and_parts (is_full k.0) (list_all (λ b. b) (map is_full (map (λ (k : Known). k.0) ks))) h).1)

  count_of : (ks : List Known) (h : list_all (λ b. b) (map is_full (map (λ k. k.0) ks)) ≡ true) → length (map is_full (map (λ k. k.0) ks)) ≡ length (operands_of ks h)
  unfolding operands_of
  count_of [] h = refl
  count_of (k ∷ ks) h = ap (λ (n : ℕ). suc n) (count_of ks (and_parts (is_full k.0) (list_all (λ b. b) (map is_full (map (λ (k : Known). k.0) ks))) h).1)

-- ---- forms that dialects write otherwise

abbrev BothFull : (q : Dialect) (schema : Catalog) → Known q schema → Known q schema → Type 0
BothFull q schema a b = (is_full a.0 && (is_full b.0 && true)) ≡ true

concat_read : (q : Dialect) (schema : Catalog) (a b : Known q schema) → BothFull q schema a b → (scope : List Origin) (t : List ℕ) (v : List Value)
    → Writes q (l.concat_pieces q (laid q schema a.0) (laid q schema b.0) scope) t v → At q (l.concat_level q) t v (concat_tree q (tree q schema a.0 scope) (tree q schema b.0 scope))
concat_read Sqlite schema a b h scope t v w =
    tests_read Sqlite schema (codes " || ") a b scope t v h (λ p u. At Sqlite 5 p u (concat_tree Sqlite (tree Sqlite schema a.0 scope) (tree Sqlite schema b.0 scope))) 5 6 (omega arith) (omega arith) w
    (λ c d u z one other. here Added (g.added Beside refl (to_added one) (to_multiplied other)))
concat_read Postgresql schema a b h scope t v w =
    tests_read Postgresql schema (codes " || ") a b scope t v h (λ p u. At Postgresql 5 p u (concat_tree Postgresql (tree Postgresql schema a.0 scope) (tree Postgresql schema b.0 scope))) 5 6 (omega arith) (omega arith) w
    (λ c d u z one other. here Added (g.added Beside refl (to_added one) (to_multiplied other)))
concat_read Mysql schema a b h scope t v w =
    after_words (λ p u. At Mysql 8 p u (concat_tree Mysql (tree Mysql schema a.0 scope) (tree Mysql schema b.0 scope))) w
    (λ p rest. before_words (λ p u. At Mysql 8 (codes "concat(" ++ p) u (concat_tree Mysql (tree Mysql schema a.0 scope) (tree Mysql schema b.0 scope))) (l.two 5 6 (codes ", ") (laid Mysql schema a.0) (laid Mysql schema b.0) scope) (codes ")") rest
    (λ p u inner. tests_read Mysql schema (codes ", ") a b scope p u h (λ p u. At Mysql 8 (codes "concat(" ++ (p ++ codes ")")) u (concat_tree Mysql (tree Mysql schema a.0 scope) (tree Mysql schema b.0 scope))) 5 6 (omega arith) (omega arith) inner
    (λ c d u z one other. here Operand (g.called Concat refl (g.more_parts (to_either 5 one) (g.one_part (to_either 6 other)))))))

lowers_read : (q : Dialect) (schema : Catalog) (n : Bool) (a b : Known q schema) → BothFull q schema a b → (scope : List Origin) (t : List ℕ) (v : List Value)
    → Writes q (l.lower_like n (laid q schema a.0) (laid q schema b.0) scope) t v → At q 4 t v (ilike_tree Sqlite n (tree q schema a.0 scope) (tree q schema b.0 scope))
lowers_read q schema n a b h scope t v w =
    let one = and_parts (is_full a.0) (is_full b.0 && true) h in
    here Tested (lower_like_read q n (laid q schema a.0) (laid q schema b.0) (tree q schema a.0) (tree q schema b.0) (a.1 one.0) (b.1 (and_parts (is_full b.0) true one.1).0) scope t v w)

ilike_read : (q : Dialect) (schema : Catalog) (n : Bool) (a b : Known q schema) → BothFull q schema a b → (scope : List Origin) (t : List ℕ) (v : List Value)
    → Writes q (l.ilike_pieces q n (laid q schema a.0) (laid q schema b.0) scope) t v → At q 4 t v (ilike_tree q n (tree q schema a.0 scope) (tree q schema b.0 scope))
ilike_read Sqlite schema n a b h scope t v w = lowers_read Sqlite schema n a b h scope t v w
ilike_read Mysql schema n a b h scope t v w = lowers_read Mysql schema n a b h scope t v w
ilike_read Postgresql schema n a b h scope t v w =
    tests_read Postgresql schema (ilike_word n) a b scope t v h (λ p u. At Postgresql 4 p u (ilike_tree Postgresql n (tree Postgresql schema a.0 scope) (tree Postgresql schema b.0 scope))) 5 5 (omega arith) (omega arith) w
    (λ c d u z one other. here Tested (g.tested (Ilike n) refl (to_added one) (to_added other)))

distinct_read : (q : Dialect) (schema : Catalog) (n : Bool) (a b : Known q schema) → BothFull q schema a b → (scope : List Origin) (t : List ℕ) (v : List Value)
    → Writes q (l.distinct_pieces q n (laid q schema a.0) (laid q schema b.0) scope) t v → At q (l.distinct_level q n) t v (distinct_tree q n (tree q schema a.0 scope) (tree q schema b.0 scope))
distinct_read Sqlite schema n a b h scope t v w =
    tests_read Sqlite schema (sqlite_distinct_word n) a b scope t v h (λ p u. At Sqlite 4 p u (distinct_tree Sqlite n (tree Sqlite schema a.0 scope) (tree Sqlite schema b.0 scope))) 5 5 (omega arith) (omega arith) w
    (λ c d u z one other. here Tested (g.tested (Distinct n) refl (to_added one) (to_added other)))
distinct_read Postgresql schema n a b h scope t v w =
    tests_read Postgresql schema (distinct_word n) a b scope t v h (λ p u. At Postgresql 4 p u (distinct_tree Postgresql n (tree Postgresql schema a.0 scope) (tree Postgresql schema b.0 scope))) 5 5 (omega arith) (omega arith) w
    (λ c d u z one other. here Tested (g.tested (Distinct n) refl (to_added one) (to_added other)))
distinct_read Mysql schema false a b h scope t v w =
    after_words (λ p u. At Mysql 3 p u (distinct_tree Mysql false (tree Mysql schema a.0 scope) (tree Mysql schema b.0 scope))) w
    (λ p rest. before_words (λ p u. At Mysql 3 (codes "NOT (" ++ p) u (distinct_tree Mysql false (tree Mysql schema a.0 scope) (tree Mysql schema b.0 scope))) (l.two 5 5 (codes " <=> ") (laid Mysql schema a.0) (laid Mysql schema b.0) scope) (codes ")") rest
    (λ p u inner. tests_read Mysql schema (codes " <=> ") a b scope p u h (λ p u. At Mysql 3 (codes "NOT (" ++ (p ++ codes ")")) u (distinct_tree Mysql false (tree Mysql schema a.0 scope) (tree Mysql schema b.0 scope))) 5 5 (omega arith) (omega arith) inner
    (λ c d u z one other. here Opposite (g.negated (g.in_parentheses (to_either 4 (here Tested (g.tested (Distinct true) refl (to_added one) (to_added other)))))))))
distinct_read Mysql schema true a b h scope t v w =
    tests_read Mysql schema (codes " <=> ") a b scope t v h (λ p u. At Mysql 4 p u (distinct_tree Mysql true (tree Mysql schema a.0 scope) (tree Mysql schema b.0 scope))) 5 5 (omega arith) (omega arith) w
    (λ c d u z one other. here Tested (g.tested (Distinct true) refl (to_added one) (to_added other)))

-- ---- every level

module _ (q : Dialect) (schema : Catalog) where
  in_read : (n : Bool) (a : Known q schema) → is_full a.0 ≡ true → (values : List Value) (scope : List Origin) (t : List ℕ) (v : List Value)
      → Writes q (l.in_pieces n (laid q schema a.0) values scope) t v → At q (l.in_level values) t v (in_list n (tree q schema a.0 scope) values)
  in_read n a h [] scope t v w = here Operand (no_list_read q n (laid q schema a.0) (tree q schema a.0) (a.1 h) scope t v w)
  in_read n a h (x ∷ xs) scope t v w = here Tested (list_read q n (laid q schema a.0) (tree q schema a.0) (a.1 h) x xs scope t v w)

  -- two operands or more with a word between
  and_lists : (xs : List (ReadOperand q)) → nat_lt 1 (length xs) ≡ true → (scope : List Origin) (t : List ℕ) (v : List Value) → Writes q (l.parts 3 (codes " AND ") (laids q xs) scope) t v
      → At q 2 t v (all_of (trees_of q scope xs))
  and_lists [] h scope t v w = absurd (cc)
  and_lists (x ∷ []) h scope t v w = absurd (cc)
  and_lists (x ∷ y ∷ ys) h scope t v w =
      here Both
      (first_read q (λ p u. Reads q Both p u (all_of (trees_of q scope (x ∷ y ∷ ys)))) Opposite 3 (omega arith) (λ t v x at. to_opposite at) (codes " AND ") scope x y ys t v w
      (λ a b u z one others. g.both one others))

  or_lists : (xs : List (ReadOperand q)) → nat_lt 1 (length xs) ≡ true → (scope : List Origin) (t : List ℕ) (v : List Value) → Writes q (l.parts 2 (codes " OR ") (laids q xs) scope) t v
      → At q 1 t v (any_of (trees_of q scope xs))
  or_lists [] h scope t v w = absurd (cc)
  or_lists (x ∷ []) h scope t v w = absurd (cc)
  or_lists (x ∷ y ∷ ys) h scope t v w =
      here Either
      (first_read q (λ p u. Reads q Either p u (any_of (trees_of q scope (x ∷ y ∷ ys)))) Both 2 (omega arith) (λ t v x at. to_both at) (codes " OR ") scope x y ys t v w
      (λ a b u z one others. g.either one others))

  call_lists : (f : Func) (xs : List (ReadOperand q)) → nat_lt 0 (length xs) ≡ true → (scope : List Origin) (t : List ℕ) (v : List Value) → Writes q (l.call_pieces f (laids q xs) scope) t v
      → At q 8 t v (call (function_as f) (trees_of q scope xs))
  call_lists f [] h scope t v w = absurd (cc)
  call_lists f (x ∷ xs) h scope t v w = here Operand (call_read q f scope x xs t v w)

  -- a list's operands are all full, and as many as the list has
  list_of : (ks : List (Known q schema)) (a b : Bool) → ((a && b) && list_all (λ b. b) (map is_full (map (λ k. k.0) ks))) ≡ true → (list_all (λ b. b) (map is_full (map (λ k. k.0) ks)) ≡ true) × (a ≡ true) × (b ≡ true)
  list_of ks a b h =
      let parts = and_parts (a && b) (list_all (λ b. b) (map is_full (map (λ (k : Known q schema). k.0) ks))) h in
      let first = and_parts a b parts.0 in
      (parts.1, first.0, first.1)

  by_list : (G : List Laid → Sqls → Type 0) (scope : List Origin) (ks : List (Known q schema)) (h : list_all (λ b. b) (map is_full (map (λ k. k.0) ks)) ≡ true)
      → G (laids q (operands_of q schema ks h)) (trees_of q scope (operands_of q schema ks h))
      → G (map (laid q schema) (map (λ k. k.0) ks)) (trees (map (λ a. a scope) (map (tree q schema) (map (λ k. k.0) ks))))
  by_list G scope ks h g = subst (λ xs. G xs (trees (map (λ (a : List Origin → Sql). a scope) (map (tree q schema) (map (λ (k : Known q schema). k.0) ks))))) (laids_of q schema ks h) (subst (λ ts. G (laids q (operands_of q schema ks h)) ts) (trees_are q schema scope ks h) g)

  level_read : (y : Expr-F (Known q schema)) → Claim q schema (whole_level (map-Expr Expr Bool is_full (bare y))) (laid_level q schema (map-Expr Expr Laid (laid q schema) (bare y))) (tree_at q schema (map-Expr Expr (List Origin → Sql) (tree q schema) (bare y)))
  level_read (Expr-F.Column s c) h scope base t v w =
      column_written q (λ p u. At q 8 p u (column (l.source_shown schema (slice_get scope s)) (l.column_shown schema (slice_get scope s) c))) (l.source_shown schema (slice_get scope s)) (l.column_shown schema (slice_get scope s) c) t v w (λ a b one other. here Operand (g.of_source one other))
  level_read (Expr-F.Lit x) h scope base t v w =
      after_value (λ p u. At q 8 p u (mark x)) w (λ m r u is rest. at_end (λ p z. At q 8 (m ++ p) (x ∷ z) (mark x)) rest (subst (λ p. At q 8 p (x ∷ []) (mark x)) (sym (append-nil m)) (here Operand (g.marked x is))))
  level_read (Expr-F.Compare op a b) h scope base t v w =
      tests_read q schema (l.compare_word op) a b scope t v h (λ p u. At q 4 p u (test (compare_test op) (tree q schema a.0 scope) (tree q schema b.0 scope))) 5 5 (omega arith) (omega arith) w
      (λ c d u z one other. here Tested (g.tested (compare_test op) (compare_word_is q schema op) (to_added one) (to_added other)))
  level_read (Expr-F.IsNull n a) h scope base t v w =
      before_words (λ p u. At q 4 p u (null_test n (tree q schema a.0 scope))) (l.under 5 (laid q schema a.0) scope l.param) (null_word n) w
      (λ c u one. here Tested (g.null_tested n (to_added (under_read q 5 (laid q schema a.0) (tree q schema a.0) (a.1 (and_parts (is_full a.0) true h).0) (omega arith) scope l.param c u one))))
  level_read (Expr-F.And ks) h scope base t v w =
      let parts = list_of ks (nat_lt 1 (length (map is_full (map (λ (k : Known q schema). k.0) ks)))) true h in
      by_list (λ ls ts. Writes q (l.parts 3 (codes " AND ") ls scope) t v → At q 2 t v (all_of ts)) scope ks parts.0
      (and_lists (operands_of q schema ks parts.0) (sym (ap (nat_lt 1) (count_of q schema ks parts.0)) ∙ parts.1) scope t v) w
  level_read (Expr-F.Or ks) h scope base t v w =
      let parts = list_of ks (nat_lt 1 (length (map is_full (map (λ (k : Known q schema). k.0) ks)))) true h in
      by_list (λ ls ts. Writes q (l.parts 2 (codes " OR ") ls scope) t v → At q 1 t v (any_of ts)) scope ks parts.0
      (or_lists (operands_of q schema ks parts.0) (sym (ap (nat_lt 1) (count_of q schema ks parts.0)) ∙ parts.1) scope t v) w
  level_read (Expr-F.Not a) h scope base t v w =
      after_words (λ p u. At q 3 p u (opposite (tree q schema a.0 scope))) w
      (λ p one. here Opposite (g.negated (to_operand (under_read q 8 (laid q schema a.0) (tree q schema a.0) (a.1 (and_parts (is_full a.0) true h).0) (omega arith) scope l.param p v one))))
  level_read (Expr-F.Arith op a b) h scope base t v w = arith_read q schema op a b h scope t v w
  level_read (Expr-F.Neg a) h scope base t v w =
      after_words (λ p u. At q 7 p u (negative (tree q schema a.0 scope))) w
      (λ p one. here Signed (g.signed (to_operand (under_read q 8 (laid q schema a.0) (tree q schema a.0) (a.1 (and_parts (is_full a.0) true h).0) (omega arith) scope l.param p v one))))
  level_read (Expr-F.Concat a b) h scope base t v w = concat_read q schema a b h scope t v w
  level_read (Expr-F.Like n a b) h scope base t v w =
      tests_read q schema (like_word n) a b scope t v h (λ p u. At q 4 p u (test (Like n) (tree q schema a.0 scope) (tree q schema b.0 scope))) 5 5 (omega arith) (omega arith) w
      (λ c d u z one other. here Tested (g.tested (Like n) refl (to_added one) (to_added other)))
  level_read (Expr-F.Ilike n a b) h scope base t v w = ilike_read q schema n a b h scope t v w
  level_read (Expr-F.InList n a values) h scope base t v w = in_read n a (and_parts (is_full a.0) true h).0 values scope t v w
  level_read (Expr-F.Between n a b c) h scope base t v w =
      let one = and_parts (is_full a.0) (is_full b.0 && (is_full c.0 && true)) h in
      let two = and_parts (is_full b.0) (is_full c.0 && true) one.1 in
      here Tested
      (range_read q n (laid q schema a.0) (laid q schema b.0) (laid q schema c.0) (tree q schema a.0) (tree q schema b.0) (tree q schema c.0) (a.1 one.0) (b.1 two.0) (c.1 (and_parts (is_full c.0) true two.1).0) scope t v w)
  level_read (Expr-F.Distinct n a b) h scope base t v w = distinct_read q schema n a b h scope t v w
  level_read (Expr-F.Call f ks) h scope base t v w =
      let parts = list_of ks true (nat_lt 0 (length (map is_full (map (λ (k : Known q schema). k.0) ks)))) h in
      by_list (λ ls ts. Writes q (l.call_pieces f ls scope) t v → At q 8 t v (call (function_as f) ts)) scope ks parts.0
      (call_lists f (operands_of q schema ks parts.0) (sym (ap (nat_lt 0) (count_of q schema ks parts.0)) ∙ parts.2) scope t v) w
  level_read Expr-F.CountAll h scope base t v w = after_words (λ p u. At q 8 p u count_all) w (λ p rest. at_end (λ s u. At q 8 (codes "count(*)" ++ s) u count_all) rest (here Operand g.counted))
  level_read (Expr-F.Exists n o a) h scope base t v w = exists_read q schema n o (laid q schema a.0) (tree q schema a.0) (a.1 (and_parts (is_full a.0) true h).0) scope t v w

  laid_rolled : (x : Expr-F Expr) → laid q schema (roll-Expr x) ≡ laid_level q schema (map-Expr Expr Laid (laid q schema) x)
  unfolding laid
  laid_rolled x = fold-roll-Expr Laid (laid_level q schema) x

  tree_rolled : (x : Expr-F Expr) → tree q schema (roll-Expr x) ≡ tree_at q schema (map-Expr Expr (List Origin → Sql) (tree q schema) x)
  unfolding tree
  tree_rolled x = fold-roll-Expr (List Origin → Sql) (tree_at q schema) x

  pub full_read : (e : Expr) → IsRead q schema e
  full_read =
      by_levels (IsRead q schema)
      (λ y. subst (λ b. Claim q schema b (laid q schema (roll-Expr (bare y))) (tree q schema (roll-Expr (bare y)))) (sym (full_rolled (bare y)))
      (subst (λ a. Claim q schema (whole_level (map-Expr Expr Bool is_full (bare y))) a (tree q schema (roll-Expr (bare y)))) (sym (laid_rolled (bare y)))
      (subst (λ s. Claim q schema (whole_level (map-Expr Expr Bool is_full (bare y))) (laid_level q schema (map-Expr Expr Laid (laid q schema) (bare y))) s) (sym (tree_rolled (bare y))) (level_read y))))
