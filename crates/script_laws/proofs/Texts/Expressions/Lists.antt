-- The parts of forms with lists, of `between` and of `exists`, read.
use Rattle.std.proofs.Common.{◌≡◌, ℕ, ◌≤◌, ◌++◌, Bool, true, false, List, [], ◌∷◌, map, Some, codes, refl, sym, ap, subst, ◌∙◌, append_assoc, append-nil, arith}
use Rattle.base_core.specs.declared.value.Value.{Value}
use Rattle.schema_core.specs.Catalog.{Catalog}
use Rattle.expr_types.specs.declared.expr.Origin.{Origin}
use Rattle.expr_types.specs.declared.expr.Func.{Func}
use Rattle.expr_types.specs.declared.expr.Func.TheVariants as func
use Rattle.base_core.specs.declared.dialect.Dialect.{Dialect}
use Rattle.sql_text.specs.Words.{in_word, between_word}
use Rattle.sql_text.specs.Written.{words, with_leading_separators, with_separators}
use Rattle.sql_expressions.specs.Laid as l
use Rattle.sql_expressions.specs.Laid.{Laid, under, with_closing_parenthesis, part, parts, value_pieces, beside, beside_two, source_pieces}
use Rattle.script_laws.specs.Texts.Grammar.Trees.{Sql, Sqls, none, more, call, opposite, exists, in_list, between}
use Rattle.script_laws.specs.Texts.Grammar.Words.{function_word}
use Rattle.script_laws.specs.Texts.Grammar.Reads as g
use Rattle.script_laws.specs.Texts.Grammar.Reads.{AreMarks, IsSource, Reads, Parts, Level, Either, Both, Opposite, Tested, Added, Operand}
use Rattle.script_laws.specs.Texts.Expressions.Tree.{trees, function_as, source_tree, exists_tree}
use Rattle.script_laws.proofs.Texts.Expressions.Pieces.{OfText, Writes, after_words, at_end, split, before_words}
use Rattle.script_laws.proofs.Texts.Expressions.Levels.{At, here, to_added, to_either}
use Rattle.script_laws.proofs.Texts.Expressions.Forms.{Ready, under_read, marks_written, source_read}

module _ (q : Dialect) where
  -- ---- parts of a list

  -- an operand with its tree, which its text is read as
  pub record ReadOperand : Type 0 where
    pub laid : Laid
    pub tree : List Origin → Sql
    pub ready : Ready q laid tree

  abbrev pub laids : List ReadOperand → List Laid
  laids xs = map (λ x. x.laid) xs

  abbrev pub trees_of : List Origin → List ReadOperand → Sqls
  trees_of scope xs = trees (map (λ x. x.tree scope) xs)

  -- parts of a level
  pub parts_read : (level : Level) (least : ℕ) → least ≤ 8 → ((t : List ℕ) (v : List Value) (x : Sql) → At q least t v x → Reads q level t v x) → (word : List ℕ) (scope : List Origin)
      (x : ReadOperand) (xs : List ReadOperand) (t : List ℕ) (v : List Value) → Writes q (parts least word (laids (x ∷ xs)) scope) t v → Parts q level word t v (trees_of scope (x ∷ xs))
  unfolding part
  parts_read level least h to word scope x [] t v w =
      split (λ p u. Parts q level word p u (more (x.tree scope) none)) (under least x.laid scope l.param) [] w
      (λ a b u z one rest. at_end (λ p y. Parts q level word (a ++ p) (u ++ y) (more (x.tree scope) none)) rest
      (subst (λ p. Parts q level word p (u ++ []) (more (x.tree scope) none)) (sym (append-nil a))
      (subst (λ y. Parts q level word a y (more (x.tree scope) none)) (sym (append-nil u))
      (g.one_part (to a u (x.tree scope) (under_read q least x.laid x.tree x.ready h scope l.param a u one))))))
  parts_read level least h to word scope x (y ∷ ys) t v w =
      split (λ p u. Parts q level word p u (more (x.tree scope) (trees_of scope (y ∷ ys)))) (under least x.laid scope l.param) (with_leading_separators word (part least scope) (laids (y ∷ ys))) w
      (λ a b u z one rest. after_words (λ p m. Parts q level word (a ++ p) (u ++ m) (more (x.tree scope) (trees_of scope (y ∷ ys)))) rest
      (λ p others. g.more_parts (to a u (x.tree scope) (under_read q least x.laid x.tree x.ready h scope l.param a u one)) (parts_read level least h to word scope y ys p z others)))

  -- two parts or more, the first apart
  pub first_read : (G : OfText) (level : Level) (least : ℕ) → least ≤ 8 → ((t : List ℕ) (v : List Value) (x : Sql) → At q least t v x → Reads q level t v x) → (word : List ℕ) (scope : List Origin)
      (x y : ReadOperand) (ys : List ReadOperand) (t : List ℕ) (v : List Value) → Writes q (parts least word (laids (x ∷ y ∷ ys)) scope) t v
      → ((a b : List ℕ) (u z : List Value) → Reads q level a u (x.tree scope) → Parts q level word b z (trees_of scope (y ∷ ys)) → G (a ++ (word ++ b)) (u ++ z)) → G t v
  unfolding part
  first_read G level least h to word scope x y ys t v w go =
      split G (under least x.laid scope l.param) (with_leading_separators word (part least scope) (laids (y ∷ ys))) w
      (λ a b u z one rest. after_words (λ p m. G (a ++ p) (u ++ m)) rest
      (λ p others. go a p u z (to a u (x.tree scope) (under_read q least x.laid x.tree x.ready h scope l.param a u one)) (parts_read level least h to word scope y ys p z others)))

  function_same : (f : Func) → function_word q (function_as f) ≡ Some (l.function_word f)
  function_same func.Count = refl
  function_same func.Sum = refl
  function_same func.Min = refl
  function_same func.Max = refl
  function_same func.Lower = refl
  function_same func.Upper = refl
  function_same func.Length = refl
  function_same func.Coalesce = refl

  pub call_read : (f : Func) (scope : List Origin) (x : ReadOperand) (xs : List ReadOperand) (t : List ℕ) (v : List Value) → Writes q (l.call_pieces f (laids (x ∷ xs)) scope) t v
      → Reads q Operand t v (call (function_as f) (trees_of scope (x ∷ xs)))
  call_read f scope x xs t v w =
      after_words (λ p u. Reads q Operand p u (call (function_as f) (trees_of scope (x ∷ xs)))) w
      (λ p rest. before_words (λ p u. Reads q Operand (l.function_word f ++ p) u (call (function_as f) (trees_of scope (x ∷ xs)))) (parts 1 (codes ", ") (laids (x ∷ xs)) scope) (codes ")") rest
      (λ a u inner. g.called (function_as f) (function_same f) (parts_read Either 1 (omega arith) (λ t v x at. to_either 1 at) (codes ", ") scope x xs a u inner)))

  -- ---- a list of values

  list_text : (n : Bool) (a m : List ℕ) → (a ++ (in_word n ++ m)) ++ codes ")" ≡ a ++ (in_word n ++ (m ++ codes ")"))
  list_text n a m = append_assoc a (in_word n ++ m) (codes ")") ∙ ap (λ (s : List ℕ). a ++ s) (append_assoc (in_word n) m (codes ")"))

  pub list_read : (n : Bool) (a : Laid) (s : List Origin → Sql) → Ready q a s → (x : Value) (xs : List Value) (scope : List Origin) (t : List ℕ) (v : List Value)
      → Writes q (l.full_list n a (x ∷ xs) scope) t v → Reads q Tested t v (in_list n (s scope) (x ∷ xs))
  list_read n a s ra x xs scope t v w =
      before_words (λ p y. Reads q Tested p y (in_list n (s scope) (x ∷ xs))) (under 5 a scope l.param ++ words (in_word n) ∷ with_separators (codes ", ") (value_pieces (beside scope a)) (x ∷ xs)) (codes ")") w
      (λ p y rest. split (λ p y. Reads q Tested (p ++ codes ")") y (in_list n (s scope) (x ∷ xs))) (under 5 a scope l.param) (words (in_word n) ∷ with_separators (codes ", ") (value_pieces (beside scope a)) (x ∷ xs)) rest
      (λ c d u z one past. after_words (λ p y. Reads q Tested ((c ++ p) ++ codes ")") (u ++ y) (in_list n (s scope) (x ∷ xs))) past
      (λ p others. marks_written q (λ p y. Reads q Tested ((c ++ (in_word n ++ p)) ++ codes ")") (u ++ y) (in_list n (s scope) (x ∷ xs))) (beside scope a) x xs p z others
      (λ m are. subst (λ p. Reads q Tested p (u ++ x ∷ xs) (in_list n (s scope) (x ∷ xs))) (sym (list_text n c m))
      (g.listed n (to_added (under_read q 5 a s ra (omega arith) scope l.param c u one)) are)))))

  -- ---- `between`

  range_text : (n : Bool) (a b c : List ℕ) → (a ++ (between_word n ++ b)) ++ (codes " AND " ++ c) ≡ a ++ (between_word n ++ (b ++ (codes " AND " ++ c)))
  range_text n a b c = append_assoc a (between_word n ++ b) (codes " AND " ++ c) ∙ ap (λ (s : List ℕ). a ++ s) (append_assoc (between_word n) b (codes " AND " ++ c))

  pub range_read : (n : Bool) (a b c : Laid) (s r p : List Origin → Sql) → Ready q a s → Ready q b r → Ready q c p → (scope : List Origin) (t : List ℕ) (v : List Value)
      → Writes q (l.between_pieces n a b c scope) t v → Reads q Tested t v (between n (s scope) (r scope) (p scope))
  range_read n a b c s r p ra rb rc scope t v w =
      let it : Sql = between n (s scope) (r scope) (p scope) in
      split (λ m y. Reads q Tested m y it) (under 5 a scope (beside_two scope b c) ++ words (between_word n) ∷ under 5 b scope (beside scope a)) (words (codes " AND ") ∷ under 5 c scope (beside scope a)) w
      (λ m k y z first last. after_words (λ k z. Reads q Tested (m ++ k) (y ++ z) it) last
      (λ k last. split (λ m y. Reads q Tested (m ++ (codes " AND " ++ k)) (y ++ z) it) (under 5 a scope (beside_two scope b c)) (words (between_word n) ∷ under 5 b scope (beside scope a)) first
      (λ d e u x one past. after_words (λ e x. Reads q Tested ((d ++ e) ++ (codes " AND " ++ k)) ((u ++ x) ++ z) it) past
      (λ f other. subst (λ m. Reads q Tested m ((u ++ x) ++ z) it) (sym (range_text n d f k))
      (subst (λ y. Reads q Tested (d ++ (between_word n ++ (f ++ (codes " AND " ++ k)))) y it) (sym (append_assoc u x z))
      (g.ranged n (to_added (under_read q 5 a s ra (omega arith) scope (beside_two scope b c) d u one)) (to_added (under_read q 5 b r rb (omega arith) scope (beside scope a) f x other))
      (to_added (under_read q 5 c p rc (omega arith) scope (beside scope a) k z last))))))))

  -- ---- `exists`

  exists_text : (a b w : List ℕ) → (a ++ (codes " WHERE " ++ b)) ++ codes ")" ≡ a ++ (codes " WHERE " ++ (b ++ codes ")"))
  exists_text a b w = append_assoc a (codes " WHERE " ++ b) (codes ")")

  inner_exists : (G : OfText) (schema : Catalog) (origin : Origin) (a : Laid) (s : List Origin → Sql) → Ready q a s → (scope : List Origin) (t : List ℕ) (v : List Value)
      → Writes q (source_pieces schema origin ++ words (codes " WHERE ") ∷ a.pieces (scope ++ origin ∷ []) l.param ++ words (codes ")") ∷ []) t v
      → ((c d : List ℕ) (u : List Value) → IsSource q c (source_tree schema origin) → Reads q Either d u (s (scope ++ origin ∷ [])) → G (c ++ (codes " WHERE " ++ (d ++ codes ")"))) u) → G t v
  inner_exists G schema origin a s ra scope t v w go =
      before_words G (source_pieces schema origin ++ words (codes " WHERE ") ∷ a.pieces (scope ++ origin ∷ []) l.param) (codes ")") w
      (λ p y rest. split (λ p y. G (p ++ codes ")") y) (source_pieces schema origin) (words (codes " WHERE ") ∷ a.pieces (scope ++ origin ∷ []) l.param) rest
      (λ c d u z one past. source_read q (λ c u. G ((c ++ d) ++ codes ")") (u ++ z)) schema origin c u one
      (λ c is. after_words (λ d z. G ((c ++ d) ++ codes ")") z) past
      (λ e cond. subst (λ m. G m z) (sym (exists_text c e [])) (go c e z is (to_either a.level (ra (scope ++ origin ∷ []) l.param e z cond)))))))

  pub exists_read : (schema : Catalog) (n : Bool) (origin : Origin) (a : Laid) (s : List Origin → Sql) → Ready q a s → (scope : List Origin) (t : List ℕ) (v : List Value)
      → Writes q (l.exists_pieces schema n origin a scope) t v → At q (l.exists_level n) t v (exists_tree n (exists (source_tree schema origin) (s (scope ++ origin ∷ []))))
  exists_read schema false origin a s ra scope t v w =
      here Operand
      (after_words (λ p u. Reads q Operand p u (exists (source_tree schema origin) (s (scope ++ origin ∷ [])))) w
      (λ p rest. inner_exists (λ p u. Reads q Operand (codes "EXISTS (SELECT 1 FROM " ++ p) u (exists (source_tree schema origin) (s (scope ++ origin ∷ [])))) schema origin a s ra scope p v rest
      (λ c d u is reads. g.existing is reads)))
  exists_read schema true origin a s ra scope t v w =
      here Opposite
      (after_words (λ p u. Reads q Opposite p u (opposite (exists (source_tree schema origin) (s (scope ++ origin ∷ []))))) w
      (λ p rest. inner_exists (λ p u. Reads q Opposite (codes "NOT EXISTS (SELECT 1 FROM " ++ p) u (opposite (exists (source_tree schema origin) (s (scope ++ origin ∷ []))))) schema origin a s ra scope p v rest
      (λ c d u is reads. g.negated (g.existing is reads))))
