-- The parts of statements, read.
use Rattle.std.proofs.Common.{◌≡◌, ℕ, ◌++◌, Bool, true, false, List, [], ◌∷◌, map, Option, Some, None, codes, refl, sym, ap, subst, append-nil, arith}
use Rattle.std.specs.List.{AllByRecursion}
use Rattle.std.specs.Option.{option_map}
use Rattle.base_core.specs.declared.value.Value.{Value}
use Rattle.schema_core.specs.Catalog.{Catalog}
use Rattle.expr_types.specs.declared.expr.Expr.{Expr}
use Rattle.expr_types.specs.declared.expr.Origin.{Origin}
use Rattle.expr_types.specs.declared.select.Joined.{Joined}
use Rattle.sql_semantics.specs.Plain.{StandsIn, AreJoined, IfSet}
use Rattle.base_core.specs.declared.dialect.Dialect.{Dialect}
use Rattle.base_core.specs.declared.dialect.Dialect.TheVariants.{Sqlite, Postgresql, Mysql}
use Rattle.sql_text.specs.Words.{join_word}
use Rattle.sql_text.specs.Written.{Piece, words, name, with_leading_separators, with_separators}
use Rattle.sql_expressions.specs.Laid.{laid, part, param, source_pieces}
use Rattle.sql_rows.specs.Cuts as cuts
use Rattle.sql_statements.specs.Selects as s
use Rattle.sql_statements.specs.Selects.{whole}
use Rattle.script_laws.specs.Texts.Grammar.Reads.{Reads, Either, IsMark}
use Rattle.script_laws.specs.Texts.Expressions.Tree.{tree}
use Rattle.script_laws.proofs.Texts.Expressions.Pieces.{OfText, Writes, after_words, after_name, after_value, at_end, split}
use Rattle.script_laws.proofs.Texts.Expressions.Levels.{to_either}
use Rattle.script_laws.proofs.Texts.Expressions.Expressions.{full_read}
use Rattle.script_laws.proofs.Texts.Expressions.Forms.{under_read, source_read}
use Rattle.script_laws.proofs.Texts.Expressions.Full.{stands_full}
use Rattle.script_laws.specs.Texts.Forms.Forms.{JoinForm}
use Rattle.script_laws.specs.Texts.Forms.Clauses.{Reading, Items, no_items, one_item, more_items, Clause, no_clause, clause, Series, no_series, series, Item, unnamed, as_name, Order, rising, falling, Joins, no_joins, join, Cut, no_cut, limit_alone, sqlite_offset, postgresql_offset, mysql_offset, sqlite_both, postgresql_both, mysql_both}
use Rattle.script_laws.specs.Texts.Forms.Form.{joins_form, number}

module _ (q : Dialect) where
  -- ---- items

  -- each item's text is read
  abbrev pub AllRead : {A B : Type 0} → (A → List Piece) → Reading B → (A → B) → List A → Type 0
  AllRead pieces reads f xs = AllByRecursion (λ x. (t : List ℕ) (v : List Value) → Writes q (pieces x) t v → reads t v (f x)) xs

  pub items_read : {A B : Type 0} (pieces : A → List Piece) (reads : Reading B) (f : A → B) (word : List ℕ) (xs : List A) → AllRead pieces reads f xs → (t : List ℕ) (v : List Value)
      → Writes q (with_separators word pieces xs) t v → Items reads word t v (map f xs)
  items_read pieces reads f word [] all t v w = at_end (λ p u. Items reads word p u []) w no_items
  items_read pieces reads f word (x ∷ []) all t v w =
      split (λ p u. Items reads word p u (f x ∷ [])) (pieces x) [] w
      (λ a b u z one rest. at_end (λ p y. Items reads word (a ++ p) (u ++ y) (f x ∷ [])) rest
      (subst (λ p. Items reads word p (u ++ []) (f x ∷ [])) (sym (append-nil a)) (subst (λ y. Items reads word a y (f x ∷ [])) (sym (append-nil u)) (one_item (all.0 a u one)))))
  items_read pieces reads f word (x ∷ y ∷ ys) all t v w =
      split (λ p u. Items reads word p u (f x ∷ f y ∷ map f ys)) (pieces x) (with_leading_separators word pieces (y ∷ ys)) w
      (λ a b u z one rest. after_words (λ p m. Items reads word (a ++ p) (u ++ m) (f x ∷ f y ∷ map f ys)) rest
      (λ p others. more_items (all.0 a u one) (items_read pieces reads f word (y ∷ ys) all.1 p z others)))

  led_map : {A B : Type 0} (pieces : B → List Piece) (f : A → B) (word : List ℕ) (xs : List A) → with_leading_separators word pieces (map f xs) ≡ with_leading_separators word (λ x. pieces (f x)) xs
  led_map pieces f word [] = refl
  led_map pieces f word (x ∷ xs) = ap (λ (ps : List Piece). (words word ∷ pieces (f x)) ++ ps) (led_map pieces f word xs)

  joined_map : {A B : Type 0} (pieces : B → List Piece) (f : A → B) (word : List ℕ) (xs : List A) → with_separators word pieces (map f xs) ≡ with_separators word (λ x. pieces (f x)) xs
  joined_map pieces f word [] = refl
  joined_map pieces f word (x ∷ xs) = ap (λ (ps : List Piece). pieces (f x) ++ ps) (led_map pieces f word xs)

module _ (q : Dialect) (schema : Catalog) where
  -- ---- expressions

  pub expression_read : (scope : List Origin) (base : List ℕ) (e : Expr) → StandsIn schema scope e → (t : List ℕ) (v : List Value) → Writes q ((laid q schema e).pieces scope base) t v
      → Reads q Either t v (tree q schema e scope)
  expression_read scope base e h t v w = to_either (laid q schema e).level (full_read q schema e (stands_full schema scope e h) scope base t v w)

  part_read : (scope : List Origin) (e : Expr) → StandsIn schema scope e → (t : List ℕ) (v : List Value) → Writes q (part 1 scope (laid q schema e)) t v → Reads q Either t v (tree q schema e scope)
  unfolding part
  part_read scope e h t v w = to_either 1 (under_read q 1 (laid q schema e) (tree q schema e) (full_read q schema e (stands_full schema scope e h)) (omega arith) scope param t v w)

  pub clause_read : (scope : List Origin) (word : List ℕ) (e : Option Expr) → IfSet (StandsIn schema scope) e → (t : List ℕ) (v : List Value) → Writes q (s.clause_pieces q schema scope word e) t v
      → Clause (Reads q Either) word t v (option_map (λ x. tree q schema x scope) e)
  clause_read scope word None h t v w = at_end (λ p u. Clause (Reads q Either) word p u None) w no_clause
  clause_read scope word (Some e) h t v w =
      after_words (λ p u. Clause (Reads q Either) word p u (Some (tree q schema e scope))) w (λ p rest. clause (expression_read scope param e h p v rest))

  -- ---- clauses of selects

  item_by : (scope : List Origin) (e : Expr) (alias : Option (List ℕ)) → StandsIn schema scope e → (t : List ℕ) (v : List Value) → Writes q (whole q schema scope e ++ s.named_pieces alias) t v
      → Item q t v (tree q schema e scope, alias)
  item_by scope e None h t v w =
      split (λ p u. Item q p u (tree q schema e scope, None)) (whole q schema scope e) [] w
      (λ a b u z one rest. at_end (λ p y. Item q (a ++ p) (u ++ y) (tree q schema e scope, None)) rest
      (subst (λ p. Item q p (u ++ []) (tree q schema e scope, None)) (sym (append-nil a)) (subst (λ y. Item q a y (tree q schema e scope, None)) (sym (append-nil u)) (unnamed (expression_read scope param e h a u one)))))
  item_by scope e (Some n) h t v w =
      split (λ p u. Item q p u (tree q schema e scope, Some n)) (whole q schema scope e) (words (codes " AS ") ∷ name n ∷ []) w
      (λ a b u z one rest. after_words (λ p y. Item q (a ++ p) (u ++ y) (tree q schema e scope, Some n)) rest
      (λ p past. after_name (λ p y. Item q (a ++ (codes " AS " ++ p)) (u ++ y) (tree q schema e scope, Some n)) past
      (λ c r is last. at_end (λ p y. Item q (a ++ (codes " AS " ++ (c ++ p))) (u ++ y) (tree q schema e scope, Some n)) last
      (subst (λ p. Item q (a ++ (codes " AS " ++ p)) (u ++ []) (tree q schema e scope, Some n)) (sym (append-nil c))
      (subst (λ y. Item q (a ++ (codes " AS " ++ c)) y (tree q schema e scope, Some n)) (sym (append-nil u)) (as_name (expression_read scope param e h a u one) is))))))

  pub all_items : (scope : List Origin) (items : List (Expr × Option (List ℕ))) → AllByRecursion (λ item. StandsIn schema scope item.0) items
      → AllRead q (s.item_pieces q schema scope) (Item q) (λ item. (tree q schema item.0 scope, item.1)) items
  all_items scope [] h = tt
  all_items scope (x ∷ xs) h = (λ t v w. item_by scope x.0 x.1 h.0 t v w, all_items scope xs h.1)

  key_by : (scope : List Origin) (e : Expr) (down : Bool) → StandsIn schema scope e → (t : List ℕ) (v : List Value) → Writes q (whole q schema scope e ++ s.desc_pieces down) t v
      → Order q t v (tree q schema e scope, down)
  key_by scope e false h t v w =
      split (λ p u. Order q p u (tree q schema e scope, false)) (whole q schema scope e) [] w
      (λ a b u z one rest. at_end (λ p y. Order q (a ++ p) (u ++ y) (tree q schema e scope, false)) rest
      (subst (λ p. Order q p (u ++ []) (tree q schema e scope, false)) (sym (append-nil a)) (subst (λ y. Order q a y (tree q schema e scope, false)) (sym (append-nil u)) (rising (expression_read scope param e h a u one)))))
  key_by scope e true h t v w =
      split (λ p u. Order q p u (tree q schema e scope, true)) (whole q schema scope e) (words (codes " DESC") ∷ []) w
      (λ a b u z one rest. after_words (λ p y. Order q (a ++ p) (u ++ y) (tree q schema e scope, true)) rest
      (λ p past. at_end (λ p y. Order q (a ++ (codes " DESC" ++ p)) (u ++ y) (tree q schema e scope, true)) past
      (subst (λ y. Order q (a ++ codes " DESC") y (tree q schema e scope, true)) (sym (append-nil u)) (falling (expression_read scope param e h a u one)))))

  all_keys : (scope : List Origin) (keys : List (Expr × Bool)) → AllByRecursion (λ key. StandsIn schema scope key.0) keys
      → AllRead q (s.key_pieces q schema scope) (Order q) (λ key. (tree q schema key.0 scope, key.1)) keys
  all_keys scope [] h = tt
  all_keys scope (x ∷ xs) h = (λ t v w. key_by scope x.0 x.1 h.0 t v w, all_keys scope xs h.1)

  all_groups : (scope : List Origin) (es : List Expr) → AllByRecursion (StandsIn schema scope) es → AllRead q (λ e. part 1 scope (laid q schema e)) (Reads q Either) (λ e. tree q schema e scope) es
  all_groups scope [] h = tt
  all_groups scope (e ∷ es) h = (λ t v w. part_read scope e h.0 t v w, all_groups scope es h.1)

  pub groups_read : (scope : List Origin) (es : List Expr) → AllByRecursion (StandsIn schema scope) es → (t : List ℕ) (v : List Value) → Writes q (s.groups_pieces q schema scope es) t v
      → Series (Reads q Either) (codes " GROUP BY ") (codes ", ") t v (map (λ e. tree q schema e scope) es)
  groups_read scope [] h t v w = at_end (λ p u. Series (Reads q Either) (codes " GROUP BY ") (codes ", ") p u []) w no_series
  groups_read scope (e ∷ es) h t v w =
      after_words (λ p u. Series (Reads q Either) (codes " GROUP BY ") (codes ", ") p u (map (λ e. tree q schema e scope) (e ∷ es))) w
      (λ p rest. series (items_read q (λ e. part 1 scope (laid q schema e)) (Reads q Either) (λ e. tree q schema e scope) (codes ", ") (e ∷ es) (all_groups scope (e ∷ es) h) p v
      (subst (λ ps. Writes q ps p v) (joined_map q (part 1 scope) (laid q schema) (codes ", ") (e ∷ es)) rest)))

  pub order_read : (scope : List Origin) (keys : List (Expr × Bool)) → AllByRecursion (λ key. StandsIn schema scope key.0) keys → (t : List ℕ) (v : List Value)
      → Writes q (s.order_pieces q schema scope keys) t v → Series (Order q) (codes " ORDER BY ") (codes ", ") t v (map (λ key. (tree q schema key.0 scope, key.1)) keys)
  order_read scope [] h t v w = at_end (λ p u. Series (Order q) (codes " ORDER BY ") (codes ", ") p u []) w no_series
  order_read scope (k ∷ ks) h t v w =
      after_words (λ p u. Series (Order q) (codes " ORDER BY ") (codes ", ") p u (map (λ key. (tree q schema key.0 scope, key.1)) (k ∷ ks))) w
      (λ p rest. series (items_read q (s.key_pieces q schema scope) (Order q) (λ key. (tree q schema key.0 scope, key.1)) (codes ", ") (k ∷ ks) (all_keys scope (k ∷ ks) h) p v rest))

  pub joins_read : (before : List Origin) (joins : List Joined) → AreJoined schema before joins → (t : List ℕ) (v : List Value) → Writes q (s.joins_pieces q schema before joins) t v
      → Joins q t v (joins_form q schema before joins)
  joins_read before [] h t v w = at_end (λ p u. Joins q p u []) w no_joins
  joins_read before (j ∷ js) h t v w =
      let scope : List Origin = before ++ j.origin ∷ [] in
      let form : List JoinForm = joins_form q schema before (j ∷ js) in
      split (λ p u. Joins q p u form) (s.join_pieces q schema scope j) (s.joins_pieces q schema scope js) w
      (λ a c u z one rest. after_words (λ a u. Joins q (a ++ c) (u ++ z) form) one
      (λ a past. split (λ p u. Joins q ((join_word j.left ++ p) ++ c) (u ++ z) form) (source_pieces schema j.origin) (words (codes " ON ") ∷ whole q schema scope j.on) past
      (λ d b x y first last. source_read q (λ d x. Joins q ((join_word j.left ++ (d ++ b)) ++ c) ((x ++ y) ++ z) form) schema j.origin d x first
      (λ d is. after_words (λ b y. Joins q ((join_word j.left ++ (d ++ b)) ++ c) (y ++ z) form) last
      (λ b cond. join j.left is (expression_read scope param j.on h.0.stands b y cond) (joins_read scope js h.2 c z rest))))))

-- ---- cuts

one_number : (q : Dialect) (G : OfText) (word : List ℕ) (n : ℕ) (ps : List Piece) (t : List ℕ) (v : List Value) → Writes q (words word ∷ cuts.number_piece n ∷ ps) t v
    → ((m r : List ℕ) (u : List Value) → IsMark q m → Writes q ps r u → G (word ++ (m ++ r)) (number n ∷ u)) → G t v
one_number q G word n ps t v w go = after_words G w (λ p rest. after_value (λ p u. G (word ++ p) u) rest (λ m r u is last. go m r u is last))

last_number : (q : Dialect) (G : OfText) (word : List ℕ) (n : ℕ) (t : List ℕ) (v : List Value) → Writes q (words word ∷ cuts.number_piece n ∷ []) t v
    → ((m : List ℕ) → IsMark q m → G (word ++ m) (number n ∷ [])) → G t v
last_number q G word n t v w go =
    one_number q G word n [] t v w (λ m r u is last. at_end (λ r u. G (word ++ (m ++ r)) (number n ∷ u)) last (subst (λ p. G (word ++ p) (number n ∷ [])) (sym (append-nil m)) (go m is)))

pub cut_read : (q : Dialect) (limit offset : Option ℕ) (t : List ℕ) (v : List Value) → Writes q (cuts.cut_pieces q limit offset) t v → Cut q t v (option_map number limit, option_map number offset)
cut_read q None None t v w = at_end (λ p u. Cut q p u (None, None)) w no_cut
cut_read q (Some l) None t v w = last_number q (λ p u. Cut q p u (Some (number l), None)) (codes " LIMIT ") l t v w (λ m is. limit_alone (number l) is)
cut_read Sqlite None (Some o) t v w = last_number Sqlite (λ p u. Cut Sqlite p u (None, Some (number o))) (codes " LIMIT -1 OFFSET ") o t v w (λ m is. sqlite_offset (number o) is)
cut_read Postgresql None (Some o) t v w = last_number Postgresql (λ p u. Cut Postgresql p u (None, Some (number o))) (codes " LIMIT ALL OFFSET ") o t v w (λ m is. postgresql_offset (number o) is)
cut_read Mysql None (Some o) t v w =
    one_number Mysql (λ p u. Cut Mysql p u (None, Some (number o))) (codes " LIMIT ") o (words (codes ", 18446744073709551615") ∷ []) t v w
    (λ m r u is rest. after_words (λ r u. Cut Mysql (codes " LIMIT " ++ (m ++ r)) (number o ∷ u) (None, Some (number o))) rest
    (λ r last. at_end (λ r u. Cut Mysql (codes " LIMIT " ++ (m ++ (codes ", 18446744073709551615" ++ r))) (number o ∷ u) (None, Some (number o))) last (mysql_offset (number o) is)))
cut_read Sqlite (Some l) (Some o) t v w =
    one_number Sqlite (λ p u. Cut Sqlite p u (Some (number l), Some (number o))) (codes " LIMIT ") l (cuts.row_count_pieces (codes " OFFSET ") o) t v w
    (λ m r u is rest. last_number Sqlite (λ r u. Cut Sqlite (codes " LIMIT " ++ (m ++ r)) (number l ∷ u) (Some (number l), Some (number o))) (codes " OFFSET ") o r u rest
    (λ n at. sqlite_both (number l) (number o) is at))
cut_read Postgresql (Some l) (Some o) t v w =
    one_number Postgresql (λ p u. Cut Postgresql p u (Some (number l), Some (number o))) (codes " LIMIT ") l (cuts.row_count_pieces (codes " OFFSET ") o) t v w
    (λ m r u is rest. last_number Postgresql (λ r u. Cut Postgresql (codes " LIMIT " ++ (m ++ r)) (number l ∷ u) (Some (number l), Some (number o))) (codes " OFFSET ") o r u rest
    (λ n at. postgresql_both (number l) (number o) is at))
cut_read Mysql (Some l) (Some o) t v w =
    one_number Mysql (λ p u. Cut Mysql p u (Some (number l), Some (number o))) (codes " LIMIT ") o (cuts.row_count_pieces (codes ", ") l) t v w
    (λ m r u is rest. last_number Mysql (λ r u. Cut Mysql (codes " LIMIT " ++ (m ++ r)) (number o ∷ u) (Some (number l), Some (number o))) (codes ", ") l r u rest
    (λ n at. mysql_both (number l) (number o) is at))
