-- The text of a well-formed statement on rows is read as its form.
use Rattle.std.proofs.Common.{◌≡◌, ℕ, ◌++◌, ◌&&◌, Bool, true, false, cond, List, [], ◌∷◌, map, codes, refl, sym, ap, subst, ◌∙◌, append-nil, append_assoc}
use Rattle.std.specs.List.{list_all}
use Rattle.std.specs.Cmp.Lexicographic.{pointwise}
use Rattle.std.proofs.lemmas.Bool.{and_parts}
use Rattle.base_core.specs.declared.ids.ColumnNo.{ColumnNo}
use Rattle.base_core.specs.declared.ids.TableId.{TableId}
use Rattle.base_core.specs.declared.value.Value.{Value}
use Rattle.schema_core.specs.declared.statement.RowStmt.{RowStmt}
use Rattle.schema_core.specs.declared.statement.RowStmt.TheVariants as row_
use Rattle.schema_core.specs.declared.table.ColumnSpec.{ColumnSpec}
use Rattle.schema_core.specs.declared.table.TableSpec.{TableSpec}
use Rattle.schema_core.specs.Catalog.{Catalog, spec_of}
use Rattle.schema_core.specs.WellFormed.{IsWellFormed, is_row, may_hold}
use Rattle.expr_types.specs.declared.select.Statement.TheVariants.{Row as of_row}
use Rattle.base_core.specs.declared.dialect.Dialect.{Dialect}
use Rattle.base_core.specs.declared.dialect.Dialect.TheVariants.{Sqlite, Postgresql, Mysql}
use Rattle.sql_text.specs.Columns.{column_name}
use Rattle.sql_text.specs.Written.{Piece, words, name as name_piece, value, nothing_written, with_leading_separators, with_separators}
use Rattle.sql_rows.specs.Rows as r
use Rattle.sql_rows.specs.Rows.{row_pieces, is_left_out, leaves_key}
use Rattle.sql_statements.specs.Texts.{text_of, statement_pieces}
use Rattle.script_laws.specs.Texts.Grammar.Reads.{AreMarks, one_mark, more_marks}
use Rattle.script_laws.proofs.Texts.Expressions.Pieces.{OfText, Writes, after_words, after_name, after_value, at_end, split, before_words, all_written}
use Rattle.script_laws.specs.Texts.Forms.Forms.{RowForm, fill, add}
use Rattle.script_laws.specs.Texts.Forms.Clauses.{Items, Series, no_series, series, Name, name, Row, row, Cell, cell, KeyCell, key_cell, Returned, none_returned, returned, ReadsRow, fill_row, add_rows, change_row, remove_row, default_word}
use Rattle.script_laws.specs.Texts.Forms.Form.{columns_with_values, given_cells, given_values, key_told, returned_columns, key_values, is_drawn, add_form, row_form}
use Rattle.script_laws.specs.Texts.Forms.Read.{RowsAreRead}
use Rattle.script_laws.proofs.Texts.Forms.Parts.{AllRead, items_read}
use Rattle.script_laws.proofs.Texts.Forms.Bulks.{no_values, default_is}

-- ---- lists whose first item has another word before it

abbrev headed : {A : Type 0} → List ℕ → List ℕ → (A → List Piece) → List A → List Piece
headed first word pieces [] = []
headed first word pieces (x ∷ xs) = words first ∷ pieces x ++ with_leading_separators word pieces xs

headed_led : {A : Type 0} (word : List ℕ) (pieces : A → List Piece) (xs : List A) → headed word word pieces xs ≡ with_leading_separators word pieces xs
headed_led word pieces [] = refl
headed_led word pieces (x ∷ xs) = refl

abbrev name_pieces : List ℕ → List Piece
name_pieces n = name_piece n ∷ []

abbrev cell_value : List ℕ × Value → List Piece
cell_value c = value c.0 c.1 ∷ []

abbrev key_piece : List ℕ × List ℕ × Value → List Piece
key_piece c = name_piece c.0 ∷ words (codes ".") ∷ name_piece c.1 ∷ words (codes " = ") ∷ value c.1 c.2 ∷ []

-- one more or none, by whether it is given
more_by : {A : Type 0} (k : Bool) (first word : List ℕ) (pieces : A → List Piece) (x : A) (xs : List A) (ps qs : List Piece) → ps ≡ headed first word pieces xs → qs ≡ headed word word pieces xs
    → cond k ps (words first ∷ pieces x ++ qs) ≡ headed first word pieces (cond k xs (x ∷ xs))
more_by true first word pieces x xs ps qs one other = one
more_by false first word pieces x xs ps qs one other = ap (λ (rs : List Piece). words first ∷ pieces x ++ rs) (other ∙ headed_led word pieces xs)

names_are : (drawn : Bool) (first : List ℕ) (columns : List ColumnSpec) → r.names_pieces drawn first columns ≡ headed first (codes ", ") name_pieces (columns_with_values drawn columns)
unfolding is_left_out
names_are drawn first [] = refl
names_are drawn first (c ∷ cs) =
    more_by (drawn && c.key) first (codes ", ") name_pieces c.name (columns_with_values drawn cs) (r.names_pieces drawn first cs) (r.names_pieces drawn (codes ", ") cs) (names_are drawn first cs) (names_are drawn (codes ", ") cs)

cells_are : (drawn : Bool) (first : List ℕ) (columns : List ColumnSpec) (cells : List Value) → r.row_cells drawn first columns cells ≡ headed first (codes ", ") cell_value (given_cells drawn columns cells)
unfolding is_left_out
cells_are drawn first [] cells = refl
cells_are drawn first (c ∷ cs) [] = refl
cells_are drawn first (c ∷ cs) (v ∷ cells) =
    more_by (drawn && c.key) first (codes ", ") cell_value (c.name, v) (given_cells drawn cs cells) (r.row_cells drawn first cs cells) (r.row_cells drawn (codes ", ") cs cells) (cells_are drawn first cs cells)
    (cells_are drawn (codes ", ") cs cells)

keys_by : (k : Bool) (first word : List ℕ) (x : List ℕ × List ℕ × Value) (xs ys : List (List ℕ × List ℕ × Value)) (ps qs : List Piece) → ps ≡ headed first word key_piece ys → qs ≡ headed word word key_piece xs
    → cond k (words first ∷ key_piece x ++ qs) ps ≡ headed first word key_piece (cond k (x ∷ xs) ys)
keys_by true first word x xs ys ps qs one other = ap (λ (rs : List Piece). words first ∷ key_piece x ++ rs) (other ∙ headed_led word key_piece xs)
keys_by false first word x xs ys ps qs one other = one

keys_are : (table first : List ℕ) (columns : List ColumnSpec) (key : List Value) → r.key_pieces table first columns key ≡ headed first (codes " AND ") key_piece (key_values table columns key)
keys_are table first [] key = refl
keys_are table first (c ∷ cs) [] = refl
keys_are table first (c ∷ cs) (v ∷ key) =
    keys_by c.key first (codes " AND ") (table, c.name, v) (key_values table cs key) (key_values table cs (v ∷ key)) (r.key_pieces table first cs (v ∷ key)) (r.key_pieces table (codes " AND ") cs key)
    (keys_are table first cs (v ∷ key)) (keys_are table (codes " AND ") cs key)

-- ---- some column is given

record HasFirst {A : Type 0} (xs : List A) : Type 0 where
  first : A
  others : List A
  is : xs ≡ first ∷ others

some_given : (drawn : Bool) (columns : List ColumnSpec) → list_all (λ c. drawn && c.key) columns ≡ false → HasFirst (columns_with_values drawn columns)
some_given drawn [] h = absurd (cc)
some_given drawn (c ∷ cs) h = by (drawn && c.key) h (some_given drawn cs)
  where
    by : (k : Bool) → (k && list_all (λ c. drawn && c.key) cs) ≡ false → (list_all (λ c. drawn && c.key) cs ≡ false → HasFirst (columns_with_values drawn cs)) → HasFirst (cond k (columns_with_values drawn cs) (c.name ∷ columns_with_values drawn cs))
    by true h rec = rec h
    by false h rec = record { first = c.name; others = columns_with_values drawn cs; is = refl }

some_cells : (drawn : Bool) (columns : List ColumnSpec) (cells : List Value) → list_all (λ c. drawn && c.key) columns ≡ false → pointwise may_hold columns cells ≡ true → HasFirst (given_cells drawn columns cells)
some_cells drawn [] cells h p = absurd (cc)
some_cells drawn (c ∷ cs) [] h p = absurd (cc)
some_cells drawn (c ∷ cs) (v ∷ cells) h p = by (drawn && c.key) h (λ g. some_cells drawn cs cells g (and_parts (may_hold c v) (pointwise may_hold cs cells) p).1)
  where
    by : (k : Bool) → (k && list_all (λ c. drawn && c.key) cs) ≡ false → (list_all (λ c. drawn && c.key) cs ≡ false → HasFirst (given_cells drawn cs cells))
        → HasFirst (cond k (given_cells drawn cs cells) ((c.name, v) ∷ given_cells drawn cs cells))
    by true h rec = rec h
    by false h rec = record { first = (c.name, v); others = given_cells drawn cs cells; is = refl }

module _ (q : Dialect) where
  -- ---- rows

  marks_read : (G : OfText) (x : List ℕ × Value) (xs : List (List ℕ × Value)) (t : List ℕ) (v : List Value) → Writes q (value x.0 x.1 ∷ with_leading_separators (codes ", ") cell_value xs) t v
      → ((m : List ℕ) → AreMarks q m (map (λ c. c.1) (x ∷ xs)) → G m (map (λ c. c.1) (x ∷ xs))) → G t v
  marks_read G x [] t v w go =
      after_value G w (λ m p u is rest. at_end (λ p y. G (m ++ p) (x.1 ∷ y)) rest (subst (λ p. G p (x.1 ∷ [])) (sym (append-nil m)) (go m (one_mark is))))
  marks_read G x (y ∷ ys) t v w go =
      after_value G w (λ m p u is rest. after_words (λ p z. G (m ++ p) (x.1 ∷ z)) rest
      (λ p others. marks_read (λ s z. G (m ++ (codes ", " ++ s)) (x.1 ∷ z)) y ys p u others (λ n are. go (m ++ (codes ", " ++ n)) (more_marks is are))))

  row_read : (drawn : Bool) (columns : List ColumnSpec) → list_all (λ c. drawn && c.key) columns ≡ false → (cells : List Value) → pointwise may_hold columns cells ≡ true → (t : List ℕ) (v : List Value)
      → Writes q (r.row_list drawn columns cells) t v → Row q t v (given_values drawn columns cells)
  row_read drawn columns h cells p t v w =
      let some : HasFirst (given_cells drawn columns cells) = some_cells drawn columns cells h p in
      subst (λ xs. Row q t v (map (λ c. c.1) xs)) (sym some.is)
      (before_words (λ m u. Row q m u (map (λ c. c.1) (some.first ∷ some.others))) (headed (codes "(") (codes ", ") cell_value (some.first ∷ some.others)) (codes ")")
      (subst (λ ps. Writes q (ps ++ words (codes ")") ∷ []) t v) (cells_are drawn (codes "(") columns cells ∙ ap (headed (codes "(") (codes ", ") cell_value) some.is) w)
      (λ m u inner. after_words (λ m u. Row q (m ++ codes ")") u (map (λ c. c.1) (some.first ∷ some.others))) inner
      (λ m marks. marks_read (λ m u. Row q ((codes "(" ++ m) ++ codes ")") u (map (λ c. c.1) (some.first ∷ some.others))) some.first some.others m u marks (λ m are. row are))))

  all_rows : (spec : TableSpec) (drawn : Bool) → list_all (λ c. drawn && c.key) spec.columns ≡ false → (rows : List (List Value)) → list_all (is_row spec) rows ≡ true
      → AllRead q (r.row_list drawn spec.columns) (Row q) (given_values drawn spec.columns) rows
  all_rows spec drawn h [] p = tt
  all_rows spec drawn h (cells ∷ rows) p =
      let parts = and_parts (is_row spec cells) (list_all (is_row spec) rows) p in
      (λ t v w. row_read drawn spec.columns h cells parts.0 t v w, all_rows spec drawn h rows parts.1)

  all_named : (ns : List (List ℕ)) → AllRead q name_pieces (Name q) (λ n. n) ns
  all_named [] = tt
  all_named (n ∷ ns) =
      (λ t v w. after_name (λ p u. Name q p u n) w (λ a p is rest. at_end (λ p u. Name q (a ++ p) u n) rest (subst (λ p. Name q p [] n) (sym (append-nil a)) (name is))), all_named ns)

  map_same : (ns : List (List ℕ)) → map (λ n. n) ns ≡ ns
  map_same [] = refl
  map_same (n ∷ ns) = ap (λ (xs : List (List ℕ)). n ∷ xs) (map_same ns)

  named_read : (G : OfText) (ns : List (List ℕ)) (t : List ℕ) (v : List Value) → Writes q (with_separators (codes ", ") name_pieces ns) t v → (Items (Name q) (codes ", ") t [] ns → G t []) → G t v
  named_read G ns t v w go =
      let items = subst (λ xs. Items (Name q) (codes ", ") t v xs) (map_same ns) (items_read q name_pieces (Name q) (λ n. n) (codes ", ") ns (all_named ns) t v w) in
      subst (λ u. G t u) (sym (no_values items)) (go (subst (λ u. Items (Name q) (codes ", ") t u ns) (no_values items) items))

  -- ---- keys

  key_read : (x : List ℕ × List ℕ × Value) (t : List ℕ) (v : List Value) → Writes q (key_piece x) t v → KeyCell q t v x
  key_read x t v w =
      after_name (λ p u. KeyCell q p u x) w (λ a p is rest. after_words (λ p u. KeyCell q (a ++ p) u x) rest
      (λ p rest. after_name (λ p u. KeyCell q (a ++ (codes "." ++ p)) u x) rest (λ c p at rest. after_words (λ p u. KeyCell q (a ++ (codes "." ++ (c ++ p))) u x) rest
      (λ p rest. after_value (λ p u. KeyCell q (a ++ (codes "." ++ (c ++ (codes " = " ++ p)))) u x) rest
      (λ m p u marked rest. at_end (λ p u. KeyCell q (a ++ (codes "." ++ (c ++ (codes " = " ++ (m ++ p))))) (x.2 ∷ u) x) rest
      (subst (λ p. KeyCell q (a ++ (codes "." ++ (c ++ (codes " = " ++ p)))) (x.2 ∷ []) x) (sym (append-nil m)) (key_cell x.2 is at marked)))))))

  all_keys : (xs : List (List ℕ × List ℕ × Value)) → AllRead q key_piece (KeyCell q) (λ x. x) xs
  all_keys [] = tt
  all_keys (x ∷ xs) = (λ t v w. key_read x t v w, all_keys xs)

  keys_same : (xs : List (List ℕ × List ℕ × Value)) → map (λ x. x) xs ≡ xs
  keys_same [] = refl
  keys_same (x ∷ xs) = ap (λ (ys : List (List ℕ × List ℕ × Value)). x ∷ ys) (keys_same xs)

  keys_read : (xs : List (List ℕ × List ℕ × Value)) (t : List ℕ) (v : List Value) → Writes q (headed (codes " WHERE ") (codes " AND ") key_piece xs) t v
      → Series (KeyCell q) (codes " WHERE ") (codes " AND ") t v xs
  keys_read [] t v w = at_end (λ p u. Series (KeyCell q) (codes " WHERE ") (codes " AND ") p u []) w no_series
  keys_read (x ∷ xs) t v w =
      after_words (λ p u. Series (KeyCell q) (codes " WHERE ") (codes " AND ") p u (x ∷ xs)) w
      (λ p rest. series (subst (λ ys. Items (KeyCell q) (codes " AND ") p v ys) (keys_same (x ∷ xs)) (items_read q key_piece (KeyCell q) (λ x. x) (codes " AND ") (x ∷ xs) (all_keys (x ∷ xs)) p v rest)))

  by_key_read : (spec : TableSpec) (key : List Value) (t : List ℕ) (v : List Value) → Writes q (r.by_key spec key) t v
      → Series (KeyCell q) (codes " WHERE ") (codes " AND ") t v (key_values spec.name spec.columns key)
  by_key_read spec key t v w = keys_read (key_values spec.name spec.columns key) t v (subst (λ ps. Writes q ps t v) (keys_are spec.name (codes " WHERE ") spec.columns key) w)

  -- ---- cells

  all_cells : (schema : Catalog) (table : TableId) (cells : List (ColumnNo × Value)) → AllRead q (r.cell_pieces schema table) (Cell q) (λ c. (column_name schema table c.0, c.1)) cells
  all_cells schema table [] = tt
  all_cells schema table (c ∷ cs) =
      let form : List ℕ × Value = (column_name schema table c.0, c.1) in (
        λ t v w. after_name (λ p u. Cell q p u form) w (λ a p is rest. after_words (λ p u. Cell q (a ++ p) u form) rest
            (λ p rest. after_value (λ p u. Cell q (a ++ (codes "=" ++ p)) u form) rest (λ m p u marked rest. at_end (λ p u. Cell q (a ++ (codes "=" ++ (m ++ p))) (c.1 ∷ u) form) rest
            (subst (λ p. Cell q (a ++ (codes "=" ++ p)) (c.1 ∷ []) form) (sym (append-nil m)) (cell c.1 is marked))))),
        all_cells schema table cs,
      )

-- ---- what is told

-- a text without values tells these columns
abbrev Tells : Dialect → List (List ℕ × List ℕ) → List ℕ → List Value → Type 0
Tells q told t v = (v ≡ []) × Returned q t told

told_by : (k : Bool) (table n : List ℕ) (ps : List Piece) (xs : List (List ℕ × List ℕ)) → ((t : List ℕ) (v : List Value) → Writes Postgresql ps t v → Tells Postgresql xs t v) → (t : List ℕ) (v : List Value)
    → Writes Postgresql (cond k (words (codes " RETURNING ") ∷ name_piece table ∷ words (codes ".") ∷ name_piece n ∷ ps) ps) t v → Tells Postgresql (cond k ((table, n) ∷ xs) xs) t v
told_by false table n ps xs rec t v w = rec t v w
told_by true table n ps xs rec t v w =
    after_words (Tells Postgresql ((table, n) ∷ xs)) w (λ p rest. after_name (λ p u. Tells Postgresql ((table, n) ∷ xs) (codes " RETURNING " ++ p) u) rest
    (λ a p is rest. after_words (λ p u. Tells Postgresql ((table, n) ∷ xs) (codes " RETURNING " ++ (a ++ p)) u) rest
    (λ p rest. after_name (λ p u. Tells Postgresql ((table, n) ∷ xs) (codes " RETURNING " ++ (a ++ (codes "." ++ p))) u) rest
    (λ c p at rest. let others : Tells Postgresql xs p v = rec p v rest in (others.0, returned is at others.1)))))

told_names : (table : List ℕ) (columns : List ColumnSpec) (t : List ℕ) (v : List Value) → Writes Postgresql (r.key_names table columns) t v → Tells Postgresql (key_told table columns) t v
told_names table [] t v w = at_end (Tells Postgresql []) w (refl, none_returned)
told_names table (c ∷ cs) t v w = told_by c.key table c.name (r.key_names table cs) (key_told table cs) (told_names table cs) t v w

told_drawn : (drawn : Bool) (spec : TableSpec) (t : List ℕ) (v : List Value) → Writes Postgresql (cond drawn (r.key_names spec.name spec.columns) []) t v
    → Tells Postgresql (cond drawn (key_told spec.name spec.columns) []) t v
told_drawn true spec t v w = told_names spec.name spec.columns t v w
told_drawn false spec t v w = at_end (Tells Postgresql []) w (refl, none_returned)

told_read : (q : Dialect) (drawn : Bool) (spec : TableSpec) (t : List ℕ) (v : List Value) → Writes q (r.returning_pieces q drawn spec) t v → Tells q (returned_columns q drawn spec) t v
told_read Sqlite drawn spec t v w = at_end (Tells Sqlite []) w (refl, none_returned)
told_read Postgresql drawn spec t v w = told_drawn drawn spec t v w
told_read Mysql drawn spec t v w = at_end (Tells Mysql []) w (refl, none_returned)

-- ---- statements

module _ (q : Dialect) where
  fill_read : (spec : TableSpec) (drawn : Bool) (t : List ℕ) (v : List Value) → Writes q (words (codes "INSERT INTO ") ∷ name_piece spec.name ∷ words (r.default_word q) ∷ r.returning_pieces q drawn spec) t v
      → ReadsRow q t v (fill spec.name (returned_columns q drawn spec))
  fill_read spec drawn t v w =
      let form : RowForm = fill spec.name (returned_columns q drawn spec) in
      after_words (λ p u. ReadsRow q p u form) w (λ p rest. after_name (λ p u. ReadsRow q (codes "INSERT INTO " ++ p) u form) rest
      (λ a p is rest. after_words (λ p u. ReadsRow q (codes "INSERT INTO " ++ (a ++ p)) u form) rest
      (λ p last.
      let tells : Tells q (returned_columns q drawn spec) p v = told_read q drawn spec p v last in
      subst (λ word. ReadsRow q (codes "INSERT INTO " ++ (a ++ (word ++ p))) v form) (sym (default_is q))
      (subst (λ u. ReadsRow q (codes "INSERT INTO " ++ (a ++ (default_word q ++ p))) u form) (sym tells.0) (fill_row is tells.1)))))

  add_text : (a m c d : List ℕ) → codes "INSERT INTO " ++ (a ++ (((codes " (" ++ m) ++ (codes ") VALUES " ++ c)) ++ d)) ≡ codes "INSERT INTO " ++ (a ++ (codes " (" ++ (m ++ (codes ") VALUES " ++ (c ++ d)))))
  add_text a m c d = ap (λ (s : List ℕ). codes "INSERT INTO " ++ (a ++ (codes " (" ++ s))) (append_assoc m (codes ") VALUES " ++ c) d)

  add_read : (spec : TableSpec) (drawn : Bool) (rows : List (List Value)) → list_all (λ c. drawn && c.key) spec.columns ≡ false → list_all (is_row spec) rows ≡ true → (t : List ℕ) (v : List Value)
      → Writes q (words (codes "INSERT INTO ") ∷ name_piece spec.name ∷ (r.lists_pieces drawn spec.columns rows ++ r.returning_pieces q drawn spec)) t v
      → ReadsRow q t v (add spec.name (columns_with_values drawn spec.columns) (map (given_values drawn spec.columns) rows) (returned_columns q drawn spec))
  add_read spec drawn rows h wide t v w =
      let some : HasFirst (columns_with_values drawn spec.columns) = some_given drawn spec.columns h in
      let form : RowForm = add spec.name (some.first ∷ some.others) (map (given_values drawn spec.columns) rows) (returned_columns q drawn spec) in
      subst (λ ns. ReadsRow q t v (add spec.name ns (map (given_values drawn spec.columns) rows) (returned_columns q drawn spec))) (sym some.is)
      (after_words (λ p u. ReadsRow q p u form) w (λ p rest. after_name (λ p u. ReadsRow q (codes "INSERT INTO " ++ p) u form) rest
      (λ a p is rest. split (λ p u. ReadsRow q (codes "INSERT INTO " ++ (a ++ p)) u form) (r.lists_pieces drawn spec.columns rows) (r.returning_pieces q drawn spec) rest
      (λ e d x dv lists last.
      let tells : Tells q (returned_columns q drawn spec) d dv = told_read q drawn spec d dv last in
      split (λ e x. ReadsRow q (codes "INSERT INTO " ++ (a ++ (e ++ d))) (x ++ dv) form) (r.names_pieces drawn (codes " (") spec.columns) (words (codes ") VALUES ") ∷ with_separators (codes ", ") (r.row_list drawn spec.columns) rows) lists
      (λ m c u z namesw rowsw. after_words (λ m u. ReadsRow q (codes "INSERT INTO " ++ (a ++ ((m ++ c) ++ d))) ((u ++ z) ++ dv) form)
      (subst (λ ps. Writes q ps m u) (names_are drawn (codes " (") spec.columns ∙ ap (headed (codes " (") (codes ", ") name_pieces) some.is) namesw)
      (λ m listw. named_read q (λ m u. ReadsRow q (codes "INSERT INTO " ++ (a ++ (((codes " (" ++ m) ++ c) ++ d))) ((u ++ z) ++ dv) form) (some.first ∷ some.others) m u listw
      (λ names. after_words (λ c z. ReadsRow q (codes "INSERT INTO " ++ (a ++ (((codes " (" ++ m) ++ c) ++ d))) (z ++ dv) form) rowsw
      (λ c itemsw. subst (λ text. ReadsRow q text (z ++ dv) form) (sym (add_text a m c d))
      (subst (λ y. ReadsRow q (codes "INSERT INTO " ++ (a ++ (codes " (" ++ (m ++ (codes ") VALUES " ++ (c ++ d)))))) (z ++ y) form) (sym tells.0)
      (subst (λ y. ReadsRow q (codes "INSERT INTO " ++ (a ++ (codes " (" ++ (m ++ (codes ") VALUES " ++ (c ++ d)))))) y form) (sym (append-nil z))
      (add_rows is names (items_read q (r.row_list drawn spec.columns) (Row q) (given_values drawn spec.columns) (codes ", ") rows (all_rows q spec drawn h rows wide) c z itemsw) tells.1)))))))))))

  insert_by : (spec : TableSpec) (drawn : Bool) (rows : List (List Value)) → list_all (is_row spec) rows ≡ true → (k : Bool) → list_all (λ c. drawn && c.key) spec.columns ≡ k → (t : List ℕ) (v : List Value)
      → Writes q (words (codes "INSERT INTO ") ∷ name_piece spec.name ∷ (cond k (words (r.default_word q) ∷ []) (r.lists_pieces drawn spec.columns rows) ++ r.returning_pieces q drawn spec)) t v
      → ReadsRow q t v (cond k (fill spec.name (returned_columns q drawn spec)) (add spec.name (columns_with_values drawn spec.columns) (map (given_values drawn spec.columns) rows) (returned_columns q drawn spec)))
  insert_by spec drawn rows wide true is t v w = fill_read spec drawn t v w
  insert_by spec drawn rows wide false is t v w = add_read spec drawn rows is wide t v w

  insert_read : (spec : TableSpec) (drawn : Bool) (rows : List (List Value)) → list_all (is_row spec) rows ≡ true → (t : List ℕ) (v : List Value)
      → Writes q (r.insert_rows q spec drawn rows) t v → ReadsRow q t v (add_form q spec drawn rows)
  unfolding is_left_out
  insert_read spec drawn rows wide t v w = insert_by spec drawn rows wide (list_all (λ c. drawn && c.key) spec.columns) refl t v w

  drawn_is : (spec : TableSpec) (rows : List (List Value)) → leaves_key spec rows ≡ is_drawn spec rows
  drawn_is spec [] = refl
  drawn_is spec (cells ∷ rows) = refl

  row_text_read : (schema : Catalog) (it : RowStmt) → IsWellFormed schema it → (t : List ℕ) (v : List Value) → Writes q (row_pieces q schema it) t v → ReadsRow q t v (row_form q schema it)
  unfolding row_pieces
  row_text_read schema (row_.Insert table rows) h t v w =
      insert_read (spec_of schema table) (is_drawn (spec_of schema table) rows) rows h.1.wide t v
      (subst (λ drawn. Writes q (r.insert_rows q (spec_of schema table) drawn rows) t v) (drawn_is (spec_of schema table) rows) w)
  row_text_read schema (row_.Update table key cells) h t v w =
      let form : RowForm = row_form q schema (row_.Update table key cells) in
      after_words (λ p u. ReadsRow q p u form) w (λ p rest. after_name (λ p u. ReadsRow q (codes "UPDATE " ++ p) u form) rest
      (λ a p is past. after_words (λ p u. ReadsRow q (codes "UPDATE " ++ (a ++ p)) u form) past
      (λ p setsw. split (λ p u. ReadsRow q (codes "UPDATE " ++ (a ++ (codes " SET " ++ p))) u form) (with_separators (codes ", ") (r.cell_pieces schema table) cells) (r.by_key (spec_of schema table) key) setsw
      (λ m n u z first last.
      change_row is (items_read q (r.cell_pieces schema table) (Cell q) (λ c. (column_name schema table c.0, c.1)) (codes ", ") cells (all_cells q schema table cells) m u first)
      (by_key_read q (spec_of schema table) key n z last)))))
  row_text_read schema (row_.Delete table key) h t v w =
      let form : RowForm = row_form q schema (row_.Delete table key) in
      after_words (λ p u. ReadsRow q p u form) w (λ p rest. after_name (λ p u. ReadsRow q (codes "DELETE FROM " ++ p) u form) rest
      (λ a p is past. remove_row is (by_key_read q (spec_of schema table) key p v past)))

pub rows_are_read : RowsAreRead
unfolding text_of
rows_are_read dialect schema it h =
    all_written (λ t v. ReadsRow dialect t v (row_form dialect schema it)) (nothing_written dialect) (statement_pieces dialect schema (of_row it)) (λ t v w. row_text_read dialect schema it h t v w)
