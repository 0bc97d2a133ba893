-- A plain bulk statement's text is read as its form.
use Rattle.std.proofs.Common.{◌≡◌, ℕ, ◌++◌, List, [], ◌∷◌, map, Option, Some, None, codes, IsTrue, refl, sym, subst, ◌∙◌, append-nil}
use Rattle.std.specs.List.{AllByRecursion}
use Rattle.std.proofs.lemmas.Bool.{and_parts}
use Rattle.base_core.specs.declared.ids.ColumnNo.{ColumnNo}
use Rattle.base_core.specs.declared.ids.TableId.{TableId}
use Rattle.base_core.specs.declared.value.Value.{Value}
use Rattle.base_core.specs.declared.value.Value.TheVariants as cell
use Rattle.schema_core.specs.Catalog.{Catalog, spec_of}
use Rattle.expr_types.specs.declared.expr.Expr.{Expr}
use Rattle.expr_types.specs.declared.select.Bulk.{Bulk}
use Rattle.expr_types.specs.declared.select.Bulk.TheVariants as bulk
use Rattle.expr_types.specs.declared.select.Statement.TheVariants.{Bulk as of_bulk}
use Rattle.sql_semantics.specs.Kinds.{column_in}
use Rattle.sql_semantics.specs.Plain.{StandsIn, IsFilter, IsWritten, IfSet, alone, are_for, has_kind}
use Rattle.sql_semantics.specs.PlainStatement.{IsFittingBulk}
use Rattle.base_core.specs.declared.dialect.Dialect.{Dialect}
use Rattle.base_core.specs.declared.dialect.Dialect.TheVariants.{Sqlite, Postgresql, Mysql}
use Rattle.sql_text.specs.Columns.{column_name}
use Rattle.sql_text.specs.Written.{Piece, words, nothing_written, with_separators}
use Rattle.sql_rows.specs.Rows as rows
use Rattle.sql_statements.specs.Bulks as b
use Rattle.sql_statements.specs.Bulks.{bulk_pieces}
use Rattle.sql_statements.specs.Texts.{text_of, statement_pieces}
use Rattle.script_laws.specs.Texts.Grammar.Trees.{mark}
use Rattle.script_laws.specs.Texts.Grammar.Reads.{AreMarks, one_mark, more_marks, Reads, marked, Either, Operand}
use Rattle.script_laws.proofs.Texts.Expressions.Pieces.{OfText, Writes, after_words, after_name, after_value, at_end, split, before_words, all_written}
use Rattle.script_laws.proofs.Texts.Expressions.Levels.{here, to_either}
use Rattle.script_laws.specs.Texts.Forms.Forms.{BulkForm, insert}
use Rattle.script_laws.specs.Texts.Forms.Clauses.{Items, no_items, one_item, more_items, Name, name, Set, set, ReadsBulk, insert_nothing, insert_row, update_rows, delete_rows, default_word}
use Rattle.script_laws.specs.Texts.Forms.Form.{set_tree, bulk_form}
use Rattle.script_laws.specs.Texts.Forms.Read.{BulksAreRead}
use Rattle.script_laws.proofs.Texts.Forms.Parts.{AllRead, items_read, expression_read, clause_read}

-- names have no values
pub no_values : {q : Dialect} {word a : List ℕ} {v : List Value} {xs : List (List ℕ)} → Items (Name q) word a v xs → v ≡ []
no_values no_items = refl
no_values (one_item (name is)) = refl
no_values (more_items (name is) others) = no_values others

pub default_is : (q : Dialect) → rows.default_word q ≡ default_word q
default_is Sqlite = refl
default_is Postgresql = refl
default_is Mysql = refl

no_cells : (schema : Catalog) (table : TableId) (vs : List Value) → IsTrue (are_for schema table [] vs) → vs ≡ []
no_cells schema table [] h = refl
no_cells schema table (v ∷ vs) h = absurd (cc)

module _ (q : Dialect) (schema : Catalog) where
  filter_stands : (table : TableId) (e : Option Expr) → IfSet (IsFilter schema (alone table)) e → IfSet (StandsIn schema (alone table)) e
  filter_stands table None h = tt
  filter_stands table (Some e) h = h.condition.stands

  -- ---- cells

  cells_read : (G : OfText) (table : TableId) (c : ColumnNo) (columns : List ColumnNo) (x : Value) (vs : List Value) → IsTrue (are_for schema table columns vs) → (t : List ℕ) (v : List Value)
      → Writes q (rows.cell_piece schema table c x ∷ b.cells_pieces schema table (codes ", ") columns vs) t v → ((m : List ℕ) → AreMarks q m (x ∷ vs) → G m (x ∷ vs)) → G t v
  cells_read G table c [] x [] h t v w go =
      after_value G w (λ m r u is rest. at_end (λ p y. G (m ++ p) (x ∷ y)) rest (subst (λ p. G p (x ∷ [])) (sym (append-nil m)) (go m (one_mark is))))
  cells_read G table c [] x (y ∷ ys) h t v w go = absurd (cc)
  cells_read G table c (d ∷ ds) x [] h t v w go = absurd (cc)
  cells_read G table c (d ∷ ds) x (y ∷ ys) h t v w go =
      let parts = and_parts (has_kind (column_in schema (table ∷ []) 0 d) y) (are_for schema table ds ys) h in
      after_value G w (λ m r u is rest. after_words (λ p z. G (m ++ p) (x ∷ z)) rest
      (λ p others. cells_read (λ s z. G (m ++ (codes ", " ++ s)) (x ∷ z)) table d ds y ys parts.1 p u others (λ n are. go (m ++ (codes ", " ++ n)) (more_marks is are))))

  all_names : (table : TableId) (columns : List ColumnNo) → AllRead q (λ c. rows.column_piece schema table c ∷ []) (Name q) (column_name schema table) columns
  all_names table [] = tt
  all_names table (c ∷ cs) =
      (λ t v w. after_name (λ p u. Name q p u (column_name schema table c)) w (λ a r is rest. at_end (λ p u. Name q (a ++ p) u (column_name schema table c)) rest (subst (λ p. Name q p [] (column_name schema table c)) (sym (append-nil a)) (name is))), all_names table cs)

  names_read : (G : OfText) (table : TableId) (columns : List ColumnNo) (t : List ℕ) (v : List Value) → Writes q (b.columns_pieces schema table columns) t v
      → ((Items (Name q) (codes ", ") t [] (map (column_name schema table) columns)) → G t []) → G t v
  names_read G table columns t v w go =
      let items = items_read q (λ c. rows.column_piece schema table c ∷ []) (Name q) (column_name schema table) (codes ", ") columns (all_names table columns) t v w in
      subst (λ u. G t u) (sym (no_values items)) (go (subst (λ u. Items (Name q) (codes ", ") t u (map (column_name schema table) columns)) (no_values items) items))

  insert_read : (table : TableId) (columns : List ColumnNo) (vs : List Value) → IsTrue (are_for schema table columns vs) → (t : List ℕ) (v : List Value)
      → Writes q (b.insert_pieces q schema table columns vs) t v → ReadsBulk q t v (insert (spec_of schema table).name (map (column_name schema table) columns) vs)
  insert_read table [] vs h t v w =
      let form : List Value → BulkForm = λ us. insert (spec_of schema table).name [] us in
      after_words (λ p u. ReadsBulk q p u (form vs)) w (λ p rest. after_name (λ p u. ReadsBulk q (codes "INSERT INTO " ++ p) u (form vs)) rest
      (λ a r is past. after_words (λ r u. ReadsBulk q (codes "INSERT INTO " ++ (a ++ r)) u (form vs)) past
      (λ r last. at_end (λ r u. ReadsBulk q (codes "INSERT INTO " ++ (a ++ (rows.default_word q ++ r))) u (form vs)) last
      (subst (λ word. ReadsBulk q (codes "INSERT INTO " ++ (a ++ word)) [] (form vs)) (sym (append-nil (rows.default_word q) ∙ default_is q))
      (subst (λ us. ReadsBulk q (codes "INSERT INTO " ++ (a ++ default_word q)) [] (form us)) (sym (no_cells schema table vs h)) (insert_nothing is))))))
  insert_read table (c ∷ cs) [] h t v w = absurd (cc)
  insert_read table (c ∷ cs) (x ∷ vs) h t v w =
      let form : BulkForm = insert (spec_of schema table).name (map (column_name schema table) (c ∷ cs)) (x ∷ vs) in
      let cells : List Piece = words (codes ") VALUES ") ∷ b.cells_pieces schema table (codes "(") (c ∷ cs) (x ∷ vs) in
      let parts = and_parts (has_kind (column_in schema (table ∷ []) 0 c) x) (are_for schema table cs vs) h in
      after_words (λ p u. ReadsBulk q p u form) w (λ p rest. after_name (λ p u. ReadsBulk q (codes "INSERT INTO " ++ p) u form) rest
      (λ a r is past. split (λ r u. ReadsBulk q (codes "INSERT INTO " ++ (a ++ r)) u form) (words (codes " (") ∷ b.columns_pieces schema table (c ∷ cs)) (cells ++ words (codes ")") ∷ []) past
      (λ m n u z first last. after_words (λ m u. ReadsBulk q (codes "INSERT INTO " ++ (a ++ (m ++ n))) (u ++ z) form) first
      (λ m namesw. names_read (λ m u. ReadsBulk q (codes "INSERT INTO " ++ (a ++ ((codes " (" ++ m) ++ n))) (u ++ z) form) table (c ∷ cs) m u namesw
      (λ names. before_words (λ n z. ReadsBulk q (codes "INSERT INTO " ++ (a ++ ((codes " (" ++ m) ++ n))) z form) cells (codes ")") last
      (λ o y inner. after_words (λ o y. ReadsBulk q (codes "INSERT INTO " ++ (a ++ ((codes " (" ++ m) ++ (o ++ codes ")")))) y form) inner
      (λ o cellsw. after_words (λ o y. ReadsBulk q (codes "INSERT INTO " ++ (a ++ ((codes " (" ++ m) ++ ((codes ") VALUES " ++ o) ++ codes ")")))) y form) cellsw
      (λ o marksw. cells_read (λ o y. ReadsBulk q (codes "INSERT INTO " ++ (a ++ ((codes " (" ++ m) ++ ((codes ") VALUES " ++ (codes "(" ++ o)) ++ codes ")")))) y form) table c cs x vs parts.1 o y marksw
      (λ o are. insert_row is names are)))))))))

  -- ---- sets

  set_read : (table : TableId) (c : ColumnNo) (e : Option Expr) → IfSet (StandsIn schema (alone table)) e → (t : List ℕ) (v : List Value) → Writes q (b.written_pieces q schema table c e) t v
      → Reads q Either t v (set_tree q schema table e)
  set_read table c None h t v w =
      after_value (λ p u. Reads q Either p u (mark cell.Null)) w (λ m r u is rest. at_end (λ p y. Reads q Either (m ++ p) (cell.Null ∷ y) (mark cell.Null)) rest
      (subst (λ p. Reads q Either p (cell.Null ∷ []) (mark cell.Null)) (sym (append-nil m)) (to_either 8 (here Operand (marked cell.Null is)))))
  set_read table c (Some e) h t v w = expression_read q schema (alone table) (column_name schema table c) e h t v w

  set_stands : (table : TableId) (c : ColumnNo) (e : Option Expr) → IfSet (IsWritten schema table c) e → IfSet (StandsIn schema (alone table)) e
  set_stands table c None h = tt
  set_stands table c (Some e) h = h.stands

  all_sets : (table : TableId) (cells : List (ColumnNo × Option Expr)) → AllByRecursion (λ c. IfSet (IsWritten schema table c.0) c.1) cells
      → AllRead q (b.set_pieces q schema table) (Set q) (λ c. (column_name schema table c.0, set_tree q schema table c.1)) cells
  all_sets table [] h = tt
  all_sets table (c ∷ cs) h = (
    λ t v w. after_name (λ p u. Set q p u (column_name schema table c.0, set_tree q schema table c.1)) w
        (λ a r is rest. after_words (λ r u. Set q (a ++ r) u (column_name schema table c.0, set_tree q schema table c.1)) rest
        (λ r past. set is (set_read table c.0 c.1 (set_stands table c.0 c.1 h.0) r v past))),
    all_sets table cs h.1,
  )

  bulk_read : (it : Bulk) → IsFittingBulk schema it → (t : List ℕ) (v : List Value) → Writes q (bulk_pieces q schema it) t v → ReadsBulk q t v (bulk_form q schema it)
  unfolding bulk_pieces
  bulk_read (bulk.Insert table columns vs) h t v w = insert_read table columns vs h.1 t v w
  bulk_read (bulk.Update table cells filter) h t v w =
      let form : BulkForm = bulk_form q schema (bulk.Update table cells filter) in
      after_words (λ p u. ReadsBulk q p u form) w (λ p rest. after_name (λ p u. ReadsBulk q (codes "UPDATE " ++ p) u form) rest
      (λ a r is past. after_words (λ r u. ReadsBulk q (codes "UPDATE " ++ (a ++ r)) u form) past
      (λ r setsw. split (λ r u. ReadsBulk q (codes "UPDATE " ++ (a ++ (codes " SET " ++ r))) u form) (with_separators (codes ", ") (b.set_pieces q schema table) cells) (b.filter_pieces q schema table filter) setsw
      (λ m n u z first last.
      update_rows is (items_read q (b.set_pieces q schema table) (Set q) (λ c. (column_name schema table c.0, set_tree q schema table c.1)) (codes ", ") cells (all_sets table cells h.2) m u first)
      (clause_read q schema (alone table) (codes " WHERE ") filter (filter_stands table filter h.3) n z last)))))
  bulk_read (bulk.Delete table filter) h t v w =
      let form : BulkForm = bulk_form q schema (bulk.Delete table filter) in
      after_words (λ p u. ReadsBulk q p u form) w (λ p rest. after_name (λ p u. ReadsBulk q (codes "DELETE FROM " ++ p) u form) rest
      (λ a r is past. delete_rows is (clause_read q schema (alone table) (codes " WHERE ") filter (filter_stands table filter h.1) r v past)))

pub bulks_are_read : BulksAreRead
unfolding text_of
bulks_are_read dialect schema it h =
    all_written (λ t v. ReadsBulk dialect t v (bulk_form dialect schema it)) (nothing_written dialect) (statement_pieces dialect schema (of_bulk it)) (λ t v w. bulk_read dialect schema it h t v w)
