-- The pieces of a statement on rows are the same but for values, and so is every statement's text.
use Rattle.std.proofs.Common.{◌≡◌, ℕ, ◌++◌, Bool, true, false, ◌&&◌, cond, List, [], ◌∷◌, map, codes, refl, sym, ap, ◌∙◌}
use Rattle.std.specs.List.{list_all}
use Rattle.std.specs.Prelude.{pos}
use Rattle.base_core.specs.declared.ids.ColumnNo.{ColumnNo}
use Rattle.base_core.specs.declared.value.Value.{Value}
use Rattle.base_core.specs.declared.value.Value.TheVariants as cell
use Rattle.schema_core.specs.declared.statement.RowStmt.{RowStmt}
use Rattle.schema_core.specs.declared.statement.RowStmt.TheVariants as row
use Rattle.schema_core.specs.declared.table.ColumnSpec.{ColumnSpec}
use Rattle.schema_core.specs.declared.table.TableSpec.{TableSpec}
use Rattle.schema_core.specs.Apply.{wants_key}
use Rattle.schema_core.specs.Catalog.{Catalog, spec_of, has_generated_key}
use Rattle.schema_core.specs.Tables.{has_null, key_cells}
use Rattle.expr_types.specs.declared.select.Statement.{Statement}
use Rattle.expr_types.specs.declared.select.Statement.TheVariants as statement
use Rattle.base_core.specs.declared.dialect.Dialect.{Dialect}
use Rattle.sql_text.specs.Written.{Piece, words, name, value, with_separators}
use Rattle.sql_rows.specs.Rows as r
use Rattle.sql_rows.specs.Rows.{row_pieces, is_left_out, leaves_key}
use Rattle.sql_statements.specs.Texts.{text_of, statement_pieces}
use Rattle.script_laws.specs.Texts.Values.{without_row, without_cells, without_values, no_values, ValuesAreInNoText}
use Rattle.script_laws.proofs.Texts.Values.Pieces.{Alike, both, behind, bare, one_text, all_alike, joined_alike}
use Rattle.script_laws.proofs.Texts.Values.Statements.{select_alike, bulk_alike}

-- ---- keys

-- one value throughout
abbrev filled : Value → List Value → List Value
filled w = map (λ v. w)

some_null : (columns : List ColumnSpec) (cells : List Value) → has_null (key_cells columns cells) ≡ true → has_null (key_cells columns (no_values cells)) ≡ true
some_null [] cells h = h
some_null (c ∷ cs) [] h = h
some_null (c ∷ cs) (v ∷ cells) h = by c.key (some_null cs cells) h
  where
    by : (k : Bool) → (has_null (key_cells cs cells) ≡ true → has_null (key_cells cs (no_values cells)) ≡ true) → has_null (cond k (v ∷ key_cells cs cells) (key_cells cs cells)) ≡ true
        → has_null (cond k (cell.Null ∷ key_cells cs (no_values cells)) (key_cells cs (no_values cells))) ≡ true
    by true rec h = refl
    by false rec h = rec h

no_null : (columns : List ColumnSpec) (cells : List Value) → has_null (key_cells columns (filled (cell.Int (pos 0)) cells)) ≡ false
no_null [] cells = refl
no_null (c ∷ cs) [] = refl
no_null (c ∷ cs) (v ∷ cells) = by c.key (no_null cs cells)
  where
    by : (k : Bool) → has_null (key_cells cs (filled (cell.Int (pos 0)) cells)) ≡ false
        → has_null (cond k (cell.Int (pos 0) ∷ key_cells cs (filled (cell.Int (pos 0)) cells)) (key_cells cs (filled (cell.Int (pos 0)) cells))) ≡ false
    by true rec = rec
    by false rec = rec

wants_by : (spec : TableSpec) (cells : List Value) (b : Bool) → wants_key spec cells ≡ b → wants_key spec (cond b (no_values cells) (filled (cell.Int (pos 0)) cells)) ≡ b
wants_by spec cells true is = by (has_generated_key spec) is
  where
    by : (g : Bool) → (g && has_null (key_cells spec.columns cells)) ≡ true → (g && has_null (key_cells spec.columns (no_values cells))) ≡ true
    by true h = some_null spec.columns cells h
    by false h = h
wants_by spec cells false is = by (has_generated_key spec)
  where
    by : (g : Bool) → (g && has_null (key_cells spec.columns (filled (cell.Int (pos 0)) cells))) ≡ false
    by true = no_null spec.columns cells
    by false = refl

wants_same : (spec : TableSpec) (cells : List Value) → wants_key spec (without_row spec cells) ≡ wants_key spec cells
wants_same spec cells = wants_by spec cells (wants_key spec cells) refl

leaves_same : (spec : TableSpec) (rows : List (List Value)) → leaves_key spec (map (without_row spec) rows) ≡ leaves_key spec rows
leaves_same spec [] = refl
leaves_same spec (cells ∷ rows) = wants_same spec cells

-- ---- rows

either_way : (k : Bool) (ps qs rs ss : List Piece) → Alike ps qs → Alike rs ss → Alike (cond k ps rs) (cond k qs ss)
either_way true ps qs rs ss one other = one
either_way false ps qs rs ss one other = other

cells_filled : (w : Value) (drawn : Bool) (word : List ℕ) (columns : List ColumnSpec) (cells : List Value) → Alike (r.row_cells drawn word columns cells) (r.row_cells drawn word columns (filled w cells))
cells_filled w drawn word [] cells = refl
cells_filled w drawn word (c ∷ cs) [] = refl
cells_filled w drawn word (c ∷ cs) (v ∷ cells) =
    either_way (is_left_out drawn c) (r.row_cells drawn word cs cells) (r.row_cells drawn word cs (filled w cells))
    (words word ∷ value c.name v ∷ r.row_cells drawn (codes ", ") cs cells) (words word ∷ value c.name w ∷ r.row_cells drawn (codes ", ") cs (filled w cells))
    (cells_filled w drawn word cs cells) (ap (λ (ps : List Piece). words word ∷ value c.name cell.Null ∷ ps) (cells_filled w drawn (codes ", ") cs cells))

list_filled : (w : Value) (drawn : Bool) (columns : List ColumnSpec) (cells : List Value) → Alike (r.row_list drawn columns cells) (r.row_list drawn columns (filled w cells))
list_filled w drawn columns cells =
    both (r.row_cells drawn (codes "(") columns cells) (r.row_cells drawn (codes "(") columns (filled w cells)) (words (codes ")") ∷ []) (words (codes ")") ∷ []) (cells_filled w drawn (codes "(") columns cells) refl

list_alike : (spec : TableSpec) (drawn : Bool) (columns : List ColumnSpec) (cells : List Value) → Alike (r.row_list drawn columns cells) (r.row_list drawn columns (without_row spec cells))
list_alike spec drawn columns cells = by (wants_key spec cells)
  where
    by : (k : Bool) → Alike (r.row_list drawn columns cells) (r.row_list drawn columns (cond k (no_values cells) (filled (cell.Int (pos 0)) cells)))
    by true = list_filled cell.Null drawn columns cells
    by false = list_filled (cell.Int (pos 0)) drawn columns cells

rows_alike : (q : Dialect) (spec : TableSpec) (drawn : Bool) (columns : List ColumnSpec) (rows : List (List Value)) → Alike (r.rows_pieces q drawn columns rows) (r.rows_pieces q drawn columns (map (without_row spec) rows))
rows_alike q spec drawn columns rows =
    let lists = λ (xs : List (List Value)). with_separators (codes ", ") (r.row_list drawn columns) xs in
    either_way (list_all (is_left_out drawn) columns) (words (r.default_word q) ∷ []) (words (r.default_word q) ∷ []) (r.lists_pieces drawn columns rows) (r.lists_pieces drawn columns (map (without_row spec) rows)) refl
    (both (r.names_pieces drawn (codes " (") columns) (r.names_pieces drawn (codes " (") columns) (words (codes ") VALUES ") ∷ lists rows) (words (codes ") VALUES ") ∷ lists (map (without_row spec) rows)) refl
    (behind (words (codes ") VALUES ")) (lists rows) (lists (map (without_row spec) rows))
    (joined_alike (r.row_list drawn columns) (without_row spec) (codes ", ") rows (all_alike (r.row_list drawn columns) (without_row spec) (list_alike spec drawn columns) rows))))

insert_alike : (q : Dialect) (spec : TableSpec) (drawn : Bool) (rows : List (List Value)) → Alike (r.insert_rows q spec drawn rows) (r.insert_rows q spec drawn (map (without_row spec) rows))
insert_alike q spec drawn rows =
    let start : List Piece = words (codes "INSERT INTO ") ∷ name spec.name ∷ [] in
    both (start ++ r.rows_pieces q drawn spec.columns rows) (start ++ r.rows_pieces q drawn spec.columns (map (without_row spec) rows)) (r.returning_pieces q drawn spec) (r.returning_pieces q drawn spec)
    (both start start (r.rows_pieces q drawn spec.columns rows) (r.rows_pieces q drawn spec.columns (map (without_row spec) rows)) refl (rows_alike q spec drawn spec.columns rows)) refl

keys_alike : (table word : List ℕ) (columns : List ColumnSpec) (key : List Value) → Alike (r.key_pieces table word columns key) (r.key_pieces table word columns (no_values key))
keys_alike table word [] key = refl
keys_alike table word (c ∷ cs) [] = refl
keys_alike table word (c ∷ cs) (v ∷ key) =
    either_way c.key (words word ∷ r.key_cell table c v ++ r.key_pieces table (codes " AND ") cs key) (words word ∷ r.key_cell table c cell.Null ++ r.key_pieces table (codes " AND ") cs (no_values key))
    (r.key_pieces table word cs (v ∷ key)) (r.key_pieces table word cs (no_values (v ∷ key)))
    (both (words word ∷ r.key_cell table c v) (words word ∷ r.key_cell table c cell.Null) (r.key_pieces table (codes " AND ") cs key) (r.key_pieces table (codes " AND ") cs (no_values key)) refl
    (keys_alike table (codes " AND ") cs key))
    (keys_alike table word cs (v ∷ key))

row_alike : (q : Dialect) (schema : Catalog) (it : RowStmt) → Alike (row_pieces q schema it) (row_pieces q schema (without_cells schema it))
unfolding row_pieces
row_alike q schema (row.Insert table rows) =
    insert_alike q (spec_of schema table) (leaves_key (spec_of schema table) rows) rows
    ∙ ap (λ (drawn : Bool). map bare (r.insert_rows q (spec_of schema table) drawn (map (without_row (spec_of schema table)) rows))) (sym (leaves_same (spec_of schema table) rows))
row_alike q schema (row.Update table key cells) =
    let change : ColumnNo × Value → ColumnNo × Value = λ c. (c.0, cell.Null) in
    let start : List Piece = words (codes "UPDATE ") ∷ r.table_piece schema table ∷ words (codes " SET ") ∷ [] in
    both (start ++ with_separators (codes ", ") (r.cell_pieces schema table) cells) (start ++ with_separators (codes ", ") (r.cell_pieces schema table) (map change cells)) (r.by_key (spec_of schema table) key)
    (r.by_key (spec_of schema table) (no_values key))
    (both start start (with_separators (codes ", ") (r.cell_pieces schema table) cells) (with_separators (codes ", ") (r.cell_pieces schema table) (map change cells)) refl
    (joined_alike (r.cell_pieces schema table) change (codes ", ") cells (all_alike (r.cell_pieces schema table) change (λ c. refl) cells)))
    (keys_alike (spec_of schema table).name (codes " WHERE ") (spec_of schema table).columns key)
row_alike q schema (row.Delete table key) =
    both (words (codes "DELETE FROM ") ∷ r.table_piece schema table ∷ []) (words (codes "DELETE FROM ") ∷ r.table_piece schema table ∷ []) (r.by_key (spec_of schema table) key) (r.by_key (spec_of schema table) (no_values key)) refl
    (keys_alike (spec_of schema table).name (codes " WHERE ") (spec_of schema table).columns key)

-- ---- statements

statement_alike : (q : Dialect) (schema : Catalog) (it : Statement) → Alike (statement_pieces q schema it) (statement_pieces q schema (without_values schema it))
statement_alike q schema (statement.Select it) = select_alike q schema it
statement_alike q schema (statement.Bulk it) = bulk_alike q schema it
statement_alike q schema (statement.Row it) = row_alike q schema it

text_without : (q : Dialect) (schema : Catalog) (it : Statement) → (text_of q schema it).text ≡ (text_of q schema (without_values schema it)).text
unfolding text_of
text_without q schema it = one_text q (statement_pieces q schema it) (statement_pieces q schema (without_values schema it)) (statement_alike q schema it)

pub values_are_in_no_text : ValuesAreInNoText
values_are_in_no_text q schema one other same =
    text_without q schema one ∙ (ap (λ (it : Statement). (text_of q schema it).text) same ∙ sym (text_without q schema other))
