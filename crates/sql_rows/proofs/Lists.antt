-- Lists that stand in statements on rows.
use Rattle.std.proofs.Common.{◌≡◌, ℕ, Bool, true, false, cond, List, [], ◌∷◌, ◌++◌, codes, ap, ◌∙◌}
use Rattle.base_core.specs.declared.value.Value.{Value}
use Rattle.schema_core.specs.declared.table.ColumnSpec.{ColumnSpec}
use Rattle.sql_text.specs.Pages.{Paged, WroteOn, put_on}
use Rattle.sql_text.specs.Written.{words, name, value}
use Rattle.sql_text.proofs.Pages.{more_on, wrote_then}
use Rattle.sql_rows.specs.Rows.{is_left_out, names_pieces, row_cells, key_names, key_cell, key_pieces}

-- the name of a column with a value, behind its word
pub name_next : (drawn : Bool) (word : List ℕ) (column : ColumnSpec) (rest xs : List ColumnSpec) (old mid new done : Paged) → xs ≡ column ∷ rest → is_left_out drawn column ≡ false
    → (old.is_whole ≡ true → put_on old (names_pieces drawn word xs) ≡ done) → WroteOn (words word ∷ []) old mid → WroteOn (name column.name ∷ []) mid new → new.is_whole ≡ true → put_on new (names_pieces drawn (codes ", ") rest) ≡ done
name_next drawn word column rest xs old mid new done xs-is kept so-far first second =
    more_on (words word ∷ name column.name ∷ []) (names_pieces drawn (codes ", ") rest) (names_pieces drawn word xs) old new done
    (ap (names_pieces drawn word) xs-is ∙ ap (λ (b : Bool). cond b (names_pieces drawn word rest) (words word ∷ name column.name ∷ names_pieces drawn (codes ", ") rest)) kept)
    so-far
    (wrote_then (words word ∷ []) (name column.name ∷ []) old mid new first second)

-- a value of a row, behind its word
pub row_cell_next : (drawn : Bool) (word : List ℕ) (column : ColumnSpec) (v : Value) (columns xs : List ColumnSpec) (values vs : List Value) (old mid new done : Paged) → xs ≡ column ∷ columns → vs ≡ v ∷ values → is_left_out drawn column ≡ false
    → (old.is_whole ≡ true → put_on old (row_cells drawn word xs vs) ≡ done) → WroteOn (words word ∷ []) old mid → WroteOn (value column.name v ∷ []) mid new
    → new.is_whole ≡ true → put_on new (row_cells drawn (codes ", ") columns values) ≡ done
row_cell_next drawn word column v columns xs values vs old mid new done xs-is vs-is kept so-far first second =
    more_on (words word ∷ value column.name v ∷ []) (row_cells drawn (codes ", ") columns values) (row_cells drawn word xs vs) old new done
    (ap (λ (ys : List ColumnSpec). row_cells drawn word ys vs) xs-is ∙ (ap (row_cells drawn word (column ∷ columns)) vs-is
    ∙ ap (λ (b : Bool). cond b (row_cells drawn word columns values) (words word ∷ value column.name v ∷ row_cells drawn (codes ", ") columns values)) kept))
    so-far
    (wrote_then (words word ∷ []) (value column.name v ∷ []) old mid new first second)

-- a column of the key behind RETURNING
pub key_name_next : (table : List ℕ) (column : ColumnSpec) (rest xs : List ColumnSpec) (old new done : Paged) → xs ≡ column ∷ rest → column.key ≡ true
    → (old.is_whole ≡ true → put_on old (key_names table xs) ≡ done) → WroteOn (words (codes " RETURNING ") ∷ name table ∷ words (codes ".") ∷ name column.name ∷ []) old new
    → new.is_whole ≡ true → put_on new (key_names table rest) ≡ done
key_name_next table column rest xs old new done xs-is in-key so-far wrote =
    more_on (words (codes " RETURNING ") ∷ name table ∷ words (codes ".") ∷ name column.name ∷ []) (key_names table rest) (key_names table xs) old new done
    (ap (key_names table) xs-is ∙ ap (λ (b : Bool). cond b (words (codes " RETURNING ") ∷ name table ∷ words (codes ".") ∷ name column.name ∷ key_names table rest) (key_names table rest)) in-key)
    so-far
    wrote

-- a column of the key, behind its word
pub key_cell_next : (table word : List ℕ) (column : ColumnSpec) (v : Value) (columns xs : List ColumnSpec) (key vs : List Value) (old mid new done : Paged) → xs ≡ column ∷ columns → vs ≡ v ∷ key → column.key ≡ true
    → (old.is_whole ≡ true → put_on old (key_pieces table word xs vs) ≡ done) → WroteOn (words word ∷ []) old mid → WroteOn (key_cell table column v) mid new
    → new.is_whole ≡ true → put_on new (key_pieces table (codes " AND ") columns key) ≡ done
key_cell_next table word column v columns xs key vs old mid new done xs-is vs-is in-key so-far first second =
    more_on (words word ∷ key_cell table column v) (key_pieces table (codes " AND ") columns key) (key_pieces table word xs vs) old new done
    (ap (λ (ys : List ColumnSpec). key_pieces table word ys vs) xs-is ∙ (ap (key_pieces table word (column ∷ columns)) vs-is
    ∙ ap (λ (b : Bool). cond b (words word ∷ key_cell table column v ++ key_pieces table (codes " AND ") columns key) (key_pieces table word columns (v ∷ key))) in-key))
    so-far
    (wrote_then (words word ∷ []) (key_cell table column v) old mid new first second)
