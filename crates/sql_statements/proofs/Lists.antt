-- Lists that stand in statements.
use Rattle.std.proofs.Common.{◌≡◌, ℕ, true, List, [], ◌∷◌, ◌++◌, codes, length, sym, ap, ◌∙◌, arith}
use Rattle.base_core.specs.declared.ids.ColumnNo.{ColumnNo}
use Rattle.base_core.specs.declared.ids.TableId.{TableId}
use Rattle.base_core.specs.declared.value.Value.{Value}
use Rattle.schema_core.specs.Catalog.{Catalog}
use Rattle.expr_types.specs.declared.expr.Origin.{Origin}
use Rattle.expr_types.specs.declared.select.Joined.{Joined}
use Rattle.base_core.specs.declared.dialect.Dialect.{Dialect}
use Rattle.sql_text.specs.Pages.{Paged, WroteOn, put_on}
use Rattle.sql_text.specs.Written.{words}
use Rattle.sql_text.proofs.Pages.{dialect_on, more_on, on_nil, whole_before, wrote_then}
use Rattle.sql_rows.specs.Rows.{cell_piece}
use Rattle.sql_statements.specs.Bulks.{cells_pieces}
use Rattle.sql_statements.specs.Selects.{join_pieces, joins_pieces}

-- one more source, with its condition under the sources up to it
pub joins_next : (schema : Catalog) (start old new done : Paged) (before scope : List Origin) (join : Joined) (rest xs : List Joined) → xs ≡ join ∷ rest → scope ≡ before ++ join.origin ∷ []
    → (old.is_whole ≡ true → (old.written.dialect ≡ start.written.dialect) × (put_on old (joins_pieces start.written.dialect schema before xs) ≡ done))
    → WroteOn (join_pieces old.written.dialect schema scope join) old new
    → new.is_whole ≡ true → (new.written.dialect ≡ start.written.dialect) × (put_on new (joins_pieces start.written.dialect schema scope rest) ≡ done)
joins_next schema start old new done before scope join rest xs xs-is scope-is so-far wrote whole =
    let new-is = wrote whole in
    let there = so-far (whole_before (join_pieces old.written.dialect schema scope join) old new whole new-is) in
    let after : new.written.dialect ≡ start.written.dialect = ap (λ (p : Paged). p.written.dialect) new-is ∙ (dialect_on old (join_pieces old.written.dialect schema scope join) ∙ there.0) in
    let here : WroteOn (join_pieces start.written.dialect schema scope join) old new = λ h. new-is ∙ ap (λ (q : Dialect). put_on old (join_pieces q schema scope join)) there.0 in
    let all-is : joins_pieces start.written.dialect schema before xs ≡ join_pieces start.written.dialect schema scope join ++ joins_pieces start.written.dialect schema scope rest =
    ap (joins_pieces start.written.dialect schema before) xs-is ∙ ap (λ (s : List Origin). join_pieces start.written.dialect schema s join ++ joins_pieces start.written.dialect schema s rest) (sym scope-is) in
    (after, more_on (join_pieces start.written.dialect schema scope join) (joins_pieces start.written.dialect schema scope rest) (joins_pieces start.written.dialect schema before xs) old new done all-is (λ h. there.1) here whole)

-- a value for a column, behind its word
pub cell_next : (schema : Catalog) (table : TableId) (word : List ℕ) (column : ColumnNo) (v : Value) (columns xs : List ColumnNo) (values vs : List Value) (old mid new done : Paged) → xs ≡ column ∷ columns → vs ≡ v ∷ values
    → (old.is_whole ≡ true → put_on old (cells_pieces schema table word xs vs) ≡ done) → WroteOn (words word ∷ []) old mid → WroteOn (cell_piece schema table column v ∷ []) mid new
    → new.is_whole ≡ true → put_on new (cells_pieces schema table (codes ", ") columns values) ≡ done
cell_next schema table word column v columns xs values vs old mid new done xs-is vs-is so-far first second =
    more_on (words word ∷ cell_piece schema table column v ∷ []) (cells_pieces schema table (codes ", ") columns values) (cells_pieces schema table word xs vs) old new done
    (ap (λ (ys : List ColumnNo). cells_pieces schema table word ys vs) xs-is ∙ ap (cells_pieces schema table word (column ∷ columns)) vs-is)
    so-far
    (wrote_then (words word ∷ []) (cell_piece schema table column v ∷ []) old mid new first second)

-- columns that are not there write nothing
pub no_columns : (schema : Catalog) (table : TableId) (word : List ℕ) (xs : List ColumnNo) (vs : List Value) (page : Paged) → length xs ≡ 0 → put_on page (cells_pieces schema table word xs vs) ≡ page
no_columns schema table word xs [] page none = on_nil page
no_columns schema table word [] (v ∷ vs) page none = on_nil page
no_columns schema table word (x ∷ xs) (v ∷ vs) page none = absurd (omega arith)
