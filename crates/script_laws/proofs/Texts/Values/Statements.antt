-- The pieces of a statement's text without its values are the same but for values.
use Rattle.std.proofs.Common.{◌≡◌, ℕ, ◌++◌, Bool, List, [], ◌∷◌, map, Option, Some, None, codes, refl, sym, ap, ◌∙◌}
use Rattle.std.specs.Option.{option_map}
use Rattle.base_core.specs.declared.ids.ColumnNo.{ColumnNo}
use Rattle.base_core.specs.declared.ids.TableId.{TableId}
use Rattle.base_core.specs.declared.value.Value.{Value}
use Rattle.base_core.specs.declared.value.Value.TheVariants as cell
use Rattle.schema_core.specs.Catalog.{Catalog}
use Rattle.expr_types.specs.declared.expr.Expr.{Expr}
use Rattle.expr_types.specs.declared.expr.Expr.TheOpen.{Expr-F}
use Rattle.expr_types.specs.declared.expr.Expr.TheVariants as expr
use Rattle.expr_types.specs.declared.expr.Origin.{Origin}
use Rattle.expr_types.specs.declared.select.Bulk.{Bulk}
use Rattle.expr_types.specs.declared.select.Bulk.TheVariants as bulk
use Rattle.expr_types.specs.declared.select.Joined.{Joined}
use Rattle.expr_types.specs.declared.select.Select.{Select}
use Rattle.expr_types.proofs.Folds.{fold-Lit}
use Rattle.sql_semantics.specs.Plain.{alone, sources_of}
use Rattle.base_core.specs.declared.dialect.Dialect.{Dialect}
use Rattle.base_core.specs.declared.dialect.Dialect.TheVariants.{Sqlite, Postgresql, Mysql}
use Rattle.sql_text.specs.Columns.{column_name}
use Rattle.sql_text.specs.Words.{select_word, join_word}
use Rattle.sql_text.specs.Written.{Piece, words, value, with_leading_separators, with_separators}
use Rattle.sql_expressions.specs.Laid.{Laid, laid, laid_level, under, part, parts, param, source_pieces}
use Rattle.sql_rows.specs.Rows as rows
use Rattle.sql_statements.specs.Bulks as b
use Rattle.sql_statements.specs.Bulks.{bulk_pieces}
use Rattle.sql_rows.specs.Cuts as cuts
use Rattle.sql_statements.specs.Selects as s
use Rattle.sql_statements.specs.Selects.{select_pieces, whole}
use Rattle.script_laws.specs.Texts.Values.{without, without_join, without_select, without_set, without_bulk, no_values}
use Rattle.script_laws.proofs.Texts.Values.Pieces.{Alike, both, behind, bare, all_alike, joined_alike}
use Rattle.script_laws.proofs.Texts.Values.Expressions.{same, under_alike}

module _ (q : Dialect) (schema : Catalog) where
  -- ---- parts of selects

  whole_alike : (scope : List Origin) (e : Expr) → Alike (whole q schema scope e) (whole q schema scope (without e))
  whole_alike scope e = (same q schema e).pieces scope param

  item_alike : (scope : List Origin) (item : Expr × Option (List ℕ)) → Alike (s.item_pieces q schema scope item) (s.item_pieces q schema scope (without item.0, item.1))
  item_alike scope item = both (whole q schema scope item.0) (whole q schema scope (without item.0)) (s.named_pieces item.1) (s.named_pieces item.1) (whole_alike scope item.0) refl

  key_alike : (scope : List Origin) (key : Expr × Bool) → Alike (s.key_pieces q schema scope key) (s.key_pieces q schema scope (without key.0, key.1))
  key_alike scope key = both (whole q schema scope key.0) (whole q schema scope (without key.0)) (s.desc_pieces key.1) (s.desc_pieces key.1) (whole_alike scope key.0) refl

  clause_alike : (scope : List Origin) (word : List ℕ) (e : Option Expr) → Alike (s.clause_pieces q schema scope word e) (s.clause_pieces q schema scope word (option_map without e))
  clause_alike scope word None = refl
  clause_alike scope word (Some e) = behind (words word) (whole q schema scope e) (whole q schema scope (without e)) (whole_alike scope e)

  join_alike : (scope : List Origin) (join : Joined) → Alike (s.join_pieces q schema scope join) (s.join_pieces q schema scope (without_join join))
  join_alike scope join =
      both (words (join_word join.left) ∷ source_pieces schema join.origin) (words (join_word join.left) ∷ source_pieces schema join.origin) (words (codes " ON ") ∷ whole q schema scope join.on)
      (words (codes " ON ") ∷ whole q schema scope (without join.on)) refl (behind (words (codes " ON ")) (whole q schema scope join.on) (whole q schema scope (without join.on)) (whole_alike scope join.on))

  joins_alike : (before : List Origin) (joins : List Joined) → Alike (s.joins_pieces q schema before joins) (s.joins_pieces q schema before (map without_join joins))
  joins_alike before [] = refl
  joins_alike before (join ∷ joins) =
      both (s.join_pieces q schema (before ++ join.origin ∷ []) join) (s.join_pieces q schema (before ++ join.origin ∷ []) (without_join join))
      (s.joins_pieces q schema (before ++ join.origin ∷ []) joins) (s.joins_pieces q schema (before ++ join.origin ∷ []) (map without_join joins)) (join_alike (before ++ join.origin ∷ []) join)
      (joins_alike (before ++ join.origin ∷ []) joins)

  groups_led : (scope : List Origin) (es : List Expr) → Alike (with_leading_separators (codes ", ") (part 1 scope) (map (laid q schema) es)) (with_leading_separators (codes ", ") (part 1 scope) (map (laid q schema) (map without es)))
  unfolding part
  groups_led scope [] = refl
  groups_led scope (e ∷ es) =
      both (words (codes ", ") ∷ under 1 (laid q schema e) scope param) (words (codes ", ") ∷ under 1 (laid q schema (without e)) scope param) (with_leading_separators (codes ", ") (part 1 scope) (map (laid q schema) es))
      (with_leading_separators (codes ", ") (part 1 scope) (map (laid q schema) (map without es)))
      (behind (words (codes ", ")) (under 1 (laid q schema e) scope param) (under 1 (laid q schema (without e)) scope param) (under_alike 1 (same q schema e) scope param param refl)) (groups_led scope es)

  groups_alike : (scope : List Origin) (es : List Expr) → Alike (s.groups_pieces q schema scope es) (s.groups_pieces q schema scope (map without es))
  unfolding part
  groups_alike scope [] = refl
  groups_alike scope (e ∷ es) =
      behind (words (codes " GROUP BY ")) (parts 1 (codes ", ") (map (laid q schema) (e ∷ es)) scope) (parts 1 (codes ", ") (map (laid q schema) (map without (e ∷ es))) scope)
      (both (under 1 (laid q schema e) scope param) (under 1 (laid q schema (without e)) scope param) (with_leading_separators (codes ", ") (part 1 scope) (map (laid q schema) es))
      (with_leading_separators (codes ", ") (part 1 scope) (map (laid q schema) (map without es))) (under_alike 1 (same q schema e) scope param param refl) (groups_led scope es))

  order_alike : (scope : List Origin) (keys : List (Expr × Bool)) → Alike (s.order_pieces q schema scope keys) (s.order_pieces q schema scope (map (λ key. (without key.0, key.1)) keys))
  order_alike scope [] = refl
  order_alike scope (key ∷ keys) =
      let change : Expr × Bool → Expr × Bool = λ k. (without k.0, k.1) in
      behind (words (codes " ORDER BY ")) (with_separators (codes ", ") (s.key_pieces q schema scope) (key ∷ keys)) (with_separators (codes ", ") (s.key_pieces q schema scope) (map change (key ∷ keys)))
      (joined_alike (s.key_pieces q schema scope) change (codes ", ") (key ∷ keys) (all_alike (s.key_pieces q schema scope) change (key_alike scope) (key ∷ keys)))

-- the same sources
origins_are : (joins : List Joined) → map (λ j. j.origin) (map without_join joins) ≡ map (λ j. j.origin) joins
origins_are [] = refl
origins_are (j ∷ joins) = ap (λ (os : List Origin). j.origin ∷ os) (origins_are joins)

both_cut : (q : Dialect) (limit offset : ℕ) → Alike (cuts.both_pieces q limit offset) (cuts.both_pieces q 0 0)
both_cut Sqlite limit offset = refl
both_cut Postgresql limit offset = refl
both_cut Mysql limit offset = refl

offset_cut : (q : Dialect) (offset : ℕ) → Alike (cuts.offset_pieces q offset) (cuts.offset_pieces q 0)
offset_cut Sqlite offset = refl
offset_cut Postgresql offset = refl
offset_cut Mysql offset = refl

cut_alike : (q : Dialect) (limit offset : Option ℕ) → Alike (cuts.cut_pieces q limit offset) (cuts.cut_pieces q (option_map (λ n. 0) limit) (option_map (λ n. 0) offset))
cut_alike q None None = refl
cut_alike q (Some limit) None = refl
cut_alike q None (Some offset) = offset_cut q offset
cut_alike q (Some limit) (Some offset) = both_cut q limit offset

module _ (q : Dialect) (schema : Catalog) where
  head_alike : (it : Select) (scope : List Origin) → Alike (words (select_word it.distinct) ∷ with_separators (codes ", ") (s.item_pieces q schema scope) it.items)
      (words (select_word it.distinct) ∷ with_separators (codes ", ") (s.item_pieces q schema scope) (map (λ item. (without item.0, item.1)) it.items))
  head_alike it scope =
      let change : Expr × Option (List ℕ) → Expr × Option (List ℕ) = λ item. (without item.0, item.1) in
      behind (words (select_word it.distinct)) (with_separators (codes ", ") (s.item_pieces q schema scope) it.items) (with_separators (codes ", ") (s.item_pieces q schema scope) (map change it.items))
      (joined_alike (s.item_pieces q schema scope) change (codes ", ") it.items (all_alike (s.item_pieces q schema scope) change (item_alike q schema scope) it.items))

  from_alike : (it : Select) → Alike (s.from_pieces q schema it) (s.from_pieces q schema (without_select it))
  from_alike it =
      both (words (codes " FROM ") ∷ source_pieces schema it.first) (words (codes " FROM ") ∷ source_pieces schema it.first) (s.joins_pieces q schema (it.first ∷ []) it.joins)
      (s.joins_pieces q schema (it.first ∷ []) (map without_join it.joins)) refl (joins_alike q schema (it.first ∷ []) it.joins)

  tail_alike : (it : Select) (scope : List Origin) → Alike (s.tail_pieces q schema scope it) (s.tail_pieces q schema scope (without_select it))
  tail_alike it scope =
      let other : Select = without_select it in
      let filter = λ (x : Select). s.clause_pieces q schema scope (codes " WHERE ") x.filter in
      let groups = λ (x : Select). s.groups_pieces q schema scope x.groups in
      let having = λ (x : Select). s.clause_pieces q schema scope (codes " HAVING ") x.having in
      let order = λ (x : Select). s.order_pieces q schema scope x.order in
      let cut = λ (x : Select). cuts.cut_pieces q x.limit x.offset in
      both (filter it ++ groups it ++ having it ++ order it) (filter other ++ groups other ++ having other ++ order other) (cut it) (cut other)
      (both (filter it ++ groups it ++ having it) (filter other ++ groups other ++ having other) (order it) (order other)
      (both (filter it ++ groups it) (filter other ++ groups other) (having it) (having other)
      (both (filter it) (filter other) (groups it) (groups other) (clause_alike q schema scope (codes " WHERE ") it.filter) (groups_alike q schema scope it.groups))
      (clause_alike q schema scope (codes " HAVING ") it.having))
      (order_alike q schema scope it.order))
      (cut_alike q it.limit it.offset)

  select_at : List Origin → Select → List Piece
  select_at scope it = (words (select_word it.distinct) ∷ with_separators (codes ", ") (s.item_pieces q schema scope) it.items) ++ s.from_pieces q schema it ++ s.tail_pieces q schema scope it

  pub select_alike : (it : Select) → Alike (select_pieces q schema it) (select_pieces q schema (without_select it))
  unfolding select_pieces select_at
  select_alike it =
      both (s.head_pieces q schema it ++ s.from_pieces q schema it) ((words (select_word it.distinct) ∷ with_separators (codes ", ") (s.item_pieces q schema (sources_of it)) (map (λ item. (without item.0, item.1)) it.items)) ++ s.from_pieces q schema (without_select it))
      (s.tail_pieces q schema (sources_of it) it) (s.tail_pieces q schema (sources_of it) (without_select it))
      (both (s.head_pieces q schema it) (words (select_word it.distinct) ∷ with_separators (codes ", ") (s.item_pieces q schema (sources_of it)) (map (λ item. (without item.0, item.1)) it.items))
      (s.from_pieces q schema it) (s.from_pieces q schema (without_select it)) (head_alike it (sources_of it)) (from_alike it))
      (tail_alike it (sources_of it))
      ∙ ap (λ (scope : List Origin). map bare (select_at scope (without_select it))) (ap (λ (os : List Origin). it.first ∷ os) (sym (origins_are it.joins)))

  -- ---- bulk statements

  cells_alike : (table : TableId) (word : List ℕ) (columns : List ColumnNo) (vs : List Value) → Alike (b.cells_pieces schema table word columns vs) (b.cells_pieces schema table word columns (no_values vs))
  cells_alike table word columns [] = refl
  cells_alike table word [] (v ∷ vs) = refl
  cells_alike table word (c ∷ cs) (v ∷ vs) = ap (λ (ps : List Piece). words word ∷ value (column_name schema table c) cell.Null ∷ ps) (cells_alike table (codes ", ") cs vs)

  values_alike : (table : TableId) (columns : List ColumnNo) (vs : List Value) → Alike (b.values_pieces q schema table columns vs) (b.values_pieces q schema table columns (no_values vs))
  values_alike table [] vs = refl
  values_alike table (c ∷ cs) vs =
      let cells = λ (us : List Value). b.cells_pieces schema table (codes "(") (c ∷ cs) us in
      both (words (codes " (") ∷ b.columns_pieces schema table (c ∷ cs)) (words (codes " (") ∷ b.columns_pieces schema table (c ∷ cs)) (words (codes ") VALUES ") ∷ cells vs ++ words (codes ")") ∷ [])
      (words (codes ") VALUES ") ∷ cells (no_values vs) ++ words (codes ")") ∷ []) refl
      (both (words (codes ") VALUES ") ∷ cells vs) (words (codes ") VALUES ") ∷ cells (no_values vs)) (words (codes ")") ∷ []) (words (codes ")") ∷ [])
      (behind (words (codes ") VALUES ")) (cells vs) (cells (no_values vs)) (cells_alike table (codes "(") (c ∷ cs) vs)) refl)

  laid_null : laid q schema (expr.Lit cell.Null) ≡ laid_level q schema (Expr-F.Lit cell.Null)
  unfolding laid
  laid_null = fold-Lit Laid (laid_level q schema) cell.Null

  written_alike : (table : TableId) (column : ColumnNo) (e : Option Expr) → Alike (b.written_pieces q schema table column e) (b.written_pieces q schema table column (without_set e))
  written_alike table column None = ap (λ (a : Laid). map bare (a.pieces (alone table) (column_name schema table column))) (sym laid_null)
  written_alike table column (Some e) = (same q schema e).pieces (alone table) (column_name schema table column)

  set_alike : (table : TableId) (set : ColumnNo × Option Expr) → Alike (b.set_pieces q schema table set) (b.set_pieces q schema table (set.0, without_set set.1))
  set_alike table set =
      behind (rows.column_piece schema table set.0) (words (codes "=") ∷ b.written_pieces q schema table set.0 set.1) (words (codes "=") ∷ b.written_pieces q schema table set.0 (without_set set.1))
      (behind (words (codes "=")) (b.written_pieces q schema table set.0 set.1) (b.written_pieces q schema table set.0 (without_set set.1)) (written_alike table set.0 set.1))

  pub bulk_alike : (it : Bulk) → Alike (bulk_pieces q schema it) (bulk_pieces q schema (without_bulk it))
  unfolding bulk_pieces
  bulk_alike (bulk.Insert table columns vs) =
      behind (words (codes "INSERT INTO ")) (rows.table_piece schema table ∷ b.values_pieces q schema table columns vs) (rows.table_piece schema table ∷ b.values_pieces q schema table columns (no_values vs))
      (behind (rows.table_piece schema table) (b.values_pieces q schema table columns vs) (b.values_pieces q schema table columns (no_values vs)) (values_alike table columns vs))
  bulk_alike (bulk.Update table cells filter) =
      let change : ColumnNo × Option Expr → ColumnNo × Option Expr = λ c. (c.0, without_set c.1) in
      let start : List Piece = words (codes "UPDATE ") ∷ rows.table_piece schema table ∷ words (codes " SET ") ∷ [] in
      both (start ++ with_separators (codes ", ") (b.set_pieces q schema table) cells) (start ++ with_separators (codes ", ") (b.set_pieces q schema table) (map change cells))
      (b.filter_pieces q schema table filter) (b.filter_pieces q schema table (option_map without filter))
      (both start start (with_separators (codes ", ") (b.set_pieces q schema table) cells) (with_separators (codes ", ") (b.set_pieces q schema table) (map change cells)) refl
      (joined_alike (b.set_pieces q schema table) change (codes ", ") cells (all_alike (b.set_pieces q schema table) change (set_alike table) cells)))
      (clause_alike q schema (alone table) (codes " WHERE ") filter)
  bulk_alike (bulk.Delete table filter) =
      both (words (codes "DELETE FROM ") ∷ rows.table_piece schema table ∷ []) (words (codes "DELETE FROM ") ∷ rows.table_piece schema table ∷ []) (b.filter_pieces q schema table filter)
      (b.filter_pieces q schema table (option_map without filter)) refl (clause_alike q schema (alone table) (codes " WHERE ") filter)
