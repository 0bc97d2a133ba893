-- Cells that fit before the switches fit behind them.
use Rattle.std.proofs.Common.{◌≡◌, ℕ, zero, suc, ◌+◌, ◌<◌, Bool, true, false, cond, List, [], ◌∷◌, length, map, get_or, Option, None, Some, refl, sym, ap, ◌∙◌, subst, zero-add, arith}
use Rattle.std.specs.Prelude.{is_some, nat_lt, slice_get, slice_index_or}
use Rattle.std.specs.Cmp.Lexicographic.{pointwise}
use Rattle.std.specs.List.{AllByRecursion, cons_option, enumerate_from, filter, filter_map}
use Rattle.std.proofs.lemmas.Bool.{and_from, and_parts}
use Rattle.std.proofs.lemmas.Bool.Decides.{nat_tests}
use Rattle.std.proofs.lemmas.Option.{get_or_from_slice_get}
use Rattle.base_core.specs.declared.ids.TableId.{TableId}
use Rattle.base_core.specs.declared.value.Kind.TheVariants as kinds
use Rattle.base_core.specs.declared.value.Value.{Value}
use Rattle.base_core.specs.declared.value.Value.TheVariants.{Bool as BoolValue, Bytes, Int, Null, Text}
use Rattle.schema_core.specs.declared.changes.NewRow.{NewRow}
use Rattle.schema_core.specs.declared.changes.RowCell.{RowCell}
use Rattle.schema_core.specs.declared.changes.RowCell.TheVariants.{Given, KeyOf}
use Rattle.schema_core.specs.declared.changes.RowChanges.{RowChanges}
use Rattle.schema_core.specs.declared.table.ColumnSpec.{ColumnSpec}
use Rattle.schema_core.specs.Catalog.{Catalog, key_columns, kind_of, same_kind, spec_of}
use Rattle.schema_core.specs.Tables.{fits, has_null, is_null, key_cells}
use Rattle.schema_core.specs.WellFormed.{may_hold}
use Rattle.sql_semantics.proofs.Typed.{same_kind_is}
use Rattle.class_mapping.specs.Mapped.{Mapped}
use Rattle.object_arena.specs.Graph.{Graph}
use Rattle.flush_order.specs.Cells.{first_cells, is_late, key_parts, known_row, known_value, new_at, no_row, part_at, table_at}
use Rattle.session_laws.proofs.Plans.Facts.{or_false}
use Rattle.session_laws.proofs.Plans.Items.{all_at}
use Rattle.session_laws.proofs.Graphs.Named.{opposite}
use Rattle.row_partners.specs.Partners.{known_key}
use Rattle.row_switches.specs.Switch.{cell_after_switch, changes_by, key_cell, numbers_from, row_staying}
use Rattle.session_laws.specs.Sendable.{IsFitNew, cell_fits, takes_part}
use Rattle.session_laws.proofs.Sendable.Inserting.{cleared_fit}

-- ---- values of columns of one kind

also_held : (column part : ColumnSpec) (value : Value) → same_kind (kind_of column.kind) (kind_of part.kind) ≡ true → may_hold part value ≡ true → may_hold column value ≡ true
also_held column part Null alike h = refl
also_held column part (BoolValue b) alike h = ap (λ k. same_kind k kinds.Boolean) (same_kind_is (kind_of column.kind) (kind_of part.kind) alike) ∙ h
also_held column part (Int n) alike h = ap (λ k. same_kind k kinds.Integer) (same_kind_is (kind_of column.kind) (kind_of part.kind) alike) ∙ h
also_held column part (Text t) alike h = ap (λ k. same_kind k kinds.Text) (same_kind_is (kind_of column.kind) (kind_of part.kind) alike) ∙ h
also_held column part (Bytes b) alike h = ap (λ k. same_kind k kinds.Bytes) (same_kind_is (kind_of column.kind) (kind_of part.kind) alike) ∙ h

held_fits : (column : ColumnSpec) (value : Value) → is_null value ≡ false → may_hold column value ≡ true → fits column value ≡ true
held_fits column Null some h = absurd cc
held_fits column (BoolValue b) some h = h
held_fits column (Int n) some h = h
held_fits column (Text t) some h = h
held_fits column (Bytes b) some h = h

-- values without a NULL that key columns may hold are a key
pub all_fit : (columns : List ColumnSpec) (key : List Value) → pointwise may_hold columns key ≡ true → has_null key ≡ false → pointwise fits columns key ≡ true
all_fit [] [] h some = refl
all_fit [] (value ∷ key) h some = absurd cc
all_fit (column ∷ columns) [] h some = absurd cc
all_fit (column ∷ columns) (value ∷ key) h some =
    let both = and_parts (may_hold column value) (pointwise may_hold columns key) h in
    let none = or_false (is_null value) (has_null key) some in
    and_from (fits column value) (pointwise fits columns key) (held_fits column value none.0 both.0) (all_fit columns key both.1 none.1)

-- what holds opposite to all columns holds opposite to those of the key
key_opposite : {A : Type 0} (test : ColumnSpec → A → Bool) (columns : List ColumnSpec) (xs : List A) → pointwise test columns xs ≡ true → pointwise test (filter (λ (c : ColumnSpec). c.key) columns) (key_parts columns xs) ≡ true
key_opposite test [] [] h = refl
key_opposite test [] (x ∷ xs) h = absurd cc
key_opposite test (column ∷ columns) [] h = absurd cc
key_opposite test (column ∷ columns) (x ∷ xs) h =
    let both = and_parts (test column x) (pointwise test columns xs) h in
    by column.key both.0 (key_opposite test columns xs both.1)
  where
    by : (b : Bool) → test column x ≡ true → pointwise test (filter (λ (c : ColumnSpec). c.key) columns) (key_parts columns xs) ≡ true
        → pointwise test (cond b (column ∷ filter (λ (c : ColumnSpec). c.key) columns) (filter (λ (c : ColumnSpec). c.key) columns)) (cond b (x ∷ key_parts columns xs) (key_parts columns xs)) ≡ true
    by true here rest = and_from (test column x) (pointwise test (filter (λ (c : ColumnSpec). c.key) columns) (key_parts columns xs)) here rest
    by false here rest = rest

as_parts : (columns : List ColumnSpec) (row : List Value) → key_cells columns row ≡ key_parts columns row
as_parts [] row = refl
as_parts (column ∷ columns) [] = refl
as_parts (column ∷ columns) (value ∷ row) = ap (λ (rest : List Value). cond column.key (value ∷ rest) rest) (as_parts columns row)

module _ (mapped : Mapped) (graph : Graph) (changes : RowChanges) (fresh : AllByRecursion (IsFitNew mapped.schema changes) changes.fresh) where
  abbrev schema : Catalog
  schema = mapped.schema

  abbrev columns_of : ℕ → List ColumnSpec
  columns_of place = (spec_of schema (table_at changes place)).columns

  cells_fit : (place : ℕ) → place < length changes.fresh → pointwise (cell_fits schema changes) (columns_of place) (first_cells schema changes place) ≡ true
  cells_fit place less = cleared_fit schema changes (is_late schema changes (table_at changes place)) (columns_of place) (new_at changes place).cells (all_at (IsFitNew schema changes) changes.fresh place no_row fresh less).1

  below : (a b : ℕ) → nat_lt a b ≡ true → a < b
  below a b h = grind (arith, nat_tests)

  -- ---- what is known of a new row

  -- what is known of a cell may be held
  known_held : (steps : ℕ) (column : ColumnSpec) (cell : RowCell) → cell_fits schema changes column cell ≡ true → may_hold column (known_value schema changes steps cell) ≡ true
  known_held steps column (Given value) fit = fit
  known_held zero column (KeyOf place part) fit = refl
  known_held (suc steps) column (KeyOf place part) fit =
      let both = and_parts (nat_lt place (length changes.fresh)) (takes_part column (slice_get (key_columns (spec_of schema (table_at changes place))) part)) fit in
      by (slice_get (key_columns (spec_of schema (table_at changes place))) part) refl both.1 (below place (length changes.fresh) both.0) (λ own cell fits. known_held steps own cell fits)
    where
      by : (found : Option ColumnSpec) → slice_get (key_columns (spec_of schema (table_at changes place))) part ≡ found → takes_part column found ≡ true → place < length changes.fresh
          → ((own : ColumnSpec) (cell : RowCell) → cell_fits schema changes own cell ≡ true → may_hold own (known_value schema changes steps cell) ≡ true) → may_hold column (known_value schema changes steps (part_at schema changes place part)) ≡ true
      by None at takes less again = absurd cc
      by (Some own) at takes less again =
          let parts : List RowCell = key_parts (columns_of place) (first_cells schema changes place) in
          let found = opposite (cell_fits schema changes) (key_columns (spec_of schema (table_at changes place))) parts part own (key_opposite (cell_fits schema changes) (columns_of place) (first_cells schema changes place) (cells_fit place less)) at in
          let is : part_at schema changes place part ≡ found.0 = get_or_from_slice_get parts part found.0 (Given Null) found.1 in
          also_held column own (known_value schema changes steps (part_at schema changes place part)) takes (ap (λ (c : RowCell). may_hold own (known_value schema changes steps c)) is ∙ again own found.0 found.2)

  row_held : (columns : List ColumnSpec) (cells : List RowCell) → pointwise (cell_fits schema changes) columns cells ≡ true → pointwise may_hold columns (map (known_value schema changes (length changes.fresh)) cells) ≡ true
  row_held [] [] fit = refl
  row_held [] (cell ∷ cells) fit = absurd cc
  row_held (column ∷ columns) [] fit = absurd cc
  row_held (column ∷ columns) (cell ∷ cells) fit =
      let both = and_parts (cell_fits schema changes column cell) (pointwise (cell_fits schema changes) columns cells) fit in
      and_from (may_hold column (known_value schema changes (length changes.fresh) cell)) (pointwise may_hold columns (map (known_value schema changes (length changes.fresh)) cells)) (known_held (length changes.fresh) column cell both.0) (row_held columns cells both.1)

  pub key_held : (place : ℕ) → place < length changes.fresh → pointwise may_hold (key_columns (spec_of schema (table_at changes place))) (known_key schema changes place) ≡ true
  key_held place less =
      ap (pointwise may_hold (key_columns (spec_of schema (table_at changes place)))) (as_parts (columns_of place) (known_row schema changes place))
      ∙ key_opposite may_hold (columns_of place) (known_row schema changes place) (row_held (columns_of place) (first_cells schema changes place) (cells_fit place less))

  -- ---- where a row stands that stays

  module _ (found : List (Option ℕ)) (sized : length found ≡ length changes.fresh) where
    abbrev final : RowChanges
    final = changes_by mapped graph changes found

    abbrev stays : ℕ → List NewRow → List NewRow
    stays n rows = filter_map (row_staying schema changes found) (enumerate_from n rows)

    record StandsAt (n count number : ℕ) (rows : List NewRow) (row : NewRow) : Type 0 where
      behind : ℕ
      is : number ≡ count + behind
      less : behind < length (stays n rows)
      table : (get_or (stays n rows) behind no_row).name.table ≡ row.name.table

    one_stays : (n : ℕ) (row : NewRow) (b : Option ℕ) → slice_index_or found n None ≡ b → row_staying schema changes found (n, row) ≡ cond (is_some b) None (Some (record { name = row.name; cells = map (cell_after_switch schema changes found) row.cells }))
    one_stays n row b is = ap (λ (o : Option ℕ). cond (is_some o) None (Some (record { name = row.name; cells = map (cell_after_switch schema changes found) row.cells }))) is

    stands : (own : List (Option ℕ)) (rows : List NewRow) (n count i default : ℕ) → length own ≡ length rows → ((k : ℕ) → slice_index_or found (n + k) None ≡ slice_index_or own k None) → i < length rows → slice_index_or own i None ≡ None
        → StandsAt n count (slice_index_or (numbers_from count own) i default) rows (get_or rows i no_row)
    stands own [] n count i default long same less none = absurd (omega (arith, less))
    stands [] (row ∷ rows) n count i default long same less none = absurd (omega (arith, long))
    stands (Some gone ∷ own) (row ∷ rows) n count zero default long same less none = absurd cc
    stands (None ∷ own) (row ∷ rows) n count zero default long same less none =
        let here : slice_index_or found n None ≡ None = ap (λ (k : ℕ). slice_index_or found k None) (let e : n ≡ n + 0 = omega arith in e) ∙ same 0 in
        let list : stays n (row ∷ rows) ≡ record { name = row.name; cells = map (cell_after_switch schema changes found) row.cells } ∷ stays (n + 1) rows = ap (λ (o : Option NewRow). cons_option o (stays (n + 1) rows)) (one_stays n row None here) in
        record {
          behind = 0;
          is = omega arith;
          less = subst (λ (all : List NewRow). 0 < length all) (sym list) (omega arith);
          table = ap (λ (all : List NewRow). (get_or all 0 no_row).name.table) list;
        }
    stands (partner ∷ own) (row ∷ rows) n count (suc i) default long same less none =
        let here : slice_index_or found n None ≡ partner = ap (λ (k : ℕ). slice_index_or found k None) (let e : n ≡ n + 0 = omega arith in e) ∙ same 0 in
        let next : (k : ℕ) → slice_index_or found (n + 1 + k) None ≡ slice_index_or own k None = λ k. ap (λ (j : ℕ). slice_index_or found j None) (let e : n + 1 + k ≡ n + suc k = omega arith in e) ∙ same (suc k) in
        let less_one : i < length rows = omega (arith, less) in
        let long_one : length own ≡ length rows = omega (arith, long) in
        by partner (ap (λ (o : Option NewRow). cons_option o (stays (n + 1) rows)) (one_stays n row partner here)) (λ more. stands own rows (n + 1) more i default long_one next less_one none)
      where
        by : (partner : Option ℕ) → stays n (row ∷ rows) ≡ cons_option (cond (is_some partner) None (Some (record { name = row.name; cells = map (cell_after_switch schema changes found) row.cells }))) (stays (n + 1) rows)
            → ((more : ℕ) → StandsAt (n + 1) more (slice_index_or (numbers_from more own) i default) rows (get_or rows i no_row))
            → StandsAt n count (slice_index_or (numbers_from count (partner ∷ own)) (suc i) default) (row ∷ rows) (get_or rows i no_row)
        by (Some gone) list again =
            let rest = again count in
            record { behind = rest.behind; is = rest.is; less = subst (λ (all : List NewRow). rest.behind < length all) (sym list) rest.less; table = ap (λ (all : List NewRow). (get_or all rest.behind no_row).name.table) list ∙ rest.table }
        by None list again =
            let rest = again (count + 1) in
            record {
              behind = suc rest.behind;
              is = omega (arith, rest.is);
              less = subst (λ (all : List NewRow). suc rest.behind < length all) (sym list) (omega (arith, rest.less));
              table = ap (λ (all : List NewRow). (get_or all (suc rest.behind) no_row).name.table) list ∙ rest.table;
            }

    abbrev number : ℕ → ℕ
    number place = slice_index_or (numbers_from 0 found) place place

    -- ---- cells behind the switches

    after_by : (column : ColumnSpec) (place part : ℕ) (partner : Option ℕ) → slice_index_or found place None ≡ partner → cell_fits schema changes column (KeyOf place part) ≡ true → cell_fits schema final column (key_cell schema changes found place part partner) ≡ true
    after_by column place part (Some gone) is fit =
        let both = and_parts (nat_lt place (length changes.fresh)) (takes_part column (slice_get (key_columns (spec_of schema (table_at changes place))) part)) fit in
        by (slice_get (key_columns (spec_of schema (table_at changes place))) part) refl both.1 (below place (length changes.fresh) both.0)
      where
        by : (own : Option ColumnSpec) → slice_get (key_columns (spec_of schema (table_at changes place))) part ≡ own → takes_part column own ≡ true → place < length changes.fresh → may_hold column (slice_index_or (known_key schema changes place) part Null) ≡ true
        by None at takes less = absurd cc
        by (Some own) at takes less =
            let value = opposite may_hold (key_columns (spec_of schema (table_at changes place))) (known_key schema changes place) part own (key_held place less) at in
            ap (may_hold column) (get_or_from_slice_get (known_key schema changes place) part value.0 Null value.1) ∙ also_held column own value.0 takes value.2
    after_by column place part None is fit =
        let both = and_parts (nat_lt place (length changes.fresh)) (takes_part column (slice_get (key_columns (spec_of schema (table_at changes place))) part)) fit in
        let at = stands found changes.fresh 0 0 place place sized (λ k. ap (λ (j : ℕ). slice_index_or found j None) (zero-add k)) (below place (length changes.fresh) both.0) is in
        let same : number place ≡ at.behind = at.is ∙ zero-add at.behind in
        let behind : at.behind < length final.fresh = at.less in
        let less : number place < length final.fresh = subst (λ (k : ℕ). k < length final.fresh) (sym same) behind in
        let table : table_at final (number place) ≡ table_at changes place = ap (table_at final) same ∙ at.table in
        let first : nat_lt (number place) (length final.fresh) ≡ true = grind (arith, nat_tests) in
        and_from (nat_lt (number place) (length final.fresh)) (takes_part column (slice_get (key_columns (spec_of schema (table_at final (number place)))) part)) first
        (ap (λ (t : TableId). takes_part column (slice_get (key_columns (spec_of schema t)) part)) table ∙ both.1)

    pub after_fits : (column : ColumnSpec) (cell : RowCell) → cell_fits schema changes column cell ≡ true → cell_fits schema final column (cell_after_switch schema changes found cell) ≡ true
    after_fits column (Given value) fit = fit
    after_fits column (KeyOf place part) fit = after_by column place part (slice_index_or found place None) refl fit

    pub cells_after : (columns : List ColumnSpec) (cells : List RowCell) → pointwise (cell_fits schema changes) columns cells ≡ true → pointwise (cell_fits schema final) columns (map (cell_after_switch schema changes found) cells) ≡ true
    cells_after [] [] fit = refl
    cells_after [] (cell ∷ cells) fit = absurd cc
    cells_after (column ∷ columns) [] fit = absurd cc
    cells_after (column ∷ columns) (cell ∷ cells) fit =
        let both = and_parts (cell_fits schema changes column cell) (pointwise (cell_fits schema changes) columns cells) fit in
        and_from (cell_fits schema final column (cell_after_switch schema changes found cell)) (pointwise (cell_fits schema final) columns (map (cell_after_switch schema changes found) cells)) (after_fits column cell both.0) (cells_after columns cells both.1)
