-- Rows of sources of which the first are a row of each table of a class, all under the key of a row of the class.
use Rattle.std.proofs.Common.{◌≡◌, inl, inr, ℕ, zero, suc, ◌+◌, ◌<◌, Bool, true, false, not, ◌||◌, List, [], ◌∷◌, ◌++◌, filter, length, map, Option, None, Some, refl, sym, ap, subst, ◌∙◌, arith}
use Rattle.std.specs.Prelude.{slice_get}
use Rattle.std.specs.Cmp.Lexicographic.{pointwise}
use Rattle.std.specs.List.{AllByRecursion, enumerate_from}
use Rattle.std.proofs.lemmas.Bool.{and_parts}
use Rattle.std.proofs.lemmas.List.{length-map}
use Rattle.std.proofs.lemmas.Option.{same_Some, slice_get_within}
use Rattle.base_core.specs.declared.ids.ClassId.{ClassId}
use Rattle.base_core.specs.declared.ids.ColumnNo.{ColumnNo}
use Rattle.base_core.specs.declared.ids.TableId.{TableId}
use Rattle.base_core.specs.declared.value.Value.{Value}
use Rattle.base_core.specs.declared.value.Value.TheVariants as value
use Rattle.schema_core.specs.declared.table.ColumnSpec.{ColumnSpec}
use Rattle.schema_core.specs.Catalog.{spec_of}
use Rattle.schema_core.specs.Tables.{fits, has_null, is_legal_row, is_null}
use Rattle.expr_types.specs.declared.expr.Origin.{Origin}
use Rattle.sql_semantics.specs.Eval.{Row, Tables, item_or_null, rows_in}
use Rattle.sql_semantics.specs.Shapes.{AreLegalRows}
use Rattle.class_types.specs.declared.mapped.Relation.{Relation}
use Rattle.class_sides.specs.Keys.{TableKey}
use Rattle.class_layouts.specs.Columns.{columns_in}
use Rattle.class_mapping.specs.Mapped.{IsClass, Mapped, table_or_none, tables_of}
use Rattle.class_mapping.specs.Paired.{is_at_or_under}
use Rattle.class_mapping.specs.Related.{IsRelated, many_side}
use Rattle.class_mapping.proofs.Having.{Has, from_filter, from_map, from_numbered}
use Rattle.mapping_laws.specs.Hierarchies.{HasHierarchies, HasTables}
use Rattle.load_columns.specs.declared.placing.SourceColumn.{SourceColumn}
use Rattle.load_columns.specs.Placing.{attribute_columns, columns_at, from_root, key_numbers, number_at, place_at_rank, place_of_table, rank_of, referred_table}
use Rattle.load_selects.specs.Sources.{referred_place}
use Rattle.load_filling.specs.Rows.{row_key}
use Rattle.collection_selects.proofs.ClassLemmas.{rank_is}
use Rattle.collection_selects.proofs.MemberLemmas.{RefersTo, referred_is}
use Rattle.collection_selects.proofs.Placed.{StandsAt, attributes_there, rank_finds}
use Rattle.collection_selects.proofs.Plain.{IsColumn}
use Rattle.loading_laws.proofs.MainSelects.Referring.{tables_under}
use Rattle.joined_rows.proofs.Widening.{table_of}
use Rattle.loading_laws.proofs.Members.Choices.{Choice, chosen, row_of_table}
use Rattle.loading_laws.proofs.Members.Owned.{lead_key, numbers_chosen}
use Rattle.loading_laws.proofs.Members.Ranks.{AreRanked, key_in}
use Rattle.loading_laws.specs.Wide.Parts.{cell}
use Rattle.loading_laws.specs.Wide.Answers.{AreWideIn}
use Rattle.loading_laws.proofs.Wide.Places.{wide_long}
use Rattle.loading_laws.specs.TiedRows.{KeyReader, ReadsKeys, foreign_columns}
use Rattle.loading_laws.proofs.TiedRows.Behind.{AreAlike, cell_chosen, cells_chosen, first_alike, inside_alike, row_at}

-- ---- keys of legal rows

none_null : {A : Type 0} (f : A → Value) (xs : List A) → ((x : A) → Has xs x → is_null (f x) ≡ false) → has_null (map f xs) ≡ false
none_null f [] known = refl
none_null f (x ∷ xs) known = ap (λ (b : Bool). b || has_null (map f xs)) (known x (inl refl)) ∙ none_null f xs (λ y there. known y (inr there))

-- each cell of a row that fits its columns fits its own
pub cell_fits : (columns : List ColumnSpec) (row : Row) (i : ℕ) (column : ColumnSpec) → pointwise fits columns row ≡ true → slice_get columns i ≡ Some column → (v : Value) × (slice_get row i ≡ Some v) × (fits column v ≡ true)
cell_fits [] row i column h at = absurd cc
cell_fits (first ∷ columns) [] i column h at = absurd cc
cell_fits (first ∷ columns) (v ∷ row) zero column h at =
    (v, refl, ap (λ (one : ColumnSpec). fits one v) (sym (same_Some first column at)) ∙ (and_parts (fits first v) (pointwise fits columns row) h).0)
cell_fits (first ∷ columns) (v ∷ row) (suc i) column h at = cell_fits columns row i column (and_parts (fits first v) (pointwise fits columns row) h).1 at

key_fits_value : (column : ColumnSpec) (v : Value) → column.key ≡ true → fits column v ≡ true → is_null v ≡ false
key_fits_value column value.Null key h = never column.not_null (sym (ap (λ (b : Bool). not (column.not_null || b)) key) ∙ h)
  where
    never : (b : Bool) → not (b || true) ≡ true → is_null value.Null ≡ false
    never true e = absurd cc
    never false e = absurd cc
key_fits_value column (value.Bool b) key h = refl
key_fits_value column (value.Int n) key h = refl
key_fits_value column (value.Text t) key h = refl
key_fits_value column (value.Bytes t) key h = refl

module _ (mapped : Mapped) (tables : Tables) (legal : AreLegalRows mapped.schema tables) where
  -- a row of a table has no NULL in its key
  pub legal_key : (table : TableId) (row : Row) → Has (rows_in tables table.0) row → has_null (map (λ (number : ColumnNo). item_or_null (slice_get row number.0)) (key_numbers mapped table)) ≡ false
  legal_key table row there =
      let columns : List ColumnSpec = (spec_of mapped.schema table).columns in
      let fit : pointwise fits columns row ≡ true = row_of_table mapped.schema tables is_legal_row tables table row legal there in
      none_null (λ (number : ColumnNo). item_or_null (slice_get row number.0)) (key_numbers mapped table)
      (λ number among.
      let from = from_map number_at (filter (λ (placed : ℕ × ColumnSpec). placed.1.key) (enumerate_from 0 (columns_in mapped.schema.tables table))) number among in
      let kept = from_filter (λ (placed : ℕ × ColumnSpec). placed.1.key) (enumerate_from 0 (columns_in mapped.schema.tables table)) from.0 from.1 in
      let numbered = from_numbered 0 (columns_in mapped.schema.tables table) from.0 kept.0 in
      let found = cell_fits columns row numbered.0 from.0.1 fit numbered.2 in
      let place : numbered.0 ≡ from.0.0 = let e = numbered.1 in omega (arith, e) in
      let is : item_or_null (slice_get row number.0) ≡ found.0 =
      ap (λ (one : ColumnNo). item_or_null (slice_get row one.0)) (sym from.2) ∙ ap (λ (k : ℕ). item_or_null (slice_get row k)) (sym place) ∙ ap item_or_null found.1 in
      ap is_null is ∙ key_fits_value from.0.1 found.0 kept.1 found.2)

  -- so has the row of a rank
  pub legal_rank : (class : ClassId) (ranks : Choice) (rank : ℕ) (table : TableId) → slice_get (tables_of mapped class) rank ≡ Some table → Has (rows_in tables table.0) (ranks rank) → has_null (key_in mapped class ranks rank) ≡ false
  legal_rank class ranks rank table here there =
      ap (λ (found : Option TableId). has_null (map (λ (number : ColumnNo). item_or_null (slice_get (ranks rank) number.0)) (key_numbers mapped (table_or_none found)))) here ∙ legal_key table (ranks rank) there

-- ---- owners

-- rows of sources of which the first are a row of each table of the class, all under the key of a row of the class
pub record IsOwner (mapped : Mapped) (class : ClassId) (first : List Origin) (tables : Tables) (own : Row) (rows : List Row) : Type 0 where
  pub wide : AreWideIn mapped.schema (map table_of first) rows
  pub reads : map (cell rows) (attribute_columns mapped class (from_root 0)) ≡ own
  pub ranked : AreRanked mapped class tables (row_at rows) (row_key mapped class own)
  pub given : has_null (row_key mapped class own) ≡ false

-- a class whose tables stand first among sources
pub record StandsFirst (mapped : Mapped) (class : ClassId) (first : List Origin) : Type 0 where
  pub has : HasHierarchies mapped
  pub is : IsClass mapped class
  pub known : HasTables mapped class
  pub stands : StandsAt mapped class (from_root 0) first

module _ (mapped : Mapped) (class : ClassId) (first : List Origin) (at_first : StandsFirst mapped class first) where
  -- a rank has its row among these
  rank_below : (rank : ℕ) (table : TableId) → slice_get (tables_of mapped class) rank ≡ Some table → rank < length first
  rank_below rank table here =
      let within = slice_get_within (map table_of first) (place_at_rank (from_root 0) rank) table (at_first.stands rank table here) in
      let place = rank_is rank in
      let long = length-map first table_of in
      omega (arith, within, place, long)

  columns_inside : (columns : List SourceColumn) (rows now : List Row) → AreWideIn mapped.schema (map table_of first) rows → AllByRecursion (IsColumn mapped.schema first) columns → map (cell (rows ++ now)) columns ≡ map (cell rows) columns
  columns_inside [] rows now wide there = refl
  columns_inside (column ∷ columns) rows now wide there =
      let long = wide_long mapped.schema (map table_of first) rows wide in
      let one : cell (rows ++ now) column ≡ cell rows column =
      cell_chosen (rows ++ now) column
      ∙ inside_alike mapped.schema (map table_of first) (row_at (rows ++ now)) (row_at rows) (λ k less. first_alike rows now k (omega (arith, less, long))) column (there.0.1.spec, there.0.1.is)
      ∙ sym (cell_chosen rows column) in
      ap (λ (v : Value). v ∷ map (cell (rows ++ now)) columns) one ∙ ap (λ (vs : List Value). cell rows column ∷ vs) (columns_inside columns rows now wide there.1)

  -- further rows behind them leave an owner what it is
  pub owner_more : (tables : Tables) (own : Row) (rows now : List Row) (more : List Origin) → IsOwner mapped class first tables own rows → AreWideIn mapped.schema (map table_of (first ++ more)) (rows ++ now) → IsOwner mapped class (first ++ more) tables own (rows ++ now)
  owner_more tables own rows now more owner wide =
      let long = wide_long mapped.schema (map table_of first) rows owner.wide in
      let counted = length-map first table_of in
      let key_of : Row → ℕ → List Value = λ row rank. key_in mapped class (λ k. row) rank in
      record {
        wide = wide;
        reads = columns_inside (attribute_columns mapped class (from_root 0)) rows now owner.wide (attributes_there mapped class at_first.has at_first.is at_first.known (from_root 0) first at_first.stands) ∙ owner.reads;
        ranked = record {
          rows = λ rank table here.
              let below = rank_below rank table here in
              subst (Has (rows_in tables table.0)) (sym (first_alike rows now rank (omega (arith, below, long, counted)))) (owner.ranked.rows rank table here);
          keys = λ rank table here.
              let below = rank_below rank table here in
              ap (λ (row : Row). key_of row rank) (first_alike rows now rank (omega (arith, below, long, counted))) ∙ owner.ranked.keys rank table here;
        };
        given = owner.given;
      }

  -- ---- what an owner's rows have in the columns of foreign keys

  module _ (tables : Tables) (own : Row) (rows : List Row) (owner : IsOwner mapped class first tables own rows) (above : ClassId) (under : is_at_or_under mapped class above ≡ true) (choice : Choice) (alike : AreAlike (length rows) choice (row_at rows)) where
    row_below : (rank : ℕ) (table : TableId) → slice_get (tables_of mapped class) rank ≡ Some table → rank < length rows
    row_below rank table here =
        let long = wide_long mapped.schema (map table_of first) rows owner.wide in
        let counted = length-map first table_of in
        let below = rank_below rank table here in
        omega (arith, below, long, counted)

    -- the key to which a foreign key refers is the row's
    pub owner_key : (key : TableKey) → RefersTo mapped key above → map (chosen choice) (columns_at (referred_place mapped class (from_root 0) key) (key_numbers mapped (referred_table mapped key))) ≡ row_key mapped class own
    unfolding referred_place
    owner_key key to =
        let table : TableId = referred_table mapped key in
        let rank : ℕ = rank_of mapped class table in
        let there : Has (tables_of mapped class) table = subst (Has (tables_of mapped class)) (sym (referred_is mapped key above to)) (tables_under mapped class above to.table at_first.has under to.inside) in
        let here : slice_get (tables_of mapped class) rank ≡ Some table = rank_finds (tables_of mapped class) table there in
        lead_key mapped class rank table here choice (row_at rows) (place_of_table mapped class (from_root 0) table) (ap choice (rank_is rank) ∙ alike rank (row_below rank table here)) ∙ owner.ranked.keys rank table here

    -- and the foreign key of a table of the class is what is read of the row
    pub owner_foreign : (read : KeyReader) → ReadsKeys mapped read → (relation : Relation) → IsRelated mapped relation → many_side relation ≡ above → relation.far ≡ None → Has (tables_of mapped above) relation.foreign.0
        → map (chosen choice) (foreign_columns mapped class relation) ≡ read class relation own
    owner_foreign read reads relation related many near inside =
        let table : TableId = relation.foreign.0 in
        let rank : ℕ = rank_of mapped class table in
        let here : slice_get (tables_of mapped class) rank ≡ Some table = rank_finds (tables_of mapped class) table (tables_under mapped class above table at_first.has under inside) in
        let place : ℕ = place_of_table mapped class (from_root 0) table in
        let same : choice place ≡ row_at rows place = ap choice (rank_is rank) ∙ alike rank (row_below rank table here) ∙ ap (row_at rows) (sym (rank_is rank)) in
        numbers_chosen choice place (row_at rows place) _ same ∙ sym (numbers_chosen (row_at rows) place (row_at rows place) _ refl)
        ∙ sym (cells_chosen rows (foreign_columns mapped class relation))
        ∙ sym (reads class relation (cell rows) at_first.is related (ap (is_at_or_under mapped class) many ∙ under) near) ∙ ap (read class relation) owner.reads
