-- A row of each table of a class, all under one key, in legal tables: what they have in the columns of the class's attributes.
use Rattle.std.proofs.Common.{◌≡◌, ℕ, ◌+◌, ◌≤◌, ◌==◌, Bool, true, false, ◌&&◌, cond, List, [], ◌∷◌, ◌++◌, filter, get_or, length, map, nat_lt, Option, None, Some, refl, sym, ap, subst, ◌∙◌, arith}
use Rattle.std.specs.Prelude.{slice_get}
use Rattle.std.specs.Cmp.Lexicographic.{pointwise}
use Rattle.std.specs.List.{enumerate_from, position, position_or_len}
use Rattle.std.specs.Option.{option_and_then}
use Rattle.std.proofs.lemmas.Bool.{and_parts, eqb-true, ltb-true}
use Rattle.std.proofs.lemmas.List.{length-append, length-map}
use Rattle.std.proofs.lemmas.List.Folds.{find_at}
use Rattle.std.proofs.lemmas.Option.{same_Some, slice_get-get_or, slice_get_within}
use Rattle.base_core.specs.declared.ids.ClassId.{ClassId}
use Rattle.base_core.specs.declared.ids.ColumnNo.{ColumnNo}
use Rattle.base_core.specs.declared.ids.TableId.{TableId}
use Rattle.base_core.specs.declared.value.Kind.{Kind}
use Rattle.base_core.specs.declared.value.Value.{Value}
use Rattle.base_core.proofs.Lists.{get_before}
use Rattle.schema_core.specs.declared.table.ColumnSpec.{ColumnSpec}
use Rattle.schema_core.specs.Catalog.{kind_of, same_kind, spec_of}
use Rattle.schema_core.specs.Tables as held
use Rattle.schema_core.specs.Tables.{fits, fits_kind, is_legal_row, key_cells, kind_of_value}
use Rattle.schema_core.specs.WellFormed.{is_key}
use Rattle.sql_semantics.specs.Created.{bare}
use Rattle.sql_semantics.specs.Eval.{Row, Tables, item_or_null, rows_in}
use Rattle.sql_semantics.specs.Shapes.{AreLegalRows, AreRows}
use Rattle.class_types.specs.declared.mapped.Attribute.{Attribute}
use Rattle.class_mapping.specs.Mapped.{IsClass, Mapped, attributes_of, root_spec, root_table, table_or_none, tables_of}
use Rattle.class_mapping.proofs.Having.{Has, has_at}
use Rattle.mapping_laws.specs.Hierarchies.{HasHierarchies, HasTables}
use Rattle.mapping_laws.proofs.Attributes.{IsOfKind, attribute_kind}
use Rattle.mapping_laws.proofs.KeyKinds.{keys_alike}
use Rattle.mapping_laws.proofs.Ties.{class_tables}
use Rattle.object_arena.specs.Fit.{is_of_kind, value_fits}
use Rattle.load_columns.specs.Placing.{attribute_column, attribute_columns, from_root, number_at, rank_of}
use Rattle.load_selects.specs.Branches.{discriminator_of}
use Rattle.load_filling.specs.Rows.{class_named, row_key}
use Rattle.load_rows.specs.Loading.{is_same_column}
use Rattle.load_rows.specs.Reading.{IsRowOf}
use Rattle.collection_selects.proofs.Rows.{named_fits}
use Rattle.joined_rows.specs.Parts.{width_of}
use Rattle.table_laws.proofs.HeldRows.{fitting_rows, legal_rows}
use Rattle.table_laws.specs.Legality.{AreSound}
use Rattle.loading_laws.specs.Loaders.OwnRows.{key_in_table}
use Rattle.loading_laws.specs.Loading.Loadable.{row_of_key}
use Rattle.loading_laws.proofs.Answers.Totals.{map_twice}
use Rattle.loading_laws.proofs.Loading.Fresh.{attribute_value, find_passes}
use Rattle.loading_laws.proofs.Loading.RowKeys.{row_found}
use Rattle.loading_laws.proofs.Members.Choices.{Choice, chosen, row_of_table, wide_row}
use Rattle.loading_laws.proofs.Members.Owned.{attribute_ranked, root_there, row_key_is}
use Rattle.loading_laws.proofs.Members.Ranks.{AreRanked}
use Rattle.loading_laws.proofs.TiedRows.Options.{row_key_first}
use Rattle.loading_laws.proofs.TiedRows.Owners.{cell_fits}
use Rattle.loading_laws.proofs.ToOne.One.{key_numbered}
use Rattle.load_steps.specs.Based.{IsOfTables, IsRowOfTables, held_under}

-- ---- places

-- what stands at the place that is found passes
pub placed : {A : Type 0} (test : A → Bool) (xs : List A) (i : ℕ) (d : A) → position test xs ≡ Some i → (x : A) × (slice_get xs i ≡ Some x) × (test x ≡ true)
placed {A = A} test xs i d is = by (nat_lt n (length xs)) refl is
  where
    n : ℕ
    n = position_or_len test xs

    by : (b : Bool) → nat_lt n (length xs) ≡ b → cond b (Some n) None ≡ Some i → (x : A) × (slice_get xs i ≡ Some x) × (test x ≡ true)
    by false less e = absurd cc
    by true less e =
        let same : n ≡ i = same_Some n i e in
        let x : A = get_or xs n d in
        let here : slice_get xs n ≡ Some x = slice_get-get_or xs n d (ltb-true n (length xs) less) in
        (x, ap (slice_get xs) (sym same) ∙ here, find_passes test xs x (find_at test xs ∙ here))

-- ---- values that fit

-- the cells of the key of a legal row are a key
legal_key : (columns : List ColumnSpec) (row : Row) → pointwise fits columns row ≡ true → pointwise fits (filter (λ (column : ColumnSpec). column.key) columns) (key_cells columns row) ≡ true
legal_key [] [] h = refl
legal_key [] (v ∷ row) h = absurd cc
legal_key (column ∷ columns) [] h = absurd cc
legal_key (column ∷ columns) (v ∷ row) h =
    let both = and_parts (fits column v) (pointwise fits columns row) h in by column.key both.0 (legal_key columns row both.1)
  where
    by : (b : Bool) → fits column v ≡ true → pointwise fits (filter (λ (one : ColumnSpec). one.key) columns) (key_cells columns row) ≡ true
        → pointwise fits (cond b (column ∷ filter (λ (one : ColumnSpec). one.key) columns) (filter (λ (one : ColumnSpec). one.key) columns)) (cond b (v ∷ key_cells columns row) (key_cells columns row)) ≡ true
    by true first rest = ap (λ (b : Bool). b && pointwise fits (filter (λ (one : ColumnSpec). one.key) columns) (key_cells columns row)) first ∙ rest
    by false first rest = rest

-- a value that fits a column is NULL or of its kind
of_its_kind : (column : ColumnSpec) (kind : Kind) (found : Option Kind) → kind_of column.kind ≡ kind → fits_kind column found ≡ true → is_of_kind kind found ≡ true
of_its_kind column kind None is h = refl
of_its_kind column kind (Some one) is h = ap (λ (k : Kind). same_kind k one) (sym is) ∙ h

module _ (mapped : Mapped) (tables : held.Tables) (sound : AreSound mapped.schema tables) where
  pub held_rows : AreRows mapped.schema (bare tables)
  held_rows = fitting_rows mapped.schema tables sound.legal.cells

  pub all_legal : AreLegalRows mapped.schema (bare tables)
  all_legal = legal_rows mapped.schema tables sound.legal.cells

  -- a row of a table fits its columns
  row_fits : (table : TableId) (row : Row) → Has (rows_in (bare tables) table.0) row → pointwise fits (spec_of mapped.schema table).columns row ≡ true
  row_fits table row there = row_of_table mapped.schema (bare tables) is_legal_row (bare tables) table row all_legal there

  -- and has a key in those of its primary key
  key_there : (table : TableId) (row : Row) → Has (rows_in (bare tables) table.0) row → is_key (spec_of mapped.schema table) (key_in_table mapped table row) ≡ true
  key_there table row there =
      let columns : List ColumnSpec = (spec_of mapped.schema table).columns in
      ap (pointwise fits (filter (λ (column : ColumnSpec). column.key) columns))
      (map_twice (λ (number : ColumnNo). item_or_null (slice_get row number.0)) number_at (filter (λ (one : ℕ × ColumnSpec). one.1.key) (enumerate_from 0 columns))
      ∙ key_numbered columns row [] 0 refl (wide_row mapped.schema (bare tables) table row held_rows there))
      ∙ legal_key columns row (row_fits table row there)

  module _ (class : ClassId) (rows : Choice) (key : List Value) (ranked : AreRanked mapped class (bare tables) rows key) where
    abbrev own : List TableId
    own = tables_of mapped class

    abbrev column_value : Attribute → Value
    column_value attribute = item_or_null (slice_get (rows (rank_of mapped class attribute.table)) attribute.column.0)

    table_there : (attribute : Attribute) → Has (attributes_of mapped class) attribute → slice_get own (rank_of mapped class attribute.table) ≡ Some attribute.table
    table_there attribute there = attribute_ranked mapped class attribute.table attribute there refl

    -- what they have in the column of an attribute, which fits it
    cell_there : (attribute : Attribute) (there : Has (attributes_of mapped class) attribute)
        → (v : Value) × (slice_get (rows (rank_of mapped class attribute.table)) attribute.column.0 ≡ Some v) × (fits (attribute_kind mapped class attribute there).column v ≡ true)
    cell_there attribute there =
        let rank : ℕ = rank_of mapped class attribute.table in
        let of : IsOfKind mapped attribute = attribute_kind mapped class attribute there in
        cell_fits (spec_of mapped.schema attribute.table).columns (rows rank) attribute.column.0 of.column (row_fits attribute.table (rows rank) (ranked.rows rank attribute.table (table_there attribute there))) of.there

    value_there : (attribute : Attribute) → Has (attributes_of mapped class) attribute → slice_get (rows (rank_of mapped class attribute.table)) attribute.column.0 ≡ Some (column_value attribute)
    value_there attribute there = let one = cell_there attribute there in one.1 ∙ sym (ap (λ (found : Option Value). Some (item_or_null found)) one.1)

    -- it stands under the key
    pub under_key : (attribute : Attribute) → Has (attributes_of mapped class) attribute → held_under tables attribute key ≡ Some (column_value attribute)
    under_key attribute there =
        let rank : ℕ = rank_of mapped class attribute.table in
        let here = table_there attribute there in
        let found : row_of_key tables attribute.table key ≡ Some (rows rank) =
        row_found mapped tables sound attribute.table (rows rank) key (ranked.rows rank attribute.table here)
        (ap (λ (found : Option TableId). key_in_table mapped (table_or_none found) (rows rank)) (sym here) ∙ ranked.keys rank attribute.table here) in
        ap (option_and_then (λ (row : Row). slice_get row attribute.column.0)) found ∙ value_there attribute there

    -- and it is NULL or of the attribute's kind
    pub value_kind : (attribute : Attribute) → Has (attributes_of mapped class) attribute → value_fits attribute (Some (column_value attribute)) ≡ true
    value_kind attribute there =
        let of : IsOfKind mapped attribute = attribute_kind mapped class attribute there in
        let one = cell_there attribute there in
        ap (λ (v : Value). value_fits attribute (Some v)) (ap item_or_null one.1) ∙ of_its_kind of.column attribute.kind (kind_of_value one.0) of.kind one.2

    -- the key is one of the class
    pub key_is_one : HasTables mapped class → is_key (root_spec mapped class) key ≡ true
    key_is_one known =
        let root : TableId = root_table mapped class in
        let here : slice_get own 0 ≡ Some root = root_there mapped class known in
        ap (is_key (root_spec mapped class))
        (sym (ranked.keys 0 root here) ∙ ap (λ (found : Option TableId). key_in_table mapped (table_or_none found) (rows 0)) here)
        ∙ key_there root (rows 0) (ranked.rows 0 root here)

-- ---- rows of a class

-- a row that begins with the values of a row of each table of the class, all under its key
pub record IsUnderKey (mapped : Mapped) (class : ClassId) (tables : Tables) (row : Row) : Type 0 where
  pub rows : Choice
  pub rest : Row
  pub ranked : AreRanked mapped class tables rows (row_key mapped class row)
  pub is : row ≡ map (chosen rows) (attribute_columns mapped class (from_root 0)) ++ rest

-- so does what a choice under one key has for the attributes, with whatever behind it
pub under_own : (mapped : Mapped) (class : ClassId) (tables : Tables) → HasHierarchies mapped → HasTables mapped class → (rows : Choice) (key : List Value) (rest : Row) → AreRanked mapped class tables rows key
    → IsUnderKey mapped class tables (map (chosen rows) (attribute_columns mapped class (from_root 0)) ++ rest)
under_own mapped class tables has known rows key rest ranked =
    let values : Row = map (chosen rows) (attribute_columns mapped class (from_root 0)) in
    let long : length values ≡ width_of mapped class =
    length-map (attribute_columns mapped class (from_root 0)) (chosen rows) ∙ length-map (attributes_of mapped class) (attribute_column mapped class (from_root 0)) in
    let same : row_key mapped class (values ++ rest) ≡ key =
    row_key_first mapped class values rest long ∙ row_key_is mapped class known has rows ∙ ranked.keys 0 (root_table mapped class) (root_there mapped class known) in
    record { rows = rows; rest = rest; ranked = subst (AreRanked mapped class tables rows) (sym same) ranked; is = refl }

module _ (mapped : Mapped) (tables : held.Tables) (sound : AreSound mapped.schema tables) (has : HasHierarchies mapped) (class : ClassId) (less : IsClass mapped class) (row : Row) (under : IsUnderKey mapped class (bare tables) row) where
  abbrev columns_own : List Value
  columns_own = map (chosen under.rows) (attribute_columns mapped class (from_root 0))

  columns_long : length columns_own ≡ length (attributes_of mapped class)
  columns_long = length-map (attribute_columns mapped class (from_root 0)) (chosen under.rows) ∙ length-map (attributes_of mapped class) (attribute_column mapped class (from_root 0))

  -- it has a value for each attribute
  is_wide : length (attributes_of mapped class) ≤ length row
  is_wide =
      let whole : length row ≡ length columns_own + length under.rest = ap (λ (values : Row). length values) under.is ∙ length-append columns_own under.rest in
      let long = columns_long in
      omega (arith, whole, long)

  -- the value at the place of an attribute
  value_at_place : (i : ℕ) (attribute : Attribute) → slice_get (attributes_of mapped class) i ≡ Some attribute → slice_get row i ≡ Some (item_or_null (slice_get (under.rows (rank_of mapped class attribute.table)) attribute.column.0))
  value_at_place i attribute at =
      let within = slice_get_within (attributes_of mapped class) i attribute at in
      let long = columns_long in
      ap (λ (values : Row). slice_get values i) under.is ∙ get_before columns_own under.rest i (omega (arith, within, long)) ∙ attribute_value mapped class under.rows i attribute at

  is_row_of : IsRowOf mapped class row
  unfolding class_named
  is_row_of =
      let known : HasTables mapped class = class_tables mapped class has less in
      record {
        kinds = λ i attribute at.
            ap (value_fits attribute) (value_at_place i attribute at) ∙ value_kind mapped tables sound class under.rows (row_key mapped class row) under.ranked attribute (has_at (attributes_of mapped class) i attribute at);
        key =
            named_fits mapped class row (row_key mapped class row) (discriminator_of mapped class) has less
            (keys_alike mapped class (row_key mapped class row) has known ∙ key_is_one mapped tables sound class under.rows (row_key mapped class row) under.ranked known);
      }

  is_ranked : IsOfTables mapped tables class row
  is_ranked attribute value e = by (position (is_same_column attribute) (attributes_of mapped class)) refl e
    where
      key : List Value
      key = row_key mapped class row

      by : (found : Option ℕ) → position (is_same_column attribute) (attributes_of mapped class) ≡ found → option_and_then (slice_get row) found ≡ Some value → held_under tables attribute key ≡ Some value
      by None is e = absurd cc
      by (Some i) is e =
          let at = placed (is_same_column attribute) (attributes_of mapped class) i attribute is in
          let one : Attribute = at.0 in
          let both = and_parts (one.table.0 == attribute.table.0) (one.column.0 == attribute.column.0) at.2 in
          let same_table : one.table ≡ attribute.table = ap (λ (n : ℕ). let t : TableId = record { 0 = n } in t) (eqb-true one.table.0 attribute.table.0 both.0) in
          let same_column : one.column.0 ≡ attribute.column.0 = eqb-true one.column.0 attribute.column.0 both.1 in
          ap (λ (t : TableId). option_and_then (λ (r : Row). slice_get r attribute.column.0) (row_of_key tables t key)) (sym same_table)
          ∙ ap (λ (c : ℕ). option_and_then (λ (r : Row). slice_get r c) (row_of_key tables one.table key)) (sym same_column)
          ∙ under_key mapped tables sound class under.rows key under.ranked one (has_at (attributes_of mapped class) i one at.1)
          ∙ sym (value_at_place i one at.1) ∙ e

  -- it is a row of the class, and what it has stands under its key
  pub is_table_row : IsRowOfTables mapped tables class row
  is_table_row = (record { of = is_row_of; wide = is_wide }, is_ranked)
