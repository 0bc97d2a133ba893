-- The rows of legal tables by their keys: each is found under its key alone, and one to which a foreign key refers has a row of its root's
-- table under its key.
use Rattle.std.proofs.Common.{◌≡◌, inl, inr, ℕ, zero, suc, ◌+◌, ◌<◌, nat_lt, Bool, true, false, not, ◌&&◌, ◌||◌, cond, List, [], ◌∷◌, filter, get_or, length, map, Option, None, Some, refl, sym, ap, subst, ◌∙◌, arith}
use Rattle.std.specs.Prelude.{slice_get, unwrap_or}
use Rattle.std.specs.Cmp.Lexicographic.{pointwise}
use Rattle.std.specs.List.{AllByRecursion, enumerate_from, list_all, list_any, position, position_or_len}
use Rattle.std.specs.List.Sorted.{IsStrictlySortedBy}
use Rattle.std.specs.Map.{keys_of}
use Rattle.std.specs.Option.{option_and_then, option_map}
use Rattle.std.specs.Ordering.{is_eq}
use Rattle.std.specs.declared.cmp.Ordering.TheVariants.{Less}
use Rattle.std.proofs.lemmas.Bool.{and_parts, lt-ltb, or_parts}
use Rattle.std.proofs.lemmas.List.Folds.{find_at}
use Rattle.std.proofs.lemmas.Option.{same_Some, slice_get-get_or, slice_get-map, slice_get_within}
use Rattle.base_core.specs.declared.ids.ClassId.{ClassId}
use Rattle.base_core.specs.declared.ids.ColumnNo.{ColumnNo}
use Rattle.base_core.specs.declared.ids.TableId.{TableId}
use Rattle.base_core.specs.declared.value.Value.{Value}
use Rattle.base_core.specs.Order.{values_cmp}
use Rattle.schema_core.specs.declared.table.ColumnSpec.{ColumnSpec}
use Rattle.schema_core.specs.declared.table.ForeignSpec.{ForeignSpec}
use Rattle.schema_core.specs.declared.table.TableSpec.{TableSpec}
use Rattle.schema_core.specs.Catalog.{Catalog, find_table, key_columns, kind_of, no_table, same_kind, same_name, spec_of, target_of}
use Rattle.schema_core.specs.Declaration.{has_kind, some_two}
use Rattle.schema_core.specs.Tables as held
use Rattle.schema_core.specs.Tables.{cell_of, cells_of, dangles, fits, has_null, has_row, is_legal_row, key_cells, key_of, names_row, same_values, some_dangles, table_cmp}
use Rattle.schema_core.proofs.Names.{name_itself, same_names}
use Rattle.sql_semantics.specs.Created.{bare}
use Rattle.sql_semantics.specs.Eval.{Row, item_or_null, rows_in}
use Rattle.table_rows.proofs.Bare.{rows_found, rows_missed}
use Rattle.table_laws.proofs.Ascending.{rows_ascend}
use Rattle.table_laws.proofs.Entries.{all_lookup, any_none}
use Rattle.table_laws.proofs.Legality.{Bound, bound_at}
use Rattle.table_laws.proofs.SameValues.{same_key, same_table, same_turned}
use Rattle.table_laws.specs.Legality.{AreSound}
use Rattle.table_laws.proofs.HeldRows.{legal_rows}
use Rattle.class_types.specs.declared.declared.ClassSpec.{ClassSpec}
use Rattle.class_layouts.specs.Columns.{columns_in, layout_of, layouts_of}
use Rattle.class_layouts.specs.Faults.{foreigns_in, foreigns_of}
use Rattle.class_layouts.specs.Hierarchy.{line_of, no_class}
use Rattle.class_sides.specs.Keys.{TableKey, columns_at as names_in, is_inherited, is_tied, is_whole_key, refers_to, ties, ties_to}
use Rattle.class_mapping.specs.Mapped.{IsClass, Mapped, root_table, tables_of}
use Rattle.class_mapping.specs.Valid.{extends_rightly, is_tied_in}
use Rattle.class_mapping.proofs.Having.{Has, all_from, all_of, any_has, found_of, from_filter, from_map, has_at, has_map, has_numbered, none_of, some_of}
use Rattle.class_mapping.proofs.Lists.{and_right, some_is}
use Rattle.class_mapping.proofs.RelatedKeys.{table_found}
use Rattle.class_mapping.proofs.RelatedLemmas.{line_for}
use Rattle.mapping_laws.specs.Hierarchies.{HasHierarchies}
use Rattle.mapping_laws.proofs.Tables.{not_zero, tables_declared, turned}
use Rattle.mapping_laws.proofs.Ties.{class_tables, table_faultless}
use Rattle.object_arena.proofs.GraphLemmas.{same_equiv}
use Rattle.load_columns.specs.Placing.{column_named, foreign_numbers, number_at}
use Rattle.collection_selects.proofs.MemberLemmas.{RefersTo, foreign_kinds, place_in, referring_within}
use Rattle.loading_laws.proofs.Answers.Totals.{map_twice}
use Rattle.loading_laws.proofs.Members.Choices.{every_has, pointwise_long, row_of_table}
use Rattle.loading_laws.proofs.ToOne.One.{key_numbered}
use Rattle.loading_laws.specs.Loaders.OwnRows.{has_row_under, key_in_table}
use Rattle.loading_laws.specs.Loading.Loadable.{row_of_key}

-- ---- entries by their keys

abbrev Entry : Type 0
Entry = List Value × Row

-- the row of an entry is found under its key
entry_found : (entries : held.Rows) → IsStrictlySortedBy values_cmp (keys_of entries) → (entry : Entry) → Has entries entry → held.row_under entries entry.0 ≡ Some entry.1
unfolding IsStrictlySortedBy
entry_found [] sorted entry there = absurd there
entry_found (first ∷ entries) sorted entry (inl is) =
    ap (λ (b : Bool). cond b (Some first.1) (held.row_under entries entry.0)) (ap (λ (one : Entry). same_values entry.0 one.0) is ∙ same_equiv.refl entry.0) ∙ ap (λ (one : Entry). Some one.1) is
entry_found (first ∷ entries) sorted entry (inr there) =
    let less : values_cmp first.0 entry.0 ≡ Less = every_has (λ (key : List Value). values_cmp first.0 key ≡ Less) (keys_of entries) entry.0 sorted.0 (has_map (λ (one : Entry). one.0) entries entry there) in
    ap (λ (b : Bool). cond b (Some first.1) (held.row_under entries entry.0)) (same_turned entry.0 first.0 ∙ ap is_eq less) ∙ entry_found entries sorted.1 entry there

-- ---- cells by names and by numbers

-- the cell of a name stands at the place of the first column of the name
cell_first : (columns : List ColumnSpec) (row : Row) (name : List ℕ) → length row ≡ length columns → cell_of columns row name ≡ item_or_null (slice_get row (position_or_len (λ (column : ColumnSpec). same_name column.name name) columns))
cell_first [] [] name long = refl
cell_first [] (v ∷ row) name long = absurd cc
cell_first (column ∷ columns) [] name long = absurd cc
cell_first (column ∷ columns) (v ∷ row) name long = by (same_name column.name name) (cell_first columns row name (omega (arith, long)))
  where
    n : ℕ
    n = position_or_len (λ (one : ColumnSpec). same_name one.name name) columns

    by : (b : Bool) → cell_of columns row name ≡ item_or_null (slice_get row n) → cond b v (cell_of columns row name) ≡ item_or_null (slice_get (v ∷ row) (cond (not b) (1 + n) 0))
    by true rest = refl
    by false rest = let next : suc n ≡ 1 + n = omega arith in rest ∙ ap (λ (k : ℕ). item_or_null (slice_get (v ∷ row) k)) next

cell_is : (columns : List ColumnSpec) (row : Row) (name : List ℕ) → list_any (λ (column : ColumnSpec). same_name column.name name) columns ≡ true → length row ≡ length columns
    → cell_of columns row name ≡ item_or_null (slice_get row (unwrap_or (position (λ (column : ColumnSpec). same_name column.name name) columns) 0))
cell_is columns row name some long =
    let named : ColumnSpec → Bool = λ column. same_name column.name name in
    let n : ℕ = position_or_len named columns in
    let found = found_of named columns some in
    let here : slice_get columns n ≡ Some found.0 = sym (find_at named columns) ∙ found.1 in
    cell_first columns row name long ∙ ap (λ (b : Bool). item_or_null (slice_get row (unwrap_or (cond b (Some n) None) 0))) (sym (lt-ltb n (length columns) (slice_get_within columns n found.0 here)))

-- those of a foreign key's columns
cells_are : (mapped : Mapped) (table : TableId) (row : Row) (names : List (List ℕ)) (targets : List ColumnSpec) → pointwise (has_kind (spec_of mapped.schema table).columns) names targets ≡ true → length row ≡ length (spec_of mapped.schema table).columns
    → map (cell_of (spec_of mapped.schema table).columns row) names ≡ map (λ (number : ColumnNo). item_or_null (slice_get row number.0)) (map (column_named mapped table) names)
cells_are mapped table row [] targets fit long = refl
cells_are mapped table row (name ∷ names) [] fit long = absurd cc
cells_are mapped table row (name ∷ names) (target ∷ targets) fit long =
    let columns : List ColumnSpec = (spec_of mapped.schema table).columns in
    let both = and_parts (has_kind columns name target) (pointwise (has_kind columns) names targets) fit in
    let one = some_of (λ (column : ColumnSpec). same_name column.name name && same_kind (kind_of column.kind) (kind_of target.kind)) columns both.0 in
    let some = any_has (λ (column : ColumnSpec). same_name column.name name) columns one.0 one.1 (and_parts (same_name one.0.name name) (same_kind (kind_of one.0.kind) (kind_of target.kind)) one.2).0 in
    ap (λ (v : Value). v ∷ map (cell_of columns row) names) (cell_is columns row name some long)
    ∙ ap (λ (vs : List Value). item_or_null (slice_get row (column_named mapped table name).0) ∷ vs) (cells_are mapped table row names targets both.1 long)

-- ---- a foreign key that is the whole key

abbrev name_of : ColumnSpec → List ℕ
name_of column = column.name

cells_later : (column : ColumnSpec) (columns : List ColumnSpec) (v : Value) (row : Row) (names : List (List ℕ)) → ((name : List ℕ) → Has names name → same_name column.name name ≡ false)
    → map (cell_of (column ∷ columns) (v ∷ row)) names ≡ map (cell_of columns row) names
cells_later column columns v row [] apart = refl
cells_later column columns v row (name ∷ names) apart =
    ap (λ (b : Bool). cond b v (cell_of columns row name) ∷ map (cell_of (column ∷ columns) (v ∷ row)) names) (apart name (inl refl))
    ∙ ap (λ (vs : List Value). cell_of columns row name ∷ vs) (cells_later column columns v row names (λ one there. apart one (inr there)))

key_named : (columns : List ColumnSpec) (row : Row) → some_two (λ (one other : ColumnSpec). same_name one.name other.name) columns ≡ false → length row ≡ length columns
    → map (cell_of columns row) (map name_of (filter (λ (column : ColumnSpec). column.key) columns)) ≡ key_cells columns row
key_named [] row apart long = refl
key_named (column ∷ columns) [] apart long = absurd cc
key_named (column ∷ columns) (v ∷ row) apart long =
    let keys : List ColumnSpec = filter (λ (one : ColumnSpec). one.key) columns in
    let parts = or_parts (list_any (λ (later : ColumnSpec). same_name later.name column.name) columns) (some_two (λ (one other : ColumnSpec). same_name one.name other.name) columns) apart in
    by column.key keys
    (cells_later column columns v row (map name_of keys)
    (λ name there.
    let from = from_map name_of keys name there in
    let inside : Has columns from.0 = (from_filter (λ (one : ColumnSpec). one.key) columns from.0 from.1).0 in
    ap (same_name column.name) (sym from.2) ∙ turned from.0.name column.name (none_of (λ (later : ColumnSpec). same_name later.name column.name) columns from.0 parts.0 inside))
    ∙ key_named columns row parts.1 (omega (arith, long)))
  where
    by : (b : Bool) (keys : List ColumnSpec) → map (cell_of (column ∷ columns) (v ∷ row)) (map name_of keys) ≡ key_cells columns row
        → map (cell_of (column ∷ columns) (v ∷ row)) (map name_of (cond b (column ∷ keys) keys)) ≡ cond b (v ∷ key_cells columns row) (key_cells columns row)
    by true keys rest =
        ap (λ (b : Bool). cond b v (cell_of columns row column.name) ∷ map (cell_of (column ∷ columns) (v ∷ row)) (map name_of keys)) (name_itself column.name) ∙ ap (λ (vs : List Value). v ∷ vs) rest
    by false keys rest = rest

names_are : (names : List (List ℕ)) (keys : List ColumnSpec) → pointwise (λ (name : List ℕ) (column : ColumnSpec). same_name name column.name) names keys ≡ true → names ≡ map name_of keys
names_are [] [] h = refl
names_are [] (key ∷ keys) h = absurd cc
names_are (name ∷ names) [] h = absurd cc
names_are (name ∷ names) (key ∷ keys) h =
    let both = and_parts (same_name name key.name) (pointwise (λ (one : List ℕ) (column : ColumnSpec). same_name one column.name) names keys) h in
    ap (λ (one : List ℕ). one ∷ names) (same_names name key.name both.0) ∙ ap (λ (more : List (List ℕ)). key.name ∷ more) (names_are names keys both.1)

-- ---- legal tables

module _ (mapped : Mapped) (tables : held.Tables) (sound : AreSound mapped.schema tables) where
  abbrev schema : Catalog
  schema = mapped.schema

  abbrev spec : TableId → TableSpec
  spec table = spec_of schema table

  abbrev rows_of_table : TableId → List Row
  rows_of_table table = rows_in (bare tables) table.0

  row_long : (table : TableId) (row : Row) → Has (rows_of_table table) row → length row ≡ length (spec table).columns
  row_long table row there = pointwise_long fits (spec table).columns row (row_of_table schema (bare tables) is_legal_row (bare tables) table row (legal_rows schema tables sound.legal.cells) there)

  -- a row's key by its cells
  key_is : (table : TableId) (row : Row) → Has (rows_of_table table) row → key_in_table mapped table row ≡ key_of (spec table) row
  key_is table row there =
      map_twice (λ (number : ColumnNo). item_or_null (slice_get row number.0)) number_at (filter (λ (placed : ℕ × ColumnSpec). placed.1.key) (enumerate_from 0 (spec table).columns))
      ∙ key_numbered (spec table).columns row [] 0 refl (row_long table row there)

  -- the entry of a row
  record HasEntry (table : TableId) (row : Row) : Type 0 where
    entries : held.Rows
    found : held.rows_in tables table ≡ Some entries
    entry : Entry
    among : Has entries entry
    is : entry.1 ≡ row
    keyed : key_in_table mapped table row ≡ entry.0

  keys_right : (table : TableId) (entries : held.Rows) → held.rows_in tables table ≡ Some entries → AllByRecursion (λ (entry : Entry). key_of (spec table) entry.1 ≡ entry.0) entries
  keys_right table entries found = all_lookup table_cmp same_table (λ created. AllByRecursion (λ (entry : Entry). key_of (spec_of schema created.0) entry.1 ≡ entry.0) created.1) tables table entries sound.legal.keys found

  entry_of : (table : TableId) (row : Row) → Has (rows_of_table table) row → HasEntry table row
  entry_of table row there = by (held.rows_in tables table) refl
    where
      by : (found : Option held.Rows) → held.rows_in tables table ≡ found → HasEntry table row
      by None is = absurd (subst (λ (rows : List Row). Has rows row) (sym (rows_missed tables table (sym is))) there)
      by (Some entries) is =
          let from = from_map (λ (entry : Entry). entry.1) entries row (subst (λ (rows : List Row). Has rows row) (sym (rows_found tables table entries (sym is))) there) in
          record {
            entries = entries;
            found = is;
            entry = from.0;
            among = from.1;
            is = from.2;
            keyed = key_is table row there ∙ ap (key_of (spec table)) (sym from.2) ∙ every_has (λ (entry : Entry). key_of (spec table) entry.1 ≡ entry.0) entries from.0 (keys_right table entries is) from.1;
          }

  -- a row is the one of its table under its key
  pub row_found : (table : TableId) (row : Row) (key : List Value) → Has (rows_of_table table) row → key_in_table mapped table row ≡ key → row_of_key tables table key ≡ Some row
  row_found table row key there same =
      let e = entry_of table row there in
      ap (λ (found : Option held.Rows). option_and_then (λ (rows : held.Rows). held.row_under rows key) found) e.found
      ∙ ap (held.row_under e.entries) (sym same ∙ e.keyed) ∙ entry_found e.entries (rows_ascend tables table e.entries sound.ascending e.found) e.entry e.among ∙ ap (λ (one : Row). Some one) e.is

  -- and what is found under a key is a row of the table that has it
  pub found_row : (table : TableId) (key : List Value) (row : Row) → row_of_key tables table key ≡ Some row → Has (rows_of_table table) row × (key_in_table mapped table row ≡ key)
  found_row table key row is = by (held.rows_in tables table) refl is
    where
      by : (found : Option held.Rows) → held.rows_in tables table ≡ found → option_and_then (λ (rows : held.Rows). held.row_under rows key) found ≡ Some row → Has (rows_of_table table) row × (key_in_table mapped table row ≡ key)
      by None at e = absurd cc
      by (Some entries) at e =
          let among : Has entries (key, row) = all_lookup values_cmp same_key (λ (entry : Entry). Has entries entry) entries key row (all_from (Has entries) entries (λ entry there. there)) e in
          let listed : Has (rows_of_table table) row = subst (λ (rows : List Row). Has rows row) (rows_found tables table entries (sym at)) (has_map (λ (entry : Entry). entry.1) entries (key, row) among) in
          (listed, key_is table row listed ∙ every_has (λ (entry : Entry). key_of (spec table) entry.1 ≡ entry.0) entries (key, row) (keys_right table entries at) among)

  -- ---- foreign keys

  -- no foreign key of a row dangles
  row_bound : (table : TableId) (foreign : ForeignSpec) (row : Row) → Has (spec table).foreigns foreign → Has (rows_of_table table) row → dangles schema tables (spec table) row foreign ≡ false
  row_bound table foreign row there among =
      let e = entry_of table row among in
      let bound : Bound schema tables (table, e.entries) = all_lookup table_cmp same_table (Bound schema tables) tables table e.entries (bound_at schema tables sound.legal.foreigns) e.found in
      let none : some_dangles schema tables (spec table) e.entry.1 ≡ false = every_has (λ (entry : Entry). some_dangles schema tables (spec table) entry.1 ≡ false) e.entries e.entry bound e.among in
      subst (λ (one : Row). dangles schema tables (spec table) one foreign ≡ false) e.is
      (every_has (λ (one : ForeignSpec). dangles schema tables (spec table) e.entry.1 one ≡ false) (spec table).foreigns foreign (any_none (dangles schema tables (spec table) e.entry.1) (spec table).foreigns none) there)

  -- so one without a NULL leads to a row of its target
  row_named : (table : TableId) (foreign : ForeignSpec) (row : Row) (target : TableId) (key : List Value) → Has (spec table).foreigns foreign → Has (rows_of_table table) row → target_of schema foreign ≡ Some target
      → cells_of (spec table) row foreign.columns ≡ key → has_null key ≡ false → (other : Row) × (row_of_key tables target key ≡ Some other)
  row_named table foreign row target key there among leads is given =
      let bound : (not (has_null key) && not (names_row schema tables foreign key)) ≡ false = subst (λ (k : List Value). (not (has_null k) && not (names_row schema tables foreign k)) ≡ false) is (row_bound table foreign row there among) in
      let never : not (names_row schema tables foreign key) ≡ false = sym (ap (λ (b : Bool). not b && not (names_row schema tables foreign key)) given) ∙ bound in
      let named : has_row key (held.rows_in tables target) ≡ true = sym (ap (λ (found : Option TableId). has_row key (option_and_then (held.rows_in tables) found)) leads) ∙ not_not (names_row schema tables foreign key) never in
      by (held.rows_in tables target) named
    where
      not_not : (b : Bool) → not b ≡ false → b ≡ true
      not_not true e = refl
      not_not false e = absurd cc

      by : (found : Option held.Rows) → has_row key found ≡ true → (other : Row) × (option_and_then (λ (rows : held.Rows). held.row_under rows key) found ≡ Some other)
      by None e = absurd cc
      by (Some entries) e = some_is (held.row_under entries key) e

  -- what a row has in the columns of a foreign key
  abbrev pub foreign_cells : TableKey → Row → List Value
  foreign_cells key row = map (λ (number : ColumnNo). item_or_null (slice_get row number.0)) (foreign_numbers mapped key)

  module _ (has : HasHierarchies mapped) where
    foreign_there : (key : TableKey) (class : ClassId) (to : RefersTo mapped key class) → Has (spec key.0).foreigns to.foreign
    foreign_there key class to =
        let less = referring_within mapped key class to in
        has_at (spec key.0).foreigns key.1 to.foreign (ap (λ (found : Option TableSpec). slice_get (foreigns_of found) key.1) (sym (slice_get-get_or schema.tables key.0.0 no_table less)) ∙ to.is)

    -- the row to which a foreign key without a NULL refers
    referred_row : (key : TableKey) (class : ClassId) (to : RefersTo mapped key class) (row : Row) → Has (rows_of_table key.0) row → has_null (foreign_cells key row) ≡ false → (other : Row) × (row_of_key tables to.table (foreign_cells key row) ≡ Some other)
    referred_row key class to row among given =
        row_named key.0 to.foreign row to.table (foreign_cells key row) (foreign_there key class to) among (table_found (find_table schema.tables to.foreign.target) to.table to.target)
        (cells_are mapped key.0 row to.foreign.columns (key_columns (spec to.table)) (foreign_kinds mapped key class has (referring_within mapped key class to) to) (row_long key.0 row among)
        ∙ ap (λ (names : List (List ℕ)). map (λ (number : ColumnNo). item_or_null (slice_get row number.0)) (map (column_named mapped key.0) names)) (sym (ap names_in to.is)))
        given

    -- ---- up to the root

    -- the table at a rank has a foreign key of its whole key to the table before
    tie_of : (class : ClassId) → IsClass mapped class → (rank : ℕ) (parent table : TableId) → slice_get (tables_of mapped class) rank ≡ Some parent → slice_get (tables_of mapped class) (suc rank) ≡ Some table
        → (foreign : ForeignSpec) × Has (foreigns_in schema.tables table) foreign × (ties schema.tables parent table foreign ≡ true)
    tie_of class declared rank parent table before here =
        let own : List TableId = tables_of mapped class in
        let one : ClassSpec = get_or mapped.classes.specs class.0 no_class in
        let rightly : extends_rightly schema.tables mapped.classes (layouts_of schema.tables mapped.classes) (class.0, one) ≡ true = at_number (extends_rightly schema.tables mapped.classes (layouts_of schema.tables mapped.classes)) mapped.classes.specs class.0 one has.valid.tied (slice_get-get_or mapped.classes.specs class.0 no_class declared) in
        let laid : slice_get (layouts_of schema.tables mapped.classes) class.0 ≡ Some (layout_of schema.tables mapped.classes (line_of mapped.classes class.0)) =
        slice_get-map (layout_of schema.tables mapped.classes) mapped.classes.lines class.0 ∙ ap (option_map (layout_of schema.tables mapped.classes)) (line_for mapped has.lined has.lines class.0 declared) in
        let all : list_all (is_tied schema.tables own) (enumerate_from 0 own) ≡ true =
        ap (is_tied_in schema.tables) (sym laid) ∙ and_right (not (nat_lt 16 (length (line_of mapped.classes class.0)))) (is_tied_in schema.tables (slice_get (layouts_of schema.tables mapped.classes) class.0)) rightly in
        let tied : list_any (is_inherited schema.tables own (suc rank) table) (foreigns_in schema.tables table) ≡ true =
        ap (λ (b : Bool). b || list_any (is_inherited schema.tables own (suc rank) table) (foreigns_in schema.tables table)) (sym (not_zero (suc rank) rank refl)) ∙ at_number (is_tied schema.tables own) own (suc rank) table all here in
        let found = some_of (is_inherited schema.tables own (suc rank) table) (foreigns_in schema.tables table) tied in
        (found.0, found.1, ap (λ (o : Option TableId). ties_to schema.tables table o found.0) (sym before) ∙ found.2)
      where
        at_number : {A : Type 0} (p : ℕ × A → Bool) (xs : List A) (n : ℕ) (x : A) → list_all p (enumerate_from 0 xs) ≡ true → slice_get xs n ≡ Some x → p (n, x) ≡ true
        at_number {A = A} p xs n x h e = let first : 0 + n ≡ n = omega arith in subst (λ (k : ℕ). p (k, x) ≡ true) first (all_of p (enumerate_from 0 xs) (0 + n, x) h (has_numbered 0 xs n x e))

    -- a row of a class's table has one of the table before under its key
    row_before : (class : ClassId) → IsClass mapped class → (rank : ℕ) (parent table : TableId) (key : List Value) (row : Row) → slice_get (tables_of mapped class) rank ≡ Some parent → slice_get (tables_of mapped class) (suc rank) ≡ Some table → has_null key ≡ false
        → row_of_key tables table key ≡ Some row → (other : Row) × (row_of_key tables parent key ≡ Some other)
    row_before class declared rank parent table key row before here given is =
        let tie = tie_of class declared rank parent table before here in
        let both = and_parts (is_whole_key (columns_in schema.tables table) tie.0.columns) (refers_to schema.tables tie.0 parent) tie.2 in
        let inside : table.0 < length schema.tables = tables_declared mapped class table (has_at (tables_of mapped class) (suc rank) table here) in
        let there = found_row table key row is in
        let foreign : Has (spec table).foreigns tie.0 = subst (λ (foreigns : List ForeignSpec). Has foreigns tie.0) (ap foreigns_of (slice_get-get_or schema.tables table.0 no_table inside)) tie.1 in
        row_named table tie.0 row parent key foreign there.0 (table_found (find_table schema.tables tie.0.target) parent both.1)
        (ap (map (cell_of (spec table).columns row)) (names_are tie.0.columns (filter (λ (column : ColumnSpec). column.key) (spec table).columns) both.0)
        ∙ key_named (spec table).columns row (table_faultless mapped table has inside).apart (row_long table row there.0) ∙ sym (key_is table row there.0) ∙ there.1)
        given

    root_row : (class : ClassId) → IsClass mapped class → (rank : ℕ) (table : TableId) (key : List Value) (row : Row) → slice_get (tables_of mapped class) rank ≡ Some table → has_null key ≡ false → row_of_key tables table key ≡ Some row
        → (other : Row) × (row_of_key tables (root_table mapped class) key ≡ Some other)
    root_row class declared zero table key row here given is =
        let first : table ≡ root_table mapped class = same_Some table (root_table mapped class) (sym here ∙ ap (λ (found : List TableId). slice_get found 0) (class_tables mapped class has declared).first) in
        (row, ap (λ (t : TableId). row_of_key tables t key) (sym first) ∙ is)
    root_row class declared (suc rank) table key row here given is =
        let within = slice_get_within (tables_of mapped class) (suc rank) table here in
        let parent : TableId = get_or (tables_of mapped class) rank table in
        let before : slice_get (tables_of mapped class) rank ≡ Some parent = slice_get-get_or (tables_of mapped class) rank table (omega (arith, within)) in
        let above = row_before class declared rank parent table key row before here given is in
        root_row class declared rank parent key above.0 before given above.1

    -- a foreign key of a row without a NULL is the key of a row of the root's table of the class to which it refers
    pub key_there : (key : TableKey) (class : ClassId) → IsClass mapped class → (to : RefersTo mapped key class) (row : Row) → Has (rows_of_table key.0) row → has_null (foreign_cells key row) ≡ false
        → has_row_under mapped (bare tables) (foreign_cells key row) (root_table mapped class) ≡ true
    key_there key class declared to row among given =
        let referred = referred_row key class to row among given in
        let place = place_in (tables_of mapped class) to.table to.inside in
        let top = root_row class declared place.0 to.table (foreign_cells key row) referred.0 place.1 given referred.1 in
        let there = found_row (root_table mapped class) (foreign_cells key row) top.0 top.1 in
        any_has (λ (one : Row). same_values (key_in_table mapped (root_table mapped class) one) (foreign_cells key row)) (rows_of_table (root_table mapped class)) top.0 there.0
        (ap (λ (k : List Value). same_values k (foreign_cells key row)) there.1 ∙ same_equiv.refl (foreign_cells key row))
