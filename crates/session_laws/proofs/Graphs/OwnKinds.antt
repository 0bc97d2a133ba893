-- The foreign keys of the rows of new objects: each is given as values, or comes from one new row of its target.
use Rattle.std.proofs.Common.{◌≡◌, inr, ℕ, zero, suc, ◌+◌, ◌-◌, ◌<◌, Bool, true, false, cond, not, ◌&&◌, ◌==◌, List, ◌++◌, length, map, take, get_or, Option, None, Some, refl, sym, subst, ap, ◌∙◌, arith}
use Rattle.std.proofs.lemmas.Bool.{eqb-true, eq-eqb}
use Rattle.std.proofs.lemmas.List.{get_or-map, get_or_append_left, length-append, length-map}
use Rattle.std.proofs.lemmas.List.Elements.{All-from_recursion, All-get_or}
use Rattle.std.proofs.lemmas.List.FromFn.{get_or-enumerate_from, length-enumerate_from}
use Rattle.std.proofs.lemmas.Option.{get_or_from_slice_get, same_Some, slice_get-get_or, slice_get-map, slice_get_within}
use Rattle.std.specs.Prelude.{slice_get}
use Rattle.std.specs.Option.{option_map}
use Rattle.std.specs.Cmp.Lexicographic.{as_long}
use Rattle.std.specs.List.{AllByRecursion, enumerate_from, filter, list_all, list_any}
use Rattle.base_core.specs.declared.ids.ClassId.{ClassId}
use Rattle.base_core.specs.declared.ids.ObjId.{ObjId}
use Rattle.base_core.specs.declared.ids.TableId.{TableId}
use Rattle.base_core.specs.declared.refusal.RowName.{RowName}
use Rattle.schema_core.specs.declared.changes.NewRow.{NewRow}
use Rattle.schema_core.specs.declared.changes.RowCell.{RowCell}
use Rattle.schema_core.specs.declared.changes.RowCell.TheVariants.{KeyOf}
use Rattle.schema_core.specs.declared.table.ColumnSpec.{ColumnSpec}
use Rattle.schema_core.specs.declared.table.ForeignSpec.{ForeignSpec}
use Rattle.schema_core.specs.declared.table.TableSpec.{TableSpec}
use Rattle.schema_core.specs.Catalog.{IsTable, find_table, has_name, key_columns, no_table, same_name, spec_of, target_of}
use Rattle.schema_core.specs.Declaration.{IsDeclared, has_column, has_kind, has_target, refers_to, shares_one, some_two}
use Rattle.class_layouts.specs.Columns.{is_table}
use Rattle.class_layouts.specs.Faults.{foreigns_in}
use Rattle.class_sides.specs.Keys as keys
use Rattle.class_mapping.specs.Lines.{AreLines}
use Rattle.class_mapping.specs.Mapped.{IsValidMapping, Mapped, tables_of}
use Rattle.class_mapping.proofs.Having.{Has, all_from, all_of, any_has, from_numbered, has_at, has_filter, named_alike, none_of, true_false}
use Rattle.class_mapping.proofs.Lists.{and_left, and_right}
use Rattle.class_mapping.proofs.RelatedKeys.{same_table}
use Rattle.object_arena.specs.Fit.{IsFit}
use Rattle.object_arena.specs.Graph.{Graph, object_at}
use Rattle.flush_order.specs.Cells.{no_row, table_at}
use Rattle.object_rows.specs.declared.prepared.Prepared.{Prepared}
use Rattle.object_rows.specs.Rows as rows
use Rattle.object_rows.specs.Seen.{new_objects}
use Rattle.pair_rows.specs.Pairs as pairs
use Rattle.row_project.specs.Changes.{object_changes}
use Rattle.session_laws.specs.Plans.Laws.{IsOneKind, cell_named, cells_named}
use Rattle.session_laws.specs.Graphs.{DiscriminatorsAreFree, HasOneKind}
use Rattle.schema_core.proofs.Names.{same_names}
use Rattle.row_switches.proofs.Each.{all_map}
use Rattle.session_laws.proofs.Projects.Apart.{none_given}
use Rattle.session_laws.proofs.Projects.LateKeys.{IsTaken, each_has, foreign_within, meets, taken}
use Rattle.session_laws.proofs.Projects.Loose.{IsOwn, by_parent, foreigns_same, has_place, joined_rank, named_once, names_own, tie_of}
use Rattle.session_laws.proofs.Graphs.Named.{cell_of_name, filter_place, in_piece, opposite, two_places}
use Rattle.session_laws.proofs.Graphs.LinkKinds.{AsLong, StandFirst, comes, own_kind}
use Rattle.session_laws.proofs.Projects.Rows.{plain_whole}

not_false : (b : Bool) → not b ≡ false → b ≡ true
not_false true h = refl
not_false false h = absurd (cc)

by_target : (tables : List TableSpec) (spec : TableSpec) (foreign : ForeignSpec) (found : Option TableId) (target : TableId) → found ≡ Some target → refers_to tables spec foreign found ≡ true
    → length foreign.columns ≡ length (key_columns (get_or tables target.0 no_table))
by_target tables spec foreign None target e h = absurd (cc)
by_target tables spec foreign (Some other) target e h =
    as_long (has_kind spec.columns) foreign.columns (key_columns (get_or tables other.0 no_table)) h ∙ ap (λ (t : TableId). length (key_columns (get_or tables t.0 no_table))) (same_Some other target e)

one_found : (found : Option TableId) (parent : TableId) → is_table found parent ≡ true → found ≡ Some parent
one_found None parent h = absurd (cc)
one_found (Some other) parent h = ap (λ (t : TableId). Some t) (same_table other parent h)

-- a table that has a foreign key is declared
pub is_table_of : (mapped : Mapped) (table : TableId) (foreign : ForeignSpec) (number : ℕ) → slice_get (foreigns_in mapped.schema.tables table) number ≡ Some foreign → IsTable mapped.schema table
is_table_of mapped table foreign number at = foreign_within mapped.schema.tables table.0 number (slice_get mapped.schema.tables table.0) foreign refl at

module _ (mapped : Mapped) (lined : length mapped.classes.lines ≡ length mapped.classes.specs) (lines : AreLines mapped.schema.tables mapped.classes) (valid : IsValidMapping mapped)
    (declared : IsDeclared mapped.schema.tables mapped.schema.resolved) (free : DiscriminatorsAreFree mapped) where
  abbrev tables : List TableSpec
  tables = mapped.schema.tables

  -- what a table's declaration has
  pub table_taken : (table : TableId) → IsTable mapped.schema table → IsTaken (spec_of mapped.schema table)
  table_taken table inside = taken (take table.0 tables) (spec_of mapped.schema table) (declared.faultless table.0 inside)

  pub as_long_as : (table : TableId) → IsTable mapped.schema table → (foreign : ForeignSpec) → Has (spec_of mapped.schema table).foreigns foreign → AsLong mapped.schema foreign
  as_long_as table inside foreign has target is =
      let spec = spec_of mapped.schema table in
      let here : Has tables spec = has_at tables table.0 spec (slice_get-get_or tables table.0 no_table inside) in
      let each = all_of (λ (s : TableSpec). list_all (has_target tables s) s.foreigns) tables spec valid.targets here in
      by_target tables spec foreign (find_table tables foreign.target) target is (all_of (has_target tables spec) spec.foreigns foreign each has)

  pub column_there : (table : TableId) → IsTable mapped.schema table → (foreign : ForeignSpec) → Has (spec_of mapped.schema table).foreigns foreign → (name : List ℕ) → Has foreign.columns name → has_column (spec_of mapped.schema table).columns name ≡ true
  column_there table inside foreign has name within =
      let spec = spec_of mapped.schema table in
      not_false (has_column spec.columns name)
      (none_of (λ own. not (has_column spec.columns own)) foreign.columns name
      (none_of (λ (f : ForeignSpec). list_any (λ own. not (has_column spec.columns own)) f.columns) spec.foreigns foreign (table_taken table inside).known has) within)

  pub names_once : (table : TableId) → IsTable mapped.schema table → (foreign : ForeignSpec) → Has (spec_of mapped.schema table).foreigns foreign → some_two same_name foreign.columns ≡ false
  names_once table inside foreign has = none_of (λ (f : ForeignSpec). some_two same_name f.columns) (spec_of mapped.schema table).foreigns foreign (table_taken table inside).once has

  module _ (graph : Graph) (prepared : Prepared) (fit : IsFit mapped graph) where
    abbrev names : List RowName
    names = rows.new_names mapped graph prepared

    pub first_rows : StandFirst mapped.schema (object_changes mapped graph prepared) names
    unfolding rows.new_rows
    first_rows = record { at = stands; whole = λ q less. All-get_or IsLongRow fresh q no_row less (All-from_recursion IsLongRow fresh (plain_whole mapped graph prepared)) }
      where
        fresh : List NewRow
        fresh = rows.new_rows mapped graph prepared ++ pairs.made_rows mapped graph prepared

        IsLongRow : NewRow → Type 0
        IsLongRow row = length row.cells ≡ length (spec_of mapped.schema row.name.table).columns

        stands : (q : ℕ) (row : RowName) → slice_get names q ≡ Some row → (q < length fresh) × (table_at (object_changes mapped graph prepared) q ≡ row.table)
        stands q row e =
            let made = rows.new_row mapped graph prepared names in
            let less = slice_get_within names q row e in
            let long : length (map made (enumerate_from 0 names)) ≡ length names = length-map (enumerate_from 0 names) made ∙ length-enumerate_from 0 names in
            let within : q < length (enumerate_from 0 names) = omega (arith, less, length-enumerate_from 0 names) in
            let before : q < length (map made (enumerate_from 0 names)) = omega (arith, less, long) in (
              omega (arith, before, length-append (map made (enumerate_from 0 names)) (pairs.made_rows mapped graph prepared)),
              ap (λ (r : NewRow). r.name.table)
                  (get_or_append_left (map made (enumerate_from 0 names)) (pairs.made_rows mapped graph prepared) no_row q before
                  ∙ get_or-map made (enumerate_from 0 names) q (0, row) no_row within
                  ∙ ap made (get_or-enumerate_from 0 names q (0, row) less))
                  ∙ ap (λ (r : RowName). r.table) (get_or_from_slice_get names q row row e),
            )

    -- ---- a row that is the object's own

    module _ (p : ℕ) (row : RowName) (at : slice_get names p ≡ Some row) (own : IsOwn mapped lined lines valid graph prepared fit row) (inside : IsTable mapped.schema row.table)
        (foreign : ForeignSpec) (number : ℕ) (here : slice_get (foreigns_in tables row.table) number ≡ Some foreign) where
      abbrev spec : TableSpec
      spec = spec_of mapped.schema row.table

      abbrev foreigns : List ForeignSpec
      foreigns = foreigns_in tables row.table

      abbrev made : ℕ × ColumnSpec → RowCell
      made = rows.new_cell mapped graph prepared names (p, row)

      abbrev named : List ℕ → RowCell
      named = cell_named spec.columns (map made (enumerate_from 0 spec.columns))

      has_foreign : Has spec.foreigns foreign
      has_foreign = subst (λ fs. Has fs foreign) (foreigns_same tables row.table.0) (has_at foreigns number foreign here)

      apart : some_two shares_one foreigns ≡ false
      apart = ap (some_two shares_one) (foreigns_same tables row.table.0) ∙ (table_taken row.table inside).apart

      column_of_name : (i : ℕ) (name : List ℕ) → slice_get foreign.columns i ≡ Some name → (column : ℕ × ColumnSpec) × Has (enumerate_from 0 spec.columns) column × (column.1.name ≡ name) × (named name ≡ made column)
      column_of_name i name e = cell_of_name spec.columns 0 made name (column_there row.table inside foreign has_foreign name (has_at foreign.columns i name e))

      -- where each column is the row's own
      all_own : ((i : ℕ) (name : List ℕ) (column : ℕ × ColumnSpec) → slice_get foreign.columns i ≡ Some name → Has (enumerate_from 0 spec.columns) column → column.1.name ≡ name → made column ≡ rows.own_cell mapped graph prepared names row column)
          → IsOneKind mapped.schema (object_changes mapped graph prepared) foreign (map named foreign.columns)
      all_own each =
          own_kind mapped graph prepared names row.table number foreign here apart (names_once row.table inside foreign has_foreign) (object_changes mapped graph prepared) first_rows
          (as_long_as row.table inside foreign has_foreign) (λ class name told. free class row.table name told) row refl named
          (λ i name e. let found = column_of_name i name e in (found.0, found.2, found.3 ∙ each i name found.0 e found.1 found.2))

      abbrev class : ClassId
      class = (object_at graph row.object).class

      plain_kind : rows.is_joined mapped class row.table ≡ false → IsOneKind mapped.schema (object_changes mapped graph prepared) foreign (map named foreign.columns)
      plain_kind plain = all_own (λ i name column e has is. ap (λ b. cond (b && column.1.key) (KeyOf (p - 1) (rows.key_part (rows.columns_at mapped row.table) column.0)) (rows.own_cell mapped graph prepared names row column)) plain)

      -- a foreign key beside the one that ties a joined table
      beside_kind : (tie : ForeignSpec) (m : ℕ) → slice_get foreigns m ≡ Some tie → keys.is_whole_key spec.columns tie.columns ≡ true → (m == number) ≡ false → IsOneKind mapped.schema (object_changes mapped graph prepared) foreign (map named foreign.columns)
      beside_kind tie m there whole differs = all_own (λ i name column e has is.
          ap (λ b. cond b (KeyOf (p - 1) (rows.key_part (rows.columns_at mapped row.table) column.0)) (rows.own_cell mapped graph prepared names row column))
          (no_part i name column e has is column.1.key refl (rows.is_joined mapped class row.table)))
        where
          no_part : (i : ℕ) (name : List ℕ) (column : ℕ × ColumnSpec) → slice_get foreign.columns i ≡ Some name → Has (enumerate_from 0 spec.columns) column → column.1.name ≡ name → (key : Bool) → column.1.key ≡ key → (joined : Bool) → (joined && key) ≡ false
          no_part i name column e has is key k false = refl
          no_part i name column e has is false k true = refl
          no_part i name column e has is true k true =
              let place = from_numbered 0 spec.columns column has in
              let column_has : Has spec.columns column.1 = has_at spec.columns place.0 column.1 place.2 in
              let of_tie : has_name tie.columns column.1.name ≡ true = named_once tie.columns (filter (λ (c : ColumnSpec). c.key) spec.columns) column.1 whole (has_filter (λ (c : ColumnSpec). c.key) spec.columns column.1 column_has k) in
              let mine : has_name foreign.columns column.1.name ≡ true = any_has (λ other. same_name other column.1.name) foreign.columns name (has_at foreign.columns i name e) (named_alike name column.1.name (sym is)) in
              let same : m ≡ number = two_places shares_one foreigns m number tie foreign apart there here (meets tie foreign column.1.name of_tie mine) (meets foreign tie column.1.name mine of_tie) in
              absurd (true_false (m == number) (eq-eqb m number same) differs)

      -- the foreign key that ties it
      tied_kind : (rank : ℕ) (parent : RowName) → rows.is_joined mapped class row.table ≡ true → keys.is_whole_key spec.columns foreign.columns ≡ true
          → slice_get names (p - 1) ≡ Some parent → target_of mapped.schema foreign ≡ Some parent.table → IsOneKind mapped.schema (object_changes mapped graph prepared) foreign (map named foreign.columns)
      tied_kind rank parent joined whole before target =
          inr (comes mapped.schema (object_changes mapped graph prepared) graph names first_rows foreign (as_long_as row.table inside foreign has_foreign) (p - 1) parent parent.table named before target refl
          (λ i name e.
          let found = column_of_name i name e in
          let place = from_numbered 0 spec.columns found.0 found.1 in
          let at_place : slice_get spec.columns found.0.0 ≡ Some found.0.1 = ap (slice_get spec.columns) (omega (arith, place.1)) ∙ place.2 in
          let key = opposite (λ name (c : ColumnSpec). same_name name c.name) foreign.columns (filter (λ (c : ColumnSpec). c.key) spec.columns) i name whole e in
          let among = filter_place (λ (c : ColumnSpec). c.key) spec.columns i key.0 key.1 in
          let alike : same_name found.0.1.name key.0.name ≡ true = ap (λ n. same_name n key.0.name) found.2 ∙ key.2 in
          let back : same_name key.0.name found.0.1.name ≡ true = named_alike key.0.name found.0.1.name (sym (same_names found.0.1.name key.0.name alike)) in
          let same : found.0.0 ≡ among.0 = two_places (λ (one other : ColumnSpec). same_name one.name other.name) spec.columns found.0.0 among.0 found.0.1 key.0 (table_taken row.table inside).columns at_place among.1 alike back in
          let column : found.0.1 ≡ key.0 = same_Some found.0.1 key.0 (sym at_place ∙ ap (slice_get spec.columns) same ∙ among.1) in
          let is_key : found.0.1.key ≡ true = ap (λ (c : ColumnSpec). c.key) column ∙ among.2 in
          found.3
          ∙ ap (λ b. cond (b && found.0.1.key) (KeyOf (p - 1) (rows.key_part spec.columns found.0.0)) (rows.own_cell mapped graph prepared names row found.0)) joined
          ∙ ap (λ b. cond b (KeyOf (p - 1) (rows.key_part spec.columns found.0.0)) (rows.own_cell mapped graph prepared names row found.0)) is_key
          ∙ ap (KeyOf (p - 1)) (ap (rows.key_part spec.columns) same ∙ among.3)))

      -- the row stands among those of its object, one behind another
      by_rank : (offset rank : ℕ) → p ≡ offset + rank → slice_get (tables_of mapped class) rank ≡ Some row.table
          → ((k : ℕ) (table : TableId) → slice_get (tables_of mapped class) k ≡ Some table → slice_get names (offset + k) ≡ Some (rows.row_name row.object table))
          → (joined : Bool) → rows.is_joined mapped class row.table ≡ joined → IsOneKind mapped.schema (object_changes mapped graph prepared) foreign (map named foreign.columns)
      by_rank offset rank stands here_rank piece false j = plain_kind j
      by_rank offset rank stands here_rank piece true j = by_tie rank stands here_rank (tie_of mapped lined lines valid class own.0 row.table rank here_rank j)
        where
          parent_kind : (r : ℕ) → p ≡ offset + suc r → (found : Option TableId) → slice_get (tables_of mapped class) r ≡ found → keys.ties_to tables row.table found foreign ≡ true
              → IsOneKind mapped.schema (object_changes mapped graph prepared) foreign (map named foreign.columns)
          parent_kind r at_rank None e ties = absurd (cc)
          parent_kind r at_rank (Some parent) e ties =
              let before : p - 1 ≡ offset + r = omega (arith, at_rank) in
              tied_kind r (rows.row_name row.object parent) j (and_left (keys.is_whole_key spec.columns foreign.columns) (keys.refers_to tables foreign parent) ties)
              (ap (slice_get names) before ∙ piece r parent e)
              (one_found (find_table tables foreign.target) parent (and_right (keys.is_whole_key spec.columns foreign.columns) (keys.refers_to tables foreign parent) ties))

          same_kind : (n : ℕ) → p ≡ offset + n → slice_get (tables_of mapped class) n ≡ Some row.table → keys.is_inherited tables (tables_of mapped class) n row.table foreign ≡ true
              → IsOneKind mapped.schema (object_changes mapped graph prepared) foreign (map named foreign.columns)
          same_kind zero at_rank found ties = absurd (true_false (zero == 0) refl (joined_rank mapped lined lines valid class own.0 row.table zero found j))
          same_kind (suc r) at_rank found ties = parent_kind r at_rank (slice_get (tables_of mapped class) r) refl ties

          by_number : (n : ℕ) → p ≡ offset + n → slice_get (tables_of mapped class) n ≡ Some row.table → (tie : ForeignSpec) → keys.is_inherited tables (tables_of mapped class) n row.table tie ≡ true
              → (m : ℕ) → slice_get foreigns m ≡ Some tie → (same : Bool) → (m == number) ≡ same → IsOneKind mapped.schema (object_changes mapped graph prepared) foreign (map named foreign.columns)
          by_number n at_rank found tie ties m there false e = beside_kind tie m there (by_parent tables row.table (keys.before_rank (tables_of mapped class) n) tie ties) e
          by_number n at_rank found tie ties m there true e =
              let one : tie ≡ foreign = same_Some tie foreign (sym there ∙ ap (slice_get foreigns) (eqb-true m number e) ∙ here) in
              same_kind n at_rank found (ap (keys.is_inherited tables (tables_of mapped class) n row.table) (sym one) ∙ ties)

          by_tie : (n : ℕ) → p ≡ offset + n → slice_get (tables_of mapped class) n ≡ Some row.table
              → (tie : ForeignSpec) × Has foreigns tie × (keys.is_inherited tables (tables_of mapped class) n row.table tie ≡ true) → IsOneKind mapped.schema (object_changes mapped graph prepared) foreign (map named foreign.columns)
          by_tie n at_rank found tie = let place = has_place foreigns tie.0 tie.1 in by_number n at_rank found tie.0 tie.2 place.0 place.1 (place.0 == number) refl

      row_kind : IsOneKind mapped.schema (object_changes mapped graph prepared) foreign (map named foreign.columns)
      unfolding rows.new_names
      row_kind =
          let piece = in_piece (rows.rows_of mapped graph) (new_objects graph prepared) p row at in
          let list = tables_of mapped (object_at graph piece.item).class in
          let table = none_given (rows.row_name piece.item) (slice_get list piece.rank) row (sym (slice_get-map (rows.row_name piece.item) list piece.rank) ∙ piece.is) in
          let object : piece.item ≡ row.object = ap (λ (r : RowName). r.object) table.2 in
          let same : table.0 ≡ row.table = ap (λ (r : RowName). r.table) table.2 in
          let ranked : slice_get (tables_of mapped class) piece.rank ≡ Some row.table =
          ap (λ (o : ObjId). slice_get (tables_of mapped (object_at graph o).class) piece.rank) (sym object) ∙ table.1 ∙ ap (λ (t : TableId). Some t) same in
          by_rank piece.offset piece.rank piece.at ranked
          (λ k other e.
          piece.piece k (rows.row_name row.object other)
          (ap (λ (o : ObjId). slice_get (map (rows.row_name o) (tables_of mapped (object_at graph o).class)) k) object
          ∙ slice_get-map (rows.row_name row.object) (tables_of mapped class) k ∙ ap (option_map (rows.row_name row.object)) e))
          (rows.is_joined mapped class row.table) refl

    -- the rows of all new objects
    pub new_kinds : AllByRecursion (HasOneKind mapped.schema (object_changes mapped graph prepared)) (rows.new_rows mapped graph prepared)
    unfolding rows.new_rows
    new_kinds =
        all_map (Has (enumerate_from 0 names)) (HasOneKind mapped.schema (object_changes mapped graph prepared)) (rows.new_row mapped graph prepared names)
        (λ placed has.
        let at = from_numbered 0 names placed has in
        let stands : slice_get names placed.0 ≡ Some placed.1 = ap (slice_get names) (omega (arith, at.1)) ∙ at.2 in
        all_from (λ (foreign : ForeignSpec). IsOneKind mapped.schema (object_changes mapped graph prepared) foreign (cells_named mapped.schema placed.1.table (map (rows.new_cell mapped graph prepared names placed) (enumerate_from 0 (rows.columns_at mapped placed.1.table))) foreign.columns))
        (spec_of mapped.schema placed.1.table).foreigns
        (λ foreign inside.
        let place = has_place (foreigns_in tables placed.1.table) foreign (subst (λ fs. Has fs foreign) (sym (foreigns_same tables placed.1.table.0)) inside) in
        row_kind placed.0 placed.1 stands
        (each_has (IsOwn mapped lined lines valid graph prepared fit) names placed.1 (names_own mapped lined lines valid graph prepared fit) (has_at names placed.0 placed.1 stands))
        (is_table_of mapped placed.1.table foreign place.0 place.1) foreign place.0 place.1))
        (enumerate_from 0 names) (all_from (Has (enumerate_from 0 names)) (enumerate_from 0 names) (λ placed has. has))
