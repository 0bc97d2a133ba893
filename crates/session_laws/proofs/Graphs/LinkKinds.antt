-- What a link gives a foreign key of a new row: values, or the key of one new row of its target.
use Rattle.std.proofs.Common.{◌≡◌, inl, inr, ℕ, suc, ◌<◌, Bool, true, false, cond, ◌&&◌, ◌==◌, List, [], ◌∷◌, length, map, get_or, Option, None, Some, refl, sym, ap, ◌∙◌, zero-add, arith}
use Rattle.std.proofs.lemmas.Bool.{eqb-true, eq-eqb}
use Rattle.std.proofs.lemmas.List.Quantifiers.{position-Some}
use Rattle.std.proofs.lemmas.Option.{slice_get-get_or}
use Rattle.std.specs.Prelude.{slice_get}
use Rattle.std.specs.List.{enumerate_from, filter, list_any, position, range_with_len}
use Rattle.std.specs.Option.{option_map}
use Rattle.base_core.specs.declared.ids.ClassId.{ClassId}
use Rattle.base_core.specs.declared.ids.ObjId.{ObjId}
use Rattle.base_core.specs.declared.ids.TableId.{TableId}
use Rattle.base_core.specs.declared.refusal.RowName.{RowName}
use Rattle.base_core.specs.declared.value.Value.TheVariants.{Null}
use Rattle.schema_core.specs.declared.changes.RowCell.{RowCell}
use Rattle.schema_core.specs.declared.changes.RowCell.TheVariants.{Given, KeyOf}
use Rattle.schema_core.specs.declared.changes.RowChanges.{RowChanges}
use Rattle.schema_core.specs.declared.table.ColumnSpec.{ColumnSpec}
use Rattle.schema_core.specs.declared.table.ForeignSpec.{ForeignSpec}
use Rattle.schema_core.specs.Catalog.{Catalog, has_name, key_columns, same_name, spec_of, target_of}
use Rattle.schema_core.specs.Declaration.{shares_one, some_two}
use Rattle.schema_core.proofs.Names.{name_itself}
use Rattle.class_types.specs.declared.mapped.Relation.{Relation}
use Rattle.schema_core.specs.Tables.{value_or_null}
use Rattle.class_layouts.specs.Faults.{foreigns_in}
use Rattle.class_mapping.specs.Mapped.{Mapped, class_spec, relations_of}
use Rattle.class_mapping.proofs.Having.{any_has, has_at, true_false}
use Rattle.class_mapping.proofs.Lists.{and_left}
use Rattle.class_mapping.proofs.RelatedKeys.{same_table}
use Rattle.object_arena.specs.Graph.{Graph, object_at}
use Rattle.flush_order.specs.Cells.{cells_cleared, first_cells, is_late, key_parts, new_at, table_at}
use Rattle.object_rows.specs.declared.prepared.Prepared.{Prepared}
use Rattle.object_rows.specs.Cells.{end_cell, first_cell, foreign_cell, is_by, key_cell, linked_cell, or_first, part_cell, place_among, put_cell, relation_cell}
use Rattle.object_rows.specs.Places.{is_row_of}
use Rattle.object_rows.specs.Rows as rows
use Rattle.object_rows.specs.Seen.{end_put, is_kept_end}
use Rattle.session_laws.specs.Plans.Laws.{ComesFrom, IsOneKind, is_given}
use Rattle.session_laws.proofs.Projects.LateKeys.{meets}
use Rattle.session_laws.proofs.Projects.Loose.{no_place, put_of}
use Rattle.session_laws.proofs.Graphs.Named.{given_from, parts_from, place_of_name, two_places}

-- ---- the key of a new row

longer : {X Y : Type 0} (b : Bool) (x : X) (xs : List X) (y : Y) (ys : List Y) → length xs ≡ length ys → length (cond b (x ∷ xs) xs) ≡ length (cond b (y ∷ ys) ys)
longer true x xs y ys e = ap suc e
longer false x xs y ys e = e

-- a row with a cell for each column has as many parts of its key as there are key columns
pub parts_long : (test : ColumnSpec → Bool) (columns : List ColumnSpec) (cells : List RowCell) → length cells ≡ length columns → length (key_parts columns (cells_cleared test (Given Null) columns cells)) ≡ length (filter (λ (column : ColumnSpec). column.key) columns)
parts_long test [] cells e = refl
parts_long test (column ∷ columns) [] e = absurd (omega (arith, e))
parts_long test (column ∷ columns) (cell ∷ cells) e =
    longer column.key (cond (test column) (Given Null) cell) (key_parts columns (cells_cleared test (Given Null) columns cells)) column (filter (λ (own : ColumnSpec). own.key) columns)
    (parts_long test columns cells (omega (arith, e)))

-- rows of these names stand first among the new ones
pub record StandFirst (schema : Catalog) (changes : RowChanges) (names : List RowName) : Type 0 where
  pub at : (q : ℕ) (row : RowName) → slice_get names q ≡ Some row → (q < length changes.fresh) × (table_at changes q ≡ row.table)
  pub whole : (q : ℕ) → q < length changes.fresh → length (new_at changes q).cells ≡ length (spec_of schema (table_at changes q)).columns

-- the foreign key has as many columns as the key of its target
abbrev pub AsLong : Catalog → ForeignSpec → Type 0
AsLong schema foreign = (target : TableId) → target_of schema foreign ≡ Some target → length foreign.columns ≡ length (key_columns (spec_of schema target))

module _ (schema : Catalog) (changes : RowChanges) (graph : Graph) (names : List RowName) (first : StandFirst schema changes names) where
  -- parts of the key of a new row, in order
  pub comes : (foreign : ForeignSpec) → AsLong schema foreign → (q : ℕ) (row : RowName) (target : TableId) (g : List ℕ → RowCell) → slice_get names q ≡ Some row → target_of schema foreign ≡ Some target → row.table ≡ target
      → ((i : ℕ) (name : List ℕ) → slice_get foreign.columns i ≡ Some name → g name ≡ KeyOf q i) → ComesFrom schema changes foreign (map g foreign.columns)
  comes foreign long q row target g at target_is table each =
      let stands = first.at q row at in
      let same : table_at changes q ≡ target = stands.1 ∙ table in
      let parts : length (key_parts (spec_of schema (table_at changes q)).columns (first_cells schema changes q)) ≡ length foreign.columns =
      parts_long (is_late schema changes (table_at changes q)) (spec_of schema (table_at changes q)).columns (new_at changes q).cells (first.whole q stands.0)
      ∙ ap (λ (t : TableId). length (key_columns (spec_of schema t))) same ∙ sym (long target target_is) in (
        q,
        stands.0,
        target_is ∙ ap (λ (t : TableId). Some t) (sym same),
        parts_from q g foreign.columns 0 (λ i name e. each i name e ∙ ap (KeyOf q) (sym (zero-add i))) ∙ ap (λ k. map (KeyOf q) (range_with_len 0 k)) (sym parts),
      )

  -- what a link to one end gives
  pub end_kind : (foreign : ForeignSpec) → AsLong schema foreign → (end : Option ObjId) (g : List ℕ → RowCell)
      → ((i : ℕ) (name : List ℕ) → slice_get foreign.columns i ≡ Some name → g name ≡ end_cell graph names (target_of schema foreign) i end) → IsOneKind schema changes foreign (map g foreign.columns)
  end_kind foreign long None g each = inl (given_from g foreign.columns (λ i name e. ap is_given (each i name e)))
  end_kind foreign long (Some end) g each = by (target_of schema foreign) refl
    where
      placed : (target : TableId) → target_of schema foreign ≡ Some target → (found : Option ℕ) → position (is_row_of target end) names ≡ found → IsOneKind schema changes foreign (map g foreign.columns)
      placed target is None e =
          inl (given_from g foreign.columns (λ i name at. ap is_given (each i name at
          ∙ ap (λ (t : Option TableId). key_cell (place_among names t end) (object_at graph end).identity i) is ∙ ap (λ found. key_cell found (object_at graph end).identity i) e)))
      placed target is (Some q) e =
          let none : RowName = record { table = record { 0 = 0 }; object = record { 0 = 0 } } in
          let at = position-Some (is_row_of target end) names q none e in
          let row = get_or names q none in
          inr (comes foreign long q row target g (slice_get-get_or names q none at.0) is (same_table row.table target (and_left (row.table.0 == target.0) (row.object.0 == end.0) at.1))
          (λ i name own. each i name own
          ∙ ap (λ (t : Option TableId). key_cell (place_among names t end) (object_at graph end).identity i) is ∙ ap (λ found. key_cell found (object_at graph end).identity i) e))

      by : (target : Option TableId) → target_of schema foreign ≡ target → IsOneKind schema changes foreign (map g foreign.columns)
      by None is = inl (given_from g foreign.columns (λ i name at. ap is_given (each i name at ∙ ap (λ (t : Option TableId). key_cell (place_among names t end) (object_at graph end).identity i) is)))
      by (Some target) is = placed target is (position (is_row_of target end) names) refl

-- ---- what the changed links of an object give a foreign key

abbrev pub kept_end : Graph → Prepared → Option (Option ObjId) → Option (Option ObjId)
kept_end graph prepared None = None
kept_end graph prepared (Some end) = cond (is_kept_end graph prepared end) (Some end) None

abbrev pub or_end : Option (Option ObjId) → Option (Option ObjId) → Option (Option ObjId)
or_end None later = later
or_end (Some end) later = Some end

-- the end of the first changed link by the foreign key of this number that is none or in the session
abbrev pub first_end : Graph → Prepared → ObjId → TableId → ℕ → List (ℕ × Relation) → Option (Option ObjId)
first_end graph prepared object table number [] = None
first_end graph prepared object table number (placed ∷ list) =
    or_end (cond (is_by table placed.1 && (placed.1.foreign.1 == number)) (kept_end graph prepared (end_put graph prepared object (record { 0 = placed.0 }))) None)
    (first_end graph prepared object table number list)

or_maps : (h : Option ObjId → RowCell) (one other : Option (Option ObjId)) → or_first (option_map h one) (option_map h other) ≡ option_map h (or_end one other)
or_maps h None other = refl
or_maps h (Some end) other = refl

module _ (mapped : Mapped) (graph : Graph) (prepared : Prepared) (names : List RowName) (table : TableId) (number : ℕ) (foreign : ForeignSpec)
    (at : slice_get (foreigns_in mapped.schema.tables table) number ≡ Some foreign) (apart : some_two shares_one (foreigns_in mapped.schema.tables table) ≡ false)
    (once : some_two same_name foreign.columns ≡ false) where
  -- what a link gives the column of this part
  abbrev part_of_end : ℕ → Option ObjId → RowCell
  part_of_end part = end_cell graph names (target_of mapped.schema foreign) part

  -- a foreign key of another number does not have the column
  pub other_none : (name : List ℕ) → has_name foreign.columns name ≡ true → (k : ℕ) → (k == number) ≡ false → (found : Option ForeignSpec) → slice_get (foreigns_in mapped.schema.tables table) k ≡ found
      → (end : Option ObjId) → foreign_cell mapped.schema graph names name end found ≡ None
  other_none name has k differs None e end = refl
  other_none name has k differs (Some other) e end = by (has_name other.columns name) refl
    where
      by : (b : Bool) → has_name other.columns name ≡ b → part_cell mapped.schema graph names other end (position (λ own. same_name own name) other.columns) ≡ None
      by false h = ap (part_cell mapped.schema graph names other end) (no_place (λ own. same_name own name) other.columns h (position (λ own. same_name own name) other.columns) refl)
      by true h =
          let same : k ≡ number = two_places shares_one (foreigns_in mapped.schema.tables table) k number other foreign apart e at (meets other foreign name h has) (meets foreign other name has h) in
          absurd (true_false (k == number) (eq-eqb k number same) differs)

  linked_step : (part : ℕ) (name : List ℕ) → slice_get foreign.columns part ≡ Some name → (object : ObjId) (placed : ℕ × Relation)
      → relation_cell mapped graph prepared names object table name placed
      ≡ option_map (part_of_end part) (cond (is_by table placed.1 && (placed.1.foreign.1 == number)) (kept_end graph prepared (end_put graph prepared object (record { 0 = placed.0 }))) None)
  linked_step part name own object placed = by (is_by table placed.1) (placed.1.foreign.1 == number) refl
    where
      put : Option (Option ObjId)
      put = end_put graph prepared object (record { 0 = placed.0 })

      has : has_name foreign.columns name ≡ true
      has = any_has (λ other. same_name other name) foreign.columns name (has_at foreign.columns part name own) (name_itself name)

      mine : (given : Option (Option ObjId)) → put_cell mapped.schema graph prepared names name (Some foreign) given ≡ option_map (part_of_end part) (kept_end graph prepared given)
      mine None = refl
      mine (Some end) = kept (is_kept_end graph prepared end)
        where
          kept : (b : Bool) → cond b (foreign_cell mapped.schema graph names name end (Some foreign)) None ≡ option_map (part_of_end part) (cond b (Some end) None)
          kept true = ap (part_cell mapped.schema graph names foreign end) (place_of_name foreign.columns part name once own)
          kept false = refl

      by : (b same : Bool) → (placed.1.foreign.1 == number) ≡ same
          → cond b (put_cell mapped.schema graph prepared names name (slice_get (foreigns_in mapped.schema.tables table) placed.1.foreign.1) put) None ≡ option_map (part_of_end part) (cond (b && same) (kept_end graph prepared put) None)
      by false same e = refl
      by true true e =
          ap (λ found. put_cell mapped.schema graph prepared names name found put) (ap (slice_get (foreigns_in mapped.schema.tables table)) (eqb-true placed.1.foreign.1 number e) ∙ at) ∙ mine put
      by true false e =
          put_of mapped.schema graph prepared names name (slice_get (foreigns_in mapped.schema.tables table) placed.1.foreign.1)
          (other_none name has placed.1.foreign.1 e (slice_get (foreigns_in mapped.schema.tables table) placed.1.foreign.1) refl) put

  -- all columns come from the same link
  linked_as : (part : ℕ) (name : List ℕ) → slice_get foreign.columns part ≡ Some name → (object : ObjId) (list : List (ℕ × Relation))
      → first_cell (map (relation_cell mapped graph prepared names object table name) list) ≡ option_map (part_of_end part) (first_end graph prepared object table number list)
  linked_as part name own object [] = refl
  linked_as part name own object (placed ∷ list) =
      let one = cond (is_by table placed.1 && (placed.1.foreign.1 == number)) (kept_end graph prepared (end_put graph prepared object (record { 0 = placed.0 }))) None in
      ap (λ first. or_first first (first_cell (map (relation_cell mapped graph prepared names object table name) list))) (linked_step part name own object placed)
      ∙ ap (or_first (option_map (part_of_end part) one)) (linked_as part name own object list)
      ∙ or_maps (part_of_end part) one (first_end graph prepared object table number list)

  module _ (changes : RowChanges) (first : StandFirst mapped.schema changes names) (long : AsLong mapped.schema foreign)
      (free : (class : ClassId) (name : List ℕ) → rows.is_discriminator mapped class table name ≡ true → list_any (λ (f : ForeignSpec). has_name f.columns name) (foreigns_in mapped.schema.tables table) ≡ false) where
    -- each column is one of the row's own
    abbrev IsOwnCell : RowName → (List ℕ → RowCell) → Type 0
    IsOwnCell row g = (i : ℕ) (name : List ℕ) → slice_get foreign.columns i ≡ Some name → (column : ℕ × ColumnSpec) × (column.1.name ≡ name) × (g name ≡ rows.own_cell mapped graph prepared names row column)

    not_discriminator : (class : ClassId) (i : ℕ) (name : List ℕ) → slice_get foreign.columns i ≡ Some name → (b : Bool) → rows.is_discriminator mapped class table name ≡ b → b ≡ false
    not_discriminator class i name own false e = refl
    not_discriminator class i name own true e =
        true_false (list_any (λ (f : ForeignSpec). has_name f.columns name) (foreigns_in mapped.schema.tables table))
        (any_has (λ (f : ForeignSpec). has_name f.columns name) (foreigns_in mapped.schema.tables table) foreign (has_at (foreigns_in mapped.schema.tables table) number foreign at)
        (any_has (λ other. same_name other name) foreign.columns name (has_at foreign.columns i name own) (name_itself name)))
        (free class name e)

    pub own_kind : (row : RowName) → row.table ≡ table → (g : List ℕ → RowCell) → IsOwnCell row g → IsOneKind mapped.schema changes foreign (map g foreign.columns)
    own_kind row is g each = by (first_end graph prepared row.object table number list) refl
      where
        class : ClassId
        class = (object_at graph row.object).class

        list : List (ℕ × Relation)
        list = enumerate_from 0 (relations_of mapped class)

        cell : (i : ℕ) (name : List ℕ) → slice_get foreign.columns i ≡ Some name → (column : ℕ × ColumnSpec) × (g name ≡ rows.cell_or (option_map (part_of_end i) (first_end graph prepared row.object table number list)) (rows.cell_for mapped (object_at graph row.object) row.table column.0))
        cell i name own =
            let found = each i name own in
            let own_value = rows.cell_for mapped (object_at graph row.object) row.table found.0.0 in
            let told : rows.is_discriminator mapped class row.table found.0.1.name ≡ false =
            ap (λ (t : TableId). rows.is_discriminator mapped class t found.0.1.name) is ∙ ap (rows.is_discriminator mapped class table) found.1
            ∙ not_discriminator class i name own (rows.is_discriminator mapped class table name) refl in
            let linked : linked_cell mapped graph prepared names row.object row.table found.0.1.name ≡ option_map (part_of_end i) (first_end graph prepared row.object table number list) =
            ap (λ (t : TableId). linked_cell mapped graph prepared names row.object t found.0.1.name) is ∙ ap (linked_cell mapped graph prepared names row.object table) found.1
            ∙ linked_as i name own row.object list in (
              found.0,
              found.2
                  ∙ ap (λ b. cond b (Given (value_or_null (class_spec mapped class).identity)) (rows.cell_or (linked_cell mapped graph prepared names row.object row.table found.0.1.name) own_value)) told
                  ∙ ap (λ link. rows.cell_or link own_value) linked,
            )

        by : (end : Option (Option ObjId)) → first_end graph prepared row.object table number list ≡ end → IsOneKind mapped.schema changes foreign (map g foreign.columns)
        by None e = inl (given_from g foreign.columns (λ i name own.
            let found = cell i name own in
            ap is_given (found.1 ∙ ap (λ end. rows.cell_or (option_map (part_of_end i) end) (rows.cell_for mapped (object_at graph row.object) row.table found.0.0)) e)))
        by (Some end) e = end_kind mapped.schema changes graph names first foreign long end g (λ i name own.
            let found = cell i name own in
            found.1 ∙ ap (λ given. rows.cell_or (option_map (part_of_end i) given) (rows.cell_for mapped (object_at graph row.object) row.table found.0.0)) e)
