-- The rows of objects fit: those of new ones, the cells that change of others, and the keys of all.
use Rattle.std.proofs.Common.{◌≡◌, ℕ, zero, suc, ◌+◌, ◌-◌, ◌<◌, Bool, true, false, not, ◌&&◌, ◌==◌, List, [], ◌∷◌, length, map, get_or, Option, None, Some, refl, sym, ap, ◌∙◌, arith}
use Rattle.std.specs.Prelude.{if◌then◌else◌, nat_lt, slice_get}
use Rattle.std.specs.List.{position}
use Rattle.std.specs.Option.{option_and_then, option_map}
use Rattle.std.proofs.lemmas.Bool.{and_from, and_parts, eqb-true}
use Rattle.std.proofs.lemmas.Bool.Decides.{nat_tests}
use Rattle.std.proofs.lemmas.List.Quantifiers.{position-Some}
use Rattle.std.proofs.lemmas.Option.{same_Some, slice_get-get_or, slice_get-map, slice_get_within}
use Rattle.base_core.specs.declared.ids.ClassId.{ClassId}
use Rattle.base_core.specs.declared.ids.ColumnNo.{ColumnNo}
use Rattle.base_core.specs.declared.ids.ObjId.{ObjId}
use Rattle.base_core.specs.declared.ids.TableId.{TableId}
use Rattle.base_core.specs.declared.refusal.RowName.{RowName}
use Rattle.base_core.specs.declared.value.Kind.{Kind}
use Rattle.base_core.specs.declared.value.Value.{Value}
use Rattle.base_core.specs.declared.value.Value.TheVariants.{Bool as BoolValue, Bytes, Int, Null, Text}
use Rattle.schema_core.specs.declared.changes.RowCell.{RowCell}
use Rattle.schema_core.specs.declared.changes.RowCell.TheVariants.{Given, KeyOf}
use Rattle.schema_core.specs.declared.changes.RowChanges.{RowChanges}
use Rattle.schema_core.specs.declared.table.ColumnSpec.{ColumnSpec}
use Rattle.schema_core.specs.Catalog.{IsTable, key_columns, kind_of, same_kind, same_name, spec_of}
use Rattle.schema_core.specs.Tables.{kind_of_value, value_or_null}
use Rattle.schema_core.specs.WellFormed.{may_hold}
use Rattle.schema_core.proofs.Names.{name_itself}
use Rattle.sql_semantics.proofs.Typed.{kind_itself}
use Rattle.class_types.specs.declared.mapped.Attribute.{Attribute}
use Rattle.class_layouts.specs.Columns.{columns_in}
use Rattle.class_mapping.specs.Mapped.{IsClass, Mapped, attributes_of, class_spec, no_attribute, tables_of}
use Rattle.class_mapping.proofs.Having.{has_at, has_filter}
use Rattle.class_mapping.proofs.RelatedKeys.{same_table}
use Rattle.mapping_laws.specs.Hierarchies.{HasHierarchies, kinds_of}
use Rattle.mapping_laws.proofs.Attributes.{attribute_kind}
use Rattle.mapping_laws.proofs.Ties.{class_tables, table_faultless}
use Rattle.object_arena.specs.declared.object.Cell.{Cell}
use Rattle.object_arena.specs.declared.object.Object.{Object}
use Rattle.object_arena.specs.Fit as arena
use Rattle.object_arena.specs.Fit.{IsFit, is_of_kind, value_fits}
use Rattle.object_arena.specs.Graph.{Graph, IsObject, object_at}
use Rattle.object_arena.proofs.FitLemmas.{fit_at, fit_class}
use Rattle.flush_order.specs.Cells.{table_at}
use Rattle.object_rows.specs.declared.prepared.Prepared.{Prepared}
use Rattle.object_rows.specs.Cells.{linked_cell}
use Rattle.object_rows.specs.Rows as rows
use Rattle.object_rows.specs.Rows.{cell_change, cell_for, change_to, columns_at, in_column, is_at, is_base, is_discriminator, is_joined, key_part, linked_change, own_cell, own_change, row_name, value_now}
use Rattle.object_rows.specs.Seen.{new_objects}
use Rattle.session_laws.specs.Graphs.{IsWellMapped}
use Rattle.session_laws.proofs.Graphs.MappingFacts.{free_law}
use Rattle.session_laws.proofs.Graphs.Named.{filter_place, in_piece, opposite, two_places}
use Rattle.session_laws.proofs.Graphs.OwnKinds.{first_rows}
use Rattle.session_laws.proofs.Projects.Apart.{none_given}
use Rattle.session_laws.proofs.Projects.Loose.{IsOwn, has_place, joined_rank}
use Rattle.row_project.specs.Changes.{object_changes}
use Rattle.session_laws.specs.Sendable.{cell_fits, takes_part}
use Rattle.session_laws.proofs.Sendable.Links.{linked_fits}
use Rattle.session_laws.proofs.Sendable.Told.{told_held}

-- ---- values

-- NULL, or a value of the column's kind
kind_held : (column : ColumnSpec) (value : Value) → is_of_kind (kind_of column.kind) (kind_of_value value) ≡ true → may_hold column value ≡ true
kind_held column Null h = refl
kind_held column (BoolValue b) h = h
kind_held column (Int n) h = h
kind_held column (Text t) h = h
kind_held column (Bytes b) h = h

-- the column at a place of a list of the same kinds
kind_beside : (ones others : List ColumnSpec) (i : ℕ) (column : ColumnSpec) → kinds_of ones ≡ kinds_of others → slice_get others i ≡ Some column → (one : ColumnSpec) × (slice_get ones i ≡ Some one) × (kind_of one.kind ≡ kind_of column.kind)
kind_beside [] [] i column same at = absurd cc
kind_beside (one ∷ ones) [] i column same at = absurd cc
kind_beside [] (other ∷ others) i column same at = absurd cc
kind_beside (one ∷ ones) (other ∷ others) zero column same at =
    let first : kind_of one.kind ≡ kind_of other.kind = cc in
    (one, refl, first ∙ ap (λ (c : ColumnSpec). kind_of c.kind) (same_Some other column at))
kind_beside (one ∷ ones) (other ∷ others) (suc i) column same at = let rest : kinds_of ones ≡ kinds_of others = cc in kind_beside ones others i column rest at

-- what a link or an object changes is what it gives
change_is : (base : Option Value) (value : Value) (cell : RowCell) → change_to base value ≡ Some cell → cell ≡ Given value
change_is base value cell = by (is_base base value)
  where
    by : (b : Bool) → (if b then None else Some (Given value)) ≡ Some cell → cell ≡ Given value
    by true is = absurd cc
    by false is = sym (same_Some (Given value) cell is)

pub link_change_is : (base : Option Value) (cell now : RowCell) → linked_change base cell ≡ Some now → now ≡ cell
link_change_is base (KeyOf place part) now is = sym (same_Some (KeyOf place part) now is)
link_change_is base (Given value) now is = change_is base value now is

-- the cell of a column
pub column_cell : (n : ℕ) (found : Option RowCell) (cell : ColumnNo × RowCell) → in_column n found ≡ Some cell → (cell.0.0 ≡ n) × (found ≡ Some cell.1)
column_cell n None cell is = absurd cc
column_cell n (Some own) cell is = let same : (record { 0 = n }, own) ≡ cell = cc in (ap (λ (c : ColumnNo × RowCell). c.0.0) (sym same), ap (λ (c : ColumnNo × RowCell). Some c.1) same)

module _ (mapped : Mapped) (well : IsWellMapped mapped) (has : HasHierarchies mapped) (graph : Graph) (prepared : Prepared) (fit : IsFit mapped graph) where
  abbrev first : RowChanges
  first = object_changes mapped graph prepared

  abbrev names : List RowName
  names = rows.new_names mapped graph prepared

  abbrev class_at : ObjId → ClassId
  class_at object = (object_at graph object).class

  abbrev columns_of : TableId → List ColumnSpec
  columns_of table = (spec_of mapped.schema table).columns

  stands : (q : ℕ) (row : RowName) → slice_get names q ≡ Some row → (q < length first.fresh) × (table_at first q ≡ row.table)
  stands q row at = (first_rows mapped well.lined well.lines well.valid well.declared (free_law mapped well.lined well.lines) graph prepared fit).at q row at

  -- ---- what an object holds

  cell_at : (object : ObjId) (table : TableId) (n : ℕ) (column : ColumnSpec) (cell : Cell) → IsObject graph object → slice_get (columns_of table) n ≡ Some column → cell_for mapped (object_at graph object) table n ≡ Some cell → (value : Value) → cell.value ≡ Some value → may_hold column value ≡ true
  cell_at object table n column cell made at found value is = by (position (is_at table n) (attributes_of mapped (class_at object))) refl found
    where
      it : Object
      it = object_at graph object

      by : (place : Option ℕ) → position (is_at table n) (attributes_of mapped (class_at object)) ≡ place → option_and_then (slice_get (object_at graph object).cells) place ≡ Some cell → may_hold column value ≡ true
      by None e none = absurd cc
      by (Some i) e there =
          let all : List Attribute = attributes_of mapped (class_at object) in
          let stands_at = position-Some (is_at table n) all i no_attribute e in
          let attribute : Attribute = get_or all i no_attribute in
          let here : slice_get all i ≡ Some attribute = slice_get-get_or all i no_attribute stands_at.0 in
          let parts = and_parts (attribute.table.0 == table.0) (attribute.column.0 == n) stands_at.1 in
          let of = attribute_kind mapped (class_at object) attribute (has_at all i attribute here) in
          let same : of.column ≡ column =
          same_Some of.column column (sym of.there ∙ ap (λ (t : TableId). slice_get (columns_in mapped.schema.tables t) attribute.column.0) (same_table attribute.table table parts.0) ∙ ap (slice_get (columns_of table)) (eqb-true attribute.column.0 n parts.1) ∙ at) in
          let own = opposite arena.cell_fits all it.cells i attribute (fit_at mapped graph object fit made).cells here in
          let is_own : own.0 ≡ cell = same_Some own.0 cell (sym own.1 ∙ there) in
          let fits : value_fits attribute cell.value ≡ true = ap (λ (c : Cell). value_fits attribute c.value) (sym is_own) ∙ (and_parts (value_fits attribute own.0.value) (value_fits attribute own.0.base) own.2).0 in
          kind_held column value (ap (λ (k : Kind). is_of_kind k (kind_of_value value)) (ap (λ (c : ColumnSpec). kind_of c.kind) (sym same) ∙ of.kind) ∙ ap (value_fits attribute) (sym is) ∙ fits)

  now_held : (object : ObjId) (table : TableId) (n : ℕ) (column : ColumnSpec) → IsObject graph object → slice_get (columns_of table) n ≡ Some column → may_hold column (value_now (cell_for mapped (object_at graph object) table n)) ≡ true
  now_held object table n column made at = by (cell_for mapped (object_at graph object) table n) refl
    where
      by_value : (cell : Cell) → cell_for mapped (object_at graph object) table n ≡ Some cell → (value : Option Value) → cell.value ≡ value → may_hold column (value_or_null value) ≡ true
      by_value cell found None is = refl
      by_value cell found (Some value) is = cell_at object table n column cell made at found value is

      by : (found : Option Cell) → cell_for mapped (object_at graph object) table n ≡ found → may_hold column (value_now found) ≡ true
      by None e = refl
      by (Some cell) e = by_value cell e cell.value refl

  -- ---- new rows

  own_cell_fits : (row : RowName) (n : ℕ) (column : ColumnSpec) → IsObject graph row.object → IsTable mapped.schema row.table → slice_get (columns_of row.table) n ≡ Some column → cell_fits mapped.schema first column (own_cell mapped graph prepared names row (n, column)) ≡ true
  own_cell_fits row n column made inside at = by (is_discriminator mapped (class_at row.object) row.table column.name) refl
    where
      is : IsClass mapped (class_at row.object)
      is = fit_class mapped graph row.object fit made

      linked : (found : Option RowCell) → linked_cell mapped graph prepared names row.object row.table column.name ≡ found → cell_fits mapped.schema first column (rows.cell_or found (cell_for mapped (object_at graph row.object) row.table n)) ≡ true
      linked None e = now_held row.object row.table n column made at
      linked (Some cell) e = linked_fits mapped has well.related graph prepared fit first names stands row.table inside row.object made is column (has_at (columns_of row.table) n column at) cell e

      by : (b : Bool) → is_discriminator mapped (class_at row.object) row.table column.name ≡ b
          → cell_fits mapped.schema first column (if b then Given (value_or_null (class_spec mapped (class_at row.object)).identity) else rows.cell_or (linked_cell mapped graph prepared names row.object row.table column.name) (cell_for mapped (object_at graph row.object) row.table n)) ≡ true
      by true e = told_held mapped has (class_at row.object) is row.table inside column (has_at (columns_of row.table) n column at) e
      by false e = linked (linked_cell mapped graph prepared names row.object row.table column.name) refl

  -- which part of the key a key column is
  part_is : (table : TableId) → IsTable mapped.schema table → (n : ℕ) (column : ColumnSpec) → slice_get (columns_of table) n ≡ Some column → column.key ≡ true → slice_get (key_columns (spec_of mapped.schema table)) (key_part (columns_of table) n) ≡ Some column
  part_is table inside n column at key =
      let columns : List ColumnSpec = columns_of table in
      let among = has_place (key_columns (spec_of mapped.schema table)) column (has_filter (λ (c : ColumnSpec). c.key) columns column (has_at columns n column at) key) in
      let place = filter_place (λ (c : ColumnSpec). c.key) columns among.0 column among.1 in
      let same : place.0 ≡ n = two_places (λ (one other : ColumnSpec). same_name one.name other.name) columns place.0 n column column (table_faultless mapped table has inside).apart place.1 at (name_itself column.name) (name_itself column.name) in
      ap (slice_get (key_columns (spec_of mapped.schema table))) (ap (key_part columns) (sym same) ∙ place.3) ∙ among.1

  -- a part of the key of the row before, which is the same object's
  before_fits : (p : ℕ) (row parent : RowName) (n : ℕ) (column : ColumnSpec) → IsTable mapped.schema row.table → slice_get (columns_of row.table) n ≡ Some column → column.key ≡ true → slice_get names (p - 1) ≡ Some parent
      → kinds_of (key_columns (spec_of mapped.schema parent.table)) ≡ kinds_of (key_columns (spec_of mapped.schema row.table)) → cell_fits mapped.schema first column (KeyOf (p - 1) (key_part (columns_of row.table) n)) ≡ true
  before_fits p row parent n column inside at key before alike =
      let part : ℕ = key_part (columns_of row.table) n in
      let new = stands (p - 1) parent before in
      let own = kind_beside (key_columns (spec_of mapped.schema parent.table)) (key_columns (spec_of mapped.schema row.table)) part column alike (part_is row.table inside n column at key) in
      let less : p - 1 < length first.fresh = new.0 in
      let there : nat_lt (p - 1) (length first.fresh) ≡ true = grind (arith, nat_tests) in
      and_from (nat_lt (p - 1) (length first.fresh)) (takes_part column (slice_get (key_columns (spec_of mapped.schema (table_at first (p - 1)))) part)) there
      (ap (λ (t : TableId). takes_part column (slice_get (key_columns (spec_of mapped.schema t)) part)) new.1 ∙ ap (takes_part column) own.1 ∙ ap (same_kind (kind_of column.kind)) own.2 ∙ kind_itself (kind_of column.kind))

  joined_fits : (p : ℕ) (row : RowName) (n : ℕ) (column : ColumnSpec) → slice_get names p ≡ Some row → IsOwn mapped well.lined well.lines well.valid graph prepared fit row → IsTable mapped.schema row.table → slice_get (columns_of row.table) n ≡ Some column → column.key ≡ true
      → is_joined mapped (class_at row.object) row.table ≡ true → cell_fits mapped.schema first column (KeyOf (p - 1) (key_part (columns_of row.table) n)) ≡ true
  unfolding rows.new_names
  joined_fits p row n column at own inside there key joined =
      let piece = in_piece (rows.rows_of mapped graph) (new_objects graph prepared) p row at in
      let list : List TableId = tables_of mapped (class_at piece.item) in
      let table = none_given (row_name piece.item) (slice_get list piece.rank) row (sym (slice_get-map (row_name piece.item) list piece.rank) ∙ piece.is) in
      let object : piece.item ≡ row.object = ap (λ (r : RowName). r.object) table.2 in
      let ranked : slice_get (tables_of mapped (class_at row.object)) piece.rank ≡ Some row.table =
      ap (λ (o : ObjId). slice_get (tables_of mapped (class_at o)) piece.rank) (sym object) ∙ table.1 ∙ ap (λ (r : RowName). Some r.table) table.2 in
      by piece.rank piece.offset piece.at ranked
      (λ k other e. piece.piece k (row_name row.object other)
      (ap (λ (o : ObjId). slice_get (map (row_name o) (tables_of mapped (class_at o))) k) object ∙ slice_get-map (row_name row.object) (tables_of mapped (class_at row.object)) k ∙ ap (option_map (row_name row.object)) e))
    where
      by : (rank offset : ℕ) → p ≡ offset + rank → slice_get (tables_of mapped (class_at row.object)) rank ≡ Some row.table
          → ((k : ℕ) (other : TableId) → slice_get (tables_of mapped (class_at row.object)) k ≡ Some other → slice_get (rows.new_names mapped graph prepared) (offset + k) ≡ Some (row_name row.object other))
          → cell_fits mapped.schema first column (KeyOf (p - 1) (key_part (columns_of row.table) n)) ≡ true
      by zero offset is ranked names_at = absurd (let e : true ≡ false = joined_rank mapped well.lined well.lines well.valid (class_at row.object) own.0 row.table zero ranked joined in cc)
      by (suc r) offset is ranked names_at =
          let class : ClassId = class_at row.object in
          let tables : List TableId = tables_of mapped class in
          let parent : TableId = get_or tables r row.table in
          let below : slice_get tables r ≡ Some parent = slice_get-get_or tables r row.table (omega (arith, slice_get_within tables (suc r) row.table ranked)) in
          let before : slice_get (rows.new_names mapped graph prepared) (p - 1) ≡ Some (row_name row.object parent) = ap (slice_get (rows.new_names mapped graph prepared)) (let e : p - 1 ≡ offset + r = omega (arith, is) in e) ∙ names_at r parent below in
          before_fits p row (row_name row.object parent) n column inside there key before ((class_tables mapped class has own.0).alike r parent row.table below ranked)

  pub new_cell_fits : (p : ℕ) (row : RowName) (n : ℕ) (column : ColumnSpec) → slice_get names p ≡ Some row → IsOwn mapped well.lined well.lines well.valid graph prepared fit row → IsObject graph row.object → IsTable mapped.schema row.table
      → slice_get (columns_of row.table) n ≡ Some column → cell_fits mapped.schema first column (rows.new_cell mapped graph prepared names (p, row) (n, column)) ≡ true
  new_cell_fits p row n column at own made inside there = by (is_joined mapped (class_at row.object) row.table) column.key refl refl
    where
      by : (joined key : Bool) → is_joined mapped (class_at row.object) row.table ≡ joined → column.key ≡ key
          → cell_fits mapped.schema first column (if joined && key then KeyOf (p - 1) (key_part (columns_at mapped row.table) n) else own_cell mapped graph prepared names row (n, column)) ≡ true
      by false key j k = own_cell_fits row n column made inside there
      by true false j k = own_cell_fits row n column made inside there
      by true true j k = joined_fits p row n column at own inside there k j

  -- ---- changed cells

  pub changed_fits : (object : ObjId) (table : TableId) (n : ℕ) (column : ColumnSpec) → IsObject graph object → IsTable mapped.schema table → slice_get (columns_of table) n ≡ Some column → (cell : ColumnNo × RowCell)
      → rows.changed_cell mapped graph prepared names object table (n, column) ≡ Some cell → (cell.0.0 ≡ n) × (not column.key ≡ true) × (cell_fits mapped.schema first column cell.1 ≡ true)
  changed_fits object table n column made inside at cell = by column.key refl
    where
      of_cell : (own : Cell) → cell_for mapped (object_at graph object) table n ≡ Some own → (linked : Option RowCell) → linked_cell mapped graph prepared names object table column.name ≡ linked → cell_change linked own ≡ Some cell.1 → cell_fits mapped.schema first column cell.1 ≡ true
      of_cell own found (Some given) e is =
          ap (cell_fits mapped.schema first column) (link_change_is own.base given cell.1 is)
          ∙ linked_fits mapped has well.related graph prepared fit first names stands table inside object made (fit_class mapped graph object fit made) column (has_at (columns_of table) n column at) given e
      of_cell own found None e is = held own.value refl is
        where
          held : (value : Option Value) → own.value ≡ value → own_change own.base value ≡ Some cell.1 → cell_fits mapped.schema first column cell.1 ≡ true
          held None v none = absurd cc
          held (Some value) v given = ap (cell_fits mapped.schema first column) (change_is own.base value cell.1 given) ∙ cell_at object table n column own made at found value v

      of_found : (found : Option Cell) → cell_for mapped (object_at graph object) table n ≡ found → rows.change_in mapped graph prepared names object table column.name found ≡ Some cell.1 → cell_fits mapped.schema first column cell.1 ≡ true
      of_found None e is = absurd cc
      of_found (Some own) e is = of_cell own e (linked_cell mapped graph prepared names object table column.name) refl is

      by : (key : Bool) → column.key ≡ key → (if key then None else in_column n (rows.change_at mapped graph prepared names object table (n, column))) ≡ Some cell → (cell.0.0 ≡ n) × (not column.key ≡ true) × (cell_fits mapped.schema first column cell.1 ≡ true)
      by true k is = absurd cc
      by false k is =
          let own = column_cell n (rows.change_at mapped graph prepared names object table (n, column)) cell is in
          (own.0, ap not k, of_found (cell_for mapped (object_at graph object) table n) refl own.1)
