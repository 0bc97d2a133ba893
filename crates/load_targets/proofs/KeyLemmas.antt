-- A foreign key whose cells have no NULL is a key of the target of its relationship.
use Rattle.std.proofs.Common.{◌≡◌, ℕ, ◌<◌, Bool, true, false, ◌&&◌, ◌==◌, List, [], ◌∷◌, map, length, get_or, Option, None, Some, if◌then◌else◌, refl, sym, ap, subst, ◌∙◌, arith}
use Rattle.std.specs.Prelude.{slice_get, unwrap_or, is_some}
use Rattle.std.specs.Option.{option_and_then}
use Rattle.std.specs.List.{enumerate_from, list_all, position}
use Rattle.std.specs.Cmp.Lexicographic.{pointwise}
use Rattle.std.proofs.lemmas.Bool.{and_parts, eqb-true}
use Rattle.std.proofs.lemmas.List.Quantifiers.{position-Some}
use Rattle.std.proofs.lemmas.Option.{get_or_from_slice_get, slice_get-get_or, slice_get_within}
use Rattle.base_core.specs.declared.ids.ClassId.{ClassId}
use Rattle.base_core.specs.declared.ids.TableId.{TableId}
use Rattle.base_core.specs.declared.value.Kind.{Kind}
use Rattle.base_core.specs.declared.value.Kind.TheVariants as kinds
use Rattle.base_core.specs.declared.value.Value.{Value}
use Rattle.base_core.specs.declared.value.Value.TheVariants as value
use Rattle.schema_core.specs.declared.table.ColumnSpec.{ColumnSpec}
use Rattle.schema_core.specs.declared.table.TableSpec.{TableSpec}
use Rattle.schema_core.specs.Catalog.{key_columns, kind_of, same_kind, same_name, spec_of}
use Rattle.schema_core.specs.Declaration.{has_kind, some_two}
use Rattle.schema_core.specs.Tables.{fits, has_null, is_null, kind_of_value, value_or_null}
use Rattle.schema_core.proofs.Names.{same_names}
use Rattle.sql_semantics.proofs.Typed.{same_kind_is}
use Rattle.class_types.specs.declared.mapped.Attribute.{Attribute}
use Rattle.class_types.specs.declared.mapped.Relation.{Relation}
use Rattle.class_layouts.specs.Columns.{columns_in, table_attributes, tables_on}
use Rattle.class_layouts.specs.Hierarchy.{line_of}
use Rattle.class_sides.specs.Keys.{TableKey, columns_at as names_in, foreign_at, names_of}
use Rattle.class_sides.specs.Pairs.{differ}
use Rattle.class_sides.specs.Sides.{has_attribute}
use Rattle.class_mapping.specs.Mapped.{Mapped, attributes_of, layout_of, no_attribute, root_spec, tables_of}
use Rattle.class_mapping.specs.Paired.{IsAt, IsBack}
use Rattle.class_mapping.specs.Related.{IsRelated, has_keys}
use Rattle.class_mapping.specs.Valid.{is_among, joins, refers_by}
use Rattle.class_mapping.proofs.Having.{Has, from_flat, has_at, one_of_name, some_of}
use Rattle.class_mapping.proofs.Lists.{or_left, or_right}
use Rattle.class_mapping.proofs.PlainLemmas.{two_named}
use Rattle.object_arena.specs.declared.object.Cell.{Cell}
use Rattle.object_arena.specs.declared.object.Object.{Object}
use Rattle.object_arena.specs.Fit.{ObjectFits, cell_fits, is_of_kind, key_fits, value_fits}
use Rattle.relations.specs.Parents.{is_column}
use Rattle.mapping_laws.specs.Hierarchies.{HasHierarchies, kinds_of}
use Rattle.mapping_laws.proofs.Attributes.{of_column}
use Rattle.mapping_laws.proofs.Tables.{tables_declared}
use Rattle.mapping_laws.proofs.Ties.{class_tables, table_faultless}
use Rattle.collection_selects.proofs.Keys.{turned_kind}
use Rattle.collection_selects.proofs.MemberLemmas.{among_has, foreign_kinds, kinds_along, place_in, referred}
use Rattle.collection_selects.proofs.Standing.{is_of}
use Rattle.collection_selects.proofs.Typed.{fit_kinds}
use Rattle.mapping_laws.proofs.KeyKinds.{keys_alike}
use Rattle.load_rows.proofs.LinkLemmas.{pointwise_at}
use Rattle.load_targets.specs.ForeignKeys.{attr_named, foreign_attrs, foreign_key, value_at}

-- ---- values

-- a value of a kind that is no NULL
value_kinded : (v : Value) (kind : Kind) → is_null v ≡ false → is_of_kind kind (kind_of_value v) ≡ true → is_of kind v ≡ true
value_kinded value.Null kind given h = absurd cc
value_kinded (value.Bool b) kind given h = turned_kind kind kinds.Boolean h
value_kinded (value.Int n) kind given h = turned_kind kind kinds.Integer h
value_kinded (value.Text s) kind given h = turned_kind kind kinds.Text h
value_kinded (value.Bytes s) kind given h = turned_kind kind kinds.Bytes h

column_takes : (column : ColumnSpec) (v : Value) → is_of (kind_of column.kind) v ≡ true → fits column v ≡ true
column_takes column value.Null h = absurd cc
column_takes column (value.Bool b) h = turned_kind kinds.Boolean (kind_of column.kind) h
column_takes column (value.Int n) h = turned_kind kinds.Integer (kind_of column.kind) h
column_takes column (value.Text s) h = turned_kind kinds.Text (kind_of column.kind) h
column_takes column (value.Bytes s) h = turned_kind kinds.Bytes (kind_of column.kind) h

columns_take : (columns : List ColumnSpec) (key : List Value) → fit_kinds (kinds_of columns) key ≡ true → pointwise fits columns key ≡ true
columns_take [] [] h = refl
columns_take [] (v ∷ key) h = absurd cc
columns_take (column ∷ columns) [] h = absurd cc
columns_take (column ∷ columns) (v ∷ key) h =
    let parts = and_parts (is_of (kind_of column.kind) v) (fit_kinds (kinds_of columns) key) h in
    ap (λ (b : Bool). b && pointwise fits columns key) (column_takes column v parts.0) ∙ columns_take columns key parts.1

held_value : (a : Attribute) (found : Option Value) (kind : Kind) → value_fits a found ≡ true → a.kind ≡ kind → is_null (value_or_null found) ≡ false → is_of kind (value_or_null found) ≡ true
held_value a None kind fit same given = absurd cc
held_value a (Some v) kind fit same given = value_kinded v kind given (ap (λ (k : Kind). is_of_kind k (kind_of_value v)) (sym same) ∙ fit)

held_cell : (a : Attribute) (found : Option Cell) (kind : Kind) → ((cell : Cell) → found ≡ Some cell → cell_fits a cell ≡ true) → a.kind ≡ kind
    → is_null (value_or_null (option_and_then (λ (cell : Cell). cell.value) found)) ≡ false → is_of kind (value_or_null (option_and_then (λ (cell : Cell). cell.value) found)) ≡ true
held_cell a None kind fit same given = absurd cc
held_cell a (Some cell) kind fit same given = held_value a cell.value kind (and_parts (value_fits a cell.value) (value_fits a cell.base) (fit cell refl)).0 same given

no_cell : {A : Type 0} (cells : List Cell) (n : ℕ) (found : Option Cell) → length cells ≡ n → slice_get cells n ≡ found → is_null (value_or_null (option_and_then (λ (cell : Cell). cell.value) found)) ≡ false → A
no_cell cells n None long e given = absurd cc
no_cell cells n (Some cell) long e given = let within : n < length cells = slice_get_within cells n cell e in absurd (omega (arith, within, long))

-- ---- the columns of a foreign key

module _ (mapped : Mapped) (object : Object) (table : TableId) (fit : ObjectFits mapped object) (apart : some_two (λ (one other : ColumnSpec). same_name one.name other.name) (spec_of mapped.schema table).columns ≡ false) where
  abbrev attributes : List Attribute
  attributes = attributes_of mapped object.class

  abbrev columns : List ColumnSpec
  columns = (spec_of mapped.schema table).columns

  -- an attribute of a column's name is of the column's kind
  named_kind : (name : List ℕ) (target : ColumnSpec) (a : Attribute) → has_kind columns name target ≡ true → Has attributes a → is_column table name a ≡ true → a.kind ≡ kind_of target.kind
  named_kind name target a h there is =
      let parts = and_parts (a.table.0 == table.0) (same_name a.name name) is in
      let same_table : a.table ≡ table = ap (λ (n : ℕ). let one : TableId = record { 0 = n } in one) (eqb-true a.table.0 table.0 parts.0) in
      let line : List ClassId = line_of mapped.classes object.class.0 in
      let found = from_flat (table_attributes mapped.schema.tables mapped.classes line) (enumerate_from 0 (tables_on mapped.schema.tables mapped.classes line)) a there in
      let of = of_column mapped line found.0 a found.2 in
      let column : ColumnSpec = of.placed.1 in
      let own_table : found.0.1 ≡ table = ap (λ (x : Attribute). x.table) of.is ∙ same_table in
      let stands : Has columns column = subst (λ (t : TableId). Has (columns_in mapped.schema.tables t) column) own_table (has_at (columns_in mapped.schema.tables found.0.1) of.placed.0 column of.there) in
      let one = some_of (λ (c : ColumnSpec). same_name c.name name && same_kind (kind_of c.kind) (kind_of target.kind)) columns h in
      let both = and_parts (same_name one.0.name name) (same_kind (kind_of one.0.kind) (kind_of target.kind)) one.2 in
      let named : column.name ≡ one.0.name = ap (λ (x : Attribute). x.name) of.is ∙ same_names a.name name parts.1 ∙ sym (same_names one.0.name name both.0) in
      let same : column ≡ one.0 = one_of_name (λ (c : ColumnSpec). c.name) columns column one.0 (two_named columns ∙ apart) stands one.1 named in
      sym (ap (λ (x : Attribute). x.kind) of.is) ∙ ap (λ (c : ColumnSpec). kind_of c.kind) same ∙ same_kind_is (kind_of one.0.kind) (kind_of target.kind) both.1

  cell_at_place : (p : ℕ) (cell : Cell) → p < length attributes → slice_get object.cells p ≡ Some cell → cell_fits (get_or attributes p no_attribute) cell ≡ true
  cell_at_place p cell less e =
      ap (cell_fits (get_or attributes p no_attribute)) (sym (get_or_from_slice_get object.cells p cell cell e))
      ∙ pointwise_at cell_fits attributes object.cells p no_attribute cell less fit.cells

  -- what the cell of a column holds is of the kind of the column to which it refers, unless it is NULL
  cell_kinded : (name : List ℕ) (target : ColumnSpec) → length object.cells ≡ length attributes → has_kind columns name target ≡ true → is_null (value_at object (attr_named attributes table name)) ≡ false
      → is_of (kind_of target.kind) (value_at object (attr_named attributes table name)) ≡ true
  cell_kinded name target long h given = by (position (is_column table name) attributes) refl given
    where
      by : (found : Option ℕ) → position (is_column table name) attributes ≡ found
          → is_null (value_or_null (option_and_then (λ (cell : Cell). cell.value) (slice_get object.cells (unwrap_or found (length attributes))))) ≡ false
          → is_of (kind_of target.kind) (value_or_null (option_and_then (λ (cell : Cell). cell.value) (slice_get object.cells (unwrap_or found (length attributes))))) ≡ true
      by None e some = no_cell object.cells (length attributes) (slice_get object.cells (length attributes)) long refl some
      by (Some p) e some =
          let found = position-Some (is_column table name) attributes p no_attribute e in
          let a : Attribute = get_or attributes p no_attribute in
          let there : Has attributes a = has_at attributes p a (slice_get-get_or attributes p no_attribute found.0) in
          held_cell a (slice_get object.cells p) (kind_of target.kind) (λ cell is. cell_at_place p cell found.0 is) (named_kind name target a h there found.1) some

  abbrev cells_named : List (List ℕ) → List Value
  cells_named names = map (value_at object) (map (attr_named attributes table) names)

  key_kinded : (names : List (List ℕ)) (targets : List ColumnSpec) → length object.cells ≡ length attributes → pointwise (has_kind columns) names targets ≡ true → has_null (cells_named names) ≡ false
      → fit_kinds (kinds_of targets) (cells_named names) ≡ true
  key_kinded [] [] long h given = refl
  key_kinded [] (target ∷ targets) long h given = absurd cc
  key_kinded (name ∷ names) [] long h given = absurd cc
  key_kinded (name ∷ names) (target ∷ targets) long h given =
      let parts = and_parts (has_kind columns name target) (pointwise (has_kind columns) names targets) h in
      let v : Value = value_at object (attr_named attributes table name) in
      ap (λ (b : Bool). b && fit_kinds (kinds_of targets) (cells_named names)) (cell_kinded name target long parts.0 (or_left (is_null v) (has_null (cells_named names)) given))
      ∙ key_kinded names targets long parts.1 (or_right (is_null v) (has_null (cells_named names)) given)

-- ---- the key of a target

-- a many-to-one relationship has no secondary table
pub one_without : (mapped : Mapped) (class : ClassId) (place : ℕ) (relation : Relation) → HasHierarchies mapped → IsRelated mapped relation → IsAt mapped class place relation → relation.many ≡ false → relation.far ≡ None
one_without mapped class place relation has related at one = by relation.far refl
  where
    back : IsBack mapped class relation (Some related.partner.0)
    back = subst (IsBack mapped class relation) related.partner.1.there (has.paired.back class place relation at)

    by : (far : Option TableKey) → relation.far ≡ far → far ≡ None
    by None e = refl
    by (Some key) e =
        let partner : Relation = related.partner.0 in
        let both : (relation.many && partner.many) ≡ true = ap (λ (f : Option TableKey). if is_some f then relation.many && partner.many else differ relation.many partner.many) (sym e) ∙ back.0 in
        let never : false ≡ true = sym one ∙ (and_parts relation.many partner.many both).0 in
        absurd cc

module _ (mapped : Mapped) (relation : Relation) (object : Object) (has : HasHierarchies mapped) (related : IsRelated mapped relation) (one : relation.many ≡ false) (far : relation.far ≡ None) (fit : ObjectFits mapped object) where
  abbrev key : TableKey
  key = relation.foreign

  abbrev own : List TableId
  own = tables_of mapped relation.class

  joined : joins mapped.schema.tables (Some (layout_of mapped relation.class)) (Some (layout_of mapped relation.target)) key ≡ true
  joined =
      ap (λ (b : Bool). joins mapped.schema.tables (Some (layout_of mapped (if b then relation.target else relation.class))) (Some (layout_of mapped (if b then relation.class else relation.target))) key) (sym one)
      ∙ ap (has_keys mapped relation) (sym far) ∙ related.keys

  pub target_key_fits : length object.cells ≡ length (attributes_of mapped object.class) → has_null (foreign_key mapped relation object) ≡ false → key_fits mapped relation.target (foreign_key mapped relation object) ≡ true
  unfolding foreign_attrs
  target_key_fits long given =
      let tables : List TableSpec = mapped.schema.tables in
      let split = and_parts (is_among own key.0 && list_all (has_attribute (layout_of mapped relation.class).attributes key.0) (names_of tables key)) (refers_by tables (tables_of mapped relation.target) (foreign_at tables key)) joined in
      let first = and_parts (is_among own key.0) (list_all (has_attribute (layout_of mapped relation.class).attributes key.0) (names_of tables key)) split.0 in
      let declared : key.0.0 < length tables = tables_declared mapped relation.class key.0 (among_has own key.0 first.0) in
      let to = referred mapped key relation.target (foreign_at tables key) refl split.1 in
      let known = class_tables mapped relation.target has related.target in
      let names : names_of tables key ≡ to.foreign.columns = ap names_in to.is in
      let targets : List ColumnSpec = key_columns (spec_of mapped.schema to.table) in
      let alike : pointwise (has_kind (spec_of mapped.schema key.0).columns) (names_of tables key) targets ≡ true =
      ap (λ (ns : List (List ℕ)). pointwise (has_kind (spec_of mapped.schema key.0).columns) ns targets) names ∙ foreign_kinds mapped key relation.target has declared to in
      let spot = place_in (tables_of mapped relation.target) to.table to.inside in
      let fitting : fit_kinds (kinds_of targets) (foreign_key mapped relation object) ≡ true =
      key_kinded mapped object key.0 fit (table_faultless mapped key.0 has declared).apart (names_of tables key) targets long alike given in
      keys_alike mapped relation.target (foreign_key mapped relation object) has known
      ∙ columns_take (key_columns (root_spec mapped relation.target)) (foreign_key mapped relation object)
      (ap (λ (ks : List Kind). fit_kinds ks (foreign_key mapped relation object)) (kinds_along mapped relation.target known spot.0 to.table spot.1) ∙ fitting)
