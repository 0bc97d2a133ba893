-- The rows of objects that are to be deleted stand with the foreign keys that were read or written last.
use Rattle.std.proofs.Common.{◌≡◌, ◌⊎◌, inl, inr, ℕ, zero, suc, ◌+◌, ◌<◌, Bool, true, false, cond, not, ◌&&◌, ◌||◌, ◌==◌, if◌then◌else◌, List, [], ◌∷◌, length, map, filter, get_or, Option, None, Some, refl, sym, ap, ◌∙◌, subst, arith}
use Rattle.std.specs.Prelude.{slice_get}
use Rattle.std.specs.Cmp.Lexicographic.{as_long}
use Rattle.std.specs.List.{AllByRecursion, enumerate_from, flat_map, list_any, position}
use Rattle.std.specs.Option.{option_and_then}
use Rattle.std.proofs.lemmas.Bool.{and_parts, eq-eqb, eqb-true}
use Rattle.std.proofs.lemmas.List.{get_or-map, length-map}
use Rattle.std.proofs.lemmas.List.FromFn.{get_or-enumerate_from, length-enumerate_from}
use Rattle.std.proofs.lemmas.List.Quantifiers.{position-Some}
use Rattle.std.proofs.lemmas.Option.{get_or_from_slice_get, slice_get-get_or, slice_get_within}
use Rattle.base_core.specs.declared.ids.ClassId.{ClassId}
use Rattle.base_core.specs.declared.ids.ObjId.{ObjId}
use Rattle.base_core.specs.declared.ids.TableId.{TableId}
use Rattle.base_core.specs.declared.value.Value.{Value}
use Rattle.base_core.specs.declared.value.Value.TheVariants.{Null}
use Rattle.schema_core.specs.declared.changes.GoneRow.{GoneRow}
use Rattle.schema_core.specs.declared.changes.RowChanges.{RowChanges}
use Rattle.schema_core.specs.declared.table.ColumnSpec.{ColumnSpec}
use Rattle.schema_core.specs.declared.table.ForeignSpec.{ForeignSpec}
use Rattle.schema_core.specs.Catalog.{has_name, same_name, spec_of}
use Rattle.schema_core.specs.DependencyOrder.{is_among}
use Rattle.schema_core.specs.Tables.{Tables, cell_of, cells_of, fits, key_cells, value_or_null}
use Rattle.schema_core.proofs.Names.{name_itself, same_names}
use Rattle.class_types.specs.declared.mapped.Attribute.{Attribute}
use Rattle.class_mapping.specs.Mapped.{Mapped, attributes_of, line_of, no_attribute, tables_of}
use Rattle.class_layouts.specs.declared.classes.Classes.{Classes}
use Rattle.class_layouts.specs.Columns.{attribute_at, is_attribute, is_shown, table_attributes}
use Rattle.class_mapping.proofs.Having.{Has, all_from, any_has, from_flat, from_map, has_either, has_filter, has_flat, has_map, has_numbered}
use Rattle.object_arena.proofs.FitLemmas.{fit_cells}
use Rattle.session_laws.proofs.Projects.Loose.{has_place}
use Rattle.session_laws.proofs.Graphs.MappingFacts.{once_law}
use Rattle.session_laws.proofs.Held.Attributes.{column_place}
use Rattle.schema_core.specs.declared.table.TableSpec.{TableSpec}
use Rattle.class_mapping.proofs.RelatedKeys.{same_table}
use Rattle.object_arena.specs.declared.object.Cell.{Cell}
use Rattle.object_arena.specs.declared.object.Object.{Object}
use Rattle.object_arena.specs.Graph as graphs
use Rattle.object_arena.specs.Graph.{Graph, expired_cell, object_at, place_of}
use Rattle.flush_writes.specs.Writes.{no_column}
use Rattle.flush_plan.specs.Stating.{row_at}
use Rattle.object_rows.specs.declared.prepared.Prepared.{Prepared}
use Rattle.object_rows.specs.Cells.{key_value}
use Rattle.object_rows.specs.Rows.{cell_for, columns_at, gone_cell, gone_row, gone_rows, is_at, is_joined, key_part, rows_gone, value_before}
use Rattle.pair_rows.specs.Pairs.{lost_rows}
use Rattle.row_partners.specs.Partners.{partners}
use Rattle.row_project.specs.Changes.{object_changes, project}
use Rattle.row_switches.proofs.RowsAfter.{all_left}
use Rattle.session_laws.proofs.Plans.Between.{legal_cells, legal_key}
use Rattle.session_laws.proofs.Graphs.PairsRead.{pairs_read}
use Rattle.session_laws.proofs.Projects.LateKeys.{each_has}
use Rattle.session_laws.proofs.Plans.Facts.{some_of}
use Rattle.session_laws.specs.Graphs.{AreKeyed, IsAsRead, key_held}
use Rattle.session_laws.specs.Held.{column_in, held_in}
use Rattle.session_laws.specs.OwnRows.{StandInTables}
use Rattle.session_laws.proofs.OwnRows.Standing.{IsToGo, to_go}
use Rattle.session_laws.specs.Complete.{DeletedHaveNoOtherLinks, StandsWithoutOtherLinks}

-- ---- cells of rows

-- rows under one key are the same in the columns of the key
key_places : (columns : List ColumnSpec) (one other : List Value) → length one ≡ length columns → length other ≡ length columns → key_cells columns one ≡ key_cells columns other
    → (c : ℕ) (column : ColumnSpec) → slice_get columns c ≡ Some column → column.key ≡ true → get_or one c Null ≡ get_or other c Null
key_places [] one other long wide same c column at key = absurd cc
key_places (first ∷ columns) [] other long wide same c column at key = absurd (omega (arith, long))
key_places (first ∷ columns) (v ∷ one) [] long wide same c column at key = absurd (omega (arith, wide))
key_places (first ∷ columns) (v ∷ one) (w ∷ other) long wide same zero column at key = heads first.key (ap (λ (o : Option ColumnSpec). keyed o) at ∙ key) same
  where
    keyed : Option ColumnSpec → Bool
    keyed None = false
    keyed (Some own) = own.key

    heads : (b : Bool) → b ≡ true → cond b (v ∷ key_cells columns one) (key_cells columns one) ≡ cond b (w ∷ key_cells columns other) (key_cells columns other) → v ≡ w
    heads true is e = cc
    heads false is e = absurd cc
key_places (first ∷ columns) (v ∷ one) (w ∷ other) long wide same (suc c) column at key = key_places columns one other (omega (arith, long)) (omega (arith, wide)) (tails first.key same) c column at key
  where
    tails : (b : Bool) → cond b (v ∷ key_cells columns one) (key_cells columns one) ≡ cond b (w ∷ key_cells columns other) (key_cells columns other) → key_cells columns one ≡ key_cells columns other
    tails true e = cc
    tails false e = e

-- rows that are the same in the columns of a name have one cell of the name
named_cell : (name : List ℕ) (columns : List ColumnSpec) (one other : List Value) → length one ≡ length columns → length other ≡ length columns
    → ((c : ℕ) (column : ColumnSpec) → slice_get columns c ≡ Some column → same_name column.name name ≡ true → get_or one c Null ≡ get_or other c Null) → cell_of columns one name ≡ cell_of columns other name
named_cell name [] one other long wide each = refl
named_cell name (column ∷ columns) [] other long wide each = absurd (omega (arith, long))
named_cell name (column ∷ columns) (v ∷ one) [] long wide each = absurd (omega (arith, wide))
named_cell name (column ∷ columns) (v ∷ one) (w ∷ other) long wide each =
    by (same_name column.name name) refl (named_cell name columns one other (omega (arith, long)) (omega (arith, wide)) (λ c own at named. each (suc c) own at named))
  where
    by : (b : Bool) → same_name column.name name ≡ b → cell_of columns one name ≡ cell_of columns other name → cond b v (cell_of columns one name) ≡ cond b w (cell_of columns other name)
    by true named more = each 0 column refl named
    by false named more = more

each_named : (f g : List ℕ → Value) (names : List (List ℕ)) → ((name : List ℕ) → Has names name → f name ≡ g name) → map f names ≡ map g names
each_named f g [] each = refl
each_named f g (name ∷ names) each = λ i. each name (inl refl) i ∷ each_named f g names (λ other has. each other (inr has)) i

-- ---- the rows of an object

module _ (mapped : Mapped) (graph : Graph) (prepared : Prepared) (old : Tables) (stand : StandInTables mapped graph prepared old) (own : AreKeyed mapped graph prepared) (free : DeletedHaveNoOtherLinks mapped graph prepared old) where
  module _ (object : ObjId) (go : IsToGo mapped graph prepared old stand object) (table : TableId) (listed : Has (tables_of mapped (object_at graph object).class) table) (inside : is_among (tables_of mapped (object_at graph object).class) table ≡ true) (among : graphs.is_among prepared.deleted object ≡ true)
      (there : Has (project mapped graph prepared).gone (gone_row mapped graph object table)) (stands : List Value) (at : row_at old (table, key_held graph object) ≡ Some stands) where
    abbrev it : Object
    it = object_at graph object

    abbrev tables : List TableSpec
    tables = mapped.schema.tables

    abbrev classes : Classes
    classes = mapped.classes

    abbrev columns : List ColumnSpec
    columns = (spec_of mapped.schema table).columns

    abbrev base : List Value
    base = (gone_row mapped graph object table).base

    within : place_of object < length graph.objects
    within = omega (arith, go.made.0, go.made.1)

    long : length stands ≡ length columns
    long = sym (as_long fits columns stands (legal_cells mapped.schema old stand.legal (table, key_held graph object) stands at))

    wide : length base ≡ length columns
    wide = length-map (enumerate_from 0 columns) (gone_cell mapped it table) ∙ length-enumerate_from 0 columns

    one_key : key_cells columns stands ≡ key_cells columns base
    one_key = legal_key mapped.schema old stand.legal (table, key_held graph object) stands at ∙ sym (own.read object table among inside)

    base_at : (c : ℕ) (column : ColumnSpec) → slice_get columns c ≡ Some column → get_or base c Null ≡ gone_cell mapped it table (c, column)
    base_at c column here =
        let less : c < length columns = slice_get_within columns c column here in
        let listed : c < length (enumerate_from 0 columns) = omega (arith, less, length-enumerate_from 0 columns) in
        let number : 0 + c ≡ c = omega arith in
        get_or-map (gone_cell mapped it table) (enumerate_from 0 columns) c (0, no_column) Null listed
        ∙ ap (gone_cell mapped it table) (get_or-enumerate_from 0 columns c (0, no_column) less)
        ∙ (λ i. gone_cell mapped it table (number i, get_or_from_slice_get columns c column no_column here i))

    -- a column outside the key
    before_free : (c : ℕ) (column : ColumnSpec) → column.key ≡ false → gone_cell mapped it table (c, column) ≡ value_before (cell_for mapped it table c)
    before_free c column unkeyed = by (is_joined mapped it.class table) column.key unkeyed
      where
        by : (joined b : Bool) → b ≡ false → (if joined && b then key_value (object_at graph object).identity (key_part (columns_at mapped table) c) else value_before (cell_for mapped (object_at graph object) table c)) ≡ value_before (cell_for mapped (object_at graph object) table c)
        by true true e = absurd cc
        by false true e = absurd cc
        by true false e = refl
        by false false e = refl

    -- of an attribute
    of_attribute : (c : ℕ) (found : Option ℕ) (cell : Cell) → position (is_at table c) (attributes_of mapped (object_at graph object).class) ≡ found → option_and_then (slice_get (object_at graph object).cells) found ≡ Some cell → get_or stands c Null ≡ value_or_null cell.base
    of_attribute c None cell e is = absurd cc
    of_attribute c (Some n) cell e is =
        let all : List Attribute = attributes_of mapped it.class in
        let attribute : Attribute = get_or all n no_attribute in
        let passes = and_parts (attribute.table.0 == table.0) (attribute.column.0 == c) (position-Some (is_at table c) all n no_attribute e).1 in
        let its_table : attribute.table ≡ table = same_table attribute.table table passes.0 in
        let its_column : attribute.column.0 ≡ c = eqb-true attribute.column.0 c passes.1 in
        let less : n < length it.cells = slice_get_within it.cells n cell is in
        let its_cell : get_or it.cells n expired_cell ≡ cell = get_or_from_slice_get it.cells n cell expired_cell is in
        let known = some_of (get_or it.cells n expired_cell).base (go.known (record { 0 = n }) less) in
        let held : held_in old attribute it.identity ≡ Some known.0 = stand.holds (place_of object) within go.persists (record { 0 = n }) known.0 less known.1 in
        let there : slice_get stands c ≡ Some known.0 =
        sym (ap (λ (row : Option (List Value)). column_in row c) at)
        ∙ (λ i. column_in (row_at old (sym its_table i, key_held graph object)) (sym its_column i))
        ∙ held in
        get_or_from_slice_get stands c known.0 Null there
        ∙ sym (ap value_or_null known.1)
        ∙ ap (λ (own : Cell). value_or_null own.base) its_cell

    -- of no attribute, since another class owns it
    unshown : (c : ℕ) (column : ColumnSpec) → cell_for mapped (object_at graph object) table c ≡ None → slice_get columns c ≡ Some column → column.key ≡ false → is_shown tables classes (line_of mapped (object_at graph object).class) table column.name ≡ false
    unshown c column none here unkeyed = by (is_shown tables classes line table column.name) refl
      where
        line : List ClassId
        line = line_of mapped (object_at graph object).class

        shows : (first key shown : Bool) → key ≡ false → shown ≡ true → ((first || not key) && shown) ≡ true
        shows true false true e f = refl
        shows false false true e f = refl
        shows first true shown e f = absurd cc
        shows first key false e f = absurd cc

        by : (b : Bool) → is_shown tables classes line table column.name ≡ b → b ≡ false
        by false e = refl
        by true e =
            let all : List Attribute = attributes_of mapped it.class in
            let rank = has_place (tables_of mapped it.class) table listed in
            let ranked : ℕ × TableId = (0 + rank.0, table) in
            let attribute : Attribute = attribute_at table (0 + c, column) in
            let given : Has (table_attributes tables classes line ranked) attribute =
            has_map (attribute_at table) (filter (λ (placed : ℕ × ColumnSpec). is_attribute tables classes line (0 + rank.0) table placed.1) (enumerate_from 0 columns)) (0 + c, column)
            (has_filter (λ (placed : ℕ × ColumnSpec). is_attribute tables classes line (0 + rank.0) table placed.1) (enumerate_from 0 columns) (0 + c, column) (has_numbered 0 columns c column here)
            (shows (0 + rank.0 == 0) column.key (is_shown tables classes line table column.name) unkeyed e)) in
            let shown : Has all attribute = has_flat (table_attributes tables classes line) (enumerate_from 0 (tables_of mapped it.class)) ranked attribute (has_numbered 0 (tables_of mapped it.class) rank.0 table rank.1) given in
            let own = has_place all attribute shown in
            let less : own.0 < length it.cells = omega (arith, slice_get_within all own.0 attribute own.1, fit_cells mapped graph object stand.fit go.made) in
            let found : cell_for mapped it table (0 + c) ≡ Some (get_or it.cells own.0 expired_cell) =
            ap (option_and_then (slice_get it.cells)) (column_place mapped it.class (once_law mapped stand.well.lined stand.well.lines) own.0 attribute own.1) ∙ slice_get-get_or it.cells own.0 expired_cell less in
            let number : 0 + c ≡ c = omega arith in
            absurd (let wrong : None ≡ Some (get_or it.cells own.0 expired_cell) = sym none ∙ ap (cell_for mapped it table) (sym number) ∙ found in cc)

    free_cell : (c : ℕ) (column : ColumnSpec) (cell : Option Cell) → cell_for mapped (object_at graph object) table c ≡ cell → slice_get columns c ≡ Some column → column.key ≡ false
        → list_any (λ (foreign : ForeignSpec). has_name foreign.columns column.name) (spec_of mapped.schema table).foreigns ≡ true → get_or stands c Null ≡ value_before cell
    free_cell c column None e here unkeyed foreign =
        each_has (StandsWithoutOtherLinks mapped graph old) (project mapped graph prepared).gone (gone_row mapped graph object table) free there stands inside
        (ap (λ (key : List Value). row_at old (table, key)) (own.read object table among inside) ∙ at) c column here (unshown c column e here unkeyed) foreign
    free_cell c column (Some cell) e here unkeyed foreign = of_attribute c (position (is_at table c) (attributes_of mapped it.class)) cell refl e

    same_cell : (c : ℕ) (column : ColumnSpec) → slice_get columns c ≡ Some column → list_any (λ (foreign : ForeignSpec). has_name foreign.columns column.name) (spec_of mapped.schema table).foreigns ≡ true → get_or stands c Null ≡ get_or base c Null
    same_cell c column here foreign = by column.key refl
      where
        by : (b : Bool) → column.key ≡ b → get_or stands c Null ≡ get_or base c Null
        by true key = key_places columns stands base long wide one_key c column here key
        by false unkeyed = free_cell c column (cell_for mapped it table c) refl here unkeyed foreign ∙ sym (base_at c column here ∙ before_free c column unkeyed)

    foreign_same : (foreign : ForeignSpec) → Has (spec_of mapped.schema table).foreigns foreign → cells_of (spec_of mapped.schema table) stands foreign.columns ≡ cells_of (spec_of mapped.schema table) base foreign.columns
    foreign_same foreign among_foreigns =
        each_named (cell_of columns stands) (cell_of columns base) foreign.columns
        (λ name has. named_cell name columns stands base long wide
        (λ c column here named.
        let names : has_name foreign.columns column.name ≡ true =
        any_has (λ (other : List ℕ). same_name other column.name) foreign.columns name has (ap (same_name name) (same_names column.name name named) ∙ name_itself name) in
        same_cell c column here (any_has (λ (f : ForeignSpec). has_name f.columns column.name) (spec_of mapped.schema table).foreigns foreign among_foreigns names)))

  row_read : (object : ObjId) → Has prepared.deleted object → (table : TableId) → Has (tables_of mapped (object_at graph object).class) table → Has (project mapped graph prepared).gone (gone_row mapped graph object table)
      → IsAsRead mapped.schema old (gone_row mapped graph object table)
  row_read object has table listed left stands at =
      let among : graphs.is_among prepared.deleted object ≡ true = any_has (λ (other : ObjId). other.0 == object.0) prepared.deleted object has (eq-eqb object.0 object.0 refl) in
      let inside : is_among (tables_of mapped (object_at graph object).class) table ≡ true = any_has (λ (other : TableId). other.0 == table.0) (tables_of mapped (object_at graph object).class) table listed (eq-eqb table.0 table.0 refl) in
      let stood : row_at old (table, key_held graph object) ≡ Some stands = ap (λ (key : List Value). row_at old (table, key)) (sym (own.read object table among inside)) ∙ at in
      all_from (λ (foreign : ForeignSpec). cells_of (spec_of mapped.schema table) stands foreign.columns ≡ cells_of (spec_of mapped.schema table) (gone_row mapped graph object table).base foreign.columns) (spec_of mapped.schema table).foreigns
      (foreign_same object (to_go mapped graph prepared old stand object has) table listed inside among left stands stood)

  -- each row that is deleted stands with the foreign keys that were read or written last
  pub all_read : AllByRecursion (IsAsRead mapped.schema old) (project mapped graph prepared).gone
  unfolding gone_rows
  all_read =
      let plain : RowChanges = object_changes mapped graph prepared in
      all_from (IsAsRead mapped.schema old) (project mapped graph prepared).gone
      (λ row has. by row has
      (has_either (gone_rows mapped graph prepared) (lost_rows mapped graph prepared) row
      (each_has (Has plain.gone) (project mapped graph prepared).gone row (all_left (Has plain.gone) plain (partners mapped.schema plain) (all_from (Has plain.gone) plain.gone (λ other there. there))) has)))
    where
      by : (row : GoneRow) → Has (project mapped graph prepared).gone row → Has (flat_map (rows_gone mapped graph) prepared.deleted) row ⊎ Has (lost_rows mapped graph prepared) row → IsAsRead mapped.schema old row
      by row has (inl object) =
          let of = from_flat (rows_gone mapped graph) prepared.deleted row object in
          let made = from_map (gone_row mapped graph of.0) (tables_of mapped (object_at graph of.0).class) row of.2 in
          subst (IsAsRead mapped.schema old) made.2 (row_read of.0 of.1 made.0 made.1 (subst (Has (project mapped graph prepared).gone) (sym made.2) has))
      by row has (inr pair) = each_has (IsAsRead mapped.schema old) (lost_rows mapped graph prepared) row (pairs_read mapped graph prepared stand.well.related stand.fit old stand.legal) pair
