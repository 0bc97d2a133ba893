-- Objects that stand in the tables as they were read have their own rows.
use Rattle.std.proofs.Common.{◌≡◌, ℕ, zero, suc, ◌+◌, ◌<◌, Bool, true, false, cond, not, ◌&&◌, ◌||◌, ◌==◌, if◌then◌else◌, List, [], ◌∷◌, length, map, filter, take, get_or, Option, None, Some, is_some, is_none, refl, sym, subst, ap, ◌∙◌, arith}
use Rattle.std.specs.Prelude.{slice_get}
use Rattle.std.specs.Cmp.Lexicographic.{as_long}
use Rattle.std.specs.List.{AllByRecursion, count_by, enumerate_from, list_any, range_with_len}
use Rattle.std.specs.Option.{option_and_then}
use Rattle.std.proofs.lemmas.Bool.{eq-eqb, eqb-true}
use Rattle.std.proofs.lemmas.List.{get_or-map, length-map}
use Rattle.std.proofs.lemmas.List.FromFn.{get_or-enumerate_from, length-enumerate_from}
use Rattle.std.proofs.lemmas.List.Sums.{sum_by-cons}
use Rattle.std.proofs.lemmas.Option.{get_or_from_slice_get, same_Some, slice_get-get_or, slice_get_within}
use Rattle.base_core.specs.declared.ids.ClassId.{ClassId}
use Rattle.base_core.specs.declared.ids.ObjId.{ObjId}
use Rattle.base_core.specs.declared.ids.TableId.{TableId}
use Rattle.base_core.specs.declared.value.Value.{Value}
use Rattle.base_core.specs.declared.value.Value.TheVariants.{Null}
use Rattle.schema_core.specs.declared.changes.GoneRow.{GoneRow}
use Rattle.schema_core.specs.declared.table.ColumnSpec.{ColumnSpec}
use Rattle.schema_core.specs.Catalog.{has_name, key_columns, same_name, spec_of}
use Rattle.schema_core.specs.Declaration.{some_two}
use Rattle.schema_core.specs.DependencyOrder.{is_among}
use Rattle.schema_core.specs.Tables.{Tables, fits, key_cells, value_or_null}
use Rattle.schema_core.proofs.Names.{name_itself}
use Rattle.class_types.specs.declared.mapped.Attribute.{Attribute}
use Rattle.class_types.specs.declared.mapped.Relation.{Relation}
use Rattle.class_layouts.specs.Columns.{attribute_at, is_key}
use Rattle.class_layouts.specs.Faults.{maps_name}
use Rattle.class_mapping.specs.Mapped.{Mapped, attribute_of, attributes_of, no_attribute, root_table, tables_of}
use Rattle.class_mapping.specs.Related.{AreRelated, IsRelated}
use Rattle.class_mapping.proofs.Having.{Has, any_has, from_filter, has_filter, has_map, has_numbered, some_of, true_false}
use Rattle.class_mapping.proofs.Lists.{or_none}
use Rattle.class_mapping.proofs.PairedLemmas.{has_pairs}
use Rattle.class_mapping.proofs.RelatedKeys.{same_table}
use Rattle.mapping_laws.specs.Hierarchies.{HasHierarchies, HasTables, name_in}
use Rattle.mapping_laws.proofs.Tables.{unmapped_named}
use Rattle.mapping_laws.proofs.Ties.{class_tables, table_faultless}
use Rattle.mapping_laws.proofs.KeyKinds.{root_declared}
use Rattle.object_arena.specs.declared.object.Cell.{Cell}
use Rattle.object_arena.specs.declared.object.Object.{Object}
use Rattle.object_arena.specs.Fit.{IsFit, identity_fits}
use Rattle.object_arena.specs.Graph as graphs
use Rattle.object_arena.specs.Graph.{Graph, IsObject, expired_cell, is_persistent, no_object, object_at, place_of}
use Rattle.object_arena.specs.Identity.{id_of_place}
use Rattle.object_arena.proofs.FitLemmas.{fit_at, fit_cells, fit_class}
use Rattle.flush_order.specs.Refers.{gone_key}
use Rattle.flush_writes.specs.Writes.{no_column}
use Rattle.flush_plan.specs.Stating.{row_at}
use Rattle.object_rows.specs.declared.prepared.Prepared.{Prepared}
use Rattle.object_rows.specs.Cells.{key_value}
use Rattle.object_rows.specs.Rows.{cell_for, columns_at, gone_cell, gone_row, is_joined, key_or_none, key_part, value_before}
use Rattle.pair_rows.specs.Pairs as pairs
use Rattle.pair_rows.proofs.FirstLemmas.{firsts_all}
use Rattle.session_laws.proofs.Plans.Between.{legal_cells, legal_key}
use Rattle.session_laws.proofs.Projects.LateKeys.{each_has}
use Rattle.session_laws.proofs.Projects.Loose.{has_place}
use Rattle.row_switches.proofs.Each.{all_filter, all_map}
use Rattle.session_laws.specs.Graphs.{HasTablesOnce, IsWellMapped, key_held}
use Rattle.session_laws.proofs.Graphs.MappingFacts.{once_law}
use Rattle.session_laws.proofs.Graphs.ObjectsApart.{above}
use Rattle.session_laws.proofs.Graphs.PairsRead.{IsParted, lost_parted, parted_related}
use Rattle.session_laws.specs.Held.{IsWhollyKnown, column_in, held_in}
use Rattle.session_laws.proofs.Held.Columns.{not_same}
use Rattle.session_laws.proofs.Held.Attributes.{column_place, passed_are}
use Rattle.session_laws.proofs.Sendable.EndKeys.{key_everywhere}
use Rattle.session_laws.proofs.Sendable.Roots.{alone, persistent_keyed}
use Rattle.session_laws.specs.OwnRows.{ObjectsHaveOwnRows, StandInTables}
use Rattle.session_laws.proofs.OwnRows.PairsOnce.{pairs_once}

-- a configured mapping's classes stand in hierarchies
pub hierarchies : (mapped : Mapped) → IsWellMapped mapped → HasHierarchies mapped
hierarchies mapped well = record { lined = well.lined; lines = well.lines; valid = well.valid; paired = has_pairs mapped well.lined well.lines well.valid; declared = well.declared }

same_object : (one other : ObjId) → (one.0 == other.0) ≡ true → one ≡ other
same_object one other same = ap (λ (n : ℕ). let id : ObjId = record { 0 = n } in id) (eqb-true one.0 other.0 same)

among_has : (tables : List TableId) (table : TableId) → is_among tables table ≡ true → Has tables table
among_has tables table among = let some = some_of (λ (other : TableId). other.0 == table.0) tables among in subst (Has tables) (same_table some.0 table some.2) some.1

-- ---- ids

none_above : (m : ℕ) (objects : List ObjId) → AllByRecursion (λ (object : ObjId). m < object.0) objects → list_any (λ (later : ObjId). later.0 == m) objects ≡ false
none_above m [] all = refl
none_above m (object ∷ objects) all =
    or_none (object.0 == m) (list_any (λ (later : ObjId). later.0 == m) objects) (not_same object.0 m (λ same. omega (arith, all.0, same))) (none_above m objects all.1)

-- no object stands twice among some of all
pub ids_once : (test : ObjId → Bool) (n count : ℕ) → some_two (λ (one other : ObjId). one.0 == other.0) (filter test (map id_of_place (range_with_len n count))) ≡ false
ids_once test n zero = refl
ids_once test n (suc count) = by (test (id_of_place n)) (ids_once test (n + 1) count)
  where
    rest : List ObjId
    rest = filter test (map id_of_place (range_with_len (n + 1) count))

    by : (b : Bool) → some_two (λ (one other : ObjId). one.0 == other.0) rest ≡ false → some_two (λ (one other : ObjId). one.0 == other.0) (cond b (id_of_place n ∷ rest) rest) ≡ false
    by true more =
        or_none (list_any (λ (later : ObjId). later.0 == n + 1) rest) (some_two (λ (one other : ObjId). one.0 == other.0) rest)
        (none_above (n + 1) rest (all_filter (λ (object : ObjId). n + 1 < object.0) test (map id_of_place (range_with_len (n + 1) count)) (above (n + 1) (n + 1) count (omega arith)))) more
    by false more = more

-- ---- cells of keys

-- rows that are the same in the columns of the key have one key
key_same : (columns : List ColumnSpec) (one other : List Value) → length one ≡ length columns → length other ≡ length columns
    → ((c : ℕ) (column : ColumnSpec) → slice_get columns c ≡ Some column → column.key ≡ true → get_or one c Null ≡ get_or other c Null) → key_cells columns one ≡ key_cells columns other
key_same [] one other long as_wide each = refl
key_same (column ∷ columns) [] other long as_wide each = absurd (omega (arith, long))
key_same (column ∷ columns) (v ∷ one) [] long as_wide each = absurd (omega (arith, as_wide))
key_same (column ∷ columns) (v ∷ one) (w ∷ other) long as_wide each =
    by column.key refl (key_same columns one other (omega (arith, long)) (omega (arith, as_wide)) (λ c own at key. each (suc c) own at key))
  where
    by : (b : Bool) → column.key ≡ b → key_cells columns one ≡ key_cells columns other → cond b (v ∷ key_cells columns one) (key_cells columns one) ≡ cond b (w ∷ key_cells columns other) (key_cells columns other)
    by true key more = λ i. each 0 column refl key i ∷ more i
    by false free more = more

-- a row whose cells in the columns of the key are the parts of a key has that key
parts_are : (key : List Value) (n m : ℕ) (f : ℕ × ColumnSpec → Value) (columns : List ColumnSpec) (rest : List Value) → length rest ≡ length (filter (λ (c : ColumnSpec). c.key) columns)
    → ((i : ℕ) → get_or key (m + i) Null ≡ get_or rest i Null)
    → ((j : ℕ) (c : ColumnSpec) → slice_get columns j ≡ Some c → c.key ≡ true → f (n + j, c) ≡ get_or key (m + count_by (λ (other : ColumnSpec). other.key) (take j columns)) Null)
    → key_cells columns (map f (enumerate_from n columns)) ≡ rest
parts_are key n m f [] [] long at each = refl
parts_are key n m f [] (v ∷ rest) long at each = absurd (omega (arith, long))
parts_are key n m f (column ∷ columns) rest long at each =
    by column.key refl rest long at
    (λ is more wide later. parts_are key (n + 1) (m + 1) f columns more wide later (λ j c own kept. counted true is j c (each (suc j) c own kept)))
    (λ is. parts_are key (n + 1) m f columns rest (omega (arith, long, free_long is)) at
    (λ j c own kept. let e : m + 0 ≡ m = omega arith in subst (λ (a : ℕ). f (n + 1 + j, c) ≡ get_or key (a + count_by (λ (other : ColumnSpec). other.key) (take j columns)) Null) e (counted false is j c (each (suc j) c own kept))))
  where
    free_long : column.key ≡ false → length (filter (λ (c : ColumnSpec). c.key) (column ∷ columns)) ≡ length (filter (λ (c : ColumnSpec). c.key) columns)
    free_long is = ap (λ (b : Bool). length (cond b (column ∷ filter (λ (c : ColumnSpec). c.key) columns) (filter (λ (c : ColumnSpec). c.key) columns))) is

    counted : (b : Bool) → column.key ≡ b → (j : ℕ) (c : ColumnSpec) → f (n + suc j, c) ≡ get_or key (m + count_by (λ (other : ColumnSpec). other.key) (take (suc j) (column ∷ columns))) Null
        → f (n + 1 + j, c) ≡ get_or key (m + (let one : ℕ = cond b 1 0 in one) + count_by (λ (other : ColumnSpec). other.key) (take j columns)) Null
    counted b e j c is =
        let place : n + 1 + j ≡ n + suc j = omega arith in
        let here : (let one : ℕ = cond column.key 1 0 in one ≡ (let two : ℕ = cond b 1 0 in two)) = ap (λ (b : Bool). let one : ℕ = cond b 1 0 in one) e in
        let number : m + count_by (λ (other : ColumnSpec). other.key) (take (suc j) (column ∷ columns)) ≡ m + (let one : ℕ = cond b 1 0 in one) + count_by (λ (other : ColumnSpec). other.key) (take j columns) =
        omega (arith, sum_by-cons (λ (other : ColumnSpec). cond other.key 1 0) column (take j columns), here) in
        ap (λ (k : ℕ). f (k, c)) place ∙ is ∙ ap (λ (k : ℕ). get_or key k Null) number

    by : (b : Bool) → column.key ≡ b → (rest : List Value) → length rest ≡ length (cond b (column ∷ filter (λ (c : ColumnSpec). c.key) columns) (filter (λ (c : ColumnSpec). c.key) columns)) → ((i : ℕ) → get_or key (m + i) Null ≡ get_or rest i Null)
        → (column.key ≡ true → (more : List Value) → length more ≡ length (filter (λ (c : ColumnSpec). c.key) columns) → ((i : ℕ) → get_or key (m + 1 + i) Null ≡ get_or more i Null) → key_cells columns (map f (enumerate_from (n + 1) columns)) ≡ more)
        → (column.key ≡ false → key_cells columns (map f (enumerate_from (n + 1) columns)) ≡ rest)
        → cond b (f (n, column) ∷ key_cells columns (map f (enumerate_from (n + 1) columns))) (key_cells columns (map f (enumerate_from (n + 1) columns))) ≡ rest
    by false is rest long at up same = same is
    by true is [] long at up same = absurd (omega (arith, long))
    by true is (v ∷ rest) long at up same =
        let place : n ≡ n + 0 = omega arith in
        let none : m + count_by (λ (other : ColumnSpec). other.key) (take 0 (column ∷ columns)) ≡ m + 0 = refl in
        let here : f (n, column) ≡ v = ap (λ (k : ℕ). f (k, column)) place ∙ each 0 column refl is ∙ ap (λ (k : ℕ). get_or key k Null) none ∙ at 0 in
        let later : (i : ℕ) → get_or key (m + 1 + i) Null ≡ get_or rest i Null = λ i. let next : m + 1 + i ≡ m + suc i = omega arith in ap (λ (k : ℕ). get_or key k Null) next ∙ at (suc i) in
        λ i. here i ∷ up is rest (omega (arith, long)) later i

row_of : (found : Option (List Value)) (c : ℕ) (base : Value) → column_in found c ≡ Some base → (row : List Value) × (found ≡ Some row) × (get_or row c Null ≡ base)
row_of None c base e = absurd cc
row_of (Some row) c base e = (row, refl, get_or_from_slice_get row c base Null e)

known_value : (o : Option Value) → is_some o ≡ true → (v : Value) × (o ≡ Some v)
known_value None there = true_false false there refl
known_value (Some v) there = (v, refl)

-- ---- no class has the table of a pair

module _ (mapped : Mapped) (graph : Graph) (prepared : Prepared) (related : AreRelated mapped) (fit : IsFit mapped graph) where
  unmapped : (class : ClassId) (pair : pairs.Pair) → IsParted mapped graph prepared pair → is_among (tables_of mapped class) pair.0 ≡ false
  unmapped class pair it =
      let relation : Relation = it.placed.1 in
      let own : IsRelated mapped relation = parted_related mapped graph prepared related fit pair it in
      let free : maps_name mapped.classes.specs (Some (name_in mapped relation.foreign.0)) ≡ false = by (is_none relation.far) (maps_name mapped.classes.specs (Some (name_in mapped relation.foreign.0))) (no_none relation.far it.far) own.unmapped in
      let none : is_among (tables_of mapped class) relation.foreign.0 ≡ false = not_among relation.foreign.0 (unmapped_named mapped class (name_in mapped relation.foreign.0) free) in
      ap (λ (p : pairs.Pair). is_among (tables_of mapped class) p.0) (sym it.is) ∙ none
    where
      no_none : {A : Type 0} (o : Option A) → is_some o ≡ true → is_none o ≡ false
      no_none None some = true_false false some refl
      no_none (Some a) some = refl

      by : (none maps : Bool) → none ≡ false → (none || not maps) ≡ true → maps ≡ false
      by true maps n h = true_false true refl n
      by false true n h = true_false false h refl
      by false false n h = refl

      not_among : (table : TableId) → has_name (map (name_in mapped) (tables_of mapped class)) (name_in mapped table) ≡ false → is_among (tables_of mapped class) table ≡ false
      not_among table free = absent (is_among (tables_of mapped class) table) refl
        where
          absent : (b : Bool) → is_among (tables_of mapped class) table ≡ b → b ≡ false
          absent false e = refl
          absent true e =
              true_false (has_name (map (name_in mapped) (tables_of mapped class)) (name_in mapped table))
              (any_has (λ (other : List ℕ). same_name other (name_in mapped table)) (map (name_in mapped) (tables_of mapped class)) (name_in mapped table)
              (has_map (name_in mapped) (tables_of mapped class) table (among_has (tables_of mapped class) table e)) (name_itself (name_in mapped table))) free

  pub pairs_unmapped : (class : ClassId) → AllByRecursion (λ (row : GoneRow). is_among (tables_of mapped class) row.name.table ≡ false) (pairs.lost_rows mapped graph prepared)
  unfolding pairs.lost_rows
  pairs_unmapped class =
      firsts_all (λ (row : GoneRow). is_among (tables_of mapped class) row.name.table ≡ false) mapped.schema (map (pairs.lost_row mapped graph) (pairs.lost_pairs mapped graph prepared))
      (all_map (IsParted mapped graph prepared) (λ (row : GoneRow). is_among (tables_of mapped class) row.name.table ≡ false) (pairs.lost_row mapped graph) (λ pair it. unmapped class pair it)
      (pairs.lost_pairs mapped graph prepared) (lost_parted mapped graph prepared))

module _ (mapped : Mapped) (graph : Graph) (prepared : Prepared) (old : Tables) (stand : StandInTables mapped graph prepared old) where
  pub classes : HasHierarchies mapped
  classes = hierarchies mapped stand.well

  once : HasTablesOnce mapped
  once = once_law mapped stand.well.lined stand.well.lines

  pub record IsToGo (object : ObjId) : Type 0 where
    pub made : IsObject graph object
    pub persists : is_persistent (object_at graph object).state ≡ true
    pub known : IsWhollyKnown (object_at graph object)

  pub to_go : (object : ObjId) → Has prepared.deleted object → IsToGo object
  to_go object has = record {
    made = each_has (IsObject graph) prepared.deleted object stand.made has;
    persists = each_has (λ (other : ObjId). is_persistent (object_at graph other).state ≡ true) prepared.deleted object stand.standing has;
    known = each_has (λ (other : ObjId). IsWhollyKnown (object_at graph other)) prepared.deleted object stand.known has;
  }

  -- ---- the key of an object that is to be deleted is that of each of its rows

  module _ (object : ObjId) (go : IsToGo object) where
    abbrev it : Object
    it = object_at graph object

    abbrev root : TableId
    root = root_table mapped (object_at graph object).class

    inside : place_of object < length graph.objects
    inside = omega (arith, go.made.0, go.made.1)

    tables : HasTables mapped (object_at graph object).class
    tables = class_tables mapped (object_at graph object).class classes (fit_class mapped graph object stand.fit go.made)

    abbrev columns : List ColumnSpec
    columns = (spec_of mapped.schema (root_table mapped (object_at graph object).class)).columns

    -- what is known of a column of the root's key is what the row holds
    record IsRead (c : ℕ) : Type 0 where
      row : List Value
      at : row_at old (root_table mapped (object_at graph object).class, key_held graph object) ≡ Some row
      base : value_before (cell_for mapped (object_at graph object) (root_table mapped (object_at graph object).class) c) ≡ get_or row c Null

    is_read : (c : ℕ) (column : ColumnSpec) → slice_get columns c ≡ Some column → column.key ≡ true → IsRead c
    is_read c column at key =
        let all : List Attribute = attributes_of mapped it.class in
        let number : 0 + c ≡ c = omega arith in
        let attribute : Attribute = attribute_at root (0 + c, column) in
        let keyed : Has (filter (is_key mapped.schema.tables) all) attribute =
        subst (λ (list : List Attribute). Has list attribute) (sym (passed_are mapped it.class classes tables))
        (has_map (attribute_at root) (filter (λ placed. placed.1.key) (enumerate_from 0 columns)) (0 + c, column)
        (has_filter (λ (p : ℕ × ColumnSpec). p.1.key) (enumerate_from 0 columns) (0 + c, column) (has_numbered 0 columns c column at) key)) in
        let own = has_place all attribute (from_filter (is_key mapped.schema.tables) all attribute keyed).0 in
        let less : own.0 < length it.cells = omega (arith, slice_get_within all own.0 attribute own.1, fit_cells mapped graph object stand.fit go.made) in
        let cell : Cell = get_or it.cells own.0 expired_cell in
        let known = known_value cell.base (go.known (record { 0 = own.0 }) less) in
        let found : cell_for mapped it root (0 + c) ≡ Some cell = ap (option_and_then (slice_get it.cells)) (column_place mapped it.class once own.0 attribute own.1) ∙ slice_get-get_or it.cells own.0 expired_cell less in
        let its : attribute_of mapped it.class (record { 0 = own.0 }) ≡ attribute = get_or_from_slice_get all own.0 attribute no_attribute own.1 in
        let held : held_in old attribute it.identity ≡ Some known.0 = ap (λ (a : Attribute). held_in old a it.identity) (sym its) ∙ stand.holds (place_of object) inside go.persists (record { 0 = own.0 }) known.0 less known.1 in
        let row = row_of (row_at old (root, key_held graph object)) (0 + c) known.0 held in
        record {
          row = row.0;
          at = row.1;
          base = ap (λ (n : ℕ). value_before (cell_for mapped it root n)) (sym number) ∙ ap value_before found ∙ ap value_or_null known.1 ∙ sym {a = get_or row.0 (0 + c) Null} row.2 ∙ ap (λ (n : ℕ). get_or row.0 n Null) number;
        }

    root_key : gone_key mapped.schema (gone_row mapped graph object (root_table mapped (object_at graph object).class)) ≡ key_held graph object
    root_key =
        let some = some_of (λ (c : ColumnSpec). c.key) columns (table_faultless mapped root classes (root_declared mapped it.class tables)).keyed in
        let place = has_place columns some.0 some.1 in
        let first : IsRead place.0 = is_read place.0 some.0 place.1 some.2 in
        let base : List Value = map (gone_cell mapped it root) (enumerate_from 0 columns) in
        let wide : length base ≡ length columns = length-map (enumerate_from 0 columns) (gone_cell mapped it root) ∙ length-enumerate_from 0 columns in
        key_same columns base first.row wide (sym (as_long fits columns first.row (legal_cells mapped.schema old stand.legal (root, key_held graph object) first.row first.at)))
        (λ c column at key.
        let within : c < length columns = slice_get_within columns c column at in
        let listed : c < length (enumerate_from 0 columns) = omega (arith, within, length-enumerate_from 0 columns) in
        let own : IsRead c = is_read c column at key in
        let one : own.row ≡ first.row = same_Some own.row first.row (sym own.at ∙ first.at) in
        let number : 0 + c ≡ c = omega arith in
        get_or-map (gone_cell mapped it root) (enumerate_from 0 columns) c (0, no_column) Null listed
        ∙ ap (gone_cell mapped it root) (get_or-enumerate_from 0 columns c (0, no_column) within)
        ∙ ap (λ (b : Bool). if b && (get_or columns c no_column).key then key_value it.identity (key_part (columns_at mapped root) (0 + c)) else value_before (cell_for mapped it root (0 + c))) (ap not (eq-eqb root.0 root.0 refl))
        ∙ ap (λ (n : ℕ). value_before (cell_for mapped it root n)) number
        ∙ own.base ∙ ap (λ (row : List Value). get_or row c Null) one)
        ∙ legal_key mapped.schema old stand.legal (root, key_held graph object) first.row first.at

    joined_by : (table : TableId) (identity : Option (List Value)) → it.identity ≡ identity → is_some identity ≡ true → Has (tables_of mapped (object_at graph object).class) table → is_joined mapped (object_at graph object).class table ≡ true
        → key_cells (spec_of mapped.schema table).columns (gone_row mapped graph object table).base ≡ key_or_none identity
    joined_by table None is there has joined = true_false false there refl
    joined_by table (Some key) is there has joined =
        let class : ClassId = it.class in
        let declared = fit_class mapped graph object stand.fit go.made in
        let whole = key_everywhere mapped classes class class table key declared declared refl has (ap (identity_fits mapped class) (sym is) ∙ (fit_at mapped graph object stand.fit go.made).identity) in
        let cs : List ColumnSpec = (spec_of mapped.schema table).columns in
        parts_are key 0 0 (gone_cell mapped it table) cs key (sym (as_long fits (key_columns (spec_of mapped.schema table)) key whole))
        (λ i. let number : 0 + i ≡ i = omega arith in ap (λ (k : ℕ). get_or key k Null) number)
        (λ j c at kept.
        let place : 0 + j ≡ j = omega arith in
        let number : count_by (λ (other : ColumnSpec). other.key) (take j cs) ≡ 0 + count_by (λ (other : ColumnSpec). other.key) (take j cs) = omega arith in
        (λ i. if joined i && kept i then key_value (is i) (key_part (columns_at mapped table) (place i)) else value_before (cell_for mapped it table (0 + j)))
        ∙ ap (λ (k : ℕ). get_or key k Null) number)

    keyed_there : (table : TableId) → Has (tables_of mapped (object_at graph object).class) table → gone_key mapped.schema (gone_row mapped graph object table) ≡ key_held graph object
    keyed_there table has = by ((root_table mapped (object_at graph object).class).0 == table.0) refl
      where
        by : (b : Bool) → ((root_table mapped (object_at graph object).class).0 == table.0) ≡ b → gone_key mapped.schema (gone_row mapped graph object table) ≡ key_held graph object
        by true same = subst (λ (t : TableId). gone_key mapped.schema (gone_row mapped graph object t) ≡ key_held graph object) (same_table root table same) root_key
        by false differs = joined_by table it.identity refl (persistent_keyed it go.persists (stand.is.identified (place_of object) no_object inside)) has (ap not differs)

  among_deleted : (object : ObjId) → graphs.is_among prepared.deleted object ≡ true → Has prepared.deleted object
  among_deleted object among =
      let some = some_of (λ (other : ObjId). other.0 == object.0) prepared.deleted among in
      subst (Has prepared.deleted) (same_object some.0 object some.2) some.1

pub own_rows : ObjectsHaveOwnRows
own_rows mapped graph prepared old stand = record {
  fit = stand.fit;
  keyed = record {
    made = stand.made;
    standing = stand.standing;
    once = stand.once;
    alone = alone mapped (classes mapped graph prepared old stand) graph stand.fit stand.is;
    read = λ object table among there.
        let has = among_deleted mapped graph prepared old stand object among in
        keyed_there mapped graph prepared old stand object (to_go mapped graph prepared old stand object has) table (among_has (tables_of mapped (object_at graph object).class) table there);
    pairs = pairs_once mapped graph prepared;
    secondary = pairs_unmapped mapped graph prepared stand.well.related stand.fit;
  };
}
