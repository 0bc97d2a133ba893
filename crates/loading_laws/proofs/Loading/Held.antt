-- The object of a row that is taken holds what the row has: none of its cells is expired whose column is an attribute of the row's class.
-- So an object of the class holds the foreign keys of the class's many-to-one relationships.
use Rattle.std.proofs.Common.{◌≡◌, ℕ, zero, suc, ◌+◌, ◌<◌, ◌==◌, Bool, true, false, ◌&&◌, ◌||◌, cond, List, [], ◌∷◌, get_or, length, map, Option, None, Some, Result, Ok, Err, if◌then◌else◌, is_none, refl, sym, ap, subst, ◌∙◌, arith}
use Rattle.std.specs.Prelude.{slice_get, unwrap_or}
use Rattle.std.specs.Option.{option_and_then, option_map}
use Rattle.std.specs.List.{enumerate_from, list_all, list_any, position, position_or_len}
use Rattle.std.proofs.lemmas.Bool.{and_from, and_parts, eq-eqb, eqb-true, lt-ltb}
use Rattle.std.proofs.lemmas.List.Folds.{find_at}
use Rattle.std.proofs.lemmas.Option.{slice_get-get_or, slice_get-map, slice_get_within}
use Rattle.base_core.specs.declared.ids.AttrNo.{AttrNo}
use Rattle.base_core.specs.declared.ids.ClassId.{ClassId}
use Rattle.base_core.specs.declared.ids.ObjId.{ObjId}
use Rattle.base_core.specs.declared.ids.RelNo.{RelNo}
use Rattle.base_core.specs.declared.ids.TableId.{TableId}
use Rattle.base_core.specs.declared.refusal.Refusal.{Refusal}
use Rattle.base_core.specs.declared.value.Value.{Value}
use Rattle.base_core.specs.declared.value.Value.TheVariants as value
use Rattle.schema_core.specs.declared.table.ColumnSpec.{ColumnSpec}
use Rattle.schema_core.specs.declared.table.TableSpec.{TableSpec}
use Rattle.schema_core.specs.Catalog.{same_name, spec_of}
use Rattle.schema_core.specs.Declaration.{some_two}
use Rattle.schema_core.specs.Tables.{value_or_null}
use Rattle.class_types.specs.declared.mapped.Attribute.{Attribute}
use Rattle.class_types.specs.declared.mapped.Relation.{Relation}
use Rattle.class_sides.specs.Keys.{TableKey, foreign_at, names_of}
use Rattle.class_sides.specs.Sides.{has_attribute}
use Rattle.class_mapping.specs.Mapped.{IsClass, Mapped, attributes_of, layout_of, relations_of, root_of, tables_of}
use Rattle.class_mapping.specs.Paired.{IsAt, is_at_or_under}
use Rattle.class_mapping.specs.Related.{AreRelated, IsRelated, has_keys, one_side}
use Rattle.class_mapping.specs.Valid.{is_among, refers_by}
use Rattle.class_mapping.proofs.Having.{any_has, found_of, has_at}
use Rattle.mapping_laws.specs.Hierarchies.{HasHierarchies}
use Rattle.mapping_laws.proofs.Tables.{tables_declared}
use Rattle.mapping_laws.proofs.Ties.{table_faultless}
use Rattle.object_arena.specs.declared.object.Cell.{Cell}
use Rattle.object_arena.specs.declared.object.Object.{Object}
use Rattle.object_arena.specs.Fit.{IsFit, no_relation, relation_of}
use Rattle.object_arena.specs.Graph.{Graph, object_at}
use Rattle.object_arena.specs.Identity.{find_identity}
use Rattle.object_arena.proofs.FitLemmas.{fit_cells}
use Rattle.object_arena.proofs.TurnLemmas.{at_with}
use Rattle.relations.specs.Parents.{is_column}
use Rattle.load_columns.specs.declared.placing.SourceColumn.{SourceColumn}
use Rattle.load_columns.specs.Placing.{attribute_column, attribute_columns, column_named, from_root}
use Rattle.load_filling.specs.Filled.{Found, cell_read, filled_cell, filled_object, value_found, value_or_none, with_filled}
use Rattle.load_filling.specs.Rows.{row_key, row_object, value_in}
use Rattle.load_rows.specs.Loading.{Loading, filled, found_in_row, is_same_column, take_row, taken_as, value_for}
use Rattle.load_rows.specs.Reading.{IsRowOf}
use Rattle.collection_selects.proofs.MemberLemmas.{among_has}
use Rattle.load_calls.proofs.CollectionLemmas.{related_at}
use Rattle.load_targets.specs.ForeignKeys.{attr_named, foreign_attrs, is_expired_among, is_key_expired, value_of}
use Rattle.load_targets.proofs.KeyLemmas.{one_without}
use Rattle.loading_laws.proofs.MainSelects.Referring.{declared_above}
use Rattle.loading_laws.specs.Strategies.Filled.{Goes}
use Rattle.loading_laws.proofs.Strategies.Goes.{same_answer}
use Rattle.loading_laws.proofs.Strategies.Standing.{row_object_taken}
use Rattle.loading_laws.proofs.Strategies.Tells.{each_value}
use Rattle.loading_laws.proofs.Loading.Fits.{found_fits}
use Rattle.loading_laws.proofs.Loading.Inherited.{all_under}

-- ---- places

-- where the first that passes stands
record IsThere {A : Type 0} (test : A → Bool) (xs : List A) : Type 0 where
  place : ℕ
  item : A
  first : position test xs ≡ Some place
  at : slice_get xs place ≡ Some item
  passes : test item ≡ true

first_there : {A : Type 0} (test : A → Bool) (xs : List A) → list_any test xs ≡ true → IsThere test xs
first_there test xs some =
    let found = found_of test xs some in
    let place : ℕ = position_or_len test xs in
    let at : slice_get xs place ≡ Some found.0 = sym (find_at test xs) ∙ found.1 in
    record { place = place; item = found.0; first = ap (λ (b : Bool). cond b (Some place) None) (lt-ltb place (length xs) (slice_get_within xs place found.0 at)); at = at; passes = found.3 }

-- ---- the cells of the object

-- the object holds its cells of the columns that are attributes of the class
abbrev pub HoldsColumns : Mapped → ClassId → Object → Type 0
HoldsColumns mapped class object =
    (attr : AttrNo) (attribute : Attribute) → slice_get (attributes_of mapped object.class) attr.0 ≡ Some attribute → list_any (is_same_column attribute) (attributes_of mapped class) ≡ true → is_none (value_of object attr) ≡ false

read_held : (cell : Cell) (found : Option Value) (v : Value) (b : Bool) → is_none cell.value ≡ b → found ≡ Some v → is_none (if b then cell_read cell found else cell).value ≡ false
read_held cell found v true is e = ap (λ (o : Option Value). is_none (cell_read cell o).value) e
read_held cell found v false is e = is

cell_held : (found : Found) (cells : List Cell) (first n j : ℕ) (v : Value) → n < length cells → j ≡ first + n → value_found found j ≡ Some v → is_none (option_and_then (λ cell. cell.value) (slice_get (map (filled_cell found) (enumerate_from first cells)) n)) ≡ false
cell_held found [] first n j v less same e = absurd (omega (arith, less))
cell_held found (cell ∷ cells) first zero j v less same e =
    let here : first ≡ j = omega (arith, same) in
    read_held cell (value_found found first) v (is_none cell.value) refl (ap (value_found found) here ∙ e)
cell_held found (cell ∷ cells) first (suc n) j v less same e = cell_held found cells (first + 1) n j v (omega (arith, less)) (omega (arith, same)) e

module _ (mapped : Mapped) (class : ClassId) (row : List Value) (wide : length row ≡ length (attributes_of mapped class)) where
  -- a row has a value for each column of the class's attributes
  column_found : (own : ClassId) (attr : AttrNo) (attribute : Attribute) → slice_get (attributes_of mapped own) attr.0 ≡ Some attribute → list_any (is_same_column attribute) (attributes_of mapped class) ≡ true
      → (v : Value) × (value_found (found_in_row mapped class row own) attr.0 ≡ Some v)
  column_found own attr attribute at some =
      let there = first_there (is_same_column attribute) (attributes_of mapped class) some in
      let within = slice_get_within (attributes_of mapped class) there.place there.item there.at in
      let read : Option Attribute → Option Value = λ o. value_or_none (option_map (value_for mapped class row) o) in (
        get_or row there.place value.Null,
        ap value_or_none (slice_get-map (value_for mapped class row) (attributes_of mapped own) attr.0) ∙ ap read at ∙ ap (option_and_then (slice_get row)) there.first
            ∙ slice_get-get_or row there.place value.Null (omega (arith, within, wide)),
      )

  object_holds : (object : Object) → length (attributes_of mapped object.class) ≡ length object.cells → HoldsColumns mapped class (filled_object (found_in_row mapped class row object.class) object)
  object_holds object long attr attribute at some =
      let found = column_found object.class attr attribute at some in
      let within = slice_get_within (attributes_of mapped object.class) attr.0 attribute at in
      cell_held (found_in_row mapped class row object.class) object.cells 0 attr.0 attr.0 found.0 (omega (arith, within, long)) (omega arith) found.1

module _ (mapped : Mapped) (class : ClassId) (has : HasHierarchies mapped) (declared : IsClass mapped class) where
  taken_holds : (row : List Value) (own now : Loading) (object : ObjId) (r : Result (ObjId × Graph) Refusal) → IsRowOf mapped class row → length row ≡ length (attributes_of mapped class) → IsFit mapped own.graph
      → length own.graph.roots ≡ length own.graph.objects → row_object mapped class row own.graph ≡ r → Goes (λ (start : Loading). taken_as mapped class row start r) own object now → HoldsColumns mapped class (object_at now.graph object)
  unfolding filled with_filled row_object
  taken_holds row own now object (Err e) is wide fit rooted made g = absurd (let no = g.answer in cc)
  taken_holds row own now object (Ok found) is wide fit rooted made g =
      let one : Object = object_at found.1 found.0 in
      let values : Found = found_in_row mapped class row one.class in
      let there = row_object_taken mapped class row own.graph has.paired rooted found made in
      let after : IsFit mapped found.1 = found_fits mapped class has declared row own.graph fit (find_identity own.graph (root_of mapped class) (row_key mapped class row)) found is made in
      let holds = object_holds mapped class row wide one (fit_cells mapped found.1 found.0 after there.stands.0) in
      subst (λ (late : Loading). HoldsColumns mapped class (object_at late.graph object)) g.leaves
      (subst (λ (o : ObjId). HoldsColumns mapped class (object_at (with_filled found.1 found.0 values) o)) (same_answer found.0 object g.answer)
      (subst (HoldsColumns mapped class) (sym (at_with found.1 found.0 (filled_object values one) there.stands.0)) holds))

  -- the object of a row holds what the row has
  pub row_holds : (row : List Value) (own now : Loading) (object : ObjId) → IsRowOf mapped class row → length row ≡ length (attributes_of mapped class) → IsFit mapped own.graph → length own.graph.roots ≡ length own.graph.objects
      → Goes (take_row mapped class row) own object now → HoldsColumns mapped class (object_at now.graph object)
  unfolding take_row
  row_holds row own now object is wide fit rooted g = taken_holds row own now object (row_object mapped class row own.graph) is wide fit rooted refl (record { answer = g.answer; leaves = g.leaves })

-- ---- foreign keys

module _ (mapped : Mapped) (table : TableId) (apart : some_two (λ (one other : ColumnSpec). same_name one.name other.name) (spec_of mapped.schema table).columns ≡ false) (name : List ℕ) where
  -- an attribute of a name is of the column of the name
  column_of_name : (class : ClassId) (has : has_attribute (attributes_of mapped class) table name ≡ true) → (first_there (is_column table name) (attributes_of mapped class) has).item.column.0 ≡ (column_named mapped table name).0
  column_of_name class has =
      let attributes : List Attribute = attributes_of mapped class in
      let there = first_there (is_column table name) attributes has in
      let shown : Attribute → SourceColumn = attribute_column mapped class (from_root 0) in
      let told : SourceColumn → Value = λ column. value.Text (column.column.0 ∷ []) in
      let values : List Value = map told (attribute_columns mapped class (from_root 0)) in
      let own : value_in values (attr_named attributes table name) ≡ told (shown there.item) =
      ap (λ (o : Option ℕ). value_or_null (slice_get values (unwrap_or o (length attributes)))) there.first
      ∙ ap value_or_null (slice_get-map told (map shown attributes) there.place ∙ ap (option_map told) (slice_get-map shown attributes there.place ∙ ap (option_map shown) there.at)) in
      let both = each_value mapped class table apart told (name ∷ []) (and_from (has_attribute attributes table name) true has refl) in
      cc

  -- a class's attribute of a name is a column of another class's attributes of the name
  same_column : (own class : ClassId) (one : has_attribute (attributes_of mapped own) table name ≡ true) → has_attribute (attributes_of mapped class) table name ≡ true
      → list_any (is_same_column (first_there (is_column table name) (attributes_of mapped own) one).item) (attributes_of mapped class) ≡ true
  same_column own class one other =
      let first = first_there (is_column table name) (attributes_of mapped own) one in
      let second = first_there (is_column table name) (attributes_of mapped class) other in
      let a : Attribute = first.item in
      let b : Attribute = second.item in
      let p = and_parts (a.table.0 == table.0) (same_name a.name name) first.passes in
      let q = and_parts (b.table.0 == table.0) (same_name b.name name) second.passes in
      any_has (is_same_column a) (attributes_of mapped class) b (has_at (attributes_of mapped class) second.place b second.at)
      (and_from (b.table.0 == a.table.0) (b.column.0 == a.column.0) (eq-eqb b.table.0 a.table.0 (eqb-true b.table.0 table.0 q.0 ∙ sym (eqb-true a.table.0 table.0 p.0)))
      (eq-eqb b.column.0 a.column.0 (column_of_name class other ∙ sym (column_of_name own one))))

  -- the cell of the name
  name_held : (class : ClassId) (object : Object) → HoldsColumns mapped class object → has_attribute (attributes_of mapped object.class) table name ≡ true → has_attribute (attributes_of mapped class) table name ≡ true
      → is_none (value_of object (attr_named (attributes_of mapped object.class) table name)) ≡ false
  name_held class object holds own above =
      let attributes : List Attribute = attributes_of mapped object.class in
      let there = first_there (is_column table name) attributes own in
      let attr : AttrNo = record { 0 = there.place } in
      ap (λ (o : Option ℕ). let named : AttrNo = record { 0 = unwrap_or o (length attributes) } in is_none (value_of object named)) there.first
      ∙ holds attr there.item there.at (same_column object.class class own above)

names_held : (mapped : Mapped) (table : TableId) (class : ClassId) (object : Object) → some_two (λ (one other : ColumnSpec). same_name one.name other.name) (spec_of mapped.schema table).columns ≡ false → HoldsColumns mapped class object → (names : List (List ℕ))
    → list_all (has_attribute (attributes_of mapped object.class) table) names ≡ true → list_all (has_attribute (attributes_of mapped class) table) names ≡ true
    → is_expired_among (map (attr_named (attributes_of mapped object.class) table) names) object ≡ false
names_held mapped table class object apart holds [] own above = refl
names_held mapped table class object apart holds (name ∷ names) own above =
    let p = and_parts (has_attribute (attributes_of mapped object.class) table name) (list_all (has_attribute (attributes_of mapped object.class) table) names) own in
    let q = and_parts (has_attribute (attributes_of mapped class) table name) (list_all (has_attribute (attributes_of mapped class) table) names) above in
    ap (λ (b : Bool). b || is_expired_among (map (attr_named (attributes_of mapped object.class) table) names) object) (name_held mapped table apart name class object holds p.0 q.0)
    ∙ names_held mapped table class object apart holds names p.1 q.1

module _ (mapped : Mapped) (has : HasHierarchies mapped) (related : AreRelated mapped) (class : ClassId) (declared : IsClass mapped class) (place : RelNo) (within : place.0 < length (relations_of mapped class)) where
  abbrev relation : Relation
  relation = relation_of mapped class place

  own_related : IsRelated mapped relation
  own_related = related_at mapped class place related declared within

  there_at : IsAt mapped class place.0 relation
  there_at = slice_get-get_or (relations_of mapped class) place.0 no_relation within

  -- an object of the class holds its foreign key of a many-to-one relationship
  pub key_held : (object : Object) → HoldsColumns mapped class object → is_at_or_under mapped object.class class ≡ true → relation.many ≡ false → is_key_expired mapped relation object ≡ false
  unfolding foreign_attrs
  key_held object holds under single =
      let tables : List TableSpec = mapped.schema.tables in
      let key : TableKey = relation.foreign in
      let names : List (List ℕ) = names_of tables key in
      let side : ClassId = relation.class in
      let near : relation.far ≡ None = one_without mapped class place.0 relation has own_related there_at single in
      let joined : (is_among (tables_of mapped side) key.0 && list_all (has_attribute (layout_of mapped side).attributes key.0) names && refers_by tables (tables_of mapped (one_side relation)) (foreign_at tables key)) ≡ true =
      ap (λ (many : Bool). let far_side : ClassId = if many then relation.target else relation.class in is_among (tables_of mapped far_side) key.0 && list_all (has_attribute (layout_of mapped far_side).attributes key.0) names && refers_by tables (tables_of mapped (one_side relation)) (foreign_at tables key)) (sym single)
      ∙ ap (has_keys mapped relation) (sym near) ∙ own_related.keys in
      let split = and_parts (is_among (tables_of mapped side) key.0 && list_all (has_attribute (layout_of mapped side).attributes key.0) names) (refers_by tables (tables_of mapped (one_side relation)) (foreign_at tables key)) joined in
      let first = and_parts (is_among (tables_of mapped side) key.0) (list_all (has_attribute (layout_of mapped side).attributes key.0) names) split.0 in
      let table_is : key.0.0 < length tables = tables_declared mapped side key.0 (among_has (tables_of mapped side) key.0 first.0) in
      let above : list_all (has_attribute (attributes_of mapped class) key.0) names ≡ true =
      all_under mapped class side has own_related.class (declared_above mapped class relation own_related (has.paired.back class place.0 relation there_at)) key.0 names first.1 in
      let own : list_all (has_attribute (attributes_of mapped object.class) key.0) names ≡ true = all_under mapped object.class class has declared under key.0 names above in
      names_held mapped key.0 class object (table_faultless mapped key.0 has table_is).apart holds names own above
