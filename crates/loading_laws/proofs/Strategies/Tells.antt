-- A row of a class's attributes has at those of a foreign key what stands in the key's columns.
use Rattle.std.proofs.Common.{◌≡◌, ℕ, zero, suc, ◌+◌, ◌<◌, ◌==◌, Bool, true, false, not, ◌&&◌, ◌||◌, cond, List, [], ◌∷◌, length, map, Option, None, Some, if◌then◌else◌, refl, sym, ap, subst, ◌∙◌, arith}
use Rattle.std.specs.Prelude.{find, slice_get, unwrap_or}
use Rattle.std.specs.Option.{option_map}
use Rattle.std.specs.List.{enumerate_from, list_all, list_any, position, position_or_len}
use Rattle.std.proofs.lemmas.Bool.{and_parts, eqb-true, lt-ltb}
use Rattle.std.proofs.lemmas.List.{length-map}
use Rattle.std.proofs.lemmas.List.Folds.{find_at}
use Rattle.std.proofs.lemmas.Option.{same_Some, slice_get-map, slice_get_within}
use Rattle.base_core.specs.declared.ids.ClassId.{ClassId}
use Rattle.base_core.specs.declared.ids.ColumnNo.{ColumnNo}
use Rattle.base_core.specs.declared.ids.TableId.{TableId}
use Rattle.base_core.specs.declared.value.Value.{Value}
use Rattle.schema_core.specs.declared.table.ColumnSpec.{ColumnSpec}
use Rattle.schema_core.specs.declared.table.TableSpec.{TableSpec}
use Rattle.schema_core.specs.Catalog.{same_name, spec_of}
use Rattle.schema_core.specs.Declaration.{some_two}
use Rattle.schema_core.specs.Tables.{value_or_null}
use Rattle.schema_core.proofs.Names.{name_itself, same_names}
use Rattle.class_types.specs.declared.mapped.Attribute.{Attribute}
use Rattle.class_types.specs.declared.mapped.Relation.{Relation}
use Rattle.class_layouts.specs.Columns.{columns_in, table_attributes, tables_on}
use Rattle.class_layouts.specs.Hierarchy.{line_of}
use Rattle.class_sides.specs.Keys.{TableKey, foreign_at, names_of}
use Rattle.class_sides.specs.Sides.{has_attribute}
use Rattle.class_mapping.specs.Mapped.{Mapped, attributes_of, layout_of, tables_of}
use Rattle.class_mapping.specs.Related.{has_keys}
use Rattle.class_mapping.specs.Valid.{is_among, joins, refers_by}
use Rattle.class_mapping.proofs.Having.{Has, any_has, found_of, from_flat, has_at}
use Rattle.class_mapping.proofs.Lists.{or_right}
use Rattle.mapping_laws.proofs.Attributes.{of_column}
use Rattle.mapping_laws.proofs.Tables.{tables_declared}
use Rattle.mapping_laws.proofs.Ties.{table_faultless}
use Rattle.collection_selects.proofs.MemberLemmas.{among_has}
use Rattle.relations.specs.Parents.{is_column}
use Rattle.load_columns.specs.declared.placing.SourceColumn.{SourceColumn}
use Rattle.load_columns.specs.Placing.{attribute_column, attribute_columns, column_at, column_named, columns_at, foreign_numbers, from_root, place_of_table}
use Rattle.collection_selects.specs.Collections.{owner_columns}
use Rattle.load_filling.specs.Rows.{value_in}
use Rattle.load_targets.specs.ForeignKeys.{attr_named, foreign_attrs}
use Rattle.loading_laws.specs.Answers.Answers.{Reads, value_at}
use Rattle.loading_laws.specs.Strategies.Filled.{IsOneToMany, key_of_owner}

-- ---- places in lists

-- where the first that passes stands
place_there : {A : Type 0} (test : A → Bool) (xs : List A) (x : A) → find test xs ≡ Some x → (n : ℕ) × (position test xs ≡ Some n) × (slice_get xs n ≡ Some x)
place_there test xs x e =
    let n : ℕ = position_or_len test xs in
    let here : slice_get xs n ≡ Some x = sym (find_at test xs) ∙ e in
    (n, ap (λ (b : Bool). if b then Some n else None) (lt-ltb n (length xs) (slice_get_within xs n x here)), here)

never : {A : Type 0} → true ≡ false → A
never e = absurd cc

module _ (name : List ℕ) where
  abbrev named : ColumnSpec → Bool
  named column = same_name column.name name

  -- a column before it has another name
  only_by : (first : ColumnSpec) (columns : List ColumnSpec) (i : ℕ) (column : ColumnSpec) (b : Bool) → named first ≡ b → list_any (λ (later : ColumnSpec). same_name later.name first.name) columns ≡ false → slice_get columns i ≡ Some column
      → named column ≡ true → position_or_len named columns ≡ i → position_or_len named (first ∷ columns) ≡ suc i
  only_by first columns i column true is apart at passes rest =
      let alike : same_name column.name first.name ≡ true = ap (λ (n : List ℕ). same_name n first.name) (same_names column.name name passes ∙ sym (same_names first.name name is)) ∙ name_itself first.name in
      never (sym (any_has (λ (later : ColumnSpec). same_name later.name first.name) columns column (has_at columns i column at) alike) ∙ apart)
  only_by first columns i column false is apart at passes rest =
      let step : position_or_len named (first ∷ columns) ≡ 1 + position_or_len named columns = ap (λ (b : Bool). cond (not b) (1 + position_or_len named columns) 0) is in
      omega (arith, step, rest)

  first_false : (b c : Bool) → (b || c) ≡ false → b ≡ false
  first_false true c e = never e
  first_false false c e = refl

  only_length : (columns : List ColumnSpec) (i : ℕ) (column : ColumnSpec) → some_two (λ (one other : ColumnSpec). same_name one.name other.name) columns ≡ false → slice_get columns i ≡ Some column → named column ≡ true → position_or_len named columns ≡ i
  only_length [] i column apart at passes = absurd cc
  only_length (first ∷ columns) zero column apart at passes =
      ap (λ (b : Bool). cond (not b) (1 + position_or_len named columns) 0) (ap named (same_Some first column at) ∙ passes)
  only_length (first ∷ columns) (suc i) column apart at passes =
      only_by first columns i column (named first) refl
      (first_false (list_any (λ (later : ColumnSpec). same_name later.name first.name) columns) (some_two (λ (one other : ColumnSpec). same_name one.name other.name) columns) apart) at passes
      (only_length columns i column (or_right (list_any (λ (later : ColumnSpec). same_name later.name first.name) columns) (some_two (λ (one other : ColumnSpec). same_name one.name other.name) columns) apart) at passes)

  -- the place of the one column of a name
  only_place : (columns : List ColumnSpec) (i : ℕ) (column : ColumnSpec) → some_two (λ (one other : ColumnSpec). same_name one.name other.name) columns ≡ false → slice_get columns i ≡ Some column → named column ≡ true → position named columns ≡ Some i
  only_place columns i column apart at passes =
      let n : ℕ = position_or_len named columns in
      let is : n ≡ i = only_length columns i column apart at passes in
      let within = slice_get_within columns i column at in
      ap (λ (b : Bool). if b then Some n else None) (lt-ltb n (length columns) (omega (arith, is, within))) ∙ ap Some is

-- ---- the columns of attributes

module _ (mapped : Mapped) (class : ClassId) (table : TableId) (apart : some_two (λ (one other : ColumnSpec). same_name one.name other.name) (spec_of mapped.schema table).columns ≡ false) where
  abbrev attributes : List Attribute
  attributes = attributes_of mapped class

  -- the column of an attribute is the one of its name
  column_is : (name : List ℕ) (a : Attribute) → Has attributes a → a.table ≡ table → same_name a.name name ≡ true → a.column ≡ column_named mapped table name
  column_is name a there same is =
      let line : List ClassId = line_of mapped.classes class.0 in
      let from = from_flat (table_attributes mapped.schema.tables mapped.classes line) (enumerate_from 0 (tables_on mapped.schema.tables mapped.classes line)) a there in
      let of = of_column mapped line from.0 a from.2 in
      let own_table : from.0.1 ≡ table = ap (λ (x : Attribute). x.table) of.is ∙ same in
      let here : slice_get (columns_in mapped.schema.tables table) of.placed.0 ≡ Some of.placed.1 = subst (λ (t : TableId). slice_get (columns_in mapped.schema.tables t) of.placed.0 ≡ Some of.placed.1) own_table of.there in
      let named : same_name of.placed.1.name name ≡ true = ap (λ (x : Attribute). same_name x.name name) of.is ∙ is in
      let only = only_place name (columns_in mapped.schema.tables table) of.placed.0 of.placed.1 apart here named in
      ap (λ (x : Attribute). x.column) (sym of.is) ∙ ap (λ (o : Option ℕ). let c : ColumnNo = record { 0 = unwrap_or o 0 } in c) (sym only)

  -- the value at the attribute of a column
  one_value : (v : SourceColumn → Value) (name : List ℕ) → has_attribute attributes table name ≡ true
      → value_in (map v (attribute_columns mapped class (from_root 0))) (attr_named attributes table name)
      ≡ v (column_at (place_of_table mapped class (from_root 0) table) (column_named mapped table name))
  one_value v name h =
      let found = found_of (is_column table name) attributes h in
      let a : Attribute = found.0 in
      let at = place_there (is_column table name) attributes a found.1 in
      let parts = and_parts (a.table.0 == table.0) (same_name a.name name) found.3 in
      let same : a.table ≡ table = ap (λ (n : ℕ). let one : TableId = record { 0 = n } in one) (eqb-true a.table.0 table.0 parts.0) in
      let shown : Attribute → SourceColumn = attribute_column mapped class (from_root 0) in
      let values : List Value = map v (attribute_columns mapped class (from_root 0)) in
      ap (λ (o : Option ℕ). value_or_null (slice_get values (unwrap_or o (length attributes)))) at.1
      ∙ ap value_or_null (slice_get-map v (map shown attributes) at.0 ∙ ap (option_map v) (slice_get-map shown attributes at.0 ∙ ap (option_map shown) at.2))
      ∙ ap (λ (t : TableId). v (column_at (place_of_table mapped class (from_root 0) t) a.column)) same
      ∙ ap (λ (c : ColumnNo). v (column_at (place_of_table mapped class (from_root 0) table) c)) (column_is name a found.2 same parts.1)

  -- those at the attributes of several
  pub each_value : (v : SourceColumn → Value) (names : List (List ℕ)) → list_all (has_attribute attributes table) names ≡ true
      → map (value_in (map v (attribute_columns mapped class (from_root 0)))) (map (attr_named attributes table) names)
      ≡ map v (columns_at (place_of_table mapped class (from_root 0) table) (map (column_named mapped table) names))
  each_value v [] h = refl
  each_value v (name ∷ names) h =
      let parts = and_parts (has_attribute attributes table name) (list_all (has_attribute attributes table) names) h in
      ap (λ (x : Value). x ∷ map (value_in (map v (attribute_columns mapped class (from_root 0)))) (map (attr_named attributes table) names)) (one_value v name parts.0)
      ∙ ap (λ (vs : List Value). v (column_at (place_of_table mapped class (from_root 0) table) (column_named mapped table name)) ∷ vs) (each_value v names parts.1)

-- a row of the target of a one-to-many relationship tells the key of its owner
pub tells_owners : (mapped : Mapped) (relation : Relation) → IsOneToMany mapped relation → Reads (attribute_columns mapped relation.target (from_root 0)) (owner_columns mapped relation) (key_of_owner mapped relation)
unfolding foreign_attrs
tells_owners mapped relation many =
    let tables : List TableSpec = mapped.schema.tables in
    let key : TableKey = relation.foreign in
    let own : List TableId = tables_of mapped relation.target in
    let keys : has_keys mapped relation None ≡ true = ap (has_keys mapped relation) (sym many.near) ∙ many.related.keys in
    let joined : joins tables (Some (layout_of mapped relation.target)) (Some (layout_of mapped relation.class)) key ≡ true =
    ap (λ (b : Bool). joins tables (Some (layout_of mapped (if b then relation.target else relation.class))) (Some (layout_of mapped (if b then relation.class else relation.target))) key) (sym many.many) ∙ keys in
    let split = and_parts (is_among own key.0 && list_all (has_attribute (layout_of mapped relation.target).attributes key.0) (names_of tables key)) (refers_by tables (tables_of mapped relation.class) (foreign_at tables key)) joined in
    let first = and_parts (is_among own key.0) (list_all (has_attribute (layout_of mapped relation.target).attributes key.0) (names_of tables key)) split.0 in
    let declared : key.0.0 < length tables = tables_declared mapped relation.target key.0 (among_has own key.0 first.0) in
    let names : List (List ℕ) = names_of tables key in
    let place : ℕ = place_of_table mapped relation.target (from_root 0) key.0 in
    record {
      same = λ frame row. each_value mapped relation.target key.0 (table_faultless mapped key.0 many.has declared).apart (value_at frame row) names first.1;
      long = λ row.
          length-map (map (attr_named (attributes_of mapped relation.target) key.0) names) (value_in row) ∙ length-map names (attr_named (attributes_of mapped relation.target) key.0)
          ∙ sym (length-map (foreign_numbers mapped key) (column_at place) ∙ length-map names (column_named mapped key.0));
    }
