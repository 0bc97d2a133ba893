-- The attributes of a class are those of each class under it too; so its rows have the foreign keys of relationships of the classes above.
use Rattle.std.proofs.Common.{◌≡◌, ℕ, zero, suc, ◌<◌, ◌==◌, Bool, true, false, not, ◌&&◌, ◌||◌, List, [], ◌∷◌, ◌++◌, filter, length, map, Option, None, Some, if◌then◌else◌, refl, sym, ap, subst, ◌∙◌}
use Rattle.std.specs.Prelude.{slice_get}
use Rattle.std.specs.List.{enumerate_from, list_all}
use Rattle.std.proofs.lemmas.Bool.{and_from, and_parts}
use Rattle.std.proofs.lemmas.List.Elements.{filter_map-append}
use Rattle.std.proofs.lemmas.List.Folds.{list_any-append}
use Rattle.base_core.specs.declared.ids.ClassId.{ClassId}
use Rattle.base_core.specs.declared.ids.TableId.{TableId}
use Rattle.schema_core.specs.declared.table.ColumnSpec.{ColumnSpec}
use Rattle.schema_core.specs.declared.table.TableSpec.{TableSpec}
use Rattle.schema_core.specs.Catalog.{same_name}
use Rattle.class_types.specs.declared.mapped.Attribute.{Attribute}
use Rattle.class_types.specs.declared.mapped.Relation.{Relation}
use Rattle.class_layouts.specs.declared.classes.Classes.{Classes}
use Rattle.class_layouts.specs.Columns.{attribute_at, attributes_on, columns_in, is_above, is_attribute, is_shown, own_table, owner_of, table_attributes, tables_on}
use Rattle.class_layouts.specs.Hierarchy.{has_class, line_of, root_in}
use Rattle.class_sides.specs.Keys.{TableKey, foreign_at, names_of}
use Rattle.class_sides.specs.Sides.{has_attribute}
use Rattle.class_mapping.specs.Mapped.{IsClass, Mapped, attributes_of, layout_of, tables_of}
use Rattle.class_mapping.specs.Paired.{is_at_or_under}
use Rattle.class_mapping.specs.Related.{IsRelated, has_keys, many_side, one_side}
use Rattle.class_mapping.specs.Valid.{is_among, refers_by}
use Rattle.class_mapping.proofs.Having.{Has, any_has, from_filter, from_flat, from_map, from_numbered, has_filter, has_flat, has_map, has_numbered, some_of}
use Rattle.mapping_laws.specs.Hierarchies.{HasHierarchies}
use Rattle.mapping_laws.proofs.Tables.{tables_declared}
use Rattle.mapping_laws.proofs.Ties.{table_faultless}
use Rattle.collection_selects.proofs.MemberLemmas.{among_has}
use Rattle.load_filling.specs.Rows.{value_in}
use Rattle.load_targets.specs.ForeignKeys.{foreign_attrs}
use Rattle.loading_laws.specs.TiedRows.{ReadsKeys}
use Rattle.loading_laws.proofs.Strategies.Tells.{each_value}

-- ---- lines that begin with others

get_before : {A : Type 0} (xs ys : List A) (i : ℕ) (x : A) → slice_get xs i ≡ Some x → slice_get (xs ++ ys) i ≡ Some x
get_before [] ys i x at = absurd cc
get_before (y ∷ xs) ys zero x at = at
get_before (y ∷ xs) ys (suc i) x at = get_before xs ys i x at

or_first : (a b : Bool) → a ≡ true → (a || b) ≡ true
or_first true b e = refl
or_first false b e = absurd cc

class_under : (line rest : List ClassId) (class : ℕ) → has_class line class ≡ true → has_class (line ++ rest) class ≡ true
class_under line rest class there = list_any-append (λ (other : ClassId). other.0 == class) line rest ∙ or_first (has_class line class) (has_class rest class) there

module _ (tables : List TableSpec) (classes : Classes) (first : ClassId) (more rest : List ClassId) where
  abbrev line_above : List ClassId
  line_above = first ∷ more

  abbrev line_under : List ClassId
  line_under = first ∷ (more ++ rest)

  above_under : (owner : Option ℕ) → is_above owner line_above ≡ true → is_above owner line_under ≡ true
  above_under None is = refl
  above_under (Some owner) is = class_under line_above rest owner is

  attribute_shown : (rank : ℕ) (table : TableId) (column : ColumnSpec) → is_attribute tables classes line_above rank table column ≡ true → is_attribute tables classes line_under rank table column ≡ true
  attribute_shown rank table column is =
      let parts = and_parts (rank == 0 || not column.key) (is_shown tables classes line_above table column.name) is in
      and_from (rank == 0 || not column.key) (is_shown tables classes line_under table column.name) parts.0 (above_under (owner_of tables classes (root_in line_above) table column.name) parts.1)

  table_there : (ranked : ℕ × TableId) → Has (enumerate_from 0 (tables_on tables classes line_above)) ranked → Has (enumerate_from 0 (tables_on tables classes line_under)) ranked
  table_there ranked there =
      let from = from_numbered 0 (tables_on tables classes line_above) ranked there in
      let same : tables_on tables classes line_under ≡ tables_on tables classes line_above ++ tables_on tables classes rest = filter_map-append (λ (class : ClassId). own_table tables classes class.0) line_above rest in
      let at : slice_get (tables_on tables classes line_under) from.0 ≡ Some ranked.1 =
      ap (λ (ts : List TableId). slice_get ts from.0) same ∙ get_before (tables_on tables classes line_above) (tables_on tables classes rest) from.0 ranked.1 from.2 in
      subst (λ (n : ℕ). Has (enumerate_from 0 (tables_on tables classes line_under)) (n, ranked.1)) (sym from.1) (has_numbered 0 (tables_on tables classes line_under) from.0 ranked.1 at)

  -- a class under another has its attributes
  attribute_under : (attribute : Attribute) → Has (attributes_on tables classes line_above) attribute → Has (attributes_on tables classes line_under) attribute
  attribute_under attribute there =
      let ranked = from_flat (table_attributes tables classes line_above) (enumerate_from 0 (tables_on tables classes line_above)) attribute there in
      let columns : List (ℕ × ColumnSpec) = enumerate_from 0 (columns_in tables ranked.0.1) in
      let shown : ℕ × ColumnSpec → Bool = λ placed. is_attribute tables classes line_above ranked.0.0 ranked.0.1 placed.1 in
      let shown_under : ℕ × ColumnSpec → Bool = λ placed. is_attribute tables classes line_under ranked.0.0 ranked.0.1 placed.1 in
      let placed = from_map (attribute_at ranked.0.1) (filter shown columns) attribute ranked.2 in
      let kept = from_filter shown columns placed.0 placed.1 in
      let here : Has (table_attributes tables classes line_under ranked.0) (attribute_at ranked.0.1 placed.0) =
      has_map (attribute_at ranked.0.1) (filter shown_under columns) placed.0 (has_filter shown_under columns placed.0 kept.0 (attribute_shown ranked.0.0 ranked.0.1 placed.0.1 kept.1)) in
      subst (Has (attributes_on tables classes line_under)) placed.2
      (has_flat (table_attributes tables classes line_under) (enumerate_from 0 (tables_on tables classes line_under)) ranked.0 (attribute_at ranked.0.1 placed.0) (table_there ranked.0 ranked.1) here)

-- ---- classes of a mapping

attribute_by : (mapped : Mapped) (above_line under_line rest : List ClassId) (class : ℕ) → has_class above_line class ≡ true → under_line ≡ above_line ++ rest → (attribute : Attribute)
    → Has (attributes_on mapped.schema.tables mapped.classes above_line) attribute → Has (attributes_on mapped.schema.tables mapped.classes under_line) attribute
attribute_by mapped [] under_line rest class own is attribute there = absurd cc
attribute_by mapped (first ∷ more) under_line rest class own is attribute there =
    subst (λ (line : List ClassId). Has (attributes_on mapped.schema.tables mapped.classes line) attribute) (sym is) (attribute_under mapped.schema.tables mapped.classes first more rest attribute there)

-- a class under another has each attribute of it
pub attribute_inherited : (mapped : Mapped) (class above : ClassId) → HasHierarchies mapped → IsClass mapped above → is_at_or_under mapped class above ≡ true → (attribute : Attribute)
    → Has (attributes_of mapped above) attribute → Has (attributes_of mapped class) attribute
attribute_inherited mapped class above has declared under attribute there =
    let begins = has.lines.nested class.0 above under in
    attribute_by mapped (line_of mapped.classes above.0) (line_of mapped.classes class.0) begins.0 above.0 (has.lines.own above.0 (subst (λ (n : ℕ). above.0 < n) (sym has.lined) declared)) begins.1 attribute there

named_by : (mapped : Mapped) (above_line under_line rest : List ClassId) (class : ℕ) → has_class above_line class ≡ true → under_line ≡ above_line ++ rest → (table : TableId) (name : List ℕ)
    → has_attribute (attributes_on mapped.schema.tables mapped.classes above_line) table name ≡ true → has_attribute (attributes_on mapped.schema.tables mapped.classes under_line) table name ≡ true
named_by mapped [] under_line rest class own is table name there = absurd cc
named_by mapped (first ∷ more) under_line rest class own is table name there =
    let test : Attribute → Bool = λ attribute. (attribute.table.0 == table.0) && same_name attribute.name name in
    let tables : List TableSpec = mapped.schema.tables in
    let found = some_of test (attributes_on tables mapped.classes (first ∷ more)) there in
    subst (λ (line : List ClassId). has_attribute (attributes_on tables mapped.classes line) table name ≡ true) (sym is)
    (any_has test (attributes_on tables mapped.classes (first ∷ (more ++ rest))) found.0 (attribute_under tables mapped.classes first more rest found.0 found.1) found.2)

named_under : (mapped : Mapped) (class above : ClassId) → HasHierarchies mapped → IsClass mapped above → is_at_or_under mapped class above ≡ true → (table : TableId) (name : List ℕ)
    → has_attribute (attributes_of mapped above) table name ≡ true → has_attribute (attributes_of mapped class) table name ≡ true
named_under mapped class above has declared under table name there =
    let begins = has.lines.nested class.0 above under in
    named_by mapped (line_of mapped.classes above.0) (line_of mapped.classes class.0) begins.0 above.0 (has.lines.own above.0 (subst (λ (n : ℕ). above.0 < n) (sym has.lined) declared)) begins.1 table name there

pub all_under : (mapped : Mapped) (class above : ClassId) → HasHierarchies mapped → IsClass mapped above → is_at_or_under mapped class above ≡ true → (table : TableId) (names : List (List ℕ))
    → list_all (has_attribute (attributes_of mapped above) table) names ≡ true → list_all (has_attribute (attributes_of mapped class) table) names ≡ true
all_under mapped class above has declared under table [] all = refl
all_under mapped class above has declared under table (name ∷ names) all =
    let parts = and_parts (has_attribute (attributes_of mapped above) table name) (list_all (has_attribute (attributes_of mapped above) table) names) all in
    and_from (has_attribute (attributes_of mapped class) table name) (list_all (has_attribute (attributes_of mapped class) table) names) (named_under mapped class above has declared under table name parts.0)
    (all_under mapped class above has declared under table names parts.1)

many_class : (mapped : Mapped) (relation : Relation) (many : Bool) → IsRelated mapped relation → IsClass mapped (if many then relation.target else relation.class)
many_class mapped relation true related = related.target
many_class mapped relation false related = related.class

-- a row of a class has in its attributes what stands in the columns of a foreign key of a class above
pub reads_keys : (mapped : Mapped) → HasHierarchies mapped → ReadsKeys mapped (λ class relation row. map (value_in row) (foreign_attrs mapped class relation))
unfolding foreign_attrs
reads_keys mapped has class relation values declared related under near =
    let tables : List TableSpec = mapped.schema.tables in
    let key : TableKey = relation.foreign in
    let side : ClassId = many_side relation in
    let own : List TableId = tables_of mapped side in
    let keys : has_keys mapped relation None ≡ true = ap (has_keys mapped relation) (sym near) ∙ related.keys in
    let split = and_parts (is_among own key.0 && list_all (has_attribute (layout_of mapped side).attributes key.0) (names_of tables key)) (refers_by tables (tables_of mapped (one_side relation)) (foreign_at tables key)) keys in
    let first = and_parts (is_among own key.0) (list_all (has_attribute (layout_of mapped side).attributes key.0) (names_of tables key)) split.0 in
    let table_is : key.0.0 < length tables = tables_declared mapped side key.0 (among_has own key.0 first.0) in
    each_value mapped class key.0 (table_faultless mapped key.0 has table_is).apart values (names_of tables key)
    (all_under mapped class side has (many_class mapped relation relation.many related) under key.0 (names_of tables key) first.1)
