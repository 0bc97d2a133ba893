-- The columns of a class's attributes.
use Rattle.std.proofs.Common.{◌≡◌, ℕ, Bool, true, List, filter, get_or, Some, sym, ap, ◌∙◌, arith}
use Rattle.std.specs.Prelude.{slice_get}
use Rattle.std.specs.List.{enumerate_from}
use Rattle.std.proofs.lemmas.Option.{same_Some}
use Rattle.base_core.specs.declared.ids.ClassId.{ClassId}
use Rattle.base_core.specs.declared.ids.TableId.{TableId}
use Rattle.schema_core.specs.declared.table.ColumnSpec.{ColumnSpec}
use Rattle.schema_core.specs.Catalog.{kind_of, no_table}
use Rattle.class_types.specs.declared.mapped.Attribute.{Attribute}
use Rattle.class_layouts.specs.Columns.{attribute_at, columns_in, is_attribute, table_attributes, tables_on}
use Rattle.class_layouts.specs.Hierarchy.{line_of}
use Rattle.class_mapping.specs.Mapped.{Mapped, attributes_of}
use Rattle.class_mapping.proofs.Having.{Has, from_filter, from_flat, from_map, from_numbered}

-- a numbered column stands at its number
pub numbered_there : (columns : List ColumnSpec) (placed : ℕ × ColumnSpec) → Has (enumerate_from 0 columns) placed → slice_get columns placed.0 ≡ Some placed.1
numbered_there columns placed has =
    let found = from_numbered 0 columns placed has in
    let same : placed.0 ≡ found.0 = omega (arith, found.1) in
    ap (slice_get columns) same ∙ found.2

-- the column of an attribute that a table gives
pub record IsOfColumn (mapped : Mapped) (line : List ClassId) (ranked : ℕ × TableId) (attribute : Attribute) : Type 0 where
  pub placed : ℕ × ColumnSpec
  pub is : attribute_at ranked.1 placed ≡ attribute
  pub there : slice_get (columns_in mapped.schema.tables ranked.1) placed.0 ≡ Some placed.1
  pub shown : is_attribute mapped.schema.tables mapped.classes line ranked.0 ranked.1 placed.1 ≡ true

pub of_column : (mapped : Mapped) (line : List ClassId) (ranked : ℕ × TableId) (attribute : Attribute) → Has (table_attributes mapped.schema.tables mapped.classes line ranked) attribute
    → IsOfColumn mapped line ranked attribute
of_column mapped line ranked attribute there =
    let columns : List ColumnSpec = columns_in mapped.schema.tables ranked.1 in
    let shown : ℕ × ColumnSpec → Bool = λ placed. is_attribute mapped.schema.tables mapped.classes line ranked.0 ranked.1 placed.1 in
    let found = from_map (attribute_at ranked.1) (filter shown (enumerate_from 0 columns)) attribute there in
    let kept = from_filter shown (enumerate_from 0 columns) found.0 found.1 in
    record { placed = found.0; is = found.2; there = numbered_there columns found.0 kept.0; shown = kept.1 }

-- the column of an attribute of a class, and its kind
pub record IsOfKind (mapped : Mapped) (attribute : Attribute) : Type 0 where
  pub column : ColumnSpec
  pub there : slice_get (columns_in mapped.schema.tables attribute.table) attribute.column.0 ≡ Some column
  pub kind : kind_of column.kind ≡ attribute.kind

pub attribute_kind : (mapped : Mapped) (class : ClassId) (attribute : Attribute) → Has (attributes_of mapped class) attribute → IsOfKind mapped attribute
attribute_kind mapped class attribute there =
    let line : List ClassId = line_of mapped.classes class.0 in
    let found = from_flat (table_attributes mapped.schema.tables mapped.classes line) (enumerate_from 0 (tables_on mapped.schema.tables mapped.classes line)) attribute there in
    let of = of_column mapped line found.0 attribute found.2 in
    record {
      column = of.placed.1;
      there = ap (λ (a : Attribute). slice_get (columns_in mapped.schema.tables a.table) a.column.0) (sym of.is) ∙ of.there;
      kind = ap (λ (a : Attribute). a.kind) of.is;
    }

-- attributes of one column are of one kind
pub one_kind : (mapped : Mapped) (one other : Attribute) → IsOfKind mapped one → IsOfKind mapped other → one.table.0 ≡ other.table.0 → one.column.0 ≡ other.column.0 → one.kind ≡ other.kind
one_kind mapped one other of far table column =
    let same : of.column ≡ far.column =
    same_Some of.column far.column
    (sym of.there
    ∙ ap (λ (n : ℕ). slice_get (get_or mapped.schema.tables n no_table).columns one.column.0) table
    ∙ ap (slice_get (columns_in mapped.schema.tables other.table)) column ∙ far.there) in
    sym of.kind ∙ ap (λ (c : ColumnSpec). kind_of c.kind) same ∙ far.kind
