-- The columns of attributes, and the column that tells the classes of a hierarchy apart.
use Rattle.std.proofs.Common.{◌≡◌, ℕ, ◌<◌, zero, suc, true, not, ◌&&◌, ◌==◌, List, [], ◌∷◌, length, get_or, Option, None, Some, refl, sym, ap, ◌∙◌, subst}
use Rattle.std.specs.Prelude.{find, slice_get}
use Rattle.std.specs.List.{enumerate_from, list_any}
use Rattle.std.specs.Option.{option_and_then}
use Rattle.std.proofs.lemmas.Bool.{and_parts}
use Rattle.std.proofs.lemmas.Option.{slice_get-get_or}
use Rattle.base_core.specs.declared.ids.ClassId.{ClassId}
use Rattle.base_core.specs.declared.ids.TableId.{TableId}
use Rattle.base_core.specs.declared.value.Kind.{Kind}
use Rattle.base_core.specs.declared.value.Value.{Value}
use Rattle.schema_core.specs.declared.table.ColumnSpec.{ColumnSpec}
use Rattle.schema_core.specs.declared.table.ForeignSpec.{ForeignSpec}
use Rattle.schema_core.specs.Catalog.{has_name, kind_of, same_kind, same_name}
use Rattle.schema_core.specs.Tables.{kind_of_value, value_or_null}
use Rattle.schema_core.proofs.Names.{same_names}
use Rattle.sql_semantics.proofs.Typed.{kind_itself, same_kind_is}
use Rattle.class_types.specs.declared.declared.ClassSpec.{ClassSpec}
use Rattle.class_types.specs.declared.mapped.Attribute.{Attribute}
use Rattle.class_layouts.specs.Columns.{columns_in, own_table, table_attributes, tables_on}
use Rattle.class_layouts.specs.Faults.{discriminator_in, discriminator_on, fails_discriminator, foreigns_in, has_kind, is_discriminating, is_named, root_table_on, takes_identity, takes_in}
use Rattle.class_layouts.specs.Hierarchy.{line_of, no_class, root_in}
use Rattle.class_mapping.specs.Lines.{is_root_over, spec_at}
use Rattle.class_mapping.specs.Mapped.{IsClass, Mapped, attributes_of, class_or, class_spec, root_of, root_table, table_or_none}
use Rattle.class_mapping.proofs.Having.{Has, from_flat, from_numbered, has_at, one_of_name}
use Rattle.class_mapping.proofs.Lists.{and_right}
use Rattle.class_mapping.proofs.PlainLemmas.{two_named}
use Rattle.class_mapping.proofs.RelatedKeys.{find_has, same_table}
use Rattle.object_arena.specs.Fit.{is_of_kind}
use Rattle.object_rows.specs.Rows.{is_discriminator, is_joined}
use Rattle.mapping_laws.specs.Hierarchies.{HasHierarchies}
use Rattle.mapping_laws.proofs.Attributes.{of_column}
use Rattle.mapping_laws.proofs.Tables.{found_root, line_rooted, tables_declared, twice_not}
use Rattle.mapping_laws.proofs.Ties.{table_faultless}

-- ---- the column of an attribute

-- it has the attribute's name and kind, and its table is declared
pub record IsColumnOf (mapped : Mapped) (attribute : Attribute) : Type 0 where
  pub column : ColumnSpec
  pub less : attribute.table.0 < length mapped.schema.tables
  pub there : Has (columns_in mapped.schema.tables attribute.table) column
  pub name : column.name ≡ attribute.name
  pub kind : kind_of column.kind ≡ attribute.kind

pub column_of : (mapped : Mapped) (class : ClassId) (attribute : Attribute) → Has (attributes_of mapped class) attribute → IsColumnOf mapped attribute
column_of mapped class attribute there =
    let line : List ClassId = line_of mapped.classes class.0 in
    let tables : List TableId = tables_on mapped.schema.tables mapped.classes line in
    let found = from_flat (table_attributes mapped.schema.tables mapped.classes line) (enumerate_from 0 tables) attribute there in
    let numbered = from_numbered 0 tables found.0 found.1 in
    let declared : found.0.1.0 < length mapped.schema.tables = tables_declared mapped class found.0.1 (has_at tables numbered.0 found.0.1 numbered.2) in
    let of = of_column mapped line found.0 attribute found.2 in
    subst (IsColumnOf mapped) of.is (record {
      column = of.placed.1;
      less = declared;
      there = has_at (columns_in mapped.schema.tables found.0.1) of.placed.0 of.placed.1 of.there;
      name = refl;
      kind = refl;
    })

-- another column of its name is that one
pub one_column : (mapped : Mapped) (attribute : Attribute) → HasHierarchies mapped → (of : IsColumnOf mapped attribute) (other : ColumnSpec) → Has (columns_in mapped.schema.tables attribute.table) other → other.name ≡ attribute.name → other ≡ of.column
one_column mapped attribute has of other there named =
    one_of_name (λ (one : ColumnSpec). one.name) (columns_in mapped.schema.tables attribute.table) other of.column
    (two_named (columns_in mapped.schema.tables attribute.table) ∙ (table_faultless mapped attribute.table has of.less).apart) there of.there (named ∙ sym of.name)

-- ---- kinds

-- a value that has a kind is of it
of_that_kind : (found : Option Kind) (kind : Kind) → has_kind found kind ≡ true → is_of_kind kind found ≡ true
of_that_kind None kind h = absurd cc
of_that_kind (Some found) kind h = ap (same_kind kind) (same_kind_is found kind h) ∙ kind_itself kind

identity_kind : (identity : Option Value) (kind : Kind) → has_kind (option_and_then kind_of_value identity) kind ≡ true → is_of_kind kind (kind_of_value (value_or_null identity)) ≡ true
identity_kind None kind h = refl
identity_kind (Some value) kind h = of_that_kind (kind_of_value value) kind h

-- ---- the root of a class

record IsRooted (mapped : Mapped) (class : ClassId) : Type 0 where
  root : ClassId
  first : root_in (line_of mapped.classes class.0) ≡ Some root
  table : TableId
  own : own_table mapped.schema.tables mapped.classes root.0 ≡ Some table

rooted : (mapped : Mapped) (class : ClassId) → HasHierarchies mapped → IsClass mapped class → IsRooted mapped class
rooted mapped class has less = by (root_in (line_of mapped.classes class.0)) refl (line_rooted mapped class has less)
  where
    by : (found : Option ClassId) → root_in (line_of mapped.classes class.0) ≡ found → is_root_over mapped.schema.tables (spec_at mapped.classes.specs found) ≡ true → IsRooted mapped class
    by None e h = absurd cc
    by (Some root) e h = let own = found_root mapped.schema.tables (slice_get mapped.classes.specs root.0) h in record { root = root; first = e; table = own.0; own = own.1 }

named_in : (specs : List ClassSpec) (n : ℕ) (name : List ℕ) → (get_or specs n no_class).discriminator ≡ Some name → discriminator_in (slice_get specs n) ≡ Some name
named_in [] n name h = absurd cc
named_in (spec ∷ specs) zero name h = h
named_in (spec ∷ specs) (suc n) name h = named_in specs n name h

-- the column that tells the classes takes the identity of each
told_here : (mapped : Mapped) (class : ClassId) (name : List ℕ) → HasHierarchies mapped → IsClass mapped class → (class_spec mapped (root_of mapped class)).discriminator ≡ Some name
    → takes_identity (foreigns_in mapped.schema.tables (root_table mapped class)) (class_spec mapped class).identity (find (λ column. same_name column.name name) (columns_in mapped.schema.tables (root_table mapped class))) ≡ true
told_here mapped class name has less e =
    let tables = mapped.schema.tables in
    let line : List ClassId = line_of mapped.classes class.0 in
    let identity : Option Value = (class_spec mapped class).identity in
    let by = rooted mapped class has less in
    let root : root_of mapped class ≡ by.root = ap (λ (found : Option ClassId). class_or found class) by.first in
    let table : root_table mapped class ≡ by.table = ap (λ (c : ClassId). table_or_none (own_table tables mapped.classes c.0)) root ∙ ap table_or_none by.own in
    let named : discriminator_in (slice_get mapped.classes.specs by.root.0) ≡ Some name = named_in mapped.classes.specs by.root.0 name (ap (λ (c : ClassId). (class_spec mapped c).discriminator) (sym root) ∙ e) in
    let told : not (fails_discriminator tables (own_table tables mapped.classes by.root.0) (discriminator_in (slice_get mapped.classes.specs by.root.0)) identity line) ≡ true =
    ap (λ (found : Option ClassId). not (fails_discriminator tables (root_table_on tables mapped.classes found) (discriminator_on mapped.classes found) identity line)) (sym by.first)
    ∙ has.lines.told class.0 (class_spec mapped class) (slice_get-get_or mapped.classes.specs class.0 no_class less) in
    let taken : not (not (takes_in tables name identity (Some by.table))) ≡ true =
    ap (λ (found : Option TableId). not (fails_discriminator tables found (Some name) identity line)) (sym by.own)
    ∙ ap (λ (found : Option (List ℕ)). not (fails_discriminator tables (own_table tables mapped.classes by.root.0) found identity line)) (sym named) ∙ told in
    ap (λ (t : TableId). takes_identity (foreigns_in tables t) identity (find (λ column. same_name column.name name) (columns_in tables t))) table
    ∙ twice_not (takes_in tables name identity (Some by.table)) taken

-- ---- the identity of a class

kind_taken : (foreigns : List ForeignSpec) (identity : Option Value) (column : ColumnSpec) → takes_identity foreigns identity (Some column) ≡ true → has_kind (option_and_then kind_of_value identity) (kind_of column.kind) ≡ true
kind_taken foreigns identity column h =
    and_right (is_discriminating (kind_of column.kind) && not column.key && not (list_any (λ foreign. has_name foreign.columns column.name) foreigns)) (has_kind (option_and_then kind_of_value identity) (kind_of column.kind)) h

named_by : (found : Option (List ℕ)) (name : List ℕ) → is_named found name ≡ true → found ≡ Some name
named_by None name h = absurd cc
named_by (Some own) name h = ap (λ (n : List ℕ). Some n) (same_names own name h)

taken_by : (mapped : Mapped) (attribute : Attribute) → HasHierarchies mapped → (of : IsColumnOf mapped attribute) (foreigns : List ForeignSpec) (identity : Option Value) (found : Option ColumnSpec)
    → find (λ column. same_name column.name attribute.name) (columns_in mapped.schema.tables attribute.table) ≡ found → takes_identity foreigns identity found ≡ true
    → is_of_kind attribute.kind (kind_of_value (value_or_null identity)) ≡ true
taken_by mapped attribute has of foreigns identity None e h = absurd cc
taken_by mapped attribute has of foreigns identity (Some column) e h =
    let stands = find_has (λ (one : ColumnSpec). same_name one.name attribute.name) (columns_in mapped.schema.tables attribute.table) column e in
    let same : column ≡ of.column = one_column mapped attribute has of column stands.0 (same_names column.name attribute.name stands.1) in
    subst (λ (kind : Kind). is_of_kind kind (kind_of_value (value_or_null identity)) ≡ true) (ap (λ (one : ColumnSpec). kind_of one.kind) same ∙ of.kind)
    (identity_kind identity (kind_of column.kind) (kind_taken foreigns identity column h))

-- where an attribute tells it, it is of the attribute's kind
pub told_fits : (mapped : Mapped) (class : ClassId) (attribute : Attribute) → HasHierarchies mapped → IsClass mapped class → Has (attributes_of mapped class) attribute → is_discriminator mapped class attribute.table attribute.name ≡ true
    → is_of_kind attribute.kind (kind_of_value (value_or_null (class_spec mapped class).identity)) ≡ true
told_fits mapped class attribute has less there h =
    let parts = and_parts (not (is_joined mapped class attribute.table)) (is_named (class_spec mapped (root_of mapped class)).discriminator attribute.name) h in
    let table : root_table mapped class ≡ attribute.table = same_table (root_table mapped class) attribute.table (twice_not ((root_table mapped class).0 == attribute.table.0) parts.0) in
    let told = told_here mapped class attribute.name has less (named_by (class_spec mapped (root_of mapped class)).discriminator attribute.name parts.1) in
    taken_by mapped attribute has (column_of mapped class attribute there) (foreigns_in mapped.schema.tables attribute.table) (class_spec mapped class).identity
    (find (λ column. same_name column.name attribute.name) (columns_in mapped.schema.tables attribute.table)) refl
    (subst
    (λ (t : TableId). takes_identity (foreigns_in mapped.schema.tables t) (class_spec mapped class).identity (find (λ column. same_name column.name attribute.name) (columns_in mapped.schema.tables t)) ≡ true)
    table told)
