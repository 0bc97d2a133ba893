-- The column that tells the classes of a hierarchy apart takes the identity of each.
use Rattle.std.proofs.Common.{◌≡◌, ℕ, zero, suc, Bool, true, not, ◌&&◌, ◌==◌, List, [], ◌∷◌, get_or, Option, None, Some, refl, sym, ap, ◌∙◌, subst}
use Rattle.std.specs.Prelude.{find, slice_get}
use Rattle.std.specs.List.{list_any}
use Rattle.std.specs.Option.{option_and_then}
use Rattle.std.proofs.lemmas.Bool.{and_parts}
use Rattle.std.proofs.lemmas.Option.{slice_get-get_or}
use Rattle.base_core.specs.declared.ids.ClassId.{ClassId}
use Rattle.base_core.specs.declared.ids.TableId.{TableId}
use Rattle.base_core.specs.declared.value.Kind.TheVariants as kinds
use Rattle.base_core.specs.declared.value.Value.{Value}
use Rattle.base_core.specs.declared.value.Value.TheVariants.{Bool as BoolValue, Bytes, Int, Null, Text}
use Rattle.schema_core.specs.declared.table.ColumnSpec.{ColumnSpec}
use Rattle.schema_core.specs.declared.table.ForeignSpec.{ForeignSpec}
use Rattle.schema_core.specs.Catalog.{IsTable, has_name, kind_of, same_kind, same_name, spec_of}
use Rattle.schema_core.specs.Tables.{kind_of_value, value_or_null}
use Rattle.schema_core.specs.WellFormed.{may_hold}
use Rattle.schema_core.proofs.Names.{same_names}
use Rattle.sql_semantics.proofs.Typed.{same_kind_is}
use Rattle.class_types.specs.declared.declared.ClassSpec.{ClassSpec}
use Rattle.class_layouts.specs.Columns.{columns_in, own_table}
use Rattle.class_layouts.specs.Faults.{discriminator_in, discriminator_on, fails_discriminator, foreigns_in, has_kind, is_discriminating, is_named, root_table_on, takes_identity, takes_in}
use Rattle.class_layouts.specs.Hierarchy.{line_of, no_class, root_in}
use Rattle.class_mapping.specs.Lines.{is_root_over, spec_at}
use Rattle.class_mapping.specs.Mapped.{IsClass, Mapped, class_or, class_spec, root_of, root_table, table_or_none}
use Rattle.class_mapping.proofs.Having.{Has}
use Rattle.class_mapping.proofs.RelatedKeys.{find_has, same_table}
use Rattle.mapping_laws.specs.Hierarchies.{HasHierarchies}
use Rattle.mapping_laws.proofs.Tables.{found_root, line_rooted, twice_not}
use Rattle.object_rows.specs.Rows.{is_discriminator, is_joined}
use Rattle.session_laws.proofs.Sendable.EndKeys.{same_column}

-- a value that has the kind of the column
has_held : (column : ColumnSpec) (identity : Option Value) → has_kind (option_and_then kind_of_value identity) (kind_of column.kind) ≡ true → may_hold column (value_or_null identity) ≡ true
has_held column None h = absurd cc
has_held column (Some Null) h = refl
has_held column (Some (BoolValue b)) h = ap (λ k. same_kind k kinds.Boolean) (sym (same_kind_is kinds.Boolean (kind_of column.kind) h))
has_held column (Some (Int n)) h = ap (λ k. same_kind k kinds.Integer) (sym (same_kind_is kinds.Integer (kind_of column.kind) h))
has_held column (Some (Text t)) h = ap (λ k. same_kind k kinds.Text) (sym (same_kind_is kinds.Text (kind_of column.kind) h))
has_held column (Some (Bytes b)) h = ap (λ k. same_kind k kinds.Bytes) (sym (same_kind_is kinds.Bytes (kind_of column.kind) h))

name_is : (found : Option (List ℕ)) (name : List ℕ) → is_named found name ≡ true → found ≡ Some name
name_is None name h = absurd cc
name_is (Some own) name h = subst (λ (n : List ℕ). Some own ≡ Some n) (same_names own name h) refl

told_by : (specs : List ClassSpec) (n : ℕ) (name : List ℕ) → (get_or specs n no_class).discriminator ≡ Some name → discriminator_in (slice_get specs n) ≡ Some name
told_by [] n name h = absurd cc
told_by (spec ∷ specs) zero name h = h
told_by (spec ∷ specs) (suc n) name h = told_by specs n name h

module _ (mapped : Mapped) (has : HasHierarchies mapped) (class : ClassId) (is : IsClass mapped class) where
  abbrev identity : Option Value
  identity = (class_spec mapped class).identity

  -- the hierarchy's discriminator takes the identity
  takes : (name : List ℕ) → (class_spec mapped (root_of mapped class)).discriminator ≡ Some name → takes_in mapped.schema.tables name identity (Some (root_table mapped class)) ≡ true
  takes name named = by (root_in line) refl (line_rooted mapped class has is)
    where
      line : List ClassId
      line = line_of mapped.classes class.0

      fails : Option TableId → Option (List ℕ) → Bool
      fails table found = fails_discriminator mapped.schema.tables table found identity line

      by : (found : Option ClassId) → root_in line ≡ found → is_root_over mapped.schema.tables (spec_at mapped.classes.specs found) ≡ true → takes_in mapped.schema.tables name identity (Some (root_table mapped class)) ≡ true
      by None at over = absurd cc
      by (Some root) at over =
          let top : root_of mapped class ≡ root = ap (λ (r : Option ClassId). class_or r class) at in
          let own = found_root mapped.schema.tables (slice_get mapped.classes.specs root.0) over in
          let table : Some (root_table mapped class) ≡ own_table mapped.schema.tables mapped.classes root.0 =
          ap (λ (c : ClassId). Some (table_or_none (own_table mapped.schema.tables mapped.classes c.0))) top ∙ ap (λ (o : Option TableId). Some (table_or_none o)) own.1 ∙ sym own.1 in
          let told : discriminator_in (slice_get mapped.classes.specs root.0) ≡ Some name = told_by mapped.classes.specs root.0 name (ap (λ (c : ClassId). (class_spec mapped c).discriminator) (sym top) ∙ named) in
          let good : not (fails (own_table mapped.schema.tables mapped.classes root.0) (discriminator_in (slice_get mapped.classes.specs root.0))) ≡ true =
          ap (λ (r : Option ClassId). not (fails (root_table_on mapped.schema.tables mapped.classes r) (discriminator_on mapped.classes r))) (sym at)
          ∙ has.lines.told class.0 (class_spec mapped class) (slice_get-get_or mapped.classes.specs class.0 no_class is) in
          ap (takes_in mapped.schema.tables name identity) table
          ∙ twice_not (takes_in mapped.schema.tables name identity (own_table mapped.schema.tables mapped.classes root.0))
          (ap (λ (o : Option (List ℕ)). not (fails (own_table mapped.schema.tables mapped.classes root.0) o)) (sym told) ∙ good)

  pub told_held : (table : TableId) → IsTable mapped.schema table → (column : ColumnSpec) → Has (spec_of mapped.schema table).columns column → is_discriminator mapped class table column.name ≡ true → may_hold column (value_or_null identity) ≡ true
  told_held table inside column of tells =
      let columns : List ColumnSpec = columns_in mapped.schema.tables table in
      let parts = and_parts (not (is_joined mapped class table)) (is_named (class_spec mapped (root_of mapped class)).discriminator column.name) tells in
      let top : root_table mapped class ≡ table = same_table (root_table mapped class) table (twice_not ((root_table mapped class).0 == table.0) parts.0) in
      by (find (λ (c : ColumnSpec). same_name c.name column.name) columns) refl
      (ap (λ (t : TableId). takes_in mapped.schema.tables column.name identity (Some t)) (sym top) ∙ takes column.name (name_is (class_spec mapped (root_of mapped class)).discriminator column.name parts.1))
    where
      by : (found : Option ColumnSpec) → find (λ (c : ColumnSpec). same_name c.name column.name) (columns_in mapped.schema.tables table) ≡ found → takes_identity (foreigns_in mapped.schema.tables table) identity found ≡ true → may_hold column (value_or_null identity) ≡ true
      by None at h = absurd cc
      by (Some other) at h =
          let stands = find_has (λ (c : ColumnSpec). same_name c.name column.name) (columns_in mapped.schema.tables table) other at in
          let same : other ≡ column = same_column mapped has table inside other column stands.0 of stands.1 in
          let free : Bool = is_discriminating (kind_of other.kind) && not other.key && not (list_any (λ (foreign : ForeignSpec). has_name foreign.columns other.name) (foreigns_in mapped.schema.tables table)) in
          has_held column identity (ap (λ (c : ColumnSpec). has_kind (option_and_then kind_of_value identity) (kind_of c.kind)) (sym same) ∙ (and_parts free (has_kind (option_and_then kind_of_value identity) (kind_of other.kind)) h).1)
