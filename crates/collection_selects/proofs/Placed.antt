-- A class whose tables stand at a placement among the sources: its attributes' columns, and the condition that tells its rows.
use Rattle.std.proofs.Common.{◌≡◌, inl, inr, ℕ, ◌<◌, Bool, true, false, not, ◌==◌, List, [], ◌++◌, map, filter, length, Option, Some, is_some, refl, sym, ap, subst, ◌∙◌, if◌then◌else◌}
use Rattle.std.specs.Prelude.{slice_get, unwrap_or}
use Rattle.std.specs.Option.{option_and_then}
use Rattle.std.specs.List.{AllByRecursion, enumerate_from, position}
use Rattle.std.proofs.lemmas.Bool.{eq-eqb, eqb-true}
use Rattle.std.proofs.lemmas.List.{map-append}
use Rattle.std.proofs.lemmas.Option.{slice_get_within}
use Rattle.base_core.proofs.Lists.{get_before}
use Rattle.base_core.specs.declared.ids.ClassId.{ClassId}
use Rattle.base_core.specs.declared.ids.ColumnNo.{ColumnNo}
use Rattle.base_core.specs.declared.ids.TableId.{TableId}
use Rattle.base_core.specs.declared.value.Kind.{Kind}
use Rattle.base_core.specs.declared.value.Value.{Value}
use Rattle.base_core.specs.declared.value.Value.TheVariants as value
use Rattle.schema_core.specs.declared.table.ColumnSpec.{ColumnSpec}
use Rattle.schema_core.specs.Catalog.{kind_of}
use Rattle.schema_core.specs.Tables.{kind_of_value}
use Rattle.expr_types.specs.declared.expr.Origin.{Origin}
use Rattle.class_types.specs.declared.mapped.Attribute.{Attribute}
use Rattle.class_layouts.specs.Columns.{attribute_at, columns_in, is_attribute, table_attributes}
use Rattle.class_layouts.specs.Faults.{has_kind}
use Rattle.class_layouts.specs.Hierarchy.{line_of}
use Rattle.class_mapping.specs.Mapped.{IsClass, Mapped, attributes_of, class_spec, root_table, tables_of}
use Rattle.class_mapping.specs.Paired.{is_at_or_under}
use Rattle.class_mapping.proofs.Having.{Has, all_from, any_has, found_of, from_filter, from_flat, from_map, from_numbered, has_at}
use Rattle.class_mapping.proofs.LineLemmas.{line_within}
use Rattle.class_mapping.proofs.Lists.{and_right}
use Rattle.class_mapping.proofs.RelatedLemmas.{has_class_from, own_line}
use Rattle.load_columns.specs.declared.placing.Placement.{Placement}
use Rattle.load_columns.specs.declared.placing.SourceColumn.{SourceColumn}
use Rattle.load_columns.specs.Placing.{attribute_column, attribute_columns, place_at_rank, place_of_table, rank_of}
use Rattle.load_columns.specs.Conditions.{column_of}
use Rattle.load_selects.specs.Branches.{branch, class_ids, discriminator_of, identities, is_of_branch, discriminator_column, is_under, names_branch}
use Rattle.mapping_laws.specs.Hierarchies.{HasHierarchies, HasTables, TellsApart}
use Rattle.mapping_laws.proofs.Attributes.{numbered_there}
use Rattle.mapping_laws.proofs.Tables.{from_filter_map}
use Rattle.mapping_laws.proofs.Told.{place_of_found, tells_apart}
use Rattle.collection_selects.proofs.Keys.{IsAt, column_there}
use Rattle.collection_selects.proofs.Plain.{IsColumn, IsPart}
use Rattle.collection_selects.proofs.Standing.{IsThere, column_stands, in_stands, in_whole, is_of}

-- the tables of a class stand where a placement says
abbrev pub StandsAt : Mapped → ClassId → Placement → List Origin → Type 0
StandsAt mapped class placement under =
    (rank : ℕ) (table : TableId) → slice_get (tables_of mapped class) rank ≡ Some table → IsAt under (place_at_rank placement rank) table

-- further sources behind leave a table where it is
pub at_more : (sources more : List Origin) (place : ℕ) (table : TableId) → IsAt sources place table → IsAt (sources ++ more) place table
at_more sources more place table at =
    let table_of : Origin → TableId = λ origin. origin.table in
    ap (λ (tables : List TableId). slice_get tables place) (map-append table_of sources more)
    ∙ get_before (map table_of sources) (map table_of more) place (slice_get_within (map table_of sources) place table at) ∙ at

-- a table that is there stands at its rank
pub rank_finds : (own : List TableId) (table : TableId) → Has own table → slice_get own (unwrap_or (position (λ other. other.0 == table.0) own) 0) ≡ Some table
rank_finds own table has =
    let test : TableId → Bool = λ other. other.0 == table.0 in
    let found = found_of test own (any_has test own table has (eq-eqb table.0 table.0 refl)) in
    let same : found.0 ≡ table = ap (λ (n : ℕ). let one : TableId = record { 0 = n } in one) (eqb-true found.0.0 table.0 found.3) in
    place_of_found test own found.0 found.1 ∙ ap (λ (one : TableId). Some one) same

-- a value that the discriminator takes is given, and of its kind
value_fits : (v : Value) (kind : Kind) → has_kind (option_and_then kind_of_value (Some v)) kind ≡ true → is_of kind v ≡ true
value_fits value.Null kind h = absurd cc
value_fits (value.Bool b) kind h = h
value_fits (value.Int n) kind h = h
value_fits (value.Text s) kind h = h
value_fits (value.Bytes s) kind h = h

-- ---- the classes at or under a class

module _ (mapped : Mapped) (class : ClassId) (has : HasHierarchies mapped) (less : IsClass mapped class) (known : HasTables mapped class) where
  pub branch_under : (other : ClassId) → Has (branch mapped class) other → is_at_or_under mapped other class ≡ true
  branch_under other (inl e) = ap (λ (one : ClassId). is_at_or_under mapped one class) (sym e) ∙ has_class_from (line_of mapped.classes class.0) class class.0 (own_line mapped has.lined has.lines class less) refl
  branch_under other (inr h) = and_right (not (other.0 == class.0)) (is_at_or_under mapped other class) (from_filter (is_under mapped class) (class_ids mapped) other h).1

  identities_fit : (name : List ℕ) (tells : TellsApart mapped class name) → AllByRecursion (λ v. is_of (kind_of tells.column.kind) v ≡ true) (identities mapped class)
  identities_fit name tells =
      all_from (λ (v : Value). is_of (kind_of tells.column.kind) v ≡ true) (identities mapped class) (λ v there.
      let found = from_filter_map (λ (other : ClassId). (class_spec mapped other).identity) (branch mapped class) v there in
      let under = branch_under found.0 found.1 in
      let within : found.0.0 < length mapped.classes.lines = line_within mapped.classes.lines found.0.0 class.0 (slice_get mapped.classes.lines found.0.0) refl under in
      let declared : IsClass mapped found.0 = subst (λ (n : ℕ). found.0.0 < n) has.lined within in
      value_fits v (kind_of tells.column.kind) (ap (λ (identity : Option Value). has_kind (option_and_then kind_of_value identity) (kind_of tells.column.kind)) (sym found.2) ∙ tells.takes found.0 declared under))

module _ (mapped : Mapped) (class : ClassId) (has : HasHierarchies mapped) (less : IsClass mapped class) (known : HasTables mapped class)
    (placement : Placement) (under : List Origin) (stands : StandsAt mapped class placement under) where
  abbrev own : List TableId
  own = tables_of mapped class

  -- ---- its attributes

  -- the column of an attribute is there, and of the attribute's kind
  pub attribute_typed : (attribute : Attribute) → Has (attributes_of mapped class) attribute
      → IsThere mapped.schema under (place_of_table mapped class placement attribute.table) attribute.column attribute.kind
  attribute_typed attribute there =
      let line : List ClassId = line_of mapped.classes class.0 in
      let found = from_flat (table_attributes mapped.schema.tables mapped.classes line) (enumerate_from 0 own) attribute there in
      let ranked = found.0 in
      let table : TableId = ranked.1 in
      let numbered = from_numbered 0 own ranked found.1 in
      let columns : List ColumnSpec = columns_in mapped.schema.tables table in
      let shown = from_map (attribute_at table) (filter (λ placed. is_attribute mapped.schema.tables mapped.classes line ranked.0 table placed.1) (enumerate_from 0 columns)) attribute found.2 in
      let placed : ℕ × ColumnSpec = shown.0 in
      let kept = from_filter (λ (one : ℕ × ColumnSpec). is_attribute mapped.schema.tables mapped.classes line ranked.0 table one.1) (enumerate_from 0 columns) placed shown.1 in
      let column : ColumnNo = record { 0 = placed.0 } in
      subst (λ (one : Attribute). IsThere mapped.schema under (place_of_table mapped class placement one.table) one.column one.kind) shown.2
      (column_there mapped.schema under (place_of_table mapped class placement table) table column placed.1 (stands (rank_of mapped class table) table (rank_finds own table (has_at own numbered.0 table numbered.2)))
      (numbered_there columns placed kept.0))

  pub attribute_there : (attribute : Attribute) → Has (attributes_of mapped class) attribute → IsColumn mapped.schema under (attribute_column mapped class placement attribute)
  attribute_there attribute there = (attribute.kind, attribute_typed attribute there)

  pub attributes_there : AllByRecursion (IsColumn mapped.schema under) (attribute_columns mapped class placement)
  attributes_there =
      all_from (IsColumn mapped.schema under) (attribute_columns mapped class placement) (λ column there.
      let found = from_map (attribute_column mapped class placement) (attributes_of mapped class) column there in
      subst (IsColumn mapped.schema under) found.2 (attribute_there found.0 found.1))

  -- ---- its branch

  root_stands : IsAt under (place_at_rank placement 0) (root_table mapped class)
  root_stands = stands 0 (root_table mapped class) (ap (λ (tables : List TableId). slice_get tables 0) known.first)

  names_part : (name : List ℕ) → TellsApart mapped class name → AllByRecursion (IsPart mapped.schema under) (names_branch mapped class placement (Some name))
  names_part name tells =
      let column : SourceColumn = discriminator_column mapped class placement name in
      let kind : Kind = kind_of tells.column.kind in (
        record {
          stands =
              in_stands mapped.schema under kind (column_of column) (identities mapped class)
              (column_stands mapped.schema under column.source column.column kind (column_there mapped.schema under column.source (root_table mapped class) column.column tells.column root_stands tells.there))
              (identities_fit mapped class has less known name tells);
          whole = in_whole (column_of column) (identities mapped class);
        },
        tt,
      )

  branch_by : (b : Bool) → is_some (class_spec mapped class).table ≡ b
      → AllByRecursion (IsPart mapped.schema under) (if b then [] else names_branch mapped class placement (discriminator_of mapped class))
  branch_by true e = tt
  branch_by false e =
      let tells = tells_apart mapped class has less e in
      subst (λ (name : Option (List ℕ)). AllByRecursion (IsPart mapped.schema under) (names_branch mapped class placement name)) (sym tells.1.is) (names_part tells.0 tells.1)

  pub branch_parts : AllByRecursion (IsPart mapped.schema under) (is_of_branch mapped class placement)
  branch_parts = branch_by (is_some (class_spec mapped class).table) refl
