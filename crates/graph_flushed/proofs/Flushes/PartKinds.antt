-- The kinds of the values of keys: all tables of a class have keys of the kinds of its root's, and so has a foreign key that refers to
-- one of them.
use Rattle.std.proofs.Common.{◌≡◌, ℕ, zero, suc, ◌<◌, true, ◌&&◌, List, [], ◌∷◌, length, get_or, Option, None, Some, refl, sym, ap, ◌∙◌, subst, inl, inr, arith}
use Rattle.std.specs.Prelude.{slice_get}
use Rattle.std.specs.Option.{option_map}
use Rattle.std.specs.List.{list_all}
use Rattle.std.specs.Cmp.Lexicographic.{pointwise}
use Rattle.std.proofs.lemmas.Bool.{and_parts}
use Rattle.std.proofs.lemmas.Option.{get_or_from_slice_get, same_Some, slice_get-get_or, slice_get-map, slice_get_within}
use Rattle.base_core.specs.declared.ids.AttrNo.{AttrNo}
use Rattle.base_core.specs.declared.ids.ClassId.{ClassId}
use Rattle.base_core.specs.declared.ids.TableId.{TableId}
use Rattle.base_core.specs.declared.value.Kind.{Kind}
use Rattle.base_core.specs.declared.value.Value.{Value}
use Rattle.base_core.specs.declared.value.Value.TheVariants.{Null}
use Rattle.schema_core.specs.declared.table.ColumnSpec.{ColumnSpec}
use Rattle.schema_core.specs.declared.table.ForeignSpec.{ForeignSpec}
use Rattle.schema_core.specs.declared.table.TableSpec.{TableSpec}
use Rattle.schema_core.specs.Catalog.{find_table, key_columns, kind_of, no_table, same_kind, same_name, spec_of}
use Rattle.schema_core.specs.Declaration.{fits_key, has_kind, has_target, refers_to as finds}
use Rattle.schema_core.specs.Tables.{kind_of_value}
use Rattle.schema_core.proofs.Names.{same_names}
use Rattle.sql_semantics.proofs.Typed.{same_kind_is}
use Rattle.class_types.specs.declared.mapped.Attribute.{Attribute}
use Rattle.class_layouts.specs.Columns.{is_table}
use Rattle.class_sides.specs.Keys.{refers_into, refers_to}
use Rattle.class_mapping.specs.Mapped.{Mapped, attributes_of, key_attributes, no_attribute, root_spec, root_table, tables_of}
use Rattle.class_mapping.proofs.Having.{Has, all_of, has_at, some_of}
use Rattle.class_mapping.proofs.RelatedKeys.{same_table}
use Rattle.object_arena.specs.Fit.{identity_fits, is_just_of_kind, is_of_kind, key_value_fits}
use Rattle.object_arena.proofs.PartLemmas.{pointwise_at}
use Rattle.object_rows.specs.Cells.{key_value}
use Rattle.mapping_laws.specs.Hierarchies.{HasHierarchies, HasTables, kinds_of}
use Rattle.mapping_laws.proofs.KeyKinds.{key_kinds}
use Rattle.graph_flushed.proofs.Flushes.Columns.{IsColumnOf, one_column}

-- ---- the tables of a class

at_of : {A : Type 0} (xs : List A) (x : A) → Has xs x → (i : ℕ) × (slice_get xs i ≡ Some x)
at_of [] x there = absurd there
at_of (y ∷ xs) x (inl e) = (zero, ap (λ z. Some z) e)
at_of (y ∷ xs) x (inr there) = let later = at_of xs x there in (suc later.0, later.1)

keys_at : (mapped : Mapped) (class : ClassId) → HasTables mapped class → (rank : ℕ) (table : TableId) → slice_get (tables_of mapped class) rank ≡ Some table
    → kinds_of (key_columns (root_spec mapped class)) ≡ kinds_of (key_columns (spec_of mapped.schema table))
keys_at mapped class known zero table at =
    let same : root_table mapped class ≡ table = same_Some (root_table mapped class) table (sym (ap (λ (own : List TableId). slice_get own 0) known.first) ∙ at) in
    ap (λ (t : TableId). kinds_of (key_columns (spec_of mapped.schema t))) same
keys_at mapped class known (suc rank) table at =
    let less : rank < length (tables_of mapped class) = omega (arith, slice_get_within (tables_of mapped class) (suc rank) table at) in
    let parent : TableId = get_or (tables_of mapped class) rank (root_table mapped class) in
    let before : slice_get (tables_of mapped class) rank ≡ Some parent = slice_get-get_or (tables_of mapped class) rank (root_table mapped class) less in
    keys_at mapped class known rank parent before ∙ known.alike rank parent table before at

-- each has a key of the kinds of the root's
pub keys_alike : (mapped : Mapped) (class : ClassId) (table : TableId) → HasTables mapped class → Has (tables_of mapped class) table
    → kinds_of (key_columns (root_spec mapped class)) ≡ kinds_of (key_columns (spec_of mapped.schema table))
keys_alike mapped class table known there = let at = at_of (tables_of mapped class) table there in keys_at mapped class known at.0 table at.1

-- ---- foreign keys

-- the target's key has a column opposite to each column of the foreign key
opposite_key : (columns : List ColumnSpec) (names : List (List ℕ)) (targets : List ColumnSpec) (i : ℕ) (name : List ℕ) → pointwise (has_kind columns) names targets ≡ true → slice_get names i ≡ Some name
    → (target : ColumnSpec) × (slice_get targets i ≡ Some target) × (has_kind columns name target ≡ true)
opposite_key columns [] targets i name h at = absurd cc
opposite_key columns (other ∷ names) [] i name h at = absurd cc
opposite_key columns (other ∷ names) (target ∷ targets) zero name h at =
    let parts = and_parts (has_kind columns other target) (pointwise (has_kind columns) names targets) h in
    (target, refl, ap (λ (n : List ℕ). has_kind columns n target) (sym (same_Some other name at)) ∙ parts.0)
opposite_key columns (other ∷ names) (target ∷ targets) (suc i) name h at =
    let parts = and_parts (has_kind columns other target) (pointwise (has_kind columns) names targets) h in
    opposite_key columns names targets i name parts.1 at

-- a column of the kind of an attribute's
pub kind_opposite : (mapped : Mapped) (attribute : Attribute) → HasHierarchies mapped → (of : IsColumnOf mapped attribute) (target : ColumnSpec)
    → has_kind (spec_of mapped.schema attribute.table).columns attribute.name target ≡ true → kind_of target.kind ≡ attribute.kind
kind_opposite mapped attribute has of target h =
    let found = some_of (λ (one : ColumnSpec). same_name one.name attribute.name && same_kind (kind_of one.kind) (kind_of target.kind)) (spec_of mapped.schema attribute.table).columns h in
    let parts = and_parts (same_name found.0.name attribute.name) (same_kind (kind_of found.0.kind) (kind_of target.kind)) found.2 in
    let same : found.0 ≡ of.column = one_column mapped attribute has of found.0 found.1 (same_names found.0.name attribute.name parts.0) in
    sym (same_kind_is (kind_of found.0.kind) (kind_of target.kind) parts.1) ∙ ap (λ (one : ColumnSpec). kind_of one.kind) same ∙ of.kind

fitting_target : (tables : List TableSpec) (spec : TableSpec) (foreign : ForeignSpec) (target : TableId) (found : Option TableId) → is_table found target ≡ true → finds tables spec foreign found ≡ true
    → fits_key spec.columns foreign.columns (get_or tables target.0 no_table) ≡ true
fitting_target tables spec foreign target None h g = absurd cc
fitting_target tables spec foreign target (Some found) h g =
    let same : found ≡ target = same_table found target h in
    ap (λ (t : TableId). fits_key spec.columns foreign.columns (get_or tables t.0 no_table)) (sym same) ∙ g

-- a foreign key that refers to a table of a class has the kinds of the key of the class's root
pub referred_kind : (mapped : Mapped) (class : ClassId) (attribute : Attribute) (foreign : ForeignSpec) (part : ℕ) → HasHierarchies mapped → HasTables mapped class → (of : IsColumnOf mapped attribute)
    → Has (spec_of mapped.schema attribute.table).foreigns foreign → refers_into mapped.schema.tables foreign (tables_of mapped class) ≡ true → slice_get foreign.columns part ≡ Some attribute.name
    → slice_get (kinds_of (key_columns (root_spec mapped class))) part ≡ Some attribute.kind
referred_kind mapped class attribute foreign part has known of there into at =
    let tables : List TableSpec = mapped.schema.tables in
    let spec : TableSpec = spec_of mapped.schema attribute.table in
    let table = some_of (refers_to tables foreign) (tables_of mapped class) into in
    let stands : Has tables spec = has_at tables attribute.table.0 spec (slice_get-get_or tables attribute.table.0 no_table of.less) in
    let all : list_all (has_target tables spec) spec.foreigns ≡ true = all_of (λ (one : TableSpec). list_all (has_target tables one) one.foreigns) tables spec has.valid.targets stands in
    let fits : fits_key spec.columns foreign.columns (get_or tables table.0.0 no_table) ≡ true =
    fitting_target tables spec foreign table.0 (find_table tables foreign.target) table.2 (all_of (has_target tables spec) spec.foreigns foreign all there) in
    let target = opposite_key spec.columns foreign.columns (key_columns (spec_of mapped.schema table.0)) part attribute.name fits at in
    ap (λ (kinds : List Kind). slice_get kinds part) (keys_alike mapped class table.0 known table.1)
    ∙ slice_get-map (λ (column : ColumnSpec). kind_of column.kind) (key_columns (spec_of mapped.schema table.0)) part
    ∙ ap (option_map (λ (column : ColumnSpec). kind_of column.kind)) target.1
    ∙ ap (λ (kind : Kind). Some kind) (kind_opposite mapped attribute has of target.0 target.2)

-- ---- parts of keys

just_is : (kind : Kind) (found : Option Kind) → is_just_of_kind kind found ≡ true → is_of_kind kind found ≡ true
just_is kind None h = absurd cc
just_is kind (Some found) h = h

mapped_from : {A B : Type 0} (f : A → B) (found : Option A) (y : B) → option_map f found ≡ Some y → (x : A) × (found ≡ Some x) × (f x ≡ y)
mapped_from f None y h = absurd cc
mapped_from f (Some x) y h = (x, refl, same_Some (f x) y h)

-- a part of a key of a class is of the kind of its column, or there is none
pub part_kind : (mapped : Mapped) (class : ClassId) (part : ℕ) (kind : Kind) (key : Option (List Value)) → HasHierarchies mapped → HasTables mapped class → slice_get (kinds_of (key_columns (root_spec mapped class))) part ≡ Some kind
    → identity_fits mapped class key ≡ true → is_of_kind kind (kind_of_value (key_value key part)) ≡ true
part_kind mapped class part kind None has known at fits = refl
part_kind mapped class part kind (Some key) has known at fits =
    let all : List Attribute = attributes_of mapped class in
    let keys : List AttrNo = key_attributes mapped class in
    let of_attr : AttrNo → Kind = λ attr. (get_or all attr.0 no_attribute).kind in
    let none : AttrNo = record { 0 = 0 } in
    let here = mapped_from of_attr (slice_get keys part) kind (sym (slice_get-map of_attr keys part) ∙ ap (λ (kinds : List Kind). slice_get kinds part) (key_kinds mapped class has known) ∙ at) in
    let less : part < length keys = slice_get_within keys part here.0 here.1 in
    let fit : key_value_fits mapped class (get_or keys part none) (get_or key part Null) ≡ true = pointwise_at (key_value_fits mapped class) keys key part none Null fits less in
    let is : of_attr (get_or keys part none) ≡ kind = ap of_attr (get_or_from_slice_get keys part here.0 none here.1) ∙ here.2 in
    just_is kind (kind_of_value (get_or key part Null)) (subst (λ (k : Kind). is_just_of_kind k (kind_of_value (get_or key part Null)) ≡ true) is fit)
