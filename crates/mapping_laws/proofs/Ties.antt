-- The keys of two neighbouring tables of a class have the same kinds, one by one.
use Rattle.std.proofs.Common.{◌≡◌, ℕ, suc, ◌+◌, ◌<◌, Bool, true, false, not, ◌&&◌, ◌||◌, List, [], ◌∷◌, ◌∙◌, length, filter, get_or, ap, sym, refl, subst, Option, None, Some, zero-add}
use Rattle.std.specs.Prelude.{nat_lt, slice_get, take}
use Rattle.std.specs.Option.{option_map}
use Rattle.std.specs.List.{AllByRecursion, enumerate_from, list_all, list_any}
use Rattle.std.specs.Cmp.Lexicographic.{pointwise}
use Rattle.std.proofs.lemmas.Bool.{and_parts, eqb-true}
use Rattle.std.proofs.lemmas.List.Elements.{All-from_recursion}
use Rattle.std.proofs.lemmas.Option.{slice_get-get_or, slice_get-map}
use Rattle.base_core.specs.declared.ids.ClassId.{ClassId}
use Rattle.base_core.specs.declared.ids.TableId.{TableId}
use Rattle.base_core.specs.declared.refusal.ArgumentKind.TheVariants.{DuplicateName, UnknownColumn, NoPrimaryKey}
use Rattle.base_core.specs.declared.value.Kind.{Kind}
use Rattle.schema_core.specs.declared.table.ColumnSpec.{ColumnSpec}
use Rattle.schema_core.specs.declared.table.ForeignSpec.{ForeignSpec}
use Rattle.schema_core.specs.declared.table.TableSpec.{TableSpec}
use Rattle.schema_core.specs.Catalog.{IsTable, find_table, key_columns, kind_of, no_table, same_kind, same_name}
use Rattle.schema_core.specs.Declaration.{declaration_fault, fits_key, has_kind, has_key, has_target, lists_unknown, refers_to as has_found, repeats_name, some_list, some_two}
use Rattle.schema_core.proofs.Names.{same_names}
use Rattle.sql_semantics.proofs.Typed.{same_kind_is}
use Rattle.class_types.specs.declared.declared.ClassSpec.{ClassSpec}
use Rattle.class_layouts.specs.declared.layout.Layout.{Layout}
use Rattle.class_layouts.specs.Columns.{columns_in, is_table, layout_of, layouts_of}
use Rattle.class_layouts.specs.Faults.{foreigns_in, foreigns_of}
use Rattle.class_layouts.specs.Hierarchy.{line_of, no_class}
use Rattle.class_sides.specs.Keys.{is_inherited, is_tied, is_whole_key, refers_to, ties, ties_to}
use Rattle.class_mapping.specs.Mapped.{IsClass, Mapped, tables_of}
use Rattle.class_mapping.specs.Valid.{extends_rightly, is_tied_in}
use Rattle.class_mapping.proofs.Having.{Has, all_from, all_of, from_filter, has_at, has_numbered, one_of_name, some_of}
use Rattle.class_mapping.proofs.Lists.{and_right, or_left, or_right}
use Rattle.class_mapping.proofs.PlainLemmas.{two_named}
use Rattle.class_mapping.proofs.RelatedLemmas.{line_for}
use Rattle.class_mapping.proofs.ValidLemmas.{split}
use Rattle.mapping_laws.specs.Hierarchies.{HasHierarchies, HasTables, kinds_of}
use Rattle.mapping_laws.proofs.Tables.{not_zero, tables_apart, tables_begin, tables_declared, twice_not}

-- ---- what a declared table has

-- its columns have names apart, and one is of the key
pub record IsFaultless (spec : TableSpec) : Type 0 where
  pub apart : some_two (λ one other. same_name one.name other.name) spec.columns ≡ false
  pub keyed : has_key spec ≡ true

faultless_by : (tables : List TableSpec) (spec : TableSpec) → declaration_fault tables spec ≡ None → IsFaultless spec
unfolding declaration_fault
faultless_by tables spec h =
    let one = split (repeats_name tables spec) DuplicateName _ h in
    let two = split (lists_unknown spec) UnknownColumn _ one.1 in
    let three = split (not (has_key spec)) NoPrimaryKey _ two.1 in
    record {
      apart = or_right _ _ (or_left _ (some_list (some_two same_name) spec) one.0);
      keyed = twice_not (has_key spec) (ap not three.0);
    }

pub table_faultless : (mapped : Mapped) (table : TableId) → HasHierarchies mapped → table.0 < length mapped.schema.tables → IsFaultless (get_or mapped.schema.tables table.0 no_table)
table_faultless mapped table has less = faultless_by (take table.0 mapped.schema.tables) (get_or mapped.schema.tables table.0 no_table) (has.declared.faultless table.0 less)

-- ---- the kinds of a foreign key that is a whole key

column_kind : (columns : List ColumnSpec) (column other : ColumnSpec) → some_two (λ one other. same_name one.name other.name) columns ≡ false → Has columns column
    → has_kind columns column.name other ≡ true → kind_of column.kind ≡ kind_of other.kind
column_kind columns column other apart has h =
    let found = some_of (λ (one : ColumnSpec). same_name one.name column.name && same_kind (kind_of one.kind) (kind_of other.kind)) columns h in
    let parts = and_parts (same_name found.0.name column.name) (same_kind (kind_of found.0.kind) (kind_of other.kind)) found.2 in
    let same : found.0 ≡ column = one_of_name (λ (one : ColumnSpec). one.name) columns found.0 column (two_named columns ∙ apart) found.1 has (same_names found.0.name column.name parts.0) in
    ap (λ (one : ColumnSpec). kind_of one.kind) (sym same) ∙ same_kind_is (kind_of found.0.kind) (kind_of other.kind) parts.1

tied_kinds : (columns keys : List ColumnSpec) (names : List (List ℕ)) (targets : List ColumnSpec) → some_two (λ one other. same_name one.name other.name) columns ≡ false
    → AllByRecursion (Has columns) keys → pointwise (λ name column. same_name name column.name) names keys ≡ true → pointwise (has_kind columns) names targets ≡ true → kinds_of targets ≡ kinds_of keys
tied_kinds columns [] [] [] apart inside h g = refl
tied_kinds columns [] [] (target ∷ targets) apart inside h g = absurd cc
tied_kinds columns [] (name ∷ names) targets apart inside h g = absurd cc
tied_kinds columns (key ∷ keys) [] targets apart inside h g = absurd cc
tied_kinds columns (key ∷ keys) (name ∷ names) [] apart inside h g = absurd cc
tied_kinds columns (key ∷ keys) (name ∷ names) (target ∷ targets) apart inside h g =
    let here = and_parts (same_name name key.name) (pointwise (λ name column. same_name name column.name) names keys) h in
    let there = and_parts (has_kind columns name target) (pointwise (has_kind columns) names targets) g in
    let same : name ≡ key.name = same_names name key.name here.0 in
    let alike : kind_of key.kind ≡ kind_of target.kind = column_kind columns key target apart inside.0 (ap (λ (n : List ℕ). has_kind columns n target) (sym same) ∙ there.0) in
    ap (λ (kind : Kind). kind ∷ kinds_of targets) (sym alike) ∙ ap (λ (kinds : List Kind). kind_of key.kind ∷ kinds) (tied_kinds columns keys names targets apart inside.1 here.1 there.1)

keys_inside : (columns : List ColumnSpec) → AllByRecursion (Has columns) (filter (λ column. column.key) columns)
keys_inside columns = all_from (Has columns) (filter (λ column. column.key) columns) (λ column has. (from_filter (λ (one : ColumnSpec). one.key) columns column has).0)

-- ---- the table before

pub target_by : (tables : List TableSpec) (spec : TableSpec) (foreign : ForeignSpec) (parent : TableId) (found : Option TableId) → is_table found parent ≡ true → has_found tables spec foreign found ≡ true
    → fits_key spec.columns foreign.columns (get_or tables parent.0 no_table) ≡ true
target_by tables spec foreign parent None h g = absurd cc
target_by tables spec foreign parent (Some found) h g =
    ap (λ (n : ℕ). fits_key spec.columns foreign.columns (get_or tables n no_table)) (sym (eqb-true found.0 parent.0 h)) ∙ g

ties_kinds : (mapped : Mapped) (table parent : TableId) (foreign : ForeignSpec) → HasHierarchies mapped → table.0 < length mapped.schema.tables → Has (get_or mapped.schema.tables table.0 no_table).foreigns foreign
    → ties mapped.schema.tables parent table foreign ≡ true → kinds_of (key_columns (get_or mapped.schema.tables parent.0 no_table)) ≡ kinds_of (key_columns (get_or mapped.schema.tables table.0 no_table))
ties_kinds mapped table parent foreign has less there h =
    let tables : List TableSpec = mapped.schema.tables in
    let spec : TableSpec = get_or tables table.0 no_table in
    let parts = and_parts (is_whole_key (columns_in tables table) foreign.columns) (refers_to tables foreign parent) h in
    let stands : Has tables spec = has_at tables table.0 spec (slice_get-get_or tables table.0 no_table less) in
    let all : list_all (has_target tables spec) spec.foreigns ≡ true = all_of (λ (one : TableSpec). list_all (has_target tables one) one.foreigns) tables spec has.valid.targets stands in
    let target : fits_key spec.columns foreign.columns (get_or tables parent.0 no_table) ≡ true =
    target_by tables spec foreign parent (find_table tables foreign.target) parts.1 (all_of (has_target tables spec) spec.foreigns foreign all there) in
    tied_kinds spec.columns (key_columns spec) foreign.columns (key_columns (get_or tables parent.0 no_table)) (table_faultless mapped table has less).apart (keys_inside spec.columns) parts.0 target

-- what holds of each numbered item holds of the one at a place
numbered_all : {A : Type 0} (p : ℕ × A → Bool) (xs : List A) (n : ℕ) (x : A) → list_all p (enumerate_from 0 xs) ≡ true → slice_get xs n ≡ Some x → p (n, x) ≡ true
numbered_all {A = A} p xs n x h e = subst (λ (k : ℕ). p (k, x) ≡ true) (zero-add n) (all_of p (enumerate_from 0 xs) (0 + n, x) h (has_numbered 0 xs n x e))

layout_is : (mapped : Mapped) (class : ClassId) → HasHierarchies mapped → IsClass mapped class
    → slice_get (layouts_of mapped.schema.tables mapped.classes) class.0 ≡ Some (layout_of mapped.schema.tables mapped.classes (line_of mapped.classes class.0))
layout_is mapped class has less =
    slice_get-map (layout_of mapped.schema.tables mapped.classes) mapped.classes.lines class.0
    ∙ ap (option_map (layout_of mapped.schema.tables mapped.classes)) (line_for mapped has.lined has.lines class.0 less)

all_tied : (mapped : Mapped) (class : ClassId) → HasHierarchies mapped → IsClass mapped class
    → list_all (is_tied mapped.schema.tables (tables_of mapped class)) (enumerate_from 0 (tables_of mapped class)) ≡ true
all_tied mapped class has less =
    let layouts : List Layout = layouts_of mapped.schema.tables mapped.classes in
    let spec : ClassSpec = get_or mapped.classes.specs class.0 no_class in
    let rightly : extends_rightly mapped.schema.tables mapped.classes layouts (class.0, spec) ≡ true =
    numbered_all (extends_rightly mapped.schema.tables mapped.classes layouts) mapped.classes.specs class.0 spec has.valid.tied (slice_get-get_or mapped.classes.specs class.0 no_class less) in
    ap (is_tied_in mapped.schema.tables) (sym (layout_is mapped class has less))
    ∙ and_right (not (nat_lt 16 (length (line_of mapped.classes class.0)))) (is_tied_in mapped.schema.tables (slice_get layouts class.0)) rightly

-- a table of a class and the one behind it have keys of the same kinds
pub neighbours_alike : (mapped : Mapped) (class : ClassId) (rank : ℕ) (parent table : TableId) → HasHierarchies mapped → IsClass mapped class
    → slice_get (tables_of mapped class) rank ≡ Some parent → slice_get (tables_of mapped class) (suc rank) ≡ Some table → table.0 < length mapped.schema.tables
    → kinds_of (key_columns (get_or mapped.schema.tables parent.0 no_table)) ≡ kinds_of (key_columns (get_or mapped.schema.tables table.0 no_table))
neighbours_alike mapped class rank parent table has less before here inside =
    let tables : List TableSpec = mapped.schema.tables in
    let own : List TableId = tables_of mapped class in
    let tied : list_any (is_inherited tables own (suc rank) table) (foreigns_in tables table) ≡ true =
    ap (λ (b : Bool). b || list_any (is_inherited tables own (suc rank) table) (foreigns_in tables table)) (sym (not_zero (suc rank) rank refl))
    ∙ numbered_all (is_tied tables own) own (suc rank) table (all_tied mapped class has less) here in
    let found = some_of (is_inherited tables own (suc rank) table) (foreigns_in tables table) tied in
    let by : ties tables parent table found.0 ≡ true = ap (λ (o : Option TableId). ties_to tables table o found.0) (sym before) ∙ found.2 in
    let there : Has (get_or tables table.0 no_table).foreigns found.0 = subst (λ (o : Option TableSpec). Has (foreigns_of o) found.0) (slice_get-get_or tables table.0 no_table inside) found.1 in
    ties_kinds mapped table parent found.0 has inside there by

-- what a declared class has
pub class_tables : (mapped : Mapped) (class : ClassId) → HasHierarchies mapped → IsClass mapped class → HasTables mapped class
class_tables mapped class has less =
    let first = tables_begin mapped class has less in
    record {
      rest = first.0;
      first = first.1;
      declared = All-from_recursion (IsTable mapped.schema) (tables_of mapped class) (all_from (IsTable mapped.schema) (tables_of mapped class) (λ table there. tables_declared mapped class table there));
      apart = tables_apart mapped class has less;
      alike = λ rank parent table before here.
          neighbours_alike mapped class rank parent table has less before here (tables_declared mapped class table (has_at (tables_of mapped class) (suc rank) table here));
    }
