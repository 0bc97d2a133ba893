-- The columns of a table among the sources of a select, those of its key, and the values that these take.
use Rattle.std.proofs.Common.{◌≡◌, ℕ, ◌<◌, Bool, true, false, not, ◌&&◌, ◌||◌, List, [], ◌∷◌, map, filter, length, Option, Some, refl, sym, ap, subst, arith, ◌∙◌}
use Rattle.std.specs.Prelude.{slice_get}
use Rattle.std.specs.List.{AllByRecursion, enumerate_from, list_any}
use Rattle.std.specs.Option.{option_and_then}
use Rattle.std.specs.Cmp.Lexicographic.{pointwise}
use Rattle.std.proofs.lemmas.Bool.{and_parts}
use Rattle.base_core.specs.declared.ids.ColumnNo.{ColumnNo}
use Rattle.base_core.specs.declared.ids.TableId.{TableId}
use Rattle.base_core.specs.declared.value.Kind.{Kind}
use Rattle.base_core.specs.declared.value.Kind.TheVariants as kinds
use Rattle.base_core.specs.declared.value.Value.{Value}
use Rattle.base_core.specs.declared.value.Value.TheVariants as value
use Rattle.schema_core.specs.declared.table.ColumnSpec.{ColumnSpec}
use Rattle.schema_core.specs.Catalog.{Catalog, key_columns, kind_of, same_kind, spec_of}
use Rattle.schema_core.specs.Declaration.{has_key}
use Rattle.schema_core.specs.Tables.{fits}
use Rattle.schema_core.specs.WellFormed.{is_key}
use Rattle.expr_types.specs.declared.expr.Origin.{Origin}
use Rattle.class_mapping.specs.Mapped.{Mapped}
use Rattle.class_mapping.proofs.Having.{Has, all_from, from_filter, has_filter, some_of}
use Rattle.load_columns.specs.Placing.{columns_at, key_numbers, number_at}
use Rattle.mapping_laws.specs.Hierarchies.{kinds_of}
use Rattle.mapping_laws.proofs.Attributes.{numbered_there}
use Rattle.mapping_laws.proofs.KeyColumns.{keys_placed, kinds_at, kinds_placed}
use Rattle.collection_selects.proofs.Standing.{IsThere, is_of}
use Rattle.collection_selects.proofs.Typed.{AreTyped, fit_kinds, typed_long}

-- a table stands at a place among the sources
abbrev pub IsAt : List Origin → ℕ → TableId → Type 0
IsAt sources source table = slice_get (map (λ origin. origin.table) sources) source ≡ Some table

-- a column of that table
pub column_there : (schema : Catalog) (sources : List Origin) (source : ℕ) (table : TableId) (c : ColumnNo) (spec : ColumnSpec) → IsAt sources source table → slice_get (spec_of schema table).columns c.0 ≡ Some spec
    → IsThere schema sources source c (kind_of spec.kind)
column_there schema sources source table c spec at there = record {
  spec = spec;
  is = ap (λ (found : Option TableId). option_and_then (λ t. slice_get (spec_of schema t).columns c.0) found) at ∙ there;
  alike = refl;
}

-- ---- the columns of a table's key

abbrev AreThere : List ColumnSpec → List (ℕ × ColumnSpec) → Type 0
AreThere columns placed = AllByRecursion (λ (one : ℕ × ColumnSpec). slice_get columns one.0 ≡ Some one.1) placed

placed_typed : (schema : Catalog) (sources : List Origin) (source : ℕ) (table : TableId) (placed : List (ℕ × ColumnSpec)) → IsAt sources source table → AreThere (spec_of schema table).columns placed
    → AreTyped schema sources (columns_at source (map number_at placed)) (kinds_at placed)
placed_typed schema sources source table [] at h = tt
placed_typed schema sources source table (one ∷ placed) at h =
    (column_there schema sources source table (number_at one) one.1 at h.0, placed_typed schema sources source table placed at h.1)

keys_there : (columns : List ColumnSpec) → AreThere columns (keys_placed columns)
keys_there columns =
    all_from (λ (one : ℕ × ColumnSpec). slice_get columns one.0 ≡ Some one.1) (keys_placed columns) (λ one has.
    numbered_there columns one (from_filter (λ (other : ℕ × ColumnSpec). other.1.key) (enumerate_from 0 columns) one has).0)

pub key_typed : (mapped : Mapped) (sources : List Origin) (source : ℕ) (table : TableId) → IsAt sources source table
    → AreTyped mapped.schema sources (columns_at source (key_numbers mapped table)) (kinds_of (key_columns (spec_of mapped.schema table)))
key_typed mapped sources source table at =
    let columns : List ColumnSpec = (spec_of mapped.schema table).columns in
    subst (AreTyped mapped.schema sources (columns_at source (key_numbers mapped table))) (kinds_placed 0 columns)
    (placed_typed mapped.schema sources source table (keys_placed columns) at (keys_there columns))

-- a table's key has a column
pub key_some : (columns : List ColumnSpec) → list_any (λ column. column.key) columns ≡ true → 0 < length (kinds_of (filter (λ column. column.key) columns))
key_some columns h = by (filter (λ column. column.key) columns) refl
  where
    found : (column : ColumnSpec) × Has columns column × (column.key ≡ true)
    found = some_of (λ column. column.key) columns h

    by : (keys : List ColumnSpec) → filter (λ column. column.key) columns ≡ keys → 0 < length (kinds_of keys)
    by [] e = absurd (subst (λ (keys : List ColumnSpec). Has keys found.0) e (has_filter (λ column. column.key) columns found.0 found.1 found.2))
    by (key ∷ keys) e = omega arith

pub keys_some : (mapped : Mapped) (sources : List Origin) (source : ℕ) (table : TableId) → IsAt sources source table → has_key (spec_of mapped.schema table) ≡ true → 0 < length (columns_at source (key_numbers mapped table))
keys_some mapped sources source table at keyed =
    let some = key_some (spec_of mapped.schema table).columns keyed in
    let long = typed_long mapped.schema sources (columns_at source (key_numbers mapped table)) (kinds_of (key_columns (spec_of mapped.schema table))) (key_typed mapped sources source table at) in
    omega (arith, some, long)

-- ---- the values of a key

never_null : {A : Type 0} (b : Bool) → not (b || true) ≡ true → A
never_null true h = absurd cc
never_null false h = absurd cc

pub turned_kind : (one other : Kind) → same_kind one other ≡ true → same_kind other one ≡ true
turned_kind kinds.Integer kinds.Integer h = refl
turned_kind kinds.Text kinds.Text h = refl
turned_kind kinds.Boolean kinds.Boolean h = refl
turned_kind kinds.Bytes kinds.Bytes h = refl
turned_kind one other h = absurd cc

-- what a column of the key takes is no NULL, and of its kind
held : (column : ColumnSpec) (v : Value) → column.key ≡ true → fits column v ≡ true → is_of (kind_of column.kind) v ≡ true
held column value.Null key h = never_null column.not_null (sym (ap (λ (b : Bool). not (column.not_null || b)) key) ∙ h)
held column (value.Bool b) key h = turned_kind (kind_of column.kind) kinds.Boolean h
held column (value.Int n) key h = turned_kind (kind_of column.kind) kinds.Integer h
held column (value.Text s) key h = turned_kind (kind_of column.kind) kinds.Text h
held column (value.Bytes s) key h = turned_kind (kind_of column.kind) kinds.Bytes h

held_all : (columns : List ColumnSpec) (key : List Value) → AllByRecursion (λ column. column.key ≡ true) columns → pointwise fits columns key ≡ true → fit_kinds (kinds_of columns) key ≡ true
held_all [] [] keyed h = refl
held_all [] (v ∷ key) keyed h = absurd cc
held_all (column ∷ columns) [] keyed h = absurd cc
held_all (column ∷ columns) (v ∷ key) keyed h =
    let parts = and_parts (fits column v) (pointwise fits columns key) h in
    ap (λ (b : Bool). b && fit_kinds (kinds_of columns) key) (held column v keyed.0 parts.0) ∙ held_all columns key keyed.1 parts.1

-- a key of a table fits the kinds of the table's key
pub key_fits : (mapped : Mapped) (table : TableId) (key : List Value) → is_key (spec_of mapped.schema table) key ≡ true → fit_kinds (kinds_of (key_columns (spec_of mapped.schema table))) key ≡ true
key_fits mapped table key h =
    let columns : List ColumnSpec = (spec_of mapped.schema table).columns in
    held_all (filter (λ column. column.key) columns) key
    (all_from (λ (column : ColumnSpec). column.key ≡ true) (filter (λ column. column.key) columns) (λ column has. (from_filter (λ (one : ColumnSpec). one.key) columns column has).1)) h
