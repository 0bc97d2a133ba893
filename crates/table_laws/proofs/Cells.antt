-- The cells that a plain bulk statement writes fit their columns.
use Rattle.std.proofs.Common.{◌≡◌, ℕ, zero, suc, true, false, cond, ◌&&◌, List, [], ◌∷◌, length, set, replicate, Option, None, Some, refl, sym, ap, ◌∙◌, subst}
use Rattle.std.proofs.lemmas.Bool.{and_parts}
use Rattle.std.specs.Prelude.{slice_get}
use Rattle.std.specs.List.{AllByRecursion}
use Rattle.std.specs.Cmp.Lexicographic.{pointwise}
use Rattle.select_sources.proofs.Columns.{some_is}
use Rattle.base_core.specs.declared.ids.ColumnNo.{ColumnNo}
use Rattle.base_core.specs.declared.ids.TableId.{TableId}
use Rattle.base_core.specs.declared.value.Kind.{Kind}
use Rattle.base_core.specs.declared.value.Kind.TheVariants as kinds
use Rattle.base_core.specs.declared.value.Value.{Value}
use Rattle.base_core.specs.declared.value.Value.TheVariants as value
use Rattle.schema_core.specs.declared.table.ColumnSpec.{ColumnSpec}
use Rattle.schema_core.specs.Apply.{with_cells}
use Rattle.schema_core.specs.Catalog.{Catalog, kind_of, same_kind, spec_of}
use Rattle.schema_core.specs.Tables.{key_cells}
use Rattle.schema_core.specs.WellFormed.{is_row, may_hold}
use Rattle.sql_semantics.specs.Kinds.{column_in}
use Rattle.sql_semantics.specs.Plain.{are_for, has_kind, is_of_kind}
use Rattle.sql_semantics.specs.Taken.{inserted_row, column_values}
use Rattle.sql_semantics.proofs.Typed.{kind_itself, same_kind_is}

-- ---- one cell

pub kind_turned : (a b : Kind) → same_kind a b ≡ true → same_kind b a ≡ true
kind_turned a b e = subst (λ (k : Kind). same_kind k a ≡ true) (same_kind_is a b e) (kind_itself a)

-- a value of the column's kind, or NULL, may stand in the column
pub held_by_kind : (c : ColumnSpec) (v : Value) → is_of_kind (kind_of c.kind) v ≡ true → may_hold c v ≡ true
held_by_kind c value.Null e = refl
held_by_kind c (value.Bool b) e = kind_turned kinds.Boolean (kind_of c.kind) e
held_by_kind c (value.Int n) e = kind_turned kinds.Integer (kind_of c.kind) e
held_by_kind c (value.Text t) e = kind_turned kinds.Text (kind_of c.kind) e
held_by_kind c (value.Bytes b) e = kind_turned kinds.Bytes (kind_of c.kind) e

-- a cell is for a column, which is there, and may hold it
abbrev pub IsFor : List ColumnSpec → ColumnNo × Value → Type 0
IsFor cs cell = (c : ColumnSpec) × (slice_get cs cell.0.0 ≡ Some c) × (may_hold c cell.1 ≡ true)

-- the column is there and no part of the key
abbrev pub IsFree : List ColumnSpec → ColumnNo × Value → Type 0
IsFree cs cell = (c : ColumnSpec) × (slice_get cs cell.0.0 ≡ Some c) × (c.key ≡ false)

no_column : (c : ColumnSpec) → ◌≡◌ {A = Option ColumnSpec} None (Some c) → ⊥
no_column c e = cc

not_wide : false ≡ true → ⊥
not_wide e = cc

set_held : (cs : List ColumnSpec) (row : List Value) (n : ℕ) (c : ColumnSpec) (v : Value) → slice_get cs n ≡ Some c → may_hold c v ≡ true → pointwise may_hold cs row ≡ true → pointwise may_hold cs (set row n v) ≡ true
set_held [] row n c v at may held = absurd (no_column c at)
set_held (d ∷ cs) [] n c v at may held = absurd (not_wide held)
set_held (d ∷ cs) (w ∷ row) zero c v at may held =
    ap (λ b. b && pointwise may_hold cs row) (ap (λ k. may_hold k v) (some_is d c at) ∙ may) ∙ (and_parts (may_hold d w) (pointwise may_hold cs row) held).1
set_held (d ∷ cs) (w ∷ row) (suc n) c v at may held =
    let both = and_parts (may_hold d w) (pointwise may_hold cs row) held in
    ap (λ b. b && pointwise may_hold cs (set row n v)) both.0 ∙ set_held cs row n c v at may both.1

set_key : (cs : List ColumnSpec) (row : List Value) (n : ℕ) (c : ColumnSpec) (v : Value) → slice_get cs n ≡ Some c → c.key ≡ false → key_cells cs (set row n v) ≡ key_cells cs row
set_key [] row n c v at free = absurd (no_column c at)
set_key (d ∷ cs) [] n c v at free = refl
set_key (d ∷ cs) (w ∷ row) zero c v at free =
    let none : d.key ≡ false = ap (λ k. k.key) (some_is d c at) ∙ free in
    ap (λ b. cond b (v ∷ key_cells cs row) (key_cells cs row)) none ∙ sym (ap (λ b. cond b (w ∷ key_cells cs row) (key_cells cs row)) none)
set_key (d ∷ cs) (w ∷ row) (suc n) c v at free = ap (λ k. cond d.key (w ∷ k) k) (set_key cs row n c v at free)

-- ---- cells in a row

pub cells_held : (cs : List ColumnSpec) (row : List Value) (cells : List (ColumnNo × Value)) → AllByRecursion (IsFor cs) cells → pointwise may_hold cs row ≡ true → pointwise may_hold cs (with_cells row cells) ≡ true
cells_held cs row [] each held = held
cells_held cs row (cell ∷ cells) each held =
    cells_held cs (set row cell.0.0 cell.1) cells each.1 (set_held cs row cell.0.0 each.0.0 cell.1 each.0.1 each.0.2 held)

pub cells_keyed : (cs : List ColumnSpec) (row : List Value) (cells : List (ColumnNo × Value)) → AllByRecursion (IsFree cs) cells → key_cells cs (with_cells row cells) ≡ key_cells cs row
cells_keyed cs row [] each = refl
cells_keyed cs row (cell ∷ cells) each = cells_keyed cs (set row cell.0.0 cell.1) cells each.1 ∙ set_key cs row cell.0.0 each.0.0 cell.1 each.0.1 each.0.2

-- ---- an INSERT

nulls_held : (cs : List ColumnSpec) → pointwise may_hold cs (replicate (length cs) value.Null) ≡ true
nulls_held [] = refl
nulls_held (c ∷ cs) = nulls_held cs

one_for : (cs : List ColumnSpec) (column : ColumnNo) (v : Value) (o : Option ColumnSpec) → slice_get cs column.0 ≡ o → has_kind o v ≡ true → IsFor cs (column, v)
one_for cs column v (Some c) at e = (c, at, held_by_kind c v e)
one_for cs column v None at e = absurd (not_wide e)

pairs_for : (schema : Catalog) (table : TableId) (columns : List ColumnNo) (values : List Value) → are_for schema table columns values ≡ true → AllByRecursion (IsFor (spec_of schema table).columns) (column_values columns values)
pairs_for schema table [] [] e = tt
pairs_for schema table [] (v ∷ values) e = tt
pairs_for schema table (column ∷ columns) [] e = tt
pairs_for schema table (column ∷ columns) (v ∷ values) e =
    let both = and_parts (has_kind (column_in schema (table ∷ []) 0 column) v) (are_for schema table columns values) e in
    (one_for (spec_of schema table).columns column v (column_in schema (table ∷ []) 0 column) refl both.0, pairs_for schema table columns values both.1)

-- the row that a plain INSERT puts in has a value for each column, NULL or of its kind
pub inserted_held : (schema : Catalog) (table : TableId) (columns : List ColumnNo) (values : List Value) → are_for schema table columns values ≡ true
    → is_row (spec_of schema table) (inserted_row (length (spec_of schema table).columns) columns values) ≡ true
inserted_held schema table columns values e =
    cells_held (spec_of schema table).columns (replicate (length (spec_of schema table).columns) value.Null) (column_values columns values)
    (pairs_for schema table columns values e) (nulls_held (spec_of schema table).columns)
