-- Cells with the keys of new rows put in: what a column takes of them.
use Rattle.std.proofs.Common.{◌≡◌, ℕ, ◌<◌, Bool, true, false, cond, not, ◌||◌, List, [], ◌∷◌, length, Option, None, Some, refl, ap, ◌∙◌, subst, arith}
use Rattle.std.specs.Prelude.{nat_eq, nat_lt, slice_get}
use Rattle.std.specs.Cmp.Lexicographic.{pointwise}
use Rattle.std.specs.List.{AllByRecursion, filter, list_any}
use Rattle.std.specs.Map.{lookup}
use Rattle.std.specs.Option.{unwrap_or}
use Rattle.std.proofs.lemmas.Bool.{and_parts, eq-eqb, or_left, or_right}
use Rattle.std.proofs.lemmas.Bool.Decides.{nat_tests}
use Rattle.std.proofs.lemmas.Option.{get_or_from_slice_get}
use Rattle.base_core.specs.declared.value.Value.{Value}
use Rattle.base_core.specs.declared.value.Value.TheVariants.{Bool as BoolValue, Bytes, Int, Null, Text}
use Rattle.schema_core.specs.declared.changes.RowCell.{RowCell}
use Rattle.schema_core.specs.declared.changes.RowCell.TheVariants.{Given, KeyOf}
use Rattle.schema_core.specs.declared.changes.RowChanges.{RowChanges}
use Rattle.schema_core.specs.declared.table.ColumnSpec.{ColumnSpec}
use Rattle.base_core.specs.declared.value.Kind.TheVariants as kinds
use Rattle.schema_core.specs.Catalog.{Catalog, key_columns, kind_of, same_kind, spec_of}
use Rattle.schema_core.specs.Tables.{fits, is_null}
use Rattle.schema_core.specs.WellFormed.{is_key, may_hold}
use Rattle.sql_semantics.proofs.Typed.{same_kind_is}
use Rattle.class_mapping.proofs.Having.{from_filter, has_at}
use Rattle.flush_order.specs.Cells.{table_at}
use Rattle.flush_order.specs.Refers.{comes_from}
use Rattle.flush_plan.specs.Flushing.{Keys, key_of_new, value_of_cell}
use Rattle.flush_writes.specs.Runs.{is_nothing}
use Rattle.session_laws.proofs.Graphs.Named.{opposite}
use Rattle.session_laws.specs.Sendable.{cell_fits, takes_part}

-- the key of a new row is known, and is one of its table
abbrev pub IsKnown : Catalog → RowChanges → Keys → ℕ → Type 0
IsKnown schema changes keys place = is_key (spec_of schema (table_at changes place)) (key_of_new keys place) ≡ true

-- so is that of the row whose key a cell names
abbrev pub IsReady : Catalog → RowChanges → Keys → RowCell → Type 0
IsReady schema changes keys (Given value) = Unit {0}
IsReady schema changes keys (KeyOf place part) = IsKnown schema changes keys place

-- so are those of all new rows
abbrev pub AreKnown : Catalog → RowChanges → Keys → Type 0
AreKnown schema changes keys = (place : ℕ) → place < length changes.fresh → IsKnown schema changes keys place

-- ---- a value of a key column

-- the column may hold the value, which is no NULL
abbrev pub IsTaken : ColumnSpec → Value → Type 0
IsTaken column value = (may_hold column value ≡ true) × (is_null value ≡ false)

pub not_required : (a b : Bool) → b ≡ true → not (a || b) ≡ true → ⊥
not_required true true is h = cc
not_required false true is h = cc
not_required a false is h = cc

pub taken_by : (column part : ColumnSpec) (value : Value) → part.key ≡ true → same_kind (kind_of column.kind) (kind_of part.kind) ≡ true → fits part value ≡ true → IsTaken column value
taken_by column part Null key same held = absurd (not_required part.not_null part.key key held)
taken_by column part (BoolValue b) key same held = (ap (λ k. same_kind k kinds.Boolean) (same_kind_is (kind_of column.kind) (kind_of part.kind) same) ∙ held, refl)
taken_by column part (Int n) key same held = (ap (λ k. same_kind k kinds.Integer) (same_kind_is (kind_of column.kind) (kind_of part.kind) same) ∙ held, refl)
taken_by column part (Text t) key same held = (ap (λ k. same_kind k kinds.Text) (same_kind_is (kind_of column.kind) (kind_of part.kind) same) ∙ held, refl)
taken_by column part (Bytes b) key same held = (ap (λ k. same_kind k kinds.Bytes) (same_kind_is (kind_of column.kind) (kind_of part.kind) same) ∙ held, refl)

module _ (schema : Catalog) (changes : RowChanges) where
  -- ---- one cell

  -- what is put in may be held, and is NULL only where the cell is
  abbrev pub IsPut : Keys → ColumnSpec → RowCell → Type 0
  IsPut keys column cell = (may_hold column (value_of_cell keys cell) ≡ true) × (is_null (value_of_cell keys cell) ≡ is_nothing cell)

  part_put : (keys : Keys) (column : ColumnSpec) (place part : ℕ) (found : Option ColumnSpec) → slice_get (key_columns (spec_of schema (table_at changes place))) part ≡ found → takes_part column found ≡ true → IsKnown schema changes keys place → IsPut keys column (KeyOf place part)
  part_put keys column place part None at takes known = absurd cc
  part_put keys column place part (Some own) at takes known =
      let columns : List ColumnSpec = (spec_of schema (table_at changes place)).columns in
      let key : List Value = key_of_new keys place in
      let one = opposite fits (filter (λ (c : ColumnSpec). c.key) columns) key part own known at in
      let is : value_of_cell keys (KeyOf place part) ≡ one.0 = get_or_from_slice_get key part one.0 Null one.1 in
      let taken : IsTaken column one.0 = taken_by column own one.0 (from_filter (λ (c : ColumnSpec). c.key) columns own (has_at (filter (λ (c : ColumnSpec). c.key) columns) part own at)).1 takes one.2 in
      (ap (may_hold column) is ∙ taken.0, ap is_null is ∙ taken.1)

  pub cell_put : (keys : Keys) (column : ColumnSpec) (cell : RowCell) → cell_fits schema changes column cell ≡ true → IsReady schema changes keys cell → IsPut keys column cell
  cell_put keys column (Given value) fit ready = (fit, refl)
  cell_put keys column (KeyOf place part) fit ready =
      let found : Option ColumnSpec = slice_get (key_columns (spec_of schema (table_at changes place))) part in
      part_put keys column place part found refl (and_parts (nat_lt place (length changes.fresh)) (takes_part column found) fit).1 ready

  below : (a b : ℕ) → nat_lt a b ≡ true → a < b
  below a b h = grind (arith, nat_tests)

  -- where all keys are known, so are those that fitting cells name
  pub ready_all : (keys : Keys) (column : ColumnSpec) (cell : RowCell) → AreKnown schema changes keys → cell_fits schema changes column cell ≡ true → IsReady schema changes keys cell
  ready_all keys column (Given value) all fit = tt
  ready_all keys column (KeyOf place part) all fit =
      all place (below place (length changes.fresh) (and_parts (nat_lt place (length changes.fresh)) (takes_part column (slice_get (key_columns (spec_of schema (table_at changes place))) part)) fit).0)

  -- a cell that fits names a new row
  named_within : (column : ColumnSpec) (cell : RowCell) (q : ℕ) → cell_fits schema changes column cell ≡ true → comes_from q cell ≡ true → q < length changes.fresh
  named_within column (Given value) q fit names = absurd cc
  named_within column (KeyOf place part) q fit names =
      let less : place < length changes.fresh = below place (length changes.fresh) (and_parts (nat_lt place (length changes.fresh)) (takes_part column (slice_get (key_columns (spec_of schema (table_at changes place))) part)) fit).0 in
      let same : nat_eq place q ≡ true = names in
      let is : q ≡ place = grind (arith, nat_tests) in
      omega (arith, less, is)

  either_within : (column : ColumnSpec) (cell : RowCell) (more : Bool) (q : ℕ) → cell_fits schema changes column cell ≡ true → (more ≡ true → q < length changes.fresh) → (comes_from q cell || more) ≡ true → q < length changes.fresh
  either_within column cell more q fit later names = by (comes_from q cell) refl names
    where
      by : (b : Bool) → comes_from q cell ≡ b → (b || more) ≡ true → q < length changes.fresh
      by true is h = named_within column cell q fit is
      by false is h = later h

  pub all_within : (columns : List ColumnSpec) (cells : List RowCell) (q : ℕ) → pointwise (cell_fits schema changes) columns cells ≡ true → list_any (comes_from q) cells ≡ true → q < length changes.fresh
  all_within [] [] q fit names = absurd cc
  all_within [] (cell ∷ cells) q fit names = absurd cc
  all_within (column ∷ columns) [] q fit names = absurd cc
  all_within (column ∷ columns) (cell ∷ cells) q fit names =
      let both = and_parts (cell_fits schema changes column cell) (pointwise (cell_fits schema changes) columns cells) fit in
      either_within column cell (list_any (comes_from q) cells) q both.0 (all_within columns cells q both.1) names

  -- ---- the cells of a row

  -- where each row is known whose key some cell names
  pub ready_of : (keys : Keys) (cells : List RowCell) → ((q : ℕ) → list_any (comes_from q) cells ≡ true → IsKnown schema changes keys q) → AllByRecursion (IsReady schema changes keys) cells
  ready_of keys [] known = tt
  ready_of keys (Given value ∷ cells) known = (tt, ready_of keys cells known)
  ready_of keys (KeyOf place part ∷ cells) known =
      (known place (or_left (nat_eq place place) (list_any (comes_from place) cells) (eq-eqb place place refl)), ready_of keys cells (λ q names. known q (or_right (nat_eq place q) (list_any (comes_from q) cells) names)))

  -- ---- known keys

  -- one more key is known
  pub known_more : (keys : Keys) (place q : ℕ) (key : List Value) → is_key (spec_of schema (table_at changes place)) key ≡ true → IsKnown schema changes keys q → IsKnown schema changes ((place, key) ∷ keys) q
  known_more keys place q key is known = by (nat_eq q place) refl
    where
      by : (b : Bool) → nat_eq q place ≡ b → is_key (spec_of schema (table_at changes q)) (unwrap_or (cond b (Some key) (lookup (nat_eq q) keys)) []) ≡ true
      by true at = let same : place ≡ q = grind (arith, nat_tests) in subst (λ (p : ℕ). is_key (spec_of schema (table_at changes p)) key ≡ true) same is
      by false at = known

  pub known_now : (keys : Keys) (place : ℕ) (key : List Value) → is_key (spec_of schema (table_at changes place)) key ≡ true → IsKnown schema changes ((place, key) ∷ keys) place
  known_now keys place key is = ap (λ (b : Bool). is_key (spec_of schema (table_at changes place)) (unwrap_or (cond b (Some key) (lookup (nat_eq place) keys)) [])) (eq-eqb place place refl) ∙ is
