-- What a plain UPDATE writes into a row: values of the columns' kinds, and none into the key.
use Rattle.std.proofs.Common.{◌≡◌, ℕ, zero, suc, Bool, true, false, not, List, [], ◌∷◌, ◌++◌, Option, None, Some, Ok, Err, refl, ◌∙◌, subst, arith}
use Rattle.std.proofs.lemmas.Bool.{and_parts}
use Rattle.std.specs.Prelude.{slice_get}
use Rattle.std.specs.List.{AllByRecursion, list_all}
use Rattle.std.specs.Cmp.Lexicographic.{pointwise}
use Rattle.base_core.specs.declared.ids.ColumnNo.{ColumnNo}
use Rattle.base_core.specs.declared.ids.TableId.{TableId}
use Rattle.base_core.specs.declared.value.Kind.TheVariants as kinds
use Rattle.base_core.specs.declared.value.Value.{Value}
use Rattle.base_core.specs.declared.value.Value.TheVariants as value
use Rattle.schema_core.specs.declared.table.ColumnSpec.{ColumnSpec}
use Rattle.schema_core.specs.Apply.{with_cells}
use Rattle.schema_core.specs.Catalog.{Catalog, kind_of, spec_of}
use Rattle.schema_core.specs.Tables.{Rows, key_of}
use Rattle.schema_core.specs.WellFormed.{is_row, may_hold}
use Rattle.expr_types.specs.declared.expr.Expr.{Expr}
use Rattle.sql_semantics.specs.Checked.{Checked, ◌>>=◌}
use Rattle.sql_semantics.specs.Eval.{Row, Tables, meaning_of, item_or_null}
use Rattle.sql_semantics.specs.Kinds.{column_in}
use Rattle.sql_semantics.specs.Plain.{IfSet, IsWritten, is_free_column, is_key_column, is_kind_where}
use Rattle.sql_semantics.specs.Taken.{at, cells_from, one_more, rewritten_row, takes, updated_from, value_for}
use Rattle.select_sources.proofs.Columns.{Columns}
use Rattle.select_sources.proofs.Sure.{Sure, always, bind_sure, every_more}
use Rattle.select_rows.proofs.ValueKinds.{KindAt, OfKind, kind_sure}
use Rattle.table_laws.proofs.Cells.{IsFor, IsFree, cells_held, cells_keyed, held_by_kind, kind_turned}

-- ---- the row that is read

kind_held : (c : ColumnSpec) (v : Value) → may_hold c v ≡ true → OfKind (kind_of c.kind) v
kind_held c value.Null e = refl
kind_held c (value.Bool b) e = kind_turned (kind_of c.kind) kinds.Boolean e
kind_held c (value.Int n) e = kind_turned (kind_of c.kind) kinds.Integer e
kind_held c (value.Text t) e = kind_turned (kind_of c.kind) kinds.Text e
kind_held c (value.Bytes b) e = kind_turned (kind_of c.kind) kinds.Bytes e

row_kinds : (cs : List ColumnSpec) (row : Row) (n : ℕ) (c : ColumnSpec) → pointwise may_hold cs row ≡ true → slice_get cs n ≡ Some c → OfKind (kind_of c.kind) (item_or_null (slice_get row n))
row_kinds [] row n c held at = absurd (no at)
  where
    no : ◌≡◌ {A = Option ColumnSpec} None (Some c) → ⊥
    no e = cc
row_kinds (d ∷ cs) [] n c held at = refl
row_kinds (d ∷ cs) (v ∷ row) zero c held at =
    let is : d ≡ c = cc in
    subst (λ (k : ColumnSpec). OfKind (kind_of k.kind) v) is (kind_held d v (and_parts (may_hold d v) (pointwise may_hold cs row) held).0)
row_kinds (d ∷ cs) (v ∷ row) (suc n) c held at = row_kinds cs row n c (and_parts (may_hold d v) (pointwise may_hold cs row) held).1 at

-- the columns of the table's row have their kinds where the table alone is in scope
row_columns : (schema : Catalog) (table : TableId) (row : Row) → is_row (spec_of schema table) row ≡ true → Columns KindAt schema (table ∷ []) (0 ∷ []) row
row_columns schema table row held zero column c is =
    subst (λ (n : ℕ). OfKind (kind_of c.kind) (item_or_null (slice_get row n))) (omega arith) (row_kinds (spec_of schema table).columns row column.0 c held is)
row_columns schema table row held (suc s) column c is = absurd (no is)
  where
    no : ◌≡◌ {A = Option ColumnSpec} None (Some c) → ⊥
    no e = cc

-- ---- one value

written_kind : (schema : Catalog) (table : TableId) (tables : Tables) (row : Row) (column : ColumnNo) (e : Expr) → is_row (spec_of schema table) row ≡ true → IsWritten schema table column e
    → Sure (λ v. IsFor (spec_of schema table).columns (column, v)) (meaning_of e (at tables row))
written_kind schema table tables row column e held w = by (column_in schema (table ∷ []) 0 column) refl w.of_kind.2
  where
    by : (o : Option ColumnSpec) → column_in schema (table ∷ []) 0 column ≡ o → is_kind_where o w.of_kind.0 → Sure (λ v. IsFor (spec_of schema table).columns (column, v)) (meaning_of e (at tables row))
    by None there is = absurd is
    by (Some c) there is =
        let sure = kind_sure e schema (table ∷ []) (at tables row) false (record { columns = λ _. row_columns schema table row held; members = tt }) (λ b. absurd (cc)) w.stands.fitting w.of_kind.0 w.of_kind.1 in
        of_column (meaning_of e (at tables row)) sure
      where
        of_column : (r : Checked Value) → Sure (OfKind w.of_kind.0) r → Sure (λ v. IsFor (spec_of schema table).columns (column, v)) r
        of_column (Ok v) h = (c, there, held_by_kind c v (subst (λ k. OfKind k v) is h))
        of_column (Err x) h = tt

value_kind_for : (schema : Catalog) (table : TableId) (tables : Tables) (row : Row) (column : ColumnNo) (o : Option Expr) (c : ColumnSpec) → slice_get (spec_of schema table).columns column.0 ≡ Some c
    → is_row (spec_of schema table) row ≡ true → IfSet (IsWritten schema table column) o → Sure (λ v. IsFor (spec_of schema table).columns (column, v)) (value_for tables row o)
value_kind_for schema table tables row column None c there held w = (c, there, refl)
value_kind_for schema table tables row column (Some e) c there held w = written_kind schema table tables row column e held w

-- ---- the cells of a row

free_by : (cs : List ColumnSpec) (column : ColumnNo) (o : Option ColumnSpec) → slice_get cs column.0 ≡ o → not (is_key_column o) ≡ true → (c : ColumnSpec) × (slice_get cs column.0 ≡ Some c) × (c.key ≡ false)
free_by cs column None there free = absurd (no free)
  where
    no : false ≡ true → ⊥
    no e = cc
free_by cs column (Some c) there free = (c, there, not_true c.key free)
  where
    not_true : (b : Bool) → not b ≡ true → b ≡ false
    not_true true e = cc
    not_true false e = refl

-- a cell that fits its column, which is no part of the key
abbrev IsCell : List ColumnSpec → ColumnNo × Value → Type 0
IsCell cs cell = IsFor cs cell × IsFree cs cell

cells_sure : (schema : Catalog) (table : TableId) (tables : Tables) (row : Row) → is_row (spec_of schema table) row ≡ true → (cells : List (ColumnNo × Option Expr)) (done : List (ColumnNo × Value))
    → list_all (λ cell. is_free_column schema table cell.0) cells ≡ true → AllByRecursion (λ cell. IfSet (IsWritten schema table cell.0) cell.1) cells
    → AllByRecursion (IsCell (spec_of schema table).columns) done → Sure (AllByRecursion (IsCell (spec_of schema table).columns)) (cells_from tables row done cells)
cells_sure schema table tables row held [] done free written d = d
cells_sure schema table tables row held (cell ∷ cells) done free written d =
    let both = and_parts (is_free_column schema table cell.0) (list_all (λ (c : ColumnNo × Option Expr). is_free_column schema table c.0) cells) free in
    let own = free_by (spec_of schema table).columns cell.0 (column_in schema (table ∷ []) 0 cell.0) refl both.0 in
    bind_sure (λ v. IsFor (spec_of schema table).columns (cell.0, v)) (AllByRecursion (IsCell (spec_of schema table).columns)) (value_for tables row cell.1) (λ v. cells_from tables row (done ++ (cell.0, v) ∷ []) cells)
    (value_kind_for schema table tables row cell.0 cell.1 own.0 own.1 held written.0)
    (λ v fit. cells_sure schema table tables row held cells (done ++ (cell.0, v) ∷ []) both.1 written.1 (every_more (IsCell (spec_of schema table).columns) done (cell.0, v) d (fit, own)))

halves : {A : Type 0} (P Q : A → Type 0) (xs : List A) → AllByRecursion (λ x. P x × Q x) xs → AllByRecursion P xs × AllByRecursion Q xs
halves P Q [] all = (tt, tt)
halves P Q (x ∷ xs) all = let rest = halves P Q xs all.1 in ((all.0.0, rest.0), (all.0.1, rest.1))

-- ---- the rows of an UPDATE

-- a row stands under its key and has a value for each column, NULL or of its kind
abbrev pub IsHeld : Catalog → TableId → List Value × List Value → Type 0
IsHeld schema table entry = (key_of (spec_of schema table) entry.1 ≡ entry.0) × (is_row (spec_of schema table) entry.1 ≡ true)

rewritten_sure : (schema : Catalog) (table : TableId) (tables : Tables) (cells : List (ColumnNo × Option Expr)) (entry : List Value × Row) → list_all (λ cell. is_free_column schema table cell.0) cells ≡ true
    → AllByRecursion (λ cell. IfSet (IsWritten schema table cell.0) cell.1) cells → IsHeld schema table entry → Sure (λ row. IsHeld schema table (entry.0, row)) (rewritten_row tables cells entry.1)
rewritten_sure schema table tables cells entry free written held =
    bind_sure (AllByRecursion (IsCell (spec_of schema table).columns)) (λ row. IsHeld schema table (entry.0, row)) (cells_from tables entry.1 [] cells) (λ done. Ok (with_cells entry.1 done))
    (cells_sure schema table tables entry.1 held.1 cells [] free written tt)
    (λ done fit.
    let parts = halves (IsFor (spec_of schema table).columns) (IsFree (spec_of schema table).columns) done fit in
    (cells_keyed (spec_of schema table).columns entry.1 done parts.1 ∙ held.0, cells_held (spec_of schema table).columns entry.1 done parts.0 held.1))

more_sure : (schema : Catalog) (table : TableId) (tables : Tables) (cells : List (ColumnNo × Option Expr)) (done : Rows) (entry : List Value × Row) (taken : Bool) → list_all (λ cell. is_free_column schema table cell.0) cells ≡ true
    → AllByRecursion (λ cell. IfSet (IsWritten schema table cell.0) cell.1) cells → IsHeld schema table entry → AllByRecursion (IsHeld schema table) done → Sure (AllByRecursion (IsHeld schema table)) (one_more tables cells done entry taken)
more_sure schema table tables cells done entry true free written held d =
    bind_sure (λ row. IsHeld schema table (entry.0, row)) (AllByRecursion (IsHeld schema table)) (rewritten_row tables cells entry.1) (λ row. Ok (done ++ (entry.0, row) ∷ []))
    (rewritten_sure schema table tables cells entry free written held) (λ row fit. every_more (IsHeld schema table) done (entry.0, row) d fit)
more_sure schema table tables cells done entry false free written held d = d

-- the rows that a plain UPDATE writes stand under the keys that they had, and have values of the columns' kinds
pub updated_sure : (schema : Catalog) (table : TableId) (tables : Tables) (cells : List (ColumnNo × Option Expr)) (filter : Option Expr) → list_all (λ cell. is_free_column schema table cell.0) cells ≡ true
    → AllByRecursion (λ cell. IfSet (IsWritten schema table cell.0) cell.1) cells → (rows done : Rows) → AllByRecursion (IsHeld schema table) rows → AllByRecursion (IsHeld schema table) done
    → Sure (AllByRecursion (IsHeld schema table)) (updated_from tables cells filter done rows)
updated_sure schema table tables cells filter free written [] done held d = d
updated_sure schema table tables cells filter free written (entry ∷ rows) done held d =
    bind_sure (λ _. Unit {0}) (AllByRecursion (IsHeld schema table)) (takes tables filter entry.1) (λ taken. one_more tables cells done entry taken >>= λ more. updated_from tables cells filter more rows) (always (takes tables filter entry.1))
    (λ taken _. bind_sure (AllByRecursion (IsHeld schema table)) (AllByRecursion (IsHeld schema table)) (one_more tables cells done entry taken) (λ more. updated_from tables cells filter more rows)
    (more_sure schema table tables cells done entry taken free written held.0 d) (λ more fit. updated_sure schema table tables cells filter free written rows more held.1 fit))
