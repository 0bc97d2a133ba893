-- What may refuse a bulk statement.
use Rattle.std.proofs.Common.{◌≡◌, ℕ, Bool, true, false, ◌==◌, if◌then◌else◌, List, [], ◌∷◌, ◌++◌, length, Option, Some, None, Ok, Err, IfErr, IsTrue, refl, subst, sym}
use Rattle.std.proofs.lemmas.Cmp.{nat_eq_equiv}
use Rattle.std.specs.List.{list_any}
use Rattle.base_core.proofs.Tests.{or_first, or_then}
use Rattle.base_core.specs.declared.ids.ColumnNo.{ColumnNo}
use Rattle.base_core.specs.declared.ids.TableId.{TableId}
use Rattle.base_core.specs.declared.value.Value.{Value}
use Rattle.base_core.specs.declared.refusal.Refusal.{Refusal}
use Rattle.base_core.specs.declared.refusal.Refusal.TheVariants.{Memory, DataError, OperationalError}
use Rattle.schema_core.specs.declared.statement.Violation.{Violation}
use Rattle.schema_core.specs.Apply as row
use Rattle.schema_core.specs.Apply.{with_cells}
use Rattle.schema_core.specs.Catalog.{Catalog, spec_of}
use Rattle.schema_core.specs.Judged.{Judged, change_all, remove_all}
use Rattle.schema_core.specs.Refusals.{violation_refusal}
use Rattle.schema_core.proofs.Violations.{change_errs, insert_errs, remove_errs}
use Rattle.schema_core.specs.Tables.{Rows, Tables, rows_in}
use Rattle.expr_types.specs.declared.expr.Expr.{Expr}
use Rattle.expr_types.specs.declared.select.Bulk.{Bulk}
use Rattle.expr_types.specs.declared.select.Bulk.TheVariants as bulk
use Rattle.sql_semantics.specs.Checked.{Checked, ◌>>=◌, Refuses}
use Rattle.sql_semantics.specs.Truth.{passes}
use Rattle.sql_semantics.specs.Eval as eval
use Rattle.expr_eval.proofs.Refused.{OnlyData, bind_data, evaluated_data}
use Rattle.sql_semantics.specs.Created.{bare}
use Rattle.sql_semantics.specs.Rows.{require_created}
use Rattle.select_rows.proofs.Refused.{OnlyMisses, created_misses}
use Rattle.sql_semantics.specs.Applied as spec
use Rattle.sql_semantics.specs.Applied.{Outcome, bulk_outcome, count_rows, rows_or_refusal, named_in, of_judged}
use Rattle.sql_semantics.specs.BulkRefusals.{CanRefuse, has_expressions, tables_of}
use Rattle.sql_semantics.specs.Taken.{at, cells_from, deleted_from, inserted_row, one_more, rewritten_row, takes, updated_from, value_for}

-- ---- nothing but a result outside 64 bits refuses what is evaluated

takes_data : (tables : eval.Tables) (filter : Option Expr) (r : eval.Row) → OnlyData (takes tables filter r)
takes_data tables None r = tt
takes_data tables (Some e) r = bind_data (eval.meaning_of e (at tables r)) (λ v. Ok (passes v)) (evaluated_data e (at tables r)) (λ v. tt)

value_data : (tables : eval.Tables) (r : eval.Row) (e : Option Expr) → OnlyData (value_for tables r e)
value_data tables r None = tt
value_data tables r (Some e) = evaluated_data e (at tables r)

cells_data : (tables : eval.Tables) (r : eval.Row) (done : List (ColumnNo × Value)) (cells : List (ColumnNo × Option Expr)) → OnlyData (cells_from tables r done cells)
cells_data tables r done [] = tt
cells_data tables r done (cell ∷ cells) =
    bind_data (value_for tables r cell.1) (λ v. cells_from tables r (done ++ (cell.0, v) ∷ []) cells) (value_data tables r cell.1) (λ v. cells_data tables r (done ++ (cell.0, v) ∷ []) cells)

rewritten_data : (tables : eval.Tables) (cells : List (ColumnNo × Option Expr)) (r : eval.Row) → OnlyData (rewritten_row tables cells r)
rewritten_data tables cells r = bind_data (cells_from tables r [] cells) (λ written. Ok (with_cells r written)) (cells_data tables r [] cells) (λ written. tt)

one_data : (tables : eval.Tables) (cells : List (ColumnNo × Option Expr)) (done : Rows) (entry : List Value × eval.Row) (taken : Bool) → OnlyData (one_more tables cells done entry taken)
one_data tables cells done entry true = bind_data (rewritten_row tables cells entry.1) (λ r. Ok (done ++ (entry.0, r) ∷ [])) (rewritten_data tables cells entry.1) (λ r. tt)
one_data tables cells done entry false = tt

pub updated_data : (tables : eval.Tables) (cells : List (ColumnNo × Option Expr)) (filter : Option Expr) (done rows : Rows) → OnlyData (updated_from tables cells filter done rows)
updated_data tables cells filter done [] = tt
updated_data tables cells filter done (entry ∷ rows) =
    bind_data (takes tables filter entry.1) (λ taken. one_more tables cells done entry taken >>= λ more. updated_from tables cells filter more rows) (takes_data tables filter entry.1)
    (λ taken. bind_data (one_more tables cells done entry taken) (λ more. updated_from tables cells filter more rows) (one_data tables cells done entry taken) (λ more. updated_data tables cells filter more rows))

pub deleted_data : (tables : eval.Tables) (filter : Option Expr) (done : List (List Value)) (rows : Rows) → OnlyData (deleted_from tables filter done rows)
deleted_data tables filter done [] = tt
deleted_data tables filter done (entry ∷ rows) =
    bind_data (takes tables filter entry.1) (λ taken. deleted_from tables filter (if taken then done ++ entry.0 ∷ [] else done) rows) (takes_data tables filter entry.1)
    (λ taken. deleted_data tables filter (if taken then done ++ entry.0 ∷ [] else done) rows)

-- ---- the statement

abbrev OnlyOf : {A : Type 0} → Bulk → Checked A → Type 0
OnlyOf s (Ok a) = Unit {0}
OnlyOf s (Err e) = CanRefuse s e

bind_of : {A B : Type 0} (s : Bulk) (r : Checked A) (f : A → Checked B) → OnlyOf s r → ((a : A) → OnlyOf s (f a)) → OnlyOf s (r >>= f)
bind_of s (Ok a) f h g = g a
bind_of s (Err e) f h g = h

of_data : {A : Type 0} (s : Bulk) (r : Checked A) → IsTrue (has_expressions s) → OnlyData r → OnlyOf s r
of_data s (Ok a) has h = tt
of_data s (Err (DataError op a b)) has h = has
of_data s (Err e) has h = absurd h

of_misses : {A : Type 0} (s : Bulk) (first : ℕ) (more : List ℕ) (r : Checked A) → tables_of s ≡ first ∷ more → OnlyMisses more r → OnlyOf s r
of_misses s first more (Ok a) is h = tt
of_misses s first more (Err (OperationalError table)) is h = subst (λ ts. IsTrue (list_any (λ t. t == table.0) ts)) (sym is) (or_then (first == table.0) (list_any (λ t. t == table.0) more) h)
of_misses s first more (Err e) is h = absurd h

found_of : (s : Bulk) (table : TableId) (more : List ℕ) (rows : Option Rows) → tables_of s ≡ table.0 ∷ more → OnlyOf s (rows_or_refusal table rows)
found_of s table more None is = subst (λ ts. IsTrue (list_any (λ t. t == table.0) ts)) (sym is) (or_first (table.0 == table.0) (list_any (λ t. t == table.0) more) (nat_eq_equiv.refl table.0))
found_of s table more (Some rows) is = tt

-- ---- the judgement on what is left

-- why a statement on the table is refused where it violates a rule
abbrev OnlyBy : Bulk → TableId → Violation → Type 0
OnlyBy s table violation = CanRefuse s (violation_refusal table violation)

judged_of : {A : Type 0} (s : Bulk) (table : TableId) (r : Judged A) → IfErr r (OnlyBy s table) → OnlyOf s (of_judged table r)
judged_of s table (Ok a) h = tt
judged_of s table (Err violation) h = h

insert_of : (schema : Catalog) (tables : Tables) (table : TableId) (columns : List ColumnNo) (values : List Value) (rows : Rows) → OnlyOf (bulk.Insert table columns values) (spec.insert schema tables table columns values rows)
insert_of schema tables table columns values rows =
    let s : Bulk = bulk.Insert table columns values in
    let done : row.Outcome = row.insert_rows schema tables table rows (inserted_row (length (spec_of schema table).columns) columns values ∷ []) in
    bind_of s (of_judged table done) (λ answer. Ok (1, answer.1))
    (judged_of s table done (insert_errs (OnlyBy s table) schema tables table rows (inserted_row (length (spec_of schema table).columns) columns values ∷ []) (refl, refl) (refl, refl) (refl, refl) (refl, refl) (refl, refl)))
    (λ answer. tt)

count_of : (s : Bulk) (table : TableId) (count : ℕ) (left : Judged Tables) → IfErr left (OnlyBy s table) → OnlyOf s (count_rows table count left)
count_of s table count left h = bind_of s (of_judged table left) (λ tables. Ok (count, tables)) (judged_of s table left h) (λ tables. tt)

update_of : (schema : Catalog) (tables : Tables) (table : TableId) (cells : List (ColumnNo × Option Expr)) (filter : Option Expr) (rows entries : Rows)
    → OnlyOf (bulk.Update table cells filter) (spec.update_entries schema tables table rows entries)
update_of schema tables table cells filter rows [] = tt
update_of schema tables table cells filter rows (e ∷ es) =
    let s : Bulk = bulk.Update table cells filter in
    count_of s table (length (e ∷ es)) (change_all schema tables table rows (e ∷ es)) (change_errs (OnlyBy s table) schema tables table rows (e ∷ es) (refl, refl) (refl, refl) (refl, refl))

delete_of : (schema : Catalog) (tables : Tables) (table : TableId) (filter : Option Expr) (rows : Rows) (keys : List (List Value)) → OnlyOf (bulk.Delete table filter) (spec.delete_keys schema tables table rows keys)
delete_of schema tables table filter rows [] = tt
delete_of schema tables table filter rows (k ∷ ks) =
    let s : Bulk = bulk.Delete table filter in
    count_of s table (length (k ∷ ks)) (remove_all schema tables table rows (k ∷ ks)) (remove_errs (OnlyBy s table) schema tables table rows (k ∷ ks) (refl, refl))

applied_of : (schema : Catalog) (tables : Tables) (s : Bulk) → OnlyOf s (bulk_outcome schema tables s)
unfolding bulk_outcome
applied_of schema tables (bulk.Insert table columns values) =
    let s : Bulk = bulk.Insert table columns values in
    bind_of s (rows_or_refusal table (rows_in tables table)) (spec.insert schema tables table columns values) (found_of s table [] (rows_in tables table) refl)
    (λ rows. insert_of schema tables table columns values rows)
applied_of schema tables (bulk.Update table cells filter) =
    let s : Bulk = bulk.Update table cells filter in
    let judged : Rows → Rows → Outcome = λ rows entries. spec.update_entries schema tables table rows entries in
    let taken : Rows → Outcome = λ rows. updated_from (bare tables) cells filter [] rows >>= judged rows in
    bind_of s (rows_or_refusal table (rows_in tables table)) (λ rows. require_created (bare tables) (named_in cells filter) >>= λ _. taken rows) (found_of s table (named_in cells filter) (rows_in tables table) refl)
    (λ rows. bind_of s (require_created (bare tables) (named_in cells filter)) (λ _. taken rows) (of_misses s table.0 (named_in cells filter) (require_created (bare tables) (named_in cells filter)) refl (created_misses (bare tables) (named_in cells filter)))
    (λ _. bind_of s (updated_from (bare tables) cells filter [] rows) (judged rows) (of_data s (updated_from (bare tables) cells filter [] rows) refl (updated_data (bare tables) cells filter [] rows))
    (λ entries. update_of schema tables table cells filter rows entries)))
applied_of schema tables (bulk.Delete table filter) =
    let s : Bulk = bulk.Delete table filter in
    let judged : Rows → List (List Value) → Outcome = λ rows keys. spec.delete_keys schema tables table rows keys in
    let taken : Rows → Outcome = λ rows. deleted_from (bare tables) filter [] rows >>= judged rows in
    bind_of s (rows_or_refusal table (rows_in tables table)) (λ rows. require_created (bare tables) (named_in [] filter) >>= λ _. taken rows) (found_of s table (named_in [] filter) (rows_in tables table) refl)
    (λ rows. bind_of s (require_created (bare tables) (named_in [] filter)) (λ _. taken rows) (of_misses s table.0 (named_in [] filter) (require_created (bare tables) (named_in [] filter)) refl (created_misses (bare tables) (named_in [] filter)))
    (λ _. bind_of s (deleted_from (bare tables) filter [] rows) (judged rows) (of_data s (deleted_from (bare tables) filter [] rows) refl (deleted_data (bare tables) filter [] rows))
    (λ keys. delete_of schema tables table filter rows keys)))

-- what refuses a bulk statement is of its text, unless memory ran out
pub refused : (schema : Catalog) (tables : Tables) (s : Bulk) (e : Refusal) → Refuses e (bulk_outcome schema tables s) → CanRefuse s e
refused schema tables s Memory g = tt
refused schema tables s e g = subst (OnlyOf s) g (applied_of schema tables s)
