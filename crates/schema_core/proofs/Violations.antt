-- Which violations each statement may meet.
use Rattle.std.proofs.Common.{◌≡◌, Bool, true, false, List, [], ◌∷◌, Option, None, Some, is_some, Ok, Err, IfErr, if◌then◌else◌, refl, subst}
use Rattle.std.specs.List.{list_any}
use Rattle.base_core.specs.declared.ids.ColumnNo.{ColumnNo}
use Rattle.base_core.specs.declared.ids.TableId.{TableId}
use Rattle.base_core.specs.declared.value.Value.{Value}
use Rattle.schema_core.specs.declared.statement.Violation.{Violation}
use Rattle.schema_core.specs.declared.statement.Violation.TheVariants.{NotNull, KeysSpent, PrimaryKey, Unique, Foreign}
use Rattle.schema_core.specs.declared.statement.RowStmt.{RowStmt}
use Rattle.schema_core.specs.declared.statement.RowStmt.TheVariants.{Insert, Update, Delete}
use Rattle.schema_core.specs.declared.table.TableSpec.{TableSpec}
use Rattle.schema_core.specs.Apply.{Outcome, answer_keys, apply, apply_found, delete_found, delete_row, entries_of, entry_of, insert_rows, is_demanded, keys_of_entries, table_of, update_found, update_row, with_cells, with_own_key}
use Rattle.schema_core.specs.Catalog.{Catalog, spec_of}
use Rattle.schema_core.specs.Judged.{Judged, and_then, change_all, lacks_value, remove_all, some_lacks, some_loses_row, some_repeats, some_written_dangles, with_all, without_all, write_all}
use Rattle.schema_core.specs.Tables.{Rows, Tables, key_of, row_under, rows_in, with_row, with_rows}
use Rattle.schema_core.specs.WellFormed.{MayViolate}

either : {A : Type 0} (P : Violation → Type 0) (b : Bool) (x y : Judged A) → IfErr x P → IfErr y P → IfErr (if b then x else y) P
either P true x y p q = p
either P false x y p q = q

then_errs : {A B : Type 0} (P : Violation → Type 0) (r : Judged A) (next : A → Judged B) → IfErr r P → ((a : A) → IfErr (next a) P) → IfErr (and_then r next) P
then_errs P (Ok a) next p q = q a
then_errs P (Err violation) next p q = p

pub write_errs : (P : Violation → Type 0) (schema : Catalog) (tables : Tables) (table : TableId) (rows entries : Rows) → P Unique → P Foreign → IfErr (write_all schema tables table rows entries) P
unfolding write_all
write_errs P schema tables table rows entries p q =
    either P (some_repeats (spec_of schema table) (with_all rows entries) entries) (Err Unique)
    (if some_written_dangles schema (with_rows tables table (with_all rows entries)) (spec_of schema table) entries then Err Foreign else Ok (with_rows tables table (with_all rows entries))) p
    (either P (some_written_dangles schema (with_rows tables table (with_all rows entries)) (spec_of schema table) entries) (Err Foreign) (Ok (with_rows tables table (with_all rows entries))) q tt)

pub change_errs : (P : Violation → Type 0) (schema : Catalog) (tables : Tables) (table : TableId) (rows entries : Rows) → P NotNull → P Unique → P Foreign → IfErr (change_all schema tables table rows entries) P
unfolding change_all
change_errs P schema tables table rows entries n p q = either P (some_lacks (spec_of schema table) entries) (Err NotNull) (write_all schema tables table rows entries) n (write_errs P schema tables table rows entries p q)

pub remove_errs : (P : Violation → Type 0) (schema : Catalog) (tables : Tables) (table : TableId) (rows : Rows) (keys : List (List Value)) → P Foreign → IfErr (remove_all schema tables table rows keys) P
unfolding remove_all
remove_errs P schema tables table rows keys q = either P (some_loses_row schema tables (with_rows tables table (without_all rows keys))) (Err Foreign) (Ok (with_rows tables table (without_all rows keys))) q tt

entry_errs : (P : Violation → Type 0) (spec : TableSpec) (rows : Rows) (keyed : Option (List Value)) → P KeysSpent → P PrimaryKey → IfErr (entry_of spec rows keyed) P
entry_errs P spec rows None s k = s
entry_errs P spec rows (Some row) s k = either P (is_some (row_under rows (key_of spec row))) (Err PrimaryKey) (Ok (key_of spec row, row)) k tt

entries_errs : (P : Violation → Type 0) (spec : TableSpec) (rows : Rows) (new : List (List Value)) → P KeysSpent → P PrimaryKey → IfErr (entries_of spec rows new) P
entries_errs P spec rows [] s k = tt
entries_errs P spec rows (row ∷ more) s k =
    then_errs P (entry_of spec rows (with_own_key spec rows row)) (λ entry. and_then (entries_of spec (with_row rows entry.0 entry.1) more) (λ entries. Ok (entry ∷ entries))) (entry_errs P spec rows (with_own_key spec rows row) s k)
    (λ entry. then_errs P (entries_of spec (with_row rows entry.0 entry.1) more) (λ entries. Ok (entry ∷ entries)) (entries_errs P spec (with_row rows entry.0 entry.1) more s k) (λ entries. tt))

keys_errs : (P : Violation → Type 0) (keys : List (List Value)) (left : Judged Tables) → IfErr left P → IfErr (answer_keys keys left) P
keys_errs P keys left p = then_errs P left (λ tables. Ok (keys, tables)) p (λ tables. tt)

pub insert_errs : (P : Violation → Type 0) (schema : Catalog) (tables : Tables) (table : TableId) (rows : Rows) (new : List (List Value)) → P NotNull → P KeysSpent → P PrimaryKey → P Unique → P Foreign
    → IfErr (insert_rows schema tables table rows new) P
unfolding insert_rows
insert_errs P schema tables table rows new n s k p q =
    either P (list_any (lacks_value (is_demanded (spec_of schema table)) (spec_of schema table).columns) new) (Err NotNull)
    (and_then (entries_of (spec_of schema table) rows new) (λ entries. answer_keys (keys_of_entries entries) (write_all schema tables table rows entries))) n
    (then_errs P (entries_of (spec_of schema table) rows new) (λ entries. answer_keys (keys_of_entries entries) (write_all schema tables table rows entries)) (entries_errs P (spec_of schema table) rows new s k)
    (λ entries. keys_errs P (keys_of_entries entries) (write_all schema tables table rows entries) (write_errs P schema tables table rows entries p q)))

update_errs : (schema : Catalog) (tables : Tables) (table : TableId) (rows : Rows) (key : List Value) (cells : List (ColumnNo × Value)) (found : Option (List Value))
    → IfErr (update_found schema tables table rows key cells found) (MayViolate (Update table key cells))
update_errs schema tables table rows key cells None = tt
update_errs schema tables table rows key cells (Some row) =
    keys_errs (MayViolate (Update table key cells)) (key ∷ []) (change_all schema tables table rows ((key, with_cells row cells) ∷ []))
    (change_errs (MayViolate (Update table key cells)) schema tables table rows ((key, with_cells row cells) ∷ []) tt tt tt)

delete_errs : (schema : Catalog) (tables : Tables) (table : TableId) (rows : Rows) (key : List Value) (found : Option (List Value)) → IfErr (delete_found schema tables table rows key found) (MayViolate (Delete table key))
delete_errs schema tables table rows key None = tt
delete_errs schema tables table rows key (Some row) =
    keys_errs (MayViolate (Delete table key)) (key ∷ []) (remove_all schema tables table rows (key ∷ [])) (remove_errs (MayViolate (Delete table key)) schema tables table rows (key ∷ []) tt)

found_errs : (schema : Catalog) (tables : Tables) (statement : RowStmt) (found : Option Rows) → IfErr (apply_found schema tables statement found) (MayViolate statement)
unfolding update_row delete_row
found_errs schema tables (Insert table new) None = refl
found_errs schema tables (Update table key cells) None = refl
found_errs schema tables (Delete table key) None = refl
found_errs schema tables (Insert table new) (Some rows) = insert_errs (MayViolate (Insert table new)) schema tables table rows new tt tt tt tt tt
found_errs schema tables (Update table key cells) (Some rows) = update_errs schema tables table rows key cells (row_under rows key)
found_errs schema tables (Delete table key) (Some rows) = delete_errs schema tables table rows key (row_under rows key)

-- a refused statement violates a rule of its kind
pub may_violate : (schema : Catalog) (tables : Tables) (statement : RowStmt) (violation : Violation) → apply schema tables statement ≡ Err violation → MayViolate statement violation
unfolding apply
may_violate schema tables statement violation is = subst (λ (o : Outcome). IfErr o (MayViolate statement)) is (found_errs schema tables statement (rows_in tables (table_of statement)))
