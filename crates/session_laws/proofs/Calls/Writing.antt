-- A bulk statement leaves every table but the one that it writes.
use Rattle.std.proofs.Common.{◌≡◌, ◌≢◌, ℕ, Bool, true, false, List, [], ◌∷◌, length, Result, Ok, Err, IfOk, ⊎_elim, refl, ap, subst}
use Rattle.std.specs.Prelude.{if◌then◌else◌}
use Rattle.std.specs.List.{list_any}
use Rattle.std.proofs.lemmas.Map.Lookups.{exact_unsigned}
use Rattle.base_core.specs.declared.ids.TableId.{TableId}
use Rattle.base_core.specs.declared.value.Value.{Value}
use Rattle.schema_core.specs.Apply as row
use Rattle.schema_core.specs.Catalog.{Catalog, spec_of}
use Rattle.schema_core.specs.Judged.{Judged, and_then, change_all, lacks_value, remove_all, some_lacks, some_loses_row, some_repeats, some_written_dangles, with_all, without_all, write_all}
use Rattle.schema_core.specs.declared.statement.Violation.TheVariants.{Foreign, NotNull, Unique}
use Rattle.schema_core.specs.Tables.{Rows, Tables, rows_in, table_cmp, with_rows}
use Rattle.expr_types.specs.declared.select.Bulk.{Bulk}
use Rattle.expr_types.specs.declared.select.Bulk.TheVariants as bulk
use Rattle.sql_semantics.specs.Applied.{Outcome, bulk_outcome, count_rows, delete, delete_keys, insert, named_in, of_row, rows_or_refusal, table_of, update, update_entries}
use Rattle.sql_semantics.specs.Checked.{Checked, ◌>>=◌}
use Rattle.sql_semantics.specs.Created.{bare}
use Rattle.sql_semantics.specs.Rows.{require_created}
use Rattle.sql_semantics.specs.Taken.{deleted_from, inserted_row, updated_from}
use Rattle.table_laws.proofs.Members.{lookup_after}

-- every other table has the rows that it had
pub AreBeside : TableId → Tables → Tables → Type 0
AreBeside table tables after = (other : TableId) → other.0 ≢ table.0 → rows_in after other ≡ rows_in tables other

same_beside : (table : TableId) (tables : Tables) → AreBeside table tables tables
unfolding AreBeside
same_beside table tables = λ other apart. refl

put_beside : (table : TableId) (tables : Tables) (rows : Rows) → AreBeside table tables (with_rows tables table rows)
unfolding AreBeside
put_beside table tables rows = λ other apart.
    ⊎_elim (λ kept. kept) (λ put. absurd (apart (exact_unsigned other.0 table.0 put.0))) (lookup_after table_cmp (λ one two same. ap (λ (n : ℕ). record { 0 = n }) (exact_unsigned one.0 two.0 same)) tables table other rows)

-- ---- what is judged

either_leaves : {A E : Type 0} (Q : A → Type 0) (test : Bool) (one other : Result A E) → IfOk one Q → IfOk other Q → IfOk (if test then one else other) Q
either_leaves Q true one other p q = p
either_leaves Q false one other p q = q

then_leaves : {A B : Type 0} (Q : B → Type 0) (judged : Judged A) (next : A → Judged B) → ((a : A) → IfOk (next a) Q) → IfOk (and_then judged next) Q
then_leaves Q (Ok a) next leaves = leaves a
then_leaves Q (Err violation) next leaves = tt

asked_leaves : {A B : Type 0} (Q : B → Type 0) (checked : Checked A) (next : A → Checked B) → ((a : A) → IfOk (next a) Q) → IfOk (checked >>= next) Q
asked_leaves Q (Ok a) next leaves = leaves a
asked_leaves Q (Err refusal) next leaves = tt

write_leaves : (schema : Catalog) (tables : Tables) (table : TableId) (rows entries : Rows) → IfOk (write_all schema tables table rows entries) (AreBeside table tables)
unfolding write_all
write_leaves schema tables table rows entries =
    let left : Tables = with_rows tables table (with_all rows entries) in
    either_leaves (AreBeside table tables) (some_repeats (spec_of schema table) (with_all rows entries) entries) (Err Unique) (if some_written_dangles schema left (spec_of schema table) entries then Err Foreign else Ok left) tt
    (either_leaves (AreBeside table tables) (some_written_dangles schema left (spec_of schema table) entries) (Err Foreign) (Ok left) tt (put_beside table tables (with_all rows entries)))

change_leaves : (schema : Catalog) (tables : Tables) (table : TableId) (rows entries : Rows) → IfOk (change_all schema tables table rows entries) (AreBeside table tables)
unfolding change_all
change_leaves schema tables table rows entries = either_leaves (AreBeside table tables) (some_lacks (spec_of schema table) entries) (Err NotNull) (write_all schema tables table rows entries) tt (write_leaves schema tables table rows entries)

remove_leaves : (schema : Catalog) (tables : Tables) (table : TableId) (rows : Rows) (keys : List (List Value)) → IfOk (remove_all schema tables table rows keys) (AreBeside table tables)
unfolding remove_all
remove_leaves schema tables table rows keys =
    let left : Tables = with_rows tables table (without_all rows keys) in
    either_leaves (AreBeside table tables) (some_loses_row schema tables left) (Err Foreign) (Ok left) tt (put_beside table tables (without_all rows keys))

-- ---- what is answered

Leaves : TableId → Tables → Outcome → Type 0
Leaves table tables outcome = IfOk outcome (λ done. AreBeside table tables done.1)

counted : (table : TableId) (tables : Tables) (n : ℕ) (judged : Judged Tables) → IfOk judged (AreBeside table tables) → Leaves table tables (count_rows table n judged)
unfolding Leaves
counted table tables n (Ok after) beside = beside
counted table tables n (Err violation) beside = tt

put_leaves : (table : TableId) (tables : Tables) (done : row.Outcome) → IfOk done (λ answer. AreBeside table tables answer.1) → Leaves table tables (of_row table done)
unfolding Leaves
put_leaves table tables (Ok answer) beside = beside
put_leaves table tables (Err violation) beside = tt

answered : (table : TableId) (tables : Tables) (keys : List (List Value)) (judged : Judged Tables) → IfOk judged (AreBeside table tables) → IfOk (row.answer_keys keys judged) (λ answer. AreBeside table tables answer.1)
answered table tables keys (Ok after) beside = beside
answered table tables keys (Err violation) beside = tt

inserted_leaves : (schema : Catalog) (tables : Tables) (table : TableId) (rows : Rows) (new : List (List Value)) → IfOk (row.insert_rows schema tables table rows new) (λ answer. AreBeside table tables answer.1)
unfolding row.insert_rows
inserted_leaves schema tables table rows new =
    either_leaves (λ (answer : List (List Value) × Tables). AreBeside table tables answer.1) (list_any (lacks_value (row.is_demanded (spec_of schema table)) (spec_of schema table).columns) new) (Err NotNull)
    (and_then (row.entries_of (spec_of schema table) rows new) (λ entries. row.answer_keys (row.keys_of_entries entries) (write_all schema tables table rows entries))) tt
    (then_leaves (λ answer. AreBeside table tables answer.1) (row.entries_of (spec_of schema table) rows new) (λ entries. row.answer_keys (row.keys_of_entries entries) (write_all schema tables table rows entries))
    (λ entries. answered table tables (row.keys_of_entries entries) (write_all schema tables table rows entries) (write_leaves schema tables table rows entries)))

update_entries_leave : (schema : Catalog) (tables : Tables) (table : TableId) (rows entries : Rows) → Leaves table tables (update_entries schema tables table rows entries)
unfolding Leaves
update_entries_leave schema tables table rows [] = same_beside table tables
update_entries_leave schema tables table rows (entry ∷ entries) = counted table tables (length (entry ∷ entries)) (change_all schema tables table rows (entry ∷ entries)) (change_leaves schema tables table rows (entry ∷ entries))

delete_keys_leave : (schema : Catalog) (tables : Tables) (table : TableId) (rows : Rows) (keys : List (List Value)) → Leaves table tables (delete_keys schema tables table rows keys)
unfolding Leaves
delete_keys_leave schema tables table rows [] = same_beside table tables
delete_keys_leave schema tables table rows (key ∷ keys) = counted table tables (length (key ∷ keys)) (remove_all schema tables table rows (key ∷ keys)) (remove_leaves schema tables table rows (key ∷ keys))

outcome_leaves : (schema : Catalog) (tables : Tables) (statement : Bulk) → Leaves (table_of statement) tables (bulk_outcome schema tables statement)
unfolding bulk_outcome Leaves
outcome_leaves schema tables (bulk.Insert table columns values) =
    asked_leaves (λ done. AreBeside table tables done.1) (rows_or_refusal table (rows_in tables table)) (insert schema tables table columns values)
    (λ rows. put_leaves table tables (row.insert_rows schema tables table rows (inserted_row (length (spec_of schema table).columns) columns values ∷ [])) (inserted_leaves schema tables table rows (inserted_row (length (spec_of schema table).columns) columns values ∷ [])))
outcome_leaves schema tables (bulk.Update table cells filter) =
    asked_leaves (λ done. AreBeside table tables done.1) (rows_or_refusal table (rows_in tables table)) (update schema tables table cells filter)
    (λ rows. asked_leaves (λ done. AreBeside table tables done.1) (require_created (bare tables) (named_in cells filter)) (λ _. updated_from (bare tables) cells filter [] rows >>= λ entries. update_entries schema tables table rows entries)
    (λ u. asked_leaves (λ done. AreBeside table tables done.1) (updated_from (bare tables) cells filter [] rows) (λ entries. update_entries schema tables table rows entries) (λ entries. update_entries_leave schema tables table rows entries)))
outcome_leaves schema tables (bulk.Delete table filter) =
    asked_leaves (λ done. AreBeside table tables done.1) (rows_or_refusal table (rows_in tables table)) (delete schema tables table filter)
    (λ rows. asked_leaves (λ done. AreBeside table tables done.1) (require_created (bare tables) (named_in [] filter)) (λ _. deleted_from (bare tables) filter [] rows >>= λ keys. delete_keys schema tables table rows keys)
    (λ u. asked_leaves (λ done. AreBeside table tables done.1) (deleted_from (bare tables) filter [] rows) (λ keys. delete_keys schema tables table rows keys) (λ keys. delete_keys_leave schema tables table rows keys)))

pub bulk_beside : (schema : Catalog) (tables after : Tables) (statement : Bulk) (count : ℕ) → bulk_outcome schema tables statement ≡ Ok (count, after) → (other : TableId) → other.0 ≢ (table_of statement).0 → rows_in after other ≡ rows_in tables other
unfolding Leaves AreBeside
bulk_beside schema tables after statement count is = subst (Leaves (table_of statement) tables) is (outcome_leaves schema tables statement)
