-- Accepted statements read back as edits.
use Rattle.std.proofs.Common.{◌≡◌, cond, List, [], ◌∷◌, Option, None, Some, Ok, Err, refl, sym, ap, ◌∙◌}
use Rattle.std.specs.List.{list_any}
use Rattle.base_core.specs.declared.ids.ColumnNo.{ColumnNo}
use Rattle.base_core.specs.declared.ids.TableId.{TableId}
use Rattle.base_core.specs.declared.value.Value.{Value}
use Rattle.schema_core.specs.declared.statement.Violation.TheVariants.{Foreign, Missing, NoTable, NotNull, Unique}
use Rattle.schema_core.specs.declared.statement.RowStmt.TheVariants.{Insert, Update, Delete}
use Rattle.schema_core.specs.Apply.{answer_keys, apply, apply_found, delete_found, delete_row, entries_of, insert_rows, is_demanded, keys_of_entries, update_found, update_row, with_cells}
use Rattle.schema_core.specs.Catalog.{Catalog, spec_of}
use Rattle.schema_core.specs.Judged.{and_then, change_all, lacks_value, remove_all, some_lacks, some_loses_row, some_repeats, some_written_dangles, with_all, write_all}
use Rattle.schema_core.specs.Tables.{Rows, Tables, row_under, rows_in, with_rows, without_row}
use Rattle.table_laws.proofs.Legality.{and_ok, guard_ok, keys_ok, no_ok, same_ok}
use Rattle.flush_plan.specs.Stating.{with_edit}
use Rattle.session_laws.specs.Plans.Premises.{IsSorted}
use Rattle.session_laws.proofs.Plans.At.{edit_is}
use Rattle.session_laws.proofs.Plans.Deleting.{unchanged}

-- rows that are written are left, where that is accepted
write_left : (schema : Catalog) (tables left : Tables) (table : TableId) (rows entries : Rows) → write_all schema tables table rows entries ≡ Ok left → with_rows tables table (with_all rows entries) ≡ left
unfolding write_all
write_left schema tables left table rows entries e =
    let after : Tables = with_rows tables table (with_all rows entries) in
    let one = guard_ok (some_repeats (spec_of schema table) (with_all rows entries) entries) Unique (cond (some_written_dangles schema after (spec_of schema table) entries) (Err Foreign) (Ok after)) left e in
    let two = guard_ok (some_written_dangles schema after (spec_of schema table) entries) Foreign (Ok after) left one.1 in
    same_ok after left two.1

-- ---- an INSERT

pub record Inserted (schema : Catalog) (tables : Tables) (table : TableId) (new : List (List Value)) (answer : List (List Value) × Tables) : Type 0 where
  pub rows : Rows
  pub table_rows : rows_in tables table ≡ Some rows
  pub entries : Rows
  pub are : entries_of (spec_of schema table) rows new ≡ Ok entries
  pub keys : answer.0 ≡ keys_of_entries entries
  pub left : answer.1 ≡ with_rows tables table (with_all rows entries)

insert_full : (schema : Catalog) (tables : Tables) (table : TableId) (rows : Rows) (new : List (List Value)) (answer : List (List Value) × Tables) → rows_in tables table ≡ Some rows → insert_rows schema tables table rows new ≡ Ok answer → Inserted schema tables table new answer
unfolding insert_rows
insert_full schema tables table rows new answer found e =
    let one = guard_ok (list_any (lacks_value (is_demanded (spec_of schema table)) (spec_of schema table).columns) new) NotNull (and_then (entries_of (spec_of schema table) rows new) (λ es. answer_keys (keys_of_entries es) (write_all schema tables table rows es))) answer e in
    let two = and_ok (entries_of (spec_of schema table) rows new) (λ es. answer_keys (keys_of_entries es) (write_all schema tables table rows es)) answer one.1 in
    let three = and_ok (write_all schema tables table rows two.0) (λ ts. Ok (keys_of_entries two.0, ts)) answer two.2 in
    let same : (keys_of_entries two.0, three.0) ≡ answer = same_ok (keys_of_entries two.0, three.0) answer three.2 in
    record {
      rows = rows;
      table_rows = found;
      entries = two.0;
      are = two.1;
      keys = ap (λ p. p.0) (sym same);
      left = ap (λ p. p.1) (sym same) ∙ sym (write_left schema tables three.0 table rows two.0 three.1);
    }

insert_found : (schema : Catalog) (tables : Tables) (table : TableId) (new : List (List Value)) (answer : List (List Value) × Tables) (o : Option Rows) → rows_in tables table ≡ o → apply_found schema tables (Insert table new) o ≡ Ok answer → Inserted schema tables table new answer
insert_found schema tables table new answer None found e = absurd (no_ok (NoTable table) answer e)
insert_found schema tables table new answer (Some rows) found e = insert_full schema tables table rows new answer found e

pub insert_read : (schema : Catalog) (tables : Tables) (table : TableId) (new : List (List Value)) (answer : List (List Value) × Tables) → apply schema tables (Insert table new) ≡ Ok answer → Inserted schema tables table new answer
unfolding apply
insert_read schema tables table new answer e = insert_found schema tables table new answer (rows_in tables table) refl e

-- ---- an UPDATE

pub record Updated (tables : Tables) (table : TableId) (key : List Value) (cells : List (ColumnNo × Value)) (left : Tables) : Type 0 where
  pub rows : Rows
  pub table_rows : rows_in tables table ≡ Some rows
  pub row : List Value
  pub under : row_under rows key ≡ Some row
  pub is : left ≡ with_edit tables ((table, key), Some (with_cells row cells))

change_left : (schema : Catalog) (tables left : Tables) (table : TableId) (rows : Rows) (key row : List Value) → rows_in tables table ≡ Some rows → change_all schema tables table rows ((key, row) ∷ []) ≡ Ok left → left ≡ with_edit tables ((table, key), Some row)
unfolding change_all
change_left schema tables left table rows key row found e =
    let one = guard_ok (some_lacks (spec_of schema table) ((key, row) ∷ [])) NotNull (write_all schema tables table rows ((key, row) ∷ [])) left e in
    sym (write_left schema tables left table rows ((key, row) ∷ []) one.1) ∙ sym (edit_is tables ((table, key), Some row) rows found)

update_under : (schema : Catalog) (tables : Tables) (table : TableId) (rows : Rows) (key : List Value) (cells : List (ColumnNo × Value)) (answer : List (List Value) × Tables) (o : Option (List Value)) → rows_in tables table ≡ Some rows → row_under rows key ≡ o → update_found schema tables table rows key cells o ≡ Ok answer → Updated tables table key cells answer.1
update_under schema tables table rows key cells answer None found under e = absurd (no_ok Missing answer e)
update_under schema tables table rows key cells answer (Some row) found under e = record {
  rows = rows;
  table_rows = found;
  row = row;
  under = under;
  is = change_left schema tables answer.1 table rows key (with_cells row cells) found (keys_ok (key ∷ []) (change_all schema tables table rows ((key, with_cells row cells) ∷ [])) answer e);
}

update_in : (schema : Catalog) (tables : Tables) (table : TableId) (key : List Value) (cells : List (ColumnNo × Value)) (answer : List (List Value) × Tables) (o : Option Rows) → rows_in tables table ≡ o → apply_found schema tables (Update table key cells) o ≡ Ok answer → Updated tables table key cells answer.1
unfolding update_row
update_in schema tables table key cells answer None found e = absurd (no_ok (NoTable table) answer e)
update_in schema tables table key cells answer (Some rows) found e = update_under schema tables table rows key cells answer (row_under rows key) found refl e

pub update_read : (schema : Catalog) (tables : Tables) (table : TableId) (key : List Value) (cells : List (ColumnNo × Value)) (answer : List (List Value) × Tables) → apply schema tables (Update table key cells) ≡ Ok answer → Updated tables table key cells answer.1
unfolding apply
update_read schema tables table key cells answer e = update_in schema tables table key cells answer (rows_in tables table) refl e

-- ---- a DELETE

pub record Deleted (tables : Tables) (table : TableId) (key : List Value) (left : Tables) : Type 0 where
  pub rows : Rows
  pub table_rows : rows_in tables table ≡ Some rows
  pub is : left ≡ with_edit tables ((table, key), None)

remove_left : (schema : Catalog) (tables left : Tables) (table : TableId) (rows : Rows) (key : List Value) → rows_in tables table ≡ Some rows → remove_all schema tables table rows (key ∷ []) ≡ Ok left → left ≡ with_edit tables ((table, key), None)
unfolding remove_all
remove_left schema tables left table rows key found e =
    let after : Tables = with_rows tables table (without_row rows key) in
    let one = guard_ok (some_loses_row schema tables after) Foreign (Ok after) left e in
    sym (same_ok after left one.1) ∙ sym (edit_is tables ((table, key), None) rows found)

delete_under : (schema : Catalog) (tables : Tables) (table : TableId) (rows : Rows) (key : List Value) (answer : List (List Value) × Tables) (o : Option (List Value)) → IsSorted tables → rows_in tables table ≡ Some rows → row_under rows key ≡ o → delete_found schema tables table rows key o ≡ Ok answer → Deleted tables table key answer.1
delete_under schema tables table rows key answer None sorted found under e = record {
  rows = rows;
  table_rows = found;
  is = ap (λ p. p.1) (sym (same_ok (key ∷ [], tables) answer e)) ∙ sym (unchanged (table, key) tables rows sorted found under);
}
delete_under schema tables table rows key answer (Some row) sorted found under e = record {
  rows = rows;
  table_rows = found;
  is = remove_left schema tables answer.1 table rows key found (keys_ok (key ∷ []) (remove_all schema tables table rows (key ∷ [])) answer e);
}

delete_in : (schema : Catalog) (tables : Tables) (table : TableId) (key : List Value) (answer : List (List Value) × Tables) (o : Option Rows) → IsSorted tables → rows_in tables table ≡ o → apply_found schema tables (Delete table key) o ≡ Ok answer → Deleted tables table key answer.1
unfolding delete_row
delete_in schema tables table key answer None sorted found e = absurd (no_ok (NoTable table) answer e)
delete_in schema tables table key answer (Some rows) sorted found e = delete_under schema tables table rows key answer (row_under rows key) sorted found refl e

pub delete_read : (schema : Catalog) (tables : Tables) (table : TableId) (key : List Value) (answer : List (List Value) × Tables) → IsSorted tables → apply schema tables (Delete table key) ≡ Ok answer → Deleted tables table key answer.1
unfolding apply
delete_read schema tables table key answer sorted e = delete_in schema tables table key answer (rows_in tables table) sorted refl e
