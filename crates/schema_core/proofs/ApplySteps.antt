-- What the definitions of statements tell, test by test.
use Rattle.std.proofs.Common.{◌≡◌, ℤ, Bool, true, false, not, ◌&&◌, List, [], ◌∷◌, None, Option, Some, is_some, Result, Ok, Err, if◌then◌else◌, refl, sym, ap, subst, ◌∙◌}
use Rattle.std.specs.List.{list_any}
use Rattle.std.specs.Option.{option_map}
use Rattle.base_core.specs.declared.ids.ColumnNo.{ColumnNo}
use Rattle.base_core.specs.declared.ids.TableId.{TableId}
use Rattle.base_core.specs.declared.value.Value.{Value}
use Rattle.base_core.specs.declared.value.Value.TheVariants.{Int}
use Rattle.schema_core.specs.declared.statement.Unwritten.{Unwritten}
use Rattle.schema_core.specs.declared.statement.Unwritten.TheVariants.{Violates, Memory}
use Rattle.schema_core.specs.declared.statement.Violation.{Violation}
use Rattle.schema_core.specs.declared.statement.Violation.TheVariants.{Foreign, KeysSpent, Missing, NoTable, NotNull, PrimaryKey, Unique}
use Rattle.schema_core.specs.declared.statement.RowStmt.{RowStmt}
use Rattle.schema_core.specs.declared.statement.RowStmt.TheVariants.{Insert, Update, Delete}
use Rattle.schema_core.specs.declared.table.ColumnSpec.{ColumnSpec}
use Rattle.schema_core.specs.declared.table.TableSpec.{TableSpec}
use Rattle.schema_core.specs.Apply.{answer_keys, apply, apply_found, delete_found, delete_row, entries_of, entry_of, insert_rows, is_demanded, keys_of_entries, next_key, table_of, update_found, update_row, wants_key, with_cells, with_key, with_own_key}
use Rattle.schema_core.specs.Catalog.{Catalog, has_generated_key, is_required, spec_of}
use Rattle.schema_core.specs.Judged.{Judged, and_then, change_all, lacks_value, remove_all, some_lacks, some_loses_row, some_repeats, some_written_dangles, with_all, without_all, write_all}
use Rattle.schema_core.specs.Tables.{Rows, Tables, key_of, row_under, rows_in, with_row, with_rows}
use Rattle.schema_core.specs.Told.{Told}

-- ---- answers that may be refused

-- the first violation is that of both
pub told_first : {A B : Type 0} (r : Judged A) (next : A → Judged B) (e : Unwritten) → Told r (Err e) → Told (and_then r next) (Err e)
told_first r next (Violates violation) is = ap (λ a. and_then a next) is
told_first r next Memory is = tt

pub told_next : {A B : Type 0} (r : Judged A) (next : A → Judged B) (a : A) (answer : Result B Unwritten) → r ≡ Ok a → Told (next a) answer → Told (and_then r next) answer
told_next r next a (Ok b) is told = ap (λ x. and_then x next) is ∙ told
told_next r next a (Err (Violates violation)) is told = ap (λ x. and_then x next) is ∙ told
told_next r next a (Err Memory) is told = tt

told_from : {A : Type 0} {r s : Judged A} (answer : Result A Unwritten) → r ≡ s → Told s answer → Told r answer
told_from answer is told = subst (λ x. Told x answer) (sym is) told

-- ---- rows are written

pub write_repeats : (schema : Catalog) (tables : Tables) (table : TableId) (rows entries : Rows) → some_repeats (spec_of schema table) (with_all rows entries) entries ≡ true
    → write_all schema tables table rows entries ≡ Err Unique
unfolding write_all
write_repeats schema tables table rows entries twice =
    ap (λ b. if b then Err Unique else if some_written_dangles schema (with_rows tables table (with_all rows entries)) (spec_of schema table) entries then Err Foreign else Ok (with_rows tables table (with_all rows entries))) twice

write_once : (schema : Catalog) (tables : Tables) (table : TableId) (rows entries : Rows) → some_repeats (spec_of schema table) (with_all rows entries) entries ≡ false
    → write_all schema tables table rows entries ≡ (if some_written_dangles schema (with_rows tables table (with_all rows entries)) (spec_of schema table) entries then Err Foreign else Ok (with_rows tables table (with_all rows entries)))
unfolding write_all
write_once schema tables table rows entries once =
    ap (λ b. if b then Err Unique else if some_written_dangles schema (with_rows tables table (with_all rows entries)) (spec_of schema table) entries then Err Foreign else Ok (with_rows tables table (with_all rows entries))) once

pub write_dangles : (schema : Catalog) (tables : Tables) (table : TableId) (rows entries : Rows) → some_repeats (spec_of schema table) (with_all rows entries) entries ≡ false
    → some_written_dangles schema (with_rows tables table (with_all rows entries)) (spec_of schema table) entries ≡ true → write_all schema tables table rows entries ≡ Err Foreign
write_dangles schema tables table rows entries once dangles =
    write_once schema tables table rows entries once ∙ ap (λ b. if b then Err Foreign else Ok (with_rows tables table (with_all rows entries))) dangles

pub write_done : (schema : Catalog) (tables : Tables) (table : TableId) (rows entries : Rows) → some_repeats (spec_of schema table) (with_all rows entries) entries ≡ false
    → some_written_dangles schema (with_rows tables table (with_all rows entries)) (spec_of schema table) entries ≡ false
    → write_all schema tables table rows entries ≡ Ok (with_rows tables table (with_all rows entries))
write_done schema tables table rows entries once bound =
    write_once schema tables table rows entries once ∙ ap (λ b. if b then Err Foreign else Ok (with_rows tables table (with_all rows entries))) bound

pub ruleset write_steps = (write_repeats, write_dangles, write_done)

pub change_lacks : (schema : Catalog) (tables : Tables) (table : TableId) (rows entries : Rows) → some_lacks (spec_of schema table) entries ≡ true → change_all schema tables table rows entries ≡ Err NotNull
unfolding change_all
change_lacks schema tables table rows entries lacks = ap (λ b. if b then Err NotNull else write_all schema tables table rows entries) lacks

pub change_full : (schema : Catalog) (tables : Tables) (table : TableId) (rows entries : Rows) → some_lacks (spec_of schema table) entries ≡ false
    → write_all schema tables table rows entries ≡ change_all schema tables table rows entries
unfolding change_all
change_full schema tables table rows entries full = sym (ap (λ b. if b then Err NotNull else write_all schema tables table rows entries) full)

pub ruleset change_steps = (change_lacks, change_full)

-- ---- rows are taken out

pub remove_loses : (schema : Catalog) (tables : Tables) (table : TableId) (rows : Rows) (keys : List (List Value)) → some_loses_row schema tables (with_rows tables table (without_all rows keys)) ≡ true
    → remove_all schema tables table rows keys ≡ Err Foreign
unfolding remove_all
remove_loses schema tables table rows keys loses = ap (λ b. if b then Err Foreign else Ok (with_rows tables table (without_all rows keys))) loses

pub remove_done : (schema : Catalog) (tables : Tables) (table : TableId) (rows : Rows) (keys : List (List Value)) → some_loses_row schema tables (with_rows tables table (without_all rows keys)) ≡ false
    → remove_all schema tables table rows keys ≡ Ok (with_rows tables table (without_all rows keys))
unfolding remove_all
remove_done schema tables table rows keys bound = ap (λ b. if b then Err Foreign else Ok (with_rows tables table (without_all rows keys))) bound

pub ruleset remove_steps = (remove_loses, remove_done)

-- ---- new rows get their keys

pub own_key_given : (spec : TableSpec) (rows : Rows) (row : List Value) → wants_key spec row ≡ false → with_own_key spec rows row ≡ Some row
own_key_given spec rows row given = ap (λ b. if b then option_map (λ key. with_key spec.columns (Int key) row) (next_key rows) else Some row) given

own_key_wanted : (spec : TableSpec) (rows : Rows) (row : List Value) → wants_key spec row ≡ true → with_own_key spec rows row ≡ option_map (λ key. with_key spec.columns (Int key) row) (next_key rows)
own_key_wanted spec rows row wanted = ap (λ b. if b then option_map (λ key. with_key spec.columns (Int key) row) (next_key rows) else Some row) wanted

pub own_key_spent : (spec : TableSpec) (rows : Rows) (row : List Value) → wants_key spec row ≡ true → next_key rows ≡ None → with_own_key spec rows row ≡ None
own_key_spent spec rows row wanted spent = own_key_wanted spec rows row wanted ∙ ap (option_map (λ key. with_key spec.columns (Int key) row)) spent

pub own_key_drawn : (spec : TableSpec) (rows : Rows) (row : List Value) (key : ℤ) → wants_key spec row ≡ true → next_key rows ≡ Some key → with_own_key spec rows row ≡ Some (with_key spec.columns (Int key) row)
own_key_drawn spec rows row key wanted next = own_key_wanted spec rows row wanted ∙ ap (option_map (λ key. with_key spec.columns (Int key) row)) next

pub ruleset own_key_steps = (own_key_given, own_key_spent, own_key_drawn)

pub entry_there : (spec : TableSpec) (rows : Rows) (row : List Value) → is_some (row_under rows (key_of spec row)) ≡ true → entry_of spec rows (Some row) ≡ Err PrimaryKey
entry_there spec rows row there = ap (λ b. if b then Err PrimaryKey else Ok (key_of spec row, row)) there

pub entry_new : (spec : TableSpec) (rows : Rows) (row : List Value) → is_some (row_under rows (key_of spec row)) ≡ false → entry_of spec rows (Some row) ≡ Ok (key_of spec row, row)
entry_new spec rows row new = ap (λ b. if b then Err PrimaryKey else Ok (key_of spec row, row)) new

pub ruleset entry_steps = (entry_there, entry_new)

-- the first row gets no key
pub entries_first : (spec : TableSpec) (rows : Rows) (row : List Value) (more : List (List Value)) (e : Unwritten) → Told (entry_of spec rows (with_own_key spec rows row)) (Err e) → Told (entries_of spec rows (row ∷ more)) (Err e)
entries_first spec rows row more e told =
    told_first (entry_of spec rows (with_own_key spec rows row)) (λ entry. and_then (entries_of spec (with_row rows entry.0 entry.1) more) (λ entries. Ok (entry ∷ entries))) e told

-- a later row gets none
pub entries_later : (spec : TableSpec) (rows : Rows) (row : List Value) (more : List (List Value)) (entry : List Value × List Value) (e : Unwritten) → entry_of spec rows (with_own_key spec rows row) ≡ Ok entry
    → Told (entries_of spec (with_row rows entry.0 entry.1) more) (Err e) → Told (entries_of spec rows (row ∷ more)) (Err e)
entries_later spec rows row more entry e is told =
    told_next (entry_of spec rows (with_own_key spec rows row)) (λ entry. and_then (entries_of spec (with_row rows entry.0 entry.1) more) (λ entries. Ok (entry ∷ entries))) entry (Err e) is
    (told_first (entries_of spec (with_row rows entry.0 entry.1) more) (λ entries. Ok (entry ∷ entries)) e told)

pub entries_more : (spec : TableSpec) (rows : Rows) (row : List Value) (more : List (List Value)) (entry : List Value × List Value) (entries : Rows) → entry_of spec rows (with_own_key spec rows row) ≡ Ok entry
    → entries_of spec (with_row rows entry.0 entry.1) more ≡ Ok entries → entries_of spec rows (row ∷ more) ≡ Ok (entry ∷ entries)
entries_more spec rows row more entry entries is rest =
    ap (λ r. and_then r (λ entry. and_then (entries_of spec (with_row rows entry.0 entry.1) more) (λ entries. Ok (entry ∷ entries)))) is
    ∙ ap (λ r. and_then r (λ entries. Ok (entry ∷ entries))) rest

pub ruleset entries_steps = (entries_first, entries_later, entries_more)

-- ---- an INSERT

pub demanded : (spec : TableSpec) (generated : Bool) (columns : List ColumnSpec) (row : List Value) → generated ≡ has_generated_key spec
    → lacks_value (λ column. is_required column && not (column.key && generated)) columns row ≡ lacks_value (is_demanded spec) columns row
demanded spec generated columns row is = ap (λ b. lacks_value (λ column. is_required column && not (column.key && b)) columns row) is

pub insert_lacks : (schema : Catalog) (tables : Tables) (table : TableId) (rows : Rows) (new : List (List Value)) → list_any (lacks_value (is_demanded (spec_of schema table)) (spec_of schema table).columns) new ≡ true
    → insert_rows schema tables table rows new ≡ Err NotNull
unfolding insert_rows
insert_lacks schema tables table rows new lacks =
    ap (λ b. if b then Err NotNull else and_then (entries_of (spec_of schema table) rows new) (λ entries. answer_keys (keys_of_entries entries) (write_all schema tables table rows entries))) lacks

pub insert_full : (schema : Catalog) (tables : Tables) (table : TableId) (rows : Rows) (new : List (List Value)) → list_any (lacks_value (is_demanded (spec_of schema table)) (spec_of schema table).columns) new ≡ false
    → insert_rows schema tables table rows new ≡ and_then (entries_of (spec_of schema table) rows new) (λ entries. answer_keys (keys_of_entries entries) (write_all schema tables table rows entries))
unfolding insert_rows
insert_full schema tables table rows new full =
    ap (λ b. if b then Err NotNull else and_then (entries_of (spec_of schema table) rows new) (λ entries. answer_keys (keys_of_entries entries) (write_all schema tables table rows entries))) full

pub insert_refused : (schema : Catalog) (tables : Tables) (table : TableId) (rows : Rows) (new : List (List Value)) (e : Unwritten) → list_any (lacks_value (is_demanded (spec_of schema table)) (spec_of schema table).columns) new ≡ false
    → Told (entries_of (spec_of schema table) rows new) (Err e) → Told (insert_rows schema tables table rows new) (Err e)
insert_refused schema tables table rows new e full told =
    told_from (Err e) (insert_full schema tables table rows new full)
    (told_first (entries_of (spec_of schema table) rows new) (λ entries. answer_keys (keys_of_entries entries) (write_all schema tables table rows entries)) e told)

pub insert_violates : (schema : Catalog) (tables : Tables) (table : TableId) (rows entries : Rows) (new : List (List Value)) (e : Unwritten) → list_any (lacks_value (is_demanded (spec_of schema table)) (spec_of schema table).columns) new ≡ false
    → entries_of (spec_of schema table) rows new ≡ Ok entries → Told (write_all schema tables table rows entries) (Err e) → Told (insert_rows schema tables table rows new) (Err e)
insert_violates schema tables table rows entries new e full are told =
    told_from (Err e) (insert_full schema tables table rows new full)
    (told_next (entries_of (spec_of schema table) rows new) (λ entries. answer_keys (keys_of_entries entries) (write_all schema tables table rows entries)) entries (Err e) are
    (told_first (write_all schema tables table rows entries) (λ left. Ok (keys_of_entries entries, left)) e told))

pub insert_done : (schema : Catalog) (tables left : Tables) (table : TableId) (rows entries : Rows) (new : List (List Value)) → list_any (lacks_value (is_demanded (spec_of schema table)) (spec_of schema table).columns) new ≡ false
    → entries_of (spec_of schema table) rows new ≡ Ok entries → write_all schema tables table rows entries ≡ Ok left → insert_rows schema tables table rows new ≡ Ok (keys_of_entries entries, left)
insert_done schema tables left table rows entries new full are is =
    insert_full schema tables table rows new full ∙ ap (λ r. and_then r (λ entries. answer_keys (keys_of_entries entries) (write_all schema tables table rows entries))) are ∙ ap (answer_keys (keys_of_entries entries)) is

pub ruleset insert_steps = (insert_lacks, insert_refused, insert_violates, insert_done)

-- ---- an UPDATE

pub update_missing : (schema : Catalog) (tables : Tables) (table : TableId) (rows : Rows) (key : List Value) (cells : List (ColumnNo × Value)) → row_under rows key ≡ None → update_row schema tables table rows key cells ≡ Err Missing
unfolding update_row
update_missing schema tables table rows key cells absent = ap (update_found schema tables table rows key cells) absent

pub update_there : (schema : Catalog) (tables : Tables) (table : TableId) (rows : Rows) (key row : List Value) (cells : List (ColumnNo × Value)) → row_under rows key ≡ Some row
    → update_row schema tables table rows key cells ≡ answer_keys (key ∷ []) (change_all schema tables table rows ((key, with_cells row cells) ∷ []))
unfolding update_row
update_there schema tables table rows key row cells there = ap (update_found schema tables table rows key cells) there

pub update_violates : (schema : Catalog) (tables : Tables) (table : TableId) (rows : Rows) (key row : List Value) (cells : List (ColumnNo × Value)) (e : Unwritten) → row_under rows key ≡ Some row
    → Told (change_all schema tables table rows ((key, with_cells row cells) ∷ [])) (Err e) → Told (update_row schema tables table rows key cells) (Err e)
update_violates schema tables table rows key row cells e there told =
    told_from (Err e) (update_there schema tables table rows key row cells there)
    (told_first (change_all schema tables table rows ((key, with_cells row cells) ∷ [])) (λ left. Ok (key ∷ [], left)) e told)

pub update_done : (schema : Catalog) (tables left : Tables) (table : TableId) (rows : Rows) (key row : List Value) (cells : List (ColumnNo × Value)) → row_under rows key ≡ Some row
    → change_all schema tables table rows ((key, with_cells row cells) ∷ []) ≡ Ok left → update_row schema tables table rows key cells ≡ Ok (key ∷ [], left)
update_done schema tables left table rows key row cells there is = update_there schema tables table rows key row cells there ∙ ap (answer_keys (key ∷ [])) is

pub ruleset update_steps = (update_missing, update_violates, update_done)

-- ---- a DELETE

pub delete_absent : (schema : Catalog) (tables : Tables) (table : TableId) (rows : Rows) (key : List Value) → row_under rows key ≡ None → delete_row schema tables table rows key ≡ Ok (key ∷ [], tables)
unfolding delete_row
delete_absent schema tables table rows key absent = ap (delete_found schema tables table rows key) absent

pub delete_there : (schema : Catalog) (tables : Tables) (table : TableId) (rows : Rows) (key row : List Value) → row_under rows key ≡ Some row
    → delete_row schema tables table rows key ≡ answer_keys (key ∷ []) (remove_all schema tables table rows (key ∷ []))
unfolding delete_row
delete_there schema tables table rows key row there = ap (delete_found schema tables table rows key) there

is_there : {A : Type 0} (found : Option A) → is_some found ≡ true → (x : A) × (found ≡ Some x)
is_there None there = cc
is_there (Some x) there = (x, refl)

pub is_absent : {A : Type 0} (found : Option A) → is_some found ≡ false → found ≡ None
is_absent None absent = refl
is_absent (Some x) absent = cc

pub delete_nothing : (schema : Catalog) (tables : Tables) (table : TableId) (rows : Rows) (key : List Value) → is_some (row_under rows key) ≡ false → delete_row schema tables table rows key ≡ Ok (key ∷ [], tables)
delete_nothing schema tables table rows key absent = delete_absent schema tables table rows key (is_absent (row_under rows key) absent)

pub delete_violates : (schema : Catalog) (tables : Tables) (table : TableId) (rows : Rows) (key : List Value) (e : Unwritten) → is_some (row_under rows key) ≡ true
    → Told (remove_all schema tables table rows (key ∷ [])) (Err e) → Told (delete_row schema tables table rows key) (Err e)
delete_violates schema tables table rows key e there told =
    let row = is_there (row_under rows key) there in
    told_from (Err e) (delete_there schema tables table rows key row.0 row.1) (told_first (remove_all schema tables table rows (key ∷ [])) (λ left. Ok (key ∷ [], left)) e told)

pub delete_done : (schema : Catalog) (tables left : Tables) (table : TableId) (rows : Rows) (key : List Value) → is_some (row_under rows key) ≡ true
    → remove_all schema tables table rows (key ∷ []) ≡ Ok left → delete_row schema tables table rows key ≡ Ok (key ∷ [], left)
delete_done schema tables left table rows key there is =
    let row = is_there (row_under rows key) there in
    delete_there schema tables table rows key row.0 row.1 ∙ ap (answer_keys (key ∷ [])) is

pub ruleset delete_steps = (delete_nothing, delete_violates, delete_done)

-- ---- a statement

pub apply_nowhere : (schema : Catalog) (tables : Tables) (statement : RowStmt) → rows_in tables (table_of statement) ≡ None → apply schema tables statement ≡ Err (NoTable (table_of statement))
unfolding apply
apply_nowhere schema tables statement absent = ap (apply_found schema tables statement) absent

pub apply_insert : (schema : Catalog) (tables : Tables) (table : TableId) (rows : Rows) (new : List (List Value)) → rows_in tables table ≡ Some rows
    → insert_rows schema tables table rows new ≡ apply schema tables (Insert table new)
unfolding apply
apply_insert schema tables table rows new there = sym (ap (apply_found schema tables (Insert table new)) there)

pub apply_update : (schema : Catalog) (tables : Tables) (table : TableId) (rows : Rows) (key : List Value) (cells : List (ColumnNo × Value)) → rows_in tables table ≡ Some rows
    → update_row schema tables table rows key cells ≡ apply schema tables (Update table key cells)
unfolding apply
apply_update schema tables table rows key cells there = sym (ap (apply_found schema tables (Update table key cells)) there)

pub apply_delete : (schema : Catalog) (tables : Tables) (table : TableId) (rows : Rows) (key : List Value) → rows_in tables table ≡ Some rows
    → delete_row schema tables table rows key ≡ apply schema tables (Delete table key)
unfolding apply
apply_delete schema tables table rows key there = sym (ap (apply_found schema tables (Delete table key)) there)

pub ruleset apply_steps = (apply_nowhere, apply_insert, apply_update, apply_delete)
