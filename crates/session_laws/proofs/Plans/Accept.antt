-- A statement on one row is accepted where the tables that it leaves are legal.
use Rattle.std.proofs.Common.{◌≡◌, Bool, true, false, cond, ◌||◌, List, [], ◌∷◌, Option, None, Some, Ok, Err, refl, sym, ap, ◌∙◌, subst}
use Rattle.std.specs.Ordering.{is_eq}
use Rattle.std.specs.Cmp.{tied_itself}
use Rattle.std.specs.List.{list_any}
use Rattle.std.specs.Option.{is_some}
use Rattle.base_core.proofs.Tests.{and_none}
use Rattle.base_core.specs.declared.ids.ColumnNo.{ColumnNo}
use Rattle.base_core.specs.declared.ids.TableId.{TableId}
use Rattle.base_core.specs.declared.value.Value.{Value}
use Rattle.schema_core.specs.declared.statement.Violation.TheVariants.{Foreign, NotNull, PrimaryKey, Unique}
use Rattle.schema_core.specs.declared.statement.RowStmt.TheVariants.{Insert, Update, Delete}
use Rattle.schema_core.specs.Apply.{answer_keys, apply, apply_found, delete_found, delete_row, entries_of, entry_of, insert_rows, is_demanded, keys_of_entries, update_found, update_row, with_cells, with_own_key}
use Rattle.schema_core.specs.Judged.{and_then, change_all, lacks_value, loses_row, remove_all, some_loses_row, some_written_dangles, write_all}
use Rattle.schema_core.specs.Catalog.{Catalog, is_required, spec_of}
use Rattle.table_laws.proofs.Entries.{all_map, any_none, none_any}
use Rattle.schema_core.specs.declared.table.TableSpec.{TableSpec}
use Rattle.schema_core.specs.Tables.{Legal, Rows, Tables, dangles, has_dangling, is_legal_row, key_of, repeats_unique, row_under, rows_in, some_dangles, with_row, with_rows, without_row}
use Rattle.flush_plan.specs.Stating.{with_edit}
use Rattle.session_laws.specs.Plans.Premises.{IsSorted}
use Rattle.session_laws.proofs.Plans.At.{at_edit, edit_is, in_edited, row_found, rows_sorted, under_edited}
use Rattle.session_laws.proofs.Plans.Between.{legal_bound}
use Rattle.session_laws.proofs.Plans.Blend.{legal_lacks_none}
use Rattle.base_core.proofs.Exact.{values_total}
use Rattle.schema_core.proofs.TableOrder.{tables_total}

-- a row that stands in legal tables repeats no unique value
alone : (schema : Catalog) (tables : Tables) (table : TableId) (rows : Rows) (key row : List Value) → IsSorted tables → rows_in tables table ≡ Some rows → Legal schema (with_edit tables ((table, key), Some row)) → repeats_unique (spec_of schema table) (with_row rows key row) key row ≡ false
alone schema tables table rows key row sorted found legal =
    let here : rows_in (with_edit tables ((table, key), Some row)) table ≡ Some (with_row rows key row) =
    in_edited tables ((table, key), Some row) rows table found ∙ ap (λ o. cond (is_eq o) (Some (with_row rows key row)) (rows_in tables table)) (tied_itself tables_total table) in
    let under : row_under (with_row rows key row) key ≡ Some row =
    under_edited rows key (Some row) key (rows_sorted tables table rows sorted found) ∙ ap (λ o. cond (is_eq o) (Some row) (row_under rows key)) (tied_itself values_total key) in
    row_found (λ t rs r. repeats_unique (spec_of schema t) rs r.0 r.1 ≡ false) (with_edit tables ((table, key), Some row)) table (with_row rows key row) key row legal.uniques here under

-- its foreign keys name rows
bound : (schema : Catalog) (tables : Tables) (table : TableId) (rows : Rows) (key row : List Value) → IsSorted tables → rows_in tables table ≡ Some rows → Legal schema (with_edit tables ((table, key), Some row)) → some_dangles schema (with_edit tables ((table, key), Some row)) (spec_of schema table) row ≡ false
bound schema tables table rows key row sorted found legal =
    none_any (dangles schema (with_edit tables ((table, key), Some row)) (spec_of schema table) row) (spec_of schema table).foreigns
    (legal_bound schema (with_edit tables ((table, key), Some row)) legal (table, key) row (at_edit tables ((table, key), Some row) rows sorted found))

or_none : (a : Bool) → a ≡ false → (a || false) ≡ false
or_none a e = ap (λ b. b || false) e

written_accepted : (schema : Catalog) (tables : Tables) (table : TableId) (rows : Rows) (key row : List Value) → IsSorted tables → rows_in tables table ≡ Some rows → Legal schema (with_edit tables ((table, key), Some row)) → write_all schema tables table rows ((key, row) ∷ []) ≡ Ok (with_edit tables ((table, key), Some row))
unfolding write_all
written_accepted schema tables table rows key row sorted found legal =
    let left : Tables = with_rows tables table (with_row rows key row) in
    let is : with_edit tables ((table, key), Some row) ≡ left = edit_is tables ((table, key), Some row) rows found in
    let dangling : some_written_dangles schema left (spec_of schema table) ((key, row) ∷ []) ≡ false =
    or_none (some_dangles schema left (spec_of schema table) row) (subst (λ t. some_dangles schema t (spec_of schema table) row ≡ false) is (bound schema tables table rows key row sorted found legal)) in
    ap (λ b. cond b (Err Unique) (cond (some_written_dangles schema left (spec_of schema table) ((key, row) ∷ [])) (Err Foreign) (Ok left)))
    (or_none (repeats_unique (spec_of schema table) (with_row rows key row) key row) (alone schema tables table rows key row sorted found legal))
    ∙ ap (λ b. cond b (Err Foreign) (Ok left)) dangling
    ∙ ap Ok (sym is)

-- the one entry of an INSERT of one row
one_entry : (spec : TableSpec) (rows : Rows) (row placed : List Value) → with_own_key spec rows row ≡ Some placed → row_under rows (key_of spec placed) ≡ None → entries_of spec rows (row ∷ []) ≡ Ok ((key_of spec placed, placed) ∷ [])
one_entry spec rows row placed draws free =
    ap (λ o. and_then (entry_of spec rows o) (λ entry. Ok (entry ∷ []))) draws
    ∙ ap (λ o. and_then (cond (is_some o) (Err PrimaryKey) (Ok (key_of spec placed, placed))) (λ entry. Ok (entry ∷ []))) free

pub insert_accepted : (schema : Catalog) (tables : Tables) (table : TableId) (rows : Rows) (row placed : List Value) → IsSorted tables → rows_in tables table ≡ Some rows → lacks_value (is_demanded (spec_of schema table)) (spec_of schema table).columns row ≡ false → with_own_key (spec_of schema table) rows row ≡ Some placed → row_under rows (key_of (spec_of schema table) placed) ≡ None → Legal schema (with_edit tables ((table, key_of (spec_of schema table) placed), Some placed)) → apply schema tables (Insert table (row ∷ [])) ≡ Ok (key_of (spec_of schema table) placed ∷ [], with_edit tables ((table, key_of (spec_of schema table) placed), Some placed))
unfolding apply insert_rows
insert_accepted schema tables table rows row placed sorted found whole draws free legal =
    let key : List Value = key_of (spec_of schema table) placed in
    ap (apply_found schema tables (Insert table (row ∷ []))) found
    ∙ ap (λ b. cond b (Err NotNull) (and_then (entries_of (spec_of schema table) rows (row ∷ [])) (λ entries. answer_keys (keys_of_entries entries) (write_all schema tables table rows entries))))
    (or_none (lacks_value (is_demanded (spec_of schema table)) (spec_of schema table).columns row) whole)
    ∙ ap (λ j. and_then j (λ entries. answer_keys (keys_of_entries entries) (write_all schema tables table rows entries))) (one_entry (spec_of schema table) rows row placed draws free)
    ∙ ap (answer_keys (key ∷ [])) (written_accepted schema tables table rows key placed sorted found legal)

pub update_accepted : (schema : Catalog) (tables : Tables) (table : TableId) (rows : Rows) (key row : List Value) (cells : List (ColumnNo × Value)) → IsSorted tables → rows_in tables table ≡ Some rows → row_under rows key ≡ Some row → is_legal_row (spec_of schema table) (with_cells row cells) ≡ true → Legal schema (with_edit tables ((table, key), Some (with_cells row cells))) → apply schema tables (Update table key cells) ≡ Ok (key ∷ [], with_edit tables ((table, key), Some (with_cells row cells)))
unfolding apply update_row change_all
update_accepted schema tables table rows key row cells sorted found under fits legal =
    ap (apply_found schema tables (Update table key cells)) found
    ∙ ap (update_found schema tables table rows key cells) under
    ∙ ap (λ b. answer_keys (key ∷ []) (cond b (Err NotNull) (write_all schema tables table rows ((key, with_cells row cells) ∷ []))))
    (or_none (lacks_value is_required (spec_of schema table).columns (with_cells row cells)) (legal_lacks_none (spec_of schema table).columns (with_cells row cells) fits))
    ∙ ap (answer_keys (key ∷ [])) (written_accepted schema tables table rows key (with_cells row cells) sorted found legal)

fewer : {A : Type 0} (p q : A → Bool) → ((x : A) → p x ≡ false → q x ≡ false) → (xs : List A) → list_any p xs ≡ false → list_any q xs ≡ false
fewer p q f xs e = none_any q xs (all_map (λ x. p x ≡ false) (λ x. q x ≡ false) f xs (any_none p xs e))

-- where no foreign key dangles, no row lost one to which it referred
none_lost : (schema : Catalog) (before left : Tables) → has_dangling schema left ≡ false → some_loses_row schema before left ≡ false
none_lost schema before left =
    fewer (λ created. list_any (λ row. some_dangles schema left (spec_of schema created.0) row.1) created.1)
    (λ created. list_any (λ row. list_any (loses_row schema before left (spec_of schema created.0) row.1) (spec_of schema created.0).foreigns) created.1)
    (λ created. fewer (λ row. some_dangles schema left (spec_of schema created.0) row.1)
    (λ row. list_any (loses_row schema before left (spec_of schema created.0) row.1) (spec_of schema created.0).foreigns)
    (λ row. fewer (dangles schema left (spec_of schema created.0) row.1) (loses_row schema before left (spec_of schema created.0) row.1)
    (λ foreign e. and_none _ (dangles schema left (spec_of schema created.0) row.1 foreign) e)
    (spec_of schema created.0).foreigns)
    created.1)
    left

delete_under : (schema : Catalog) (tables : Tables) (table : TableId) (rows : Rows) (key : List Value) (o : Option (List Value)) → row_under rows key ≡ o → rows_in tables table ≡ Some rows → Legal schema (with_edit tables ((table, key), None)) → (o ≡ None → with_edit tables ((table, key), None) ≡ tables) → delete_found schema tables table rows key o ≡ Ok (key ∷ [], with_edit tables ((table, key), None))
unfolding remove_all
delete_under schema tables table rows key None under found legal same = ap (λ t. Ok (key ∷ [], t)) (sym (same refl))
delete_under schema tables table rows key (Some row) under found legal same =
    let is : with_edit tables ((table, key), None) ≡ with_rows tables table (without_row rows key) = edit_is tables ((table, key), None) rows found in
    ap (λ b. answer_keys (key ∷ []) (cond b (Err Foreign) (Ok (with_rows tables table (without_row rows key)))))
    (none_lost schema tables (with_rows tables table (without_row rows key)) (subst (λ t. has_dangling schema t ≡ false) is legal.foreigns))
    ∙ ap (λ t. Ok (key ∷ [], t)) (sym is)

-- that of an absent key leaves the tables; so does taking it out
pub delete_accepted : (schema : Catalog) (tables : Tables) (table : TableId) (rows : Rows) (key : List Value) → rows_in tables table ≡ Some rows → Legal schema (with_edit tables ((table, key), None)) → (row_under rows key ≡ None → with_edit tables ((table, key), None) ≡ tables) → apply schema tables (Delete table key) ≡ Ok (key ∷ [], with_edit tables ((table, key), None))
unfolding apply delete_row
delete_accepted schema tables table rows key found legal same =
    ap (apply_found schema tables (Delete table key)) found ∙ delete_under schema tables table rows key (row_under rows key) refl found legal same
