-- Each call of the keeper, but one that drops a table, leaves a legal store legal.
use Rattle.std.proofs.Common.{◌≡◌, ◌⊎◌, inl, inr, ℕ, zero, suc, ◌-◌, Bool, true, false, not, ◌&&◌, List, [], ◌∷◌, Option, None, Some, Ok, Err, is_some, length, drop, refl, sym, ap, ◌∙◌}
use Rattle.std.specs.Prelude.{slice_index_or}
use Rattle.std.specs.declared.cmp.Ordering.TheVariants.{Equal}
use Rattle.std.specs.List.{AllByRecursion, list_any}
use Rattle.std.specs.List.Sorted.{IsStrictlySortedBy}
use Rattle.std.specs.Map.{keys_of}
use Rattle.std.specs.BTreeMap.{is_at}
use Rattle.std.specs.Option.{option_and_then}
use Rattle.base_core.specs.declared.ids.TableId.{TableId}
use Rattle.base_core.specs.declared.value.Value.{Value}
use Rattle.base_core.specs.Order.{values_cmp}
use Rattle.schema_core.specs.declared.statement.RowStmt.{RowStmt}
use Rattle.schema_core.specs.declared.table.ForeignSpec.{ForeignSpec}
use Rattle.schema_core.specs.declared.table.TableSpec.{TableSpec}
use Rattle.schema_core.specs.Apply as row
use Rattle.schema_core.specs.Catalog.{Catalog, IsTable, spec_of, target_of}
use Rattle.schema_core.specs.Tables.{AreAscending, Legal, Rows, Tables, cells_of, has_dangling, has_null, has_row, is_created, is_legal_row, key_of, names_row, repeats_unique, rows_in, some_dangles, table_cmp}
use Rattle.schema_core.specs.WellFormed.{IsWellFormed}
use Rattle.expr_types.specs.declared.select.Select.{Select}
use Rattle.keeper_core.specs.Programs.{give}
use Rattle.keeper_core.specs.Store.{Store, committed_of, with_empty_table, without_table, outermost}
use Rattle.keeper_core.specs.Calls as call
use Rattle.table_laws.proofs.Ascending.{accepted_ascends, ascending_with, sorted_remove}
use Rattle.table_laws.proofs.Entries.{all_insert, all_map, all_remove}
use Rattle.table_laws.proofs.Legality.{Bound, accepted, bound_at, bound_by}
use Rattle.table_laws.proofs.Members.{lookup_after}
use Rattle.table_laws.proofs.SameValues.{same_table}
use Rattle.table_laws.specs.Legality.{AreSound, IsAscendingStore, Keeps, KeepsAscending, KeepsLegal, Throughout}

-- ---- scopes

every_at : {A : Type 0} (P : A → Type 0) (xs : List A) (n : ℕ) (d : A) → AllByRecursion P xs → P d → P (slice_index_or xs n d)
every_at P [] n d all other = other
every_at P (x ∷ xs) zero d all other = all.0
every_at P (x ∷ xs) (suc n) d all other = every_at P xs n d all.1 other

every_left : {A : Type 0} (P : A → Type 0) (n : ℕ) (xs : List A) → AllByRecursion P xs → AllByRecursion P (drop n xs)
every_left P zero xs all = all
every_left P (suc n) [] all = tt
every_left P (suc n) (x ∷ xs) all = every_left P n xs all.1

every_outermost : (P : Tables → Type 0) (tables : Tables) (scopes : List Tables) → P tables → AllByRecursion P scopes → P (outermost tables scopes)
every_outermost P tables [] now all = now
every_outermost P tables (s ∷ scopes) now all = every_outermost P s scopes all.0 all.1

-- what was committed last has what the store has throughout
pub committed_has : (P : Tables → Type 0) (w : Store) → Throughout P w → P (committed_of w)
committed_has P w all = every_outermost P w.tables w.scopes all.tables all.scopes

-- the store with other tables
with_tables : (P : Tables → Type 0) (tables : Tables) (w : Store) → P tables → Throughout P w → Throughout P (record { tables = tables; scopes = w.scopes })
with_tables P tables w now all = record { tables = now; scopes = all.scopes }

-- ---- calls that start and end scopes, and those that read

pub keeps_begin : (P : Tables → Type 0) → Keeps (Throughout P) call.begin
unfolding call.begin
keeps_begin P = record { kept = λ w all. record { tables = all.tables; scopes = (all.tables, all.scopes) } }

pub keeps_savepoint : (P : Tables → Type 0) → Keeps (Throughout P) call.savepoint
unfolding call.savepoint
keeps_savepoint P = record { kept = λ w all. record { tables = all.tables; scopes = (all.tables, all.scopes) } }

pub keeps_release : (P : Tables → Type 0) → Keeps (Throughout P) call.release
unfolding call.release
keeps_release P = record { kept = λ w all. record { tables = all.tables; scopes = every_left P 1 w.scopes all.scopes } }

pub keeps_rollback_to : (P : Tables → Type 0) (number : ℕ) → Keeps (Throughout P) (call.rollback_to number)
unfolding call.rollback_to
keeps_rollback_to P number = record {
  kept = λ w all. record {
    tables = every_at P w.scopes (length w.scopes - number - 1) w.tables all.scopes all.tables;
    scopes = every_left P (length w.scopes - number) w.scopes all.scopes;
  };
}

pub keeps_rollback : (P : Tables → Type 0) → Keeps (Throughout P) call.rollback
unfolding call.rollback
keeps_rollback P = record { kept = λ w all. record { tables = committed_has P w all; scopes = tt } }

pub keeps_commit : (P : Tables → Type 0) → Keeps (Throughout P) call.commit
unfolding call.commit
keeps_commit P = record { kept = λ w all. record { tables = all.tables; scopes = tt } }

pub keeps_query : (P : Tables → Type 0) (schema : Catalog) (select : Select) → Keeps (Throughout P) (call.query schema select)
unfolding call.query
keeps_query P schema select = record { kept = λ w all. all }

pub keeps_scan : (P : Tables → Type 0) (table : TableId) → Keeps (Throughout P) (call.scan table)
unfolding call.scan give
keeps_scan P table = record { kept = λ w all. all }

-- ---- a table that is made

absent : (found : Option Rows) (key : List Value) → is_some found ≡ false → has_row key found ≡ has_row key (Some [])
absent None key none = refl
absent (Some rows) key none = cc

-- a key names a row beside a new table where it names one without
name_same : (schema : Catalog) (tables : Tables) (table : TableId) (foreign : ForeignSpec) (key : List Value) → is_created tables table ≡ false
    → names_row schema tables foreign key ≡ names_row schema (with_empty_table tables table) foreign key
name_same schema tables table foreign key none = by (target_of schema foreign)
  where
    at : (target : TableId) → (rows_in (with_empty_table tables table) target ≡ rows_in tables target) ⊎ ((table_cmp target table ≡ Equal) × (rows_in (with_empty_table tables table) target ≡ Some []))
        → has_row key (rows_in tables target) ≡ has_row key (rows_in (with_empty_table tables table) target)
    at target (inl is) = ap (has_row key) (sym is)
    at target (inr is) =
        ap (λ t. has_row key (rows_in tables t)) (same_table target table is.0) ∙ absent (rows_in tables table) key none ∙ sym (ap (has_row key) is.1)

    by : (target : Option TableId) → has_row key (option_and_then (rows_in tables) target) ≡ has_row key (option_and_then (rows_in (with_empty_table tables table)) target)
    by None = refl
    by (Some target) = at target (lookup_after table_cmp same_table tables table target [])

dangle_same : (schema : Catalog) (tables : Tables) (table : TableId) (spec : TableSpec) (cells : List Value) → is_created tables table ≡ false
    → some_dangles schema tables spec cells ≡ some_dangles schema (with_empty_table tables table) spec cells
dangle_same schema tables table spec cells none =
    λ i. list_any (λ (f : ForeignSpec). not (has_null (cells_of spec cells f.columns)) && not (name_same schema tables table f (cells_of spec cells f.columns) none i)) spec.foreigns

created_bound : (schema : Catalog) (tables : Tables) (table : TableId) → has_dangling schema tables ≡ false → is_created tables table ≡ false → has_dangling schema (with_empty_table tables table) ≡ false
created_bound schema tables table old none =
    bound_by schema (with_empty_table tables table) (all_insert table_cmp same_table (Bound schema (with_empty_table tables table)) tables table []
    (all_map (Bound schema tables) (Bound schema (with_empty_table tables table))
    (λ c e. all_map (λ row. some_dangles schema tables (spec_of schema c.0) row.1 ≡ false) (λ row. some_dangles schema (with_empty_table tables table) (spec_of schema c.0) row.1 ≡ false)
    (λ row p. sym (dangle_same schema tables table (spec_of schema c.0) row.1 none) ∙ p) c.1 e) tables (bound_at schema tables old)) tt)

-- what holds of each row of each table holds of each beside a new table
each_created : (P : TableId → Rows → List Value × List Value → Type 0) (tables : Tables) (table : TableId) → AllByRecursion (λ c. AllByRecursion (P c.0 c.1) c.1) tables
    → AllByRecursion (λ c. AllByRecursion (P c.0 c.1) c.1) (with_empty_table tables table)
each_created P tables table all = all_insert table_cmp same_table (λ c. AllByRecursion (P c.0 c.1) c.1) tables table [] all tt

created_legal : (schema : Catalog) (tables : Tables) (table : TableId) → IsTable schema table → Legal schema tables → is_created tables table ≡ false → Legal schema (with_empty_table tables table)
created_legal schema tables table declared legal none = record {
  created = all_insert table_cmp same_table (λ c. IsTable schema c.0) tables table [] legal.created declared;
  keys = each_created (λ t rows row. key_of (spec_of schema t) row.1 ≡ row.0) tables table legal.keys;
  cells = each_created (λ t rows row. is_legal_row (spec_of schema t) row.1 ≡ true) tables table legal.cells;
  uniques = each_created (λ t rows row. repeats_unique (spec_of schema t) rows row.0 row.1 ≡ false) tables table legal.uniques;
  foreigns = created_bound schema tables table legal.foreigns none;
}

no_rows_ascend : IsStrictlySortedBy {K = List Value} values_cmp []
unfolding IsStrictlySortedBy
no_rows_ascend = tt

created_sound : (schema : Catalog) (tables : Tables) (table : TableId) → IsTable schema table → AreSound schema tables → is_created tables table ≡ false → AreSound schema (with_empty_table tables table)
created_sound schema tables table declared sound none =
    record { legal = created_legal schema tables table declared sound.legal none; ascending = ascending_with tables table [] sound.ascending no_rows_ascend }

create_has : (P : Tables → Type 0) (table : TableId) → ((tables : Tables) → P tables → is_created tables table ≡ false → P (with_empty_table tables table)) → Keeps (Throughout P) (call.create table)
unfolding call.create
create_has P table stays = record { kept = λ w all. by w (is_created w.tables table) refl all }
  where
    by : (w : Store) (b : Bool) → is_created w.tables table ≡ b → Throughout P w → Throughout P (call.create table w).after
    by w true is all = rw is all
    by w false is all = rw is (with_tables P (with_empty_table w.tables table) w (stays w.tables all.tables is) all)

pub create_legal : (schema : Catalog) (table : TableId) → IsTable schema table → KeepsLegal schema (call.create table)
create_legal schema table declared = create_has (AreSound schema) table (λ tables sound none. created_sound schema tables table declared sound none)

pub create_ascends : (table : TableId) → KeepsAscending (call.create table)
create_ascends table = create_has AreAscending table (λ tables up none. ascending_with tables table [] up no_rows_ascend)

-- ---- a table that is dropped

pub ascending_without : (tables : Tables) (table : TableId) → AreAscending tables → AreAscending (without_table tables table)
ascending_without tables table up = record {
  numbers = sorted_remove table_cmp (is_at (table_cmp table)) tables up.numbers;
  keys = all_remove (is_at (table_cmp table)) (λ c. IsStrictlySortedBy values_cmp (keys_of c.1)) tables up.keys;
}

pub drop_ascends : (table : TableId) → KeepsAscending (call.drop_table table)
unfolding call.drop_table
drop_ascends table = record { kept = λ w up. by w (is_created w.tables table) refl up }
  where
    by : (w : Store) (b : Bool) → is_created w.tables table ≡ b → IsAscendingStore w → IsAscendingStore (call.drop_table table w).after
    by w true is up = rw is (with_tables AreAscending (without_table w.tables table) w (ascending_without w.tables table up.tables) up)
    by w false is up = rw is up

-- ---- a statement on rows

write_has : (P : Tables → Type 0) (schema : Catalog) (statement : RowStmt) → ((tables after : Tables) (keys : List (List Value)) → P tables → row.apply schema tables statement ≡ Ok (keys, after) → P after) → Keeps (Throughout P) (call.write schema statement)
unfolding call.write
write_has P schema statement stays = record { kept = λ w all. by w (row.apply schema w.tables statement) refl all }
  where
    by : (w : Store) (outcome : row.Outcome) → row.apply schema w.tables statement ≡ outcome → Throughout P w → Throughout P (call.run_of_write statement outcome w).after
    by w (Ok done) is all = with_tables P done.1 w (stays w.tables done.1 done.0 all.tables is) all
    by w (Err violation) is all = all

pub write_legal : (schema : Catalog) (statement : RowStmt) → IsWellFormed schema statement → KeepsLegal schema (call.write schema statement)
write_legal schema statement well =
    write_has (AreSound schema) schema statement
    (λ tables after keys sound is. record { legal = accepted schema tables statement keys after well sound.legal is; ascending = accepted_ascends schema tables statement keys after sound.ascending is })

pub write_ascends : (schema : Catalog) (statement : RowStmt) → KeepsAscending (call.write schema statement)
write_ascends schema statement = write_has AreAscending schema statement (λ tables after keys up is. accepted_ascends schema tables statement keys after up is)
