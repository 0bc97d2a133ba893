-- The scopes outside a savepoint stay while calls are made inside it.
use Rattle.std.proofs.Common.{◌≡◌, ℕ, ◌+◌, ◌-◌, ◌<◌, ◌≤◌, List, [], ◌∷◌, ◌++◌, length, drop, get_or, Ok, Err, refl, sym, ap, ◌∙◌, subst, arith}
use Rattle.std.specs.Prelude.{slice_index_or}
use Rattle.std.proofs.Math.Seq.{drop-append_seam, drop-append-add}
use Rattle.std.proofs.lemmas.List.{drop-append-le, length-append, get_or-append-add}
use Rattle.schema_core.specs.Tables.{Tables}
use Rattle.schema_core.specs.Apply as row
use Rattle.schema_core.specs.Catalog.{Catalog}
use Rattle.schema_core.specs.declared.statement.RowStmt.{RowStmt}
use Rattle.sql_semantics.specs.Applied as bulk
use Rattle.expr_types.specs.declared.select.Bulk.{Bulk}
use Rattle.keeper_core.specs.Programs.{give}
use Rattle.keeper_core.specs.Store.{Store}
use Rattle.keeper_core.specs.Calls as call
use Rattle.table_laws.specs.Savepoints.{Call, AreInside, IsInside, Query, Release, RollbackTo, RollbackToRestores, Savepoint, Scan, Write, WriteMany, after_call, after_calls}

-- the scopes end with those outside
abbrev EndsWith : List Tables → List Tables → Type 0
EndsWith outer scopes = (inner : List Tables) × (scopes ≡ inner ++ outer)

dropped : (n : ℕ) (outer scopes : List Tables) (inner : List Tables) → scopes ≡ inner ++ outer → n ≤ length inner → EndsWith outer (drop n scopes)
dropped n outer scopes inner is le = (drop n inner, ap (drop n) is ∙ drop-append-le n inner outer le)

long : (outer scopes : List Tables) (inner : List Tables) → scopes ≡ inner ++ outer → length scopes ≡ length inner + length outer
long outer scopes inner is = ap length is ∙ length-append inner outer

write_stays : (schema : Catalog) (statement : RowStmt) (w : Store) → (call.write schema statement w).after.scopes ≡ w.scopes
unfolding call.write
write_stays schema statement w = by (row.apply schema w.tables statement)
  where
    by : (outcome : row.Outcome) → (call.run_of_write statement outcome w).after.scopes ≡ w.scopes
    by (Ok done) = refl
    by (Err violation) = refl

bulk_stays : (schema : Catalog) (statement : Bulk) (w : Store) → (call.bulk schema statement w).after.scopes ≡ w.scopes
unfolding call.bulk
bulk_stays schema statement w = by (bulk.bulk_outcome schema w.tables statement)
  where
    by : (outcome : bulk.Outcome) → (call.run_of_bulk statement outcome w).after.scopes ≡ w.scopes
    by (Ok done) = refl
    by (Err refusal) = refl

-- a call inside the savepoint leaves the scopes from it outwards
call_stays : (number : ℕ) (outer : List Tables) (c : Call) (w : Store) → length outer ≡ number + 1 → IsInside number c w → EndsWith outer w.scopes → EndsWith outer (after_call c w).scopes
unfolding call.query call.scan call.savepoint call.release call.rollback_to give
call_stays number outer (Write schema statement) w size inside e = (e.0, write_stays schema statement w ∙ e.1)
call_stays number outer (WriteMany schema statement) w size inside e = (e.0, bulk_stays schema statement w ∙ e.1)
call_stays number outer (Query schema select) w size inside e = e
call_stays number outer (Scan table) w size inside e = e
call_stays number outer Savepoint w size inside e = (w.tables ∷ e.0, ap (λ (scopes : List Tables). w.tables ∷ scopes) e.1)
call_stays number outer Release w size inside e = dropped 1 outer w.scopes e.0 e.1 (omega (arith, size, inside, long outer w.scopes e.0 e.1))
call_stays number outer (RollbackTo inner) w size inside e = dropped (length w.scopes - inner) outer w.scopes e.0 e.1 (omega (arith, size, inside, long outer w.scopes e.0 e.1))

calls_stay : (number : ℕ) (outer : List Tables) (calls : List Call) (w : Store) → length outer ≡ number + 1 → AreInside number calls w → EndsWith outer w.scopes → EndsWith outer (after_calls calls w).scopes
calls_stay number outer [] w size inside e = e
calls_stay number outer (c ∷ calls) w size inside e = calls_stay number outer calls (after_call c w) size inside.1 (call_stays number outer c w size inside.0 e)

-- the rollback to the savepoint under other scopes
rolled_to : (tables : Tables) (outer : List Tables) (now : Store) → EndsWith (tables ∷ outer) now.scopes → after_call (RollbackTo (length outer)) now ≡ record { tables = tables; scopes = outer }
unfolding call.rollback_to
rolled_to tables outer now e =
    let count : length now.scopes - length outer ≡ length e.0 + 1 = omega (arith, long (tables ∷ outer) now.scopes e.0 e.1) in
    let before : length now.scopes - length outer - 1 ≡ length e.0 + 0 = omega (arith, count) in
    ap (λ (n : ℕ). record { tables = slice_index_or now.scopes n now.tables; scopes = drop (length now.scopes - length outer) now.scopes }) before
    ∙ ap (λ (n : ℕ). record { tables = slice_index_or now.scopes (length e.0 + 0) now.tables; scopes = drop n now.scopes }) count
    ∙ ap (λ (scopes : List Tables). record { tables = slice_index_or scopes (length e.0 + 0) now.tables; scopes = drop (length e.0 + 1) scopes }) e.1
    ∙ ap (λ (t : Tables). record { tables = t; scopes = drop (length e.0 + 1) (e.0 ++ tables ∷ outer) }) (get_or-append-add e.0 (tables ∷ outer) 0 now.tables)
    ∙ ap (λ (scopes : List Tables). record { tables = tables; scopes = scopes }) (drop-append-add e.0 (tables ∷ outer) 1)

pub restores : RollbackToRestores
unfolding call.savepoint
restores w calls inside =
    rolled_to w.tables w.scopes (after_calls calls (after_call Savepoint w))
    (calls_stay (length w.scopes) (w.tables ∷ w.scopes) calls (after_call Savepoint w) (omega arith) inside ([], refl))
