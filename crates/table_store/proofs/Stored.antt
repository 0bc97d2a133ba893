-- What a store does with a statement is the statement's program.
use Rattle.std.proofs.Common.{◌≡◌, ℕ, false, List, Result, Ok, Err, IfErr, MatchBool, refl, sym, ap, ◌∙◌, subst}
use Rattle.base_core.specs.declared.refusal.Refusal.{Refusal}
use Rattle.base_core.specs.declared.refusal.Refusal.TheVariants as refusal
use Rattle.base_core.specs.declared.ids.TableId.{TableId}
use Rattle.base_core.specs.declared.value.Value.{Value}
use Rattle.base_core.specs.Answers.{Refuses}
use Rattle.schema_core.specs.declared.statement.Violation.{Violation}
use Rattle.schema_core.specs.declared.statement.Violation.TheVariants as violations
use Rattle.schema_core.specs.declared.statement.RowStmt.{RowStmt}
use Rattle.schema_core.specs.Apply.{apply, table_of}
use Rattle.schema_core.specs.Catalog.{Catalog}
use Rattle.schema_core.specs.Refusals.{violation_refusal}
use Rattle.schema_core.specs.Tables.{Tables}
use Rattle.schema_core.specs.WellFormed.{MayViolate}
use Rattle.schema_core.proofs.NewKeys.{keys_for}
use Rattle.schema_core.proofs.Violations.{may_violate}
use Rattle.expr_types.specs.declared.select.Bulk.{Bulk}
use Rattle.expr_types.specs.declared.select.Select.{Select}
use Rattle.sql_semantics.specs.Applied as spec
use Rattle.sql_semantics.specs.BulkRefusals as bulk
use Rattle.sql_semantics.specs.Created.{bare}
use Rattle.sql_semantics.specs.Plain.{IsPlainBulk, IsPlainSelect}
use Rattle.sql_semantics.specs.Rows.{answer}
use Rattle.sql_semantics.specs.SelectRefusals as select
use Rattle.bulk_rows.proofs.Declared.{declared_bulk}
use Rattle.bulk_rows.proofs.Refused.{refused}
use Rattle.select_rows.proofs.Declared.{declared_select}
use Rattle.keeper_core.specs.declared.sent.Sent.{Sent}
use Rattle.keeper_core.specs.declared.sent.Sent.TheVariants as sent
use Rattle.keeper_core.specs.Programs.{Run, as_refusal, ends_early}
use Rattle.keeper_core.specs.Store.{Store}
use Rattle.keeper_core.specs.declared.keeper.WriteRefusal.{WriteRefusal}
use Rattle.keeper_core.specs.declared.keeper.QueryRefusal.{QueryRefusal}
use Rattle.keeper_core.specs.Calls as call
use Rattle.keeper_core.specs.Calls.{run_of_bulk, query_refusal, refusal_by, sends, write_refusal, run_of_write}
use Rattle.keeper_core.specs.Keeping.{RefusesBulk, RefusesRow, RefusesSelect}
use Rattle.table_log.specs.Marks.{IsNoted, Marked}
use Rattle.table_log.proofs.Marking.{none_more}
use Rattle.row_statements.specs.Held.{rows_changed}
use Rattle.table_store.specs.Written.{IsOfEvaluation, Leaves, Stores, given_up}

-- ---- a statement on rows

pub stored_row : (schema : Catalog) (s : RowStmt) (keys : List (List Value)) (old new : Marked) → apply schema old.seen.tables s ≡ Ok (keys, new.seen.tables) → new.seen.scopes ≡ old.seen.scopes → IsNoted (rows_changed old.seen.tables s) old new
    → Stores (call.write schema s) (sent.Write s) (λ _. rows_changed old.seen.tables s) old (Ok keys) new
unfolding call.write
stored_row schema s keys old new did same noted =
    (ap (λ outcome. run_of_write s outcome old.seen) did ∙ ap (λ scopes. sends (sent.Write s) (record { tables = new.seen.tables; scopes = scopes }) (Ok keys)) (sym same), same, noted)

refusal_is : (table : TableId) (violation : Violation) → violation_refusal table violation ≡ write_refusal table (refusal_by violation)
refusal_is table (violations.NoTable absent) = refl
refusal_is table violations.Missing = refl
refusal_is table violations.NotNull = refl
refusal_is table violations.KeysSpent = refl
refusal_is table violations.PrimaryKey = refl
refusal_is table violations.Unique = refl
refusal_is table violations.Foreign = refl

own_violation : (table : TableId) (violation : Violation) → ends_early (write_refusal table (refusal_by violation)) ≡ false
own_violation table (violations.NoTable absent) = refl
own_violation table violations.Missing = refl
own_violation table violations.NotNull = refl
own_violation table violations.KeysSpent = refl
own_violation table violations.PrimaryKey = refl
own_violation table violations.Unique = refl
own_violation table violations.Foreign = refl

-- a refusal that ends no run early, and changes nothing
stored_own : {A : Type 0} (m : Store → Run Store A) (statement : Sent) (count : A → ℕ) (e : Refusal) (old new : Marked) → ends_early e ≡ false
    → m old.seen ≡ sends statement old.seen (Err e) → new ≡ old → Stores m statement count old (Err e) new
stored_own m statement count e old new own ran same =
    subst (λ b. MatchBool b ((e ≡ refusal.Memory) × (given_up new.seen ≡ given_up old.seen)) ((m old.seen ≡ sends statement old.seen (Err e)) × (new ≡ old))) (sym own) (ran, same)

pub stored_violation : (schema : Catalog) (s : RowStmt) (violation : Violation) (r : WriteRefusal) (old new : Marked) → apply schema old.seen.tables s ≡ Err violation → new ≡ old → r ≡ refusal_by violation
    → Stores (call.write schema s) (sent.Write s) (λ _. rows_changed old.seen.tables s) old (Err (write_refusal (table_of s) r)) new
unfolding call.write
stored_violation schema s violation r old new did same is =
    subst (λ (q : WriteRefusal). Stores (call.write schema s) (sent.Write s) (λ _. rows_changed old.seen.tables s) old (Err (write_refusal (table_of s) q)) new) (sym is)
    (stored_own (call.write schema s) (sent.Write s) (λ _. rows_changed old.seen.tables s) (write_refusal (table_of s) (refusal_by violation)) old new (own_violation (table_of s) violation)
    (ap (λ outcome. run_of_write s outcome old.seen) did ∙ ap (λ e. sends (sent.Write s) old.seen (Err e)) (refusal_is (table_of s) violation)) same)

pub gone_back : (mid old new : Marked) → mid ≡ old → new.seen ≡ given_up mid.seen → given_up new.seen ≡ given_up old.seen
gone_back mid old new same is = ap given_up (is ∙ ap (λ (store : Marked). given_up store.seen) same)

pub violation_refuses : (s : RowStmt) (violation : Violation) (r : WriteRefusal) → MayViolate s violation → r ≡ refusal_by violation → RefusesRow s (write_refusal (table_of s) r)
violation_refuses s violation r may is = subst (λ (q : WriteRefusal). RefusesRow s (write_refusal (table_of s) q)) (sym is) (by s violation may)
  where
    by : (s : RowStmt) (v : Violation) → MayViolate s v → RefusesRow s (write_refusal (table_of s) (refusal_by v))
    by s (violations.NoTable table) may = (violations.NoTable table, refl, may)
    by s violations.Missing may = (violations.Missing, refl, may)
    by s violations.NotNull may = (violations.NotNull, refl, may)
    by s violations.KeysSpent may = (violations.KeysSpent, refl, may)
    by s violations.PrimaryKey may = (violations.PrimaryKey, refl, may)
    by s violations.Unique may = (violations.Unique, refl, may)
    by s violations.Foreign may = (violations.Foreign, refl, may)

pub ruleset rows = (stored_row, stored_violation, gone_back, violation_refuses, may_violate, keys_for)

-- ---- a bulk statement

stored_bulk : (schema : Catalog) (s : Bulk) (count : ℕ) (old new : Marked) → spec.bulk_outcome schema old.seen.tables s ≡ Ok (count, new.seen.tables) → new.seen.scopes ≡ old.seen.scopes → IsNoted count old new
    → Stores (call.bulk schema s) (sent.Bulk s) (λ n. n) old (Ok count) new
unfolding call.bulk
stored_bulk schema s count old new did same noted =
    (ap (λ outcome. run_of_bulk s outcome old.seen) did ∙ ap (λ scopes. sends (sent.Bulk s) (record { tables = new.seen.tables; scopes = scopes }) (Ok count)) (sym same), same, noted)

bulk_stops : (schema : Catalog) (s : Bulk) (e : Refusal) (old new : Marked) → bulk.CanRefuse s e → Refuses e (spec.bulk_outcome schema old.seen.tables s) → new ≡ old → Stores (call.bulk schema s) (sent.Bulk s) (λ n. n) old (Err e) new
unfolding call.bulk
bulk_stops schema s refusal.Memory old new can told same = (refl, ap (λ (store : Marked). given_up store.seen) same)
bulk_stops schema s (refusal.OperationalError absent) old new can told same = (ap (λ outcome. run_of_bulk s outcome old.seen) told, same)
bulk_stops schema s (refusal.DataError op a b) old new can told same = (ap (λ outcome. run_of_bulk s outcome old.seen) told, same)
bulk_stops schema s (refusal.KeysSpent table) old new can told same = (ap (λ outcome. run_of_bulk s outcome old.seen) told, same)
bulk_stops schema s (refusal.IntegrityError kind table) old new can told same = (ap (λ outcome. run_of_bulk s outcome old.seen) told, same)
bulk_stops schema s e old new can told same = absurd can

stored_bulk_err : (schema : Catalog) (s : Bulk) (e : Refusal) (old new : Marked) → Refuses e (spec.bulk_outcome schema old.seen.tables s) → new ≡ old → Stores (call.bulk schema s) (sent.Bulk s) (λ n. n) old (Err e) new
stored_bulk_err schema s e old new told same = bulk_stops schema s e old new (refused schema old.seen.tables s e told) told same

bulk_may : (schema : Catalog) (s : Bulk) (e : Refusal) → IsPlainBulk schema s → bulk.CanRefuse s e → RefusesBulk schema s e
bulk_may schema s refusal.KeeperFault plain can = absurd can
bulk_may schema s e plain can = (can, declared_bulk schema s e plain can)

bulk_refuses : (schema : Catalog) (tables : Tables) (s : Bulk) (e : Refusal) → IsPlainBulk schema s → Refuses e (spec.bulk_outcome schema tables s) → RefusesBulk schema s e
bulk_refuses schema tables s e plain told = bulk_may schema s e plain (refused schema tables s e told)

-- what was done to the tables is what the statement's program does to the store, in the same scopes
pub stored_left : (schema : Catalog) (s : Bulk) (result : Result ℕ WriteRefusal) (old new : Marked) → Leaves (spec.table_of s) (spec.bulk_outcome schema old.seen.tables s) old result new
    → Stores (call.bulk schema s) (sent.Bulk s) (λ n. n) old (as_refusal (write_refusal (spec.table_of s)) result) new
stored_left schema s (Ok count) old new left = stored_bulk schema s count old new left.0 left.1 left.2
stored_left schema s (Err r) old new left = stored_bulk_err schema s (write_refusal (spec.table_of s) r) old new left.0 left.1

pub left_refuses : (schema : Catalog) (old new : Marked) (s : Bulk) (result : Result ℕ WriteRefusal) → IsPlainBulk schema s → Leaves (spec.table_of s) (spec.bulk_outcome schema old.seen.tables s) old result new
    → IfErr (as_refusal (write_refusal (spec.table_of s)) result) (RefusesBulk schema s)
left_refuses schema old new s (Ok count) plain left = tt
left_refuses schema old new s (Err r) plain left = bulk_refuses schema old.seen.tables s (write_refusal (spec.table_of s) r) plain left.0

pub ruleset bulks = (stored_left, left_refuses)

-- ---- a select

pub stored_query : (schema : Catalog) (s : Select) (rows : List (List Value)) (store : Marked) → answer schema (bare store.seen.tables) s ≡ Ok rows → Stores (call.query schema s) (sent.Query s) (λ _. 0) store (Ok rows) store
unfolding call.query
stored_query schema s rows store is = (ap (sends (sent.Query s) store.seen) is, refl, none_more store)

query_stops : (schema : Catalog) (s : Select) (e : Refusal) (store : Marked) → select.CanRefuse s e → Refuses e (answer schema (bare store.seen.tables) s) → Stores (call.query schema s) (sent.Query s) (λ _. 0) store (Err e) store
unfolding call.query
query_stops schema s refusal.Memory store can is = (refl, refl)
query_stops schema s (refusal.OperationalError absent) store can is = (ap (sends (sent.Query s) store.seen) is, refl)
query_stops schema s (refusal.DataError op a b) store can is = (ap (sends (sent.Query s) store.seen) is, refl)
query_stops schema s e store can is = absurd can

pub select_evaluated : (s : Select) (e : Refusal) → select.CanRefuse s e → IsOfEvaluation e
select_evaluated s (refusal.OperationalError absent) can = tt
select_evaluated s (refusal.DataError op a b) can = tt
select_evaluated s refusal.Memory can = tt
select_evaluated s e can = absurd can

pub stored_query_err : (schema : Catalog) (s : Select) (e : Refusal) (r : QueryRefusal) (store : Marked) → select.CanRefuse s e → Refuses e (answer schema (bare store.seen.tables) s) → query_refusal r ≡ e
    → Stores (call.query schema s) (sent.Query s) (λ _. 0) store (Err (query_refusal r)) store
stored_query_err schema s e r store can told is =
    subst (λ (d : Refusal). Stores (call.query schema s) (sent.Query s) (λ _. 0) store (Err d) store) (sym is) (query_stops schema s e store can told)

query_may : (schema : Catalog) (s : Select) (e : Refusal) → IsPlainSelect schema s → select.CanRefuse s e → RefusesSelect schema s e
query_may schema s refusal.KeeperFault plain can = absurd can
query_may schema s e plain can = (can, declared_select schema s e plain can)

pub query_refuses : (schema : Catalog) (s : Select) (e : Refusal) (r : QueryRefusal) → IsPlainSelect schema s → select.CanRefuse s e → query_refusal r ≡ e → RefusesSelect schema s (query_refusal r)
query_refuses schema s e r plain can is = subst (RefusesSelect schema s) (sym is) (query_may schema s e plain can)

pub ruleset selects = (select_evaluated, stored_query, stored_query_err, query_refuses)
