-- The tables of a schema one after the other, and what they leave.
use Rattle.std.proofs.Common.{◌≡◌, ℕ, ◌+◌, ◌<◌, ◌≤◌, true, false, List, [], ◌∷◌, length, drop, get_or, Option, None, Some, Result, Ok, Err, IfErr, IfOk, OnOk, sym, ap, ◌∙◌, subst, arith}
use Rattle.std.specs.List.{All}
use Rattle.std.proofs.lemmas.List.Elements.{All-append, All-cons, All-nil}
use Rattle.std.proofs.lemmas.List.FromFn.{get_or-map-range_with_len, length-map-range_with_len}
use Rattle.base_core.specs.declared.ids.TableId.{TableId}
use Rattle.base_core.specs.declared.refusal.Refusal.{Refusal}
use Rattle.base_core.specs.declared.refusal.Refusal.TheVariants.{Memory}
use Rattle.base_core.specs.declared.value.Value.{Value}
use Rattle.schema_core.specs.Catalog.{Catalog, IsTable}
use Rattle.schema_core.specs.DependencyOrder.{table_ids}
use Rattle.keeper_core.specs.Store.{Store}
use Rattle.keeper_core.specs.Programs.{Run, each, ends_early}
use Rattle.keeper_core.specs.Moment.{Moment, Reaches, Runs, parts}
use Rattle.keeper_core.specs.Beside.{no_note, on_store}
use Rattle.keeper_core.proofs.Lifting.{on_keeper}
use Rattle.keeper_core.proofs.Sequence.{each_end, each_err, each_turn, reaches_start}
use Rattle.keeper_core.specs.Calls as call
use Rattle.keeper_core.specs.Keeping.{IsScan}
use Rattle.session_parts.specs.Depths.{HasDepth, StaysAt}
use Rattle.session_scopes.specs.SessionState.{IsInStep, SessionState}
use Rattle.session_calls.specs.Calling.{IsSessionCall}
use Rattle.session_calls.proofs.Joining.{chosen_call, goes_itself}
use Rattle.session_tables.specs.Dump.{Filled, scan_each, scan_tables, with_filled}

-- ---- the tables by number

table_at : (schema : Catalog) (i : ℕ) (table : TableId) → i < length schema.tables → table.0 ≡ i → table ≡ get_or (table_ids schema) i table
table_at schema i table h is = ap (λ (number : ℕ). record { 0 = number }) is ∙ sym (get_or-map-range_with_len (λ (number : ℕ). record { 0 = number }) 0 (length schema.tables) i i table h (omega arith))

within : (schema : Catalog) (i : ℕ) → i < length schema.tables → i < length (table_ids schema)
within schema i h = rw length-map-range_with_len h

ended : (schema : Catalog) (i : ℕ) → length schema.tables ≤ i → length (table_ids schema) ≤ i
ended schema i h = rw length-map-range_with_len h

-- one turn of a loop over the tables by number
pub table_turn : {W C X S : Type 0} {tell : S → Moment W} {v : X → C} {whole : W → Run W C} {s : C} (step : TableId → C → W → Run W C) (schema : Catalog) (i : ℕ) {table : TableId} {old mid new : S} {t : X} {u : C}
    → Reaches tell whole old (each step s (drop i (table_ids schema))) mid → i < length schema.tables → table.0 ≡ i → Runs tell v (step table s) mid (Ok t) new → u ≡ v t
    → Reaches tell whole old (each step u (drop (i + 1) (table_ids schema))) new
table_turn step schema i {table = table} p h is q same = each_turn step (table_ids schema) i p (within schema i h) (table_at schema i table h is) q same

pub table_err : {W C X Y S : Type 0} {tell : S → Moment W} {v : X → C} {v' : Y → C} {whole : W → Run W C} {s : C} (step : TableId → C → W → Run W C) (schema : Catalog) (i : ℕ) {table : TableId} {old mid new : S} {e : Refusal}
    → Reaches tell whole old (each step s (drop i (table_ids schema))) mid → i < length schema.tables → table.0 ≡ i → Runs tell v (step table s) mid (Err e) new → Runs tell v' whole old (Err e) new
table_err step schema i {table = table} p h is q = each_err step (table_ids schema) i p (within schema i h) (table_at schema i table h is) q

pub table_end : {W C X S : Type 0} {tell : S → Moment W} {v : X → C} {whole : W → Run W C} {s : C} (step : TableId → C → W → Run W C) (schema : Catalog) (i : ℕ) {old mid : S} {x : X}
    → Reaches tell whole old (each step s (drop i (table_ids schema))) mid → length schema.tables ≤ i → s ≡ v x → Runs tell v whole old (Ok x) mid
table_end step schema i p h same = each_end step (table_ids schema) i p (ended schema i h) same

pub none_filled : (schema : Catalog) (tables : Filled) → tables ≡ [] → All (λ table. IsTable schema table.0) tables
none_filled schema tables is = rw is (All-nil (λ table. IsTable schema table.0))

-- the keeper has as many scopes open as before
pub deep_more : {W : Type 0} (depth : ℕ) (mid new : Moment W) → HasDepth depth mid → HasDepth mid.depth new → HasDepth depth new
deep_more depth mid new was is = (is.0, is.1 ∙ was.1)

pub ruleset tables = (table_turn, table_err, table_end, reaches_start, none_filled, deep_more)

-- ---- one table

-- the tables are declared, and so is one more
one_more : (schema : Catalog) (table : TableId) (before : Filled) (rows : Option (List (List Value))) → IsTable schema table → All (λ other. IsTable schema other.0) before → All (λ other. IsTable schema other.0) (with_filled before table rows)
one_more schema table before None declared all = all
one_more schema table before (Some rows) declared all =
    All-append (λ other. IsTable schema other.0) before ((table, rows) ∷ []) all (All-cons (λ other. IsTable schema other.0) (table, rows) [] declared (All-nil (λ other. IsTable schema other.0)))

pub filled_declared : (schema : Catalog) (table : TableId) (before : Filled) (rows : Option (List (List Value))) (r : Result Filled Refusal) → IfOk r (λ more. more ≡ with_filled before table rows) → IsTable schema table → All (λ other. IsTable schema other.0) before
    → IfOk r (All (λ other. IsTable schema other.0))
filled_declared schema table before rows (Ok more) is declared all = subst (All (λ other. IsTable schema other.0)) (sym is) (one_more schema table before rows declared all)
filled_declared schema table before rows (Err e) is declared all = tt

-- the keeper has its scopes open still
pub scanned_deep : {K X : Type 0} (moment : K → Moment Store) (table : TableId) (old new : K) (rows : Option (List (List Value))) (r : Result X Refusal) → (moment old).attached ≡ true → IsScan moment table old (Ok rows) new → OnOk r (HasDepth (moment old).depth (moment new))
scanned_deep moment table old new rows (Ok x) attached p = ((parts p.step).keeps.attached ∙ attached, p.depth)
scanned_deep moment table old new rows (Err e) attached p = tt

pub memory_stops : {X : Type 0} (r : Result X Refusal) → IfErr r (λ e. e ≡ Memory) → IfErr r (λ e. ends_early e ≡ true)
memory_stops (Ok x) cause = tt
memory_stops (Err e) cause = ap ends_early cause

pub ruleset filling = (filled_declared, scanned_deep, memory_stops)

-- ---- the tables of a session

stays : {W : Type 0} (r : Result Filled Refusal) (depth : ℕ) (moment : Moment W) → OnOk r (HasDepth depth moment) → IfErr r (λ e. ends_early e ≡ true) → StaysAt r depth moment
stays (Ok x) depth moment deep early = deep
stays (Err e) depth moment deep early = λ own. absurd (let h : false ≡ true = sym own ∙ early in cc)

-- they are those of its mapping, as the keeper has them
pub scans_all : {K : Type 0} (moment : K → Moment Store) (schema : Catalog) (own : SessionState) {old new : K} {r : Result Filled Refusal} → schema ≡ own.mapping.schema → IsInStep own (moment old) → Runs moment (λ tables. tables) (scan_each schema) old r new
    → OnOk r (HasDepth (moment old).depth (moment new)) → IfErr r (λ e. ends_early e ≡ true) → IsSessionCall moment (λ tables. tables) scan_tables (own, old) r (own, new)
unfolding scan_tables
scans_all moment schema own {old = old} {new = new} {r = r} tables in_step p deep early =
    chosen_call moment (λ session. on_store no_note (scan_each session.mapping.schema))
    (record {
      step = on_keeper (subst (λ (s : Catalog). Runs moment (λ (filled : Filled). filled) (scan_each s) old r new) tables p);
      kept = record { same = goes_itself own; in_step = subst (λ (d : ℕ). StaysAt r d (moment new)) in_step.1 (stays r (moment old).depth (moment new) deep early) };
    })
