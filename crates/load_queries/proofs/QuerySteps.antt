-- The reading of the objects of a query, put together of its parts.
use Rattle.std.proofs.Common.{◌≡◌, List, Result, Ok, Err, IfErr, IfOk, sym, ap, subst, ◌∙◌}
use Rattle.std.specs.List.{AllByRecursion}
use Rattle.base_core.specs.declared.ids.ClassId.{ClassId}
use Rattle.base_core.specs.declared.ids.ObjId.{ObjId}
use Rattle.base_core.specs.declared.value.Value.{Value}
use Rattle.base_core.specs.declared.refusal.Refusal.{Refusal}
use Rattle.base_core.specs.declared.refusal.Refusal.TheVariants.{Memory}
use Rattle.expr_types.specs.declared.select.ObjectQuery.{ObjectQuery}
use Rattle.expr_types.specs.declared.select.Select.{Select}
use Rattle.sql_semantics.specs.Shapes.{AreGiven, AreOfItems}
use Rattle.class_mapping.specs.Mapped.{IsClass, Mapped}
use Rattle.mapping_laws.specs.Hierarchies.{HasHierarchies}
use Rattle.keeper_core.specs.Alone.{alone}
use Rattle.keeper_core.specs.Beside.{moment_beside, on_own}
use Rattle.keeper_core.specs.Moment.{Moment, Runs}
use Rattle.keeper_core.specs.Programs.{give}
use Rattle.keeper_core.specs.Store.{Store}
use Rattle.keeper_core.proofs.AloneLemmas.{beside_alone, lost_alone}
use Rattle.keeper_core.proofs.Sequence.{done, then_err, then_ok}
use Rattle.collection_selects.proofs.Rows.{are_read}
use Rattle.load_rows.specs.Loading.{Loading}
use Rattle.load_rows.specs.Reading.{IsRowOf}
use Rattle.load_calls.specs.Reading.{read}
use Rattle.load_calls.specs.Collections.{take_rows}
use Rattle.load_queries.specs.Queries.{ReadsObjects, firsts, load_select, take_objects}

abbrev Rows : Type 0
Rows = List (List Value)

-- what is answered to a query are rows of its class
pub query_rows : (mapped : Mapped) (class : ClassId) (s : Select) (r : Result Rows Refusal) → HasHierarchies mapped → IsClass mapped class → ReadsObjects mapped class s → IfOk r (λ rows. AreOfItems mapped.schema s rows)
    → IfOk r (λ rows. AreGiven mapped.schema s rows) → IfOk r (AllByRecursion (IsRowOf mapped class))
query_rows mapped class s (Ok rows) has less reads kinds given =
    are_read mapped class s rows has less (record { more = reads.more; items = reads.items; sources = reads.sources }) kinds given
query_rows mapped class s (Err e) has less reads kinds given = tt

-- the objects of the rows were taken, each once
pub objects_taken : (mapped : Mapped) (class : ClassId) (rows : Rows) (objects shown : List ObjId) (own now : Loading) (r : Result (List ObjId) Refusal) → shown ≡ objects
    → Runs alone (λ (xs : List ObjId). xs) (take_rows mapped class rows) own (Ok objects) now → IfOk r (λ kept. kept ≡ firsts shown) → IfErr r (λ e. e ≡ Memory)
    → Runs alone (λ (xs : List ObjId). xs) (take_objects mapped class rows) own r now
objects_taken mapped class rows objects shown own now (Ok kept) seen p is cause = then_ok (λ xs. give (firsts xs)) p (done (sym (is ∙ ap firsts seen)))
objects_taken mapped class rows objects shown own now (Err e) seen p is cause = lost_alone cause

-- a row was refused
pub objects_refused : (mapped : Mapped) (class : ClassId) (rows : Rows) (own now : Loading) (e : Refusal) → Runs alone (λ (xs : List ObjId). xs) (take_rows mapped class rows) own (Err e) now
    → Runs alone (λ (xs : List ObjId). xs) (take_objects mapped class rows) own (Err e) now
objects_refused mapped class rows own now e p = then_err (λ xs. give (firsts xs)) p

-- the rows were read, and their objects taken
pub query_loaded : {K : Type 0} (moment : K → Moment Store) (mapped : Mapped) (query : ObjectQuery) (rows slice : Rows) {own mid now : Loading} {old new : K} {r : Result (List ObjId) Refusal} → slice ≡ rows
    → Runs (moment_beside moment) (λ (rows : Rows). rows) (read mapped.schema query.select) (own, old) (Ok rows) (mid, new)
    → Runs alone (λ (xs : List ObjId). xs) (take_objects mapped query.class slice) mid r now
    → Runs (moment_beside moment) (λ (xs : List ObjId). xs) (load_select mapped query) (own, old) r (now, new)
unfolding load_select
query_loaded moment mapped query rows slice {mid = mid} {now = now} {r = r} sliced p q =
    then_ok (λ rows. on_own (take_objects mapped query.class rows)) p
    (beside_alone moment (subst (λ (xs : Rows). Runs alone (λ (objects : List ObjId). objects) (take_objects mapped query.class xs) mid r now) sliced q))

-- the select was refused
pub query_refused : {K : Type 0} (moment : K → Moment Store) (mapped : Mapped) (query : ObjectQuery) {own now : Loading} {old new : K} {e : Refusal}
    → Runs (moment_beside moment) (λ (rows : Rows). rows) (read mapped.schema query.select) (own, old) (Err e) (now, new)
    → Runs (moment_beside moment) (λ (xs : List ObjId). xs) (load_select mapped query) (own, old) (Err e) (now, new)
unfolding load_select
query_refused moment mapped query p = then_err (λ rows. on_own (take_objects mapped query.class rows)) p
