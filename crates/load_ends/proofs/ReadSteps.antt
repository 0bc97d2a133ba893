-- The selects of targets, and the programs that read them.
use Rattle.std.proofs.Common.{◌≡◌, ℕ, ◌<◌, List, [], ◌∷◌, length, Result, Ok, Err, IfOk, refl, sym, subst, ◌∙◌, arith}
use Rattle.std.specs.List.{All, AllByRecursion}
use Rattle.base_core.specs.declared.ids.ClassId.{ClassId}
use Rattle.base_core.specs.declared.ids.ObjId.{ObjId}
use Rattle.base_core.specs.declared.ids.RelNo.{RelNo}
use Rattle.base_core.specs.declared.value.Value.{Value}
use Rattle.base_core.specs.declared.refusal.Refusal.{Refusal}
use Rattle.expr_types.specs.declared.select.Select.{Select}
use Rattle.sql_semantics.specs.Plain.{IsPlainSelect}
use Rattle.sql_semantics.specs.Shapes.{AreGiven, AreOfItems}
use Rattle.class_types.specs.declared.mapped.Relation.{Relation}
use Rattle.class_mapping.specs.Mapped.{IsClass, Mapped}
use Rattle.mapping_laws.specs.Hierarchies.{HasHierarchies}
use Rattle.mapping_laws.proofs.Ties.{class_tables}
use Rattle.object_arena.specs.Graph.{Graph}
use Rattle.keeper_core.specs.Alone.{alone}
use Rattle.keeper_core.specs.Beside.{moment_beside, on_own}
use Rattle.keeper_core.specs.Moment.{Moment, Reaches, Runs}
use Rattle.keeper_core.specs.Programs.{Run, each, give}
use Rattle.keeper_core.specs.Store.{Store}
use Rattle.keeper_core.proofs.AloneLemmas.{beside_alone}
use Rattle.keeper_core.proofs.Lifting.{chosen}
use Rattle.keeper_core.proofs.Sequence.{done, reaches_start, then_err, then_ok}
use Rattle.keeper_core.specs.declared.notes.Note.{Note}
use Rattle.load_columns.specs.Conditions.{has_one_of}
use Rattle.load_columns.specs.Placing.{from_root, root_key}
use Rattle.load_selects.specs.Selects.{targets_select}
use Rattle.collection_selects.proofs.ClassLemmas.{targets_are_plain}
use Rattle.mapping_laws.proofs.KeyKinds.{keys_alike}
use Rattle.collection_selects.proofs.Rows.{are_rows}
use Rattle.load_rows.specs.Loading.{Loading, loading}
use Rattle.load_rows.specs.Reading.{IsRowOf}
use Rattle.load_calls.specs.Reading.{World, read}
use Rattle.load_calls.specs.Collections.{take_rows}
use Rattle.load_batches.specs.Batches.{batch_at, batch_starts}
use Rattle.load_ends.specs.Ends.{FitsClass, fill_owners, load_all, load_each, load_ends, load_from, load_keys, load_unloaded, read_keys, take_targets, unloaded, wanted_keys}

abbrev Rows : Type 0
Rows = List (List Value)

-- ---- the select of keys

-- it is plain
pub keys_plain : (mapped : Mapped) (class : ClassId) (keys : Rows) (select : Select) → HasHierarchies mapped → IsClass mapped class → 0 < length keys → All (FitsClass mapped class) keys → select ≡ targets_select mapped class keys
    → IsPlainSelect mapped.schema select
keys_plain mapped class keys select has less some fits made =
    subst (IsPlainSelect mapped.schema) (sym made)
    (targets_are_plain mapped class keys has less some (λ i d within. sym (keys_alike mapped class _ has (class_tables mapped class has less)) ∙ fits i d within))

-- what is answered to it are rows of the class
pub keys_rows : (mapped : Mapped) (class : ClassId) (keys : Rows) (select : Select) (r : Result Rows Refusal) → HasHierarchies mapped → IsClass mapped class → select ≡ targets_select mapped class keys
    → IfOk r (λ rows. AreOfItems mapped.schema select rows) → IfOk r (λ rows. AreGiven mapped.schema select rows) → IfOk r (AllByRecursion (IsRowOf mapped class))
unfolding targets_select
keys_rows mapped class keys select (Ok rows) has less is kinds given =
    are_rows mapped class (has_one_of (root_key mapped class (from_root 0)) keys) rows has less
    (subst (λ (s : Select). AreOfItems mapped.schema s rows) is kinds) (subst (λ (s : Select). AreGiven mapped.schema s rows) is given)
keys_rows mapped class keys select (Err e) has less is kinds given = tt

-- it was sent
pub keys_read : {K : Type 0} (moment : K → Moment Store) (mapped : Mapped) (class : ClassId) (keys : Rows) (graph : Graph) (select : Select) {before after : List Note} {old new : K} {r : Result Rows Refusal} → select ≡ targets_select mapped class keys
    → Runs (moment_beside moment) (λ (rows : Rows). rows) (read mapped.schema select) (loading graph before, old) r (loading graph after, new)
    → Runs (moment_beside moment) (λ (rows : Rows). rows) (read mapped.schema (targets_select mapped class keys)) (loading graph before, old) r (loading graph after, new)
keys_read moment mapped class keys graph select {before = before} {after = after} {old = old} {new = new} {r = r} is p =
    subst (λ (s : Select). Runs (moment_beside moment) (λ (rows : Rows). rows) (read mapped.schema s) (loading graph before, old) r (loading graph after, new)) is p

-- ---- the objects under keys

keys_is : (mapped : Mapped) (class : ClassId) (keys : Rows) → 0 < length keys → read_keys mapped class keys ≡ load_keys mapped class keys
unfolding load_keys
keys_is mapped class [] some = absurd (omega (arith, some))
keys_is mapped class (key ∷ keys) some = refl

nothing : {K : Type 0} (moment : K → Moment Store) (mapped : Mapped) (class : ClassId) {own : Loading} {keeper : K} → Runs (moment_beside moment) (λ (u : Unit {0}). u) (load_keys mapped class []) (own, keeper) (Ok tt) (own, keeper)
unfolding load_keys
nothing moment mapped class = done refl

-- there is no key
pub no_keys : {K : Type 0} (moment : K → Moment Store) (mapped : Mapped) (class : ClassId) (keys : Rows) {own : Loading} {keeper : K} → keys ≡ []
    → Runs (moment_beside moment) (λ (u : Unit {0}). u) (load_keys mapped class keys) (own, keeper) (Ok tt) (own, keeper)
no_keys moment mapped class keys {own = own} {keeper = keeper} none =
    subst (λ (xs : Rows). Runs (moment_beside moment) (λ (u : Unit {0}). u) (load_keys mapped class xs) (own, keeper) (Ok tt) (own, keeper)) (sym none) (nothing moment mapped class)

keys_by : {K : Type 0} (moment : K → Moment Store) (mapped : Mapped) (class : ClassId) (keys : Rows) {own now : Loading} {old new : K} {r : Result (Unit {0}) Refusal} → 0 < length keys
    → Runs (moment_beside moment) (λ (u : Unit {0}). u) (read_keys mapped class keys) (own, old) r (now, new)
    → Runs (moment_beside moment) (λ (u : Unit {0}). u) (load_keys mapped class keys) (own, old) r (now, new)
keys_by moment mapped class keys {own = own} {now = now} {old = old} {new = new} {r = r} some p =
    subst (λ (m : World → Run World (Unit {0})). Runs (moment_beside moment) (λ (u : Unit {0}). u) m (own, old) r (now, new)) (keys_is mapped class keys some) p

-- the select was refused
pub keys_refused : {K : Type 0} (moment : K → Moment Store) (mapped : Mapped) (class : ClassId) (keys : Rows) {own now : Loading} {old new : K} (e : Refusal) → 0 < length keys
    → Runs (moment_beside moment) (λ (rows : Rows). rows) (read mapped.schema (targets_select mapped class keys)) (own, old) (Err e) (now, new)
    → Runs (moment_beside moment) (λ (u : Unit {0}). u) (load_keys mapped class keys) (own, old) (Err e) (now, new)
keys_refused moment mapped class keys e some p = keys_by moment mapped class keys some (then_err (λ rows. on_own (take_targets mapped class rows)) p)

-- its rows were taken, or one was refused
pub keys_loaded : {K : Type 0} (moment : K → Moment Store) (mapped : Mapped) (class : ClassId) (keys rows slice : Rows) {own mid now : Loading} {old new : K} {r : Result (Unit {0}) Refusal} → 0 < length keys → slice ≡ rows
    → Runs (moment_beside moment) (λ (rows : Rows). rows) (read mapped.schema (targets_select mapped class keys)) (own, old) (Ok rows) (mid, new)
    → Runs alone (λ (u : Unit {0}). u) (take_targets mapped class slice) mid r now
    → Runs (moment_beside moment) (λ (u : Unit {0}). u) (load_keys mapped class keys) (own, old) r (now, new)
keys_loaded moment mapped class keys rows slice {mid = mid} {now = now} {r = r} some sliced p q =
    keys_by moment mapped class keys some
    (then_ok (λ rows. on_own (take_targets mapped class rows)) p
    (beside_alone moment (subst (λ (xs : Rows). Runs alone (λ (u : Unit {0}). u) (take_targets mapped class xs) mid r now) sliced q)))

pub targets_taken : (mapped : Mapped) (class : ClassId) (rows : Rows) (objects : List ObjId) (own now : Loading) → Runs alone (λ (xs : List ObjId). xs) (take_rows mapped class rows) own (Ok objects) now
    → Runs alone (λ (u : Unit {0}). u) (take_targets mapped class rows) own (Ok tt) now
targets_taken mapped class rows objects own now p = then_ok (λ _. give tt) p (done refl)

pub targets_refused : (mapped : Mapped) (class : ClassId) (rows : Rows) (own now : Loading) (e : Refusal) → Runs alone (λ (xs : List ObjId). xs) (take_rows mapped class rows) own (Err e) now
    → Runs alone (λ (u : Unit {0}). u) (take_targets mapped class rows) own (Err e) now
targets_refused mapped class rows own now e p = then_err (λ _. give tt) p

-- ---- all batches

pub batches_start : {K : Type 0} (moment : K → Moment Store) (mapped : Mapped) (class : ClassId) (keys : Rows) (starts : List ℕ) (own : Loading) (keeper : K)
    → Reaches (moment_beside moment) (load_each mapped class keys starts) (own, keeper) (each (load_from mapped class keys) tt starts) (own, keeper)
unfolding load_each
batches_start moment mapped class keys starts own keeper = reaches_start

-- one of them was read
pub batch_run : {K : Type 0} (moment : K → Moment Store) (mapped : Mapped) (class : ClassId) (keys batch : Rows) (start : ℕ) {own now : Loading} {old new : K} {r : Result (Unit {0}) Refusal} → batch ≡ batch_at keys start
    → Runs (moment_beside moment) (λ (u : Unit {0}). u) (load_keys mapped class batch) (own, old) r (now, new)
    → Runs (moment_beside moment) (λ (u : Unit {0}). u) (load_from mapped class keys start tt) (own, old) r (now, new)
batch_run moment mapped class keys batch start {own = own} {now = now} {old = old} {new = new} {r = r} is p =
    subst (λ (xs : Rows). Runs (moment_beside moment) (λ (u : Unit {0}). u) (load_keys mapped class xs) (own, old) r (now, new)) is p

-- all of them were read, from these places on
pub batches_read : {K : Type 0} (moment : K → Moment Store) (mapped : Mapped) (class : ClassId) (keys : Rows) (starts shown : List ℕ) {own now : Loading} {old new : K} {r : Result (Unit {0}) Refusal} → starts ≡ batch_starts (length keys) → shown ≡ starts
    → Runs (moment_beside moment) (λ (u : Unit {0}). u) (load_each mapped class keys shown) (own, old) r (now, new)
    → Runs (moment_beside moment) (λ (u : Unit {0}). u) (load_all mapped class keys) (own, old) r (now, new)
batches_read moment mapped class keys starts shown {own = own} {now = now} {old = old} {new = new} {r = r} is seen p =
    subst (λ (xs : List ℕ). Runs (moment_beside moment) (λ (u : Unit {0}). u) (load_each mapped class keys xs) (own, old) r (now, new)) (seen ∙ is) p

-- ---- the links

-- the targets were read, and the links filled
pub links_filled : {K : Type 0} (moment : K → Moment Store) (mapped : Mapped) (relation : Relation) (place : RelNo) (graph : Graph) (owners : List ObjId) (keys shown : Rows) {own mid now : Loading} {old new : K} {r : Result (Unit {0}) Refusal}
    → keys ≡ wanted_keys mapped relation graph owners → shown ≡ keys
    → Runs (moment_beside moment) (λ (u : Unit {0}). u) (load_all mapped relation.target shown) (own, old) (Ok tt) (mid, new)
    → Runs alone (λ (u : Unit {0}). u) (fill_owners mapped relation place owners) mid r now
    → Runs (moment_beside moment) (λ (u : Unit {0}). u) (load_unloaded mapped relation place graph owners) (own, old) r (now, new)
links_filled moment mapped relation place graph owners keys shown {own = own} {mid = mid} {old = old} {new = new} is seen p q =
    then_ok (λ _. on_own (fill_owners mapped relation place owners))
    (subst (λ (xs : Rows). Runs (moment_beside moment) (λ (u : Unit {0}). u) (load_all mapped relation.target xs) (own, old) (Ok tt) (mid, new)) (seen ∙ is) p) (beside_alone moment q)

-- a select or a row was refused
pub links_refused : {K : Type 0} (moment : K → Moment Store) (mapped : Mapped) (relation : Relation) (place : RelNo) (graph : Graph) (owners : List ObjId) (keys shown : Rows) {own now : Loading} {old new : K} (e : Refusal)
    → keys ≡ wanted_keys mapped relation graph owners → shown ≡ keys
    → Runs (moment_beside moment) (λ (u : Unit {0}). u) (load_all mapped relation.target shown) (own, old) (Err e) (now, new)
    → Runs (moment_beside moment) (λ (u : Unit {0}). u) (load_unloaded mapped relation place graph owners) (own, old) (Err e) (now, new)
links_refused moment mapped relation place graph owners keys shown {own = own} {now = now} {old = old} {new = new} e is seen p =
    then_err (λ _. on_own (fill_owners mapped relation place owners))
    (subst (λ (xs : Rows). Runs (moment_beside moment) (λ (u : Unit {0}). u) (load_all mapped relation.target xs) (own, old) (Err e) (now, new)) (seen ∙ is) p)

-- the unloaded owners were asked for
pub ends_loaded : {K : Type 0} (moment : K → Moment Store) (mapped : Mapped) (relation : Relation) (place : RelNo) (objects : List ObjId) (graph : Graph) (owners shown : List ObjId) {before : List Note} {now : Loading} {old new : K} {r : Result (Unit {0}) Refusal}
    → owners ≡ unloaded graph place objects → shown ≡ owners
    → Runs (moment_beside moment) (λ (u : Unit {0}). u) (load_unloaded mapped relation place graph shown) (loading graph before, old) r (now, new)
    → Runs (moment_beside moment) (λ (u : Unit {0}). u) (load_ends mapped relation place objects) (loading graph before, old) r (now, new)
unfolding load_ends
ends_loaded moment mapped relation place objects graph owners shown {before = before} {now = now} {old = old} {new = new} {r = r} is seen p =
    chosen moment (λ own. load_unloaded mapped relation place own.graph (unloaded own.graph place objects))
    (subst (λ (xs : List ObjId). Runs (moment_beside moment) (λ (u : Unit {0}). u) (load_unloaded mapped relation place graph xs) (loading graph before, old) r (now, new)) (seen ∙ is) p)
