-- The selects of batches, and the programs that read them.
use Rattle.std.proofs.Common.{◌≡◌, ℕ, ◌<◌, ◌==◌, true, false, List, [], ◌∷◌, length, Result, Ok, Err, IfOk, refl, sym, ap, subst, ◌∙◌, arith}
use Rattle.std.specs.List.{All, AllByRecursion}
use Rattle.std.proofs.lemmas.Bool.{eqb-true}
use Rattle.std.proofs.lemmas.List.{length-map}
use Rattle.std.proofs.lemmas.List.Elements.{All-from_recursion, recursion_from_All}
use Rattle.base_core.specs.declared.ids.ObjId.{ObjId}
use Rattle.base_core.specs.declared.ids.RelNo.{RelNo}
use Rattle.base_core.specs.declared.value.Value.{Value}
use Rattle.base_core.specs.declared.refusal.Refusal.{Refusal}
use Rattle.schema_core.specs.WellFormed.{is_key}
use Rattle.expr_types.specs.declared.select.Select.{Select}
use Rattle.sql_semantics.specs.Plain.{IsPlainSelect}
use Rattle.sql_semantics.specs.Shapes.{AreGiven, AreOfItems}
use Rattle.class_types.specs.declared.mapped.Relation.{Relation}
use Rattle.class_mapping.specs.Mapped.{Mapped, root_spec}
use Rattle.class_mapping.specs.Related.{IsRelated}
use Rattle.mapping_laws.specs.Hierarchies.{HasHierarchies}
use Rattle.object_arena.specs.Graph.{Graph}
use Rattle.keeper_core.specs.Alone.{alone}
use Rattle.keeper_core.specs.Beside.{moment_beside, on_own}
use Rattle.keeper_core.specs.Moment.{Moment, Reaches, Runs}
use Rattle.keeper_core.specs.Programs.{Run, each}
use Rattle.keeper_core.specs.Store.{Store}
use Rattle.keeper_core.proofs.AloneLemmas.{beside_alone}
use Rattle.keeper_core.proofs.Lifting.{chosen}
use Rattle.keeper_core.proofs.Sequence.{done, reaches_start, then_err, then_ok}
use Rattle.keeper_core.specs.declared.notes.Note.{Note}
use Rattle.collection_selects.specs.Collections.{batch_select}
use Rattle.load_rows.specs.Loading.{Loading, loading}
use Rattle.collection_selects.specs.Pairs.{IsMemberRow}
use Rattle.collection_selects.proofs.Pairs.Plainness.{batch_is_plain}
use Rattle.collection_selects.proofs.Pairs.Rows.{batch_rows_are_members}
use Rattle.load_calls.specs.Reading.{World, read}
use Rattle.load_batches.specs.Batches.{IsKeyed, batch_at, batch_starts, fill_batch, fill_owners, filled_by_batch, keys_of, load_batch, load_batches, load_each, load_from, load_members, read_batch, take_members, unloaded_owners}
use Rattle.load_batches.specs.declared.members.Member.{Member}
use Rattle.load_batches.specs.declared.owners.Owner.{Owner}

abbrev Rows : Type 0
Rows = List (List Value)

-- ---- the select of a batch

keys_all : (mapped : Mapped) (relation : Relation) (owners : List Owner) → AllByRecursion (IsKeyed mapped relation) owners → AllByRecursion (λ (key : List Value). is_key (root_spec mapped relation.class) key ≡ true) (keys_of owners)
keys_all mapped relation [] h = tt
keys_all mapped relation (owner ∷ owners) h = (h.0, keys_all mapped relation owners h.1)

-- it is plain
pub batch_plain : {E : Type 0} (mapped : Mapped) (relation : Relation) (owners : List Owner) (r : Result Select E) → HasHierarchies mapped → IsRelated mapped relation → relation.many ≡ true → 0 < length owners
    → All (IsKeyed mapped relation) owners → IfOk r (λ s. s ≡ batch_select mapped relation (keys_of owners)) → IfOk r (IsPlainSelect mapped.schema)
batch_plain mapped relation owners (Ok s) has related many some keyed is =
    let long : length (keys_of owners) ≡ length owners = length-map owners (λ (owner : Owner). owner.key) in
    let every : List Value → Type 0 = λ key. is_key (root_spec mapped relation.class) key ≡ true in
    subst (IsPlainSelect mapped.schema) (sym is)
    (batch_is_plain mapped relation (keys_of owners) has related many (subst (λ (n : ℕ). 0 < n) (sym long) some)
    (All-from_recursion every (keys_of owners) (keys_all mapped relation owners (recursion_from_All (IsKeyed mapped relation) owners keyed))))
batch_plain mapped relation owners (Err e) has related many some keyed is = tt

pub named_select : {E : Type 0} (mapped : Mapped) (relation : Relation) (owners : List Owner) (keys shown : Rows) (r : Result Select E) → keys ≡ keys_of owners → shown ≡ keys → IfOk r (λ s. s ≡ batch_select mapped relation shown)
    → IfOk r (λ s. s ≡ batch_select mapped relation (keys_of owners))
named_select mapped relation owners keys shown (Ok s) named seen is = is ∙ ap (batch_select mapped relation) (seen ∙ named)
named_select mapped relation owners keys shown (Err e) named seen is = tt

-- what is answered to it are the rows of members
pub batch_rows : (mapped : Mapped) (relation : Relation) (owners : List Owner) (select : Select) (r : Result Rows Refusal) → HasHierarchies mapped → IsRelated mapped relation → select ≡ batch_select mapped relation (keys_of owners)
    → IfOk r (λ rows. AreOfItems mapped.schema select rows) → IfOk r (λ rows. AreGiven mapped.schema select rows) → IfOk r (AllByRecursion (IsMemberRow mapped relation))
batch_rows mapped relation owners select (Ok rows) has related is kinds given =
    batch_rows_are_members mapped relation (keys_of owners) rows has related (subst (λ (s : Select). AreOfItems mapped.schema s rows) is kinds) (subst (λ (s : Select). AreGiven mapped.schema s rows) is given)
batch_rows mapped relation owners select (Err e) has related is kinds given = tt

-- the select of a batch was sent
pub batch_read : {K : Type 0} (moment : K → Moment Store) (mapped : Mapped) (relation : Relation) (owners : List Owner) (graph : Graph) (select : Select) {before after : List Note} {old new : K} {r : Result Rows Refusal}
    → select ≡ batch_select mapped relation (keys_of owners)
    → Runs (moment_beside moment) (λ (rows : Rows). rows) (read mapped.schema select) (loading graph before, old) r (loading graph after, new)
    → Runs (moment_beside moment) (λ (rows : Rows). rows) (read_batch mapped relation owners) (loading graph before, old) r (loading graph after, new)
unfolding read_batch
batch_read moment mapped relation owners graph select {before = before} {after = after} {old = old} {new = new} {r = r} is p =
    subst (λ (s : Select). Runs (moment_beside moment) (λ (rows : Rows). rows) (read mapped.schema s) (loading graph before, old) r (loading graph after, new)) is p

-- ---- a batch

pub none_there : {A : Type 0} (owners : List A) → true ≡ (length owners == 0) → owners ≡ []
none_there [] h = refl
none_there (first ∷ more) h = let long = eqb-true (length (first ∷ more)) 0 (sym h) in absurd (omega (arith, long))

pub some_there : {A : Type 0} (owners : List A) → false ≡ (length owners == 0) → 0 < length owners
some_there [] h = let never : false ≡ true = h in absurd cc
some_there (first ∷ more) h = omega arith

batch_is : (mapped : Mapped) (relation : Relation) (place : RelNo) (owners : List Owner) → 0 < length owners → filled_by_batch mapped relation place owners ≡ load_batch mapped relation place owners
unfolding load_batch
batch_is mapped relation place [] some = absurd (omega (arith, some))
batch_is mapped relation place (first ∷ more) some = refl

nothing : {K : Type 0} (moment : K → Moment Store) (mapped : Mapped) (relation : Relation) (place : RelNo) {own : Loading} {keeper : K} → Runs (moment_beside moment) (λ (u : Unit {0}). u) (load_batch mapped relation place []) (own, keeper) (Ok tt) (own, keeper)
unfolding load_batch
nothing moment mapped relation place = done refl

-- a batch of no owner
pub no_batch : {K : Type 0} (moment : K → Moment Store) (mapped : Mapped) (relation : Relation) (place : RelNo) (owners : List Owner) {own : Loading} {keeper : K} → owners ≡ []
    → Runs (moment_beside moment) (λ (u : Unit {0}). u) (load_batch mapped relation place owners) (own, keeper) (Ok tt) (own, keeper)
no_batch moment mapped relation place owners {own = own} {keeper = keeper} none =
    subst (λ (xs : List Owner). Runs (moment_beside moment) (λ (u : Unit {0}). u) (load_batch mapped relation place xs) (own, keeper) (Ok tt) (own, keeper)) (sym none) (nothing moment mapped relation place)

batch_by_all : {K : Type 0} (moment : K → Moment Store) (mapped : Mapped) (relation : Relation) (place : RelNo) (owners : List Owner) {own now : Loading} {old new : K} {r : Result (Unit {0}) Refusal} → 0 < length owners
    → Runs (moment_beside moment) (λ (u : Unit {0}). u) (filled_by_batch mapped relation place owners) (own, old) r (now, new)
    → Runs (moment_beside moment) (λ (u : Unit {0}). u) (load_batch mapped relation place owners) (own, old) r (now, new)
batch_by_all moment mapped relation place owners {own = own} {now = now} {old = old} {new = new} {r = r} some p =
    subst (λ (m : World → Run World (Unit {0})). Runs (moment_beside moment) (λ (u : Unit {0}). u) m (own, old) r (now, new)) (batch_is mapped relation place owners some) p

-- its select was refused
pub batch_refused : {K : Type 0} (moment : K → Moment Store) (mapped : Mapped) (relation : Relation) (place : RelNo) (owners : List Owner) {own now : Loading} {old new : K} (e : Refusal) → 0 < length owners
    → Runs (moment_beside moment) (λ (rows : Rows). rows) (read_batch mapped relation owners) (own, old) (Err e) (now, new)
    → Runs (moment_beside moment) (λ (u : Unit {0}). u) (load_batch mapped relation place owners) (own, old) (Err e) (now, new)
batch_refused moment mapped relation place owners e some p =
    batch_by_all moment mapped relation place owners some (then_err (λ rows. on_own (fill_batch mapped relation place owners rows)) p)

-- a row was refused
pub row_refused : {K : Type 0} (moment : K → Moment Store) (mapped : Mapped) (relation : Relation) (place : RelNo) (owners : List Owner) (rows slice : Rows) {own mid taken : Loading} {old new : K} (e : Refusal) → 0 < length owners → slice ≡ rows
    → Runs (moment_beside moment) (λ (rows : Rows). rows) (read_batch mapped relation owners) (own, old) (Ok rows) (mid, new)
    → Runs alone (λ (members : List Member). members) (take_members mapped relation slice) mid (Err e) taken
    → Runs (moment_beside moment) (λ (u : Unit {0}). u) (load_batch mapped relation place owners) (own, old) (Err e) (taken, new)
row_refused moment mapped relation place owners rows slice {mid = mid} {taken = taken} e some sliced p q =
    batch_by_all moment mapped relation place owners some
    (then_ok (λ rows. on_own (fill_batch mapped relation place owners rows)) p
    (beside_alone moment (then_err (fill_owners place owners) (subst (λ (xs : Rows). Runs alone (λ (members : List Member). members) (take_members mapped relation xs) mid (Err e) taken) sliced q))))

-- its members were taken, and the owners filled
pub batch_filled : {K : Type 0} (moment : K → Moment Store) (mapped : Mapped) (relation : Relation) (place : RelNo) (owners : List Owner) (rows slice : Rows) (members shown : List Member) {own mid taken now : Loading} {old new : K} {r : Result (Unit {0}) Refusal}
    → 0 < length owners → slice ≡ rows → shown ≡ members
    → Runs (moment_beside moment) (λ (rows : Rows). rows) (read_batch mapped relation owners) (own, old) (Ok rows) (mid, new)
    → Runs alone (λ (members : List Member). members) (take_members mapped relation slice) mid (Ok members) taken
    → Runs alone (λ (u : Unit {0}). u) (fill_owners place owners shown) taken r now
    → Runs (moment_beside moment) (λ (u : Unit {0}). u) (load_batch mapped relation place owners) (own, old) r (now, new)
batch_filled moment mapped relation place owners rows slice members shown {mid = mid} {taken = taken} {now = now} {r = r} some sliced seen p q f =
    batch_by_all moment mapped relation place owners some
    (then_ok (λ rows. on_own (fill_batch mapped relation place owners rows)) p
    (beside_alone moment (then_ok (fill_owners place owners) (subst (λ (xs : Rows). Runs alone (λ (members : List Member). members) (take_members mapped relation xs) mid (Ok members) taken) sliced q)
    (subst (λ (xs : List Member). Runs alone (λ (u : Unit {0}). u) (fill_owners place owners xs) taken r now) seen f))))

-- ---- all batches

pub batches_start : {K : Type 0} (moment : K → Moment Store) (mapped : Mapped) (relation : Relation) (place : RelNo) (owners : List Owner) (starts : List ℕ) (own : Loading) (keeper : K)
    → Reaches (moment_beside moment) (load_each mapped relation place owners starts) (own, keeper) (each (load_from mapped relation place owners) tt starts) (own, keeper)
unfolding load_each
batches_start moment mapped relation place owners starts own keeper = reaches_start

-- all of them were read, from these places on
pub batches_read : {K : Type 0} (moment : K → Moment Store) (mapped : Mapped) (relation : Relation) (place : RelNo) (owners : List Owner) (starts shown : List ℕ) {own now : Loading} {old new : K} {r : Result (Unit {0}) Refusal}
    → starts ≡ batch_starts (length owners) → shown ≡ starts
    → Runs (moment_beside moment) (λ (u : Unit {0}). u) (load_each mapped relation place owners shown) (own, old) r (now, new)
    → Runs (moment_beside moment) (λ (u : Unit {0}). u) (load_batches mapped relation place owners) (own, old) r (now, new)
batches_read moment mapped relation place owners starts shown {own = own} {now = now} {old = old} {new = new} {r = r} is seen p =
    subst (λ (xs : List ℕ). Runs (moment_beside moment) (λ (u : Unit {0}). u) (load_each mapped relation place owners xs) (own, old) r (now, new)) (seen ∙ is) p

-- one of them was read
pub batch_run : {K : Type 0} (moment : K → Moment Store) (mapped : Mapped) (relation : Relation) (place : RelNo) (owners batch : List Owner) (start : ℕ) {own now : Loading} {old new : K} {r : Result (Unit {0}) Refusal} → batch ≡ batch_at owners start
    → Runs (moment_beside moment) (λ (u : Unit {0}). u) (load_batch mapped relation place batch) (own, old) r (now, new)
    → Runs (moment_beside moment) (λ (u : Unit {0}). u) (load_from mapped relation place owners start tt) (own, old) r (now, new)
batch_run moment mapped relation place owners batch start {own = own} {now = now} {old = old} {new = new} {r = r} is p =
    subst (λ (xs : List Owner). Runs (moment_beside moment) (λ (u : Unit {0}). u) (load_batch mapped relation place xs) (own, old) r (now, new)) is p

-- the batches of the unloaded owners were read
pub members_loaded : {K : Type 0} (moment : K → Moment Store) (mapped : Mapped) (relation : Relation) (place : RelNo) (objects : List ObjId) (graph : Graph) (owners shown : List Owner) {before : List Note} {now : Loading} {old new : K} {r : Result (Unit {0}) Refusal}
    → owners ≡ unloaded_owners graph place objects → shown ≡ owners
    → Runs (moment_beside moment) (λ (u : Unit {0}). u) (load_batches mapped relation place shown) (loading graph before, old) r (now, new)
    → Runs (moment_beside moment) (λ (u : Unit {0}). u) (load_members mapped relation place objects) (loading graph before, old) r (now, new)
unfolding load_members
members_loaded moment mapped relation place objects graph owners shown {before = before} {now = now} {old = old} {new = new} {r = r} is seen p =
    chosen moment (λ own. load_batches mapped relation place (unloaded_owners own.graph place objects))
    (subst (λ (xs : List Owner). Runs (moment_beside moment) (λ (u : Unit {0}). u) (load_batches mapped relation place xs) (loading graph before, old) r (now, new)) (seen ∙ is) p)
