-- One object by its key: found in the identity map, or read.
use Rattle.std.proofs.Common.{◌≡◌, Bool, true, false, ◌&&◌, ◌==◌, List, [], ◌∷◌, Option, None, Some, Result, Ok, Err, IfOk, if◌then◌else◌, refl, sym, ap, subst, ◌∙◌}
use Rattle.std.specs.Prelude.{slice_get}
use Rattle.std.specs.List.{AllByRecursion}
use Rattle.std.proofs.lemmas.Bool.{and_parts, eqb-true}
use Rattle.std.proofs.lemmas.Option.{same_Some}
use Rattle.base_core.specs.declared.ids.ClassId.{ClassId}
use Rattle.base_core.specs.declared.ids.ObjId.{ObjId}
use Rattle.base_core.specs.declared.value.Value.{Value}
use Rattle.base_core.specs.declared.refusal.Refusal.{Refusal}
use Rattle.schema_core.specs.Tables.{has_null}
use Rattle.expr_types.specs.declared.select.Select.{Select}
use Rattle.sql_semantics.specs.Plain.{IsPlainSelect}
use Rattle.sql_semantics.specs.Shapes.{AreGiven, AreOfItems}
use Rattle.class_mapping.specs.Mapped.{IsClass, Mapped, root_of}
use Rattle.object_arena.specs.Fit.{IsFit, end_fits, key_fits}
use Rattle.object_arena.specs.Graph.{Graph, IsObject, is_persistent, object_at, root_at}
use Rattle.object_arena.specs.Identity.{find_identity, has_key, holds}
use Rattle.relations.specs.Mirror.{is_of}
use Rattle.keeper_core.specs.Alone.{IsQuiet, alone}
use Rattle.keeper_core.specs.Beside.{by_own, moment_beside, on_own}
use Rattle.keeper_core.specs.Moment.{Moment, Runs}
use Rattle.keeper_core.specs.Programs.{Run, ◌>>=◌, give}
use Rattle.keeper_core.specs.Store.{Store}
use Rattle.keeper_core.proofs.AloneLemmas.{beside_alone, quietly_alone}
use Rattle.keeper_core.proofs.Lifting.{chosen}
use Rattle.keeper_core.proofs.Sequence.{done, then_err, then_ok}
use Rattle.keeper_core.specs.declared.notes.Note.{Note}
use Rattle.mapping_laws.specs.Hierarchies.{HasHierarchies}
use Rattle.mapping_laws.proofs.Ties.{class_tables}
use Rattle.load_columns.specs.Conditions.{has_values}
use Rattle.load_columns.specs.Placing.{from_root, root_key}
use Rattle.load_selects.specs.Selects.{key_select}
use Rattle.collection_selects.proofs.ClassLemmas.{key_is_plain}
use Rattle.mapping_laws.proofs.KeyKinds.{keys_alike}
use Rattle.collection_selects.proofs.Rows.{are_rows}
use Rattle.load_rows.specs.Loading.{Loading, loading, take_row}
use Rattle.load_rows.specs.Reading.{IsRowOf}
use Rattle.load_calls.specs.Reading.{World, read}
use Rattle.load_calls.proofs.RowsLemmas.{object_of}
use Rattle.load_targets.specs.Targets.{find_or_load, found_or_load, if_of, load_key, take_first}

abbrev Rows : Type 0
Rows = List (List Value)

abbrev End : Type 0
End = Option ObjId

-- ---- the select of a key

pub key_plain : (mapped : Mapped) (class : ClassId) (key : List Value) (select : Select) → HasHierarchies mapped → IsClass mapped class → key_fits mapped class key ≡ true → select ≡ key_select mapped class key → IsPlainSelect mapped.schema select
key_plain mapped class key select has less fits made =
    subst (IsPlainSelect mapped.schema) (sym made) (key_is_plain mapped class key has less (sym (keys_alike mapped class key has (class_tables mapped class has less)) ∙ fits))

-- what is answered to it are rows of the class
pub key_rows : (mapped : Mapped) (class : ClassId) (key : List Value) (select : Select) (r : Result Rows Refusal) → HasHierarchies mapped → IsClass mapped class → select ≡ key_select mapped class key
    → IfOk r (λ rows. AreOfItems mapped.schema select rows) → IfOk r (λ rows. AreGiven mapped.schema select rows) → IfOk r (AllByRecursion (IsRowOf mapped class))
unfolding key_select
key_rows mapped class key select (Ok rows) has less is kinds given =
    are_rows mapped class (has_values (root_key mapped class (from_root 0)) key) rows has less
    (subst (λ (s : Select). AreOfItems mapped.schema s rows) is kinds) (subst (λ (s : Select). AreGiven mapped.schema s rows) is given)
key_rows mapped class key select (Err e) has less is kinds given = tt

-- ---- the first row

abbrev taken : Mapped → ClassId → List Value → Loading → Run Loading End
taken mapped class row = take_row mapped class row >>= λ object. give (Some object)

first_is : (mapped : Mapped) (class : ClassId) (rows : Rows) (row : List Value) → slice_get rows 0 ≡ Some row → take_first mapped class rows ≡ taken mapped class row
unfolding take_first
first_is mapped class [] row e = absurd cc
first_is mapped class (first ∷ rows) row e = ap (taken mapped class) (same_Some first row e)

pub first_row : (mapped : Mapped) (class : ClassId) (rows : Rows) (row : List Value) → AllByRecursion (IsRowOf mapped class) rows → slice_get rows 0 ≡ Some row → IsRowOf mapped class row
first_row mapped class [] row all e = absurd cc
first_row mapped class (first ∷ rows) row all e = subst (IsRowOf mapped class) (same_Some first row e) all.0

pub first_taken : (mapped : Mapped) (class : ClassId) (rows : Rows) (row : List Value) (own mid : Loading) (object : ObjId) → slice_get rows 0 ≡ Some row → IsQuiet (λ (o : ObjId). o) (take_row mapped class row own) (Ok object) mid
    → Runs alone (λ (end : End). end) (take_first mapped class rows) own (Ok (Some object)) mid
first_taken mapped class rows row own mid object e did =
    subst (λ (m : Loading → Run Loading End). Runs alone (λ (end : End). end) m own (Ok (Some object)) mid) (sym (first_is mapped class rows row e))
    (then_ok (λ (o : ObjId). give (Some o)) (quietly_alone {v = λ (o : ObjId). o} (take_row mapped class row) {r = Ok object} did) (done refl))

pub first_refused : (mapped : Mapped) (class : ClassId) (rows : Rows) (row : List Value) (own mid : Loading) (e : Refusal) → slice_get rows 0 ≡ Some row → IsQuiet {X = ObjId} (λ (o : ObjId). o) (take_row mapped class row own) (Err e) mid
    → Runs alone (λ (end : End). end) (take_first mapped class rows) own (Err e) mid
first_refused mapped class rows row own mid e is did =
    subst (λ (m : Loading → Run Loading End). Runs alone (λ (end : End). end) m own (Err e) mid) (sym (first_is mapped class rows row is))
    (then_err (λ (o : ObjId). give (Some o)) (quietly_alone {v = λ (o : ObjId). o} (take_row mapped class row) {r = Err e} did))

pub none_first : (mapped : Mapped) (class : ClassId) (rows : Rows) (own : Loading) → slice_get rows 0 ≡ None → Runs alone (λ (end : End). end) (take_first mapped class rows) own (Ok None) own
unfolding take_first
none_first mapped class [] own e = done refl
none_first mapped class (row ∷ rows) own e = absurd cc

-- ---- the programs

pub key_loaded : {K : Type 0} (moment : K → Moment Store) (mapped : Mapped) (class : ClassId) (key : List Value) {own mid now : Loading} {old new : K} {rows : Rows} {r : Result End Refusal}
    → Runs (moment_beside moment) (λ (rows : Rows). rows) (read mapped.schema (key_select mapped class key)) (own, old) (Ok rows) (mid, new)
    → Runs alone (λ (end : End). end) (take_first mapped class rows) mid r now
    → Runs (moment_beside moment) (λ (end : End). end) (load_key mapped class key) (own, old) r (now, new)
unfolding load_key
key_loaded moment mapped class key p q = then_ok (λ rows. on_own (take_first mapped class rows)) p (beside_alone moment q)

pub key_refused : {K : Type 0} (moment : K → Moment Store) (mapped : Mapped) (class : ClassId) (key : List Value) {own now : Loading} {old new : K} {e : Refusal}
    → Runs (moment_beside moment) (λ (rows : Rows). rows) (read mapped.schema (key_select mapped class key)) (own, old) (Err e) (now, new)
    → Runs (moment_beside moment) (λ (end : End). end) (load_key mapped class key) (own, old) (Err e) (now, new)
unfolding load_key
key_refused moment mapped class key p = then_err (λ rows. on_own (take_first mapped class rows)) p

abbrev no_end : World → Run World End
no_end = give None

abbrev sought : Mapped → ClassId → List Value → Graph → World → Run World End
sought mapped class key graph = found_or_load mapped class key graph (find_identity graph (root_of mapped class) key)

abbrev asked : Mapped → ClassId → List Value → World → Run World End
asked mapped class key = by_own (λ own. sought mapped class key own.graph)

-- a key with a NULL is that of none
pub null_key : {K : Type 0} (moment : K → Moment Store) (mapped : Mapped) (class : ClassId) (key : List Value) {own : Loading} {keeper : K} → has_null key ≡ true
    → Runs (moment_beside moment) (λ (end : End). end) (find_or_load mapped class key) (own, keeper) (Ok None) (own, keeper)
unfolding find_or_load
null_key moment mapped class key {own = own} {keeper = keeper} null =
    subst (λ (b : Bool). Runs (moment_beside moment) (λ (end : End). end) (if b then no_end else asked mapped class key) (own, keeper) (Ok None) (own, keeper)) (sym null) (done refl)

given_key : {K : Type 0} (moment : K → Moment Store) (mapped : Mapped) (class : ClassId) (key : List Value) (graph : Graph) (found : Option ObjId) {before : List Note} {now : Loading} {old new : K} {r : Result End Refusal} → has_null key ≡ false
    → find_identity graph (root_of mapped class) key ≡ found
    → Runs (moment_beside moment) (λ (end : End). end) (found_or_load mapped class key graph found) (loading graph before, old) r (now, new)
    → Runs (moment_beside moment) (λ (end : End). end) (find_or_load mapped class key) (loading graph before, old) r (now, new)
unfolding find_or_load
given_key moment mapped class key graph found {before = before} {now = now} {old = old} {new = new} {r = r} given is p =
    subst (λ (b : Bool). Runs (moment_beside moment) (λ (end : End). end) (if b then no_end else asked mapped class key) (loading graph before, old) r (now, new)) (sym given)
    (chosen moment (λ own. sought mapped class key own.graph)
    (subst (λ (f : Option ObjId). Runs (moment_beside moment) (λ (end : End). end) (found_or_load mapped class key graph f) (loading graph before, old) r (now, new)) (sym is) p))

-- the identity map has the key
pub known_end : {K : Type 0} (moment : K → Moment Store) (mapped : Mapped) (class : ClassId) (key : List Value) (graph : Graph) (found : ObjId) (end : End) {before : List Note} {keeper : K} → has_null key ≡ false
    → find_identity graph (root_of mapped class) key ≡ Some found → end ≡ if_of graph mapped class found
    → Runs (moment_beside moment) (λ (end : End). end) (find_or_load mapped class key) (loading graph before, keeper) (Ok end) (loading graph before, keeper)
known_end moment mapped class key graph found end given is taken = given_key moment mapped class key graph (Some found) given is (done (sym taken))

-- it lacks the key
pub read_end : {K : Type 0} (moment : K → Moment Store) (mapped : Mapped) (class : ClassId) (key : List Value) (graph : Graph) {before : List Note} {now : Loading} {old new : K} {r : Result End Refusal} → has_null key ≡ false
    → find_identity graph (root_of mapped class) key ≡ None
    → Runs (moment_beside moment) (λ (end : End). end) (load_key mapped class key) (loading graph before, old) r (now, new)
    → Runs (moment_beside moment) (λ (end : End). end) (find_or_load mapped class key) (loading graph before, old) r (now, new)
read_end moment mapped class key graph given is p = given_key moment mapped class key graph None given is p

-- what the identity map has is of the hierarchy
pub known_of : (mapped : Mapped) (graph : Graph) (class : ClassId) (key : List Value) (found : ObjId) → IsFit mapped graph → IsObject graph found → holds (root_of mapped class) key (object_at graph found, root_at graph found) ≡ true
    → end_fits graph.roots (root_of mapped class) (if_of graph mapped class found) ≡ true
known_of mapped graph class key found fit made held = by (is_of graph mapped class found)
  where
    parts : ((root_at graph found).0 == (root_of mapped class).0) && has_key key (object_at graph found).identity ≡ true
    parts = (and_parts (is_persistent (object_at graph found).state) (((root_at graph found).0 == (root_of mapped class).0) && has_key key (object_at graph found).identity) held).1

    by : (b : Bool) → end_fits graph.roots (root_of mapped class) (if b then Some found else None) ≡ true
    by true =
        object_of mapped graph (root_of mapped class) found fit made
        (eqb-true (root_at graph found).0 (root_of mapped class).0 (and_parts ((root_at graph found).0 == (root_of mapped class).0) (has_key key (object_at graph found).identity) parts).0)
    by false = refl
