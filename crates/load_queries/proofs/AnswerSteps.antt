-- The objects of a query with its joined options, put together of the parts of the load.
use Rattle.std.proofs.Common.{◌≡◌, ℕ, ◌<◌, true, List, [], ◌∷◌, length, map, Result, Ok, Err, IfOk, refl, sym, subst, ◌∙◌}
use Rattle.std.specs.List.{All, AllByRecursion}
use Rattle.std.proofs.lemmas.List.Elements.{All-from_recursion, All-map, recursion_from_All}
use Rattle.base_core.specs.declared.ids.ClassId.{ClassId}
use Rattle.base_core.specs.declared.ids.ObjId.{ObjId}
use Rattle.base_core.specs.declared.ids.RelNo.{RelNo}
use Rattle.base_core.specs.declared.value.Value.{Value}
use Rattle.base_core.specs.declared.refusal.Refusal.{Refusal}
use Rattle.expr_types.specs.declared.select.ObjectQuery.{ObjectQuery}
use Rattle.expr_types.specs.declared.select.Select.{Select}
use Rattle.sql_semantics.specs.Shapes.{AreGiven, AreOfItems}
use Rattle.class_mapping.specs.Mapped.{IsClass, Mapped, relations_of, root_of}
use Rattle.class_mapping.specs.Related.{AreRelated}
use Rattle.object_arena.specs.Fit.{is_of_root, no_relation}
use Rattle.object_arena.specs.Graph.{Graph}
use Rattle.keeper_core.specs.Alone.{alone}
use Rattle.keeper_core.specs.Beside.{moment_beside, on_own}
use Rattle.keeper_core.specs.Moment.{Moment, Runs}
use Rattle.keeper_core.specs.Programs.{give}
use Rattle.keeper_core.specs.Store.{Store}
use Rattle.keeper_core.proofs.AloneLemmas.{beside_alone}
use Rattle.keeper_core.proofs.Sequence.{done, then_err, then_ok}
use Rattle.keeper_core.specs.declared.notes.Note.{Note}
use Rattle.load_rows.specs.Loading.{Loading, loading}
use Rattle.main_selects.specs.MainSelect.{main_select}
use Rattle.joined_rows.specs.declared.parts.Part.{Part}
use Rattle.joined_rows.specs.Parts.{part_at, parts_from, parts_of, width_of}
use Rattle.load_calls.specs.Reading.{read}
use Rattle.load_queries.proofs.FirstSteps.{firsts_all}
use Rattle.object_parts.specs.declared.answers.Taken.{Taken}
use Rattle.joined_rows.specs.Taking.{IsJoinedRow, IsTaken, take_joined}
use Rattle.load_queries.specs.Joined.{IsPartOf, answered, fill_owners, fill_taken, load_joined, take_answers}

abbrev Rows : Type 0
Rows = List (List Value)

-- ---- the options

every_part : (mapped : Mapped) (class : ClassId) (first : ℕ) (places : List RelNo) → AllByRecursion (λ (place : RelNo). place.0 < length (relations_of mapped class)) places → AllByRecursion (IsPartOf mapped class) (parts_from mapped class first places)
every_part mapped class first [] h = tt
every_part mapped class first (place ∷ places) h = (record { within = h.0; target = refl }, every_part mapped class (part_at mapped class place first).end places h.1)

every_target : (mapped : Mapped) (class : ClassId) (first : ℕ) (places : List RelNo) → AreRelated mapped → IsClass mapped class → AllByRecursion (λ (place : RelNo). place.0 < length (relations_of mapped class)) places → AllByRecursion (λ part. IsClass mapped part.target) (parts_from mapped class first places)
every_target mapped class first [] related less h = tt
every_target mapped class first (place ∷ places) related less h =
    ((related.each class less place.0 no_relation h.0).target, every_target mapped class (part_at mapped class place first).end places related less h.1)

-- each is that of a relationship
pub parts_told : {E : Type 0} (mapped : Mapped) (class : ClassId) (places : List RelNo) (r : Result (List Part) E) → All (λ (place : RelNo). place.0 < length (relations_of mapped class)) places → IfOk r (λ parts. parts ≡ parts_of mapped class places) → IfOk r (All (IsPartOf mapped class))
unfolding parts_of
parts_told mapped class places (Ok parts) inside are =
    subst (All (IsPartOf mapped class)) (sym are)
    (All-from_recursion (IsPartOf mapped class) (parts_from mapped class (width_of mapped class) places) (every_part mapped class (width_of mapped class) places (recursion_from_All (λ (place : RelNo). place.0 < length (relations_of mapped class)) places inside)))
parts_told mapped class places (Err e) inside are = tt

-- which leads to a class that is declared
pub targets_told : {E : Type 0} (mapped : Mapped) (class : ClassId) (places : List RelNo) (r : Result (List Part) E) → AreRelated mapped → IsClass mapped class → All (λ (place : RelNo). place.0 < length (relations_of mapped class)) places → IfOk r (λ parts. parts ≡ parts_of mapped class places)
    → IfOk r (All (λ part. IsClass mapped part.target))
unfolding parts_of
targets_told mapped class places (Ok parts) related less inside are =
    let declared : Part → Type 0 = λ part. IsClass mapped part.target in
    subst (All declared) (sym are)
    (All-from_recursion declared (parts_from mapped class (width_of mapped class) places) (every_target mapped class (width_of mapped class) places related less (recursion_from_All (λ (place : RelNo). place.0 < length (relations_of mapped class)) places inside)))
targets_told mapped class places (Err e) related less inside are = tt

pub related_told : {A E : Type 0} (mapped : Mapped) (r : Result A E) → AreRelated mapped → IfOk r (λ _. AreRelated mapped)
related_told mapped (Ok x) related = related
related_told mapped (Err e) related = tt

pub seen_parts : {E : Type 0} (mapped : Mapped) (class : ClassId) (places shown : List RelNo) (r : Result (List Part) E) → shown ≡ places → IfOk r (λ parts. parts ≡ parts_of mapped class shown) → IfOk r (λ parts. parts ≡ parts_of mapped class places)
seen_parts mapped class places shown r seen are = subst (λ (xs : List RelNo). IfOk r (λ parts. parts ≡ parts_of mapped class xs)) seen are

-- ---- the rows

-- the main select was sent
pub main_read : {K : Type 0} (moment : K → Moment Store) (mapped : Mapped) (query : ObjectQuery) (wanted : Select) (graph : Graph) {before after : List Note} {old new : K} {r : Result Rows Refusal} → wanted ≡ main_select mapped query
    → Runs (moment_beside moment) (λ (rows : Rows). rows) (read mapped.schema wanted) (loading graph before, old) r (loading graph after, new)
    → Runs (moment_beside moment) (λ (rows : Rows). rows) (read mapped.schema (main_select mapped query)) (loading graph before, old) r (loading graph after, new)
main_read moment mapped query wanted graph {before = before} {after = after} {old = old} {new = new} {r = r} is p =
    subst (λ (s : Select). Runs (moment_beside moment) (λ (rows : Rows). rows) (read mapped.schema s) (loading graph before, old) r (loading graph after, new)) is p

-- what was answered has the parts of the options
pub rows_told : (mapped : Mapped) (query : ObjectQuery) (wanted : Select) (r : Result Rows Refusal) → wanted ≡ main_select mapped query
    → ((rows : Rows) → AreOfItems mapped.schema (main_select mapped query) rows → AreGiven mapped.schema (main_select mapped query) rows → AllByRecursion (IsJoinedRow mapped query.class (parts_of mapped query.class query.joined)) rows)
    → IfOk r (λ rows. AreOfItems mapped.schema wanted rows) → IfOk r (λ rows. AreGiven mapped.schema wanted rows) → IfOk r (AllByRecursion (IsJoinedRow mapped query.class (parts_of mapped query.class query.joined)))
rows_told mapped query wanted (Ok rows) is law kinds given =
    law rows (subst (λ (s : Select). AreOfItems mapped.schema s rows) is kinds) (subst (λ (s : Select). AreGiven mapped.schema s rows) is given)
rows_told mapped query wanted (Err e) is law kinds given = tt

-- ---- the answers

-- all are of the query's hierarchy
pub answers_all : (mapped : Mapped) (roots : List ClassId) (class : ClassId) (parts : List Part) (taken : List Taken) (objects : List ObjId) → objects ≡ answered taken → All (IsTaken mapped roots class parts) taken
    → All (λ object. is_of_root roots (root_of mapped class) object ≡ true) objects
answers_all mapped roots class parts taken objects are all =
    let of : ObjId → Type 0 = λ object. is_of_root roots (root_of mapped class) object ≡ true in
    subst (All of) (sym are) (firsts_all of (map (λ one. one.owner) taken) (All-map of (λ (one : Taken). one.owner) taken (λ i d less. (all i d less).owner)))

-- the owners' links were filled
pub taken_filled : (mapped : Mapped) (class : ClassId) (parts : List Part) (taken : List Taken) (objects shown : List ObjId) (own now : Loading) → objects ≡ answered taken → shown ≡ objects
    → Runs alone (λ (u : Unit {0}). u) (fill_owners mapped class parts taken shown) own (Ok tt) now → Runs alone (λ (xs : List ObjId). xs) (fill_taken mapped class parts taken) own (Ok objects) now
taken_filled mapped class parts taken objects shown own now are seen p =
    then_ok (λ (u : Unit {0}). give (answered taken)) (subst (λ (xs : List ObjId). Runs alone (λ (u : Unit {0}). u) (fill_owners mapped class parts taken xs) own (Ok tt) now) (seen ∙ are) p) (done (sym are))

-- they were not
pub taken_lost : (mapped : Mapped) (class : ClassId) (parts : List Part) (taken : List Taken) (objects shown : List ObjId) (own now : Loading) (e : Refusal) → objects ≡ answered taken → shown ≡ objects
    → Runs alone (λ (u : Unit {0}). u) (fill_owners mapped class parts taken shown) own (Err e) now → Runs alone (λ (xs : List ObjId). xs) (fill_taken mapped class parts taken) own (Err e) now
taken_lost mapped class parts taken objects shown own now e are seen p =
    then_err (λ (u : Unit {0}). give (answered taken)) (subst (λ (xs : List ObjId). Runs alone (λ (u : Unit {0}). u) (fill_owners mapped class parts taken xs) own (Err e) now) (seen ∙ are) p)

-- rows gave their objects, and the links of the owners were filled
pub answers_taken : (mapped : Mapped) (class : ClassId) (parts : List Part) (rows : Rows) (taken shown : List Taken) (own mid now : Loading) (r : Result (List ObjId) Refusal) → shown ≡ taken
    → Runs alone (λ (xs : List Taken). xs) (take_joined mapped class parts rows) own (Ok taken) mid → Runs alone (λ (xs : List ObjId). xs) (fill_taken mapped class parts shown) mid r now
    → Runs alone (λ (xs : List ObjId). xs) (take_answers mapped class parts rows) own r now
unfolding take_answers
answers_taken mapped class parts rows taken shown own mid now r seen p q =
    then_ok (fill_taken mapped class parts) p (subst (λ (xs : List Taken). Runs alone (λ (objects : List ObjId). objects) (fill_taken mapped class parts xs) mid r now) seen q)

-- a row was refused
pub answers_refused : (mapped : Mapped) (class : ClassId) (parts : List Part) (rows : Rows) (own now : Loading) (e : Refusal) → Runs alone (λ (xs : List Taken). xs) (take_joined mapped class parts rows) own (Err e) now
    → Runs alone (λ (xs : List ObjId). xs) (take_answers mapped class parts rows) own (Err e) now
unfolding take_answers
answers_refused mapped class parts rows own now e p = then_err (fill_taken mapped class parts) p

-- ---- the query

-- its rows were read, and answered
pub joined_loaded : {K : Type 0} (moment : K → Moment Store) (mapped : Mapped) (query : ObjectQuery) (parts shown : List Part) (rows slice : Rows) {own mid now : Loading} {old new : K} {r : Result (List ObjId) Refusal}
    → parts ≡ parts_of mapped query.class query.joined → shown ≡ parts → slice ≡ rows
    → Runs (moment_beside moment) (λ (rows : Rows). rows) (read mapped.schema (main_select mapped query)) (own, old) (Ok rows) (mid, new)
    → Runs alone (λ (xs : List ObjId). xs) (take_answers mapped query.class shown slice) mid r now
    → Runs (moment_beside moment) (λ (xs : List ObjId). xs) (load_joined mapped query) (own, old) r (now, new)
unfolding load_joined
joined_loaded moment mapped query parts shown rows slice {mid = mid} {now = now} {r = r} are seen sliced p q =
    then_ok (λ rows. on_own (take_answers mapped query.class (parts_of mapped query.class query.joined) rows)) p
    (beside_alone moment
    (subst (λ (ps : List Part). Runs alone (λ (objects : List ObjId). objects) (take_answers mapped query.class ps rows) mid r now) (seen ∙ are)
    (subst (λ (xs : Rows). Runs alone (λ (objects : List ObjId). objects) (take_answers mapped query.class shown xs) mid r now) sliced q)))

-- its select was refused
pub joined_refused : {K : Type 0} (moment : K → Moment Store) (mapped : Mapped) (query : ObjectQuery) {own now : Loading} {old new : K} {e : Refusal}
    → Runs (moment_beside moment) (λ (rows : Rows). rows) (read mapped.schema (main_select mapped query)) (own, old) (Err e) (now, new)
    → Runs (moment_beside moment) (λ (xs : List ObjId). xs) (load_joined mapped query) (own, old) (Err e) (now, new)
unfolding load_joined
joined_refused moment mapped query p = then_err (λ rows. on_own (take_answers mapped query.class (parts_of mapped query.class query.joined) rows)) p

-- ---- its rows and its parts

pub rows_of_parts : (mapped : Mapped) (query : ObjectQuery) (parts shown : List Part) (rows slice : Rows) → parts ≡ parts_of mapped query.class query.joined → shown ≡ parts → slice ≡ rows
    → AllByRecursion (IsJoinedRow mapped query.class (parts_of mapped query.class query.joined)) rows → AllByRecursion (IsJoinedRow mapped query.class shown) slice
rows_of_parts mapped query parts shown rows slice are seen sliced h =
    subst (λ (xs : Rows). AllByRecursion (IsJoinedRow mapped query.class shown) xs) (sym sliced)
    (subst (λ (ps : List Part). AllByRecursion (IsJoinedRow mapped query.class ps) rows) (sym (seen ∙ are)) h)
