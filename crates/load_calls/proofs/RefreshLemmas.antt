-- The reading of expired cells, put together of its parts.
use Rattle.std.proofs.Common.{◌≡◌, ℕ, zero, suc, ◌+◌, ◌<◌, true, false, ◌==◌, List, [], ◌∷◌, ◌++◌, length, filter, get_or, Option, None, Some, Result, Ok, Err, IfErr, IfOk, IsErrAnd, OnOk, if◌then◌else◌, not, refl, sym, ap, subst, ◌∙◌, arith}
use Rattle.std.specs.Prelude.{slice_get, is_some, unwrap_or}
use Rattle.std.specs.Option.{option_and_then, option_map}
use Rattle.std.specs.List.{All, AllByRecursion, enumerate_from, position, range_with_len}
use Rattle.std.proofs.lemmas.Bool.{eqb-true}
use Rattle.std.proofs.lemmas.List.Elements.{All-from_recursion, recursion_from_All}
use Rattle.std.proofs.lemmas.List.Quantifiers.{position-Some}
use Rattle.std.proofs.lemmas.Option.{same_Some, slice_get-get_or, slice_get-map, slice_get_within}
use Rattle.base_core.specs.declared.ids.AttrNo.{AttrNo}
use Rattle.base_core.specs.declared.ids.ClassId.{ClassId}
use Rattle.base_core.specs.declared.ids.ObjId.{ObjId}
use Rattle.base_core.specs.declared.value.Value.{Value}
use Rattle.base_core.specs.declared.refusal.Refusal.{Refusal}
use Rattle.base_core.specs.declared.refusal.Refusal.TheVariants.{DataError, KeeperFault, Memory, ObjectDeletedError, OperationalError}
use Rattle.expr_types.specs.declared.select.Select.{Select}
use Rattle.class_mapping.specs.Mapped.{IsAttribute, IsClass, Mapped, attribute_of, attributes_of}
use Rattle.class_mapping.proofs.Having.{Has, all_from, from_filter, from_map, from_numbered}
use Rattle.object_arena.specs.declared.object.Cell.{Cell}
use Rattle.object_arena.specs.declared.object.Object.{Object}
use Rattle.object_arena.specs.declared.object.State.{State}
use Rattle.object_arena.specs.declared.object.State.TheVariants.{Transient, Pending, Persistent, Deleted, Detached}
use Rattle.object_arena.specs.Fit.{ObjectFits, identity_fits, key_fits, value_fits}
use Rattle.object_arena.specs.Graph.{Graph, has_identity, object_at}
use Rattle.object_arena.specs.Identity.{is_identified}
use Rattle.keeper_core.specs.declared.sent.Sent.TheVariants as sent
use Rattle.keeper_core.specs.Alone.{IsQuiet}
use Rattle.keeper_core.specs.Beside.{moment_beside, on_own}
use Rattle.keeper_core.specs.Moment.{Moment, Runs, parts}
use Rattle.keeper_core.specs.Programs.{Run, quiet}
use Rattle.keeper_core.specs.Store.{Store}
use Rattle.keeper_core.proofs.Lifting.{chosen, quietly}
use Rattle.keeper_core.proofs.Sequence.{done, then_err, then_ok}
use Rattle.keeper_core.specs.declared.notes.Note.{Note}
use Rattle.keeper_core.specs.declared.notes.Note.TheVariants as note
use Rattle.sql_semantics.specs.Plain.{IsPlainSelect}
use Rattle.sql_semantics.specs.SelectRefusals.{calculates}
use Rattle.sql_semantics.specs.Shapes.{AreOfItems}
use Rattle.mapping_laws.specs.Hierarchies.{HasHierarchies}
use Rattle.mapping_laws.proofs.Ties.{class_tables}
use Rattle.collection_selects.proofs.ClassLemmas.{cells_are_plain}
use Rattle.collection_selects.proofs.NoArithmetic.{cells_calculate_nothing}
use Rattle.mapping_laws.proofs.KeyKinds.{keys_alike}
use Rattle.collection_selects.proofs.Rows.{are_cells}
use Rattle.load_selects.specs.Selects.{cells_select}
use Rattle.load_filling.specs.Filled.{AreFoundFor, value_found, value_or_none}
use Rattle.load_rows.specs.Loading.{Loading, filled, loading}
use Rattle.load_rows.specs.Reading.{identity_key}
use Rattle.collection_selects.specs.Rows.{AreCellsOf}
use Rattle.load_calls.specs.Reading.{read}
use Rattle.load_calls.proofs.ReadLemmas.{passed_refusal}
use Rattle.load_calls.proofs.RefusalLemmas.{select_refuses}
use Rattle.keeper_core.specs.Keeping.{RefusesSelect}
use Rattle.load_calls.specs.Refreshing.{CanRefuse, CanRefuseCells, IsDeletedOrMemory, IsShownDeleted, Scene, attr_of, expired_attrs, found_among, found_at, is_expired, read_cells, refresh, refresh_cells, take_cells, with_cells_select}

abbrev Rows : Type 0
Rows = List (List Value)

-- ---- the attributes

cell_there : (object : Object) (attr : AttrNo) → Has (expired_attrs object) attr → attr.0 < length object.cells
cell_there object attr there =
    let found = from_map attr_of (filter is_expired (enumerate_from 0 object.cells)) attr there in
    let placed : ℕ × Cell = found.0 in
    let numbered = from_numbered 0 object.cells placed (from_filter is_expired (enumerate_from 0 object.cells) placed found.1).0 in
    let within : numbered.0 < length object.cells = slice_get_within object.cells numbered.0 placed.1 numbered.2 in
    let number : placed.0 ≡ attr.0 = ap (λ (one : AttrNo). one.0) found.2 in
    omega (arith, within, number, numbered.1)

-- the expired cells of an object are of attributes of its class
pub are_attributes : (mapped : Mapped) (class : ClassId) (object : Object) (attrs : List AttrNo) → length object.cells ≡ length (attributes_of mapped class) → attrs ≡ expired_attrs object → All (IsAttribute mapped class) attrs
are_attributes mapped class object attrs long is =
    subst (All (IsAttribute mapped class)) (sym is)
    (All-from_recursion (IsAttribute mapped class) (expired_attrs object)
    (all_from (IsAttribute mapped class) (expired_attrs object) (λ attr there. subst (λ (n : ℕ). attr.0 < n) long (cell_there object attr there))))

-- ---- what was read

range_get : (from n i p : ℕ) → slice_get (range_with_len from n) i ≡ Some p → from + i ≡ p
range_get from zero i p e = absurd cc
range_get from (suc n) zero p e = let same : from ≡ p = same_Some from p e in omega (arith, same)
range_get from (suc n) (suc i) p e = let later : from + 1 + i ≡ p = range_get (from + 1) n i p e in omega (arith, later)

at_fits : (mapped : Mapped) (class : ClassId) (attrs : List AttrNo) (row : List Value) (attr : AttrNo) (p : ℕ) → AreCellsOf mapped class attrs row → p ≡ attr.0 → value_fits (attribute_of mapped class attr) (found_at attrs row p) ≡ true
at_fits mapped class attrs row attr p cells same = by (position (λ (other : AttrNo). other.0 == p) attrs) refl
  where
    by : (found : Option ℕ) → position (λ (other : AttrNo). other.0 == p) attrs ≡ found → value_fits (attribute_of mapped class attr) (option_and_then (slice_get row) found) ≡ true
    by None e = refl
    by (Some place) e =
        let there = position-Some (λ (other : AttrNo). other.0 == p) attrs place attr e in
        let other : AttrNo = get_or attrs place attr in
        let number : other.0 ≡ attr.0 = eqb-true other.0 p there.1 ∙ same in
        ap (λ (n : ℕ). let one : AttrNo = record { 0 = n } in value_fits (attribute_of mapped class one) (slice_get row place)) (sym number)
        ∙ cells place other (slice_get-get_or attrs place attr there.0)

-- what was read of an object's cells fits them
pub cells_fit : (mapped : Mapped) (class : ClassId) (count : ℕ) (attrs : List AttrNo) (row : List Value) → AreCellsOf mapped class attrs row → AreFoundFor class (found_among count attrs row) mapped
cells_fit mapped class count attrs row cells attr = by (slice_get (range_with_len 0 count) attr.0) refl
  where
    placed : value_found (found_among count attrs row) attr.0 ≡ value_or_none (option_map (found_at attrs row) (slice_get (range_with_len 0 count) attr.0))
    placed = ap value_or_none (slice_get-map (found_at attrs row) (range_with_len 0 count) attr.0)

    by : (found : Option ℕ) → slice_get (range_with_len 0 count) attr.0 ≡ found → value_fits (attribute_of mapped class attr) (value_found (found_among count attrs row) attr.0) ≡ true
    by None e = ap (value_fits (attribute_of mapped class attr)) (placed ∙ ap (λ (o : Option ℕ). value_or_none (option_map (found_at attrs row) o)) e)
    by (Some p) e =
        let number = range_get 0 count attr.0 p e in
        let same : p ≡ attr.0 = omega (arith, number) in
        ap (value_fits (attribute_of mapped class attr)) (placed ∙ ap (λ (o : Option ℕ). value_or_none (option_map (found_at attrs row) o)) e) ∙ at_fits mapped class attrs row attr p cells same

pub first_fits : (mapped : Mapped) (class : ClassId) (attrs : List AttrNo) (rows : Rows) (row : List Value) → slice_get rows 0 ≡ Some row → AllByRecursion (AreCellsOf mapped class attrs) rows → AreCellsOf mapped class attrs row
first_fits mapped class attrs [] row e all = absurd cc
first_fits mapped class attrs (first ∷ rows) row e all = subst (AreCellsOf mapped class attrs) (same_Some first row e) all.0

-- ---- what is made of it

taken_row : (object : ObjId) (attrs : List AttrNo) (rows : Rows) (row : List Value) (own : Loading) → slice_get rows 0 ≡ Some row
    → take_cells object attrs rows own ≡ quiet (Ok tt) (filled object (found_among (length (object_at own.graph object).cells) attrs row) own)
unfolding take_cells
taken_row object attrs [] row own e = absurd cc
taken_row object attrs (first ∷ rows) row own e =
    ap (λ (values : List Value). let run : Run Loading (Unit {0}) = quiet (Ok tt) (filled object (found_among (length (object_at own.graph object).cells) attrs values) own) in run) (same_Some first row e)

pub filled_by : (object : ObjId) (attrs : List AttrNo) (rows : Rows) (row : List Value) (own now : Loading) (r : Result (Unit {0}) Refusal) → slice_get rows 0 ≡ Some row
    → OnOk r (now ≡ filled object (found_among (length (object_at own.graph object).cells) attrs row) own) → IfErr r (λ e. e ≡ Memory) → IsQuiet (λ (u : Unit {0}). u) (take_cells object attrs rows own) r now
filled_by object attrs rows row own now (Ok u) e is cause =
    taken_row object attrs rows row own e ∙ ap (λ (w : Loading). let run : Run Loading (Unit {0}) = quiet (Ok tt) w in run) (sym is)
filled_by object attrs rows row own now (Err d) e is cause = subst (λ (f : Refusal). IsQuiet (λ (u : Unit {0}). u) (take_cells object attrs rows own) (Err f) now) (sym cause) tt

no_row : (object : ObjId) (attrs : List AttrNo) (rows : Rows) (own : Loading) → slice_get rows 0 ≡ None → take_cells object attrs rows own ≡ quiet (Err (ObjectDeletedError object)) own
unfolding take_cells
no_row object attrs [] own e = refl
no_row object attrs (first ∷ rows) own e = absurd cc

-- an object without a row was deleted
pub is_deleted : (object : ObjId) (attrs : List AttrNo) (rows : Rows) (own : Loading) → slice_get rows 0 ≡ None → IsQuiet (λ (u : Unit {0}). u) (take_cells object attrs rows own) (Err (ObjectDeletedError object)) own
is_deleted object attrs rows own e = (no_row object attrs rows own e, (refl, refl))

-- ---- the programs

-- the select of the cells was sent
pub cells_read : {K : Type 0} (moment : K → Moment Store) (mapped : Mapped) (object : ObjId) (attrs : List AttrNo) (graph : Graph) (select : Select) {before after : List Note} {old new : K} {r : Result Rows Refusal}
    → select ≡ cells_select mapped (object_at graph object).class attrs (identity_key graph object)
    → Runs (moment_beside moment) (λ (rows : Rows). rows) (read mapped.schema select) (loading graph before, old) r (loading graph after, new)
    → Runs (moment_beside moment) (λ (rows : Rows). rows) (read_cells mapped object attrs) (loading graph before, old) r (loading graph after, new)
unfolding read_cells
cells_read moment mapped object attrs graph select {before = before} {after = after} {old = old} {new = new} {r = r} is p =
    chosen moment (λ own. read mapped.schema (cells_select mapped (object_at own.graph object).class attrs (identity_key own.graph object)))
    (subst (λ (s : Select). Runs (moment_beside moment) (λ (rows : Rows). rows) (read mapped.schema s) (loading graph before, old) r (loading graph after, new)) is p)

chosen_cells : {K X : Type 0} (moment : K → Moment Store) (v : X → Unit {0}) (mapped : Mapped) (object : ObjId) (attrs : List AttrNo) (graph : Graph) {before : List Note} {own : Loading} {old new : K} {r : Result X Refusal}
    → attrs ≡ expired_attrs (object_at graph object)
    → Runs (moment_beside moment) v (refresh_cells mapped object attrs) (loading graph before, old) r (own, new)
    → Runs (moment_beside moment) v (refresh mapped object) (loading graph before, old) r (own, new)
unfolding refresh
chosen_cells moment v mapped object attrs graph {before = before} {own = own} {old = old} {new = new} {r = r} is p =
    chosen moment (λ now. refresh_cells mapped object (expired_attrs (object_at now.graph object)))
    (subst (λ (xs : List AttrNo). Runs (moment_beside moment) v (refresh_cells mapped object xs) (loading graph before, old) r (own, new)) is p)

-- no cell is expired
pub nothing_expired : {K : Type 0} (moment : K → Moment Store) (mapped : Mapped) (object : ObjId) (attrs : List AttrNo) (graph : Graph) {before : List Note} {keeper : K} → attrs ≡ expired_attrs (object_at graph object) → attrs ≡ []
    → Runs (moment_beside moment) (λ (u : Unit {0}). u) (refresh mapped object) (loading graph before, keeper) (Ok tt) (loading graph before, keeper)
nothing_expired moment mapped object attrs graph {before = before} {keeper = keeper} is none =
    chosen_cells moment (λ (u : Unit {0}). u) mapped object [] graph (sym none ∙ is) (done refl)

refreshed_by : {K : Type 0} (moment : K → Moment Store) (mapped : Mapped) (object : ObjId) (attrs : List AttrNo) {own mid now : Loading} {old new : K} {rows : Rows} {r : Result (Unit {0}) Refusal} → (attrs ≡ [] → ⊥)
    → Runs (moment_beside moment) (λ (rows : Rows). rows) (read_cells mapped object attrs) (own, old) (Ok rows) (mid, new) → IsQuiet (λ (u : Unit {0}). u) (take_cells object attrs rows mid) r now
    → Runs (moment_beside moment) (λ (u : Unit {0}). u) (refresh_cells mapped object attrs) (own, old) r (now, new)
refreshed_by moment mapped object [] some p q = absurd (some refl)
refreshed_by moment mapped object (attr ∷ attrs) {rows = rows} some p q =
    then_ok (λ rows. on_own (take_cells object (attr ∷ attrs) rows)) p (quietly moment (take_cells object (attr ∷ attrs) rows) q)

-- the row was read, and the cells hold it, or there was none
pub refreshed : {K : Type 0} (moment : K → Moment Store) (mapped : Mapped) (object : ObjId) (attrs : List AttrNo) (graph : Graph) {before : List Note} {mid now : Loading} {old new : K} {rows : Rows} {r : Result (Unit {0}) Refusal}
    → attrs ≡ expired_attrs (object_at graph object) → (attrs ≡ [] → ⊥)
    → Runs (moment_beside moment) (λ (rows : Rows). rows) (read_cells mapped object attrs) (loading graph before, old) (Ok rows) (mid, new) → IsQuiet (λ (u : Unit {0}). u) (take_cells object attrs rows mid) r now
    → Runs (moment_beside moment) (λ (u : Unit {0}). u) (refresh mapped object) (loading graph before, old) r (now, new)
refreshed moment mapped object attrs graph is some p q = chosen_cells moment (λ (u : Unit {0}). u) mapped object attrs graph is (refreshed_by moment mapped object attrs some p q)

refused_by : {K : Type 0} (moment : K → Moment Store) (mapped : Mapped) (object : ObjId) (attrs : List AttrNo) {own now : Loading} {old new : K} {e : Refusal} → (attrs ≡ [] → ⊥)
    → Runs (moment_beside moment) (λ (rows : Rows). rows) (read_cells mapped object attrs) (own, old) (Err e) (now, new)
    → Runs (moment_beside moment) (λ (u : Unit {0}). u) (refresh_cells mapped object attrs) (own, old) (Err e) (now, new)
refused_by moment mapped object [] some p = absurd (some refl)
refused_by moment mapped object (attr ∷ attrs) some p = then_err (λ rows. on_own (take_cells object (attr ∷ attrs) rows)) p

-- the select was refused
pub refresh_refused : {K : Type 0} (moment : K → Moment Store) (mapped : Mapped) (object : ObjId) (attrs : List AttrNo) (graph : Graph) {before : List Note} {now : Loading} {old new : K} {e : Refusal}
    → attrs ≡ expired_attrs (object_at graph object) → (attrs ≡ [] → ⊥)
    → Runs (moment_beside moment) (λ (rows : Rows). rows) (read_cells mapped object attrs) (loading graph before, old) (Err e) (now, new)
    → Runs (moment_beside moment) (λ (u : Unit {0}). u) (refresh mapped object) (loading graph before, old) (Err e) (now, new)
refresh_refused moment mapped object attrs graph is some p = chosen_cells moment (λ (u : Unit {0}). u) mapped object attrs graph is (refused_by moment mapped object attrs some p)

-- ---- refusals

-- it refuses the reading of them
pub cells_refuse : (mapped : Mapped) (object : ObjId) (e : Refusal) → CanRefuseCells mapped e → CanRefuse mapped object e
cells_refuse mapped object (ObjectDeletedError deleted) h = absurd h
cells_refuse mapped object e h = h

-- and never as deleted
cells_show : (mapped : Mapped) (object : ObjId) (old new : Scene) (e : Refusal) → CanRefuseCells mapped e → IsShownDeleted mapped object old new e
cells_show mapped object old new (ObjectDeletedError deleted) h = absurd h
cells_show mapped object old new e h = tt

pub passed_show : {A : Type 0} (mapped : Mapped) (object : ObjId) (old new : Scene) (e : Refusal) (r : Result A Refusal) → IsErrAnd r (λ d. d ≡ e) → CanRefuseCells mapped e → IfErr r (IsShownDeleted mapped object old new)
passed_show mapped object old new e r passed h = passed_refusal (IsShownDeleted mapped object old new) e r passed (cells_show mapped object old new e h)

pub deleted_refuses : (mapped : Mapped) (object : ObjId) (e : Refusal) → IsDeletedOrMemory object e → CanRefuse mapped object e
deleted_refuses mapped object (ObjectDeletedError deleted) h = h
deleted_refuses mapped object Memory h = tt
deleted_refuses mapped object e h = absurd h

-- ---- the select of an object's cells

-- a persistent object has an identity
identified : {A : Type 0} (own object : Object) → own ≡ object → object.state ≡ Persistent → is_identified own ≡ true → own.identity ≡ None → A
identified own object is persistent h none = by own.state (ap (λ (o : Object). o.state) is ∙ persistent) own.identity none h
  where
    by : {A : Type 0} (state : State) → state ≡ Persistent → (identity : Option (List Value)) → identity ≡ None → (if has_identity state then is_some identity else not (is_some identity)) ≡ true → A
    by Persistent e None g h = absurd cc
    by Persistent e (Some key) g h = absurd cc
    by Transient e identity g h = absurd cc
    by Pending e identity g h = absurd cc
    by Deleted e identity g h = absurd cc
    by Detached e identity g h = absurd cc

-- its key is one of its class
pub own_key_fits : (mapped : Mapped) (graph : Graph) (object : ObjId) (own : Object) → ObjectFits mapped own → own ≡ object_at graph object → (object_at graph object).state ≡ Persistent → is_identified own ≡ true
    → key_fits mapped own.class (identity_key graph object) ≡ true
own_key_fits mapped graph object own fits is persistent has = ap (λ (o : Object). key_fits mapped own.class (unwrap_or o.identity [])) (sym is) ∙ by own.identity refl fits.identity
  where
    by : (identity : Option (List Value)) → own.identity ≡ identity → identity_fits mapped own.class identity ≡ true → key_fits mapped own.class (unwrap_or identity []) ≡ true
    by None e h = identified own (object_at graph object) is persistent has e
    by (Some key) e h = h

pub select_is : {E : Type 0} (mapped : Mapped) (graph : Graph) (object : ObjId) (attrs : List AttrNo) (key : List Value) (own : Object) (r : Result Select E) → own ≡ object_at graph object → key ≡ identity_key graph object
    → IfOk r (λ s. s ≡ cells_select mapped own.class attrs key) → IfOk r (λ s. s ≡ cells_select mapped (object_at graph object).class attrs (identity_key graph object))
select_is mapped graph object attrs key own (Ok s) is named made =
    made ∙ ap (λ (o : Object). cells_select mapped o.class attrs key) is ∙ ap (cells_select mapped (object_at graph object).class attrs) named
select_is mapped graph object attrs key own (Err e) is named made = tt

-- it is plain
pub cells_plain : {E : Type 0} (mapped : Mapped) (graph : Graph) (object : ObjId) (attrs : List AttrNo) (key : List Value) (own : Object) (r : Result Select E) → HasHierarchies mapped → ObjectFits mapped own → own ≡ object_at graph object
    → (object_at graph object).state ≡ Persistent → is_identified own ≡ true → key ≡ identity_key graph object → All (IsAttribute mapped (object_at graph object).class) attrs → IfOk r (λ s. s ≡ cells_select mapped own.class attrs key)
    → IfOk r (IsPlainSelect mapped.schema)
cells_plain mapped graph object attrs key own (Ok s) has fits is persistent identity named there made =
    let own_fits : key_fits mapped own.class key ≡ true = ap (key_fits mapped own.class) named ∙ own_key_fits mapped graph object own fits is persistent identity in
    let fits_root = sym (keys_alike mapped own.class key has (class_tables mapped own.class has fits.class)) ∙ own_fits in
    subst (IsPlainSelect mapped.schema) (sym made)
    (cells_are_plain mapped own.class attrs key has fits.class (subst (λ (o : Object). All (IsAttribute mapped o.class) attrs) (sym is) there) fits_root)
cells_plain mapped graph object attrs key own (Err e) has fits is persistent identity named there made = tt

-- what is answered to it are values of the kinds of the cells
pub cells_told : {E : Type 0} (mapped : Mapped) (graph : Graph) (object : ObjId) (attrs : List AttrNo) (own : Object) (r : Result Select E) → HasHierarchies mapped → ObjectFits mapped own → own ≡ object_at graph object
    → All (IsAttribute mapped (object_at graph object).class) attrs → IfOk r (λ s. s ≡ cells_select mapped (object_at graph object).class attrs (identity_key graph object))
    → IfOk r (λ s. (rows : Rows) → AreOfItems mapped.schema s rows → AllByRecursion (AreCellsOf mapped (object_at graph object).class attrs) rows)
cells_told mapped graph object attrs own (Ok s) has fits is there made = λ rows kinds.
    are_cells mapped (object_at graph object).class attrs (identity_key graph object) rows has (subst (λ (o : Object). IsClass mapped o.class) is fits.class)
    (recursion_from_All (IsAttribute mapped (object_at graph object).class) attrs there) (subst (λ (t : Select). AreOfItems mapped.schema t rows) made kinds)
cells_told mapped graph object attrs own (Err e) has fits is there made = tt

-- the select of some cells calculates nothing
pub cells_quiet : (mapped : Mapped) (object : ObjId) (attrs : List AttrNo) (graph : Graph) (select : Select) → select ≡ cells_select mapped (object_at graph object).class attrs (identity_key graph object) → calculates select ≡ false
cells_quiet mapped object attrs graph select is =
    ap (λ (s : Select). calculates s) is ∙ cells_calculate_nothing mapped (object_at graph object).class attrs (identity_key graph object)

pub all_refuse : (mapped : Mapped) (s : Select) (r : Result Rows Refusal) → calculates s ≡ false → IfErr r (RefusesSelect mapped.schema s) → IfErr r (CanRefuseCells mapped)
all_refuse mapped s (Ok rows) none h = tt
all_refuse mapped s (Err e) none h = select_refuses mapped s e none h

pub err_deleted : (mapped : Mapped) (object : ObjId) (r : Result (Unit {0}) Refusal) → IfErr r (IsDeletedOrMemory object) → IfErr r (CanRefuse mapped object)
err_deleted mapped object (Ok u) h = tt
err_deleted mapped object (Err e) h = deleted_refuses mapped object e h

-- ---- an object that is answered as deleted

left_by : (object : ObjId) (attrs : List AttrNo) (rows : Rows) (own now : Loading) (e : Refusal) → take_cells object attrs rows own ≡ quiet (Err e) now → now ≡ own
unfolding take_cells
left_by object attrs [] own now e is = sym (ap (λ (run : Run Loading (Unit {0})). run.after) is)
left_by object attrs (row ∷ rows) own now e is =
    let never : (let taken : Result (Unit {0}) Refusal = Ok tt in taken ≡ Err e) = ap (λ (run : Run Loading (Unit {0})). run.answer) is in absurd cc

-- its row was asked for, and is not among those that were given
pub without_row : {K : Type 0} (moment : K → Moment Store) (mapped : Mapped) (object : ObjId) (attrs : List AttrNo) (own mid now : Loading) {old new : K} {rows : Rows} (r : Result (Unit {0}) Refusal)
    → attrs ≡ expired_attrs (object_at own.graph object) → (attrs ≡ [] → ⊥) → mid ≡ with_cells_select mapped object attrs own
    → Runs (moment_beside moment) (λ (rows : Rows). rows) (read_cells mapped object attrs) (own, old) (Ok rows) (mid, new) → IsQuiet (λ (u : Unit {0}). u) (take_cells object attrs rows mid) r now
    → IfErr r (IsShownDeleted mapped object (own, moment old) (now, moment new))
unfolding moment_beside
without_row moment mapped object attrs own mid now (Ok u) is some noted p q = tt
without_row moment mapped object attrs own mid now {rows = rows} (Err (ObjectDeletedError deleted)) is some noted p q = record {
  expired = λ none. some (is ∙ none);
  noted = left_by object attrs rows mid now (ObjectDeletedError deleted) q.0 ∙ noted ∙ ap (λ (xs : List AttrNo). with_cells_select mapped object xs own) is;
  answered = (parts p).keeps.calm;
}
without_row moment mapped object attrs own mid now (Err e) is some noted p q = tt

-- the select of some cells is theirs, noted
pub cells_noted : (mapped : Mapped) (object : ObjId) (attrs : List AttrNo) (graph : Graph) (before after : List Note) (select : Select) (r : Result Rows Refusal) → select ≡ cells_select mapped (object_at graph object).class attrs (identity_key graph object)
    → OnOk r (after ≡ before ++ note.Sent (sent.Query select) ∷ []) → OnOk r (loading graph after ≡ with_cells_select mapped object attrs (loading graph before))
cells_noted mapped object attrs graph before after select (Ok rows) is noted = ap (loading graph) (noted ∙ ap (λ (s : Select). before ++ note.Sent (sent.Query s) ∷ []) is)
cells_noted mapped object attrs graph before after select (Err e) is noted = tt
