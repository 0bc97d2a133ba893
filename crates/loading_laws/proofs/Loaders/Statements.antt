-- The statements that programs of loads send.
use Rattle.std.proofs.Common.{◌≡◌, ℕ, zero, suc, ◌+◌, ◌-◌, ◌*◌, ◌/◌, ◌%◌, ◌<◌, ◌≤◌, Bool, true, false, List, [], ◌∷◌, ◌++◌, drop, length, map, take, Result, Ok, Err, if◌then◌else◌, refl, sym, ap, subst, ◌∙◌, arith, append-nil}
use Rattle.std.specs.List.{All, flat_map, range_with_len}
use Rattle.std.proofs.lemmas.List.{drop-drop, drop-map, length-drop, length-map, length-take, length-take-le, take-append-drop, take-map, take_all}
use Rattle.std.proofs.Math.Nat.{mod-add-div, mod-lt}
use Rattle.base_core.specs.declared.ids.ClassId.{ClassId}
use Rattle.base_core.specs.declared.ids.ObjId.{ObjId}
use Rattle.base_core.specs.declared.ids.RelNo.{RelNo}
use Rattle.base_core.specs.declared.refusal.Refusal.{Refusal}
use Rattle.base_core.specs.declared.value.Value.{Value}
use Rattle.schema_core.specs.Catalog.{Catalog}
use Rattle.expr_types.specs.declared.select.Select.{Select}
use Rattle.class_types.specs.declared.mapped.Relation.{Relation}
use Rattle.class_mapping.specs.Mapped.{Mapped}
use Rattle.keeper_core.specs.Programs.{Event, Run, ◌>>=◌, change, continue_from, each, give}
use Rattle.keeper_core.specs.Beside.{Beside, by_own, on_own, on_store}
use Rattle.keeper_core.specs.Store.{Store}
use Rattle.keeper_core.specs.Calls.{query}
use Rattle.object_arena.specs.Graph.{Graph}
use Rattle.collection_selects.specs.Collections.{batch_select}
use Rattle.load_filling.specs.Rows.{row_object}
use Rattle.load_rows.specs.Loading.{Loading, take_row, taken_as}
use Rattle.load_selects.specs.Selects.{targets_select}
use Rattle.load_rows.specs.Links.{collection_filled}
use Rattle.load_calls.specs.Reading.{World, read}
use Rattle.load_calls.specs.Collections.{take_next, take_rows}
use Rattle.load_batches.specs.Batches.{IsOwner, batch_at, batch_size, fill_batch, fill_owner, fill_owners, keys_of, load_batch, load_each, load_members, read_batch, member_of, members_under, owner_key_in, take_member, take_members, target_values, unloaded_owners}
use Rattle.load_batches.specs.declared.owners.Owner.{Owner}
use Rattle.load_ends.specs.Ends as ends
use Rattle.load_queries.specs.Selectin.{load_selectin, load_together}
use Rattle.loading_laws.proofs.Answers.Totals.{map_twice}
use Rattle.loading_laws.specs.Strategies.Filled.{Goes}
use Rattle.loading_laws.proofs.Strategies.Goes.{Parted, on_own_goes, parted, read_goes}
use Rattle.loading_laws.specs.Loaders.Statements.{AreBatches, AsksInBatches, Keys, asks, keys_asked, select_of_keys}

-- ---- batches

abbrev every_batch : {A : Type 0} → List A → ℕ → ℕ → List (List A)
every_batch items first count = map (λ number. batch_at items (batch_size * number)) (range_with_len first count)

rest_is : {A : Type 0} (items : List A) (first : ℕ) → drop 500 (drop (500 * first) items) ≡ drop (500 * (first + 1)) items
rest_is items first = let next : 500 * (first + 1) ≡ 500 * first + 500 = omega arith in drop-drop 500 (500 * first) items ∙ ap (λ (n : ℕ). drop n items) (sym next)

rest_long : {A : Type 0} (items : List A) (first : ℕ) → length (drop (500 * (first + 1)) items) ≡ length (drop (500 * first) items) - 500
rest_long items first = ap (λ xs. length xs) (sym (rest_is items first)) ∙ length-drop 500 (drop (500 * first) items)

none_left : {A : Type 0} (left : List A) → length left ≤ 500 * 0 → [] ≡ left
none_left [] less = refl
none_left (x ∷ left) less = absurd (omega (arith, less))

-- together they are all
whole_from : {A : Type 0} (items : List A) (count first : ℕ) → length (drop (500 * first) items) ≤ 500 * count → flat_map (λ (batch : List A). batch) (every_batch items first count) ≡ drop (500 * first) items
whole_from items zero first few = none_left (drop (500 * first) items) few
whole_from items (suc count) first few =
    let long = rest_long items first in
    ap (λ more. batch_at items (500 * first) ++ more) (whole_from items count (first + 1) (omega (arith, long, few)) ∙ sym (rest_is items first)) ∙ take-append-drop 500 (drop (500 * first) items)

-- and each has 500 but the last
cut_from : (items : Keys) (count first : ℕ) → length (drop (500 * first) items) ≤ 500 * count → 500 * count < length (drop (500 * first) items) + 500 → AreBatches (every_batch items first count)
cut_from items zero first few many = tt
cut_from items (suc zero) first few many =
    let left : Keys = drop (500 * first) items in
    let few_left : length left ≤ 500 = omega (arith, few) in
    let all : take 500 left ≡ left = take_all 500 left few_left in
    let long : length (take 500 left) ≡ length left = ap (λ (xs : Keys). length xs) all in
    (omega (arith, long, many), omega (arith, long, few))
cut_from items (suc (suc count)) first few many =
    let left : Keys = drop (500 * first) items in
    let long = rest_long items first in
    (length-take-le 500 left (omega (arith, many)), cut_from items (suc count) (first + 1) (omega (arith, long, few)) (omega (arith, long, many)))

-- the number of batches is the least that is enough
enough : (n : ℕ) → (n ≤ 500 * ((n + 499) / 500)) × (500 * ((n + 499) / 500) < n + 500)
enough n =
    let rest : (n + 499) % 500 < 500 = mod-lt (n + 499) (omega arith) in
    let whole : (n + 499) % 500 + 500 * ((n + 499) / 500) ≡ n + 499 = mod-add-div (n + 499) 500 in
    (omega (arith, rest, whole), omega (arith, rest, whole))

batch_under : {A B : Type 0} (f : A → B) (items : List A) (start : ℕ) → batch_at (map f items) start ≡ map f (batch_at items start)
batch_under f items start = ap (take batch_size) (drop-map f start items) ∙ take-map f batch_size (drop start items)

batches_under : {A B : Type 0} (f : A → B) (items : List A) (first count : ℕ) → map (map f) (every_batch items first count) ≡ every_batch (map f items) first count
batches_under f items first zero = refl
batches_under f items first (suc count) = ap (λ one. one ∷ map (map f) (every_batch items (first + 1) count)) (sym (batch_under f items (500 * first))) ∙ ap (λ more. batch_at (map f items) (500 * first) ∷ more) (batches_under f items (first + 1) count)

-- ---- programs that send nothing

abbrev IsSilent : {W A : Type 0} → (W → Run W A) → Type 0
IsSilent {W = W} m = (w : W) → (m w).events ≡ []

silent_by : {W A B : Type 0} (events : List Event) (u : W) (r : Result A Refusal) (next : A → W → Run W B) → events ≡ [] → ((a : A) → IsSilent (next a)) → (continue_from events u r next).events ≡ []
silent_by events u (Ok a) next none rest = ap (λ (es : List Event). es ++ (next a u).events) none ∙ rest a u
silent_by events u (Err e) next none rest = none

silent_then : {W A B : Type 0} (m : W → Run W A) (next : A → W → Run W B) → IsSilent m → ((a : A) → IsSilent (next a)) → IsSilent (m >>= next)
unfolding ◌>>=◌
silent_then m next first rest = λ w. silent_by (m w).events (m w).after (m w).answer next (first w) rest

silent_give : {W A : Type 0} (a : A) → IsSilent {W = W} (give a)
unfolding give
silent_give a = λ w. refl

silent_change : {W : Type 0} (f : W → W) → IsSilent (change f)
unfolding change
silent_change f = λ w. refl

silent_each : {W A S : Type 0} (step : A → S → W → Run W S) (xs : List A) (s : S) → ((x : A) (t : S) → IsSilent (step x t)) → IsSilent (each step s xs)
unfolding each
silent_each step [] s all = silent_give s
silent_each step (x ∷ xs) s all = silent_then (step x s) (λ t. each step t xs) (all x s) (λ t. silent_each step xs t all)

silent_row : (mapped : Mapped) (class : ClassId) (row : List Value) → IsSilent (take_row mapped class row)
unfolding take_row
silent_row mapped class row = λ own. by own (row_object mapped class row own.graph)
  where
    by : (own : Loading) (r : Result (ObjId × Graph) Refusal) → (taken_as mapped class row own r).events ≡ []
    by own (Ok found) = refl
    by own (Err e) = refl

silent_rows : (mapped : Mapped) (class : ClassId) (rows : List (List Value)) → IsSilent (take_rows mapped class rows)
unfolding take_rows
silent_rows mapped class rows = λ own. silent_each (take_next mapped class) rows [] (λ row objects. silent_then (take_row mapped class row) (λ o. give (objects ++ o ∷ [])) (silent_row mapped class row) (λ o. silent_give (objects ++ o ∷ []))) own

silent_members : (mapped : Mapped) (relation : Relation) (rows : List (List Value)) → IsSilent (take_members mapped relation rows)
unfolding take_members
silent_members mapped relation rows = λ own.
    silent_each (take_member mapped relation) rows []
    (λ row members. silent_then (take_row mapped relation.target (target_values mapped relation row)) (λ o. give (members ++ member_of (owner_key_in mapped relation row) o ∷ []))
    (silent_row mapped relation.target (target_values mapped relation row)) (λ o. silent_give (members ++ member_of (owner_key_in mapped relation row) o ∷ [])))
    own

silent_batch : (mapped : Mapped) (relation : Relation) (place : RelNo) (owners : List Owner) (rows : List (List Value)) → IsSilent (fill_batch mapped relation place owners rows)
unfolding fill_owners
silent_batch mapped relation place owners rows =
    silent_then (take_members mapped relation rows) (fill_owners place owners) (silent_members mapped relation rows)
    (λ members own. silent_each (fill_owner place members) owners tt (λ owner u. silent_change (collection_filled owner.object place (members_under members owner.key))) own)

silent_targets : (mapped : Mapped) (class : ClassId) (rows : List (List Value)) → IsSilent (ends.take_targets mapped class rows)
silent_targets mapped class rows = silent_then (take_rows mapped class rows) (λ objects. give tt) (silent_rows mapped class rows) (λ objects. silent_give tt)

silent_ends : (mapped : Mapped) (relation : Relation) (place : RelNo) (owners : List ObjId) → IsSilent (ends.fill_owners mapped relation place owners)
unfolding ends.fill_owners
silent_ends mapped relation place owners = λ own. silent_each (ends.fill_owner mapped relation place) owners tt (λ owner u. silent_change (ends.end_known mapped relation place owner)) own

-- ---- programs that send

then_events : {W A B : Type 0} (m : W → Run W A) (next : A → W → Run W B) (w : W) (b : B) (v : W) → (p : Parted m next w b v) → ((m >>= next) w).events ≡ (m w).events ++ (next p.value p.between).events
unfolding ◌>>=◌
then_events m next w b v p =
    ap (λ r. (continue_from (m w).events (m w).after r next).events) p.first.answer ∙ ap (λ u. (m w).events ++ (next p.value u).events) p.first.leaves

own_events : {S A : Type 0} (m : S → Run S A) (w : Beside S) → (on_own m w).events ≡ (m w.own).events
unfolding on_own
own_events m w = refl

read_events : (schema : Catalog) (select : Select) (w : World) → (read schema select w).events ≡ asks w.store select ∷ []
unfolding read on_store query
read_events schema select w = refl

-- a select, and what becomes of its rows
pub record Asks (event : Event) (u v : World) (events : List Event) : Type 0 where
  pub sent : events ≡ event ∷ []
  pub store : v.store ≡ u.store

read_then : (schema : Catalog) (select : Select) (next : List (List Value) → Loading → Run Loading (Unit {0})) (u v : World) → ((rows : List (List Value)) → IsSilent (next rows)) → Goes (read schema select >>= λ rows. on_own (next rows)) u tt v
    → Asks (asks u.store select) u v ((read schema select >>= λ rows. on_own (next rows)) u).events
read_then schema select next u v silent g =
    let two = parted (read schema select) (λ (rows : List (List Value)). on_own (next rows)) u tt v g in
    let sent = read_goes schema select u two.value two.between two.first in
    let own = on_own_goes (next two.value) two.between tt v two.second in
    record {
      sent =
          then_events (read schema select) (λ (rows : List (List Value)). on_own (next rows)) u tt v two
          ∙ ap (λ (es : List Event). es ++ (on_own (next two.value) two.between).events) (read_events schema select u)
          ∙ ap (λ (es : List Event). asks u.store select ∷ es) (own_events (next two.value) two.between ∙ silent two.value two.between.own);
      store = own.store ∙ sent.store;
    }

members_asked : (mapped : Mapped) (relation : Relation) (place : RelNo) (first : Owner) (more : List Owner) (u v : World) → Goes (load_batch mapped relation place (first ∷ more)) u tt v
    → Asks (asks u.store (batch_select mapped relation (keys_of (first ∷ more)))) u v (load_batch mapped relation place (first ∷ more) u).events
unfolding load_batch read_batch
members_asked mapped relation place first more u v g =
    read_then mapped.schema (batch_select mapped relation (keys_of (first ∷ more))) (fill_batch mapped relation place (first ∷ more)) u v (silent_batch mapped relation place (first ∷ more)) (record { answer = g.answer; leaves = g.leaves })

keys_read : (mapped : Mapped) (class : ClassId) (first : List Value) (more : Keys) (u v : World) → Goes (ends.load_keys mapped class (first ∷ more)) u tt v
    → Asks (asks u.store (targets_select mapped class (first ∷ more))) u v (ends.load_keys mapped class (first ∷ more) u).events
unfolding ends.load_keys
keys_read mapped class first more u v g =
    read_then mapped.schema (targets_select mapped class (first ∷ more)) (ends.take_targets mapped class) u v (silent_targets mapped class) (record { answer = g.answer; leaves = g.leaves })

-- a program for each batch
module _ {A : Type 0} (items : List A) (load : List A → World → Run World (Unit {0})) (event : Store → List A → Event)
    (sends : (x : A) (xs : List A) (u v : World) → Goes (load (x ∷ xs)) u tt v → Asks (event u.store (x ∷ xs)) u v (load (x ∷ xs) u).events) where
  abbrev step : ℕ → Unit {0} → World → Run World (Unit {0})
  step start n = load (batch_at items start)

  some_asked : (batch left : List A) (u v : World) → batch ≡ left → 0 < length left → Goes (load batch) u tt v → Asks (event u.store batch) u v (load batch u).events
  some_asked [] left u v is some g = let no : 0 < length {A = A} [] = subst (λ (xs : List A). 0 < length xs) (sym is) some in absurd (omega (arith, no))
  some_asked (x ∷ xs) left u v is some g = sends x xs u v g

  each_asked : (count first : ℕ) (n : Unit {0}) (u v : World) → 500 * count < length (drop (500 * first) items) + 500 → Goes (each step n (map (λ number. batch_size * number) (range_with_len first count))) u tt v
      → (each step n (map (λ number. batch_size * number) (range_with_len first count)) u).events ≡ map (event u.store) (every_batch items first count)
  unfolding each
  each_asked zero first n u v many g = silent_give n u
  each_asked (suc count) first n u v many g =
      let starts : List ℕ = map (λ number. batch_size * number) (range_with_len (first + 1) count) in
      let left : List A = drop (500 * first) items in
      let two = parted (step (500 * first) n) (λ (m : Unit {0}). each step m starts) u tt v g in
      let some : 0 < length left = omega (arith, many) in
      let cut = length-take 500 left in
      let taken : 0 < length (take 500 left) = omega (arith, some, cut) in
      let one = some_asked (batch_at items (500 * first)) (take 500 left) u two.between refl taken two.first in
      let long = rest_long items first in
      then_events (step (500 * first) n) (λ (m : Unit {0}). each step m starts) u tt v two
      ∙ ap (λ (es : List Event). es ++ (each step two.value starts two.between).events) one.sent
      ∙ ap (λ (es : List Event). event u.store (batch_at items (500 * first)) ∷ es)
      (each_asked count (first + 1) two.value two.between v (omega (arith, long, many)) two.second ∙ ap (λ (store : Store). map (event store) (every_batch items (first + 1) count)) one.store)

-- ---- the loads

in_batches : (keys : Keys) (select : Keys → Select) (store : Store) (events : List Event) → events ≡ map (λ (batch : Keys). asks store (select batch)) (every_batch keys 0 ((length keys + 499) / 500)) → AsksInBatches keys select store events
in_batches keys select store events is =
    let many = enough (length keys) in
    record { batches = every_batch keys 0 ((length keys + 499) / 500); whole = whole_from keys ((length keys + 499) / 500) 0 many.0; cut = cut_from keys ((length keys + 499) / 500) 0 many.0 many.1; sent = is }

members_ask : (mapped : Mapped) (relation : Relation) (place : RelNo) (owners : List ObjId) (w after : World) → Goes (load_members mapped relation place owners) w tt after
    → AsksInBatches (keys_of (unloaded_owners w.own.graph place owners)) (batch_select mapped relation) w.store (load_members mapped relation place owners w).events
unfolding load_members load_each by_own
members_ask mapped relation place owners w after g =
    let waiting : List Owner = unloaded_owners w.own.graph place owners in
    let count : ℕ = (length waiting + 499) / 500 in
    let event : Store → List Owner → Event = λ store batch. asks store (batch_select mapped relation (keys_of batch)) in
    let key_in : Owner → List Value = λ owner. owner.key in
    let sent = each_asked waiting (load_batch mapped relation place) event (members_asked mapped relation place) count 0 tt w after (enough (length waiting)).1 (record { answer = g.answer; leaves = g.leaves }) in
    let long : length (keys_of waiting) ≡ length waiting = length-map waiting key_in in
    in_batches (keys_of waiting) (batch_select mapped relation) w.store (load_members mapped relation place owners w).events
    (sent ∙ sym (map_twice (λ (batch : Keys). asks w.store (batch_select mapped relation batch)) keys_of (every_batch waiting 0 count))
    ∙ ap (map (λ (batch : Keys). asks w.store (batch_select mapped relation batch))) (batches_under key_in waiting 0 count ∙ ap (λ (n : ℕ). every_batch (keys_of waiting) 0 ((n + 499) / 500)) (sym long)))

ends_ask : (mapped : Mapped) (relation : Relation) (place : RelNo) (owners : List ObjId) (w after : World) → Goes (ends.load_ends mapped relation place owners) w tt after
    → AsksInBatches (ends.wanted_keys mapped relation w.own.graph (ends.unloaded w.own.graph place owners)) (targets_select mapped relation.target) w.store (ends.load_ends mapped relation place owners w).events
unfolding ends.load_ends ends.load_each by_own
ends_ask mapped relation place owners w after g =
    let waiting : List ObjId = ends.unloaded w.own.graph place owners in
    let keys : Keys = ends.wanted_keys mapped relation w.own.graph waiting in
    let reading : World → Run World (Unit {0}) = ends.load_all mapped relation.target keys in
    let two = parted reading (λ (u : Unit {0}). on_own (ends.fill_owners mapped relation place waiting)) w tt after (record { answer = g.answer; leaves = g.leaves }) in
    let sent = each_asked keys (ends.load_keys mapped relation.target) (λ store batch. asks store (targets_select mapped relation.target batch)) (keys_read mapped relation.target) ((length keys + 499) / 500) 0 tt w two.between (enough (length keys)).1
    (record { answer = two.first.answer; leaves = two.first.leaves }) in
    in_batches keys (targets_select mapped relation.target) w.store (ends.load_ends mapped relation place owners w).events
    (then_events reading (λ (u : Unit {0}). on_own (ends.fill_owners mapped relation place waiting)) w tt after two
    ∙ ap (λ (es : List Event). (reading w).events ++ es) (own_events (ends.fill_owners mapped relation place waiting) two.between ∙ silent_ends mapped relation place waiting two.between.own)
    ∙ append-nil (reading w).events ∙ sent)

together_asks : (mapped : Mapped) (relation : Relation) (place : RelNo) (owners : List ObjId) (w after : World) (many : Bool) → relation.many ≡ many → Goes (if many then load_members mapped relation place owners else ends.load_ends mapped relation place owners) w tt after
    → AsksInBatches (keys_asked mapped relation place w.own.graph owners) (select_of_keys mapped relation) w.store ((if many then load_members mapped relation place owners else ends.load_ends mapped relation place owners) w).events
together_asks mapped relation place owners w after true is g =
    subst
    (λ (b : Bool). AsksInBatches (if b then keys_of (unloaded_owners w.own.graph place owners) else ends.wanted_keys mapped relation w.own.graph (ends.unloaded w.own.graph place owners)) (λ (keys : Keys). if b then batch_select mapped relation keys else targets_select mapped relation.target keys) w.store
    (load_members mapped relation place owners w).events)
    (sym is) (members_ask mapped relation place owners w after g)
together_asks mapped relation place owners w after false is g =
    subst
    (λ (b : Bool). AsksInBatches (if b then keys_of (unloaded_owners w.own.graph place owners) else ends.wanted_keys mapped relation w.own.graph (ends.unloaded w.own.graph place owners)) (λ (keys : Keys). if b then batch_select mapped relation keys else targets_select mapped relation.target keys) w.store
    (ends.load_ends mapped relation place owners w).events)
    (sym is) (ends_ask mapped relation place owners w after g)

nothing_asked : (mapped : Mapped) (relation : Relation) (place : RelNo) (w : World) (many : Bool) → relation.many ≡ many → AsksInBatches (keys_asked mapped relation place w.own.graph []) (select_of_keys mapped relation) w.store []
unfolding unloaded_owners ends.unloaded ends.wanted_keys
nothing_asked mapped relation place w many is = record { batches = []; whole = none many is; cut = tt; sent = refl }
  where
    none : (many : Bool) → relation.many ≡ many → [] ≡ keys_asked mapped relation place w.own.graph []
    none true is = ap (λ (b : Bool). if b then [] else ends.wanted_keys mapped relation w.own.graph (ends.unloaded w.own.graph place [])) (sym is)
    none false is = ap (λ (b : Bool). if b then keys_of (unloaded_owners w.own.graph place []) else []) (sym is)

pub selectin_asks : (mapped : Mapped) (relation : Relation) (place : RelNo) (owners : List ObjId) (w after : World) → All (IsOwner mapped w.own.graph relation place) owners → Goes (load_selectin mapped place owners) w tt after
    → AsksInBatches (keys_asked mapped relation place w.own.graph owners) (select_of_keys mapped relation) w.store (load_selectin mapped place owners w).events
unfolding load_selectin by_own give
selectin_asks mapped relation place [] w after owned g = nothing_asked mapped relation place w relation.many refl
selectin_asks mapped relation place (first ∷ more) w after owned g =
    let is = (owned 0 first (omega arith)).is in
    subst (λ (named : Relation). AsksInBatches (keys_asked mapped relation place w.own.graph (first ∷ more)) (select_of_keys mapped relation) w.store (load_together mapped named place (first ∷ more) w).events) (sym is)
    (together_asks mapped relation place (first ∷ more) w after relation.many refl (subst (λ (named : Relation). Goes (load_together mapped named place (first ∷ more)) w tt after) is (record { answer = g.answer; leaves = g.leaves })))
