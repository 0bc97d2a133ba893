-- The reading of a preparation, put together of its parts.
use Rattle.std.proofs.Common.{◌≡◌, ℕ, ◌+◌, ◌-◌, ◌<◌, ◌≤◌, Bool, true, false, zero, suc, List, length, drop, get_or, Option, None, Some, Result, Ok, Err, IfErr, refl, sym, ap, subst, ◌∙◌, arith}
use Rattle.std.specs.List.{enumerate_from}
use Rattle.std.proofs.lemmas.Bool.{and_parts}
use Rattle.std.proofs.lemmas.List.FromFn.{get_or-enumerate_from, length-enumerate_from}
use Rattle.base_core.specs.declared.ids.ObjId.{ObjId}
use Rattle.base_core.specs.declared.ids.RelNo.{RelNo}
use Rattle.base_core.specs.declared.refusal.Refusal.{Refusal}
use Rattle.base_core.specs.declared.refusal.Refusal.TheVariants.{Memory}
use Rattle.object_arena.specs.Every.{classes_of}
use Rattle.load_rows.proofs.TakenLemmas.{grows_filled}
use Rattle.class_types.specs.declared.mapped.Relation.{Relation}
use Rattle.class_mapping.specs.Mapped.{Mapped, relations_of}
use Rattle.object_arena.specs.declared.object.Object.{Object}
use Rattle.object_arena.specs.declared.object.State.{State}
use Rattle.object_arena.specs.declared.object.State.TheVariants.{Transient, Pending, Persistent, Deleted, Detached}
use Rattle.object_arena.specs.Graph.{Graph, is_persistent, object_at}
use Rattle.keeper_core.specs.declared.notes.Note.{Note}
use Rattle.keeper_core.specs.Programs.{Run, ◌>>=◌, each}
use Rattle.keeper_core.specs.Beside.{Beside, by_own, moment_beside, told_beside}
use Rattle.keeper_core.specs.Moment.{AsReached, Moment, Reached, Reaches, Runs, Told}
use Rattle.keeper_core.specs.Store.{Store}
use Rattle.keeper_core.proofs.Lifting.{changed, chosen}
use Rattle.keeper_core.proofs.Sequence.{done, each_end, each_err, each_turn, no_memory, reaches_end, reaches_more, then_err, then_ok}
use Rattle.load_filling.specs.Growing.{Grows}
use Rattle.load_filling.proofs.LoadedLemmas.{grows_same}
use Rattle.load_calls.proofs.RowsLemmas.{grows_then}
use Rattle.load_preparing.specs.Refusals.{IsShownAfter}
use Rattle.load_rows.specs.Loading.{Loading, loading}
use Rattle.load_calls.specs.Reading.{World}
use Rattle.load_calls.specs.Refreshing.{IsShownDeleted, Scene, refresh}
use Rattle.load_targets.specs.Targets.{load_lazy}
use Rattle.pair_rows.specs.Pairs.{relations_at}
use Rattle.prepared_objects.specs.Known.{lacks_link, next_unread}
use Rattle.load_preparing.specs.Preparing.{is_to_load, load_if, read_link, read_links, read_most, read_object, read_then, reread}

-- a program of loads without an answer, as a keeper runs it
abbrev pub Loads : {K : Type 0} → (K → Moment Store) → (World → Run World (Unit {0})) → Loading × K → Result (Unit {0}) Refusal → Loading × K → Type 0
Loads moment program before result after = Runs (moment_beside moment) (λ (u : Unit {0}). u) program before result after

persistent_state : (state : State) → is_persistent state ≡ true → state ≡ Persistent
persistent_state Transient h = absurd cc
persistent_state Pending h = absurd cc
persistent_state Persistent h = refl
persistent_state Deleted h = absurd cc
persistent_state Detached h = absurd cc

-- an object that is to load a link is persistent
pub still_persistent : (object : Object) (placed : ℕ × Relation) → is_to_load object placed ≡ true → object.state ≡ Persistent
still_persistent object placed asked = persistent_state object.state (and_parts (is_persistent object.state) (lacks_link object placed) asked).0

-- ---- a link

link_by : {K : Type 0} (moment : K → Moment Store) (mapped : Mapped) (object : ObjId) (placed : ℕ × Relation) (graph : Graph) (b : Bool) {before : List Note} {now : Loading} {old new : K} {r : Result (Unit {0}) Refusal}
    → is_to_load (object_at graph object) placed ≡ b → Loads moment (load_if b mapped object placed) (loading graph before, old) r (now, new)
    → Loads moment (read_link mapped object placed tt) (loading graph before, old) r (now, new)
unfolding read_link
link_by moment mapped object placed graph b {before = before} {now = now} {old = old} {new = new} {r = r} is p =
    chosen moment (λ own. load_if (is_to_load (object_at own.graph object) placed) mapped object placed)
    (subst (λ (c : Bool). Loads moment (load_if c mapped object placed) (loading graph before, old) r (now, new)) (sym is) p)

pub link_held : {K : Type 0} (moment : K → Moment Store) (mapped : Mapped) (object : ObjId) (placed : ℕ × Relation) (graph : Graph) {before : List Note} {keeper : K} → is_to_load (object_at graph object) placed ≡ false
    → Loads moment (read_link mapped object placed tt) (loading graph before, keeper) (Ok tt) (loading graph before, keeper)
link_held moment mapped object placed graph is = link_by moment mapped object placed graph false is (done refl)

pub link_loaded : {K : Type 0} (moment : K → Moment Store) (mapped : Mapped) (object : ObjId) (placed : ℕ × Relation) (graph : Graph) {before : List Note} {now : Loading} {old new : K} {r : Result (Unit {0}) Refusal}
    → is_to_load (object_at graph object) placed ≡ true → (let place : RelNo = record { 0 = placed.0 } in Loads moment (load_lazy mapped object place) (loading graph before, old) r (now, new))
    → Loads moment (read_link mapped object placed tt) (loading graph before, old) r (now, new)
link_loaded moment mapped object placed graph is p = link_by moment mapped object placed graph true is p

-- ---- all links

pub links_chosen : {K : Type 0} (moment : K → Moment Store) (mapped : Mapped) (object : ObjId) (graph : Graph) (relations : List Relation) {before : List Note} {now : Loading} {old new : K} {r : Result (Unit {0}) Refusal}
    → relations ≡ relations_of mapped (object_at graph object).class → Loads moment (each (read_link mapped object) tt (enumerate_from 0 relations)) (loading graph before, old) r (now, new)
    → Loads moment (read_links mapped object) (loading graph before, old) r (now, new)
unfolding read_links
links_chosen moment mapped object graph relations {before = before} {now = now} {old = old} {new = new} {r = r} same p =
    chosen moment (λ own. each (read_link mapped object) tt (relations_at mapped own.graph object))
    (subst (λ (rs : List Relation). Loads moment (each (read_link mapped object) tt (enumerate_from 0 rs)) (loading graph before, old) r (now, new)) same p)

-- the relationship of a number
numbered : (relations : List Relation) (number : ℕ) (relation : Relation) → number < length relations → relation ≡ get_or relations number relation → (number, relation) ≡ get_or (enumerate_from 0 relations) number (number, relation)
numbered relations number relation less is =
    let here : 0 + number ≡ number = omega arith in
    sym (get_or-enumerate_from 0 relations number (number, relation) less ∙ ap (λ (n : ℕ). (n, get_or relations number relation)) here ∙ ap (λ (r : Relation). (number, r)) (sym is))

pub link_turn : {K : Type 0} (moment : K → Moment Store) (mapped : Mapped) (object : ObjId) (relations : List Relation) (number : ℕ) (relation : Relation) {whole : World → Run World (Unit {0})} {old mid new : Loading × K} → number < length relations → relation ≡ get_or relations number relation
    → Reaches (moment_beside moment) whole old (each (read_link mapped object) tt (drop number (enumerate_from 0 relations))) mid → Loads moment (read_link mapped object (number, relation) tt) mid (Ok tt) new
    → Reaches (moment_beside moment) whole old (each (read_link mapped object) tt (drop (number + 1) (enumerate_from 0 relations))) new
link_turn moment mapped object relations number relation less is p q =
    each_turn (read_link mapped object) (enumerate_from 0 relations) number p (rw length-enumerate_from less) (numbered relations number relation less is) q refl

pub link_refused : {K : Type 0} (moment : K → Moment Store) (mapped : Mapped) (object : ObjId) (relations : List Relation) (number : ℕ) (relation : Relation) {whole : World → Run World (Unit {0})} {old mid new : Loading × K} {e : Refusal} → number < length relations → relation ≡ get_or relations number relation
    → Reaches (moment_beside moment) whole old (each (read_link mapped object) tt (drop number (enumerate_from 0 relations))) mid → Loads moment (read_link mapped object (number, relation) tt) mid (Err e) new
    → Loads moment whole old (Err e) new
link_refused moment mapped object relations number relation less is p q =
    each_err (read_link mapped object) (enumerate_from 0 relations) number p (rw length-enumerate_from less) (numbered relations number relation less is) q

pub links_ended : {K : Type 0} (moment : K → Moment Store) (mapped : Mapped) (object : ObjId) (relations : List Relation) (number : ℕ) {whole : World → Run World (Unit {0})} {old mid : Loading × K} → length relations ≤ number
    → Reaches (moment_beside moment) whole old (each (read_link mapped object) tt (drop number (enumerate_from 0 relations))) mid → Loads moment whole old (Ok tt) mid
links_ended moment mapped object relations number ended p = each_end (read_link mapped object) (enumerate_from 0 relations) number p (rw length-enumerate_from ended) refl

-- ---- an object

pub object_read : {K : Type 0} (moment : K → Moment Store) (mapped : Mapped) (object : ObjId) {own mid filled now : Loading} {old kept new : K} {r : Result (Unit {0}) Refusal} → mid ≡ reread object own
    → Loads moment (refresh mapped object) (mid, old) (Ok tt) (filled, kept) → Loads moment (read_links mapped object) (filled, kept) r (now, new)
    → Loads moment (read_object mapped object) (own, old) r (now, new)
unfolding read_object
object_read moment mapped object is p q =
    then_ok (λ u. refresh mapped object >>= λ v. read_links mapped object) (changed {X = Unit {0}} moment (reread object) {x = tt} is) (then_ok (λ v. read_links mapped object) p q)

pub object_refused : {K : Type 0} (moment : K → Moment Store) (mapped : Mapped) (object : ObjId) {own mid now : Loading} {old new : K} {e : Refusal} → mid ≡ reread object own
    → Loads moment (refresh mapped object) (mid, old) (Err e) (now, new) → Loads moment (read_object mapped object) (own, old) (Err e) (now, new)
unfolding read_object
object_refused moment mapped object is p =
    then_ok (λ u. refresh mapped object >>= λ v. read_links mapped object) (changed {X = Unit {0}} moment (reread object) {x = tt} is) (then_err (λ v. read_links mapped object) p)

-- ---- all objects

told_chosen : {S A : Type 0} (whole : Beside S → Run (Beside S) A) (choose : S → Beside S → Run (Beside S) A) (old : Option (Told (Beside S))) (own : S) (told : Option (Told Store))
    → AsReached whole old (by_own choose) (told_beside own told) → AsReached whole old (choose own) (told_beside own told)
unfolding by_own
told_chosen whole choose None own told p = tt
told_chosen whole choose (Some t) own None p = p
told_chosen whole choose (Some t) own (Some k) p = p

-- a program that is left and chosen by what stands beside the keeper
pub reaches_chosen : {S K A : Type 0} (moment : K → Moment Store) {whole : Beside S → Run (Beside S) A} (choose : S → Beside S → Run (Beside S) A) {old : S × K} {own : S} {keeper : K}
    → Reaches (moment_beside moment) whole old (by_own choose) (own, keeper) → Reaches (moment_beside moment) whole old (choose own) (own, keeper)
unfolding moment_beside
reaches_chosen moment {whole = whole} choose {old = old} {own = own} {keeper = keeper} (Reached p) =
    Reached (record { told = told_chosen whole choose (told_beside old.0 (moment old.1).told) own (moment keeper).told p.told; keeps = p.keeps })

turn_left : {K : Type 0} (moment : K → Moment Store) (mapped : Mapped) (most : ℕ) (found : Option ObjId) {whole : World → Run World (Unit {0})} {old : Loading × K} {own : Loading} {keeper : K} → next_unread mapped own.graph ≡ found
    → Reaches (moment_beside moment) whole old (read_most (suc most) mapped) (own, keeper) → Reaches (moment_beside moment) whole old (read_then mapped found (read_most most mapped)) (own, keeper)
unfolding read_most
turn_left moment mapped most found {whole = whole} {old = old} {own = own} {keeper = keeper} is p =
    subst (λ (f : Option ObjId). Reaches (moment_beside moment) whole old (read_then mapped f (read_most most mapped)) (own, keeper)) is
    (reaches_chosen moment (λ (seen : Loading). read_then mapped (next_unread mapped seen.graph) (read_most most mapped)) p)

-- one object more was read
pub turn_read : {K : Type 0} (moment : K → Moment Store) (mapped : Mapped) (turns : ℕ) (object : ObjId) {whole : World → Run World (Unit {0})} {old : Loading × K} {own now : Loading} {keeper new : K} → 0 < turns → next_unread mapped own.graph ≡ Some object
    → Reaches (moment_beside moment) whole old (read_most turns mapped) (own, keeper) → Loads moment (read_object mapped object) (own, keeper) (Ok tt) (now, new)
    → Reaches (moment_beside moment) whole old (read_most (turns - 1) mapped) (now, new)
turn_read moment mapped zero object less is p q = absurd (omega (arith, less))
turn_read moment mapped (suc most) object {whole = whole} {old = old} {now = now} {new = new} less is p q =
    let same : most ≡ suc most - 1 = omega arith in
    subst (λ (n : ℕ). Reaches (moment_beside moment) whole old (read_most n mapped) (now, new)) same (reaches_more (λ u. read_most most mapped) (turn_left moment mapped most (Some object) is p) q)

pub turn_refused : {K : Type 0} (moment : K → Moment Store) (mapped : Mapped) (turns : ℕ) (object : ObjId) {whole : World → Run World (Unit {0})} {old : Loading × K} {own now : Loading} {keeper new : K} {e : Refusal} → 0 < turns → next_unread mapped own.graph ≡ Some object
    → Reaches (moment_beside moment) whole old (read_most turns mapped) (own, keeper) → Loads moment (read_object mapped object) (own, keeper) (Err e) (now, new)
    → Loads moment whole old (Err e) (now, new)
turn_refused moment mapped zero object less is p q = absurd (omega (arith, less))
turn_refused moment mapped (suc most) object less is p q = reaches_end (turn_left moment mapped most (Some object) is p) (then_err (λ u. read_most most mapped) q)

-- nothing is left to be read
pub turn_done : {K : Type 0} (moment : K → Moment Store) (mapped : Mapped) (turns : ℕ) {whole : World → Run World (Unit {0})} {old : Loading × K} {own : Loading} {keeper : K} → 0 < turns → next_unread mapped own.graph ≡ None
    → Reaches (moment_beside moment) whole old (read_most turns mapped) (own, keeper) → Loads moment whole old (Ok tt) (own, keeper)
turn_done moment mapped zero less is p = absurd (omega (arith, less))
turn_done moment mapped (suc most) less is p = reaches_end (turn_left moment mapped most None is p) (done refl)

-- no turn is left
pub turns_ended : {K : Type 0} (moment : K → Moment Store) (mapped : Mapped) (turns : ℕ) {whole : World → Run World (Unit {0})} {old : Loading × K} {own : Loading} {keeper : K}
    → turns ≤ 0 → Reaches (moment_beside moment) whole old (read_most turns mapped) (own, keeper) → Loads moment whole old (Ok tt) (own, keeper)
unfolding read_most
turns_ended moment mapped zero ended p = reaches_end p (done refl)
turns_ended moment mapped (suc most) ended p = absurd (omega (arith, ended))

-- ---- refusals

-- what shows a refusal shows it after what came before
pub shown_later : (mapped : Mapped) (object : ObjId) (old mid new : Scene) (e : Refusal) → Grows old.0.graph mid.0.graph → IsShownAfter mapped object mid new e → IsShownAfter mapped object old new e
shown_later mapped object old mid new e grows shown = record { scene = shown.scene; since = grows_then old.0.graph mid.0.graph shown.scene.0.graph grows shown.since; shown = shown.shown }

pub shown_here : (mapped : Mapped) (object : ObjId) (old new : Scene) (e : Refusal) → IsShownDeleted mapped object old new e → IsShownAfter mapped object old new e
shown_here mapped object old new e shown = record { scene = old; since = grows_same old.0.graph old.0.graph refl; shown = shown }

pub if_shown : {A : Type 0} (mapped : Mapped) (object : ObjId) (old new : Scene) (r : Result A Refusal) → IfErr r (IsShownDeleted mapped object old new) → IfErr r (IsShownAfter mapped object old new)
if_shown mapped object old new (Ok x) shown = tt
if_shown mapped object old new (Err e) shown = shown_here mapped object old new e shown

pub if_shown_later : {A : Type 0} (mapped : Mapped) (object : ObjId) (old mid new : Scene) (r : Result A Refusal) → Grows old.0.graph mid.0.graph → IfErr r (IsShownAfter mapped object mid new) → IfErr r (IsShownAfter mapped object old new)
if_shown_later mapped object old mid new (Ok x) grows shown = tt
if_shown_later mapped object old mid new (Err e) grows shown = shown_later mapped object old mid new e grows shown

pub memory_shown : (mapped : Mapped) (object : ObjId) (old new : Scene) → IsShownAfter mapped object old new Memory
memory_shown mapped object old new = shown_here mapped object old new Memory tt

pub same_grow : (old new : Graph) → classes_of new ≡ classes_of old → Grows old new
same_grow old new same = grows_filled old old new (grows_same old old refl) same

-- ---- where memory ran out

pub memory_same : {K : Type 0} (moment : K → Moment Store) (program : World → Run World (Unit {0})) {own now : Loading} {keeper : K} → now ≡ own → Loads moment program (own, keeper) (Err Memory) (now, keeper)
memory_same moment program {own = own} {keeper = keeper} same = subst (λ (seen : Loading). Loads moment program (own, keeper) (Err Memory) (seen, keeper)) (sym same) no_memory

pub memory_in_turn : {K : Type 0} (moment : K → Moment Store) {whole rest : World → Run World (Unit {0})} {old mid : Loading × K} → Reaches (moment_beside moment) whole old rest mid → Loads moment whole old (Err Memory) mid
memory_in_turn moment p = reaches_end p no_memory
