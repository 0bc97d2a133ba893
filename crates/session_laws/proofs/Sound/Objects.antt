-- The calls on single objects keep a session sound.
use Rattle.std.proofs.Common.{◌≡◌, ◌≢◌, ℕ, ◌<◌, Bool, true, false, not, length, get_or, Option, None, Some, refl, sym, ap, ◌∙◌, subst, ⊎_elim, arith}
use Rattle.std.specs.Prelude.{if◌then◌else◌, slice_set}
use Rattle.std.proofs.lemmas.Bool.{cases_eq}
use Rattle.std.proofs.lemmas.List.{get_or-set_other, get_or-set_same, get_or_default, length-set}
use Rattle.base_core.specs.declared.ids.AttrNo.{AttrNo}
use Rattle.base_core.specs.declared.ids.ObjId.{ObjId}
use Rattle.base_core.specs.declared.value.Value.{Value}
use Rattle.base_core.specs.declared.refusal.Refusal.{Refusal}
use Rattle.base_core.specs.declared.refusal.Refusal.TheVariants.{InvalidRequestError}
use Rattle.base_core.specs.declared.refusal.RequestKind.TheVariants.{NotPersistent}
use Rattle.object_arena.specs.declared.object.Cell.{Cell}
use Rattle.object_arena.specs.declared.object.Object.{Object}
use Rattle.object_arena.specs.Graph.{Graph, IsObject, cell_in, cell_put, expired_cell, is_persistent, key_fault, no_object, object_at, place_of, value_fault, with_object, with_value}
use Rattle.object_arena.specs.Identity.{IsGraph}
use Rattle.object_arena.proofs.GraphLemmas.{graph_kept}
use Rattle.class_mapping.specs.Mapped.{Mapped}
use Rattle.keeper_core.specs.Store.{Store}
use Rattle.keeper_core.specs.Beside.{on_own}
use Rattle.schema_core.specs.Tables.{Tables}
use Rattle.session_parts.specs.Depths.{has_scope}
use Rattle.session_scopes.specs.Changes.{delete_fault, deletion_marked, value_put}
use Rattle.session_scopes.specs.SessionState.{SessionState}
use Rattle.session_calls.specs.Steps.{delete, set_cell, set_fitting}
use Rattle.session_laws.specs.Sound.{IsFresh, IsMarkedRight, IsSound, KeepsSoundOf}
use Rattle.session_laws.proofs.Sound.Changes.{object_of, one_changed}
use Rattle.session_laws.proofs.Sound.Programs.{checked_then, entered_then, own_sound, unless_changed}

-- an object that stands as it stood leaves one object for each key
pub stands_kept : (graph : Graph) (object : ObjId) (new : Object) → IsObject graph object → IsGraph graph.objects graph.roots → new.state ≡ (object_at graph object).state → new.identity ≡ (object_at graph object).identity → IsGraph (slice_set graph.objects (place_of object) new) graph.roots
stands_kept graph object new made is state identity =
    let within : place_of object < length graph.objects = omega (arith, made.0, made.1) in
    graph_kept graph.objects graph.roots (place_of object) (object_at graph object) new is within (get_or_default graph.objects (place_of object) no_object (object_at graph object) within) state identity

pub made_there : (old new : Graph) (object : ObjId) → new ≡ old → IsObject old object → IsObject new object
made_there old new object is made = subst (λ (g : Graph). IsObject g object) (sym is) made

-- ---- a cell gets a value

-- its base stays
pub base_kept : (o : Object) (attr other : AttrNo) (value : Value) → other.0 < length o.cells → (cell_in (cell_put o attr (record (cell_in o attr) { value = Some value })) other).base ≡ (cell_in o other).base
base_kept o attr other value less =
    let put : Cell = record (cell_in o attr) { value = Some value } in
    ⊎_elim
    (λ (same : other.0 ≡ attr.0).
    let within : attr.0 < length o.cells = omega (arith, less, same) in
    ap (λ (n : ℕ). (get_or (slice_set o.cells attr.0 put) n expired_cell).base) same
    ∙ ap (λ (c : Cell). c.base) (get_or-set_same o.cells attr.0 put expired_cell within)
    ∙ sym (ap (λ (n : ℕ). (get_or o.cells n expired_cell).base) same))
    (λ (apart : other.0 ≢ attr.0). ap (λ (c : Cell). c.base) (get_or-set_other o.cells attr.0 other.0 put expired_cell apart))
    (cases_eq other.0 attr.0)

pub cells_long : (o : Object) (attr : AttrNo) (cell : Cell) → length (cell_put o attr cell).cells ≡ length o.cells
cells_long o attr cell = length-set o.cells attr.0 cell

put_fresh : (mapped : Mapped) (tables : Tables) (o : Object) (attr : AttrNo) (value : Value) → IsFresh mapped tables o → IsFresh mapped tables (cell_put o attr (record (cell_in o attr) { value = Some value }))
put_fresh mapped tables o attr value fresh persists other less base is =
    let within : other.0 < length o.cells = omega (arith, less, cells_long o attr (record (cell_in o attr) { value = Some value })) in
    fresh persists other within base (sym (base_kept o attr other value within) ∙ is)

value_sound : (object : ObjId) (attr : AttrNo) (value : Value) (own : SessionState) (store : Store) → IsObject own.graph object → has_scope own.frames.scopes ≡ true → IsSound (record { own = own; store = store })
    → IsSound (record { own = (value_put object attr value own).after; store = store })
unfolding value_put
value_sound object attr value own store made opened sound =
    let o : Object = object_at own.graph object in
    let new : Object = cell_put o attr (record (cell_in o attr) { value = Some value }) in
    unless_changed (key_fault own.mapping o attr) (with_value own.graph object attr value) own store sound
    (λ none. one_changed own store object new opened made (stands_kept own.graph object new made sound.graph refl refl)
    (put_fresh own.mapping store.tables o attr value (object_of (IsFresh own.mapping store.tables) own.graph object made sound.fresh))
    (object_of IsMarkedRight own.graph object made sound.marked) sound)

pub set_sound : (attr : AttrNo) (value : Value) → KeepsSoundOf (λ object. set_cell object attr value)
unfolding set_cell
set_sound attr value object w made sound =
    checked_then (λ session. value_fault session.mapping (object_at session.graph object) attr value) (λ u. set_fitting object attr value) w sound
    (λ u none. entered_then (λ u. on_own (value_put object attr value)) w sound
    (λ u v graph opened entered. own_sound (value_put object attr value) v (value_sound object attr value v.own v.store (made_there w.own.graph v.own.graph object graph made) opened entered)))

-- ---- a delete mark

first_passed : (b : Bool) (first : Refusal) (second : Option Refusal) → (if not b then Some first else second) ≡ None → b ≡ true
first_passed true first second h = refl
first_passed false first second h = absurd cc

mark_sound : (object : ObjId) (own : SessionState) (store : Store) → IsObject own.graph object → has_scope own.frames.scopes ≡ true → IsSound (record { own = own; store = store })
    → IsSound (record { own = (deletion_marked object own).after; store = store })
unfolding deletion_marked
mark_sound object own store made opened sound =
    let o : Object = object_at own.graph object in
    let new : Object = record o { marked = true } in
    unless_changed (delete_fault o) (with_object own.graph object new) own store sound
    (λ none. one_changed own store object new opened made (stands_kept own.graph object new made sound.graph refl refl)
    (object_of (IsFresh own.mapping store.tables) own.graph object made sound.fresh)
    (λ is. first_passed (is_persistent o.state) (InvalidRequestError NotPersistent) None none) sound)

pub delete_sound : KeepsSoundOf delete
unfolding delete
delete_sound object w made sound =
    entered_then (λ u. on_own (deletion_marked object)) w sound
    (λ u v graph opened entered. own_sound (deletion_marked object) v (mark_sound object v.own v.store (made_there w.own.graph v.own.graph object graph made) opened entered))
