-- Objects that go into other states.
use Rattle.std.proofs.Common.{◌≡◌, ℕ, ◌<◌, Bool, true, false, List, length, get_or, refl, sym, ap, ◌∙◌, subst}
use Rattle.std.specs.Prelude.{not, ◌&&◌, Option, None, is_some, if◌then◌else◌}
use Rattle.std.specs.Option.{unwrap_or}
use Rattle.std.proofs.lemmas.List.{get_or_default, length-map}
use Rattle.base_core.specs.declared.ids.ObjId.{ObjId}
use Rattle.base_core.specs.declared.value.Value.{Value}
use Rattle.object_arena.specs.declared.object.Object.{Object}
use Rattle.object_arena.specs.declared.object.State.{State}
use Rattle.object_arena.specs.declared.object.State.TheVariants.{Transient, Pending, Persistent, Deleted, Detached}
use Rattle.object_arena.specs.Graph.{Graph, has_identity, is_persistent, object_at, put_back_object, settled_cell, settled_link, with_object}
use Rattle.object_arena.specs.Identity.{is_identified}
use Rattle.object_arena.proofs.TurnLemmas.{with_same}
use Rattle.object_records.specs.Way.{aside, aside_for, aside_if, stood}

-- ---- what an object in another state has

pub stood_class : (state : State) (identity : Option (List Value)) (object : Object) → (stood state identity object).class ≡ object.class
stood_class Transient identity object = refl
stood_class Pending identity object = refl
stood_class Persistent identity object = refl
stood_class Deleted identity object = refl
stood_class Detached identity object = refl

pub stood_cells : (state : State) (identity : Option (List Value)) (object : Object) → length (stood state identity object).cells ≡ length object.cells
stood_cells Transient identity object = length-map object.cells settled_cell
stood_cells Pending identity object = refl
stood_cells Persistent identity object = refl
stood_cells Deleted identity object = refl
stood_cells Detached identity object = refl

pub stood_links : (state : State) (identity : Option (List Value)) (object : Object) → length (stood state identity object).links ≡ length object.links
stood_links Transient identity object = length-map object.links settled_link
stood_links Pending identity object = refl
stood_links Persistent identity object = refl
stood_links Deleted identity object = refl
stood_links Detached identity object = refl

-- ---- the ways into a state

stood_kept : (state : State) (identity : Option (List Value)) (object : Object) → is_persistent state ≡ true → record object { state = Persistent; identity = identity } ≡ stood state identity object
stood_kept Transient identity object is = absurd cc
stood_kept Pending identity object is = absurd cc
stood_kept Persistent identity object is = refl
stood_kept Deleted identity object is = absurd cc
stood_kept Detached identity object is = absurd cc

stood_back : (state : State) (identity : Option (List Value)) (object : Object) → is_persistent state ≡ false → put_back_object object state identity ≡ stood state identity object
stood_back Transient identity object is = refl
stood_back Pending identity object is = refl
stood_back Persistent identity object is = absurd cc
stood_back Deleted identity object is = refl
stood_back Detached identity object is = refl

-- an object that is put into a state where it is to be persistent
pub put_kept : (graph new : Graph) (object : ObjId) (state : State) (identity : Option (List Value)) → is_persistent state ≡ true
    → new ≡ with_object graph object (record (object_at graph object) { state = Persistent; identity = identity }) → new ≡ with_object graph object (stood state identity (object_at graph object))
put_kept graph new object state identity is write = write ∙ ap (with_object graph object) (stood_kept state identity (object_at graph object) is)

-- and where it is not
pub put_back : (graph new : Graph) (object : ObjId) (state : State) (identity : Option (List Value)) → is_persistent state ≡ false
    → new ≡ with_object graph object (put_back_object (object_at graph object) state identity) → new ≡ with_object graph object (stood state identity (object_at graph object))
put_back graph new object state identity is write = write ∙ ap (with_object graph object) (stood_back state identity (object_at graph object) is)

state_kept : (state : State) → is_persistent state ≡ true → Persistent ≡ state
state_kept Transient is = absurd cc
state_kept Pending is = absurd cc
state_kept Persistent is = refl
state_kept Deleted is = absurd cc
state_kept Detached is = absurd cc

-- an object that stays persistent under its identity
pub stays_kept : (graph : Graph) (object : ObjId) (identity : Option (List Value)) → is_persistent (object_at graph object).state ≡ true → identity ≡ (object_at graph object).identity
    → graph ≡ with_object graph object (record (object_at graph object) { state = Persistent; identity = identity })
stays_kept graph object identity is same =
    let it : Object = object_at graph object in
    sym (with_same graph object)
    ∙ ap (with_object graph object) (sym (ap (λ (state : State). record it { state = state }) (state_kept it.state is) ∙ refl))
    ∙ ap (λ (own : Option (List Value)). with_object graph object (record it { state = Persistent; identity = own })) (sym same)

-- ---- stepping aside

-- a persistent object has an identity
pub identity_there : (object : Object) → is_identified object ≡ true → is_persistent object.state ≡ true → is_some object.identity ≡ true
identity_there object identified is =
    let P : State → Type 0 = λ state. (if has_identity state then is_some object.identity else not (is_some object.identity)) ≡ true in
    subst P (sym (state_kept object.state is)) identified

pub aside_none : (graph : Graph) (object : ObjId) (leaves : Bool) → leaves ≡ false → graph ≡ with_object graph object (aside_if leaves (object_at graph object))
aside_none graph object leaves is = sym (with_same graph object) ∙ ap (λ (b : Bool). with_object graph object (aside_if b (object_at graph object))) (sym is)

pub aside_one : (graph new : Graph) (object : ObjId) (leaves : Bool) → leaves ≡ true → new ≡ with_object graph object (put_back_object (object_at graph object) Detached (object_at graph object).identity)
    → new ≡ with_object graph object (aside_if leaves (object_at graph object))
aside_one graph new object leaves is write = write ∙ ap (λ (b : Bool). with_object graph object (aside_if b (object_at graph object))) (sym is)

-- by the record at a place
pub aside_at : (records : List (Option Object)) (i : ℕ) (it : Option Object) (object : Object) → it ≡ get_or records i it → i < length records → aside_for (unwrap_or it object) object ≡ aside records i object
aside_at records i it object at within = ap (λ (r : Option Object). aside_for (unwrap_or r object) object) (at ∙ get_or_default records i it None within)

aside_never : (persistent : Bool) (object : Object) → aside_if (persistent && not persistent) object ≡ object
aside_never true object = refl
aside_never false object = refl

-- an object that stays what it is does not step aside
pub aside_itself : (object : Object) → aside_for object object ≡ object
aside_itself object = aside_never (is_persistent object.state) object

-- an object that gets no record stays as it is
pub aside_unless : (graph : Graph) (object : ObjId) → graph ≡ with_object graph object (aside_for (object_at graph object) (object_at graph object))
aside_unless graph object = sym (ap (with_object graph object) (aside_itself (object_at graph object)) ∙ with_same graph object)

pub stays_there : (graph : Graph) (object : ObjId) → graph ≡ with_object graph object (object_at graph object)
stays_there graph object = sym (with_same graph object)

pub ruleset stays = (aside_unless, stays_there)

agreed : (a b : Bool) → (if a then b else not b) ≡ true → a ≡ b
agreed true true h = refl
agreed true false h = absurd cc
agreed false true h = absurd cc
agreed false false h = refl

-- a state comes with an identity exactly where it has one
pub state_told : (object : Object) → is_identified object ≡ true → has_identity object.state ≡ is_some object.identity
state_told object h = agreed (has_identity object.state) (is_some object.identity) h

pub ruleset told = (state_told)

pub ruleset states = (put_kept, put_back, stays_kept, aside_none, aside_one, identity_there)
