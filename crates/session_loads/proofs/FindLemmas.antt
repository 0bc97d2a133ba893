-- An object that the identity map has for a key.
use Rattle.std.proofs.Common.{◌≡◌, true, ◌&&◌, ◌==◌, List, Option, Result, subst}
use Rattle.std.proofs.lemmas.Bool.{and_parts}
use Rattle.base_core.specs.declared.ids.ClassId.{ClassId}
use Rattle.base_core.specs.declared.ids.ObjId.{ObjId}
use Rattle.base_core.specs.declared.value.Value.{Value}
use Rattle.base_core.specs.declared.refusal.Refusal.{Refusal}
use Rattle.class_mapping.specs.Mapped.{root_of}
use Rattle.keeper_core.specs.Store.{Store}
use Rattle.keeper_core.specs.Moment.{Moment}
use Rattle.object_arena.specs.declared.object.State.TheVariants.{Persistent}
use Rattle.object_arena.specs.Graph.{Graph, IsObject, is_persistent, object_at, root_at}
use Rattle.object_arena.specs.Identity.{find_identity, has_key, holds}
use Rattle.object_parts.proofs.Expiries.{persistent_is}
use Rattle.session_scopes.specs.SessionState.{SessionState}
use Rattle.session_calls.specs.Calling.{IsSessionCall}
use Rattle.session_calls.proofs.Joining.{chosen_call}
use Rattle.session_loads.specs.Reads.{find_by_key, found_for}

-- it is persistent
found_here : (graph : Graph) (root : ClassId) (key : List Value) (object : ObjId) → holds root key (object_at graph object, root_at graph object) ≡ true → (object_at graph object).state ≡ Persistent
found_here graph root key object held =
    persistent_is (object_at graph object).state (and_parts (is_persistent (object_at graph object).state) ((root_at graph object).0 == root.0 && has_key key (object_at graph object).identity) held).0

-- in the objects of a session
pub found_at : (arena graph : Graph) (root : ClassId) (key : List Value) (object : ObjId) → arena ≡ graph → IsObject arena object → holds root key (object_at arena object, root_at arena object) ≡ true → IsObject graph object × ((object_at graph object).state ≡ Persistent)
found_at arena graph root key object is made held = subst (λ (g : Graph). IsObject g object × ((object_at g object).state ≡ Persistent)) is (made, found_here arena root key object held)

-- what is done by what was found
pub found_by : {K : Type 0} (moment : K → Moment Store) (class : ClassId) (key : List Value) (found : Option ObjId) {own now : SessionState} {old new : K} {r : Result (Option ObjId) Refusal} → found ≡ find_identity own.graph (root_of own.mapping class) key
    → IsSessionCall moment (λ (f : Option ObjId). f) (found_for class key found) (own, old) r (now, new) → IsSessionCall moment (λ (f : Option ObjId). f) (find_by_key class key) (own, old) r (now, new)
unfolding find_by_key
found_by moment class key found {own = own} {now = now} {old = old} {new = new} {r = r} is p =
    chosen_call moment (λ session. found_for class key (find_identity session.graph (root_of session.mapping class) key))
    (subst (λ (f : Option ObjId). IsSessionCall moment (λ (f : Option ObjId). f) (found_for class key f) (own, old) r (now, new)) is p)
