-- Parts of lists of objects.
use Rattle.std.proofs.Common.{◌≡◌, ℕ, Bool, true, false, cond, List, [], ◌∷◌, take, Result, Ok, Err, IfOk, refl, sym, subst}
use Rattle.std.specs.List.{All, filter}
use Rattle.std.proofs.lemmas.List.Elements.{All-cons, All-filter, All-nil, All-take}
use Rattle.base_core.specs.declared.ids.ObjId.{ObjId}
use Rattle.class_mapping.specs.Mapped.{Mapped}
use Rattle.object_arena.specs.declared.object.State.{State}
use Rattle.object_arena.specs.declared.object.State.TheVariants.{Transient, Pending, Persistent, Deleted, Detached}
use Rattle.object_arena.specs.Graph.{Graph, IsObject, is_persistent, object_at}
use Rattle.cascades.specs.declared.closures.Flag.{Flag}
use Rattle.cascades.specs.Reaching.{IsReach}

-- what was made is so in each part
pub part_made : (graph : Graph) (p : ObjId → Bool) (part objects : List ObjId) (n : ℕ) → part ≡ filter p (take n objects) → All (IsObject graph) objects → All (IsObject graph) part
part_made graph p part objects n is made = subst (All (IsObject graph)) (sym is) (All-filter p (IsObject graph) (take n objects) (All-take (IsObject graph) n objects made))

persistent_state : (state : State) → is_persistent state ≡ true → state ≡ Persistent
persistent_state Transient h = absurd cc
persistent_state Pending h = absurd cc
persistent_state Persistent h = refl
persistent_state Deleted h = absurd cc
persistent_state Detached h = absurd cc

-- the persistent ones are persistent
kept_persistent : (graph : Graph) (objects : List ObjId) → All (λ (object : ObjId). (object_at graph object).state ≡ Persistent) (filter (λ object. is_persistent (object_at graph object).state) objects)
kept_persistent graph [] = All-nil (λ (object : ObjId). (object_at graph object).state ≡ Persistent)
kept_persistent graph (object ∷ objects) = by (is_persistent (object_at graph object).state) refl (kept_persistent graph objects)
  where
    rest : List ObjId
    rest = filter (λ other. is_persistent (object_at graph other).state) objects

    by : (b : Bool) → is_persistent (object_at graph object).state ≡ b → All (λ (other : ObjId). (object_at graph other).state ≡ Persistent) rest → All (λ (other : ObjId). (object_at graph other).state ≡ Persistent) (cond b (object ∷ rest) rest)
    by true is all = All-cons (λ (other : ObjId). (object_at graph other).state ≡ Persistent) object rest (persistent_state (object_at graph object).state is) all
    by false is all = all

pub part_persistent : (graph : Graph) (part objects : List ObjId) → part ≡ filter (λ object. is_persistent (object_at graph object).state) objects → All (λ (object : ObjId). (object_at graph object).state ≡ Persistent) part
part_persistent graph part objects is = subst (All (λ (object : ObjId). (object_at graph object).state ≡ Persistent)) (sym is) (kept_persistent graph objects)

-- what is reached was made
pub reach_made : {E : Type 0} (flag : Flag) (mapped : Mapped) (graph : Graph) (starts : List ObjId) (r : Result (List ObjId) E) → IfOk r (IsReach flag mapped graph starts) → IfOk r (All (IsObject graph))
reach_made flag mapped graph starts (Ok set) is = is.objects
reach_made flag mapped graph starts (Err e) is = tt
