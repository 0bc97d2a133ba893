-- An object that is expired, and one that stays.
use Rattle.std.proofs.Common.{◌≡◌, Bool, true, false, refl, sym, ap, ◌∙◌}
use Rattle.base_core.specs.declared.ids.ObjId.{ObjId}
use Rattle.object_arena.specs.declared.object.State.{State}
use Rattle.object_arena.specs.declared.object.State.TheVariants.{Transient, Pending, Persistent, Deleted, Detached}
use Rattle.object_arena.specs.Graph.{Graph, expired_object, is_persistent, object_at, with_object}
use Rattle.object_arena.proofs.TurnLemmas.{with_same}
use Rattle.object_parts.specs.Expired.{expired_if}

pub persistent_is : (state : State) → is_persistent state ≡ true → state ≡ Persistent
persistent_is Transient is = absurd cc
persistent_is Pending is = absurd cc
persistent_is Persistent is = refl
persistent_is Deleted is = absurd cc
persistent_is Detached is = absurd cc

pub expired_put : (graph new : Graph) (object : ObjId) (is_read : Bool) → is_read ≡ true → new ≡ with_object graph object (expired_object (object_at graph object)) → new ≡ with_object graph object (expired_if is_read (object_at graph object))
expired_put graph new object is_read is put = put ∙ ap (λ (b : Bool). with_object graph object (expired_if b (object_at graph object))) (sym is)

pub expired_not : (graph : Graph) (object : ObjId) (is_read : Bool) → is_read ≡ false → graph ≡ with_object graph object (expired_if is_read (object_at graph object))
expired_not graph object is_read is = sym (with_same graph object) ∙ ap (λ (b : Bool). with_object graph object (expired_if b (object_at graph object))) (sym is)

pub ruleset expiries = (persistent_is, expired_put, expired_not)
