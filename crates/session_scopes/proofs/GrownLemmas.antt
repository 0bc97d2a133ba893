-- Objects that a load made stand behind those that there were.
use Rattle.std.proofs.Common.{◌≡◌, ℕ, ◌+◌, ◌<◌, ◌≤◌, Bool, true, List, length, map, get_or, refl, sym, ap, ◌∙◌, ⊎_elim, arith}
use Rattle.std.specs.List.{All}
use Rattle.std.proofs.lemmas.Bool.{cases_lt}
use Rattle.std.proofs.lemmas.List.{get_or-map, get_or_append_left, get_or_past, length-append, length-map}
use Rattle.base_core.specs.declared.ids.ClassId.{ClassId}
use Rattle.class_mapping.specs.Mapped.{Mapped}
use Rattle.object_arena.specs.declared.object.Object.{Object}
use Rattle.object_arena.specs.Graph.{Graph, no_class_id, no_object, place_of}
use Rattle.object_arena.specs.Fit.{IsFit, identity_fits}
use Rattle.object_arena.specs.Every.{classes_of}
use Rattle.load_filling.specs.Growing.{Grows}
use Rattle.savepoints.specs.declared.scope.Scope.{Scope}
use Rattle.savepoints.specs.Scopes.{HasKeys, made_since, standing_at}
use Rattle.session_scopes.specs.Handles.{Drawn}
use Rattle.session_scopes.specs.SessionState.{AreThereStill, IsSession}

pub grown_long : (old new : Graph) → Grows old new → length old.objects ≤ length new.objects
unfolding classes_of
grown_long old new grows =
    let long : length new.objects ≡ length old.objects + length grows.classes =
    sym (length-map new.objects (λ (o : Object). o.class)) ∙ ap (λ (xs : List ClassId). length xs) grows.longer ∙ length-append (map (λ (o : Object). o.class) old.objects) grows.classes
    ∙ ap (λ (n : ℕ). n + length grows.classes) (length-map old.objects (λ (o : Object). o.class)) in
    omega (arith, long)

-- an object that was there has its class still
pub grown_class : (old new : Graph) (i : ℕ) → Grows old new → i < length old.objects → (get_or new.objects i no_object).class ≡ (get_or old.objects i no_object).class
unfolding classes_of
grown_class old new i grows less =
    let class_of : Object → ClassId = λ o. o.class in
    let inside : i < length new.objects = omega (arith, less, grown_long old new grows) in
    let before : i < length (map class_of old.objects) = omega (arith, less, length-map old.objects class_of) in
    sym (get_or-map class_of new.objects i no_object no_class_id inside)
    ∙ ap (λ (xs : List ClassId). get_or xs i no_class_id) grows.longer
    ∙ get_or_append_left (map class_of old.objects) grows.classes no_class_id i before
    ∙ get_or-map class_of old.objects i no_object no_class_id less

-- each object is there still, of its class
pub there_grown : (old new : Graph) → Grows old new → AreThereStill old new
there_grown old new grows object made =
    ((made.0, omega (arith, made.1, grown_long old new grows)), grown_class old new (place_of object) grows (omega (arith, made.0, made.1)))

-- what was made since the scope's start had no key then
pub keys_grown : (mapped : Mapped) (old new : Graph) (scope : Scope) → Grows old new → HasKeys mapped old scope → HasKeys mapped new scope
keys_grown mapped old new scope grows has = record {
  few = omega (arith, has.few, grown_long old new grows);
  keys = λ place less.
      ⊎_elim
      (λ (inside : place < length old.objects).
      ap (λ (class : ClassId). identity_fits mapped class (standing_at scope place).identity) (grown_class old new place grows inside) ∙ has.keys place inside)
      (λ (past : length old.objects ≤ place).
      let since : standing_at scope place ≡ made_since = get_or_past scope.standings place made_since (omega (arith, has.few, past)) in
      rw since refl)
      (cases_lt place (length old.objects));
}

-- a load made objects, and the scopes stay
pub session_grown : (mapped : Mapped) (old new : Graph) (scopes : List Scope) (failed : Bool) (drawn : Drawn) → IsFit mapped new → Grows old new → IsSession mapped old scopes failed drawn → IsSession mapped new scopes failed drawn
session_grown mapped old new scopes failed drawn fit grows session = record {
  fit = fit;
  keys = λ k d less. keys_grown mapped old new (get_or scopes k d) grows (session.keys k d less);
  handled = session.handled;
}
