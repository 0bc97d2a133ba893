-- The objects of rows, in order.
use Rattle.std.proofs.Common.{◌≡◌, ◌-◌, ◌<◌, ◌≤◌, Bool, true, false, ◌&&◌, nat_lt, List, [], ◌∷◌, ◌++◌, length, Option, None, Some, Result, Ok, Err, IfErr, OnOk, refl, sym, ap, subst, ◌∙◌, arith, append_assoc}
use Rattle.std.specs.Prelude.{slice_get}
use Rattle.std.specs.List.{All}
use Rattle.std.proofs.lemmas.Bool.{and_parts, eq-eqb, lt-ltb}
use Rattle.std.proofs.lemmas.List.{length-map}
use Rattle.std.proofs.lemmas.List.Elements.{All-from_recursion, recursion_from_All}
use Rattle.std.proofs.lemmas.Option.{slice_get-get_or, slice_get_within}
use Rattle.base_core.proofs.Lists.{every_append, get_before}
use Rattle.base_core.specs.declared.ids.ClassId.{ClassId}
use Rattle.base_core.specs.declared.ids.ObjId.{ObjId}
use Rattle.base_core.specs.declared.value.Value.{Value}
use Rattle.base_core.specs.declared.refusal.Refusal.{Refusal}
use Rattle.base_core.specs.declared.refusal.Refusal.TheVariants.{Memory}
use Rattle.class_mapping.specs.Mapped.{Mapped, root_of}
use Rattle.object_arena.specs.declared.object.Object.{Object}
use Rattle.object_arena.specs.Every.{classes_of}
use Rattle.object_arena.specs.Fit.{IsFit, is_of_root, is_root}
use Rattle.object_arena.specs.Graph.{Graph, IsObject, no_class_id, place_of, root_at}
use Rattle.keeper_core.specs.Alone.{IsQuiet, alone}
use Rattle.keeper_core.specs.Moment.{Reaches, Runs}
use Rattle.keeper_core.specs.Programs.{each, give}
use Rattle.keeper_core.proofs.AloneLemmas.{lost_alone, quietly_alone}
use Rattle.keeper_core.proofs.Sequence.{done, reaches_start, then_err, then_ok}
use Rattle.load_filling.specs.Growing.{Grows}
use Rattle.load_rows.specs.Loading.{Loading, take_row}
use Rattle.load_rows.proofs.LinkLemmas.{AreOf}
use Rattle.load_calls.specs.Collections.{take_next, take_rows}

-- ---- the programs

-- the object of a row was taken, and goes behind the others
pub next_taken : (mapped : Mapped) (class : ClassId) (values : List Value) (objects new : List ObjId) (own mid : Loading) (object : ObjId) (r : Result (Unit {0}) Refusal) → IsQuiet (λ (o : ObjId). o) (take_row mapped class values own) (Ok object) mid
    → OnOk r (new ≡ objects ++ object ∷ []) → IfErr r (λ e. e ≡ Memory) → Runs alone (λ (u : Unit {0}). new) (take_next mapped class values objects) own r mid
next_taken mapped class values objects new own mid object (Ok u) taken is cause =
    then_ok (λ (o : ObjId). give (objects ++ o ∷ [])) (quietly_alone {v = λ (o : ObjId). o} (take_row mapped class values) {r = Ok object} taken) (done (sym is))
next_taken mapped class values objects new own mid object (Err e) taken is cause = lost_alone cause

-- it was refused
pub next_refused : {X : Type 0} (v : X → List ObjId) (mapped : Mapped) (class : ClassId) (values : List Value) (objects : List ObjId) (own mid : Loading) (e : Refusal) → IsQuiet {X = ObjId} (λ (o : ObjId). o) (take_row mapped class values own) (Err e) mid
    → Runs alone v (take_next mapped class values objects) own (Err e) mid
next_refused v mapped class values objects own mid e refused =
    then_err (λ (o : ObjId). give (objects ++ o ∷ [])) (quietly_alone {v = λ (o : ObjId). o} (take_row mapped class values) {r = Err e} refused)

from_none : (mapped : Mapped) (class : ClassId) (rows : List (List Value)) (own : Loading) → Reaches alone (take_rows mapped class rows) own (each (take_next mapped class) [] rows) own
unfolding take_rows
from_none mapped class rows own = reaches_start

-- the loop over rows begins with no objects
pub rows_start : (mapped : Mapped) (class : ClassId) (rows : List (List Value)) (own : Loading) (objects : List ObjId) → objects ≡ [] → Reaches alone (take_rows mapped class rows) own (each (take_next mapped class) objects rows) own
rows_start mapped class rows own objects none =
    subst (λ (xs : List ObjId). Reaches alone (take_rows mapped class rows) own (each (take_next mapped class) xs rows) own) (sym none) (from_none mapped class rows own)

pub none_of : (roots : List ClassId) (root : ClassId) (objects : List ObjId) → objects ≡ [] → All (λ object. is_of_root roots root object ≡ true) objects
none_of roots root objects none = subst (All (λ object. is_of_root roots root object ≡ true)) (sym none) (λ k d less. absurd (omega (arith, less)))

-- ---- the hierarchy of objects

still_of : (roots more : List ClassId) (root : ClassId) (object : ObjId) (found : Option ClassId) → slice_get roots (place_of object) ≡ found → is_of_root roots root object ≡ true → is_of_root (roots ++ more) root object ≡ true
still_of roots more root object None e h =
    let none : is_root root (slice_get roots (place_of object)) ≡ true = (and_parts (nat_lt 0 object.0) (is_root root (slice_get roots (place_of object))) h).1 in
    let never : false ≡ true = ap (is_root root) (sym e) ∙ none in absurd cc
still_of roots more root object (Some own) e h =
    ap (λ (found : Option ClassId). nat_lt 0 object.0 && is_root root found) (get_before roots more (place_of object) (slice_get_within roots (place_of object) own e)) ∙ h

all_still : (roots more : List ClassId) (root : ClassId) (objects : List ObjId) → AreOf roots root objects → AreOf (roots ++ more) root objects
all_still roots more root [] h = tt
all_still roots more root (object ∷ objects) h = (still_of roots more root object (slice_get roots (place_of object)) refl h.0, all_still roots more root objects h.1)

grown_of : (old new : Graph) (root : ClassId) (objects : List ObjId) → Grows old new → AreOf old.roots root objects → AreOf new.roots root objects
unfolding classes_of
grown_of old new root objects grows h = subst (λ (roots : List ClassId). AreOf roots root objects) (sym grows.rooted) (all_still old.roots grows.roots root objects h)

-- an object of the hierarchy
pub object_of : (mapped : Mapped) (graph : Graph) (root : ClassId) (object : ObjId) → IsFit mapped graph → IsObject graph object → (root_at graph object).0 ≡ root.0 → is_of_root graph.roots root object ≡ true
object_of mapped graph root object fit made is =
    let long : length graph.roots ≡ length graph.objects = ap (λ (roots : List ClassId). length roots) fit.roots ∙ length-map graph.objects (λ (o : Object). root_of mapped o.class) in
    let first : 0 < object.0 = made.0 in
    let last : object.0 ≤ length graph.objects = made.1 in
    let within : object.0 - 1 < length graph.roots = omega (arith, first, last, long) in
    ap (λ (found : Option ClassId). nat_lt 0 object.0 && is_root root found) (slice_get-get_or graph.roots (place_of object) no_class_id within)
    ∙ ap (λ (b : Bool). b && is_root root (Some (root_at graph object))) (lt-ltb 0 object.0 first)
    ∙ eq-eqb (root_at graph object).0 root.0 is

-- one object more of the hierarchy
pub more_of : (mapped : Mapped) (old new : Graph) (root : ClassId) (objects now : List ObjId) (object : ObjId) (r : Result (Unit {0}) Refusal) → Grows old new → IsFit mapped new → IsObject new object → (root_at new object).0 ≡ root.0
    → OnOk r (now ≡ objects ++ object ∷ []) → All (λ object. is_of_root old.roots root object ≡ true) objects → OnOk r (All (λ object. is_of_root new.roots root object ≡ true) now)
more_of mapped old new root objects now object (Ok u) grows fit made is pushed all =
    let of : ObjId → Type 0 = λ object. is_of_root new.roots root object ≡ true in
    subst (All of) (sym pushed)
    (All-from_recursion of (objects ++ object ∷ [])
    (every_append of objects (object ∷ []) (grown_of old new root objects grows (recursion_from_All (λ object. is_of_root old.roots root object ≡ true) objects all)) (object_of mapped new root object fit made is, tt)))
more_of mapped old new root objects now object (Err e) grows fit made is pushed all = tt

-- ---- what stays

pub grows_then : (old mid new : Graph) → Grows old mid → Grows mid new → Grows old new
grows_then old mid new one other = record {
  classes = one.classes ++ other.classes;
  roots = one.roots ++ other.roots;
  longer = other.longer ∙ ap (λ (xs : List ClassId). xs ++ other.classes) one.longer ∙ append_assoc (classes_of old).0 one.classes other.classes;
  rooted = other.rooted ∙ ap (λ (xs : List ClassId). xs ++ other.roots) one.rooted ∙ append_assoc (classes_of old).1 one.roots other.roots;
}
