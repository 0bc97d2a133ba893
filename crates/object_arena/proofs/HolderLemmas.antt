-- Who holds an identity, and that it is free once its holder is persistent no more.
use Rattle.std.proofs.Common.{◌≡◌, ◌≢◌, ℕ, ◌+◌, ◌<◌, ◌≤◌, Bool, true, false, ◌&&◌, List, length, get_or, Option, None, Some, is_some, refl, sym, ap, ◌∙◌, subst, ⊎_elim, arith}
use Rattle.std.specs.Prelude.{◌==◌, slice_set}
use Rattle.std.specs.Option.{option_map}
use Rattle.std.specs.List.{position, zip}
use Rattle.std.proofs.lemmas.Bool.{and_parts, cases_eq}
use Rattle.std.proofs.lemmas.List.{get_or-set_other, get_or-set_same, length-set}
use Rattle.std.proofs.lemmas.List.Quantifiers.{position-Some}
use Rattle.std.proofs.lemmas.Slice.Zip.{get_or-zip, length-zip}
use Rattle.base_core.specs.declared.ids.ClassId.{ClassId}
use Rattle.base_core.specs.declared.ids.ObjId.{ObjId}
use Rattle.base_core.specs.declared.value.Value.{Value}
use Rattle.object_arena.specs.declared.object.Object.{Object}
use Rattle.object_arena.specs.Graph.{is_persistent, no_class_id, no_object, place_of}
use Rattle.object_arena.specs.Identity.{IsGraph, has_key, holds, holds_at, id_of_place}

-- the place that was found holds
pub place_holds : (objects : List Object) (roots : List ClassId) (root : ClassId) (key : List Value) (place : ℕ) → length roots ≡ length objects → position (holds root key) (zip objects roots) ≡ Some place → (place < length objects) × (holds_at objects roots root key place ≡ true)
place_holds objects roots root key place rooted at =
    let there = position-Some (holds root key) (zip objects roots) place (no_object, no_class_id) at in
    let inside : place < length (zip objects roots) = there.0 in
    let less : place < length objects = omega (arith, length-zip objects roots, inside) in
    let long : place < length roots = omega (arith, length-zip objects roots, inside) in
    (less, ap (holds root key) (sym (get_or-zip objects roots place (no_object, no_class_id) less long)) ∙ there.1)

-- the object that was found holds
pub found_holds : (objects : List Object) (roots : List ClassId) (root : ClassId) (key : List Value) (place : ℕ) (holder : ObjId) → IsGraph objects roots → position (holds root key) (zip objects roots) ≡ Some place → holder.0 ≡ place + 1 → holds_at objects roots root key (place_of holder) ≡ true
found_holds objects roots root key place holder graph at number =
    let same : place ≡ place_of holder = omega (arith, number) in
    subst (λ (p : ℕ). holds_at objects roots root key p ≡ true) same (place_holds objects roots root key place graph.rooted at).1

key_some : (key : List Value) (identity : Option (List Value)) → has_key key identity ≡ true → is_some identity ≡ true
key_some key None h = cc
key_some key (Some own) h = refl

-- an object that holds has an identity
pub holds_some : (root own : ClassId) (key : List Value) (object : Object) → holds root key (object, own) ≡ true → is_some object.identity ≡ true
holds_some root own key object h =
    key_some key object.identity (and_parts (own.0 == root.0) (has_key key object.identity) (and_parts (is_persistent object.state) (own.0 == root.0 && has_key key object.identity) h).1).1

left_out : (root own : ClassId) (key : List Value) (object : Object) → is_persistent object.state ≡ false → holds root key (object, own) ≡ true → ⊥
left_out root own key object left h = let e : is_persistent object.state ≡ true = (and_parts (is_persistent object.state) (own.0 == root.0 && has_key key object.identity) h).0 in cc

none_other : (objects : List Object) (roots : List ClassId) (root : ClassId) (key : List Value) (p j : ℕ) (new : Object) → IsGraph objects roots → holds_at objects roots root key p ≡ true → is_persistent new.state ≡ false → p < length objects → holds_at (slice_set objects p new) roots root key j ≡ true → ⊥
none_other objects roots root key p j new graph held left less found =
    let Held : Object → Type 0 = λ o. holds root key (o, get_or roots j no_class_id) ≡ true in
    ⊎_elim
    (λ (same : j ≡ p). left_out root (get_or roots j no_class_id) key new left
    (subst Held (ap (λ (k : ℕ). get_or (slice_set objects p new) k no_object) same ∙ get_or-set_same objects p new no_object less) found))
    (λ (other : j ≢ p). other (graph.one root key j p (subst Held (get_or-set_other objects p j new no_object other) found) held))
    (cases_eq j p)

found_none : (objects : List Object) (roots : List ClassId) (root : ClassId) (key : List Value) (p : ℕ) (new : Object) (found : Option ℕ) → IsGraph objects roots → holds_at objects roots root key p ≡ true → is_persistent new.state ≡ false → p < length objects
    → position (holds root key) (zip (slice_set objects p new) roots) ≡ found → option_map id_of_place found ≡ None
found_none objects roots root key p new None graph held left less at = refl
found_none objects roots root key p new (Some j) graph held left less at =
    let rooted : length roots ≡ length (slice_set objects p new) = graph.rooted ∙ sym (length-set objects p new) in
    absurd (none_other objects roots root key p j new graph held left less (place_holds (slice_set objects p new) roots root key j rooted at).1)

found_at : (objects : List Object) (roots : List ClassId) (root : ClassId) (key : List Value) (holder : ObjId) (found : Option ℕ) → IsGraph objects roots → position (holds root key) (zip objects roots) ≡ found → option_map id_of_place found ≡ Some holder → holds_at objects roots root key (place_of holder) ≡ true
found_at objects roots root key holder None graph at is = absurd cc
found_at objects roots root key holder (Some place) graph at is = let number : holder.0 ≡ place + 1 = cc in found_holds objects roots root key place holder graph at number

-- an identity is free once its holder is persistent no more
pub holder_left : (objects : List Object) (roots : List ClassId) (holder : ObjId) (new : Object) (root : ClassId) (key : List Value) → IsGraph objects roots → place_of holder < length objects → is_persistent new.state ≡ false → option_map id_of_place (position (holds root key) (zip objects roots)) ≡ Some holder → option_map id_of_place (position (holds root key) (zip (slice_set objects (place_of holder) new) roots)) ≡ None
holder_left objects roots holder new root key graph less left is =
    found_none objects roots root key (place_of holder) new (position (holds root key) (zip (slice_set objects (place_of holder) new) roots)) graph
    (found_at objects roots root key holder (position (holds root key) (zip objects roots)) graph refl is) left less refl
