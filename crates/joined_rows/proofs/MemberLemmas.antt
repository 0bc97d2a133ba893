-- The objects of the parts of a row, put together of their parts; members of options as the objects grow.
use Rattle.std.proofs.Common.{◌≡◌, ◌⊎◌, inl, inr, ℕ, zero, suc, ◌+◌, ◌<◌, Bool, true, false, ◌&&◌, nat_lt, List, [], ◌∷◌, ◌++◌, length, get_or, Option, None, Some, Result, Ok, Err, IfErr, OnOk, refl, sym, ap, subst, ◌∙◌, length-append}
use Rattle.std.specs.Prelude.{slice_get}
use Rattle.std.proofs.lemmas.Bool.{and_parts}
use Rattle.std.proofs.lemmas.Option.{same_Some, slice_get-get_or, slice_get_within}
use Rattle.base_core.proofs.Lists.{get_before}
use Rattle.base_core.specs.declared.ids.ClassId.{ClassId}
use Rattle.base_core.specs.declared.ids.ObjId.{ObjId}
use Rattle.base_core.specs.declared.value.Value.{Value}
use Rattle.base_core.specs.declared.refusal.Refusal.{Refusal}
use Rattle.base_core.specs.declared.refusal.Refusal.TheVariants.{Memory}
use Rattle.class_mapping.specs.Mapped.{Mapped, root_of}
use Rattle.object_arena.specs.Every.{classes_of}
use Rattle.object_arena.specs.Fit.{IsFit, is_of_root, is_root}
use Rattle.object_arena.specs.Graph.{Graph, IsObject, place_of, root_at}
use Rattle.keeper_core.specs.Alone.{IsQuiet, alone}
use Rattle.keeper_core.specs.Moment.{Reaches, Runs}
use Rattle.keeper_core.specs.Programs.{Run, ◌>>=◌, each, give}
use Rattle.keeper_core.proofs.AloneLemmas.{lost_alone, quietly_alone}
use Rattle.keeper_core.proofs.Sequence.{done, reaches_start, then_err, then_ok}
use Rattle.load_filling.specs.Growing.{Grows}
use Rattle.load_rows.specs.Loading.{Loading, take_row}
use Rattle.load_calls.proofs.RowsLemmas.{object_of}
use Rattle.joined_rows.specs.declared.parts.Part.{Part}
use Rattle.joined_rows.specs.Parts.{values_from}
use Rattle.joined_rows.specs.Taking.{AreMembers, IsMember, IsOneMore, has_target, member_at, member_if, take_member, take_members, take_next}

abbrev Member : Type 0
Member = Option ObjId

-- ---- one part

-- the row has no target
pub none_taken : (mapped : Mapped) (row : List Value) (part : Part) (own : Loading) → has_target mapped part row ≡ false → Runs alone (λ (m : Member). m) (take_member mapped row part) own (Ok None) own
unfolding take_member
none_taken mapped row part own is = subst (λ (b : Bool). Runs alone (λ (m : Member). m) (member_if mapped row part b) own (Ok None) own) (sym is) (done refl)

-- its object was taken
pub member_taken : (mapped : Mapped) (row values : List Value) (part : Part) (own now : Loading) (object : ObjId) → has_target mapped part row ≡ true → values ≡ values_from part row
    → IsQuiet (λ (o : ObjId). o) (take_row mapped part.target values own) (Ok object) now → Runs alone (λ (m : Member). m) (take_member mapped row part) own (Ok (Some object)) now
unfolding take_member
member_taken mapped row values part own now object is seen taken =
    let quiet : IsQuiet (λ (o : ObjId). o) (take_row mapped part.target (values_from part row) own) (Ok object) now =
    subst (λ (vs : List Value). IsQuiet (λ (o : ObjId). o) (take_row mapped part.target vs own) (Ok object) now) seen taken in
    subst (λ (b : Bool). Runs alone (λ (m : Member). m) (member_if mapped row part b) own (Ok (Some object)) now) (sym is)
    (then_ok (λ (o : ObjId). give (Some o)) (quietly_alone {v = λ (o : ObjId). o} (take_row mapped part.target (values_from part row)) {r = Ok object} quiet) (done refl))

-- it was refused
pub member_refused : (mapped : Mapped) (row values : List Value) (part : Part) (own now : Loading) (e : Refusal) → has_target mapped part row ≡ true → values ≡ values_from part row
    → IsQuiet {X = ObjId} (λ (o : ObjId). o) (take_row mapped part.target values own) (Err e) now → Runs alone (λ (m : Member). m) (take_member mapped row part) own (Err e) now
unfolding take_member
member_refused mapped row values part own now e is seen refused =
    let quiet : IsQuiet {X = ObjId} (λ (o : ObjId). o) (take_row mapped part.target (values_from part row) own) (Err e) now =
    subst (λ (vs : List Value). IsQuiet {X = ObjId} (λ (o : ObjId). o) (take_row mapped part.target vs own) (Err e) now) seen refused in
    subst (λ (b : Bool). Runs alone (λ (m : Member). m) (member_if mapped row part b) own (Err e) now) (sym is)
    (then_err (λ (o : ObjId). give (Some o)) (quietly_alone {v = λ (o : ObjId). o} (take_row mapped part.target (values_from part row)) {r = Err e} quiet))

-- it is one of its option
pub is_member : (mapped : Mapped) (graph : Graph) (part : Part) (object : ObjId) → IsFit mapped graph → IsObject graph object → (root_at graph object).0 ≡ (root_of mapped part.target).0 → IsMember mapped graph.roots part (Some object)
is_member mapped graph part object fit made is = object_of mapped graph (root_of mapped part.target) object fit made is

-- ---- one more behind others

-- what was taken goes behind the others
pub push_taken : {A : Type 0} {m : Loading → Run Loading A} (xs new : List A) {own mid : Loading} {x : A} (r : Result (Unit {0}) Refusal) → Runs alone (λ (y : A). y) m own (Ok x) mid → OnOk r (new ≡ xs ++ x ∷ []) → IfErr r (λ e. e ≡ Memory)
    → Runs alone (λ (u : Unit {0}). new) (m >>= λ y. give (xs ++ y ∷ [])) own r mid
push_taken xs new (Ok u) taken is cause = then_ok (λ y. give (xs ++ y ∷ [])) taken (done (sym is))
push_taken xs new (Err e) taken is cause = lost_alone cause

-- it was refused
pub push_refused : {A X : Type 0} (v : X → List A) {m : Loading → Run Loading A} (xs : List A) {own mid : Loading} {e : Refusal} → Runs alone (λ (y : A). y) m own (Err e) mid → Runs alone v (m >>= λ y. give (xs ++ y ∷ [])) own (Err e) mid
push_refused v xs refused = then_err (λ y. give (xs ++ y ∷ [])) refused

-- ---- members as objects grow

root_still : (roots more : List ClassId) (root : ClassId) (place : ℕ) (found : Option ClassId) → slice_get roots place ≡ found → is_root root found ≡ true → is_root root (slice_get (roots ++ more) place) ≡ true
root_still roots more root place None e h = absurd cc
root_still roots more root place (Some own) e h = ap (is_root root) (get_before roots more place (slice_get_within roots place own e) ∙ e) ∙ h

-- an object of a hierarchy goes on to be one
pub goes_on : (old new : Graph) (root : ClassId) (object : ObjId) → Grows old new → is_of_root old.roots root object ≡ true → is_of_root new.roots root object ≡ true
unfolding classes_of
goes_on old new root object grows h =
    let parts = and_parts (nat_lt 0 object.0) (is_root root (slice_get old.roots (place_of object))) h in
    subst (λ (roots : List ClassId). is_of_root roots root object ≡ true) (sym grows.rooted)
    (ap (λ (b : Bool). b && is_root root (slice_get (old.roots ++ grows.roots) (place_of object))) parts.0
    ∙ root_still old.roots grows.roots root (place_of object) (slice_get old.roots (place_of object)) refl parts.1)

pub member_goes_on : (mapped : Mapped) (old new : Graph) (part : Part) (member : Member) → Grows old new → IsMember mapped old.roots part member → IsMember mapped new.roots part member
member_goes_on mapped old new part None grows h = refl
member_goes_on mapped old new part (Some object) grows h = goes_on old new (root_of mapped part.target) object grows h

-- ---- one member more

abbrev IsMoreAt : List Member → Member → ℕ → Type 0
IsMoreAt members member number = (member_at (members ++ member ∷ []) number ≡ member_at members number) ⊎ ((number ≡ length members) × (member_at (members ++ member ∷ []) number ≡ member))

later_more : (first : Member) (members : List Member) (member : Member) (number : ℕ) → IsMoreAt members member number → IsMoreAt (first ∷ members) member (suc number)
later_more first members member number (inl same) = inl same
later_more first members member number (inr last) = inr (ap suc last.0, last.1)

more_at : (members : List Member) (member : Member) (number : ℕ) → IsMoreAt members member number
more_at [] member zero = inr (refl, refl)
more_at [] member (suc number) = inl refl
more_at (first ∷ members) member zero = inl refl
more_at (first ∷ members) member (suc number) = later_more first members member number (more_at members member number)

pub more_members : (mapped : Mapped) (old new : Graph) (parts : List Part) (i : ℕ) (part : Part) (members more : List Member) → Grows old new → length members ≡ i → i < length parts → part ≡ get_or parts i part
    → AreMembers mapped old.roots parts members → IsOneMore mapped new.roots part members more → AreMembers mapped new.roots parts more
more_members mapped old new parts i part members more grows long less is all one = λ number other at.
    subst (λ (xs : List Member). IsMember mapped new.roots other (member_at xs number)) (sym one.is) (by number other at (more_at members one.member number))
  where
    all_members : List Member
    all_members = members ++ one.member ∷ []

    last : slice_get parts i ≡ Some part
    last = slice_get-get_or parts i part less ∙ ap Some (sym is)

    by : (number : ℕ) (other : Part) → slice_get parts number ≡ Some other → IsMoreAt members one.member number → IsMember mapped new.roots other (member_at all_members number)
    by number other at (inl same) = subst (IsMember mapped new.roots other) (sym same) (member_goes_on mapped old new other (member_at members number) grows (all number other at))
    by number other at (inr here) =
        let own : part ≡ other = same_Some part other (sym last ∙ ap (slice_get parts) (sym long ∙ sym here.0) ∙ at) in
        subst (λ (p : Part). IsMember mapped new.roots p (member_at all_members number)) own (subst (IsMember mapped new.roots part) (sym here.1) one.of)

pub one_more : (mapped : Mapped) (roots : List ClassId) (part : Part) (members new : List Member) (member : Member) (r : Result (Unit {0}) Refusal) → OnOk r (new ≡ members ++ member ∷ []) → IsMember mapped roots part member
    → OnOk r (IsOneMore mapped roots part members new)
one_more mapped roots part members new member (Ok u) is of = record { member = member; is = is; of = of }
one_more mapped roots part members new member (Err e) is of = tt

pub one_longer : (mapped : Mapped) (roots : List ClassId) (part : Part) (members more : List Member) (i : ℕ) → length members ≡ i → IsOneMore mapped roots part members more → length more ≡ i + 1
one_longer mapped roots part members more i long one = ap (λ (xs : List Member). length xs) one.is ∙ length-append members (one.member ∷ []) ∙ ap (λ (n : ℕ). n + 1) long

-- ---- the loop over parts

from_none : (mapped : Mapped) (parts : List Part) (row : List Value) (own : Loading) → Reaches alone (take_members mapped parts row) own (each (take_next mapped row) [] parts) own
unfolding take_members
from_none mapped parts row own = reaches_start

-- it begins with no members
pub members_start : (mapped : Mapped) (parts : List Part) (row : List Value) (own : Loading) (members : List Member) → members ≡ [] → Reaches alone (take_members mapped parts row) own (each (take_next mapped row) members parts) own
members_start mapped parts row own members none =
    subst (λ (xs : List Member). Reaches alone (take_members mapped parts row) own (each (take_next mapped row) xs parts) own) (sym none) (from_none mapped parts row own)

pub none_yet : (mapped : Mapped) (roots : List ClassId) (parts : List Part) (members : List Member) → members ≡ [] → AreMembers mapped roots parts members
none_yet mapped roots parts members none = subst (AreMembers mapped roots parts) (sym none) (λ number part at. refl)
