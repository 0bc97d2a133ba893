-- Members that are taken of rows, and put into the collections of their owners.
use Rattle.std.proofs.Common.{◌≡◌, ℕ, true, false, Bool, cond, List, [], ◌∷◌, ◌++◌, drop, filter, Result, Ok, Err, IfErr, OnOk, sym, ap, subst, ◌∙◌}
use Rattle.std.specs.List.{All, AllByRecursion}
use Rattle.std.proofs.lemmas.List.{map-append}
use Rattle.std.proofs.lemmas.List.Elements.{All-from_recursion, recursion_from_All}
use Rattle.base_core.specs.declared.ids.ClassId.{ClassId}
use Rattle.base_core.specs.declared.ids.ObjId.{ObjId}
use Rattle.base_core.specs.declared.ids.RelNo.{RelNo}
use Rattle.base_core.specs.declared.value.Value.{Value}
use Rattle.base_core.specs.declared.refusal.Refusal.{Refusal}
use Rattle.base_core.specs.declared.refusal.Refusal.TheVariants.{Memory}
use Rattle.schema_core.specs.Tables.{same_values}
use Rattle.class_types.specs.declared.mapped.Relation.{Relation}
use Rattle.class_mapping.specs.Mapped.{Mapped}
use Rattle.object_arena.specs.Every.{classes_of}
use Rattle.object_arena.specs.Fit.{is_of_root}
use Rattle.object_arena.specs.Graph.{Graph}
use Rattle.keeper_core.specs.Alone.{IsQuiet, alone}
use Rattle.keeper_core.specs.Moment.{Reaches, Runs}
use Rattle.keeper_core.specs.Programs.{each, give}
use Rattle.keeper_core.proofs.AloneLemmas.{change_ok, lost_alone, quietly_alone}
use Rattle.keeper_core.proofs.Sequence.{done, reaches_start, then_err, then_ok}
use Rattle.load_rows.specs.Loading.{Loading, take_row}
use Rattle.collection_selects.specs.Pairs.{owner_width}
use Rattle.load_rows.specs.Links.{collection_filled}
use Rattle.load_batches.specs.Batches.{fill_owner, fill_owners, member_of, members_under, objects_in, owner_key_in, take_member, take_members, target_values}
use Rattle.load_batches.specs.declared.members.Member.{Member}
use Rattle.load_batches.specs.declared.owners.Owner.{Owner}

-- ---- the objects of rows

-- the object of a row was taken, and goes behind the others with the key of its owner
pub member_taken : (mapped : Mapped) (relation : Relation) (row values : List Value) (members new : List Member) (own mid : Loading) (object : ObjId) (owner : List Value) (r : Result (Unit {0}) Refusal)
    → values ≡ target_values mapped relation row → owner ≡ owner_key_in mapped relation row → IsQuiet (λ (o : ObjId). o) (take_row mapped relation.target values own) (Ok object) mid
    → OnOk r (new ≡ members ++ member_of owner object ∷ []) → IfErr r (λ e. e ≡ Memory) → Runs alone (λ (u : Unit {0}). new) (take_member mapped relation row members) own r mid
member_taken mapped relation row values members new own mid object owner (Ok u) behind keyed taken is cause =
    then_ok (λ (o : ObjId). give (members ++ member_of (owner_key_in mapped relation row) o ∷ []))
    (quietly_alone {v = λ (o : ObjId). o} (take_row mapped relation.target (target_values mapped relation row)) {r = Ok object}
    (subst (λ (xs : List Value). IsQuiet (λ (o : ObjId). o) (take_row mapped relation.target xs own) (Ok object) mid) behind taken))
    (done (sym (is ∙ ap (λ (key : List Value). members ++ member_of key object ∷ []) keyed)))
member_taken mapped relation row values members new own mid object owner (Err e) behind keyed taken is cause = lost_alone cause

-- it was refused
pub member_refused : {X : Type 0} (v : X → List Member) (mapped : Mapped) (relation : Relation) (row values : List Value) (members : List Member) (own mid : Loading) (e : Refusal)
    → values ≡ target_values mapped relation row → IsQuiet {X = ObjId} (λ (o : ObjId). o) (take_row mapped relation.target values own) (Err e) mid → Runs alone v (take_member mapped relation row members) own (Err e) mid
member_refused v mapped relation row values members own mid e behind refused =
    then_err (λ (o : ObjId). give (members ++ member_of (owner_key_in mapped relation row) o ∷ []))
    (quietly_alone {v = λ (o : ObjId). o} (take_row mapped relation.target (target_values mapped relation row)) {r = Err e}
    (subst (λ (xs : List Value). IsQuiet {X = ObjId} (λ (o : ObjId). o) (take_row mapped relation.target xs own) (Err e) mid) behind refused))

-- the values behind the first ones
pub values_behind : (mapped : Mapped) (relation : Relation) (row values : List Value) (width : ℕ) → width ≡ owner_width mapped relation → values ≡ drop width row → values ≡ target_values mapped relation row
values_behind mapped relation row values width wide is = is ∙ ap (λ (n : ℕ). drop n row) wide

pub objects_pushed : (members new : List Member) (owner : List Value) (object : ObjId) (r : Result (Unit {0}) Refusal) → OnOk r (new ≡ members ++ member_of owner object ∷ []) → OnOk r (objects_in new ≡ objects_in members ++ object ∷ [])
objects_pushed members new owner object (Ok u) is = ap objects_in is ∙ map-append (λ (member : Member). member.object) members (member_of owner object ∷ [])
objects_pushed members new owner object (Err e) is = tt

from_none : (mapped : Mapped) (relation : Relation) (rows : List (List Value)) (own : Loading) → Reaches alone (take_members mapped relation rows) own (each (take_member mapped relation) [] rows) own
unfolding take_members
from_none mapped relation rows own = reaches_start

-- the loop over rows begins with no members
pub members_start : (mapped : Mapped) (relation : Relation) (rows : List (List Value)) (own : Loading) (members : List Member) → members ≡ [] → Reaches alone (take_members mapped relation rows) own (each (take_member mapped relation) members rows) own
members_start mapped relation rows own members none =
    subst (λ (xs : List Member). Reaches alone (take_members mapped relation rows) own (each (take_member mapped relation) xs rows) own) (sym none) (from_none mapped relation rows own)

-- ---- the collections

under_every : (P : ObjId → Type 0) (members : List Member) (key : List Value) → AllByRecursion P (objects_in members) → AllByRecursion P (members_under members key)
under_every P [] key h = tt
under_every P (member ∷ members) key h = by (same_values member.owner key) (under_every P members key h.1)
  where
    rest : List Member
    rest = filter (λ one. same_values one.owner key) members

    by : (b : Bool) → AllByRecursion P (objects_in rest) → AllByRecursion P (objects_in (cond b (member ∷ rest) rest))
    by true more = (h.0, more)
    by false more = more

-- what is said of all members is said of those under a key
pub under_all : (P : ObjId → Type 0) (members : List Member) (key : List Value) → All P (objects_in members) → All P (members_under members key)
under_all P members key h = All-from_recursion P (members_under members key) (under_every P members key (recursion_from_All P (objects_in members) h))

-- the collection of an owner was filled
pub owner_filled : {E : Type 0} (place : RelNo) (members : List Member) (owner : Owner) (read : List ObjId) (own now : Loading) (r : Result (Unit {0}) E) → read ≡ members_under members owner.key
    → OnOk r (now ≡ collection_filled owner.object place read own) → OnOk r (Runs alone (λ (u : Unit {0}). u) (fill_owner place members owner tt) own (Ok tt) now)
owner_filled place members owner read own now (Ok u) mine is =
    change_ok (collection_filled owner.object place (members_under members owner.key)) (is ∙ ap (λ (objects : List ObjId). collection_filled owner.object place objects own) mine)
owner_filled place members owner read own now (Err e) mine is = tt

-- the loop over owners begins
pub owners_start : (place : RelNo) (owners : List Owner) (members : List Member) (own : Loading) → Reaches alone (fill_owners place owners members) own (each (fill_owner place members) tt owners) own
unfolding fill_owners
owners_start place owners members own = reaches_start

-- objects of a hierarchy are so while each object keeps its class
pub of_same : (old new : Graph) (root : ClassId) (objects : List ObjId) → classes_of new ≡ classes_of old → All (λ object. is_of_root old.roots root object ≡ true) objects → All (λ object. is_of_root new.roots root object ≡ true) objects
unfolding classes_of
of_same old new root objects same h =
    subst (λ (roots : List ClassId). All (λ object. is_of_root roots root object ≡ true) objects) (sym (ap (λ (both : List ClassId × List ClassId). both.1) same)) h
