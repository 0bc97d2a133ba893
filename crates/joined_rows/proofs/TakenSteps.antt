-- The objects of rows with those of their parts, put together of these.
use Rattle.std.proofs.Common.{◌≡◌, List, [], ◌∷◌, ◌++◌, Option, Result, Ok, Err, OnOk, refl, sym, subst}
use Rattle.std.specs.List.{All}
use Rattle.std.proofs.lemmas.List.Elements.{All-from_recursion, All-push}
use Rattle.base_core.specs.declared.ids.ClassId.{ClassId}
use Rattle.base_core.specs.declared.ids.ObjId.{ObjId}
use Rattle.base_core.specs.declared.value.Value.{Value}
use Rattle.base_core.specs.declared.refusal.Refusal.{Refusal}
use Rattle.class_mapping.specs.Mapped.{Mapped, root_of}
use Rattle.object_arena.specs.Fit.{IsFit}
use Rattle.object_arena.specs.Graph.{Graph, IsObject, root_at}
use Rattle.keeper_core.specs.Alone.{IsQuiet, alone}
use Rattle.keeper_core.specs.Moment.{Reaches, Runs}
use Rattle.keeper_core.specs.Programs.{◌>>=◌, each, give}
use Rattle.keeper_core.proofs.AloneLemmas.{quietly_alone}
use Rattle.keeper_core.proofs.Sequence.{done, reaches_start, then_err, then_ok}
use Rattle.load_filling.specs.Growing.{Grows}
use Rattle.load_rows.specs.Loading.{Loading, take_row}
use Rattle.load_calls.proofs.RowsLemmas.{object_of}
use Rattle.joined_rows.specs.declared.parts.Part.{Part}
use Rattle.joined_rows.specs.Parts.{own_values}
use Rattle.object_parts.specs.declared.answers.Taken.{Taken}
use Rattle.joined_rows.specs.Taking.{AreMembers, IsTaken, member_at, take_joined, take_members, take_one, take_owner, taken_with}
use Rattle.joined_rows.proofs.MemberLemmas.{goes_on, member_goes_on}

abbrev Members : Type 0
Members = List (Option ObjId)

-- ---- a row

own_quiet : {X : Type 0} (v : X → ObjId) (mapped : Mapped) (class : ClassId) (row values : List Value) (own mid : Loading) (r : Result X Refusal) → values ≡ own_values mapped class row → IsQuiet v (take_row mapped class values own) r mid
    → Runs alone v (take_row mapped class (own_values mapped class row)) own r mid
own_quiet v mapped class row values own mid r seen first =
    quietly_alone {v = v} (take_row mapped class (own_values mapped class row)) {r = r} (subst (λ (xs : List Value). IsQuiet v (take_row mapped class xs own) r mid) seen first)

-- its object was taken, and those of its parts
pub owner_taken : (mapped : Mapped) (class : ClassId) (parts : List Part) (row values : List Value) (own mid now : Loading) (owner : ObjId) (members : Members) → values ≡ own_values mapped class row
    → IsQuiet (λ (o : ObjId). o) (take_row mapped class values own) (Ok owner) mid → Runs alone (λ (xs : Members). xs) (take_members mapped parts row) mid (Ok members) now
    → Runs alone (λ (t : Taken). t) (take_owner mapped class parts row) own (Ok (taken_with owner members)) now
unfolding take_owner
owner_taken mapped class parts row values own mid now owner members seen first rest =
    then_ok (λ (o : ObjId). (take_members mapped parts row >>= λ xs. give (taken_with o xs))) (own_quiet (λ (o : ObjId). o) mapped class row values own mid (Ok owner) seen first)
    (then_ok (λ (xs : Members). give (taken_with owner xs)) rest (done refl))

-- its own was refused
pub owner_refused : (mapped : Mapped) (class : ClassId) (parts : List Part) (row values : List Value) (own now : Loading) (e : Refusal) → values ≡ own_values mapped class row
    → IsQuiet {X = ObjId} (λ (o : ObjId). o) (take_row mapped class values own) (Err e) now → Runs alone (λ (t : Taken). t) (take_owner mapped class parts row) own (Err e) now
unfolding take_owner
owner_refused mapped class parts row values own now e seen first =
    then_err (λ (o : ObjId). (take_members mapped parts row >>= λ xs. give (taken_with o xs))) (own_quiet (λ (o : ObjId). o) mapped class row values own now (Err e) seen first)

-- one of a part was
pub members_refused : (mapped : Mapped) (class : ClassId) (parts : List Part) (row values : List Value) (own mid now : Loading) (owner : ObjId) (e : Refusal) → values ≡ own_values mapped class row
    → IsQuiet (λ (o : ObjId). o) (take_row mapped class values own) (Ok owner) mid → Runs alone (λ (xs : Members). xs) (take_members mapped parts row) mid (Err e) now
    → Runs alone (λ (t : Taken). t) (take_owner mapped class parts row) own (Err e) now
unfolding take_owner
members_refused mapped class parts row values own mid now owner e seen first rest =
    then_ok (λ (o : ObjId). (take_members mapped parts row >>= λ xs. give (taken_with o xs))) (own_quiet (λ (o : ObjId). o) mapped class row values own mid (Ok owner) seen first)
    (then_err (λ (xs : Members). give (taken_with owner xs)) rest)

-- ---- whose they are

pub is_taken : (mapped : Mapped) (mid new : Graph) (class : ClassId) (parts : List Part) (owner : ObjId) (members : Members) → IsFit mapped mid → IsObject mid owner → (root_at mid owner).0 ≡ (root_of mapped class).0 → Grows mid new
    → AreMembers mapped new.roots parts members → IsTaken mapped new.roots class parts (taken_with owner members)
is_taken mapped mid new class parts owner members fit made is grows of = record {
  owner = goes_on mid new (root_of mapped class) owner grows (object_of mapped mid (root_of mapped class) owner fit made is);
  members = of;
}

taken_goes_on : (mapped : Mapped) (old new : Graph) (class : ClassId) (parts : List Part) (one : Taken) → Grows old new → IsTaken mapped old.roots class parts one → IsTaken mapped new.roots class parts one
taken_goes_on mapped old new class parts one grows is = record {
  owner = goes_on old new (root_of mapped class) one.owner grows is.owner;
  members = λ number part at. member_goes_on mapped old new part (member_at one.members number) grows (is.members number part at);
}

-- those of one row more
pub taken_more : (mapped : Mapped) (old new : Graph) (class : ClassId) (parts : List Part) (taken more : List Taken) (one : Taken) (r : Result (Unit {0}) Refusal) → Grows old new → IsTaken mapped new.roots class parts one
    → OnOk r (more ≡ taken ++ one ∷ []) → All (IsTaken mapped old.roots class parts) taken → OnOk r (All (IsTaken mapped new.roots class parts) more)
taken_more mapped old new class parts taken more one (Ok u) grows is pushed all =
    let of : Taken → Type 0 = IsTaken mapped new.roots class parts in
    subst (All of) (sym pushed) (All-push of taken one (λ i d less. taken_goes_on mapped old new class parts _ grows (all i d less)) is)
taken_more mapped old new class parts taken more one (Err e) grows is pushed all = tt

-- ---- the loop over rows

from_none : (mapped : Mapped) (class : ClassId) (parts : List Part) (rows : List (List Value)) (own : Loading) → Reaches alone (take_joined mapped class parts rows) own (each (take_one mapped class parts) [] rows) own
unfolding take_joined
from_none mapped class parts rows own = reaches_start

-- it begins with nothing taken
pub taken_start : (mapped : Mapped) (class : ClassId) (parts : List Part) (rows : List (List Value)) (own : Loading) (taken : List Taken) → taken ≡ []
    → Reaches alone (take_joined mapped class parts rows) own (each (take_one mapped class parts) taken rows) own
taken_start mapped class parts rows own taken none =
    subst (λ (xs : List Taken). Reaches alone (take_joined mapped class parts rows) own (each (take_one mapped class parts) xs rows) own) (sym none) (from_none mapped class parts rows own)

pub none_taken_yet : (mapped : Mapped) (roots : List ClassId) (class : ClassId) (parts : List Part) (taken : List Taken) → taken ≡ [] → All (IsTaken mapped roots class parts) taken
none_taken_yet mapped roots class parts taken none = subst (All (IsTaken mapped roots class parts)) (sym none) (All-from_recursion (IsTaken mapped roots class parts) [] tt)
