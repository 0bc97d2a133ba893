-- The rows of a main select are taken one after the other: under which keys the identity map has the objects of each row.
use Rattle.std.proofs.Common.{◌≡◌, ◌⊎◌, inl, inr, Bool, true, false, List, [], ◌∷◌, ◌++◌, length, map, Option, None, Some, refl, sym, ap, subst, ◌∙◌, append_assoc, append-nil}
use Rattle.std.specs.List.{AllByRecursion}
use Rattle.base_core.specs.declared.ids.ClassId.{ClassId}
use Rattle.base_core.specs.declared.ids.ObjId.{ObjId}
use Rattle.base_core.specs.declared.value.Value.{Value}
use Rattle.class_mapping.specs.Mapped.{IsClass, Mapped, relations_of, root_of}
use Rattle.mapping_laws.specs.Hierarchies.{HasHierarchies}
use Rattle.keeper_core.specs.Programs.{◌>>=◌, each, give}
use Rattle.object_arena.specs.declared.object.Link.TheVariants.{Unloaded}
use Rattle.object_arena.specs.declared.object.Link.{Link}
use Rattle.object_arena.specs.Graph.{Graph, IsObject, object_at}
use Rattle.object_arena.specs.Identity.{find_identity}
use Rattle.load_filling.specs.Rows.{row_key}
use Rattle.load_rows.specs.Loading.{Loading, take_row}
use Rattle.load_calls.specs.Collections.{take_next as take_next_row, take_rows}
use Rattle.joined_rows.specs.declared.parts.Part.{Part}
use Rattle.joined_rows.specs.Parts.{own_values, values_from}
use Rattle.object_parts.specs.declared.answers.Taken.{Taken}
use Rattle.joined_rows.specs.Taking.{has_target, member_if, take_joined, take_member, take_members, take_next, take_one, take_owner, taken_with}
use Rattle.loading_laws.specs.Strategies.Filled.{Goes}
use Rattle.loading_laws.specs.Strategies.Standing.{Keeps}
use Rattle.loading_laws.proofs.Strategies.Finding.{IsUntouched, row_finds, row_gains}
use Rattle.loading_laws.proofs.Strategies.Goes.{given, parted, row_taken}
use Rattle.loading_laws.proofs.Strategies.Standing.{keeps_same, keeps_then, made_later}

abbrev Row : Type 0
Row = List Value

-- ---- what the taking of rows leaves

-- who is found under a key is found there still
abbrev pub StillFound : Graph → Graph → Type 0
StillFound old new = (root : ClassId) (key : List Value) (object : ObjId) → find_identity old root key ≡ Some object → find_identity new root key ≡ Some object

-- Who was found is found, links and classes stay, of the objects that there were no other is found, and the others are as a load makes
-- them.
pub record Extends (mapped : Mapped) (old new : Graph) : Type 0 where
  pub keeps : Keeps old new
  pub rooted : length new.roots ≡ length new.objects
  pub found : StillFound old new
  pub before : (root : ClassId) (key : List Value) (object : ObjId) → IsObject old object → find_identity new root key ≡ Some object → find_identity old root key ≡ Some object
  pub classes : (object : ObjId) → IsObject old object → (object_at new object).class ≡ (object_at old object).class
  pub made : (object : ObjId) → IsObject new object → IsObject old object ⊎ IsUntouched mapped (object_at new object)

extends_same : (mapped : Mapped) (graph : Graph) → length graph.roots ≡ length graph.objects → Extends mapped graph graph
extends_same mapped graph rooted = record {
  keeps = keeps_same graph;
  rooted = rooted;
  found = λ root key object e. e;
  before = λ root key object there e. e;
  classes = λ object there. refl;
  made = λ object there. inl there;
}

extends_then : (mapped : Mapped) (a b c : Graph) → Extends mapped a b → Extends mapped b c → Extends mapped a c
extends_then mapped a b c p q = record {
  keeps = keeps_then a b c p.keeps q.keeps;
  rooted = q.rooted;
  found = λ root key object e. q.found root key object (p.found root key object e);
  before = λ root key object there e. p.before root key object there (q.before root key object (made_later a b object p.keeps.all there) e);
  classes = λ object there. q.classes object (made_later a b object p.keeps.all there) ∙ p.classes object there;
  made = λ object there. later object (q.made object there);
}
  where
    still : (object : ObjId) → IsObject b object → (IsObject a object ⊎ IsUntouched mapped (object_at b object)) → IsObject a object ⊎ IsUntouched mapped (object_at c object)
    still object there (inl was) = inl was
    still object there (inr untouched) =
        inr (q.keeps.links object there ∙ untouched ∙ ap (λ (own : ClassId). let links : List Link = map (λ relation. Unloaded [] []) (relations_of mapped own) in links) (sym (q.classes object there)))

    later : (object : ObjId) → (IsObject b object ⊎ IsUntouched mapped (object_at c object)) → IsObject a object ⊎ IsUntouched mapped (object_at c object)
    later object (inl there) = still object there (p.made object there)
    later object (inr untouched) = inr untouched

-- ---- one row

pub record IsRowTaken (mapped : Mapped) (class : ClassId) (row : Row) (old : Graph) (object : ObjId) (new : Graph) : Type 0 where
  pub extends : Extends mapped old new
  pub found : find_identity new (root_of mapped class) (row_key mapped class row) ≡ Some object

module _ (mapped : Mapped) (has : HasHierarchies mapped) where
  pub row_extends : (class : ClassId) → IsClass mapped class → (row : Row) (own now : Loading) (object : ObjId) → length own.graph.roots ≡ length own.graph.objects → Goes (take_row mapped class row) own object now
      → IsRowTaken mapped class row own.graph object now.graph
  row_extends class declared row own now object rooted g =
      let taken = row_taken mapped class has.paired row own now object rooted g in
      let gains = row_gains mapped class has declared row own now object rooted g in
      let finds = row_finds mapped class has declared row own now object rooted g in
      record { extends = record { keeps = taken.keeps; rooted = taken.rooted; found = gains.found; before = finds.before; classes = gains.classes; made = finds.made }; found = finds.found }

  -- ---- rows of a class

  -- the objects are found under the keys of rows, one by one
  abbrev pub AreFound : ClassId → Graph → List Row → List ObjId → Type 0
  AreFound class graph [] [] = Unit {0}
  AreFound class graph (row ∷ rows) (object ∷ objects) = (find_identity graph (root_of mapped class) (row_key mapped class row) ≡ Some object) × AreFound class graph rows objects
  AreFound class graph rows objects = ⊥

  pub record AreRowsTaken (class : ClassId) (rows : List Row) (before : List ObjId) (own : Loading) (objects : List ObjId) (now : Loading) : Type 0 where
    pub new : List ObjId
    pub are : objects ≡ before ++ new
    pub found : AreFound class now.graph rows new
    pub extends : Extends mapped own.graph now.graph

  rows_go : (class : ClassId) → IsClass mapped class → (rows : List Row) (before : List ObjId) (own : Loading) (objects : List ObjId) (now : Loading) → length own.graph.roots ≡ length own.graph.objects
      → Goes (each (take_next_row mapped class) before rows) own objects now → AreRowsTaken class rows before own objects now
  unfolding each
  rows_go class declared [] before own objects now rooted g =
      let end = given before objects own now g in
      subst (λ (u : Loading). AreRowsTaken class [] before own objects u) end.1
      (record { new = []; are = sym end.0 ∙ sym (append-nil before); found = tt; extends = extends_same mapped own.graph rooted })
  rows_go class declared (row ∷ rows) before own objects now rooted g =
      let one = parted (take_next_row mapped class row before) (λ (t : List ObjId). each (take_next_row mapped class) t rows) own objects now g in
      let two = parted (take_row mapped class row) (λ (o : ObjId). give (before ++ o ∷ [])) own one.value one.between one.first in
      let put = given (before ++ two.value ∷ []) one.value two.between one.between two.second in
      let here = subst (λ (u : Loading). IsRowTaken mapped class row own.graph two.value u.graph) put.1 (row_extends class declared row own two.between two.value rooted two.first) in
      let rest = rows_go class declared rows one.value one.between objects now here.extends.rooted one.second in
      record {
        new = two.value ∷ rest.new;
        are = rest.are ∙ ap (λ (b : List ObjId). b ++ rest.new) (sym put.0) ∙ append_assoc before (two.value ∷ []) rest.new;
        found = (rest.extends.found (root_of mapped class) (row_key mapped class row) two.value here.found, rest.found);
        extends = extends_then mapped own.graph one.between.graph now.graph here.extends rest.extends;
      }

  pub rows_extend : (class : ClassId) → IsClass mapped class → (rows : List Row) (own : Loading) (objects : List ObjId) (now : Loading) → length own.graph.roots ≡ length own.graph.objects → Goes (take_rows mapped class rows) own objects now
      → AreRowsTaken class rows [] own objects now
  unfolding take_rows
  rows_extend class declared rows own objects now rooted g = rows_go class declared rows [] own objects now rooted (record { answer = g.answer; leaves = g.leaves })

  -- ---- the members of a row

  -- a row without a target has no member; else the object is found under the target's key
  abbrev pub HasMember : Graph → Row → Part → Bool → Option ObjId → Type 0
  HasMember graph row part true (Some object) = find_identity graph (root_of mapped part.target) (row_key mapped part.target (values_from part row)) ≡ Some object
  HasMember graph row part false None = Unit {0}
  HasMember graph row part there member = ⊥

  member_later : (old new : Graph) (row : Row) (part : Part) (there : Bool) (member : Option ObjId) → StillFound old new → HasMember old row part there member → HasMember new row part there member
  member_later old new row part true (Some object) found h = found (root_of mapped part.target) (row_key mapped part.target (values_from part row)) object h
  member_later old new row part true None found h = absurd h
  member_later old new row part false (Some object) found h = absurd h
  member_later old new row part false None found h = tt

  record IsMemberTaken (row : Row) (part : Part) (there : Bool) (own : Loading) (member : Option ObjId) (now : Loading) : Type 0 where
    is : HasMember now.graph row part there member
    extends : Extends mapped own.graph now.graph

  member_by : (row : Row) (part : Part) (there : Bool) (own : Loading) (member : Option ObjId) (now : Loading) → IsClass mapped part.target → length own.graph.roots ≡ length own.graph.objects
      → Goes (member_if mapped row part there) own member now → IsMemberTaken row part there own member now
  member_by row part true own member now declared rooted g =
      let two = parted (take_row mapped part.target (values_from part row)) (λ (object : ObjId). give (Some object)) own member now g in
      let put = given (Some two.value) member two.between now two.second in
      let taken = row_extends part.target declared (values_from part row) own two.between two.value rooted two.first in
      subst (λ (u : Loading). IsMemberTaken row part true own member u) put.1
      (record { is = subst (HasMember two.between.graph row part true) put.0 taken.found; extends = taken.extends })
  member_by row part false own member now declared rooted g =
      let end = given None member own now g in
      subst (λ (u : Loading). IsMemberTaken row part false own member u) end.1
      (record { is = subst (HasMember own.graph row part false) end.0 tt; extends = extends_same mapped own.graph rooted })

  -- one for each option
  abbrev pub HasMembers : Graph → Row → List Part → List (Option ObjId) → Type 0
  HasMembers graph row [] [] = Unit {0}
  HasMembers graph row (part ∷ parts) (member ∷ members) = HasMember graph row part (has_target mapped part row) member × HasMembers graph row parts members
  HasMembers graph row parts members = ⊥

  members_later : (old new : Graph) (row : Row) (parts : List Part) (members : List (Option ObjId)) → StillFound old new → HasMembers old row parts members → HasMembers new row parts members
  members_later old new row [] [] found h = tt
  members_later old new row [] (member ∷ members) found h = absurd h
  members_later old new row (part ∷ parts) [] found h = absurd h
  members_later old new row (part ∷ parts) (member ∷ members) found h =
      (member_later old new row part (has_target mapped part row) member found h.0, members_later old new row parts members found h.1)

  record AreMembersTaken (row : Row) (parts : List Part) (before : List (Option ObjId)) (own : Loading) (members : List (Option ObjId)) (now : Loading) : Type 0 where
    new : List (Option ObjId)
    are : members ≡ before ++ new
    is : HasMembers now.graph row parts new
    extends : Extends mapped own.graph now.graph

  members_go : (row : Row) (parts : List Part) (before : List (Option ObjId)) (own : Loading) (members : List (Option ObjId)) (now : Loading) → AllByRecursion (λ part. IsClass mapped part.target) parts
      → length own.graph.roots ≡ length own.graph.objects → Goes (each (take_next mapped row) before parts) own members now → AreMembersTaken row parts before own members now
  unfolding each take_member
  members_go row [] before own members now declared rooted g =
      let end = given before members own now g in
      subst (λ (u : Loading). AreMembersTaken row [] before own members u) end.1
      (record { new = []; are = sym end.0 ∙ sym (append-nil before); is = tt; extends = extends_same mapped own.graph rooted })
  members_go row (part ∷ parts) before own members now declared rooted g =
      let one = parted (take_next mapped row part before) (λ (t : List (Option ObjId)). each (take_next mapped row) t parts) own members now g in
      let two = parted (take_member mapped row part) (λ (m : Option ObjId). give (before ++ m ∷ [])) own one.value one.between one.first in
      let put = given (before ++ two.value ∷ []) one.value two.between one.between two.second in
      let here = subst (λ (u : Loading). IsMemberTaken row part (has_target mapped part row) own two.value u) put.1
      (member_by row part (has_target mapped part row) own two.value two.between declared.0 rooted (record { answer = two.first.answer; leaves = two.first.leaves })) in
      let rest = members_go row parts one.value one.between members now declared.1 here.extends.rooted one.second in
      record {
        new = two.value ∷ rest.new;
        are = rest.are ∙ ap (λ (b : List (Option ObjId)). b ++ rest.new) (sym put.0) ∙ append_assoc before (two.value ∷ []) rest.new;
        is = (member_later one.between.graph now.graph row part (has_target mapped part row) two.value rest.extends.found here.is, rest.is);
        extends = extends_then mapped own.graph one.between.graph now.graph here.extends rest.extends;
      }

  -- ---- all rows

  module _ (class : ClassId) (declared : IsClass mapped class) (parts : List Part) (targets : AllByRecursion (λ part. IsClass mapped part.target) parts) where
    -- the object of each row is found under its key, and so are its members
    abbrev pub IsTaken : Graph → Row → Taken → Type 0
    IsTaken graph row one = (find_identity graph (root_of mapped class) (row_key mapped class (own_values mapped class row)) ≡ Some one.owner) × HasMembers graph row parts one.members

    abbrev pub AreTaken : Graph → List Row → List Taken → Type 0
    AreTaken graph [] [] = Unit {0}
    AreTaken graph (row ∷ rows) (one ∷ taken) = IsTaken graph row one × AreTaken graph rows taken
    AreTaken graph rows taken = ⊥

    pub taken_later : (old new : Graph) (rows : List Row) (taken : List Taken) → StillFound old new → AreTaken old rows taken → AreTaken new rows taken
    taken_later old new [] [] found h = tt
    taken_later old new [] (one ∷ taken) found h = absurd h
    taken_later old new (row ∷ rows) [] found h = absurd h
    taken_later old new (row ∷ rows) (one ∷ taken) found h =
        ((found (root_of mapped class) (row_key mapped class (own_values mapped class row)) one.owner h.0.0, members_later old new row parts one.members found h.0.1), taken_later old new rows taken found h.1)

    record IsOneTaken (row : Row) (own : Loading) (one : Taken) (now : Loading) : Type 0 where
      is : IsTaken now.graph row one
      extends : Extends mapped own.graph now.graph

    owner_taken : (row : Row) (own : Loading) (one : Taken) (now : Loading) → length own.graph.roots ≡ length own.graph.objects → Goes (take_owner mapped class parts row) own one now → IsOneTaken row own one now
    unfolding take_owner take_members
    owner_taken row own one now rooted g =
        let values : Row = own_values mapped class row in
        let two = parted (take_row mapped class values) (λ (owner : ObjId). take_members mapped parts row >>= λ members. give (taken_with owner members)) own one now (record { answer = g.answer; leaves = g.leaves }) in
        let first = row_extends class declared values own two.between two.value rooted two.first in
        let three = parted (take_members mapped parts row) (λ (members : List (Option ObjId)). give (taken_with two.value members)) two.between one now two.second in
        let put = given (taken_with two.value three.value) one three.between now three.second in
        let rest = members_go row parts [] two.between three.value three.between targets first.extends.rooted (record { answer = three.first.answer; leaves = three.first.leaves }) in
        subst (λ (u : Loading). IsOneTaken row own one u) put.1
        (subst (λ (t : Taken). IsOneTaken row own t three.between) put.0
        (record {
          is = (rest.extends.found (root_of mapped class) (row_key mapped class values) two.value first.found, subst (HasMembers three.between.graph row parts) (sym rest.are) rest.is);
          extends = extends_then mapped own.graph two.between.graph three.between.graph first.extends rest.extends;
        }))

    pub record AreAllTaken (rows : List Row) (before : List Taken) (own : Loading) (taken : List Taken) (now : Loading) : Type 0 where
      pub new : List Taken
      pub are : taken ≡ before ++ new
      pub is : AreTaken now.graph rows new
      pub extends : Extends mapped own.graph now.graph

    all_go : (rows : List Row) (before : List Taken) (own : Loading) (taken : List Taken) (now : Loading) → length own.graph.roots ≡ length own.graph.objects → Goes (each (take_one mapped class parts) before rows) own taken now
        → AreAllTaken rows before own taken now
    unfolding each
    all_go [] before own taken now rooted g =
        let end = given before taken own now g in
        subst (λ (u : Loading). AreAllTaken [] before own taken u) end.1 (record { new = []; are = sym end.0 ∙ sym (append-nil before); is = tt; extends = extends_same mapped own.graph rooted })
    all_go (row ∷ rows) before own taken now rooted g =
        let one = parted (take_one mapped class parts row before) (λ (t : List Taken). each (take_one mapped class parts) t rows) own taken now g in
        let two = parted (take_owner mapped class parts row) (λ (t : Taken). give (before ++ t ∷ [])) own one.value one.between one.first in
        let put = given (before ++ two.value ∷ []) one.value two.between one.between two.second in
        let here = subst (λ (u : Loading). IsOneTaken row own two.value u) put.1 (owner_taken row own two.value two.between rooted two.first) in
        let rest = all_go rows one.value one.between taken now here.extends.rooted one.second in
        record {
          new = two.value ∷ rest.new;
          are = rest.are ∙ ap (λ (b : List Taken). b ++ rest.new) (sym put.0) ∙ append_assoc before (two.value ∷ []) rest.new;
          is = (
            (
              rest.extends.found (root_of mapped class) (row_key mapped class (own_values mapped class row)) two.value.owner here.is.0,
              members_later one.between.graph now.graph row parts two.value.members rest.extends.found here.is.1,
            ),
            rest.is,
          );
          extends = extends_then mapped own.graph one.between.graph now.graph here.extends rest.extends;
        }

    -- the rows of a main select that are taken
    pub all_taken : (rows : List Row) (own : Loading) (taken : List Taken) (now : Loading) → length own.graph.roots ≡ length own.graph.objects → Goes (take_joined mapped class parts rows) own taken now → AreAllTaken rows [] own taken now
    unfolding take_joined
    all_taken rows own taken now rooted g = all_go rows [] own taken now rooted (record { answer = g.answer; leaves = g.leaves })
