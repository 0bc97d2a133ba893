-- The objects of the rows of a query's main select, and of the parts that they have of joined options, as a program.
use Rattle.std.specs.Prelude.{◌≡◌, ℕ, ◌-◌, Bool, true, false, not, ◌&&◌, List, [], ◌∷◌, ◌++◌, drop, slice_get, take, Option, None, Some}
use Rattle.std.specs.Option.{option_and_then}
use Rattle.std.specs.List.{AllByRecursion, list_all}
use Rattle.base_core.specs.declared.ids.ClassId.{ClassId}
use Rattle.base_core.specs.declared.ids.ObjId.{ObjId}
use Rattle.base_core.specs.declared.value.Value.{Value}
use Rattle.schema_core.specs.Tables.{is_null}
use Rattle.class_mapping.specs.Mapped.{Mapped, root_of}
use Rattle.keeper_core.specs.Programs.{Run, ◌>>=◌, each, give}
use Rattle.object_arena.specs.Fit.{end_fits, is_of_root}
use Rattle.load_filling.specs.Rows.{row_key}
use Rattle.load_rows.specs.Loading.{Loading, take_row}
use Rattle.load_rows.specs.Reading.{AreOfKinds, IsRowOf}
use Rattle.joined_rows.specs.declared.parts.Part.{Part}
use Rattle.joined_rows.specs.Parts.{own_values, values_from}
use Rattle.object_parts.specs.declared.answers.Taken.{Taken}

-- ---- the object of an option's part

-- none of the values is NULL
abbrev pub are_given : List Value → Bool
are_given values = list_all (λ v. not (is_null v)) values

-- what a row has of the keys of an option's further tables
abbrev pub further_keys : Part → List Value → List Value
further_keys part row = take (part.end - part.keys) (drop part.keys row)

-- a row has a target: where a left join meets none, the keys are NULL
abbrev pub has_target : Mapped → Part → List Value → Bool
has_target mapped part row = are_given (row_key mapped part.target (values_from part row)) && are_given (further_keys part row)

abbrev pub member_if : Mapped → List Value → Part → Bool → Loading → Run Loading (Option ObjId)
member_if mapped row part true = take_row mapped part.target (values_from part row) >>= λ object. give (Some object)
member_if mapped row part false = give None

-- the object of an option's part of a row, if the row has one
unfoldable pub take_member : Mapped → List Value → Part → Loading → Run Loading (Option ObjId)
take_member mapped row part = member_if mapped row part (has_target mapped part row)

-- ---- the objects of rows

-- the object of a part goes behind those of the parts before
abbrev pub take_next : Mapped → List Value → Part → List (Option ObjId) → Loading → Run Loading (List (Option ObjId))
take_next mapped row part members = take_member mapped row part >>= λ member. give (members ++ member ∷ [])

-- those of all parts of a row, one for each option
unfoldable pub take_members : Mapped → List Part → List Value → Loading → Run Loading (List (Option ObjId))
take_members mapped parts row = each (take_next mapped row) [] parts

abbrev pub taken_with : ObjId → List (Option ObjId) → Taken
taken_with owner members = record { owner = owner; members = members }

-- the object of a row, and then those of its parts
unfoldable pub take_owner : Mapped → ClassId → List Part → List Value → Loading → Run Loading Taken
take_owner mapped class parts row =
    take_row mapped class (own_values mapped class row) >>= λ owner. (take_members mapped parts row >>= λ members. give (taken_with owner members))

abbrev pub take_one : Mapped → ClassId → List Part → List Value → List Taken → Loading → Run Loading (List Taken)
take_one mapped class parts row taken = take_owner mapped class parts row >>= λ one. give (taken ++ one ∷ [])

-- the objects of rows, in order
unfoldable pub take_joined : Mapped → ClassId → List Part → List (List Value) → Loading → Run Loading (List Taken)
take_joined mapped class parts rows = each (take_one mapped class parts) [] rows

-- ---- which rows they are

-- where a row has an option's target, it has a row of the target there
abbrev pub IsRowAt : Mapped → List Value → Part → Type 0
IsRowAt mapped row part = has_target mapped part row ≡ true → IsRowOf mapped part.target (values_from part row)

-- a row of the class, and behind it for each attribute of each target a value that is NULL or of its kind; where it has a target, a
-- row of that
pub record IsJoinedRow (mapped : Mapped) (class : ClassId) (parts : List Part) (row : List Value) : Type 0 where
  pub own : IsRowOf mapped class (own_values mapped class row)
  pub options : AllByRecursion (λ part. AreOfKinds mapped part.target (values_from part row)) parts
  pub targets : AllByRecursion (IsRowAt mapped row) parts

-- ---- whose they are

-- an object of the target's hierarchy, or none
abbrev pub IsMember : Mapped → List ClassId → Part → Option ObjId → Type 0
IsMember mapped roots part member = end_fits roots (root_of mapped part.target) member ≡ true

-- the member of the option of a number
abbrev pub member_at : List (Option ObjId) → ℕ → Option ObjId
member_at members number = option_and_then (λ member. member) (slice_get members number)

-- each member is one of its option
abbrev pub AreMembers : Mapped → List ClassId → List Part → List (Option ObjId) → Type 0
AreMembers mapped roots parts members = (number : ℕ) (part : Part) → slice_get parts number ≡ Some part → IsMember mapped roots part (member_at members number)

-- one member more
pub record IsOneMore (mapped : Mapped) (roots : List ClassId) (part : Part) (members more : List (Option ObjId)) : Type 0 where
  pub member : Option ObjId
  pub is : more ≡ members ++ member ∷ []
  pub of : IsMember mapped roots part member

-- an object of the class's hierarchy, with members of the options
pub record IsTaken (mapped : Mapped) (roots : List ClassId) (class : ClassId) (parts : List Part) (taken : Taken) : Type 0 where
  pub owner : is_of_root roots (root_of mapped class) taken.owner ≡ true
  pub members : AreMembers mapped roots parts taken.members
