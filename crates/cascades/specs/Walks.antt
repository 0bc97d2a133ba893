-- What a walk along links has come to.
use Rattle.std.specs.Prelude.{◌≡◌, ℕ, ◌+◌, Bool, true, false, List, [], ◌∷◌, slice_index_or}
use Rattle.std.specs.Ordering.{nat_cmp}
use Rattle.std.specs.List.{list_any}
use Rattle.std.specs.BTreeMap.{is_at}
use Rattle.base_core.specs.declared.ids.ObjId.{ObjId}
use Rattle.cascades.specs.Closures.{is_among}

abbrev pub id_of_number : ℕ → ObjId
id_of_number number = record { 0 = number }

-- the number is one of a set
abbrev pub is_in : List ℕ → ℕ → Bool
is_in numbers number = list_any (is_at (nat_cmp number)) numbers

-- there is a mark at the number
abbrev pub is_marked : List Bool → ℕ → Bool
is_marked marks number = slice_index_or marks number false

-- how many numbers have no mark
abbrev pub count_left : List Bool → ℕ
count_left [] = 0
count_left (true ∷ marks) = count_left marks
count_left (false ∷ marks) = count_left marks + 1

-- the objects that have a mark, where the first mark is that of a number
abbrev pub marked_from : ℕ → List Bool → List ObjId
marked_from number [] = []
marked_from number (true ∷ marks) = id_of_number number ∷ marked_from (number + 1) marks
marked_from number (false ∷ marks) = marked_from (number + 1) marks

-- The walk came to the objects: it had come to the numbers of old, and its objects of waited were waiting. It came to no
-- others, and those to which it came for the first time are waiting too.
pub record Comes (old new : ℕ → Bool) (waited waiting objects : List ObjId) : Type 0 where
  pub kept : (number : ℕ) → old number ≡ true → new number ≡ true
  pub all : (object : ObjId) → is_among objects object ≡ true → new object.0 ≡ true
  pub only : (number : ℕ) → new number ≡ true → old number ≡ false → is_among objects (id_of_number number) ≡ true
  pub waits : (number : ℕ) → new number ≡ true → old number ≡ false → is_among waiting (id_of_number number) ≡ true
  pub still : (object : ObjId) → is_among waited object ≡ true → is_among waiting object ≡ true
  pub held : (object : ObjId) → is_among waiting object ≡ true → is_among waited object ≡ false → new object.0 ≡ true
