-- What the notes of a load name.
use Rattle.std.specs.Prelude.{◌≡◌, ◌⊎◌, List, [], ◌∷◌}
use Rattle.base_core.specs.declared.ids.ObjId.{ObjId}
use Rattle.keeper_core.specs.declared.notes.Note.{Note}
use Rattle.keeper_core.specs.declared.notes.Note.TheVariants as note
use Rattle.object_arena.specs.Graph.{Graph, IsObject, object_at}
use Rattle.load_rows.specs.Loading.{Loading}

-- the object is named as filled
abbrev pub IsFilledIn : ObjId → List Note → Type 0
IsFilledIn object [] = ⊥
IsFilledIn object (one ∷ notes) = (one ≡ note.Filled object) ⊎ IsFilledIn object notes

-- the object was there before, and its record is the same
pub record IsAsBefore (old new : Graph) (object : ObjId) : Type 0 where
  pub made : IsObject old object
  pub same : object_at new object ≡ object_at old object

-- Each object is named as filled, or is as it was before. So every object that was made since is named, and every one whose cells or
-- links were filled.
abbrev pub AreNotedSince : Graph → Loading → Type 0
AreNotedSince start own = (object : ObjId) → IsObject own.graph object → IsFilledIn object own.notes ⊎ IsAsBefore start own.graph object
