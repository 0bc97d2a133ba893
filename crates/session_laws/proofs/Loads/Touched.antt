-- What a load notes is touched in each scope in progress, and nothing else comes to be.
use Rattle.std.proofs.Common.{◌≡◌, ◌≢◌, ◌⊎◌, inl, inr, ℕ, ◌<◌, ◌≤◌, zero, suc, true, List, [], ◌∷◌, length, get_or, refl, sym, subst, ⊎_elim, arith}
use Rattle.std.specs.List.{flat_map}
use Rattle.std.proofs.lemmas.Bool.{cases_eq}
use Rattle.base_core.specs.declared.ids.ObjId.{ObjId}
use Rattle.keeper_core.specs.declared.notes.Note.{Note}
use Rattle.keeper_core.specs.declared.notes.Note.TheVariants.{Filled, Sent, Warn}
use Rattle.object_arena.specs.Graph.{Graph, place_of}
use Rattle.savepoints.specs.Scopes.{Framed, is_touched, touch}
use Rattle.session_scopes.specs.Loads.{filled_in, frames_filled}
use Rattle.session_laws.specs.Scopes.{Touch}
use Rattle.session_laws.specs.Loads.{IsNotedAt, LoadsTouchTheNoted}
use Rattle.session_laws.proofs.Scopes.Traces.{only_touches, touch_touches}
use Rattle.session_laws.proofs.Sound.Touches.{all_scopes, as_deep, touched_stays}

-- the scopes in progress stay
pub filled_scopes : (graph : Graph) (notes : List Note) (frames : Framed) → (frames_filled graph notes frames).scopes ≡ frames.scopes
filled_scopes graph notes frames = all_scopes graph (flat_map filled_in notes) frames

-- what was touched stays so
pub filled_stays : (graph : Graph) (notes : List Note) (frames : Framed) (depth place : ℕ) → 1 ≤ depth → depth ≤ length frames.scopes → is_touched frames depth place ≡ true → is_touched (frames_filled graph notes frames) depth place ≡ true
filled_stays graph notes frames depth place low high is = touched_stays graph (flat_map filled_in notes) frames depth place low high is

-- ---- what is noted

noted_first : (graph : Graph) (object : ObjId) (notes : List Note) (frames : Framed) (depth : ℕ) → 1 ≤ depth → depth ≤ length frames.scopes → is_touched (frames_filled graph (Filled object ∷ notes) frames) depth (place_of object) ≡ true
noted_first graph object notes frames depth low high =
    filled_stays graph notes (touch graph object frames) depth (place_of object) low (as_deep graph object frames depth high) (touch_touches (record { graph = graph; frames = frames }) object depth (low, high))

noted_there : (graph : Graph) (object : ObjId) (notes : List Note) (frames : Framed) (depth k : ℕ) → 1 ≤ depth → depth ≤ length frames.scopes → k < length notes → get_or notes k (Filled object) ≡ Filled object
    → is_touched (frames_filled graph notes frames) depth (place_of object) ≡ true
noted_there graph object [] frames depth k low high less is = absurd (omega (arith, less))
noted_there graph object (note ∷ notes) frames depth zero low high less is =
    subst (λ (n : Note). is_touched (frames_filled graph (n ∷ notes) frames) depth (place_of object) ≡ true) (sym is) (noted_first graph object notes frames depth low high)
noted_there graph object (Filled other ∷ notes) frames depth (suc k) low high less is = noted_there graph object notes (touch graph other frames) depth k low (as_deep graph other frames depth high) (omega (arith, less)) is
noted_there graph object (Sent statement ∷ notes) frames depth (suc k) low high less is = noted_there graph object notes frames depth k low high (omega (arith, less)) is
noted_there graph object (Warn warning ∷ notes) frames depth (suc k) low high less is = noted_there graph object notes frames depth k low high (omega (arith, less)) is

pub noted_touched : (graph : Graph) (notes : List Note) (frames : Framed) (depth place : ℕ) → 1 ≤ depth → depth ≤ length frames.scopes → IsNotedAt notes place → is_touched (frames_filled graph notes frames) depth place ≡ true
noted_touched graph notes frames depth place low high is =
    subst (λ (p : ℕ). is_touched (frames_filled graph notes frames) depth p ≡ true) is.stands (noted_there graph is.object notes frames depth is.noted.0 low high is.noted.1 is.noted.2)

-- ---- nothing else

noted_later : (note : Note) (notes : List Note) (place : ℕ) → IsNotedAt notes place → IsNotedAt (note ∷ notes) place
noted_later note notes place is = record { object = is.object; noted = (suc is.noted.0, let less = is.noted.1 in omega (arith, less), is.noted.2); stands = is.stands }

either_later : (P : Type 0) (note : Note) (notes : List Note) (place : ℕ) → P ⊎ IsNotedAt notes place → P ⊎ IsNotedAt (note ∷ notes) place
either_later P note notes place (inl is) = inl is
either_later P note notes place (inr is) = inr (noted_later note notes place is)

-- the object of a note is touched, or it was before
first_touched : (graph : Graph) (object : ObjId) (notes : List Note) (frames : Framed) (depth place : ℕ) → 1 ≤ depth → depth ≤ length frames.scopes → is_touched (touch graph object frames) depth place ≡ true → (is_touched frames depth place ≡ true) ⊎ IsNotedAt (Filled object ∷ notes) place
first_touched graph object notes frames depth place low high is =
    ⊎_elim
    (λ (same : place ≡ place_of object). let zeroth : 0 < length (Filled object ∷ notes) = omega arith in inr (record { object = object; noted = (0, zeroth, refl); stands = sym same }))
    (λ (apart : place ≢ place_of object). inl ((only_touches (record { graph = graph; frames = frames }) (Touch object) place apart).0 depth (low, as_deep graph object frames depth high) is))
    (cases_eq place (place_of object))

only_noted : (graph : Graph) (notes : List Note) (frames : Framed) (depth place : ℕ) → 1 ≤ depth → depth ≤ length frames.scopes → is_touched (frames_filled graph notes frames) depth place ≡ true → (is_touched frames depth place ≡ true) ⊎ IsNotedAt notes place
only_noted graph [] frames depth place low high is = inl is
only_noted graph (Sent statement ∷ notes) frames depth place low high is = either_later (is_touched frames depth place ≡ true) (Sent statement) notes place (only_noted graph notes frames depth place low high is)
only_noted graph (Warn warning ∷ notes) frames depth place low high is = either_later (is_touched frames depth place ≡ true) (Warn warning) notes place (only_noted graph notes frames depth place low high is)
only_noted graph (Filled object ∷ notes) frames depth place low high is = by (only_noted graph notes (touch graph object frames) depth place low (as_deep graph object frames depth high) is)
  where
    by : (is_touched (touch graph object frames) depth place ≡ true) ⊎ IsNotedAt notes place → (is_touched frames depth place ≡ true) ⊎ IsNotedAt (Filled object ∷ notes) place
    by (inl touched) = first_touched graph object notes frames depth place low high touched
    by (inr noted) = inr (noted_later (Filled object) notes place noted)

pub touched_law : LoadsTouchTheNoted
touched_law graph notes frames depth place low high = (only_noted graph notes frames depth place low high, by)
  where
    by : (is_touched frames depth place ≡ true) ⊎ IsNotedAt notes place → is_touched (frames_filled graph notes frames) depth place ≡ true
    by (inl is) = filled_stays graph notes frames depth place low high is
    by (inr is) = noted_touched graph notes frames depth place low high is
