-- What the change of links leaves of objects.
use Rattle.std.specs.Prelude.{◌≡◌, ℕ, slice_index_or}
use Rattle.object_arena.specs.Graph.{Graph, no_object}
use Rattle.relations.specs.Places.{HasPlaces}

-- as many objects, each with as many links, and each stands as it stood
pub record IsRelinked (old new : Graph) : Type 0 where
  pub places : HasPlaces old new
  pub roots : new.roots ≡ old.roots
  pub state : (place : ℕ) → (slice_index_or new.objects place no_object).state ≡ (slice_index_or old.objects place no_object).state
  pub identity : (place : ℕ) → (slice_index_or new.objects place no_object).identity ≡ (slice_index_or old.objects place no_object).identity
