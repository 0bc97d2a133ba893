-- What is asked for in batches, and objects each once.
use Rattle.std.specs.Prelude.{◌≡◌, ℕ, ◌+◌, ◌*◌, ◌/◌, List, [], ◌∷◌, ◌++◌, fold, map, if◌then◌else◌}
use Rattle.std.specs.BTreeSet.{BTreeSet, contains}
use Rattle.std.specs.List.{range_with_len}
use Rattle.std.specs.Ordering.{nat_cmp}
use Rattle.base_core.specs.declared.ids.ObjId.{ObjId}
use Rattle.object_arena.specs.Graph.{is_among}

-- how many keys one select has at most
abbrev pub batch_size : ℕ
batch_size = 500

-- where the batches of so many begin
abbrev pub batch_starts : ℕ → List ℕ
batch_starts count = map (λ number. batch_size * number) (range_with_len 0 ((count + 499) / batch_size))

-- an object goes behind others, unless it is among them
abbrev pub with_first : List ObjId → ObjId → List ObjId
with_first kept object = if is_among kept object then kept else kept ++ object ∷ []

-- objects where each comes first
unfoldable pub firsts : List ObjId → List ObjId
firsts objects = fold with_first [] objects

-- a set has the numbers of these objects
pub record HasSeen (seen : BTreeSet ℕ) (kept : List ObjId) : Type 0 where
  pub same : (object : ObjId) → contains nat_cmp seen object.0 ≡ is_among kept object
