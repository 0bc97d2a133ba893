-- Batches of lists.
use Rattle.std.proofs.Common.{◌≡◌, ℕ, ◌-◌, ◌∙◌, List, length, drop, take, min, ap}
use Rattle.std.proofs.lemmas.List.{drop_min, take_min, take_rest}
use Rattle.load_batches.specs.Batches.{batch_at, batch_size}

-- the items from a place on, or none where the list is shorter
pub rest_cut : {A : Type 0} (items : List A) (start from : ℕ) → from ≡ min start (length items) → take (length items - from) (drop from items) ≡ drop start items
rest_cut items start from begins = take_rest items from ∙ ap (λ (n : ℕ). drop n items) begins ∙ drop_min start items

-- the batch that begins at a place
pub batch_cut : {A : Type 0} (items rest : List A) (start size : ℕ) → rest ≡ drop start items → size ≡ min batch_size (length rest) → take size rest ≡ batch_at items start
batch_cut items rest start size is long = ap (λ (n : ℕ). take n rest) long ∙ take_min batch_size rest ∙ ap (take batch_size) is
