-- Items that stand one behind the other.
use Rattle.std.specs.Prelude.{ℕ, zero, suc, List, [], ◌∷◌, ◌++◌, Option, Some, None}
use Rattle.script_tokens.specs.Input.{Reader, ◌>>=◌, pure}

-- an item before the others, or the end
abbrev pub many_by : {A : Type 0} → (List A → Reader (List A)) → List A → Option A → Reader (List A)
many_by more found None = pure found
many_by more found (Some a) = more (found ++ a ∷ [])

-- Items behind those that were found before, at most so many: the reader reads one, or nothing where none comes next.
unfoldable pub many_from : {A : Type 0} → Reader (Option A) → ℕ → List A → Reader (List A)
many_from item zero found = pure found
many_from item (suc n) found = item >>= many_by (many_from item n) found
