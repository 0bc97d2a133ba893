-- Runs of rows, and numbers of rows by table and key, told by what they are and not by how they are made.
use Rattle.std.specs.Prelude.{◌≡◌, ◌<◌, ℕ, true, false, List, [], ◌∷◌, ◌++◌, length, slice_index_or}
use Rattle.std.specs.declared.cmp.Ordering.TheVariants.{Less}
use Rattle.std.specs.List.{flat_map}
use Rattle.schema_core.specs.declared.changes.RowChanges.{RowChanges}
use Rattle.schema_core.specs.Catalog.{Catalog}
use Rattle.row_order.specs.Places.{is_among}
use Rattle.flush_order.specs.Sorted.{Place, place_cmp, same_place}
use Rattle.flush_writes.specs.Runs.{joins}

-- the runs of an order
pub record AreRuns (schema : Catalog) (changes : RowChanges) (order : List ℕ) (runs : List (List ℕ)) : Type 0 where
  -- one behind the other they are the order
  pub whole : flat_map (λ run. run) runs ≡ order
  -- each has a row
  pub some : (before after : List (List ℕ)) → runs ≡ before ++ [] ∷ after → ⊥
  -- each row keeps the rules behind those before it in its run
  pub joined : (before after : List (List ℕ)) (first : ℕ) (ahead rest : List ℕ) (place : ℕ) → runs ≡ before ++ ((first ∷ ahead) ++ place ∷ rest) ∷ after → joins schema changes (first ∷ ahead) place ≡ true
  -- no run could be longer: the next row behind it breaks a rule
  pub longest : (before after : List (List ℕ)) (run places : List ℕ) (place : ℕ) → runs ≡ before ++ run ∷ (place ∷ places) ∷ after → joins schema changes run place ≡ false

abbrev pub place_at : List Place → ℕ → Place
place_at places number = slice_index_or places number (record { 0 = 0 }, [])

-- the number is of an item, and no later one has its table and key
abbrev pub IsLastAt : List Place → ℕ → Type 0
IsLastAt places number = (number < length places) × ((later : ℕ) → number < later → later < length places → same_place (place_at places later) (place_at places number) ≡ false)

-- the numbers of items by table and key; where some have one table and key, that of the last
pub record AreByPlace (places : List Place) (numbers : List ℕ) : Type 0 where
  pub each : (number : ℕ) → is_among numbers number ≡ true → IsLastAt places number
  pub all : (number : ℕ) → IsLastAt places number → is_among numbers number ≡ true
  pub rising : (ahead rest : List ℕ) (one other : ℕ) → numbers ≡ ahead ++ one ∷ other ∷ rest → place_cmp (place_at places one) (place_at places other) ≡ Less
