-- Steps of the loops over the rows of a run, and over the rows that are cut into runs.
use Rattle.std.proofs.Common.{◌≡◌, ℕ, ◌+◌, ◌<◌, ◌≤◌, Bool, true, false, cond, ◌&&◌, List, [], ◌∷◌, ◌++◌, length, get_or, drop, map, refl, sym, ap, ◌∙◌, add-one, drop-cons}
use Rattle.std.proofs.lemmas.List.{drop_all}
use Rattle.std.specs.List.{list_all}
use Rattle.std.proofs.lemmas.List.{map-append}
use Rattle.schema_core.specs.declared.changes.RowChanges.{RowChanges}
use Rattle.schema_core.specs.Catalog.{Catalog}
use Rattle.flush_writes.specs.Writes.{insert_run}
use Rattle.flush_writes.specs.Runs.{runs_from, nonempty_run, joins}

all_at : (p : ℕ → Bool) (xs : List ℕ) (i d : ℕ) → i < length xs → list_all p (drop i xs) ≡ (p (get_or xs i d) && list_all p (drop (i + 1) xs))
all_at p xs i d h = rw (add-one, drop-cons xs i d h) refl

pub all_passed : (p : ℕ → Bool) (xs : List ℕ) (i d : ℕ) → i < length xs → p (get_or xs i d) ≡ true → list_all p (drop (i + 1) xs) ≡ list_all p (drop i xs)
all_passed p xs i d h e = sym (all_at p xs i d h ∙ ap (λ b. b && list_all p (drop (i + 1) xs)) e)

pub all_failed : (p : ℕ → Bool) (xs : List ℕ) (i d : ℕ) → i < length xs → p (get_or xs i d) ≡ false → list_all p (drop i xs) ≡ false
all_failed p xs i d h e = all_at p xs i d h ∙ ap (λ b. b && list_all p (drop (i + 1) xs)) e

pub all_end : (p : ℕ → Bool) (xs : List ℕ) (i : ℕ) → length xs ≤ i → list_all p (drop i xs) ≡ true
all_end p xs i h = ap (list_all p) (drop_all i xs h)

pub ruleset all_steps = (all_passed, all_failed, all_end)

-- ---- rows that are cut into runs

pub cut_end : (schema : Catalog) (changes : RowChanges) (run order : List ℕ) (i : ℕ) → length order ≤ i → runs_from schema changes run (drop i order) ≡ nonempty_run run
cut_end schema changes run order i h = ap (runs_from schema changes run) (drop_all i order h)

pub cut_at : (schema : Catalog) (changes : RowChanges) (run order : List ℕ) (i d : ℕ) → i < length order → runs_from schema changes run (drop i order) ≡ runs_from schema changes run (get_or order i d ∷ drop (i + 1) order)
cut_at schema changes run order i d h = rw (add-one, drop-cons order i d h) refl

pub ruleset cut_steps = (cut_end, cut_at)

-- a row goes into the run, or ends it
pub cut_joins : (schema : Catalog) (changes : RowChanges) (run rest : List ℕ) (row : ℕ) → joins schema changes run row ≡ true → runs_from schema changes run (row ∷ rest) ≡ runs_from schema changes (run ++ row ∷ []) rest
cut_joins schema changes run rest row e = ap (λ b. cond b (runs_from schema changes (run ++ row ∷ []) rest) (nonempty_run run ++ runs_from schema changes (row ∷ []) rest)) e

pub cut_ends : (schema : Catalog) (changes : RowChanges) (run rest : List ℕ) (row : ℕ) → joins schema changes run row ≡ false → map (insert_run changes) (runs_from schema changes run (row ∷ rest)) ≡ map (insert_run changes) (nonempty_run run) ++ map (insert_run changes) (runs_from schema changes (row ∷ []) rest)
cut_ends schema changes run rest row e =
    ap (λ b. map (insert_run changes) (cond b (runs_from schema changes (run ++ row ∷ []) rest) (nonempty_run run ++ runs_from schema changes (row ∷ []) rest))) e
    ∙ map-append (insert_run changes) (nonempty_run run) (runs_from schema changes (row ∷ []) rest)

pub ruleset take_steps = (cut_joins, cut_ends)
