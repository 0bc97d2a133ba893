-- The runs of an order are its rows, in order.
use Rattle.std.proofs.Common.{◌≡◌, ℕ, Bool, true, false, cond, List, [], ◌∷◌, ◌++◌, refl, sym, ◌∙◌, append_assoc}
use Rattle.std.proofs.lemmas.Grind.{flat_map-append}
use Rattle.std.specs.List.{flat_map}
use Rattle.schema_core.specs.declared.changes.RowChanges.{RowChanges}
use Rattle.schema_core.specs.Catalog.{Catalog}
use Rattle.flush_writes.specs.Runs.{runs_from, nonempty_run, joins, runs}
use Rattle.session_laws.proofs.Plans.Items.{append_none}

abbrev pub all_rows : List (List ℕ) → List ℕ
all_rows parts = flat_map (λ part. part) parts

ended_whole : (run : List ℕ) → all_rows (nonempty_run run) ≡ run
ended_whole [] = refl
ended_whole (place ∷ places) = append_none (place ∷ places)

cut_whole : (schema : Catalog) (changes : RowChanges) (run places : List ℕ) → all_rows (runs_from schema changes run places) ≡ run ++ places
cut_whole schema changes run [] = ended_whole run ∙ sym (append_none run)
cut_whole schema changes run (place ∷ places) =
    by (joins schema changes run place) (cut_whole schema changes (run ++ place ∷ []) places) (cut_whole schema changes (place ∷ []) places)
  where
    by : (b : Bool) → all_rows (runs_from schema changes (run ++ place ∷ []) places) ≡ (run ++ place ∷ []) ++ places → all_rows (runs_from schema changes (place ∷ []) places) ≡ place ∷ places → all_rows (cond b (runs_from schema changes (run ++ place ∷ []) places) (nonempty_run run ++ runs_from schema changes (place ∷ []) places)) ≡ run ++ place ∷ places
    by true joined apart = joined ∙ append_assoc run (place ∷ []) places
    by false joined apart = flat_map-append (λ part. part) (nonempty_run run) (runs_from schema changes (place ∷ []) places) ∙ (λ i. ended_whole run i ++ apart i)

pub runs_whole : (schema : Catalog) (changes : RowChanges) (order : List ℕ) → flat_map (λ run. run) (runs schema changes order) ≡ order
runs_whole schema changes order = cut_whole schema changes [] order
