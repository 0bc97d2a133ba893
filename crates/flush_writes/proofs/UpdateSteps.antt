-- Steps of the loops over rows that are written, and over their names.
use Rattle.std.proofs.Common.{◌≡◌, ℕ, suc, zero, ◌+◌, ◌<◌, false, List, [], ◌∷◌, ◌++◌, length, map, get_or, take, Some, ap, ◌∙◌, subst, arith}
use Rattle.std.proofs.Math.Seq.{take-suc}
use Rattle.std.proofs.lemmas.List.{length-map, map-append}
use Rattle.std.proofs.lemmas.List.Elements.{All-get_or, filter-append}
use Rattle.std.proofs.lemmas.Option.{get_or_from_slice_get}
use Rattle.std.specs.Prelude.{slice_index_or}
use Rattle.std.specs.List.{All, filter, slice_get}
use Rattle.schema_core.specs.declared.changes.ChangedRow.{ChangedRow}
use Rattle.schema_core.specs.declared.changes.RowChanges.{RowChanges}
use Rattle.schema_core.specs.Catalog.{Catalog}
use Rattle.flush_writes.specs.Writes.{cells_when, no_changed, update_of, updates_to, writing_some}
use Rattle.flush_order.specs.Cells.{new_at, no_row}
use Rattle.flush_order.specs.Ready.{AreInRange, IsInTable}
use Rattle.schema_core.specs.declared.changes.NewRow.{NewRow}

pub take_one : {A : Type 0} (xs : List A) (i : ℕ) (d : A) → i < length xs → take (i + 1) xs ≡ take i xs ++ get_or xs i d ∷ []
take_one xs i d h =
    let e : i + 1 ≡ suc i = omega arith in
    ap (λ n. take n xs) e ∙ take-suc xs i d h

less_of : {A : Type 0} (xs : List A) (i : ℕ) (x : A) → slice_get xs i ≡ Some x → i < length xs
less_of [] i x e = absurd cc
less_of (y ∷ ys) zero x e = omega arith
less_of (y ∷ ys) (suc i) x e = omega (arith, less_of ys i x e)

pub in_all : {A : Type 0} (P : A → Type 0) (xs : List A) (i : ℕ) (x : A) → All P xs → slice_get xs i ≡ Some x → P x
in_all P xs i x all e = subst P (get_or_from_slice_get xs i x x e) (All-get_or P xs i x (less_of xs i x e) all)

pub mapped_more : {A : Type 0} (at : ℕ → A) (numbers : List ℕ) (i d : ℕ) (x : A) → i < length numbers → at (get_or numbers i d) ≡ x → map at (take (i + 1) numbers) ≡ map at (take i numbers) ++ x ∷ []
mapped_more at numbers i d x h e =
    ap (map at) (take_one numbers i d h) ∙ map-append at (take i numbers) (get_or numbers i d ∷ []) ∙ ap (λ y. map at (take i numbers) ++ y ∷ []) e

-- ---- changed rows

pub changed_in : (schema : Catalog) (changes : RowChanges) (number : ℕ) (row : ChangedRow) → AreInRange schema changes → slice_get changes.changed number ≡ Some row → IsInTable schema row
changed_in schema changes number row range e = in_all (IsInTable schema) changes.changed number row range.changed e

pub update_more : (schema : Catalog) (changes : RowChanges) (numbers : List ℕ) (i d : ℕ) (row : ChangedRow) → i < length numbers → slice_get changes.changed (get_or numbers i d) ≡ Some row → updates_to schema changes (map (λ number. slice_index_or changes.changed number no_changed) (take (i + 1) numbers)) ≡ updates_to schema changes (map (λ number. slice_index_or changes.changed number no_changed) (take i numbers)) ++ updates_to schema changes (row ∷ [])
update_more schema changes numbers i d row h e =
    let at : ℕ → ChangedRow = λ number. slice_index_or changes.changed number no_changed in
    let is : at (get_or numbers i d) ≡ row = get_or_from_slice_get changes.changed (get_or numbers i d) row no_changed e in
    ap (λ ns. updates_to schema changes (map at ns)) (take_one numbers i d h)
    ∙ ap (updates_to schema changes) (map-append at (take i numbers) (get_or numbers i d ∷ []) ∙ ap (λ r. map at (take i numbers) ++ r ∷ []) is)
    ∙ ap (λ ws. map update_of (filter writing_some ws)) (map-append (cells_when schema changes false) (map at (take i numbers)) (row ∷ []))
    ∙ ap (map update_of) (filter-append writing_some (map (cells_when schema changes false) (map at (take i numbers))) (map (cells_when schema changes false) (row ∷ [])))
    ∙ map-append update_of (filter writing_some (map (cells_when schema changes false) (map at (take i numbers)))) (filter writing_some (map (cells_when schema changes false) (row ∷ [])))

pub ruleset update_steps = (changed_in, length-map)

-- ---- names of rows

pub name_more : (changes : RowChanges) (rows : List ℕ) (i d : ℕ) (row : NewRow) → i < length rows → slice_get changes.fresh (get_or rows i d) ≡ Some row → map (λ row. (new_at changes row).name) (take (i + 1) rows) ≡ map (λ row. (new_at changes row).name) (take i rows) ++ row.name ∷ []
name_more changes rows i d row h e = mapped_more (λ row. (new_at changes row).name) rows i d row.name h (ap (λ (r : NewRow). r.name) (get_or_from_slice_get changes.fresh (get_or rows i d) row no_row e))
