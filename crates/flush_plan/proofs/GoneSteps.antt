-- Steps of the loop over deleted rows that are made ready.
use Rattle.std.proofs.Common.{◌≡◌, ℕ, ◌+◌, ◌<◌, ◌≤◌, List, [], ◌∷◌, ◌++◌, length, map, get_or, take, Some, sym, ap, ◌∙◌, subst, arith}
use Rattle.std.proofs.lemmas.List.{length-map, map-append}
use Rattle.std.proofs.lemmas.List.Elements.{All-get_or, All-map}
use Rattle.std.proofs.lemmas.Option.{get_or_from_slice_get}
use Rattle.std.specs.List.{All, slice_get}
use Rattle.schema_core.specs.declared.changes.GoneRow.{GoneRow}
use Rattle.schema_core.specs.declared.changes.RowChanges.{RowChanges}
use Rattle.schema_core.specs.Catalog.{Catalog, IsTable}
use Rattle.flush_order.specs.Orders.{gone_at, no_gone, place_of_gone}
use Rattle.flush_order.specs.declared.refers.ReadyGone.{ReadyGone}
use Rattle.flush_order.specs.Ready.{AreInRange, AreReadyGone, ready_gone}
use Rattle.flush_order.specs.Sorted.{Place, sorted_numbers}
use Rattle.flush_order.proofs.Sorting.{numbers_fewer, numbers_within}
use Rattle.flush_writes.proofs.UpdateSteps.{in_all, mapped_more}

pub gone_in : (schema : Catalog) (changes : RowChanges) (number : ℕ) (row : GoneRow) → AreInRange schema changes → slice_get changes.gone number ≡ Some row → IsTable schema row.name.table
gone_in schema changes number row range e = in_all (λ row. IsTable schema row.name.table) changes.gone number row range.gone e

pub ready_more : (schema : Catalog) (changes : RowChanges) (numbers : List ℕ) (i d : ℕ) (row : GoneRow) → i < length numbers → slice_get changes.gone (get_or numbers i d) ≡ Some row → map (ready_gone schema changes) (map (gone_at changes.gone) (take (i + 1) numbers)) ≡ map (ready_gone schema changes) (map (gone_at changes.gone) (take i numbers)) ++ ready_gone schema changes row ∷ []
ready_more schema changes numbers i d row h e =
    ap (map (ready_gone schema changes)) (mapped_more (gone_at changes.gone) numbers i d row h (get_or_from_slice_get changes.gone (get_or numbers i d) row no_gone e))
    ∙ map-append (ready_gone schema changes) (map (gone_at changes.gone) (take i numbers)) (row ∷ [])

pub gone_sized : (schema : Catalog) (changes : RowChanges) (places : List Place) → places ≡ map (place_of_gone schema) changes.gone → length places ≡ length changes.gone
gone_sized schema changes places e = ap length e ∙ length-map changes.gone (place_of_gone schema)

gone_tables : (schema : Catalog) (changes : RowChanges) (numbers : List ℕ) → AreInRange schema changes → All (λ number. number < length changes.gone) numbers → All (λ (row : ReadyGone). IsTable schema row.name.table) (map (ready_gone schema changes) (map (gone_at changes.gone) numbers))
gone_tables schema changes numbers range within =
    All-map (λ (row : ReadyGone). IsTable schema row.name.table) (ready_gone schema changes) (map (gone_at changes.gone) numbers)
    (All-map (λ (row : GoneRow). IsTable schema row.name.table) (gone_at changes.gone) numbers
    (λ k d h. All-get_or (λ (row : GoneRow). IsTable schema row.name.table) changes.gone (get_or numbers k d) no_gone (within k d h) range.gone))

pub are_ready : (schema : Catalog) (changes : RowChanges) (places : List Place) (numbers : List ℕ) (rows : List ReadyGone) → rows ≡ map (ready_gone schema changes) (map (gone_at changes.gone) numbers) → numbers ≡ sorted_numbers places → places ≡ map (place_of_gone schema) changes.gone → AreInRange schema changes → AreReadyGone schema changes rows
are_ready schema changes places numbers rows e f g range =
    let size : length places ≡ length changes.gone = gone_sized schema changes places g in
    let within : All (λ number. number < length changes.gone) numbers = subst (λ n. All (λ number. number < n) numbers) size (numbers_within places numbers f) in
    let least : length rows ≤ 4294967295 =
    omega (arith, ap length e ∙ length-map (map (gone_at changes.gone) numbers) (ready_gone schema changes) ∙ length-map numbers (gone_at changes.gone), numbers_fewer places numbers f, size, range.fewer) in
    record {
      least = least;
      sorted = e ∙ ap (λ ns. map (ready_gone schema changes) (map (gone_at changes.gone) ns)) (f ∙ ap sorted_numbers g);
      declared = subst (All (λ (row : ReadyGone). IsTable schema row.name.table)) (sym e) (gone_tables schema changes numbers range within);
    }
