-- Lists of places that differ, and the places of what is written late, which do.
use Rattle.std.proofs.Common.{◌≡◌, zero, suc, Bool, true, false, cond, List, [], ◌∷◌, ◌++◌, map, refl, sym, ap, ◌∙◌, subst, arith}
use Rattle.std.proofs.lemmas.List.{map-append}
use Rattle.std.specs.List.{AllByRecursion, filter, list_any}
use Rattle.schema_core.specs.declared.changes.RowChanges.{RowChanges}
use Rattle.schema_core.specs.Catalog.{Catalog}
use Rattle.schema_core.specs.Declaration.{some_two}
use Rattle.table_laws.proofs.Entries.{all_map, all_swap, any_none}
use Rattle.flush_order.specs.Orders.{place_of_gone}
use Rattle.flush_order.specs.Sorted.{Place, same_place}
use Rattle.flush_plan.specs.Planning.{late_writings}
use Rattle.flush_writes.specs.Writes.{Writing, cells_when, late_gone, place_of_changed, writing_some}
use Rattle.session_laws.proofs.Plans.Items.{all_at, all_map_of, map_map}
use Rattle.session_laws.proofs.Plans.Newness.{place_same}
use Rattle.session_laws.proofs.Plans.Numbers.{AreOther}
use Rattle.session_laws.proofs.Plans.Facts.{or_false, true_false}

abbrev pub IsNotIn : Place → List Place → Type 0
IsNotIn place places = AllByRecursion (λ q. q ≡ place → ⊥) places

abbrev pub Differ : List Place → Type 0
Differ [] = Unit {0}
Differ (place ∷ places) = IsNotIn place places × Differ places

-- no two items have one place
pub apart_of : {A : Type 0} (place : A → Place) (xs : List A) → some_two (λ one other. same_place (place one) (place other)) xs ≡ false → Differ (map place xs)
apart_of place [] none = tt
apart_of place (x ∷ xs) none =
    let both = or_false (list_any (λ later. same_place (place later) (place x)) xs) (some_two (λ one other. same_place (place one) (place other)) xs) none in (
      all_map_of (λ q. q ≡ place x → ⊥) place xs
          (all_map (λ y. same_place (place y) (place x) ≡ false) (λ y. place y ≡ place x → ⊥) (λ y e same. true_false (sym (place_same (place y) (place x) same) ∙ e)) xs
          (any_none (λ later. same_place (place later) (place x)) xs both.0)),
      apart_of place xs both.1,
    )

not_in_both : (q : Place) (xs ys : List Place) → IsNotIn q xs → IsNotIn q ys → IsNotIn q (xs ++ ys)
not_in_both q [] ys a b = b
not_in_both q (x ∷ xs) ys a b = (a.0, not_in_both q xs ys a.1 b)

pub apart_both : (xs ys : List Place) → Differ xs → Differ ys → AllByRecursion (λ x. IsNotIn x ys) xs → Differ (xs ++ ys)
apart_both [] ys a b cross = b
apart_both (x ∷ xs) ys a b cross = (not_in_both x xs ys a.0 cross.0, apart_both xs ys a.1 b cross.1)

not_in_filter : {A : Type 0} (place : A → Place) (t : A → Bool) (q : Place) (xs : List A) → IsNotIn q (map place xs) → IsNotIn q (map place (filter t xs))
not_in_filter place t q [] a = tt
not_in_filter place t q (x ∷ xs) a = step (t x) (not_in_filter place t q xs a.1)
  where
    step : (b : Bool) → IsNotIn q (map place (filter t xs)) → IsNotIn q (map place (cond b (x ∷ filter t xs) (filter t xs)))
    step true more = (a.0, more)
    step false more = more

pub apart_filter : {A : Type 0} (place : A → Place) (t : A → Bool) (xs : List A) → Differ (map place xs) → Differ (map place (filter t xs))
apart_filter place t [] a = tt
apart_filter place t (x ∷ xs) a = step (t x) (apart_filter place t xs a.1)
  where
    step : (b : Bool) → Differ (map place (filter t xs)) → Differ (map place (cond b (x ∷ filter t xs) (filter t xs)))
    step true more = (not_in_filter place t (place x) xs a.0, more)
    step false more = more

pub apart_other : (places : List Place) (d : Place) → Differ places → AreOther places d
apart_other [] d a i j h k same = absurd (omega arith)
apart_other (p ∷ ps) d a zero zero h k same = refl
apart_other (p ∷ ps) d a zero (suc j) h k same = absurd (all_at (λ q. q ≡ p → ⊥) ps j d a.0 (omega arith) (sym same))
apart_other (p ∷ ps) d a (suc i) zero h k same = absurd (all_at (λ q. q ≡ p → ⊥) ps i d a.0 (omega arith) same)
apart_other (p ∷ ps) d a (suc i) (suc j) h k same = ap suc (apart_other ps d a.1 i j (omega arith) (omega arith) same)

module _ (schema : Catalog) (changes : RowChanges) where
  -- no deleted row is a changed one
  gone_not_changed : list_any (λ row. list_any (λ other. same_place (place_of_gone schema row) (place_of_changed other)) changes.changed) changes.gone ≡ false → AllByRecursion (λ q. IsNotIn q (map (place_of_gone schema) changes.gone)) (map place_of_changed changes.changed)
  gone_not_changed none =
      all_map_of (λ q. IsNotIn q (map (place_of_gone schema) changes.gone)) place_of_changed changes.changed
      (all_map (λ changed. AllByRecursion (λ gone. same_place (place_of_gone schema gone) (place_of_changed changed) ≡ false) changes.gone) (λ changed. IsNotIn (place_of_changed changed) (map (place_of_gone schema) changes.gone))
      (λ changed all. all_map_of (λ q. q ≡ place_of_changed changed → ⊥) (place_of_gone schema) changes.gone
      (all_map (λ gone. same_place (place_of_gone schema gone) (place_of_changed changed) ≡ false) (λ gone. place_of_gone schema gone ≡ place_of_changed changed → ⊥)
      (λ gone e same. true_false (sym (place_same (place_of_gone schema gone) (place_of_changed changed) same) ∙ e)) changes.gone all))
      changes.changed
      (all_swap (λ gone changed. same_place (place_of_gone schema gone) (place_of_changed changed) ≡ false) changes.gone changes.changed
      (all_map (λ gone. list_any (λ other. same_place (place_of_gone schema gone) (place_of_changed other)) changes.changed ≡ false) (λ gone. AllByRecursion (λ changed. same_place (place_of_gone schema gone) (place_of_changed changed) ≡ false) changes.changed)
      (λ gone e. any_none (λ other. same_place (place_of_gone schema gone) (place_of_changed other)) changes.changed e) changes.gone
      (any_none (λ row. list_any (λ other. same_place (place_of_gone schema row) (place_of_changed other)) changes.changed) changes.gone none))))

  -- what is written late is of places that differ
  pub writings_differ : some_two (λ one other. same_place (place_of_changed one) (place_of_changed other)) changes.changed ≡ false → some_two (λ one other. same_place (place_of_gone schema one) (place_of_gone schema other)) changes.gone ≡ false → list_any (λ row. list_any (λ other. same_place (place_of_gone schema row) (place_of_changed other)) changes.changed) changes.gone ≡ false → Differ (map (λ (row : Writing). row.0) (late_writings schema changes))
  writings_differ changed_once gone_once gone_apart =
      let both : List Writing = map (cells_when schema changes true) changes.changed ++ map (late_gone schema changes) changes.gone in
      let places : map (λ (row : Writing). row.0) both ≡ map place_of_changed changes.changed ++ map (place_of_gone schema) changes.gone =
      map-append (λ (row : Writing). row.0) (map (cells_when schema changes true) changes.changed) (map (late_gone schema changes) changes.gone)
      ∙ (λ i. map_map (λ (row : Writing). row.0) (cells_when schema changes true) changes.changed i ++ map_map (λ (row : Writing). row.0) (late_gone schema changes) changes.gone i) in
      apart_filter (λ (row : Writing). row.0) writing_some both
      (subst Differ (sym places)
      (apart_both (map place_of_changed changes.changed) (map (place_of_gone schema) changes.gone)
      (apart_of place_of_changed changes.changed changed_once) (apart_of (place_of_gone schema) changes.gone gone_once) (gone_not_changed gone_apart)))
