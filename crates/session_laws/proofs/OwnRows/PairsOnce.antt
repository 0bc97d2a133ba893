-- No two rows that pairs take away are one row.
use Rattle.std.proofs.Common.{◌≡◌, Bool, true, false, cond, not, ◌||◌, List, [], ◌∷◌, map, refl, sym, ap, ◌∙◌}
use Rattle.std.specs.List.{filter, list_any}
use Rattle.schema_core.specs.declared.changes.GoneRow.{GoneRow}
use Rattle.schema_core.specs.Catalog.{Catalog}
use Rattle.schema_core.specs.Declaration.{some_two}
use Rattle.flush_order.specs.Orders.{place_of_gone}
use Rattle.flush_order.specs.Sorted.{Place, same_place}
use Rattle.pair_rows.specs.Pairs as pairs
use Rattle.session_laws.proofs.Plans.Newness.{same_is}
use Rattle.session_laws.proofs.Plans.Stated.{two_filter}
use Rattle.session_laws.specs.OwnRows.{PairsAreOnce}

-- two tables and keys are the same in either order
turned : (one other : Place) → same_place one other ≡ same_place other one
turned one other = by (same_place one other) (same_place other one) refl refl
  where
    by : (b c : Bool) → same_place one other ≡ b → same_place other one ≡ c → b ≡ c
    by true true is back = refl
    by false false is back = refl
    by true false is back =
        let same : one ≡ other = same_is one other is in
        sym (sym (ap (λ (p : Place). same_place p one) same) ∙ ap (λ (p : Place). same_place one p) same ∙ is) ∙ back
    by false true is back =
        let same : other ≡ one = same_is other one back in
        sym is ∙ ap (λ (p : Place). same_place one p) same ∙ ap (λ (p : Place). same_place p one) (sym same) ∙ back

abbrev IsOneRow : Catalog → GoneRow → GoneRow → Bool
IsOneRow schema one other = same_place (place_of_gone schema one) (place_of_gone schema other)

either : (a b : Bool) → a ≡ false → b ≡ false → (a || b) ≡ false
either true b none other = none
either false b none other = other

-- those that are not one row with another
none_same : (schema : Catalog) (row : GoneRow) (rows : List GoneRow) → list_any (λ later. IsOneRow schema later row) (filter (pairs.differ schema row) rows) ≡ false
none_same schema row [] = refl
none_same schema row (one ∷ rows) = by (same_place (place_of_gone schema row) (place_of_gone schema one)) (none_same schema row rows) refl
  where
    by : (b : Bool) → list_any (λ later. IsOneRow schema later row) (filter (pairs.differ schema row) rows) ≡ false → same_place (place_of_gone schema row) (place_of_gone schema one) ≡ b
        → list_any (λ later. IsOneRow schema later row) (cond (not b) (one ∷ filter (pairs.differ schema row) rows) (filter (pairs.differ schema row) rows)) ≡ false
    by true rest is = rest
    by false rest is =
        either (IsOneRow schema one row) (list_any (λ later. IsOneRow schema later row) (filter (pairs.differ schema row) rows)) (turned (place_of_gone schema one) (place_of_gone schema row) ∙ is) rest

firsts_once : (schema : Catalog) (rows : List GoneRow) → some_two (IsOneRow schema) (pairs.first_rows schema rows) ≡ false
firsts_once schema [] = refl
firsts_once schema (row ∷ rows) =
    let others = filter (pairs.differ schema row) (pairs.first_rows schema rows) in
    either (list_any (λ later. IsOneRow schema later row) others) (some_two (IsOneRow schema) others) (none_same schema row (pairs.first_rows schema rows))
    (two_filter (IsOneRow schema) (pairs.differ schema row) (pairs.first_rows schema rows) (firsts_once schema rows))

pub pairs_once : PairsAreOnce
unfolding pairs.lost_rows
pairs_once mapped graph prepared = firsts_once mapped.schema (map (pairs.lost_row mapped graph) (pairs.lost_pairs mapped graph prepared))
