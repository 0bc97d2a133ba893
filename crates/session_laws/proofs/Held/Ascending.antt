-- Tables that ascend are sorted.
use Rattle.std.proofs.Common.{◌≡◌, Bool, true, false, T, ◌&&◌, List, [], ◌∷◌, sym, ap}
use Rattle.std.specs.FinMap.Entries.{below_all, is_sorted}
use Rattle.std.specs.List.{AllByRecursion}
use Rattle.std.specs.List.Sorted.{IsStrictlySortedBy}
use Rattle.std.specs.Map.{keys_of}
use Rattle.std.specs.Ordering.{is_lt}
use Rattle.std.specs.declared.cmp.Ordering.{Ordering}
use Rattle.std.specs.declared.cmp.Ordering.TheVariants.{Less}
use Rattle.base_core.specs.declared.ids.TableId.{TableId}
use Rattle.schema_core.specs.Tables.{AreAscending, Rows, Tables, table_cmp}
use Rattle.base_core.specs.Order.{values_cmp}
use Rattle.session_laws.specs.Plans.Premises.{IsSorted}
use Rattle.session_laws.proofs.Plans.Facts.{true_false}
use Rattle.row_switches.proofs.Each.{each_to}

both_hold : (a b : Bool) → a ≡ true → T b → T (a && b)
both_hold true b same rest = rest
both_hold false b same rest = absurd (true_false (sym same))

both_bools : (a b : Bool) → T a → T b → T (a && b)
both_bools true b one rest = rest
both_bools false b one rest = absurd one

entries_below : {K X : Type 0} (R : K → K → Ordering) (least : K) (es : List (K × X)) → AllByRecursion (λ k. R least k ≡ Less) (keys_of es) → T (below_all R least es)
entries_below R least [] up = tt
entries_below R least (e ∷ es) up = both_hold (is_lt (R least e.0)) (below_all R least es) (ap is_lt up.0) (entries_below R least es up.1)

entries_sorted : {K X : Type 0} (R : K → K → Ordering) (es : List (K × X)) → IsStrictlySortedBy R (keys_of es) → T (is_sorted R es)
unfolding IsStrictlySortedBy
entries_sorted R [] up = tt
entries_sorted R (e ∷ es) up = both_bools (below_all R e.0 es) (is_sorted R es) (entries_below R e.0 es up.0) (entries_sorted R es up.1)

pub ascending_sorted : (tables : Tables) → AreAscending tables → IsSorted tables
ascending_sorted tables up = record {
  outer = entries_sorted table_cmp tables up.numbers;
  inner = each_to (λ (created : TableId × Rows). IsStrictlySortedBy values_cmp (keys_of created.1)) (λ (created : TableId × Rows). T (is_sorted values_cmp created.1)) (λ created rises. entries_sorted values_cmp created.1 rises) tables up.keys;
}
