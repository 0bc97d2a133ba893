-- A value above all others.
use Rattle.std.proofs.Common.{◌≡◌, Bool, true, false, cond, List, None, refl, sym, ◌∙◌}
use Rattle.std.specs.BTreeMap.{BTreeMap, get}
use Rattle.std.specs.BTreeSet.{BTreeSet}
use Rattle.std.specs.HashMap.Eq.{lookup_congr}
use Rattle.base_core.specs.declared.value.Value.{Value}
use Rattle.base_core.specs.Order.{values_cmp}
use Rattle.schema_core.specs.Tables.{same_values}
use Rattle.table_index.proofs.Entered.{same_values_equiv}

-- where nothing is under a value, all is as it was without it
pub none_there : (holders : BTreeMap (List Value) (BTreeSet (List Value))) (value : List Value) → get values_cmp holders value ≡ None → (other : List Value) → get values_cmp holders other ≡ cond (same_values value other) None (get values_cmp holders other)
none_there holders value none other = by (same_values value other) refl
  where
    by : (b : Bool) → same_values value other ≡ b → get values_cmp holders other ≡ cond b None (get values_cmp holders other)
    by true same = sym (lookup_congr same_values same_values_equiv.congr holders.entries value other same) ∙ none
    by false same = refl
