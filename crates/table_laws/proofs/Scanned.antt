-- The rows of a table of a legal store ascend by their keys.
use Rattle.keeper_core.specs.Keeping.{IsScan}
use Rattle.keeper_core.specs.Moment.{AsTold, Moment, Told, parts}
use Rattle.std.proofs.Common.{◌≡◌, List, [], ◌∷◌, map, Option, None, Some, Result, Ok, refl, sym, subst}
use Rattle.std.specs.List.{AllByRecursion}
use Rattle.std.specs.List.Sorted.{IsStrictlySortedBy}
use Rattle.std.specs.Map.{keys_of}
use Rattle.std.specs.Option.{option_map}
use Rattle.base_core.specs.declared.ids.TableId.{TableId}
use Rattle.base_core.specs.declared.refusal.Refusal.{Refusal}
use Rattle.base_core.specs.declared.value.Value.{Value}
use Rattle.base_core.specs.Order.{values_cmp}
use Rattle.schema_core.specs.declared.table.TableSpec.{TableSpec}
use Rattle.schema_core.specs.Catalog.{Catalog, spec_of}
use Rattle.schema_core.specs.Tables.{Rows, key_of, rows_in, table_cmp}
use Rattle.keeper_core.specs.Programs.{give}
use Rattle.keeper_core.specs.Store.{Store}
use Rattle.keeper_core.specs.Calls as call
use Rattle.table_laws.proofs.Ascending.{rows_ascend}
use Rattle.table_laws.proofs.Entries.{all_lookup}
use Rattle.table_laws.proofs.SameValues.{same_table}
use Rattle.table_laws.specs.Legality.{IsLegalStore}

keys_are : (spec : TableSpec) (entries : Rows) → AllByRecursion (λ e. key_of spec e.1 ≡ e.0) entries → map (key_of spec) (map (λ e. e.1) entries) ≡ keys_of entries
keys_are spec [] all = refl
keys_are spec (e ∷ entries) all = λ i. all.0 i ∷ keys_are spec entries all.1 i

abbrev scanned : Option (List (List Value)) → Result (Option (List (List Value))) Refusal
scanned rows = Ok rows

same_rows : (one other : List (List Value)) → scanned (Some one) ≡ scanned (Some other) → one ≡ other
same_rows one other e = cc

no_rows : (rows : List (List Value)) → scanned None ≡ scanned (Some rows) → ⊥
no_rows rows e = cc

pub scanned_ascend : (schema : Catalog) (w : Store) (table : TableId) (rows : List (List Value)) → IsLegalStore schema w → (call.scan table w).answer ≡ Ok (Some rows)
    → IsStrictlySortedBy values_cmp (map (key_of (spec_of schema table)) rows)
unfolding call.scan give
scanned_ascend schema w table rows legal e = by (rows_in w.tables table) refl e
  where
    by : (found : Option Rows) → rows_in w.tables table ≡ found → scanned (option_map (λ entries. map (λ entry. entry.1) entries) found) ≡ scanned (Some rows)
        → IsStrictlySortedBy values_cmp (map (key_of (spec_of schema table)) rows)
    by None at is = absurd (no_rows rows is)
    by (Some entries) at is =
        let keys = keys_are (spec_of schema table) entries (all_lookup table_cmp same_table (λ c. AllByRecursion (λ row. key_of (spec_of schema c.0) row.1 ≡ row.0) c.1) w.tables table entries legal.tables.legal.keys at) in
        subst (λ (them : List (List Value)). IsStrictlySortedBy values_cmp (map (key_of (spec_of schema table)) them)) (same_rows (map (λ entry. entry.1) entries) rows is)
        (subst (IsStrictlySortedBy values_cmp) (sym keys) (rows_ascend w.tables table entries legal.tables.ascending at))

-- the same of what a keeper that tells answers
pub scan_ascends : {K : Type 0} (moment : K → Moment Store) (schema : Catalog) (table : TableId) (rows : List (List Value)) (told : Told Store) (old new : K) → (moment old).told ≡ Some told → IsLegalStore schema told.world
    → IsScan moment table old (Ok (Some rows)) new → IsStrictlySortedBy values_cmp (map (key_of (spec_of schema table)) rows)
scan_ascends moment schema table rows told old new is legal did =
    by (moment new).told (subst (λ (o : Option (Told Store)). AsTold (λ (x : Option (List (List Value))). x) (call.scan table) o (Ok (Some rows)) (moment new).told) is (parts did.step).told)
  where
    by : (now : Option (Told Store)) → AsTold (λ (x : Option (List (List Value))). x) (call.scan table) (Some told) (Ok (Some rows)) now → IsStrictlySortedBy values_cmp (map (key_of (spec_of schema table)) rows)
    by None ran = absurd ran
    by (Some n) ran = scanned_ascend schema told.world table rows legal ran.answer
