-- Legal tables have their rows in the order of their keys.
use Rattle.std.proofs.Common.{◌≡◌, ℕ, ◌==◌, Bool, true, false, List, [], ◌∷◌, map, if◌then◌else◌, refl, sym, ap, subst, ◌∙◌}
use Rattle.std.specs.List.{AllByRecursion}
use Rattle.std.specs.List.Sorted.{IsStrictlySortedBy}
use Rattle.std.specs.Map.{keys_of}
use Rattle.std.proofs.lemmas.Bool.{eqb-true}
use Rattle.base_core.specs.declared.ids.TableId.{TableId}
use Rattle.base_core.specs.declared.value.Value.{Value}
use Rattle.base_core.specs.Order.{values_cmp}
use Rattle.schema_core.specs.declared.table.TableSpec.{TableSpec}
use Rattle.schema_core.specs.Catalog.{Catalog, spec_of}
use Rattle.schema_core.specs.Tables as held
use Rattle.schema_core.specs.Tables.{AreAscending, Legal, key_of}
use Rattle.sql_semantics.specs.Created.{bare}
use Rattle.sql_semantics.specs.Eval.{rows_in}
use Rattle.loading_laws.proofs.Answers.Totals.{map_twice}
use Rattle.loading_laws.specs.ToOne.{AreInKeyOrder}

abbrev Entry : Type 0
Entry = List Value × List Value

own_keys : (spec : TableSpec) (entries : held.Rows) → AllByRecursion (λ (entry : Entry). key_of spec entry.1 ≡ entry.0) entries → keys_of entries ≡ map (λ (entry : Entry). key_of spec entry.1) entries
own_keys spec [] keyed = refl
own_keys spec (entry ∷ entries) keyed = ap (λ (key : List Value). key ∷ keys_of entries) (sym keyed.0) ∙ ap (λ (keys : List (List Value)). key_of spec entry.1 ∷ keys) (own_keys spec entries keyed.1)

entries_ordered : (spec : TableSpec) (entries : held.Rows) → AllByRecursion (λ (entry : Entry). key_of spec entry.1 ≡ entry.0) entries → IsStrictlySortedBy values_cmp (keys_of entries)
    → IsStrictlySortedBy values_cmp (map (key_of spec) (map (λ (entry : Entry). entry.1) entries))
entries_ordered spec entries keyed ascend = subst (IsStrictlySortedBy values_cmp) (own_keys spec entries keyed ∙ sym (map_twice (key_of spec) (λ (entry : Entry). entry.1) entries)) ascend

module _ (schema : Catalog) where
  ordered : (tables : held.Tables) → AllByRecursion (λ created. AllByRecursion (λ (entry : Entry). key_of (spec_of schema created.0) entry.1 ≡ entry.0) created.1) tables
      → AllByRecursion (λ created. IsStrictlySortedBy values_cmp (keys_of created.1)) tables → AreInKeyOrder schema (bare tables)
  unfolding IsStrictlySortedBy
  ordered [] keyed ascend table = tt
  ordered (created ∷ tables) keyed ascend table = by (created.0.0 == table.0) refl (ordered tables keyed.1 ascend.1 table)
    where
      by : (b : Bool) → (created.0.0 == table.0) ≡ b → IsStrictlySortedBy values_cmp (map (key_of (spec_of schema table)) (rows_in (bare tables) table.0))
          → IsStrictlySortedBy values_cmp (map (key_of (spec_of schema table)) (if b then map (λ (entry : Entry). entry.1) created.1 else rows_in (bare tables) table.0))
      by true same more =
          subst (λ (one : TableId). IsStrictlySortedBy values_cmp (map (key_of (spec_of schema one)) (map (λ (entry : Entry). entry.1) created.1))) (ap (λ (n : ℕ). let one : TableId = record { 0 = n } in one) (eqb-true created.0.0 table.0 same))
          (entries_ordered (spec_of schema created.0) created.1 keyed.0 ascend.0)
      by false apart more = more

  pub legal_ordered : (tables : held.Tables) → Legal schema tables → AreAscending tables → AreInKeyOrder schema (bare tables)
  legal_ordered tables legal ascending = ordered tables legal.keys ascending.keys
