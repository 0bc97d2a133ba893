-- Plans of which every prefix is accepted and leaves legal tables.
use Rattle.std.proofs.Common.{◌≡◌, ℕ, zero, suc, List, [], ◌∷◌, ◌++◌, take, Ok, refl, sym, ap, ◌∙◌, subst}
use Rattle.schema_core.specs.declared.changes.Planned.{Planned}
use Rattle.schema_core.specs.declared.changes.RowChanges.{RowChanges}
use Rattle.schema_core.specs.Catalog.{Catalog}
use Rattle.schema_core.specs.Tables.{Legal}
use Rattle.flush_plan.specs.Flushing.{Sofar, send_all, send}

module _ (schema : Catalog) (changes : RowChanges) where
  -- each statement is accepted, and the tables before it, and at the end, are legal
  abbrev pub Goes : Sofar → List Planned → Sofar → Type 0
  Goes sofar [] end = (sofar ≡ end) × Legal schema sofar.tables
  Goes sofar (planned ∷ plan) end = Legal schema sofar.tables × ((next : Sofar) × (send schema changes sofar planned ≡ Ok next) × Goes next plan end)

  pub goes_on : (sofar middle end : Sofar) (plan more : List Planned) → Goes sofar plan middle → Goes middle more end → Goes sofar (plan ++ more) end
  goes_on sofar middle end [] more one two = subst (λ s. Goes s more end) (sym one.0) two
  goes_on sofar middle end (planned ∷ plan) more one two = (one.0, (one.1.0, one.1.1, goes_on one.1.0 middle end plan more one.1.2 two))

  pub prefix_of : (sofar end : Sofar) (plan : List Planned) → Goes sofar plan end → (n : ℕ) → (after : Sofar) × (send_all schema changes (Ok sofar) (take n plan) ≡ Ok after) × Legal schema after.tables
  prefix_of sofar end plan goes zero = (sofar, refl, legal plan goes)
    where
      legal : (plan : List Planned) → Goes sofar plan end → Legal schema sofar.tables
      legal [] g = g.1
      legal (planned ∷ more) g = g.0
  prefix_of sofar end [] goes (suc n) = (sofar, refl, goes.1)
  prefix_of sofar end (planned ∷ plan) goes (suc n) =
      let rest = prefix_of goes.1.0 end plan goes.1.2 n in
      (rest.0, ap (λ f. send_all schema changes f (take n plan)) goes.1.1 ∙ rest.1, rest.2)

  pub goes_whole : (sofar end : Sofar) (plan : List Planned) → Goes sofar plan end → send_all schema changes (Ok sofar) plan ≡ Ok end
  goes_whole sofar end [] goes = ap Ok goes.0
  goes_whole sofar end (planned ∷ plan) goes = ap (λ f. send_all schema changes f plan) goes.1.1 ∙ goes_whole goes.1.0 end plan goes.1.2
