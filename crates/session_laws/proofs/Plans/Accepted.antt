-- Plans that are accepted, statement by statement.
use Rattle.std.proofs.Common.{◌≡◌, Bool, true, false, cond, List, [], ◌∷◌, ◌++◌, Ok, Err, refl, sym, ◌∙◌, subst}
use Rattle.base_core.specs.declared.ids.TableId.{TableId}
use Rattle.base_core.specs.declared.value.Value.{Value}
use Rattle.schema_core.specs.declared.changes.Planned.{Planned}
use Rattle.schema_core.specs.declared.changes.RowChanges.{RowChanges}
use Rattle.schema_core.specs.declared.statement.Violation.{Violation}
use Rattle.schema_core.specs.declared.statement.Violation.TheVariants.{Missing}
use Rattle.schema_core.specs.Apply.{Outcome, apply}
use Rattle.schema_core.specs.Catalog.{Catalog}
use Rattle.schema_core.specs.Tables.{Legal, Tables}
use Rattle.table_laws.proofs.Legality as legality
use Rattle.flush_plan.specs.Flushing.{Flushed, Sofar, after_outcome, send_all, keys_then, send, statement_sent, table_of, was_missing}
use Rattle.session_laws.specs.Plans.Laws.{AreWellFormed}

abbrev pub okay : Sofar → Flushed
okay sofar = Ok sofar

pub same_okay : (one other : Sofar) → okay one ≡ okay other → one ≡ other
same_okay one other e = cc

err_okay : (stop : TableId × Violation) (sofar : Sofar) → Err stop ≡ okay sofar → ⊥
err_okay stop sofar e = cc

module _ (schema : Catalog) (changes : RowChanges) where
  abbrev pub Accepts : Sofar → List Planned → Sofar → Type 0
  Accepts sofar [] end = sofar ≡ end
  Accepts sofar (planned ∷ plan) end = (next : Sofar) × (send schema changes sofar planned ≡ Ok next) × Accepts next plan end

  no_flush : (stop : TableId × Violation) (plan : List Planned) → send_all schema changes (Err stop) plan ≡ Err stop
  no_flush stop [] = refl
  no_flush stop (planned ∷ plan) = no_flush stop plan

  accept_step : (sofar end : Sofar) (planned : Planned) (plan : List Planned) (o : Flushed) → send schema changes sofar planned ≡ o → ((next : Sofar) → send_all schema changes (Ok next) plan ≡ Ok end → Accepts next plan end) → send_all schema changes o plan ≡ Ok end → Accepts sofar (planned ∷ plan) end
  accept_step sofar end planned plan (Err stop) is more e = absurd (err_okay stop end (sym (no_flush stop plan) ∙ e))
  accept_step sofar end planned plan (Ok next) is more e = (next, is, more next e)

  pub accepts_of : (sofar end : Sofar) (plan : List Planned) → send_all schema changes (Ok sofar) plan ≡ Ok end → Accepts sofar plan end
  accepts_of sofar end [] e = same_okay sofar end e
  accepts_of sofar end (planned ∷ plan) e = accept_step sofar end planned plan (send schema changes sofar planned) refl (λ next f. accepts_of next end plan f) e

  pub accepts_split : (sofar end : Sofar) (plan more : List Planned) → Accepts sofar (plan ++ more) end → (middle : Sofar) × Accepts sofar plan middle × Accepts middle more end
  accepts_split sofar end [] more a = (sofar, refl, a)
  accepts_split sofar end (planned ∷ plan) more a =
      let rest = accepts_split a.0 end plan more a.2 in
      (rest.0, (a.0, a.1, rest.1), rest.2)

  -- ---- one statement

  pub record Sent (sofar : Sofar) (planned : Planned) (next : Sofar) : Type 0 where
    pub answer : List (List Value) × Tables
    pub done : apply schema sofar.tables (statement_sent schema changes sofar.keys planned) ≡ Ok answer
    pub fresh : was_missing schema changes planned answer.0 ≡ false
    pub is : next ≡ record { tables = answer.1; keys = keys_then sofar.keys planned answer.0 }

  by_missing : (b : Bool) (stop : TableId × Violation) (then next : Sofar) → cond b (Err stop) (Ok then) ≡ Ok next → (b ≡ false) × (next ≡ then)
  by_missing true stop then next e = absurd (err_okay stop next e)
  by_missing false stop then next e = (refl, sym (same_okay then next e))

  by_outcome : (sofar next : Sofar) (planned : Planned) (o : Outcome) → apply schema sofar.tables (statement_sent schema changes sofar.keys planned) ≡ o → after_outcome schema changes sofar planned o ≡ Ok next → Sent sofar planned next
  by_outcome sofar next planned (Err violation) is e = absurd (err_okay (table_of planned, violation) next e)
  by_outcome sofar next planned (Ok answer) is e =
      let both = by_missing (was_missing schema changes planned answer.0) (table_of planned, Missing) (record { tables = answer.1; keys = keys_then sofar.keys planned answer.0 }) next e in
      record {
        answer = answer;
        done = is;
        fresh = both.0;
        is = both.1;
      }

  pub sent_of : (sofar next : Sofar) (planned : Planned) → send schema changes sofar planned ≡ Ok next → Sent sofar planned next
  unfolding send
  sent_of sofar next planned e = by_outcome sofar next planned (apply schema sofar.tables (statement_sent schema changes sofar.keys planned)) refl e

  -- statements that fit the schema leave legal tables legal
  pub accepts_legal : (sofar end : Sofar) (plan : List Planned) → AreWellFormed schema changes sofar plan → Legal schema sofar.tables → Accepts sofar plan end → Legal schema end.tables
  accepts_legal sofar end [] formed legal a = subst (λ s. Legal schema s.tables) a legal
  accepts_legal sofar end (planned ∷ plan) formed legal a =
      let one = sent_of sofar a.0 planned a.1 in
      let then : Legal schema a.0.tables = subst (λ s. Legal schema s.tables) (sym one.is) (legality.accepted schema sofar.tables (statement_sent schema changes sofar.keys planned) one.answer.0 one.answer.1 formed.0 legal one.done) in
      accepts_legal a.0 end plan (formed.1 a.0 a.1) then a.2
