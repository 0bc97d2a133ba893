-- Why a statement was not done, and why a run of a plan ended.
use Rattle.std.proofs.Common.{◌≡◌, ◌⊎◌, inl, inr, ℕ, zero, suc, ◌<◌, Bool, true, false, List, [], ◌∷◌, length, get_or, Some, Result, Ok, Err, IsErrAnd, MatchBool, IfErr, refl, sym, ◌∙◌, subst, arith}
use Rattle.std.proofs.lemmas.List.{get_or_default}
use Rattle.std.specs.List.{Contains}
use Rattle.base_core.specs.Counts.{Rose}
use Rattle.base_core.specs.declared.refusal.Refusal.{Refusal}
use Rattle.base_core.specs.declared.refusal.Refusal.TheVariants.{Memory, NotBuilt, StaleDataError}
use Rattle.base_core.specs.declared.value.Value.{Value}
use Rattle.schema_core.specs.declared.changes.Planned.{Planned}
use Rattle.schema_core.specs.declared.changes.RowChanges.{RowChanges}
use Rattle.schema_core.specs.Catalog.{Catalog}
use Rattle.flush_plan.specs.Flushing.{Keys, table_of, was_missing}
use Rattle.keeper_core.specs.declared.sent.Sent.{Sent}
use Rattle.keeper_core.specs.Programs.{ends_early}
use Rattle.keeper_core.specs.Moment.{IsCalm, Moment, counters}
use Rattle.keeper_core.specs.Store.{Store}
use Rattle.keeper_core.specs.Keeping.{IsLeft, IsUndone}
use Rattle.plan_statements.specs.Known.{is_sendable}
use Rattle.session_statements.specs.Run.{IsCause, WasGiven, WasGivenStale, WasRefused, WasStopped, WasUnfit}

-- ---- one statement

stopped_by : (b : Bool) (statement : Sent) (e : Refusal) (old new : Moment Store) → MatchBool b (IsUndone old new) (Rose old.refusals new.refusals × (new.last ≡ Some (record { statement = statement; refusal = e }))) → MatchBool b (Unit {0}) (WasRefused old e new)
stopped_by true statement e old new left = tt
stopped_by false statement e old new left = (left.0, statement, left.1)

pub stopped : {X : Type 0} (statement : Sent) (r : Result X Refusal) (old new : Moment Store) → IfErr r (λ e. IsLeft statement e old new) → IfErr r (λ e. WasStopped old e new)
stopped statement (Ok x) old new left = tt
stopped statement (Err e) old new left = stopped_by (ends_early e) statement e old new left

early : (P : Type 0) (e : Refusal) → e ≡ Memory → MatchBool (ends_early e) (Unit {0}) P
early P e is = subst (λ (d : Refusal). MatchBool (ends_early d) (Unit {0}) P) (sym is) tt

-- ---- one statement of a plan

weaker : {P Q : Type 0} (b : Bool) → (P → Q) → MatchBool b (Unit {0}) P → MatchBool b (Unit {0}) Q
weaker true f p = tt
weaker false f p = f p

pub stopped_cause : (schema : Catalog) (changes : RowChanges) (plan : List Planned) (old new : Moment Store) (e : Refusal) → WasStopped old e new → IsCause schema changes plan old e new
stopped_cause schema changes plan old new e p = weaker (ends_early e) (λ q. inl q) p

pub memory_cause : (schema : Catalog) (changes : RowChanges) (plan : List Planned) (old new : Moment Store) (e : Refusal) → e ≡ Memory → IsCause schema changes plan old e new
memory_cause schema changes plan old new e is = early (WasRefused old e new ⊎ (WasGivenStale schema changes plan e ⊎ WasUnfit schema changes plan e)) e is

pub stale_cause : (schema : Catalog) (changes : RowChanges) (planned : Planned) (answered : List (List Value)) → WasGiven schema changes planned answered → (old new : Moment Store) (e : Refusal) → was_missing schema changes planned answered ≡ true → e ≡ StaleDataError (table_of planned) → IsCause schema changes (planned ∷ []) old e new
stale_cause schema changes planned answered given old new e missing is =
    subst (λ (d : Refusal). IsCause schema changes (planned ∷ []) old d new) (sym is)
    (inr (inl (planned, answered, (0, omega arith, refl), given, missing, refl)))

pub unfit_cause : (schema : Catalog) (changes : RowChanges) (planned : Planned) (keys : Keys) (old new : Moment Store) (e : Refusal) → is_sendable schema changes keys planned ≡ false → e ≡ NotBuilt → IsCause schema changes (planned ∷ []) old e new
unfit_cause schema changes planned keys old new e fails is =
    subst (λ (d : Refusal). IsCause schema changes (planned ∷ []) old d new) (sym is)
    (inr (inr (planned, keys, (0, omega arith, refl), fails, refl)))

-- ---- a run of a plan

contained : (plan : List Planned) (i : ℕ) (planned other : Planned) → i < length plan → planned ≡ get_or plan i planned → Contains (planned ∷ []) other → Contains plan other
contained plan i planned other within is here = by here.0 here.1 here.2
  where
    by : (k : ℕ) → k < 1 → get_or (planned ∷ []) k other ≡ other → Contains plan other
    by zero less same = (i, within, get_or_default plan i other planned within ∙ sym is ∙ same)
    by (suc k) less same = absurd (omega (arith, less))

-- nothing was refused before the statement
pub later_cause : (schema : Catalog) (changes : RowChanges) (plan : List Planned) (i : ℕ) (planned : Planned) (old mid new : Moment Store) (e : Refusal) → i < length plan → planned ≡ get_or plan i planned → IsCalm (counters old) (counters mid)
    → IsCause schema changes (planned ∷ []) mid e new → IsCause schema changes plan old e new
later_cause schema changes plan i planned old mid new e within is calm p = weaker (ends_early e) by p
  where
    by : WasRefused mid e new ⊎ (WasGivenStale schema changes (planned ∷ []) e ⊎ WasUnfit schema changes (planned ∷ []) e) → WasRefused old e new ⊎ (WasGivenStale schema changes plan e ⊎ WasUnfit schema changes plan e)
    by (inl refused) = inl (subst (λ (n : ℕ). Rose n new.refusals) calm.0 refused.0, refused.1, refused.2)
    by (inr (inl given)) = inr (inl (given.0, given.1, contained plan i planned given.0 within is given.2, given.3, given.4, given.5))
    by (inr (inr failed)) = inr (inr (failed.0, failed.1, contained plan i planned failed.0 within is failed.2, failed.3, failed.4))

-- the same refusal, as the answer of the call around
pub pass_cause : {X : Type 0} (schema : Catalog) (changes : RowChanges) (plan : List Planned) (old new : Moment Store) (e : Refusal) (r : Result X Refusal) → IsErrAnd r (λ d. d ≡ e) → IsCause schema changes plan old e new → IfErr r (λ d. IsCause schema changes plan old d new)
pass_cause schema changes plan old new e (Ok x) is p = tt
pass_cause schema changes plan old new e (Err d) is p = subst (λ (d : Refusal). IsCause schema changes plan old d new) (sym is) p
