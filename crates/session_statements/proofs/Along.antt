-- How far a run of a plan has come: the loop over its statements.
use Rattle.std.proofs.Common.{◌≡◌, ℕ, ◌+◌, ◌<◌, ◌≤◌, List, [], length, get_or, drop, map, Result, Ok, Err, refl, sym, ap, ◌∙◌, subst}
use Rattle.std.proofs.lemmas.List.FromFn.{fill_by_all}
use Rattle.base_core.specs.declared.refusal.Refusal.{Refusal}
use Rattle.base_core.specs.declared.refusal.Refusal.TheVariants.{Memory}
use Rattle.base_core.specs.declared.value.Value.{Value}
use Rattle.schema_core.specs.declared.changes.Planned.{Planned}
use Rattle.schema_core.specs.declared.changes.RowChanges.{RowChanges}
use Rattle.schema_core.specs.Catalog.{Catalog}
use Rattle.flush_plan.specs.Flushing.{Keys, key_of_new, keys_then}
use Rattle.keeper_core.specs.Store.{Store}
use Rattle.keeper_core.specs.Programs.{Run, each, give}
use Rattle.keeper_core.specs.Moment.{IsCalm, Moment, Reached, Reaches, counters}
use Rattle.keeper_core.specs.Beside.{moment_beside}
use Rattle.keeper_core.proofs.Lifting.{no_room}
use Rattle.keeper_core.proofs.Sequence.{done, each_end, each_err, each_turn, reaches_end, reaches_start, then_err, then_ok}
use Rattle.session_scopes.specs.SessionState.{AreAlikeButNotes, IsInStep, SessionState}
use Rattle.session_calls.specs.Calling.{IsSessionCall}
use Rattle.session_calls.specs.Parts.{World}
use Rattle.session_calls.proofs.Joining.{goes_alike, memory_early, stays_early}
use Rattle.plan_statements.specs.Known.{AreKeysAt}
use Rattle.session_statements.specs.Run.{keys_by_place, send_one, send_plan}
use Rattle.session_scopes.proofs.SessionLemmas.{goes_more}

-- so many statements of the plan were sent: the keys that are known by then, what is left of the program, and what stays
pub record IsAlong {K : Type 0} (moment : K → Moment Store) (schema : Catalog) (changes : RowChanges) (plan : List Planned) (old : SessionState × K) (count : ℕ) (known : List (List Value)) (new : SessionState × K) : Type 0 where
  pub keys : Keys
  pub are : AreKeysAt keys known
  pub long : length known ≡ length changes.fresh
  pub reached : Reaches (moment_beside moment) (each (send_one schema changes) [] plan) old (each (send_one schema changes) keys (drop count plan)) new
  pub alike : AreAlikeButNotes old.0 new.0
  pub in_step : IsInStep new.0 (moment new.1)

calm_of : {K : Type 0} (moment : K → Moment Store) {own now : SessionState} {old new : K} {whole rest : World → Run World Keys} → Reaches (moment_beside moment) whole (own, old) rest (now, new) → IsCalm (counters (moment old)) (counters (moment new))
unfolding moment_beside
calm_of moment (Reached p) = p.keeps.calm

pub alike_more : (own mid now : SessionState) → AreAlikeButNotes own mid → AreAlikeButNotes mid now → AreAlikeButNotes own now
alike_more own mid now first second = second ∙ ap (λ (s : SessionState). record s { notes = now.notes }) first

-- a statement by another name of the schema
pub at_schema : {K : Type 0} (moment : K → Moment Store) (changes : RowChanges) (planned : Planned) (known : List (List Value)) {own now : SessionState} {old new : K} {r : Result (List (List Value)) Refusal} (other schema : Catalog) → other ≡ schema
    → ((keys : Keys) → AreKeysAt keys known → IsSessionCall moment (λ (x : List (List Value)). keys_then keys planned x) (send_one other changes planned keys) (own, old) r (now, new))
    → (keys : Keys) → AreKeysAt keys known → IsSessionCall moment (λ (x : List (List Value)). keys_then keys planned x) (send_one schema changes planned keys) (own, old) r (now, new)
at_schema moment changes planned known {own = own} {now = now} {old = old} {new = new} {r = r} other schema same call keys are =
    subst (λ (c : Catalog). IsSessionCall moment (λ (x : List (List Value)). keys_then keys planned x) (send_one c changes planned keys) (own, old) r (now, new)) same (call keys are)

module _ {K : Type 0} (moment : K → Moment Store) (schema : Catalog) (changes : RowChanges) (plan : List Planned) where
  pub along_start : {own : SessionState} {keeper : K} (known : List (List Value)) → AreKeysAt [] known → length known ≡ length changes.fresh → IsInStep own (moment keeper)
      → IsAlong moment schema changes plan (own, keeper) 0 known (own, keeper)
  along_start known are long in_step = record {
    keys = [];
    are = are;
    long = long;
    reached = reaches_start;
    alike = refl;
    in_step = in_step;
  }

  -- one statement more
  pub along_more : {own mid now : SessionState} {old keeper new : K} (i : ℕ) (known then : List (List Value)) (planned : Planned) (answered : List (List Value)) → IsAlong moment schema changes plan (own, old) i known (mid, keeper) → i < length plan → planned ≡ get_or plan i planned
      → ((keys : Keys) → AreKeysAt keys known → IsSessionCall moment (λ (x : List (List Value)). keys_then keys planned x) (send_one schema changes planned keys) (mid, keeper) (Ok answered) (now, new))
      → AreAlikeButNotes mid now
      → ((keys : Keys) → AreKeysAt keys known → AreKeysAt (keys_then keys planned answered) then) → length then ≡ length known
      → IsAlong moment schema changes plan (own, old) (i + 1) then (now, new)
  along_more {own = own} {mid = mid} {now = now} i known then planned answered along within is call alike put same_long =
      let keys : Keys = along.keys in
      let called = call keys along.are in
      record {
        keys = keys_then keys planned answered;
        are = put keys along.are;
        long = same_long ∙ along.long;
        reached = each_turn (send_one schema changes) plan i along.reached within is called.step refl;
        alike = alike_more own mid now along.alike alike;
        in_step = called.kept.in_step;
      }

  -- a statement was refused
  pub along_refused : {Y : Type 0} {v : Y → List (List Value)} {own mid now : SessionState} {old keeper new : K} {e : Refusal} (i : ℕ) (known : List (List Value)) (planned : Planned) → IsAlong moment schema changes plan (own, old) i known (mid, keeper) → i < length plan → planned ≡ get_or plan i planned
      → ((keys : Keys) → AreKeysAt keys known → IsSessionCall moment (λ (x : List (List Value)). keys_then keys planned x) (send_one schema changes planned keys) (mid, keeper) (Err e) (now, new))
      → IsSessionCall moment v (send_plan schema changes plan) (own, old) (Err e) (now, new)
  unfolding send_plan
  along_refused {own = own} {mid = mid} i known planned along within is call =
      let called = call along.keys along.are in
      record {
        step = then_err {v = λ (ks : Keys). ks} (λ keys. give (keys_by_place changes keys)) (each_err (send_one schema changes) plan i along.reached within is called.step);
        kept = record { same = goes_more (goes_alike own mid along.alike) called.kept.same; in_step = called.kept.in_step };
      }

  -- memory ran out after a statement was sent
  pub along_ran_out : {Y : Type 0} {v : Y → List (List Value)} {own mid now : SessionState} {old keeper new : K} {e : Refusal} (i : ℕ) (known : List (List Value)) (planned : Planned) (answered : List (List Value)) → e ≡ Memory → IsAlong moment schema changes plan (own, old) i known (mid, keeper) → i < length plan → planned ≡ get_or plan i planned
      → ((keys : Keys) → AreKeysAt keys known → IsSessionCall moment (λ (x : List (List Value)). keys_then keys planned x) (send_one schema changes planned keys) (mid, keeper) (Ok answered) (now, new))
      → IsSessionCall moment v (send_plan schema changes plan) (own, old) (Err e) (now, new)
  unfolding send_plan
  along_ran_out {Y = Y} {own = own} {mid = mid} {now = now} {new = new} {e = e} i known planned answered cause along within is call =
      let called = call along.keys along.are in
      record {
        step = then_err {v = λ (ks : Keys). ks} (λ keys. give (keys_by_place changes keys))
            (reaches_end {v = λ (ks : Keys). ks} (each_turn (send_one schema changes) plan i along.reached within is called.step refl) (no_room cause));
        kept = record { same = goes_more (goes_alike own mid along.alike) called.kept.same; in_step = stays_early Y e (length now.frames.scopes) (moment new) (memory_early e cause) };
      }

  -- all statements were sent
  pub along_end : {own now : SessionState} {old new : K} (i : ℕ) (known : List (List Value)) → IsAlong moment schema changes plan (own, old) i known (now, new) → length plan ≤ i
      → IsSessionCall moment (λ (ks : List (List Value)). ks) (send_plan schema changes plan) (own, old) (Ok known) (now, new)
  unfolding send_plan
  along_end {own = own} {now = now} i known along ended =
      let whole : known ≡ map (key_of_new along.keys) _ = fill_by_all (key_of_new along.keys) known (length changes.fresh) [] along.long (λ place less. sym (along.are place)) in
      record {
        step = then_ok (λ keys. give (keys_by_place changes keys)) (each_end {v = λ (x : Unit {0}). along.keys} (send_one schema changes) plan i along.reached ended refl)
            (done {v = λ (ks : List (List Value)). ks} (sym whole));
        kept = record { same = goes_alike own now along.alike; in_step = along.in_step };
      }

  -- nothing was refused so far
  pub along_calm : {own now : SessionState} {old new : K} (i : ℕ) (known : List (List Value)) → IsAlong moment schema changes plan (own, old) i known (now, new) → IsCalm (counters (moment old)) (counters (moment new))
  along_calm i known along = calm_of moment along.reached
