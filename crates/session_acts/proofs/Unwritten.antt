-- Why a session was not written, and what is left then, from one call to the one around it.
use Rattle.std.proofs.Common.{◌≡◌, ◌⊎◌, inl, inr, ◌∙◌, ℕ, ◌<◌, true, List, [], ◌∷◌, ◌++◌, length, Option, Result, Ok, Err, IfErr, OnOk, refl, ap, subst, arith}
use Rattle.std.proofs.lemmas.Result.{IfErr-weaker}
use Rattle.base_core.specs.declared.refusal.Refusal.{Refusal}
use Rattle.base_core.specs.declared.refusal.Refusal.TheVariants.{Memory}
use Rattle.class_mapping.specs.Mapped.{Mapped}
use Rattle.schema_core.specs.Catalog.{Catalog}
use Rattle.keeper_core.specs.declared.notes.Note.{Note}
use Rattle.keeper_core.specs.declared.sent.Sent.{Sent}
use Rattle.keeper_core.specs.Store.{Store}
use Rattle.keeper_core.specs.Programs.{ends_early}
use Rattle.keeper_core.specs.Moment.{Moment}
use Rattle.savepoints.specs.declared.scope.Scope.{Scope}
use Rattle.session_parts.specs.Depths.{has_scope}
use Rattle.session_scopes.specs.Loads.{IsLoadedFrom, IsShownIn, loading_in}
use Rattle.session_scopes.specs.SessionState.{AreAlikeButNotes, SessionState}
use Rattle.session_calls.specs.Refusals.{Early, entered}
use Rattle.session_statements.specs.Refusals.{IsRefusedByKeeper}
use Rattle.session_acts.specs.Outcome.{IsFlushCause, IsFlushed, IsGivenUp, IsPreparedFrom, IsShownAsRead, Unprepared, Unsent}
use Rattle.session_acts.specs.Refusals.{Asked, IsRefusedFlushing, IsRefusedSending, IsUnwritten, Unwritten}
use Rattle.session_acts.specs.Refusals as refusals
use Rattle.session_acts.proofs.Outcomes.{WasGivenUp, from_then}

-- ---- a cause, seen from before a call that was refused nothing

shown_since : (old new : SessionState) (was late now : Moment Store) (e : Refusal) → (e ≡ Memory) ⊎ IsShownIn (IsShownAsRead old.mapping) old late new now e → (e ≡ Memory) ⊎ IsShownIn (IsShownAsRead old.mapping) old was new now e
shown_since old new was late now e (inl memory) = inl memory
shown_since old new was late now e (inr shown) = inr (record { own = shown.own; graph = shown.graph; taken = shown.taken; shown = by shown.shown })
  where
    by : IsShownAsRead old.mapping (loading_in old, late) (shown.own, now) e → IsShownAsRead old.mapping (loading_in old, was) (shown.own, now) e
    by (inl memory) = inl memory
    by (inr read) = inr (record { object = read.object; turn = read.turn; since = read.since; next = read.next; cause = read.cause; shown = read.shown })

cause_since : (session : SessionState) (was late now : Moment Store) (e : Refusal) → late.refusals ≡ was.refusals → IsFlushCause session late e now → IsFlushCause session was e now
cause_since session was late now e is (Unprepared mid read refused calm) = Unprepared mid read (record { left = refused.left; cause = refused.cause; shown = shown_since session mid was late read e refused.shown }) calm
cause_since session was late now e is (Unsent mid later from same cause) = Unsent mid later from (same ∙ is) cause

-- ---- before a session that had other notes

module _ (own : SessionState) (earlier : List Note) where
  loaded_before : (later : List Note) (mid : SessionState) → IsLoadedFrom (record own { notes = earlier }) mid → IsLoadedFrom own (record mid { notes = later })
  loaded_before later mid left = record {
    goes = record { mapping = left.goes.mapping; there = left.goes.there; drawn = left.goes.drawn };
    rest = ap (λ (s : SessionState). record s { notes = later }) left.rest;
    scopes = left.scopes;
  }

  prepared_before : (mid : SessionState) → IsPreparedFrom (record own { notes = earlier }) mid → IsPreparedFrom own (record mid { notes = own.notes })
  prepared_before mid from = record { loaded = loaded_before own.notes mid from.loaded; still = λ none. ap (λ (s : SessionState). record s { notes = own.notes }) (from.still none) }

  cause_before : (was now : Moment Store) (e : Refusal) → IsFlushCause (record own { notes = earlier }) was e now → IsFlushCause own was e now
  cause_before was now e (Unsent mid late from same cause) = Unsent (record mid { notes = own.notes }) late (prepared_before mid from) same cause
  cause_before was now e (Unprepared mid late refused calm) = by refused.shown
    where
      by : (e ≡ Memory) ⊎ IsShownIn (IsShownAsRead own.mapping) (record own { notes = earlier }) was mid late e → IsFlushCause own was e now
      by (inl memory) = Unprepared (record mid { notes = own.notes }) late (record { left = loaded_before own.notes mid refused.left; cause = refused.cause; shown = inl memory }) calm
      by (inr shown) =
          let later : List Note = own.notes ++ shown.own.notes in
          Unprepared (record mid { notes = later }) late
          (record {
            left = loaded_before later mid refused.left;
            cause = refused.cause;
            shown = inr (record { own = shown.own; graph = shown.graph; taken = λ on. ap (λ (s : SessionState). record s { notes = later }) (shown.taken on); shown = shown.shown });
          })
          calm

  flushed_before : (new : SessionState) → IsFlushed (record own { notes = earlier }) new → IsFlushed own new
  flushed_before new (mid, from, written) = (record mid { notes = own.notes }, prepared_before mid from, written)

  given_before : (e : Refusal) (new : SessionState) → IsGivenUp e (record own { notes = earlier }) new → IsGivenUp e own new
  given_before e new left = from_then (WasGivenUp (record own { notes = earlier }) new) (WasGivenUp own new) (ends_early e) by left
    where
      by : WasGivenUp (record own { notes = earlier }) new → WasGivenUp own new
      by (mid, loaded, given) = (record mid { notes = own.notes }, loaded_before own.notes mid loaded, given)

-- ---- a session that was not written

unwritten_since : (own mid new : SessionState) (was late now : Moment Store) (e : Refusal) → AreAlikeButNotes own mid → late.refusals ≡ was.refusals → IsUnwritten mid late e new now → IsUnwritten own was e new now
unwritten_since own mid new was late now e alike none p = record {
  cause = cause_since own was late now e none (cause_before own mid.notes late now e (subst (λ (s : SessionState). IsFlushCause s late e now) alike p.cause));
  left = given_before own mid.notes e new (subst (λ (s : SessionState). IsGivenUp e s new) alike p.left);
}

-- its flush was refused
pub given_up_for : (own new : SessionState) (was now : Moment Store) (r : Result (Unit {0}) Refusal) → IfErr r (λ e. IsGivenUp e own new) → IfErr r (λ e. IsFlushCause own was e now) → IfErr r (λ e. IsUnwritten own was e new now)
given_up_for own new was now (Ok u) left cause = tt
given_up_for own new was now (Err e) left cause = record { cause = cause; left = left }

-- in the transaction that a call entered
pub not_written : (before inside : Option Refusal) (own mid new : SessionState) (was late now : Moment Store) (e : Refusal) → AreAlikeButNotes (entered own) mid → late.refusals ≡ was.refusals → IsUnwritten mid late e new now → IsRefusedFlushing before inside own was e new now
not_written before inside own mid new was late now e alike none p = Unwritten (unwritten_since (entered own) mid new was late now e alike none p)

pub none_written : {X : Type 0} (before inside : Option Refusal) (own mid new : SessionState) (was late now : Moment Store) (r : Result X Refusal) → AreAlikeButNotes (entered own) mid → late.refusals ≡ was.refusals → IfErr r (λ e. IsUnwritten mid late e new now)
    → IfErr r (λ e. IsRefusedFlushing before inside own was e new now)
none_written before inside own mid new was late now r alike none p =
    IfErr-weaker r (λ e. IsUnwritten mid late e new now) (λ e. IsRefusedFlushing before inside own was e new now) (λ e by. not_written before inside own mid new was late now e alike none by) p

-- the act behind it ended early
pub act_stopped : {X : Type 0} (before inside : Option Refusal) (own new : SessionState) (was now : Moment Store) (r : Result X Refusal) → IfErr r (λ e. ends_early e ≡ true) → IfErr r (λ e. IsRefusedFlushing before inside own was e new now)
act_stopped before inside own new was now r stops =
    IfErr-weaker r (λ e. ends_early e ≡ true) (λ e. IsRefusedFlushing before inside own was e new now) (λ e early. Asked (Early early)) stops

-- ---- a session that was written

pub written_since : (own mid new : SessionState) → AreAlikeButNotes own mid → IsFlushed mid new → IsFlushed own new
written_since own mid new alike p = flushed_before own mid.notes new (subst (λ (s : SessionState). IsFlushed s new) alike p)

pub flushed_since : (own mid new : SessionState) (r : Result (Unit {0}) Refusal) → AreAlikeButNotes own mid → OnOk r (IsFlushed mid new) → OnOk r (IsFlushed own new)
flushed_since own mid new (Ok u) alike p = written_since own mid new alike p
flushed_since own mid new (Err e) alike p = tt

-- the statement behind it was refused
pub not_sent : {X : Type 0} (before inside : Option Refusal) (statement : Sent) (may : Catalog → Refusal → Type 0) (own mid new : SessionState) (was late now : Moment Store) (r : Result X Refusal) → IsFlushed (entered own) mid → mid.mapping ≡ own.mapping → late.refusals ≡ was.refusals
    → IfErr r (λ e. IsRefusedByKeeper statement (may mid.mapping.schema) mid late e new now) → IfErr r (λ e. IsRefusedSending before inside statement (may own.mapping.schema) own was e new now)
not_sent before inside statement may own mid new was late now r flushed same none p =
    IfErr-weaker r (λ e. IsRefusedByKeeper statement (may mid.mapping.schema) mid late e new now) (λ e. IsRefusedSending before inside statement (may own.mapping.schema) own was e new now)
    (λ e by. refusals.Unsent mid flushed
    (subst (λ (n : ℕ). IsRefusedByKeeper statement (may own.mapping.schema) mid (record was { refusals = n }) e new now) none
    (subst (λ (m : Mapped). IsRefusedByKeeper statement (may m.schema) mid late e new now) same by)))
    p

-- ---- whether a transaction is in progress

pub scope_open : (scopes : List Scope) → 0 < length scopes → has_scope scopes ≡ true
scope_open [] some = absurd (omega (arith, some))
scope_open (scope ∷ scopes) some = refl
