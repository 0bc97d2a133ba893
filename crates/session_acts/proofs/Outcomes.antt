-- What is left of a session, and why a flush was refused, from one part of it to the next.
use Rattle.std.proofs.Common.{◌≡◌, ◌⊎◌, inl, inr, ℕ, Bool, true, false, List, length, Option, is_some, Result, Ok, Err, IfErr, OnOk, MatchBool, refl, sym, ap, ◌∙◌, subst}
use Rattle.base_core.specs.Answers.{is_memory}
use Rattle.base_core.specs.Counts.{Rose}
use Rattle.base_core.specs.declared.ids.ObjId.{ObjId}
use Rattle.base_core.specs.declared.refusal.Refusal.{Refusal}
use Rattle.base_core.specs.declared.refusal.Refusal.TheVariants.{Memory}
use Rattle.base_core.specs.declared.value.Value.{Value}
use Rattle.schema_core.specs.declared.changes.Planned.{Planned}
use Rattle.schema_core.specs.declared.changes.RowChanges.{RowChanges}
use Rattle.schema_core.specs.Catalog.{Catalog}
use Rattle.object_records.specs.declared.kept.Held.{Held}
use Rattle.object_records.specs.Kept.{held_in}
use Rattle.object_rows.specs.declared.prepared.Prepared.{Prepared}
use Rattle.row_project.specs.Changes.{project}
use Rattle.flush_plan.specs.Planning.{plan}
use Rattle.load_preparing.specs.Refusals.{CanRefuseReading}
use Rattle.prepared_objects.specs.Known.{next_unread}
use Rattle.prepared_objects.specs.Leaving.{prepared_of}
use Rattle.keeper_core.specs.Store.{Store}
use Rattle.keeper_core.specs.Programs.{ends_early}
use Rattle.keeper_core.specs.Moment.{IsCalm, Moment, counters}
use Rattle.session_scopes.specs.Scoping.{session_failed}
use Rattle.session_scopes.specs.Keeping.{session_given_back}
use Rattle.session_scopes.specs.Loads.{IsLoadedFrom, IsRefusedLoad}
use Rattle.session_scopes.specs.SessionState.{AreAlikeButNotes, SessionState}
use Rattle.session_calls.proofs.Joining.{goes_itself, memory_early}
use Rattle.session_statements.specs.Run.{IsCause, WasGivenStale, WasRefused, WasUnfit}
use Rattle.session_acts.specs.Flush.{session_flushed}
use Rattle.session_acts.specs.Outcome.{IsCauseUnder, IsFlushCause, IsFlushed, IsGivenUp, IsPreparedFrom, IsShownAsRead, IsStopped, IsUntouched, IsWriteCause, IsWritten, Unprepared, Unsent, changes_of}
use Rattle.session_acts.proofs.ReadingSteps.{session_same}

-- ---- what ended early says nothing

unless_early : (P : Type 0) (e : Refusal) → ends_early e ≡ true → MatchBool (ends_early e) (Unit {0}) P
unless_early P e early = subst (λ (b : Bool). MatchBool b (Unit {0}) P) (sym early) tt

whenever : (P : Type 0) (b : Bool) → P → MatchBool b (Unit {0}) P
whenever P true p = tt
whenever P false p = p

pub from_then : (P Q : Type 0) (b : Bool) → (P → Q) → MatchBool b (Unit {0}) P → MatchBool b (Unit {0}) Q
from_then P Q true f p = tt
from_then P Q false f p = f p

-- ---- what is left

pub untouched_early : (e : Refusal) (own now : SessionState) → e ≡ Memory → IsUntouched e own now
untouched_early e own now is = unless_early (AreAlikeButNotes own now) e (memory_early e is)

pub untouched_still : (e : Refusal) (own now : SessionState) → AreAlikeButNotes own now → IsUntouched e own now
untouched_still e own now is = whenever (AreAlikeButNotes own now) (ends_early e) is

alike_along : (own mid now : SessionState) → AreAlikeButNotes own mid → AreAlikeButNotes mid now → AreAlikeButNotes own now
alike_along own mid now is p = p ∙ ap (λ (s : SessionState). record s { notes = now.notes }) is

pub untouched_along : (e : Refusal) (own mid now : SessionState) → AreAlikeButNotes own mid → IsUntouched e mid now → IsUntouched e own now
untouched_along e own mid now is p = from_then (AreAlikeButNotes mid now) (AreAlikeButNotes own now) (ends_early e) (alike_along own mid now is) p

pub written_along : (prepared : Prepared) (rows : RowChanges) (own mid now : SessionState) → AreAlikeButNotes own mid → IsWritten prepared rows mid now → IsWritten prepared rows own now
written_along prepared rows own mid now is p =
    (p.0, p.1, subst (λ (s : SessionState). AreAlikeButNotes (session_flushed prepared rows p.0 s) now) is p.2)

alike_itself : (own now : SessionState) → now ≡ own → AreAlikeButNotes own now
alike_itself own now is = is ∙ ap (λ (s : SessionState). record own { notes = s.notes }) (sym is)

-- the plan was sent, and the objects changed
pub rows_settled : (prepared : Prepared) (rows : RowChanges) (keys : List (List Value)) (own mid now : SessionState) → AreAlikeButNotes own mid → length keys ≡ length rows.fresh → now ≡ session_flushed prepared rows keys mid → IsWritten prepared rows own now
rows_settled prepared rows keys own mid now alike long is = written_along prepared rows own mid now alike (keys, long, alike_itself (session_flushed prepared rows keys mid) now is)

-- the warnings were noted before
pub written_warned : (prepared : Prepared) (rows : RowChanges) (own mid now : SessionState) (r : Result (Unit {0}) Refusal) → AreAlikeButNotes own mid → OnOk r (IsWritten prepared rows mid now) → OnOk r (IsWritten prepared rows own now)
written_warned prepared rows own mid now (Ok u) alike p = written_along prepared rows own mid now alike p
written_warned prepared rows own mid now (Err e) alike p = tt

-- what is decided of the objects and what they change is known
pub as_written : (P : Prepared → RowChanges → Type 0) (own : SessionState) (prepared : Prepared) (rows : RowChanges) → prepared ≡ prepared_of own.mapping own.graph → rows ≡ project own.mapping own.graph prepared → P prepared rows
    → P (prepared_of own.mapping own.graph) (changes_of own)
as_written P own prepared rows ready are p = subst (λ (q : Prepared). P q (project own.mapping own.graph q)) ready (subst (P prepared) are p)

-- ---- a session that is prepared

-- one that is as it was
loaded_itself : (own : SessionState) → IsLoadedFrom own own
loaded_itself own = record { goes = goes_itself own; rest = refl; scopes = refl }

prepared_itself : (own : SessionState) → IsPreparedFrom own own
prepared_itself own = record { loaded = loaded_itself own; still = λ none. refl }

pub known_flushed : (own new : SessionState) (r : Result (Unit {0}) Refusal) → OnOk r (IsWritten (prepared_of own.mapping own.graph) (changes_of own) own new) → OnOk r (IsFlushed own new)
known_flushed own new (Ok u) written = (own, prepared_itself own, written)
known_flushed own new (Err e) written = tt

-- one of which something was read
read_from : (own mid : SessionState) → is_some (next_unread own.mapping own.graph) ≡ true → IsLoadedFrom own mid → IsPreparedFrom own mid
read_from own mid unread left = record { loaded = left; still = λ none. absurd (let never : false ≡ true = sym (ap (λ (found : Option ObjId). is_some found) none) ∙ unread in cc) }

pub read_flushed : (own mid new : SessionState) (r : Result (Unit {0}) Refusal) → is_some (next_unread own.mapping own.graph) ≡ true → IsLoadedFrom own mid → OnOk r (IsWritten (prepared_of mid.mapping mid.graph) (changes_of mid) mid new)
    → OnOk r (IsFlushed own new)
read_flushed own mid new (Ok u) unread left written = (mid, read_from own mid unread left, written)
read_flushed own mid new (Err e) unread left written = tt

-- since then only the notes have changed
loaded_alike : (own mid new : SessionState) → IsLoadedFrom own mid → AreAlikeButNotes mid new → IsLoadedFrom own new
loaded_alike own mid new left alike =
    subst (IsLoadedFrom own) (sym alike)
    (record {
      goes = record { mapping = left.goes.mapping; there = left.goes.there; drawn = left.goes.drawn };
      rest = ap (λ (s : SessionState). record s { notes = new.notes }) left.rest;
      scopes = left.scopes;
    })

pub read_stopped : (own mid new : SessionState) (e : Refusal) → IsLoadedFrom own mid → IsUntouched e mid new → IsStopped e own new
read_stopped own mid new e left untouched = from_then (AreAlikeButNotes mid new) (IsLoadedFrom own new) (ends_early e) (loaded_alike own mid new left) untouched

pub stopped_there : (own new : SessionState) (e : Refusal) → IsLoadedFrom own new → IsStopped e own new
stopped_there own new e left = whenever (IsLoadedFrom own new) (ends_early e) left

pub loaded_so_far : (own new : SessionState) (e : Refusal) → ends_early e ≡ false → IsStopped e own new → IsLoadedFrom own new
loaded_so_far own new e late stopped = subst (λ (b : Bool). MatchBool b (Unit {0}) (IsLoadedFrom own new)) late stopped

-- ---- a session that is given up

abbrev pub WasGivenUp : SessionState → SessionState → Type 0
WasGivenUp own now = (mid : SessionState) × IsLoadedFrom own mid × AreAlikeButNotes (session_failed (session_given_back (held_in own.graph) mid)) now

pub known_given_up : (e : Refusal) (own mid now : SessionState) → IsUntouched e own mid → AreAlikeButNotes (session_failed mid) now → IsGivenUp e own now
known_given_up e own mid now untouched p =
    from_then (AreAlikeButNotes own mid) (WasGivenUp own now) (ends_early e)
    (λ is. (own, loaded_itself own, subst (λ (s : SessionState). AreAlikeButNotes (session_failed s) now) (sym (session_same own)) (subst (λ (s : SessionState). AreAlikeButNotes (session_failed s) now) is p))) untouched

pub read_given_up : (e : Refusal) (own mid back now : SessionState) (kept : List Held) → IsStopped e own mid → kept ≡ held_in own.graph → back ≡ session_given_back kept mid → AreAlikeButNotes (session_failed back) now → IsGivenUp e own now
read_given_up e own mid back now kept stopped held is p =
    from_then (IsLoadedFrom own mid) (WasGivenUp own now) (ends_early e)
    (λ left. (mid, left, subst (λ (s : SessionState). AreAlikeButNotes (session_failed s) now) (is ∙ ap (λ (all : List Held). session_given_back all mid) held) p)) stopped

pub not_given_up : (e : Refusal) (own now : SessionState) → ends_early e ≡ true → IsGivenUp e own now
not_given_up e own now early = unless_early (WasGivenUp own now) e early

pub failed_alike : (own mid now : SessionState) → AreAlikeButNotes own mid → now ≡ session_failed mid → AreAlikeButNotes (session_failed own) now
failed_alike own mid now alike is = subst (λ (s : SessionState). AreAlikeButNotes (session_failed s) now) alike (alike_itself (session_failed mid) now is)

-- ---- why it was refused

module _ (schema : Catalog) (rows : RowChanges) where
  cause_early : (told : Result (List Planned) Refusal) (e : Refusal) (old new : Moment Store) → ends_early e ≡ true → IsCauseUnder schema rows told old e new
  cause_early (Ok statements) e old new early = unless_early (WasRefused old e new ⊎ (WasGivenStale schema rows statements e ⊎ WasUnfit schema rows statements e)) e early
  cause_early (Err cycle) e old new early = unless_early (e ≡ cycle) e early

  pub early_cause : (e : Refusal) (old new : Moment Store) → ends_early e ≡ true → IsWriteCause schema rows old e new
  early_cause e old new early = cause_early (plan schema rows) e old new early

  pub memory_cause : (e : Refusal) (old new : Moment Store) → e ≡ Memory → IsWriteCause schema rows old e new
  memory_cause e old new is = early_cause e old new (memory_early e is)

  -- the run of the plan was refused
  pub run_cause : (statements : List Planned) (e : Refusal) (old new : Moment Store) → plan schema rows ≡ Ok statements → IsCause schema rows statements old e new → IsWriteCause schema rows old e new
  run_cause statements e old new is p = subst (λ (told : Result (List Planned) Refusal). IsCauseUnder schema rows told old e new) (sym is) p

  is_of_memory : (e : Refusal) → is_memory e ≡ true → e ≡ Memory
  is_of_memory Memory is = refl
  is_of_memory e is = absurd cc

  cycle_cause : (b : Bool) (e : Refusal) (old new : Moment Store) → is_memory e ≡ b → MatchBool b (Unit {0}) (plan schema rows ≡ Err e) → IsWriteCause schema rows old e new
  cycle_cause true e old new is refuses = memory_cause e old new (is_of_memory e is)
  cycle_cause false e old new is refuses = subst (λ (told : Result (List Planned) Refusal). IsCauseUnder schema rows told old e new) (sym refuses) (whenever (e ≡ e) (ends_early e) refl)

  -- there is no plan
  pub plan_cause : (e : Refusal) (old new : Moment Store) → MatchBool (is_memory e) (Unit {0}) (plan schema rows ≡ Err e) → IsWriteCause schema rows old e new
  plan_cause e old new refuses = cycle_cause (is_memory e) e old new refl refuses

  calm_under : (told : Result (List Planned) Refusal) (e : Refusal) (old mid new : Moment Store) → IsCalm (counters mid) (counters new) → IsCauseUnder schema rows told old e mid → IsCauseUnder schema rows told old e new
  calm_under (Err cycle) e old mid new calm p = p
  calm_under (Ok statements) e old mid new calm p =
      let Other : Type 0 = WasGivenStale schema rows statements e ⊎ WasUnfit schema rows statements e in
      from_then (WasRefused old e mid ⊎ Other) (WasRefused old e new ⊎ Other) (ends_early e) by p
    where
      by : WasRefused old e mid ⊎ (WasGivenStale schema rows statements e ⊎ WasUnfit schema rows statements e) → WasRefused old e new ⊎ (WasGivenStale schema rows statements e ⊎ WasUnfit schema rows statements e)
      by (inl refused) = inl (subst (λ (n : ℕ). Rose old.refusals n) (sym calm.0) refused.0, refused.1, calm.1 ∙ refused.2)
      by (inr other) = inr other

  -- nothing was refused since
  pub calm_cause : (e : Refusal) (old mid new : Moment Store) → IsCalm (counters mid) (counters new) → IsWriteCause schema rows old e mid → IsWriteCause schema rows old e new
  calm_cause e old mid new calm p = calm_under (plan schema rows) e old mid new calm p

-- ---- why the flush was refused

calm_itself : (moment : Moment Store) → IsCalm (counters moment) (counters moment)
calm_itself moment = (refl, refl)

pub early_flush_cause : (own : SessionState) (e : Refusal) (was now : Moment Store) → ends_early e ≡ true → IsFlushCause own was e now
early_flush_cause own e was now early = Unsent own was (prepared_itself own) refl (early_cause own.mapping.schema (changes_of own) e was now early)

pub memory_flush_cause : (own : SessionState) (e : Refusal) (was now : Moment Store) → e ≡ Memory → IsFlushCause own was e now
memory_flush_cause own e was now is = early_flush_cause own e was now (memory_early e is)

-- nothing was to be read
pub known_cause : {A : Type 0} (own : SessionState) (was now : Moment Store) (r : Result A Refusal) → IfErr r (λ e. IsWriteCause own.mapping.schema (changes_of own) was e now) → IfErr r (λ e. IsFlushCause own was e now)
known_cause own was now (Ok x) cause = tt
known_cause own was now (Err e) cause = Unsent own was (prepared_itself own) refl cause

-- something was read
pub read_cause : {A : Type 0} (own mid : SessionState) (was late now : Moment Store) (r : Result A Refusal) → is_some (next_unread own.mapping own.graph) ≡ true → IsLoadedFrom own mid → late.refusals ≡ was.refusals
    → IfErr r (λ e. IsWriteCause mid.mapping.schema (changes_of mid) late e now) → IfErr r (λ e. IsFlushCause own was e now)
read_cause own mid was late now (Ok x) unread left calm cause = tt
read_cause own mid was late now (Err e) unread left calm cause = Unsent mid late (read_from own mid unread left) calm cause

pub reading_cause : (own mid : SessionState) (was late : Moment Store) (e : Refusal) → IsRefusedLoad CanRefuseReading IsShownAsRead own was e mid late → IsFlushCause own was e late
reading_cause own mid was late e refused = Unprepared mid late refused (calm_itself late)

-- nothing was refused since
pub calm_flush_cause : (own : SessionState) (e : Refusal) (was mid now : Moment Store) → IsCalm (counters mid) (counters now) → IsFlushCause own was e mid → IsFlushCause own was e now
calm_flush_cause own e was mid now calm (Unprepared loaded late refused so_far) = Unprepared loaded late refused (calm.0 ∙ so_far.0, calm.1 ∙ so_far.1)
calm_flush_cause own e was mid now calm (Unsent prepared late from so_far cause) = Unsent prepared late from so_far (calm_cause prepared.mapping.schema (changes_of prepared) e late mid now calm cause)
