-- Calls that flush keep a healthy session healthy, whatever they answer.
use Rattle.std.proofs.Common.{◌≡◌, ℕ, ◌+◌, ◌-◌, ◌<◌, Bool, true, false, ◌==◌, List, [], ◌∷◌, get_or, length, Option, None, Some, Result, Ok, Err, refl, sym, ap, ◌∙◌, subst, arith}
use Rattle.std.specs.Prelude.{is_none}
use Rattle.std.proofs.lemmas.List.Quantifiers.{position-Some}
use Rattle.base_core.specs.declared.refusal.Refusal.{Refusal}
use Rattle.base_core.specs.declared.refusal.Refusal.TheVariants.{InvalidRequestError, PendingRollbackError, ResourceClosedError}
use Rattle.base_core.specs.declared.refusal.RequestKind.TheVariants.{KeyChange}
use Rattle.class_mapping.specs.Mapped.{Mapped}
use Rattle.schema_core.specs.Tables.{Tables}
use Rattle.expr_types.specs.declared.select.Bulk.{Bulk}
use Rattle.expr_types.specs.declared.select.Select.{Select}
use Rattle.keeper_core.specs.Calls as call
use Rattle.object_arena.specs.declared.object.Object.{Object}
use Rattle.object_arena.specs.declared.object.State.{State}
use Rattle.object_arena.specs.declared.object.State.TheVariants.{Transient, Pending, Persistent, Deleted, Detached}
use Rattle.object_arena.specs.Fit.{IsFit}
use Rattle.object_arena.specs.Graph.{Graph, either_fault, is_persistent, no_object}
use Rattle.object_arena.specs.Identity.{is_identified}
use Rattle.keeper_core.specs.Programs.{Event, Run, ◌>>=◌, continue_from, give, refuse}
use Rattle.keeper_core.specs.Beside.{by_own, changes, on_store}
use Rattle.savepoints.specs.declared.scope.Scope.{Scope}
use Rattle.savepoints.specs.Scopes.{begun_at}
use Rattle.sql_semantics.specs.Plain.{IsPlainBulk}
use Rattle.session_parts.specs.Depths.{has_scope}
use Rattle.session_scopes.specs.Handles.{Drawn, place_of_handle}
use Rattle.session_scopes.specs.SessionState.{SessionState, depth_in, in_transaction}
use Rattle.session_calls.specs.Parts.{World, checked, fault_if, unless}
use Rattle.session_calls.specs.Steps.{begin_unless, enter, pending_fault}
use Rattle.session_calls.proofs.Acting.{no_scope_open}
use Rattle.session_acts.specs.Savepoints.{begin_savepoint, check_handle, commit_whole, enter_nested, handle_fault, limit_fault, release_handle}
use Rattle.session_statements.specs.Steps as statements
use Rattle.prepared_objects.specs.Leaving.{prepared_of}
use Rattle.session_acts.specs.Flush.{flush}
use Rattle.session_acts.specs.Outcome.{changes_of}
use Rattle.session_laws.proofs.Flushes.Flushing.{IsFlushSent, flush_sent}
use Rattle.session_acts.specs.Steps as acts
use Rattle.session_acts.proofs.Clearing.{clearable}
use Rattle.session_acts.proofs.Unwritten.{scope_open}
use Rattle.session_acts.specs.Steps.{IsPlainButForKeys, flush_now, flushing}
use Rattle.session_laws.specs.Sound.{EachObject, IsCommittable, IsHandled, IsSound, IsWell, IsWritten}
use Rattle.session_laws.proofs.Sound.Beginning.{enter_sound, entered_graph, entered_mapping, entered_open}
use Rattle.session_laws.proofs.Sound.Programs.{checked_none, checked_same}
use Rattle.session_laws.proofs.Calls.Nesting.{nest_sound}
use Rattle.session_laws.proofs.Calls.Rereading.{bulk_sound, rows_sound}
use Rattle.session_laws.proofs.Calls.Whole.{handle_released, whole_sound}
use Rattle.session_laws.specs.Flushes.{prepared_world}
use Rattle.session_laws.specs.Preparing.{IsReadable, PreparationsLeaveReread}
use Rattle.session_laws.specs.SoundFlushes.{IsToldSession, ToldFlushIsSound, ToldFlushKeepsSound}
use Rattle.session_laws.proofs.Flushes.Reading.{prepare_mapping}
use Rattle.session_laws.proofs.OwnRows.Standing.{hierarchies}
use Rattle.session_laws.proofs.Preparing.{healthy_readable, prepare_readable}
use Rattle.session_laws.specs.Health.Health.{HoldsItsKey, IsHealthy, IsWhole, KeepsHealthWhole, is_named}
use Rattle.session_laws.proofs.Health.Fits.{flushed_fit}
use Rattle.session_laws.proofs.Health.Flushes.{answered_as, flush_tidy}
use Rattle.session_laws.proofs.Health.Programs.{IsClean, IsReady, bulk_clean, commit_clean, enter_tidy, release_clean, rows_tidy, savepoint_clean}

-- ---- runs that go on where they answer

-- of the world after a run one thing holds, and where the run answered another
pub record IsLed {A : Type 0} (P Q : World → Type 0) (run : Run World A) : Type 0 where
  pub here : P run.after
  pub told : (a : A) → run.answer ≡ Ok a → Q run.after

led_from : {A B : Type 0} (P Q R : World → Type 0) (events : List Event) (v : World) (r : Result A Refusal) (next : A → World → Run World B) → P v → ((a : A) → r ≡ Ok a → Q v) → ((a : A) → Q v → IsLed P R (next a v)) → IsLed P R (continue_from events v r next)
led_from P Q R events v (Ok a) next here told later = let led = later a (told a refl) in record { here = led.here; told = led.told }
led_from P Q R events v (Err e) next here told later = record { here = here; told = λ b is. absurd cc }

pub led_then : {A B : Type 0} (P Q R : World → Type 0) (m : World → Run World A) (next : A → World → Run World B) (w : World) → IsLed P Q (m w) → ((a : A) → Q (m w).after → IsLed P R (next a (m w).after)) → IsLed P R ((m >>= next) w)
unfolding ◌>>=◌
led_then P Q R m next w first later = led_from P Q R (m w).events (m w).after (m w).answer next first.here first.told later

-- a check that passes tells that there is no fault
pub led_checked : (P Q : World → Type 0) (fault : SessionState → Option Refusal) (w : World) → P w → (fault w.own ≡ None → Q w) → IsLed P Q (checked fault w)
led_checked P Q fault w here passed = record {
  here = subst P (sym (checked_same fault w)) here;
  told = λ u is. subst Q (sym (checked_same fault w)) (passed (checked_none fault w u is));
}

-- ---- in the transaction

-- a healthy session over a mapping in the transaction, whole, where no rollback is awaited
pub record IsInside (mapped : Mapped) (world : World) : Type 0 where
  pub healthy : IsHealthy world
  pub fit : IsFit world.own.mapping world.own.graph
  pub well : IsWell world
  pub inside : 0 < length world.own.frames.scopes
  pub same : world.own.mapping ≡ mapped

pub some_scopes : (scopes : List Scope) → has_scope scopes ≡ true → 0 < length scopes
some_scopes [] is = absurd cc
some_scopes (scope ∷ scopes) is = omega arith

pub begun_handled : (failed : Bool) (scopes : List Scope) (scope : Scope) (n : ℕ) → failed ≡ false → scopes ≡ [] → n ≡ depth_in failed scopes - 1 → n ≡ depth_in failed (scope ∷ scopes) - 1
begun_handled failed scopes scope n well none handled =
    let before : n ≡ 0 = handled ∙ (λ i. depth_in (well i) (none i) - 1) in
    let after : depth_in failed (scope ∷ scopes) - 1 ≡ 0 = λ i. depth_in (well i) (scope ∷ none i) - 1 in
    before ∙ sym after

begun_well : (begun : Bool) (w : World) → in_transaction w.own ≡ begun → w.own.failed ≡ false → IsHandled w → IsWell (begin_unless begun w).after
unfolding ◌>>=◌ give changes on_store call.begin
begun_well true w is well handled = record { handled = handled; well = well }
begun_well false w is well handled = record { handled = begun_handled w.own.failed w.own.frames.scopes (begun_at w.own.graph) (length w.own.drawn.handles) well (no_scope_open w.own.frames.scopes is) handled; well = well }

pub unless_well : (failed : Bool) (w : World) (u : Unit {0}) → w.own.failed ≡ failed → IsHandled w → ((unless (fault_if failed PendingRollbackError) >>= λ u. by_own (λ session. begin_unless (in_transaction session))) w).answer ≡ Ok u
    → IsWell ((unless (fault_if failed PendingRollbackError) >>= λ u. by_own (λ session. begin_unless (in_transaction session))) w).after
unfolding ◌>>=◌ give refuse by_own
unless_well true w u at handled is = absurd cc
unless_well false w u at handled is = begun_well (in_transaction w.own) w refl at handled

entered_well : (w : World) (u : Unit {0}) → IsHandled w → (enter w).answer ≡ Ok u → IsWell (enter w).after
unfolding enter checked by_own ◌>>=◌
entered_well w u handled is = unless_well w.own.failed w u refl handled is

begin_tables : (begun : Bool) (w : World) → (begin_unless begun w).after.store.tables ≡ w.store.tables
unfolding ◌>>=◌ give changes on_store call.begin
begin_tables true w = refl
begin_tables false w = refl

unless_tables : (failed : Bool) (w : World) → ((unless (fault_if failed PendingRollbackError) >>= λ u. by_own (λ session. begin_unless (in_transaction session))) w).after.store.tables ≡ w.store.tables
unfolding ◌>>=◌ give refuse by_own
unless_tables true w = refl
unless_tables false w = begin_tables (in_transaction w.own) w

pub entered_tables : (w : World) → (enter w).after.store.tables ≡ w.store.tables
unfolding enter checked by_own ◌>>=◌
entered_tables w = unless_tables w.own.failed w

-- what holds of the mapping, the objects and the tables does so once the transaction has begun
pub once_begun : (P : Mapped → Graph → Tables → Type 0) (w : World) → P w.own.mapping w.own.graph w.store.tables → P (enter w).after.own.mapping (enter w).after.own.graph (enter w).after.store.tables
once_begun P w holds =
    let v : World = (enter w).after in
    subst (λ (m : Mapped). P m v.own.graph v.store.tables) (sym (entered_mapping w))
    (subst (λ (g : Graph). P w.own.mapping g v.store.tables) (sym (entered_graph w)) (subst (λ (t : Tables). P w.own.mapping w.own.graph t) (sym (entered_tables w)) holds))

enter_healthy : (w : World) → IsHealthy w → IsHealthy (enter w).after
enter_healthy w healthy = record { sound = enter_sound w healthy.sound; tidy = enter_tidy.kept w healthy.tidy }

pub enter_led : (w : World) → IsWhole w → IsHealthy w → IsLed IsHealthy (IsInside w.own.mapping) (enter w)
enter_led w whole healthy = record {
  here = enter_healthy w healthy;
  told = λ u is. record {
    healthy = enter_healthy w healthy;
    fit = subst (λ (m : Mapped). IsFit m (enter w).after.own.graph) (sym (entered_mapping w)) (subst (λ (g : Graph). IsFit w.own.mapping g) (sym (entered_graph w)) whole.fit);
    well = entered_well w u whole.handled is;
    inside = some_scopes (enter w).after.own.frames.scopes (entered_open w u is);
    same = entered_mapping w;
  };
}

-- ---- the flush

-- behind a flush a healthy session may be committed
pub record IsFlushed (mapped : Mapped) (world : World) : Type 0 where
  pub healthy : IsHealthy world
  pub fit : IsFit world.own.mapping world.own.graph
  pub committable : IsCommittable world
  pub same : world.own.mapping ≡ mapped

persists_named : (state : State) (o : Object) → o.state ≡ state → is_persistent state ≡ true → is_identified o ≡ true → is_named o.state o.identity ≡ true
persists_named Transient o at is identified = absurd cc
persists_named Pending o at is identified = absurd cc
persists_named Persistent o at is identified =
    let P : State → Type 0 = λ s. is_identified (record o { state = s }) ≡ true in
    ap (λ (s : State). is_named s o.identity) at ∙ subst P at identified
persists_named Deleted o at is identified = absurd cc
persists_named Detached o at is identified = absurd cc

module _ (mapped : Mapped) (w : World) (it : IsInside mapped w) where
  keyed_at : (place : ℕ) → place < length w.own.graph.objects → is_persistent (get_or w.own.graph.objects place no_object).state ≡ true → HoldsItsKey w.own.mapping (get_or w.own.graph.objects place no_object) × (is_named (get_or w.own.graph.objects place no_object).state (get_or w.own.graph.objects place no_object).identity ≡ true)
  keyed_at place less persists =
      let named = persists_named (get_or w.own.graph.objects place no_object).state (get_or w.own.graph.objects place no_object) refl persists (it.healthy.sound.graph.identified place no_object less) in
      (it.healthy.tidy.own.objects place less, named)

  pub told : IsToldSession w
  told = record {
    inside = it.inside;
    well = it.healthy.tidy.own.well;
    ascending = it.healthy.tidy.ascending;
    fit = it.fit;
    keyed = λ place less persists. let keyed = keyed_at place less persists in keyed.0 keyed.1;
  }

-- a flush leaves it sound
abbrev pub FlushLeavesSound : Type 0
FlushLeavesSound = (mapped : Mapped) (w : World) → IsInside mapped w → IsSound (flush w).after

-- and where it answers, with nothing to be written
abbrev pub FlushWritesAll : Type 0
FlushWritesAll = (mapped : Mapped) (w : World) → IsInside mapped w → (flush w).answer ≡ Ok tt → IsSound (flush w).after × IsWritten (flush w).after

pub leaves_sound : ToldFlushKeepsSound → FlushLeavesSound
leaves_sound keeps mapped w it = keeps w (told mapped w it) it.healthy.sound

pub writes_all : ToldFlushIsSound → FlushWritesAll
writes_all answers mapped w it is = answers w (told mapped w it) it.healthy.sound is

pub identified_objects : (w : World) → IsHealthy w → EachObject (λ (o : Object). is_identified o ≡ true) w.own.graph
identified_objects w healthy place less = healthy.sound.graph.identified place no_object less

-- rows can be read into its objects
pub inside_readable : (mapped : Mapped) (w : World) → IsInside mapped w → IsReadable w
inside_readable mapped w it = healthy_readable w (record { fit = it.fit; handled = it.well.handled }) it.healthy

pub ready : (w : World) → IsHealthy w → IsReady w
ready w healthy = record { tidy = healthy.tidy; identified = identified_objects w healthy }

module _ (reads : PreparationsLeaveReread) (keeps : FlushLeavesSound) (answers : FlushWritesAll) where
  flush_healthy : (mapped : Mapped) (w : World) → IsInside mapped w → IsHealthy (flush w).after
  flush_healthy mapped w it = record { sound = keeps mapped w it; tidy = flush_tidy reads w (inside_readable mapped w it) it.healthy.tidy }

  flush_done : (mapped : Mapped) (w : World) (u : Unit {0}) → IsInside mapped w → (flush w).answer ≡ Ok u → IsFlushed mapped (flush w).after
  flush_done mapped w u it is =
      let can : IsReadable w = inside_readable mapped w it in
      let mid : World = prepared_world w in
      let there : IsReadable mid = prepare_readable reads w can in
      let sent : IsFlushSent mid (flush w).after = (flush_sent w is).sent in
      let like = answered_as reads w u can it.healthy.tidy is in
      let done = answers mapped w it is in
      record {
        healthy = record { sound = done.0; tidy = like.tidy };
        fit = subst (λ (m : Mapped). IsFit m (flush w).after.own.graph) (sym sent.mapping)
            (subst (λ (g : Graph). IsFit mid.own.mapping g) (sym sent.objects)
            (flushed_fit mid.own.mapping mid.own.graph (prepared_of mid.own.mapping mid.own.graph) (changes_of mid.own) sent.given there.well (clearable mid.own.mapping mid.own.graph (hierarchies mid.own.mapping there.well).paired) there.fit));
        committable = record {
          inside = subst (λ (n : ℕ). 0 < n) (sym like.scopes) it.inside;
          well = record { handled = well_handled w (flush w).after.own it.well like.scopes like.failed like.drawn; well = like.failed ∙ it.well.well };
          written = done.1;
        };
        same = sent.mapping ∙ prepare_mapping w ∙ it.same;
      }
    where
      deep_as : (failed : Bool) (old new : List Scope) → length new ≡ length old → depth_in failed new ≡ depth_in failed old
      deep_as true old new long = ap (λ (n : ℕ). n + 1) long
      deep_as false old new long = long

      well_handled : (old : World) (now : SessionState) → IsWell old → length now.frames.scopes ≡ length old.own.frames.scopes → now.failed ≡ old.own.failed → now.drawn ≡ old.own.drawn → length now.drawn.handles ≡ depth_in now.failed now.frames.scopes - 1
      well_handled old now well long failed drawn =
          ap (λ (d : Drawn). length d.handles) drawn ∙ well.handled
          ∙ ap (λ (n : ℕ). n - 1) (sym (ap (λ (b : Bool). depth_in b now.frames.scopes) failed ∙ deep_as old.own.failed old.own.frames.scopes now.frames.scopes long))

  pub flush_led : (mapped : Mapped) (w : World) → IsInside mapped w → IsLed IsHealthy (IsFlushed mapped) (flush w)
  flush_led mapped w it = record { here = flush_healthy mapped w it; told = λ u is. flush_done mapped w u it is }

  pub now_led : (w : World) → IsWhole w → IsHealthy w → IsLed IsHealthy (IsFlushed w.own.mapping) (flush_now w)
  unfolding flush_now
  now_led w whole healthy =
      led_then IsHealthy (IsInside w.own.mapping) (IsFlushed w.own.mapping) enter (λ u. flush) w (enter_led w whole healthy) (λ u inside. flush_led w.own.mapping (enter w).after inside)

  pub flush_now_healthy : KeepsHealthWhole flush_now
  flush_now_healthy w whole healthy = (now_led w whole healthy).here

  -- ---- acts behind it

  clean : (mapped : Mapped) (v : World) → IsFlushed mapped v → IsClean v
  clean mapped v done = record { tidy = done.healthy.tidy; written = done.committable.written }

  -- what goes on from a session that was written
  acted : {A : Type 0} (m : World → Run World A) (v : World) → IsHealthy (m v).after → IsLed IsHealthy IsHealthy (m v)
  acted m v healthy = record { here = healthy; told = λ a is. healthy }

  pub commit_healthy : KeepsHealthWhole acts.commit
  unfolding acts.commit
  commit_healthy w whole healthy =
      (led_then IsHealthy (IsFlushed w.own.mapping) IsHealthy flush_now (λ u. commit_whole) w (now_led w whole healthy)
      (λ u done.
      let v : World = (flush_now w).after in
      acted commit_whole v (record { sound = whole_sound v done.committable done.healthy.sound; tidy = (commit_clean.kept v (clean w.own.mapping v done)).tidy }))).here

  pub rows_healthy : (select : Select) → KeepsHealthWhole (acts.rows select)
  unfolding acts.rows
  rows_healthy select w whole healthy =
      (led_then IsHealthy (IsFlushed w.own.mapping) IsHealthy flush_now (λ u. statements.rows select) w (now_led w whole healthy)
      (λ u done.
      let v : World = (flush_now w).after in
      acted (statements.rows select) v (record { sound = rows_sound select v done.healthy.sound; tidy = (rows_tidy select).kept v done.healthy.tidy }))).here

  -- a call that asks, flushes and acts
  flushing_led : {A : Type 0} (mapped : Mapped) (asked : World → Run World (Unit {0})) (act : World → Run World A) (w : World) → IsLed IsHealthy (IsInside mapped) (asked w)
      → ((v : World) → IsFlushed mapped v → IsHealthy (act v).after) → IsHealthy (flushing asked act w).after
  flushing_led mapped asked act w first later =
      (led_then IsHealthy (IsInside mapped) IsHealthy asked (λ u. flush >>= λ u. act) w first
      (λ u inside.
      let v : World = (asked w).after in
      led_then IsHealthy (IsFlushed mapped) IsHealthy flush (λ u. act) v (flush_led mapped v inside) (λ u done. acted act (flush v).after (later (flush v).after done)))).here

  pub asked_led : (fault : SessionState → Option Refusal) (w : World) → IsWhole w → IsHealthy w → IsLed IsHealthy (IsInside w.own.mapping) ((enter >>= λ u. checked fault) w)
  asked_led fault w whole healthy =
      led_then IsHealthy (IsInside w.own.mapping) (IsInside w.own.mapping) enter (λ u. checked fault) w (enter_led w whole healthy)
      (λ u inside. led_checked IsHealthy (IsInside w.own.mapping) fault (enter w).after inside.healthy (λ none. inside))

  nested_led : (w : World) → IsWhole w → IsHealthy w → IsLed IsHealthy (IsInside w.own.mapping) (enter_nested w)
  unfolding enter_nested
  nested_led w whole healthy = asked_led limit_fault w whole healthy

  pub nested_healthy : KeepsHealthWhole acts.begin_nested
  unfolding acts.begin_nested
  nested_healthy w whole healthy =
      flushing_led w.own.mapping enter_nested begin_savepoint w (nested_led w whole healthy)
      (λ v done. record { sound = nest_sound v done.committable.written done.healthy.sound; tidy = (savepoint_clean.kept v (clean w.own.mapping v done)).tidy })

  -- ---- the end of a savepoint

  is_there : (handle : ℕ) (w : World) (place : Option ℕ) → place_of_handle w.own.drawn handle ≡ place → w.own.failed ≡ false → IsHandled w → fault_if (is_none place) ResourceClosedError ≡ None → 0 < length w.own.frames.scopes
  is_there handle w None at well handled none = absurd cc
  is_there handle w (Some place) at well handled none =
      let inside : place < length w.own.drawn.handles = (position-Some (λ other. other == handle) w.own.drawn.handles place 0 at).0 in
      let long : length w.own.drawn.handles ≡ length w.own.frames.scopes - 1 = handled ∙ ap (λ (failed : Bool). depth_in failed w.own.frames.scopes - 1) well in
      omega (arith, inside, long)

  not_failed : (failed : Bool) → fault_if failed PendingRollbackError ≡ None → failed ≡ false
  not_failed true none = absurd cc
  not_failed false none = refl

  record IsAwake (mapped : Mapped) (w : World) : Type 0 where
    healthy : IsHealthy w
    whole : IsWhole w
    well : w.own.failed ≡ false
    same : w.own.mapping ≡ mapped

  check_led : (handle : ℕ) (w : World) → IsWhole w → IsHealthy w → IsLed IsHealthy (IsInside w.own.mapping) (check_handle handle w)
  unfolding check_handle
  check_led handle w whole healthy =
      led_then IsHealthy (IsAwake w.own.mapping) (IsInside w.own.mapping) (checked pending_fault) (λ u. checked (handle_fault handle)) w
      (led_checked IsHealthy (IsAwake w.own.mapping) pending_fault w healthy (λ none. record { healthy = healthy; whole = whole; well = not_failed w.own.failed none; same = refl }))
      (λ u awake.
      let v : World = (checked pending_fault w).after in
      led_checked IsHealthy (IsInside w.own.mapping) (handle_fault handle) v awake.healthy
      (λ none. record {
        healthy = awake.healthy;
        fit = awake.whole.fit;
        well = record { handled = awake.whole.handled; well = awake.well };
        inside = is_there handle v (place_of_handle v.own.drawn handle) refl awake.well awake.whole.handled none;
        same = awake.same;
      }))

  pub handle_healthy : (handle : ℕ) → KeepsHealthWhole (acts.commit_handle handle)
  unfolding acts.commit_handle
  handle_healthy handle w whole healthy =
      flushing_led w.own.mapping (check_handle handle) (release_handle handle) w (check_led handle w whole healthy)
      (λ v done. record { sound = handle_released handle v done.committable.well done.healthy.sound; tidy = ((release_clean handle).kept v (clean w.own.mapping v done)).tidy })

  -- ---- a bulk statement

  no_key : (writes : Bool) (second : Option Refusal) → either_fault (fault_if writes (InvalidRequestError KeyChange)) second ≡ None → writes ≡ false
  no_key true second none = absurd cc
  no_key false second none = refl

  -- of a statement that is sent it is known that it writes no key
  bulk_led : (statement : Bulk) (w : World) → IsPlainButForKeys w.own.mapping.schema statement → IsWhole w → IsHealthy w
      → IsLed IsHealthy (λ v. IsInside w.own.mapping v × IsPlainBulk w.own.mapping.schema statement) (statements.enter_bulk statement w)
  unfolding statements.enter_bulk
  bulk_led statement w plain whole healthy =
      led_then IsHealthy (IsInside w.own.mapping) (λ v. IsInside w.own.mapping v × IsPlainBulk w.own.mapping.schema statement) enter (λ u. checked (statements.update_fault statement)) w (enter_led w whole healthy)
      (λ u inside.
      let v : World = (enter w).after in
      led_checked IsHealthy (λ v. IsInside w.own.mapping v × IsPlainBulk w.own.mapping.schema statement) (statements.update_fault statement) v inside.healthy
      (λ none. (inside, plain (ap (λ (m : Mapped). statements.writes_key m.schema statement) (sym inside.same) ∙ no_key (statements.writes_key v.own.mapping.schema statement) _ none))))

  pub bulk_healthy : (statement : Bulk) (w : World) → IsPlainButForKeys w.own.mapping.schema statement → IsWhole w → IsHealthy w → IsHealthy (acts.bulk statement w).after
  unfolding acts.bulk
  bulk_healthy statement w plain whole healthy =
      (led_then IsHealthy (λ v. IsInside w.own.mapping v × IsPlainBulk w.own.mapping.schema statement) IsHealthy (statements.enter_bulk statement) (λ u. flush >>= λ u. statements.bulk statement) w
      (bulk_led statement w plain whole healthy)
      (λ u inside.
      let v : World = (statements.enter_bulk statement w).after in
      led_then IsHealthy (IsFlushed w.own.mapping) IsHealthy flush (λ u. statements.bulk statement) v (flush_led w.own.mapping v inside.0)
      (λ u done.
      let x : World = (flush v).after in
      acted (statements.bulk statement) x (record {
        sound = bulk_sound statement x
            (record { inside = scope_open x.own.frames.scopes done.committable.inside; fit = done.fit }, subst (λ (m : Mapped). IsPlainBulk m.schema statement) (sym done.same) inside.1)
            done.healthy.sound;
        tidy = ((bulk_clean statement).kept x (clean w.own.mapping x done)).tidy;
      })))).here
