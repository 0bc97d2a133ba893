-- Why a call that reads rows is refused, and what is left then, from one call to the one around it.
use Rattle.std.proofs.Common.{◌≡◌, false, List, Option, None, Some, Result, Ok, Err, IfErr, OnOk, ◌⊎◌, ⊎_elim, refl, ap, ◌∙◌, subst}
use Rattle.std.proofs.lemmas.Result.{IfErr-weaker}
use Rattle.base_core.specs.declared.ids.ClassId.{ClassId}
use Rattle.base_core.specs.declared.ids.ObjId.{ObjId}
use Rattle.base_core.specs.declared.ids.RelNo.{RelNo}
use Rattle.base_core.specs.declared.value.Value.{Value}
use Rattle.base_core.specs.declared.refusal.Refusal.{Refusal}
use Rattle.base_core.specs.declared.refusal.Refusal.TheVariants.{Memory}
use Rattle.class_mapping.specs.Mapped.{Mapped, root_of}
use Rattle.keeper_core.specs.Alone.{IsOwn}
use Rattle.keeper_core.specs.Programs.{ends_early}
use Rattle.object_arena.specs.Graph.{Graph, either_fault}
use Rattle.object_arena.specs.Identity.{find_identity}
use Rattle.relations.specs.declared.calls.LinkCall.{LinkCall}
use Rattle.keeper_core.specs.Store.{Store}
use Rattle.keeper_core.specs.Moment.{Counters, IsCalm, Moment, counters}
use Rattle.load_calls.specs.Refreshing.{Scene}
use Rattle.session_scopes.specs.Loads.{IsShownIn}
use Rattle.session_scopes.specs.SessionState.{AreAlikeButNotes, SessionState}
use Rattle.session_calls.specs.Refusals.{Early, IsRefused, entered}
use Rattle.session_calls.specs.Steps.{pending_fault}
use Rattle.session_calls.proofs.Joining.{goes_itself}
use Rattle.session_calls.proofs.Refusing.{refused_entering, refused_inside}
use Rattle.session_objects.specs.Steps.{IsDoneInside}
use Rattle.session_links.specs.Linking.{change_fault}
use Rattle.session_acts.specs.Outcome.{IsFlushed}
use Rattle.session_acts.specs.Refusals.{Asked}
use Rattle.session_acts.proofs.Unwritten.{not_written, written_since}
use Rattle.session_loads.specs.Asking.{asked_fault, is_unloaded_in, members_fault}
use Rattle.session_loads.specs.Refusals.{AskedAgain, EarlyHere, EarlyWriting, FaultAgain, FaultHere, Fetched, HasMembers, Held, IsLoadedFrom, IsRefusedCells, IsRefusedChanging, IsRefusedFinding, IsRefusedFor, IsRefusedFound, IsRefusedGetting, IsRefusedHere, IsRefusedLink, IsRefusedLoad, IsRefusedLoading, IsRefusedMembers, IsRefusedReading, IsRefusedRows, IsRefusedWriting, LoadRefused, MembersRefused, NotKnown, NotPut, NotWritten, ReadRefused, ThenHere, ThenRefused, Unchanged, Unflushed, Unread, no_fault}
use Rattle.session_loads.proofs.AskLemmas.{either_first, either_second}

pub calm_more : (a b c : Counters) → IsCalm a b → IsCalm b c → IsCalm a c
calm_more a b c p q = (q.0 ∙ p.0, q.1 ∙ p.1)

-- ---- a load

-- nothing was loaded
pub loaded_nothing : (session : SessionState) → IsLoadedFrom session session
loaded_nothing session = record { goes = goes_itself session; rest = refl; scopes = refl }

pub load_refused : {X : Type 0} (may : Mapped → Graph → Refusal → Type 0) (shows : Mapped → Scene → Scene → Refusal → Type 0) (old new : SessionState) (was now : Moment Store) (r : Result X Refusal) → IsLoadedFrom old new → IfErr r (λ e. (e ≡ Memory) ⊎ may old.mapping new.graph e)
    → IfErr r (λ e. (e ≡ Memory) ⊎ IsShownIn (shows old.mapping) old was new now e) → IfErr r (λ e. IsRefusedLoad may shows old was e new now)
load_refused may shows old new was now (Ok x) left cause shown = tt
load_refused may shows old new was now (Err e) left cause shown = record { left = left; cause = cause; shown = shown }

module _ (Then : SessionState → Moment Store → Refusal → SessionState → Moment Store → Type 0) where
  -- ---- in the transaction

  -- what came then was refused
  pub thens_here : {X : Type 0} (inside : Option Refusal) (old new : SessionState) (was now : Moment Store) (r : Result X Refusal) → IfErr r (λ e. Then old was e new now) → IfErr r (λ e. IsRefusedHere inside Then old was e new now)
  thens_here inside old new was now r p = IfErr-weaker r (λ e. Then old was e new now) (λ e. IsRefusedHere inside Then old was e new now) (λ e by. ThenHere by) p

  -- what refuses where nothing is asked
  unasked_by : (inside : Option Refusal) (old new : SessionState) (was now : Moment Store) (e : Refusal) → IsRefusedHere None Then old was e new now → IsRefusedHere inside Then old was e new now
  unasked_by inside old new was now e (EarlyHere early) = EarlyHere early
  unasked_by inside old new was now e (FaultHere is same) = absurd cc
  unasked_by inside old new was now e (ThenHere p) = ThenHere p

  pub unasked_here : {X : Type 0} (inside : Option Refusal) (old new : SessionState) (was now : Moment Store) (r : Result X Refusal) → IfErr r (λ e. IsRefusedHere None Then old was e new now) → IfErr r (λ e. IsRefusedHere inside Then old was e new now)
  unasked_here inside old new was now r p = IfErr-weaker r (λ e. IsRefusedHere None Then old was e new now) (λ e. IsRefusedHere inside Then old was e new now) (λ e by. unasked_by inside old new was now e by) p

  -- behind a flush
  flushed_here : (again : SessionState → Option Refusal) (own mid new : SessionState) (was late now : Moment Store) (e : Refusal) → IsFlushed own mid → IsCalm (counters was) (counters late) → IsRefusedHere (again mid) Then mid late e new now → IsRefusedWriting again Then own was e new now
  flushed_here again own mid new was late now e flushed calm (EarlyHere early) = EarlyWriting early
  flushed_here again own mid new was late now e flushed calm (FaultHere is same) = FaultAgain mid flushed is same
  flushed_here again own mid new was late now e flushed calm (ThenHere p) = ThenRefused mid late flushed calm p

  pub after_flush : {X : Type 0} (again : SessionState → Option Refusal) (own mid new : SessionState) (was late now : Moment Store) (r : Result X Refusal) → IsFlushed own mid → IsCalm (counters was) (counters late) → IfErr r (λ e. IsRefusedHere (again mid) Then mid late e new now)
      → IfErr r (λ e. IsRefusedWriting again Then own was e new now)
  after_flush again own mid new was late now r flushed calm p =
      IfErr-weaker r (λ e. IsRefusedHere (again mid) Then mid late e new now) (λ e. IsRefusedWriting again Then own was e new now) (λ e by. flushed_here again own mid new was late now e flushed calm by) p

  -- ---- a whole call

  here_reading : (inside : SessionState → Option Refusal) (own mid new : SessionState) (was late now : Moment Store) (e : Refusal) → AreAlikeButNotes (entered own) mid → mid.failed ≡ false → IsCalm (counters was) (counters late) → IsRefusedHere (inside mid) Then mid late e new now
      → IsRefusedReading (pending_fault own) (inside (record (entered own) { notes = mid.notes })) Then own was e new now
  here_reading inside own mid new was late now e alike well calm (EarlyHere early) = Unread (Early early)
  here_reading inside own mid new was late now e alike well calm (FaultHere is same) = Unread (refused_inside inside own mid new alike well is same)
  here_reading inside own mid new was late now e alike well calm (ThenHere p) = ReadRefused mid late alike calm p

  -- that reads nothing before
  pub reading_refused : {X : Type 0} (inside : SessionState → Option Refusal) (own mid new : SessionState) (was late now : Moment Store) (r : Result X Refusal) → AreAlikeButNotes (entered own) mid → mid.failed ≡ false → IsCalm (counters was) (counters late)
      → IfErr r (λ e. IsRefusedHere (inside mid) Then mid late e new now) → IfErr r (λ e. IsRefusedReading (pending_fault own) (inside (record (entered own) { notes = mid.notes })) Then own was e new now)
  reading_refused inside own mid new was late now r alike well calm p =
      IfErr-weaker r (λ e. IsRefusedHere (inside mid) Then mid late e new now) (λ e. IsRefusedReading (pending_fault own) (inside (record (entered own) { notes = mid.notes })) Then own was e new now)
      (λ e by. here_reading inside own mid new was late now e alike well calm by) p

  writing_loading : (before inside : Option Refusal) (again : SessionState → Option Refusal) (own mid new : SessionState) (was late now : Moment Store) (e : Refusal) → AreAlikeButNotes (entered own) mid → IsCalm (counters was) (counters late) → IsRefusedWriting again Then mid late e new now
      → IsRefusedLoading before inside again Then own was e new now
  writing_loading before inside again own mid new was late now e alike calm (EarlyWriting early) = Unflushed (Asked (Early early))
  writing_loading before inside again own mid new was late now e alike calm (NotWritten p) = Unflushed (not_written before inside own mid new was late now e alike calm.0 p)
  writing_loading before inside again own mid new was late now e alike calm (FaultAgain m flushed is same) = AskedAgain m (written_since (entered own) mid m alike flushed) is same
  writing_loading before inside again own mid new was late now e alike calm (ThenRefused m l flushed later p) = LoadRefused m l (written_since (entered own) mid m alike flushed) (calm_more (counters was) (counters late) (counters l) calm later) p

  pub here_loading : (inside again : SessionState → Option Refusal) (own mid new : SessionState) (was late now : Moment Store) (e : Refusal) → AreAlikeButNotes (entered own) mid → mid.failed ≡ false → IsCalm (counters was) (counters late) → IsRefusedHere (inside mid) (IsRefusedWriting again Then) mid late e new now
      → IsRefusedLoading (pending_fault own) (inside (record (entered own) { notes = mid.notes })) again Then own was e new now
  here_loading inside again own mid new was late now e alike well calm (EarlyHere early) = Unflushed (Asked (Early early))
  here_loading inside again own mid new was late now e alike well calm (FaultHere is same) = Unflushed (Asked (refused_inside inside own mid new alike well is same))
  here_loading inside again own mid new was late now e alike well calm (ThenHere p) = writing_loading (pending_fault own) (inside (record (entered own) { notes = mid.notes })) again own mid new was late now e alike calm p

  -- that flushes before it loads
  pub loading_refused : {X : Type 0} (inside again : SessionState → Option Refusal) (own mid new : SessionState) (was late now : Moment Store) (r : Result X Refusal) → AreAlikeButNotes (entered own) mid → mid.failed ≡ false → IsCalm (counters was) (counters late)
      → IfErr r (λ e. IsRefusedHere (inside mid) (IsRefusedWriting again Then) mid late e new now) → IfErr r (λ e. IsRefusedLoading (pending_fault own) (inside (record (entered own) { notes = mid.notes })) again Then own was e new now)
  loading_refused inside again own mid new was late now r alike well calm p =
      IfErr-weaker r (λ e. IsRefusedHere (inside mid) (IsRefusedWriting again Then) mid late e new now) (λ e. IsRefusedLoading (pending_fault own) (inside (record (entered own) { notes = mid.notes })) again Then own was e new now)
      (λ e by. here_loading inside again own mid new was late now e alike well calm by) p

  -- ---- what is asked, where it may want memory

  -- something is against it
  pub asking_refused : (fault : Option Refusal) (own after : SessionState) (was : Moment Store) (e : Refusal) → IsDoneInside fault after own (Err e) own → IsRefusedHere fault Then own was e own was
  asking_refused fault own after was e done =
      ⊎_elim (λ (memory : e ≡ Memory). EarlyHere (ap ends_early memory)) (λ (refused : (fault ≡ Some e) × (own ≡ own) × IsOwn e). FaultHere refused.0 refl) done

  -- the first of two faults is
  pub first_refused : (first second : Option Refusal) (own after : SessionState) (was : Moment Store) (e : Refusal) → IsDoneInside first after own (Err e) own → IsRefusedHere (either_fault first second) Then own was e own was
  first_refused first second own after was e done =
      ⊎_elim (λ (memory : e ≡ Memory). EarlyHere (ap ends_early memory)) (λ (refused : (first ≡ Some e) × (own ≡ own) × IsOwn e). FaultHere (either_first first second e refused.0) refl) done

  second_here : (first second : Option Refusal) (own new : SessionState) (was now : Moment Store) (e : Refusal) → first ≡ None → IsRefusedHere second Then own was e new now → IsRefusedHere (either_fault first second) Then own was e new now
  second_here first second own new was now e none (EarlyHere early) = EarlyHere early
  second_here first second own new was now e none (FaultHere is same) = FaultHere (either_second first second e none is) same
  second_here first second own new was now e none (ThenHere p) = ThenHere p

  -- the second is, or what comes then
  pub second_refused : {X : Type 0} (first second : Option Refusal) (own new : SessionState) (was now : Moment Store) (r : Result X Refusal) → first ≡ None → IfErr r (λ e. IsRefusedHere second Then own was e new now) → IfErr r (λ e. IsRefusedHere (either_fault first second) Then own was e new now)
  second_refused first second own new was now r none p =
      IfErr-weaker r (λ e. IsRefusedHere second Then own was e new now) (λ e. IsRefusedHere (either_fault first second) Then own was e new now) (λ e by. second_here first second own new was now e none by) p

-- ---- collections that change

-- the members were read behind a flush
pub fetched : {X : Type 0} (owner : ObjId) (place : RelNo) (own mid new : SessionState) (r : Result X Refusal) → IsFlushed own mid → OnOk r (IsLoadedFrom mid new) → OnOk r (HasMembers owner place own new)
fetched owner place own mid new (Ok x) flushed left = Fetched mid flushed left
fetched owner place own mid new (Err e) flushed left = tt

-- they are known, and something is against the change
pub put_refused : (owner : ObjId) (place : RelNo) (call : LinkCall) (after own mid new : SessionState) (was now : Moment Store) (r : Result (Unit {0}) Refusal) → HasMembers owner place own mid → IsDoneInside (change_fault owner place call mid) after mid r new
    → IfErr r (λ e. IsRefusedMembers owner place call own was e new now)
put_refused owner place call after own mid new was now (Ok u) known done = tt
put_refused owner place call after own mid new was now (Err e) known done =
    ⊎_elim (λ (memory : e ≡ Memory). NotKnown (EarlyHere (ap ends_early memory))) (λ (refused : (change_fault owner place call mid ≡ Some e) × (new ≡ mid) × IsOwn e). NotPut mid known refused.0 refused.1) done

-- members that are known in the transaction that a call entered
entered_members : (owner : ObjId) (place : RelNo) (own mid new : SessionState) → AreAlikeButNotes own mid → HasMembers owner place mid new → HasMembers owner place own new
entered_members owner place own mid new alike (Held loaded same) =
    Held (subst (λ (s : SessionState). is_unloaded_in owner place s ≡ false) alike loaded) (subst (λ (s : SessionState). AreAlikeButNotes s new) alike same)
entered_members owner place own mid new alike (Fetched flushed written left) = Fetched flushed (written_since own mid flushed alike written) left

members_changing : (owner : ObjId) (place : RelNo) (call : LinkCall) (own mid new : SessionState) (was late now : Moment Store) (e : Refusal) → AreAlikeButNotes (entered own) mid → mid.failed ≡ false → IsCalm (counters was) (counters late) → IsRefusedMembers owner place call mid late e new now
    → IsRefusedChanging owner place call own was e new now
unfolding asked_fault
members_changing owner place call own mid new was late now e alike well calm (NotKnown p) =
    MembersRefused (here_loading (IsRefusedLink owner) (asked_fault owner place call) (members_fault owner place call) own mid new was late now e alike well calm p)
members_changing owner place call own mid new was late now e alike well calm (NotPut m known fault same) = Unchanged m (entered_members owner place (entered own) mid m alike known) fault same

-- of the whole call
pub changing_refused : {X : Type 0} (owner : ObjId) (place : RelNo) (call : LinkCall) (own mid new : SessionState) (was late now : Moment Store) (r : Result X Refusal) → AreAlikeButNotes (entered own) mid → mid.failed ≡ false → IsCalm (counters was) (counters late)
    → IfErr r (λ e. IsRefusedMembers owner place call mid late e new now) → IfErr r (λ e. IsRefusedChanging owner place call own was e new now)
changing_refused owner place call own mid new was late now r alike well calm p =
    IfErr-weaker r (λ e. IsRefusedMembers owner place call mid late e new now) (λ e. IsRefusedChanging owner place call own was e new now) (λ e by. members_changing owner place call own mid new was late now e alike well calm by) p

-- ---- one object by its key

found_getting : (found : Option ObjId) (own mid new : SessionState) (was late now : Moment Store) (e : Refusal) → AreAlikeButNotes (entered own) mid → mid.failed ≡ false → IsCalm (counters was) (counters late) → IsRefusedFound found mid late e new now → IsRefusedFor found own was e new now
found_getting (Some object) own mid new was late now e alike well calm p = here_reading (IsRefusedCells object) no_fault own mid new was late now e alike well calm p
found_getting None own mid new was late now e alike well calm p = here_loading IsRefusedRows no_fault no_fault own mid new was late now e alike well calm p

pub getting_refused : {X : Type 0} (class : ClassId) (key : List Value) (own mid new : SessionState) (was late now : Moment Store) (r : Result X Refusal) → AreAlikeButNotes (entered own) mid → mid.failed ≡ false → IsCalm (counters was) (counters late)
    → IfErr r (λ e. IsRefusedFinding class key mid late e new now) → IfErr r (λ e. IsRefusedGetting class key own was e new now)
getting_refused class key own mid new was late now r alike well calm p =
    let same : find_identity mid.graph (root_of mid.mapping class) key ≡ find_identity own.graph (root_of own.mapping class) key = ap (λ (s : SessionState). find_identity s.graph (root_of s.mapping class) key) alike in
    IfErr-weaker r (λ e. IsRefusedFinding class key mid late e new now) (λ e. IsRefusedGetting class key own was e new now)
    (λ e by. found_getting (find_identity own.graph (root_of own.mapping class) key) own mid new was late now e alike well calm (subst (λ (f : Option ObjId). IsRefusedFound f mid late e new now) same by)) p

-- what was found, in the transaction
pub finding_by : {X : Type 0} (class : ClassId) (key : List Value) (found : Option ObjId) (own new : SessionState) (was now : Moment Store) (r : Result X Refusal) → found ≡ find_identity own.graph (root_of own.mapping class) key → IfErr r (λ e. IsRefusedFound found own was e new now)
    → IfErr r (λ e. IsRefusedFinding class key own was e new now)
finding_by class key found own new was now r is p = subst (λ (f : Option ObjId). IfErr r (λ e. IsRefusedFound f own was e new now)) is p

entering_by : (found : Option ObjId) (own new : SessionState) (was now : Moment Store) (e : Refusal) → IsRefused (pending_fault own) None own e new → IsRefusedFor found own was e new now
entering_by (Some object) own new was now e p = Unread (refused_entering p)
entering_by None own new was now e p = Unflushed (Asked (refused_entering p))

-- the transaction was not entered
pub entering_refused : (class : ClassId) (key : List Value) (own new : SessionState) (was now : Moment Store) (e : Refusal) → IsRefused (pending_fault own) None own e new → IsRefusedGetting class key own was e new now
entering_refused class key own new was now e p = entering_by (find_identity own.graph (root_of own.mapping class) key) own new was now e p

-- ---- behind a flush in the transaction

pub flushed_refused : {X : Type 0} (Then : SessionState → Moment Store → Refusal → SessionState → Moment Store → Type 0) (before inside : Option Refusal) (again : SessionState → Option Refusal) (own mid new : SessionState) (was late now : Moment Store) (r : Result X Refusal) → IsFlushed (entered own) mid
    → IsCalm (counters was) (counters late) → IfErr r (λ e. Then mid late e new now) → IfErr r (λ e. IsRefusedLoading before inside again Then own was e new now)
flushed_refused Then before inside again own mid new was late now r flushed calm p =
    IfErr-weaker r (λ e. Then mid late e new now) (λ e. IsRefusedLoading before inside again Then own was e new now) (λ e by. LoadRefused mid late flushed calm by) p

-- ---- an object that is read anew

-- only want of memory is in the way of its filling
fill_by : (shows : Mapped → Scene → Scene → Refusal → Type 0) (Then : SessionState → Moment Store → Refusal → SessionState → Moment Store → Type 0) (inside : Option Refusal) (own mid new : SessionState) (was late now : Moment Store) (e : Refusal)
    → IsRefusedLoad (λ mapped graph e. e ≡ Memory) shows mid late e new now → IsRefusedHere inside Then own was e new now
fill_by shows Then inside own mid new was late now e p = EarlyHere (ap ends_early (⊎_elim (λ (memory : e ≡ Memory). memory) (λ (memory : e ≡ Memory). memory) p.cause))

pub fill_refused : {X : Type 0} (shows : Mapped → Scene → Scene → Refusal → Type 0) (Then : SessionState → Moment Store → Refusal → SessionState → Moment Store → Type 0) (inside : Option Refusal) (own mid new : SessionState) (was late now : Moment Store) (r : Result X Refusal)
    → IfErr r (λ e. IsRefusedLoad (λ mapped graph e. e ≡ Memory) shows mid late e new now) → IfErr r (λ e. IsRefusedHere inside Then own was e new now)
fill_refused shows Then inside own mid new was late now r p =
    IfErr-weaker r (λ e. IsRefusedLoad (λ mapped graph e. e ≡ Memory) shows mid late e new now) (λ e. IsRefusedHere inside Then own was e new now) (λ e by. fill_by shows Then inside own mid new was late now e by) p
