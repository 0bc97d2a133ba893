-- What a keeper in memory makes of itself is what each call ensures.
use Rattle.std.proofs.Common.{◌≡◌, ℕ, zero, suc, ◌+◌, ◌-◌, ◌^◌, ◌<◌, ◌≤◌, Bool, true, false, List, [], ◌∷◌, map, length, drop, slice_index_or, Option, None, Some, Result, Ok, Err, IfErr, MatchBool, if◌then◌else◌, refl, sym, ap, ◌∙◌, subst, arith, length-drop}
use Rattle.std.specs.Option.{option_map}
use Rattle.base_core.specs.Counts.{Rose, one_more}
use Rattle.base_core.specs.declared.ids.TableId.{TableId}
use Rattle.base_core.specs.declared.refusal.Refusal.{Refusal}
use Rattle.base_core.specs.declared.refusal.Refusal.TheVariants.{Memory, KeeperFault}
use Rattle.base_core.specs.declared.value.Value.{Value}
use Rattle.schema_core.specs.Catalog.{Catalog}
use Rattle.schema_core.specs.Tables.{is_created, rows_in}
use Rattle.sql_semantics.specs.Created.{bare}
use Rattle.sql_semantics.specs.Shapes.{AreLegalRows, AreRows}
use Rattle.keeper_core.specs.declared.sent.Sent.{Sent}
use Rattle.keeper_core.specs.declared.sent.Sent.TheVariants as sent
use Rattle.keeper_core.specs.declared.target.Target.{Target}
use Rattle.keeper_core.specs.declared.target.Target.TheVariants as targets
use Rattle.keeper_core.specs.Programs.{Run, after_events, ends_early, is_fault, is_of_tables, quiet, give}
use Rattle.keeper_core.specs.Moment.{AsTold, IsCutOff, IsRun, Outcome, Ran, Refused, Runs, Stops, Told}
use Rattle.keeper_core.specs.Store.{Store, committed_of, with_empty_table, without_table}
use Rattle.keeper_core.proofs.Counts.{no_fault, own_is_no_fault}
use Rattle.keeper_core.specs.Calls as call
use Rattle.keeper_core.specs.Calls.{sends}
use Rattle.keeper_core.specs.Keeping as keeping
use Rattle.keeper_core.specs.Keeping.{HoldsLegalRows, HoldsRows, IsAttached, IsCall, IsLeft, IsStatement, IsToldAnew, IsToldFrom, IsUndone, new_store}
use Rattle.statement_log.specs.Logged.{start_of}
use Rattle.keeper_mem.specs.declared.keeper.Attachment.{Attachment}
use Rattle.keeper_mem.specs.declared.keeper.Attachment.TheVariants.{Fresh, Taken, Untaken}
use Rattle.table_log.specs.Marks.{Marks, no_marks, place_dropped}
use Rattle.keeper_mem.specs.Kept.{Does, IsMarked, IsNumbered, Kept, one_call_more, depth_by, call_ended, call_failed, is_failing, is_taken, moment_of, opening, refused_by, sent_by, target_of, taken_by, told_by, told_of, untaken_by}

-- ---- a keeper that took its target tells what it has

told_taken : (a : Attachment) (kept : Kept) → is_taken a ≡ true → told_of kept ≡ told_by a kept
told_taken Fresh kept is = cc
told_taken (Taken target) kept is = refl
told_taken (Untaken target) kept is = cc

depth_taken : (a : Attachment) (kept : Kept) → is_taken a ≡ true → depth_by a kept ≡ length kept.store.scopes
depth_taken Fresh kept is = cc
depth_taken (Taken target) kept is = refl
depth_taken (Untaken target) kept is = cc

depth_none : (a : Attachment) (kept : Kept) → kept.store.scopes ≡ [] → depth_by a kept ≡ 0
depth_none Fresh kept is = refl
depth_none (Taken target) kept is = ap length is
depth_none (Untaken target) kept is = refl

depth_same : (a : Attachment) (kept other : Kept) → other.store.scopes ≡ kept.store.scopes → depth_by a other ≡ depth_by a kept
depth_same Fresh kept other same = refl
depth_same (Taken target) kept other same = ap length same
depth_same (Untaken target) kept other same = refl

as_told : {A X : Type 0} (v : X → A) (m : Store → Run Store A) (old new : Kept) (r : Result X Refusal) → is_taken old.attachment ≡ true → is_taken new.attachment ≡ true
    → Outcome v (m old.store) (told_of old).log r (told_of new) → AsTold v m (moment_of old).told r (moment_of new).told
as_told v m old new r o n p =
    subst (λ (t : Told Store). Outcome v (m t.world) t.log r (told_by new.attachment new)) (told_taken old.attachment old o)
    (subst (λ (t : Told Store). Outcome v (m old.store) (told_of old).log r t) (told_taken new.attachment new n) p)

-- ---- counts

more : (n : ℕ) → n < 2 ^ 64 → n ≤ one_more n
more n small = omega arith

-- ---- what is left

same_log : (a : Attachment) (old new : Kept) → new.sent ≡ old.sent → committed_of new.store ≡ committed_of old.store → (told_by a new).log ≡ (told_by a old).log
same_log Fresh old new sent committed = refl
same_log (Taken target) old new sent committed = cc
same_log (Untaken target) old new sent committed = refl

failed_left : (old : Kept) → IsUndone (moment_of old) (moment_of (call_failed (one_call_more old)))
failed_left old = ((refl, refl), same_log old.attachment old (call_failed (one_call_more old)) refl refl)

ended_left : (old : Kept) → IsUndone (moment_of old) (moment_of (call_ended (one_call_more old)))
ended_left old = ((refl, refl), same_log old.attachment old (call_ended (one_call_more old)) refl refl)

refused_left : (statement : Sent) (e : Refusal) (old : Kept) → ends_early e ≡ false → IsLeft statement e (moment_of old) (moment_of (refused_by (one_call_more old) statement e))
refused_left statement e old own =
    let last : Option Refused = Some (record { statement = statement; refusal = e }) in
    let kept : Kept = refused_by (one_call_more old) statement e in
    subst (λ (b : Bool). MatchBool b (IsUndone (moment_of old) (moment_of kept)) (Rose old.refusals (one_more old.refusals) × (last ≡ last))) (sym own) (omega arith, refl)

-- ---- one call's program

-- a statement was sent, and answered
ran_ok : {A : Type 0} (m : Store → Run Store A) (statement : Sent) (after : Store) (marks : Marks) (x : A) (old : Kept) → is_taken old.attachment ≡ true
    → m old.store ≡ sends statement after (Ok x) → Runs moment_of (λ y. y) m old (Ok x) (sent_by (one_call_more old) statement after marks)
unfolding after_events
ran_ok {A = A} m statement after marks x old taken ran = Ran (record {
  told = as_told (λ (y : A). y) m old (sent_by (one_call_more old) statement after marks) (Ok x) taken taken
      (subst (λ run. IsRun run (told_of old).log (Ok x) (told_of (sent_by (one_call_more old) statement after marks))) (sym ran) (record { answer = refl; world = refl; log = refl }));
  keeps = record { faults = refl; refusals = omega arith; shown = tt; calm = (refl, refl); target = refl; attached = refl; tells = refl };
})

-- no statement was sent
ran_quiet : {A : Type 0} (m : Store → Run Store A) (x : A) (old : Kept) → is_taken old.attachment ≡ true
    → m old.store ≡ quiet (Ok x) old.store → Runs moment_of (λ y. y) m old (Ok x) (one_call_more old)
unfolding after_events
ran_quiet {A = A} m x old taken ran = Ran (record {
  told = as_told (λ (y : A). y) m old (one_call_more old) (Ok x) taken taken
      (subst (λ run. IsRun run (told_of old).log (Ok x) (told_of (one_call_more old))) (sym ran) (record { answer = refl; world = refl; log = refl }));
  keeps = record { faults = refl; refusals = omega arith; shown = tt; calm = (refl, refl); target = refl; attached = refl; tells = refl };
})

shown_last : (b : Bool) (statement : Sent) (e : Refusal) (n : ℕ)
    → MatchBool b (Rose n (one_more n) × (s : Sent) × (◌≡◌ {A = Option Refused} (Some (record { statement = statement; refusal = e })) (Some (record { statement = s; refusal = e })))) (Unit {0})
shown_last true statement e n = (omega arith, statement, refl)
shown_last false statement e n = tt

own_stop : (A : Type 0) (statement : Sent) (e : Refusal) (old : Kept) → ends_early e ≡ false
    → Stops {W = Store} {A = A} (sends statement old.store (Err e)) (told_of old).log e (told_of (refused_by (one_call_more old) statement e))
unfolding after_events
own_stop A statement e old own =
    let run : Run Store A = sends statement old.store (Err e) in
    let now : Told Store = told_of (refused_by (one_call_more old) statement e) in
    let whole : IsRun run (told_of old).log (Err e) now = record { answer = refl; world = refl; log = refl } in
    subst (λ b. MatchBool b (IsCutOff run (told_of old).log now) (IsRun run (told_of old).log (Err e) now)) (sym own) whole

-- a statement was sent, and refused
ran_refused : {A : Type 0} (m : Store → Run Store A) (statement : Sent) (e : Refusal) (old : Kept) → is_taken old.attachment ≡ true → old.refusals < 2 ^ 64
    → ends_early e ≡ false → m old.store ≡ sends statement old.store (Err e) → Runs moment_of (λ y. y) m old (Err e) (refused_by (one_call_more old) statement e)
unfolding after_events
ran_refused {A = A} m statement e old taken small own ran = Ran (record {
  told = as_told (λ (y : A). y) m old (refused_by (one_call_more old) statement e) (Err e) taken taken
      (subst (λ run. Stops run (told_of old).log e (told_of (refused_by (one_call_more old) statement e))) (sym ran) (own_stop A statement e old own));
  keeps = record {
    faults = no_fault e old.faults (own_is_no_fault e own);
    refusals = more old.refusals small;
    shown = shown_last (is_of_tables e) statement e old.refusals;
    calm = tt;
    target = refl;
    attached = refl;
    tells = refl;
  };
})

ran_failed : {A : Type 0} (m : Store → Run Store A) (old : Kept) → is_taken old.attachment ≡ true → old.faults < 2 ^ 64 → Runs moment_of (λ y. y) m old (Err KeeperFault) (call_failed (one_call_more old))
unfolding after_events
ran_failed {A = A} m old taken small = Ran (record {
  told = as_told (λ (y : A). y) m old (call_failed (one_call_more old)) (Err KeeperFault) taken taken (record { prefix = []; rest = (m old.store).events; events = refl; log = refl });
  keeps = record { faults = (more old.faults small, omega arith); refusals = omega arith; shown = tt; calm = tt; target = refl; attached = refl; tells = refl };
})

ran_ended : {A : Type 0} (m : Store → Run Store A) (old : Kept) → is_taken old.attachment ≡ true → Runs moment_of (λ y. y) m old (Err Memory) (call_ended (one_call_more old))
unfolding after_events
ran_ended {A = A} m old taken = Ran (record {
  told = as_told (λ (y : A). y) m old (call_ended (one_call_more old)) (Err Memory) taken taken (record { prefix = []; rest = (m old.store).events; events = refl; log = refl });
  keeps = record { faults = refl; refusals = omega arith; shown = tt; calm = tt; target = refl; attached = refl; tells = refl };
})

-- ---- calls that nothing refuses

-- the call's statement was sent
sent_call : {A : Type 0} (m : Store → Run Store A) (statement : Sent) (after : Store) (marks : Marks) (scopes : ℕ) (x : A) (old new : Kept) → is_taken old.attachment ≡ true
    → m old.store ≡ sends statement after (Ok x) → length after.scopes ≡ scopes → new ≡ sent_by (one_call_more old) statement after marks → IsCall moment_of m scopes old (Ok x) new
sent_call m statement after marks scopes x old new taken ran count is = subst (IsCall moment_of m scopes old (Ok x)) (sym is) (record {
  step = ran_ok m statement after marks x old taken ran;
  depth = depth_taken old.attachment (sent_by (one_call_more old) statement after marks) taken ∙ count;
  stops = tt;
  undone = tt;
})

-- the call sent nothing
quiet_call : {A : Type 0} (m : Store → Run Store A) (scopes : ℕ) (x : A) (old new : Kept) → is_taken old.attachment ≡ true
    → m old.store ≡ quiet (Ok x) old.store → depth_by old.attachment old ≡ scopes → new ≡ one_call_more old → IsCall moment_of m scopes old (Ok x) new
quiet_call m scopes x old new taken ran count is = subst (IsCall moment_of m scopes old (Ok x)) (sym is) (record {
  step = ran_quiet m x old taken ran;
  depth = depth_same old.attachment old (one_call_more old) refl ∙ count;
  stops = tt;
  undone = tt;
})

-- the call was ended by a fault
pub faulted : {A : Type 0} {m : Store → Run Store A} {scopes : ℕ} {old new : Kept} → is_taken old.attachment ≡ true → old.faults < 2 ^ 64
    → new ≡ call_failed (one_call_more old) → IsCall moment_of m scopes old (Err KeeperFault) new
faulted {m = m} {scopes = scopes} {old = old} taken small is = subst (IsCall moment_of m scopes old (Err KeeperFault)) (sym is) (record {
  step = ran_failed m old taken small;
  depth = depth_none old.attachment (call_failed (one_call_more old)) refl;
  stops = refl;
  undone = failed_left old;
})

-- the call was ended since memory ran out
pub ran_out : {A : Type 0} {m : Store → Run Store A} {scopes : ℕ} {old new : Kept} → is_taken old.attachment ≡ true
    → new ≡ call_ended (one_call_more old) → IsCall moment_of m scopes old (Err Memory) new
ran_out {m = m} {scopes = scopes} {old = old} taken is = subst (IsCall moment_of m scopes old (Err Memory)) (sym is) (record {
  step = ran_ended m old taken;
  depth = depth_none old.attachment (call_ended (one_call_more old)) refl;
  stops = refl;
  undone = ended_left old;
})

pub began : (marks : Marks) (old new : Kept) → is_taken old.attachment ≡ true → depth_by old.attachment old ≡ 0
    → new ≡ sent_by (one_call_more old) (start_of (length old.store.scopes)) (record { tables = old.store.tables; scopes = old.store.tables ∷ old.store.scopes }) marks → keeping.IsBegin moment_of old (Ok tt) new
unfolding call.begin
began marks old new taken outside is =
    let none : length old.store.scopes ≡ 0 = sym (depth_taken old.attachment old taken) ∙ outside in
    let after : Store = record { tables = old.store.tables; scopes = old.store.tables ∷ old.store.scopes } in
    sent_call call.begin sent.Begin after marks 1 tt old new taken refl (ap suc none) (is ∙ ap (λ n. sent_by (one_call_more old) (start_of n) after marks) none)

start_inside : (n : ℕ) → 1 ≤ n → start_of n ≡ sent.Savepoint n
start_inside zero some = absurd (omega (arith, some))
start_inside (suc n) some = refl

pub saved : (marks : Marks) (old new : Kept) → is_taken old.attachment ≡ true → 1 ≤ depth_by old.attachment old
    → new ≡ sent_by (one_call_more old) (start_of (length old.store.scopes)) (record { tables = old.store.tables; scopes = old.store.tables ∷ old.store.scopes }) marks → keeping.IsSavepoint moment_of old (Ok tt) new
unfolding call.savepoint
saved marks old new taken inside is =
    let some : 1 ≤ length old.store.scopes = subst (λ n. 1 ≤ n) (depth_taken old.attachment old taken) inside in
    let after : Store = record { tables = old.store.tables; scopes = old.store.tables ∷ old.store.scopes } in
    sent_call call.savepoint (sent.Savepoint (length old.store.scopes)) after marks (depth_by old.attachment old + 1) tt old new taken refl
    (omega (arith, depth_taken old.attachment old taken)) (is ∙ ap (λ s. sent_by (one_call_more old) s after marks) (start_inside (length old.store.scopes) some))

pub released : (marks : Marks) (old new : Kept) → is_taken old.attachment ≡ true → new ≡ sent_by (one_call_more old) (sent.Release (length old.store.scopes - 1)) (record { tables = old.store.tables; scopes = drop 1 old.store.scopes }) marks
    → keeping.IsRelease moment_of old (Ok tt) new
unfolding call.release
released marks old new taken is =
    sent_call call.release (sent.Release (length old.store.scopes - 1)) (record { tables = old.store.tables; scopes = drop 1 old.store.scopes }) marks (depth_by old.attachment old - 1) tt old new taken refl
    (omega (arith, length-drop 1 old.store.scopes, depth_taken old.attachment old taken)) is

went_back : (number : ℕ) (marks : Marks) (old new : Kept) → is_taken old.attachment ≡ true → number < depth_by old.attachment old
    → new ≡ sent_by (one_call_more old) (sent.RollbackTo number) (record { tables = slice_index_or old.store.scopes (length old.store.scopes - number - 1) old.store.tables; scopes = drop (length old.store.scopes - number) old.store.scopes }) marks
    → keeping.IsRollbackTo moment_of number old (Ok tt) new
unfolding call.rollback_to
went_back number marks old new taken inside is =
    sent_call (call.rollback_to number) (sent.RollbackTo number)
    (record { tables = slice_index_or old.store.scopes (length old.store.scopes - number - 1) old.store.tables; scopes = drop (length old.store.scopes - number) old.store.scopes }) marks number tt old new taken refl
    (omega (arith, inside, length-drop (length old.store.scopes - number) old.store.scopes, depth_taken old.attachment old taken)) is

pub went_back_from : (number : ℕ) (marks : Marks) (old mid new : Kept) → is_taken old.attachment ≡ true → number < depth_by old.attachment old → mid ≡ one_call_more old
    → new ≡ sent_by mid (sent.RollbackTo number) (record { tables = slice_index_or mid.store.scopes (length mid.store.scopes - number - 1) mid.store.tables; scopes = drop (length mid.store.scopes - number) mid.store.scopes }) marks
    → keeping.IsRollbackTo moment_of number old (Ok tt) new
went_back_from number marks old mid new taken inside same is =
    went_back number marks old new taken inside
    (subst (λ (k : Kept). new ≡ sent_by k (sent.RollbackTo number) (record { tables = slice_index_or k.store.scopes (length k.store.scopes - number - 1) k.store.tables; scopes = drop (length k.store.scopes - number) k.store.scopes }) marks) same is)

pub rolled_back : (marks : Marks) (old new : Kept) → is_taken old.attachment ≡ true → new ≡ sent_by (one_call_more old) sent.Rollback (record { tables = committed_of old.store; scopes = [] }) marks
    → keeping.IsRollback moment_of old (Ok tt) new
unfolding call.rollback
rolled_back marks old new taken is = sent_call call.rollback sent.Rollback (record { tables = committed_of old.store; scopes = [] }) marks 0 tt old new taken refl refl is

pub committed : (marks : Marks) (old new : Kept) → is_taken old.attachment ≡ true → new ≡ sent_by (one_call_more old) sent.Commit (record { tables = old.store.tables; scopes = [] }) marks
    → keeping.IsCommit moment_of old (Ok tt) new
unfolding call.commit
committed marks old new taken is = sent_call call.commit sent.Commit (record { tables = old.store.tables; scopes = [] }) marks 0 tt old new taken refl refl is

outside_none : (old : Kept) → is_taken old.attachment ≡ true → depth_by old.attachment old ≡ 0 → length old.store.scopes ≡ 0
outside_none old taken outside = sym (depth_taken old.attachment old taken) ∙ outside

pub made : (table : TableId) (marks : Marks) (old new : Kept) → is_taken old.attachment ≡ true → depth_by old.attachment old ≡ 0 → is_created old.store.tables table ≡ false
    → new ≡ sent_by (one_call_more old) (sent.Create table) (record { tables = with_empty_table old.store.tables table; scopes = old.store.scopes }) marks → keeping.IsCreate moment_of table old (Ok true) new
unfolding call.create
made table marks old new taken outside absent is =
    sent_call (call.create table) (sent.Create table) (record { tables = with_empty_table old.store.tables table; scopes = old.store.scopes }) marks 0 true old new taken
    (ap (λ b. if b then quiet (Ok false) old.store else sends (sent.Create table) (record { tables = with_empty_table old.store.tables table; scopes = old.store.scopes }) (Ok true)) absent) (outside_none old taken outside) is

pub not_made : (table : TableId) (old new : Kept) → is_taken old.attachment ≡ true → depth_by old.attachment old ≡ 0 → is_created old.store.tables table ≡ true → new ≡ one_call_more old
    → keeping.IsCreate moment_of table old (Ok false) new
unfolding call.create
not_made table old new taken outside there is =
    quiet_call (call.create table) 0 false old new taken
    (ap (λ b. if b then quiet (Ok false) old.store else sends (sent.Create table) (record { tables = with_empty_table old.store.tables table; scopes = old.store.scopes }) (Ok true)) there) outside is

pub removed : (table : TableId) (marks : Marks) (old new : Kept) → is_taken old.attachment ≡ true → depth_by old.attachment old ≡ 0 → is_created old.store.tables table ≡ true
    → new ≡ sent_by (one_call_more old) (sent.Drop table) (record { tables = without_table old.store.tables table; scopes = old.store.scopes }) marks → keeping.IsDrop moment_of table old (Ok true) new
unfolding call.drop_table
removed table marks old new taken outside there is =
    sent_call (call.drop_table table) (sent.Drop table) (record { tables = without_table old.store.tables table; scopes = old.store.scopes }) marks 0 true old new taken
    (ap (λ b. if b then sends (sent.Drop table) (record { tables = without_table old.store.tables table; scopes = old.store.scopes }) (Ok true) else quiet (Ok false) old.store) there) (outside_none old taken outside) is

pub not_removed : (table : TableId) (old new : Kept) → is_taken old.attachment ≡ true → depth_by old.attachment old ≡ 0 → is_created old.store.tables table ≡ false → new ≡ one_call_more old
    → keeping.IsDrop moment_of table old (Ok false) new
unfolding call.drop_table
not_removed table old new taken outside absent is =
    quiet_call (call.drop_table table) 0 false old new taken
    (ap (λ b. if b then sends (sent.Drop table) (record { tables = without_table old.store.tables table; scopes = old.store.scopes }) (Ok true) else quiet (Ok false) old.store) absent) outside is

pub scanned : (table : TableId) (rows : Option (List (List Value))) (old new : Kept) → is_taken old.attachment ≡ true
    → rows ≡ option_map (λ rows. map (λ entry. entry.1) rows) (rows_in old.store.tables table) → new ≡ one_call_more old → keeping.IsScan moment_of table old (Ok rows) new
unfolding call.scan give
scanned table rows old new taken found is = quiet_call (call.scan table) (depth_by old.attachment old) rows old new taken (ap (λ r. quiet (Ok r) old.store) (sym found)) refl is

-- ---- statements

statement_done : {A : Type 0} (m : Store → Run Store A) (statement : Sent) (count : A → ℕ) (May : Refusal → Type 0) (x : A) (old new : Kept) → is_taken old.attachment ≡ true
    → Does m statement count (one_call_more old) (Ok x) new → IsStatement moment_of m statement May old (Ok x) new
statement_done m statement count May x old new taken did = subst (IsStatement moment_of m statement May old (Ok x)) (sym did.2) (record {
  step = ran_ok m statement new.store new.marks x old taken did.0;
  depth = depth_same old.attachment old (sent_by (one_call_more old) statement new.store new.marks) did.1;
  refuses = tt;
  left = tt;
})

statement_refused : {A : Type 0} (m : Store → Run Store A) (statement : Sent) (May : Refusal → Type 0) (e : Refusal) (old new : Kept) → is_taken old.attachment ≡ true → old.refusals < 2 ^ 64
    → ends_early e ≡ false → May e → m old.store ≡ sends statement old.store (Err e) → new ≡ refused_by (one_call_more old) statement e → IsStatement moment_of m statement May old (Err e) new
statement_refused m statement May e old new taken small own may ran is = subst (IsStatement moment_of m statement May old (Err e)) (sym is) (record {
  step = ran_refused m statement e old taken small own ran;
  depth = depth_same old.attachment old (refused_by (one_call_more old) statement e) refl ∙ sym (ap (λ b. if b then 0 else depth_by old.attachment old) own);
  refuses = may;
  left = refused_left statement e old own;
})

statement_ended : {A : Type 0} (m : Store → Run Store A) (statement : Sent) (May : Refusal → Type 0) (old new : Kept) → is_taken old.attachment ≡ true
    → May Memory → new ≡ call_ended (one_call_more old) → IsStatement moment_of m statement May old (Err Memory) new
statement_ended m statement May old new taken may is = subst (IsStatement moment_of m statement May old (Err Memory)) (sym is) (record {
  step = ran_ended m old taken;
  depth = depth_none old.attachment (call_ended (one_call_more old)) refl;
  refuses = may;
  left = ended_left old;
})

-- the statement was not done
statement_not_done : {A : Type 0} (m : Store → Run Store A) (statement : Sent) (count : A → ℕ) (May : Refusal → Type 0) (e : Refusal) (old new : Kept) → is_taken old.attachment ≡ true → old.refusals < 2 ^ 64
    → May e → Does m statement count (one_call_more old) (Err e) new → IsStatement moment_of m statement May old (Err e) new
statement_not_done m statement count May e old new taken small may did = by (ends_early e) refl did
  where
    by : (b : Bool) → ends_early e ≡ b → MatchBool b ((e ≡ Memory) × (new ≡ call_ended (one_call_more old))) ((m old.store ≡ sends statement old.store (Err e)) × (new ≡ refused_by (one_call_more old) statement e))
        → IsStatement moment_of m statement May old (Err e) new
    by true early q = subst (λ (d : Refusal). IsStatement moment_of m statement May old (Err d) new) (sym q.0) (statement_ended m statement May old new taken (subst May q.0 may) q.1)
    by false own q = statement_refused m statement May e old new taken small own may q.0 q.1

-- a statement was done after the call was counted, or not
pub statement_ran : {A : Type 0} (m : Store → Run Store A) (statement : Sent) (count : A → ℕ) (May : Refusal → Type 0) (r : Result A Refusal) (old mid new : Kept) → is_taken old.attachment ≡ true → old.refusals < 2 ^ 64
    → mid ≡ one_call_more old → IfErr r May → Does m statement count mid r new → IsStatement moment_of m statement May old r new
statement_ran {A = A} m statement count May r old mid new taken small same may did = by r may (subst (λ (kept : Kept). Does m statement count kept r new) same did)
  where
    by : (r : Result A Refusal) → IfErr r May → Does m statement count (one_call_more old) r new → IsStatement moment_of m statement May old r new
    by (Ok x) may q = statement_done m statement count May x old new taken q
    by (Err e) may q = statement_not_done m statement count May e old new taken small may q

-- the statement was ended by a fault
pub statement_faulted : {A : Type 0} {m : Store → Run Store A} {statement : Sent} {May : Refusal → Type 0} {old new : Kept} → is_taken old.attachment ≡ true → old.faults < 2 ^ 64
    → May KeeperFault → new ≡ call_failed (one_call_more old) → IsStatement moment_of m statement May old (Err KeeperFault) new
statement_faulted {m = m} {statement = statement} {May = May} {old = old} taken small may is = subst (IsStatement moment_of m statement May old (Err KeeperFault)) (sym is) (record {
  step = ran_failed m old taken small;
  depth = depth_none old.attachment (call_failed (one_call_more old)) refl;
  refuses = may;
  left = failed_left old;
})

-- whatever was done, the call was counted, and it is no fault
pub statement_numbered : {A : Type 0} (m : Store → Run Store A) (statement : Sent) (count : A → ℕ) (r : Result A Refusal) (old mid new : Kept) → is_failing old ≡ false → mid ≡ one_call_more old → Does m statement count mid r new → IsNumbered old r new
statement_numbered {A = A} m statement count r old mid new failing same did = by r (subst (λ (kept : Kept). Does m statement count kept r new) same did)
  where
    by : (r : Result A Refusal) → Does m statement count (one_call_more old) r new → IsNumbered old r new
    by (Ok x) q = (sym failing, ap (λ (kept : Kept). kept.calls) q.2, ap (λ (kept : Kept). kept.failing) q.2)
    by (Err e) q = stop (ends_early e) refl q
      where
        stop : (b : Bool) → ends_early e ≡ b → MatchBool b ((e ≡ Memory) × (new ≡ call_ended (one_call_more old))) ((m old.store ≡ sends statement old.store (Err e)) × (new ≡ refused_by (one_call_more old) statement e))
            → IsNumbered {A = A} old (Err e) new
        stop true early p = (ap is_fault p.0 ∙ sym failing, ap (λ (kept : Kept). kept.calls) p.1, ap (λ (kept : Kept). kept.failing) p.1)
        stop false own p = (own_is_no_fault e own ∙ sym failing, ap (λ (kept : Kept). kept.calls) p.1, ap (λ (kept : Kept). kept.failing) p.1)

-- an accepted statement was noted, and a refused one was not
pub statement_marked : {A : Type 0} (m : Store → Run Store A) (statement : Sent) (counts : Kept → A → ℕ) (r : Result A Refusal) (old mid new : Kept) → is_taken old.attachment ≡ true → 1 ≤ depth_by old.attachment old
    → mid ≡ one_call_more old → counts (one_call_more old) ≡ counts old → Does m statement (counts mid) mid r new → IsMarked (counts old) old r new
statement_marked {A = A} m statement counts r old mid new taken inside same alike did =
    subst (λ (count : A → ℕ). IsMarked count old r new) alike (by (counts (one_call_more old)) r (subst (λ (kept : Kept). Does m statement (counts kept) kept r new) same did))
  where
    stop : (e : Refusal) (b : Bool) → MatchBool b ((e ≡ Memory) × (new ≡ call_ended (one_call_more old))) ((m old.store ≡ sends {A = A} statement old.store (Err e)) × (new ≡ refused_by (one_call_more old) statement e))
        → new.marks ≡ (if b then no_marks else old.marks)
    stop e true p = ap (λ (kept : Kept). kept.marks) p.1
    stop e false p = ap (λ (kept : Kept). kept.marks) p.1

    by : (count : A → ℕ) (r : Result A Refusal) → Does m statement count (one_call_more old) r new → IsMarked count old r new
    by count (Ok x) q = q.3.noted (subst (λ n. 1 ≤ n) (depth_taken old.attachment old taken) inside)
    by count (Err e) q = stop e (ends_early e) q

-- and one that was ended by a fault left no marks
pub fault_marked : {A : Type 0} (count : A → ℕ) (old new : Kept) → new ≡ call_failed (one_call_more old) → IsMarked {A = A} count old (Err KeeperFault) new
fault_marked count old new is = ap (λ (kept : Kept). kept.marks) is

pub release_marked : (old mid new : Kept) → is_taken old.attachment ≡ true → 2 ≤ depth_by old.attachment old → mid ≡ one_call_more old → (1 < length mid.store.scopes → new.marks ≡ place_dropped mid.marks) → new.marks ≡ place_dropped old.marks
release_marked old mid new taken inside same dropped =
    dropped (subst (λ n. 1 < n) (depth_taken old.attachment old taken ∙ sym (ap (λ (kept : Kept). length kept.store.scopes) same)) (omega (arith, inside))) ∙ ap (λ (kept : Kept). place_dropped kept.marks) same

pub held_rows : (schema : Catalog) (kept : Kept) → is_taken kept.attachment ≡ true → HoldsRows schema (moment_of kept).told → AreRows schema (bare kept.store.tables)
held_rows schema kept taken h = subst (λ (t : Told Store). AreRows schema (bare t.world.tables)) (sym (told_taken kept.attachment kept taken)) h

pub held_legal : (schema : Catalog) (kept : Kept) → is_taken kept.attachment ≡ true → HoldsLegalRows schema (moment_of kept).told → AreLegalRows schema (bare kept.store.tables)
held_legal schema kept taken h = subst (λ (t : Told Store). AreLegalRows schema (bare t.world.tables)) (sym (told_taken kept.attachment kept taken)) h

-- ---- a target is given

fresh : (a : Attachment) (kept : Kept) → target_of a ≡ None → told_by a kept ≡ new_store
fresh Fresh kept is = refl
fresh (Taken target) kept is = cc
fresh (Untaken target) kept is = refl

not_anew : (target : Target) (told : Told Store) (e : Refusal) → IsToldAnew target (Some told) (Err e) (Some told)
not_anew targets.Memory told e = refl
not_anew (targets.File name) told e = refl

pub attach_failed : (target : Target) (old new : Kept) → target_of old.attachment ≡ None → old.faults < 2 ^ 64 → new ≡ untaken_by (call_failed (one_call_more old)) target
    → IsAttached (moment_of old) target (Err KeeperFault) (moment_of new)
attach_failed target old new none small is = subst (λ n. IsAttached (moment_of old) target (Err KeeperFault) (moment_of n)) (sym is) (record {
  told = subst (λ t. IsToldAnew target (Some t) (Err KeeperFault) (Some new_store)) (sym (fresh old.attachment old none)) (not_anew target new_store KeeperFault);
  faults = (more old.faults small, omega arith);
  calm = (refl, refl);
  depth = refl;
  given = refl;
  attached = refl;
})

pub attach_taken : (target : Target) (old new : Kept) → target ≡ targets.Memory → new ≡ taken_by (one_call_more old) target → IsAttached (moment_of old) target (Ok tt) (moment_of new)
attach_taken target old new memory is =
    subst (λ t. IsAttached (moment_of old) t (Ok tt) (moment_of new)) (sym memory)
    (subst (λ n. IsAttached (moment_of old) targets.Memory (Ok tt) (moment_of n)) (sym (is ∙ ap (taken_by (one_call_more old)) memory)) (record {
      told = refl;
      faults = refl;
      calm = (refl, refl);
      depth = refl;
      given = refl;
      attached = refl;
    }))

-- a keeper that took its target tells that it has no tables
pub taken_empty : (target : Target) (old new : Kept) → target ≡ targets.Memory → new ≡ taken_by (one_call_more old) target → IsToldFrom (opening old target) (moment_of new).told
taken_empty target old new memory is =
    subst (λ t. IsToldFrom (opening old t) (moment_of new).told) (sym memory)
    (subst (λ n. IsToldFrom (Some []) (moment_of n).told) (sym is) refl)

pub ruleset attaching = (attach_failed, attach_taken, taken_empty)

pub depth_here : (kept : Kept) → is_taken kept.attachment ≡ true → depth_by kept.attachment kept ≡ length kept.store.scopes
depth_here kept taken = depth_taken kept.attachment kept taken

-- outside a transaction there is no scope
pub no_scopes : (old mid : Kept) → is_taken old.attachment ≡ true → depth_by old.attachment old ≡ 0 → mid ≡ one_call_more old → length mid.store.scopes ≡ 0
no_scopes old mid taken outside is = ap (λ (kept : Kept). length kept.store.scopes) is ∙ outside_none old taken outside

pub ruleset ends = (faulted, ran_out, depth_here)

pub ruleset beginning = (began, ends)

pub ruleset saving = (saved, ends)

pub ruleset releasing = (release_marked, released, ends)

pub ruleset going_back = (ends, length-drop)

pub ruleset rolling_back = (rolled_back, ends)

pub ruleset committing = (committed, ends)

pub ruleset creating = (no_scopes, made, not_made, ends)

pub ruleset dropping = (no_scopes, removed, not_removed, ends)

pub ruleset scanning = (scanned, ends)

pub ruleset stating = (fault_marked, statement_ran, statement_faulted, statement_numbered, depth_here, held_rows, held_legal)
