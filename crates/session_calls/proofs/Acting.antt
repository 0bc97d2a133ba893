-- Each call of the session, put together of its parts.
use Rattle.std.proofs.Common.{◌≡◌, cond, ℕ, ◌+◌, ◌-◌, ◌<◌, ◌≤◌, ◌≢◌, Bool, true, false, ◌&&◌, ◌==◌, not, List, [], ◌∷◌, length, Option, None, Some, Result, Ok, Err, OnOk, refl, sym, ap, ◌∙◌, subst, arith}
use Rattle.std.proofs.lemmas.Bool.Decides.{nat_tests}
use Rattle.base_core.specs.declared.ids.AttrNo.{AttrNo}
use Rattle.base_core.specs.declared.ids.ClassId.{ClassId}
use Rattle.base_core.specs.declared.ids.ObjId.{ObjId}
use Rattle.base_core.specs.declared.refusal.Refusal.{Refusal}
use Rattle.base_core.specs.declared.refusal.Refusal.TheVariants.{PendingRollbackError, ResourceClosedError}
use Rattle.base_core.specs.declared.value.Value.{Value}
use Rattle.class_mapping.specs.Mapped.{IsAttribute, Mapped, attribute_of}
use Rattle.keeper_core.specs.Calls as call
use Rattle.object_arena.specs.Every.{classes_of}
use Rattle.object_arena.specs.Graph.{IsObject, object_at, value_fault}
use Rattle.keeper_core.specs.Alone.{IsOwn}
use Rattle.keeper_core.specs.Store.{Store}
use Rattle.keeper_core.specs.Programs.{◌>>=◌, give}
use Rattle.keeper_core.specs.Moment.{Moment}
use Rattle.keeper_core.specs.Beside.{by_own, changes, on_own}
use Rattle.savepoints.specs.declared.scope.Scope.{Scope}
use Rattle.savepoints.specs.Scopes.{begun_at}
use Rattle.schema_core.specs.Refusals.{kind_fault}
use Rattle.schema_core.specs.Tables.{kind_of_value}
use Rattle.session_parts.specs.Depths.{has_scope}
use Rattle.session_scopes.specs.Changes.{value_put}
use Rattle.session_scopes.specs.Handles.{place_of_handle}
use Rattle.session_scopes.specs.Scoping.{session_begun, session_closed, session_restored, session_rolled_back}
use Rattle.session_scopes.specs.SessionState.{AreAlikeButNotes, GoesOn, IsInStep, SameObjects, SessionState, depth_in, in_transaction}
use Rattle.session_calls.specs.Calling.{IsNotedCall, IsSessionCall}
use Rattle.session_calls.specs.Parts.{fault_if, go_back, roll_back_scope}
use Rattle.session_calls.specs.Steps.{begin_unless, close, enter, go_back_if, pending_fault, roll_back_if, roll_back_place, rollback, rollback_handle, set_cell}
use Rattle.session_calls.proofs.Joining.{change_call, chosen_call, err_call, fails, noted_err, noted_then, passes, refused_call, still_call, then_call}

-- ---- the transaction begins

-- the one scope is the transaction's
pub begun_long : (own mid now : SessionState) → AreAlikeButNotes own mid → own.frames.scopes ≡ [] → now ≡ session_begun mid → length now.frames.scopes ≡ 1
begun_long own mid now alike outside is =
    let scopes : mid.frames.scopes ≡ [] = ap (λ (s : SessionState). s.frames.scopes) alike ∙ outside in
    ap (λ (s : SessionState). length s.frames.scopes) is ∙ ap (λ xs. length (begun_at mid.graph ∷ xs)) scopes

-- a call that is entered
pub enters : {K : Type 0} (moment : K → Moment Store) {own now : SessionState} {old new : K} {r : Result (Unit {0}) Refusal} → own.failed ≡ false → IsInStep own (moment old)
    → IsSessionCall moment (λ u. u) (begin_unless (in_transaction own)) (own, old) r (now, new) → IsSessionCall moment (λ u. u) enter (own, old) r (now, new)
unfolding enter
enters moment well in_step p =
    then_call (λ u. by_own (λ session. begin_unless (in_transaction session))) (passes moment pending_fault (ap (λ (b : Bool). fault_if b PendingRollbackError) well) in_step)
    (chosen_call moment (λ session. begin_unless (in_transaction session)) p)

-- the transaction was in progress
pub stays_in : {K : Type 0} (moment : K → Moment Store) {own : SessionState} {keeper : K} → own.failed ≡ false → in_transaction own ≡ true → IsInStep own (moment keeper) → IsSessionCall moment (λ u. u) enter (own, keeper) (Ok tt) (own, keeper)
stays_in moment {own = own} {keeper = keeper} well inside in_step =
    enters moment well in_step (subst (λ (b : Bool). IsSessionCall moment (λ u. u) (begin_unless b) (own, keeper) (Ok tt) (own, keeper)) (sym inside) (still_call moment refl in_step))

-- the transaction begins
pub comes_in : {K : Type 0} (moment : K → Moment Store) {own now : SessionState} {old new : K} {r : Result (Unit {0}) Refusal} → own.failed ≡ false → in_transaction own ≡ false → IsInStep own (moment old)
    → IsSessionCall moment (λ u. u) (begin_unless false) (own, old) r (now, new) → IsSessionCall moment (λ u. u) enter (own, old) r (now, new)
comes_in moment {own = own} {now = now} {old = old} {new = new} {r = r} well outside in_step p =
    enters moment well in_step (subst (λ (b : Bool). IsSessionCall moment (λ u. u) (begin_unless b) (own, old) r (now, new)) (sym outside) p)

-- a rollback is awaited
pub waits : {K : Type 0} (moment : K → Moment Store) {own : SessionState} {keeper : K} → own.failed ≡ true → IsInStep own (moment keeper) → IsSessionCall moment (λ (u : Unit {0}). u) enter (own, keeper) (Err PendingRollbackError) (own, keeper)
unfolding enter
waits moment failed in_step = err_call (λ u. by_own (λ session. begin_unless (in_transaction session))) (fails moment pending_fault {v = λ (u : Unit {0}). u} (ap (λ (b : Bool). fault_if b PendingRollbackError) failed) (refl, refl) in_step)

-- ---- a cell gets a value

-- a value of another kind
pub sets_none : {K : Type 0} (moment : K → Moment Store) {own : SessionState} {keeper : K} {e : Refusal} (object : ObjId) (attr : AttrNo) (value : Value) → value_fault own.mapping (object_at own.graph object) attr value ≡ Some e → IsOwn e → IsInStep own (moment keeper)
    → IsSessionCall moment (λ (u : Unit {0}). u) (set_cell object attr value) (own, keeper) (Err e) (own, keeper)
unfolding set_cell
sets_none moment object attr value is own in_step =
    err_call (λ u. enter >>= λ u. on_own (value_put object attr value)) (fails moment (λ session. value_fault session.mapping (object_at session.graph object) attr value) {v = λ (u : Unit {0}). u} is own in_step)

-- the call behind the check
pub sets : {K : Type 0} (moment : K → Moment Store) {own now : SessionState} {old new : K} {r : Result (Unit {0}) Refusal} (object : ObjId) (attr : AttrNo) (value : Value) → value_fault own.mapping (object_at own.graph object) attr value ≡ None → IsInStep own (moment old)
    → IsSessionCall moment (λ u. u) (enter >>= λ u. on_own (value_put object attr value)) (own, old) r (now, new) → IsSessionCall moment (λ u. u) (set_cell object attr value) (own, old) r (now, new)
unfolding set_cell
sets moment object attr value is in_step p =
    then_call (λ u. enter >>= λ u. on_own (value_put object attr value)) (passes moment (λ session. value_fault session.mapping (object_at session.graph object) attr value) is in_step) p

-- ---- scopes that go back

-- what was restored has the same objects
restored_same : (depth count : ℕ) (mid now : SessionState) → now ≡ session_rolled_back count (session_restored depth mid) → SameObjects mid now → SameObjects mid (session_restored depth mid)
restored_same depth count mid now is same = record {
  mapping = refl;
  classes = sym (ap (λ (s : SessionState). classes_of s.graph) is) ∙ same.classes;
  drawn = omega arith;
}

-- the scope was rolled back, with so many savepoints
pub goes_back : {K : Type 0} (moment : K → Moment Store) (depth count left : ℕ) {own mid now : SessionState} {old new : K} → IsNotedCall moment (roll_back_scope depth) left (own, old) (Ok tt) (mid, new) → now ≡ session_rolled_back count (session_restored depth mid)
    → SameObjects mid now → length now.frames.scopes ≡ left → IsSessionCall moment (λ (u : Unit {0}). u) (go_back depth >>= λ u. changes (session_rolled_back count)) (own, old) (Ok tt) (now, new)
goes_back moment depth count left {own = own} {mid = mid} {now = now} {new = new} p is same long =
    let then : SessionState = session_restored depth mid in
    let long_then : length then.frames.scopes ≡ left = sym (ap (λ (s : SessionState). length s.frames.scopes) is) ∙ long in
    then_call (λ u. changes (session_rolled_back count))
    (noted_then moment (session_restored depth) left {now = then} {r = Ok tt} p refl tt (restored_same depth count mid now is same) long_then)
    (change_call moment (session_rolled_back count) {own = then} {r = Ok tt} is tt
    (record { mapping = ap (λ (s : SessionState). s.mapping) is; classes = ap (λ (s : SessionState). classes_of s.graph) is; drawn = same.drawn })
    (p.scopes.0, p.scopes.1 ∙ sym long))

-- the store ended it early
pub goes_not : {Y K : Type 0} (moment : K → Moment Store) (depth count left : ℕ) {v : Y → Unit {0}} {own mid : SessionState} {old new : K} {e : Refusal} → IsNotedCall moment (roll_back_scope depth) left (own, old) (Err e) (mid, new)
    → IsSessionCall moment v (go_back depth >>= λ u. changes (session_rolled_back count)) (own, old) (Err e) (mid, new)
goes_not moment depth count left {own = own} {mid = mid} {new = new} p =
    err_call {v = λ (u : Unit {0}). u} (λ u. changes (session_rolled_back count)) (noted_err moment (λ u. changes (session_restored depth)) left p)

-- no rollback is awaited any more
pub recovers : {K : Type 0} (moment : K → Moment Store) (count : ℕ) {own now : SessionState} {keeper : K} → now ≡ session_rolled_back count own → SameObjects own now → IsInStep own (moment keeper)
    → IsSessionCall moment (λ (u : Unit {0}). u) (give (tt {0}) >>= λ u. changes (session_rolled_back count)) (own, keeper) (Ok tt) (now, keeper)
recovers moment count {own = own} {now = now} {keeper = keeper} is same in_step =
    then_call (λ u. changes (session_rolled_back count)) (still_call moment {v = λ (u : Unit {0}). u} refl in_step)
    (change_call moment (session_rolled_back count) {own = own} {r = Ok tt} is tt same (in_step.0, in_step.1 ∙ sym (ap (λ (s : SessionState). length s.frames.scopes) is)))

-- the transaction is rolled back by what there is to roll back
pub rolls_back : {X K : Type 0} (moment : K → Moment Store) {v : X → Unit {0}} {own now : SessionState} {old new : K} {r : Result X Refusal} (begun : Bool) (count : ℕ) → in_transaction own ≡ begun → count ≡ length own.drawn.handles
    → IsSessionCall moment v (go_back_if begun 1 >>= λ u. changes (session_rolled_back count)) (own, old) r (now, new) → IsSessionCall moment v rollback (own, old) r (now, new)
unfolding rollback
rolls_back moment {v = v} {own = own} {now = now} {old = old} {new = new} {r = r} begun count inside counts p =
    chosen_call moment (λ session. go_back_if (in_transaction session) 1 >>= λ u. changes (session_rolled_back (length session.drawn.handles)))
    (subst (λ (b : Bool). IsSessionCall moment v (go_back_if b 1 >>= λ u. changes (session_rolled_back (length own.drawn.handles))) (own, old) r (now, new)) (sym inside)
    (subst (λ (n : ℕ). IsSessionCall moment v (go_back_if begun 1 >>= λ u. changes (session_rolled_back n)) (own, old) r (now, new)) counts p))

-- a savepoint is rolled back by its place
pub rolls_back_to : {X K : Type 0} (moment : K → Moment Store) {v : X → Unit {0}} {own now : SessionState} {old new : K} {r : Result X Refusal} (handle : ℕ) (found : Option ℕ) → found ≡ place_of_handle own.drawn handle
    → IsSessionCall moment v (roll_back_place own.failed (length own.drawn.handles) found) (own, old) r (now, new) → IsSessionCall moment v (rollback_handle handle) (own, old) r (now, new)
unfolding rollback_handle
rolls_back_to moment {v = v} {own = own} {now = now} {old = old} {new = new} {r = r} handle found is p =
    chosen_call moment (λ session. roll_back_place session.failed (length session.drawn.handles) (place_of_handle session.drawn handle))
    (subst (λ (f : Option ℕ). IsSessionCall moment v (roll_back_place own.failed (length own.drawn.handles) f) (own, old) r (now, new)) is p)

-- of a handle whose savepoint has ended
pub has_ended : {K : Type 0} (moment : K → Moment Store) {own : SessionState} {keeper : K} (handle : ℕ) → None ≡ place_of_handle own.drawn handle → IsInStep own (moment keeper)
    → IsSessionCall moment (λ (u : Unit {0}). u) (rollback_handle handle) (own, keeper) (Err ResourceClosedError) (own, keeper)
has_ended moment handle is in_step = rolls_back_to moment handle None is (refused_call moment (refl, refl) in_step)

-- of one in progress, where the innermost of a failed flush was rolled back already
pub place_rolled : {X K : Type 0} (moment : K → Moment Store) {v : X → Unit {0}} {own now : SessionState} {old new : K} {r : Result X Refusal} (place depth : ℕ) (is_gone : Bool)
    → (own.failed && (place == 0)) ≡ is_gone → length own.drawn.handles - place + 1 ≡ depth
    → IsSessionCall moment v (go_back_if (not is_gone) depth >>= λ u. changes (session_rolled_back (place + 1))) (own, old) r (now, new)
    → IsSessionCall moment v (roll_back_place own.failed (length own.drawn.handles) (Some place)) (own, old) r (now, new)
place_rolled moment {v = v} {own = own} {now = now} {old = old} {new = new} {r = r} place depth is_gone gone deep p =
    subst (λ (b : Bool). IsSessionCall moment v (go_back_if (not b) (length own.drawn.handles - place + 1) >>= λ u. changes (session_rolled_back (place + 1))) (own, old) r (now, new)) (sym gone)
    (subst (λ (n : ℕ). IsSessionCall moment v (go_back_if (not is_gone) n >>= λ u. changes (session_rolled_back (place + 1))) (own, old) r (now, new)) (sym deep) p)

-- ---- the session is closed

pub closes_by : {X K : Type 0} (moment : K → Moment Store) {v : X → Unit {0}} {own now : SessionState} {old new : K} {r : Result X Refusal} (begun : Bool) → in_transaction own ≡ begun
    → IsSessionCall moment v (roll_back_if begun >>= λ u. changes session_closed) (own, old) r (now, new) → IsSessionCall moment v close (own, old) r (now, new)
unfolding close
closes_by moment {v = v} {own = own} {now = now} {old = old} {new = new} {r = r} begun inside p =
    chosen_call moment (λ session. roll_back_if (in_transaction session) >>= λ u. changes session_closed)
    (subst (λ (b : Bool). IsSessionCall moment v (roll_back_if b >>= λ u. changes session_closed) (own, old) r (now, new)) (sym inside) p)

-- in the transaction
pub closes : {K : Type 0} (moment : K → Moment Store) {own mid now : SessionState} {old new : K} → IsNotedCall moment call.rollback 0 (own, old) (Ok tt) (mid, new)
    → now ≡ session_closed mid → SameObjects mid now → IsSessionCall moment (λ (u : Unit {0}). u) (roll_back_if true >>= λ u. changes session_closed) (own, old) (Ok tt) (now, new)
closes moment p is same = noted_then moment session_closed 0 {r = Ok tt} p is tt same (ap (λ (s : SessionState). length s.frames.scopes) is)

-- the store ended it early
pub closes_not : {Y K : Type 0} (moment : K → Moment Store) {v : Y → Unit {0}} {own mid : SessionState} {old new : K} {e : Refusal} → IsNotedCall moment call.rollback 0 (own, old) (Err e) (mid, new) → IsSessionCall moment v (roll_back_if true >>= λ u. changes session_closed) (own, old) (Err e) (mid, new)
closes_not moment p = noted_err moment (λ u. changes session_closed) 0 p

-- outside
pub closes_outside : {K : Type 0} (moment : K → Moment Store) {own now : SessionState} {keeper : K} → in_transaction own ≡ false → own.frames.scopes ≡ [] → IsInStep own (moment keeper)
    → now ≡ session_closed own → SameObjects own now → IsSessionCall moment (λ (u : Unit {0}). u) close (own, keeper) (Ok tt) (now, keeper)
closes_outside moment {own = own} inside outside in_step is same =
    closes_by moment false inside
    (then_call (λ u. changes session_closed) (still_call moment {v = λ (u : Unit {0}). u} refl in_step)
    (change_call moment session_closed {own = own} {r = Ok tt} is tt same (in_step.0, in_step.1 ∙ ap length outside ∙ sym (ap (λ (s : SessionState). length s.frames.scopes) is))))

-- ---- whether a transaction is in progress

pub no_scope_open : (scopes : List Scope) → has_scope scopes ≡ false → scopes ≡ []
no_scope_open [] is = refl
no_scope_open (scope ∷ scopes) is = absurd cc

pub some_scope_open : (scopes : List Scope) → has_scope scopes ≡ true → 1 ≤ length scopes
some_scope_open [] is = absurd cc
some_scope_open (scope ∷ scopes) is = omega arith

-- ---- how deep a savepoint is

-- a session and a later one that differ in what was noted have the same scopes and handles
pub alike_scopes : (own mid : SessionState) → AreAlikeButNotes own mid → length mid.frames.scopes ≡ length own.frames.scopes
alike_scopes own mid alike = ap (λ (s : SessionState). length s.frames.scopes) alike

pub alike_handles : (own mid : SessionState) → AreAlikeButNotes own mid → length mid.drawn.handles ≡ length own.drawn.handles
alike_handles own mid alike = ap (λ (s : SessionState). length s.drawn.handles) alike

not_innermost : (place : ℕ) → (place == 0) ≡ false → 1 ≤ place
not_innermost place kept = grind (arith, nat_tests)

-- the scope of a savepoint that was not rolled back is in progress
pub deep_enough : (failed : Bool) (scopes : List Scope) (count place : ℕ) → count ≡ depth_in failed scopes - 1 → place < count → (failed && (place == 0)) ≡ false → count - place + 1 ≤ length scopes
deep_enough true scopes count place counts less kept = let inner : 1 ≤ place = not_innermost place kept in omega arith
deep_enough false scopes count place counts less kept = omega arith

innermost : (place : ℕ) → (place == 0) ≡ true → place ≡ 0
innermost place gone = grind (arith, nat_tests)

-- the innermost savepoint was rolled back already
pub gone_fits : (failed : Bool) (scopes : List Scope) (count place : ℕ) → count ≡ depth_in failed scopes - 1 → (failed && (place == 0)) ≡ true → count - (place + 1) ≡ length scopes - 1
gone_fits true scopes count place counts gone = let first : place ≡ 0 = innermost place gone in omega arith
gone_fits false scopes count place counts gone = absurd cc

-- ---- an object, once the call is entered

pub attr_still : (old new : SessionState) (object : ObjId) (attr : AttrNo) → GoesOn old new → IsObject old.graph object → IsAttribute old.mapping (object_at old.graph object).class attr → IsAttribute new.mapping (object_at new.graph object).class attr
attr_still old new object attr on made is =
    subst (λ (m : Mapped). IsAttribute m (object_at new.graph object).class attr) (sym on.mapping)
    (subst (λ (k : ClassId). IsAttribute old.mapping k attr) (sym (on.there object made).1) is)

pub fits_still : (old new : SessionState) (object : ObjId) (attr : AttrNo) (value : Value) → GoesOn old new → IsObject old.graph object → value_fault old.mapping (object_at old.graph object) attr value ≡ None → value_fault new.mapping (object_at new.graph object) attr value ≡ None
fits_still old new object attr value on made is =
    ap (λ (m : Mapped). kind_fault (attribute_of m (object_at new.graph object).class attr).kind (kind_of_value value)) on.mapping
    ∙ ap (λ (k : ClassId). kind_fault (attribute_of old.mapping k attr).kind (kind_of_value value)) (on.there object made).1 ∙ is

-- ---- what is known of the session then

pub none_left : (scopes : List Scope) (r : Result (Unit {0}) Refusal) → OnOk r (length scopes ≡ 0) → OnOk r (scopes ≡ [])
none_left [] (Ok u) long = refl
none_left (scope ∷ scopes) (Ok u) long = absurd (omega (arith, long))
none_left scopes (Err e) long = tt

-- ---- the scope at a depth is rolled back in the store

not_one : (depth : ℕ) → depth ≢ 1 → (depth == 1) ≡ false
not_one depth other = grind (arith, nat_tests)

-- the transaction
pub outer_rolled : {K : Type 0} (moment : K → Moment Store) (depth : ℕ) {old new : SessionState × K} {r : Result (Unit {0}) Refusal} → depth ≡ 1 → IsNotedCall moment call.rollback 0 old r new → IsNotedCall moment (roll_back_scope depth) (depth - 1) old r new
outer_rolled moment depth {old = old} {new = new} {r = r} is p = subst (λ (n : ℕ). IsNotedCall moment (roll_back_scope n) (n - 1) old r new) (sym is) p

-- a savepoint
pub inner_rolled : {K : Type 0} (moment : K → Moment Store) (depth number : ℕ) {old new : SessionState × K} {r : Result (Unit {0}) Refusal} → depth ≢ 1 → number ≡ depth - 1 → IsNotedCall moment (call.rollback_to number) number old r new → IsNotedCall moment (roll_back_scope depth) (depth - 1) old r new
inner_rolled moment depth number {old = old} {new = new} {r = r} other is p =
    subst (λ (b : Bool). IsNotedCall moment (cond b call.rollback (call.rollback_to (depth - 1))) (depth - 1) old r new) (sym (not_one depth other))
    (subst (λ (n : ℕ). IsNotedCall moment (call.rollback_to n) n old r new) is p)
