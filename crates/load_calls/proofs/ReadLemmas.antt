-- A select that is noted and sent, as a run of the world that has the objects and the notes beside the keeper.
use Rattle.std.proofs.Common.{◌≡◌, ℕ, ◌≤◌, Bool, true, false, cond, List, [], ◌∷◌, ◌++◌, Result, Ok, Err, IfErr, IfOk, IsErrAnd, MatchBool, sym, ap, subst, ◌∙◌}
use Rattle.base_core.specs.declared.refusal.Refusal.{Refusal}
use Rattle.base_core.specs.declared.refusal.Refusal.TheVariants.{Memory}
use Rattle.base_core.specs.declared.value.Value.{Value}
use Rattle.schema_core.specs.Catalog.{Catalog}
use Rattle.expr_types.specs.declared.select.Select.{Select}
use Rattle.keeper_core.specs.declared.sent.Sent.TheVariants as sent
use Rattle.keeper_core.specs.Store.{Store}
use Rattle.keeper_core.specs.Programs.{ends_early}
use Rattle.keeper_core.specs.Moment.{Moment, Runs, parts}
use Rattle.keeper_core.specs.Beside.{IsNotedAs, Noted, moment_beside}
use Rattle.keeper_core.proofs.Lifting.{on_keeper_noted}
use Rattle.keeper_core.specs.declared.notes.Note.{Note}
use Rattle.keeper_core.specs.declared.notes.Note.TheVariants as note
use Rattle.keeper_core.specs.Calls.{query}
use Rattle.keeper_core.specs.Keeping.{IsQuery}
use Rattle.object_arena.specs.Graph.{Graph}
use Rattle.load_rows.specs.Loading.{loading}
use Rattle.load_calls.specs.Reading.{IsReady, IsReadyStill, StaysReady, read, with_statements}

abbrev Rows : Type 0
Rows = List (List Value)

-- ---- the note

query_noted : (schema : Catalog) (select : Select) (graph : Graph) (before after : List Note) (r : Result Rows Refusal) → after ≡ before ++ note.Sent (sent.Query select) ∷ []
    → IsNotedAs with_statements (λ (rows : Rows). rows) (query schema select) (loading graph before) r (loading graph after)
unfolding query
query_noted schema select graph before after (Ok rows) is = λ w answer. ap (loading graph) is
query_noted schema select graph before after (Err e) is = by (ends_early e)
  where
    by : (b : Bool) → MatchBool b (Unit {0}) ((w : Store) → (query schema select w).answer ≡ Err e → loading graph after ≡ with_statements (query schema select w).events (loading graph before))
    by true = tt
    by false = λ w answer. ap (loading graph) is

-- the select was noted and sent
pub read_done : {K : Type 0} (moment : K → Moment Store) (schema : Catalog) (select : Select) (graph : Graph) {before after : List Note} {old new : K} {r : Result Rows Refusal} → after ≡ before ++ note.Sent (sent.Query select) ∷ []
    → IsQuery moment schema select old r new → Runs (moment_beside moment) (λ (rows : Rows). rows) (read schema select) (loading graph before, old) r (loading graph after, new)
unfolding read
read_done moment schema select graph {before = before} {after = after} {r = r} is call =
    on_keeper_noted {note = with_statements} (Noted (query_noted schema select graph before after r is)) call.step

pub query_is : {K : Type 0} (moment : K → Moment Store) (other schema : Catalog) (select : Select) {old new : K} {r : Result Rows Refusal} → other ≡ schema → IsQuery moment other select old r new → IsQuery moment schema select old r new
query_is moment other schema select {old = old} {new = new} {r = r} is call = subst (λ (s : Catalog). IsQuery moment s select old r new) is call

-- ---- the keeper

ready_after : {K : Type 0} (moment : K → Moment Store) (schema : Catalog) (select : Select) (old new : K) (r : Result Rows Refusal) → IsReady (moment old) → IsQuery moment schema select old r new → (moment new).depth ≡ (moment old).depth
    → IsReadyStill (moment old) (moment new)
ready_after moment schema select old new r ready call depth = (
  record { attached = (parts call.step).keeps.attached ∙ ready.attached; inside = subst (λ (n : ℕ). 1 ≤ n) (sym depth) ready.inside },
  depth,
)

-- a ready keeper that was sent a select
pub stays_after : {K : Type 0} (moment : K → Moment Store) (schema : Catalog) (select : Select) (old new : K) (r : Result Rows Refusal) → IsReady (moment old) → IsQuery moment schema select old r new → StaysReady (moment old) r (moment new)
stays_after moment schema select old new (Ok rows) ready call = ready_after moment schema select old new (Ok rows) ready call call.depth
stays_after moment schema select old new (Err e) ready call =
    λ own. ready_after moment schema select old new (Err e) ready call (call.depth ∙ ap (λ (b : Bool). cond b 0 (moment old).depth) own)

-- it stays so, whatever is answered
pub ready_stays : {A : Type 0} (before moment : Moment Store) (r : Result A Refusal) → IsReadyStill before moment → StaysReady before r moment
ready_stays before moment (Ok x) ready = ready
ready_stays before moment (Err e) ready = λ own. ready

-- through two calls in a row
pub still_then : (before mid moment : Moment Store) → IsReadyStill before mid → IsReadyStill mid moment → IsReadyStill before moment
still_then before mid moment one other = (other.0, other.1 ∙ one.1)

pub stays_then : (before mid moment : Moment Store) (e : Refusal) → IsReadyStill before mid → (ends_early e ≡ false → IsReadyStill mid moment) → ends_early e ≡ false → IsReadyStill before moment
stays_then before mid moment e one other own = still_then before mid moment one (other own)

-- the same refusal, as the answer of the call around
pub passed_still : {A : Type 0} (before moment : Moment Store) (e : Refusal) (r : Result A Refusal) → IsErrAnd r (λ d. d ≡ e) → (ends_early e ≡ false → IsReadyStill before moment) → StaysReady before r moment
passed_still before moment e (Ok x) passed stays = absurd passed
passed_still before moment e (Err d) passed stays = λ own. stays (ap ends_early (sym passed) ∙ own)

-- ---- where memory ran out

never : {A : Type 0} (b : Bool) → b ≡ true → b ≡ false → A
never true h g = absurd cc
never false h g = absurd cc

pub passed_stays : {A : Type 0} (before moment : Moment Store) (r : Result A Refusal) → IsErrAnd r (λ d. d ≡ Memory) → StaysReady before r moment
passed_stays before moment (Ok x) passed = absurd passed
passed_stays before moment (Err e) passed = λ own. never (ends_early e) (ap ends_early passed) own

pub passed_memory : {A : Type 0} (P : Refusal → Type 0) (r : Result A Refusal) → IsErrAnd r (λ d. d ≡ Memory) → P Memory → IfErr r P
passed_memory P (Ok x) passed p = absurd passed
passed_memory P (Err d) passed p = subst P (sym passed) p

pub passed_refusal : {A : Type 0} (P : Refusal → Type 0) (e : Refusal) (r : Result A Refusal) → IsErrAnd r (λ d. d ≡ e) → P e → IfErr r P
passed_refusal P e (Ok x) passed p = absurd passed
passed_refusal P e (Err d) passed p = subst P (sym passed) p

-- ---- answers

-- what is told of an answer where a fact holds
pub told_of : {A E : Type 0} (Fact : Type 0) (P : A → Type 0) (r : Result A E) → (Fact → IfOk r P) → IfOk r (λ a. Fact → P a)
told_of Fact P (Ok a) told = told
told_of Fact P (Err e) told = tt
