-- What is left of a statement that the store was given.
use Rattle.std.proofs.Common.{◌≡◌, ℕ, ◌<◌, Bool, true, false, List, [], ◌∷◌, length, Err, MatchBool, refl, ap, ◌∙◌, arith}
use Rattle.base_core.specs.declared.refusal.Refusal.{Refusal}
use Rattle.base_core.specs.declared.refusal.Refusal.TheVariants as refusal
use Rattle.base_core.specs.declared.ids.TableId.{TableId}
use Rattle.schema_core.specs.Tables.{Tables}
use Rattle.keeper_core.specs.declared.sent.Sent.{Sent}
use Rattle.keeper_core.specs.Programs.{Run, ends_early}
use Rattle.keeper_core.specs.Store.{Store, outermost}
use Rattle.keeper_core.specs.declared.keeper.WriteRefusal.{WriteRefusal}
use Rattle.keeper_core.specs.declared.keeper.WriteRefusal.TheVariants as writes
use Rattle.keeper_core.specs.declared.keeper.QueryRefusal.{QueryRefusal}
use Rattle.keeper_core.specs.declared.keeper.QueryRefusal.TheVariants as queries
use Rattle.keeper_core.specs.Calls.{query_refusal, sends, write_refusal}
use Rattle.table_log.specs.Marks.{Marked, last_cut, place_added}
use Rattle.table_log.specs.Scopes.{scope_started, scope_undone}
use Rattle.table_log.proofs.Marking.{undone_started}
use Rattle.table_store.specs.Written.{Stores, given_up}
use Rattle.keeper_mem.specs.Kept.{Does, Kept, call_ended, marked_of, refused_by}

-- ---- scopes

outermost_inside : (scopes : List Tables) (a b : Tables) → 0 < length scopes → outermost a scopes ≡ outermost b scopes
outermost_inside [] a b some = absurd (omega (arith, some))
outermost_inside (s ∷ scopes) a b some = refl

-- inside a scope the tables at the transaction's start do not depend on the tables now
pub same_start : (old new : Store) → 0 < length old.scopes → new.scopes ≡ old.scopes → given_up new ≡ given_up old
same_start old new inside same =
    ap (λ tables. record { tables = tables; scopes = [] }) (ap (outermost new.tables) same ∙ outermost_inside old.scopes new.tables old.tables inside)

-- a scope that started is undone
pub start_undone : (old mid new : Marked) → mid.seen ≡ scope_started old.seen → mid.marks ≡ place_added old.marks → new.seen ≡ scope_undone mid.seen → new.marks ≡ last_cut mid.marks → new ≡ old
start_undone old mid new started added undone cut =
    let seen : new.seen ≡ old.seen = undone ∙ ap scope_undone started in
    let marks : new.marks ≡ old.marks = cut ∙ ap last_cut added ∙ undone_started old.marks in
    λ i. record { seen = seen i; marks = marks i }

-- ---- what a keeper that gives up is left with, and one that keeps the refusal

memory_write : (table : TableId) (r : WriteRefusal) → write_refusal table r ≡ refusal.Memory → r ≡ writes.Memory
memory_write table (writes.NoTable absent) is = cc
memory_write table writes.Missing is = cc
memory_write table writes.NotNull is = cc
memory_write table writes.KeysSpent is = cc
memory_write table writes.PrimaryKey is = cc
memory_write table writes.Unique is = cc
memory_write table writes.Foreign is = cc
memory_write table (writes.Range op a b) is = cc
memory_write table writes.Fault is = cc
memory_write table writes.Memory is = refl

memory_query : (r : QueryRefusal) → query_refusal r ≡ refusal.Memory → r ≡ queries.Memory
memory_query (queries.NoTable absent) is = cc
memory_query (queries.Range op a b) is = cc
memory_query queries.Fault is = cc
memory_query queries.Memory is = refl

-- the store with other tables and marks
abbrev with_marked : Kept → Marked → Kept
with_marked kept mid = record kept { store = mid.seen; marks = mid.marks }

does_refused : {A : Type 0} (m : Store → Run Store A) (statement : Sent) (count : A → ℕ) (e : Refusal) (old new : Kept) (mid : Marked) → (e ≡ refusal.Memory → ⊥)
    → Stores m statement count (marked_of old) (Err e) mid → new ≡ with_marked (refused_by old statement e) mid → Does m statement count old (Err e) new
does_refused {A = A} m statement count e old new mid other did is = by (ends_early e) did
  where
    by : (b : Bool) → MatchBool b ((e ≡ refusal.Memory) × (given_up mid.seen ≡ given_up old.store)) ((m old.store ≡ sends {A = A} statement old.store (Err e)) × (mid ≡ marked_of old))
        → MatchBool b ((e ≡ refusal.Memory) × (new ≡ call_ended old)) ((m old.store ≡ sends {A = A} statement old.store (Err e)) × (new ≡ refused_by old statement e))
    by true q = absurd (other q.0)
    by false q = (q.0, is ∙ ap (with_marked (refused_by old statement e)) q.1)

pub does_refused_write : {A : Type 0} (m : Store → Run Store A) (statement : Sent) (count : A → ℕ) (table : TableId) (r : WriteRefusal) (old new : Kept) (mid : Marked) → (r ≡ writes.Memory → ⊥)
    → Stores m statement count (marked_of old) (Err (write_refusal table r)) mid → new ≡ with_marked (refused_by old statement (write_refusal table r)) mid → Does m statement count old (Err (write_refusal table r)) new
does_refused_write m statement count table r old new mid other did is = does_refused m statement count (write_refusal table r) old new mid (λ e. other (memory_write table r e)) did is

pub does_refused_query : {A : Type 0} (m : Store → Run Store A) (statement : Sent) (count : A → ℕ) (r : QueryRefusal) (old new : Kept) (mid : Marked) → (r ≡ queries.Memory → ⊥)
    → Stores m statement count (marked_of old) (Err (query_refusal r)) mid → new ≡ with_marked (refused_by old statement (query_refusal r)) mid → Does m statement count old (Err (query_refusal r)) new
does_refused_query m statement count r old new mid other did is = does_refused m statement count (query_refusal r) old new mid (λ e. other (memory_query r e)) did is
