-- What a statement did to tables with scopes, in the words of a keeper.
use Rattle.std.specs.Prelude.{◌≡◌, ℕ, List, [], MatchBool, Option, Result, Ok, Err}
use Rattle.base_core.specs.declared.ids.ColumnNo.{ColumnNo}
use Rattle.base_core.specs.declared.ids.TableId.{TableId}
use Rattle.base_core.specs.declared.refusal.Refusal.{Refusal}
use Rattle.base_core.specs.declared.refusal.Refusal.TheVariants as refusals
use Rattle.base_core.specs.declared.value.Value.{Value}
use Rattle.schema_core.specs.declared.statement.Unwritten.{Unwritten}
use Rattle.schema_core.specs.declared.statement.Unwritten.TheVariants.{Violates, Memory}
use Rattle.schema_core.specs.Tables.{Rows, Tables}
use Rattle.expr_types.specs.declared.expr.Expr.{Expr}
use Rattle.sql_semantics.specs.Applied.{named_in}
use Rattle.sql_semantics.specs.Checked.{Checked, Refuses, ◌>>=◌}
use Rattle.sql_semantics.specs.Created.{bare}
use Rattle.sql_semantics.specs.Rows.{require_created}
use Rattle.sql_semantics.specs.Taken.{deleted_from, updated_from}
use Rattle.keeper_core.specs.declared.sent.Sent.{Sent}
use Rattle.keeper_core.specs.Programs.{Run, ends_early}
use Rattle.keeper_core.specs.Store.{Store, committed_of}
use Rattle.table_log.specs.Marks.{IsNoted, Marked}
use Rattle.keeper_core.specs.declared.keeper.WriteRefusal.{WriteRefusal}
use Rattle.keeper_core.specs.declared.keeper.WriteRefusal.TheVariants as writes
use Rattle.keeper_core.specs.Calls.{refusal_by, sends, write_refusal}

-- the tables at the start of the outermost scope, and no scope
abbrev pub given_up : Store → Store
given_up store = record { tables = committed_of store; scopes = [] }

-- What a store did with a statement: its program, in the same scopes, with so many changes noted, or nothing. Where memory ran out
-- only what it goes back to is as it was.
abbrev pub Stores : {A : Type 0} → (Store → Run Store A) → Sent → (A → ℕ) → Marked → Result A Refusal → Marked → Type 0
Stores m statement count old (Ok x) new = (m old.seen ≡ sends statement new.seen (Ok x)) × (new.seen.scopes ≡ old.seen.scopes) × IsNoted (count x) old new
Stores m statement count old (Err e) new =
    MatchBool (ends_early e) ((e ≡ refusals.Memory) × (given_up new.seen ≡ given_up old.seen)) ((m old.seen ≡ sends statement old.seen (Err e)) × (new ≡ old))

-- ---- refusals

-- what refuses an evaluation: a table that is not created, a result outside 64 bits, or memory that ran out
abbrev pub IsOfEvaluation : Refusal → Type 0
IsOfEvaluation (refusals.OperationalError absent) = Unit {0}
IsOfEvaluation (refusals.DataError op a b) = Unit {0}
IsOfEvaluation refusals.Memory = Unit {0}
IsOfEvaluation e = ⊥

-- why rows were not written
abbrev pub unwritten_refusal : Unwritten → WriteRefusal
unwritten_refusal (Violates violation) = refusal_by violation
unwritten_refusal Memory = writes.Memory

-- What a bulk statement on a table did to tables with scopes, beside what its definition tells: one that is refused, or finds no
-- memory, may leave any tables, in the same scopes.
abbrev pub WroteBulk : TableId → Checked (ℕ × Tables) → Store → Result ℕ WriteRefusal → Store → Type 0
WroteBulk table told old (Ok count) new = (told ≡ Ok (count, new.tables)) × (new.scopes ≡ old.scopes)
WroteBulk table told old (Err r) new = Refuses (write_refusal table r) told × (new.scopes ≡ old.scopes)

-- The same of one that noted each of its rows where it is done, and leaves everything as it was where it is refused, or finds no memory.
abbrev pub Leaves : TableId → Checked (ℕ × Tables) → Marked → Result ℕ WriteRefusal → Marked → Type 0
Leaves table told old (Ok count) new = (told ≡ Ok (count, new.seen.tables)) × (new.seen.scopes ≡ old.seen.scopes) × IsNoted count old new
Leaves table told old (Err r) new = Refuses (write_refusal table r) told × (new ≡ old)

-- ---- the rows of a bulk statement

-- the rows that an UPDATE writes, each under its key
abbrev pub rows_to_write : Tables → List (ColumnNo × Option Expr) → Option Expr → Rows → Checked Rows
rows_to_write tables cells filter rows = require_created (bare tables) (named_in cells filter) >>= λ _. updated_from (bare tables) cells filter [] rows

-- the keys of the rows that a DELETE takes out
abbrev pub keys_to_remove : Tables → Option Expr → Rows → Checked (List (List Value))
keys_to_remove tables filter rows = require_created (bare tables) (named_in [] filter) >>= λ _. deleted_from (bare tables) filter [] rows
