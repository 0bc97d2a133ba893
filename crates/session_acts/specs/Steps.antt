-- The session's calls that flush, each as a program of the store and of the session beside it: what is asked, the flush, and the act.
use Rattle.std.specs.Prelude.{◌≡◌, ℕ, false, List}
use Rattle.base_core.specs.declared.value.Value.{Value}
use Rattle.schema_core.specs.Catalog.{Catalog}
use Rattle.expr_types.specs.declared.select.Bulk.{Bulk}
use Rattle.expr_types.specs.declared.select.Select.{Select}
use Rattle.sql_semantics.specs.Plain.{IsPlainBulk}
use Rattle.keeper_core.specs.Programs.{Run, ◌>>=◌}
use Rattle.session_calls.specs.Parts.{World}
use Rattle.session_calls.specs.Steps.{enter}
use Rattle.session_acts.specs.Flush.{flush}
use Rattle.session_acts.specs.Savepoints.{begin_savepoint, check_handle, commit_whole, enter_nested, release_handle}
use Rattle.session_statements.specs.Steps as statements

-- ---- the flush

-- what is to be written is written, in the transaction
unfoldable pub flush_now : World → Run World (Unit {0})
flush_now = enter >>= λ u. flush

-- all is written, and the transaction is committed with its savepoints
unfoldable pub commit : World → Run World (Unit {0})
commit = flush_now >>= λ u. commit_whole

-- the rows of a select, once all is written
unfoldable pub rows : Select → World → Run World (List (List Value))
rows select = flush_now >>= λ u. statements.rows select

-- ---- calls that ask more before the flush

-- what is asked, then what is to be written is written, and then the act
abbrev pub flushing : {A : Type 0} → (World → Run World (Unit {0})) → (World → Run World A) → World → Run World A
flushing asked act = asked >>= λ u. (flush >>= λ u. act)

-- all is written, and a savepoint begins, whose handle is answered
unfoldable pub begin_nested : World → Run World ℕ
begin_nested = flushing enter_nested begin_savepoint

-- all is written, and the savepoint of a handle ends with those inside it
unfoldable pub commit_handle : ℕ → World → Run World (Unit {0})
commit_handle handle = flushing (check_handle handle) (release_handle handle)

-- the statement is plain, unless it writes a key
abbrev pub IsPlainButForKeys : Catalog → Bulk → Type 0
IsPlainButForKeys schema statement = statements.writes_key schema statement ≡ false → IsPlainBulk schema statement

-- all is written, and then the bulk statement is sent; the number of its rows is answered
unfoldable pub bulk : Bulk → World → Run World ℕ
bulk statement = flushing (statements.enter_bulk statement) (statements.bulk statement)
