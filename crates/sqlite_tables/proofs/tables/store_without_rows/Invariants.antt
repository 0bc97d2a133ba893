use Rattle.std.proofs.Common.{◌≡◌, length}
use Rattle.sqlite_tables.proofs.tables.store_without_rows.Given as goal

abbrev pub invariant-loop-number : goal.invariant-loop-number
invariant-loop-number g l = length l.store.seen.scopes ≡ 0
