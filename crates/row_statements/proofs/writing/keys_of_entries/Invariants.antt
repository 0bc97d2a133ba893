use Rattle.std.proofs.Common.{◌≡◌, take}
use Rattle.schema_core.specs.Apply.{keys_of_entries}
use Rattle.row_statements.proofs.writing.keys_of_entries.Given as goal

abbrev pub invariant-loop-entry : goal.invariant-loop-entry
invariant-loop-entry l = l.keys.items ≡ keys_of_entries (take l.entry-index l.entries)
