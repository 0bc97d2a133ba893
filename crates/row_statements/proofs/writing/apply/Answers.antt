-- The tables are those from before the indexes were made.
use Rattle.std.proofs.Common.{subst}
use Rattle.schema_core.specs.Apply.{apply}
use Rattle.table_log.specs.Marks.{Marked}
use Rattle.row_statements.specs.Held.{DidOrLeft, rows_changed}
use Rattle.row_statements.proofs.writing.apply.Goals as goal

pub returns : goal.returns
returns c = subst (λ (store : Marked). DidOrLeft (apply c.args.schema.now store.seen.tables c.args.statement.now) (rows_changed store.seen.tables c.args.statement.now) store c.apply_in_scope.result c.apply_in_scope.new.store) c.index_for.ensures c.apply_in_scope.ensures
