-- The tables are those from before the indexes were made.
use Rattle.std.proofs.Common.{subst}
use Rattle.sql_semantics.specs.Applied as spec
use Rattle.table_log.specs.Marks.{Marked}
use Rattle.table_store.specs.Written.{Leaves}
use Rattle.table_store.proofs.bulk.applied.Goals as goal

pub returns : goal.returns
returns c =
    subst (λ (store : Marked). Leaves (spec.table_of c.args.statement.now) (spec.bulk_outcome c.args.schema.now store.seen.tables c.args.statement.now) store c.apply_in_scope.result c.apply_in_scope.new.store) c.index_for.ensures c.apply_in_scope.ensures
