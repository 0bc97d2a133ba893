-- The rows of a table that is held are those that are seen.
use Rattle.std.proofs.Common.{ap, ◌∙◌}
use Rattle.schema_core.specs.Tables.{rows_in}
use Rattle.table_log.specs.Marks.{Marked}
use Rattle.table_log.proofs.tables.TableLog.get.Goals as goal

pub returns : goal.returns
returns c = c.get.ensures ∙ ap (λ (marked : Marked). rows_in marked.seen.tables c.args.table) c.self.view_is
