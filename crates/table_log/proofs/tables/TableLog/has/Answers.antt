-- A table that is held is created.
use Rattle.std.proofs.Common.{is_some, ap, ◌∙◌}
use Rattle.schema_core.specs.Tables.{is_created}
use Rattle.table_log.specs.Marks.{Marked}
use Rattle.table_log.proofs.tables.TableLog.has.Goals as goal

pub returns-in-Some : goal.returns-in-Some
returns-in-Some c = ap is_some c.in-Some.ensures ∙ ap (λ (marked : Marked). is_created marked.seen.tables c.args.table) c.self.view_is

pub returns-in-None : goal.returns-in-None
returns-in-None c = ap is_some c.in-None.ensures ∙ ap (λ (marked : Marked). is_created marked.seen.tables c.args.table) c.self.view_is
