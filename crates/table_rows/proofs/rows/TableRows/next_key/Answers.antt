-- The last row's key is the greatest.
use Rattle.std.proofs.Common.{ap, ◌∙◌}
use Rattle.schema_core.specs.Apply.{key_after, next_key}
use Rattle.table_rows.specs.Rows.{Places, rows_present}
use Rattle.table_rows.proofs.Bounds.{next_above, next_first}
use Rattle.table_rows.proofs.rows.TableRows.next_key.Goals as goal

pub returns-in-Some : goal.returns-in-Some
returns-in-Some c = c.key_after.ensures ∙ ap key_after c.as_slice.ensures ∙ next_above (rows_present c.self.inside.rows.entries) c.in-Some.key.now c.in-Some.ensures
    ∙ ap (λ (places : Places). next_key (rows_present places)) c.self.view_is

pub returns-in-None : goal.returns-in-None
returns-in-None c = next_first (rows_present c.self.inside.rows.entries) c.in-None.ensures ∙ ap (λ (places : Places). next_key (rows_present places)) c.self.view_is
