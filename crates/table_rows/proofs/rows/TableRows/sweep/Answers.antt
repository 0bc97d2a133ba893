-- An empty place holds no row.
use Rattle.std.proofs.Common.{Some, ap, sym, ◌∙◌}
use Rattle.table_rows.specs.Rows.{is_bound, rows_present}
use Rattle.table_rows.proofs.Standing.{row_swept}
use Rattle.table_rows.proofs.rows.TableRows.sweep.Goals as goal

pub returns-in-Some-None : goal.returns-in-Some-None
returns-in-Some-None c =
    ap rows_present c.remove.ensures.entries ∙ row_swept c.self.inside.rows.entries c.args.key.now (sym c.in-Some-None.ensures.value ∙ ap Some c.in-Some-None.field-0-is)
    ∙ ap rows_present c.self.view_is

pub invariant_of-self : goal.invariant_of-self
invariant_of-self c = (
  c.remove.ensures.ordered,
  ap (is_bound c.self.inside.bound) (ap rows_present c.remove.ensures.entries ∙ row_swept c.self.inside.rows.entries c.args.key.now (sym c.in-Some-None.ensures.value ∙ ap Some c.in-Some-None.field-0-is))
      ∙ c.self.invariant.1,
)
