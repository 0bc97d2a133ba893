-- A row in its place is the row put in, and no place is given up.
use Rattle.std.proofs.Common.{◌≡◌, true, Some, ap, sym, subst, ◌∙◌}
use Rattle.schema_core.specs.Tables.{with_row}
use Rattle.table_rows.specs.Rows.{Places, is_bound, is_placed, rows_present}
use Rattle.table_rows.proofs.Bounds.{put_bound}
use Rattle.table_rows.proofs.Standing.{kept_put, row_put}
use Rattle.table_rows.proofs.rows.TableRows.put.Goals as goal

pub returns-clause-ok : goal.returns-clause-ok
returns-clause-ok c =
    ap rows_present c.in_ok-insert.ensures.entries ∙ row_put c.self.inside.rows.entries c.args.key c.args.row c.self.invariant.0
    ∙ ap (λ (places : Places). with_row (rows_present places) c.args.key c.args.row) c.self.view_is

pub returns-clause-places : goal.returns-clause-places
returns-clause-places c key there =
    subst (λ (places : Places). is_placed places key ≡ true) (sym c.in_ok-insert.ensures.entries)
    (kept_put c.self.inside.rows.entries c.args.key (Some c.args.row) key (subst (λ (places : Places). is_placed places key ≡ true) (sym c.self.view_is) there))

pub invariant_of-self : goal.invariant_of-self
invariant_of-self c = (
  c.insert.ensures.ordered,
  ap (λ (places : Places). is_bound c.raise.new.bound (rows_present places)) c.in_err-insert.ensures.err ∙ c.raise.ensures.rows (rows_present c.self.inside.rows.entries) c.self.invariant.1,
)

pub invariant_of-self-2 : goal.invariant_of-self-2
invariant_of-self-2 c = (
  c.insert.ensures.ordered,
  put_bound c.self.inside.rows.entries c.insert.new.self.entries c.raise.new.bound c.args.key c.args.row c.self.invariant.0 c.in_ok-insert.ensures.entries c.raise.ensures.key
      (c.raise.ensures.rows (rows_present c.self.inside.rows.entries) c.self.invariant.1),
)
