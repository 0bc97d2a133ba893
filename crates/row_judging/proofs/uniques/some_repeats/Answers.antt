-- Constraint by constraint is entry by entry.
use Rattle.std.proofs.Common.{◌≡◌, Bool, IfOk, ap, subst, sym, ◌∙◌}
use Rattle.schema_core.specs.Judged.{some_repeats}
use Rattle.row_judging.proofs.HolderSteps.{not_there, uniques_first}
use Rattle.table_rows.proofs.Laws.{rows_there}
use Rattle.table_rows.specs.Rows.{rows_present, tables_present}
use Rattle.row_judging.proofs.uniques.some_repeats.Goals as goal

pub returns-in_default : goal.returns-in_default
returns-in_default c = absurd (not_there (tables_present c.args.left.now) c.args.table c.requires c.in_default.ensures)

pub returns : goal.returns
returns c =
    subst (λ (b : Bool). IfOk c.some_unique_held.result (λ yes. yes ≡ b))
    (uniques_first c.args.spec.now (rows_present c.in-Some.rows.now) c.args.entries.now
    ∙ ap (λ rows. some_repeats c.args.spec.now rows c.args.entries.now) (sym (rows_there (tables_present c.args.left.now) c.args.table (rows_present c.in-Some.rows.now) (sym c.in-Some.ensures)))) c.some_unique_held.ensures
