-- The keys at the value tell it.
use Rattle.std.proofs.Common.{◌≡◌, Bool, [], IfOk, ap, subst, ◌∙◌}
use Rattle.std.specs.List.{list_any}
use Rattle.schema_core.specs.Tables.{row_under}
use Rattle.table_rows.specs.Rows.{Places, rows_present}
use Rattle.row_judging.specs.Lost.{has_there}
use Rattle.row_judging.proofs.LostSteps.{has_by_keys}
use Rattle.row_judging.proofs.losing.some_has_by.Goals as goal

pub returns-in_default : goal.returns-in_default
returns-in_default c =
    has_by_keys c.args.spec.now c.args.names.now (rows_present c.args.rows.now) c.args.index.now [] c.args.value.now c.rows-present.ensures.sorted c.requires.complete c.requires.columns c.in_default.ensures

pub returns : goal.returns
returns c =
    subst (λ (b : Bool). IfOk c.some_key_has.result (λ yes. yes ≡ b))
    (ap (λ (places : Places). list_any (λ key. has_there c.args.spec.now c.args.names.now c.args.value.now (row_under (rows_present places) key)) c.in-Some.keys.now.keys) c.rows-present.ensures.rows
    ∙ has_by_keys c.args.spec.now c.args.names.now (rows_present c.args.rows.now) c.args.index.now c.in-Some.keys.now.keys c.args.value.now c.rows-present.ensures.sorted c.requires.complete c.requires.columns c.in-Some.ensures)
    c.some_key_has.ensures
