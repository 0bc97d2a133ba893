-- The keys at the row's value tell it.
use Rattle.std.proofs.Common.{◌≡◌, Bool, [], map, IfOk, ap, sym, subst, ◌∙◌}
use Rattle.schema_core.specs.Tables.{cell_of, has_null}
use Rattle.table_index.specs.Indexed.{keys_at}
use Rattle.row_judging.specs.Holders.{some_key_collides}
use Rattle.table_rows.specs.Rows.{Places, rows_present}
use Rattle.row_judging.proofs.HolderSteps.{held_by_keys, held_never}
use Rattle.row_judging.proofs.uniques.is_held_by.Goals as goal

pub returns-then-has_null : goal.returns-then-has_null
returns-then-has_null c =
    held_never c.args.spec.now c.args.unique.now (rows_present c.args.rows.now) c.args.key.now c.args.row.now c.in_ok-value.value
    (c.in_ok-value.ensures ∙ ap (λ columns. map (cell_of columns c.args.row.now) c.args.unique.now) c.as_slice.ensures) (ap has_null (sym c.as_slice-2.ensures) ∙ sym c.has_null.ensures ∙ c.if-has_null.true)

pub returns-in_default : goal.returns-in_default
returns-in_default c =
    held_by_keys c.args.spec.now c.args.unique.now (rows_present c.args.rows.now) c.args.index.now [] c.args.key.now c.args.row.now c.rows-present.ensures.sorted c.requires.complete c.requires.columns
    (c.in_default.ensures ∙ ap (keys_at c.args.index.now.holders) (c.in_ok-value.ensures ∙ ap (λ columns. map (cell_of columns c.args.row.now) c.args.unique.now) c.as_slice.ensures))

pub returns : goal.returns
returns c =
    subst (λ (b : Bool). IfOk c.some_key_collides.result (λ yes. yes ≡ b))
    (ap (λ (places : Places). some_key_collides c.args.spec.now c.args.unique.now (rows_present places) c.in-Some.keys.now.keys c.args.key.now c.args.row.now) c.rows-present.ensures.rows
    ∙ held_by_keys c.args.spec.now c.args.unique.now (rows_present c.args.rows.now) c.args.index.now c.in-Some.keys.now.keys c.args.key.now c.args.row.now c.rows-present.ensures.sorted c.requires.complete c.requires.columns
    (c.in-Some.ensures ∙ ap (keys_at c.args.index.now.holders) (c.in_ok-value.ensures ∙ ap (λ columns. map (cell_of columns c.args.row.now) c.args.unique.now) c.as_slice.ensures)))
    c.some_key_collides.ensures
