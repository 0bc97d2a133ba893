-- The key stands at the row's value, or it is put there.
use Rattle.std.proofs.Common.{ap, sym, ◌∙◌}
use Rattle.std.specs.List.{list_any}
use Rattle.schema_core.specs.Tables.{same_values}
use Rattle.table_index.specs.Indexed.{cells_at, keys_at}
use Rattle.table_index.proofs.Entered.{row_entered, rows_kept}
use Rattle.table_index.proofs.index.ValueIndex.with_row.Goals as goal

pub returns-then-has_key-clause-entered : goal.returns-then-has_key-clause-entered
returns-then-has_key-clause-entered c =
    ap (λ value. list_any (same_values c.args.key.now) (keys_at c.args.self.holders value)) (sym (c.in_ok-value.ensures ∙ ap (λ columns. cells_at columns c.args.row.now) c.as_slice.ensures.value))
    ∙ sym c.has_key.ensures ∙ c.if-has_key.true

pub returns-clause-entered : goal.returns-clause-entered
returns-clause-entered c =
    row_entered c.args.self c.in_ok-with_key.field-0 c.in_ok-value.value c.args.key.now c.args.row.now c.in_ok-with_key.ensures.columns
    (c.in_ok-value.ensures ∙ ap (λ columns. cells_at columns c.args.row.now) c.as_slice.ensures.value) c.in_ok-with_key.ensures.entered

pub returns-clause-others : goal.returns-clause-others
returns-clause-others c = rows_kept c.args.self c.in_ok-with_key.field-0 c.in_ok-with_key.ensures.columns c.in_ok-with_key.ensures.others
