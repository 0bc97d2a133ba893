-- The key stands at the row's value.
use Rattle.std.proofs.Common.{ap, ◌∙◌}
use Rattle.std.specs.List.{list_any}
use Rattle.schema_core.specs.Tables.{same_values}
use Rattle.table_index.specs.Indexed.{cells_at, keys_at}
use Rattle.table_index.proofs.index.ValueIndex.has_row.Goals as goal

pub returns : goal.returns
returns c =
    c.has_key.ensures
    ∙ ap (λ value. list_any (same_values c.args.key.now) (keys_at c.args.self.now.holders value)) (c.in_ok-value.ensures ∙ ap (λ columns. cells_at columns c.args.row.now) c.as_slice.ensures.value)
