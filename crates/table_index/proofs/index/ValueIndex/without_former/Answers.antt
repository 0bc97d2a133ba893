-- The rows that stand have other keys, or other values.
use Rattle.std.proofs.Common.{ap, sym, ◌∙◌}
use Rattle.table_index.specs.Indexed.{cells_at}
use Rattle.table_index.proofs.Entered.{former_gone}
use Rattle.table_index.proofs.index.ValueIndex.without_former.Goals as goal

pub returns : goal.returns
returns c = λ rows complete stood.
    former_gone c.args.self c.in_ok-without_key.field-0 rows c.args.key.now c.args.former.now c.in_ok-value.value _ c.in_ok-without_key.ensures.columns
    (c.in_ok-value.ensures ∙ ap (λ columns. cells_at columns c.args.former.now) c.as_slice.ensures.value) (sym c.in_ok-has_cells_of.ensures ∙ c.if-branch.false) c.in_ok-without_key.ensures.others complete stood
