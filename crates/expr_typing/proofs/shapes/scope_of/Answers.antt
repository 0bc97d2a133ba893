use Rattle.std.proofs.Common.{◌∷◌, length, ap, ◌∙◌, arith}
use Rattle.expr_typing.proofs.Items.{scope_end}
use Rattle.expr_typing.proofs.shapes.scope_of.Goals as goal

pub returns : goal.returns
returns c =
    c.loop-join.invariant
    ∙ ap (λ ts. c.args.select.now.first.table ∷ ts) (scope_end c.args.select.now.joins c.loop-join.join-index (omega (arith, c.loop-join-test.false, ap length c.as_slice-join-items.ensures)))
