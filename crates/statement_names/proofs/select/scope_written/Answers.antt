use Rattle.std.proofs.Common.{◌∷◌, [], ◌++◌, length, ap, ◌∙◌}
use Rattle.statement_names.proofs.Joins.{written_more}
use Rattle.statement_names.proofs.select.scope_written.Goals as goal

pub loop-join-init : goal.loop-join-init
loop-join-init c = c.in_ok-enter.ensures ∙ ap (λ s. s ++ (length s, c.args.s.now.first) ∷ []) c.new-scope.ensures.items

pub loop-join-preserved : goal.loop-join-preserved
loop-join-preserved c =
    written_more c.args.s.now.first c.as_slice-join-items.result.now c.loop-join.join-index c.join-item.result c.loop-join.scope.items c.enter-in-loop-join.new.scope.items
    c.loop-join-test.true c.join-item.is c.loop-join.invariant c.in_ok-enter-2.ensures
