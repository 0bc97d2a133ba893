use Rattle.std.proofs.Common.{◌<◌, List, length, arith, subst}
use Rattle.expr_types.specs.declared.expr.Origin.{Origin}
use Rattle.sql_text.specs.Pages.{WroteOn}
use Rattle.sql_text.proofs.Pages.{dropped}
use Rattle.sql_statements.specs.Selects.{join_pieces}
use Rattle.sql_statements.proofs.Lists.{joins_next}
use Rattle.sql_statements.proofs.selects.joins.Goals as goal

pub loop-next-preserved : goal.loop-next-preserved
loop-next-preserved c =
    let less : c.loop-next.next-index < length c.args.joins.now = omega arith in
    let told = subst (λ (scope : List Origin). WroteOn (join_pieces c.loop-next.page.written.dialect c.args.schema.now scope c.next-item.result) c.loop-next.page c.join.new.page) c.as_slice.ensures.value c.join.ensures in
    joins_next c.args.schema.now c.args.page.now c.loop-next.page c.join.new.page _ c.loop-next.scope.items c.extend.new.scope.items c.next-item.result _ _ (dropped c.args.joins.now c.loop-next.next-index c.next-item.result less c.next-item.is) c.in-Ok-extend.ensures c.loop-next.invariant told
