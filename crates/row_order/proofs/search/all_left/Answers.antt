use Rattle.std.proofs.Common.{◌≡◌, true, [], ◌∷◌, ◌++◌, ap, ◌∙◌, arith}
use Rattle.std.proofs.Math.ListN.{replicate}
use Rattle.std.proofs.lemmas.List.{replicate_more}
use Rattle.row_order.proofs.search.all_left.Goals as goal

pub loop-row-init : goal.loop-row-init
loop-row-init c = c.new-left.ensures.items

pub loop-row-preserved : goal.loop-row-preserved
loop-row-preserved c = c.in_ok-push.ensures.items ∙ ap (λ left. left ++ true ∷ []) c.loop-row.invariant ∙ replicate_more c.loop-row._row true

pub returns : goal.returns
returns c =
    let all : c.loop-row._row ≡ c.args.size = omega (arith, c.loop-row-test.false, c.loop-row.auto._row-end) in
    c.loop-row.invariant ∙ ap (λ n. replicate n true) all
