use Rattle.std.proofs.Common.{[], ◌∷◌, ◌++◌, length, map, take, sym, ap, ◌∙◌}
use Rattle.std.proofs.lemmas.List.{map_more, take_all}
use Rattle.row_order.proofs.search.lengths.Goals as goal

pub loop-list-init : goal.loop-list-init
loop-list-init c = c.new-counts.ensures.items

pub loop-list-preserved : goal.loop-list-preserved
loop-list-preserved c =
    let lists = c.args.lists.now in
    let place = c.loop-list.list-index in
    c.in_ok-push.ensures.items
    ∙ ap (λ counts. counts ++ c.len.result ∷ []) c.loop-list.invariant
    ∙ ap (λ count. map length (take place lists) ++ count ∷ []) (c.len.ensures ∙ ap length c.list-item.is)
    ∙ sym (map_more length lists place c.list-item.result c.loop-list-test.true)

pub returns : goal.returns
returns c = c.loop-list.invariant ∙ ap (map length) (take_all c.loop-list.list-index c.args.lists.now c.loop-list-test.false)
