use Rattle.std.proofs.Common.{◌+◌, [], ◌∷◌, ◌++◌, length, ap, ◌∙◌, arith}
use Rattle.std.proofs.lemmas.List.{length_push}
use Rattle.row_order.specs.Lists.{list_at}
use Rattle.row_order.proofs.WaitingSteps.{one_more_empty}
use Rattle.row_order.proofs.waiting.empty_lists.Goals as goal

pub loop-place-init : goal.loop-place-init
loop-place-init c = record { size = ap length c.new-lists.ensures.items; empty = λ place. ap (λ ls. list_at ls place) c.new-lists.ensures.items }

pub loop-place-preserved : goal.loop-place-preserved
loop-place-preserved c =
    let lists = c.loop-place.lists.items in
    record {
      size = ap length c.in_ok-push.ensures.items ∙ length_push lists c.new.result ∙ ap (λ n. n + 1) c.loop-place.invariant.size;
      empty = λ place.
          ap (λ ls. list_at ls place) c.in_ok-push.ensures.items
          ∙ ap (λ list. list_at (lists ++ list ∷ []) place) c.new.ensures
          ∙ one_more_empty lists c.loop-place.invariant.empty place;
    }

pub returns-clause-size : goal.returns-clause-size
returns-clause-size c = omega (arith, c.loop-place.invariant.size, c.loop-place-test.false, c.loop-place.auto._place-end)

pub returns-clause-empty : goal.returns-clause-empty
returns-clause-empty c = c.loop-place.invariant.empty
