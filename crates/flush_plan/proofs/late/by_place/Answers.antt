use Rattle.std.proofs.Common.{◌≡◌, map, ap, ◌∙◌, subst}
use Rattle.std.specs.Prelude.{slice_index_or, IfOk}
use Rattle.flush_plan.specs.Planning.{no_writing}
use Rattle.flush_order.specs.Sorted.{sorted_numbers}
use Rattle.flush_plan.proofs.late.by_place.Goals as goal

pub returns : goal.returns
returns c =
    subst (λ numbers. IfOk c.in_order.result (λ sorted. sorted.items ≡ map (λ number. slice_index_or c.args.writings.now number no_writing) numbers))
    (c.as_slice-3.ensures.value ∙ c.in_ok-numbers.ensures.numbers ∙ ap sorted_numbers (c.as_slice-2.ensures.value ∙ c.in_ok-places.ensures ∙ ap (map (λ row. row.0)) c.as_slice.ensures))
    c.in_order.ensures
