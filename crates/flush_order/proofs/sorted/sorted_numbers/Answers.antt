use Rattle.std.proofs.Common.{◌≡◌, ◌+◌, drop, IfOk, sym, ap, ◌∙◌, subst}
use Rattle.std.specs.Map.{values_of}
use Rattle.std.specs.BTreeMap.{insert_entry}
use Rattle.flush_order.specs.Sorted.{Place, entries_with_places, place_cmp, sorted_numbers}
use Rattle.flush_order.proofs.Sorting.{entered_end, entered_more}
use Rattle.flush_order.proofs.sorted.sorted_numbers.Goals as goal

pub loop-number-init : goal.loop-number-init
loop-number-init c = ap (λ entries. entries_with_places entries 0 c.args.places.now) c.new-entries.ensures.empty

pub loop-number-preserved : goal.loop-number-preserved
loop-number-preserved c =
    let places = c.args.places.now in
    let number = c.loop-number.number in
    let entries = c.loop-number.entries.entries in
    ap (λ more. entries_with_places more (number + 1) (drop (number + 1) places)) c.in_ok-enter.ensures
    ∙ ap (λ (place : Place). entries_with_places (insert_entry place_cmp entries place number) (number + 1) (drop (number + 1) places)) c.index-places-number.is
    ∙ entered_more entries places number c.index-places-number.result c.loop-number-test.true
    ∙ c.loop-number.invariant

pub returns-clause-numbers : goal.returns-clause-numbers
unfolding sorted_numbers
returns-clause-numbers c =
    subst (λ entries. IfOk c.numbers_of.result (λ numbers. numbers.items ≡ values_of entries))
    (sym (entered_end c.loop-number.entries.entries c.args.places.now c.loop-number.number c.loop-number-test.false) ∙ c.loop-number.invariant) c.numbers_of.ensures
