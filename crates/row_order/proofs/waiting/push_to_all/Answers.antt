use Rattle.std.proofs.Common.{◌<◌, ◌+◌, ◌++◌, [], ◌∷◌, cond, get_or, length, refl, sym, ap, ◌∙◌, subst, arith}
use Rattle.std.proofs.lemmas.List.{length-set, take_all}
use Rattle.std.specs.Prelude.{nat_eq}
use Rattle.row_order.specs.Lists.{AreBelow, list_at, times}
use Rattle.row_order.proofs.WaitingSteps.{no_times, pushed_below, pushed_times}
use Rattle.row_order.proofs.waiting.push_to_all.Goals as goal

pub loop-place-preserved : goal.loop-place-preserved
loop-place-preserved c =
    let lists = c.loop-place.lists.items in
    let places = c.args.places.now in
    let i = c.loop-place.place-index in
    let o = get_or places i 0 in
    let less : o < length lists = omega (arith, c.requires i 0 c.loop-place-test.true, c.loop-place.invariant.size) in
    record {
      size = ap length c.in_ok-push_at.ensures ∙ length-set lists o (list_at lists o ++ c.args.row ∷ []) ∙ c.loop-place.invariant.size;
      times = λ q place h.
          ap (λ ls. times q (list_at ls place)) c.in_ok-push_at.ensures
          ∙ pushed_times c.args.lists.now.items lists places i o c.args.row q place c.loop-place-test.true refl less (c.loop-place.invariant.times q place h);
      below = λ bound h all. subst (AreBelow bound) (sym c.in_ok-push_at.ensures) (pushed_below lists o c.args.row bound less h (c.loop-place.invariant.below bound h all));
    }

pub loop-place-init : goal.loop-place-init
loop-place-init c = record {
  size = refl;
  times = λ q place h. sym (no_times (nat_eq q c.args.row) (times q (list_at c.args.lists.now.items place)));
  below = λ bound h all. all;
}

pub returns-clause-size : goal.returns-clause-size
returns-clause-size c = c.loop-place.invariant.size

pub returns-clause-times : goal.returns-clause-times
returns-clause-times c = λ q place h.
    c.loop-place.invariant.times q place h
    ∙ ap (λ places. times q (list_at c.args.lists.now.items place) + cond (nat_eq q c.args.row) (times place places) 0) (take_all c.loop-place.place-index c.args.places.now c.loop-place-test.false)

pub returns-clause-below : goal.returns-clause-below
returns-clause-below c = c.loop-place.invariant.below
