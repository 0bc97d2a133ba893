use Rattle.std.proofs.Common.{◌≡◌, ◌<◌, [], cond, length, sym, ap, ◌∙◌, subst, arith}
use Rattle.std.proofs.lemmas.Bool.{lt-ltb}
use Rattle.std.proofs.lemmas.List.{get_or_read}
use Rattle.std.specs.List.{All}
use Rattle.row_order.specs.Lists.{AreBelow, list_at, times}
use Rattle.row_order.proofs.WaitingSteps.{gathered}
use Rattle.row_order.proofs.waiting.waiting_of.Goals as goal

pub push_to_all-requires : goal.push_to_all-requires
push_to_all-requires c =
    let lists = c.args.lists.now in
    let row = c.loop-row.row in
    let is : c.as_slice.result.now ≡ list_at lists row = c.as_slice.ensures ∙ get_or_read lists row _ c.loop-row-test.true c.index-lists-row.is [] in
    subst (λ n. All (λ place. place < n) c.as_slice.result.now) (sym c.loop-row.invariant.size)
    (subst (All (λ place. place < length lists)) (sym is) (c.requires.rows row))

pub loop-row-preserved : goal.loop-row-preserved
loop-row-preserved c =
    let lists = c.args.lists.now in
    let row = c.loop-row.row in
    let is : c.as_slice.result.now ≡ list_at lists row = c.as_slice.ensures ∙ get_or_read lists row _ c.loop-row-test.true c.index-lists-row.is [] in
    record {
      size = c.in_ok-push_to_all.ensures.size ∙ c.loop-row.invariant.size;
      below = c.in_ok-push_to_all.ensures.below (length lists) c.loop-row-test.true c.loop-row.invariant.below;
      times = λ q place h.
          let l : place < length c.loop-row.waiting.items = omega (arith, h, c.loop-row.invariant.size) in
          gathered lists c.loop-row.waiting.items c.push_to_all.new.lists.items c.as_slice.result.now row q place is (c.loop-row.invariant.times q place h) (c.in_ok-push_to_all.ensures.times q place l);
    }

pub returns : goal.returns
returns c = record {
  size = c.loop-row.invariant.size;
  rows = subst (λ n. AreBelow n c.loop-row.waiting.items) (sym c.loop-row.invariant.size) c.loop-row.invariant.below;
  each = λ row other h l.
      c.loop-row.invariant.times row other l
      ∙ ap (λ b. cond b (times other (list_at c.args.lists.now row)) 0) (lt-ltb row c.loop-row.row (omega (arith, h, c.loop-row-test.false)));
}
