use Rattle.std.proofs.Common.{◌+◌, ◌-◌, ◌<◌, ◌&&◌, ◌||◌, get_or, length, take, refl, sym, ap, ◌∙◌, arith}
use Rattle.std.proofs.lemmas.List.{length-set, take_all}
use Rattle.std.specs.Prelude.{nat_eq, nat_lt}
use Rattle.std.specs.BTreeSet.{contains}
use Rattle.std.specs.Ordering.{nat_cmp}
use Rattle.base_core.proofs.Tests.{or_false}
use Rattle.row_order.specs.Lists.{times}
use Rattle.row_order.proofs.SearchSteps.{counts_more, ready_more, times_room}
use Rattle.row_order.proofs.search.release_all.Goals as goal

pub release-requires-clause-some : goal.release-requires-clause-some
release-requires-clause-some c =
    let d = get_or c.args.rows.now c.loop-row.row-index 0 in
    times_room c.loop-row.counts.items c.args.counts.now.items c.args.rows.now c.loop-row.row-index d c.loop-row-test.true refl (c.requires.enough d) (c.loop-row.invariant.counts d)

pub loop-row-preserved : goal.loop-row-preserved
loop-row-preserved c =
    let rows = c.args.rows.now in
    let i = c.loop-row.row-index in
    let d = get_or rows i 0 in
    let some : 0 < get_or c.loop-row.counts.items d 0 = times_room c.loop-row.counts.items c.args.counts.now.items rows i d c.loop-row-test.true refl (c.requires.enough d) (c.loop-row.invariant.counts d) in
    let less : d < length c.loop-row.counts.items = omega (arith, c.requires.within i 0 c.loop-row-test.true, c.loop-row.invariant.size) in
    record {
      size = ap length c.in_ok-release.ensures.counts ∙ length-set c.loop-row.counts.items d (get_or c.loop-row.counts.items d 0 - 1) ∙ c.loop-row.invariant.size;
      counts = λ q.
          ap (λ cs. get_or cs q 0 + times q (take (i + 1) rows)) c.in_ok-release.ensures.counts
          ∙ counts_more c.loop-row.counts.items c.args.counts.now.items rows i d q c.loop-row-test.true refl less some (c.loop-row.invariant.counts q);
      ready = λ q.
          ready_more c.loop-row.counts.items rows i d q c.args.ready.now c.loop-row.ready c.release.new.ready c.loop-row-test.true refl less some (c.in_ok-release.ensures.ready q) (c.loop-row.invariant.ready q)
          ∙ ap (λ cs. contains nat_cmp c.args.ready.now q || (nat_lt 0 (times q (take (i + 1) rows)) && nat_eq (get_or cs q 0) 0)) (sym c.in_ok-release.ensures.counts);
    }

pub loop-row-init : goal.loop-row-init
loop-row-init c = record { size = refl; counts = λ q. omega arith; ready = λ q. sym (or_false (contains nat_cmp c.args.ready.now q)) }

pub returns-clause-size : goal.returns-clause-size
returns-clause-size c = c.loop-row.invariant.size

pub returns-clause-counts : goal.returns-clause-counts
returns-clause-counts c = λ q.
    ap (λ rows. get_or c.loop-row.counts.items q 0 + times q rows) (sym (take_all c.loop-row.row-index c.args.rows.now c.loop-row-test.false)) ∙ c.loop-row.invariant.counts q

pub returns-clause-ready : goal.returns-clause-ready
returns-clause-ready c = λ q.
    c.loop-row.invariant.ready q
    ∙ ap (λ rows. contains nat_cmp c.args.ready.now q || (nat_lt 0 (times q rows) && nat_eq (get_or c.loop-row.counts.items q 0) 0)) (take_all c.loop-row.row-index c.args.rows.now c.loop-row-test.false)
