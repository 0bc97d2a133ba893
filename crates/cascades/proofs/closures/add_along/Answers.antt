use Rattle.std.proofs.Common.{◌≤◌, ◌++◌, length, min, arith}
use Rattle.cascades.specs.Closures.{ends_along}
use Rattle.cascades.proofs.EndLemmas.{ends_all, one_ended}
use Rattle.cascades.proofs.closures.add_along.Goals as goal

pub returns : goal.returns
returns c =
    let ended : min (length c.args.relations.now) (length c.args.links.now) ≤ c.loop-place.place = omega (arith, c.min-place-end.ensures, c.loop-place-test.false) in
    ends_all c.args.flag c.args.relations.now c.args.links.now c.loop-place.place c.loop-place.ends (c.args.ends.now ++ ends_along c.args.flag c.args.relations.now c.args.links.now)
    (one_ended (length c.args.relations.now) (length c.args.links.now) c.loop-place.place ended) c.loop-place.invariant
