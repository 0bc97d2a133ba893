use Rattle.pair_rows.proofs.FirstLemmas.{new_first, seen_first, seen_more}
use Rattle.pair_rows.proofs.rows.keep_first.Goals as goal

pub returns-then-contains-clause-rows : goal.returns-then-contains-clause-rows
returns-then-contains-clause-rows c =
    seen_first c.args.mapping.now.schema c.args.places.now c.args.rows.now c.args.row c.in_ok-place.place c.contains.result c.requires c.in_ok-place.ensures c.contains.ensures c.if-contains.true

pub returns-clause-rows : goal.returns-clause-rows
returns-clause-rows c =
    new_first c.args.mapping.now.schema c.args.places.now c.args.rows.now c.push.new.self c.args.row c.in_ok-place.place c.contains.result c.push.result c.requires c.in_ok-place.ensures c.contains.ensures c.if-contains.false
    c.push.ensures.ok

pub returns-clause-places : goal.returns-clause-places
returns-clause-places c =
    seen_more c.args.mapping.now.schema c.args.places.now c.enter.new.places c.args.rows.now c.push.new.self c.args.row c.in_ok-place.place c.push.result c.requires c.in_ok-place.ensures c.in_ok-enter.ensures c.push.ensures.ok
