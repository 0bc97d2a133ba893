use Rattle.object_parts.proofs.FirstSteps.{new_first, seen_first, seen_more}
use Rattle.object_parts.proofs.lists.keep_first.Goals as goal

pub returns-then-contains-clause-kept : goal.returns-then-contains-clause-kept
returns-then-contains-clause-kept c = seen_first c.args.seen.now c.args.kept.now c.args.object c.contains.result c.requires c.contains.ensures c.if-contains.true

pub returns-clause-kept : goal.returns-clause-kept
returns-clause-kept c =
    new_first c.args.seen.now c.args.kept.now c.push.new.self c.args.object c.contains.result c.push.result c.requires c.contains.ensures c.if-contains.false c.push.ensures.ok

pub returns-clause-seen : goal.returns-clause-seen
returns-clause-seen c = seen_more c.args.seen.now c.enter.new.seen c.args.kept.now c.push.new.self c.args.object c.push.result c.requires c.in_ok-enter.ensures c.push.ensures.ok
